-- P4: a conjunct on left columns goes through an outer join into its left arm, which is a plain select.
use Rattle.std.specs.Prelude.{ℕ, ◌≡◌, ◌==◌, ◌&&◌, ◌++◌, Bool, true, false, List, ◌∷◌, length, []}
use Rattle.qgm_core.specs.Boxes.{QueryGraph}
use Rattle.qgm_core.specs.Edits.{compact}
use Rattle.qgm_core.specs.declared.kinds.BoxKind.{BoxKind}
use Rattle.qgm_core.specs.declared.kinds.BoxKind.TheVariants.{Base, Select, Group, SetOp, OuterJoin}
use Rattle.qgm_core.specs.declared.node.Node.{Node}
use Rattle.qgm_core.specs.declared.owned.OwnedQuant.{OwnedQuant}
use Rattle.qgm_edit_laws.specs.ConjunctEdits.{put_conjunct, with_conjuncts}
use Rattle.qgm_terms.specs.Substitution.{cell_at, substituted_cond}
use Rattle.qgm_terms.specs.Terms.{Cond, Term, int, text, null_int, null_text, col, scalar, both, minus_of, choose, count_all, fold}
use Rattle.qgm_terms.specs.Wanted.{reads_at_cond}
use Rattle.rule_api.specs.Rules.{Pair}
use Rattle.rule_api.specs.declared.place.Place.{Place}
use Rattle.rule_push.specs.Moves.{push_plan}
use Rattle.rule_push.specs.PushPlaces.{MayPush, is_input, push_pairs, reads_only}
use Rattle.rule_push.specs.Pushable.{Input}
use Rattle.rule_push.specs.Small.{is_small_below, is_small_through}
use Rattle.rule_push.specs.declared.moves.PushPlan.{PushPlan}

-- c, the box under r, is an outer join of s and t; s's box n is a plain select of 1 use; each column of r that p reads is a column of s; p grows little by the cells
pub record IsOuterJoinUnder (g : QueryGraph) (p : Cond) (r : OwnedQuant) (c : Node) : Type 0 where
  pub s : OwnedQuant
  pub t : OwnedQuant
  pub n : Node
  pub kind : c.parts.kind ≡ OuterJoin
  pub two : c.quants ≡ s ∷ (t ∷ [])
  pub input : Input g s n
  pub small : is_small_through r.id c.parts.head s.id n.parts.head p ≡ true
  pub lefts : (j : ℕ) → reads_at_cond r.id j p ≡ true → (i : ℕ) × (cell_at j c.parts.head ≡ col s.id i)

-- ---- the test

abbrev pub is_outer_join : BoxKind → Bool
is_outer_join (Base table) = false
is_outer_join Select = false
is_outer_join (Group keys) = false
is_outer_join (SetOp operator types) = false
is_outer_join OuterJoin = true

-- a column of q
abbrev pub is_column_of : ℕ → Term → Bool
is_column_of q (int n) = false
is_column_of q (text s) = false
is_column_of q null_int = false
is_column_of q null_text = false
is_column_of q (col r k) = r == q
is_column_of q (scalar r) = false
is_column_of q (both o x y) = false
is_column_of q (minus_of x) = false
is_column_of q (choose s x) = false
is_column_of q count_all = false
is_column_of q (fold f d x) = false

-- of two arms the first is a plain select of 1 use, each column of r that p reads is one of it in this head, and p grows little
abbrev pub left_arm : QueryGraph → Cond → OwnedQuant → List Term → List OwnedQuant → Bool
left_arm g p r head [] = false
left_arm g p r head (s ∷ []) = false
left_arm g p r head (s ∷ (t ∷ [])) = is_input g s && (reads_only (λ k. is_column_of s.id (cell_at k head)) r.id p && is_small_below g p r.id head s)
left_arm g p r head (s ∷ (t ∷ (v ∷ vs))) = false

abbrev pub left_passes : QueryGraph → Cond → OwnedQuant → Node → Bool
left_passes g p r c = is_outer_join c.parts.kind && left_arm g p r c.parts.head c.quants

-- where P4 may fire
unfoldable pub MayPushIntoLeft : Place → QueryGraph → Type 0
MayPushIntoLeft at g = MayPush (IsOuterJoinUnder g) at g

-- the places of P4 at b
unfoldable pub push_into_left_pairs : QueryGraph → ℕ → List Pair
push_into_left_pairs g b = push_pairs (left_passes g) g b

-- the conjunct goes to the end of the conjuncts of the left arm, with the outer join's cells for its columns and the arm's cells for theirs, and boxes that the root doesn't reach are gone; all else is as in g
pub record PushesIntoLeft (at : Place) (g h : QueryGraph) : Type 0 where
  pub may : MayPush (IsOuterJoinUnder g) at g
  pub after : h ≡ compact (with_conjuncts may.b (may.ps ++ may.qs)
      (put_conjunct may.fits.n (substituted_cond may.fits.s.id may.fits.n.parts.head (substituted_cond may.r.id may.c.parts.head may.p)) g))

unfoldable pub ActsPushIntoLeft : Place → QueryGraph → QueryGraph → Type 0
ActsPushIntoLeft at g h = PushesIntoLeft at g h

-- what is planned is to do so
abbrev pub PlansIntoLeft : Place → QueryGraph → PushPlan → Type 0
PlansIntoLeft at g x =
    (m : MayPush (IsOuterJoinUnder g) at g) → x ≡ push_plan m.b (length m.ps) m.fits.n (substituted_cond m.fits.s.id m.fits.n.parts.head (substituted_cond m.r.id m.c.parts.head m.p))
