-- P2: a conjunct on the keys of a group goes through it into the plain select that it groups.
use Rattle.std.specs.Prelude.{ℕ, suc, ◌≡◌, ◌≤◌, ◌&&◌, nat_le, nat_lt, ◌++◌, Bool, true, false, List, ◌∷◌, length, take, []}
use Rattle.std.specs.List.{list_all}
use Rattle.qgm_core.specs.Boxes.{QueryGraph}
use Rattle.qgm_core.specs.Edits.{compact}
use Rattle.qgm_core.specs.declared.kinds.BoxKind.{BoxKind}
use Rattle.qgm_core.specs.declared.kinds.BoxKind.TheVariants.{Base, Select, Group, SetOp, OuterJoin}
use Rattle.qgm_core.specs.declared.node.Node.{Node}
use Rattle.qgm_core.specs.declared.owned.OwnedQuant.{OwnedQuant}
use Rattle.qgm_edit_laws.specs.ConjunctEdits.{put_conjunct, with_conjuncts}
use Rattle.qgm_props.specs.Inferred.{Facts, Inferred, clean, cond_free, is_free}
use Rattle.qgm_props.specs.Laws.{Tells}
use Rattle.qgm_terms.specs.Substitution.{substituted_cond}
use Rattle.qgm_terms.specs.Terms.{Cond, Term}
use Rattle.qgm_terms.specs.Wanted.{reads_at_cond}
use Rattle.rule_api.specs.Rules.{Pair}
use Rattle.rule_api.specs.declared.place.Place.{Place}
use Rattle.rule_push.specs.Decided.{decided, facts_in}
use Rattle.rule_push.specs.Moves.{push_plan}
use Rattle.rule_push.specs.PushPlaces.{MayPush, is_input, push_pairs, reads_only}
use Rattle.rule_push.specs.Pushable.{Input}
use Rattle.rule_push.specs.Small.{is_small_below, is_small_through}
use Rattle.rule_push.specs.declared.moves.PushPlan.{PushPlan}

-- c, the box under r, is a group of k and one more keys over s, whose box n is a plain select of 1 use, inferred clean; p reads keys alone, and grows little by the cells; p and the keys are inferred error-free
pub record IsGroupUnder (g : QueryGraph) (known : Facts) (p : Cond) (r : OwnedQuant) (c : Node) : Type 0 where
  pub k : ℕ
  pub s : OwnedQuant
  pub n : Node
  pub kind : c.parts.kind ≡ Group (suc k)
  pub alone : c.quants ≡ s ∷ []
  pub input : Input g s n
  pub small : is_small_through r.id c.parts.head s.id n.parts.head p ≡ true
  pub keys : (j : ℕ) → reads_at_cond r.id j p ≡ true → j ≤ suc k
  pub keys_free : list_all (is_free g.boxes known false) (take (suc k) c.parts.head) ≡ true
  pub p_free : cond_free g.boxes known false p ≡ true
  pub clean : Inferred g.boxes (clean n.id)

-- ---- the test

abbrev pub of_group : (ℕ → Bool) → BoxKind → Bool
of_group t (Base table) = false
of_group t Select = false
of_group t (Group keys) = t keys
of_group t (SetOp operator types) = false
of_group t OuterJoin = false

-- there are keys, each column of r that p reads is one, the one quantifier ranges over a plain select of 1 use, and p grows little by the cells of this head and of that select
abbrev pub over_keys : QueryGraph → Cond → OwnedQuant → List Term → List OwnedQuant → ℕ → Bool
over_keys g p r head [] keys = false
over_keys g p r head (s ∷ []) keys = is_input g s && (nat_lt 0 keys && (reads_only (λ j. nat_le j keys) r.id p && is_small_below g p r.id head s))
over_keys g p r head (s ∷ (t ∷ ts)) keys = false

abbrev pub group_passes : QueryGraph → Cond → OwnedQuant → Node → Bool
group_passes g p r c = of_group (over_keys g p r c.parts.head c.quants) c.parts.kind && decided g p c

-- P2 may fire, where known is what is inferred of g
pub record MayThroughGroup (at : Place) (g : QueryGraph) : Type 0 where
  pub known : Facts
  pub tells : Tells known g.boxes
  pub may : MayPush (IsGroupUnder g known) at g

unfoldable pub MayPushThroughGroup : Place → QueryGraph → Type 0
MayPushThroughGroup at g = MayThroughGroup at g

-- the places of P2 at b
unfoldable pub push_through_group_pairs : QueryGraph → ℕ → List Pair
push_through_group_pairs g b = push_pairs (group_passes g) g b

-- the conjunct goes to the end of the conjuncts of the select under the group, with the group's cells for its columns and the select's cells for theirs, and boxes that the root doesn't reach are gone; all else is as in g
pub record PushesThroughGroup (at : Place) (g h : QueryGraph) : Type 0 where
  pub given : MayThroughGroup at g
  pub after : h ≡ compact (with_conjuncts given.may.b (given.may.ps ++ given.may.qs)
      (put_conjunct given.may.fits.n (substituted_cond given.may.fits.s.id given.may.fits.n.parts.head (substituted_cond given.may.r.id given.may.c.parts.head given.may.p)) g))

unfoldable pub ActsPushThroughGroup : Place → QueryGraph → QueryGraph → Type 0
ActsPushThroughGroup at g h = PushesThroughGroup at g h

-- what is planned is to do so
abbrev pub PlansThroughGroup : Place → QueryGraph → PushPlan → Type 0
PlansThroughGroup at g x =
    (m : MayPush (IsGroupUnder g (facts_in g.boxes)) at g) → x ≡ push_plan m.b (length m.ps) m.fits.n (substituted_cond m.fits.s.id m.fits.n.parts.head (substituted_cond m.r.id m.c.parts.head m.p))
