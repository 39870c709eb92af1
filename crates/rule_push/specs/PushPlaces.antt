-- The places of P1 to P4: a test of conjuncts, and what it says.
use Rattle.std.specs.Prelude.{ℕ, suc, ◌≡◌, ◌==◌, ◌&&◌, ◌||◌, if◌then◌else◌, not, Bool, false, List, length, Option, Some, None, ⊤}
use Rattle.std.specs.List.{list_all, list_any}
use Rattle.qgm_core.specs.Boxes.{QueryGraph, box_of, overs_in}
use Rattle.qgm_core.specs.Edits.{conds_in}
use Rattle.qgm_core.specs.Kinds.{is_F, is_plain, is_select}
use Rattle.list_laws.specs.Lists.{first, times}
use Rattle.qgm_core.specs.declared.node.Node.{Node}
use Rattle.qgm_core.specs.declared.owned.OwnedQuant.{OwnedQuant}
use Rattle.qgm_terms.specs.Named.{columns_in_cond, names_in_cond}
use Rattle.qgm_terms.specs.Terms.{Cond}
use Rattle.qgm_terms.specs.Wanted.{any_in_cond, reads_at_cond, reads_cond, wanted}
use Rattle.qgm_terms.specs.declared.sought.Sought.TheVariants as sought
use Rattle.rule_api.specs.Picks.{picks}
use Rattle.rule_api.specs.Rules.{Pair}
use Rattle.rule_api.specs.declared.place.Place.{Place}
use Rattle.rule_facts.specs.Places.{in_box, is_plain_select}
use Rattle.rule_push.specs.Pushable.{Pushable}

-- r is an F quantifier of which p reads a column
abbrev pub is_read : Cond → OwnedQuant → Bool
is_read p r = is_F r.kind && reads_cond r.id p

-- p reads a column of one of these quantifiers that isn't q
abbrev pub reads_other : ℕ → Cond → List ℕ → Bool
reads_other q p names = list_any (λ x. not (x == q) && reads_cond x p) names

-- p is node-free, and reads columns of r alone, over whose box no other quantifier ranges
abbrev pub is_alone : QueryGraph → Cond → OwnedQuant → Bool
is_alone g p r = not (any_in_cond (wanted sought.Node) p) && not (reads_other r.id p (names_in_cond p)) && (times r.over (overs_in g.boxes) == 1)

abbrev pub into_box : (Cond → OwnedQuant → Node → Bool) → Cond → OwnedQuant → Option Node → Bool
into_box passes p r None = false
into_box passes p r (Some c) = passes p r c

-- r, where p is alone in reading it
abbrev pub alone_of : QueryGraph → Cond → Option OwnedQuant → Option OwnedQuant
alone_of g p None = None
alone_of g p (Some r) = if is_alone g p r then Some r else None

-- the quantifier through which p, a conjunct of b, may go down
abbrev pub way_out : QueryGraph → Node → Cond → Option OwnedQuant
way_out g b p = if is_select b.parts.kind && is_plain b.parts.role then alone_of g p (first (is_read p) b.quants) else None

abbrev pub goes : (Cond → OwnedQuant → Node → Bool) → QueryGraph → Cond → Option OwnedQuant → Bool
goes passes g p None = false
goes passes g p (Some r) = into_box passes p r (box_of r.over g)

-- p may leave b for a box that passes
abbrev pub may_leave : (Cond → OwnedQuant → Node → Bool) → QueryGraph → Node → Cond → Bool
may_leave passes g b p = goes passes g p (way_out g b p)

abbrev pub leaves : (Cond → OwnedQuant → Node → Bool) → QueryGraph → Option Node → Cond → Bool
leaves passes g None p = false
leaves passes g (Some b) p = may_leave passes g b p

-- s ranges over a plain select, and no other quantifier does
abbrev pub is_input : QueryGraph → OwnedQuant → Bool
is_input g s = in_box is_plain_select (box_of s.over g) && (times s.over (overs_in g.boxes) == 1)

-- each column of q that p reads has a place that passes
abbrev pub reads_only : (ℕ → Bool) → ℕ → Cond → Bool
reads_only passes q p = list_all (λ x. passes x.place || not (reads_at_cond q x.place p)) (columns_in_cond p)

-- the places of a rule that pushes
abbrev pub push_pairs : (Cond → OwnedQuant → Node → Bool) → QueryGraph → ℕ → List Pair
push_pairs passes g b = picks (leaves passes g (box_of b g)) 1 (conds_in (box_of b g))

-- conjunct i of the box of the place may go down to a box that is so
pub record MayPush (P : Cond → OwnedQuant → Node → Type 0) (at : Place) (g : QueryGraph) : Type 0 where
  pub no_second : at.j ≡ 0
  pub b : Node
  pub c : Node
  pub ps : List Cond
  pub p : Cond
  pub qs : List Cond
  pub us : List OwnedQuant
  pub r : OwnedQuant
  pub vs : List OwnedQuant
  pub found : box_of at.at g ≡ Some b
  pub nth : at.i ≡ suc (length ps)
  pub pushable : Pushable g b c ps p qs us r vs
  pub fits : P p r c

-- it may go down to some box
abbrev pub Anywhere : Cond → OwnedQuant → Node → Type 0
Anywhere p r c = ⊤
