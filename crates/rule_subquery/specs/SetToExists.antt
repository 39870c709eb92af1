-- U4, INTERSECT becomes EXISTS and EXCEPT becomes NOT EXISTS: its condition, its places and its action.
use Rattle.std.specs.Prelude.{ℕ, suc, ◌≡◌, ◌≤◌, true, false, List, [], ◌∷◌, length, Some, zero, ◌&&◌, Bool}
use Rattle.sql_value.specs.declared.order_key.SqlType.{SqlType}
use Rattle.qgm_terms.specs.Terms.{Cond, some, not}
use Rattle.qgm_core.specs.Boxes.{QueryGraph, box_of}
use Rattle.qgm_core.specs.Edits.{compact, on_box}
use Rattle.qgm_core.specs.declared.kinds.BoxKind.TheVariants.{Select, SetOp}
use Rattle.qgm_core.specs.declared.kinds.SetOperator.{SetOperator}
use Rattle.qgm_core.specs.declared.kinds.Distinct.TheVariants.{Enforce}
use Rattle.qgm_core.specs.declared.kinds.QuantKind.TheVariants.{E}
use Rattle.qgm_core.specs.declared.node.Node.{Node}
use Rattle.qgm_core.specs.declared.owned.OwnedQuant.{OwnedQuant}
use Rattle.qgm_core.specs.declared.kinds.SetOperator.TheVariants.{UnionAll, Union, IntersectAll, Intersect, ExceptAll, Except}
use Rattle.qgm_props.specs.Inferred.{Inferred, clean, error_free}
use Rattle.qgm_edit_laws.specs.Ranges.{columns_from}
use Rattle.qgm_edit_laws.specs.SameColumns.{all_same}
use Rattle.rule_api.specs.declared.place.Place.{Place}
use Rattle.rule_api.specs.Rules.{Pair}
use Rattle.rule_facts.specs.Told.{infers}
use Rattle.rule_facts.specs.Places.{box_pairs, of_set}

-- ---- the condition

-- INTERSECT or EXCEPT, without ALL
abbrev pub is_intersect_or_except : SetOperator → Bool
is_intersect_or_except UnionAll = false
is_intersect_or_except Union = false
is_intersect_or_except IntersectAll = false
is_intersect_or_except Intersect = true
is_intersect_or_except ExceptAll = false
is_intersect_or_except Except = true

-- b is INTERSECT or EXCEPT without ALL, of l and r, whose boxes are inferred clean and all of whose columns error-free
pub record MaySetToExistsAt (p : Place) (g : QueryGraph) (b : Node) (form : SetOperator) (types : List SqlType) (l r : OwnedQuant) : Type 0 where
  pub no_first : p.i ≡ 0
  pub no_second : p.j ≡ 0
  pub at : box_of p.at g ≡ Some b
  pub kind : b.parts.kind ≡ SetOp form types
  pub alone : is_intersect_or_except form ≡ true
  pub split : b.quants ≡ l ∷ (r ∷ [])
  pub clean_l : Inferred g.boxes (clean l.over)
  pub clean_r : Inferred g.boxes (clean r.over)
  pub free : (k : ℕ) → 1 ≤ k → k ≤ length types → Inferred g.boxes (error_free l.over k) × Inferred g.boxes (error_free r.over k)

unfoldable pub MaySetToExists : Place → QueryGraph → Type 0
MaySetToExists p g = (b : Node) × ((form : SetOperator) × ((types : List SqlType) × ((l : OwnedQuant) × ((r : OwnedQuant) × MaySetToExistsAt p g b form types l r))))

-- ---- the places

-- a test of two quantifiers that are all
abbrev pub of_two : (OwnedQuant → OwnedQuant → Bool) → List OwnedQuant → Bool
of_two t [] = false
of_two t (l ∷ []) = false
of_two t (l ∷ (r ∷ [])) = t l r
of_two t (l ∷ (r ∷ (s ∷ rs))) = false

-- columns 1 to this one of both are inferred error-free
abbrev pub all_free : List Node → OwnedQuant → OwnedQuant → ℕ → Bool
all_free bs l r zero = true
all_free bs l r (suc k) = (infers bs (error_free l.over (suc k)) && infers bs (error_free r.over (suc k))) && all_free bs l r k

abbrev pub arms_fit : List Node → ℕ → OwnedQuant → OwnedQuant → Bool
arms_fit bs w l r = (infers bs (clean l.over) && infers bs (clean r.over)) && all_free bs l r w

abbrev pub may_set_to_exists : List Node → Node → Bool
may_set_to_exists bs n = of_set (λ form types. is_intersect_or_except form && of_two (arms_fit bs (length types)) n.quants) n.parts.kind

-- the places of U4 at b
unfoldable pub set_to_exists_pairs : QueryGraph → ℕ → List Pair
set_to_exists_pairs g b = box_pairs (may_set_to_exists g.boxes) g b

-- ---- the action

-- some row of r is the same, and for EXCEPT none is
abbrev pub matches : SetOperator → ℕ → ℕ → ℕ → Cond
matches UnionAll l r w = some r (all_same l r w)
matches Union l r w = some r (all_same l r w)
matches IntersectAll l r w = some r (all_same l r w)
matches Intersect l r w = some r (all_same l r w)
matches ExceptAll l r w = not (some r (all_same l r w))
matches Except l r w = not (some r (all_same l r w))

-- a select of l where r matches
abbrev pub set_box : SetOperator → OwnedQuant → OwnedQuant → ℕ → Node → Node
set_box form l r w y = record y {
  parts = record y.parts { kind = Select; distinct = Enforce; conds = record y.parts.conds { items = matches form l.id r.id w ∷ [] }; head = columns_from l.id 1 w };
  quants = l ∷ (record r { kind = E } ∷ []);
}

-- b is an ENFORCE select, l an F, r an E, its head all columns of l, its conjunct that some row of r is the same, under `not` for EXCEPT; boxes that the root doesn't reach are gone; all else is as in g
abbrev pub set_selected : QueryGraph → Node → SetOperator → List SqlType → OwnedQuant → OwnedQuant → QueryGraph
set_selected g b form types l r = compact (on_box b.id (set_box form l r (length types)) g)

unfoldable pub SelectsSet : Place → QueryGraph → QueryGraph → Type 0
SelectsSet p g h = (b : Node) × ((form : SetOperator) × ((types : List SqlType) × ((l : OwnedQuant) × ((r : OwnedQuant) × (MaySetToExistsAt p g b form types l r × (h ≡ set_selected g b form types l r))))))
