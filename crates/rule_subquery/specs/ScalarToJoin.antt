-- U3, a scalar subquery of exactly one row becomes a join: its condition, its places and its action.
use Rattle.std.specs.Prelude.{ℕ, suc, ◌≡◌, ◌++◌, List, [], ◌∷◌, length, Some, ◌&&◌, Bool, map}
use Rattle.qgm_core.specs.Boxes.{QueryGraph, box_of}
use Rattle.qgm_core.specs.Edits.{compact, on_box}
use Rattle.qgm_core.specs.declared.kinds.BoxKind.TheVariants.{Select}
use Rattle.qgm_core.specs.declared.kinds.QuantKind.TheVariants.{S}
use Rattle.qgm_core.specs.declared.kinds.Role.TheVariants.{Plain}
use Rattle.qgm_core.specs.declared.node.Node.{Node}
use Rattle.qgm_core.specs.declared.owned.OwnedQuant.{OwnedQuant}
use Rattle.qgm_core.specs.Kinds.{is_S}
use Rattle.qgm_meaning.specs.Rules.{as_F}
use Rattle.qgm_meaning.specs.Searches.{as_column, as_column_cond}
use Rattle.qgm_props.specs.Inferred.{Inferred, clean, exactly_one}
use Rattle.rule_api.specs.declared.place.Place.{Place}
use Rattle.rule_api.specs.Rules.{Pair}
use Rattle.rule_facts.specs.Told.{infers}
use Rattle.rule_facts.specs.Places.{quant_pairs, is_plain_select}
use Rattle.rule_subquery.specs.ScalarToGroup.{any_scalar}

-- ---- the condition

-- b, a plain select, has the S quantifier r between us and vs, over a box that is inferred clean and of exactly one row
pub record MayScalarToJoinAt (p : Place) (g : QueryGraph) (b : Node) (us : List OwnedQuant) (r : OwnedQuant) (vs : List OwnedQuant) : Type 0 where
  pub no_second : p.j ≡ 0
  pub at : box_of p.at g ≡ Some b
  pub nth : p.i ≡ suc (length us)
  pub select : b.parts.kind ≡ Select
  pub plain : b.parts.role ≡ Plain
  pub split : b.quants ≡ us ++ r ∷ vs
  pub is_s : r.kind ≡ S
  pub clean : Inferred g.boxes (clean r.over)
  pub one : Inferred g.boxes (exactly_one r.over)

unfoldable pub MayScalarToJoin : Place → QueryGraph → Type 0
MayScalarToJoin p g = (b : Node) × ((us : List OwnedQuant) × ((r : OwnedQuant) × ((vs : List OwnedQuant) × MayScalarToJoinAt p g b us r vs)))

-- ---- the places

abbrev pub may_scalar_to_join : List Node → Node → OwnedQuant → Bool
may_scalar_to_join bs n r = is_plain_select n && (is_S r.kind && (infers bs (clean r.over) && infers bs (exactly_one r.over)))

-- a plain select with an S quantifier
abbrev pub may_have : Node → Bool
may_have n = is_plain_select n && any_scalar n.quants

-- the places of U3 at b
unfoldable pub scalar_to_join_pairs : QueryGraph → ℕ → List Pair
scalar_to_join_pairs g b = quant_pairs (may_scalar_to_join g.boxes) g b

-- ---- the action

-- r is an F behind all others, and its scalars are its first column
abbrev pub column_box : List OwnedQuant → OwnedQuant → List OwnedQuant → Node → Node
column_box us r vs y = record y {
  parts = record y.parts { conds = record y.parts.conds { items = map (as_column_cond r.id) y.parts.conds.items }; head = map (as_column r.id) y.parts.head };
  quants = (us ++ vs) ++ as_F r.id r.over ∷ [];
}

-- so it is in the box of the place; boxes that the root doesn't reach are gone; all else is as in g
abbrev pub scalar_joined : QueryGraph → Node → List OwnedQuant → OwnedQuant → List OwnedQuant → QueryGraph
scalar_joined g b us r vs = compact (on_box b.id (column_box us r vs) g)

unfoldable pub JoinsScalar : Place → QueryGraph → QueryGraph → Type 0
JoinsScalar p g h = (b : Node) × ((us : List OwnedQuant) × ((r : OwnedQuant) × ((vs : List OwnedQuant) × (MayScalarToJoinAt p g b us r vs × (h ≡ scalar_joined g b us r vs)))))
