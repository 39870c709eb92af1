-- The steps of U3's action.
use Rattle.std.specs.Prelude.{◌≡◌, ◌∷◌, [], List, length, map}
use Rattle.qgm_core.specs.Boxes.{QueryGraph, quants_of}
use Rattle.qgm_core.specs.Edits.{drop_quant, keep, move_quant, put_quant, put_terms}
use Rattle.qgm_core.specs.Free.{reached}
use Rattle.qgm_core.specs.declared.kinds.QuantKind.TheVariants.{F}
use Rattle.qgm_core.specs.declared.node.Node.{Node}
use Rattle.qgm_core.specs.declared.owned.OwnedQuant.{OwnedQuant}
use Rattle.qgm_meaning.specs.Searches.{as_column, as_column_cond}
use Rattle.rule_api.specs.declared.place.Place.{Place}
use Rattle.rule_subquery.specs.ScalarToJoin.{MayScalarToJoinAt}
use Rattle.rule_subquery.specs.declared.scalar_to_join.action.ScalarPlan.{ScalarPlan}

-- what b gets: r's scalars are its first column
abbrev pub scalar_plan : Node → OwnedQuant → ScalarPlan
scalar_plan b r = record { b = b.id; q = r.id; conds = record b.parts.conds { items = map (as_column_cond r.id) b.parts.conds.items }; head = map (as_column r.id) b.parts.head }

-- q goes behind the others and is an F, b has other terms, and those boxes stay that the root reached before
abbrev pub scalar_steps : ScalarPlan → QueryGraph → QueryGraph
scalar_steps m g = keep (reached (g.root ∷ []) g.boxes) (put_terms m.b m.conds m.head (put_quant m.q F (move_quant m.q m.b (length (quants_of m.b (drop_quant m.q g))) g)))

-- what is planned is to do so
abbrev pub ScalarPlansAt : Place → QueryGraph → ScalarPlan → Type 0
ScalarPlansAt p g m = (b : Node) (us : List OwnedQuant) (r : OwnedQuant) (vs : List OwnedQuant) → MayScalarToJoinAt p g b us r vs → m ≡ scalar_plan b r
