-- The steps of U4's action.
use Rattle.std.specs.Prelude.{ℕ, ◌≡◌, ◌∷◌, [], List, length}
use Rattle.sql_value.specs.declared.order_key.SqlType.{SqlType}
use Rattle.qgm_core.specs.Boxes.{QueryGraph}
use Rattle.qgm_core.specs.Edits.{keep, put_box, put_quant, set_distinct}
use Rattle.qgm_core.specs.Free.{reached}
use Rattle.qgm_core.specs.declared.kinds.BoxKind.TheVariants.{Select}
use Rattle.qgm_core.specs.declared.kinds.Distinct.TheVariants.{Enforce}
use Rattle.qgm_core.specs.declared.kinds.QuantKind.TheVariants.{E}
use Rattle.qgm_core.specs.declared.kinds.SetOperator.{SetOperator}
use Rattle.qgm_core.specs.declared.node.Node.{Node}
use Rattle.qgm_core.specs.declared.owned.OwnedQuant.{OwnedQuant}
use Rattle.qgm_edit_laws.specs.Ranges.{columns_from}
use Rattle.rule_api.specs.declared.place.Place.{Place}
use Rattle.rule_subquery.specs.SetToExists.{MaySetToExistsAt, matches}
use Rattle.rule_subquery.specs.declared.set_to_exists.action.SetPlan.{SetPlan}

-- b gets the columns of l, and the one conjunct that r matches; its role stays
abbrev pub set_plan : Node → SetOperator → ℕ → OwnedQuant → OwnedQuant → SetPlan
set_plan b form w l r = record { b = b.id; role = b.parts.role; q = r.id; conds = record b.parts.conds { items = matches form l.id r.id w ∷ [] }; head = columns_from l.id 1 w }

-- the edits, and those boxes stay that the root reached before
abbrev pub set_steps : SetPlan → QueryGraph → QueryGraph
set_steps m g = keep (reached (g.root ∷ []) g.boxes) (put_quant m.q E (set_distinct m.b Enforce (put_box m.b Select m.role m.conds m.head g)))

-- what is planned is to do so
abbrev pub SetPlansAt : Place → QueryGraph → SetPlan → Type 0
SetPlansAt p g m = (b : Node) (form : SetOperator) (types : List SqlType) (l r : OwnedQuant) → MaySetToExistsAt p g b form types l r → m ≡ set_plan b form (length types) l r
