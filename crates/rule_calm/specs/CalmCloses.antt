-- Class magic closes a calm graph: where none of its rules has a place, no box that the root reaches names an outer row.
use Rattle.std.specs.Prelude.{◌≡◌, ◌<◌, ◌≤◌, true, List, [], length}
use Rattle.list_laws.specs.Lists.{EachOnce, In}
use Rattle.qgm_core.specs.Boxes.{QueryGraph, numbers}
use Rattle.qgm_core.specs.Free.{Reaches}
use Rattle.qgm_core.specs.declared.node.Node.{Node}
use Rattle.qgm_wellformed.specs.Sentences.{WellFormed}
use Rattle.qgm_props.specs.Calm.{calm, is_closed}
use Rattle.qgm_props.specs.Inferred.{Facts}
use Rattle.qgm_props.specs.Laws.{Tells}
use Rattle.rule_plan.specs.declared.classes.Class.TheVariants.{Magic}
use Rattle.rule_plan.specs.declared.plan.Plan.{Plan}
use Rattle.rule_api.specs.declared.place.Firing.{Firing}
use Rattle.rule_engine.specs.Control.{candidates}
use Rattle.rule_set.specs.Built.{built_pairs}
use Rattle.rule_set.specs.Rewriting.{Rewrites}

-- a graph of at most 65,530 boxes, calm by what is inferred of it
pub record IsCalm (g : QueryGraph) : Type 0 where
  pub known : Facts
  pub tells : Tells known g.boxes
  pub calm : calm g.boxes known g.root ≡ true
  pub few : length g.boxes ≤ 65530

-- each box that the root reaches is closed
abbrev pub AllClosed : QueryGraph → Type 0
AllClosed g = (n : Node) → In n g.boxes → Reaches g.boxes g.root n.id → is_closed g.boxes n.id ≡ true

-- a calm graph without a candidate of class magic
abbrev pub CalmCloses : Type 0
CalmCloses = (plan : Plan) (g : QueryGraph) → In Magic plan.classes → EachOnce (numbers g.boxes) → WellFormed g → IsCalm g → candidates built_pairs plan g ≡ [] → AllClosed g

-- a rewriting to a calm graph that ends before its budget
abbrev pub CalmRewritesClose : Type 0
CalmRewritesClose =
    (plan : Plan) (g h : QueryGraph) (fs : List Firing) → In Magic plan.classes → Rewrites plan g fs h → length fs < plan.budget
    → EachOnce (numbers h.boxes) → WellFormed h → IsCalm h → AllClosed h
