-- Class magic alone decorrelates a settled graph: it keeps the graph settled, adds few boxes and ends, and then each box that the root reaches is closed.
use Rattle.std.specs.Prelude.{◌≡◌, ◌≤◌, ◌+◌, ◌*◌, List, [], ◌∷◌, length}
use Rattle.list_laws.specs.Lists.{EachOnce, In}
use Rattle.qgm_core.specs.Boxes.{QueryGraph, numbers}
use Rattle.qgm_wellformed.specs.Sentences.{WellFormed}
use Rattle.rule_plan.specs.declared.classes.Class.TheVariants.{Magic}
use Rattle.rule_plan.specs.declared.plan.Plan.{Plan}
use Rattle.rule_api.specs.declared.place.Firing.{Firing}
use Rattle.rule_api.specs.declared.place.Place.{Place}
use Rattle.rule_api.specs.declared.rule_id.RuleId.{RuleId}
use Rattle.rule_engine.specs.Control.{rules_of}
use Rattle.rule_set.specs.Built.{built_act}
use Rattle.rule_set.specs.Rewriting.{Rewrites}
use Rattle.rule_calm.specs.CalmCloses.{AllClosed}
use Rattle.rule_calm.specs.Settled.{IsSettled}
use Rattle.rule_calm.specs.SettledCloses.{most_firings}
use Rattle.rule_calm.specs.SettledKept.{KeepsSettled}

-- each firing of a rule of class magic on a settled graph leaves a settled graph
abbrev pub MagicKeepsSettled : Type 0
MagicKeepsSettled = (r : RuleId) → In r (rules_of Magic) → KeepsSettled r

-- and adds at most three boxes, on whatever graph
abbrev pub MagicAddsFew : Type 0
MagicAddsFew = (r : RuleId) → In r (rules_of Magic) → (p : Place) (g h : QueryGraph) → built_act r p g h → length h.boxes ≤ length g.boxes + 3

-- with three more boxes for each firing of class magic alone there are at most 65,530
abbrev pub HasRoom : QueryGraph → Type 0
HasRoom g = length g.boxes + 3 * most_firings g ≤ 65530

-- a settled graph with room, rewritten by class magic alone with so much of a budget, ends with each box that the root reaches closed
abbrev pub MagicDecorrelates : Type 0
MagicDecorrelates =
    (plan : Plan) (g h : QueryGraph) (fs : List Firing) → plan.classes ≡ Magic ∷ [] → EachOnce (numbers g.boxes) → WellFormed g → IsSettled g → HasRoom g → most_firings g ≤ plan.budget → Rewrites plan g fs h → AllClosed h
