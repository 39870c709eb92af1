-- Class magic ends: each firing of a rule of the class lowers the measure, so the boxes and quantifiers of a graph bound how many fire by that class alone.
use Rattle.std.specs.Prelude.{◌≡◌, ◌≤◌, ◌+◌, ◌*◌, List, [], ◌∷◌, length}
use Rattle.list_laws.specs.Lists.{EachOnce, In}
use Rattle.qgm_core.specs.Boxes.{QueryGraph, ids_in, numbers}
use Rattle.qgm_wellformed.specs.Sentences.{WellFormed}
use Rattle.rule_plan.specs.declared.classes.Class.TheVariants.{Magic}
use Rattle.rule_plan.specs.declared.plan.Plan.{Plan}
use Rattle.rule_api.specs.declared.place.Firing.{Firing}
use Rattle.rule_api.specs.declared.place.Place.{Place}
use Rattle.rule_api.specs.declared.rule_id.RuleId.{RuleId}
use Rattle.rule_engine.specs.Control.{rules_of}
use Rattle.rule_magic.specs.AbsorbMeasure.{IsLower}
use Rattle.rule_set.specs.Built.{built_act}
use Rattle.rule_set.specs.Rewriting.{Rewrites}

-- a firing of a rule of class magic, U2 among them, lowers the measure
abbrev pub MagicLowers : Type 0
MagicLowers = (r : RuleId) → In r (rules_of Magic) → (p : Place) (g h : QueryGraph) → EachOnce (numbers g.boxes) → WellFormed g → built_act r p g h → IsLower g h

-- by that class alone at most twice as many fire as there are boxes, and three times as many as there are quantifiers, whatever the budget
abbrev pub MagicEnds : Type 0
MagicEnds = (plan : Plan) (g h : QueryGraph) (fs : List Firing) → plan.classes ≡ Magic ∷ [] → EachOnce (numbers g.boxes) → WellFormed g → Rewrites plan g fs h → length fs ≤ 2 * length g.boxes + 3 * length (ids_in g.boxes)
