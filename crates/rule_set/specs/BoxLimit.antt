-- A step leaves few boxes where there were few: rules that add boxes fire where there are at most 65,530, and the others add none.
use Rattle.std.specs.Prelude.{ℕ, ◌<◌, Option, length}
use Rattle.qgm_core.specs.Boxes.{QueryGraph}
use Rattle.rule_plan.specs.declared.plan.Plan.{Plan}
use Rattle.rule_api.specs.declared.place.Firing.{Firing}
use Rattle.rule_api.specs.declared.place.Place.{Place}
use Rattle.rule_api.specs.declared.rule_id.RuleId.{RuleId}
use Rattle.rule_engine.specs.Trace.{Stepped}
use Rattle.rule_set.specs.Built.{built_act, built_may, built_pairs}

-- a graph has fewer than 65,536 boxes
abbrev pub IsUnderLimit : QueryGraph → Type 0
IsUnderLimit g = length g.boxes < 65536

-- a firing leaves a graph of fewer than 65,536 boxes with fewer than 65,536
abbrev pub FiringsKeepLimit : Type 0
FiringsKeepLimit = (r : RuleId) (p : Place) (g h : QueryGraph) → built_act r p g h → IsUnderLimit g → IsUnderLimit h

-- and so does a step
abbrev pub StepsKeepLimit : Type 0
StepsKeepLimit = (plan : Plan) (k : ℕ) (g : QueryGraph) (f : Option Firing) (h : QueryGraph) → Stepped built_pairs built_may built_act plan k g f h → IsUnderLimit g → IsUnderLimit h
