-- Class magic keeps a graph settled.
use Rattle.list_laws.specs.Lists.{EachOnce}
use Rattle.qgm_core.specs.Boxes.{QueryGraph, numbers}
use Rattle.qgm_wellformed.specs.Sentences.{WellFormed}
use Rattle.rule_api.specs.declared.place.Place.{Place}
use Rattle.rule_api.specs.declared.rule_id.RuleId.{RuleId}
use Rattle.rule_set.specs.Built.{built_act}
use Rattle.rule_calm.specs.Settled.{IsSettled}

-- a firing of this rule on a settled graph leaves a settled graph
abbrev pub KeepsSettled : RuleId → Type 0
KeepsSettled r = (p : Place) (g h : QueryGraph) → EachOnce (numbers g.boxes) → WellFormed g → IsSettled g → built_act r p g h → IsSettled h
