-- A rewriting by the rules that are built.
use Rattle.std.specs.Prelude.{List}
use Rattle.qgm_core.specs.Boxes.{QueryGraph}
use Rattle.rule_plan.specs.declared.plan.Plan.{Plan}
use Rattle.rule_api.specs.declared.place.Firing.{Firing}
use Rattle.rule_engine.specs.Trace.{Traces}
use Rattle.rule_set.specs.Built.{built_act, built_may, built_pairs}

-- these firings of rules that are built rewrite g to h
abbrev pub Rewrites : Plan → QueryGraph → List Firing → QueryGraph → Type 0
Rewrites plan g fs h = Traces built_pairs built_may built_act plan g fs h
