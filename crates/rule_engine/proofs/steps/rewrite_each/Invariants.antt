use Rattle.std.proofs.Common.{take}
use Rattle.qgm_wellformed.specs.Sentences.{WellFormed}
use Rattle.rule_api.specs.Rules.{Preserves}
use Rattle.rule_engine.specs.Trace.{LeadsEach}
use Rattle.rule_engine.proofs.steps.rewrite_each.Given as goal

abbrev pub invariant-loop-k : goal.invariant-loop-k
invariant-loop-k g l =
    record {
      leads : LeadsEach (g.T.Rules.pairs l.table) (g.T.Rules.may l.table) (g.T.Rules.act l.table) 0 l.initial.graph (take l.k l.plans) l.fired.items l.graph;
      formed : WellFormed l.graph;
      preserves : Preserves l.initial.graph l.graph;
    }
