use Rattle.std.proofs.Common.{◌≡◌, length}
use Rattle.qgm_wellformed.specs.Sentences.{WellFormed}
use Rattle.rule_api.specs.Rules.{Preserves}
use Rattle.rule_engine.specs.Trace.{Leads}
use Rattle.rule_engine.proofs.steps.rewrite.Given as goal

abbrev pub invariant-loop-count : goal.invariant-loop-count
invariant-loop-count g l =
    record {
      leads : Leads (g.T.Rules.pairs l.table) (g.T.Rules.may l.table) (g.T.Rules.act l.table) l.plan 0 l.initial.graph l.trace l.graph;
      many : length l.trace ≡ l.count;
      formed : WellFormed l.graph;
      preserves : Preserves l.initial.graph l.graph;
    }
