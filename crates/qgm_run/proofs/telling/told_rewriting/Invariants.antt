use Rattle.qgm_run.proofs.Firings.{Fired}
use Rattle.qgm_run.proofs.telling.told_rewriting.Given as goal

abbrev pub invariant-loop-count : goal.invariant-loop-count
invariant-loop-count l = Fired l.plan l.initial.graph l.graph l.count l.initial.out l.out
