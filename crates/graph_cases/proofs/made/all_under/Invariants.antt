use Rattle.std.proofs.Common.{drop}
use Rattle.qgm_core.specs.Numbered.{Under}
use Rattle.graph_cases.proofs.made.all_under.Given as goal

-- what is left decides
abbrev pub invariant-loop-id : goal.invariant-loop-id
invariant-loop-id l = Under l.next (drop l.id-index l.ids) → Under l.next l.ids
