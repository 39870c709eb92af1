use Rattle.std.proofs.Common.{drop}
use Rattle.list_laws.specs.Lists.{EachOnce}
use Rattle.graph_cases.proofs.made.each_once.Given as goal

-- what is left decides
abbrev pub invariant-loop-i : goal.invariant-loop-i
invariant-loop-i l = EachOnce (drop l.i l.ids) → EachOnce l.ids
