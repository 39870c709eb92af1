use Rattle.std.proofs.Common.{◌≡◌, ◌++◌}
use Rattle.graph_sql.specs.BodyText.{numbered}
use Rattle.graph_sql.specs.Lists.{listed_text}
use Rattle.graph_sql.proofs.numbered.put_numbered.Given as goal

abbrev pub invariant-loop-i : goal.invariant-loop-i
invariant-loop-i l = l.out ≡ l.initial.out ++ numbered (listed_text l.listed) l.i
