use Rattle.std.proofs.Common.{◌≡◌, ◌++◌, drop}
use Rattle.graph_sql.specs.StatementText.{outs_text}
use Rattle.graph_sql.proofs.root.put_outs.Given as goal

-- what is left adds the rest
abbrev pub invariant-loop-i : goal.invariant-loop-i
invariant-loop-i l = l.out ++ outs_text l.i (drop l.i l.names) ≡ l.initial.out ++ outs_text 0 l.names
