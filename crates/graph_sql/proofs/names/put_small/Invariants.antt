use Rattle.std.proofs.Common.{◌≡◌, ◌++◌, drop, map}
use Rattle.std.specs.Char.{to_ascii_lowercase}
use Rattle.graph_print.specs.TermText.{doubled}
use Rattle.graph_sql.proofs.names.put_small.Given as goal

-- what is left adds the rest
abbrev pub invariant-loop-c : goal.invariant-loop-c
invariant-loop-c l = l.out ++ doubled 34 (map to_ascii_lowercase (drop l.c-index l.c-items)) ≡ l.initial.out ++ doubled 34 (map to_ascii_lowercase l.c-items)
