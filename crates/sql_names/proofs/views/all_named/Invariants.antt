use Rattle.std.proofs.Common.{◌≡◌, ◌++◌, drop}
use Rattle.sql_meaning.specs.Names as named
use Rattle.sql_names.proofs.views.all_named.Given as goal

abbrev pub invariant-loop-name : goal.invariant-loop-name
invariant-loop-name l = l.out ++ named.all_named (drop l.name-index l.names) ≡ named.all_named l.names
