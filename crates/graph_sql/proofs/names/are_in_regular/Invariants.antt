use Rattle.std.proofs.Common.{◌≡◌, drop}
use Rattle.std.specs.List.{list_all}
use Rattle.graph_sql.specs.BodyText.{in_regular}
use Rattle.graph_sql.proofs.names.are_in_regular.Given as goal

-- what is left decides
abbrev pub invariant-loop-c : goal.invariant-loop-c
invariant-loop-c l = list_all in_regular (drop l.c-index l.chars) ≡ list_all in_regular l.chars
