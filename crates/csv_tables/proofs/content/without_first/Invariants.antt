use Rattle.std.proofs.Common.{◌≡◌, ◌++◌, drop}
use Rattle.csv_tables.proofs.content.without_first.Given as goal

abbrev pub invariant-loop-place : goal.invariant-loop-place
invariant-loop-place l = l.chars.items ++ drop l.place l.text ≡ drop 1 l.text
