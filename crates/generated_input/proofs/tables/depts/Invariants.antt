use Rattle.std.proofs.Common.{◌≡◌, ◌<◌, ◌*◌}
use Rattle.generated_input.specs.Made as spec
use Rattle.generated_input.proofs.tables.depts.Given as goal

abbrev pub invariant-loop-i : goal.invariant-loop-i
invariant-loop-i l = record {
  rows : l.bag ≡ spec.rows_at (spec.dept l.seed) l.i;
  last : l.last ≡ spec.number l.seed (2 * l.i);
  bound : l.last < 2147483648;
}
