use Rattle.std.proofs.Common.{◌≡◌, ◌<◌, ◌+◌, ◌*◌}
use Rattle.generated_input.specs.Made as spec
use Rattle.generated_input.proofs.tables.emps.Given as goal

abbrev pub invariant-loop-i : goal.invariant-loop-i
invariant-loop-i l = record {
  rows : l.bag ≡ spec.rows_at (spec.emp l.seed l.depts) l.i;
  last : l.last ≡ spec.number l.seed (2 * l.depts + 3 * l.i);
  bound : l.last < 2147483648;
}
