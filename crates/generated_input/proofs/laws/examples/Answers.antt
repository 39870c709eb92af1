use Rattle.std.proofs.Common.{refl}
use Rattle.std.specs.Fmt.{digits}
use Rattle.generated_input.specs.Made.{dept_of, emp_of, number, rows_at}
use Rattle.generated_input.proofs.laws.examples.Goals as goal

pub returns : goal.returns
unfolding digits dept_of emp_of number rows_at
returns c = record { first = refl; second = refl; draws = refl; tables = refl }
