use Rattle.std.proofs.Common.{drop, arith}
use Rattle.std.proofs.lemmas.List.{length-drop}
use Rattle.sql_text.proofs.Numbers.{value_too_large}
use Rattle.sql_text.proofs.number.value.Goals as goal

pub returns-then-value : goal.returns-then-value
returns-then-value c =
    let rest = drop c.loop-digit.digit-index c.args.digits.now in
    rw c.loop-digit.invariant.0 (value_too_large c.loop-digit.value rest c.if-value.true (omega (arith, length-drop c.loop-digit.digit-index c.args.digits.now)))
