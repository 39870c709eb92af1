use Rattle.std.proofs.Common.{◌≡◌, ◌≤◌, drop}
use Rattle.sql_text.specs.Tokens as spec
use Rattle.sql_text.proofs.number.value.Given as goal

abbrev pub invariant-loop-digit : goal.invariant-loop-digit
invariant-loop-digit l = (spec.value l.digits ≡ spec.value_after l.value (drop l.digit-index l.digits)) × (l.value ≤ 9223372036854775809)
