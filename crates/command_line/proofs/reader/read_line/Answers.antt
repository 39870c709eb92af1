use Rattle.std.proofs.Common.{refl}
use Rattle.command_line.specs.Reading.{line}
use Rattle.command_line.proofs.reader.read_line.Goals as goal

pub returns-then-is_taken-clause-ok : goal.returns-then-is_taken-clause-ok
unfolding line
returns-then-is_taken-clause-ok c = rw (c.in-Ok.ensures.ok, ← c.is_taken.ensures, c.if-is_taken.true) refl

pub returns-in-Ok-clause-usage : goal.returns-in-Ok-clause-usage
unfolding line
returns-in-Ok-clause-usage c = λ u. rw (c.in-Ok.ensures.ok, ← c.is_taken.ensures, c.if-is_taken.false) refl

pub returns-clause-usage : goal.returns-clause-usage
unfolding line
returns-clause-usage c = λ u. rw (c.in-Err.ensures.usage u) refl
