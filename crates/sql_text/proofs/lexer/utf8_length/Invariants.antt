use Rattle.std.proofs.Common.{◌≡◌, take}
use Rattle.sql_text.specs.Tokens as spec
use Rattle.sql_text.proofs.lexer.utf8_length.Given as goal

abbrev pub invariant-loop-c : goal.invariant-loop-c
invariant-loop-c l = l.length ≡ spec.widths (take l.c-index l.chars)
