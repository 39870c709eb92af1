use Rattle.std.proofs.Common.{◌≡◌, ◌++◌, drop}
use Rattle.sql_text.specs.Tokens.{folded}
use Rattle.sql_text.proofs.words.name.Given as goal

abbrev pub invariant-loop-c : goal.invariant-loop-c
invariant-loop-c l = l.name ++ folded (drop l.c-index l.word) ≡ folded l.word
