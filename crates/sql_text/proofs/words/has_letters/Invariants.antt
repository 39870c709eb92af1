use Rattle.std.proofs.Common.{◌≡◌, length}
use Rattle.std.specs.Str.{bytes_eq}
use Rattle.sql_text.specs.Tokens.{folded}
use Rattle.sql_text.proofs.words.has_letters.Given as goal

abbrev pub invariant-letters : goal.invariant-letters
invariant-letters l = bytes_eq l.letters (folded l.word) ≡ bytes_eq l.fn.letters (folded l.fn.word)

abbrev pub decreases-letters : goal.decreases-letters
decreases-letters l = length l.letters
