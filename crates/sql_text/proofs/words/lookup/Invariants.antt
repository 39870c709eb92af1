use Rattle.std.proofs.Common.{◌≡◌, map, drop}
use Rattle.sql_text.specs.Tokens.{key_in, entry_of, folded}
use Rattle.sql_text.proofs.words.lookup.Given as goal

abbrev pub invariant-loop-letters : goal.invariant-loop-letters
invariant-loop-letters l =
    key_in (entry_of (map (λ entry. (entry.0.now, entry.1)) (drop l.letters-index l.table)) (folded l.word)) ≡ key_in (entry_of (map (λ entry. (entry.0.now, entry.1)) l.table) (folded l.word))
