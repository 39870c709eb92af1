use Rattle.std.proofs.Common.{◌≡◌, ◌++◌, map, take}
use Rattle.qgm_term_search.specs.declared.tokens.Token.TheVariants as k
use Rattle.qgm_term_search.proofs.tokens.add_text.Given as goal

abbrev pub invariant-loop-c : goal.invariant-loop-c
invariant-loop-c l = l.out.items ≡ l.initial.out.items ++ map k.Char (take l.c-index l.c-items)
