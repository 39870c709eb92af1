use Rattle.std.proofs.Common.{◌≡◌, length, take}
use Rattle.qgm_term_search.proofs.sameness.same_tokens.Given as goal

abbrev pub invariant-loop-i : goal.invariant-loop-i
invariant-loop-i l = (length l.left ≡ length l.right) × (take l.i l.left ≡ take l.i l.right)
