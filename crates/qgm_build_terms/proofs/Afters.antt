-- What is left of slots after leaves.
use Rattle.std.proofs.Common.{◌≡◌, List, [], ◌∷◌, ◌++◌, refl}
use Rattle.qgm_translation.specs.Leaves.{Leaf, Slots, after, sub, fold, count, rest_of}

pub after_append : (xs ys : List Leaf) (s : Slots) → after (xs ++ ys) s ≡ after ys (after xs s)
after_append [] ys s = refl
after_append (sub fr kind query ∷ xs) ys s = after_append xs ys (record s { quants = rest_of s.quants })
after_append (fold f distinct x ∷ xs) ys s = after_append xs ys (record s { cells = rest_of s.cells })
after_append (count ∷ xs) ys s = after_append xs ys (record s { cells = rest_of s.cells })

pub ruleset afters = (after_append)
