-- Places of tuples.
use Rattle.std.proofs.Common.{◌≡◌, ℕ, zero, suc, ◌<◌, cond, List, [], ◌∷◌, Some, ap, arith}
use Rattle.std.specs.Prelude.{slice_get}
use Rattle.sql_value.specs.declared.cell.Cell.{Cell}
use Rattle.row_bag.specs.Matched.{often}
use Rattle.row_bag.specs.Sets.{same_cells}
use Rattle.row_bag.proofs.Indexed.{some-same}
use Rattle.row_bag.proofs.TupleBags.{same_cells-decides}

abbrev pub Tuple : Type 0
Tuple = List Cell

pub often-some : (c : Tuple) (ts : List Tuple) (k : ℕ) → slice_get ts k ≡ Some c → 0 < often c ts
often-some c [] k found = absurd (cc found)
often-some c (t ∷ ts) zero found =
    let one : ◌≡◌ {A = ℕ} (cond (same_cells t c) 1 0) 1 = ap (λ b. cond b 1 0) ((same_cells-decides t c).1 (some-same t c found)) in
    omega (arith, one)
often-some c (t ∷ ts) (suc k) found = let rest = often-some c ts k found in omega (arith, rest)
