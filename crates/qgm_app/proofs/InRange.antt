-- What a command that is taken has as its numbers.
use Rattle.std.proofs.Common.{ℕ, ◌≡◌, ◌<◌, ◌^◌, true, nat_le, arith}
use Rattle.std.proofs.lemmas.Bool.{and_parts, leb-true}
use Rattle.command_line.specs.Line.{gen, is_taken}

pub seed-in : (seed rows : ℕ) → is_taken (gen seed rows) ≡ true → seed < 2147483648
seed-in seed rows h =
    let le = leb-true seed 2147483647 (and_parts (nat_le seed 2147483647) (nat_le rows 100000) h).0 in
    omega (arith, le)

pub rows-in : (seed rows : ℕ) → is_taken (gen seed rows) ≡ true → rows < 2 ^ 60
rows-in seed rows h =
    let le = leb-true rows 100000 (and_parts (nat_le seed 2147483647) (nat_le rows 100000) h).1 in
    omega (arith, le)
