-- Pieces that are written one after the other.
use Rattle.std.proofs.Common.{ℕ, ◌+◌, ◌-◌, ◌≤◌, ◌≡◌, ◌∙◌, ◌++◌, List, Option, Some, None, length, take, drop, ap, arith, append_assoc, add-zero}
use Rattle.std.proofs.lemmas.List.{take-append-drop, length-take-le, take_rest}
use Rattle.std.proofs.Math.Seq.{take-append-add, take-length}
use Rattle.io_edge.specs.Outside.{written_after}

pub take-two : (i n : ℕ) (xs : List ℕ) → i ≤ length xs → take (i + n) xs ≡ take i xs ++ take n (drop i xs)
take-two i n xs le = rw (length-take-le i xs le, take-append-drop i xs) at (take-append-add (take i xs) (drop i xs) n)

-- the write of a piece, the rest of the bytes, of which n were taken
pub written-more : (i n : ℕ) (bytes : List ℕ) (a b c : Option (List ℕ)) → i ≤ length bytes → b ≡ written_after (take i bytes) a
    → c ≡ written_after (take n (take (length bytes - i) (drop i bytes))) b → c ≡ written_after (take (i + n) bytes) a
written-more i n bytes None b c le e f = rw e at f
written-more i n bytes (Some w) b c le e f =
    (rw (e, take_rest bytes i) at f) ∙ (rw (take-two i n bytes le) (ap (λ (x : List ℕ). Some x) (append_assoc w (take i bytes) (take n (drop i bytes)))))

-- the write of a piece that failed
pub written-same : (i : ℕ) (bytes : List ℕ) (a b c : Option (List ℕ)) → i ≤ length bytes → b ≡ written_after (take i bytes) a
    → c ≡ written_after (take 0 (take (length bytes - i) (drop i bytes))) b → c ≡ written_after (take i bytes) a
written-same i bytes a b c le e f = rw (add-zero i) at (written-more i 0 bytes a b c le e f)

pub written-all : (i : ℕ) (bytes : List ℕ) (a b : Option (List ℕ)) → i ≤ length bytes → length bytes ≤ i → b ≡ written_after (take i bytes) a → b ≡ written_after bytes a
written-all i bytes a b le ge e = let same : i ≡ length bytes = omega arith in rw (same, take-length bytes) at e
