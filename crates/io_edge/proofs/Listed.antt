-- A number that a test finds in a list.
use Rattle.std.proofs.Common.{ℕ, ◌≡◌, ◌<◌, List, length, true, subst}
use Rattle.std.proofs.lemmas.Bool.{eqb-true}
use Rattle.std.proofs.Math.Dec.{eqb}
use Rattle.std.specs.Prelude.{Contains, slice_index_or}

pub listed : (tested xs : List ℕ) (x k : ℕ) → tested ≡ xs → k < length tested → ((d : ℕ) → eqb (slice_index_or tested k d) x ≡ true) → Contains xs x
listed tested xs x k same below holds = subst (λ ys. Contains ys x) same (k, below, eqb-true _ _ (holds x))
