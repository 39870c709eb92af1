use Rattle.std.proofs.Common.{◌≡◌, ◌<◌, ℕ, get_or, length}
use Rattle.row_bag.specs.Ranks.{AreRanks}
use Rattle.row_bag.specs.declared.sort.Ranked.{Ranked}
use Rattle.row_bag.proofs.sort.places.Given as goal

abbrev pub invariant-loop-place : goal.invariant-loop-place
invariant-loop-place l = record {
  count : length l.places.items ≡ l.place;
  own : (k : ℕ) (d : Ranked) → k < length l.places.items → (get_or l.places.items k d).place ≡ k;
  ranks : AreRanks l.keys l.bag l.places.items;
}
