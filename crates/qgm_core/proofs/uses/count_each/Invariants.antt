use Rattle.std.proofs.Common.{ℕ, ◌≡◌, ◌<◌, ◌+◌, get_or, length, map, take}
use Rattle.list_laws.specs.Lists.{times}
use Rattle.qgm_core.proofs.uses.count_each.Given as goal

abbrev pub invariant-loop-range : goal.invariant-loop-range
invariant-loop-range l = record {
  long : length l.uses.items ≡ length l.fn.uses.items;
  counted : (x : ℕ) → x < length l.fn.uses.items → get_or l.uses.items x 0 ≡ get_or l.fn.uses.items x 0 + times x (map (λ r. r.over) (take l.range-index l.ranges));
}
