use Rattle.std.proofs.Common.{◌≡◌, ◌<◌, ◌+◌, ◌*◌, ◌-◌, ◌^◌, drop}
use Rattle.row_bag.specs.Ranks.{leading}
use Rattle.row_bag.proofs.sort.leading.Given as goal

abbrev pub invariant-loop-i : goal.invariant-loop-i
invariant-loop-i l = record {
  digits : l.number * 130 ^ (8 - l._i) + leading (8 - l._i) (drop l.place l.text) ≡ leading 8 l.text;
  low : l.number < 130 ^ l._i;
}
