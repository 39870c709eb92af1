use Rattle.std.proofs.Common.{◌≡◌, ◌≤◌, ◌||◌, drop, length}
use Rattle.sql_value.specs.Characters.{listed}
use Rattle.sql_value.specs.Like.{fits}
use Rattle.sql_value.proofs.Greedy.{Follows, retried, steps_left}
use Rattle.sql_value.proofs.pattern.fits.Given as goal

abbrev pub invariant-loop-i : goal.invariant-loop-i
invariant-loop-i l = record {
  whole : fits (listed l.pattern) (listed l.text) ≡ (fits (drop l.j (listed l.pattern)) (drop l.i (listed l.text)) || retried (listed l.pattern) (listed l.text) l.retry);
  follows : Follows (listed l.pattern) (listed l.text) l.i l.j l.retry;
  within : l.j ≤ length (listed l.pattern);
}

abbrev pub decreases-loop-i : goal.decreases-loop-i
decreases-loop-i l = steps_left (length (listed l.pattern)) (length (listed l.text)) l.j l.retry
