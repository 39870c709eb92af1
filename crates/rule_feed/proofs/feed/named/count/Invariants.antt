use Rattle.std.proofs.Common.{◌≡◌, ◌≤◌, ◌+◌, drop}
use Rattle.rule_feed.specs.NamedColumns.{count}
use Rattle.rule_feed.proofs.feed.named.count.Given as goal

abbrev pub invariant-loop-flag : goal.invariant-loop-flag
invariant-loop-flag l = record {
  so_far : l.n + count (drop l.flag-index l.flags) ≡ count l.flags;
  few : l.n ≤ l.flag-index;
}
