use Rattle.std.proofs.Common.{suc, ◌≡◌, ◌≤◌, ◌++◌, drop}
use Rattle.rule_feed.specs.NamedColumns.{joins_by}
use Rattle.rule_feed.proofs.feed.named.joins.Given as goal

-- what is left completes them
abbrev pub invariant-loop-flag : goal.invariant-loop-flag
invariant-loop-flag l = record {
  so_far : l.all.items ++ joins_by (drop l.flag-index l.flags) l.p l.i l.k l.j ≡ joins_by l.flags l.p l.i 1 1;
  none_spare : l.all.spare ≡ 0;
  place : l.k ≡ suc l.flag-index;
  few : l.j ≤ suc l.flag-index;
}
