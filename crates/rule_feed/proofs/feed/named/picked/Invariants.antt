use Rattle.std.proofs.Common.{suc, ◌≡◌, ◌++◌, drop}
use Rattle.rule_feed.specs.NamedColumns.{picked_by}
use Rattle.rule_feed.proofs.feed.named.picked.Given as goal

-- what is left completes them
abbrev pub invariant-loop-flag : goal.invariant-loop-flag
invariant-loop-flag l = record {
  so_far : l.head ++ picked_by (drop l.flag-index l.flags) l.q l.k ≡ picked_by l.flags l.q 1;
  place : l.k ≡ suc l.flag-index;
}
