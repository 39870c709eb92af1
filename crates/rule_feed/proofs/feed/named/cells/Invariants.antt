use Rattle.std.proofs.Common.{suc, ◌≡◌, ◌≤◌, ◌++◌, drop}
use Rattle.rule_feed.specs.NamedColumns.{cells_by}
use Rattle.rule_feed.proofs.feed.named.cells.Given as goal

-- what is left completes them
abbrev pub invariant-loop-flag : goal.invariant-loop-flag
invariant-loop-flag l = record {
  so_far : l.head ++ cells_by (drop l.flag-index l.flags) l.q l.j ≡ cells_by l.flags l.q 1;
  few : l.j ≤ suc l.flag-index;
}
