use Rattle.std.proofs.Common.{suc, ◌≡◌, ◌++◌, ◌-◌, ◌+◌}
use Rattle.qgm_meaning.specs.Tags.{columns_from}
use Rattle.rule_feed.proofs.feed.edits.columns.Given as goal

-- what is left completes them
abbrev pub invariant-loop-k : goal.invariant-loop-k
invariant-loop-k l = record {
  so_far : l.head ++ columns_from l.q (suc l.k) (l.end - l.k) ≡ columns_from l.q (suc l.start) l.w;
  end : l.end ≡ l.start + l.w;
}
