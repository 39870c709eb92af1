use Rattle.std.proofs.Common.{suc, ◌≡◌, ◌++◌, ◌-◌}
use Rattle.qgm_meaning.specs.Tags.{columns_from}
use Rattle.rule_feed.proofs.feed.edits.add_columns.Given as goal

-- what is left completes them
abbrev pub invariant-loop-k : goal.invariant-loop-k
invariant-loop-k l = l.head ++ columns_from l.q (suc l.k) (l.w - l.k) ≡ l.initial.head ++ columns_from l.q 1 l.w
