use Rattle.std.proofs.Common.{◌≡◌, ◌+◌, ◌-◌, ◌++◌, ◌≤◌}
use Rattle.qgm_edit_laws.specs.Ranges.{columns_from}
use Rattle.rule_subquery.proofs.same_columns.columns.Given as goal

-- what is left adds the rest
abbrev pub invariant-loop-k : goal.invariant-loop-k
invariant-loop-k l = (l.k ≤ l.w) × (l.head ++ columns_from l.q (l.k + 1) (l.w - l.k) ≡ columns_from l.q 1 l.w)
