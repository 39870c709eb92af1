use Rattle.std.proofs.Common.{◌≡◌, ◌+◌, ◌-◌, ◌≤◌}
use Rattle.qgm_terms.specs.Shown.{cond}
use Rattle.qgm_terms.specs.Terms.{anded}
use Rattle.qgm_edit_laws.specs.SameColumns.{all_same, sames}
use Rattle.rule_subquery.proofs.same_columns.all_same.Given as goal

-- what is left adds the rest
abbrev pub invariant-loop-k : goal.invariant-loop-k
invariant-loop-k l = (1 ≤ l.k) × (l.k ≤ l.w) × (anded (cond l.total) (sames l.l l.r (l.k + 1) (l.w - l.k)) ≡ all_same l.l l.r l.w)
