use Rattle.std.proofs.Common.{◌≡◌, ◌+◌, ◌-◌, ◌++◌}
use Rattle.qgm_meaning.specs.Tags.{columns_from}
use Rattle.rule_magic.proofs.heads.add_columns.Given as goal

-- what is left adds the rest
abbrev pub invariant-loop-k : goal.invariant-loop-k
invariant-loop-k l = l.head ++ columns_from l.q (l.k + 1) (l.end - l.k) ≡ l.fn.head ++ columns_from l.q (l.behind + 1) (l.end - l.behind)
