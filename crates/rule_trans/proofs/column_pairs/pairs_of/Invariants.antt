use Rattle.std.proofs.Common.{◌≡◌, ◌||◌, drop}
use Rattle.qgm_terms.specs.Shown.{conds}
use Rattle.qgm_terms.specs.declared.named.Column.{Column}
use Rattle.rule_trans.specs.ColumnPairs.{has}
use Rattle.rule_trans.specs.Equalities.{is_there}
use Rattle.rule_trans.proofs.column_pairs.pairs_of.Given as goal

-- what is left adds the rest
abbrev pub invariant-loop-c : goal.invariant-loop-c
invariant-loop-c l = (a z : Column) → is_there a z (conds l.list) ≡ (has l.pairs a z || is_there a z (conds (drop l.c-index l.list)))
