use Rattle.std.proofs.Common.{◌≡◌, ◌++◌, drop}
use Rattle.qgm_terms.specs.Shown.{conds}
use Rattle.rule_merge.proofs.merge_select.action.add_each.Given as goal

-- what is left adds the rest
abbrev pub invariant-loop-c : goal.invariant-loop-c
invariant-loop-c l = record {
  rest : l.all.items ++ conds (drop l.c-index l.list) ≡ l.initial.all.items ++ conds l.list;
  spare : l.all.spare ≡ l.initial.all.spare;
}
