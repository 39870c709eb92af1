use Rattle.std.proofs.Common.{◌≡◌, ◌++◌, take}
use Rattle.std.specs.List.{flat_map}
use Rattle.qgm_terms.specs.Shown.{conds}
use Rattle.qgm_edit_laws.specs.ConjunctsOf.{conjuncts}
use Rattle.rule_subquery.proofs.conjuncts.+add_conjuncts.Given as goal

abbrev pub invariant-add_conjuncts_of-loop-c : goal.invariant-add_conjuncts_of-loop-c
invariant-add_conjuncts_of-loop-c l = record {
  items : l.out.items ≡ l.initial.out.items ++ flat_map conjuncts (conds (take l.c-index l.list));
  spare : l.out.spare ≡ l.initial.out.spare;
}
