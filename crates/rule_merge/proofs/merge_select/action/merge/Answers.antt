use Rattle.std.proofs.lemmas.Grind.{common_steps}
use Rattle.std.proofs.Common.{sym, subst, arith}
use Rattle.qgm_core.specs.Boxes.{HasBox, QueryGraph}
use Rattle.rule_merge.proofs.merge_select.action.merge.Goals as goal

pub put_all-requires : goal.put_all-requires
put_all-requires c = λ t j. subst (λ (g : QueryGraph). HasBox t.at g) (sym c.in_ok-absorb.ensures.ok) (c.requires.held t j)

pub returns-clause-ok : goal.returns-clause-ok
returns-clause-ok c = grind (arith, common_steps)
