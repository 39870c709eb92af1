use Rattle.std.proofs.Common.{map, arith}
use Rattle.qgm_build_terms.specs.Folds.{leaf_of}
use Rattle.qgm_build_terms.proofs.Onning.{folds_step}
use Rattle.std.proofs.lemmas.Grind.{common_steps}
use Rattle.qgm_build_terms.proofs.ons.all_on_folds.Goals as goal

pub loop-x-preserved : goal.loop-x-preserved
loop-x-preserved c = folds_step c.args.list.now c.loop-x.x-index c.x-item.result (map leaf_of c.loop-x.out.items) _ _ c.loop-x-test.true c.x-item.is c.in_ok-on_folds.ensures c.loop-x.invariant

pub returns : goal.returns
returns c = grind (arith, common_steps)
