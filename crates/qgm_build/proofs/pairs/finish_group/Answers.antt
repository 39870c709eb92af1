use Rattle.std.proofs.lemmas.Grind.{common_steps}
use Rattle.std.proofs.Common.{refl, arith}
use Rattle.std.proofs.lemmas.Result.{IfOk-weaker}
use Rattle.qgm_build_terms.specs.Folds.{leaf_of}
use Rattle.qgm_build.specs.Laying.{told_at}
use Rattle.qgm_build_terms.specs.SoFar.{so_far}
use Rattle.std.proofs.Common.{length, map}
use Rattle.qgm_build.proofs.Paired.{group_read}
use Rattle.qgm_build.proofs.pairs.finish_group.Goals as goal

pub returns : goal.returns
returns c =
    IfOk-weaker c.put.result _ _ (λ b e. group_read (told_at c.args.g.now) c.args.places.now (map leaf_of c.args.folds.now) c.args.rows (length c.args.places.now) b (so_far c.args.st.now) (so_far c.draw.new.st) _ c.new-quants.result c.draw.new.quants c.in_ok-head.head _
    refl c.new-quants.ensures c.in_ok-draw.ensures c.in_ok-head.ensures c.new.ensures.items e) c.put.ensures

pub put-requires : goal.put-requires
put-requires c = grind (arith, common_steps)
