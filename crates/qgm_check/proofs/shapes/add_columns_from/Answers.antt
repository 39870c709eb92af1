use Rattle.std.proofs.Common.{◌<◌, ◌∙◌, arith}
use Rattle.qgm_wellformed.proofs.HeadLaws.{columns_more}
use Rattle.qgm_check.proofs.shapes.add_columns_from.Goals as goal

pub loop-k-preserved : goal.loop-k-preserved
loop-k-preserved c =
    let l : c.loop-k.k < c.args.width = omega arith in
    columns_more c.args.q c.loop-k.k c.args.width c.loop-k.out.items c.push.new.self.items l c.in_ok-push.ensures.items ∙ c.loop-k.invariant
