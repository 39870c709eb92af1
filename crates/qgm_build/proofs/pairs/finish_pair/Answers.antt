use Rattle.std.proofs.lemmas.Result.{IfOk-weaker}
use Rattle.qgm_build.specs.Laying.{told_at}
use Rattle.qgm_build_terms.specs.SoFar.{so_far}
use Rattle.qgm_build.proofs.Paired.{two_read}
use Rattle.qgm_build.proofs.Taking.{and_both}
use Rattle.qgm_build.proofs.pairs.finish_pair.Goals as goal

pub returns : goal.returns
returns c =
    IfOk-weaker c.put.result _ _ (λ r e. and_both c.args.a c.args.b _ _ _ c.in_ok-quants.ensures.quants c.in_ok-quants.ensures.store
    (λ left right qs ss. two_read (told_at c.args.g.now) c.args.form c.args.n left right r (so_far c.args.st.now) (so_far c.pair.new.st) _ c.in_ok-quants.quants c.in_ok-types.types _ _
    qs ss c.in_ok-types.ensures c.new.ensures.items c.new-2.ensures e)) c.put.ensures
