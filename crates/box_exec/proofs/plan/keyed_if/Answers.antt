use Rattle.std.proofs.Common.{◌∙◌, subst}
use Rattle.std.specs.Prelude.{IfOk, IfSome}
use Rattle.std.proofs.lemmas.Result.{IfOk-weaker}
use Rattle.qgm_meaning.specs.Values.{Bag}
use Rattle.box_exec.specs.Early.{rejects}
use Rattle.box_exec.specs.Lookup.{FitsKeys}
use Rattle.box_exec.proofs.plan.keyed_if.Goals as goal

pub returns-clause-fits : goal.returns-clause-fits
returns-clause-fits c =
    let test = rejects c.args.early.now c.args.place in
    let q = c.args.l.now.range.id in
    subst (λ (rows : Bag). IfOk c.keyed_by.result (λ o. IfSome o (λ k. FitsKeys test q rows k))) c.kept_rows.ensures (c.keyed_by.ensures.fits test c.in_ok-keys.ensures.rejects)

pub returns-clause-made : goal.returns-clause-made
returns-clause-made c = λ f. IfOk-weaker c.keyed_by.result _ _ (λ o h. h ∙ c.in_ok-keys.ensures.exact) c.keyed_by.ensures.made
