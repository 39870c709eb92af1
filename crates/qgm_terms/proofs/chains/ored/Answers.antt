use Rattle.std.proofs.Common.{◌∙◌, ap, refl}
use Rattle.qgm_terms.proofs.Pushed.{ored_more}
use Rattle.qgm_terms.proofs.Lists.{conds_hidden}
use Rattle.qgm_terms.specs.Shown.{cond}
use Rattle.qgm_terms.specs.Terms.{or, ored}
use Rattle.qgm_terms.proofs.chains.ored.Goals as goal

pub returns-in_ok-push-in-Ok : goal.returns-in_ok-push-in-Ok
returns-in_ok-push-in-Ok c =
    let e = rw c.in-Ok.is at c.into_any.ensures.any in
    ap (ored (cond c.in-Ok.first.value)) (conds_hidden _)
    ∙ ored_more _ _ _ _ c.in_ok-push-in-Ok.ensures.items
    ∙ (rw (e, conds_hidden c.in-Ok.list) refl)

pub returns-in_ok-new-in-Err : goal.returns-in_ok-new-in-Err
returns-in_ok-new-in-Err c =
    let e = rw c.in-Err.is at c.into_any.ensures.other in
    ap (ored (cond c.in_ok-new-in-Err.field-0.value)) (conds_hidden c.in_ok-list-in-Err.list)
    ∙ (rw (c.in_ok-list-in-Err.ensures, e) (ap (λ x. or (cond x) (cond c.args.next)) c.in_ok-new-in-Err.ensures.ok))
