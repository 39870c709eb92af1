use Rattle.std.proofs.Common.{◌∙◌, ap, refl}
use Rattle.qgm_terms.proofs.Pushed.{linked_more}
use Rattle.qgm_terms.proofs.Lists.{links_hidden}
use Rattle.qgm_terms.specs.Shown.{term}
use Rattle.qgm_terms.specs.Terms.{both, linked}
use Rattle.qgm_terms.proofs.chains.chained.Goals as goal

pub returns-in_ok-push-in-Ok : goal.returns-in_ok-push-in-Ok
returns-in_ok-push-in-Ok c =
    let e = rw c.in-Ok.is at c.into_chain.ensures.chain in
    ap (linked (term c.in-Ok.first.value)) (links_hidden _)
    ∙ linked_more _ _ _ _ c.in_ok-push-in-Ok.ensures.items
    ∙ (rw (e, links_hidden c.in-Ok.list) refl)

pub returns-in_ok-new-in-Err : goal.returns-in_ok-new-in-Err
returns-in_ok-new-in-Err c =
    let e = rw c.in-Err.is at c.into_chain.ensures.other in
    ap (linked (term c.in_ok-new-in-Err.field-0.value)) (links_hidden c.in_ok-list-in-Err.list)
    ∙ (rw (c.in_ok-list-in-Err.ensures, e) (ap (λ x. both c.args.op (term x) (term c.args.next)) c.in_ok-new-in-Err.ensures.ok))
