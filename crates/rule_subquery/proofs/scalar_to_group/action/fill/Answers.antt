use Rattle.std.proofs.Common.{◌≡◌, ◌∙◌, ap, ap₂, arith}
use Rattle.std.proofs.lemmas.Grind.{common_steps}
use Rattle.qgm_core.specs.Edits.{drop_box, put_terms, redirect}
use Rattle.rule_subquery.specs.ScalarToGroupLaws.{single_head}
use Rattle.rule_subquery.specs.ScalarToGroupSteps.{filled, no_conds}
use Rattle.rule_subquery.proofs.ScalarToGroupActs.{filled-gone, ranged-gone}
use Rattle.rule_subquery.proofs.scalar_to_group.action.fill.Goals as goal

pub returns-in_err-head-clause-err : goal.returns-in_err-head-clause-err
returns-in_err-head-clause-err c = grind (arith, common_steps, ranged-gone)

pub returns-then-is_err-clause-err : goal.returns-then-is_err-clause-err
returns-then-is_err-clause-err c =
    let n : c.new.result ≡ no_conds = ap₂ (λ items spare. record { items = items; spare = spare }) c.new.ensures.items c.new.ensures.spare in
    let f : c.put_terms.new.self ≡ filled c.args.group c.in_ok-q.q c.args.r.over c.args.graph.now =
    c.put_terms.ensures.graph ∙ ap₂ (λ k h. put_terms c.args.group k h c.add_quant.new.self) n c.in_ok-head.ensures ∙ ap (put_terms c.args.group no_conds (single_head c.in_ok-q.q)) c.in_ok-q.ensures.ok in
    let same : c.compact.new.self ≡ c.redirect.new.self = grind (arith, common_steps) in
    ap (drop_box c.args.group) (
    c.redirect-then-is_err.ensures.graph ∙ ap (redirect c.args.r.id c.args.r.over) (same ∙ c.redirect.ensures.graph ∙ ap (redirect c.args.r.id c.args.group) f) ∙ c.requires.undone c.in_ok-q.q c.in_ok-q.ensures.fresh)
    ∙ filled-gone c.args.graph.now c.args.group c.in_ok-q.q c.args.r.over
