use Rattle.std.proofs.Common.{◌∙◌, refl, rules}
use Rattle.std.proofs.lemmas.Result.{err_from_is_err_and}
use Rattle.command_line.proofs.ClassLemmas.{last_name, next_name}
use Rattle.command_line.proofs.Refusals.{same_refusal}
use Rattle.command_line.proofs.classes.classes_listed.Goals as goal

pub returns-in_err-add_named-clause-usage : goal.returns-in_err-add_named-clause-usage
returns-in_err-add_named-clause-usage c =
    let p = err_from_is_err_and c.from_residual.result c.from_residual.ensures.1 in
    rw (p.1, p.2) (λ u.
    let is = next_name c.loop-name.classes c.loop-name.rest.now c.split_once.result _ c.split_once.ensures.cases c.in-Some.is in
    c.loop-name.invariant.1 ∙ (is ∙ rw (c.in_err-add_named.ensures.usage (same_refusal _ _ u)) refl))

pub loop-name-preserved : goal.loop-name-preserved
loop-name-preserved c =
    let is = next_name c.loop-name.classes c.loop-name.rest.now c.split_once.result _ c.split_once.ensures.cases c.in-Some.is in
    (search rules, c.loop-name.invariant.1 ∙ (is ∙ rw c.in_ok-add_named.ensures.ok refl))

pub returns-in_err-add_named-2-clause-usage : goal.returns-in_err-add_named-2-clause-usage
returns-in_err-add_named-2-clause-usage c =
    let p = err_from_is_err_and c.from_residual-in_err-add_named-2.result c.from_residual-in_err-add_named-2.ensures.1 in
    rw (p.1, p.2) (λ u.
    let is = last_name c.loop-name.classes c.loop-name.rest.now c.split_once.result c.split_once.ensures.cases c.in_default.is in
    c.loop-name.invariant.1 ∙ (is ∙ c.in_err-add_named-2.ensures.usage (same_refusal _ _ u)))
