use Rattle.std.proofs.Common.{◌≡◌, ◌∙◌, length, refl, sym, ap, arith}
use Rattle.std.proofs.lemmas.Grind.{common_steps}
use Rattle.qgm_terms.specs.Shown.{cond, conds}
use Rattle.qgm_terms.specs.Terms.{anded, ored}
use Rattle.qgm_terms.proofs.Lists.{conds_hidden}
use Rattle.rule_subquery.specs.ExistsToJoinSteps.{inner_of}
use Rattle.rule_subquery.proofs.ExistsToJoinTerms.{anded-none, inner-anded, inner-ored, ored-none}
use Rattle.rule_subquery.proofs.exists_to_join.conjunct.+inner_of.Goals as goal

pub returns-then-is_empty : goal.returns-then-is_empty
returns-then-is_empty h c =
    let e : length c.in-All.list.items ≡ 0 = grind (arith, common_steps) in
    let s : cond c.args.x.now ≡ anded (cond c.in-All.a.value) (conds c.in-All.list.items) = rw (c.in-All.is, conds_hidden c.in-All.list) refl in
    c.inner_of.ensures ∙ ap (λ p. inner_of c.args.q (cond p)) c.deref-then-is_empty.ensures ∙ sym (ap (inner_of c.args.q) (s ∙ anded-none (cond c.in-All.a.value) c.in-All.list.items e))

pub returns-else-is_empty : goal.returns-else-is_empty
returns-else-is_empty h c =
    let e : length c.in-All.list.items ≡ 0 → ⊥ = λ t. grind (arith, common_steps, t) in
    let s : cond c.args.x.now ≡ anded (cond c.in-All.a.value) (conds c.in-All.list.items) = rw (c.in-All.is, conds_hidden c.in-All.list) refl in
    sym (ap (inner_of c.args.q) s ∙ inner-anded c.args.q (cond c.in-All.a.value) c.in-All.list.items e)

pub returns-then-is_empty-2 : goal.returns-then-is_empty-2
returns-then-is_empty-2 h c =
    let e : length c.in-Any.list.items ≡ 0 = grind (arith, common_steps) in
    let s : cond c.args.x.now ≡ ored (cond c.in-Any.a.value) (conds c.in-Any.list.items) = rw (c.in-Any.is, conds_hidden c.in-Any.list) refl in
    c.inner_of-then-is_empty-2.ensures ∙ ap (λ p. inner_of c.args.q (cond p)) c.deref-then-is_empty-2.ensures ∙ sym (ap (inner_of c.args.q) (s ∙ ored-none (cond c.in-Any.a.value) c.in-Any.list.items e))

pub returns-else-is_empty-2 : goal.returns-else-is_empty-2
returns-else-is_empty-2 h c =
    let e : length c.in-Any.list.items ≡ 0 → ⊥ = λ t. grind (arith, common_steps, t) in
    let s : cond c.args.x.now ≡ ored (cond c.in-Any.a.value) (conds c.in-Any.list.items) = rw (c.in-Any.is, conds_hidden c.in-Any.list) refl in
    sym (ap (inner_of c.args.q) s ∙ inner-ored c.args.q (cond c.in-Any.a.value) c.in-Any.list.items e)
