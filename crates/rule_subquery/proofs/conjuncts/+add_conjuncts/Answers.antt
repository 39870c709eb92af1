use Rattle.std.proofs.Common.{◌≡◌, ◌++◌, ◌∷◌, [], ◌∙◌, length, refl, ap, arith}
use Rattle.std.specs.List.{flat_map}
use Rattle.std.proofs.lemmas.Grind.{common_steps}
use Rattle.std.proofs.lemmas.Result.{on_ok_weaker}
use Rattle.qgm_terms.specs.Shown.{cond, conds}
use Rattle.qgm_terms.specs.Terms.{ored}
use Rattle.qgm_terms.proofs.Lists.{conds_hidden}
use Rattle.qgm_edit_laws.specs.ConjunctsOf.{conjuncts}
use Rattle.rule_subquery.proofs.ConjunctSteps.{put-all, put-any, put-none}
use Rattle.rule_subquery.proofs.conjuncts.+add_conjuncts.Goals as goal

pub add_conjuncts-returns-in_ok-add_conjuncts-in-All-clause-items : goal.add_conjuncts-returns-in_ok-add_conjuncts-in-All-clause-items
add_conjuncts-returns-in_ok-add_conjuncts-in-All-clause-items h c =
    rw (c.in-All.is, conds_hidden c.in-All.list) (on_ok_weaker c.add_conjuncts_of.result (λ f. put-all (cond c.in-All.a.value) (conds c.in-All.list.items) c.args.out.now.items c.add_conjuncts.new.out.items c.add_conjuncts_of.new.out.items
    (c.in_ok-add_conjuncts-in-All.ensures.items ∙ ap (λ p. c.args.out.now.items ++ conjuncts (cond p)) c.deref.ensures) (f ∙ ap (λ z. c.add_conjuncts.new.out.items ++ flat_map conjuncts (conds z)) c.deref-in-All.ensures.value)) c.add_conjuncts_of.ensures.items)

pub add_conjuncts-returns-then-is_empty-clause-items : goal.add_conjuncts-returns-then-is_empty-clause-items
add_conjuncts-returns-then-is_empty-clause-items h c =
    let e : length c.in-Any.list.items ≡ 0 = grind (arith, common_steps) in
    rw (c.in-Any.is, conds_hidden c.in-Any.list) (on_ok_weaker c.add_conjuncts-then-is_empty.result (λ f. put-none (cond c.in-Any.a.value) c.in-Any.list.items c.args.out.now.items c.add_conjuncts-then-is_empty.new.out.items e
    (f ∙ ap (λ p. c.args.out.now.items ++ conjuncts (cond p)) c.deref-then-is_empty.ensures)) c.add_conjuncts-then-is_empty.ensures.items)

pub add_conjuncts-returns-else-is_empty-clause-items : goal.add_conjuncts-returns-else-is_empty-clause-items
add_conjuncts-returns-else-is_empty-clause-items h c =
    let e : length c.in-Any.list.items ≡ 0 → ⊥ = λ t. grind (arith, common_steps, t) in
    let s : cond c.args.c.now ≡ ored (cond c.in-Any.a.value) (conds c.in-Any.list.items) = rw (c.in-Any.is, conds_hidden c.in-Any.list) refl in
    rw (c.in-Any.is, conds_hidden c.in-Any.list) (on_ok_weaker c.add_one.result (λ f. put-any (cond c.in-Any.a.value) c.in-Any.list.items c.args.out.now.items c.add_one.new.out.items e (f ∙ ap (λ p. c.args.out.now.items ++ p ∷ []) s)) c.add_one.ensures.items)
