use Rattle.std.proofs.lemmas.Grind.{common_steps}
use Rattle.rule_merge.specs.MergeSelectExact.{merge_select_ascending}
use Rattle.std.proofs.Common.{◌≡◌, ◌+◌, ◌-◌, ◌∙◌, Some, sym, ap, subst, slice_index_or, arith}
use Rattle.std.specs.Prelude.{slice_get}
use Rattle.qgm_core.specs.Boxes.{QueryGraph, box_of, is_box}
use Rattle.list_laws.specs.Lists.{first}
use Rattle.qgm_core.specs.declared.kinds.QuantKind.TheVariants.{F}
use Rattle.qgm_core.specs.declared.owned.OwnedQuant.{OwnedQuant}
use Rattle.rule_merge.proofs.MergeSelectPlaced.{found-itself}
use Rattle.rule_merge.proofs.merge_select.MergeSelectRule.places.Goals as goal
use Rattle.list_laws.proofs.Indexed.{index-get}

pub may_at-requires-clause-at : goal.may_at-requires-clause-at
may_at-requires-clause-at c =
    subst (λ (g : QueryGraph). box_of c.in-Some.node.now.id g ≡ Some c.in-Some.node.now) (sym c.in_ok-lookups.ensures.graph)
    (found-itself c.args.graph.now c.args.b c.in-Some.node.now (sym (c.in-Some.ensures ∙ ap (first (is_box c.args.b)) c.nodes.ensures)))

pub may_at-requires-clause-nth : goal.may_at-requires-clause-nth
may_at-requires-clause-nth c =
    let k = c.loop-k.k in
    let list = c.as_slice-list.result.now in
    let d : OwnedQuant = record { id = 0; kind = F; over = 0 } in
    let n : k ≡ k + 1 - 1 = omega arith in
    subst (λ j. slice_get c.in-Some.node.now.quants j ≡ Some (slice_index_or list k d)) n
    (subst (λ z. slice_get z k ≡ Some (slice_index_or list k d)) c.as_slice-list.ensures (index-get k list d c.loop-k-test.true))

pub returns-then-not-may_have-clause-order : goal.returns-then-not-may_have-clause-order
returns-then-not-may_have-clause-order c = grind (arith, common_steps, merge_select_ascending)

pub returns-in_err-lookups-clause-order : goal.returns-in_err-lookups-clause-order
returns-in_err-lookups-clause-order c = grind (arith, common_steps, merge_select_ascending)

pub returns-in_err-passes-clause-order : goal.returns-in_err-passes-clause-order
returns-in_err-passes-clause-order c = grind (arith, common_steps, merge_select_ascending)

pub returns-in_err-add_if-clause-order : goal.returns-in_err-add_if-clause-order
returns-in_err-add_if-clause-order c = grind (arith, common_steps, merge_select_ascending)

pub returns-clause-order : goal.returns-clause-order
returns-clause-order c = grind (arith, common_steps, merge_select_ascending)

pub may_at-requires-clause-formed : goal.may_at-requires-clause-formed
may_at-requires-clause-formed c = grind (arith, common_steps)

pub may_at-requires-clause-lookups : goal.may_at-requires-clause-lookups
may_at-requires-clause-lookups c = grind (arith, common_steps)

pub loop-k-preserved : goal.loop-k-preserved
loop-k-preserved c = grind (arith, common_steps)

pub overflow_add-k-in-loop-k : goal.overflow_add-k-in-loop-k
overflow_add-k-in-loop-k c = grind (arith, common_steps)

pub may_at-requires-clause-names : goal.may_at-requires-clause-names
may_at-requires-clause-names c = c.loop-k.invariant.names
