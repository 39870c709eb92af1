use Rattle.std.proofs.Common.{◌∙◌, ap, slice_index_or, subst, sym}
use Rattle.qgm_core.specs.Boxes.{is_box}
use Rattle.list_laws.specs.Lists.{In, first}
use Rattle.list_laws.proofs.Indexed.{get-in, index-get}
use Rattle.qgm_core.specs.declared.kinds.QuantKind.TheVariants.{F}
use Rattle.qgm_core.specs.declared.owned.OwnedQuant.{OwnedQuant}
use Rattle.rule_prune.specs.DropQuantifierExact.{drop_quantifier_ascend}
use Rattle.rule_prune.proofs.DropQuantifierActs.{found-in, own-quant}
use Rattle.rule_prune.proofs.drop_quantifier.DropQuantifierRule.places.Goals as goal

pub may_drop-requires-clause-within : goal.may_drop-requires-clause-within
may_drop-requires-clause-within c = found-in c.args.graph.now c.args.b c.in-Some.node.now (sym (c.in-Some.ensures ∙ ap (first (is_box c.args.b)) c.nodes.ensures))

pub may_drop-requires-clause-owned : goal.may_drop-requires-clause-owned
may_drop-requires-clause-owned c =
    let d : OwnedQuant = record { id = 0; kind = F; over = 0 } in
    let r : OwnedQuant = slice_index_or c.as_slice-list.result.now c.loop-k.k d in
    own-quant c.in-Some.node.now r (subst (λ z. In r z) c.as_slice-list.ensures (get-in c.loop-k.k c.as_slice-list.result.now r (index-get c.loop-k.k c.as_slice-list.result.now d c.loop-k-test.true)))

pub returns-in_err-facts-clause-order : goal.returns-in_err-facts-clause-order
returns-in_err-facts-clause-order c = drop_quantifier_ascend c.args.graph.now c.args.b

pub returns-in_err-passes-clause-order : goal.returns-in_err-passes-clause-order
returns-in_err-passes-clause-order c = drop_quantifier_ascend c.args.graph.now c.args.b

pub returns-in_err-add_if-clause-order : goal.returns-in_err-add_if-clause-order
returns-in_err-add_if-clause-order c = drop_quantifier_ascend c.args.graph.now c.args.b

pub returns-clause-order : goal.returns-clause-order
returns-clause-order c = drop_quantifier_ascend c.args.graph.now c.args.b
