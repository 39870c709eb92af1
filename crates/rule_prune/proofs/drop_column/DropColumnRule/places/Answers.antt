use Rattle.std.proofs.Common.{◌<◌, ◌∙◌, length, ap, subst, sym, arith}
use Rattle.std.proofs.lemmas.Grind.{common_steps}
use Rattle.qgm_core.specs.Boxes.{is_box}
use Rattle.list_laws.specs.Lists.{first}
use Rattle.rule_prune.specs.DropColumnExact.{drop_column_ascend}
use Rattle.rule_prune.proofs.DropColumnActs.{columns_more, found-itself}
use Rattle.rule_prune.proofs.drop_column.DropColumnRule.places.Goals as goal

pub may_drop-requires-clause-found : goal.may_drop-requires-clause-found
may_drop-requires-clause-found c = found-itself c.args.graph.now c.args.b c.in-Some.node.now (sym (c.in-Some.ensures ∙ ap (first (is_box c.args.b)) c.nodes.ensures))

pub loop-k-preserved : goal.loop-k-preserved
loop-k-preserved c =
    let l : c.loop-k.k < length c.in-Some.node.now.parts.head = subst (λ z. c.loop-k.k < z) c.len-k-end.ensures c.loop-k-test.true in
    let e = columns_more c.loop-k.k (length c.in-Some.node.now.parts.head) l in
    grind (arith, common_steps, e)

pub returns-in_err-named-clause-order : goal.returns-in_err-named-clause-order
returns-in_err-named-clause-order c = drop_column_ascend c.args.graph.now c.args.b

pub returns-in_err-passes-clause-order : goal.returns-in_err-passes-clause-order
returns-in_err-passes-clause-order c = drop_column_ascend c.args.graph.now c.args.b

pub returns-in_err-add_if-clause-order : goal.returns-in_err-add_if-clause-order
returns-in_err-add_if-clause-order c = drop_column_ascend c.args.graph.now c.args.b

pub returns-clause-order : goal.returns-clause-order
returns-clause-order c = drop_column_ascend c.args.graph.now c.args.b
