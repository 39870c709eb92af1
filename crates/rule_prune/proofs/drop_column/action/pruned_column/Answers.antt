use Rattle.std.proofs.Common.{ℕ, ◌∙◌, List, sym, ap, subst}
use Rattle.qgm_core.specs.Boxes.{is_box}
use Rattle.list_laws.specs.Lists.{EachOnce, In, first}
use Rattle.rule_prune.proofs.DropColumnSteps.{all-held, all-once, box-found}
use Rattle.rule_prune.proofs.drop_column.action.pruned_column.Goals as goal

pub unreachable-requires : goal.unreachable-requires
unreachable-requires c = box-found c.in_ok-after.after c.args.b c.in_ok-after.ensures.held (sym (c.in_default.ensures ∙ ap (first (is_box c.args.b)) c.nodes.ensures))

pub drop_all-requires-clause-held : goal.drop_all-requires-clause-held
drop_all-requires-clause-held c = λ q i.
    all-held c.args.graph.now c.each_number_once.ensures c.requires.formed c.args.b c.args.k c.requires.given c.in_ok-after.after c.in_ok-after.ensures.graph c.in-Some.node.now (sym (c.in-Some.ensures ∙ ap (first (is_box c.args.b)) c.nodes.ensures))
    q (subst (λ (z : List ℕ). In q z) (c.deref.ensures.value ∙ c.in_ok-list.ensures) i)

pub drop_all-requires-clause-once : goal.drop_all-requires-clause-once
drop_all-requires-clause-once c =
    subst (λ (z : List ℕ). EachOnce z) (sym (c.deref.ensures.value ∙ c.in_ok-list.ensures))
    (all-once c.args.graph.now c.each_number_once.ensures c.requires.formed c.args.b c.args.k c.requires.given c.in_ok-after.after c.in_ok-after.ensures.graph c.in-Some.node.now (sym (c.in-Some.ensures ∙ ap (first (is_box c.args.b)) c.nodes.ensures)))
