use Rattle.std.proofs.Common.{◌∙◌, ap, map, sym, subst, List}
use Rattle.qgm_props.specs.Table.{Improves, begun, nothing_of}
use Rattle.qgm_props.specs.declared.facts.BoxFacts.{BoxFacts}
use Rattle.qgm_props.proofs.infer.improved_table.Goals as goal

pub loop-table-init : goal.loop-table-init
loop-table-init c = subst (λ (t : List BoxFacts). Improves c.args.nodes.now t) (sym (c.in_ok-table.ensures ∙ ap (map nothing_of) c.nodes.ensures)) begun
