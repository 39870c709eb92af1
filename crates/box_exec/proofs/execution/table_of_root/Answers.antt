use Rattle.std.proofs.Common.{[], sym, ◌∙◌}
use Rattle.std.proofs.lemmas.Option.{IfSome_then}
use Rattle.qgm_meaning.specs.Meaning.{rows_or_none}
use Rattle.row_bag.specs.Tables.{bag_named}
use Rattle.box_exec.proofs.Roots.{root-rows}
use Rattle.box_exec.proofs.execution.table_of_root.Goals as goal

pub returns : goal.returns
returns c =
    let tables = c.args.tables.now in
    let graph = c.args.graph.now in
    IfSome_then c.table_handed_on.result c.table_handed_on.ensures (λ name same.
    root-rows graph.boxes c.nodes-nodes.result.now graph.root c.root.result c.nodes-nodes.ensures c.root.ensures tables c.in-Some.i c.index-nodes-i.result c.behind.result.now (rows_or_none (bag_named tables name.now))
    (sym c.place_of.ensures ∙ c.in-Some.is) c.index-nodes-i.is c.behind.ensures (same []))
