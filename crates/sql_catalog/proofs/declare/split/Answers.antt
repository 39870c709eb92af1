use Rattle.std.proofs.Common.{ap, map, arith}
use Rattle.sql_ast.specs.Shown as shown
use Rattle.sql_catalog.proofs.SplitLaws.{table_added, tables_first, view_added, views_first}
use Rattle.std.proofs.lemmas.Grind.{common_steps}
use Rattle.sql_catalog.proofs.declare.split.Goals as goal

pub loop-statement-init : goal.loop-statement-init
loop-statement-init c = record {
  tables = tables_first c.in_ok-left.left c.args.schema.statements c.new-tables.result c.in_ok-left.ensures c.new-tables.ensures;
  views = views_first c.in_ok-left.left c.args.schema.statements (map shown.view c.new-views.result) c.in_ok-left.ensures (ap (map shown.view) c.new-views.ensures);
}

pub loop-statement-preserved : goal.loop-statement-preserved
loop-statement-preserved c = record {
  tables = table_added c.loop-statement.left c.pop.new.self c.in-Some.statement c.loop-statement.tables c.add.new.tables _ c.in-Some.ensures c.in_ok-add.ensures.tables c.loop-statement.invariant.tables;
  views = view_added c.loop-statement.left c.pop.new.self c.in-Some.statement (map shown.view c.loop-statement.views) (map shown.view c.add.new.views) _ c.in-Some.ensures c.in_ok-add.ensures.views c.loop-statement.invariant.views;
}

pub loop-statement-smaller : goal.loop-statement-smaller
loop-statement-smaller c = grind (arith, common_steps)

pub returns : goal.returns
returns c = grind (arith, common_steps)
