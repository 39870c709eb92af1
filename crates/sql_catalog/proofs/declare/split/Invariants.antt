use Rattle.std.proofs.Common.{◌≡◌, ◌++◌, reverse, length, map, ℕ}
use Rattle.sql_ast.specs.Shown as shown
use Rattle.sql_ast.specs.Declarations.{tables_of, views_of}
use Rattle.sql_catalog.proofs.declare.split.Given as goal

abbrev pub invariant-loop-statement : goal.invariant-loop-statement
invariant-loop-statement l = record {
  tables : l.tables ++ tables_of (map shown.statement (reverse l.left)) ≡ tables_of (map shown.statement l.fn.schema.statements);
  views : map shown.view l.views ++ views_of (map shown.statement (reverse l.left)) ≡ views_of (map shown.statement l.fn.schema.statements);
}

abbrev pub decreases-loop-statement : goal.decreases-loop-statement
decreases-loop-statement l = length l.left
