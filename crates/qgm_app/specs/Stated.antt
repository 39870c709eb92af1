-- The statement that a question's graph is rewritten to.
use Rattle.std.specs.Prelude.{ℕ, List, map}
use Rattle.graph_sql.specs.declared.tables.TableNames.{TableNames}
use Rattle.qgm_core.specs.Boxes.{QueryGraph}
use Rattle.qgm_run.specs.Stated.{IsStatement}
use Rattle.rule_plan.specs.declared.plan.Plan.{Plan}
use Rattle.sql_ast.specs.Declarations.{Declared, columns_of, names_of}
use Rattle.sql_ast.specs.declared.schema.TableDecl.{TableDecl}
use Rattle.command_input.specs.Questions.{Question}
use Rattle.qgm_app.specs.Rewriting.{IsBuilt}

-- a table's name, and those of its columns
abbrev pub named_table : TableDecl → TableNames
named_table t = record { name = t.name; columns = names_of (columns_of t.elements) }

-- those of a schema
abbrev pub named_tables : Declared → List TableNames
named_tables catalog = map named_table catalog.tables

-- the text is the statement of the graph that the graph of the question is rewritten to, by this plan, over the tables of its schema
pub record IsStated (plan : Plan) (q : Question) (text : List ℕ) : Type 0 where
  pub graph : QueryGraph
  pub built : IsBuilt q graph
  pub statement : IsStatement (named_tables q.catalog) plan graph text
