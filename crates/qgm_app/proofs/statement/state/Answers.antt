use Rattle.std.proofs.Common.{List, map, ◌≡◌, ◌∙◌, ap, arith, subst}
use Rattle.std.proofs.lemmas.Grind.{common_steps}
use Rattle.std.proofs.lemmas.Result.{IfOk-weaker}
use Rattle.graph_sql.specs.declared.tables.TableNames.{TableNames}
use Rattle.qgm_run.specs.Stated.{IsStatement}
use Rattle.sql_ast.specs.declared.schema.TableDecl.{TableDecl}
use Rattle.qgm_app.specs.Stated.{named_table}
use Rattle.qgm_app.proofs.statement.state.Goals as goal

pub returns : goal.returns
returns c =
    let tables : c.as_slice.result.now ≡ c.args.question.now.catalog.tables = grind (arith, common_steps) in
    let own : c.as_slice-2.result.now ≡ c.in_ok-names.names = grind (arith, common_steps) in
    let names = own ∙ (c.in_ok-names.ensures ∙ ap (λ (ts : List TableDecl). map named_table ts) tables) in
    IfOk-weaker c.rewritten_statement.result _ _
    (λ text h. record {
      graph = c.in_ok-graph.graph;
      built = c.in_ok-graph.ensures.built;
      statement = subst (λ (names : List TableNames). IsStatement names c.args.plan.now c.in_ok-graph.graph text) names h;
    }) c.rewritten_statement.ensures
