use Rattle.std.proofs.Common.{◌≡◌, ℕ, List, ap, subst, ◌∙◌}
use Rattle.std.specs.Prelude.{IfOk}
use Rattle.graph_print.specs.GraphText.{box_order, quant_order}
use Rattle.qgm_props.specs.Inferred.{not_null_under}
use Rattle.qgm_props.specs.Table.{facts_of}
use Rattle.graph_sql.specs.Settings.{setting_in}
use Rattle.graph_sql.specs.StatementText.{Setting, made_in, setting_of, text_by}
use Rattle.graph_sql.proofs.text.statement.Goals as goal

pub returns : goal.returns
returns c =
    let e : setting_in c.in_ok-sheet.sheet ≡ setting_of c.args.tables.now (not_null_under c.args.graph.now.boxes (facts_of c.args.facts.now)) c.args.graph.now =
    c.in_ok-sheet.ensures
    ∙ ap (λ (list : List ℕ). record {
      tables = c.args.tables.now;
      quants = quant_order c.args.graph.now;
      boxes = box_order c.args.graph.now;
      entries = list;
      not_null = not_null_under c.args.graph.now.boxes (facts_of c.args.facts.now);
    }) (c.deref-3.ensures.value ∙ c.in_ok-list.ensures) in
    subst (λ (s : Setting). IfOk c.text_with.result (λ t. t ≡ text_by s c.args.graph.now (made_in s c.args.graph.now.boxes))) e c.text_with.ensures
