use Rattle.std.proofs.Common.{map, ap, ◌∙◌}
use Rattle.std.proofs.lemmas.Result.{IfOk-weaker}
use Rattle.graph_sql.specs.Settings.{item_of, made_at, setting_in}
use Rattle.graph_sql.proofs.Items.{made-written}
use Rattle.graph_sql.proofs.boxes.made_of.Goals as goal

pub returns : goal.returns
returns c =
    let e = c.scope_of-scope.ensures.items ∙ c.deref.ensures.value ∙ c.in_ok-items.ensures ∙ ap (map (item_of (setting_in c.args.sheet.now) (made_at c.args.made.now))) c.as_slice.ensures in
    IfOk-weaker c.written.result _ _
    (λ m is. is ∙ made-written c.scope_of-scope.result (setting_in c.args.sheet.now) (made_at c.args.made.now) c.args.node.now c.scope_of-scope.ensures.at e c.scope_of-scope.ensures.sure) c.written.ensures
