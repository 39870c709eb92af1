use Rattle.std.proofs.Common.{◌≡◌, ◌++◌, ℕ, List, ap, ap₂, sym, ◌∙◌}
use Rattle.qgm_core.specs.Boxes.{width}
use Rattle.graph_sql.specs.Bodies.{body_sql}
use Rattle.graph_sql.specs.BodyText.{body_text, source_text, where_text}
use Rattle.graph_sql.specs.Lists.{node_conditions, node_source}
use Rattle.graph_sql.specs.Scoped.{names_in, number_in}
use Rattle.graph_sql.specs.StatementText.{at_least_one}
use Rattle.graph_sql.proofs.BodyLists.{conditions_written, source_written}
use Rattle.graph_sql.proofs.boxes.written.Goals as goal

pub returns : goal.returns
returns c =
    let s = c.args.scope.now in
    let n = c.args.node.now in
    let body = body_sql (names_in s) c.args.tables.now n in
    let text = body_text (number_in s) body in
    let t : c.put_body.new.out ≡ text = c.in_ok-put_body.ensures ∙ ap (λ (x : List ℕ). x ++ text) c.in_ok-text.ensures in
    let u : c.put_source_of.new.out ≡ source_text (number_in s) text body =
    c.in_ok-put_source_of.ensures ∙ ap₂ (λ (x y : List ℕ). x ++ node_source s y n) c.in_ok-source.ensures t ∙ sym (source_written c.args.tables.now s text n) in
    let v : c.put_conditions_of.new.out ≡ where_text (number_in s) body =
    c.in_ok-put_conditions_of.ensures ∙ ap (λ (x : List ℕ). x ++ node_conditions s n) c.in_ok-conditions.ensures ∙ sym (conditions_written c.args.tables.now s n) in
    ap₂ (λ (k : ℕ) (x : List ℕ). record { columns = k; text = x; source = c.put_source_of.new.out; conditions = c.put_conditions_of.new.out }) c.columns_of.ensures t
    ∙ ap₂ (λ (x y : List ℕ). record { columns = at_least_one (width n); text = text; source = x; conditions = y }) u v
