use Rattle.std.proofs.Common.{◌≡◌, ◌∙◌, [], ap, map, subst}
use Rattle.std.specs.Prelude.{IfOk}
use Rattle.sql_ast.specs.Shown as written
use Rattle.sql_meaning.specs.Meaning.{order_key}
use Rattle.sql_meaning.specs.Names.{names}
use Rattle.sql_meaning.specs.ResolvedShown as shown
use Rattle.sql_names.specs.Resolved.{Columns, bare, query}
use Rattle.sql_names.specs.Shapes.{columns_among}
use Rattle.sql_check.proofs.checking.resolved.Goals as goal

pub returns-clause-names : goal.returns-clause-names
returns-clause-names c =
    subst (λ (k : Columns). IfOk c.resolve_text.result (λ x. x.columns ≡ names (bare k) (written.query c.args.text.now.query) []))
    (ap columns_among c.as_slice.ensures ∙ c.requires.views.columns) c.resolve_text.ensures.columns

pub returns-clause-order : goal.returns-clause-order
returns-clause-order c =
    subst (λ (k : Columns). IfOk c.resolve_text.result (λ x. x.order ≡ map (order_key (names (bare k) (written.query c.args.text.now.query) [])) c.args.text.now.order))
    (ap columns_among c.as_slice.ensures ∙ c.requires.views.columns) c.resolve_text.ensures.order

pub returns-clause-query : goal.returns-clause-query
returns-clause-query c =
    subst (λ (k : Columns). IfOk c.resolve_text.result (λ x. shown.query x.query ≡ query k [] (written.query c.args.text.now.query)))
    (ap columns_among c.as_slice.ensures ∙ c.requires.views.columns) c.resolve_text.ensures.query
