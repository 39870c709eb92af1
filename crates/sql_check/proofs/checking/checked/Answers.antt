use Rattle.std.proofs.Common.{◌∙◌, List, ap, subst, sym}
use Rattle.sql_ast.specs.Shown as written
use Rattle.sql_catalog.specs.Shown as declared
use Rattle.sql_faults.specs.Laws.{AreTyped, column_names}
use Rattle.sql_faults.specs.declared.column.TypedColumn.{TypedColumn}
use Rattle.sql_check.proofs.ByPlaces.{checked-answer, checked-names, checked-rows, checked-types}
use Rattle.sql_check.proofs.checking.checked.Goals as goal

pub returns-clause-typed : goal.returns-clause-typed
returns-clause-typed c valid =
    let checks = c.check_laws.ensures in
    let catalog = declared.catalog c.args.catalog.now in
    let text = written.query_text c.args.text.now in
    subst (λ (found : List TypedColumn). AreTyped found) (sym c.requires.found)
    (checked-types checks.types checks.typed_tables c.place_laws.ensures.shallow catalog valid c.requires.views.valid text.query (checks.text catalog text c.requires.valid))

pub returns-clause-names : goal.returns-clause-names
returns-clause-names c =
    let checks = c.check_laws.ensures in
    c.in_ok-x.ensures.names
    ∙ checked-names checks.names checks.tables c.place_laws.ensures.columns (declared.catalog c.args.catalog.now) (written.query c.args.text.now.query)
    ∙ ap column_names (sym c.requires.found)

pub returns-clause-rows : goal.returns-clause-rows
returns-clause-rows c =
    let checks = c.check_laws.ensures in
    let places = c.place_laws.ensures in
    let catalog = declared.catalog c.args.catalog.now in
    let text = written.query_text c.args.text.now in
    checked-rows checks.tables checks.even checks.views places.columns places.shallow places.sound places.schema catalog c.args.views.now (record { query = c.in_ok-x.x.query; columns = c.args.found; names = c.in_ok-x.x.columns; order = c.in_ok-x.x.order }) text.query
    c.requires.views (checks.text catalog text c.requires.valid) c.in_ok-x.ensures.query

pub returns-clause-answer : goal.returns-clause-answer
returns-clause-answer c =
    let checks = c.check_laws.ensures in
    let places = c.place_laws.ensures in
    let catalog = declared.catalog c.args.catalog.now in
    let text = written.query_text c.args.text.now in
    checked-answer checks.tables checks.even checks.views places.columns places.shallow places.sound places.answers catalog c.args.views.now (record { query = c.in_ok-x.x.query; columns = c.args.found; names = c.in_ok-x.x.columns; order = c.in_ok-x.x.order }) text
    c.requires.views (checks.text catalog text c.requires.valid) c.in_ok-x.ensures.names c.in_ok-x.ensures.order c.in_ok-x.ensures.query
