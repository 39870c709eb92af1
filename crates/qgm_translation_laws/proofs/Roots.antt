-- The root of a graph that is built of a valid query has the query's rows.
use Rattle.std.proofs.Common.{◌≡◌, ◌∙◌, ℕ, List, [], Option, sym}
use Rattle.std.specs.Prelude.{All}
use Rattle.row_bag.specs.declared.tables.Table.{Table}
use Rattle.sql_ast.specs.Declarations.{Declared}
use Rattle.sql_ast.specs.Syntax as s
use Rattle.sql_value.specs.declared.order_key.OrderKey.{OrderKey}
use Rattle.sql_value.specs.declared.order_key.SqlType.{SqlType}
use Rattle.sql_meaning.specs.ResolvedMeaning.{rows}
use Rattle.sql_meaning.specs.ResolvedViews.{known_of}
use Rattle.sql_names.proofs.Valid.{is_sound, shallow}
use Rattle.sql_names.proofs.Whole.{whole_rows}
use Rattle.sql_names.specs.Even.{EvenQuery}
use Rattle.sql_names.specs.Resolved.{bare, query}
use Rattle.sql_names.specs.Schema.{Sound, schema_columns, view_trees}
use Rattle.sql_faults.proofs.Catalogs.{valid_text, valid_views}
use Rattle.sql_faults.proofs.Evens.{even_query}
use Rattle.sql_catalog.proofs.EachLaws.{all_of_each, each_more, each_of_all}
use Rattle.sql_faults.specs.Faults.{query_fault}
use Rattle.sql_faults.specs.Views.{heads_of}
use Rattle.qgm_core.specs.Boxes.{QueryGraph}
use Rattle.qgm_meaning.specs.Meaning.{root_bag}
use Rattle.qgm_terms.specs.Terms.{Term}
use Rattle.qgm_translation.proofs.Boxes.{agree}
use Rattle.qgm_translation.proofs.Wide.{wide-all}
use Rattle.qgm_translation.specs.Law.{StandFor}
use Rattle.qgm_translation.specs.Shown.{of_query}
use Rattle.qgm_translation_laws.proofs.Schemas.{schema_same}
use Rattle.qgm_translation_laws.proofs.Standing.{schema_stands}
use Rattle.qgm_translation_laws.specs.Joined.{AreTablesOf, HasRows, IsBuiltOver, ValidQuery}
use Rattle.qgm_translation_laws.specs.Sources.{sources_of}
use Rattle.qgm_translation_laws.specs.Typing.{ValidSchema}

even_body : (catalog : Declared) (body : s.Query) → query_fault (heads_of catalog) body [] ≡ 0 → EvenQuery (schema_columns catalog) [] body
even_body catalog body h = even_query (heads_of catalog) (bare (schema_columns catalog)) (schema_same catalog) body [] h

even_views : (catalog : Declared) → ValidSchema catalog → All (λ (view : s.ViewDecl). EvenQuery (schema_columns catalog) [] view.query) catalog.views
even_views catalog valid =
    all_of_each (λ (view : s.ViewDecl). EvenQuery (schema_columns catalog) [] view.query) catalog.views
    (each_more (λ (view : s.ViewDecl). query_fault (heads_of catalog) view.query [] ≡ 0) (λ (view : s.ViewDecl). EvenQuery (schema_columns catalog) [] view.query) (λ view h. even_body catalog view.query h) catalog.views
    (each_of_all (λ (view : s.ViewDecl). query_fault (heads_of catalog) view.query [] ≡ 0) catalog.views (valid_views catalog (shallow catalog valid.accepted) valid.views)))

sound_tables : (catalog : Declared) (tables : List Table) → ValidSchema catalog → AreTablesOf catalog tables → Sound catalog tables
sound_tables catalog tables valid fit = is_sound catalog valid.accepted tables fit.loaded fit.wide (even_views catalog valid)

pub names_stand : (catalog : Declared) (shared : List ℕ → ℕ) (typed : Term → SqlType) (tables : List Table) → ValidSchema catalog → AreTablesOf catalog tables
    → StandFor tables (sources_of catalog shared typed) (known_of (view_trees catalog) tables)
names_stand catalog shared typed tables valid fit = schema_stands catalog tables (sound_tables catalog tables valid fit) valid shared typed

pub valid_rows : (catalog : Declared) (shared : List ℕ → ℕ) (typed : Term → SqlType) (text : s.QueryText) (names : List (Option (List ℕ))) (order : List OrderKey) (g : QueryGraph) (tables : List Table)
    → ValidQuery catalog text → IsBuiltOver catalog (sources_of catalog shared typed) text names order g → AreTablesOf catalog tables → HasRows catalog tables text g
valid_rows catalog shared typed text names order g tables valid built fit =
    let stand : StandFor tables (sources_of catalog shared typed) (known_of (view_trees catalog) tables) = names_stand catalog shared typed tables valid.schema fit in
    let same : root_bag tables g ≡ rows (known_of (view_trees catalog) tables) (query (schema_columns catalog) [] text.query) []
    = agree tables (known_of (view_trees catalog) tables) (sources_of catalog shared typed) (λ name. wide-all ((sources_of catalog shared typed).columns name) (known_of (view_trees catalog) tables name) (stand.wide name)) stand.views
    g.boxes g.root (of_query (query (schema_columns catalog) [] text.query)) [] built.shows [] in
    record {
      places = same;
      meant = same ∙ sym (whole_rows catalog tables (sound_tables catalog tables valid.schema fit) text.query (even_body catalog text.query (valid_text catalog text valid.valid)));
    }
