-- A valid query means by places what its text means by names.
use Rattle.std.proofs.Common.{ℕ, ◌≡◌, ◌∙◌, List, [], map, Option, Some, None, refl, sym, ap, ap₂}
use Rattle.std.specs.Prelude.{All}
use Rattle.std.proofs.lemmas.List.Elements.{All-nil, All-weaker}
use Rattle.row_bag.specs.Tables.{bag_named}
use Rattle.row_bag.specs.Verdict.{verdict}
use Rattle.row_bag.specs.declared.row.Row.{Row}
use Rattle.row_bag.specs.declared.tables.Table.{Table}
use Rattle.sql_ast.specs.Syntax as s
use Rattle.sql_ast.specs.Declarations.{Declared, table_named}
use Rattle.sql_catalog.specs.Catalog.{fault}
use Rattle.sql_meaning.specs.Meaning.{Answer, answer, known_at, known_of, order_key, relation_of, rows}
use Rattle.sql_meaning.specs.Meaning as named
use Rattle.sql_meaning.specs.Names.{Known, Relation, columns_of, names}
use Rattle.sql_value.specs.declared.cell.Cell.{Cell}
use Rattle.sql_value.specs.declared.order_key.OrderKey.{OrderKey}
use Rattle.sql_meaning.specs.ResolvedMeaning as trees
use Rattle.sql_meaning.specs.ResolvedShown as shown
use Rattle.sql_meaning.specs.ResolvedTrees.{Query}
use Rattle.sql_meaning.specs.ResolvedViews.{ViewTree}
use Rattle.sql_meaning.specs.ResolvedViews as views
use Rattle.sql_faults.specs.Columns.{columns}
use Rattle.sql_faults.specs.Faults.{query_fault}
use Rattle.sql_faults.specs.Laws.{AreTyped, NestsShallow, SameColumns, SameNames, SameTables, TypedTables, ValidIsEven, ValidIsTyped, ValidViews, column_names}
use Rattle.sql_faults.specs.Views.{heads_of, view_refusal}
use Rattle.sql_names.specs.Agreed as places
use Rattle.sql_names.specs.Even.{EvenQuery}
use Rattle.sql_names.specs.Resolved.{bare, query, without_rows}
use Rattle.sql_names.specs.Schema.{Sound, columns_at, schema_columns, view_trees}
use Rattle.sql_names.specs.Schema as schema
use Rattle.sql_check.specs.Checked.{AreViews, IsFilled, answer_of, rows_of}
use Rattle.sql_check.specs.declared.checked.Checked.{Checked}
use Rattle.sql_check.specs.declared.checked.Views.{Views}

-- ---- the laws of places that these rest on

-- the columns of names at each depth are those of what the names stand for
abbrev pub ColumnsKnown : Type 0
ColumnsKnown = (catalog : Declared) → (tables : List Table) → (depth : ℕ) → (name : List ℕ) → columns_at catalog depth name ≡ places.columns_of (known_at catalog tables depth) name

abbrev pub ShallowSchema : Type 0
ShallowSchema = (catalog : Declared) → fault catalog ≡ None → NestsShallow catalog

abbrev pub SoundSchema : Type 0
SoundSchema = (catalog : Declared) → fault catalog ≡ None → (tables : List Table) → ((name : List ℕ) → table_named catalog.tables name ≡ None → bag_named tables name ≡ None)
    → ((name : List ℕ) → places.IsWide (relation_of catalog tables name)) → All (λ (view : s.ViewDecl). EvenQuery (schema_columns catalog) [] view.query) catalog.views → Sound catalog tables

abbrev pub SameRows : Type 0
SameRows = (catalog : Declared) → (tables : List Table) → Sound catalog tables → (q : s.Query) → EvenQuery (schema_columns catalog) [] q
    → rows (known_of catalog tables) q [] ≡ trees.rows (views.known_of (view_trees catalog) tables) (query (schema_columns catalog) [] q) []

abbrev pub SameAnswers : Type 0
SameAnswers = (catalog : Declared) → (tables : List Table) → Sound catalog tables → (text : s.QueryText) → EvenQuery (schema_columns catalog) [] text.query → answer (known_of catalog tables) text ≡ schema.answer catalog tables text

-- ---- columns

bare-names : (table : Option Relation) → columns_of table ≡ columns_of (without_rows (places.names_of table))
bare-names None = refl
bare-names (Some table) = refl

same-bare : SameTables → ColumnsKnown → (catalog : Declared) (tables : List Table) → SameColumns (heads_of catalog) (bare (schema_columns catalog))
same-bare same known catalog tables name =
    same catalog tables name ∙ bare-names (known_of catalog tables name) ∙ ap (λ o. columns_of (without_rows o)) (sym (known catalog tables 16 name))

-- the names that are resolved are those of the columns that are checked
pub checked-names : SameNames → SameTables → ColumnsKnown → (catalog : Declared) (q : s.Query) → names (bare (schema_columns catalog)) q [] ≡ column_names (columns (heads_of catalog) q [])
checked-names law same known catalog q = law (heads_of catalog) (bare (schema_columns catalog)) (same-bare same known catalog []) q []

-- the types of a valid query's columns are known
pub checked-types : ValidIsTyped → TypedTables → ShallowSchema → (catalog : Declared) → fault catalog ≡ None → view_refusal catalog ≡ None
    → (q : s.Query) → query_fault (heads_of catalog) q [] ≡ 0 → AreTyped (columns (heads_of catalog) q [])
checked-types law typed shallow catalog valid views-valid q query-valid = law (heads_of catalog) (typed catalog (shallow catalog valid) views-valid) q [] (All-nil _) query-valid

-- ---- rows

-- a query without faults is even over a schema
even-query : SameTables → ValidIsEven → ColumnsKnown → (catalog : Declared) (q : s.Query) → query_fault (heads_of catalog) q [] ≡ 0 → EvenQuery (schema_columns catalog) [] q
even-query same even known catalog q valid = even (heads_of catalog) (bare (schema_columns catalog)) (same-bare same known catalog []) q [] valid

is-sound : SameTables → ValidIsEven → ValidViews → ColumnsKnown → ShallowSchema → SoundSchema
    → (catalog : Declared) (tables : List Table) → view_refusal catalog ≡ None → IsFilled catalog tables → Sound catalog tables
is-sound same even views known shallow sound catalog tables views-valid filled =
    sound catalog filled.valid tables filled.declared filled.wide
    (All-weaker (λ (view : s.ViewDecl). query_fault (heads_of catalog) view.query [] ≡ 0) (λ (view : s.ViewDecl). EvenQuery (schema_columns catalog) [] view.query)
    (λ view h. even-query same even known catalog view.query h) catalog.views (views catalog (shallow catalog filled.valid) views-valid))

pub checked-rows : SameTables → ValidIsEven → ValidViews → ColumnsKnown → ShallowSchema → SoundSchema → SameRows
    → (catalog : Declared) (named-views : Views) (x : Checked) (q : s.Query) → AreViews catalog named-views → query_fault (heads_of catalog) q [] ≡ 0
    → shown.query x.query ≡ query (schema_columns catalog) [] q
    → (tables : List Table) → IsFilled catalog tables → rows_of named-views x tables ≡ rows (known_of catalog tables) q []
checked-rows same even valid-views known shallow sound law catalog named-views x q are query-valid query-is tables filled =
    ap₂ (λ (v : List ViewTree) (t : Query). trees.rows (views.known_of v tables) t []) are.bodies query-is
    ∙ sym (law catalog tables (is-sound same even valid-views known shallow sound catalog tables are.valid filled) q (even-query same even known catalog q query-valid))

answer-same : (a b : List (Option (List ℕ))) (ks ls : List OrderKey) (xs ys : List (Row (List Cell))) → a ≡ b → ks ≡ ls → xs ≡ ys → named.answer_of a ks (verdict xs) ≡ named.answer_of b ls (verdict ys)
answer-same a b ks ls xs ys names keys rows = rw (names, keys, rows) refl

pub checked-answer : SameTables → ValidIsEven → ValidViews → ColumnsKnown → ShallowSchema → SoundSchema → SameAnswers
    → (catalog : Declared) (named-views : Views) (x : Checked) (text : s.QueryText) → AreViews catalog named-views → query_fault (heads_of catalog) text.query [] ≡ 0
    → x.names ≡ names (bare (schema_columns catalog)) text.query []
    → x.order ≡ map (order_key (names (bare (schema_columns catalog)) text.query [])) text.order
    → shown.query x.query ≡ query (schema_columns catalog) [] text.query
    → (tables : List Table) → IsFilled catalog tables → answer_of named-views x tables ≡ answer (known_of catalog tables) text
checked-answer same even valid-views known shallow sound law catalog named-views x text are query-valid names-are order-is query-is tables filled =
    answer-same _ _ _ _ _ _ names-are order-is (ap₂ (λ (v : List ViewTree) (t : Query). trees.rows (views.known_of v tables) t []) are.bodies query-is)
    ∙ sym (law catalog tables (is-sound same even valid-views known shallow sound catalog tables are.valid filled) text (even-query same even known catalog text.query query-valid))
