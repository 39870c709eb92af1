-- What the names of a schema stand for has the types that the checks state.
use Rattle.std.proofs.Common.{◌≡◌, ◌∙◌, ℕ, List, [], ◌∷◌, map, Option, Some, None, length, refl, sym, ap, ap₂, subst}
use Rattle.sql_ast.specs.declared.schema.ColumnDecl.{ColumnDecl}
use Rattle.sql_ast.specs.declared.schema.TableDecl.{TableDecl}
use Rattle.sql_ast.specs.Declarations.{Declared, columns_of, table_named, view_named}
use Rattle.sql_ast.specs.Syntax as s
use Rattle.sql_catalog.specs.Descriptor.{describe_column}
use Rattle.sql_catalog.specs.Keys.{keys_of}
use Rattle.sql_catalog.specs.declared.key.Key.{Key}
use Rattle.sql_meaning.specs.Scopes.{first_of}
use Rattle.sql_value.specs.declared.order_key.SqlType.{SqlType}
use Rattle.std.proofs.lemmas.List.{length-map}
use Rattle.std.proofs.lemmas.Option.{same_Some}
use Rattle.sql_meaning.specs.ResolvedTrees.{Query}
use Rattle.sql_names.proofs.Valid.{shallow}
use Rattle.sql_names.specs.Resolved.{query}
use Rattle.sql_names.specs.Schema.{schema_columns}
use Rattle.sql_faults.proofs.Catalogs.{head_more, head_of, heads_at, typed_tables}
use Rattle.sql_faults.specs.Columns.{columns_or_none}
use Rattle.sql_faults.specs.Columns.{type_of_declared}
use Rattle.sql_faults.specs.Views.{heads_of, typed, typed_columns}
use Rattle.sql_faults.specs.declared.column.TypedColumn.{TypedColumn}
use Rattle.qgm_terms.specs.Terms.{Term}
use Rattle.qgm_translation_laws.specs.Formed.{HasColumns, SourcesTyped}
use Rattle.qgm_translation_laws.proofs.Schemas.{schema_same}
use Rattle.qgm_translation_laws.proofs.Stated.{are_kinds, have_length}
use Rattle.qgm_translation_laws.proofs.TypingSchemas.{views_have_types}
use Rattle.qgm_translation_laws.specs.Sources.{body_in, column_type, sources_of, stored_in}
use Rattle.qgm_translation_laws.specs.Typing.{IsBodyOf, SourcesOf, ValidSchema, kinds_of, known_types}

table_types : (keys : List Key) (cs : List ColumnDecl) → map column_type (map (describe_column keys) cs) ≡ known_types (map typed cs)
table_types keys [] = refl
table_types keys (c ∷ cs) = ap (λ (types : List SqlType). type_of_declared c.data_type ∷ types) (table_types keys cs)

-- the types of a table, or of a name that stands for nothing
kinds_at : (catalog : Declared) (name : List ℕ) (o : Option TableDecl) (p : Option s.ViewDecl) → table_named catalog.tables name ≡ o → view_named catalog.views name ≡ p
    → kinds_of (heads_of catalog) name ≡ known_types (columns_or_none (first_of (typed_columns o) (head_of (heads_at catalog 15) p)))
kinds_at catalog name o p e f =
    ap (λ (found : Option (List TypedColumn)). known_types (columns_or_none found))
    (head_more catalog 15 name ∙ ap₂ (λ (a : Option TableDecl) (b : Option s.ViewDecl). first_of (typed_columns a) (head_of (heads_at catalog 15) b)) e f)

pub schema_sources_typed : (catalog : Declared) (shared : List ℕ → ℕ) (tells : Term → SqlType) → ValidSchema catalog → SourcesTyped (kinds_of (heads_of catalog)) (sources_of catalog shared tells)
schema_sources_typed catalog shared tells valid = record {
  counted = λ name. refl;
  named = λ name. at name (table_named catalog.tables name) (view_named catalog.views name) refl refl;
}
  where
    at : (name : List ℕ) (o : Option TableDecl) (p : Option s.ViewDecl) → table_named catalog.tables name ≡ o → view_named catalog.views name ≡ p
        → HasColumns (kinds_of (heads_of catalog)) (sources_of catalog shared tells) name (body_in catalog o p)
    at name None None e f = ap (λ (o : Option TableDecl). (stored_in name o).types) e ∙ sym (kinds_at catalog name None None e f)
    at name None (Some view) e f = views_have_types catalog valid name view e f
    at name (Some table) p e f =
        ap (λ (o : Option TableDecl). (stored_in name o).types) e ∙ table_types (keys_of table.elements) (columns_of table.elements) ∙ sym (kinds_at catalog name (Some table) p e f)

none_some : {A : Type 0} (x : Query) → None ≡ Some x → A
none_some x h = absurd (cc)

pub schema_sources : (catalog : Declared) (shared : List ℕ → ℕ) (tells : Term → SqlType) → ValidSchema catalog → SourcesOf catalog (sources_of catalog shared tells)
schema_sources catalog shared tells valid = record {
  counts = λ name.
      have_length (columns_or_none (heads_of catalog name)) (kinds_of (heads_of catalog) name) (are_kinds (heads_of catalog) (typed_tables catalog (shallow catalog valid.accepted) valid.views) name)
      ∙ sym (length-map (columns_or_none (heads_of catalog name)) (λ (c : TypedColumn). c.name))
      ∙ ap length (schema_same catalog name);
  tables = λ name e. subst (HasColumns (kinds_of (heads_of catalog)) (sources_of catalog shared tells) name) e ((schema_sources_typed catalog shared tells valid).named name);
  views = λ name body e. at name body (table_named catalog.tables name) (view_named catalog.views name) refl refl e;
}
  where
    at : (name : List ℕ) (body : Query) (o : Option TableDecl) (p : Option s.ViewDecl) → table_named catalog.tables name ≡ o → view_named catalog.views name ≡ p → body_in catalog o p ≡ Some body → IsBodyOf catalog name body
    at name body None None e f h = none_some body h
    at name body None (Some view) e f h = (view, (e, f, sym (same_Some (query (schema_columns catalog) [] view.query) body h)))
    at name body (Some table) p e f h = none_some body h
