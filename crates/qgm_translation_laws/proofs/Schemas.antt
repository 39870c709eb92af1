-- The columns that the checks know of a schema are those by which names are resolved, and its queries and views are buildable.
use Rattle.std.proofs.Common.{◌≡◌, ◌∙◌, ℕ, Bool, true, List, [], ◌∷◌, Option, Some, None, refl, sym, ap}
use Rattle.std.specs.Prelude.{All}
use Rattle.sql_ast.specs.Declarations.{Declared}
use Rattle.sql_ast.specs.Grammatical.{is_query}
use Rattle.sql_ast.specs.Syntax as s
use Rattle.sql_meaning.specs.Meaning.{known_of}
use Rattle.sql_meaning.specs.Names.{Relation, columns_of}
use Rattle.sql_names.proofs.Depths.{columns_known}
use Rattle.sql_names.specs.Agreed.{names_of}
use Rattle.sql_names.specs.Resolved.{bare, query, without_rows}
use Rattle.sql_names.specs.Schema.{schema_columns}
use Rattle.sql_faults.proofs.Catalogs.{same_columns, valid_text, valid_views}
use Rattle.sql_catalog.proofs.EachLaws.{Each, all_of_each, each_of_all}
use Rattle.sql_faults.specs.Faults.{query_fault}
use Rattle.sql_faults.specs.Laws.{NestsShallow, SameColumns}
use Rattle.sql_faults.specs.Views.{fault, heads_of, view_refusal}
use Rattle.qgm_translation.specs.Buildable.{Buildable}
use Rattle.qgm_translation.specs.Sources.{Sources}
use Rattle.qgm_translation_laws.proofs.Fit.{fit_query}
use Rattle.qgm_translation_laws.specs.Buildable.{AreQueries, Counts, Knows}

columns_bare : (r : Option Relation) → columns_of (without_rows (names_of r)) ≡ columns_of r
columns_bare None = refl
columns_bare (Some table) = refl

-- the columns that the checks know are those by which names are resolved
pub schema_same : (catalog : Declared) → SameColumns (heads_of catalog) (bare (schema_columns catalog))
schema_same catalog name =
    same_columns catalog [] name ∙ sym (columns_bare (known_of catalog [] name))
    ∙ ap (λ (names : Option (List (Option (List ℕ)))). columns_of (without_rows names)) (sym (columns_known catalog [] 16 name))

module _ (catalog : Declared) (sources : Sources) (has : List ℕ → Bool) (counted : Counts sources (schema_columns catalog)) (knows : Knows has (heads_of catalog)) where
  fit_body : (body : s.Query) → is_query body ≡ true → query_fault (heads_of catalog) body [] ≡ 0 → Buildable sources has (query (schema_columns catalog) [] body)
  fit_body body g h = fit_query (heads_of catalog) (schema_columns catalog) sources has (schema_same catalog) counted knows body [] g h

  pub fit_text : (text : s.QueryText) → is_query text.query ≡ true → fault catalog text ≡ 0 → Buildable sources has (query (schema_columns catalog) [] text.query)
  fit_text text g h = fit_body text.query g (valid_text catalog text h)

  each_view : (views : List s.ViewDecl) → Each (λ (view : s.ViewDecl). is_query view.query ≡ true) views → Each (λ (view : s.ViewDecl). query_fault (heads_of catalog) view.query [] ≡ 0) views
      → Each (λ (view : s.ViewDecl). Buildable sources has (query (schema_columns catalog) [] view.query)) views
  each_view [] g h = tt
  each_view (view ∷ views) g h = (fit_body view.query g.0 h.0, each_view views g.1 h.1)

  pub fit_views : NestsShallow catalog → view_refusal catalog ≡ None → AreQueries catalog.views → All (λ (view : s.ViewDecl). Buildable sources has (query (schema_columns catalog) [] view.query)) catalog.views
  fit_views shallow none g =
      all_of_each (λ (view : s.ViewDecl). Buildable sources has (query (schema_columns catalog) [] view.query)) catalog.views
      (each_view catalog.views (each_of_all (λ (view : s.ViewDecl). is_query view.query ≡ true) catalog.views g)
      (each_of_all (λ (view : s.ViewDecl). query_fault (heads_of catalog) view.query [] ≡ 0) catalog.views (valid_views catalog shallow none)))
