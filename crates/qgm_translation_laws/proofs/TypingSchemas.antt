-- Valid queries and views over a schema have types.
use Rattle.std.proofs.Common.{◌≡◌, ◌∙◌, ◌≤◌, ℕ, zero, suc, true, false, map, List, [], ◌∷◌, length, Option, Some, None, refl, sym, ap, subst, arith}
use Rattle.std.specs.Prelude.{⊤}
use Rattle.std.proofs.lemmas.List.{length-map}
use Rattle.sql_ast.specs.declared.schema.ColumnDecl.{ColumnDecl}
use Rattle.sql_ast.specs.declared.schema.TableDecl.{TableDecl}
use Rattle.sql_ast.specs.Declarations.{Declared, columns_of, table_named, view_named}
use Rattle.sql_ast.specs.Grammatical.{is_query}
use Rattle.sql_ast.specs.Names.{same_name}
use Rattle.sql_ast.specs.Syntax as s
use Rattle.sql_catalog.specs.TableNames as tables
use Rattle.sql_meaning.specs.ResolvedTrees as q
use Rattle.sql_meaning.specs.Scopes.{first_of}
use Rattle.sql_value.specs.declared.order_key.SqlType.{SqlType}
use Rattle.sql_names.specs.Resolved.{Columns, bare, query}
use Rattle.sql_names.specs.Schema.{schema_columns}
use Rattle.sql_faults.proofs.Catalogs.{head_more, head_of, heads_at, stable, typed_tables, valid_text, valid_views}
use Rattle.sql_catalog.proofs.EachLaws.{each_more, each_of_all, found_each}
use Rattle.sql_catalog.proofs.DepthLaws.{Shallow, ShallowName, all_shallow, nested}
use Rattle.sql_faults.proofs.Stable.{Equal, equal_columns}
use Rattle.sql_faults.specs.Columns.{columns, columns_or_none, renamed}
use Rattle.sql_faults.specs.Faults.{query_fault}
use Rattle.sql_faults.specs.Laws.{AreTypedHeads, SameColumns}
use Rattle.sql_faults.specs.Scopes.{Heads, is_empty}
use Rattle.sql_faults.specs.Views.{fault, heads_of, table_heads, typed, typed_columns}
use Rattle.sql_faults.specs.declared.column.TypedColumn.{TypedColumn}
use Rattle.qgm_translation_laws.specs.Formed.{HasColumns, SourcesTyped}
use Rattle.qgm_translation_laws.specs.Typed.{IsOfTypes}
use Rattle.qgm_translation.specs.Sources.{Sources}
use Rattle.sql_names.proofs.Valid.{shallow}
use Rattle.qgm_translation_laws.proofs.Accepted.{tables_full}
use Rattle.qgm_translation_laws.proofs.Full.{IsFullHead, filled_query, full_listed}
use Rattle.qgm_translation_laws.proofs.Schemas.{schema_same}
use Rattle.qgm_translation_laws.proofs.Stated.{are_kinds, have_length, known_are, renamed_stated, stated}
use Rattle.qgm_translation_laws.proofs.Typing.{of_query}
use Rattle.qgm_translation_laws.specs.Typing.{HaveColumns, SourcesOf, ValidSchema, kinds_of, known_types, with_type}

pub query_has_types : (heads : Heads) (known : Columns) → SameColumns heads (bare known) → AreTypedHeads heads → HaveColumns heads
    → (body : s.Query) → is_query body ≡ true → query_fault heads body [] ≡ 0 → IsOfTypes (kinds_of heads) [] (query known [] body) (known_types (columns heads body []))
query_has_types heads known same typed full body g h =
    let r = of_query heads known (kinds_of heads) same (are_kinds heads typed) full body [] [] h g tt in
    subst (IsOfTypes (kinds_of heads) [] (query known [] body)) (known_are (columns heads body []) r.0 r.1.0) r.1.1

-- columns of the same types
same_known : (xs ys : List TypedColumn) → stated xs ≡ stated ys → known_types xs ≡ known_types ys
same_known [] [] h = refl
same_known [] (y ∷ ys) h = absurd (cc)
same_known (x ∷ xs) [] h = absurd (cc)
same_known (x ∷ xs) (y ∷ ys) h = ap (with_type x.sort) (same_known xs ys (cc)) ∙ ap (λ (o : Option SqlType). with_type o (known_types ys)) (cc)

-- ---- each table and view has a column

typed_full : (cs : List ColumnDecl) → is_empty cs ≡ false → is_empty (map typed cs) ≡ false
typed_full [] h = absurd (cc)
typed_full (c ∷ cs) h = refl

-- columns, where there are any
abbrev IsFull : Option (List TypedColumn) → Type 0
IsFull None = ⊤
IsFull (Some found) = is_empty found ≡ false

full_of : (o : Option (List TypedColumn)) → IsFull o → (found : List TypedColumn) → o ≡ Some found → is_empty found ≡ false
full_of None h found e = absurd (cc)
full_of (Some x) h found e = let same : x ≡ found = cc in ap is_empty (sym same) ∙ h

full_first : (a b : Option (List TypedColumn)) → IsFull a → IsFull b → IsFull (first_of a b)
full_first None b h k = k
full_first (Some x) b h k = h

module _ (catalog : Declared) (valid : ValidSchema catalog) where
  full_table : (name : List ℕ) → IsFull (table_heads catalog name)
  full_table name = at (table_named catalog.tables name) refl
    where
      at : (o : Option TableDecl) → table_named catalog.tables name ≡ o → IsFull (typed_columns o)
      at None e = tt
      at (Some table) e =
          typed_full (columns_of table.elements)
          (found_each (λ (w : TableDecl). is_empty (columns_of w.elements) ≡ false) (λ (w : TableDecl). same_name w.name name) catalog.tables table
          (tables_full catalog valid.accepted) e)

  -- the body of a view of a name has no fault, and is of the grammar
  found_valid : (name : List ℕ) (view : s.ViewDecl) → view_named catalog.views name ≡ Some view → query_fault (heads_of catalog) view.query [] ≡ 0
  found_valid name view e =
      found_each (λ (w : s.ViewDecl). query_fault (heads_of catalog) w.query [] ≡ 0) (λ (w : s.ViewDecl). same_name w.name name) catalog.views view
      (each_of_all (λ (w : s.ViewDecl). query_fault (heads_of catalog) w.query [] ≡ 0) catalog.views (valid_views catalog (shallow catalog valid.accepted) valid.views)) e

  found_query : (name : List ℕ) (view : s.ViewDecl) → view_named catalog.views name ≡ Some view → is_query view.query ≡ true
  found_query name view e =
      found_each (λ (w : s.ViewDecl). is_query w.query ≡ true) (λ (w : s.ViewDecl). same_name w.name name) catalog.views view (each_of_all (λ (w : s.ViewDecl). is_query w.query ≡ true) catalog.views valid.queries) e

  -- a view's body has the same columns over the views that nest less deep
  same_body : (view : s.ViewDecl) → Shallow catalog 16 (Some view) → columns (heads_at catalog 15) view.query [] ≡ columns (heads_of catalog) view.query []
  same_body view k =
      equal_columns (heads_at catalog 15) (heads_of catalog) view.query []
      (each_more (ShallowName catalog 15) (Equal (heads_at catalog 15) (heads_of catalog)) (λ other m. sym (stable catalog 15 16 (omega arith) other m)) (tables.in_query view.query) (nested catalog 15 view k))

  above : (name : List ℕ) → IsFull (head_of (heads_at catalog 15) (view_named catalog.views name)) → IsFullHead (heads_of catalog) name
  above name h found e = full_of (first_of (table_heads catalog name) (head_of (heads_at catalog 15) (view_named catalog.views name))) (full_first (table_heads catalog name) (head_of (heads_at catalog 15) (view_named catalog.views name)) (full_table name) h) found (sym (head_more catalog 15 name) ∙ e)

  full_head : (depth : ℕ) → depth ≤ 16 → (name : List ℕ) → ShallowName catalog depth name → IsFullHead (heads_of catalog) name
  full_head zero low name h = above name (at (view_named catalog.views name) h)
    where
      at : (o : Option s.ViewDecl) → Shallow catalog 0 o → IsFull (head_of (heads_at catalog 15) o)
      at None k = tt
      at (Some view) k = absurd (cc)
  full_head (suc depth) low name h = above name (at (λ other k. full_head depth (omega arith) other k) (view_named catalog.views name) refl h)
    where
      at : ((other : List ℕ) → ShallowName catalog depth other → IsFullHead (heads_of catalog) other) → (o : Option s.ViewDecl) → view_named catalog.views name ≡ o → Shallow catalog (suc depth) o → IsFull (head_of (heads_at catalog 15) o)
      at below None e k = tt
      at below (Some view) e k =
          full_listed view.columns (columns (heads_at catalog 15) view.query [])
          (subst (λ (cs : List TypedColumn). is_empty cs ≡ false)
          (sym (equal_columns (heads_at catalog 15) (heads_of catalog) view.query []
          (each_more (ShallowName catalog depth) (Equal (heads_at catalog 15) (heads_of catalog)) (λ other m. stable catalog depth 15 (omega arith) other m ∙ sym (stable catalog depth 16 (omega arith) other m)) (tables.in_query view.query) (nested catalog depth view k))))
          (filled_query (heads_of catalog) view.query [] tt (each_more (ShallowName catalog depth) (IsFullHead (heads_of catalog)) below (tables.in_query view.query) (nested catalog depth view k)) (found_query name view e) (found_valid name view e)))

  have_columns : HaveColumns (heads_of catalog)
  have_columns name = full_head 16 (omega arith) name (all_shallow catalog 16 (shallow catalog valid.accepted) name)

  body_has_types : (body : s.Query) → is_query body ≡ true → query_fault (heads_of catalog) body [] ≡ 0 → IsOfTypes (kinds_of (heads_of catalog)) [] (query (schema_columns catalog) [] body) (known_types (columns (heads_of catalog) body []))
  body_has_types body g h = query_has_types (heads_of catalog) (schema_columns catalog) (schema_same catalog) (typed_tables catalog (shallow catalog valid.accepted) valid.views) have_columns body g h

  -- ---- views

  -- the types that a view has as a source
  view_kinds : (name : List ℕ) (view : s.ViewDecl) → table_named catalog.tables name ≡ None → view_named catalog.views name ≡ Some view → kinds_of (heads_of catalog) name ≡ known_types (columns (heads_of catalog) view.query [])
  view_kinds name view n e =
      ap (λ (o : Option (List TypedColumn)). known_types (columns_or_none o))
      (head_more catalog 15 name ∙ ap (λ (o : Option TableDecl). first_of (typed_columns o) (head_of (heads_at catalog 15) (view_named catalog.views name))) n ∙ ap (head_of (heads_at catalog 15)) e)
      ∙ same_known (renamed view.columns (columns (heads_at catalog 15) view.query [])) (columns (heads_at catalog 15) view.query []) (renamed_stated view.columns (columns (heads_at catalog 15) view.query []))
      ∙ ap known_types (same_body view (subst (Shallow catalog 16) e (all_shallow catalog 16 (shallow catalog valid.accepted) name)))

pub text_has_types : (catalog : Declared) → ValidSchema catalog → (text : s.QueryText) → is_query text.query ≡ true → fault catalog text ≡ 0
    → IsOfTypes (kinds_of (heads_of catalog)) [] (query (schema_columns catalog) [] text.query) (known_types (columns (heads_of catalog) text.query []))
text_has_types catalog valid text g h = body_has_types catalog valid text.query g (valid_text catalog text h)

pub views_have_types : (catalog : Declared) → ValidSchema catalog → (name : List ℕ) (view : s.ViewDecl) → table_named catalog.tables name ≡ None → view_named catalog.views name ≡ Some view
    → IsOfTypes (kinds_of (heads_of catalog)) [] (query (schema_columns catalog) [] view.query) (kinds_of (heads_of catalog) name)
views_have_types catalog valid name view n e =
    subst (IsOfTypes (kinds_of (heads_of catalog)) [] (query (schema_columns catalog) [] view.query)) (sym (view_kinds catalog valid name view n e))
    (body_has_types catalog valid view.query (found_query catalog valid name view e) (found_valid catalog valid name view e))

pub sources_typed : (catalog : Declared) (sources : Sources) → ValidSchema catalog → SourcesOf catalog sources → SourcesTyped (kinds_of (heads_of catalog)) sources
sources_typed catalog sources valid h = record {
  counted = λ name.
      have_length (columns_or_none (heads_of catalog name)) (kinds_of (heads_of catalog) name) (are_kinds (heads_of catalog) (typed_tables catalog (shallow catalog valid.accepted) valid.views) name)
      ∙ sym (length-map (columns_or_none (heads_of catalog name)) (λ (c : TypedColumn). c.name))
      ∙ ap length (schema_same catalog name)
      ∙ sym (h.counts name);
  named = λ name. at name (sources.body name) refl;
}
  where
    at : (name : List ℕ) (o : Option q.Query) → sources.body name ≡ o → HasColumns (kinds_of (heads_of catalog)) sources name o
    at name None e = h.tables name e
    at name (Some body) e =
        let view = h.views name body e in
        subst (λ (z : q.Query). IsOfTypes (kinds_of (heads_of catalog)) [] z (kinds_of (heads_of catalog) name)) (sym view.1.2) (views_have_types catalog valid name view.0 view.1.0 view.1.1)
