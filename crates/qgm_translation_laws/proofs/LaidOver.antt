-- A valid schema says of its tables and views what boxes are made by, and its views end.
use Rattle.std.proofs.Common.{◌≡◌, ◌≤◌, ◌<◌, ◌||◌, ◌∙◌, ℕ, zero, suc, Bool, true, false, cond, map, find, ◌⊎◌, inl, inr, List, [], ◌∷◌, ◌++◌, length, Option, Some, None, refl, ap, ap₂, sym, subst, arith}
use Rattle.std.specs.List.{list_any}
use Rattle.std.specs.Cmp.Lexicographic.{nat_list_eq_equiv, same_text}
use Rattle.std.proofs.lemmas.Bool.{cases_Bool, or_parts}
use Rattle.std.proofs.lemmas.List.Folds.{list_any-append}
use Rattle.sql_ast.specs.declared.schema.TableDecl.{TableDecl}
use Rattle.sql_ast.specs.Declarations.{Declared, known_names, table_named, table_names, view_named, view_names}
use Rattle.sql_ast.specs.Names.{contains, has_twins, same_name}
use Rattle.sql_ast.specs.Syntax as s
use Rattle.sql_catalog.specs.Catalog.{fault as refusal, has_bad_key, has_duplicate, has_twin_columns, has_twin_list, passes_limits, reads_unknown}
use Rattle.sql_catalog.specs.Nesting.{is_recursive, nests_over, reader_of, readers_of}
use Rattle.sql_catalog.specs.TableNames as t
use Rattle.sql_value.specs.declared.order_key.SqlType.{SqlType}
use Rattle.sql_meaning.specs.Scopes.{first_of}
use Rattle.sql_names.proofs.Valid.{apart, shallow}
use Rattle.sql_names.specs.Resolved.{query}
use Rattle.sql_names.specs.Schema.{schema_columns, view_body, view_tree, view_trees}
use Rattle.sql_catalog.proofs.EachLaws.{Each, each_more, each_of_all}
use Rattle.sql_catalog.proofs.DepthLaws.{Shallow, ShallowName, all_shallow, nested}
use Rattle.sql_catalog.proofs.FaultLaws.{but_none, not_given}
use Rattle.sql_faults.specs.Scopes.{is_some}
use Rattle.sql_faults.specs.Views.{heads_of, typed_columns}
use Rattle.sql_faults.proofs.Catalogs.{head_more, head_of, heads_at}
use Rattle.qgm_core.specs.declared.kinds.BaseTable.{BaseTable}
use Rattle.qgm_terms.specs.Terms.{Term}
use Rattle.qgm_translation.specs.Buildable.{Buildable}
use Rattle.qgm_translation.specs.Reads.{query_reads}
use Rattle.qgm_translation.specs.Sources.{Sources}
use Rattle.qgm_translation.specs.WholeLaw.{EachTableSaid, EachViewSaid, IsOver, TableSaid, ViewSaid, in_tables, in_views, is_declared}
use Rattle.qgm_translation.proofs.Reading.{query-each}
use Rattle.qgm_translation_laws.proofs.Joined.{valid_buildable}
use Rattle.qgm_translation_laws.proofs.Resolving.{each_query}
use Rattle.qgm_translation_laws.proofs.SchemaSources.{schema_sources}
use Rattle.qgm_translation_laws.specs.Buildable.{Knows}
use Rattle.qgm_translation_laws.specs.Joined.{ValidQuery}
use Rattle.qgm_translation_laws.specs.Laid.{graph_table, graph_tables}
use Rattle.qgm_translation_laws.specs.Sources.{body_in, sources_of, stored_in}

-- ---- how deep views nest

-- the least number, below k, at which it is false; or else k
pub least : ℕ → (ℕ → Bool) → ℕ
least zero p = 0
least (suc k) p = cond (p 0) (suc (least k (λ d. p (suc d)))) 0

least-low : (k : ℕ) (p : ℕ → Bool) (d : ℕ) → p d ≡ false → least k p ≤ d
unfolding least
least-low zero p d h = omega arith
least-low (suc k) p zero h = (let e : cond {A = ℕ} (p 0) (suc (least k (λ d. p (suc d)))) 0 ≡ 0 = ap (λ (b : Bool). cond {A = ℕ} b (suc (least k (λ d. p (suc d)))) 0) h in omega arith)
least-low (suc k) p (suc d) h = by_case (p 0) (least-low k (λ d. p (suc d)) d h)
  where
    by_case : (b : Bool) → least k (λ d. p (suc d)) ≤ d → cond {A = ℕ} b (suc (least k (λ d. p (suc d)))) 0 ≤ suc d
    by_case true l = omega arith
    by_case false l = omega arith

least-false : (k : ℕ) (p : ℕ → Bool) (d : ℕ) → d < k → p d ≡ false → p (least k p) ≡ false
unfolding least
least-false zero p d l h = absurd (omega arith)
least-false (suc k) p zero l h = subst (λ (b : Bool). p (cond {A = ℕ} b (suc (least k (λ d. p (suc d)))) 0) ≡ false) (sym h) h
least-false (suc k) p (suc d) l h = by_case (p 0) refl (least-false k (λ d. p (suc d)) d (omega arith) h)
  where
    by_case : (b : Bool) → p 0 ≡ b → p (suc (least k (λ d. p (suc d)))) ≡ false → p (cond {A = ℕ} b (suc (least k (λ d. p (suc d)))) 0) ≡ false
    by_case true e i = i
    by_case false e i = e

least-some : (k : ℕ) (p : ℕ → Bool) → p 0 ≡ true → 0 < least (suc k) p
unfolding least
least-some k p h = (let e : cond {A = ℕ} (p 0) (suc (least k (λ d. p (suc d)))) 0 ≡ suc (least k (λ d. p (suc d))) = ap (λ (b : Bool). cond {A = ℕ} b (suc (least k (λ d. p (suc d)))) 0) h in omega arith)

abbrev pub nests : Declared → s.ViewDecl → ℕ → Bool
nests catalog view d = nests_over (readers_of catalog.views) d (reader_of view)

abbrev pub deep_of : Declared → Option s.ViewDecl → ℕ
deep_of catalog None = 0
deep_of catalog (Some view) = least 17 (nests catalog view)

-- how deep the view of a name nests
abbrev pub deep_in : Declared → List ℕ → ℕ
deep_in catalog name = deep_of catalog (view_named catalog.views name)

deep-low : (catalog : Declared) (d : ℕ) (o : Option s.ViewDecl) → Shallow catalog d o → deep_of catalog o ≤ d
deep-low catalog d None h = omega arith
deep-low catalog d (Some view) h = least-low 17 (nests catalog view) d h

-- a view's body reads what nests less deep
view_reads : (catalog : Declared) (view : s.ViewDecl) → nests catalog view 16 ≡ false → (name : List ℕ) → query_reads (query (schema_columns catalog) [] view.query) name ≡ true → deep_in catalog name < deep_of catalog (Some view)
view_reads catalog view h name reads =
    below (least 17 (nests catalog view)) (least-some 16 (nests catalog view) refl) (least-false 17 (nests catalog view) 16 (omega arith) h)
  where
    below : (d : ℕ) → 0 < d → nests catalog view d ≡ false → deep_in catalog name < d
    below zero l e = absurd (omega arith)
    below (suc d) l e =
        let low : deep_in catalog name ≤ d
        = query-each (λ n. deep_in catalog n ≤ d) name (query (schema_columns catalog) [] view.query)
        (each_query (λ n. deep_in catalog n ≤ d) (schema_columns catalog) [] view.query
        (each_more (ShallowName catalog d) (λ n. deep_in catalog n ≤ d) (λ n i. deep-low catalog d (view_named catalog.views n) i) (t.in_query view.query) (nested catalog d view e))) reads in
        omega arith

-- ---- each name means one thing

no_twins : (catalog : Declared) → refusal catalog ≡ None → has_twins (known_names catalog) ≡ false
no_twins catalog valid =
    let last : Option ℕ = cond (list_any has_bad_key catalog.tables) (Some 9) (cond (passes_limits catalog.tables (readers_of catalog.views)) (Some 10) None) in
    let later : Option ℕ = cond (has_duplicate catalog) (Some 8) last in
    (or_parts (has_twins (known_names catalog)) (list_any has_twin_columns catalog.tables || has_twin_list catalog.views)
    (not_given (has_duplicate catalog) 8 last
    (but_none (is_recursive (readers_of catalog.views)) 7 later (but_none (reads_unknown (known_names catalog) (readers_of catalog.views)) 6 (cond (is_recursive (readers_of catalog.views)) (Some 7) later) valid)))).0

twins_left : (xs ys : List (List ℕ)) → has_twins (xs ++ ys) ≡ false → has_twins xs ≡ false
twins_left [] ys h = refl
twins_left (x ∷ xs) ys h =
    let p = or_parts (contains (xs ++ ys) x) (has_twins (xs ++ ys)) h in
    ap₂ (λ a b. a || b) (or_parts (contains xs x) (contains ys x) (sym (list_any-append (λ n. same_name n x) xs ys) ∙ p.0)).0 (twins_left xs ys p.1)

twins_right : (xs ys : List (List ℕ)) → has_twins (xs ++ ys) ≡ false → has_twins ys ≡ false
twins_right [] ys h = h
twins_right (x ∷ xs) ys h = twins_right xs ys (or_parts (contains (xs ++ ys) x) (has_twins (xs ++ ys)) h).1

module _ {A : Type 0} (name : A → List ℕ) where
  abbrev found : List A → List ℕ → Option A
  found xs n = find (λ (x : A). same_name (name x) n) xs

  others : (x : A) (xs ys : List A) → contains (map name ys) (name x) ≡ false → Each (λ y. found xs (name y) ≡ Some y) ys → Each (λ y. found (x ∷ xs) (name y) ≡ Some y) ys
  others x xs [] h each = tt
  others x xs (y ∷ ys) h each =
      let p = or_parts (same_name (name y) (name x)) (contains (map name ys) (name x)) h in
      (by_case (cases_Bool (same_name (name x) (name y))) p.0, others x xs ys p.1 each.1)
    where
      by_case : (same_name (name x) (name y) ≡ true) ⊎ (same_name (name x) (name y) ≡ false) → same_name (name y) (name x) ≡ false → found (x ∷ xs) (name y) ≡ Some y
      by_case (inl e) f = absurd (
          let same : name x ≡ name y = same_text (name x) (name y) (sym e) in
          let i : same_name (name y) (name x) ≡ true = subst (λ (z : List ℕ). same_name (name y) z ≡ true) (sym same) (nat_list_eq_equiv.refl (name y)) in
          cc (i, f)
          )
      by_case (inr e) f = ap (λ (b : Bool). cond b (Some x) (found xs (name y))) e ∙ each.0

  -- the first of its name is itself
  found_self : (xs : List A) → has_twins (map name xs) ≡ false → Each (λ x. found xs (name x) ≡ Some x) xs
  found_self [] h = tt
  found_self (x ∷ xs) h =
      let p = or_parts (contains (map name xs) (name x)) (has_twins (map name xs)) h in
      (ap (λ (b : Bool). cond b (Some x) (found xs (name x))) (nat_list_eq_equiv.refl (name x)), others x xs xs p.0 (found_self xs p.1))

-- ---- what is declared

undeclared_table : (ts : List TableDecl) (name : List ℕ) → in_tables (map graph_table ts) name ≡ false → table_named ts name ≡ None
undeclared_table [] name h = refl
undeclared_table (x ∷ ts) name h =
    let p = or_parts (same_name x.name name) (in_tables (map graph_table ts) name) h in
    ap (λ (b : Bool). cond b (Some x) (table_named ts name)) p.0 ∙ undeclared_table ts name p.1

undeclared_view : (catalog : Declared) (vs : List s.ViewDecl) (name : List ℕ) → in_views (map (view_tree catalog) vs) name ≡ false → view_named vs name ≡ None
undeclared_view catalog [] name h = refl
undeclared_view catalog (x ∷ vs) name h =
    let p = or_parts (same_name x.name name) (in_views (map (view_tree catalog) vs) name) h in
    ap (λ (b : Bool). cond b (Some x) (view_named vs name)) p.0 ∙ undeclared_view catalog vs name p.1

-- each name that stands for columns is declared
knows : (catalog : Declared) → Knows (is_declared (graph_tables catalog) (view_trees catalog)) (heads_of catalog)
knows catalog name h = by_case (cases_Bool (is_declared (graph_tables catalog) (view_trees catalog) name))
  where
    by_case : (is_declared (graph_tables catalog) (view_trees catalog) name ≡ true) ⊎ (is_declared (graph_tables catalog) (view_trees catalog) name ≡ false) → is_declared (graph_tables catalog) (view_trees catalog) name ≡ true
    by_case (inl e) = e
    by_case (inr e) =
        let p = or_parts (in_tables (graph_tables catalog) name) (in_views (view_trees catalog) name) e in
        let none : heads_of catalog name ≡ None
        = head_more catalog 15 name
        ∙ ap₂ (λ (a : Option TableDecl) (b : Option s.ViewDecl). first_of (typed_columns a) (head_of (heads_at catalog 15) b)) (undeclared_table catalog.tables name p.0) (undeclared_view catalog catalog.views name p.1) in
        absurd (let i : is_some (heads_of catalog name) ≡ false = ap is_some none in cc (h, i))

module _ (catalog : Declared) (shared : List ℕ → ℕ) (typed : Term → SqlType) (text : s.QueryText) (valid : ValidQuery catalog text) where
  abbrev sources : Sources
  sources = sources_of catalog shared typed

  abbrev has : List ℕ → Bool
  has = is_declared (graph_tables catalog) (view_trees catalog)

  abbrev deep : List ℕ → ℕ
  deep = deep_in catalog

  no_table : (view : s.ViewDecl) → view_named catalog.views view.name ≡ Some view → table_named catalog.tables view.name ≡ None
  no_table view e = by_case (table_named catalog.tables view.name) refl
    where
      by_case : (o : Option TableDecl) → table_named catalog.tables view.name ≡ o → o ≡ None
      by_case None f = refl
      by_case (Some table) f = absurd (let i = apart catalog valid.schema.accepted view.name table f in cc (e, i))

  table_said : (table : TableDecl) → table_named catalog.tables table.name ≡ Some table → TableSaid sources has deep (graph_table table)
  table_said table e =
      let body : sources.body table.name ≡ None = ap (λ (o : Option TableDecl). body_in catalog o (view_named catalog.views table.name)) e in
      let stored : sources.stored table.name ≡ graph_table table = ap (stored_in table.name) e in
      record {
        body = body;
        stored = stored;
        columns = ap (λ (b : BaseTable). length b.types) (sym stored) ∙ ap length ((schema_sources catalog shared typed valid.schema).tables table.name body);
      }

  tables_said : (ts : List TableDecl) → Each (λ (table : TableDecl). table_named catalog.tables table.name ≡ Some table) ts → EachTableSaid sources has deep (map graph_table ts)
  tables_said [] h = tt
  tables_said (table ∷ ts) h = (table_said table h.0, tables_said ts h.1)

  deep_view : (view : s.ViewDecl) → view_named catalog.views view.name ≡ Some view → deep view.name ≡ deep_of catalog (Some view)
  deep_view view e = ap (deep_of catalog) e

  view_said : (view : s.ViewDecl) → view_named catalog.views view.name ≡ Some view → Buildable sources has (query (schema_columns catalog) [] view.query) → ViewSaid sources has deep (view_tree catalog view)
  view_said view e fit =
      let low : nests catalog view 16 ≡ false = subst (Shallow catalog 16) e (all_shallow catalog 16 (shallow catalog valid.schema.accepted) view.name) in
      record {
        body = ap (λ (o : Option TableDecl). body_in catalog o (view_named catalog.views view.name)) (no_table view e) ∙ ap (view_body catalog) e;
        fit = fit;
        nests = subst (λ z. 0 < z) (sym (deep_view view e)) (least-some 16 (nests catalog view) refl);
        reads = λ name h. subst (λ z. deep name < z) (sym (deep_view view e)) (view_reads catalog view low name h);
      }

  views_said : (vs : List s.ViewDecl) → Each (λ (view : s.ViewDecl). view_named catalog.views view.name ≡ Some view) vs
      → Each (λ (view : s.ViewDecl). Buildable sources has (query (schema_columns catalog) [] view.query)) vs → EachViewSaid sources has deep (map (view_tree catalog) vs)
  views_said [] h f = tt
  views_said (view ∷ vs) h f = (view_said view h.0 f.0, views_said vs h.1 f.1)

  pub valid_over : IsOver sources (graph_tables catalog) (view_trees catalog) deep (query (schema_columns catalog) [] text.query)
  valid_over =
      let twins = no_twins catalog valid.schema.accepted in
      let fit = valid_buildable catalog shared typed has text valid (knows catalog) in
      record {
        tables_said = tables_said catalog.tables (found_self (λ (table : TableDecl). table.name) catalog.tables (twins_left (table_names catalog.tables) (view_names catalog.views) twins));
        views_said = views_said catalog.views (found_self (λ (view : s.ViewDecl). view.name) catalog.views (twins_right (table_names catalog.tables) (view_names catalog.views) twins))
            (each_of_all (λ (view : s.ViewDecl). Buildable sources has (query (schema_columns catalog) [] view.query)) catalog.views fit.views);
        fit = fit.body;
        shallow = λ name. deep-low catalog 16 (view_named catalog.views name) (all_shallow catalog 16 (shallow catalog valid.schema.accepted) name);
      }
