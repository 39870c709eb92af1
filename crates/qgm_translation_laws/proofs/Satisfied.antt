-- Tables that fit a schema satisfy the bases of the graph of a valid query.
use Rattle.std.proofs.Common.{◌≡◌, ◌∙◌, ◌+◌, ◌≤◌, ◌&&◌, ◌||◌, ℕ, zero, suc, Bool, true, false, cond, filter, get_or, map, length, List, [], ◌∷◌, Option, Some, None, refl, sym, ap, ap₂, subst, inl, inr, arith}
use Rattle.std.specs.Prelude.{slice_get}
use Rattle.std.specs.Bool.{Decides}
use Rattle.std.specs.List.{All, AllZip, list_all, list_any}
use Rattle.std.specs.Cmp.Lexicographic.{pointwise_decides}
use Rattle.std.proofs.lemmas.Bool.{and_parts, cases_Bool, or_parts}
use Rattle.std.proofs.lemmas.List.{length-map}
use Rattle.std.proofs.lemmas.List.Elements.{All-weaker}
use Rattle.csv_tables.specs.Fits.{Distinct, FitsColumn, FitsRow, FitsRows, FitsSchema, OfType}
use Rattle.csv_tables.specs.KeyCells as keys
use Rattle.csv_tables.specs.KeyCells.{contents_in, if_counted, is_null_cell, key_cells, keys_in, with_some}
use Rattle.csv_tables.specs.Ties.{cell_decides}
use Rattle.csv_tables.specs.declared.content.Content.TheVariants.{Holds}
use Rattle.row_bag.proofs.TupleBags.{same_cells-decides}
use Rattle.row_bag.specs.Bags.{bind, if_there, unit}
use Rattle.row_bag.specs.Keys.{HasKey, cells_at}
use Rattle.row_bag.specs.Order.{cell_of}
use Rattle.row_bag.specs.Sets.{multiplicity, same_cells}
use Rattle.row_bag.specs.Tables.{bag_named}
use Rattle.row_bag.specs.declared.row.Row.{Row}
use Rattle.row_bag.specs.declared.tables.Table.{Table}
use Rattle.sql_ast.specs.declared.schema.ColumnDecl.{ColumnDecl}
use Rattle.sql_ast.specs.declared.schema.TableDecl.{TableDecl}
use Rattle.sql_ast.specs.declared.word.DataType.{DataType}
use Rattle.sql_ast.specs.declared.word.DataType.TheVariants as types
use Rattle.sql_ast.specs.Declarations.{Declared, columns_of, names_of, table_named, view_named}
use Rattle.sql_ast.specs.Names.{same_name}
use Rattle.sql_ast.specs.Syntax as s
use Rattle.sql_catalog.specs.Descriptor.{describe, describe_column}
use Rattle.sql_catalog.specs.Keys.{keys_of}
use Rattle.sql_catalog.specs.declared.descriptor.ColumnDescriptor.{ColumnDescriptor}
use Rattle.sql_catalog.specs.declared.descriptor.KeyDescriptor.{KeyDescriptor}
use Rattle.sql_catalog.specs.declared.descriptor.TableDescriptor.{TableDescriptor}
use Rattle.sql_catalog.specs.declared.key.Key.{Key}
use Rattle.sql_meaning.specs.Meaning.{all_named, relation_with}
use Rattle.sql_value.specs.Level.{least}
use Rattle.sql_value.specs.declared.cell.Cell.{Cell}
use Rattle.sql_value.specs.declared.cell.Cell.TheVariants as cell
use Rattle.sql_value.specs.declared.level.Level.TheVariants.{Yes}
use Rattle.sql_value.specs.declared.order_key.OrderKey.{OrderKey}
use Rattle.sql_value.specs.declared.order_key.SqlType.{SqlType}
use Rattle.sql_meaning.specs.ResolvedTrees.{Query}
use Rattle.sql_meaning.specs.Scopes.{first_of}
use Rattle.sql_names.specs.Resolved.{query}
use Rattle.sql_names.specs.Schema.{schema_columns}
use Rattle.sql_catalog.proofs.EachLaws.{Each, each_append, each_more, each_of_all, found_each}
use Rattle.sql_faults.specs.Scopes.{is_some}
use Rattle.sql_faults.specs.Views.{heads_of, typed_columns}
use Rattle.sql_faults.specs.declared.column.TypedColumn.{TypedColumn}
use Rattle.sql_names.specs.Agreed.{IsWide}
use Rattle.sql_faults.specs.Columns.{type_of_declared}
use Rattle.sql_faults.proofs.Catalogs.{head_more, head_of, heads_at}
use Rattle.qgm_core.specs.Boxes.{QueryGraph}
use Rattle.list_laws.specs.Lists.{In}
use Rattle.qgm_core.specs.declared.kinds.BaseTable.{BaseTable}
use Rattle.qgm_core.specs.declared.kinds.BoxKind.{BoxKind}
use Rattle.qgm_core.specs.declared.kinds.BoxKind.TheVariants.{Base, Group, OuterJoin, Select, SetOp}
use Rattle.qgm_core.specs.declared.node.Node.{Node}
use Rattle.qgm_terms.specs.Terms.{Term}
use Rattle.qgm_meaning.specs.Satisfies.{FoundSatisfies, RowsSatisfy, Satisfies, SatisfiesBy, are_of, have_values, is_of, is_value, is_yes}
use Rattle.qgm_translation.specs.Buildable.{Buildable}
use Rattle.qgm_translation.specs.Sources.{Sources}
use Rattle.qgm_translation_laws.specs.Joined.{AreTablesOf, IsBuildableOver, ValidQuery}
use Rattle.qgm_translation_laws.specs.Laid.{IsGraphOf}
use Rattle.qgm_translation_laws.specs.Sources.{body_in, column_type, is_primary, is_unique, key_places, not_null_from, places_of_keys, sources_of, stored_in, stored_table}
use Rattle.qgm_translation_laws.proofs.Joined.{valid_buildable}
use Rattle.qgm_translation_laws.proofs.Known.{IsTable, base-is-table}
use Rattle.qgm_translation_laws.proofs.Passes.{root-reaches}
use Rattle.qgm_translation_laws.proofs.SchemaSources.{schema_sources}

-- ---- tables

-- no rows are there of a table that isn't declared
undeclared : (ds : List TableDecl) (ts : List Table) (name : List ℕ) → FitsSchema ds ts → table_named ds name ≡ None → bag_named ts name ≡ None
undeclared [] [] name fits h = refl
undeclared [] (t ∷ ts) name fits h = absurd fits
undeclared (d ∷ ds) [] name fits h = absurd fits
undeclared (d ∷ ds) (t ∷ ts) name fits h = elim (cases_Bool (same_name d.name name)) [
  | inl e ↦ absurd (cc (rw e at h))
  | inr e ↦ rw (ap (λ (n : List ℕ). same_name n name) fits.0.name ∙ e) (undeclared ds ts name fits.1 (rw e at h))
]

-- cells that fit columns are as many
zip-length : (columns : List ColumnDescriptor) (cells : List Cell) → AllZip FitsColumn columns cells → length cells ≡ length columns
zip-length [] [] h = refl
zip-length [] (c ∷ cells) h = absurd h
zip-length (t ∷ columns) [] h = absurd h
zip-length (t ∷ columns) (c ∷ cells) h = ap suc (zip-length columns cells h.1)

-- a table is described by as many columns as it has names
as-many : (keys : List Key) (columns : List ColumnDecl) → length (map (describe_column keys) columns) ≡ length (all_named (names_of columns))
as-many keys columns =
    length-map columns (describe_column keys) ∙ sym (length-map columns (λ (c : ColumnDecl). c.name))
    ∙ sym (length-map (names_of columns) (λ (name : List ℕ). Some name))

-- a table that fits its declaration
wide-table : (d : TableDecl) (rows : List (Row (List Cell))) → All (FitsRow (describe d.elements)) rows → IsWide (relation_with (Some d) (Some rows))
wide-table d rows fits =
    All-weaker (FitsRow (describe d.elements)) (λ (row : Row (List Cell)). length row.cells ≡ length (all_named (names_of (columns_of d.elements))))
    (λ row is. zip-length (describe d.elements).columns row.cells is.cells ∙ as-many (keys_of d.elements) (columns_of d.elements)) rows fits

-- the table of a name among those that fit
wide-tables : (ds : List TableDecl) (ts : List Table) (name : List ℕ) → FitsSchema ds ts → IsWide (relation_with (table_named ds name) (bag_named ts name))
wide-tables [] [] name fits = tt
wide-tables [] (t ∷ ts) name fits = absurd fits
wide-tables (d ∷ ds) [] name fits = absurd fits
wide-tables (d ∷ ds) (t ∷ ts) name fits = elim (cases_Bool (same_name d.name name)) [
  | inl e ↦ rw (e, ap (λ (n : List ℕ). same_name n name) fits.0.name ∙ e) (wide-table d t.bag fits.0.rows.rows)
  | inr e ↦ rw (e, ap (λ (n : List ℕ). same_name n name) fits.0.name ∙ e) (wide-tables ds ts name fits.1)
]

pub are_tables : (catalog : Declared) (tables : List Table) → FitsSchema catalog.tables tables → AreTablesOf catalog tables
are_tables catalog tables fits = record { loaded = λ name h. undeclared catalog.tables tables name fits h; wide = λ name. wide-tables catalog.tables tables name fits }

-- a declared table has rows that fit its declaration
abbrev pub HasRowsOf : TableDecl → List Table → List ℕ → Type 0
HasRowsOf d ts name = (rows : List (Row (List Cell))) × ((bag_named ts name ≡ Some rows) × FitsRows (describe d.elements) rows)

same-decl : (d c : TableDecl) → Some d ≡ Some c → d ≡ c
same-decl d c e = cc

pub rows-of : (ds : List TableDecl) (ts : List Table) (name : List ℕ) (c : TableDecl) → FitsSchema ds ts → table_named ds name ≡ Some c → HasRowsOf c ts name
rows-of [] [] name c fits h = absurd (cc h)
rows-of [] (t ∷ ts) name c fits h = absurd fits
rows-of (d ∷ ds) [] name c fits h = absurd fits
rows-of (d ∷ ds) (t ∷ ts) name c fits h = elim (cases_Bool (same_name d.name name)) [
  | inl e ↦ (
      let same : d ≡ c = same-decl d c (rw e at h) in
      (t.bag, (rw (ap (λ (n : List ℕ). same_name n name) fits.0.name ∙ e) refl, subst (λ (x : TableDecl). FitsRows (describe x.elements) t.bag) same fits.0.rows)))
  | inr e ↦ (
      let r = rows-of ds ts name c fits.1 (rw e at h) in
      (r.0, (rw (ap (λ (n : List ℕ). same_name n name) fits.0.name ∙ e) r.1.0, r.1.1)))
]

-- ---- cells

of-column : (type : DataType) (x : Cell) → OfType type x → is_of (type_of_declared type) x ≡ true
of-column types.Integer (cell.Int z) h = h
of-column types.Integer (cell.Text x) h = absurd h
of-column types.Integer cell.Null h = refl
of-column types.Integer (cell.Err k) h = absurd h
of-column types.Int (cell.Int z) h = h
of-column types.Int (cell.Text x) h = absurd h
of-column types.Int cell.Null h = refl
of-column types.Int (cell.Err k) h = absurd h
of-column (types.Varchar n) (cell.Int z) h = absurd h
of-column (types.Varchar n) (cell.Text x) h = refl
of-column (types.Varchar n) cell.Null h = refl
of-column (types.Varchar n) (cell.Err k) h = absurd h

of-types : (columns : List ColumnDescriptor) (cells : List Cell) → AllZip FitsColumn columns cells → are_of (map column_type columns) cells ≡ true
of-types [] [] h = refl
of-types [] (x ∷ cells) h = absurd h
of-types (c ∷ columns) [] h = absurd h
of-types (c ∷ columns) (x ∷ cells) h = ap₂ ◌&&◌ (of-column c.data_type x h.0.of_type) (of-types columns cells h.1)

value-of : (x : Cell) → (x ≡ cell.Null → ⊥) → is_value x ≡ true
value-of cell.Null h = absurd (h refl)
value-of (cell.Int z) h = refl
value-of (cell.Text x) h = refl
value-of (cell.Err k) h = refl

not-null-later : (p : ℕ → Bool) (i : ℕ) (columns : List ColumnDescriptor) → list_all p (not_null_from (suc i) columns) ≡ list_all (λ k. p (suc k)) (not_null_from i columns)
not-null-later p i [] = refl
not-null-later p i (c ∷ columns) =
    elim c.not_null as (λ b. list_all p (cond b (suc i ∷ not_null_from (suc (suc i)) columns) (not_null_from (suc (suc i)) columns)) ≡ list_all (λ k. p (suc k)) (cond b (i ∷ not_null_from (suc i) columns) (not_null_from (suc i) columns))) [
      | true ↦ ap (λ b. p (suc i) && b) (not-null-later p (suc i) columns)
      | false ↦ not-null-later p (suc i) columns
    ]

-- the cells of not-null columns; what stands before the first cell is not read
not-null : (first : Cell) (columns : List ColumnDescriptor) (cells : List Cell) → AllZip FitsColumn columns cells → list_all (λ k. is_value (get_or (first ∷ cells) k cell.Null)) (not_null_from 1 columns) ≡ true
not-null first [] [] h = refl
not-null first [] (x ∷ cells) h = absurd h
not-null first (c ∷ columns) [] h = absurd h
not-null first (c ∷ columns) (x ∷ cells) h =
    let p : ℕ → Bool = λ k. is_value (get_or (first ∷ x ∷ cells) k cell.Null) in
    let rest : list_all p (not_null_from 2 columns) ≡ true = not-null-later p 1 columns ∙ not-null x columns cells h.1 in
    elim c.not_null as (λ b. c.not_null ≡ b → list_all p (cond b (1 ∷ not_null_from 2 columns) (not_null_from 2 columns)) ≡ true) [
      | true ↦ (λ e. ap₂ ◌&&◌ (value-of x (h.0.allowed e)) rest)
      | false ↦ (λ e. rest)
    ] refl

-- ---- keys

is_true_or_not : (b : Bool) → b ≡ false → b ≡ true → ⊥
is_true_or_not b h k = let e : true ≡ false = sym k ∙ h in let w : ⊥ = cc in w

-- a column that holds a value is one of the row's
held-at : (place : ℕ) (cells : List Cell) → is_value (get_or cells place cell.Null) ≡ true → keys.held (slice_get (map (λ (c : Cell). Holds c) cells) place) ≡ Some (get_or cells place cell.Null)
held-at place [] h = absurd (cc h)
held-at zero (x ∷ cells) h = refl
held-at (suc place) (x ∷ cells) h = held-at place cells h

key-cells-at : (places : List ℕ) (cells : List Cell) → have_values (map suc places) cells ≡ true → keys.cells_at places (map (λ (c : Cell). Holds c) cells) ≡ Some (cells_at (map suc places) cells)
unfolding keys.cells_at
key-cells-at [] cells h = refl
key-cells-at (place ∷ places) cells h =
    let p = and_parts (is_value (get_or cells place cell.Null)) (have_values (map suc places) cells) h in
    rw (held-at place cells p.0, key-cells-at places cells p.1) refl

no-null : (columns : List ℕ) (cells : List Cell) → have_values columns cells ≡ true → list_any is_null_cell (cells_at columns cells) ≡ false
no-null [] cells h = refl
no-null (k ∷ columns) cells h =
    let p = and_parts (is_value (cell_of k cells)) (have_values columns cells) h in
    ap₂ ◌||◌ (value (cell_of k cells) p.0) (no-null columns cells p.1)
  where
    value : (x : Cell) → is_value x ≡ true → is_null_cell x ≡ false
    value cell.Null h = absurd (cc h)
    value (cell.Int z) h = refl
    value (cell.Text x) h = refl
    value (cell.Err k) h = refl

counted : (primary : Bool) (cells : List Cell) → list_any is_null_cell cells ≡ false → if_counted primary cells ≡ Some cells
counted true cells h = refl
counted false cells h = rw h refl

-- a key whose columns hold values counts
key-counts : (key : KeyDescriptor) (row : Row (List Cell)) → have_values (key_places key) row.cells ≡ true → key_cells key (contents_in row) ≡ Some (cells_at (key_places key) row.cells)
key-counts key row h = rw (key-cells-at key.places row.cells h) (counted key.primary (cells_at (key_places key) row.cells) (no-null (key_places key) row.cells h))

csv-decides : (a b : List Cell) → Decides (keys.same_cells a b) (a ≡ b)
csv-decides = pointwise_decides cell_decides

module _ (key : KeyDescriptor) where
  -- the columns of the key
  abbrev columns : List ℕ
  columns = key_places key

  -- the cells of the key, of rows in which none is null
  abbrev Read : List (Row (List Cell)) → List (Row (List Cell))
  Read rows = bind (filter (λ r. have_values columns r.cells) rows) (λ c. unit (cells_at columns c))

  read-skips : (r : Row (List Cell)) (rows : List (Row (List Cell))) → have_values columns r.cells ≡ false → Read (r ∷ rows) ≡ Read rows
  read-skips r rows h = ap (λ b. bind (cond b (r ∷ filter (λ r. have_values columns r.cells) rows) (filter (λ r. have_values columns r.cells) rows)) (λ c. unit (cells_at columns c))) h

  read-takes : (r : Row (List Cell)) (rows : List (Row (List Cell))) (x : List Cell) → r.level ≡ Yes → have_values columns r.cells ≡ true
      → multiplicity same_cells x (Read (r ∷ rows)) ≡ cond (same_cells (cells_at columns r.cells) x) 1 0 + multiplicity same_cells x (Read rows)
  read-takes r rows x there h =
      ap (λ b. multiplicity same_cells x (bind (cond b (r ∷ filter (λ r. have_values columns r.cells) rows) (filter (λ r. have_values columns r.cells) rows)) (λ c. unit (cells_at columns c)))) h
      ∙ ap (λ l. if_there 0 (λ k level. cond (same_cells k x) 1 0) (cells_at columns r.cells) (least l Yes) + multiplicity same_cells x (Read rows)) there

  none-later : (o : Option (List Cell)) (ts : List (List Cell)) (p : List Cell → Bool) → list_any p (with_some o ts) ≡ false → list_any p ts ≡ false
  none-later None ts p h = h
  none-later (Some t) ts p h = (or_parts (p t) (list_any p ts) h).1

  -- a tuple that isn't among the keys of rows isn't read
  absent : (rows : List (Row (List Cell))) → Each (λ (r : Row (List Cell)). r.level ≡ Yes) rows → (x : List Cell) → list_any (keys.same_cells x) (keys_in key rows) ≡ false → multiplicity same_cells x (Read rows) ≡ 0
  absent [] levels x none = refl
  absent (r ∷ rows) levels x none = elim (cases_Bool (have_values columns r.cells)) [
    | inr nulls ↦ ap (multiplicity same_cells x) (read-skips r rows nulls) ∙ absent rows levels.1 x (none-later (key_cells key (contents_in r)) (keys_in key rows) (keys.same_cells x) none)
    | inl there ↦ (
        let c = cells_at columns r.cells in
        let p = or_parts (keys.same_cells x c) (list_any (keys.same_cells x) (keys_in key rows)) (subst (λ o. list_any (keys.same_cells x) (with_some o (keys_in key rows)) ≡ false) (key-counts key r there) none) in
        read-takes r rows x levels.0 there ∙ ap₂ (λ b m. cond {A = ℕ} b 1 0 + m) (other x c p.0) (absent rows levels.1 x p.1))
  ]
    where
      other : (x c : List Cell) → keys.same_cells x c ≡ false → same_cells c x ≡ false
      other x c h = elim (cases_Bool (same_cells c x)) [
        | inl t ↦ absurd (is_true_or_not (keys.same_cells x c) h ((csv-decides x c).1 (sym ((same_cells-decides c x).0 t))))
        | inr f ↦ f
      ]

  distinct-later : (o : Option (List Cell)) (ts : List (List Cell)) → Distinct (with_some o ts) → Distinct ts
  distinct-later None ts h = h
  distinct-later (Some t) ts h = h.1

  -- a tuple is read at most once
  once-read : (rows : List (Row (List Cell))) → Each (λ (r : Row (List Cell)). r.level ≡ Yes) rows → Distinct (keys_in key rows) → (x : List Cell) → multiplicity same_cells x (Read rows) ≤ 1
  once-read [] levels apart x = let low : 0 ≤ 1 = omega arith in low
  once-read (r ∷ rows) levels apart x = elim (cases_Bool (have_values columns r.cells)) [
    | inr nulls ↦ subst (λ n. n ≤ 1) (sym (ap (multiplicity same_cells x) (read-skips r rows nulls))) (once-read rows levels.1 (distinct-later (key_cells key (contents_in r)) (keys_in key rows) apart) x)
    | inl there ↦ (
        let c = cells_at columns r.cells in
        let p : Distinct (c ∷ keys_in key rows) = subst (λ o. Distinct (with_some o (keys_in key rows))) (key-counts key r there) apart in
        subst (λ n. n ≤ 1) (sym (read-takes r rows x levels.0 there))
        (elim (cases_Bool (same_cells c x)) [
          | inl t ↦ (
              let none : multiplicity same_cells x (Read rows) ≡ 0 = absent rows levels.1 x (subst (λ z. list_any (keys.same_cells z) (keys_in key rows) ≡ false) ((same_cells-decides c x).0 t) p.0) in
              subst (λ n. n ≤ 1) (sym (ap₂ (λ b m. cond {A = ℕ} b 1 0 + m) t none)) (omega arith))
          | inr f ↦ subst (λ n. n ≤ 1) (sym (ap (λ b. cond {A = ℕ} b 1 0 + multiplicity same_cells x (Read rows)) f)) (let low : multiplicity same_cells x (Read rows) ≤ 1 = once-read rows levels.1 p.1 x in omega arith)
        ]))
  ]

-- ---- rows

all-rows : (P : Row (List Cell) → Type 0) (p : Row (List Cell) → Bool) → ((row : Row (List Cell)) → P row → p row ≡ true) → (rows : List (Row (List Cell))) → Each P rows → list_all p rows ≡ true
all-rows P p h [] all = refl
all-rows P p h (r ∷ rows) all = ap₂ ◌&&◌ (h r all.0) (all-rows P p h rows all.1)

each-filter : {A : Type 0} (P : A → Type 0) (p : A → Bool) (xs : List A) → Each P xs → Each P (filter p xs)
each-filter P p [] h = tt
each-filter P p (x ∷ xs) h =
    elim (p x) as (λ b. Each P (cond b (x ∷ filter p xs) (filter p xs))) [
      | true ↦ (h.0, each-filter P p xs h.1)
      | false ↦ each-filter P p xs h.1
    ]

each-map : {A B : Type 0} (P : B → Type 0) (f : A → B) (xs : List A) → Each (λ x. P (f x)) xs → Each P (map f xs)
each-map P f [] h = tt
each-map P f (x ∷ xs) h = (h.0, each-map P f xs h.1)

each-in : {A : Type 0} (P : A → Type 0) (xs : List A) → Each P xs → (x : A) → In x xs → P x
each-in P [] h x i = absurd i
each-in P (y ∷ xs) h x (inl e) = subst P e h.0
each-in P (y ∷ xs) h x (inr i) = each-in P xs h.1 x i

-- P of the columns of each key
each-key : (P : List ℕ → Type 0) (all : List KeyDescriptor) → Each (λ (k : KeyDescriptor). P (key_places k)) all → Each P (places_of_keys all)
each-key P all h =
    each_append P (map key_places (filter is_primary all)) (map key_places (filter is_unique all))
    (each-map P key_places (filter is_primary all) (each-filter (λ (k : KeyDescriptor). P (key_places k)) is_primary all h))
    (each-map P key_places (filter is_unique all) (each-filter (λ (k : KeyDescriptor). P (key_places k)) is_unique all h))

-- rows that fit a table keep what its base declares
pub rows-satisfy : (name : List ℕ) (t : TableDescriptor) (rows : List (Row (List Cell))) → FitsRows t rows → RowsSatisfy (stored_table name t) rows
rows-satisfy name t rows fits =
    let each : Each (FitsRow t) rows = each_of_all (FitsRow t) rows fits.rows in
    let levels : Each (λ (r : Row (List Cell)). r.level ≡ Yes) rows = each_more (FitsRow t) (λ (r : Row (List Cell)). r.level ≡ Yes) (λ r is. is.level) rows each in
    record {
      at_yes = all-rows (FitsRow t) (λ r. is_yes r.level) (λ r is. ap is_yes is.level) rows each;
      types = all-rows (FitsRow t) (λ r. are_of (map column_type t.columns) r.cells) (λ r is. of-types t.columns r.cells is.cells) rows each;
      not_null = all-rows (FitsRow t) (λ r. have_values (not_null_from 1 t.columns) r.cells) (λ r is. not-null cell.Null t.columns r.cells is.cells) rows each;
      keys = λ cs i.
          each-in (λ (cs : List ℕ). HasKey cs (filter (λ r. have_values cs r.cells) rows)) (places_of_keys t.keys)
          (each-key (λ (cs : List ℕ). HasKey cs (filter (λ r. have_values cs r.cells) rows)) t.keys
          (each_more (λ (k : KeyDescriptor). Distinct (keys_in k rows)) (λ (k : KeyDescriptor). HasKey (key_places k) (filter (λ r. have_values (key_places k) r.cells) rows)) (λ k h x. once-read k rows levels h x) t.keys
          (each_of_all (λ (k : KeyDescriptor). Distinct (keys_in k rows)) t.keys fits.keys))) cs i;
    }

-- ---- bases

some_none : {A B : Type 0} (x : A) → Some x ≡ None → B
some_none x e = absurd (let w : ⊥ = cc in w)

module _ (catalog : Declared) where
  -- whether there is a table or a view of a name
  abbrev has : List ℕ → Bool
  has name = is_some (heads_of catalog name)

  -- a name that is no view's is a table's
  a-table : (name : List ℕ) → has name ≡ true → body_in catalog (table_named catalog.tables name) (view_named catalog.views name) ≡ None → (d : TableDecl) × (table_named catalog.tables name ≡ Some d)
  a-table name h b = at (table_named catalog.tables name) (view_named catalog.views name) refl refl b
    where
      at : (o : Option TableDecl) (p : Option s.ViewDecl) → table_named catalog.tables name ≡ o → view_named catalog.views name ≡ p → body_in catalog o p ≡ None → (d : TableDecl) × (table_named catalog.tables name ≡ Some d)
      at (Some d) p e f b = (d, e)
      at None (Some view) e f b = some_none (query (schema_columns catalog) [] view.query) b
      at None None e f b =
          absurd (is_true_or_not (has name)
          (ap (λ (found : Option (List TypedColumn)). is_some found) (head_more catalog 15 name ∙ ap₂ (λ (a : Option TableDecl) (b : Option s.ViewDecl). first_of (typed_columns a) (head_of (heads_at catalog 15) b)) e f)) h)

  module _ (shared : List ℕ → ℕ) (typed : Term → SqlType) (tables : List Table) (fits : FitsSchema catalog.tables tables) where
    -- a base that is a table whose name is known
    table-satisfies : (table : BaseTable) → IsTable (sources_of catalog shared typed) has table → FoundSatisfies table (bag_named tables table.name)
    table-satisfies table is =
        let named = a-table is.0 is.1.0 is.1.1 in
        let r = rows-of catalog.tables tables is.0 named.0 fits named.1 in
        let same : table ≡ stored_table is.0 (describe named.0.elements) = is.1.2 ∙ ap (stored_in is.0) named.1 in
        subst (λ (t : BaseTable). FoundSatisfies t (bag_named tables t.name)) (sym same)
        (subst (FoundSatisfies (stored_table is.0 (describe named.0.elements))) (sym r.1.0) (rows-satisfy is.0 (describe named.0.elements) r.0 r.1.1))

each-satisfies : (tables : List Table) (ns : List Node) → ((n : Node) → In n ns → SatisfiesBy n.parts.kind tables) → Satisfies tables ns
each-satisfies tables [] h = tt
each-satisfies tables (n ∷ ns) h = (h n (inl refl), each-satisfies tables ns (λ k i. h k (inr i)))

pub loaded_satisfies : (catalog : Declared) (text : s.QueryText) (names : List (Option (List ℕ))) (order : List OrderKey) (g : QueryGraph) (tables : List Table)
    → ValidQuery catalog text → IsGraphOf catalog text names order g → FitsSchema catalog.tables tables → Satisfies tables g.boxes
loaded_satisfies catalog text names order g tables valid is fits =
    let sources : Sources = sources_of catalog is.shared is.typed in
    let fit : IsBuildableOver catalog sources (has catalog) text = valid_buildable catalog is.shared is.typed (has catalog) text valid (λ name h. h) in
    each-satisfies tables g.boxes (λ n i. by_kind fit n i n.parts.kind refl)
  where
    view-fits : IsBuildableOver catalog (sources_of catalog is.shared is.typed) (has catalog) text → (name : List ℕ) (body : Query) → (sources_of catalog is.shared is.typed).body name ≡ Some body
        → Buildable (sources_of catalog is.shared is.typed) (has catalog) body
    view-fits fit name body e =
        let v = (schema_sources catalog is.shared is.typed valid.schema).views name body e in
        let P : s.ViewDecl → Type 0 = λ view. Buildable (sources_of catalog is.shared is.typed) (has catalog) (query (schema_columns catalog) [] view.query) in
        subst (Buildable (sources_of catalog is.shared is.typed) (has catalog)) (sym v.1.2)
        (found_each P (λ (view : s.ViewDecl). same_name view.name name) catalog.views v.0 (each_of_all P catalog.views fit.views) v.1.1)

    by_kind : IsBuildableOver catalog (sources_of catalog is.shared is.typed) (has catalog) text → (n : Node) → In n g.boxes → (kind : BoxKind) → n.parts.kind ≡ kind → SatisfiesBy kind tables
    by_kind fit n i (Base table) e =
        table-satisfies catalog is.shared is.typed tables fits table
        (base-is-table (sources_of catalog is.shared is.typed) (has catalog) (view-fits fit) (query (schema_columns catalog) [] text.query) g fit.body is.there n i
        (root-reaches g.boxes g.root is.stands.ordered is.built.used n i) table e)
    by_kind fit n i Select e = tt
    by_kind fit n i (Group keys) e = tt
    by_kind fit n i (SetOp operator types) e = tt
    by_kind fit n i OuterJoin e = tt
