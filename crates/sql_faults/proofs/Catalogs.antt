-- The tables and views of a catalog: the names of their columns, and their types where all views are valid.
use Rattle.std.proofs.Common.{◌≡◌, ◌∙◌, ◌≤◌, ◌&&◌, ◌||◌, not, ℕ, zero, suc, Bool, true, false, cond, List, [], ◌∷◌, filter, map, Option, Some, None, refl, sym, ap, ap₂, subst, arith}
use Rattle.std.specs.Prelude.{All}
use Rattle.std.specs.List.{list_any}
use Rattle.std.proofs.lemmas.Bool.{or_parts}
use Rattle.row_bag.specs.Tables.{bag_named}
use Rattle.row_bag.specs.declared.row.Row.{Row}
use Rattle.row_bag.specs.declared.tables.Table.{Table}
use Rattle.sql_ast.specs.declared.schema.ColumnDecl.{ColumnDecl}
use Rattle.sql_ast.specs.declared.schema.TableDecl.{TableDecl}
use Rattle.sql_ast.specs.Syntax as s
use Rattle.sql_ast.specs.Declarations.{Declared, table_named, view_named}
use Rattle.sql_ast.specs.Declarations.{columns_of, names_of}
use Rattle.sql_ast.specs.Names.{same_name}
use Rattle.sql_catalog.specs.Nesting.{nests_at, nests_over, read_by, reader_of, readers_of}
use Rattle.sql_catalog.specs.TableNames as t
use Rattle.sql_catalog.specs.declared.reader.Reader.{Reader}
use Rattle.sql_meaning.specs.Meaning.{known_at, known_of, relation_with, viewed}
use Rattle.sql_meaning.specs.Names.{Relation, all_named, names}
use Rattle.sql_meaning.specs.Names as n
use Rattle.sql_meaning.specs.Scopes.{first_of}
use Rattle.sql_value.specs.declared.cell.Cell.{Cell}
use Rattle.sql_catalog.proofs.DepthLaws.{Shallow, ShallowName, all_shallow, nested}
use Rattle.sql_catalog.proofs.EachLaws.{Each, all_of_each, each_more, found_each, none_each}
use Rattle.sql_faults.proofs.Named.{names_same, renamed_names}
use Rattle.sql_faults.proofs.Orders.{both_none}
use Rattle.sql_faults.proofs.Stable.{Equal, equal_columns}
use Rattle.sql_faults.proofs.KnownTypes.{IsTyped, IsTypedHead, typed_query, typed_renamed}
use Rattle.sql_faults.specs.Columns.{columns, columns_or_none, renamed}
use Rattle.sql_faults.specs.Depths.{over}
use Rattle.sql_faults.specs.Faults.{query_fault}
use Rattle.sql_faults.specs.Laws.{AreTypedHeads, NestsShallow, SameColumns, column_names}
use Rattle.sql_faults.specs.Scopes.{Heads}
use Rattle.sql_faults.specs.Views.{fault, heads_of, heads_with, refusal_of, refusal_with, refused_among, refused_to, table_heads, typed, typed_columns, view_columns, view_fault, view_head, view_heads, view_refusal, views_at, views_of_depth}
use Rattle.sql_faults.specs.Views as v
use Rattle.sql_faults.specs.declared.view.ViewHead.{ViewHead}
use Rattle.sql_faults.specs.declared.column.TypedColumn.{TypedColumn}

first_none : {A : Type 0} (a b : Option A) → first_of a b ≡ None → (a ≡ None) × (b ≡ None)
first_none None b h = (refl, h)
first_none (Some x) b h = absurd (cc)

-- ---- the columns of views at a level

abbrev pub head_of : Heads → Option s.ViewDecl → Option (List TypedColumn)
head_of heads None = None
head_of heads (Some view) = Some (view_columns heads view)

found_head : (heads : Heads) (views : List s.ViewDecl) (name : List ℕ) → v.view_named (map (view_head heads) views) name ≡ head_of heads (view_named views name)
found_head heads [] name = refl
found_head heads (view ∷ views) name =
    elim (same_name view.name name) as (λ b.
    (elim b as (λ _. Option (List TypedColumn)) [ true ↦ Some (view_columns heads view) | false ↦ v.view_named (map (view_head heads) views) name ]) ≡ head_of heads (cond b (Some view) (view_named views name))) [
      | true ↦ refl
      | false ↦ found_head heads views name
    ]

typed_each : (cs : List ColumnDecl) → Each IsTyped (map typed cs)
typed_each [] = tt
typed_each (c ∷ cs) = (refl, typed_each cs)

typed_table : (o : Option TableDecl) → Each IsTyped (columns_or_none (typed_columns o))
typed_table None = tt
typed_table (Some table) = typed_each (columns_of table.elements)

first_typed : (a b : Option (List TypedColumn)) → Each IsTyped (columns_or_none a) → Each IsTyped (columns_or_none b) → Each IsTyped (columns_or_none (first_of a b))
first_typed None b h k = k
first_typed (Some cs) b h k = h

module _ (catalog : Declared) where
  abbrev pub heads_at : ℕ → Heads
  heads_at depth = heads_with catalog (views_at catalog depth)

  pub head_more : (depth : ℕ) (name : List ℕ) → heads_at (suc depth) name ≡ first_of (table_heads catalog name) (head_of (heads_at depth) (view_named catalog.views name))
  head_more depth name = ap (first_of (table_heads catalog name)) (found_head (heads_at depth) catalog.views name)

  -- no view nests deeper than this
  abbrev NestsTo : ℕ → Type 0
  NestsTo depth = list_any (nests_over (readers_of catalog.views) depth) (readers_of catalog.views) ≡ false

  -- above the depth to which a view nests its columns stay the same
  pub stable : (d e : ℕ) → d ≤ e → (name : List ℕ) → ShallowName catalog d name → heads_at e name ≡ heads_at d name
  stable zero zero low name h = refl
  stable (suc d) zero low name h = absurd (omega arith)
  stable zero (suc e) low name h = head_more e name ∙ ap (first_of (table_heads catalog name)) (at (view_named catalog.views name) h)
    where
      at : (o : Option s.ViewDecl) → Shallow catalog 0 o → head_of (heads_at e) o ≡ None
      at None k = refl
      at (Some view) k = absurd (cc)
  stable (suc d) (suc e) low name h =
      head_more e name ∙ ap (first_of (table_heads catalog name)) (at (λ other k. stable d e (omega arith) other k) (view_named catalog.views name) h) ∙ sym (head_more d name)
    where
      at : ((other : List ℕ) → ShallowName catalog d other → heads_at e other ≡ heads_at d other) → (o : Option s.ViewDecl) → Shallow catalog (suc d) o → head_of (heads_at e) o ≡ head_of (heads_at d) o
      at below None k = refl
      at below (Some view) k =
          ap (λ (cs : List TypedColumn). Some (renamed view.columns cs))
          (equal_columns (heads_at e) (heads_at d) view.query [] (each_more (ShallowName catalog d) (Equal (heads_at e) (heads_at d)) below (t.in_query view.query) (nested catalog d view k)))

  -- ---- where no view nests over a depth, greater depths change nothing

  head_settled : (depth : ℕ) → depth ≤ 15 → (view : s.ViewDecl) → Shallow catalog (suc depth) (Some view) → view_head (heads_at depth) view ≡ view_head (heads_at 15) view
  head_settled depth low view h =
      ap (λ (cs : List TypedColumn). make view.name (renamed view.columns cs))
      (sym (equal_columns (heads_at 15) (heads_at depth) view.query []
      (each_more (ShallowName catalog depth) (Equal (heads_at 15) (heads_at depth)) (λ name k. stable depth 15 low name k) (t.in_query view.query) (nested catalog depth view h))))
    where
      make : List ℕ → List TypedColumn → ViewHead
      make name columns = record { name = name; columns = columns }

  heads_settled : (depth : ℕ) → depth ≤ 15 → (views : List s.ViewDecl) → Each (λ (view : s.ViewDecl). nests_over (readers_of catalog.views) (suc depth) (reader_of view) ≡ false) views
      → map (view_head (heads_at depth)) views ≡ map (view_head (heads_at 15)) views
  heads_settled depth low [] h = refl
  heads_settled depth low (view ∷ views) h = ap₂ (λ (x : ViewHead) (xs : List ViewHead). x ∷ xs) (head_settled depth low view h.0) (heads_settled depth low views h.1)

  no_views : (head : s.ViewDecl → ViewHead) (views : List s.ViewDecl) → list_any (nests_over (readers_of catalog.views) 0) (readers_of views) ≡ false → [] ≡ map head views
  no_views head [] h = refl
  no_views head (view ∷ views) h = absurd (cc)

  pub views_settled : (depth : ℕ) → depth ≤ 16 → NestsTo depth → views_at catalog depth ≡ view_heads catalog
  views_settled zero low h = no_views (view_head (heads_at 15)) catalog.views h
  views_settled (suc depth) low h = heads_settled depth (omega (arith, low)) catalog.views (none_each (nests_over (readers_of catalog.views) (suc depth)) reader_of catalog.views h)

  -- ---- valid views

  no_refusal : (name : List ℕ) (number : ℕ) → refusal_with name number ≡ None → number ≡ 0
  no_refusal name zero h = refl
  no_refusal name (suc number) h = absurd (cc)

  none_refused : (heads : Heads) (test : s.ViewDecl → Bool) (views : List s.ViewDecl) → refused_among heads (filter test views) ≡ None → Each (λ (view : s.ViewDecl). test view ≡ true → view_fault heads view ≡ 0) views
  none_refused heads test [] h = tt
  none_refused heads test (view ∷ views) h =
      elim (test view) as (λ b. refused_among heads (cond b (view ∷ filter test views) (filter test views)) ≡ None → (b ≡ true → view_fault heads view ≡ 0) × Each (λ (w : s.ViewDecl). test w ≡ true → view_fault heads w ≡ 0) views) [
        | true ↦ (λ k.
            let e = first_none (refusal_of heads view) (refused_among heads (filter test views)) k in
            ((λ _. no_refusal view.name (view_fault heads view) e.0), none_refused heads test views e.1))
        | false ↦ (λ k. ((λ e. absurd (cc)), none_refused heads test views k))
      ] h

  -- one of the views that nest no deeper than this
  abbrev IsValidTo : ℕ → s.ViewDecl → Type 0
  IsValidTo depth view = nests_over (readers_of catalog.views) depth (reader_of view) ≡ false → view_fault (heads_of catalog) view ≡ 0

  valid_more : (depth : ℕ) (views : List s.ViewDecl) → Each (IsValidTo depth) views
      → Each (λ (view : s.ViewDecl). nests_at (readers_of catalog.views) (suc depth) (reader_of view) ≡ true → view_fault (heads_of catalog) view ≡ 0) views → Each (IsValidTo (suc depth)) views
  valid_more depth [] h k = tt
  valid_more depth (view ∷ views) h k = (
    (λ none. at (nests_over (readers_of catalog.views) depth (reader_of view)) (nests_over (readers_of catalog.views) (suc depth) (reader_of view)) none h.0 k.0),
    valid_more depth views h.1 k.1,
  )
    where
      at : (a b : Bool) → b ≡ false → (a ≡ false → view_fault (heads_of catalog) view ≡ 0) → ((a && not b) ≡ true → view_fault (heads_of catalog) view ≡ 0) → view_fault (heads_of catalog) view ≡ 0
      at true b none p q = q (ap not none)
      at false b none p q = p refl

  valid_to : (depth : ℕ) → refused_to catalog depth ≡ None → Each (IsValidTo depth) catalog.views
  valid_to zero h = all catalog.views
    where
      all : (views : List s.ViewDecl) → Each (IsValidTo 0) views
      all [] = tt
      all (view ∷ views) = ((λ e. absurd (cc)), all views)
  valid_to (suc depth) h =
      let e = first_none (refused_to catalog depth) (refused_among (heads_of catalog) (views_of_depth catalog (suc depth))) h in
      valid_more depth catalog.views (valid_to depth e.0) (none_refused (heads_of catalog) (λ (view : s.ViewDecl). nests_at (readers_of catalog.views) (suc depth) (reader_of view)) catalog.views e.1)

  -- ---- types

  -- a view that nests deeper than a number nests deeper than each lesser one
  deeper : (d e : ℕ) → d ≤ e → (view : Reader) → nests_over (readers_of catalog.views) d view ≡ false → nests_over (readers_of catalog.views) e view ≡ false
  deeper zero e low view h = absurd (cc)
  deeper (suc d) zero low view h = absurd (omega arith)
  deeper (suc d) (suc e) low view h = any (λ w k. deeper d e (omega arith) w k) (read_by (readers_of catalog.views) view) h
    where
      any : ((w : Reader) → nests_over (readers_of catalog.views) d w ≡ false → nests_over (readers_of catalog.views) e w ≡ false) → (views : List Reader)
          → list_any (nests_over (readers_of catalog.views) d) views ≡ false → list_any (nests_over (readers_of catalog.views) e) views ≡ false
      any below [] k = refl
      any below (w ∷ views) k =
          ap (λ (b : Bool). b || list_any (nests_over (readers_of catalog.views) e) views) (below w (or_parts (nests_over (readers_of catalog.views) d w) (list_any (nests_over (readers_of catalog.views) d) views) k).0)
          ∙ any below views (or_parts (nests_over (readers_of catalog.views) d w) (list_any (nests_over (readers_of catalog.views) d) views) k).1

  found_valid : refused_to catalog 16 ≡ None → (name : List ℕ) (view : s.ViewDecl) → view_named catalog.views name ≡ Some view → nests_over (readers_of catalog.views) 16 (reader_of view) ≡ false → view_fault (heads_of catalog) view ≡ 0
  found_valid none name view e = found_each (IsValidTo 16) (λ (w : s.ViewDecl). same_name w.name name) catalog.views view (valid_to 16 none) e

  typed_above : (name : List ℕ) → Each IsTyped (columns_or_none (head_of (heads_at 15) (view_named catalog.views name))) → IsTypedHead (heads_of catalog) name
  typed_above name h =
      subst (λ (o : Option (List TypedColumn)). Each IsTyped (columns_or_none o)) (sym (head_more 15 name))
      (first_typed (table_heads catalog name) (head_of (heads_at 15) (view_named catalog.views name)) (typed_table (table_named catalog.tables name)) h)

  typed_head : (depth : ℕ) → depth ≤ 16 → refused_to catalog 16 ≡ None → (name : List ℕ) → ShallowName catalog depth name → IsTypedHead (heads_of catalog) name
  typed_head zero low none name h = typed_above name (at (view_named catalog.views name) h)
    where
      at : (o : Option s.ViewDecl) → Shallow catalog 0 o → Each IsTyped (columns_or_none (head_of (heads_at 15) o))
      at None k = tt
      at (Some view) k = absurd (cc)
  typed_head (suc depth) low none name h = typed_above name (at (λ other k. typed_head depth (omega arith) none other k) (view_named catalog.views name) refl h)
    where
      at : ((other : List ℕ) → ShallowName catalog depth other → IsTypedHead (heads_of catalog) other) → (o : Option s.ViewDecl) → view_named catalog.views name ≡ o → Shallow catalog (suc depth) o
          → Each IsTyped (columns_or_none (head_of (heads_at 15) o))
      at below None e k = tt
      at below (Some view) e k =
          typed_renamed view.columns (columns (heads_at 15) view.query [])
          (subst (Each IsTyped)
          (sym (equal_columns (heads_at 15) (heads_of catalog) view.query []
          (each_more (ShallowName catalog depth) (Equal (heads_at 15) (heads_of catalog)) (λ other m. stable depth 15 (omega arith) other m ∙ sym (stable depth 16 (omega arith) other m)) (t.in_query view.query) (nested catalog depth view k))))
          (typed_query (heads_of catalog) view.query [] tt (each_more (ShallowName catalog depth) (IsTypedHead (heads_of catalog)) below (t.in_query view.query) (nested catalog depth view k))
          (both_none _ _ (found_valid none name view e (deeper (suc depth) 16 low (reader_of view) k))).0))

  pub heads_typed : NestsShallow catalog → view_refusal catalog ≡ None → (name : List ℕ) → IsTypedHead (heads_of catalog) name
  heads_typed shallow none name = typed_head 16 (omega arith) none name (all_shallow catalog 16 shallow name)

  pub views_valid : NestsShallow catalog → view_refusal catalog ≡ None → Each (λ (view : s.ViewDecl). view_fault (heads_of catalog) view ≡ 0) catalog.views
  views_valid shallow none = both catalog.views (valid_to 16 none) (none_each (nests_over (readers_of catalog.views) 16) reader_of catalog.views shallow)
    where
      both : (views : List s.ViewDecl) → Each (IsValidTo 16) views → Each (λ (view : s.ViewDecl). nests_over (readers_of catalog.views) 16 (reader_of view) ≡ false) views → Each (λ (view : s.ViewDecl). view_fault (heads_of catalog) view ≡ 0) views
      both [] h k = tt
      both (view ∷ views) h k = (h.0 k.0, both views h.1 k.1)

  -- ---- names

  module _ (tables : List Table) where
    named_each : (cs : List ColumnDecl) → column_names (map typed cs) ≡ all_named (names_of cs)
    named_each [] = refl
    named_each (c ∷ cs) = ap (λ (xs : List (Option (List ℕ))). Some c.name ∷ xs) (named_each cs)

    same_table : (o : Option TableDecl) (bag : Option (List (Row (List Cell)))) → column_names (columns_or_none (first_of (typed_columns o) None)) ≡ n.columns_of (relation_with o bag)
    same_table None bag = refl
    same_table (Some table) bag = named_each (columns_of table.elements)

    same_first : (o : Option TableDecl) (bag : Option (List (Row (List Cell)))) (b : Option (List TypedColumn)) (p : Option Relation) → column_names (columns_or_none b) ≡ n.columns_of p
        → column_names (columns_or_none (first_of (typed_columns o) b)) ≡ n.columns_of (first_of (relation_with o bag) p)
    same_first None bag b p h = h
    same_first (Some table) bag b p h = named_each (columns_of table.elements)

    same_at : (depth : ℕ) → SameColumns (heads_at depth) (known_at catalog tables depth)
    same_at zero name = same_table (table_named catalog.tables name) (bag_named tables name)
    same_at (suc depth) name =
        ap (λ (o : Option (List TypedColumn)). column_names (columns_or_none o)) (head_more depth name)
        ∙ same_first (table_named catalog.tables name) (bag_named tables name) (head_of (heads_at depth) (view_named catalog.views name)) (viewed (known_at catalog tables depth) (view_named catalog.views name))
        (at (same_at depth) (view_named catalog.views name))
      where
        at : SameColumns (heads_at depth) (known_at catalog tables depth) → (o : Option s.ViewDecl) → column_names (columns_or_none (head_of (heads_at depth) o)) ≡ n.columns_of (viewed (known_at catalog tables depth) o)
        at below None = refl
        at below (Some view) =
            sym (renamed_names view.columns (columns (heads_at depth) view.query []))
            ∙ ap (n.renamed view.columns) (sym (names_same (heads_at depth) (known_at catalog tables depth) below view.query []))

    pub same_columns : SameColumns (heads_of catalog) (known_of catalog tables)
    same_columns = same_at 16

pub typed_tables : (catalog : Declared) → NestsShallow catalog → view_refusal catalog ≡ None → AreTypedHeads (heads_of catalog)
typed_tables catalog shallow none name = all_of_each IsTyped (columns_or_none (heads_of catalog name)) (heads_typed catalog shallow none name)

pub valid_views : (catalog : Declared) → NestsShallow catalog → view_refusal catalog ≡ None → All (λ (view : s.ViewDecl). query_fault (heads_of catalog) view.query [] ≡ 0) catalog.views
valid_views catalog shallow none =
    all_of_each (λ (view : s.ViewDecl). query_fault (heads_of catalog) view.query [] ≡ 0) catalog.views
    (each_more (λ (view : s.ViewDecl). view_fault (heads_of catalog) view ≡ 0) (λ (view : s.ViewDecl). query_fault (heads_of catalog) view.query [] ≡ 0) (λ view h. (both_none _ _ h).0) catalog.views (views_valid catalog shallow none))

pub valid_text : (catalog : Declared) → (text : s.QueryText) → fault catalog text ≡ 0 → query_fault (heads_of catalog) text.query [] ≡ 0
valid_text catalog text h = (both_none _ _ h).0

any_marked : {A : Type 0} (p : A → Bool) (xs : List A) → list_any (λ (mark : Bool). mark) (map p xs) ≡ list_any p xs
any_marked p [] = refl
any_marked p (x ∷ xs) = ap (λ (b : Bool). p x || b) (any_marked p xs)

-- where no view is marked at a depth, the views over it are those over all
pub marks_settled : (catalog : Declared) (depth : ℕ) (all : List Reader) (heads : List ViewHead) (marks : List Bool)
    → depth ≤ 16 → all ≡ readers_of catalog.views → heads ≡ views_at catalog depth → marks ≡ over all depth → list_any (λ (mark : Bool). mark) marks ≡ false → heads ≡ view_heads catalog
marks_settled catalog depth all heads marks low readers_are heads_are marks_are none =
    heads_are
    ∙ views_settled catalog depth low
    (sym (ap (λ (rs : List Reader). list_any (λ (mark : Bool). mark) (over rs depth)) readers_are ∙ any_marked (nests_over (readers_of catalog.views) depth) (readers_of catalog.views)) ∙ (sym (ap (list_any (λ (mark : Bool). mark)) marks_are) ∙ none))
