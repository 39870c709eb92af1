-- The names of columns don't depend on rows, and a query's rows are as wide as its names.
use Rattle.std.proofs.Common.{◌≡◌, ℕ, suc, true, false, cond, List, [], ◌∷◌, ◌++◌, length, get_or, Option, Some, None, refl, ap, ap₂, sym, ◌∙◌, subst}
use Rattle.std.specs.Prelude.{All}
use Rattle.std.proofs.lemmas.List.Elements.{All-cons, All-head, All-nil, All-tail}
use Rattle.row_bag.specs.Bags.{bind, unit}
use Rattle.row_bag.specs.declared.row.Row.{Row}
use Rattle.row_bag.proofs.Levels.{least-yes}
use Rattle.sql_ast.specs.Syntax as s
use Rattle.sql_ast.specs.Names.{same_name}
use Rattle.sql_catalog.specs.TableNames as t
use Rattle.sql_catalog.proofs.EachLaws.{Each, each_left, each_right}
use Rattle.sql_value.specs.declared.cell.Cell.{Cell}
use Rattle.sql_meaning.specs.Joins.{ranged}
use Rattle.sql_meaning.specs.Meaning.{cells_of}
use Rattle.sql_meaning.specs.Names.{Known, Relation, column_list, listed, list_names, names, renamed, shape, table_shape, under}
use Rattle.sql_meaning.specs.Names as n
use Rattle.sql_meaning.specs.Scopes.{Frame, Range, Scopes, Shape, columns_of_range, first_of, range_in, range_of, shape_of, shapes_of}
use Rattle.sql_meaning.specs.Scopes as named
use Rattle.sql_names.specs.Agreed.{AreWideFrames, IsWide, flat, names_of, rows_of}
use Rattle.sql_names.specs.Places.{Span, span_of}
use Rattle.sql_names.specs.Resolved.{Columns, bare, without_rows}
use Rattle.sql_names.proofs.Columns.{Stands, length_from, range_stands}
use Rattle.sql_names.proofs.Frames.{FrameIs, one_range}
use Rattle.sql_names.proofs.Related.{Related}

-- ---- names

under_bare : (list : List (List ℕ)) (o : Option Relation) (p : Option (List (Option (List ℕ)))) → p ≡ names_of o → n.columns_of (under list o) ≡ n.columns_of (under list (without_rows p))
under_bare list o p h = at o ∙ ap (λ (r : Option (List (Option (List ℕ)))). n.columns_of (under list (without_rows r))) (sym h)
  where
    at : (r : Option Relation) → n.columns_of (under list r) ≡ n.columns_of (under list (without_rows (names_of r)))
    at None = refl
    at (Some table) = refl

module _ (known : Known) (columns : Columns) where
  abbrev pub Agrees : List ℕ → Type 0
  Agrees name = columns name ≡ names_of (known name)

  mutual
    pub names_bare : (q : s.Query) (shapes : List Shape) → Each Agrees (t.in_query q) → names known q shapes ≡ names (bare columns) q shapes
    names_bare (s.block each list from by group having) shapes e =
        ap (λ (ranges : Shape). list_names list ranges shapes)
        (shape_bare from shapes (each_left Agrees (t.in_tables from) (t.in_filter by ++ t.in_filter having) (each_right Agrees (t.in_list list) (t.in_tables from ++ (t.in_filter by ++ t.in_filter having)) e)))
    names_bare (s.enclosed q) shapes e = names_bare q shapes e
    names_bare (s.combine x op all y) shapes e = names_bare x shapes (each_left Agrees (t.in_query x) (t.in_query y) e)
    names_bare (s.intersect x all y) shapes e = names_bare x shapes (each_left Agrees (t.in_query x) (t.in_query y) e)

    pub shape_bare : (x : s.TableRefs) (shapes : List Shape) → Each Agrees (t.in_tables x) → shape known x shapes ≡ shape (bare columns) x shapes
    shape_bare s.no_table shapes e = refl
    shape_bare (s.one_table x xs) shapes e =
        ap₂ (λ (a b : Shape). a ++ b) (table_bare x shapes (each_left Agrees (t.in_table x) (t.in_tables xs) e)) (shape_bare xs shapes (each_right Agrees (t.in_table x) (t.in_tables xs) e))

    pub table_bare : (x : s.TableRef) (shapes : List Shape) → Each Agrees (t.in_table x) → table_shape known x shapes ≡ table_shape (bare columns) x shapes
    table_bare (s.join x inner y p) shapes e =
        ap₂ (λ (a b : Shape). a ++ b) (table_bare x shapes (each_left Agrees (t.in_table x) (t.in_table y ++ t.in_cond p) e))
        (table_bare y shapes (each_left Agrees (t.in_table y) (t.in_cond p) (each_right Agrees (t.in_table x) (t.in_table y ++ t.in_cond p) e)))
    table_bare (s.left_join x outer y p) shapes e =
        ap₂ (λ (a b : Shape). a ++ b) (table_bare x shapes (each_left Agrees (t.in_table x) (t.in_table y ++ t.in_cond p) e))
        (table_bare y shapes (each_left Agrees (t.in_table y) (t.in_cond p) (each_right Agrees (t.in_table x) (t.in_table y ++ t.in_cond p) e)))
    table_bare (s.cross_join x y) shapes e =
        ap₂ (λ (a b : Shape). a ++ b) (table_bare x shapes (each_left Agrees (t.in_table x) (t.in_table y) e)) (table_bare y shapes (each_right Agrees (t.in_table x) (t.in_table y) e))
    table_bare (s.named name c) shapes e = ap (λ (cs : List (Option (List ℕ))). (n.range_name name c, cs) ∷ []) (under_bare (column_list c) (known name) (columns name) e.0)
    table_bare (s.derived q c) shapes e = ap (λ (cs : List (Option (List ℕ))). (c.name, renamed c.columns cs) ∷ []) (names_bare q shapes e)
    table_bare (s.joined x) shapes e = table_bare x shapes e

-- ---- lengths

listed_length : (list : List (List ℕ)) (columns : List (Option (List ℕ))) → length (listed list columns) ≡ length columns
listed_length list [] = refl
listed_length [] (column ∷ columns) = ap suc (listed_length [] columns)
listed_length (name ∷ list) (column ∷ columns) = ap suc (listed_length list columns)

pub renamed_length : (list : List (List ℕ)) (columns : List (Option (List ℕ))) → length (renamed list columns) ≡ length columns
renamed_length [] columns = refl
renamed_length (name ∷ list) columns = listed_length (name ∷ list) columns

abbrev names_or_none : Option Range → List (Option (List ℕ))
names_or_none None = []
names_or_none (Some range) = range.columns

-- ---- equal tuples of a width

abbrev pub Same : ℕ → List Cell → List Cell → Type 0
Same width a b = (a ≡ b) × (length a ≡ width)

pub wide_related : (columns : List (Option (List ℕ))) (rows : List (Row (List Cell))) → All (λ row. length row.cells ≡ length columns) rows → Related (Same (length columns)) rows rows
wide_related columns [] h = tt
wide_related columns (r ∷ rows) h = ((refl, All-head (λ (q : Row (List Cell)). length q.cells ≡ length columns) r rows h), refl, wide_related columns rows (All-tail (λ (q : Row (List Cell)). length q.cells ≡ length columns) r rows h))

-- rows that are related have one width
pub all_wide : (width : ℕ) (columns : List (Option (List ℕ))) → length columns ≡ width → (xs ys : List (Row (List Cell))) → Related (Same width) xs ys → All (λ row. length row.cells ≡ length columns) xs
all_wide width columns e [] [] h = All-nil (λ (row : Row (List Cell)). length row.cells ≡ length columns)
all_wide width columns e (x ∷ xs) (y ∷ ys) h = All-cons (λ (row : Row (List Cell)). length row.cells ≡ length columns) x xs (h.0.1 ∙ sym e) (all_wide width columns e xs ys h.2)
all_wide width columns e [] (y ∷ ys) h = absurd h
all_wide width columns e (x ∷ xs) [] h = absurd h

-- rows under a range's name
pub ranged_related : (name : List ℕ) (columns : List (Option (List ℕ))) (width : ℕ) → width ≡ length columns → (xs ys : List (Row (List Cell))) → Related (Same width) xs ys
    → Related (FrameIs ((name, columns) ∷ [])) (bind xs (λ cells. unit (record { name = name; columns = columns; cells = cells } ∷ []))) ys
ranged_related name columns width e [] [] h = tt
ranged_related name columns width e (x ∷ xs) (y ∷ ys) h = (
  subst (λ (cells : List Cell). FrameIs ((name, columns) ∷ []) (record { name = name; columns = columns; cells = x.cells } ∷ []) cells) h.0.0 (one_range name columns x.cells (h.0.1 ∙ e)),
  least-yes x.level ∙ h.1,
  ranged_related name columns width e xs ys h.2,
)
ranged_related name columns width e [] (y ∷ ys) h = absurd h
ranged_related name columns width e (x ∷ xs) [] h = absurd h

-- a table or view under a range's name
pub named_related : (name : List ℕ) (list : List (List ℕ)) (o : Option Relation) → IsWide o → (p : Option (List (Option (List ℕ)))) → p ≡ names_of o
    → Related (FrameIs ((name, n.columns_of (under list (without_rows p))) ∷ [])) (ranged name (under list o)) (rows_of o)
named_related name list o wide p e = subst (λ (cs : List (Option (List ℕ))). Related (FrameIs ((name, cs) ∷ [])) (ranged name (under list o)) (rows_of o)) (under_bare list o p e) (at o wide)
  where
    at : (r : Option Relation) → IsWide r → Related (FrameIs ((name, n.columns_of (under list r)) ∷ [])) (ranged name (under list r)) (rows_of r)
    at None w = tt
    at (Some table) w = ranged_related name (renamed list table.columns) (length table.columns) (sym (renamed_length list table.columns)) table.rows table.rows (wide_related table.columns table.rows w)

-- ---- a range's columns

columns_found : (name : List ℕ) (frame : Frame) (rest : List (Option (List ℕ))) (other : Option Range) → rest ≡ names_or_none other
    → (elim (named.columns_in name (shape_of frame)) as (λ _. List (Option (List ℕ))) [ Some columns ↦ columns | None ↦ rest ]) ≡ names_or_none (first_of (range_in name frame) other)
columns_found name [] rest other h = h
columns_found name (range ∷ frame) rest other h =
    elim (same_name range.name name) as (λ b. (elim (cond b (Some range.columns) (named.columns_in name (shape_of frame))) as (λ _. List (Option (List ℕ))) [ Some columns ↦ columns | None ↦ rest ]) ≡ names_or_none (first_of (cond b (Some range) (range_in name frame)) other)) [
      | true ↦ refl
      | false ↦ columns_found name frame rest other h
    ]

columns_named : (name : List ℕ) (scopes : Scopes) → columns_of_range name (shapes_of scopes) ≡ names_or_none (range_of name scopes)
columns_named name [] = refl
columns_named name (frame ∷ scopes) = columns_found name frame (columns_of_range name (shapes_of scopes)) (range_of name scopes) (columns_named name scopes)

stands_length : (rows : List (List Cell)) (r : Option Range) (s : Option Span) → Stands rows r s → length (cells_of r) ≡ length (names_or_none r)
stands_length rows None None h = refl
stands_length rows (Some r) (Some s) h = ap length (sym h.cells) ∙ length_from (get_or rows s.scope []) s.first (length s.columns) ∙ ap length (sym h.columns)
stands_length rows None (Some s) h = absurd h
stands_length rows (Some r) None h = absurd h

pub range_length : (name : List ℕ) (scopes : Scopes) → AreWideFrames scopes → length (cells_of (range_of name scopes)) ≡ length (columns_of_range name (shapes_of scopes))
range_length name scopes wide =
    stands_length (flat scopes) (range_of name scopes) (span_of name (shapes_of scopes)) (range_stands name scopes wide)
    ∙ ap length (sym (columns_named name scopes))
