-- A name stands for the cell at its place.
use Rattle.std.proofs.Common.{◌≡◌, ℕ, zero, suc, ◌+◌, true, false, cond, List, [], ◌∷◌, ◌++◌, length, get_or, Option, Some, None, refl, ap, ap₂, sym, ◌∙◌, subst, arith}
use Rattle.std.specs.Prelude.{⊤}
use Rattle.std.proofs.lemmas.List.{get_or-append-add, length-append}
use Rattle.row_bag.specs.declared.row.Row.{Row}
use Rattle.sql_ast.specs.declared.name.Column.{Column}
use Rattle.sql_ast.specs.Names.{same_name}
use Rattle.sql_value.specs.declared.cell.Cell.{Cell}
use Rattle.sql_value.specs.declared.cell.Cell.TheVariants.{Null}
use Rattle.sql_meaning.specs.Groups.{Group, no_group}
use Rattle.sql_meaning.specs.Meaning.{cells_of}
use Rattle.sql_meaning.specs.Scopes.{Frame, Range, Scopes, Shape, cell_in, cell_named, cell_of_range, column_value, first_of, found, frame_cells, is_named, or_null, range_in, range_of, shape_of, shapes_of}
use Rattle.sql_meaning.specs.Scopes as named
use Rattle.sql_meaning.specs.ResolvedMeaning as c
use Rattle.sql_names.specs.Agreed.{AreWideFrames, IsWideFrame, flat}
use Rattle.sql_names.specs.Places.{ColumnPlace, Span, at_span, further, here, in_span, names_in, onward, outward, place_in, place_named, place_of, place_outward, span_in, span_of, unqualified}
use Rattle.sql_names.specs.Resolved.{column_at, columns_from, columns_of}
use Rattle.sql_names.proofs.Positions.{in_ranges, place_first}

-- ---- cells side by side

-- so many cells of a row, from a place on
abbrev pub from_place : List Cell → ℕ → ℕ → List Cell
from_place row place zero = []
from_place row place (suc n) = get_or row place Null ∷ from_place row (suc place) n

pub from_shifted : (x : Cell) (row : List Cell) (place n : ℕ) → from_place (x ∷ row) (suc place) n ≡ from_place row place n
from_shifted x row place zero = refl
from_shifted x row place (suc n) = ap (λ (xs : List Cell). get_or row place Null ∷ xs) (from_shifted x row (suc place) n)

pub from_start : (xs ys : List Cell) → from_place (xs ++ ys) 0 (length xs) ≡ xs
from_start [] ys = refl
from_start (x ∷ xs) ys = ap (λ (zs : List Cell). x ∷ zs) (from_shifted x (xs ++ ys) 0 (length xs) ∙ from_start xs ys)

pub from_all : (xs : List Cell) → from_place xs 0 (length xs) ≡ xs
from_all [] = refl
from_all (x ∷ xs) = ap (λ (zs : List Cell). x ∷ zs) (from_shifted x xs 0 (length xs) ∙ from_all xs)

pub from_later : (xs ys : List Cell) (place n : ℕ) → from_place (xs ++ ys) (length xs + place) n ≡ from_place ys place n
from_later xs ys place zero = refl
from_later xs ys place (suc n) =
    let next : suc (length xs + place) ≡ length xs + suc place = omega arith in
    ap₂ (λ (z : Cell) (zs : List Cell). z ∷ zs) (get_or-append-add xs ys place Null)
    (ap (λ (p : ℕ). from_place (xs ++ ys) p n) next ∙ from_later xs ys (suc place) n)

pub length_from : (row : List Cell) (place n : ℕ) → length (from_place row place n) ≡ n
length_from row place zero = refl
length_from row place (suc n) = ap suc (length_from row (suc place) n)

-- ---- columns without a range

named_append : (name : List ℕ) (cs ds : List (Option (List ℕ))) (xs ys : List Cell) → length xs ≡ length cs
    → cell_named name (cs ++ ds) (xs ++ ys) ≡ first_of (cell_named name cs xs) (cell_named name ds ys)
named_append name [] ds [] ys h = refl
named_append name [] ds (x ∷ xs) ys h = absurd (omega arith)
named_append name (c ∷ cs) ds [] ys h = absurd (omega arith)
named_append name (c ∷ cs) ds (x ∷ xs) ys h =
    elim (is_named name c) as (λ b. cond b (Some x) (cell_named name (cs ++ ds) (xs ++ ys)) ≡ first_of (cond b (Some x) (cell_named name cs xs)) (cell_named name ds ys)) [
      | true ↦ refl
      | false ↦ named_append name cs ds xs ys (omega arith)
    ]

in_frame : (name : List ℕ) (frame : Frame) → IsWideFrame frame → cell_in name frame ≡ cell_named name (names_in (shape_of frame)) (frame_cells frame)
in_frame name [] wide = refl
in_frame name (range ∷ frame) wide =
    ap (first_of (cell_named name range.columns range.cells)) (in_frame name frame wide.1)
    ∙ sym (named_append name range.columns (names_in (shape_of frame)) range.cells (frame_cells frame) wide.0)

pub wide_length : (frame : Frame) → IsWideFrame frame → length (frame_cells frame) ≡ length (names_in (shape_of frame))
wide_length [] wide = refl
wide_length (range ∷ frame) wide =
    length-append range.cells (frame_cells frame)
    ∙ ap₂ ◌+◌ wide.0 (wide_length frame wide.1)
    ∙ sym (length-append range.columns (names_in (shape_of frame)))

-- the cell at a place of a row, from a first one on
abbrev cell_past : List Cell → ℕ → Option ℕ → Option Cell
cell_past row first None = None
cell_past row first (Some k) = Some (get_or row (first + k) Null)

past_next : (row : List Cell) (first : ℕ) (o : Option ℕ) → cell_past row (suc first) o ≡ cell_past row first (further 1 o)
past_next row first None = refl
past_next row first (Some k) = let same : suc first + k ≡ first + (1 + k) = omega arith in ap (λ (p : ℕ). Some (get_or row p Null)) same

named_past : (name : List ℕ) (cs : List (Option (List ℕ))) (row : List Cell) (first : ℕ)
    → cell_named name cs (from_place row first (length cs)) ≡ cell_past row first (place_named name cs)
named_past name [] row first = refl
named_past name (c ∷ cs) row first =
    let same : first ≡ first + 0 = omega arith in
    rw (place_first name c cs) (elim (is_named name c) as (λ b. cond b (Some (get_or row first Null)) (cell_named name cs (from_place row (suc first) (length cs))) ≡ cell_past row first (cond b (Some 0) (further 1 (place_named name cs)))) [
      | true ↦ ap (λ (p : ℕ). Some (get_or row p Null)) same
      | false ↦ named_past name cs row (suc first) ∙ past_next row first (place_named name cs)
    ])

named_whole : (name : List ℕ) (cs : List (Option (List ℕ))) (row : List Cell) → length row ≡ length cs → cell_named name cs row ≡ cell_past row 0 (place_named name cs)
named_whole name cs row h = ap (cell_named name cs) (sym (from_all row) ∙ ap (from_place row 0) h) ∙ named_past name cs row 0

-- the cell at a place of scopes; null where there is none
abbrev pub cell_of : Option ColumnPlace → List (List Cell) → Cell
cell_of None scopes = Null
cell_of (Some p) scopes = c.cell_at p.scope p.place scopes

outer_cell : (p : Option ColumnPlace) (row : List Cell) (scopes : List (List Cell)) → cell_of p scopes ≡ cell_of (place_outward p) (row ∷ scopes)
outer_cell None row scopes = refl
outer_cell (Some p) row scopes = refl

first_cell : (o : Option ℕ) (row : List Cell) (scopes : List (List Cell)) (u : Option Cell) (v : Option ColumnPlace) → or_null u ≡ cell_of v scopes
    → or_null (first_of (cell_past row 0 o) u) ≡ cell_of (first_of (here o) (place_outward v)) (row ∷ scopes)
first_cell None row scopes u v h = h ∙ outer_cell v row scopes
first_cell (Some k) row scopes u v h = let same : 0 + k ≡ k = omega arith in ap (λ (p : ℕ). get_or row p Null) same

unqualified_found : (name : List ℕ) (scopes : Scopes) → AreWideFrames scopes → or_null (named.unqualified name scopes) ≡ cell_of (unqualified name (shapes_of scopes)) (flat scopes)
unqualified_found name [] wide = refl
unqualified_found name (frame ∷ scopes) wide =
    ap (λ (o : Option Cell). or_null (first_of o (named.unqualified name scopes))) (in_frame name frame wide.0 ∙ named_whole name (names_in (shape_of frame)) (frame_cells frame) (wide_length frame wide.0) ∙ ap (cell_past (frame_cells frame) 0) (in_ranges name (shape_of frame)))
    ∙ first_cell (place_in name (shape_of frame)) (frame_cells frame) (flat scopes) (named.unqualified name scopes) (unqualified name (shapes_of scopes)) (unqualified_found name scopes wide.1)

-- ---- ranges

-- the columns of a range that stand in a row from a place on
pub record StandsIn (row : List Cell) (range : Range) (span : Span) : Type 0 where
  pub columns : range.columns ≡ span.columns
  pub cells : from_place row span.first (length span.columns) ≡ range.cells

-- in the innermost of scopes
abbrev InRow : List Cell → Option Range → Option Span → Type 0
InRow row None None = ⊤
InRow row (Some range) (Some span) = (span.scope ≡ 0) × StandsIn row range span
InRow row None (Some span) = ⊥
InRow row (Some range) None = ⊥

-- in any of them
abbrev pub Stands : List (List Cell) → Option Range → Option Span → Type 0
Stands scopes None None = ⊤
Stands scopes (Some range) (Some span) = StandsIn (get_or scopes span.scope []) range span
Stands scopes None (Some span) = ⊥
Stands scopes (Some range) None = ⊥

onward_stands : (xs ys : List Cell) (n : ℕ) → length xs ≡ n → (r : Option Range) (s : Option Span) → InRow ys r s → InRow (xs ++ ys) r (onward n s)
onward_stands xs ys n e None None h = tt
onward_stands xs ys n e (Some r) (Some s) h =
    (h.0, record { columns = h.1.columns; cells = ap (λ (m : ℕ). from_place (xs ++ ys) (m + s.first) (length s.columns)) (sym e) ∙ from_later xs ys s.first (length s.columns) ∙ h.1.cells })
onward_stands xs ys n e None (Some s) h = absurd h
onward_stands xs ys n e (Some r) None h = absurd h

range_found : (name : List ℕ) (frame : Frame) → IsWideFrame frame → InRow (frame_cells frame) (range_in name frame) (span_in name (shape_of frame))
range_found name [] wide = tt
range_found name (range ∷ frame) wide =
    elim (same_name range.name name) as (λ b. InRow (range.cells ++ frame_cells frame) (cond b (Some range) (range_in name frame)) (cond b (Some (record { scope = 0; first = 0; columns = range.columns })) (onward (length range.columns) (span_in name (shape_of frame))))) [
      | true ↦ (refl, record { columns = refl; cells = ap (from_place (range.cells ++ frame_cells frame) 0) (sym wide.0) ∙ from_start range.cells (frame_cells frame) })
      | false ↦ onward_stands range.cells (frame_cells frame) (length range.columns) wide.0 (range_in name frame) (span_in name (shape_of frame)) (range_found name frame wide.1)
    ]

outward_stands : (row : List Cell) (scopes : List (List Cell)) (r : Option Range) (s : Option Span) → Stands scopes r s → Stands (row ∷ scopes) r (outward s)
outward_stands row scopes None None h = tt
outward_stands row scopes (Some r) (Some s) h = record { columns = h.columns; cells = h.cells }
outward_stands row scopes None (Some s) h = absurd h
outward_stands row scopes (Some r) None h = absurd h

first_stands : (row : List Cell) (scopes : List (List Cell)) (r : Option Range) (s : Option Span) (u : Option Range) (v : Option Span) → InRow row r s → Stands scopes u v
    → Stands (row ∷ scopes) (first_of r u) (first_of s (outward v))
first_stands row scopes None None u v h k = outward_stands row scopes u v k
first_stands row scopes (Some r) (Some s) u v h k = subst (λ (n : ℕ). StandsIn (get_or (row ∷ scopes) n []) r s) (sym h.0) h.1
first_stands row scopes None (Some s) u v h k = absurd h
first_stands row scopes (Some r) None u v h k = absurd h

pub range_stands : (name : List ℕ) (scopes : Scopes) → AreWideFrames scopes → Stands (flat scopes) (range_of name scopes) (span_of name (shapes_of scopes))
range_stands name [] wide = tt
range_stands name (frame ∷ scopes) wide =
    first_stands (frame_cells frame) (flat scopes) (range_in name frame) (span_in name (shape_of frame)) (range_of name scopes) (span_of name (shapes_of scopes))
    (range_found name frame wide.0) (range_stands name scopes wide.1)

spanned : (s : Span) (o : Option ℕ) (scopes : List (List Cell)) → or_null (cell_past (get_or scopes s.scope []) s.first o) ≡ cell_of (at_span s o) scopes
spanned s None scopes = refl
spanned s (Some k) scopes = refl

in_range : (name : List ℕ) (scopes : List (List Cell)) (r : Option Range) (s : Option Span) → Stands scopes r s → or_null (cell_of_range name r) ≡ cell_of (in_span name s) scopes
in_range name scopes None None h = refl
in_range name scopes (Some r) (Some s) h =
    ap₂ (λ (cs : List (Option (List ℕ))) (xs : List Cell). or_null (cell_named name cs xs)) h.columns (sym h.cells)
    ∙ ap or_null (named_past name s.columns (get_or scopes s.scope []) s.first)
    ∙ spanned s (place_named name s.columns) scopes
in_range name scopes None (Some s) h = absurd h
in_range name scopes (Some r) None h = absurd h

pub found_cell : (range : Option (List ℕ)) (name : List ℕ) (scopes : Scopes) → AreWideFrames scopes → or_null (found range name scopes) ≡ cell_of (place_of range name (shapes_of scopes)) (flat scopes)
found_cell None name scopes wide = unqualified_found name scopes wide
found_cell (Some range) name scopes wide = in_range name (flat scopes) (range_of range scopes) (span_of range (shapes_of scopes)) (range_stands range scopes wide)

-- ---- the same as values

module _ (known : List ℕ → List (Row (List Cell))) (scopes : List (List Cell)) (group : Group (List Cell)) where
  pub column_value_at : (p : Option ColumnPlace) → c.value known (column_at p) scopes group ≡ cell_of p scopes
  column_value_at None = refl
  column_value_at (Some p) = refl

  pub cells_from : (scope place n : ℕ) → c.cells known (columns_from scope place n) scopes group ≡ from_place (get_or scopes scope []) place n
  cells_from scope place zero = refl
  cells_from scope place (suc n) = ap (λ (xs : List Cell). c.cell_at scope place scopes ∷ xs) (cells_from scope (suc place) n)

  pub cells_of_range : (r : Option Range) (s : Option Span) → Stands scopes r s → cells_of r ≡ c.cells known (columns_of s) scopes group
  cells_of_range None None h = refl
  cells_of_range (Some r) (Some s) h = sym h.cells ∙ sym (cells_from s.scope s.first (length s.columns))
  cells_of_range None (Some s) h = absurd h
  cells_of_range (Some r) None h = absurd h

pub column_found : (x : Column) (scopes : Scopes) → AreWideFrames scopes → column_value x scopes ≡ c.value (λ name. []) (column_at (place_of x.range x.name (shapes_of scopes))) (flat scopes) no_group
column_found x scopes wide =
    found_cell x.range x.name scopes wide
    ∙ sym (column_value_at (λ name. []) (flat scopes) no_group (place_of x.range x.name (shapes_of scopes)))
