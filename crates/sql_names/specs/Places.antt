-- Where the columns of a FROM stand in its row, and which of them a name stands for (SQL-92, 6.3 and 6.4).
use Rattle.std.specs.Prelude.{ℕ, suc, ◌+◌, Bool, ◌&&◌, List, [], ◌∷◌, ◌++◌, length, map, position, Option, Some, None, if◌then◌else◌}
use Rattle.std.specs.List.{flat_map}
use Rattle.sql_ast.specs.declared.name.Column.{Column}
use Rattle.sql_ast.specs.Names.{same_name}
use Rattle.sql_meaning.specs.Groups.{range_means}
use Rattle.sql_meaning.specs.Scopes.{Shape, first_of, is_named}
pub use Rattle.sql_names.specs.declared.place.ColumnPlace.{ColumnPlace}

-- the names of the columns of a FROM, in order
abbrev pub names_in : Shape → List (Option (List ℕ))
names_in ranges = flat_map (λ range. range.1) ranges

-- how many columns a FROM has
abbrev pub width : Shape → ℕ
width ranges = length (names_in ranges)

-- ---- columns

-- columns that stand side by side: their scope, the place of the first, and their names
pub record Span : Type 0 where
  pub scope : ℕ
  pub first : ℕ
  pub columns : List (Option (List ℕ))

-- a place so many further on
abbrev pub further : ℕ → Option ℕ → Option ℕ
further n None = None
further n (Some place) = Some (n + place)

-- the place of the first column of a name
abbrev pub place_named : List ℕ → List (Option (List ℕ)) → Option ℕ
place_named name columns = position (is_named name) columns

-- the place of the first column of a name among those of these ranges
abbrev pub place_in : List ℕ → Shape → Option ℕ
place_in name [] = None
place_in name (range ∷ ranges) = first_of (place_named name range.1) (further (length range.1) (place_in name ranges))

-- in this scope, where it is in a row at all
abbrev pub here : Option ℕ → Option ColumnPlace
here None = None
here (Some place) = Some (record { scope = 0; place = place })

-- the same one scope further out
abbrev pub place_outward : Option ColumnPlace → Option ColumnPlace
place_outward None = None
place_outward (Some p) = Some (record { scope = suc p.scope; place = p.place })

-- `c`: the first column of the name in the innermost scope that has one
abbrev pub unqualified : List ℕ → List Shape → Option ColumnPlace
unqualified name [] = None
unqualified name (ranges ∷ shapes) = first_of (here (place_in name ranges)) (place_outward (unqualified name shapes))

-- the same so many places further on
abbrev pub onward : ℕ → Option Span → Option Span
onward n None = None
onward n (Some s) = Some (record { scope = s.scope; first = n + s.first; columns = s.columns })

-- the same one scope further out
abbrev pub outward : Option Span → Option Span
outward None = None
outward (Some s) = Some (record { scope = suc s.scope; first = s.first; columns = s.columns })

-- the columns of the first of these ranges that has a name
abbrev pub span_in : List ℕ → Shape → Option Span
span_in name [] = None
span_in name (range ∷ ranges) = if same_name range.0 name then Some (record { scope = 0; first = 0; columns = range.1 }) else onward (length range.1) (span_in name ranges)

-- the columns of the range of a name in the innermost scope that has one
abbrev pub span_of : List ℕ → List Shape → Option Span
span_of name [] = None
span_of name (ranges ∷ shapes) = first_of (span_in name ranges) (outward (span_of name shapes))

-- a column at a place of a span
abbrev pub at_span : Span → Option ℕ → Option ColumnPlace
at_span s None = None
at_span s (Some place) = Some (record { scope = s.scope; place = s.first + place })

-- the first column of a name in a span
abbrev pub in_span : List ℕ → Option Span → Option ColumnPlace
in_span name None = None
in_span name (Some s) = at_span s (place_named name s.columns)

-- `r.c`, or `c`
abbrev pub place_of : Option (List ℕ) → List ℕ → List Shape → Option ColumnPlace
place_of (Some range) name shapes = in_span name (span_of range shapes)
place_of None name shapes = unqualified name shapes

-- ---- grouping columns

-- the columns of a FROM, each by the name of its range and its own
abbrev pub columns_in : Shape → List (List ℕ × Option (List ℕ))
columns_in ranges = flat_map (λ range. map (λ column. (range.0, column)) range.1) ranges

-- `r.c` or `c` of GROUP BY means a column
abbrev pub means : Column → List ℕ × Option (List ℕ) → Bool
means c column = is_named c.name column.1 && range_means c.range column.0

-- the places of all columns that a column of GROUP BY means
abbrev pub places_meant : Column → List (List ℕ × Option (List ℕ)) → List ℕ
places_meant c [] = []
places_meant c (column ∷ columns) = (if means c column then 0 ∷ [] else []) ++ map suc (places_meant c columns)

-- the same, counted from a first place
abbrev pub places_from : ℕ → Column → List (List ℕ × Option (List ℕ)) → List ℕ
places_from i c [] = []
places_from i c (column ∷ columns) = (if means c column then i ∷ [] else []) ++ places_from (i + 1) c columns

-- the places of grouping columns, for each column of GROUP BY in turn, where GROUP BY is written
abbrev pub grouping_places : List Column → Shape → Option (List ℕ)
grouping_places [] ranges = None
grouping_places (c ∷ by) ranges = Some (flat_map (λ d. places_meant d (columns_in ranges)) (c ∷ by))
