-- Each name of a query stands for one column, as the meaning of queries looks names up (SQL-92, 6.3, 6.4, 7.7 and 7.9), in the query and all that is nested in it.
use Rattle.std.specs.Prelude.{◌≡◌, ◌≤◌, ⊤, ℕ, Bool, true, false, List, [], ◌∷◌, ◌++◌, map, filter, find, length, All, Option, Some, None, if◌then◌else◌}
use Rattle.std.specs.List.{flat_map, list_any}
use Rattle.sql_ast.specs.declared.name.Column.{Column}
use Rattle.sql_ast.specs.declared.text.Sort.{Sort}
use Rattle.sql_ast.specs.declared.text.SortKey.{SortKey}
use Rattle.sql_ast.specs.declared.text.SortKey.TheVariants as sort_key
use Rattle.sql_ast.specs.Names.{has_twins, same_name}
use Rattle.sql_ast.specs.Syntax as s
use Rattle.sql_meaning.specs.Grouping.{is_grouped}
use Rattle.sql_meaning.specs.Groups.{is_grouping}
use Rattle.sql_meaning.specs.Meaning.{number_of}
use Rattle.sql_meaning.specs.Names.{Known, names, shape, table_shape}
use Rattle.sql_meaning.specs.Scopes.{Range, Shape, columns_of_range, is_named}

-- what a place sees of a block: the ranges of its FROM, and its GROUP BY where only grouping columns may be named
pub record Visible : Type 0 where
  pub ranges : Shape
  pub grouping : Option (List Column)

-- all columns may be named
abbrev pub ungrouped : Shape → Visible
ungrouped ranges = record { ranges = ranges; grouping = None }

-- what the list and HAVING of a block see of it
abbrev pub in_list : s.SelectList → List Column → s.Filter → Shape → Visible
in_list list by having ranges = record { ranges = ranges; grouping = if is_grouped list by having then Some by else None }

-- the innermost scope alone: what an aggregate's argument sees, which is read in the rows of its block
abbrev pub own : List Visible → List Visible
own [] = []
own (scope ∷ scopes) = ungrouped scope.ranges ∷ []

abbrev pub ranges_of : List Visible → List Shape
ranges_of scopes = map (λ (scope : Visible). scope.ranges) scopes

-- ---- columns

-- a FROM has a range of a name
abbrev pub has_range : List ℕ → Shape → Bool
has_range name ranges = list_any (λ (range : List ℕ × List (Option (List ℕ))). same_name range.0 name) ranges

-- a FROM has a column of a name
abbrev pub has_column : List ℕ → Shape → Bool
has_column name ranges = list_any (λ (range : List ℕ × List (Option (List ℕ))). list_any (is_named name) range.1) ranges

-- `c` stands in a FROM with a column c, `r.c` in one with a range r
abbrev pub stands : Option (List ℕ) → List ℕ → Shape → Bool
stands None name ranges = has_column name ranges
stands (Some range) name ranges = has_range range ranges

-- a range's name, for each of its columns of a name
abbrev pub bearing : List ℕ → List ℕ × List (Option (List ℕ)) → List (List ℕ)
bearing name range = map (λ (column : Option (List ℕ)). range.0) (filter (is_named name) range.1)

-- the same of all ranges of a FROM for `c`, and of its range r for `r.c`
abbrev pub bearers : Option (List ℕ) → List ℕ → Shape → List (List ℕ)
bearers None name ranges = flat_map (bearing name) ranges
bearers (Some range) name ranges = bearing name (range, columns_of_range range (ranges ∷ []))

-- a column of a range may be named: its block isn't grouped, or it is a grouping column
abbrev pub MayBeNamed : Option (List Column) → List ℕ → Option (List ℕ) → Type 0
MayBeNamed None range column = ⊤
MayBeNamed (Some by) range column = is_grouping by range column ≡ true

-- one range has one column of the name, which may be named
abbrev pub IsOne : Option (List Column) → List ℕ → List (List ℕ) → Type 0
IsOne by name [] = ⊥
IsOne by name (range ∷ []) = MayBeNamed by range (Some name)
IsOne by name (range ∷ other ∷ more) = ⊥

-- `c` or `r.c` means one column of a scope that was found
abbrev pub StandsOnce : Option (List ℕ) → List ℕ → Option Visible → Type 0
StandsOnce range name None = ⊥
StandsOnce range name (Some scope) = IsOne scope.grouping name (bearers range name scope.ranges)

-- the scopes have a first one in which the name stands, and there it stands once
abbrev pub FoundOnce : List Visible → Column → Type 0
FoundOnce scopes c = StandsOnce c.range c.name (find (λ (scope : Visible). stands c.range c.name scope.ranges) scopes)

-- ---- ranges

-- all columns of a range may be named
abbrev pub AllMayBeNamed : Option (List Column) → List ℕ × List (Option (List ℕ)) → Type 0
AllMayBeNamed by range = All (MayBeNamed by range.0) range.1

-- no two ranges of a FROM have one name
abbrev pub AreDistinct : Shape → Type 0
AreDistinct ranges = has_twins (map (λ (range : List ℕ × List (Option (List ℕ))). range.0) ranges) ≡ false

abbrev pub StandsRange : List ℕ → Option Visible → Type 0
StandsRange name None = ⊥
StandsRange name (Some scope) = AllMayBeNamed scope.grouping (name, columns_of_range name (scope.ranges ∷ []))

-- `r.*`: the scopes have a first one with a range r, all columns of which may be named
abbrev pub FoundRange : List Visible → List ℕ → Type 0
FoundRange scopes name = StandsRange name (find (λ (scope : Visible). has_range name scope.ranges) scopes)

-- `*`: all columns of the innermost FROM may be named
abbrev pub FoundStar : List Visible → Type 0
FoundStar [] = ⊥
FoundStar (scope ∷ scopes) = All (AllMayBeNamed scope.grouping) scope.ranges

-- ---- queries: over tables and views by name; each part in the scopes that enclose it

module _ (known : Known) where
  abbrev mutual
    pub FoundExpr : List Visible → s.Expr → Type 0
    FoundExpr scopes (s.add x op y) = FoundExpr scopes x × FoundExpr scopes y
    FoundExpr scopes (s.multiply x op y) = FoundExpr scopes x × FoundExpr scopes y
    FoundExpr scopes (s.signed p x) = FoundExpr scopes x
    FoundExpr scopes (s.number n) = ⊤
    FoundExpr scopes (s.string x) = ⊤
    FoundExpr scopes (s.col c) = FoundOnce scopes c
    FoundExpr scopes (s.paren x) = FoundExpr scopes x
    FoundExpr scopes (s.scalar q) = FoundQuery scopes q
    FoundExpr scopes s.count_all = ⊤
    FoundExpr scopes (s.aggregate f each x) = FoundExpr (own scopes) x
    FoundExpr scopes (s.searched xs o) = FoundArms scopes xs × FoundOtherwise scopes o
    FoundExpr scopes (s.simple x xs o) = FoundExpr scopes x × FoundChoices scopes xs × FoundOtherwise scopes o
    FoundExpr scopes (s.coalesce x xs) = FoundExpr scopes x × FoundExprs scopes xs
    FoundExpr scopes (s.null_if x y) = FoundExpr scopes x × FoundExpr scopes y
    FoundExpr scopes (s.cast_null d) = ⊤

    pub FoundExprs : List Visible → s.Exprs → Type 0
    FoundExprs scopes s.no_expr = ⊤
    FoundExprs scopes (s.one_expr x xs) = FoundExpr scopes x × FoundExprs scopes xs

    pub FoundRes : List Visible → s.Res → Type 0
    FoundRes scopes (s.given x) = FoundExpr scopes x
    FoundRes scopes s.null = ⊤

    pub FoundArms : List Visible → s.Arms → Type 0
    FoundArms scopes s.no_arm = ⊤
    FoundArms scopes (s.one_arm p r xs) = FoundCond scopes p × FoundRes scopes r × FoundArms scopes xs

    pub FoundChoices : List Visible → s.Choices → Type 0
    FoundChoices scopes s.no_choice = ⊤
    FoundChoices scopes (s.one_choice x r xs) = FoundExpr scopes x × FoundRes scopes r × FoundChoices scopes xs

    pub FoundOtherwise : List Visible → s.Otherwise → Type 0
    FoundOtherwise scopes s.no_else = ⊤
    FoundOtherwise scopes (s.or_else r) = FoundRes scopes r

    pub FoundCond : List Visible → s.Cond → Type 0
    FoundCond scopes (s.either p q) = FoundCond scopes p × FoundCond scopes q
    FoundCond scopes (s.both p q) = FoundCond scopes p × FoundCond scopes q
    FoundCond scopes (s.negated p) = FoundCond scopes p
    FoundCond scopes (s.bracket p) = FoundCond scopes p
    FoundCond scopes (s.compare x op y) = FoundExpr scopes x × FoundExpr scopes y
    FoundCond scopes (s.quantified x op each q) = FoundExpr scopes x × FoundQuery scopes q
    FoundCond scopes (s.between x negative y z) = FoundExpr scopes x × FoundExpr scopes y × FoundExpr scopes z
    FoundCond scopes (s.in_query x negative q) = FoundExpr scopes x × FoundQuery scopes q
    FoundCond scopes (s.in_list x negative xs) = FoundExpr scopes x × FoundExprs scopes xs
    FoundCond scopes (s.like x negative y) = FoundExpr scopes x × FoundExpr scopes y
    FoundCond scopes (s.is_null x negative) = FoundExpr scopes x
    FoundCond scopes (s.exists q) = FoundQuery scopes q

    pub FoundFilter : List Visible → s.Filter → Type 0
    FoundFilter scopes s.no_filter = ⊤
    FoundFilter scopes (s.only_where p) = FoundCond scopes p

    pub FoundItem : List Visible → s.Item → Type 0
    FoundItem scopes (s.item x n) = FoundExpr scopes x
    FoundItem scopes (s.all_of name) = FoundRange scopes name

    pub FoundItems : List Visible → s.Items → Type 0
    FoundItems scopes s.no_item = ⊤
    FoundItems scopes (s.one_item x xs) = FoundItem scopes x × FoundItems scopes xs

    pub FoundList : List Visible → s.SelectList → Type 0
    FoundList scopes s.star = FoundStar scopes
    FoundList scopes (s.items xs) = FoundItems scopes xs

    pub FoundTables : List Visible → s.TableRefs → Type 0
    FoundTables scopes s.no_table = ⊤
    FoundTables scopes (s.one_table x xs) = FoundTable scopes x × FoundTables scopes xs

    -- an ON sees the ranges of its two operands first
    pub FoundTable : List Visible → s.TableRef → Type 0
    FoundTable scopes (s.join x inner y p) =
        FoundTable scopes x × FoundTable scopes y × FoundCond (ungrouped (table_shape known x (ranges_of scopes) ++ table_shape known y (ranges_of scopes)) ∷ scopes) p
    FoundTable scopes (s.left_join x outer y p) =
        FoundTable scopes x × FoundTable scopes y × FoundCond (ungrouped (table_shape known x (ranges_of scopes) ++ table_shape known y (ranges_of scopes)) ∷ scopes) p
    FoundTable scopes (s.cross_join x y) = FoundTable scopes x × FoundTable scopes y
    FoundTable scopes (s.named name c) = ⊤
    FoundTable scopes (s.derived q c) = FoundQuery scopes q
    FoundTable scopes (s.joined x) = FoundTable scopes x

    -- FROM, WHERE, GROUP BY, whose columns are of this FROM, list and HAVING
    pub FoundQuery : List Visible → s.Query → Type 0
    FoundQuery scopes (s.block each list from by group having) =
        FoundTables scopes from × AreDistinct (shape known from (ranges_of scopes))
        × FoundFilter (ungrouped (shape known from (ranges_of scopes)) ∷ scopes) by
        × All (FoundOnce (ungrouped (shape known from (ranges_of scopes)) ∷ [])) group
        × FoundList (in_list list group having (shape known from (ranges_of scopes)) ∷ scopes) list
        × FoundFilter (in_list list group having (shape known from (ranges_of scopes)) ∷ scopes) having
    FoundQuery scopes (s.enclosed q) = FoundQuery scopes q
    FoundQuery scopes (s.combine x op all y) = FoundQuery scopes x × FoundQuery scopes y
    FoundQuery scopes (s.intersect x all y) = FoundQuery scopes x × FoundQuery scopes y

-- ---- texts

-- a key of ORDER BY is the name of one output column, or the number of one
abbrev pub FoundKey : List (Option (List ℕ)) → SortKey → Type 0
FoundKey columns (sort_key.Name name) = length (filter (is_named name) columns) ≡ 1
FoundKey columns (sort_key.Number n) = (1 ≤ number_of n) × (number_of n ≤ length columns)

-- the names of a query, and those of its ORDER BY
abbrev pub FoundText : Known → s.QueryText → Type 0
FoundText known text = FoundQuery known [] text.query × All (λ (sort : Sort). FoundKey (names known text.query []) sort.key) text.order

-- ---- rows

-- a row has a cell for each column of its range
abbrev pub IsFull : Range → Type 0
IsFull range = length range.cells ≡ length range.columns
