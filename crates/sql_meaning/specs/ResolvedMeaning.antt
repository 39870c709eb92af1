-- What a query without names means: nested loops over lists, as in the meaning by names, each row of a FROM being one list of cells.
use Rattle.std.specs.Prelude.{ℕ, ◌+◌, nat_eq, if◌then◌else◌, Bool, true, false, List, [], ◌∷◌, get_or, replicate, Option, Some, None}
use Rattle.std.specs.List.{list_any}
use Rattle.shared_types.specs.declared.compare.CmpOp.TheVariants.{Eq, Ge, Le}
use Rattle.row_bag.specs.Bags.{unit}
use Rattle.row_bag.specs.Errors.{error_in}
use Rattle.row_bag.specs.Sets.{same_cells}
use Rattle.row_bag.specs.declared.row.Row.{Row}
use Rattle.sql_meaning.specs.Groups.{Group, Grouped, aggregated, grouping, no_group}
use Rattle.sql_meaning.specs.Groups as g
use Rattle.sql_meaning.specs.Joins.{combined, distinct_if, intersected, kept, left_join, product, selected}
use Rattle.sql_meaning.specs.Subqueries as u
use Rattle.sql_meaning.specs.Values.{additive, case_of, multiplicative}
use Rattle.sql_value.specs.Arithmetic as a
use Rattle.sql_value.specs.Comparison as c
use Rattle.sql_value.specs.Like as l
use Rattle.sql_value.specs.Truths as t
use Rattle.sql_value.specs.declared.cell.Cell.{Cell}
use Rattle.sql_value.specs.declared.cell.Cell.TheVariants as cell
use Rattle.sql_value.specs.declared.cell.Kind.{Kind}
use Rattle.sql_value.specs.declared.truth.Truth.{Truth}
use Rattle.sql_meaning.specs.ResolvedTrees.{Value, Addends, Multipliers, Values, Arms, Choices, Test, Tests, From, Froms, Query}
use Rattle.sql_meaning.specs.ResolvedTrees as q

abbrev pub Bag : Type 0
Bag = List (Row (List Cell))

-- the rows of the blocks that enclose a place, the innermost first
abbrev pub Scopes : Type 0
Scopes = List (List Cell)

-- the cell at a place of a scope; null past the ends
abbrev pub cell_at : ℕ → ℕ → Scopes → Cell
cell_at scope place scopes = get_or (get_or scopes scope []) place cell.Null

-- null at all places, from i on, that aren't places of grouping columns
abbrev pub masked_from : ℕ → List ℕ → List Cell → List Cell
masked_from i places [] = []
masked_from i places (x ∷ xs) = (if list_any (nat_eq i) places then x else cell.Null) ∷ masked_from (i + 1) places xs

-- the grouping cells of a row, at their places
abbrev pub key : Option (List ℕ) → List Cell → List Cell
key None cells = masked_from 0 [] cells
key (Some places) cells = masked_from 0 places cells

-- GROUP BY is written
abbrev pub is_keyed : Option (List ℕ) → Bool
is_keyed None = false
is_keyed (Some places) = true

-- the groups of a block, of rows of so many cells
abbrev pub groups : Option (List ℕ) → ℕ → Bag → List (Row (Grouped (List Cell)))
groups by width rows = grouping (is_keyed by) same_cells (key by) (λ cells. error_in (key by cells)) (replicate width) rows

-- the cells of the one row that an error is
abbrev pub failed_cells : ℕ → Kind → List Cell
failed_cells width k = replicate width (cell.Err k)

-- over tables and views by name
module _ (known : List ℕ → Bag) where
  abbrev mutual
    pub value : Value → Scopes → Group (List Cell) → Cell
    value (q.number n) scopes group = cell.Int n
    value (q.text x) scopes group = cell.Text x
    value (q.null type) scopes group = cell.Null
    value (q.column scope place) scopes group = cell_at scope place scopes
    value (q.sum x xs) scopes group = summed (value x scopes group) xs scopes group
    value (q.product x xs) scopes group = multiplied (value x scopes group) xs scopes group
    value (q.negative x) scopes group = a.neg (value x scopes group)
    value (q.searched xs last) scopes group = of_arms xs (value last scopes group) scopes group
    value (q.simple x xs last) scopes group = of_choices (value x scopes group) xs (value last scopes group) scopes group
    value (q.coalesce x xs) scopes group = coalesced (value x scopes group) xs scopes group
    value (q.null_if x y) scopes group = case_of (c.compare Eq (value x scopes group) (value y scopes group)) cell.Null (value x scopes group)
    value (q.scalar query) scopes group = u.scalar (rows query scopes)
    value q.count_all scopes group = g.count_all group
    -- the argument is read in each row of the group
    value (q.aggregate f distinct x) scopes group = aggregated f distinct (λ cells. value x (cells ∷ []) no_group) group

    -- from the left
    pub summed : Cell → Addends → Scopes → Group (List Cell) → Cell
    summed x q.no_addend scopes group = x
    summed x (q.one_addend op y ys) scopes group = summed (additive op x (value y scopes group)) ys scopes group

    pub multiplied : Cell → Multipliers → Scopes → Group (List Cell) → Cell
    multiplied x q.no_multiplier scopes group = x
    multiplied x (q.one_multiplier op y ys) scopes group = multiplied (multiplicative op x (value y scopes group)) ys scopes group

    pub of_arms : Arms → Cell → Scopes → Group (List Cell) → Cell
    of_arms q.no_arm last scopes group = last
    of_arms (q.one_arm p x xs) last scopes group = case_of (truth p scopes group) (value x scopes group) (of_arms xs last scopes group)

    pub of_choices : Cell → Choices → Cell → Scopes → Group (List Cell) → Cell
    of_choices x q.no_choice last scopes group = last
    of_choices x (q.one_choice y z ys) last scopes group = case_of (c.compare Eq x (value y scopes group)) (value z scopes group) (of_choices x ys last scopes group)

    pub coalesced : Cell → Values → Scopes → Group (List Cell) → Cell
    coalesced x q.no_value scopes group = x
    coalesced x (q.one_value y ys) scopes group = case_of (t.negated (c.is_null x)) x (coalesced (value y scopes group) ys scopes group)

    pub truth : Test → Scopes → Group (List Cell) → Truth
    truth (q.all ps) scopes group = every ps scopes group
    truth (q.any ps) scopes group = some ps scopes group
    truth (q.negated p) scopes group = t.negated (truth p scopes group)
    truth (q.compare x op y) scopes group = c.compare op (value x scopes group) (value y scopes group)
    truth (q.quantified x op each query) scopes group = u.quantified each op (value x scopes group) (rows query scopes)
    truth (q.between x y z) scopes group = t.and (c.compare Ge (value x scopes group) (value y scopes group)) (c.compare Le (value x scopes group) (value z scopes group))
    truth (q.among x xs) scopes group = equals_one (value x scopes group) xs scopes group
    truth (q.among_rows x query) scopes group = u.compare_any Eq (value x scopes group) (rows query scopes)
    truth (q.like x y) scopes group = l.like (value x scopes group) (value y scopes group)
    truth (q.is_null x) scopes group = c.is_null (value x scopes group)
    truth (q.exists query) scopes group = u.exists (rows query scopes)

    pub every : Tests → Scopes → Group (List Cell) → Truth
    every q.no_test scopes group = t.truth_of true
    every (q.one_test p ps) scopes group = t.and (truth p scopes group) (every ps scopes group)

    pub some : Tests → Scopes → Group (List Cell) → Truth
    some q.no_test scopes group = t.truth_of false
    some (q.one_test p ps) scopes group = t.or (truth p scopes group) (some ps scopes group)

    pub equals_one : Cell → Values → Scopes → Group (List Cell) → Truth
    equals_one x q.no_value scopes group = t.truth_of false
    equals_one x (q.one_value y ys) scopes group = t.or (c.compare Eq x (value y scopes group)) (equals_one x ys scopes group)

    -- the cells of a list
    pub cells : Values → Scopes → Group (List Cell) → List Cell
    cells q.no_value scopes group = []
    cells (q.one_value x xs) scopes group = value x scopes group ∷ cells xs scopes group

    -- the product of the tables of a FROM, in their order
    pub frames : Froms → Scopes → Bag
    frames q.no_from scopes = unit []
    frames (q.one_from x xs) scopes = product (from_rows x scopes) (frames xs scopes)

    pub from_rows : From → Scopes → Bag
    from_rows (q.named name) scopes = known name
    from_rows (q.derived query) scopes = rows query scopes
    from_rows (q.crossed x y) scopes = product (from_rows x scopes) (from_rows y scopes)
    from_rows (q.joined x y p) scopes = kept (λ row. truth p (row ∷ scopes) no_group) (product (from_rows x scopes) (from_rows y scopes))
    from_rows (q.left_joined x y width p) scopes =
        left_join (λ row. truth p (row ∷ scopes) no_group) (replicate width cell.Null) (from_rows x scopes) (from_rows y scopes)

    -- in the scopes that enclose a query
    pub rows : Query → Scopes → Bag
    rows (q.block distinct list from by) scopes =
        distinct_if distinct (selected (λ row. truth by (row ∷ scopes) no_group) (λ row. cells list (row ∷ scopes) no_group) (frames from scopes))
    rows (q.grouped distinct list from by places width having) scopes =
        distinct_if distinct (selected (λ one. truth having (one.key ∷ scopes) one.group) (λ one. cells list (one.key ∷ scopes) one.group)
        (groups places width (kept (λ row. truth by (row ∷ scopes) no_group) (frames from scopes))))
    rows (q.combine x op all width y) scopes = combined op all (failed_cells width) (rows x scopes) (rows y scopes)
    rows (q.intersect x all width y) scopes = intersected all (failed_cells width) (rows x scopes) (rows y scopes)
