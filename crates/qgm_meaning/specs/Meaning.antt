-- What a box of each kind is: the bag that it gives, over the bags of the boxes below it (Pirahesh, Hellerstein and Hasan 1992, 2.1).
use Rattle.std.specs.Prelude.{ℕ, zero, suc, ◌++◌, if◌then◌else◌, Bool, true, false, List, [], ◌∷◌, map, take, drop, length, Option, Some, None}
use Rattle.row_bag.specs.Bags.{bind, keep, unit}
use Rattle.row_bag.specs.Errors.{error_in}
use Rattle.row_bag.specs.Sets as sets
use Rattle.row_bag.specs.Sets.{collapsed, distinct, failed_cells, grouped, same_cells, union}
use Rattle.row_bag.specs.Tables.{bag_named}
use Rattle.row_bag.specs.declared.tables.Table.{Table}
use Rattle.sql_value.specs.declared.cell.Cell.{Cell}
use Rattle.sql_value.specs.declared.cell.Cell.TheVariants.{Null}
use Rattle.qgm_core.specs.Boxes.{QueryGraph, is_quant}
use Rattle.list_laws.specs.Lists.{first}
use Rattle.qgm_core.specs.Kinds.{is_F, is_enforce}
use Rattle.qgm_core.specs.declared.node.Node.{Node}
use Rattle.qgm_core.specs.declared.owned.OwnedQuant.{OwnedQuant}
use Rattle.qgm_core.specs.declared.kinds.BoxKind.{BoxKind}
use Rattle.qgm_core.specs.declared.kinds.BoxKind.TheVariants.{Base, Select, Group, SetOp, OuterJoin}
use Rattle.qgm_core.specs.declared.kinds.SetOperator.{SetOperator}
use Rattle.qgm_core.specs.declared.kinds.SetOperator.TheVariants.{UnionAll, Union, IntersectAll, Intersect, ExceptAll, Except}
use Rattle.row_bag.specs.Aggregates.{count_rows, folded}
use Rattle.row_bag.specs.Joins.{or_else}
use Rattle.qgm_meaning.specs.Aggregated.{aggregate_of, taken_of}
use Rattle.qgm_meaning.specs.Ranks.{by_rank}
use Rattle.qgm_terms.specs.Terms.{Term, int, text, null_int, null_text, col, both, minus_of, choose, count_all, fold, scalar}
use Rattle.qgm_meaning.specs.Values.{Bag, Environment, all_true, bound, head_cells, value}

-- what boxes give, by their numbers
abbrev pub Family : Type 0
Family = ℕ → Environment → Bag

-- none where there is no such table
abbrev pub rows_or_none : Option Bag → Bag
rows_or_none None = []
rows_or_none (Some rows) = rows

-- none of a quantifier that isn't found
abbrev pub rows_found : Option OwnedQuant → Family → Environment → Bag
rows_found None bag env = []
rows_found (Some r) bag env = bag r.over env

-- what each quantifier of a box gives
abbrev pub quant_rows : Node → Family → Family
quant_rows n bag q env = rows_found (first (is_quant q) n.quants) bag env

-- what is given where the F quantifiers among these are bound, for each combination of rows, in order
abbrev pub over_each : List OwnedQuant → Family → (Environment → Bag) → Environment → Bag
over_each [] s give env = give env
over_each (r ∷ rs) s give env = if is_F r.kind then bind (s r.id env) (λ cells. over_each rs s give (bound r.id cells env)) else over_each rs s give env

-- the head of a box, at the level of its conditions
abbrev pub given : (ℕ → Bag) → Node → Environment → Bag
given rows n env = keep (all_true rows n.parts.conds.items env).t (unit (head_cells rows n.parts.head env))

-- the same over what the E, A and S quantifiers give where all F quantifiers are bound
abbrev pub given_by : Family → Node → Environment → Bag
given_by s n env = given (λ q. s q env) n env

-- with ENFORCE each tuple once, at its greatest level
abbrev pub once_if : Bool → Bag → Bag
once_if true rows = distinct same_cells rows
once_if false rows = rows

-- no quantifier gives anything
abbrev pub nothing : ℕ → Bag
nothing q = []

-- ---- groups

-- the first k cells of a head, of a row of q
abbrev pub key_cells : ℕ → List Term → ℕ → Environment → List Cell → List Cell
key_cells k head q env cells = head_cells nothing (take k head) (bound q cells env)

-- an aggregate of the rows of a group
abbrev pub fold_cell : ℕ → Environment → Bag → Term → Cell
fold_cell q env rows count_all = count_rows rows
fold_cell q env rows (fold f t x) = folded (aggregate_of f) (taken_of t) (bind rows (λ cells. unit (value nothing x (bound q cells env))))
-- a group has no other cell
fold_cell q env rows (int n) = Null
fold_cell q env rows (text s) = Null
fold_cell q env rows null_int = Null
fold_cell q env rows null_text = Null
fold_cell q env rows (col r k) = Null
fold_cell q env rows (both o x y) = Null
fold_cell q env rows (minus_of x) = Null
fold_cell q env rows (choose s x) = Null
fold_cell q env rows (scalar r) = Null

abbrev pub fold_cells : ℕ → List Term → ℕ → Environment → Bag → List Cell
fold_cells k head q env rows = map (fold_cell q env rows) (drop k head)

-- without keys one group, even over no row; else one for each key that occurs
abbrev pub groups : ℕ → List Term → ℕ → Environment → Bag → Bag
groups zero head q env rows = unit (fold_cells 0 head q env rows)
groups (suc k) head q env rows = grouped same_cells (key_cells (suc k) head q env) (λ key members. key ++ fold_cells (suc k) head q env members) rows

-- one row of the greatest error, where a row is at an error level or a key cell is an error
abbrev pub grouped_rows : ℕ → List Term → ℕ → Environment → Bag → Bag
grouped_rows k head q env rows = collapsed (λ cells. error_in (key_cells k head q env cells)) (failed_cells (length head)) rows (groups k head q env rows)

-- ---- set operations

abbrev pub combined : SetOperator → ℕ → Bag → Bag → Bag
combined UnionAll width xs ys = xs ++ ys
combined Union width xs ys = union same_cells xs ys
combined IntersectAll width xs ys = collapsed error_in (failed_cells width) (xs ++ ys) (sets.intersect_all same_cells xs ys)
combined Intersect width xs ys = collapsed error_in (failed_cells width) (xs ++ ys) (sets.intersect same_cells xs ys)
combined ExceptAll width xs ys = collapsed error_in (failed_cells width) (xs ++ ys) (sets.except_all same_cells xs ys)
combined Except width xs ys = collapsed error_in (failed_cells width) (xs ++ ys) (sets.except same_cells xs ys)

-- ---- boxes

-- of the rows of the one quantifier, and of the two
abbrev pub of_one : List OwnedQuant → (ℕ → Bag) → Bag
of_one [] give = []
of_one (r ∷ rs) give = give r.id

abbrev pub of_two : List OwnedQuant → (ℕ → ℕ → Bag) → Bag
of_two [] give = []
of_two (p ∷ rs) give = of_one rs (give p.id)

-- each left row with its partners; without one, the left row with nulls, which are the cells of no row
abbrev pub outer_rows : Node → Family → Environment → ℕ → ℕ → Bag
outer_rows n s env p q =
    bind (s p env) (λ a. or_else (bind (s q env) (λ b. given nothing n (bound q b (bound p a env)))) (unit (head_cells nothing n.parts.head (bound q [] (bound p a env)))))

-- the bag of a box of this kind, over what its quantifiers give
abbrev pub rows_by : BoxKind → List Table → Node → Family → Environment → Bag
rows_by (Base table) tables n s env = rows_or_none (bag_named tables table.name)
rows_by Select tables n s env = once_if (is_enforce n.parts.distinct) (over_each n.quants s (given_by s n) env)
rows_by (Group k) tables n s env = of_one n.quants (λ q. grouped_rows k n.parts.head q env (s q env))
rows_by (SetOp form types) tables n s env = of_two n.quants (λ p q. combined form (length types) (s p env) (s q env))
rows_by OuterJoin tables n s env = of_two n.quants (outer_rows n s env)

abbrev pub rows_of : List Table → Node → Family → Environment → Bag
rows_of tables n bag env = rows_by n.parts.kind tables n (quant_rows n bag) env

-- the bag of a box among these; a box ranges over boxes behind it alone
abbrev pub bag_in : List Table → List Node → Family
bag_in tables ns = by_rank (λ env. []) (rows_of tables) ns

abbrev pub bag : List Table → QueryGraph → Family
bag tables g b env = bag_in tables g.boxes b env

abbrev pub root_bag : List Table → QueryGraph → Bag
root_bag tables g = bag tables g g.root []
