-- Conditions on the rows of a box, before what it does and after it.
use Rattle.std.specs.Prelude.{ℕ, suc, ◌≡◌, ◌≤◌, ◌++◌, true, List, [], take, length, None, ⊤}
use Rattle.row_bag.specs.AsSets.{is_decided, stands}
use Rattle.row_bag.specs.Filters.{Decides, passing}
use Rattle.row_bag.specs.Bags.{Agree, bind, unit}
use Rattle.row_bag.specs.Errors.{error_among, error_in}
use Rattle.row_bag.specs.Joins.{or_else}
use Rattle.row_bag.specs.Sets.{same_cells}
use Rattle.sql_value.specs.declared.cell.Cell.{Cell}
use Rattle.sql_value.specs.declared.level.Level.{Level}
use Rattle.qgm_core.specs.declared.kinds.SetOperator.{SetOperator}
use Rattle.qgm_core.specs.declared.kinds.SetOperator.TheVariants.{UnionAll, Union, IntersectAll, Intersect, ExceptAll, Except}
use Rattle.qgm_core.specs.declared.node.Node.{Node}
use Rattle.qgm_meaning.specs.Meaning.{combined, given, grouped_rows, key_cells, nothing}
use Rattle.qgm_meaning.specs.Values.{Bag, Environment, bound, head_cells}
use Rattle.qgm_terms.specs.Terms.{Term}

-- neither operand holds an error, and the level is no or yes at each tuple of theirs
pub record Passable (level : List Cell → Level) (xs ys : Bag) : Type 0 where
  pub clean : error_among error_in (xs ++ ys) ≡ None
  pub decided : Decides same_cells level (xs ++ ys)

-- UNION, with ALL or without, asks for nothing
abbrev pub PassableBy : SetOperator → (List Cell → Level) → Bag → Bag → Type 0
PassableBy UnionAll level xs ys = ⊤
PassableBy Union level xs ys = ⊤
PassableBy IntersectAll level xs ys = Passable level xs ys
PassableBy Intersect level xs ys = Passable level xs ys
PassableBy ExceptAll level xs ys = Passable level xs ys
PassableBy Except level xs ys = Passable level xs ys

-- P3: what passes a test of its tuple may pass before the set operation
abbrev pub SetsPass : Type 0
SetsPass =
    (form : SetOperator) (width : ℕ) (level : List Cell → Level) (xs ys : Bag) → PassableBy form level xs ys
    → Agree same_cells (passing level (combined form width xs ys)) (combined form width (passing level xs) (passing level ys))

-- P2: what passes by its key, which holds no error, may pass before the grouping; the level is no or yes at the key of each row that is there
abbrev pub GroupsPass : Type 0
GroupsPass =
    (k : ℕ) (head : List Term) (q : ℕ) (env : Environment) (rows : Bag) (level : List Cell → Level) → suc k ≤ length head
    → error_among (λ cells. error_in (key_cells (suc k) head q env cells)) rows ≡ None
    → ((cells : List Cell) → stands same_cells cells rows ≡ true → is_decided (level (key_cells (suc k) head q env cells)) ≡ true)
    → Agree same_cells
    (passing (λ cells. level (take (suc k) cells)) (grouped_rows (suc k) head q env rows))
    (grouped_rows (suc k) head q env (passing (λ cells. level (key_cells (suc k) head q env cells)) rows))

-- the rows of an outer join of these left and right rows
abbrev pub outer_of : Node → Environment → ℕ → ℕ → Bag → Bag → Bag
outer_of n env p q left right =
    bind left (λ a. or_else (bind right (λ b. given nothing n (bound q b (bound p a env)))) (unit (head_cells nothing n.parts.head (bound q [] (bound p a env)))))

-- P4: a level of an outer join's rows that goes by the left row alone may be that of the left row
abbrev pub OuterPasses : Type 0
OuterPasses =
    (n : Node) (env : Environment) (p q : ℕ) (left right : Bag) (level own : List Cell → Level)
    → ((a b : List Cell) → level (head_cells nothing n.parts.head (bound q b (bound p a env))) ≡ own a)
    → passing level (outer_of n env p q left right) ≡ outer_of n env p q (passing own left) right
