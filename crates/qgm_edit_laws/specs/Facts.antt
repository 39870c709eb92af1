-- What holds of the rows of a bag, and of bags that agree; and what goes on being looked up.
use Rattle.std.specs.Prelude.{ℕ, ◌≡◌, ◌≢◌, ◌+◌, ◌≤◌, if◌then◌else◌, Bool, true, false, List, map, None, ◌⊎◌}
use Rattle.sql_value.specs.Cells.{error_of}
use Rattle.sql_value.specs.declared.cell.Cell.{Cell}
use Rattle.sql_value.specs.declared.cell.Cell.TheVariants.{Null}
use Rattle.row_bag.specs.Bags.{Agree, total}
use Rattle.row_bag.specs.Errors.{error_at}
use Rattle.row_bag.specs.Joins.{how_many}
use Rattle.row_bag.specs.Order.{cell_of}
use Rattle.row_bag.specs.Sets.{same_cells}
use Rattle.row_bag.specs.Verdict.{is_there}
use Rattle.row_bag.specs.declared.row.Row.{Row}
use Rattle.qgm_core.specs.Boxes.{Ordered, has_box, owns}
use Rattle.list_laws.specs.Lists.{In}
use Rattle.qgm_core.specs.declared.node.Node.{Node}
use Rattle.qgm_core.specs.declared.owned.OwnedQuant.{OwnedQuant}
use Rattle.qgm_meaning.specs.Scope.{loose, read_by}
use Rattle.qgm_meaning.specs.Values.{Bag}
use Rattle.qgm_edit_laws.specs.Graph.{BareBy}

-- the tuple of each row that is there
abbrev pub EachThere : (List Cell → Type 0) → Bag → Type 0
EachThere P rows = (r : Row (List Cell)) → In r rows → is_there r ≡ true → P r.cells

-- no row is at an error level
abbrev pub IsClean : Bag → Type 0
IsClean rows = (r : Row (List Cell)) → In r rows → error_at r.level ≡ None

-- no row that is there has an error, or a null, in column k
abbrev pub IsErrorFree : ℕ → Bag → Type 0
IsErrorFree k rows = EachThere (λ cells. error_of (cell_of k cells) ≡ None) rows

abbrev pub IsNotNull : ℕ → Bag → Type 0
IsNotNull k rows = EachThere (λ cells. cell_of k cells ≢ Null) rows

-- how many rows that are there have these cells in these columns
abbrev pub with_key : List ℕ → List Cell → Bag → ℕ
with_key columns key rows = total ◌+◌ 0 (λ cells level. if same_cells (map (λ k. cell_of k cells) columns) key then 1 else 0) rows

-- no two rows that are there have the same cells in these columns
abbrev pub HasKey : List ℕ → Bag → Type 0
HasKey columns rows = (key : List Cell) → with_key columns key rows ≤ 1

abbrev pub HasAtMostOne : Bag → Type 0
HasAtMostOne rows = how_many rows ≤ 1

abbrev pub HasExactlyOne : Bag → Type 0
HasExactlyOne rows = how_many rows ≡ 1

-- facts of a bag are facts of each bag that agrees with it
pub record FactsPass (xs ys : Bag) : Type 0 where
  pub rows : (r : Row (List Cell)) → In r ys → is_there r ≡ true → In r xs
  pub clean : IsClean xs → IsClean ys
  pub error_free : (k : ℕ) → IsErrorFree k xs → IsErrorFree k ys
  pub not_null : (k : ℕ) → IsNotNull k xs → IsNotNull k ys
  pub key : (columns : List ℕ) → HasKey columns xs → HasKey columns ys
  pub at_most_one : HasAtMostOne xs → HasAtMostOne ys
  pub exactly_one : HasExactlyOne xs → HasExactlyOne ys

abbrev pub FactsOfAgreeing : Type 0
FactsOfAgreeing = (xs ys : Bag) → Agree same_cells xs ys → FactsPass xs ys

-- what is to be looked up in the box it doesn't own, and reads itself or is to be looked up under a quantifier of it
abbrev pub Asks : (ℕ → ℕ → Bool) → Node → Type 0
Asks look n = (q : ℕ) → look n.id q ≡ true → (owns q n ≡ false) × ((read_by n q ≡ true) ⊎ ((r : OwnedQuant) × (In r n.quants × (look r.over q ≡ true))))

-- where each box so asks for it, it is looked up: a box stays open
abbrev pub LooksStay : Type 0
LooksStay = (look : ℕ → ℕ → Bool) (bs : List Node) → Ordered bs → ((n : Node) → In n bs → BareBy n.parts.kind n) → ((n : Node) → In n bs → Asks look n) → (b q : ℕ) → has_box bs b ≡ true → look b q ≡ true → loose bs b q ≡ true
