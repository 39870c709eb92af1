-- U2, an S quantifier over a box ranges over a group of it without keys: its one row is the single cell.
use Rattle.std.specs.Prelude.{ℕ, ◌≡◌, ◌==◌, ◌≤◌, ◌++◌, ◌⊎◌, pos, false, true, List, [], ◌∷◌, None}
use Rattle.std.specs.List.{list_any}
use Rattle.sql_value.specs.declared.cell.Cell.{Cell}
use Rattle.row_bag.specs.Bags.{bind, unit}
use Rattle.row_bag.specs.Subqueries.{only_cell}
use Rattle.row_bag.specs.declared.row.Row.{Row}
use Rattle.row_bag.specs.declared.tables.Table.{Table}
use Rattle.qgm_wellformed.specs.WellFormed.{fault}
use Rattle.qgm_core.specs.Boxes.{QueryGraph, has_box, numbers, owns, width}
use Rattle.qgm_core.specs.Edits.{on_boxes, range}
use Rattle.list_laws.specs.Lists.{EachOnce, In}
use Rattle.qgm_core.specs.declared.kinds.BoxKind.TheVariants.{Group, Select}
use Rattle.qgm_core.specs.declared.kinds.Distinct.TheVariants.{Preserve}
use Rattle.qgm_core.specs.declared.kinds.QuantKind.TheVariants.{F, S}
use Rattle.qgm_core.specs.declared.kinds.Role.TheVariants.{Plain}
use Rattle.qgm_core.specs.declared.node.Node.{Node}
use Rattle.qgm_core.specs.declared.owned.OwnedQuant.{OwnedQuant}
use Rattle.qgm_meaning.specs.Meaning.{bag_in, grouped_rows}
use Rattle.qgm_meaning.specs.Searches.{binds, binds_cond}
use Rattle.qgm_meaning.specs.Values.{Bag, Environment}
use Rattle.qgm_terms.specs.Terms.{Term, all_of, col, fold, single}
use Rattle.qgm_edit_laws.specs.Adds.{interposed}
use Rattle.qgm_edit_laws.specs.Facts.{HasAtMostOne, IsErrorFree}
use Rattle.qgm_edit_laws.specs.Graph.{Sound}
use Rattle.qgm_edit_laws.specs.KeepsOver.{KeepsOver}
use Rattle.qgm_meaning.specs.Fits.{fits}
use Rattle.qgm_meaning.specs.Satisfies.{Satisfies}
use Rattle.row_bag.specs.Subqueries as subquery
use Rattle.sql_value.specs.declared.cell.Cell.TheVariants.{Err, Int}
use Rattle.sql_value.specs.declared.cell.Kind.TheVariants.{Cardinality, Division}

-- the first cells of rows
abbrev pub firsts : Bag → List (Row Cell)
firsts rows = bind rows (λ cells. unit (only_cell cells))

abbrev pub single_head : ℕ → List Term
single_head p = fold single all_of (col p 1) ∷ []

-- box b, a group without keys over c by a quantifier p, whose one cell is the single first cell
abbrev pub single_box : ℕ → ℕ → ℕ → Node
single_box b p c = record { id = b; parts = record { kind = Group 0; distinct = Preserve; role = Plain; conds = record { items = []; spare = 0 }; head = single_head p }; quants = range p F c ∷ [] }

-- a select o among xs has the S quantifier r over c, a box of a column among ys; the numbers of the new box and its quantifier are new
pub record MaySingle (xs ys : List Node) (root : ℕ) (b p : ℕ) (o c : Node) (r : OwnedQuant) : Type 0 where
  pub in_o : In o xs
  pub in_c : In c ys
  pub a_select : o.parts.kind ≡ Select
  pub owned : In r o.quants
  pub is_s : r.kind ≡ S
  pub over_c : r.over ≡ c.id
  pub column : 1 ≤ width c
  pub not_root : (c.id == root) ≡ false
  pub new_box : has_box (xs ++ ys) b ≡ false
  pub new_quant : list_any (owns p) (xs ++ ys) ≡ false
  pub scalars : list_any (binds r.id) o.parts.head ≡ false
  pub scalars_conds : list_any (binds_cond r.id) o.parts.conds.items ≡ false

-- over tables that satisfy the bases, in the environments that evaluation meets, column 1 of c is error-free, or c has at most one row
abbrev pub SafeSingle : List Node → Node → Type 0
SafeSingle bs c = (tables : List Table) → Satisfies tables bs → (env : Environment) → fits (bag_in tables bs) bs env ≡ true → IsErrorFree 1 (bag_in tables bs c.id env) ⊎ HasAtMostOne (bag_in tables bs c.id env)

-- the boxes are xs, the new one, and ys, and r ranges over the new one
abbrev pub singled : List Node → List Node → ℕ → ℕ → Node → Node → OwnedQuant → QueryGraph → QueryGraph
singled xs ys b p o c r g = on_boxes (λ boxes. interposed xs ys (single_box b p c.id) o.id r.id) g

-- U2
abbrev pub SingleKeeps : Type 0
SingleKeeps = (xs ys : List Node) (g : QueryGraph) → g.boxes ≡ xs ++ ys → Sound g.boxes g.root → (b p : ℕ) (o c : Node) (r : OwnedQuant) → MaySingle xs ys g.root b p o c r → SafeSingle g.boxes c → KeepsOver g (singled xs ys b p o c r g)

-- and the check finds nothing after it where it found nothing before
abbrev pub SingleWellFormed : Type 0
SingleWellFormed =
    (xs ys : List Node) (g : QueryGraph) → g.boxes ≡ xs ++ ys → EachOnce (numbers g.boxes) → fault g ≡ None → (b p : ℕ) (o c : Node) (r : OwnedQuant)
    → MaySingle xs ys g.root b p o c r → fault (singled xs ys b p o c r g) ≡ None

-- two rows, of which one has an error in its cell: the scalar is the cardinality error, and the single is the cell's
abbrev pub two_rows : Bag
two_rows = unit (Err Division ∷ []) ++ unit (Int (pos 1) ∷ [])

pub record SingleDiffers : Type 0 where
  pub scalar : subquery.scalar two_rows ≡ Err Cardinality
  pub single : subquery.scalar (grouped_rows 0 (single_head 1) 1 [] two_rows) ≡ Err Division
