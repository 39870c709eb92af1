-- A changed graph whose boxes give the rows of some boxes back as far as they pass tests.
use Rattle.std.specs.Prelude.{ℕ, ◌≡◌, true, List, map, Option, Some, None, []}
use Rattle.row_bag.specs.Bags.{Agree}
use Rattle.row_bag.specs.Filters.{passing}
use Rattle.row_bag.specs.Sets.{same_cells}
use Rattle.row_bag.specs.declared.tables.Table.{Table}
use Rattle.sql_value.specs.declared.cell.Cell.{Cell}
use Rattle.sql_value.specs.declared.level.Level.{Level}
use Rattle.list_laws.specs.Lists.{In}
use Rattle.qgm_core.specs.declared.node.Node.{Node}
use Rattle.qgm_meaning.specs.Fits.{fits}
use Rattle.qgm_meaning.specs.Meaning.{Family, bag_in, rows_of}
use Rattle.qgm_meaning.specs.Values.{Bag, Environment}
use Rattle.qgm_edit_laws.specs.Graph.{Sound}

-- for each box a test of its rows, or none
abbrev pub Tests : Type 0
Tests = ℕ → Option (List Cell → Level)

abbrev pub sift : Option (List Cell → Level) → Bag → Bag
sift None rows = rows
sift (Some level) rows = passing level rows

abbrev pub sifted : Tests → Family → Family
sifted t f x e = sift (t x) (f x e)

-- where environments fit, each changed box makes its own rows that pass of the rows below that pass; the root has no test: the roots agree
abbrev pub SiftedAgree : Type 0
SiftedAgree =
    (bs : List Node) (root : ℕ) → Sound bs root → (tables : List Table) (t : Tests) (g : Node → Node) → ((y : Node) → (g y).id ≡ y.id) → ((y : Node) → In y bs → (g y).quants ≡ y.quants) → Sound (map g bs) root → t root ≡ None
    → ((y : Node) → In y bs → (e : Environment) → fits (bag_in tables bs) bs e ≡ true → Agree same_cells (rows_of tables (g y) (sifted t (bag_in tables bs)) e) (sifted t (bag_in tables bs) y.id e))
    → Agree same_cells (bag_in tables (map g bs) root []) (bag_in tables bs root [])
