-- A select in the place of a box: what is asked, and what is kept.
use Rattle.std.specs.Prelude.{ℕ, ◌≡◌, ◌==◌, nat_lt, true, false, List, [], map, None}
use Rattle.row_bag.specs.AsSets.{AgreeAsSets}
use Rattle.row_bag.specs.Bags.{Agree}
use Rattle.row_bag.specs.Sets.{same_cells}
use Rattle.row_bag.specs.declared.tables.Table.{Table}
use Rattle.qgm_core.specs.Boxes.{QueryGraph, ids_of, numbers, overs_of, width}
use Rattle.qgm_core.specs.Edits.{on_boxes}
use Rattle.qgm_core.specs.Kinds.{is_F_or_S, is_S, is_magic, is_permit}
use Rattle.list_laws.specs.Lists.{EachOnce, In, times}
use Rattle.qgm_core.specs.declared.kinds.BoxKind.TheVariants.{Select}
use Rattle.qgm_core.specs.declared.node.Node.{Node}
use Rattle.qgm_core.specs.declared.owned.OwnedQuant.{OwnedQuant}
use Rattle.qgm_wellformed.specs.Columns.{columns_fit}
use Rattle.qgm_wellformed.specs.Shapes.{shape_fits}
use Rattle.qgm_wellformed.specs.Types.{lookup_of, types_agree, types_by}
use Rattle.qgm_wellformed.specs.WellFormed.{fault}
use Rattle.qgm_meaning.specs.AsSets.{ReadsSets}
use Rattle.qgm_meaning.specs.Fits.{fits}
use Rattle.qgm_meaning.specs.Meaning.{bag_in, rows_of}
use Rattle.qgm_meaning.specs.Scope.{loose, loose_of}
use Rattle.qgm_meaning.specs.Values.{Environment}
use Rattle.qgm_edit_laws.specs.Adds.{at}
use Rattle.qgm_edit_laws.specs.Graph.{Sound}

-- f o, a select, may stand in the place of o, a box of bs: it has o's quantifiers, in whatever order and of whatever kinds, and looks up what o does
-- over the boxes as they were it has the types of o's columns, and types, columns and its shape; what its S quantifiers range over has a column, and what it counts isn't PERMIT; if it is PERMIT, o isn't the root, and no F or S quantifier ranges over o
pub record PutsBox (bs : List Node) (root : ℕ) (o : Node) (f : Node → Node) : Type 0 where
  pub within : In o bs
  pub id : (y : Node) → (f y).id ≡ y.id
  pub select : (f o).parts.kind ≡ Select
  pub ids : (q : ℕ) → times q (ids_of (f o)) ≡ times q (ids_of o)
  pub overs : (b : ℕ) → times b (overs_of (f o)) ≡ times b (overs_of o)
  pub was : (r : OwnedQuant) → In r (f o).quants → (s : OwnedQuant) × (In s o.quants × ((s.id ≡ r.id) × (s.over ≡ r.over)))
  pub looks : (q : ℕ) → loose_of (f o) (loose bs) q ≡ loose_of o (loose bs) q
  pub wide : width (f o) ≡ width o
  pub stay : types_by (lookup_of bs) (f o).parts.kind (f o).parts.head ≡ types_by (lookup_of bs) o.parts.kind o.parts.head
  pub magic : is_magic (f o).parts.role ≡ is_magic o.parts.role
  pub types : types_agree bs (f o) ≡ true
  pub columns : columns_fit bs (f o) ≡ true
  pub shape : shape_fits root bs (f o) ≡ true
  pub scalars : (z : Node) (r : OwnedQuant) → In r (f o).quants → is_S r.kind ≡ true → In z bs → z.id ≡ r.over → nat_lt 0 (width z) ≡ true
  pub unseen : (z : Node) (r : OwnedQuant) → In r (f o).quants → is_F_or_S r.kind ≡ true → In z bs → z.id ≡ r.over → is_permit z.parts.distinct ≡ false
  pub permit : is_permit (f o).parts.distinct ≡ true → (o.id ≡ root → ⊥) × ((y : Node) (r : OwnedQuant) → In y bs → In r y.quants → r.over ≡ o.id → is_F_or_S r.kind ≡ false)

-- the graph stays sound
abbrev pub PutSound : Type 0
PutSound = (bs : List Node) (root : ℕ) → Sound bs root → (o : Node) (f : Node → Node) → PutsBox bs root o f → Sound (map (at o.id f) bs) root

-- the check finds nothing that it didn't find before
abbrev pub PutFormed : Type 0
PutFormed = (g : QueryGraph) → EachOnce (numbers g.boxes) → fault g ≡ None → (o : Node) (f : Node → Node) → PutsBox g.boxes g.root o f → fault (on_boxes (map (at o.id f)) g) ≡ None

-- where in the environments that evaluation meets its rows agree with o's, the root's bags agree
abbrev pub PutAgrees : Type 0
PutAgrees =
    (tables : List Table) (bs : List Node) (root : ℕ) → Sound bs root → (o : Node) (f : Node → Node) → PutsBox bs root o f
    → ((env : Environment) → fits (bag_in tables bs) bs env ≡ true → Agree same_cells (rows_of tables (f o) (bag_in tables bs) env) (rows_of tables o (bag_in tables bs) env))
    → Agree same_cells (bag_in tables (map (at o.id f) bs) root []) (bag_in tables bs root [])

-- where they agree as sets, and are read by some and every alone, too
abbrev pub PutAgreesAsSet : Type 0
PutAgreesAsSet =
    (tables : List Table) (bs : List Node) (root : ℕ) → Sound bs root → (o : Node) (f : Node → Node) → PutsBox bs root o f → (root == o.id) ≡ false
    → ((n : Node) → In n bs → ReadsSets (λ x. x == o.id) n) → ReadsSets (λ x. x == o.id) (f o)
    → ((env : Environment) → fits (bag_in tables bs) bs env ≡ true → AgreeAsSets same_cells (rows_of tables (f o) (bag_in tables bs) env) (rows_of tables o (bag_in tables bs) env))
    → Agree same_cells (bag_in tables (map (at o.id f) bs) root []) (bag_in tables bs root [])
