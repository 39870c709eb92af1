-- What the check finds where a box with quantifiers is added, and where one is put between a quantifier and the box that it ranges over.
use Rattle.std.specs.Prelude.{ℕ, ◌≡◌, ◌==◌, ◌-◌, ◌++◌, ◌&&◌, ◌||◌, nat_lt, if◌then◌else◌, Bool, true, false, List, ◌∷◌, Option, None, slice_get}
use Rattle.std.specs.List.{list_all, list_any}
use Rattle.sql_value.specs.declared.order_key.SqlType.{SqlType}
use Rattle.qgm_wellformed.specs.Columns.{columns_of, fits, over_box, places_fit, within}
use Rattle.qgm_wellformed.specs.Shapes.{shape_fits}
use Rattle.qgm_wellformed.specs.Types.{Lookup, joined_column, type_found, types_agree_at, types_by, types_of}
use Rattle.qgm_wellformed.specs.WellFormed.{fault}
use Rattle.qgm_core.specs.Boxes.{QueryGraph, is_quant, numbers, owns, width}
use Rattle.qgm_core.specs.Edits.{on_boxes}
use Rattle.qgm_core.specs.Free.{named_by}
use Rattle.qgm_core.specs.Kinds.{is_F_or_S, is_S, is_fed, is_permit}
use Rattle.list_laws.specs.Lists.{EachOnce, In, first, holds}
use Rattle.qgm_core.specs.declared.kinds.BoxKind.TheVariants.{Select}
use Rattle.qgm_core.specs.declared.node.Node.{Node}
use Rattle.qgm_core.specs.declared.owned.OwnedQuant.{OwnedQuant}
use Rattle.qgm_meaning.specs.Scope.{loose}
use Rattle.qgm_meaning.specs.Searches.{looking}
use Rattle.qgm_terms.specs.Wanted.{Wanted, any_in, any_in_cond}
use Rattle.qgm_terms.specs.declared.named.Column.{Column}
use Rattle.qgm_edit_laws.specs.Adds.{Adds, Interposes, interposed}
use Rattle.qgm_edit_laws.specs.Reforms.{types_at}
use Rattle.qgm_edit_laws.specs.Scoped.{Scoped}

-- column k of q, or where k is 1 a scalar of q
abbrev pub of_column : ℕ → ℕ → Wanted
of_column q k = looking (λ r j. (r == q) && (j == k)) (λ r. (r == q) && (1 == k)) (λ r. false) (λ r. true)

-- a box asks for the type of column k of q
abbrev pub types_asked : ℕ → ℕ → Node → Bool
types_asked q k n = list_any (any_in (of_column q k)) n.parts.head || list_any (any_in_cond (of_column q k)) n.parts.conds.items

-- the type of column k, of these
abbrev pub column_of : List (Option SqlType) → ℕ → Option SqlType
column_of types k = if k == 0 then None else joined_column (slice_get types (k - 1))

-- of these boxes, the one under a quantifier of s
abbrev pub own_box : List Node → Node → ℕ → Option Node
own_box bs s q = over_box bs (first (is_quant q) s.quants)

-- the types of its columns
abbrev pub own_types : List Node → Node → Lookup
own_types bs s q k = type_found (types_of bs) k (own_box bs s q)

-- s may be added, a box over which no quantifier ranges: as for soundness, and it has types, columns and its shape over the boxes as they were
-- what its S quantifiers range over has a column, and what it counts isn't PERMIT
pub record MayAdd (xs ys : List Node) (root : ℕ) (s : Node) : Type 0 where
  pub adds : Adds xs ys root s
  pub scoped : Scoped (loose (xs ++ ys)) s
  pub closed : (p : OwnedQuant) → In p s.quants → (q : ℕ) → loose (xs ++ ys) p.over q ≡ false
  pub types : types_agree_at (own_types (xs ++ ys) s) (types_of (xs ++ ys)) s ≡ true
  pub columns : (places_fit s.parts.kind && list_all (λ d. fits d.place (own_box (xs ++ ys) s d.quant)) (columns_of s)) ≡ true
  pub shape : shape_fits root (xs ++ ys) s ≡ true
  pub scalars : (p : OwnedQuant) (z : Node) → In p s.quants → In z (xs ++ ys) → z.id ≡ p.over → is_S p.kind ≡ true → nat_lt 0 (width z) ≡ true
  pub unseen : (p : OwnedQuant) (z : Node) → In p s.quants → In z (xs ++ ys) → z.id ≡ p.over → is_F_or_S p.kind ≡ true → is_permit z.parts.distinct ≡ false

-- the check finds nothing after it where it found nothing before
abbrev pub AddWellFormed : Type 0
AddWellFormed = (xs ys : List Node) (g : QueryGraph) → g.boxes ≡ xs ++ ys → EachOnce (numbers g.boxes) → fault g ≡ None → (s : Node) → MayAdd xs ys g.root s → fault (on_boxes (λ boxes. xs ++ s ∷ ys) g) ≡ None

-- quantifier r of o, a select that isn't fed, moves onto s, which ranges over r's box
-- s isn't fed, names its own quantifiers, and has types, columns and its shape over the boxes as they were, and the columns that are named of r with their types
-- what S quantifiers range over has a column, and what is counted isn't PERMIT
pub record MayInterpose (xs ys : List Node) (root : ℕ) (s o c : Node) (r : OwnedQuant) : Type 0 where
  pub interposes : Interposes xs ys root s o c r
  pub select : o.parts.kind ≡ Select
  pub not_fed : is_fed o.parts.role ≡ false
  pub not_fed_s : is_fed s.parts.role ≡ false
  pub own : (q : ℕ) → holds q (named_by s) ≡ true → owns q s ≡ true
  pub types : types_agree_at (own_types (xs ++ ys) s) (types_of (xs ++ ys)) s ≡ true
  pub columns : (places_fit s.parts.kind && list_all (λ d. fits d.place (own_box (xs ++ ys) s d.quant)) (columns_of s)) ≡ true
  pub shape : shape_fits root (xs ++ ys) s ≡ true
  pub same : (y : Node) → In y (xs ++ ys) → (k : ℕ) → types_asked r.id k y ≡ true → column_of (types_by (own_types (xs ++ ys) s) s.parts.kind s.parts.head) k ≡ column_of (types_at (xs ++ ys) c.id) k
  pub wide : (y : Node) (d : Column) → In y (xs ++ ys) → In d (columns_of y) → d.quant ≡ r.id → within (width s) d.place ≡ true
  pub scalar : is_S r.kind ≡ true → nat_lt 0 (width s) ≡ true
  pub counted : is_F_or_S r.kind ≡ true → is_permit s.parts.distinct ≡ false
  pub scalars : (p : OwnedQuant) (z : Node) → In p s.quants → In z (xs ++ ys) → z.id ≡ p.over → is_S p.kind ≡ true → nat_lt 0 (width z) ≡ true
  pub unseen : (p : OwnedQuant) (z : Node) → In p s.quants → In z (xs ++ ys) → z.id ≡ p.over → is_F_or_S p.kind ≡ true → is_permit z.parts.distinct ≡ false

-- the check finds nothing after it where it found nothing before
abbrev pub InterposedWellFormed : Type 0
InterposedWellFormed =
    (xs ys : List Node) (g : QueryGraph) → g.boxes ≡ xs ++ ys → EachOnce (numbers g.boxes) → fault g ≡ None → (s o c : Node) (r : OwnedQuant)
    → MayInterpose xs ys g.root s o c r → fault (on_boxes (λ boxes. interposed xs ys s o.id r.id) g) ≡ None
