-- The graph as the list of its boxes, and what is found in it.
use Rattle.std.specs.Prelude.{ℕ, ◌≡◌, ◌≤◌, ◌==◌, ◌++◌, Bool, true, false, List, [], ◌∷◌, Option, Some, None, length, map, insert, ⊤}
use Rattle.std.specs.List.{list_any, list_all, flat_map}
use Rattle.sql_value.specs.declared.order_key.OrderKey.{OrderKey}
use Rattle.qgm_core.specs.Kinds.{width_by}
pub use Rattle.qgm_core.specs.Kinds.{is_F, is_base, is_enforce}
pub use Rattle.list_laws.specs.Lists.{change, first, put_below}
use Rattle.qgm_core.specs.declared.node.Node.{Node}
use Rattle.qgm_core.specs.declared.owned.Quant.{Quant}
use Rattle.qgm_core.specs.declared.owned.OwnedQuant.{OwnedQuant}
use Rattle.qgm_core.specs.declared.parts.BoxParts.{BoxParts}

-- the boxes by rank, each with its quantifiers by place; the root; the output names; the order keys
pub record QueryGraph : Type 0 where
  pub boxes : List Node
  pub root : ℕ
  pub names : List (Option (List ℕ))
  pub order : List OrderKey

-- ---- boxes

abbrev pub is_box : ℕ → Node → Bool
is_box b n = n.id == b

abbrev pub has_box : List Node → ℕ → Bool
has_box boxes b = list_any (is_box b) boxes

-- the graph holds a box of this number
abbrev pub HasBox : ℕ → QueryGraph → Type 0
HasBox b g = has_box g.boxes b ≡ true

abbrev pub box_of : ℕ → QueryGraph → Option Node
box_of b g = first (is_box b) g.boxes

-- the numbers of boxes
abbrev pub numbers : List Node → List ℕ
numbers boxes = map (λ n. n.id) boxes

-- how many columns a box has
abbrev pub width : Node → ℕ
width n = width_by n.parts.kind (length n.parts.head)

-- a box in the place of box b
abbrev pub replace : ℕ → Node → QueryGraph → QueryGraph
replace b n g = record g { boxes = change (is_box b) (λ _. n) g.boxes }

-- ---- quantifiers

abbrev pub is_quant : ℕ → OwnedQuant → Bool
is_quant q r = r.id == q

abbrev pub owns : ℕ → Node → Bool
owns q n = list_any (is_quant q) n.quants

-- a box of the graph owns this quantifier
abbrev pub HasQuant : ℕ → QueryGraph → Type 0
HasQuant q g = list_any (owns q) g.boxes ≡ true

-- the quantifiers of a box that is found
abbrev pub quants_in : Option Node → List OwnedQuant
quants_in None = []
quants_in (Some n) = n.quants

-- the quantifiers that a box owns, by place
abbrev pub quants_of : ℕ → QueryGraph → List OwnedQuant
quants_of b g = quants_in (box_of b g)

-- a quantifier of the box that is found
abbrev pub range_in : ℕ → Option Node → Option OwnedQuant
range_in q None = None
range_in q (Some n) = first (is_quant q) n.quants

-- a quantifier of this owner
abbrev pub quant_by : ℕ → Option OwnedQuant → Option Quant
quant_by owner None = None
quant_by owner (Some r) = Some (record { owner = owner; kind = r.kind; over = r.over })

-- a quantifier of the box that is found, with its owner
abbrev pub quant_in : ℕ → Option Node → Option Quant
quant_in q None = None
quant_in q (Some n) = quant_by n.id (first (is_quant q) n.quants)

-- a quantifier: its owner, what it ranges for, and the box that it ranges over
abbrev pub quant_of : ℕ → QueryGraph → Option Quant
quant_of q g = quant_in q (first (owns q) g.boxes)

-- the quantifiers that a box owns, and the boxes that they range over
abbrev pub ids_of : Node → List ℕ
ids_of n = map (λ r. r.id) n.quants

abbrev pub overs_of : Node → List ℕ
overs_of n = map (λ r. r.over) n.quants

-- the quantifiers that boxes own, once for each owner
abbrev pub ids_in : List Node → List ℕ
ids_in boxes = flat_map ids_of boxes

-- the boxes that quantifiers range over, once for each
abbrev pub overs_in : List Node → List ℕ
overs_in boxes = flat_map overs_of boxes

-- ---- order

-- each quantifier ranges over one of these boxes
abbrev pub all_over : List Node → List OwnedQuant → Bool
all_over boxes rs = list_all (λ r. has_box boxes r.over) rs

-- boxes in the order of their ranks: each quantifier ranges over a box behind its owner, and no two boxes have one number
abbrev pub Ordered : List Node → Type 0
Ordered [] = ⊤
Ordered (n ∷ ns) = (has_box ns n.id ≡ false) × (all_over ns n.quants ≡ true) × Ordered ns

-- ---- new boxes

-- a box that owns no quantifier
abbrev pub bare_box : ℕ → BoxParts → Node
bare_box b parts = record { id = b; parts = parts; quants = [] }

-- a graph of one box
abbrev pub graph_of_one : ℕ → BoxParts → List (Option (List ℕ)) → List OrderKey → QueryGraph
graph_of_one root parts names order = record { boxes = bare_box root parts ∷ []; root = root; names = names; order = order }

-- last, or just below the named box
abbrev pub put_at : Option ℕ → Node → List Node → List Node
put_at None n boxes = boxes ++ n ∷ []
put_at (Some c) n boxes = put_below (is_box c) n boxes

-- where a new box goes
abbrev pub IsNewPlace : Option ℕ → List Node → ℕ → Type 0
IsNewPlace below boxes i = (i ≤ length boxes) × ((n : Node) → insert boxes i n ≡ put_at below n boxes)
