-- What each edit keeps of I1 to I3, at its condition.
use Rattle.std.specs.Prelude.{ℕ, ◌≡◌, ◌≤◌, true, false, List, [], ◌∷◌, Option}
use Rattle.std.specs.List.{list_any}
use Rattle.sql_value.specs.declared.order_key.OrderKey.{OrderKey}
use Rattle.qgm_core.specs.Boxes.{HasBox, HasQuant, QueryGraph, bare_box, graph_of_one, owns}
use Rattle.qgm_core.specs.Edits.{compact, drop_column, drop_quant, move_below, move_conjunct, move_quant, on_box, put_box, put_quant, redirect, reserve, set_distinct, substitute, with_box, with_cond, with_quant, without_cond}
use Rattle.qgm_core.specs.Free.{named_by, reached}
use Rattle.list_laws.specs.Lists.{In, holds}
use Rattle.qgm_core.specs.declared.kinds.Distinct.{Distinct}
use Rattle.qgm_core.specs.declared.kinds.QuantKind.{QuantKind}
use Rattle.qgm_core.specs.declared.node.Node.{Node}
use Rattle.qgm_core.specs.declared.owned.OwnedQuant.{OwnedQuant}
use Rattle.qgm_core.specs.declared.parts.BoxParts.{BoxParts}
use Rattle.qgm_terms.specs.Named.{names_in, names_in_cond}
use Rattle.qgm_terms.specs.Terms.{Cond, Term}
use Rattle.qgm_edit_laws.specs.Placed.{Below, Placed, place}

-- I1 to I3 of a graph
abbrev pub IsPlaced : QueryGraph → Type 0
IsPlaced g = Placed g.boxes g.root

-- each quantifier that these parts name has an owner in the graph
abbrev pub Knows : BoxParts → QueryGraph → Type 0
Knows parts g = (q : ℕ) → holds q (named_by (bare_box 0 parts)) ≡ true → HasQuant q g

abbrev pub KnowsCells : List Term → QueryGraph → Type 0
KnowsCells cells g = (q : ℕ) → list_any (λ x. holds q (names_in x)) cells ≡ true → HasQuant q g

-- q is a quantifier of n
abbrev pub Owned : QueryGraph → Node → ℕ → Type 0
Owned g n q = In n g.boxes × (owns q n ≡ true)

-- the root reaches the box
abbrev pub Stays : QueryGraph → Node → Type 0
Stays g n = holds n.id (reached (g.root ∷ []) g.boxes) ≡ true

-- a graph of one box that names nothing
abbrev pub NewPlaced : Type 0
NewPlaced =
    (b : ℕ) (parts : BoxParts) (names : List (Option (List ℕ))) (order : List OrderKey) → ((q : ℕ) → holds q (named_by (bare_box b parts)) ≡ false)
    → IsPlaced (graph_of_one b parts names order)

-- edits of a graph of which I1 to I3 hold: they hold after it
pub record EditsPlaced : Type 0 where
  pub add_box : (g : QueryGraph) → IsPlaced g → (below : Option ℕ) (b : ℕ) (parts : BoxParts) → (HasBox b g → ⊥) → Knows parts g → IsPlaced (with_box below (bare_box b parts) g)
  pub put_box : (g : QueryGraph) → IsPlaced g → (b : ℕ) (parts : BoxParts) → HasBox b g → Knows parts g → IsPlaced (put_box b parts.kind parts.role parts.conds parts.head g)
  pub set_distinct : (g : QueryGraph) → IsPlaced g → (b : ℕ) (distinct : Distinct) → HasBox b g → IsPlaced (set_distinct b distinct g)
  pub reserve : (g : QueryGraph) → IsPlaced g → (b n : ℕ) → HasBox b g → IsPlaced (reserve b n g)
  pub take_cond : (g : QueryGraph) → IsPlaced g → (b i : ℕ) → HasBox b g → IsPlaced (on_box b (without_cond i) g)
  pub put_cond : (g : QueryGraph) → IsPlaced g → (b : ℕ) (c : Cond) → HasBox b g → ((q : ℕ) → holds q (names_in_cond c) ≡ true → HasQuant q g) → IsPlaced (on_box b (with_cond c) g)
  pub move_conjunct : (g : QueryGraph) → IsPlaced g → (b i to : ℕ) → HasBox b g → HasBox to g → IsPlaced (move_conjunct b i to g)
  pub substitute : (g : QueryGraph) → IsPlaced g → (b q : ℕ) (cells : List Term) → HasBox b g → KnowsCells cells g → IsPlaced (substitute b q cells g)
  pub add_quant : (g : QueryGraph) → IsPlaced g → (b i : ℕ) (r : OwnedQuant) → HasBox b g → (HasQuant r.id g → ⊥) → Below g.boxes b r.over → IsPlaced (with_quant b i r g)
  pub drop_quant : (g : QueryGraph) → IsPlaced g → (q : ℕ) → HasQuant q g → ((n : Node) → In n g.boxes → holds q (named_by n) ≡ false) → IsPlaced (drop_quant q g)
  pub put_quant : (g : QueryGraph) → IsPlaced g → (q : ℕ) (kind : QuantKind) → HasQuant q g → IsPlaced (put_quant q kind g)
  pub redirect : (g : QueryGraph) → IsPlaced g → (q over : ℕ) → HasQuant q g → ((n : Node) → Owned g n q → Below g.boxes n.id over) → IsPlaced (redirect q over g)
  pub move_quant : (g : QueryGraph) → IsPlaced g → (q b i : ℕ) → HasQuant q g → HasBox b g → ((n : Node) (r : OwnedQuant) → In n g.boxes → In r n.quants → r.id ≡ q → Below g.boxes b r.over) → IsPlaced (move_quant q b i g)
  pub drop_column : (g : QueryGraph) → IsPlaced g → (b k : ℕ) → HasBox b g → IsPlaced (drop_column b k g)
  pub move_below : (g : QueryGraph) → IsPlaced g → (c d : ℕ) → Below g.boxes d c → ((n : Node) (r : OwnedQuant) → In n g.boxes → In r n.quants → r.over ≡ c → place g.boxes n.id ≤ place g.boxes d) → IsPlaced (move_below c d g)
  pub compact : (g : QueryGraph) → IsPlaced g → ((n m : Node) (q : ℕ) → In n g.boxes → Stays g n → holds q (named_by n) ≡ true → Owned g m q → Stays g m) → IsPlaced (compact g)
