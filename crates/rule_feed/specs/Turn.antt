-- Quantifiers of a select come to stand side by side, where the first of them stood, and some of its conditions behind the others.
use Rattle.std.specs.Prelude.{ℕ, ◌≡◌, ◌++◌, if◌then◌else◌, not, Bool, true, false, List, [], ◌∷◌, None, filter, map}
use Rattle.qgm_terms.specs.Terms.{Cond}
use Rattle.qgm_core.specs.Boxes.{QueryGraph, numbers}
use Rattle.qgm_core.specs.Edits.{on_boxes}
use Rattle.qgm_core.specs.Kinds.{is_F}
use Rattle.list_laws.specs.Lists.{EachOnce, In}
use Rattle.qgm_core.specs.declared.kinds.BoxKind.TheVariants.{Select}
use Rattle.qgm_core.specs.declared.kinds.Role.TheVariants.{Plain}
use Rattle.qgm_core.specs.declared.node.Node.{Node}
use Rattle.qgm_core.specs.declared.owned.OwnedQuant.{OwnedQuant}
use Rattle.qgm_meaning.specs.Scope.{loose}
use Rattle.qgm_wellformed.specs.WellFormed.{fault}
use Rattle.qgm_edit_laws.specs.Adds.{at}
use Rattle.rule_api.specs.Rules.{Preserves}

-- those that fail
abbrev pub failing : {X : Type 0} → (X → Bool) → List X → List X
failing t xs = filter (λ x. not (t x)) xs

-- those before the first that passes, and the others
abbrev pub before_first : {X : Type 0} → (X → Bool) → List X → List X
before_first t [] = []
before_first t (x ∷ xs) = if t x then [] else x ∷ before_first t xs

abbrev pub from_first : {X : Type 0} → (X → Bool) → List X → List X
from_first t [] = []
from_first t (x ∷ xs) = if t x then x ∷ xs else from_first t xs

-- those that pass, where the first of them stands, and behind them those that stood among them and behind
abbrev pub turned_quants : (OwnedQuant → Bool) → List OwnedQuant → List OwnedQuant
turned_quants t rs = before_first t rs ++ (filter t rs ++ failing t (from_first t rs))

abbrev pub turned_node : (OwnedQuant → Bool) → (Cond → Bool) → Node → Node
turned_node t k n = record n { parts = record n.parts { conds = record n.parts.conds { items = failing k n.parts.conds.items ++ filter k n.parts.conds.items } }; quants = turned_quants t n.quants }

-- where those that pass are F quantifiers over boxes that look nothing up, this preserves
abbrev pub TurnPreserves : Type 0
TurnPreserves =
    (g : QueryGraph) → EachOnce (numbers g.boxes) → fault g ≡ None → (b : Node) → In b g.boxes → b.parts.kind ≡ Select → b.parts.role ≡ Plain
    → (t : OwnedQuant → Bool) (k : Cond → Bool) → ((r : OwnedQuant) → In r b.quants → t r ≡ true → (is_F r.kind ≡ true) × ((q : ℕ) → loose g.boxes r.over q ≡ false))
    → Preserves g (on_boxes (map (at b.id (turned_node t k))) g)
