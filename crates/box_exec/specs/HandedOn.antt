-- A select that gives the rows of a box as they are.
use Rattle.std.specs.Prelude.{ℕ, ◌≡◌, ◌+◌, ◌==◌, Bool, true, false, List, [], ◌∷◌, length, ⊤, Option, Some, None}
use Rattle.std.specs.List.{list_all}
use Rattle.qgm_core.specs.Kinds.{is_F, is_enforce}
use Rattle.qgm_core.specs.declared.kinds.BoxKind.{BoxKind}
use Rattle.qgm_core.specs.declared.kinds.BoxKind.TheVariants.{Base, Select, Group, SetOp, OuterJoin}
use Rattle.qgm_core.specs.declared.node.Node.{Node}
use Rattle.qgm_core.specs.declared.owned.OwnedQuant.{OwnedQuant}
use Rattle.qgm_meaning.specs.Values.{Bag}
use Rattle.qgm_terms.specs.Terms.{Term, col}

-- the columns of q from k on, in order
abbrev pub InOrder : ℕ → ℕ → List Term → Type 0
InOrder q k [] = ⊤
InOrder q k (x ∷ xs) = (x ≡ col q k) × InOrder q (k + 1) xs

-- a select without DISTINCT and conditions, over one F quantifier alone, whose head is the columns of that quantifier from the first on
pub record HandsOn (n : Node) (r : OwnedQuant) : Type 0 where
  pub kind : n.parts.kind ≡ Select
  pub repeated : is_enforce n.parts.distinct ≡ false
  pub unfiltered : n.parts.conds.items ≡ []
  pub alone : n.quants ≡ r ∷ []
  pub bound : is_F r.kind ≡ true
  pub ordered : InOrder r.id 1 n.parts.head

-- the name of the table that a base is
abbrev pub base_of : BoxKind → Option (List ℕ)
base_of (Base table) = Some table.name
base_of Select = None
base_of (Group k) = None
base_of (SetOp form types) = None
base_of OuterJoin = None

-- each row has so many cells
abbrev pub is_wide : ℕ → Bag → Bool
is_wide width rows = list_all (λ r. length r.cells == width) rows
