-- A box with two quantifiers, with the boxes under them.
use Rattle.std.specs.Prelude.{List, [], ◌∷◌, Option, Some, None}
use Rattle.qgm_core.specs.Boxes.{is_box}
use Rattle.list_laws.specs.Lists.{first}
use Rattle.qgm_core.specs.declared.node.Node.{Node}
use Rattle.qgm_core.specs.declared.owned.OwnedQuant.{OwnedQuant}
use Rattle.rule_magic.specs.declared.operands.Operands.{Operands}

-- l over x and r over y
pub record OperandPair : Type 0 where
  pub l : OwnedQuant
  pub x : Node
  pub r : OwnedQuant
  pub y : Node

-- what the code holds
abbrev pub as_pair : Operands → OperandPair
as_pair k = record { l = k.l; x = k.x.now; r = k.r; y = k.y.now }

abbrev pub both_under : OwnedQuant → OwnedQuant → Option Node → Option Node → Option OperandPair
both_under l r None y = None
both_under l r (Some x) None = None
both_under l r (Some x) (Some y) = Some (record { l = l; x = x; r = r; y = y })

-- of two quantifiers that are all
abbrev pub pair_under : List Node → List OwnedQuant → Option OperandPair
pair_under bs [] = None
pair_under bs (l ∷ []) = None
pair_under bs (l ∷ (r ∷ [])) = both_under l r (first (is_box l.over) bs) (first (is_box r.over) bs)
pair_under bs (l ∷ (r ∷ (s ∷ rs))) = None
