-- Fed boxes and what they range over.
use Rattle.std.specs.Prelude.{◌≡◌, true, false, List, [], ◌∷◌}
use Rattle.qgm_wellformed.specs.WellFormed.{is_empty}
use Rattle.qgm_core.specs.Free.{free_in}
use Rattle.qgm_core.specs.Kinds.{is_fed}
use Rattle.list_laws.specs.Lists.{In}
use Rattle.qgm_core.specs.declared.node.Node.{Node}
use Rattle.qgm_core.specs.declared.owned.OwnedQuant.{OwnedQuant}

-- no fed box of two quantifiers ranges by the second over a closed box
abbrev pub FedOpen : List Node → Type 0
FedOpen bs = (n : Node) → In n bs → is_fed n.parts.role ≡ true → (a d : OwnedQuant) → n.quants ≡ a ∷ (d ∷ []) → is_empty (free_in bs d.over) ≡ false
