-- Whether a fed box ranges over a closed box, as the code asks it.
use Rattle.std.specs.Prelude.{◌&&◌, Bool, false, List, [], ◌∷◌}
use Rattle.std.specs.List.{list_any}
use Rattle.qgm_wellformed.specs.WellFormed.{is_empty}
use Rattle.qgm_core.specs.Boxes.{QueryGraph}
use Rattle.qgm_core.specs.Free.{free_in}
use Rattle.qgm_core.specs.Kinds.{is_fed}
use Rattle.qgm_core.specs.declared.node.Node.{Node}
use Rattle.qgm_core.specs.declared.owned.OwnedQuant.{OwnedQuant}

-- the second of two quantifiers ranges over a closed box
abbrev pub second_closed : List Node → List OwnedQuant → Bool
second_closed boxes [] = false
second_closed boxes (a ∷ []) = false
second_closed boxes (a ∷ (d ∷ [])) = is_empty (free_in boxes d.over)
second_closed boxes (a ∷ (d ∷ (e ∷ rs))) = false

-- a fed box over a closed box
abbrev pub fed_closed : List Node → Node → Bool
fed_closed boxes n = is_fed n.parts.role && second_closed boxes n.quants

abbrev pub any_fed_closed : QueryGraph → Bool
any_fed_closed g = list_any (fed_closed g.boxes) g.boxes

-- a box of these is fed
abbrev pub any_fed : List Node → Bool
any_fed boxes = list_any (λ n. is_fed n.parts.role) boxes
