-- Where a column or a quantifier goes that nothing names, the graph keeps what it means.
use Rattle.std.specs.Prelude.{ℕ, ◌≡◌, true, List}
use Rattle.qgm_core.specs.Boxes.{QueryGraph, numbers, owns}
use Rattle.qgm_core.specs.Edits.{compact, drop_column, drop_quant}
use Rattle.list_laws.specs.Lists.{EachOnce, In}
use Rattle.qgm_core.specs.declared.node.Node.{Node}
use Rattle.qgm_core.specs.declared.owned.OwnedQuant.{OwnedQuant}
use Rattle.qgm_edit_laws.specs.DropQuants.{without_those}
use Rattle.qgm_wellformed.specs.Sentences.{WellFormed}
use Rattle.rule_api.specs.Rules.{Preserves}
use Rattle.rule_api.specs.declared.place.Place.{Place}
use Rattle.rule_prune.specs.DropColumn.{DropsColumn, stays}
use Rattle.rule_prune.specs.DropQuantifier.{DropsQuantifier, IsUnreadRow, others}
use Rattle.rule_prune.specs.Pruned.{MayCut, Prunes}

-- N1
abbrev pub DropColumnPreserves : Type 0
DropColumnPreserves = (g h : QueryGraph) → EachOnce (numbers g.boxes) → WellFormed g → (at : Place) → DropsColumn at g h → Preserves g h

-- N2
abbrev pub DropQuantifierPreserves : Type 0
DropQuantifierPreserves = (g h : QueryGraph) → EachOnce (numbers g.boxes) → WellFormed g → (at : Place) → DropsQuantifier at g h → Preserves g h

-- and no other F quantifier need be left
abbrev pub UnreadRowPreserves : Type 0
UnreadRowPreserves =
    (g : QueryGraph) → EachOnce (numbers g.boxes) → WellFormed g → (b : Node) (us : List OwnedQuant) (r : OwnedQuant) (vs : List OwnedQuant) → IsUnreadRow g b us r vs
    → Preserves g (without_those b (others r.id) g)

-- what the code of N1 does is its action
abbrev pub StepsDropColumn : Type 0
StepsDropColumn = (g h : QueryGraph) → EachOnce (numbers g.boxes) → WellFormed g → (b k : ℕ) → MayCut g b k → (x : Prunes b k g h) → h ≡ without_those x.left (stays x.left) (drop_column b k g)

-- and so for N2
abbrev pub StepsDropQuantifier : Type 0
StepsDropQuantifier = (g : QueryGraph) → EachOnce (numbers g.boxes) → WellFormed g → (b : Node) → In b g.boxes → (q : ℕ) → owns q b ≡ true → compact (drop_quant q g) ≡ without_those b (others q) g
