-- Class magic alone closes a settled graph.
use Rattle.std.specs.Prelude.{ℕ, ◌≡◌, ◌≤◌, ◌+◌, ◌*◌, List, [], ◌∷◌, length}
use Rattle.list_laws.specs.Lists.{EachOnce}
use Rattle.qgm_core.specs.Boxes.{QueryGraph, ids_in, numbers}
use Rattle.qgm_wellformed.specs.Sentences.{WellFormed}
use Rattle.rule_plan.specs.declared.classes.Class.TheVariants.{Magic}
use Rattle.rule_plan.specs.declared.plan.Plan.{Plan}
use Rattle.rule_api.specs.declared.place.Firing.{Firing}
use Rattle.rule_set.specs.Rewriting.{Rewrites}
use Rattle.rule_calm.specs.CalmCloses.{AllClosed}
use Rattle.rule_calm.specs.Settled.{IsSettled}

-- twice the boxes and three times the quantifiers: class magic alone fires no oftener, by `MagicEnds`
abbrev pub most_firings : QueryGraph → ℕ
most_firings g = 2 * length g.boxes + 3 * length (ids_in g.boxes)

-- a rewriting of a settled graph by that class alone, with so much of a budget, to a graph of at most 65,530 boxes
abbrev pub SettledCloses : Type 0
SettledCloses =
    (plan : Plan) (g h : QueryGraph) (fs : List Firing) → plan.classes ≡ Magic ∷ [] → EachOnce (numbers g.boxes) → WellFormed g → IsSettled g → most_firings g ≤ plan.budget → Rewrites plan g fs h
    → length h.boxes ≤ 65530 → AllClosed h
