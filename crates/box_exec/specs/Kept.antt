-- How many evaluations an execution takes.
use Rattle.std.specs.Prelude.{ℕ, ◌≡◌, ◌+◌, ◌==◌, ◌&&◌, if◌then◌else◌, Bool, true, false, List, [], ◌∷◌, ⊤}
use Rattle.row_bag.specs.declared.tables.Table.{Table}
use Rattle.qgm_core.specs.Boxes.{HasBox, QueryGraph}
use Rattle.qgm_core.specs.Free.{reached}
use Rattle.list_laws.specs.Lists.{holds}
use Rattle.qgm_core.specs.declared.node.Node.{Node}
use Rattle.qgm_meaning.specs.Meaning.{bag_in}
use Rattle.qgm_meaning.specs.Plain.{counted_by}
use Rattle.box_exec.specs.Beyond.{beyond, beyond_of}
use Rattle.box_exec.specs.Costs.{Between, asked, costs}

abbrev pub is_nil : List ℕ → Bool
is_nil [] = true
is_nil (x ∷ xs) = false

-- a box is kept if it is marked and names nothing beyond itself
abbrev pub KeptAs : (ℕ → Bool) → List ℕ → List Node → Type 0
KeptAs kept marks [] = ⊤
KeptAs kept marks (n ∷ ns) = (kept n.id ≡ (is_nil (beyond_of n (beyond ns)) && holds n.id marks)) × KeptAs kept marks ns

-- how many of these are
abbrev pub kept_number : (ℕ → Bool) → List Node → ℕ
kept_number kept [] = 0
kept_number kept (n ∷ ns) = (if kept n.id then 1 else 0) + kept_number kept ns

-- how many evaluations those take, each evaluated once
abbrev pub kept_costs : List Table → (ℕ → Bool) → List Node → ℕ
kept_costs tables kept [] = 0
kept_costs tables kept (n ∷ ns) = (if kept n.id then counted_by n.parts.kind n (bag_in tables ns) (asked tables kept ns) [] else 0) + kept_costs tables kept ns

-- the boxes behind the first of this number
abbrev pub behind : ℕ → List Node → List Node
behind b [] = []
behind b (n ∷ ns) = if n.id == b then ns else behind b ns

-- the root and each box behind it that is kept once; with each of these evaluations those of the boxes that aren't kept, at most as often as loops that skip nothing would ask for them
abbrev pub Took : List Table → QueryGraph → ℕ → ℕ → Type 0
Took tables g before after =
    HasBox g.root g → (kept : ℕ → Bool) → KeptAs kept (reached (g.root ∷ []) g.boxes) (behind g.root g.boxes)
    → Between (1 + kept_number kept (behind g.root g.boxes)) (costs tables kept g.boxes g.root [] + kept_costs tables kept (behind g.root g.boxes)) before after
