-- What rules that decorrelate lower: a number of open boxes, scalar subqueries and fed boxes.
use Rattle.std.specs.Prelude.{ℕ, length, ◌≤◌, ◌<◌, ◌+◌, ◌*◌, ◌-◌, ◌==◌, ◌&&◌, if◌then◌else◌, not, Bool, false, List, [], ◌∷◌, Option, Some, None}
use Rattle.qgm_core.specs.Boxes.{QueryGraph, ids_in, is_box, numbers}
use Rattle.qgm_core.specs.Kinds.{is_S, is_fed}
use Rattle.list_laws.specs.Lists.{EachOnce, first}
use Rattle.qgm_core.specs.declared.kinds.BoxKind.{BoxKind}
use Rattle.qgm_core.specs.declared.kinds.BoxKind.TheVariants.{Base, Select, Group, SetOp, OuterJoin}
use Rattle.qgm_core.specs.declared.node.Node.{Node}
use Rattle.qgm_core.specs.declared.owned.OwnedQuant.{OwnedQuant}
use Rattle.qgm_wellformed.specs.Sentences.{WellFormed}
use Rattle.qgm_props.specs.Calm.{is_closed}

-- how many of these pass
abbrev pub many : {X : Type 0} → (X → Bool) → List X → ℕ
many p [] = 0
many p (x ∷ xs) = (if p x then 1 else 0) + many p xs

-- so many of each, together
abbrev pub summed : {X : Type 0} → (X → ℕ) → List X → ℕ
summed f [] = 0
summed f (x ∷ xs) = f x + summed f xs

abbrev pub is_keyless : BoxKind → Bool
is_keyless (Base table) = false
is_keyless Select = false
is_keyless (Group keys) = keys == 0
is_keyless (SetOp operator types) = false
is_keyless OuterJoin = false

-- a group without keys is found
abbrev pub keyless_found : Option Node → Bool
keyless_found None = false
keyless_found (Some n) = is_keyless n.parts.kind

-- an S quantifier whose box isn't a group without keys
abbrev pub is_loose_scalar : List Node → OwnedQuant → Bool
is_loose_scalar boxes r = is_S r.kind && not (keyless_found (first (is_box r.over) boxes))

abbrev pub is_open : List Node → Node → Bool
is_open boxes n = not (is_closed boxes n.id)

abbrev pub is_fed_box : Node → Bool
is_fed_box n = is_fed n.parts.role

-- how many open boxes, how many fed ones, and how many such quantifiers
abbrev pub open_in : List Node → ℕ
open_in boxes = many (is_open boxes) boxes

abbrev pub fed_in : List Node → ℕ
fed_in boxes = many is_fed_box boxes

abbrev pub loose_scalars_in : List Node → ℕ
loose_scalars_in boxes = summed (λ n. many (is_loose_scalar boxes) n.quants) boxes

-- twice the open boxes, and three for each such quantifier
abbrev pub weight : List Node → ℕ
weight boxes = 2 * open_in boxes + 3 * loose_scalars_in boxes

-- it is less the number of fed boxes
abbrev pub measure : QueryGraph → ℕ
measure g = weight g.boxes - fed_in g.boxes

-- the measure of h is less, where neither is below zero
abbrev pub Lowers : List Node → List Node → Type 0
Lowers xs hs = weight hs + fed_in xs < weight xs + fed_in hs

-- it is never below zero: each fed box has an open box of its own
abbrev pub NeverNegative : Type 0
NeverNegative = (g : QueryGraph) → EachOnce (numbers g.boxes) → WellFormed g → fed_in g.boxes ≤ many (is_open g.boxes) g.boxes

-- so what is lowered is the measure, and it is at most twice the boxes and three times the quantifiers
abbrev pub MeasureFalls : Type 0
MeasureFalls = (g h : QueryGraph) → EachOnce (numbers h.boxes) → WellFormed h → Lowers g.boxes h.boxes → measure h < measure g

abbrev pub MeasureBound : Type 0
MeasureBound = (g : QueryGraph) → measure g ≤ 2 * length g.boxes + 3 * length (ids_in g.boxes)
