-- What is made once of a box, and is true in each evaluation of it.
use Rattle.std.specs.Prelude.{ℕ, ◌≡◌, ◌<◌, ◌+◌, ◌++◌, ◌==◌, All, if◌then◌else◌, List, [], ◌∷◌, get_or, length, slice_get, Option, Some, None, ⊤}
use Rattle.qgm_core.specs.declared.node.Node.{Node}
use Rattle.qgm_core.specs.declared.owned.OwnedQuant.{OwnedQuant}
use Rattle.qgm_meaning.specs.Values.{Bag}
use Rattle.box_exec.specs.Early.{IsEarly, rejects}
use Rattle.box_exec.specs.Indexed.{AllIdle}
use Rattle.box_exec.specs.Lookup.{FitsKeys, Hashes}
use Rattle.box_exec.specs.Outer.{rejects_on}
use Rattle.box_exec.specs.Sources.{held}
use Rattle.box_exec.specs.declared.early.Early.{Early}
use Rattle.box_exec.specs.declared.lookup.Hashed.{Hashed}
use Rattle.box_exec.specs.declared.lookup.Keyed.{Keyed}
use Rattle.box_exec.specs.declared.order.Order.{Order}
use Rattle.box_exec.specs.declared.plan.Plan.{Plan}
use Rattle.row_bag.specs.declared.operand.Operand.{Operand}
use Rattle.box_exec.specs.declared.under.Loop.{Loop}
use Rattle.box_exec.specs.declared.under.Under.{Under}
use Rattle.box_exec.specs.declared.under.Under.TheVariants.{Kept, Open, Nothing}

-- ---- kept rows

-- the rows that are kept under a quantifier
abbrev pub rows_kept : Under → Bag
rows_kept (Kept rows) = rows.now
rows_kept (Open n behind) = []
rows_kept Nothing = []

-- the rows of an entry, if there are any
abbrev pub rows_in : Option (Option Operand) → Bag
rows_in None = []
rows_in (Some None) = []
rows_in (Some (Some s)) = held s

-- the rows that are kept of a box among these
abbrev pub rows_stored : List (Option Operand) → List Node → ℕ → Bag
rows_stored memo [] b = []
rows_stored memo (n ∷ ns) b = if n.id == b then rows_in (slice_get memo (length ns)) else rows_stored memo ns b

-- ---- keys and indexes

-- keys of a quantifier among the conditions that are tested when it is bound, with an index of the rows that are kept under it, if it is made
abbrev pub KeyedAt : List Early → ℕ → Loop → Keyed → Type 0
KeyedAt es i l k = FitsKeys (rejects es (i + 1)) l.range.id (rows_kept l.under) k

abbrev pub AllKeyed : List Early → List Loop → List (Option Keyed) → Type 0
AllKeyed es ls ks = (i : ℕ) (l : Loop) (k : Keyed) → i < length ls → l ≡ get_or ls i l → slice_get ks i ≡ Some (Some k) → KeyedAt es i l k

-- with indexes of the rows of the boxes that quantifiers range over
abbrev pub AllIndexed : List Early → List OwnedQuant → (ℕ → Bag) → List (Option Keyed) → Type 0
AllIndexed es rs rows ks = (i : ℕ) (r : OwnedQuant) (k : Keyed) → i < length rs → r ≡ get_or rs i r → slice_get ks i ≡ Some (Some k) → FitsKeys (rejects es (i + 1)) r.id (rows r.over) k

-- of the rows of the box that the second quantifier of an outer join ranges over, by keys among its conditions
abbrev pub RightIndexed : Node → (ℕ → Bag) → Hashed → Type 0
RightIndexed n rows h = (q : OwnedQuant) → 1 < length n.quants → q ≡ get_or n.quants 1 q → Hashes (rejects_on n) q.id (rows q.over) h

-- ---- plans

-- early conditions of a box, and keys with indexes of the rows of the boxes that it ranges over, where its quantifiers are bound in this order
pub record IsPlan (n : Node) (rs : List OwnedQuant) (rows : ℕ → Bag) (es : List Early) (ks : List (Option Keyed)) : Type 0 where
  pub early : All (λ e. IsEarly n rs e) es
  pub indexed : AllIndexed es rs rows ks

-- these are the quantifiers that are left, each taken from among them
abbrev pub Reorders : List OwnedQuant → List OwnedQuant → Type 0
Reorders left [] = left ≡ []
Reorders left (r ∷ rs) = (us : List OwnedQuant) × ((vs : List OwnedQuant) × ((left ≡ us ++ r ∷ vs) × Reorders (us ++ vs) rs))

-- the quantifiers of a box in another order, and a plan for that
pub record IsOrder (n : Node) (rows : ℕ → Bag) (o : Order) : Type 0 where
  pub reordered : Reorders n.quants o.ranges.items
  pub plan : IsPlan n o.ranges.items rows o.early.items o.keyed.items

-- the plan of a box: for the order of its quantifiers, and for others, if there are any; with indexes of the rows of E and A quantifiers, and of the right rows of an outer join
pub record FitsPlan (n : Node) (rows : ℕ → Bag) (p : Plan) : Type 0 where
  pub text : IsPlan n n.quants rows p.early.items p.keyed.items
  pub orders : All (λ o. IsOrder n rows o) p.orders.items
  pub idle : AllIdle n.quants rows p.idle.items
  pub right : All (λ h. RightIndexed n rows h) p.right.items

-- the plan of a box, if there is one, is of the rows that are kept
abbrev pub PlanFits : List (Option Operand) → Node → List Node → Option (Option Plan) → Type 0
PlanFits memo n ns None = ⊤
PlanFits memo n ns (Some None) = ⊤
PlanFits memo n ns (Some (Some p)) = FitsPlan n (rows_stored memo ns) p

-- the plan at i is of the box with i boxes behind it
abbrev pub AllPlanned : List (Option Operand) → List (Option Plan) → List Node → Type 0
AllPlanned memo plans [] = ⊤
AllPlanned memo plans (n ∷ ns) = PlanFits memo n ns (slice_get plans (length ns)) × AllPlanned memo plans ns
