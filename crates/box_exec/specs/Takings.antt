-- How many rows selects take in one evaluation of a box, where the rows of some boxes are kept.
use Rattle.std.specs.Prelude.{ℕ, ◌≡◌, ◌+◌, ◌==◌, if◌then◌else◌, Bool, false, List, [], ◌∷◌, length, slice_get, Option, Some, None, ⊤}
use Rattle.std.specs.List.{list_all}
use Rattle.row_bag.specs.declared.tables.Table.{Table}
use Rattle.qgm_core.specs.declared.kinds.BoxKind.TheVariants.{Select}
use Rattle.qgm_core.specs.declared.node.Node.{Node}
use Rattle.qgm_core.specs.declared.owned.OwnedQuant.{OwnedQuant}
use Rattle.qgm_meaning.specs.Meaning.{bag_in}
use Rattle.qgm_meaning.specs.Plain.{Counts}
use Rattle.box_exec.specs.Costs.{unless_kept}
use Rattle.box_exec.specs.Sought.{AllSought}
use Rattle.box_exec.specs.Taken.{bound_order, taken_by}
use Rattle.box_exec.specs.declared.lookup.Keyed.{Keyed}
use Rattle.box_exec.specs.declared.order.Order.{Order}
use Rattle.box_exec.specs.declared.plan.Plan.{Plan}

-- of the boxes among these
abbrev pub takings : List Table → (ℕ → Bool) → List Node → Counts
takings tables kept [] b env = 0
takings tables kept (n ∷ ns) b env =
    if n.id == b then taken_by kept n.parts.kind n (bag_in tables ns) (unless_kept kept (takings tables kept ns)) env else takings tables kept ns b env

-- where their rows are asked for
abbrev pub asked_takings : List Table → (ℕ → Bool) → List Node → Counts
asked_takings tables kept ns = unless_kept kept (takings tables kept ns)

-- those that are kept, each evaluated once
abbrev pub kept_takings : List Table → (ℕ → Bool) → List Node → ℕ
kept_takings tables kept [] = 0
kept_takings tables kept (n ∷ ns) = (if kept n.id then taken_by kept n.parts.kind n (bag_in tables ns) (asked_takings tables kept ns) [] else 0) + kept_takings tables kept ns

-- ---- plans

-- the order in which the quantifiers of a box are bound: the first of these, else that of its text
abbrev pub order_by : Node → List Order → List OwnedQuant
order_by n [] = n.quants
order_by n (o ∷ os) = o.ranges.items

-- the keys in that order
abbrev pub keys_by : List (Option Keyed) → List Order → List (Option Keyed)
keys_by ks [] = ks
keys_by ks (o ∷ os) = o.keyed.items

-- the quantifiers of a select are bound in the order of the definition of ways, with all keys that the conditions ask for
pub record Seeks (kept : ℕ → Bool) (n : Node) (ks : List (Option Keyed)) (os : List Order) : Type 0 where
  pub order : order_by n os ≡ bound_order kept n
  pub keys : AllSought n (order_by n os) (keys_by ks os)
  pub text : list_all (λ r. kept r.over) n.quants ≡ false → os ≡ []

-- so are they by the plan of a box, if there is one
abbrev pub PlanSeeks : (ℕ → Bool) → Node → Option (Option Plan) → Type 0
PlanSeeks kept n None = ⊤
PlanSeeks kept n (Some None) = ⊤
PlanSeeks kept n (Some (Some p)) = n.parts.kind ≡ Select → Seeks kept n p.keyed.items p.orders.items

-- the plan at i is of the box with i boxes behind it
abbrev pub AllSeek : (ℕ → Bool) → List (Option Plan) → List Node → Type 0
AllSeek kept plans [] = ⊤
AllSeek kept plans (n ∷ ns) = PlanSeeks kept n (slice_get plans (length ns)) × AllSeek kept plans ns
