-- The candidates in order, and which of them is next.
use Rattle.std.specs.Prelude.{ℕ, zero, suc, ◌+◌, ◌*◌, ◌/◌, ◌%◌, ◌++◌, nat_le, if◌then◌else◌, Bool, false, List, [], ◌∷◌, map, length, Option, Some, None, slice_get, filter}
use Rattle.std.specs.List.{flat_map, list_all, list_any}
use Rattle.qgm_core.specs.Boxes.{QueryGraph}
use Rattle.list_laws.specs.Lists.{first}
use Rattle.qgm_core.specs.Walk.{walk}
use Rattle.rule_plan.specs.declared.classes.Class.{Class}
use Rattle.rule_plan.specs.declared.plan.Order.TheVariants.{Sequence, Priority, Scatter}
use Rattle.rule_plan.specs.declared.plan.Plan.{Plan}
use Rattle.rule_api.specs.Rules.{Pair, place_at}
use Rattle.rule_api.specs.declared.place.Firing.{Firing}
use Rattle.rule_api.specs.declared.place.Place.{Place}
use Rattle.rule_api.specs.declared.rule_id.RuleId.{RuleId}
use Rattle.rule_api.specs.RuleIds.{all_rules, is_of, is_rule, rank_of}

-- ---- rules

-- the rules of a class, in order
unfoldable pub rules_of : Class → List RuleId
rules_of class = filter (is_of class) all_rules

-- r at the end, if it isn't there
abbrev pub with_new : List RuleId → RuleId → List RuleId
with_new out r = if list_any (is_rule r) out then out else out ++ r ∷ []

abbrev pub all_new : List RuleId → List RuleId → List RuleId
all_new out [] = out
all_new out (r ∷ rs) = all_new (with_new out r) rs

-- the rules of these classes, each once, where it stands first
abbrev pub enabled : List Class → List RuleId
enabled cs = all_new [] (flat_map rules_of cs)

-- ---- candidates

-- the places of rules in a graph at a box, each by its two numbers
abbrev pub Pairs : Type 0
Pairs = RuleId → QueryGraph → ℕ → List Pair

abbrev pub firing : RuleId → Place → Firing
firing r p = record { rule = r; place = p }

abbrev pub at_box : Pairs → List RuleId → QueryGraph → ℕ → List Firing
at_box pairs rs g b = flat_map (λ r. map (firing r) (map (place_at b) (pairs r g b))) rs

-- for each box in the order of the walk, for each enabled rule, its places there
unfoldable pub candidates : Pairs → Plan → QueryGraph → List Firing
candidates pairs plan g = flat_map (at_box pairs (enabled plan.classes) g) (walk plan.walk g)

-- ---- the next

-- the rule of none of these ranks before that of f
abbrev pub is_least : List Firing → Firing → Bool
is_least list f = list_all (λ e. nat_le (rank_of f.rule) (rank_of e.rule)) list

-- the first of those whose rule ranks first
unfoldable pub earliest : List Firing → Option Firing
earliest list = first (is_least list) list

-- no rule of these ranks before that of f
abbrev pub is_foremost : List RuleId → Firing → Bool
is_foremost rules f = list_all (λ r. nat_le (rank_of f.rule) (rank_of r)) rules

-- one is found, and no rule of these ranks before its own
abbrev pub ranks_first : List RuleId → Option Firing → Bool
ranks_first rules None = false
ranks_first rules (Some f) = is_foremost rules f

-- the states of the generator
abbrev pub x_at : ℕ → ℕ → ℕ
x_at seed zero = seed
x_at seed (suc n) = (x_at seed n * 1103515245 + 12345) % 2147483648

-- what is drawn of a seed, from 0
abbrev pub draw : ℕ → ℕ → ℕ
draw seed n = x_at seed (suc n) / 65536

-- which of these fires, if k have fired: the first; the first of those whose rule ranks first; or the one that is drawn
unfoldable pub next : Plan → List Firing → ℕ → Option Firing
next plan list k =
    elim plan.order [ Sequence ↦ slice_get list 0 | Priority ↦ earliest list | Scatter ↦ slice_get list (draw plan.seed k % length list) ]
