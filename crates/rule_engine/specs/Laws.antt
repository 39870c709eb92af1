-- What holds of the candidates and of the choice among them.
use Rattle.std.specs.Prelude.{ℕ, ◌≡◌, ◌↔◌, List, [], Some, None}
use Rattle.qgm_core.specs.Boxes.{HasBox, QueryGraph}
use Rattle.list_laws.specs.Lists.{In}
use Rattle.qgm_core.specs.Walk.{walk}
use Rattle.qgm_wellformed.specs.Sentences.{WellFormed}
use Rattle.rule_plan.specs.declared.classes.Class.{Class}
use Rattle.rule_plan.specs.declared.plan.Plan.{Plan}
use Rattle.shared_types.specs.declared.walk.Walk.{Walk}
use Rattle.rule_api.specs.declared.place.Firing.{Firing}
use Rattle.rule_api.specs.declared.rule_id.RuleId.{RuleId}
use Rattle.rule_engine.specs.Control.{Pairs, candidates, enabled, next}
use Rattle.rule_engine.specs.Control.{rules_of}

-- a rule is enabled exactly where it is of an enabled class
abbrev pub EnabledAreExact : Type 0
EnabledAreExact = (cs : List Class) (r : RuleId) → In r (enabled cs) ↔ ((c : Class) × (In c cs × In r (rules_of c)))

-- a candidate: its rule is enabled, its box is one of the walk, and the rule has this place there
abbrev pub IsCandidate : Pairs → Plan → QueryGraph → Firing → Type 0
IsCandidate pairs plan g f = In f.rule (enabled plan.classes) × In f.place.at (walk plan.walk g) × In (f.place.i, f.place.j) (pairs f.rule g f.place.at)

abbrev pub CandidatesAreExact : Type 0
CandidatesAreExact = (pairs : Pairs) (plan : Plan) (g : QueryGraph) (f : Firing) → In f (candidates pairs plan g) ↔ IsCandidate pairs plan g f

-- a well-formed graph has each box of a walk
abbrev pub WalksTheGraph : Type 0
WalksTheGraph = (w : Walk) (g : QueryGraph) → WellFormed g → (b : ℕ) → In b (walk w g) → HasBox b g

-- what is next is one of those that it is picked from
abbrev pub NextIsCandidate : Type 0
NextIsCandidate = (plan : Plan) (list : List Firing) (k : ℕ) (f : Firing) → next plan list k ≡ Some f → In f list

-- nothing is next exactly where there is none to be picked
abbrev pub NoneLeft : Type 0
NoneLeft = (plan : Plan) (list : List Firing) (k : ℕ) → (next plan list k ≡ None) ↔ (list ≡ [])
