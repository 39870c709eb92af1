-- What a step and a whole rewriting do.
use Rattle.std.specs.Prelude.{ℕ, ◌≡◌, ◌+◌, ◌<◌, ◌≤◌, List, [], ◌∷◌, length, Option, Some, None}
use Rattle.qgm_core.specs.Boxes.{QueryGraph}
use Rattle.qgm_wellformed.specs.Sentences.{WellFormed}
use Rattle.rule_plan.specs.declared.plan.Plan.{Plan}
use Rattle.rule_api.specs.Rules.{Preserves}
use Rattle.rule_api.specs.declared.place.Firing.{Firing}
use Rattle.rule_api.specs.declared.place.Place.{Place}
use Rattle.rule_api.specs.declared.rule_id.RuleId.{RuleId}
use Rattle.rule_engine.specs.Control.{Pairs, candidates, next}

-- the conditions of rules
abbrev pub May : Type 1
May = RuleId → Place → QueryGraph → Type 0

-- the actions of rules
abbrev pub Act : Type 1
Act = RuleId → Place → QueryGraph → QueryGraph → Type 0

-- after k firings f is next in g, its rule may fire there, and it leads to h, which is well-formed
pub record Fires (pairs : Pairs) (may : May) (act : Act) (plan : Plan) (k : ℕ) (g : QueryGraph) (f : Firing) (h : QueryGraph) : Type 0 where
  pub is_next : next plan (candidates pairs plan g) k ≡ Some f
  pub allowed : may f.rule f.place g
  pub acts : act f.rule f.place g h
  pub formed : WellFormed h

-- after k firings these lead from g to h, through some graphs between
abbrev pub Leads : Pairs → May → Act → Plan → ℕ → QueryGraph → List Firing → QueryGraph → Type 0
Leads pairs may act plan k g [] h = g ≡ h
Leads pairs may act plan k g (f ∷ fs) h = (m : QueryGraph) × (Fires pairs may act plan k g f m × Leads pairs may act plan (k + 1) m fs h)

-- a step: a firing, or none where there is no candidate
abbrev pub Stepped : Pairs → May → Act → Plan → ℕ → QueryGraph → Option Firing → QueryGraph → Type 0
Stepped pairs may act plan k g None h = (h ≡ g) × (candidates pairs plan g ≡ [])
Stepped pairs may act plan k g (Some f) h = Fires pairs may act plan k g f h × Preserves g h

-- a whole rewriting of g to h: the firings lead there; they are at most the budget; where they are fewer, there is no candidate left; and h preserves what g gives
pub record Traces (pairs : Pairs) (may : May) (act : Act) (plan : Plan) (g : QueryGraph) (fs : List Firing) (h : QueryGraph) : Type 0 where
  pub leads : Leads pairs may act plan 0 g fs h
  pub within : length fs ≤ plan.budget
  pub ends : length fs < plan.budget → candidates pairs plan h ≡ []
  pub preserves : Preserves g h

-- ---- a plan for each step

-- after k steps a step by each of these plans leads from g to h: what is next fires, or there is no candidate and the graph stays
abbrev pub LeadsEach : Pairs → May → Act → ℕ → QueryGraph → List Plan → List (Option Firing) → QueryGraph → Type 0
LeadsEach pairs may act k g [] [] h = g ≡ h
LeadsEach pairs may act k g [] (f ∷ fs) h = ⊥
LeadsEach pairs may act k g (plan ∷ plans) [] h = ⊥
LeadsEach pairs may act k g (plan ∷ plans) (None ∷ fs) h = (candidates pairs plan g ≡ []) × LeadsEach pairs may act (k + 1) g plans fs h
LeadsEach pairs may act k g (plan ∷ plans) (Some f ∷ fs) h = (m : QueryGraph) × (Fires pairs may act plan k g f m × LeadsEach pairs may act (k + 1) m plans fs h)

-- a rewriting of g to h by a plan for each step: the steps lead there, and h preserves what g gives
pub record TracesEach (pairs : Pairs) (may : May) (act : Act) (plans : List Plan) (g : QueryGraph) (fs : List (Option Firing)) (h : QueryGraph) : Type 0 where
  pub leads : LeadsEach pairs may act 0 g plans fs h
  pub preserves : Preserves g h
