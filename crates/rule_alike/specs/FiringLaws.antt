-- Graphs that differ in numbers alone are rewritten alike, by rules whose places and actions don't go by numbers.
use Rattle.std.specs.Prelude.{◌≡◌, ℕ, List, length}
use Rattle.graph_alike.specs.Alike.{Meets}
use Rattle.qgm_core.specs.Boxes.{QueryGraph}
use Rattle.rule_alike.specs.Firings.{AreAlike, LikeFirings, LikeNext, PairsAlike}
use Rattle.rule_api.specs.declared.place.Firing.{Firing}
use Rattle.rule_engine.specs.Control.{Pairs, candidates, next}
use Rattle.rule_engine.specs.Trace.{Act, Leads, May}
use Rattle.rule_plan.specs.declared.plan.Plan.{Plan}

-- candidates are alike, in their order
abbrev pub CandidatesAlike : Type 0
CandidatesAlike = (pairs : Pairs) (plan : Plan) (g h : QueryGraph) → PairsAlike pairs → AreAlike g h → LikeFirings (Meets g h) (candidates pairs plan g) (candidates pairs plan h)

-- and so is the next of them
abbrev pub NextAlike : Type 0
NextAlike = (pairs : Pairs) (plan : Plan) (k : ℕ) (g h : QueryGraph) → PairsAlike pairs → AreAlike g h → LikeNext (Meets g h) (next plan (candidates pairs plan g) k) (next plan (candidates pairs plan h) k)

-- as many firings of rules lead from graphs that are alike to graphs that are
abbrev pub LeadAlike : Pairs → May → Act → Type 0
LeadAlike pairs may act =
    (plan : Plan) (k : ℕ) (g h : QueryGraph) (fs es : List Firing) (m n : QueryGraph) → AreAlike g h → length fs ≡ length es
    → Leads pairs may act plan k g fs m → Leads pairs may act plan k h es n → AreAlike m n
