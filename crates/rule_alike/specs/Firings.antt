-- Firings at one place of graphs that differ in numbers alone.
use Rattle.std.specs.Prelude.{◌≡◌, ℕ, List, [], ◌∷◌, Option, Some, None, ⊤}
use Rattle.graph_alike.specs.Alike.{Meets, SameButNumbers}
use Rattle.graph_alike.specs.OneToOne.{AreOneToOne}
use Rattle.list_laws.specs.Lists.{EachOnce}
use Rattle.qgm_core.specs.Boxes.{QueryGraph, numbers}
use Rattle.qgm_wellformed.specs.Sentences.{WellFormed}
use Rattle.rule_api.specs.declared.place.Firing.{Firing}
use Rattle.rule_api.specs.declared.place.Place.{Place}
use Rattle.rule_api.specs.declared.rule_id.RuleId.{RuleId}
use Rattle.rule_engine.specs.Control.{Pairs}
use Rattle.rule_engine.specs.Trace.{Act}

-- well-formed graphs that have each number once, and differ in numbers alone, one to one
pub record AreAlike (g h : QueryGraph) : Type 0 where
  pub first_once : EachOnce (numbers g.boxes)
  pub second_once : EachOnce (numbers h.boxes)
  pub first_formed : WellFormed g
  pub second_formed : WellFormed h
  pub same : SameButNumbers g h
  pub one : AreOneToOne g h

-- the same rule at boxes that stand for one another, and the same two numbers of a place
pub record LikeFiring (R : ℕ → ℕ → Type 0) (f e : Firing) : Type 0 where
  pub rule : f.rule ≡ e.rule
  pub at : R f.place.at e.place.at
  pub i : f.place.i ≡ e.place.i
  pub j : f.place.j ≡ e.place.j

abbrev pub LikeFirings : (ℕ → ℕ → Type 0) → List Firing → List Firing → Type 0
LikeFirings R [] [] = ⊤
LikeFirings R [] (e ∷ es) = ⊥
LikeFirings R (f ∷ fs) [] = ⊥
LikeFirings R (f ∷ fs) (e ∷ es) = LikeFiring R f e × LikeFirings R fs es

-- one each, or none
abbrev pub LikeNext : (ℕ → ℕ → Type 0) → Option Firing → Option Firing → Type 0
LikeNext R None None = ⊤
LikeNext R None (Some e) = ⊥
LikeNext R (Some f) None = ⊥
LikeNext R (Some f) (Some e) = LikeFiring R f e

-- ---- what each rule owes

-- at boxes at one place of such graphs it has the same places
abbrev pub PairsAlike : Pairs → Type 0
PairsAlike pairs = (r : RuleId) (g h : QueryGraph) → AreAlike g h → (a b : ℕ) → Meets g h a b → pairs r g a ≡ pairs r h b

-- from such graphs, at one place of both, it leads to such graphs
abbrev pub ActsAlike : Act → Type 0
ActsAlike act =
    (r : RuleId) (p q : Place) (g h m n : QueryGraph) → AreAlike g h → Meets g h p.at q.at → p.i ≡ q.i → p.j ≡ q.j → act r p g m → act r q h n → WellFormed m → WellFormed n → AreAlike m n
