-- The rules for a graph whose rows another engine makes: G1 feeds no subquery of EXISTS, IN, ANY or ALL, since such an engine has joins of its own for these.
use Rattle.std.specs.Prelude.{ℕ, ◌≡◌, ◌==◌, ◌-◌, ◌&&◌, ◌||◌, ◌↔◌, not, Bool, false, List, [], ◌∷◌, filter}
use Rattle.std.proofs.lemmas.Bool.{not-true, not_from_false}
use Rattle.list_laws.specs.Lists.{EachOnce, In}
use Rattle.list_laws.proofs.Membership.{filter-in, in-filter}
use Rattle.qgm_core.specs.Boxes.{QueryGraph, numbers, quants_of}
use Rattle.qgm_core.specs.Kinds.{is_A, is_E}
use Rattle.qgm_core.specs.declared.kinds.QuantKind.{QuantKind}
use Rattle.qgm_core.specs.declared.owned.OwnedQuant.{OwnedQuant}
use Rattle.qgm_wellformed.specs.Sentences.{WellFormed}
use Rattle.rule_api.specs.RuleIds.{is_rule}
use Rattle.rule_api.specs.Rules.{Pair, place_at}
use Rattle.rule_api.specs.declared.place.Place.{Place}
use Rattle.rule_api.specs.declared.rule_id.RuleId.{RuleId}
use Rattle.rule_api.specs.declared.rule_id.RuleId.TheVariants.{G1}
use Rattle.rule_plan.specs.declared.plan.Plan.{Plan}
use Rattle.rule_api.specs.declared.place.Firing.{Firing}
use Rattle.rule_engine.specs.Trace.{Traces}
use Rattle.rule_set.specs.Built.{built_act, built_exact, built_may, built_pairs}

-- one only asks whether some row, or every row, meets a condition
abbrev pub is_asked_kind : QuantKind → Bool
is_asked_kind k = is_E k || is_A k

-- so it is of the quantifier at this place, from 1
abbrev pub is_asked : List OwnedQuant → ℕ → Bool
is_asked [] i = false
is_asked (r ∷ rs) i = ((i == 1) && is_asked_kind r.kind) || is_asked rs (i - 1)

-- a place where G1 would feed such a subquery
abbrev pub feeds_asked : RuleId → QueryGraph → Place → Bool
feeds_asked r g p = is_rule G1 r && is_asked (quants_of p.at g) p.i

abbrev pub elsewhere_pairs : RuleId → QueryGraph → ℕ → List Pair
elsewhere_pairs r g b = filter (λ p. not (feeds_asked r g (place_at b p))) (built_pairs r g b)

abbrev pub elsewhere_may : RuleId → Place → QueryGraph → Type 0
elsewhere_may r p g = built_may r p g × (feeds_asked r g p ≡ false)

pub elsewhere_exact : (r : RuleId) (g : QueryGraph) (b i j : ℕ) → EachOnce (numbers g.boxes) → WellFormed g → In (i, j) (elsewhere_pairs r g b) ↔ elsewhere_may r (record { at = b; i = i; j = j }) g
elsewhere_exact r g b i j once formed =
    let keeps : Pair → Bool = (λ (p : Pair). not (feeds_asked r g (place_at b p))) in (
      λ h. (let a = in-filter keeps (i, j) (built_pairs r g b) h in ((built_exact r g b i j once formed).0 a.0, not-true (feeds_asked r g (place_at b (i, j))) a.1)),
      λ m. filter-in keeps (i, j) (built_pairs r g b) ((built_exact r g b i j once formed).1 m.0) (not_from_false (feeds_asked r g (place_at b (i, j))) m.1),
    )

-- these firings of these rules rewrite g to h
abbrev pub RewritesElsewhere : Plan → QueryGraph → List Firing → QueryGraph → Type 0
RewritesElsewhere plan g fs h = Traces elsewhere_pairs elsewhere_may built_act plan g fs h
