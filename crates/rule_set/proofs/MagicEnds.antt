-- Class magic ends.
use Rattle.std.proofs.Common.{ℕ, ◌≡◌, ◌≤◌, ◌+◌, List, [], ◌∷◌, length, sym, subst, inl, inr, arith}
use Rattle.list_laws.specs.Lists.{EachOnce, In}
use Rattle.qgm_core.specs.Boxes.{QueryGraph, numbers}
use Rattle.qgm_wellformed.specs.Sentences.{WellFormed}
use Rattle.qgm_props.specs.Measure.{measure}
use Rattle.qgm_props.proofs.MeasureLaws.{measure-bound}
use Rattle.rule_plan.specs.declared.classes.Class.{Class}
use Rattle.rule_plan.specs.declared.classes.Class.TheVariants.{Magic}
use Rattle.rule_plan.specs.declared.plan.Plan.{Plan}
use Rattle.rule_api.specs.declared.place.Firing.{Firing}
use Rattle.rule_api.specs.declared.rule_id.RuleId.{RuleId}
use Rattle.rule_api.specs.declared.rule_id.RuleId.TheVariants.{U2, G1, G2, G3, G4, G5}
use Rattle.rule_engine.specs.Control.{candidates, rules_of}
use Rattle.rule_engine.specs.Trace.{Leads}
use Rattle.rule_engine.proofs.Chosen.{candidates-exact, next-in}
use Rattle.rule_engine.proofs.Enabled.{enabled-exact}
use Rattle.rule_magic.proofs.FiringMeasure.{feed-firing-lowers, group-firing-lowers, outer-firing-lowers, scalar-firing-lowers, select-firing-lowers, set-firing-lowers}
use Rattle.rule_set.specs.Built.{built_act, built_may, built_pairs}
use Rattle.rule_set.specs.MagicEnds.{MagicEnds, MagicLowers}

of-magic : (r : RuleId) → In r (rules_of Magic) → In r (U2 ∷ (G1 ∷ (G2 ∷ (G3 ∷ (G4 ∷ (G5 ∷ []))))))
unfolding rules_of
of-magic r i = i

pub magic-lowers : MagicLowers
magic-lowers r i p g h once wf acts = elim (of-magic r i) [
  | inl e ↦ scalar-firing-lowers p g h once wf (subst (λ (z : RuleId). built_act z p g h) (sym e) acts)
  | inr j ↦ elim j [
    | inl e ↦ feed-firing-lowers p g h once wf (subst (λ (z : RuleId). built_act z p g h) (sym e) acts)
    | inr j ↦ elim j [
      | inl e ↦ select-firing-lowers p g h once wf (subst (λ (z : RuleId). built_act z p g h) (sym e) acts)
      | inr j ↦ elim j [
        | inl e ↦ group-firing-lowers p g h once wf (subst (λ (z : RuleId). built_act z p g h) (sym e) acts)
        | inr j ↦ elim j [
          | inl e ↦ set-firing-lowers p g h once wf (subst (λ (z : RuleId). built_act z p g h) (sym e) acts)
          | inr j ↦ elim j [
            | inl e ↦ outer-firing-lowers p g h once wf (subst (λ (z : RuleId). built_act z p g h) (sym e) acts)
            | inr n ↦ elim n [ ]
          ]
        ]
      ]
    ]
  ]
]

-- what fires is of the one class
fired : (plan : Plan) → plan.classes ≡ Magic ∷ [] → (g : QueryGraph) (f : Firing) → In f (candidates built_pairs plan g) → In f.rule (rules_of Magic)
fired plan e g f i =
    let x = (enabled-exact plan.classes f.rule).0 ((candidates-exact built_pairs plan g f).0 i).0 in
    elim (subst (λ (cs : List Class). In x.0 cs) e x.1.0) [
      | inl c ↦ subst (λ (z : Class). In f.rule (rules_of z)) (sym c) x.1.1
      | inr n ↦ elim n [ ]
    ]

module _ (plan : Plan) (alone : plan.classes ≡ Magic ∷ []) where
  few : (fs : List Firing) (k : ℕ) (g h : QueryGraph) → EachOnce (numbers g.boxes) → WellFormed g → Leads built_pairs built_may built_act plan k g fs h → length fs ≤ measure g
  few [] k g h once wf leads = omega arith
  few (f ∷ fs) k g h once wf leads =
      let m = leads.0 in
      let fires = leads.1.0 in
      let lower = magic-lowers f.rule (fired plan alone g f (next-in plan (candidates built_pairs plan g) k f fires.is_next)) f.place g m once wf fires.acts in
      let rest = few fs (k + 1) m h lower.once fires.formed leads.1.1 in
      let less = lower.lower in
      omega (arith, rest, less)

pub magic-ends : MagicEnds
magic-ends plan g h fs alone once wf traces = let a = few plan alone fs 0 g h once wf traces.leads in let b = measure-bound g in omega (arith, a, b)
