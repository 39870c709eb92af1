-- Class magic keeps a graph settled, and alone it decorrelates a settled graph.
use Rattle.std.proofs.Common.{ℕ, zero, suc, ◌≡◌, ◌≤◌, ◌<◌, ◌+◌, ◌*◌, cond, not, Bool, true, false, List, [], ◌∷◌, length, refl, sym, ap, subst, ◌∙◌, ◌⊎◌, inl, inr, arith}
use Rattle.std.proofs.lemmas.Bool.{cases_Bool}
use Rattle.list_laws.specs.Lists.{EachOnce, In}
use Rattle.list_laws.proofs.Membership.{all-from}
use Rattle.qgm_core.specs.Boxes.{QueryGraph, numbers}
use Rattle.qgm_wellformed.specs.Sentences.{WellFormed}
use Rattle.qgm_props.specs.Calm.{calm_box, is_closed}
use Rattle.qgm_props.specs.Measure.{is_open, many, measure}
use Rattle.qgm_props.proofs.MeasureLaws.{measure-bound}
use Rattle.qgm_props.proofs.NeverNegative.{never-negative}
use Rattle.rule_plan.specs.declared.classes.Class.{Class}
use Rattle.rule_plan.specs.declared.classes.Class.TheVariants.{Magic}
use Rattle.rule_plan.specs.declared.plan.Plan.{Plan}
use Rattle.rule_api.specs.declared.place.Firing.{Firing}
use Rattle.rule_engine.specs.Control.{candidates, rules_of}
use Rattle.rule_engine.specs.Trace.{Leads}
use Rattle.rule_engine.proofs.Chosen.{candidates-exact, next-in}
use Rattle.rule_engine.proofs.Enabled.{enabled-exact}
use Rattle.rule_set.specs.Built.{built_act, built_may, built_pairs}
use Rattle.rule_set.proofs.MagicEnds.{magic-lowers}
use Rattle.rule_calm.specs.CalmCloses.{AllClosed, IsCalm}
use Rattle.rule_calm.specs.Decorrelated.{MagicDecorrelates, MagicKeepsSettled}
use Rattle.rule_calm.specs.Settled.{IsSettled}
use Rattle.rule_calm.specs.SettledCloses.{SettledCloses}
use Rattle.rule_calm.specs.SettledKept.{KeepsSettled}
use Rattle.rule_calm.proofs.CalmCloses.{calm-rewrites-close}
use Rattle.rule_calm.proofs.FeedFiring.{feed-keeps}
use Rattle.rule_calm.proofs.FiringSettled.{group-keeps, scalar-keeps, select-keeps}
use Rattle.rule_calm.proofs.MagicGrows.{each-magic, magic-adds-few}
use Rattle.rule_calm.proofs.OperationSettled.{set-keeps}
use Rattle.rule_calm.proofs.OuterSettled.{outer-keeps}

le-or : (a b : ℕ) → (a ≤ b) ⊎ (b < a)
le-or zero b = inl (omega arith)
le-or (suc a) zero = inr (omega arith)
le-or (suc a) (suc b) = elim (le-or a b) [ inl h ↦ inl (omega arith) | inr h ↦ inr (omega arith) ]

-- what fires is of the one class
fired : (plan : Plan) → plan.classes ≡ Magic ∷ [] → (g : QueryGraph) (f : Firing) → In f (candidates built_pairs plan g) → In f.rule (rules_of Magic)
fired plan alone g f i =
    let x = (enabled-exact plan.classes f.rule).0 ((candidates-exact built_pairs plan g f).0 i).0 in
    elim (subst (λ (cs : List Class). In x.0 cs) alone x.1.0) [
      | inl c ↦ subst (λ (z : Class). In f.rule (rules_of z)) (sym c) x.1.1
      | inr n ↦ elim n [ ]
    ]

-- a settled graph is calm
settled-calm : (g : QueryGraph) → IsSettled g → length g.boxes ≤ 65530 → IsCalm g
settled-calm g s few = record {
  known = s.known;
  tells = s.tells;
  calm = all-from (calm_box g.boxes s.known g.root) g.boxes (λ n i. (s.each n i).calm);
  few = few;
}

passed : (b : Bool) (n : ℕ) → b ≡ true → cond b 1 0 + n ≡ 0 → ⊥
passed true n t e = omega (arith, e)
passed false n t e = cc

-- where none of a list passes, no one of it does
none-passes : {X : Type 0} (p : X → Bool) (xs : List X) → many p xs ≡ 0 → (x : X) → In x xs → p x ≡ false
none-passes p [] e x i = elim i [ ]
none-passes p (y ∷ ys) e x i = elim i [
  | inl s ↦ elim (cases_Bool (p y)) [
    | inl t ↦ absurd (passed (p y) (many p ys) t e)
    | inr f ↦ subst (λ z. p z ≡ false) s f
  ]
  | inr j ↦ none-passes p ys (omega (arith, e)) x j
]

-- where the measure is nothing, each box is closed
nothing-open : (g : QueryGraph) → EachOnce (numbers g.boxes) → WellFormed g → measure g ≡ 0 → AllClosed g
nothing-open g once wf e n i r =
    let never = never-negative g once wf in
    let none = none-passes (is_open g.boxes) g.boxes (omega (arith, never, e)) n i in
    elim (cases_Bool (is_closed g.boxes n.id)) [ inl t ↦ t | inr f ↦ absurd (let o = sym none ∙ ap not f in cc) ]

-- these firings have led from g to h: they are paid from the measure, and h has at most three boxes more for each
record After (g : QueryGraph) (fs : List Firing) (h : QueryGraph) : Type 0 where
  pub once : EachOnce (numbers h.boxes)
  pub formed : WellFormed h
  pub settled : IsSettled h
  pub paid : length fs + measure h ≤ measure g
  pub few : length h.boxes ≤ length g.boxes + 3 * length fs

pub magic-keeps : MagicKeepsSettled
magic-keeps = each-magic KeepsSettled scalar-keeps feed-keeps select-keeps group-keeps set-keeps outer-keeps

module _ (plan : Plan) (alone : plan.classes ≡ Magic ∷ []) where
  after : (fs : List Firing) (k : ℕ) (g h : QueryGraph) → EachOnce (numbers g.boxes) → WellFormed g → IsSettled g → Leads built_pairs built_may built_act plan k g fs h → After g fs h
  after [] k g h once wf s leads = subst (λ (z : QueryGraph). After g [] z) leads (record { once = once; formed = wf; settled = s; paid = omega arith; few = omega arith })
  after (f ∷ fs) k g h once wf s leads =
      let m = leads.0 in
      let fires = leads.1.0 in
      let magic = fired plan alone g f (next-in plan (candidates built_pairs plan g) k f fires.is_next) in
      let lower = magic-lowers f.rule magic f.place g m once wf fires.acts in
      let grows = magic-adds-few f.rule magic f.place g m fires.acts in
      let a = after fs (k + 1) m h lower.once fires.formed (magic-keeps f.rule magic f.place g m once wf s fires.acts) leads.1.1 in
      let less = lower.lower in
      let paid = a.paid in
      let few = a.few in
      record { once = a.once; formed = a.formed; settled = a.settled; paid = omega (arith, less, paid); few = omega (arith, grows, few) }

-- where the whole budget is spent, nothing is left of the measure
pub settled-closes : SettledCloses
settled-closes = λ plan g h fs alone once wf s budget traces few. (
    let a = after plan alone fs 0 g h once wf s traces.leads in
    let bound = measure-bound g in
    let paid = a.paid in
    elim (le-or plan.budget (length fs)) [
      | inl spent ↦ nothing-open h a.once a.formed (omega (arith, bound, paid, budget, spent))
      | inr left ↦ calm-rewrites-close plan g h fs (subst (λ (cs : List Class). In Magic cs) (sym alone) (inl refl)) traces left a.once a.formed (settled-calm h a.settled few)
    ])

pub magic-decorrelates : MagicDecorrelates
magic-decorrelates = λ plan g h fs alone once wf s room budget traces. (
    let a = after plan alone fs 0 g h once wf s traces.leads in
    let bound = measure-bound g in
    let paid = a.paid in
    let few = a.few in
    settled-closes plan g h fs alone once wf s budget traces (omega (arith, bound, paid, few, room)))
