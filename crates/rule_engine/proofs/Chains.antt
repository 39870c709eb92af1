-- Chains of firings.
use Rattle.std.proofs.Common.{◌≡◌, ℕ, ◌+◌, ◌<◌, List, [], ◌∷◌, ◌++◌, length, take, slice_index_or, refl, sym, ◌∙◌, ap, arith, subst, Option, Some, None}
use Rattle.std.proofs.lemmas.List.{length-take-le, take_more}
use Rattle.qgm_core.specs.Boxes.{QueryGraph}
use Rattle.qgm_wellformed.specs.Sentences.{WellFormed}
use Rattle.rule_plan.specs.declared.plan.Plan.{Plan}
use Rattle.rule_api.specs.Rules.{Preserves}
use Rattle.rule_api.proofs.Chained.{preserves-itself}
use Rattle.rule_api.specs.declared.place.Firing.{Firing}
use Rattle.rule_engine.specs.Control.{Pairs}
use Rattle.rule_engine.specs.Trace.{Act, Fires, Leads, LeadsEach, May, Stepped}

-- one firing more
pub leads-more : (pairs : Pairs) (may : May) (act : Act) (plan : Plan) (k n : ℕ) (g : QueryGraph) (fs : List Firing) (m : QueryGraph) (f : Firing) (h : QueryGraph) →
    k + length fs ≡ n → Leads pairs may act plan k g fs m → Fires pairs may act plan n m f h → Leads pairs may act plan k g (fs ++ f ∷ []) h
leads-more pairs may act plan k n g [] m f h e l fires =
    let q : n ≡ k = omega arith in (h, (subst (λ x. Fires pairs may act plan k x f h) (sym l) (subst (λ n. Fires pairs may act plan n m f h) q fires), refl))
leads-more pairs may act plan k n g (x ∷ fs) m f h e l fires = (l.0, (l.1.0, leads-more pairs may act plan (k + 1) n l.0 fs m f h (omega arith) l.1.1 fires))

-- one step more, by the plan that is next
last-step : (pairs : Pairs) (may : May) (act : Act) (plan : Plan) (n : ℕ) (m : QueryGraph) (o : Option Firing) (h : QueryGraph) → Stepped pairs may act plan n m o h → LeadsEach pairs may act n m (plan ∷ []) (o ∷ []) h
last-step pairs may act plan n m None h s = (s.1, sym s.0)
last-step pairs may act plan n m (Some f) h s = (h, (s.0, refl))

pub leads-each-more : (pairs : Pairs) (may : May) (act : Act) (k n : ℕ) (g : QueryGraph) (plans : List Plan) (fs : List (Option Firing)) (m : QueryGraph) (plan : Plan) (o : Option Firing) (h : QueryGraph) →
    k + length plans ≡ n → LeadsEach pairs may act k g plans fs m → Stepped pairs may act plan n m o h → LeadsEach pairs may act k g (plans ++ plan ∷ []) (fs ++ o ∷ []) h
leads-each-more pairs may act k n g [] [] m plan o h e l s =
    let q : n ≡ k = omega arith in subst (λ x. LeadsEach pairs may act k x (plan ∷ []) (o ∷ []) h) (sym l) (last-step pairs may act plan k m o h (subst (λ n. Stepped pairs may act plan n m o h) q s))
leads-each-more pairs may act k n g [] (f ∷ fs) m plan o h e l s = elim l [ ]
leads-each-more pairs may act k n g (p ∷ plans) [] m plan o h e l s = elim l [ ]
leads-each-more pairs may act k n g (p ∷ plans) (None ∷ fs) m plan o h e l s = (l.0, leads-each-more pairs may act (k + 1) n g plans fs m plan o h (omega arith) l.1 s)
leads-each-more pairs may act k n g (p ∷ plans) (Some f ∷ fs) m plan o h e l s = (l.0, (l.1.0, leads-each-more pairs may act (k + 1) n l.0 plans fs m plan o h (omega arith) l.1.1 s))

-- the plan that is next being the k-th of these
pub leads-each-taken : (pairs : Pairs) (may : May) (act : Act) (k : ℕ) (g : QueryGraph) (plans : List Plan) (fs : List (Option Firing)) (m : QueryGraph) (plan : Plan) (o : Option Firing) (h : QueryGraph) →
    k < length plans → plan ≡ slice_index_or plans k plan → LeadsEach pairs may act 0 g (take k plans) fs m → Stepped pairs may act plan k m o h → LeadsEach pairs may act 0 g (take (k + 1) plans) (fs ++ o ∷ []) h
leads-each-taken pairs may act k g plans fs m plan o h l is leads s =
    let all = length-take-le k plans (omega (arith, l)) in
    let e : take (k + 1) plans ≡ take k plans ++ plan ∷ [] = take_more plans k plan l ∙ ap (λ (p : Plan). take k plans ++ p ∷ []) (sym is) in
    subst (λ (ps : List Plan). LeadsEach pairs may act 0 g ps (fs ++ o ∷ []) h) (sym e) (leads-each-more pairs may act 0 k g (take k plans) fs m plan o h (omega (arith, all)) leads s)

-- a step preserves, whether it fires or not
pub stepped-preserves : (pairs : Pairs) (may : May) (act : Act) (plan : Plan) (k : ℕ) (g : QueryGraph) (o : Option Firing) (h : QueryGraph) → WellFormed g → Stepped pairs may act plan k g o h → Preserves g h
stepped-preserves pairs may act plan k g None h formed s = subst (λ (x : QueryGraph). Preserves g x) (sym s.0) (preserves-itself g formed)
stepped-preserves pairs may act plan k g (Some f) h formed s = s.1
