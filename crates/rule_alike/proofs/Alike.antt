-- Candidates, the next of them, and firings of graphs that differ in numbers alone.
use Rattle.std.proofs.Common.{ℕ, zero, suc, ◌≡◌, ◌+◌, ◌%◌, ◌&&◌, ◌++◌, cond, Bool, List, [], ◌∷◌, length, map, nat_le, Option, Some, refl, sym, ap, ap₂, subst, ◌∙◌, inl, inr, arith}
use Rattle.std.specs.Prelude.{slice_get}
use Rattle.std.specs.List.{flat_map}
use Rattle.std.proofs.lemmas.Bool.{cases_Bool}
use Rattle.graph_alike.specs.Alike.{Meets}
use Rattle.graph_alike.specs.OneToOne.{Along, more, none}
use Rattle.graph_alike.proofs.Walks.{walks-meet}
use Rattle.list_laws.specs.Lists.{first}
use Rattle.qgm_core.specs.Boxes.{QueryGraph}
use Rattle.qgm_core.specs.Walk.{walk}
use Rattle.rule_alike.specs.Firings.{ActsAlike, AreAlike, LikeFiring, LikeFirings, LikeNext, PairsAlike}
use Rattle.rule_api.specs.RuleIds.{rank_of}
use Rattle.rule_api.specs.Rules.{Pair, place_at}
use Rattle.rule_api.specs.declared.place.Firing.{Firing}
use Rattle.rule_api.specs.declared.rule_id.RuleId.{RuleId}
use Rattle.rule_engine.specs.Control.{Pairs, at_box, candidates, draw, earliest, enabled, firing, is_least, next}
use Rattle.rule_engine.specs.Trace.{Act, Leads, May}
use Rattle.rule_plan.specs.declared.plan.Order.{Order}
use Rattle.rule_plan.specs.declared.plan.Order.TheVariants.{Sequence, Priority, Scatter}
use Rattle.rule_plan.specs.declared.plan.Plan.{Plan}

module _ (R : ℕ → ℕ → Type 0) where
  firings-append : (fs es gs hs : List Firing) → LikeFirings R fs es → LikeFirings R gs hs → LikeFirings R (fs ++ gs) (es ++ hs)
  firings-append [] [] gs hs l m = m
  firings-append [] (e ∷ es) gs hs l m = absurd l
  firings-append (f ∷ fs) [] gs hs l m = absurd l
  firings-append (f ∷ fs) (e ∷ es) gs hs l m = (l.0, firings-append fs es gs hs l.1 m)

  -- the same pairs of a rule, at two boxes
  pairs-like : (r : RuleId) (a b : ℕ) (ps : List Pair) → R a b → LikeFirings R (map (firing r) (map (place_at a) ps)) (map (firing r) (map (place_at b) ps))
  pairs-like r a b [] c = tt
  pairs-like r a b (p ∷ ps) c = (record { rule = refl; at = c; i = refl; j = refl }, pairs-like r a b ps c)

  -- ---- one of them

  firings-length : (fs es : List Firing) → LikeFirings R fs es → length fs ≡ length es
  firings-length [] [] l = refl
  firings-length [] (e ∷ es) l = absurd l
  firings-length (f ∷ fs) [] l = absurd l
  firings-length (f ∷ fs) (e ∷ es) l = ap suc (firings-length fs es l.1)

  get-like : (k : ℕ) (fs es : List Firing) → LikeFirings R fs es → LikeNext R (slice_get fs k) (slice_get es k)
  get-like k [] [] l = tt
  get-like k [] (e ∷ es) l = absurd l
  get-like k (f ∷ fs) [] l = absurd l
  get-like zero (f ∷ fs) (e ∷ es) l = l.0
  get-like (suc k) (f ∷ fs) (e ∷ es) l = get-like k fs es l.1

  least-like : (fs es : List Firing) (f e : Firing) → LikeFirings R fs es → LikeFiring R f e → is_least fs f ≡ is_least es e
  least-like [] [] f e l m = refl
  least-like [] (y ∷ es) f e l m = absurd l
  least-like (x ∷ fs) [] f e l m = absurd l
  least-like (x ∷ fs) (y ∷ es) f e l m =
      ap₂ (λ u v. u && v) (ap₂ (λ u v. nat_le (rank_of u) (rank_of v)) m.rule l.0.rule) (least-like fs es f e l.1 m)

  first-like : (p q : Firing → Bool) → ((f e : Firing) → LikeFiring R f e → p f ≡ q e) → (fs es : List Firing) → LikeFirings R fs es → LikeNext R (first p fs) (first q es)
  first-like p q s [] [] l = tt
  first-like p q s [] (e ∷ es) l = absurd l
  first-like p q s (f ∷ fs) [] l = absurd l
  first-like p q s (f ∷ fs) (e ∷ es) l = elim (cases_Bool (p f)) [
    | inl t ↦ subst (λ b. LikeNext R (cond b (Some f) (first p fs)) (first q (e ∷ es))) (sym t) (subst (λ b. LikeNext R (Some f) (cond b (Some e) (first q es))) (sym (sym (s f e l.0) ∙ t)) l.0)
    | inr t ↦ subst (λ b. LikeNext R (cond b (Some f) (first p fs)) (first q (e ∷ es))) (sym t) (subst (λ b. LikeNext R (first p fs) (cond b (Some e) (first q es))) (sym (sym (s f e l.0) ∙ t)) (first-like p q s fs es l.1))
  ]

  earliest-like : (fs es : List Firing) → LikeFirings R fs es → LikeNext R (earliest fs) (earliest es)
  unfolding earliest
  earliest-like fs es l = first-like (is_least fs) (is_least es) (λ f e m. least-like fs es f e l m) fs es l

  next-like : (plan : Plan) (k : ℕ) (fs es : List Firing) → LikeFirings R fs es → LikeNext R (next plan fs k) (next plan es k)
  unfolding next
  next-like plan k fs es l = by plan.order
    where
      by : (o : Order) → LikeNext R (elim o [ Sequence ↦ slice_get fs 0 | Priority ↦ earliest fs | Scatter ↦ slice_get fs (draw plan.seed k % length fs) ]) (elim o [ Sequence ↦ slice_get es 0 | Priority ↦ earliest es | Scatter ↦ slice_get es (draw plan.seed k % length es) ])
      by Sequence = get-like 0 fs es l
      by Priority = earliest-like fs es l
      by Scatter = subst (λ n. LikeNext R (slice_get fs (draw plan.seed k % length fs)) (slice_get es (draw plan.seed k % n))) (firings-length fs es l) (get-like (draw plan.seed k % length fs) fs es l)

-- ---- candidates

module _ (pairs : Pairs) (owed : PairsAlike pairs) (g h : QueryGraph) (w : AreAlike g h) where
  rules-like : (a b : ℕ) → Meets g h a b → (rs : List RuleId) → LikeFirings (Meets g h) (at_box pairs rs g a) (at_box pairs rs h b)
  rules-like a b c [] = tt
  rules-like a b c (r ∷ rs) =
      firings-append (Meets g h) (map (firing r) (map (place_at a) (pairs r g a))) (map (firing r) (map (place_at b) (pairs r h b))) (at_box pairs rs g a) (at_box pairs rs h b)
      (subst (λ (ps : List Pair). LikeFirings (Meets g h) (map (firing r) (map (place_at a) (pairs r g a))) (map (firing r) (map (place_at b) ps))) (owed r g h w a b c) (pairs-like (Meets g h) r a b (pairs r g a) c))
      (rules-like a b c rs)

  boxes-like : (rs : List RuleId) (bs cs : List ℕ) → Along (Meets g h) bs cs → LikeFirings (Meets g h) (flat_map (at_box pairs rs g) bs) (flat_map (at_box pairs rs h) cs)
  boxes-like rs [] [] none = tt
  boxes-like rs [] (c ∷ cs) l = elim l [ ]
  boxes-like rs (b ∷ bs) [] l = elim l [ ]
  boxes-like rs (b ∷ bs) (c ∷ cs) (more _ _ _ _ r l) =
      firings-append (Meets g h) (at_box pairs rs g b) (at_box pairs rs h c) (flat_map (at_box pairs rs g) bs) (flat_map (at_box pairs rs h) cs) (rules-like b c r rs) (boxes-like rs bs cs l)

  pub candidates-like : (plan : Plan) → LikeFirings (Meets g h) (candidates pairs plan g) (candidates pairs plan h)
  unfolding candidates
  candidates-like plan = boxes-like (enabled plan.classes) (walk plan.walk g) (walk plan.walk h) (walks-meet plan.walk g h w.first_once w.second_once w.first_formed w.second_formed w.same w.one)

  pub next-alike : (plan : Plan) (k : ℕ) → LikeNext (Meets g h) (next plan (candidates pairs plan g) k) (next plan (candidates pairs plan h) k)
  next-alike plan k = next-like (Meets g h) plan k (candidates pairs plan g) (candidates pairs plan h) (candidates-like plan)

-- ---- firings

both-some : (R : ℕ → ℕ → Type 0) (x y : Option Firing) (f e : Firing) → LikeNext R x y → x ≡ Some f → y ≡ Some e → LikeFiring R f e
both-some R x y f e l p q = subst (λ z. LikeNext R (Some f) z) q (subst (λ z. LikeNext R z y) p l)

pub leads-alike : (pairs : Pairs) (may : May) (act : Act) (plan : Plan) (k : ℕ) (g h : QueryGraph) (fs es : List Firing) (m n : QueryGraph) → PairsAlike pairs → ActsAlike act → AreAlike g h
    → length fs ≡ length es → Leads pairs may act plan k g fs m → Leads pairs may act plan k h es n → AreAlike m n
leads-alike pairs may act plan k g h [] [] m n owed acts w s x y = subst (λ z. AreAlike z n) x (subst (λ z. AreAlike g z) y w)
leads-alike pairs may act plan k g h [] (e ∷ es) m n owed acts w s x y = absurd (let z : ⊥ = omega (arith, s) in z)
leads-alike pairs may act plan k g h (f ∷ fs) [] m n owed acts w s x y = absurd (let z : ⊥ = omega (arith, s) in z)
leads-alike pairs may act plan k g h (f ∷ fs) (e ∷ es) m n owed acts w s (u, (a, b)) (v, (c, d)) =
    let l = both-some (Meets g h) (next plan (candidates pairs plan g) k) (next plan (candidates pairs plan h) k) f e (next-alike pairs owed g h w plan k) a.is_next c.is_next in
    let made = acts f.rule f.place e.place g h u v w l.at l.i l.j a.acts (subst (λ r. act r e.place h v) (sym l.rule) c.acts) a.formed c.formed in
    let t : length fs ≡ length es = omega (arith, s) in
    leads-alike pairs may act plan (k + 1) u v fs es m n owed acts made t b d
