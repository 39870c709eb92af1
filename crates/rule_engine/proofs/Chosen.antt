-- The candidates are the places of enabled rules at the boxes of the walk; what is next is one of them, unless there is none.
use Rattle.std.proofs.Common.{ℕ, zero, suc, ◌≡◌, ◌<◌, ◌%◌, Bool, true, false, cond, List, [], ◌∷◌, length, map, refl, sym, ◌∙◌, ap, arith, Option, Some, None, ◌⊎◌, inl, inr, subst}
use Rattle.std.proofs.Math.Nat.{mod-lt}
use Rattle.std.specs.List.{flat_map}
use Rattle.std.specs.Prelude.{slice_get, ◌↔◌}
use Rattle.qgm_core.specs.Boxes.{QueryGraph}
use Rattle.list_laws.specs.Lists.{In, first}
use Rattle.qgm_core.specs.Walk.{walk}
use Rattle.rule_plan.specs.declared.plan.Order.TheVariants.{Sequence, Priority, Scatter}
use Rattle.rule_plan.specs.declared.plan.Plan.{Plan}
use Rattle.rule_api.specs.Rules.{place_at}
use Rattle.rule_api.specs.declared.place.Firing.{Firing}
use Rattle.rule_api.specs.declared.rule_id.RuleId.{RuleId}
use Rattle.rule_engine.specs.Control.{Pairs, at_box, candidates, draw, earliest, enabled, firing, is_least, next}
use Rattle.rule_engine.specs.Laws.{IsCandidate}
use Rattle.rule_engine.proofs.Earliest.{earliest-some}
use Rattle.list_laws.proofs.Membership.{in-append, in-left, in-right}

-- ---- lists

-- what stands in a list of lists stands in one of them
pub in-flat_map : {X Y : Type 0} (f : X → List Y) (xs : List X) (y : Y) → In y (flat_map f xs) → (x : X) × (In x xs × In y (f x))
in-flat_map f [] y i = elim i [ ]
in-flat_map f (x ∷ xs) y i =
    elim (in-append y (f x) (flat_map f xs) i) [ inl j ↦ (x, (inl refl, j)) | inr j ↦ (let r = in-flat_map f xs y j in (r.0, (inr r.1.0, r.1.1))) ]

pub to-flat_map : {X Y : Type 0} (f : X → List Y) (xs : List X) (x : X) (y : Y) → In x xs → In y (f x) → In y (flat_map f xs)
to-flat_map f [] x y i j = elim i [ ]
to-flat_map f (z ∷ xs) x y (inl e) j = in-left y (f z) (flat_map f xs) (subst (λ w. In y (f w)) (sym e) j)
to-flat_map f (z ∷ xs) x y (inr i) j = in-right y (f z) (flat_map f xs) (to-flat_map f xs x y i j)

in-map : {X Y : Type 0} (f : X → Y) (xs : List X) (y : Y) → In y (map f xs) → (x : X) × (In x xs × (f x ≡ y))
in-map f [] y i = elim i [ ]
in-map f (x ∷ xs) y (inl e) = (x, (inl refl, e))
in-map f (x ∷ xs) y (inr i) = (let r = in-map f xs y i in (r.0, (inr r.1.0, r.1.1)))

to-map : {X Y : Type 0} (f : X → Y) (xs : List X) (x : X) → In x xs → In (f x) (map f xs)
to-map f [] x i = elim i [ ]
to-map f (y ∷ xs) x (inl e) = inl (ap f e)
to-map f (y ∷ xs) x (inr i) = inr (to-map f xs x i)

pub in-get : {X : Type 0} (xs : List X) (k : ℕ) (x : X) → slice_get xs k ≡ Some x → In x xs
in-get [] k x e = absurd (let q : ⊥ = cc in q)
in-get (y ∷ ys) zero x e = inl (let q : y ≡ x = cc in q)
in-get (y ∷ ys) (suc k) x e = inr (in-get ys k x e)

-- ---- candidates

pub at-to : (pairs : Pairs) (rs : List RuleId) (g : QueryGraph) (b : ℕ) (f : Firing) → In f (at_box pairs rs g b) → In f.rule rs × (f.place.at ≡ b) × In (f.place.i, f.place.j) (pairs f.rule g b)
at-to pairs rs g b f i =
    let r = in-flat_map (λ r. map (firing r) (map (place_at b) (pairs r g b))) rs f i in
    let p = in-map (firing r.0) (map (place_at b) (pairs r.0 g b)) f r.1.1 in
    let q = in-map (place_at b) (pairs r.0 g b) p.0 p.1.0 in
    let e : firing r.0 (place_at b q.0) ≡ f = ap (firing r.0) q.1.1 ∙ p.1.1 in
    subst (λ f. In f.rule rs × (f.place.at ≡ b) × In (f.place.i, f.place.j) (pairs f.rule g b)) e (r.1.0, refl, q.1.0)

at-from : (pairs : Pairs) (rs : List RuleId) (g : QueryGraph) (r : RuleId) (b i j : ℕ) → In r rs → In (i, j) (pairs r g b) → In (firing r (place_at b (i, j))) (at_box pairs rs g b)
at-from pairs rs g r b i j h k =
    to-flat_map (λ r. map (firing r) (map (place_at b) (pairs r g b))) rs r (firing r (place_at b (i, j))) h
    (to-map (firing r) (map (place_at b) (pairs r g b)) (place_at b (i, j)) (to-map (place_at b) (pairs r g b) (i, j) k))

candidate-is : (pairs : Pairs) (plan : Plan) (g : QueryGraph) (f : Firing) → In f (candidates pairs plan g) → IsCandidate pairs plan g f
unfolding candidates
candidate-is pairs plan g f i =
    let r = in-flat_map (at_box pairs (enabled plan.classes) g) (walk plan.walk g) f i in
    let a = at-to pairs (enabled plan.classes) g r.0 f r.1.1 in
    (a.0, subst (λ b. In b (walk plan.walk g)) (sym a.1) r.1.0, subst (λ b. In (f.place.i, f.place.j) (pairs f.rule g b)) (sym a.1) a.2)

is-candidate : (pairs : Pairs) (plan : Plan) (g : QueryGraph) (f : Firing) → IsCandidate pairs plan g f → In f (candidates pairs plan g)
unfolding candidates
is-candidate pairs plan g f c =
    to-flat_map (at_box pairs (enabled plan.classes) g) (walk plan.walk g) f.place.at f c.1 (at-from pairs (enabled plan.classes) g f.rule f.place.at f.place.i f.place.j c.0 c.2)

pub candidates-exact : (pairs : Pairs) (plan : Plan) (g : QueryGraph) (f : Firing) → In f (candidates pairs plan g) ↔ IsCandidate pairs plan g f
candidates-exact pairs plan g f = (candidate-is pairs plan g f, is-candidate pairs plan g f)

-- ---- the next

first-in : (p : Firing → Bool) (xs : List Firing) (f : Firing) → first p xs ≡ Some f → In f xs
first-in p [] f = λ e. absurd (let q : ⊥ = cc in q)
first-in p (x ∷ xs) f =
    elim (p x) as (λ b. cond b (Some x) (first p xs) ≡ Some f → (x ≡ f) ⊎ In f xs) [ true ↦ λ e. inl (let q : x ≡ f = cc in q) | false ↦ λ e. inr (first-in p xs f e) ]

earliest-in : (xs : List Firing) (f : Firing) → earliest xs ≡ Some f → In f xs
unfolding earliest
earliest-in xs f e = first-in (is_least xs) xs f e

pub next-in : (plan : Plan) (list : List Firing) (k : ℕ) (f : Firing) → next plan list k ≡ Some f → In f list
unfolding next
next-in plan list k f =
    elim plan.order as (λ o. elim o [ Sequence ↦ slice_get list 0 | Priority ↦ earliest list | Scatter ↦ slice_get list (draw plan.seed k % length list) ] ≡ Some f → In f list) [
      | Sequence ↦ in-get list 0 f
      | Priority ↦ earliest-in list f
      | Scatter ↦ in-get list (draw plan.seed k % length list) f
    ]

get-none : (xs : List Firing) (k : ℕ) → slice_get xs k ≡ None → k < length xs → ⊥
get-none [] k e l = omega arith
get-none (y ∷ ys) zero e l = let q : ⊥ = cc in q
get-none (y ∷ ys) (suc k) e l = get-none ys k e (omega arith)

first-none : (x : Firing) (xs : List Firing) → slice_get (x ∷ xs) 0 ≡ None → ⊥
first-none x xs e = get-none (x ∷ xs) 0 e (omega arith)

draw-none : (n : ℕ) (x : Firing) (xs : List Firing) → slice_get (x ∷ xs) (n % length (x ∷ xs)) ≡ None → ⊥
draw-none n x xs e = get-none (x ∷ xs) (n % length (x ∷ xs)) e (mod-lt n {m = suc (length xs)} (omega arith))

pub next-none : (plan : Plan) (list : List Firing) (k : ℕ) → next plan list k ≡ None → list ≡ []
unfolding next
next-none plan [] k h = refl
next-none plan (x ∷ xs) k h = absurd
    (elim plan.order as (λ o. ◌≡◌ {A = Option Firing} (elim o [ Sequence ↦ slice_get (x ∷ xs) 0 | Priority ↦ earliest (x ∷ xs) | Scatter ↦ slice_get (x ∷ xs) (draw plan.seed k % length (x ∷ xs)) ]) None → ⊥) [
      | Sequence ↦ first-none x xs
      | Priority ↦ earliest-some x xs
      | Scatter ↦ draw-none (draw plan.seed k) x xs
    ] h)

-- what is next of none is in none
next-of-none : (plan : Plan) (k : ℕ) (o : Option Firing) → next plan [] k ≡ o → o ≡ None
next-of-none plan k None e = refl
next-of-none plan k (Some f) e = elim (next-in plan [] k f e) [ ]

pub none-left : (plan : Plan) (list : List Firing) (k : ℕ) → (next plan list k ≡ None) ↔ (list ≡ [])
none-left plan list k = (next-none plan list k, λ e. ap (λ l. next plan l k) e ∙ next-of-none plan k (next plan [] k) refl)

pub next-given : (pairs : Pairs) (plan : Plan) (g : QueryGraph) (k : ℕ) (f : Firing) → next plan (candidates pairs plan g) k ≡ Some f → In (f.place.i, f.place.j) (pairs f.rule g f.place.at)
next-given pairs plan g k f e = (candidate-is pairs plan g f (next-in plan (candidates pairs plan g) k f e)).2
