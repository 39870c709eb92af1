-- Which heads are known when they are looked up so many times.
use Rattle.std.proofs.Common.{inl, inr, ◌≡◌, ◌≤◌, ℕ, zero, suc, ◌+◌, ◌-◌, ◌==◌, ◌&&◌, ◌||◌, Bool, true, false, cond, List, [], ◌∷◌, map, Option, Some, None, refl, ap, ap₂, sym, ◌∙◌, subst, arith}
use Rattle.std.specs.List.{flat_map, list_all, list_any}
use Rattle.std.proofs.lemmas.Bool.{and_parts, cases_Bool, eqb-true}
use Rattle.qgm_core.specs.Boxes.{Ordered, ids_in, ids_of, is_box, is_quant, owns, range_in}
use Rattle.list_laws.specs.Lists.{In, first, times}
use Rattle.qgm_core.specs.declared.node.Node.{Node}
use Rattle.qgm_core.specs.declared.owned.OwnedQuant.{OwnedQuant}
use Rattle.qgm_terms.specs.Named.{names_in}
use Rattle.qgm_wellformed.specs.Types.{is_typed, typed}
use Rattle.qgm_wellformed.specs.declared.types.Typed.{Typed}
use Rattle.qgm_edit_laws.proofs.Turns.{first-own}
use Rattle.list_laws.proofs.Counting.{in-times, times-in, times-once}
use Rattle.list_laws.proofs.Membership.{any-in, eq-itself}

-- ---- what is found

pub first-passes : {X : Type 0} (p : X → Bool) (xs : List X) (x : X) → In x xs → p x ≡ true → (y : X) × ((first p xs ≡ Some y) × (In y xs × (p y ≡ true)))
first-passes p [] x i h = absurd i
first-passes {X} p (z ∷ xs) x i h = elim (cases_Bool (p z)) [
  | inl e ↦ (z, (ap (λ (b : Bool). cond b (Some z) (first p xs)) e, (inl refl, e)))
  | inr e ↦ (
      let j : In x xs = elim i [ inl k ↦ absurd (let u : true ≡ false = sym h ∙ ap p (sym k) ∙ e in let w : ⊥ = cc in w) | inr k ↦ k ] in
      let r = first-passes p xs x j h in
      (r.0, (ap (λ (b : Bool). cond b (Some z) (first p xs)) e ∙ r.1.0, (inr r.1.1.0, r.1.1.1)))
      )
]

pub some-in : {X : Type 0} (p : X → Bool) (xs : List X) (x : X) → first p xs ≡ Some x → In x xs × (p x ≡ true)
some-in p [] x h = absurd (cc h)
some-in {X} p (z ∷ xs) x h = elim (cases_Bool (p z)) [
  | inl e ↦ (let s : z ≡ x = ap (or_one z) (sym (ap (λ (b : Bool). cond b (Some z) (first p xs)) e) ∙ h) in (inl s, ap p (sym s) ∙ e))
  | inr e ↦ (let r = some-in p xs x (sym (ap (λ (b : Bool). cond b (Some z) (first p xs)) e) ∙ h) in (inr r.0, r.1))
]
  where
    or_one : X → Option X → X
    or_one d None = d
    or_one d (Some y) = y

pub number-of : (bs : List Node) (b : ℕ) (n : Node) → first (is_box b) bs ≡ Some n → n.id ≡ b
number-of bs b n h = eqb-true n.id b (some-in (is_box b) bs n h).1

pub owner-of : (bs : List Node) → ((q : ℕ) → times q (ids_in bs) ≤ 1) → (n : Node) (r : OwnedQuant) → In n bs → In r n.quants → range_in r.id (first (owns r.id) bs) ≡ Some r
owner-of bs once n r i j =
    let f = first-passes (owns r.id) bs n i (owned r n.quants j) in
    let y = f.0 in
    let any = any-in (is_quant r.id) y.quants f.1.1.1 in
    let few : 1 ≤ times r.id (ids_of y) = subst (λ z. 1 ≤ times z (ids_of y)) (eqb-true any.0.id r.id any.1.1) (in-times (λ (r : OwnedQuant). r.id) any.0 y.quants any.1.0) in
    let same : y ≡ n = times-once ids_of r.id y n bs (once r.id) f.1.1.0 i few (in-times (λ (r : OwnedQuant). r.id) r n.quants j) in
    let less = times-in ids_of r.id n bs i in
    let o = once r.id in
    ap (range_in r.id) (f.1.0 ∙ ap Some same) ∙ first-own r n.quants (omega arith) j
  where
    owned : (r : OwnedQuant) (rs : List OwnedQuant) → In r rs → list_any (is_quant r.id) rs ≡ true
    owned r [] j = absurd j
    owned r (x ∷ rs) (inl e) = ap (λ (z : OwnedQuant). (z.id == r.id) || list_any (is_quant r.id) rs) e ∙ ap (λ b. b || list_any (is_quant r.id) rs) (eq-itself r.id)
    owned r (x ∷ rs) (inr k) = ap (λ b. (x.id == r.id) || b) (owned r rs k) ∙ or-true (x.id == r.id)
      where
        or-true : (b : Bool) → (b || true) ≡ true
        or-true true = refl
        or-true false = refl

pub first-typed : (bs : List Node) (table : List Typed) (ns : List Node) (b : ℕ) (n : Node) → first (is_box b) ns ≡ Some n → first (is_typed b) (map (typed bs table) ns) ≡ Some (typed bs table n)
first-typed bs table [] b n h = absurd (cc h)
first-typed bs table (m ∷ ns) b n h = elim (m.id == b) as (λ c. cond c (Some m) (first (is_box b) ns) ≡ Some n → ◌≡◌ {A = Option Typed} (cond c (Some (typed bs table m)) (first (is_typed b) (map (typed bs table) ns))) (Some (typed bs table n))) [
  | true ↦ (λ e. ap (λ (o : Option Node). Some (typed bs table (or_node m o))) e)
  | false ↦ (λ e. first-typed bs table ns b n e)
] h
  where
    or_node : Node → Option Node → Node
    or_node d None = d
    or_node d (Some y) = y

-- ---- the boxes of a graph

module _ (bs : List Node) (ordered : Ordered bs) (once : (q : ℕ) → times q (ids_in bs) ≤ 1) where
  -- the quantifier q is found, over a box that passes
  abbrev pub under_by : (ℕ → Bool) → Option OwnedQuant → Bool
  under_by S None = false
  under_by S (Some r) = S r.over

  abbrev pub under : (ℕ → Bool) → ℕ → Bool
  under S n = under_by S (range_in n (first (owns n) bs))

  -- all that the head of a box names is found, over boxes that pass
  abbrev pub step_by : (ℕ → Bool) → Option Node → Bool
  step_by S None = false
  step_by S (Some n) = list_all (under S) (flat_map names_in n.parts.head)

  abbrev pub step : (ℕ → Bool) → ℕ → Bool
  step S b = step_by S (first (is_box b) bs)

  -- what the heads name is known after so many steps
  abbrev pub settled : ℕ → ℕ → Bool
  settled zero b = false
  settled (suc e) b = step (settled e) b

  all-weaker : {X : Type 0} (p r : X → Bool) (xs : List X) → ((x : X) → p x ≡ true → r x ≡ true) → list_all p xs ≡ true → list_all r xs ≡ true
  all-weaker p r [] f h = refl
  all-weaker p r (x ∷ xs) f h = let u = and_parts (p x) (list_all p xs) h in ap₂ ◌&&◌ (f x u.0) (all-weaker p r xs f u.1)

  under-more : (S T : ℕ → Bool) → ((b : ℕ) → S b ≡ true → T b ≡ true) → (o : Option OwnedQuant) → under_by S o ≡ true → under_by T o ≡ true
  under-more S T f None h = absurd (cc h)
  under-more S T f (Some r) h = f r.over h

  pub step-more : (S T : ℕ → Bool) → ((b : ℕ) → S b ≡ true → T b ≡ true) → (o : Option Node) → step_by S o ≡ true → step_by T o ≡ true
  step-more S T f None h = absurd (cc h)
  step-more S T f (Some n) h = all-weaker (under S) (under T) (flat_map names_in n.parts.head) (λ x k. under-more S T f (range_in x (first (owns x) bs)) k) h

  pub settled-suc : (e b : ℕ) → settled e b ≡ true → settled (suc e) b ≡ true
  settled-suc zero b h = absurd (cc h)
  settled-suc (suc e) b h = step-more (settled e) (settled (suc e)) (settled-suc e) (first (is_box b) bs) h

  pub settled-add : (k e b : ℕ) → settled e b ≡ true → settled (k + e) b ≡ true
  settled-add zero e b h = let x : e ≡ zero + e = omega arith in subst (λ z. settled z b ≡ true) x h
  settled-add (suc k) e b h = let x : suc (k + e) ≡ suc k + e = omega arith in subst (λ z. settled z b ≡ true) x (settled-suc (k + e) b (settled-add k e b h))

  pub settled-more : (d e b : ℕ) → d ≤ e → settled d b ≡ true → settled e b ≡ true
  settled-more d e b u h = let x : (e - d) + d ≡ e = omega arith in subst (λ z. settled z b ≡ true) x (settled-add (e - d) d b h)

  -- a box that is settled is one of these
  pub settled-found : (e b : ℕ) → settled e b ≡ true → (n : Node) × (first (is_box b) bs ≡ Some n)
  settled-found zero b h = absurd (cc h)
  settled-found (suc e) b h = found (first (is_box b) bs) refl h
    where
      found : (o : Option Node) → first (is_box b) bs ≡ o → step_by (settled e) o ≡ true → (n : Node) × (first (is_box b) bs ≡ Some n)
      found None g k = absurd (cc k)
      found (Some n) g k = (n, g)
