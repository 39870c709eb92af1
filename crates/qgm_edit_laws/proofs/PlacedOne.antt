-- I1 to I3 where one box changes.
use Rattle.std.proofs.Common.{ℕ, zero, suc, ◌==◌, ◌≡◌, ◌||◌, ◌+◌, ◌≤◌, cond, Bool, true, false, List, [], ◌∷◌, map, insert, refl, sym, ap, subst, ◌∙◌, eqb-true, ◌⊎◌, inl, inr, arith}
use Rattle.std.specs.List.{list_any, flat_map}
use Rattle.std.proofs.lemmas.Bool.{cases_Bool, or_parts}
use Rattle.qgm_core.specs.declared.node.Node.{Node}
use Rattle.qgm_core.specs.declared.owned.OwnedQuant.{OwnedQuant}
use Rattle.qgm_core.specs.Boxes.{Ordered, is_box, ids_of, ids_in, owns}
use Rattle.qgm_core.specs.Free.{named_by}
use Rattle.list_laws.specs.Lists.{In, change, times, holds, without}
use Rattle.qgm_edit_laws.specs.Placed.{Below, Placed}
use Rattle.qgm_edit_laws.proofs.Edits.{once-each, times-change}
use Rattle.qgm_edit_laws.proofs.OneBox.{at, change-at, has-map, ordered-map, owned-map, owner-at, owns-ids, ranked}
use Rattle.qgm_edit_laws.proofs.Ranks.{same-box}
use Rattle.qgm_edit_laws.proofs.Scope.{owned-times}
use Rattle.list_laws.proofs.Counting.{times-append, times-in, times-once}
use Rattle.list_laws.proofs.Membership.{any-from, any-in, eq-itself, in-map, map-in}
use Rattle.list_laws.proofs.Booleans.{clash}

-- a number that an owner has stands there
pub owned-in : (q : ℕ) (bs : List Node) (n : Node) → In n bs → owns q n ≡ true → 1 ≤ times q (ids_in bs)
owned-in q bs n i h = let a = times-in ids_of q n bs i in let b = owned-times q n h in omega arith

pub holds-times : (q : ℕ) (xs : List ℕ) → 1 ≤ times q xs → holds q xs ≡ true
holds-times q [] h = absurd (omega arith)
holds-times q (x ∷ xs) h = elim (x == q) as (λ t. 1 ≤ cond t 1 0 + times q xs → (t || holds q xs) ≡ true) [ true ↦ λ h. refl | false ↦ λ h. holds-times q xs (omega arith) ] h

pub times-holds : (q : ℕ) (xs : List ℕ) → holds q xs ≡ false → times q xs ≡ 0
times-holds q [] h = refl
times-holds q (x ∷ xs) h = elim (x == q) as (λ t. (t || holds q xs) ≡ false → cond t 1 0 + times q xs ≡ 0) [ true ↦ λ h. absurd (let z : ⊥ = cc in z) | false ↦ λ h. (let e = times-holds q xs h in omega arith) ] h

-- nobody owns it
pub unowned-times : (q : ℕ) (bs : List Node) → list_any (owns q) bs ≡ false → times q (ids_in bs) ≡ 0
unowned-times q [] h = refl
unowned-times q (n ∷ bs) h =
    let x = or_parts (owns q n) (list_any (owns q) bs) h in
    let a = times-append q (ids_of n) (ids_in bs) in
    let b = unowned-times q bs x.1 in
    let c = times-holds q (ids_of n) (sym (owns-ids q n.quants) ∙ x.0) in omega arith

module _ (bs : List Node) (root : ℕ) (w : Placed bs root) where
  pub one-owner : (q : ℕ) (n m : Node) → In n bs → In m bs → owns q n ≡ true → owns q m ≡ true → n ≡ m
  one-owner q n m i j h k = times-once ids_of q n m bs (w.once q) i j (owned-times q n h) (owned-times q m k)

  -- a changed owner is a changed box
  pub at-owner : (q : ℕ) (o : Node) (f : Node → Node) → In o bs → owns q o ≡ true → change (owns q) f bs ≡ map (at o.id f) bs
  at-owner q o f i h = owner-at q o f bs (once-each bs w.ordered) i h (λ y j k. one-owner q y o j i k h)

  pub at-box : (b : ℕ) (f : Node → Node) → change (is_box b) f bs ≡ map (at b f) bs
  at-box b f = change-at b f bs (once-each bs w.ordered)

module _ (bs : List Node) (o : Ordered bs) (b : Node) (i : In b bs) (f : Node → Node) (same : (y : Node) → (f y).id ≡ y.id) where
  abbrev pub g : Node → Node
  g = at b.id f

  pub g-id : (y : Node) → (g y).id ≡ y.id
  g-id y = elim (y.id == b.id) as (λ t. ◌≡◌ {A = ℕ} (cond t (f y) y).id y.id) [ true ↦ same y | false ↦ refl ]

  pub g-b : g b ≡ f b
  g-b = ap (λ t. cond t (f b) b) (eq-itself b.id)

  pub g-other : (y : Node) → (y.id == b.id) ≡ false → g y ≡ y
  g-other y n = ap (λ t. cond t (f y) y) n

  -- a box is b, or as it was
  pub g-cases : (y : Node) → In y bs → ((y ≡ b) × (g y ≡ f b)) ⊎ (((y.id == b.id) ≡ false) × (g y ≡ y))
  g-cases y j = elim (cases_Bool (y.id == b.id)) [
    | inl t ↦ (let e : y ≡ b = same-box bs y b o j i (eqb-true y.id b.id t) in inl (e, ap g e ∙ g-b))
    | inr n ↦ inr (n, g-other y n)
  ]

  pub in-after : (n : Node) → In n (map g bs) → (f b ≡ n) ⊎ (In n bs × ((n.id == b.id) ≡ false))
  in-after n j =
      let x = in-map g n bs j in
      elim (g-cases x.0 x.1.0) [
        | inl e ↦ inl (sym e.1 ∙ x.1.1)
        | inr e ↦ (let s : x.0 ≡ n = sym e.1 ∙ x.1.1 in inr (subst (λ z. In z bs) s x.1.0, subst (λ (z : Node). (z.id == b.id) ≡ false) s e.0))
      ]

  pub b-after : In (f b) (map g bs)
  b-after = subst (λ z. In z (map g bs)) g-b (map-in g b bs i)

  pub other-after : (y : Node) → In y bs → (y.id == b.id) ≡ false → In y (map g bs)
  other-after y j n = subst (λ z. In z (map g bs)) (g-other y n) (map-in g y bs j)

  pub ordered-after : ((r : OwnedQuant) → In r (f b).quants → Below bs b.id r.over) → Ordered (map g bs)
  ordered-after h = ordered-map g g-id bs o (λ y r j k. elim (g-cases y j) [
    | inl e ↦ subst (λ (z : Node). Below bs z.id r.over) (sym e.0) (h r (subst (λ (z : Node). In r z.quants) e.1 k))
    | inr e ↦ ranked bs o y r j (subst (λ (z : Node). In r z.quants) e.1 k)
  ])

  -- what is counted of the box that changes
  pub counted : (F : Node → List ℕ) (x : ℕ) → times x (flat_map F (map g bs)) + times x (F b) ≡ times x (flat_map F bs) + times x (F (f b))
  counted F x =
      let a = times-change F g x b bs (once-each bs o) i (λ y j n. ap F (g-other y n)) in
      let e : times x (F (g b)) ≡ times x (F (f b)) = ap (λ z. times x (F z)) g-b in omega arith

  module _ (ids : ids_of (f b) ≡ ids_of b) where
    pub same-ids : (x : ℕ) → times x (ids_in (map g bs)) ≡ times x (ids_in bs)
    same-ids x = let a = counted ids_of x in let e : times x (ids_of (f b)) ≡ times x (ids_of b) = ap (times x) ids in omega arith

    pub still-owned : (q : ℕ) → list_any (owns q) bs ≡ true → list_any (owns q) (map g bs) ≡ true
    still-owned q h = owned-map g q bs (λ y j t. elim (g-cases y j) [
      | inl e ↦ subst (λ z. owns q z ≡ true) (sym e.1) (owns-ids q (f b).quants ∙ ap (holds q) ids ∙ sym (owns-ids q b.quants) ∙ subst (λ z. owns q z ≡ true) e.0 t)
      | inr e ↦ subst (λ z. owns q z ≡ true) (sym e.1) t
    ]) h

    -- its quantifiers keep their numbers
    pub placed-ids : (root : ℕ) → Placed bs root → ((r : OwnedQuant) → In r (f b).quants → Below bs b.id r.over) → ((q : ℕ) → holds q (named_by (f b)) ≡ true → list_any (owns q) bs ≡ true) → Placed (map g bs) root
    placed-ids root w h k = record {
      rooted = has-map g g-id bs root ∙ w.rooted;
      ordered = ordered-after h;
      once = λ q. (let a = same-ids q in let c = w.once q in omega arith);
      known = λ n j q t. still-owned q (elim (in-after n j) [ inl e ↦ k q (subst (λ z. holds q (named_by z) ≡ true) (sym e) t) | inr e ↦ w.known n e.0 q t ]);
    }

  -- its parts change
  pub placed-parts : (root : ℕ) → Placed bs root → (f b).quants ≡ b.quants → ((q : ℕ) → holds q (named_by (f b)) ≡ true → list_any (owns q) bs ≡ true) → Placed (map g bs) root
  placed-parts root w e k = placed-ids (ap (map (λ r. r.id)) e) root w (λ r j. ranked bs o b r i (subst (λ z. In r z) e j)) k

-- ---- lists of quantifiers

pub times-put : (x i : ℕ) (r : OwnedQuant) (rs : List OwnedQuant) → times x (map (λ (r : OwnedQuant). r.id) (insert rs i r)) ≡ times x (map (λ (r : OwnedQuant). r.id) rs) + times x (r.id ∷ [])
times-put x zero r [] = omega arith
times-put x (suc i) r [] = omega arith
times-put x zero r (s ∷ rs) = omega arith
times-put x (suc i) r (s ∷ rs) = let h = times-put x i r rs in omega arith

pub in-put : (i : ℕ) (r : OwnedQuant) (rs : List OwnedQuant) (s : OwnedQuant) → In s (insert rs i r) → (r ≡ s) ⊎ In s rs
in-put zero r [] s j = elim j [ inl e ↦ inl e | inr z ↦ elim z [ ] ]
in-put (suc i) r [] s j = elim j [ inl e ↦ inl e | inr z ↦ elim z [ ] ]
in-put zero r (x ∷ rs) s j = elim j [ inl e ↦ inl e | inr z ↦ inr z ]
in-put (suc i) r (x ∷ rs) s j = elim j [ inl e ↦ inr (inl e) | inr z ↦ elim (in-put i r rs s z) [ inl e ↦ inl e | inr k ↦ inr (inr k) ] ]

pub any-put : (p : OwnedQuant → Bool) (i : ℕ) (r : OwnedQuant) (rs : List OwnedQuant) → list_any p rs ≡ true → list_any p (insert rs i r) ≡ true
any-put p i r rs h = let x = any-in p rs h in any-from p x.0 (insert rs i r) (put-in i rs x.0 x.1.0) x.1.1
  where
    put-in : (i : ℕ) (rs : List OwnedQuant) (s : OwnedQuant) → In s rs → In s (insert rs i r)
    put-in zero [] s j = elim j [ ]
    put-in (suc i) [] s j = elim j [ ]
    put-in zero (x ∷ rs) s j = inr j
    put-in (suc i) (x ∷ rs) s j = elim j [ inl e ↦ inl e | inr k ↦ inr (put-in i rs s k) ]

pub in-less : {X : Type 0} (p : X → Bool) (rs : List X) (s : X) → In s (without p rs) → In s rs
in-less p [] s j = elim j [ ]
in-less p (r ∷ rs) s j = elim (p r) as (λ t. In s (cond t rs (r ∷ without p rs)) → In s (r ∷ rs)) [
  | true ↦ λ j. inr j
  | false ↦ λ j. elim j [ inl e ↦ inl e | inr k ↦ inr (in-less p rs s k) ]
] j

pub less-in : {X : Type 0} (p : X → Bool) (rs : List X) (s : X) → In s rs → p s ≡ false → In s (without p rs)
less-in p [] s j f = elim j [ ]
less-in p (r ∷ rs) s j f = elim (p r) as (λ t. p r ≡ t → In s (cond t rs (r ∷ without p rs))) [
  | true ↦ λ t. elim j [ inl e ↦ absurd (clash (p s) (subst (λ z. p z ≡ true) e t) f) | inr k ↦ k ]
  | false ↦ λ t. elim j [ inl e ↦ inl e | inr k ↦ inr (less-in p rs s k f) ]
] refl

pub times-less : (x : ℕ) (p : OwnedQuant → Bool) (f : OwnedQuant → ℕ) (rs : List OwnedQuant) → times x (map f (without p rs)) ≤ times x (map f rs)
times-less x p f [] = omega arith
times-less x p f (r ∷ rs) = let h = times-less x p f rs in elim (p r) as (λ t. times x (map f (cond t rs (r ∷ without p rs))) ≤ times x (map f (r ∷ rs))) [ true ↦ (omega arith) | false ↦ (omega arith) ]
