-- Quantifiers that go one by one go at once.
use Rattle.std.proofs.Common.{ℕ, ◌==◌, ◌≡◌, ◌&&◌, ◌≤◌, not, cond, Bool, true, false, List, ◌∷◌, map, filter, Some, refl, sym, ap, ap₂, subst, ◌∙◌, eqb-true, arith, inl, inr, [], ◌||◌}
use Rattle.std.specs.List.{list_any}
use Rattle.std.specs.Prelude.{⊤}
use Rattle.std.proofs.lemmas.Bool.{and_from, and_parts, cases_Bool, eq-eqb, not-true, or_parts}
use Rattle.qgm_core.specs.Boxes.{QueryGraph, is_quant, owns}
use Rattle.qgm_core.specs.Edits.{drop_quant, on_boxes, without_quant}
use Rattle.qgm_core.specs.Kinds.{is_F}
use Rattle.list_laws.specs.Lists.{In, change, first, holds, times, without}
use Rattle.qgm_core.specs.declared.node.Node.{Node}
use Rattle.qgm_core.specs.declared.owned.OwnedQuant.{OwnedQuant}
use Rattle.qgm_edit_laws.specs.Graph.{Sound, nodes_in}
use Rattle.qgm_edit_laws.proofs.Edits.{once-each}
use Rattle.qgm_edit_laws.proofs.OneBox.{at, once-map, owner-at}
use Rattle.qgm_edit_laws.proofs.PartForms.{at-all}
use Rattle.qgm_edit_laws.proofs.Ranks.{same-box}
use Rattle.qgm_edit_laws.proofs.Scope.{one-owner}
use Rattle.qgm_edit_laws.proofs.Scoped.{few-ids}
use Rattle.qgm_edit_laws.proofs.Turns.{first-own}
use Rattle.rule_prune.specs.DropQuantifier.{others}
use Rattle.rule_prune.specs.DropColumn.{stays}
use Rattle.qgm_edit_laws.specs.DropQuants.{with_those}
use Rattle.rule_prune.specs.Unnamed.{dropped_all, unnamed}
use Rattle.rule_prune.proofs.DropColumnKeeps.{all-pass, map-same}
use Rattle.list_laws.proofs.Membership.{any-from, any-in, any-not, eq-itself, holds-in, in-holds, in-map, map-in}
use Rattle.list_laws.proofs.Booleans.{clash}

-- what passes and isn't q
abbrev less : ℕ → (ℕ → Bool) → ℕ → Bool
less q keep x = keep x && not (x == q)

abbrev left : List ℕ → (ℕ → Bool) → ℕ → Bool
left [] keep = keep
left (q ∷ qs) keep = left qs (less q keep)

-- each is another than those behind it
abbrev Apart : List ℕ → Type 0
Apart [] = ⊤
Apart (q ∷ qs) = ((p : ℕ) → In p qs → (p == q) ≡ false) × Apart qs

filter-same : (p t : ℕ → Bool) (rs : List OwnedQuant) → ((r : OwnedQuant) → In r rs → p r.id ≡ t r.id) → filter (λ (r : OwnedQuant). p r.id) rs ≡ filter (λ (r : OwnedQuant). t r.id) rs
filter-same p t [] h = refl
filter-same p t (r ∷ rs) h = ap₂ (λ (x : Bool) (xs : List OwnedQuant). cond x (r ∷ xs) xs) (h r (inl refl)) (filter-same p t rs (λ x i. h x (inr i)))

-- one that passes and stands once
minus-one : (q : ℕ) (keep : ℕ → Bool) (rs : List OwnedQuant) → keep q ≡ true → times q (map (λ (r : OwnedQuant). r.id) rs) ≤ 1 → without (is_quant q) (filter (λ (r : OwnedQuant). keep r.id) rs) ≡ filter (λ (r : OwnedQuant). keep r.id && not (r.id == q)) rs
minus-one q keep [] k t = refl
minus-one q keep (r ∷ rs) k t = elim (cases_Bool (r.id == q)) [
  | inl e ↦ (
      let here : keep r.id ≡ true = subst (λ z. keep z ≡ true) (sym (eqb-true r.id q e)) k in
      let none : times q (map (λ (r : OwnedQuant). r.id) rs) ≤ 0 = (let d : ◌≡◌ {A = ℕ} (cond (r.id == q) 1 0) 1 = ap (λ (z : Bool). cond {A = ℕ} z 1 0) e in omega (arith, t, d)) in
      ap (λ (x : Bool). without (is_quant q) (cond x (r ∷ filter (λ (r : OwnedQuant). keep r.id) rs) (filter (λ (r : OwnedQuant). keep r.id) rs))) here
      ∙ ap (λ (x : Bool). cond x (filter (λ (r : OwnedQuant). keep r.id) rs) (r ∷ without (is_quant q) (filter (λ (r : OwnedQuant). keep r.id) rs))) e
      ∙ filter-same keep (less q keep) rs (λ x i. apart x (absent rs none x i))
      ∙ sym (ap₂ (λ (x y : Bool). cond (x && not y) (r ∷ filter (λ (r : OwnedQuant). keep r.id && not (r.id == q)) rs) (filter (λ (r : OwnedQuant). keep r.id && not (r.id == q)) rs)) here e))
  | inr n ↦ (
      let more = minus-one q keep rs k (omega (arith, t)) in
      elim (keep r.id) as (λ x. without (is_quant q) (cond x (r ∷ filter (λ (r : OwnedQuant). keep r.id) rs) (filter (λ (r : OwnedQuant). keep r.id) rs)) ≡ cond (x && not (r.id == q)) (r ∷ filter (λ (r : OwnedQuant). keep r.id && not (r.id == q)) rs) (filter (λ (r : OwnedQuant). keep r.id && not (r.id == q)) rs)) [
        | true ↦ ap (λ (x : Bool). cond x (filter (λ (r : OwnedQuant). keep r.id) rs) (r ∷ without (is_quant q) (filter (λ (r : OwnedQuant). keep r.id) rs))) n ∙ ap (λ z. r ∷ z) more ∙ sym (ap (λ (x : Bool). cond (not x) (r ∷ filter (λ (r : OwnedQuant). keep r.id && not (r.id == q)) rs) (filter (λ (r : OwnedQuant). keep r.id && not (r.id == q)) rs)) n)
        | false ↦ more
      ])
]
  where
    absent : (rs : List OwnedQuant) → times q (map (λ (r : OwnedQuant). r.id) rs) ≤ 0 → (x : OwnedQuant) → In x rs → (x.id == q) ≡ false
    absent [] l x i = elim i [ ]
    absent (s ∷ rs) l x i = elim i [
      | inl e ↦ elim (cases_Bool (x.id == q)) [
        | inr f ↦ f
        | inl t ↦ absurd (let d : ◌≡◌ {A = ℕ} (cond (s.id == q) 1 0) 1 = ap (λ (z : Bool). cond {A = ℕ} z 1 0) (subst (λ (z : OwnedQuant). (z.id == q) ≡ true) (sym e) t) in let z : ⊥ = omega (arith, l, d) in z)
      ]
      | inr j ↦ absent rs (omega (arith, l)) x j
    ]

    apart : (x : OwnedQuant) → (x.id == q) ≡ false → keep x.id ≡ (keep x.id && not (x.id == q))
    apart x n = elim (keep x.id) as (λ t. t ≡ (t && not (x.id == q))) [ true ↦ sym (ap not n) | false ↦ refl ]

module _ (bs : List Node) (root : ℕ) (w : Sound bs root) (b : Node) (in-b : In b bs) where
  abbrev f : (ℕ → Bool) → Node → Node
  f keep = at b.id (with_those keep)

  pub few : (q : ℕ) → times q (map (λ (r : OwnedQuant). r.id) b.quants) ≤ 1
  few q = few-ids bs b q (w.once q) in-b

  own-less : (q : ℕ) (keep : ℕ → Bool) (rs : List OwnedQuant) → list_any (is_quant q) (filter (λ (r : OwnedQuant). keep r.id) rs) ≡ true → list_any (is_quant q) rs ≡ true
  own-less q keep [] t = t
  own-less q keep (r ∷ rs) t = elim (cases_Bool (r.id == q)) [
    | inl e ↦ ap (λ (x : Bool). x || list_any (is_quant q) rs) e
    | inr n ↦ ap (λ (x : Bool). x || list_any (is_quant q) rs) n ∙ own-less q keep rs (skip (keep r.id) t n)
  ]
    where
      skip : (x : Bool) → list_any (is_quant q) (cond x (r ∷ filter (λ (r : OwnedQuant). keep r.id) rs) (filter (λ (r : OwnedQuant). keep r.id) rs)) ≡ true → (r.id == q) ≡ false → list_any (is_quant q) (filter (λ (r : OwnedQuant). keep r.id) rs) ≡ true
      skip true t n = sym (ap (λ (x : Bool). x || list_any (is_quant q) (filter (λ (r : OwnedQuant). keep r.id) rs)) n) ∙ t
      skip false t n = t

  own-kept : (q : ℕ) (keep : ℕ → Bool) → keep q ≡ true → (rs : List OwnedQuant) → list_any (is_quant q) rs ≡ true → list_any (is_quant q) (filter (λ (r : OwnedQuant). keep r.id) rs) ≡ true
  own-kept q keep k rs t = (let x = any-in (is_quant q) rs t in any-from (is_quant q) x.0 (filter (λ (r : OwnedQuant). keep r.id) rs) (kept rs x.0 x.1.0 (subst (λ z. keep z ≡ true) (sym (eqb-true x.0.id q x.1.1)) k)) x.1.1)
    where
      kept : (rs : List OwnedQuant) (x : OwnedQuant) → In x rs → keep x.id ≡ true → In x (filter (λ (r : OwnedQuant). keep r.id) rs)
      kept [] x i k = elim i [ ]
      kept (r ∷ rs) x i k = elim (cases_Bool (keep r.id)) [
        | inl y ↦ subst (λ (z : Bool). In x (cond z (r ∷ filter (λ (r : OwnedQuant). keep r.id) rs) (filter (λ (r : OwnedQuant). keep r.id) rs))) (sym y) (elim i [ inl e ↦ inl e | inr j ↦ inr (kept rs x j k) ])
        | inr n ↦ subst (λ (z : Bool). In x (cond z (r ∷ filter (λ (r : OwnedQuant). keep r.id) rs) (filter (λ (r : OwnedQuant). keep r.id) rs))) (sym n) (elim i [ inl e ↦ absurd (clash (keep x.id) k (subst (λ (z : OwnedQuant). keep z.id ≡ false) e n)) | inr j ↦ kept rs x j k ])
      ]

  at-b : (keep : ℕ → Bool) → f keep b ≡ with_those keep b
  at-b keep = ap (λ (t : Bool). cond t (with_those keep b) b) (eq-itself b.id)

  step : (q : ℕ) (keep : ℕ → Bool) → keep q ≡ true → owns q b ≡ true → change (owns q) (without_quant q) (map (f keep) bs) ≡ map (f (less q keep)) bs
  step q keep k own =
      owner-at q (with_those keep b) (without_quant q) (map (f keep) bs) (once-map (f keep) (λ y. at-all b.id (with_those keep) (λ z. z.id) (λ z. refl) y) bs (once-each bs w.ordered))
      (subst (λ z. In z (map (f keep) bs)) (at-b keep) (map-in (f keep) b bs in-b)) (own-kept q keep k b.quants own)
      (λ y i o. (
      let z = in-map (f keep) y bs i in
      let was : owns q z.0 ≡ true = owned z.0 (subst (λ (x : Node). owns q x ≡ true) (sym z.1.1) o) in
      sym z.1.1 ∙ ap (f keep) (one-owner bs root w q z.0 b z.1.0 in-b was own) ∙ at-b keep))
      ∙ each bs (λ y i. i)
    where
      owned : (y : Node) → owns q (f keep y) ≡ true → owns q y ≡ true
      owned y t = elim (y.id == b.id) as (λ (x : Bool). owns q (cond x (with_those keep y) y) ≡ true → owns q y ≡ true) [ true ↦ λ t. own-less q keep y.quants t | false ↦ λ t. t ] t

      each : (ns : List Node) → ((y : Node) → In y ns → In y bs) → map (at b.id (without_quant q)) (map (f keep) ns) ≡ map (f (less q keep)) ns
      each [] sub = refl
      each (y ∷ ns) sub = ap₂ (λ (z : Node) (zs : List Node). z ∷ zs) (elim (cases_Bool (y.id == b.id)) [
        | inr n ↦ (
            let same : f keep y ≡ y = ap (λ (t : Bool). cond t (with_those keep y) y) n in
            ap (at b.id (without_quant q)) same ∙ ap (λ (t : Bool). cond t (without_quant q y) y) n ∙ sym (ap (λ (t : Bool). cond t (with_those (less q keep) y) y) n))
        | inl t ↦ (
            let s : y ≡ b = same-box bs y b w.ordered (sub y (inl refl)) in-b (eqb-true y.id b.id t) in
            ap (λ (z : Node). at b.id (without_quant q) (f keep z)) s ∙ ap (at b.id (without_quant q)) (at-b keep)
            ∙ ap (λ (t : Bool). cond t (without_quant q (with_those keep b)) (with_those keep b)) (eq-itself b.id)
            ∙ ap (λ (rs : List OwnedQuant). record b { quants = rs }) (minus-one q keep b.quants k (few q))
            ∙ sym (at-b (less q keep)) ∙ ap (f (less q keep)) (sym s))
      ]) (each ns (λ x i. sub x (inr i)))

  all-steps : (g : QueryGraph) → (qs : List ℕ) (keep : ℕ → Bool) → ((q : ℕ) → In q qs → (keep q ≡ true) × (owns q b ≡ true)) → Apart qs → dropped_all qs (on_boxes (λ _. map (f keep) bs) g) ≡ on_boxes (λ _. map (f (left qs keep)) bs) g
  all-steps g [] keep h a = refl
  all-steps g (q ∷ qs) keep h a =
      let x = h q (inl refl) in
      ap (λ (boxes : List Node). dropped_all qs (on_boxes (λ _. boxes) g)) (step q keep x.0 x.1)
      ∙ all-steps g qs (less q keep) (λ p i. (let y = h p (inr i) in (and_from (keep p) (not (p == q)) y.0 (ap not (a.0 p i)), y.1))) a.1

  unchanged : (ns : List Node) → ((y : Node) → In y ns → In y bs) → map (f (λ _. true)) ns ≡ ns
  unchanged ns sub = map-same (f (λ _. true)) ns (λ y i. elim (y.id == b.id) as (λ (t : Bool). cond t (with_those (λ _. true) y) y ≡ y) [
    | true ↦ ap (λ (rs : List OwnedQuant). record y { quants = rs }) (all-pass (λ _. true) y.quants (λ r i. refl))
    | false ↦ refl
  ])

  -- the others of a box
  pub without-one : (g : QueryGraph) → g.boxes ≡ bs → (q : ℕ) → owns q b ≡ true → drop_quant q g ≡ on_boxes (map (at b.id (with_those (others q)))) g
  without-one g e q own =
      ap (λ (boxes : List Node). record g { boxes = change (owns q) (without_quant q) boxes }) (e ∙ sym (unchanged bs (λ y i. i)))
      ∙ ap (λ (boxes : List Node). record g { boxes = boxes }) (step q (λ _. true) refl own)
      ∙ ap (λ (boxes : List Node). record g { boxes = map (f (others q)) boxes }) (sym e)

  -- ---- N1's list

  same-quant : (r s : OwnedQuant) → In r b.quants → In s b.quants → r.id ≡ s.id → r ≡ s
  same-quant r s i j e =
      let x : Some r ≡ Some s = sym (first-own r b.quants (few r.id) i) ∙ ap (λ z. first (is_quant z) b.quants) e ∙ first-own s b.quants (few s.id) j in cc

  pub in-unnamed : (q : ℕ) (rs : List OwnedQuant) → In q (unnamed b rs) → (r : OwnedQuant) × (In r rs × ((r.id ≡ q) × ((is_F r.kind ≡ false) × (nodes_in r.id b ≡ false))))
  in-unnamed q [] i = elim i [ ]
  in-unnamed q (r ∷ rs) i = elim (cases_Bool (not (is_F r.kind) && not (nodes_in r.id b))) [
    | inl t ↦ (
        let p = and_parts (not (is_F r.kind)) (not (nodes_in r.id b)) t in
        elim (subst (λ (z : Bool). In q (cond z (r.id ∷ unnamed b rs) (unnamed b rs))) t i) [
          | inl e ↦ (r, (inl refl, (e, (not-true (is_F r.kind) p.0, not-true (nodes_in r.id b) p.1))))
          | inr j ↦ (let x = in-unnamed q rs j in (x.0, (inr x.1.0, x.1.1)))
        ])
    | inr n ↦ (let x = in-unnamed q rs (subst (λ (z : Bool). In q (cond z (r.id ∷ unnamed b rs) (unnamed b rs))) n i) in (x.0, (inr x.1.0, x.1.1)))
  ]

  unnamed-in : (r : OwnedQuant) (rs : List OwnedQuant) → In r rs → is_F r.kind ≡ false → nodes_in r.id b ≡ false → In r.id (unnamed b rs)
  unnamed-in r [] i f n = elim i [ ]
  unnamed-in r (s ∷ rs) i f n = elim i [
    | inl e ↦ subst (λ (z : Bool). In r.id (cond z (s.id ∷ unnamed b rs) (unnamed b rs))) (sym (subst (λ (z : OwnedQuant). (not (is_F z.kind) && not (nodes_in z.id b)) ≡ true) (sym e) (and_from (not (is_F r.kind)) (not (nodes_in r.id b)) (ap not f) (ap not n)))) (inl (ap (λ (z : OwnedQuant). z.id) e))
    | inr j ↦ elim (not (is_F s.kind) && not (nodes_in s.id b)) as (λ (z : Bool). In r.id (cond z (s.id ∷ unnamed b rs) (unnamed b rs))) [ true ↦ inr (unnamed-in r rs j f n) | false ↦ unnamed-in r rs j f n ]
  ]

  pub few-unnamed : (q : ℕ) (rs : List OwnedQuant) → times q (unnamed b rs) ≤ times q (map (λ (r : OwnedQuant). r.id) rs)
  few-unnamed q [] = omega arith
  few-unnamed q (r ∷ rs) = let h = few-unnamed q rs in elim (not (is_F r.kind) && not (nodes_in r.id b)) as (λ (z : Bool). times q (cond z (r.id ∷ unnamed b rs) (unnamed b rs)) ≤ times q (map (λ (r : OwnedQuant). r.id) (r ∷ rs))) [ true ↦ (omega (arith, h)) | false ↦ (omega (arith, h)) ]

  apart-by : (qs : List ℕ) → ((q : ℕ) → times q qs ≤ 1) → Apart qs
  apart-by [] h = tt
  apart-by (q ∷ qs) h = (
    (λ p i. elim (cases_Bool (p == q)) [
      | inr f ↦ f
      | inl t ↦ absurd (let a = h q in let d : ◌≡◌ {A = ℕ} (cond (q == q) 1 0) 1 = ap (λ (z : Bool). cond {A = ℕ} z 1 0) (eq-itself q) in let k = counted q qs (subst (λ z. In z qs) (eqb-true p q t) i) in let z : ⊥ = omega (arith, a, d, k) in z)
    ]),
    apart-by qs (λ p. (let a = h p in omega (arith, a))),
  )
    where
      counted : (q : ℕ) (qs : List ℕ) → In q qs → 1 ≤ times q qs
      counted q [] i = elim i [ ]
      counted q (p ∷ qs) i = elim i [
        | inl e ↦ (let d : ◌≡◌ {A = ℕ} (cond (p == q) 1 0) 1 = ap (λ (z : Bool). cond {A = ℕ} z 1 0) (eq-eqb p q e) in omega (arith, d))
        | inr j ↦ (let k = counted q qs j in omega (arith, k))
      ]

  left-is : (qs : List ℕ) (keep : ℕ → Bool) (x : ℕ) → left qs keep x ≡ (keep x && not (holds x qs))
  left-is [] keep x = elim (keep x) as (λ t. t ≡ (t && true)) [ true ↦ refl | false ↦ refl ]
  left-is (q ∷ qs) keep x = left-is qs (less q keep) x ∙ by (keep x) (x == q) (q == x) (holds x qs) (turned x q)
    where
      by : (k a b h : Bool) → a ≡ b → ((k && not a) && not h) ≡ (k && not (b || h))
      by true true true h e = refl
      by true false false h e = refl
      by true true false h e = absurd (let z : ⊥ = cc in z)
      by true false true h e = absurd (let z : ⊥ = cc in z)
      by false a b h e = refl

      turned : (x q : ℕ) → (x == q) ≡ (q == x)
      turned x q = elim (cases_Bool (x == q)) [
        | inl t ↦ t ∙ sym (eq-eqb q x (sym (eqb-true x q t)))
        | inr f ↦ (elim (cases_Bool (q == x)) [ inl t ↦ absurd (clash (x == q) (eq-eqb x q (sym (eqb-true q x t))) f) | inr g ↦ f ∙ sym g ])
      ]

  pub unnamed-gone : (g : QueryGraph) → g.boxes ≡ bs → dropped_all (unnamed b b.quants) g ≡ on_boxes (map (at b.id (with_those (stays b)))) g
  unnamed-gone g e =
      ap (λ (boxes : List Node). dropped_all (unnamed b b.quants) (record g { boxes = boxes })) (e ∙ sym (unchanged bs (λ y i. i)))
      ∙ all-steps g (unnamed b b.quants) (λ _. true) (λ q i. (refl, (let x = in-unnamed q b.quants i in any-from (is_quant q) x.0 b.quants x.1.0 (eq-eqb x.0.id q x.1.1.0))))
      (apart-by (unnamed b b.quants) (λ q. (let a = few-unnamed q b.quants in let c = few q in omega (arith, a, c))))
      ∙ ap (λ (boxes : List Node). record g { boxes = boxes }) (each bs (λ y i. i))
      ∙ ap (λ (boxes : List Node). record g { boxes = map (f (stays b)) boxes }) (sym e)
    where
      is-stay : (r : OwnedQuant) → In r b.quants → left (unnamed b b.quants) (λ _. true) r.id ≡ stays b r.id
      is-stay r i = left-is (unnamed b b.quants) (λ _. true) r.id ∙ (elim (cases_Bool (holds r.id (unnamed b b.quants))) [
        | inl t ↦ (
            let x = in-unnamed r.id b.quants (holds-in r.id (unnamed b b.quants) t) in
            let same : x.0 ≡ r = same-quant x.0 r x.1.0 i x.1.1.0 in
            let no-f : is_F r.kind ≡ false = subst (λ (z : OwnedQuant). is_F z.kind ≡ false) same x.1.1.1.0 in
            let no-n : nodes_in r.id b ≡ false = subst (λ (z : OwnedQuant). nodes_in z.id b ≡ false) same x.1.1.1.1 in
            ap not t ∙ sym (ap₂ (λ (y z : Bool). y || z) (any-not (λ s. is_F s.kind && is_quant r.id s) b.quants (λ s j. elim (cases_Bool (is_F s.kind && is_quant r.id s)) [
              | inr n ↦ n
              | inl y ↦ absurd (let p = and_parts (is_F s.kind) (s.id == r.id) y in clash (is_F s.kind) p.0 (subst (λ (z : OwnedQuant). is_F z.kind ≡ false) (sym (same-quant s r j i (eqb-true s.id r.id p.1))) no-f))
            ])) no-n))
        | inr n ↦ ap not n ∙ sym (elim (cases_Bool (stays b r.id)) [
          | inl y ↦ y
          | inr z ↦ absurd (
              let o = or_parts (list_any (λ s. is_F s.kind && is_quant r.id s) b.quants) (nodes_in r.id b) z in
              let no-f : is_F r.kind ≡ false = elim (cases_Bool (is_F r.kind)) [ inr f ↦ f | inl t ↦ absurd (clash (list_any (λ s. is_F s.kind && is_quant r.id s) b.quants) (any-from (λ s. is_F s.kind && is_quant r.id s) r b.quants i (and_from (is_F r.kind) (r.id == r.id) t (eq-itself r.id))) o.0) ] in
              clash (holds r.id (unnamed b b.quants)) (in-holds r.id (unnamed b b.quants) (unnamed-in r b.quants i no-f o.1)) n)
        ])
      ])

      each : (ns : List Node) → ((y : Node) → In y ns → In y bs) → map (f (left (unnamed b b.quants) (λ _. true))) ns ≡ map (f (stays b)) ns
      each [] sub = refl
      each (y ∷ ns) sub = ap₂ (λ (z : Node) (zs : List Node). z ∷ zs) (elim (cases_Bool (y.id == b.id)) [
        | inr n ↦ ap (λ (t : Bool). cond t (with_those (left (unnamed b b.quants) (λ _. true)) y) y) n ∙ sym (ap (λ (t : Bool). cond t (with_those (stays b) y) y) n)
        | inl t ↦ (
            let s : y ≡ b = same-box bs y b w.ordered (sub y (inl refl)) in-b (eqb-true y.id b.id t) in
            ap (f (left (unnamed b b.quants) (λ _. true))) s ∙ at-b (left (unnamed b b.quants) (λ _. true))
            ∙ ap (λ (rs : List OwnedQuant). record b { quants = rs }) (filter-same (left (unnamed b b.quants) (λ _. true)) (stays b) b.quants is-stay)
            ∙ sym (at-b (stays b)) ∙ ap (f (stays b)) (sym s))
      ]) (each ns (λ x i. sub x (inr i)))
