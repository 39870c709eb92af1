-- The breadth walk lists exactly the boxes that are reached, each once.
use Rattle.std.proofs.Common.{ℕ, zero, suc, ◌≡◌, ◌==◌, cond, eqb-true, true, false, List, [], ◌∷◌, ◌++◌, length, map, refl, sym, ◌∙◌, ap, subst, Option, Some, None, ◌⊎◌, inl, inr, ◌↔◌}
use Rattle.std.proofs.lemmas.Bool.{or_right}
use Rattle.qgm_core.specs.Boxes.{Ordered, has_box, is_box, quants_in}
use Rattle.qgm_core.specs.Free.{Reaches, itself, through}
use Rattle.list_laws.specs.Lists.{EachOnce, In, first, holds}
use Rattle.qgm_core.specs.Walk.{levels, news, under}
use Rattle.qgm_core.specs.declared.node.Node.{Node}
use Rattle.qgm_core.specs.declared.owned.OwnedQuant.{OwnedQuant}
use Rattle.qgm_core.proofs.Reaching.{in-has, overs-held}
use Rattle.qgm_wellformed.proofs.DepthWalk.{follow}
use Rattle.list_laws.proofs.Booleans.{clash}
use Rattle.list_laws.proofs.Membership.{all-in, eq-itself, flat-in, holds-in, in-append, in-flat, in-left, in-map, in-right, map-in}
use Rattle.list_laws.proofs.Counting.{absent, gone, once-append}

-- ---- what is new

news-in : (seen cs : List ℕ) (x : ℕ) → In x (news seen cs) → In x cs
news-in seen [] x = λ i. i
news-in seen (c ∷ cs) x = elim (holds c seen) as (λ v. In x (cond v (news seen cs) (c ∷ news (seen ++ c ∷ []) cs)) → (c ≡ x) ⊎ In x cs) [
  | true ↦ λ i. inr (news-in seen cs x i)
  | false ↦ λ i. elim i [ inl e ↦ inl e | inr j ↦ inr (news-in (seen ++ c ∷ []) cs x j) ]
]

news-new : (seen cs : List ℕ) (x : ℕ) → In x (news seen cs) → In x seen → ⊥
news-new seen [] x = λ i. elim i [ ]
news-new seen (c ∷ cs) x = elim (holds c seen) as (λ v. holds c seen ≡ v → In x (cond v (news seen cs) (c ∷ news (seen ++ c ∷ []) cs)) → In x seen → ⊥) [
  | true ↦ λ e i. news-new seen cs x i
  | false ↦ λ e i j. elim i [ inl p ↦ gone c seen e (subst (λ z. In z seen) (sym p) j) | inr k ↦ news-new (seen ++ c ∷ []) cs x k (in-left x seen (c ∷ []) j) ]
] refl

news-once : (seen cs : List ℕ) → EachOnce (news seen cs)
news-once seen [] = tt
news-once seen (c ∷ cs) = elim (holds c seen) as (λ v. EachOnce (cond v (news seen cs) (c ∷ news (seen ++ c ∷ []) cs))) [
  | true ↦ news-once seen cs
  | false ↦ (absent c (news (seen ++ c ∷ []) cs) (λ i. news-new (seen ++ c ∷ []) cs c i (in-right c seen (c ∷ []) (inl refl))), news-once (seen ++ c ∷ []) cs)
]

news-has : (seen cs : List ℕ) (x : ℕ) → In x cs → In x seen ⊎ In x (news seen cs)
news-has seen [] x i = elim i [ ]
news-has seen (c ∷ cs) x i = elim (holds c seen) as (λ v. holds c seen ≡ v → In x seen ⊎ In x (cond v (news seen cs) (c ∷ news (seen ++ c ∷ []) cs))) [
  | true ↦ λ e. elim i [ inl p ↦ inl (subst (λ z. In z seen) p (holds-in c seen e)) | inr j ↦ news-has seen cs x j ]
  | false ↦ λ e. elim i [
    | inl p ↦ inr (inl p)
    | inr j ↦ elim (news-has (seen ++ c ∷ []) cs x j) [
      | inl k ↦ elim (in-append x seen (c ∷ []) k) [ inl l ↦ inl l | inr l ↦ elim l [ inl p ↦ inr (inl p) | inr z ↦ elim z [ ] ] ]
      | inr k ↦ inr (inr k)
    ]
  ]
] refl

-- ---- the first box of a number

first-in : (b : ℕ) (ns : List Node) (n : Node) → first (is_box b) ns ≡ Some n → In n ns × (n.id ≡ b)
first-in b [] n = λ e. absurd (let q : ⊥ = cc in q)
first-in b (m ∷ ns) n = elim (m.id == b) as (λ v. (m.id == b) ≡ v → cond v (Some m) (first (is_box b) ns) ≡ Some n → ((m ≡ n) ⊎ In n ns) × (n.id ≡ b)) [
  | true ↦ λ v e. let p : m ≡ n = cc in (inl p, subst (λ (z : Node). z.id ≡ b) p (eqb-true m.id b v))
  | false ↦ λ v e. let r = first-in b ns n e in (inr r.0, r.1)
] refl

first-self : (ns : List Node) → Ordered ns → (m : Node) → In m ns → first (is_box m.id) ns ≡ Some m
first-self [] o m i = elim i [ ]
first-self (n ∷ ns) o m i = elim (n.id == m.id) as (λ v. (n.id == m.id) ≡ v → cond v (Some n) (first (is_box m.id) ns) ≡ Some m) [
  | true ↦ λ e. elim i [ inl p ↦ ap (λ z. Some z) p | inr j ↦ absurd (clash (has_box ns n.id) (subst (λ z. has_box ns z ≡ true) (sym (eqb-true n.id m.id e)) (in-has m ns j)) o.0) ]
  | false ↦ λ e. elim i [ inl p ↦ absurd (clash (n.id == m.id) (subst (λ (z : Node). (n.id == z.id) ≡ true) p (eq-itself n.id)) e) | inr j ↦ first-self ns o.2 m j ]
] refl

-- a quantifier of the box of this number
over-of : (o : Option Node) (x : ℕ) → In x (map (λ r. r.over) (quants_in o)) → (n : Node) × ((o ≡ Some n) × ((r : OwnedQuant) × (In r n.quants × (r.over ≡ x))))
over-of None x i = elim i [ ]
over-of (Some n) x i = (n, (refl, in-map (λ (r : OwnedQuant). r.over) x n.quants i))

module _ (bs : List Node) where
  under-from : (cs : List ℕ) (x : ℕ) → In x (under bs cs) → (c : ℕ) × (In c cs × ((n : Node) × ((first (is_box c) bs ≡ Some n) × ((r : OwnedQuant) × (In r n.quants × (r.over ≡ x))))))
  under-from cs x i = let f = in-flat (λ b. map (λ r. r.over) (quants_in (first (is_box b) bs))) x cs i in (f.0, (f.1.0, over-of (first (is_box f.0) bs) x f.1.1))

  to-under : Ordered bs → (cs : List ℕ) (m : Node) (r : OwnedQuant) → In m bs → In r m.quants → In m.id cs → In r.over (under bs cs)
  to-under o cs m r i j k =
      flat-in (λ b. map (λ r. r.over) (quants_in (first (is_box b) bs))) m.id r.over cs k
      (subst (λ z. In r.over (map (λ r. r.over) (quants_in z))) (sym (first-self bs o m i)) (map-in (λ (r : OwnedQuant). r.over) r m.quants j))

  -- ---- what is listed is reached

  onward : (b c d : ℕ) → Reaches bs b c → Reaches bs c d → Reaches bs b d
  onward b c d (itself x) k = k
  onward b c d (through n r x i j h) k = through n r d i j (onward r.over x d h k)

  levels-from : (b m : ℕ) (now seen : List ℕ) → ((x : ℕ) → In x now → Reaches bs b x) → ((x : ℕ) → In x seen → Reaches bs b x) → (x : ℕ) → In x (levels m bs now seen) → Reaches bs b x
  levels-from b zero now seen h k x i = k x i
  levels-from b (suc m) now seen h k x i =
      levels-from b m (news seen (under bs now)) (seen ++ news seen (under bs now)) next (λ x j. elim (in-append x seen (news seen (under bs now)) j) [ inl l ↦ k x l | inr l ↦ next x l ]) x i
    where
      next : (x : ℕ) → In x (news seen (under bs now)) → Reaches bs b x
      next x j =
          let u = under-from now x (news-in seen (under bs now) x j) in
          let n = u.1.1.0 in
          let r = u.1.1.1.1.0 in
          let f = first-in u.0 bs n u.1.1.1.0 in
          onward b u.0 x (h u.0 u.1.0) (subst (λ z. Reaches bs u.0 z) u.1.1.1.1.1.1 (subst (λ z. Reaches bs z r.over) f.1 (through n r r.over f.0 u.1.1.1.1.1.0 (itself r.over))))

  -- ---- what is reached is listed

  levels-grow : (m : ℕ) (now seen : List ℕ) (x : ℕ) → In x seen → In x (levels m bs now seen)
  levels-grow zero now seen x i = i
  levels-grow (suc m) now seen x i = levels-grow m (news seen (under bs now)) (seen ++ news seen (under bs now)) x (in-left x seen (news seen (under bs now)) i)

  -- the box of a number of these is found among these
  Behind : List Node → Type 0
  Behind ns = (b : ℕ) → has_box ns b ≡ true → first (is_box b) bs ≡ first (is_box b) ns

  behind : (n : Node) (ns : List Node) → Ordered (n ∷ ns) → Behind (n ∷ ns) → Behind ns
  unfolding Behind
  behind n ns o h b t =
      elim (n.id == b) as (λ v. (n.id == b) ≡ v → first (is_box b) bs ≡ cond v (Some n) (first (is_box b) ns) → first (is_box b) bs ≡ first (is_box b) ns) [
        | true ↦ λ e p. absurd (clash (has_box ns n.id) (subst (λ z. has_box ns z ≡ true) (sym (eqb-true n.id b e)) t) o.0)
        | false ↦ λ e p. p
      ] refl (h b (or_right (n.id == b) (has_box ns b) t))

  -- what is under a box of a list in order stands behind the first
  lower : (n : Node) (ns : List Node) → Ordered (n ∷ ns) → (m : Node) (r : OwnedQuant) → In m (n ∷ ns) → In r m.quants → has_box ns r.over ≡ true
  lower n ns o m r i j = elim i [
    | inl p ↦ all-in (λ r. has_box ns r.over) r n.quants o.1 (subst (λ (z : Node). In r z.quants) (sym p) j)
    | inr k ↦ overs-held ns m r o.2 k j
  ]

  -- what is under a box that was seen was seen, but for those of the last level
  Nearly : List ℕ → List ℕ → Type 0
  Nearly now seen = (m : Node) (r : OwnedQuant) → In m bs → In r m.quants → In m.id seen → In m.id now ⊎ In r.over seen

  Full : List ℕ → Type 0
  Full seen = (m : Node) (r : OwnedQuant) → In m bs → In r m.quants → In m.id seen → In r.over seen

  levels-full : Ordered bs → (ns : List Node) → Ordered ns → Behind ns → (now seen : List ℕ) → ((x : ℕ) → In x now → has_box ns x ≡ true) → Nearly now seen → Full (levels (length ns) bs now seen)
  unfolding Behind Nearly Full
  levels-full w [] o s now seen h k = λ m r i j l. elim (k m r i j l) [ inl z ↦ absurd (let q = h m.id z in let z : ⊥ = cc in z) | inr z ↦ z ]
  levels-full w (n ∷ ns) o s now seen h k =
      levels-full w ns o.2 (behind n ns o s) (news seen (under bs now)) (seen ++ news seen (under bs now)) down nearly
    where
      down : (x : ℕ) → In x (news seen (under bs now)) → has_box ns x ≡ true
      down x i =
          let u = under-from now x (news-in seen (under bs now) x i) in
          let f = first-in u.0 (n ∷ ns) u.1.1.0 (sym (s u.0 (h u.0 u.1.0)) ∙ u.1.1.1.0) in
          subst (λ z. has_box ns z ≡ true) u.1.1.1.1.1.1 (lower n ns o u.1.1.0 u.1.1.1.1.0 f.0 u.1.1.1.1.1.0)

      nearly : Nearly (news seen (under bs now)) (seen ++ news seen (under bs now))
      nearly m r i j l = elim (in-append m.id seen (news seen (under bs now)) l) [
        | inr z ↦ inl z
        | inl z ↦ inr (elim (k m r i j z) [
          | inr t ↦ in-left r.over seen (news seen (under bs now)) t
          | inl t ↦ elim (news-has seen (under bs now) r.over (to-under w now m r i j t)) [ inl y ↦ in-left r.over seen (news seen (under bs now)) y | inr y ↦ in-right r.over seen (news seen (under bs now)) y ]
        ])
      ]

  one : (b x : ℕ) → In x (b ∷ []) → b ≡ x
  one b x i = elim i [ inl e ↦ e | inr z ↦ elim z [ ] ]

  pub breadth-reached : Ordered bs → (b : ℕ) → has_box bs b ≡ true → (x : ℕ) → In x (levels (length bs) bs (b ∷ []) (b ∷ [])) ↔ Reaches bs b x
  unfolding Behind Nearly Full
  breadth-reached o b h x = (
    λ i. levels-from b (length bs) (b ∷ []) (b ∷ []) (λ y j. subst (λ z. Reaches bs b z) (one b y j) (itself b)) (λ y j. subst (λ z. Reaches bs b z) (one b y j) (itself b)) x i,
    λ t. follow bs (levels (length bs) bs (b ∷ []) (b ∷ []))
        (levels-full o bs o (λ c t. refl) (b ∷ []) (b ∷ []) (λ y j. subst (λ z. has_box bs z ≡ true) (one b y j) h) (λ m r i j k. inl k)) b x t
        (levels-grow (length bs) (b ∷ []) (b ∷ []) b (inl refl)),
  )

pub levels-once : (m : ℕ) (bs : List Node) (now seen : List ℕ) → EachOnce seen → EachOnce (levels m bs now seen)
levels-once zero bs now seen o = o
levels-once (suc m) bs now seen o =
    levels-once m bs (news seen (under bs now)) (seen ++ news seen (under bs now)) (once-append seen (news seen (under bs now)) o (news-once seen (under bs now)) (λ y i j. news-new seen (under bs now) y j i))
