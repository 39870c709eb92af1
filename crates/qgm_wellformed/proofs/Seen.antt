-- The boxes that the pass finds to see a quantifier are those that see it.
use Rattle.std.proofs.Common.{ℕ, ◌≡◌, ◌&&◌, ◌||◌, cond, Bool, true, false, List, [], ◌∷◌, ◌++◌, refl, sym, ap, subst, ◌∙◌, ◌⊎◌, inl, inr, ◌↔◌}
use Rattle.std.proofs.lemmas.Bool.{cases_Bool, or_cases, or_left, or_right}
use Rattle.qgm_core.specs.Boxes.{Ordered, has_box, is_quant, overs_of, owns}
use Rattle.qgm_core.specs.Kinds.{is_F, is_select}
use Rattle.list_laws.specs.Lists.{In, holds}
use Rattle.qgm_core.specs.declared.node.Node.{Node}
use Rattle.qgm_core.specs.declared.owned.OwnedQuant.{OwnedQuant}
use Rattle.qgm_wellformed.specs.View.{InView, Sees, Shows, in_view, is_row, scoped, seen, shown, shown_by, viewers}
use Rattle.qgm_core.proofs.Reaching.{overs-held}
use Rattle.list_laws.proofs.Booleans.{clash, or-assoc, or-false}
use Rattle.list_laws.proofs.Membership.{all-in, append-one, holds-in, in-append, in-holds, in-left, in-map, in-right, map-in}

-- ---- quantifiers of one box

row-more : (q : ℕ) (rs : List OwnedQuant) (r : OwnedQuant) → is_row q (rs ++ r ∷ []) ≡ (is_row q rs || (is_quant q r && is_F r.kind))
row-more q [] r = or-false (is_quant q r && is_F r.kind)
row-more q (s ∷ rs) r = ap (λ (b : Bool). (is_quant q s && is_F s.kind) || b) (row-more q rs r) ∙ sym (or-assoc (is_quant q s && is_F s.kind) (is_row q rs) (is_quant q r && is_F r.kind))

row-if : (q : ℕ) (t : Bool) (rs ss : List OwnedQuant) → cond t (is_row q rs) (is_row q ss) ≡ is_row q (cond t rs ss)
row-if q true rs ss = refl
row-if q false rs ss = refl

in-if : (b c : ℕ) (t : Bool) → In b (cond t (c ∷ []) []) → (c ≡ b) × (t ≡ true)
in-if b c true i = elim i [ inl e ↦ (e, refl) | inr z ↦ elim z [ ] ]
in-if b c false i = elim i [ ]

if-in : (c : ℕ) (t : Bool) → t ≡ true → In c (cond t (c ∷ []) [])
if-in c true e = inl refl
if-in c false e = absurd (let z : ⊥ = cc in z)

-- a quantifier of `done ++ rest` under which q is shown to b
abbrev Scoped : ℕ → ℕ → Bool → List OwnedQuant → Type 0
Scoped q b own rs = (r : OwnedQuant) × ((before : List OwnedQuant) × ((after : List OwnedQuant) × ((rs ≡ before ++ r ∷ after) × ((r.over ≡ b) × (cond (is_F r.kind) (is_row q before) own ≡ true)))))

scoped-is : (q b : ℕ) (own : Bool) (done rest : List OwnedQuant) → In b (scoped q own (is_row q done) rest) → Scoped q b own (done ++ rest)
scoped-is q b own done [] i = elim i [ ]
scoped-is q b own done (s ∷ rest) i =
    elim (in-append b (cond (cond (is_F s.kind) (is_row q done) own) (s.over ∷ []) []) (scoped q own (is_row q done || (is_quant q s && is_F s.kind)) rest) i) [
      | inl a ↦ (let e = in-if b s.over (cond (is_F s.kind) (is_row q done) own) a in (s, (done, (rest, (refl, (e.0, e.1))))))
      | inr c ↦ (
          let x = scoped-is q b own (done ++ s ∷ []) rest (subst (λ t. In b (scoped q own t rest)) (sym (row-more q done s)) c) in
          (x.0, (x.1.0, (x.1.1.0, (sym (append-one done s rest) ∙ x.1.1.1.0, x.1.1.1.1)))))
    ]

is-scoped : (q : ℕ) (own : Bool) (done before : List OwnedQuant) (r : OwnedQuant) (after : List OwnedQuant) → cond (is_F r.kind) (is_row q (done ++ before)) own ≡ true → In r.over (scoped q own (is_row q done) (before ++ r ∷ after))
is-scoped q own done [] r after h =
    in-left r.over (cond (cond (is_F r.kind) (is_row q done) own) (r.over ∷ []) []) (scoped q own (is_row q done || (is_quant q r && is_F r.kind)) after)
    (if-in r.over (cond (is_F r.kind) (is_row q done) own) (subst (λ rs. cond (is_F r.kind) (is_row q rs) own ≡ true) (none done) h))
  where
    none : (rs : List OwnedQuant) → rs ++ [] ≡ rs
    none [] = refl
    none (s ∷ rs) = ap (λ t. s ∷ t) (none rs)
is-scoped q own done (s ∷ before) r after h =
    in-right r.over (cond (cond (is_F s.kind) (is_row q done) own) (s.over ∷ []) []) (scoped q own (is_row q done || (is_quant q s && is_F s.kind)) (before ++ r ∷ after))
    (subst (λ t. In r.over (scoped q own t (before ++ r ∷ after))) (row-more q done s) (is-scoped q own (done ++ s ∷ []) before r after (subst (λ rs. cond (is_F r.kind) (is_row q rs) own ≡ true) (sym (append-one done s before)) h)))

-- ---- one box

-- b sees q by box n, which is marked or shows it
abbrev By : ℕ → List ℕ → Node → ℕ → Type 0
By q marks n b = (r : OwnedQuant) × (In r n.quants × ((r.over ≡ b) × ((holds n.id marks ≡ true) ⊎ Shows n r q)))

by-shown : (q : ℕ) (marks : List ℕ) (n : Node) (b : ℕ) → In b (shown_by q marks n) → By q marks n b
by-shown q marks n b i = elim (cases_Bool (holds n.id marks)) [
  | inl t ↦ (
      let x = in-map (λ (r : OwnedQuant). r.over) b n.quants (subst (λ (u : Bool). In b (cond u (overs_of n) (cond (is_select n.parts.kind) (scoped q (is_row q n.quants) false n.quants) []))) t i) in
      (x.0, (x.1.0, (x.1.1, inl t))))
  | inr f ↦ other (subst (λ (u : Bool). In b (cond u (overs_of n) (cond (is_select n.parts.kind) (scoped q (is_row q n.quants) false n.quants) []))) f i)
]
  where
    given : is_select n.parts.kind ≡ true → Scoped q b (is_row q n.quants) n.quants → By q marks n b
    given k x = (
      x.0,
      (
        subst (λ rs. In x.0 rs) (sym x.1.1.1.0) (in-right x.0 x.1.0 (x.0 ∷ x.1.1.0) (inl refl)),
        (x.1.1.1.1.0, inr (k, (x.1.0, (x.1.1.0, (x.1.1.1.0, sym (row-if q (is_F x.0.kind) x.1.0 n.quants) ∙ x.1.1.1.1.1))))),
      ),
    )

    other : In b (cond (is_select n.parts.kind) (scoped q (is_row q n.quants) false n.quants) []) → By q marks n b
    other i = elim (cases_Bool (is_select n.parts.kind)) [
      | inl k ↦ given k (scoped-is q b (is_row q n.quants) [] n.quants (subst (λ (u : Bool). In b (cond u (scoped q (is_row q n.quants) false n.quants) [])) k i))
      | inr f ↦ elim (subst (λ (u : Bool). In b (cond u (scoped q (is_row q n.quants) false n.quants) [])) f i) [ ]
    ]

shown-all : (q : ℕ) (marks : List ℕ) (n : Node) (r : OwnedQuant) → In r n.quants → holds n.id marks ≡ true → In r.over (shown_by q marks n)
shown-all q marks n r j t = subst (λ (u : Bool). In r.over (cond u (overs_of n) (cond (is_select n.parts.kind) (scoped q (is_row q n.quants) false n.quants) []))) (sym t) (map-in (λ (r : OwnedQuant). r.over) r n.quants j)

shown-some : (q : ℕ) (marks : List ℕ) (n : Node) (r : OwnedQuant) → In r n.quants → Shows n r q → In r.over (shown_by q marks n)
shown-some q marks n r j s = elim (cases_Bool (holds n.id marks)) [
  | inl t ↦ shown-all q marks n r j t
  | inr f ↦ subst (λ (u : Bool). In r.over (cond u (overs_of n) (cond (is_select n.parts.kind) (scoped q (is_row q n.quants) false n.quants) []))) (sym f)
      (subst (λ (u : Bool). In r.over (cond u (scoped q (is_row q n.quants) false n.quants) [])) (sym s.0)
      (subst (λ rs. In r.over (scoped q (is_row q n.quants) false rs)) (sym s.1.1.1.0)
      (is-scoped q (is_row q n.quants) [] s.1.0 r s.1.1.0 (row-if q (is_F r.kind) s.1.0 n.quants ∙ s.1.1.1.1))))
]

-- ---- the pass

v-stays : (q b : ℕ) (marks : List ℕ) (ns : List Node) → In b marks → In b (viewers q marks ns)
v-stays q b marks [] i = i
v-stays q b marks (n ∷ ns) i = v-stays q b (marks ++ shown_by q marks n) ns (in-left b marks (shown_by q marks n) i)

-- who sees q stands under a box
v-come : (q b : ℕ) (marks : List ℕ) (ns : List Node) → In b (viewers q marks ns) → In b marks ⊎ ((n : Node) × (In n ns × ((r : OwnedQuant) × (In r n.quants × (r.over ≡ b)))))
v-come q b marks [] i = inl i
v-come q b marks (n ∷ ns) i = elim (v-come q b (marks ++ shown_by q marks n) ns i) [
  | inr x ↦ inr (x.0, (inr x.1.0, x.1.1))
  | inl a ↦ elim (in-append b marks (shown_by q marks n) a) [
    | inl c ↦ inl c
    | inr c ↦ (let x = by-shown q marks n b c in inr (n, (inl refl, (x.0, (x.1.0, x.1.1.0)))))
  ]
]

-- what sees q, or shows it, shows it as it should
v-closes : (q : ℕ) (marks : List ℕ) (ns : List Node) → Ordered ns → (n : Node) (r : OwnedQuant) → In n ns → In r n.quants → In n.id (viewers q marks ns) ⊎ Shows n r q → In r.over (viewers q marks ns)
v-closes q marks [] o n r i j k = elim i [ ]
v-closes q marks (m ∷ ns) o n r i j k = elim i [
  | inr l ↦ v-closes q (marks ++ shown_by q marks m) ns o.2 n r l j k
  | inl e ↦ v-stays q r.over (marks ++ shown_by q marks m) ns (in-right r.over marks (shown_by q marks m)
      (at (subst (λ (z : Node). In r z.quants) (sym e) j) (subst (λ (z : Node). In z.id (viewers q (marks ++ shown_by q marks m) ns) ⊎ Shows z r q) (sym e) k)))
]
  where
    -- no box is behind itself
    behind : has_box ns m.id ≡ true → ⊥
    behind h = clash (has_box ns m.id) h o.0

    at : In r m.quants → In m.id (viewers q (marks ++ shown_by q marks m) ns) ⊎ Shows m r q → In r.over (shown_by q marks m)
    at u k = elim k [
      | inr s ↦ shown-some q marks m r u s
      | inl v ↦ elim (v-come q m.id (marks ++ shown_by q marks m) ns v) [
        | inr x ↦ absurd (behind (subst (λ z. has_box ns z ≡ true) x.1.1.1.1 (overs-held ns x.0 x.1.1.0 o.2 x.1.0 x.1.1.1.0)))
        | inl a ↦ elim (in-append m.id marks (shown_by q marks m) a) [
          | inl c ↦ shown-all q marks m r u (in-holds m.id marks c)
          | inr c ↦ (let x = by-shown q marks m m.id c in absurd (behind (subst (λ z. has_box ns z ≡ true) x.1.1.0 (all-in (λ r. has_box ns r.over) x.0 m.quants o.1 x.1.0))))
        ]
      ]
    ]

module _ (bs : List Node) where
  marks-see : (q : ℕ) (marks : List ℕ) (ns : List Node) → ((m : ℕ) → In m marks → Sees bs m q) → ((n : Node) → In n ns → In n bs) → (b : ℕ) → In b (viewers q marks ns) → Sees bs b q
  marks-see q marks [] h sub b i = h b i
  marks-see q marks (n ∷ ns) h sub b i = marks-see q (marks ++ shown_by q marks n) ns (λ m j. elim (in-append m marks (shown_by q marks n) j) [ inl a ↦ h m a | inr c ↦ step m (by-shown q marks n m c) ]) (λ m j. sub m (inr j)) b i
    where
      step : (m : ℕ) → By q marks n m → Sees bs m q
      step m x = subst (λ z. Sees bs z q) x.1.1.0 (elim x.1.1.1 [
        | inl t ↦ seen n x.0 q (sub n (inl refl)) x.1.0 (h n.id (holds-in n.id marks t))
        | inr s ↦ shown n x.0 q (sub n (inl refl)) x.1.0 s
      ])

  sees-held : Ordered bs → (b q : ℕ) → Sees bs b q → In b (viewers q [] bs)
  sees-held o b q (shown n r p i j s) = v-closes p [] bs o n r i j (inr s)
  sees-held o b q (seen n r p i j h) = v-closes p [] bs o n r i j (inl (sees-held o n.id p h))

  pub viewers-see : Ordered bs → (b q : ℕ) → (holds b (viewers q [] bs) ≡ true) ↔ Sees bs b q
  viewers-see o b q = (
    λ h. marks-see q [] bs (λ m i. elim i [ ]) (λ n i. i) b (holds-in b (viewers q [] bs) h),
    λ s. in-holds b (viewers q [] bs) (sees-held o b q s),
  )

  pub view-is : Ordered bs → (n : Node) (q : ℕ) → (in_view bs n q ≡ true) ↔ InView bs n q
  view-is o n q = (
    λ h. elim (or_cases (owns q n) (holds n.id (viewers q [] bs)) h) [ inl t ↦ inl t | inr v ↦ inr ((viewers-see o n.id q).0 v) ],
    λ v. elim v [ inl t ↦ or_left (owns q n) (holds n.id (viewers q [] bs)) t | inr s ↦ or_right (owns q n) (holds n.id (viewers q [] bs)) ((viewers-see o n.id q).1 s) ],
  )
