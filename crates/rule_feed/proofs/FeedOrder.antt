-- The boxes after feeding stand in order.
use Rattle.std.proofs.Common.{ℕ, ◌==◌, ◌≡◌, true, false, List, [], ◌∷◌, ◌++◌, map, refl, sym, ap, subst, ◌∙◌, eqb-true, ◌⊎◌, inl, inr}
use Rattle.std.proofs.lemmas.Bool.{cases_Bool}
use Rattle.row_bag.specs.Sets.{same_cells}
use Rattle.row_bag.proofs.Counts.{agree-from_alike}
use Rattle.qgm_core.specs.Boxes.{Ordered, has_box, is_box}
use Rattle.list_laws.specs.Lists.{In}
use Rattle.qgm_core.specs.declared.node.Node.{Node}
use Rattle.qgm_core.specs.declared.owned.OwnedQuant.{OwnedQuant}
use Rattle.qgm_meaning.proofs.Satisfying as satisfying
use Rattle.qgm_edit_laws.specs.Graph.{Sound}
use Rattle.qgm_edit_laws.proofs.Interposed.{turned-in}
use Rattle.qgm_edit_laws.proofs.Ranks.{has-in, same-box}
use Rattle.rule_feed.specs.Feed.{Numbers, fed_boxes, fed_node, new_fed, new_magic}
use Rattle.rule_feed.specs.FeedLaws.{FeedBags, FeedTags, FeedsOne}
use Rattle.rule_feed.proofs.FeedBag as bag
use Rattle.rule_feed.proofs.FeedRegion as region
use Rattle.qgm_core.proofs.Reaching.{in-has}
use Rattle.list_laws.proofs.Membership.{all-from, all-in, any-not, eq-false-sym, in-append, in-left, in-map, in-right, map-in}
use Rattle.list_laws.proofs.Booleans.{clash}

module _ (xs ys : List Node) (root : ℕ) (w : Sound (xs ++ ys) root) (b s c : Node) (rp ri : OwnedQuant) (x : Numbers) (m : FeedsOne xs ys root b s c rp ri x) where
  abbrev bs : List Node
  bs = xs ++ ys

  abbrev g : Node → Node
  g = fed_node (xs ++ ys) b s c rp ri x

  abbrev d' : Node
  d' = new_fed (xs ++ ys) b s c rp ri x

  abbrev m' : Node
  m' = new_magic (xs ++ ys) b s c rp ri x

  abbrev zs : List Node
  zs = d' ∷ (m' ∷ map g ys)

  pub id : (y : Node) → (g y).id ≡ y.id
  id = region.g-id xs ys root w b s c rp ri x m

  -- a quantifier after was there, or is i over the fed box
  pub quants-after : (y : Node) → In y bs → (r : OwnedQuant) → In r (g y).quants → In r y.quants ⊎ ((y ≡ b) × ((r.over ≡ x.d) × (r.id ≡ ri.id)))
  quants-after y j r k = elim (cases_Bool (y.id == b.id)) [
    | inl t ↦ (
        let same : y ≡ b = same-box bs y b w.ordered j (region.in-b xs ys root w b s c rp ri x m) (eqb-true y.id b.id t) in
        elim (turned-in ri.id x.d y.quants r (subst (λ (z : Node). In r z.quants) (region.g-b xs ys root w b s c rp ri x m y t) k)) [
          | inl a ↦ inl a
          | inr a ↦ inr (same, (ap (λ (z : OwnedQuant). z.over) (sym a.1.1.1), ap (λ (z : OwnedQuant). z.id) (sym a.1.1.1) ∙ a.1.1.0))
        ])
    | inr t ↦ inl (elim (cases_Bool (region.ins xs ys root w b s c rp ri x m y.id)) [
      | inl u ↦ subst (λ (z : Node). In r z.quants) (region.g-in xs ys root w b s c rp ri x m y t u) k
      | inr u ↦ subst (λ (z : Node). In r z.quants) (region.g-out xs ys root w b s c rp ri x m y t u) k
    ])
  ]

  more-up : (ks : List Node) (z : ℕ) → has_box (ks ++ ys) z ≡ true → has_box (map g ks ++ zs) z ≡ true
  more-up ks z h =
      let y = has-in z (ks ++ ys) h in
      let there : In (g y.0) (map g ks ++ zs) = (elim (in-append y.0 ks ys y.1.0) [
        | inl a ↦ in-left (g y.0) (map g ks) zs (map-in g y.0 ks a)
        | inr a ↦ in-right (g y.0) (map g ks) zs (inr (inr (map-in g y.0 ys a)))
      ]) in
      subst (λ k. has_box (map g ks ++ zs) k ≡ true) (id y.0 ∙ y.1.1) (in-has (g y.0) (map g ks ++ zs) there)

  has-d : (ks : List Node) → has_box (map g ks ++ zs) x.d ≡ true
  has-d ks = in-has d' (map g ks ++ zs) (in-right d' (map g ks) zs (inl refl))

  not-there : (ks : List Node) (z : ℕ) → has_box bs z ≡ true → has_box (ks ++ ys) z ≡ false → has_box (map g ks ++ zs) z ≡ false
  not-there ks z held h = any-not (is_box z) (map g ks ++ zs) (λ y j. elim (in-append y (map g ks) zs j) [
    | inl a ↦ (let u = in-map g y ks a in old u.0 y u.1.1 (in-left u.0 ks ys u.1.0))
    | inr a ↦ elim a [
      | inl e ↦ subst (λ (k : Node). (k.id == z) ≡ false) e (eq-false-sym z x.d (region.old-d xs ys root w b s c rp ri x m z held))
      | inr k ↦ elim k [
        | inl e ↦ subst (λ (k : Node). (k.id == z) ≡ false) e (eq-false-sym z x.m (region.old-m xs ys root w b s c rp ri x m z held))
        | inr l ↦ (let u = in-map g y ys l in old u.0 y u.1.1 (in-right u.0 ks ys u.1.0))
      ]
    ]
  ])
    where
      old : (u y : Node) → g u ≡ y → In u (ks ++ ys) → (y.id == z) ≡ false
      old u y e i = ap (λ k. k == z) (ap (λ (k : Node). k.id) (sym e) ∙ id u) ∙ eq-false-sym z u.id (elim (cases_Bool (z == u.id)) [
        | inr f ↦ f
        | inl t ↦ absurd (clash (has_box (ks ++ ys) z) (subst (λ k. has_box (ks ++ ys) k ≡ true) (sym (eqb-true z u.id t)) (in-has u (ks ++ ys) i)) h)
      ])

  -- b stands above ys
  not-below : (ks : List Node) → Ordered (ks ++ ys) → In b ks → has_box ys b.id ≡ false
  not-below [] o i = elim i [ ]
  not-below (k ∷ ks) o i = elim i [
    | inl e ↦ any-not (is_box b.id) ys (λ y j. (let z : has_box (ks ++ ys) b.id ≡ false = subst (λ (n : Node). has_box (ks ++ ys) n.id ≡ false) e o.0 in Rattle.list_laws.proofs.Membership.any-none (is_box b.id) y (ks ++ ys) z (in-right y ks ys j)))
    | inr j ↦ not-below ks o.2 j
  ]

  below-ys : (y : Node) → In y ys → y ≡ b → ⊥
  below-ys y j e = clash (has_box ys b.id) (subst (λ (n : Node). has_box ys n.id ≡ true) e (in-has y ys j)) (not-below xs w.ordered m.in_b)

  has-ys : (z : ℕ) → has_box ys z ≡ true → has_box (map g ys) z ≡ true
  has-ys z h = let y = has-in z ys h in subst (λ k. has_box (map g ys) k ≡ true) (id y.0 ∙ y.1.1) (in-has (g y.0) (map g ys) (map-in g y.0 ys y.1.0))

  ordered-ys : (ks : List Node) → ((y : Node) → In y ks → In y ys) → Ordered ks → Ordered (map g ks)
  ordered-ys [] sub o = tt
  ordered-ys (k ∷ ks) sub o = (
    any-not (is_box (g k).id) (map g ks) (λ y j. (
        let u = in-map g y ks j in
        ap (λ z. z == (g k).id) (ap (λ (z : Node). z.id) (sym u.1.1) ∙ id u.0) ∙ ap (λ z. u.0.id == z) (id k) ∙ Rattle.list_laws.proofs.Membership.any-none (is_box k.id) u.0 ks o.0 u.1.0)),
    all-from (λ r. has_box (map g ks) r.over) (g k).quants (λ r j. elim (quants-after k (in-right k xs ys (sub k (inl refl))) r j) [
      | inl a ↦ (let y = has-in r.over ks (all-in (λ r. has_box ks r.over) r k.quants o.1 a) in subst (λ z. has_box (map g ks) z ≡ true) (id y.0 ∙ y.1.1) (in-has (g y.0) (map g ks) (map-in g y.0 ks y.1.0)))
      | inr a ↦ absurd (below-ys k (sub k (inl refl)) a.0)
    ]),
    ordered-ys ks (λ y j. sub y (inr j)) o.2,
  )

  rest-ordered : (ks : List Node) → Ordered (ks ++ ys) → Ordered ys
  rest-ordered [] o = o
  rest-ordered (k ∷ ks) o = rest-ordered ks o.2

  new-ys : (q : ℕ) → has_box bs q ≡ false → has_box (map g ys) q ≡ false
  new-ys q h = any-not (is_box q) (map g ys) (λ y j. (let u = in-map g y ys j in ap (λ k. k == q) (ap (λ (k : Node). k.id) (sym u.1.1) ∙ id u.0) ∙ Rattle.list_laws.proofs.Membership.any-none (is_box q) u.0 bs h (in-right u.0 xs ys u.1.0)))

  ordered-zs : Ordered zs
  ordered-zs = (
    any-not (is_box x.d) (m' ∷ map g ys) (λ y j. elim j [ inl e ↦ subst (λ (k : Node). (k.id == x.d) ≡ false) e m.apart | inr k ↦ Rattle.list_laws.proofs.Membership.any-none (is_box x.d) y (map g ys) (new-ys x.d m.new_d) k ]),
    all-from (λ r. has_box (m' ∷ map g ys) r.over) d'.quants (λ r j. elim j [
      | inl e ↦ subst (λ (r : OwnedQuant). has_box (m' ∷ map g ys) r.over ≡ true) e (in-has m' (m' ∷ map g ys) (inl refl))
      | inr k ↦ elim k [
        | inl e ↦ subst (λ (r : OwnedQuant). has_box (m' ∷ map g ys) r.over ≡ true) e (Rattle.std.proofs.lemmas.Bool.or_right (x.m == c.id) (has_box (map g ys) c.id) (has-ys c.id (in-has c ys m.in_c)))
        | inr z ↦ elim z [ ]
      ]
    ]),
    (
      new-ys x.m m.new_m,
      all-from (λ r. has_box (map g ys) r.over) m'.quants (λ r j. elim j [ inl e ↦ subst (λ (r : OwnedQuant). has_box (map g ys) r.over ≡ true) e (has-ys s.id (in-has s ys m.in_s)) | inr z ↦ elim z [ ] ]),
      ordered-ys ys (λ y j. j) (rest-ordered xs w.ordered),
    ),
  )

  ordered-more : (ks : List Node) → ((y : Node) → In y ks → In y bs) → Ordered (ks ++ ys) → Ordered (map g ks ++ zs)
  ordered-more [] sub o = ordered-zs
  ordered-more (k ∷ ks) sub o =
      let i = sub k (inl refl) in (
        subst (λ z. has_box (map g ks ++ zs) z ≡ false) (sym (id k)) (not-there ks k.id (in-has k bs i) o.0),
        all-from (λ r. has_box (map g ks ++ zs) r.over) (g k).quants (λ r j. elim (quants-after k i r j) [
          | inl a ↦ more-up ks r.over (all-in (λ r. has_box (ks ++ ys) r.over) r k.quants o.1 a)
          | inr a ↦ subst (λ z. has_box (map g ks ++ zs) z ≡ true) (sym a.1.0) (has-d ks)
        ]),
        ordered-more ks (λ y j. sub y (inr j)) o.2,
      )

  pub ordered-after : Ordered (fed_boxes xs ys b s c rp ri x)
  ordered-after = ordered-more xs (λ y j. in-left y xs ys j) w.ordered

  pub rooted-after : has_box (fed_boxes xs ys b s c rp ri x) root ≡ true
  rooted-after = more-up xs root w.rooted

pub feed-bags : FeedBags
feed-bags = λ xs ys root w b s c p i x m tables sat. agree-from_alike same_cells
    (bag.feed-bag xs ys root w b s c p i x m tables sat (satisfying.of-satisfying.filled tables (xs ++ ys) sat) (ordered-after xs ys root w b s c p i x m) (rooted-after xs ys root w b s c p i x m) [])

pub feed-tags : FeedTags
feed-tags = λ xs ys root w b s c p i x m tables sat e. agree-from_alike same_cells
    (bag.magic-bag xs ys root w b s c p i x m tables sat (satisfying.of-satisfying.filled tables (xs ++ ys) sat) (ordered-after xs ys root w b s c p i x m)
    (in-has (new_magic (xs ++ ys) b s c p i x) (fed_boxes xs ys b s c p i x) (in-right (new_magic (xs ++ ys) b s c p i x) (map (fed_node (xs ++ ys) b s c p i x) xs) (new_fed (xs ++ ys) b s c p i x ∷ (new_magic (xs ++ ys) b s c p i x ∷ map (fed_node (xs ++ ys) b s c p i x) ys)) (inr (inl refl)))) e)
