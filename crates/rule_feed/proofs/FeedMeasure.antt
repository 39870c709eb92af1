-- Feeding lowers the measure.
use Rattle.std.proofs.Common.{ℕ, suc, ◌==◌, ◌≡◌, ◌&&◌, ◌+◌, not, cond, Bool, true, false, List, [], ◌∷◌, ◌++◌, map, Some, refl, sym, ap, ap₂, subst, ◌∙◌, eqb-true, inl, inr, arith}
use Rattle.std.specs.List.{list_any}
use Rattle.std.proofs.lemmas.Bool.{cases_Bool}
use Rattle.qgm_core.specs.Boxes.{has_box, is_box, is_quant, owns}
use Rattle.qgm_core.specs.Free.{free_in}
use Rattle.qgm_core.specs.Kinds.{is_S, is_fed}
use Rattle.list_laws.specs.Lists.{In, first, holds}
use Rattle.qgm_core.specs.declared.node.Node.{Node}
use Rattle.qgm_core.specs.declared.owned.OwnedQuant.{OwnedQuant}
use Rattle.qgm_wellformed.specs.WellFormed.{is_empty}
use Rattle.qgm_wellformed.proofs.Below.{free-free}
use Rattle.qgm_meaning.specs.Scope.{loose}
use Rattle.qgm_edit_laws.specs.Graph.{Sound}
use Rattle.qgm_edit_laws.proofs.FreeLoose.{looks-free, open-looks}
use Rattle.qgm_edit_laws.proofs.Interposed.{over_now, turned}
use Rattle.qgm_edit_laws.proofs.Ranks.{has-in, same-box}
use Rattle.qgm_edit_laws.proofs.Scope.{in-first}
use Rattle.qgm_props.specs.Measure.{fed_in, is_keyless, keyless_found, loose_scalars_in, many, open_in}
use Rattle.qgm_props.proofs.Lowering.{feed-lowers}
use Rattle.qgm_props.proofs.Many.{many-same, many-two, summed-two}
use Rattle.rule_feed.specs.Feed.{Numbers, fed_boxes, fed_node, new_fed, new_magic}
use Rattle.rule_feed.specs.FeedLaws.{FeedsOne}
use Rattle.rule_feed.specs.FeedMeasure.{FeedMeasured, FeedingLowers}
use Rattle.rule_feed.proofs.FeedRegion as region
use Rattle.rule_feed.proofs.FeedLooks as looks
use Rattle.rule_feed.proofs.FeedScope as feed_scope
use Rattle.rule_feed.proofs.FeedSound as fed
use Rattle.qgm_core.proofs.Reaching.{in-has, overs-held}
use Rattle.list_laws.proofs.Membership.{in-append, in-left, in-right, map-in}
use Rattle.list_laws.proofs.Booleans.{clash}

-- ---- open boxes

pub held-some : (q : ℕ) (xs : List ℕ) → holds q xs ≡ true → is_empty xs ≡ false
held-some q [] h = absurd (let z : ⊥ = cc in z)
held-some q (x ∷ xs) h = refl

pub looks-open : (bs : List Node) (root : ℕ) → Sound bs root → (b q : ℕ) → loose bs b q ≡ true → is_empty (free_in bs b) ≡ false
looks-open bs root w b q h = held-some q (free_in bs b) ((free-free bs w.ordered b q).1 (looks-free bs root w b q h))

module _ (xs ys : List Node) (root : ℕ) (w : Sound (xs ++ ys) root) (b s c : Node) (rp ri : OwnedQuant) (x : Numbers) (m : FeedsOne xs ys root b s c rp ri x) where
  abbrev bs : List Node
  bs = xs ++ ys

  abbrev g : Node → Node
  g = fed_node (xs ++ ys) b s c rp ri x

  abbrev d' : Node
  d' = new_fed (xs ++ ys) b s c rp ri x

  abbrev m' : Node
  m' = new_magic (xs ++ ys) b s c rp ri x

  abbrev hs : List Node
  hs = fed_boxes xs ys b s c rp ri x

  abbrev ins : ℕ → Bool
  ins = region.ins xs ys root w b s c rp ri x m

  abbrev look : ℕ → ℕ → Bool
  look z q = cond (ins z) (cond (q == x.dm) (loose bs z rp.id) (cond (q == rp.id) false (loose bs z q))) (loose bs z q)

  after : Sound hs root
  after = fed.sound-after xs ys root w b s c rp ri x m

  id : (y : Node) → (g y).id ≡ y.id
  id = feed_scope.id xs ys root w b s c rp ri x m

  g-hs : (y : Node) → In y bs → In (g y) hs
  g-hs y j = elim (in-append y xs ys j) [
    | inl a ↦ in-left (g y) (map g xs) (d' ∷ (m' ∷ map g ys)) (map-in g y xs a)
    | inr a ↦ in-right (g y) (map g xs) (d' ∷ (m' ∷ map g ys)) (inr (inr (map-in g y ys a)))
  ]

  -- what is looked up before, something is after
  still : (z q : ℕ) → loose bs z q ≡ true → (y : ℕ) × (look z y ≡ true)
  still z q h = elim (cases_Bool (ins z)) [
    | inr t ↦ (q, feed_scope.look-out xs ys root w b s c rp ri x m z q t ∙ h)
    | inl t ↦ elim (cases_Bool (q == rp.id)) [
      | inl e ↦ (x.dm, feed_scope.look-dm xs ys root w b s c rp ri x m z t ∙ subst (λ y. loose bs z y ≡ true) (eqb-true q rp.id e) h)
      | inr e ↦ elim (cases_Bool (q == x.dm)) [
        | inl o ↦ (x.dm, feed_scope.look-dm xs ys root w b s c rp ri x m z t ∙ absurd (clash (list_any (owns x.dm) bs) (subst (λ y. list_any (owns y) bs ≡ true) (eqb-true q x.dm o) (Rattle.qgm_edit_laws.proofs.Adds.loose-owned bs root w z q h)) m.new_dm))
        | inr o ↦ (q, feed_scope.look-else xs ys root w b s c rp ri x m z q t o e ∙ h)
      ]
    ]
  ]

  open-same : (y : Node) → In y bs → not (is_empty (free_in hs (g y).id)) ≡ not (is_empty (free_in bs y.id))
  open-same y j = ap (λ z. not (is_empty (free_in hs z))) (id y) ∙ ap not (elim (cases_Bool (is_empty (free_in hs y.id))) [
    | inr f ↦ (
        let q = open-looks hs root after y.id f in
        let o = feed_scope.look-some xs ys root w b s c rp ri x m y.id q.0 (looks.less xs ys root w b s c rp ri x m y.id q.0 q.1) in
        f ∙ sym (looks-open bs root w y.id o.0 o.1))
    | inl t ↦ elim (cases_Bool (is_empty (free_in bs y.id))) [
      | inl u ↦ t ∙ sym u
      | inr u ↦ absurd (
          let q = open-looks bs root w y.id u in
          let o = still y.id q.0 q.1 in
          let held : has_box hs y.id ≡ true = subst (λ z. has_box hs z ≡ true) (id y) (in-has (g y) hs (g-hs y j)) in
          clash (is_empty (free_in hs y.id)) t (looks-open hs root after y.id o.0 (looks.more xs ys root w b s c rp ri x m y.id o.0 held o.1)))
    ]
  ])

  new-closed : (z : ℕ) → has_box bs z ≡ false → not (is_empty (free_in hs z)) ≡ false
  new-closed z f = elim (cases_Bool (is_empty (free_in hs z))) [
    | inl t ↦ ap not t
    | inr u ↦ absurd (
        let q = open-looks hs root after z u in
        clash (look z q.0) (looks.less xs ys root w b s c rp ri x m z q.0 q.1) (feed_scope.look-none xs ys root w b s c rp ri x m z q.0 (feed_scope.new-none xs ys root w b s c rp ri x m z f)))
  ]

  opens-same : open_in hs ≡ open_in bs
  opens-same =
      let e = many-two (λ (y : Node). not (is_empty (free_in hs y.id))) (λ (y : Node). not (is_empty (free_in bs y.id))) g xs ys d' m' false (new-closed x.d m.new_d) (new-closed x.m m.new_m) open-same in
      omega arith

  -- ---- fed boxes

  role-g : (y : Node) → is_fed (g y).parts.role ≡ is_fed y.parts.role
  role-g y = elim (cases_Bool (y.id == b.id)) [
    | inl t ↦ ap (λ (k : Node). is_fed k.parts.role) (region.g-b xs ys root w b s c rp ri x m y t)
    | inr t ↦ elim (cases_Bool (ins y.id)) [
      | inl u ↦ ap (λ (k : Node). is_fed k.parts.role) (region.g-in xs ys root w b s c rp ri x m y t u)
      | inr u ↦ ap (λ (k : Node). is_fed k.parts.role) (region.g-out xs ys root w b s c rp ri x m y t u)
    ]
  ]

  kind-g : (y : Node) → (g y).parts.kind ≡ y.parts.kind
  kind-g y = elim (cases_Bool (y.id == b.id)) [
    | inl t ↦ ap (λ (k : Node). k.parts.kind) (region.g-b xs ys root w b s c rp ri x m y t)
    | inr t ↦ elim (cases_Bool (ins y.id)) [
      | inl u ↦ ap (λ (k : Node). k.parts.kind) (region.g-in xs ys root w b s c rp ri x m y t u)
      | inr u ↦ ap (λ (k : Node). k.parts.kind) (region.g-out xs ys root w b s c rp ri x m y t u)
    ]
  ]

  feds-more : fed_in hs ≡ suc (fed_in bs)
  feds-more =
      let e = many-two (λ (y : Node). is_fed y.parts.role) (λ (y : Node). is_fed y.parts.role) g xs ys d' m' true refl refl (λ y j. role-g y) in
      omega arith

  -- ---- loose_scalars_in

  abbrev hard : List Node → OwnedQuant → Bool
  hard ns r = is_S r.kind && not (keyless_found (first (is_box r.over) ns))

  hard-old : (y : Node) → In y bs → (r : OwnedQuant) → In r y.quants → hard hs r ≡ hard bs r
  hard-old y j r k =
      let u = has-in r.over bs (overs-held bs y r w.ordered j k) in
      let now : first (is_box r.over) hs ≡ Some (g u.0) = ap (λ z. first (is_box z) hs) (sym u.1.1 ∙ sym (id u.0)) ∙ in-first (g u.0) hs after.ordered (g-hs u.0 u.1.0) in
      let was : first (is_box r.over) bs ≡ Some u.0 = ap (λ z. first (is_box z) bs) (sym u.1.1) ∙ in-first u.0 bs w.ordered u.1.0 in
      ap (λ z. is_S r.kind && not z) (ap keyless_found now ∙ ap is_keyless (kind-g u.0) ∙ sym (ap keyless_found was))

  hard-turned : (rs : List OwnedQuant) → ((r : OwnedQuant) → In r rs → In r b.quants) → many (hard hs) (turned ri.id x.d rs) ≡ many (hard bs) rs
  hard-turned [] sub = refl
  hard-turned (r ∷ rs) sub = elim (r.id == ri.id) as (λ t. (r.id == ri.id) ≡ t → many (hard hs) (cond t (over_now x.d r ∷ rs) (r ∷ turned ri.id x.d rs)) ≡ many (hard bs) (r ∷ rs)) [
    | true ↦ λ t. (
        let e : Some r ≡ Some ri = sym (Rattle.qgm_edit_laws.proofs.Turns.first-own r b.quants (feed_scope.few-b xs ys root w b s c rp ri x m r.id) (sub r (inl refl))) ∙ ap (λ z. first (is_quant z) b.quants) (eqb-true r.id ri.id t) ∙ Rattle.qgm_edit_laws.proofs.Turns.first-own ri b.quants (feed_scope.few-b xs ys root w b s c rp ri x m ri.id) m.owned_i in
        let same : r ≡ ri = cc in
        let none : is_S r.kind ≡ false = ap (λ (z : OwnedQuant). is_S z.kind) same ∙ m.not_scalar in
        ap₂ (λ (u : Bool) (k : ℕ). cond u 1 0 + k)
        (ap (λ z. z && not (keyless_found (first (is_box x.d) hs))) none ∙ sym (ap (λ z. z && not (keyless_found (first (is_box r.over) bs))) none))
        (many-same (hard hs) (hard bs) rs (λ z k. hard-old b (feed_scope.in-b xs ys root w b s c rp ri x m) z (sub z (inr k)))))
    | false ↦ λ t. ap₂ (λ (u : Bool) (k : ℕ). cond u 1 0 + k) (hard-old b (feed_scope.in-b xs ys root w b s c rp ri x m) r (sub r (inl refl))) (hard-turned rs (λ z k. sub z (inr k)))
  ] refl

  each-hard : (y : Node) → In y bs → many (hard hs) (g y).quants ≡ many (hard bs) y.quants
  each-hard y j = elim (cases_Bool (y.id == b.id)) [
    | inr t ↦ ap (many (hard hs)) (fed.quants-same xs ys root w b s c rp ri x m y j t) ∙ many-same (hard hs) (hard bs) y.quants (λ r k. hard-old y j r k)
    | inl t ↦ (
        let e : b ≡ y = same-box bs b y w.ordered (feed_scope.in-b xs ys root w b s c rp ri x m) j (sym (eqb-true y.id b.id t)) in
        subst (λ (z : Node). many (hard hs) (g z).quants ≡ many (hard bs) z.quants) e (ap (many (hard hs)) (fed.quants-b xs ys root w b s c rp ri x m) ∙ hard-turned b.quants (λ r k. k)))
  ]

  scalars-same : loose_scalars_in hs ≡ loose_scalars_in bs
  scalars-same = summed-two (λ (y : Node). many (hard hs) y.quants) (λ (y : Node). many (hard bs) y.quants) g xs ys d' m' refl refl each-hard

pub feed-measured : FeedMeasured
feed-measured = λ xs ys root w b s c p i x m. (opens-same xs ys root w b s c p i x m, (feds-more xs ys root w b s c p i x m, scalars-same xs ys root w b s c p i x m))

pub feeding-lowers : FeedingLowers
feeding-lowers = λ xs ys root w b s c p i x m. (
    let e = feed-measured xs ys root w b s c p i x m in
    let o = e.0 in
    let f = e.1.0 in
    let t = e.1.1 in
    feed-lowers (xs ++ ys) (fed_boxes xs ys b s c p i x) (record { opened = omega (arith, o); scalars = omega (arith, t); fed = omega (arith, f) }))
