-- A split leaves the measure as it is.
use Rattle.std.proofs.Common.{ℕ, ◌==◌, ◌≡◌, ◌&&◌, not, cond, Bool, true, false, List, ◌∷◌, ◌++◌, map, Some, refl, sym, ap, subst, ◌∙◌, eqb-true, ◌⊎◌, inl, inr, arith}
use Rattle.std.specs.List.{list_any}
use Rattle.std.proofs.lemmas.Bool.{cases_Bool}
use Rattle.qgm_core.specs.Boxes.{has_box, is_box, is_quant}
use Rattle.qgm_core.specs.Edits.{range}
use Rattle.qgm_core.specs.Free.{free_in}
use Rattle.qgm_core.specs.Kinds.{is_F, is_S, is_fed}
use Rattle.list_laws.specs.Lists.{In, first}
use Rattle.qgm_core.specs.declared.kinds.QuantKind.TheVariants.{F}
use Rattle.qgm_core.specs.declared.node.Node.{Node}
use Rattle.qgm_core.specs.declared.owned.OwnedQuant.{OwnedQuant}
use Rattle.qgm_wellformed.specs.WellFormed.{is_empty}
use Rattle.qgm_meaning.specs.Scope.{loose}
use Rattle.qgm_terms.specs.Terms.{Cond}
use Rattle.qgm_edit_laws.specs.Graph.{Sound}
use Rattle.qgm_edit_laws.proofs.Adds.{loose-owned}
use Rattle.qgm_edit_laws.proofs.FreeLoose.{open-looks}
use Rattle.qgm_edit_laws.proofs.Ranks.{has-in, same-box}
use Rattle.qgm_edit_laws.proofs.Scope.{in-first}
use Rattle.qgm_props.specs.Measure.{fed_in, is_keyless, keyless_found, loose_scalars_in, many, open_in}
use Rattle.qgm_props.proofs.Many.{many-append, many-beside, many-none, many-same, summed-beside}
use Rattle.rule_feed.proofs.SplitShaped.{not-S}
use Rattle.rule_feed.specs.FeedMeasure.{SplitMeasured}
use Rattle.rule_feed.specs.Split.{MaySplitSound, sizes_of, split_box, split_boxes, split_node}
use Rattle.rule_feed.proofs.FeedMeasure.{looks-open}
use Rattle.rule_feed.proofs.SplitLooks as looks
use Rattle.rule_feed.proofs.SplitSound as split
use Rattle.qgm_core.proofs.Reaching.{in-has, overs-held}
use Rattle.list_laws.proofs.Membership.{in-append, in-left, in-right, map-in}
use Rattle.list_laws.proofs.Booleans.{clash}

module _ (xs ys : List Node) (root : ℕ) (b : Node) (wide : OwnedQuant → ℕ) (q s : ℕ) (us ps vs : List OwnedQuant) (rest taken : List Cond) (w : Sound (xs ++ ys) root) (m : MaySplitSound xs ys b wide q s us ps vs rest taken) where
  abbrev bs : List Node
  bs = xs ++ ys

  abbrev ws : List (ℕ × ℕ)
  ws = sizes_of wide ps

  abbrev rq : OwnedQuant
  rq = range q F s

  abbrev g : Node → Node
  g = split_node ws b.id q us (rq ∷ vs) rest

  abbrev s' : Node
  s' = split_box s ws ps taken

  abbrev hs : List Node
  hs = split_boxes xs ys ws b.id q s us ps vs rest taken

  abbrev P : ℕ → Bool
  P k = list_any (is_quant k) ps

  abbrev look : ℕ → ℕ → Bool
  look z k = cond (k == q) (list_any (λ (r : OwnedQuant). loose bs z r.id) ps) (cond (P k) false (loose bs z k))

  in-b : In b bs
  in-b = in-left b xs ys m.above

  after : Sound hs root
  after = split.sound-after xs ys root b wide q s us ps vs rest taken w m

  id : (y : Node) → (g y).id ≡ y.id
  id = split.id xs ys root b wide q s us ps vs rest taken w m

  g-hs : (y : Node) → In y bs → In (g y) hs
  g-hs y j = elim (in-append y xs ys j) [
    | inl a ↦ in-left (g y) (map g xs) (s' ∷ map g ys) (map-in g y xs a)
    | inr a ↦ in-right (g y) (map g xs) (s' ∷ map g ys) (inr (map-in g y ys a))
  ]

  still : (z k : ℕ) → loose bs z k ≡ true → (y : ℕ) × (look z y ≡ true)
  still z k h = elim (cases_Bool (P k)) [
    | inl t ↦ (let r = Rattle.list_laws.proofs.Membership.any-in (is_quant k) ps t in (q, split.look-q xs ys root b wide q s us ps vs rest taken w m z r.0 r.1.0 (subst (λ y. loose bs z y ≡ true) (sym (eqb-true r.0.id k r.1.1)) h)))
    | inr t ↦ (k, split.look-else xs ys root b wide q s us ps vs rest taken w m z k (split.not-q xs ys root b wide q s us ps vs rest taken w m k (loose-owned bs root w z k h)) t ∙ h)
  ]

  open-same : (y : Node) → In y bs → not (is_empty (free_in hs (g y).id)) ≡ not (is_empty (free_in bs y.id))
  open-same y j = ap (λ z. not (is_empty (free_in hs z))) (id y) ∙ ap not (elim (cases_Bool (is_empty (free_in hs y.id))) [
    | inr f ↦ (
        let k = open-looks hs root after y.id f in
        let o = split.look-some xs ys root b wide q s us ps vs rest taken w m y.id k.0 (looks.less xs ys root b wide q s us ps vs rest taken w m y.id k.0 k.1) in
        f ∙ sym (looks-open bs root w y.id o.0 o.1))
    | inl t ↦ elim (cases_Bool (is_empty (free_in bs y.id))) [
      | inl u ↦ t ∙ sym u
      | inr u ↦ absurd (
          let k = open-looks bs root w y.id u in
          let o = still y.id k.0 k.1 in
          let held : has_box hs y.id ≡ true = subst (λ z. has_box hs z ≡ true) (id y) (in-has (g y) hs (g-hs y j)) in
          clash (is_empty (free_in hs y.id)) t (looks-open hs root after y.id o.0 (looks.more xs ys root b wide q s us ps vs rest taken w m y.id o.0 held o.1)))
    ]
  ])

  new-closed : not (is_empty (free_in hs s)) ≡ false
  new-closed = elim (cases_Bool (is_empty (free_in hs s))) [
    | inl t ↦ ap not t
    | inr u ↦ absurd (
        let k = open-looks hs root after s u in
        clash (look s k.0) (looks.less xs ys root b wide q s us ps vs rest taken w m s k.0 k.1) (split.look-none xs ys root b wide q s us ps vs rest taken w m s k.0 (split.new-none xs ys root b wide q s us ps vs rest taken w m)))
  ]

  opens-same : open_in hs ≡ open_in bs
  opens-same = many-beside (λ (y : Node). not (is_empty (free_in hs y.id))) (λ (y : Node). not (is_empty (free_in bs y.id))) g xs ys s' new-closed open-same

  part-g : {X : Type 0} (p : Node → X) → ((y : Node) → (y.id == b.id) ≡ true → p (Rattle.rule_feed.specs.Split.split_owner ws q us (rq ∷ vs) rest y) ≡ p y) → ((y : Node) → p (Rattle.rule_feed.specs.Split.renamed_node (Rattle.rule_feed.specs.Split.into ws q) y) ≡ p y) → (y : Node) → p (g y) ≡ p y
  part-g p h k y = elim (cases_Bool (y.id == b.id)) [
    | inl t ↦ ap p (split.g-b xs ys root b wide q s us ps vs rest taken w m y t) ∙ h y t
    | inr t ↦ ap p (split.g-other xs ys root b wide q s us ps vs rest taken w m y t) ∙ k y
  ]

  feds-same : fed_in hs ≡ fed_in bs
  feds-same = many-beside (λ (y : Node). is_fed y.parts.role) (λ (y : Node). is_fed y.parts.role) g xs ys s' refl (λ y j. part-g (λ (k : Node). is_fed k.parts.role) (λ y t. refl) (λ y. refl) y)

  abbrev hard : List Node → OwnedQuant → Bool
  hard ns r = is_S r.kind && not (keyless_found (first (is_box r.over) ns))

  hard-F : (ns : List Node) (r : OwnedQuant) → is_F r.kind ≡ true → hard ns r ≡ false
  hard-F ns r h = ap (λ z. z && not (keyless_found (first (is_box r.over) ns))) (not-S r.kind h)

  hard-old : (y : Node) → In y bs → (r : OwnedQuant) → In r y.quants → hard hs r ≡ hard bs r
  hard-old y j r k =
      let u = has-in r.over bs (overs-held bs y r w.ordered j k) in
      let now : first (is_box r.over) hs ≡ Some (g u.0) = ap (λ z. first (is_box z) hs) (sym u.1.1 ∙ sym (id u.0)) ∙ in-first (g u.0) hs after.ordered (g-hs u.0 u.1.0) in
      let was : first (is_box r.over) bs ≡ Some u.0 = ap (λ z. first (is_box z) bs) (sym u.1.1) ∙ in-first u.0 bs w.ordered u.1.0 in
      ap (λ z. is_S r.kind && not z) (ap keyless_found now ∙ part-g (λ (k : Node). is_keyless k.parts.kind) (λ y t. refl) (λ y. refl) u.0 ∙ sym (ap keyless_found was))

  old-quant : (r : OwnedQuant) → In r us ⊎ (In r ps ⊎ In r vs) → In r b.quants
  old-quant = split.old-quant xs ys root b wide q s us ps vs rest taken w m

  hard-b : many (hard hs) (us ++ rq ∷ vs) ≡ many (hard bs) b.quants
  hard-b =
      let a = many-append (hard hs) us (rq ∷ vs) in
      let e : many (hard hs) (rq ∷ vs) ≡ many (hard hs) vs = omega arith in
      let o = ap (many (hard bs)) m.quants ∙ many-append (hard bs) us (ps ++ vs) in
      let o2 = many-append (hard bs) ps vs in
      let none = many-none (hard bs) ps (λ r j. hard-F bs r (m.rows r j)) in
      let u = many-same (hard hs) (hard bs) us (λ r j. hard-old b in-b r (old-quant r (inl j))) in
      let v = many-same (hard hs) (hard bs) vs (λ r j. hard-old b in-b r (old-quant r (inr (inr j)))) in
      omega arith

  each-hard : (y : Node) → In y bs → many (hard hs) (g y).quants ≡ many (hard bs) y.quants
  each-hard y j = elim (cases_Bool (y.id == b.id)) [
    | inr t ↦ ap (many (hard hs)) (split.quants-same xs ys root b wide q s us ps vs rest taken w m y t) ∙ many-same (hard hs) (hard bs) y.quants (λ r k. hard-old y j r k)
    | inl t ↦ (
        let e : b ≡ y = same-box bs b y w.ordered in-b j (sym (eqb-true y.id b.id t)) in
        subst (λ (z : Node). many (hard hs) (g z).quants ≡ many (hard bs) z.quants) e (ap (many (hard hs)) (split.quants-b xs ys root b wide q s us ps vs rest taken w m) ∙ hard-b))
  ]

  scalars-same : loose_scalars_in hs ≡ loose_scalars_in bs
  scalars-same = summed-beside (λ (y : Node). many (hard hs) y.quants) (λ (y : Node). many (hard bs) y.quants) g xs ys s' (many-none (hard hs) ps (λ r j. hard-F hs r (m.rows r j))) each-hard

pub split-measured : SplitMeasured
split-measured = λ xs ys root b wide q s us ps vs rest taken w m. (opens-same xs ys root b wide q s us ps vs rest taken w m, (feds-same xs ys root b wide q s us ps vs rest taken w m, scalars-same xs ys root b wide q s us ps vs rest taken w m))
