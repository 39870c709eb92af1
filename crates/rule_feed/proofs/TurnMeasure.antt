-- An S that is settled and quantifiers that are turned leave the parts of the measure as they are, but for an S less.
use Rattle.std.proofs.Common.{ℕ, ◌==◌, ◌≡◌, ◌≤◌, ◌+◌, ◌&&◌, not, cond, Bool, true, false, List, [], ◌∷◌, ◌++◌, filter, None, Some, refl, sym, ap, ◌∙◌, inl, inr, arith}
use Rattle.std.proofs.lemmas.Bool.{cases_Bool}
use Rattle.qgm_core.specs.Boxes.{QueryGraph, is_box, numbers}
use Rattle.qgm_core.specs.Kinds.{is_S, is_fed}
use Rattle.list_laws.specs.Lists.{EachOnce, first}
use Rattle.qgm_core.specs.declared.node.Node.{Node}
use Rattle.qgm_core.specs.declared.owned.OwnedQuant.{OwnedQuant}
use Rattle.qgm_meaning.specs.Rules.{as_F}
use Rattle.qgm_meaning.specs.Scope.{loose}
use Rattle.qgm_wellformed.specs.WellFormed.{fault}
use Rattle.qgm_edit_laws.specs.Graph.{Sound}
use Rattle.qgm_edit_laws.proofs.FedOpenKept.{looks-open}
use Rattle.qgm_edit_laws.proofs.FreeLoose.{open-looks}
use Rattle.qgm_props.specs.Calm.{is_closed}
use Rattle.qgm_props.specs.Measure.{fed_in, is_keyless, is_loose_scalar, keyless_found, loose_scalars_in, many, open_in, summed}
use Rattle.qgm_props.proofs.Many.{many-append, many-same, summed-append, summed-less}
use Rattle.rule_api.specs.declared.place.Place.{Place}
use Rattle.rule_feed.specs.FeedActs.{settled_node}
use Rattle.rule_feed.specs.FeedMay.{MayFeedAt, feeds}
use Rattle.rule_feed.specs.Turn.{before_first, failing, from_first}
use Rattle.rule_feed.proofs.FeedPlaced as placed
use Rattle.rule_feed.proofs.FeedSettled as settled
use Rattle.rule_feed.proofs.TurnLists.{passing-from, together}
use Rattle.rule_subquery.specs.ScalarToJoin.{column_box}
use Rattle.list_laws.proofs.Booleans.{clash}
use Rattle.list_laws.proofs.Membership.{append-one}

module _ {X : Type 0} (t p : X → Bool) where
  many-sifted : (xs : List X) → many p (filter t xs) + many p (failing t xs) ≡ many p xs
  many-sifted [] = omega arith
  many-sifted (x ∷ xs) = elim (t x) as (λ b. many p (cond b (x ∷ filter t xs) (filter t xs)) + many p (cond (not b) (x ∷ failing t xs) (failing t xs)) ≡ many p (x ∷ xs)) [
    | true ↦ (let h = many-sifted xs in omega arith)
    | false ↦ (let h = many-sifted xs in omega arith)
  ]

  many-turned : (xs : List X) → many p (before_first t xs ++ (filter t xs ++ failing t (from_first t xs))) ≡ many p xs
  many-turned xs =
      let a = many-append p (before_first t xs) (filter t xs ++ failing t (from_first t xs)) in
      let b = many-append p (filter t xs) (failing t (from_first t xs)) in
      let c = many-sifted (from_first t xs) in
      let d = ap (many p) (passing-from t xs) in
      let e = sym (ap (many p) (together t xs)) ∙ many-append p (before_first t xs) (from_first t xs) in omega arith

module _ (g : QueryGraph) (u : EachOnce (numbers g.boxes)) (f : fault g ≡ None) (p : Place) (b : Node) (us : List OwnedQuant) (r : OwnedQuant) (vs : List OwnedQuant) (m : MayFeedAt p g b us r vs)
    (above below : List Node) (stands : g.boxes ≡ above ++ b ∷ below) (q s : ℕ) where
  abbrev b1 : Node
  b1 = settled_node us r vs b

  abbrev b2 : Node
  b2 = placed.b2 g u f p b us r vs m above below stands q s

  abbrev bs2 : List Node
  bs2 = (above ++ b2 ∷ []) ++ below

  w2 : Sound bs2 g.root
  w2 = placed.w2 g u f p b us r vs m above below stands q s

  w : Sound g.boxes g.root
  w = placed.w g u f p b us r vs m above below stands q s

  e1 : settled.Settles g u f p b us r vs m (placed.settle g u f p b us r vs m above below stands q s) (placed.i g u f p b us r vs m above below stands q s)
  e1 = placed.e1 g u f p b us r vs m above below stands q s

  look2 : (z y : ℕ) → loose bs2 z y ≡ loose g.boxes z y
  look2 = placed.look2 g u f p b us r vs m above below stands q s

  same-id : b2.id ≡ b.id
  same-id = e1.id b

  closed-same : (z : ℕ) → is_closed bs2 z ≡ is_closed g.boxes z
  closed-same z = elim (cases_Bool (is_closed bs2 z)) [
    | inr e ↦ (let k = open-looks bs2 g.root w2 z e in e ∙ sym (looks-open g.boxes g.root w z k.0 (sym (look2 z k.0) ∙ k.1)))
    | inl e ↦ elim (cases_Bool (is_closed g.boxes z)) [
      | inl o ↦ e ∙ sym o
      | inr o ↦ absurd (let k = open-looks g.boxes g.root w z o in clash (is_closed bs2 z) e (looks-open bs2 g.root w2 z k.0 (look2 z k.0 ∙ k.1)))
    ]
  ]

  found-same : (z : ℕ) → keyless_found (first (is_box z) bs2) ≡ keyless_found (first (is_box z) g.boxes)
  found-same z =
      ap (λ (l : List Node). keyless_found (first (is_box z) l)) (append-one above b2 below)
      ∙ by above
      ∙ sym (ap (λ (l : List Node). keyless_found (first (is_box z) l)) stands)
    where
      by : (xs : List Node) → keyless_found (first (is_box z) (xs ++ b2 ∷ below)) ≡ keyless_found (first (is_box z) (xs ++ b ∷ below))
      by [] =
          ap (λ v. keyless_found (cond (v == z) (Some b2) (first (is_box z) below))) same-id
          ∙ elim (b.id == z) as (λ c. keyless_found (cond c (Some b2) (first (is_box z) below)) ≡ keyless_found (cond c (Some b) (first (is_box z) below))) [
            | true ↦ ap is_keyless (e1.select ∙ sym m.select)
            | false ↦ refl
          ]
      by (x ∷ xs) = elim (x.id == z) as (λ c. keyless_found (cond c (Some x) (first (is_box z) (xs ++ b2 ∷ below))) ≡ keyless_found (cond c (Some x) (first (is_box z) (xs ++ b ∷ below)))) [ true ↦ refl | false ↦ by xs ]

  hard-same : (x : OwnedQuant) → is_loose_scalar bs2 x ≡ is_loose_scalar g.boxes x
  hard-same x = ap (λ v. is_S x.kind && not v) (found-same x.over)

  -- ---- the parts

  many-both : (k l : Node → Bool) → ((y : Node) → k y ≡ l y) → k b2 ≡ l b → many k bs2 ≡ many l g.boxes
  many-both k l h e =
      let a = ap (many k) (append-one above b2 below) ∙ many-append k above (b2 ∷ below) in
      let c = ap (many l) stands ∙ many-append l above (b ∷ below) in
      let d = many-same k l above (λ y j. h y) in
      let o = many-same k l below (λ y j. h y) in
      let n : ◌≡◌ {A = ℕ} (cond (k b2) 1 0) (cond (l b) 1 0) = ap (λ v. cond {A = ℕ} v 1 0) e in omega arith

  opens-same : open_in bs2 ≡ open_in g.boxes
  opens-same = many-both (λ (y : Node). not (is_closed bs2 y.id)) (λ (y : Node). not (is_closed g.boxes y.id)) (λ y. ap not (closed-same y.id)) (ap not (closed-same b2.id ∙ ap (is_closed g.boxes) same-id))

  feds-same : fed_in bs2 ≡ fed_in g.boxes
  feds-same = many-both (λ (y : Node). is_fed y.parts.role) (λ (y : Node). is_fed y.parts.role) (λ y. refl) (ap is_fed (e1.plain ∙ sym m.plain))

  abbrev hard : OwnedQuant → Bool
  hard = is_loose_scalar g.boxes

  settled-less : many hard b1.quants ≤ many hard b.quants
  settled-less = elim (is_S r.kind) as (λ c. many hard ((λ (z : Node). z.quants) (cond c (column_box us r vs b) b)) ≤ many hard b.quants) [
    | true ↦ (
        let a = many-append hard (us ++ vs) (as_F r.id r.over ∷ []) in
        let c = many-append hard us vs in
        let d = ap (many hard) m.split ∙ many-append hard us (r ∷ vs) in
        let e : many hard (as_F r.id r.over ∷ []) ≡ 0 = omega arith in omega arith)
    | false ↦ omega arith
  ]

  at-b : many (is_loose_scalar bs2) b2.quants ≤ many hard b.quants
  at-b =
      let a = many-same (is_loose_scalar bs2) hard b2.quants (λ x j. hard-same x) in
      let c = many-turned (feeds g.boxes r.over) hard b1.quants in
      let d = settled-less in omega arith

  scalars-less : loose_scalars_in bs2 ≤ loose_scalars_in g.boxes
  scalars-less =
      let k : Node → ℕ = λ (y : Node). many (is_loose_scalar bs2) y.quants in
      let l : Node → ℕ = λ (y : Node). many hard y.quants in
      let a = ap (summed k) (append-one above b2 below) ∙ summed-append k above (b2 ∷ below) in
      let c = ap (summed l) stands ∙ summed-append l above (b ∷ below) in
      let d = summed-less k l above (λ y j. each y) in
      let o = summed-less k l below (λ y j. each y) in
      let n = at-b in omega arith
    where
      each : (y : Node) → many (is_loose_scalar bs2) y.quants ≤ many hard y.quants
      each y = let e = many-same (is_loose_scalar bs2) hard y.quants (λ x j. hard-same x) in omega (arith, e)

  pub turned-measured : (open_in bs2 ≡ open_in g.boxes) × ((fed_in bs2 ≡ fed_in g.boxes) × (loose_scalars_in bs2 ≤ loose_scalars_in g.boxes))
  turned-measured = (opens-same, (feds-same, scalars-less))
