-- Edits of several boxes, one more at a time.
use Rattle.std.proofs.Common.{ℕ, suc, ◌==◌, ◌≡◌, ◌<◌, ◌+◌, ◌-◌, ◌||◌, cond, Bool, true, false, List, [], ◌∷◌, ◌++◌, map, Some, refl, sym, ap, ap₂, subst, ◌∙◌, eqb-true, inl, inr, arith}
use Rattle.std.proofs.lemmas.Bool.{cases_Bool, eq-eqb, or_parts}
use Rattle.qgm_terms.specs.Terms.{Term, col}
use Rattle.qgm_core.specs.Boxes.{HasBox, QueryGraph, has_box, is_box, numbers, put_below, quants_in, quants_of}
use Rattle.qgm_core.specs.Edits.{put_cells, substitute, with_box}
use Rattle.list_laws.specs.Lists.{EachOnce, change, first, holds}
use Rattle.qgm_core.specs.declared.node.Node.{Node}
use Rattle.qgm_meaning.specs.Tags.{columns_from}
use Rattle.qgm_edit_laws.proofs.OneBox.{has-map}
use Rattle.rule_feed.specs.FeedSteps.{put_in, put_in_all}
use Rattle.list_laws.proofs.Membership.{append-one, eq-false-sym}

pub columns-next : (head : List Term) (q k end : ℕ) → k < end → (head ++ col q (k + 1) ∷ []) ++ columns_from q (suc (k + 1)) (end - (k + 1)) ≡ head ++ columns_from q (suc k) (end - k)
columns-next head q k end l =
    append-one head (col q (k + 1)) (columns_from q (suc (k + 1)) (end - (k + 1)))
    ∙ ap (λ z. head ++ col q z ∷ columns_from q (suc z) (end - (k + 1))) (let e : k + 1 ≡ suc k = omega arith in e)
    ∙ ap (λ z. head ++ columns_from q (suc k) z) (let e : suc (end - (k + 1)) ≡ end - k = omega arith in e)

pub held-same : (b : ℕ) (ns : List Node) → holds b (numbers ns) ≡ has_box ns b
held-same b [] = refl
held-same b (n ∷ ns) = ap (λ t. (n.id == b) || t) (held-same b ns)

module _ (q : ℕ) (cells : List Term) where
  pub put-id : (ids : List ℕ) (y : Node) → (put_in ids q cells y).id ≡ y.id
  put-id ids y = elim (holds y.id ids) as (λ t. (λ (z : Node). z.id) (cond t (put_cells q cells y) y) ≡ y.id) [ true ↦ refl | false ↦ refl ]

  pub has-put : (ids : List ℕ) (b : ℕ) (g : QueryGraph) → HasBox b g → HasBox b (put_in_all ids q cells g)
  has-put ids b g h = has-map (put_in ids q cells) (put-id ids) g.boxes b ∙ h

  pub holds-one : (x : ℕ) (ids : List ℕ) (b : ℕ) → holds x (ids ++ b ∷ []) ≡ (holds x ids || (b == x))
  holds-one x [] b = or-none (b == x)
    where
      or-none : (t : Bool) → (t || false) ≡ t
      or-none true = refl
      or-none false = refl
  holds-one x (y ∷ ids) b = elim (y == x) as (λ t. (t || holds x (ids ++ b ∷ [])) ≡ ((t || holds x ids) || (b == x))) [ true ↦ refl | false ↦ holds-one x ids b ]

  -- another box stays
  same-other : (ids : List ℕ) (b : ℕ) (y : Node) → (b == y.id) ≡ false → put_in (ids ++ b ∷ []) q cells y ≡ put_in ids q cells y
  same-other ids b y e = ap (λ t. cond t (put_cells q cells y) y) (holds-one y.id ids b ∙ ap (λ t. holds y.id ids || t) e ∙ or-false (holds y.id ids))
    where
      or-false : (t : Bool) → (t || false) ≡ t
      or-false true = refl
      or-false false = refl

  same-others : (ids : List ℕ) (b : ℕ) (ns : List Node) → holds b (numbers ns) ≡ false → map (put_in (ids ++ b ∷ []) q cells) ns ≡ map (put_in ids q cells) ns
  same-others ids b [] h = refl
  same-others ids b (n ∷ ns) h =
      let k = or_parts (n.id == b) (holds b (numbers ns)) h in
      ap₂ (λ (x : Node) (y : List Node). x ∷ y) (same-other ids b n (eq-false-sym n.id b k.0)) (same-others ids b ns k.1)

  change-next : (ids : List ℕ) (b : ℕ) → holds b ids ≡ false → (ns : List Node) → EachOnce (numbers ns) → change (is_box b) (put_cells q cells) (map (put_in ids q cells) ns) ≡ map (put_in (ids ++ b ∷ []) q cells) ns
  change-next ids b h [] u = refl
  change-next ids b h (n ∷ ns) u = elim (cases_Bool (n.id == b)) [
    | inl e ↦ (
        let same : n.id ≡ b = eqb-true n.id b e in
        let as-is : put_in ids q cells n ≡ n = ap (λ t. cond t (put_cells q cells n) n) (ap (λ z. holds z ids) same ∙ h) in
        let now : put_in (ids ++ b ∷ []) q cells n ≡ put_cells q cells n = ap (λ t. cond t (put_cells q cells n) n) (holds-one n.id ids b ∙ ap (λ t. holds n.id ids || t) (eq-eqb b n.id (sym same)) ∙ or-true (holds n.id ids)) in
        ap (λ t. cond t (put_cells q cells (put_in ids q cells n) ∷ map (put_in ids q cells) ns) (put_in ids q cells n ∷ change (is_box b) (put_cells q cells) (map (put_in ids q cells) ns))) (ap (λ z. z == b) (put-id ids n) ∙ e)
        ∙ ap₂ (λ (x : Node) (y : List Node). x ∷ y) (ap (put_cells q cells) as-is ∙ sym now) (sym (same-others ids b ns (subst (λ z. holds z (numbers ns) ≡ false) same u.0))))
    | inr e ↦
        ap (λ t. cond t (put_cells q cells (put_in ids q cells n) ∷ map (put_in ids q cells) ns) (put_in ids q cells n ∷ change (is_box b) (put_cells q cells) (map (put_in ids q cells) ns))) (ap (λ z. z == b) (put-id ids n) ∙ e)
        ∙ ap₂ (λ (x : Node) (y : List Node). x ∷ y) (sym (same-other ids b n (eq-false-sym n.id b e))) (change-next ids b h ns u.1)
  ]
    where
      or-true : (t : Bool) → (t || true) ≡ true
      or-true true = refl
      or-true false = refl

  pub put-next : (ids : List ℕ) (b : ℕ) (g : QueryGraph) → EachOnce (numbers g.boxes) → holds b ids ≡ false → substitute b q cells (put_in_all ids q cells g) ≡ put_in_all (ids ++ b ∷ []) q cells g
  put-next ids b g u h = ap (λ (z : List Node). record g { boxes = z }) (change-next ids b h g.boxes u)

-- ---- a box below another one

pub found-below : (b : ℕ) (n : Node) (ns : List Node) → has_box ns b ≡ true → first (is_box b) (put_below (is_box b) n ns) ≡ first (is_box b) ns
found-below b n [] h = absurd (let z : ⊥ = cc in z)
found-below b n (y ∷ ns) h = elim (cases_Bool (y.id == b)) [
  | inl e ↦ ap (λ t. first (is_box b) (cond t (y ∷ (n ∷ ns)) (y ∷ put_below (is_box b) n ns))) e ∙ ap (λ t. cond t (Some y) (first (is_box b) (n ∷ ns))) e ∙ sym (ap (λ t. cond t (Some y) (first (is_box b) ns)) e)
  | inr e ↦ ap (λ t. first (is_box b) (cond t (y ∷ (n ∷ ns)) (y ∷ put_below (is_box b) n ns))) e ∙ ap (λ t. cond t (Some y) (first (is_box b) (put_below (is_box b) n ns))) e
      ∙ found-below b n ns (sym (ap (λ t. t || has_box ns b) e) ∙ h) ∙ sym (ap (λ t. cond t (Some y) (first (is_box b) ns)) e)
]

pub quants-below : (b : ℕ) (n : Node) (g : QueryGraph) → HasBox b g → quants_of b (with_box (Some b) n g) ≡ quants_of b g
quants-below b n g h = ap quants_in (found-below b n g.boxes h)
