-- Cells for a quantifier's columns change the boxes that read them, and no others.
use Rattle.std.proofs.Common.{ℕ, ◌≡◌, ◌==◌, cond, Bool, true, false, List, [], ◌∷◌, filter, refl, sym, ap, subst, ◌∙◌, ◌⊎◌, inl, inr, eqb-true}
use Rattle.std.proofs.lemmas.Bool.{cases_Bool}
use Rattle.qgm_terms.specs.Terms.{Term}
use Rattle.qgm_core.specs.Boxes.{QueryGraph, is_box, numbers}
use Rattle.qgm_core.specs.Edits.{put_cells, substitute}
use Rattle.qgm_core.specs.declared.node.Node.{Node}
use Rattle.list_laws.specs.Lists.{In, change, holds}
use Rattle.list_laws.proofs.Booleans.{clash}
use Rattle.list_laws.proofs.Membership.{in-holds}
use Rattle.rule_merge.specs.MergeSelectSteps.{reads_any}
use Rattle.rule_merge.proofs.MergeSelectUnread.{cells-none}
use Rattle.rule_feed.specs.FeedCode.{AreReaders, readers}

module _ (q : ℕ) where
  abbrev does : Node → Bool
  does n = reads_any q n.parts

  number-in : (n : Node) (ns : List Node) → In n ns → does n ≡ true → In n.id (readers q ns)
  number-in n [] i h = elim i [ ]
  number-in n (m ∷ ns) i h = elim (cases_Bool (does m)) [
    | inl t ↦ subst (λ (c : Bool). In n.id (numbers (cond c (m ∷ filter does ns) (filter does ns)))) (sym t) (elim i [ inl e ↦ inl (ap (λ (x : Node). x.id) e) | inr j ↦ inr (number-in n ns j h) ])
    | inr f ↦ subst (λ (c : Bool). In n.id (numbers (cond c (m ∷ filter does ns) (filter does ns)))) (sym f) (elim i [ inl e ↦ absurd (clash (does n) h (subst (λ (x : Node). does x ≡ false) e f)) | inr j ↦ number-in n ns j h ])
  ]

  -- those that are found are those that read them
  pub all-found : (ns : List Node) → AreReaders (readers q ns) q ns
  all-found ns n i h = elim (cases_Bool (does n)) [
    | inl t ↦ absurd (clash (holds n.id (readers q ns)) (in-holds n.id (readers q ns) (number-in n ns i t)) h)
    | inr f ↦ f
  ]

  module _ (ids : List ℕ) (b : ℕ) (cells : List Term) where
    stay : (ns : List Node) → AreReaders ids q ns → holds b ids ≡ false → change (is_box b) (put_cells q cells) ns ≡ ns
    stay [] r h = refl
    stay (n ∷ ns) r h = elim (cases_Bool (n.id == b)) [
      | inl t ↦ ap (λ (c : Bool). cond c (put_cells q cells n ∷ ns) (n ∷ change (is_box b) (put_cells q cells) ns)) t ∙ ap (λ (x : Node). x ∷ ns) (cells-none q cells n (r n (inl refl) (subst (λ (x : ℕ). holds x ids ≡ false) (sym (eqb-true n.id b t)) h)))
      | inr f ↦ ap (λ (c : Bool). cond c (put_cells q cells n ∷ ns) (n ∷ change (is_box b) (put_cells q cells) ns)) f ∙ ap (λ (xs : List Node). n ∷ xs) (stay ns (λ m i. r m (inr i)) h)
    ]

    -- a box that reads none stays
    pub others-stay : (g : QueryGraph) → AreReaders ids q g.boxes → holds b ids ≡ false → g ≡ substitute b q cells g
    others-stay g r h = ap (λ (xs : List Node). record g { boxes = xs }) (sym (stay g.boxes r h))

    moved-in : (n : Node) (ns : List Node) → In n (change (is_box b) (put_cells q cells) ns) → In n ns ⊎ (n.id ≡ b)
    moved-in n [] i = elim i [ ]
    moved-in n (m ∷ ns) i = elim (cases_Bool (m.id == b)) [
      | inl t ↦ elim (subst (λ (c : Bool). In n (cond c (put_cells q cells m ∷ ns) (m ∷ change (is_box b) (put_cells q cells) ns))) t i) [
        | inl e ↦ inr (sym (ap (λ (x : Node). x.id) e) ∙ eqb-true m.id b t)
        | inr j ↦ inl (inr j)
      ]
      | inr f ↦ elim (subst (λ (c : Bool). In n (cond c (put_cells q cells m ∷ ns) (m ∷ change (is_box b) (put_cells q cells) ns))) f i) [
        | inl e ↦ inl (inl e)
        | inr j ↦ elim (moved-in n ns j) [ inl k ↦ inl (inr k) | inr e ↦ inr e ]
      ]
    ]

    -- and where one of them has changed, the others still read none
    pub readers-stay : (g : QueryGraph) → AreReaders ids q g.boxes → holds b ids ≡ true → AreReaders ids q (substitute b q cells g).boxes
    readers-stay g r h n i f = elim (moved-in n g.boxes i) [
      | inl j ↦ r n j f
      | inr e ↦ absurd (clash (holds b ids) h (subst (λ (x : ℕ). holds x ids ≡ false) e f))
    ]
