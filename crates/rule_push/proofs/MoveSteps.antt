-- The steps put a conjunct into one box and take one from another.
use Rattle.std.proofs.Common.{ℕ, ◌==◌, ◌≡◌, cond, Bool, false, List, ◌∷◌, ◌++◌, map, filter, length, refl, sym, ap, ap₂, subst, ◌∙◌, eqb-true, inl, inr, []}
use Rattle.std.specs.List.{remove}
use Rattle.std.proofs.lemmas.Bool.{cases_Bool}
use Rattle.qgm_core.specs.Boxes.{Ordered, QueryGraph, is_box}
use Rattle.qgm_core.specs.Edits.{compact, with_terms}
use Rattle.qgm_core.specs.Free.{marked, reached}
use Rattle.list_laws.specs.Lists.{In, change, holds}
use Rattle.qgm_core.specs.declared.node.Node.{Node}
use Rattle.qgm_core.specs.declared.owned.OwnedQuant.{OwnedQuant}
use Rattle.qgm_terms.specs.Terms.{Cond}
use Rattle.qgm_edit_laws.specs.Conditioned.{conditioned}
use Rattle.qgm_edit_laws.proofs.Edits.{once-each}
use Rattle.qgm_edit_laws.proofs.OneBox.{at, change-at, ordered-map, ranked}
use Rattle.qgm_edit_laws.proofs.PartForms.{at-all}
use Rattle.qgm_edit_laws.proofs.Ranks.{same-box}
use Rattle.rule_push.specs.Moves.{arms_plan, arms_steps, push_plan, push_steps}
use Rattle.qgm_edit_laws.specs.ConjunctEdits.{put_conjunct, with_conjuncts, more}
use Rattle.list_laws.proofs.Membership.{eq-false-sym, map-in}

reached-same : (f : Node → Node) → ((y : Node) → (f y).id ≡ y.id) → ((y : Node) → (f y).quants ≡ y.quants) → (ns : List Node) (marks : List ℕ) → reached marks (map f ns) ≡ reached marks ns
reached-same f id quants [] marks = refl
reached-same f id quants (n ∷ ns) marks = reached-same f id quants ns (marked marks (f n)) ∙ ap (λ z. reached z ns) (ap₂ (λ (i : ℕ) (rs : List OwnedQuant). marked marks (record n { id = i; quants = rs })) (id n) (quants n))

remove-mid : {X : Type 0} (ps : List X) (p : X) (qs : List X) → remove (ps ++ p ∷ qs) (length ps) ≡ ps ++ qs
remove-mid [] p qs = refl
remove-mid (x ∷ ps) p qs = ap (λ z. x ∷ z) (remove-mid ps p qs)

-- a box found by its number
module _ (bs : List Node) (ordered : Ordered bs) (n : Node) (in-n : In n bs) (f h : Node → Node) (same : f n ≡ h n) where
  pointwise : (ns : List Node) → ((y : Node) → In y ns → In y bs) → map (at n.id f) ns ≡ map (at n.id h) ns
  pointwise [] sub = refl
  pointwise (y ∷ ns) sub = ap₂ (λ (z : Node) (zs : List Node). z ∷ zs) (elim (cases_Bool (y.id == n.id)) [
    | inr e ↦ ap (λ (t : Bool). cond t (f y) y) e ∙ sym (ap (λ (t : Bool). cond t (h y) y) e)
    | inl t ↦ (
        let s : y ≡ n = same-box bs y n ordered (sub y (inl refl)) in-n (eqb-true y.id n.id t) in
        ap (λ (t : Bool). cond t (f y) y) t ∙ (ap f s ∙ same ∙ sym (ap h s)) ∙ sym (ap (λ (t : Bool). cond t (h y) y) t))
  ]) (pointwise ns (λ x i. sub x (inr i)))

  changed : change (is_box n.id) f bs ≡ map (at n.id h) bs
  changed = change-at n.id f bs (once-each bs ordered) ∙ pointwise bs (λ y i. i)

module _ (g : QueryGraph) (ordered : Ordered g.boxes) (ordered' : (n : Node) (p : Cond) → Ordered (put_conjunct n p g).boxes) (b n : Node) (in-b : In b g.boxes) (in-n : In n g.boxes) (apart : (b.id == n.id) ≡ false) (ps : List Cond) (p : Cond) (qs : List Cond) (conds : b.parts.conds.items ≡ ps ++ p ∷ qs) (p' : Cond) where
  abbrev bs : List Node
  bs = g.boxes

  abbrev a : Node → Node
  a = at n.id (more p')

  abbrev d : Node → Node
  d = at b.id (conditioned (ps ++ qs))

  first : change (is_box n.id) (with_terms (record n.parts.conds { items = n.parts.conds.items ++ p' ∷ [] }) n.parts.head) bs ≡ map (at n.id (more p')) bs
  first = changed bs ordered n in-n (with_terms (record n.parts.conds { items = n.parts.conds.items ++ p' ∷ [] }) n.parts.head) (more p') refl

  in-b' : In b (map (at n.id (more p')) bs)
  in-b' = subst (λ z. In z (map (at n.id (more p')) bs)) (ap (λ (t : Bool). cond t (more p' b) b) apart) (map-in (at n.id (more p')) b bs in-b)

  second : change (is_box b.id) (with_terms (record b.parts.conds { items = remove b.parts.conds.items (length ps) }) b.parts.head) (map (at n.id (more p')) bs) ≡ map (at b.id (conditioned (ps ++ qs))) (map (at n.id (more p')) bs)
  second = changed (map (at n.id (more p')) bs) (ordered' n p') b in-b' (with_terms (record b.parts.conds { items = remove b.parts.conds.items (length ps) }) b.parts.head) (conditioned (ps ++ qs))
      (ap (λ (items : List Cond). conditioned items b) (ap (λ (items : List Cond). remove items (length ps)) conds ∙ remove-mid ps p qs))

  reached-is : reached (g.root ∷ []) bs ≡ reached (g.root ∷ []) (map d (map a bs))
  reached-is =
      sym (reached-same d (λ y. at-all b.id (conditioned (ps ++ qs)) (λ z. z.id) (λ z. refl) y) (λ y. at-all b.id (conditioned (ps ++ qs)) (λ z. z.quants) (λ z. refl) y) (map a bs) (g.root ∷ [])
      ∙ reached-same a (λ y. at-all n.id (more p') (λ z. z.id) (λ z. refl) y) (λ y. at-all n.id (more p') (λ z. z.quants) (λ z. refl) y) bs (g.root ∷ []))

  pub steps-push : push_steps (push_plan b (length ps) n p') g ≡ compact (with_conjuncts b (ps ++ qs) (put_conjunct n p' g))
  steps-push = ap₂ (λ (marks : List ℕ) (boxes : List Node). record g { boxes = filter (λ (y : Node). holds y.id marks) boxes }) reached-is
      (ap (change (is_box b.id) (with_terms (record b.parts.conds { items = remove b.parts.conds.items (length ps) }) b.parts.head)) first ∙ second)

-- the order stays
pub ordered-put : (g : QueryGraph) → Ordered g.boxes → (n : Node) (p : Cond) → Ordered (put_conjunct n p g).boxes
ordered-put g o n p = ordered-map (at n.id (more p)) (λ y. at-all n.id (more p) (λ z. z.id) (λ z. refl) y) g.boxes o (λ y r i j. ranked g.boxes o y r i (subst (λ (rs : List OwnedQuant). In r rs) (at-all n.id (more p) (λ z. z.quants) (λ z. refl) y) j))

-- two boxes get one each
module _ (g : QueryGraph) (ordered : Ordered g.boxes) (b n m : Node) (in-b : In b g.boxes) (in-n : In n g.boxes) (in-m : In m g.boxes) (b-not-n : (b.id == n.id) ≡ false) (b-not-m : (b.id == m.id) ≡ false) (n-not-m : (n.id == m.id) ≡ false)
    (ps : List Cond) (p : Cond) (qs : List Cond) (conds : b.parts.conds.items ≡ ps ++ p ∷ qs) (p1 p2 : Cond) where
  abbrev n-more : Node → Node
  n-more = at n.id (more p1)

  abbrev m-more : Node → Node
  m-more = at m.id (more p2)

  abbrev less : Node → Node
  less = at b.id (conditioned (ps ++ qs))

  abbrev bs1 : List Node
  bs1 = map n-more g.boxes

  abbrev bs2 : List Node
  bs2 = map m-more bs1

  ordered-1 : Ordered bs1
  ordered-1 = ordered-put g ordered n p1

  ordered-2 : Ordered bs2
  ordered-2 = ordered-put (put_conjunct n p1 g) ordered-1 m p2

  n-got : change (is_box n.id) (with_terms (record n.parts.conds { items = n.parts.conds.items ++ p1 ∷ [] }) n.parts.head) g.boxes ≡ bs1
  n-got = changed g.boxes ordered n in-n (with_terms (record n.parts.conds { items = n.parts.conds.items ++ p1 ∷ [] }) n.parts.head) (more p1) refl

  in-m1 : In m bs1
  in-m1 = subst (λ z. In z bs1) (ap (λ (t : Bool). cond t (more p1 m) m) (eq-false-sym n.id m.id n-not-m)) (map-in n-more m g.boxes in-m)

  m-got : change (is_box m.id) (with_terms (record m.parts.conds { items = m.parts.conds.items ++ p2 ∷ [] }) m.parts.head) bs1 ≡ bs2
  m-got = changed bs1 ordered-1 m in-m1 (with_terms (record m.parts.conds { items = m.parts.conds.items ++ p2 ∷ [] }) m.parts.head) (more p2) refl

  in-b1 : In b bs1
  in-b1 = subst (λ z. In z bs1) (ap (λ (t : Bool). cond t (more p1 b) b) b-not-n) (map-in n-more b g.boxes in-b)

  in-b2 : In b bs2
  in-b2 = subst (λ z. In z bs2) (ap (λ (t : Bool). cond t (more p2 b) b) b-not-m) (map-in m-more b bs1 in-b1)

  b-lost : change (is_box b.id) (with_terms (record b.parts.conds { items = remove b.parts.conds.items (length ps) }) b.parts.head) bs2 ≡ map less bs2
  b-lost = changed bs2 ordered-2 b in-b2 (with_terms (record b.parts.conds { items = remove b.parts.conds.items (length ps) }) b.parts.head) (conditioned (ps ++ qs))
      (ap (λ (items : List Cond). conditioned items b) (ap (λ (items : List Cond). remove items (length ps)) conds ∙ remove-mid ps p qs))

  reached-after : reached (g.root ∷ []) g.boxes ≡ reached (g.root ∷ []) (map less bs2)
  reached-after =
      sym (reached-same less (λ y. at-all b.id (conditioned (ps ++ qs)) (λ z. z.id) (λ z. refl) y) (λ y. at-all b.id (conditioned (ps ++ qs)) (λ z. z.quants) (λ z. refl) y) bs2 (g.root ∷ [])
      ∙ reached-same m-more (λ y. at-all m.id (more p2) (λ z. z.id) (λ z. refl) y) (λ y. at-all m.id (more p2) (λ z. z.quants) (λ z. refl) y) bs1 (g.root ∷ [])
      ∙ reached-same n-more (λ y. at-all n.id (more p1) (λ z. z.id) (λ z. refl) y) (λ y. at-all n.id (more p1) (λ z. z.quants) (λ z. refl) y) g.boxes (g.root ∷ []))

  pub steps-both : arms_steps (arms_plan b (length ps) n p1 m p2) g ≡ compact (with_conjuncts b (ps ++ qs) (put_conjunct m p2 (put_conjunct n p1 g)))
  steps-both = ap₂ (λ (marks : List ℕ) (boxes : List Node). record g { boxes = filter (λ (y : Node). holds y.id marks) boxes }) reached-after
      (ap (λ z. change (is_box b.id) (with_terms (record b.parts.conds { items = remove b.parts.conds.items (length ps) }) b.parts.head) (change (is_box m.id) (with_terms (record m.parts.conds { items = m.parts.conds.items ++ p2 ∷ [] }) m.parts.head) z)) n-got
      ∙ ap (change (is_box b.id) (with_terms (record b.parts.conds { items = remove b.parts.conds.items (length ps) }) b.parts.head)) m-got
      ∙ b-lost)
