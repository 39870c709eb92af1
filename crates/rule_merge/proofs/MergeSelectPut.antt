-- Boxes get their terms one by one: each has its own.
use Rattle.std.proofs.Common.{ℕ, ◌==◌, ◌≡◌, cond, Bool, true, false, List, [], ◌∷◌, ◌++◌, filter, map, refl, sym, ap, subst, ◌∙◌, inl, inr}
use Rattle.std.proofs.lemmas.Bool.{cases_Bool, eq-eqb}
use Rattle.qgm_core.specs.Boxes.{has_box, is_box}
use Rattle.qgm_core.specs.Edits.{with_terms}
use Rattle.list_laws.specs.Lists.{In, change}
use Rattle.qgm_core.specs.declared.node.Node.{Node}
use Rattle.qgm_edit_laws.proofs.Edits.{OnceEach, boxes_without}
use Rattle.rule_merge.specs.MergeSelectSteps.{put_all, put_one}
use Rattle.rule_merge.specs.declared.merge_select.action.NewTerms.{NewTerms}
use Rattle.qgm_core.proofs.Reaching.{in-has}
use Rattle.list_laws.proofs.Membership.{in-filter, in-map, other}

put-skip : (n : Node) (ts : List NewTerms) (bs : List Node) → ((t : NewTerms) → In t ts → (n.id == t.at) ≡ false) → put_all ts (n ∷ bs) ≡ n ∷ put_all ts bs
put-skip n [] bs k = refl
put-skip n (t ∷ ts) bs k =
    ap (put_one t) (put-skip n ts bs (λ s i. k s (inr i)))
    ∙ ap (λ z. cond z (with_terms t.conds t.head n ∷ put_all ts bs) (n ∷ change (is_box t.at) (with_terms t.conds t.head) (put_all ts bs))) (k t (inl refl))

pub put-last : (ts : List NewTerms) (t : NewTerms) (bs : List Node) → put_all (ts ++ t ∷ []) bs ≡ put_all ts (put_one t bs)
put-last [] t bs = refl
put-last (s ∷ ts) t bs = ap (put_one s) (put-last ts t bs)

abbrev terms : (Node → NewTerms) → (Node → Node) → Node → Node
terms h f n = with_terms (h n).conds (h n).head (f n)

-- a box that is changed by f, and that gets the terms h where it passes p
abbrev pub after : (Node → Bool) → (Node → NewTerms) → (Node → Node) → Node → Node
after p h f n = cond (p n) (terms h f n) (f n)

-- of the boxes, but for c, that are changed by f, those that pass p get the terms h
module _ (p : Node → Bool) (h : Node → NewTerms) (own : (n : Node) → (h n).at ≡ n.id) (f : Node → Node) (same : (n : Node) → (f n).id ≡ n.id) (c : ℕ) where
  others : (n : Node) (ns : List Node) → has_box ns n.id ≡ false → (t : NewTerms) → In t (map h (filter p ns)) → (n.id == t.at) ≡ false
  others n ns o t i =
      let m = in-map h t (filter p ns) i in
      subst (λ z. (n.id == z) ≡ false) (sym (own m.0) ∙ ap (λ (z : NewTerms). z.at) m.1.1) (other (has_box ns) n.id m.0.id o (in-has m.0 ns (in-filter p m.0 ns m.1.0).0))

  pub put-each : (ns : List Node) → OnceEach ns → ((n : Node) → In n ns → (n.id == c) ≡ true → p n ≡ false) → put_all (map h (filter p ns)) (map f (boxes_without c ns)) ≡ map (after p h f) (boxes_without c ns)
  put-each [] o k = refl
  put-each (n ∷ ns) o k =
      let ts : List NewTerms = map h (filter p ns) in
      let left : List Node = boxes_without c ns in
      let rest : put_all ts (map f left) ≡ map (after p h f) left = put-each ns o.1 (λ m i. k m (inr i)) in
      elim (cases_Bool (n.id == c)) [
        | inl t ↦ (
            ap (λ z. put_all (map h (cond z (n ∷ filter p ns) (filter p ns))) (map f (boxes_without c (n ∷ ns)))) (k n (inl refl) t)
            ∙ ap (λ z. put_all ts (map f (cond z left (n ∷ left)))) t
            ∙ rest
            ∙ sym (ap (λ z. map (after p h f) (cond z left (n ∷ left))) t))
        | inr e ↦ (
            ap (λ z. put_all (map h (filter p (n ∷ ns))) (map f (cond z left (n ∷ left)))) e
            ∙ (elim (cases_Bool (p n)) [
              | inl t ↦ (
                  ap (λ z. put_all (map h (cond z (n ∷ filter p ns) (filter p ns))) (f n ∷ map f left)) t
                  ∙ ap (put_one (h n)) (put-skip (f n) ts (map f left) (λ s i. subst (λ z. (z == s.at) ≡ false) (sym (same n)) (others n ns o.0 s i)) ∙ ap (λ z. f n ∷ z) rest)
                  ∙ ap (λ z. cond z (terms h f n ∷ map (after p h f) left) (f n ∷ change (is_box (h n).at) (with_terms (h n).conds (h n).head) (map (after p h f) left))) (eq-eqb (f n).id (h n).at (same n ∙ sym (own n)))
                  ∙ sym (ap (λ z. cond z (terms h f n) (f n) ∷ map (after p h f) left) t))
              | inr q ↦ (
                  ap (λ z. put_all (map h (cond z (n ∷ filter p ns) (filter p ns))) (f n ∷ map f left)) q
                  ∙ put-skip (f n) ts (map f left) (λ s i. subst (λ z. (z == s.at) ≡ false) (sym (same n)) (others n ns o.0 s i))
                  ∙ ap (λ z. f n ∷ z) rest
                  ∙ sym (ap (λ z. cond z (terms h f n) (f n) ∷ map (after p h f) left) q))
            ])
            ∙ sym (ap (λ z. map (after p h f) (cond z left (n ∷ left))) e))
      ]
