-- Edits of one box, one after the other, come to one change of it.
use Rattle.std.proofs.Common.{ℕ, ◌==◌, ◌≡◌, ◌||◌, cond, Bool, true, false, List, [], ◌∷◌, ◌++◌, length, map, Some, refl, sym, ap, ap₂, subst, ◌∙◌, eqb-true, inl, inr}
use Rattle.std.specs.Prelude.{insert}
use Rattle.std.specs.List.{list_any}
use Rattle.std.proofs.lemmas.Bool.{cases_Bool, eq-eqb, or_parts}
use Rattle.qgm_core.specs.Boxes.{has_box, is_box, is_quant, owns}
use Rattle.list_laws.specs.Lists.{In, change, first, without}
use Rattle.qgm_core.specs.declared.node.Node.{Node}
use Rattle.qgm_core.specs.declared.owned.OwnedQuant.{OwnedQuant}
use Rattle.qgm_edit_laws.specs.Adds.{at}
use Rattle.qgm_edit_laws.proofs.Edits.{OnceEach}
use Rattle.qgm_edit_laws.proofs.OneBox.{at-absent}
use Rattle.list_laws.proofs.Booleans.{clash}

-- ---- lists

pub insert-last : {X : Type 0} (xs : List X) (y : X) → insert xs (length xs) y ≡ xs ++ y ∷ []
insert-last [] y = refl
insert-last (x ∷ xs) y = ap (λ zs. x ∷ zs) (insert-last xs y)

pub without-left : (q : ℕ) (us : List OwnedQuant) (r : OwnedQuant) (vs : List OwnedQuant) → list_any (is_quant q) us ≡ false → (r.id == q) ≡ true → without (is_quant q) (us ++ r ∷ vs) ≡ us ++ vs
without-left q [] r vs a h = ap (λ t. cond t vs (r ∷ without (is_quant q) vs)) h
without-left q (u ∷ us) r vs a h =
    let e = or_parts (u.id == q) (list_any (is_quant q) us) a in
    ap (λ t. cond t (us ++ r ∷ vs) (u ∷ without (is_quant q) (us ++ r ∷ vs))) e.0 ∙ ap (λ zs. u ∷ zs) (without-left q us r vs e.1 h)

pub change-last : (q : ℕ) (f : OwnedQuant → OwnedQuant) (us : List OwnedQuant) (r : OwnedQuant) → list_any (is_quant q) us ≡ false → (r.id == q) ≡ true → change (is_quant q) f (us ++ r ∷ []) ≡ us ++ f r ∷ []
change-last q f [] r a h = ap (λ t. cond t (f r ∷ []) (r ∷ [])) h
change-last q f (u ∷ us) r a h =
    let e = or_parts (u.id == q) (list_any (is_quant q) us) a in
    ap (λ t. cond t (f u ∷ (us ++ r ∷ [])) (u ∷ change (is_quant q) f (us ++ r ∷ []))) e.0 ∙ ap (λ zs. u ∷ zs) (change-last q f us r e.1 h)

pub absent-both : (q : ℕ) (us vs : List OwnedQuant) → list_any (is_quant q) us ≡ false → list_any (is_quant q) vs ≡ false → list_any (is_quant q) (us ++ vs) ≡ false
absent-both q [] vs a b = b
absent-both q (u ∷ us) vs a b = let e = or_parts (u.id == q) (list_any (is_quant q) us) a in ap₂ (λ s t. s || t) e.0 (absent-both q us vs e.1 b)

-- ---- one box among boxes

-- o is the one of its number among these, and the one that owns q
module _ (o : Node) (q : ℕ) where
  pub record Sole (ns : List Node) : Type 0 where
    pub once : OnceEach ns
    pub number : (y : Node) → In y ns → (y.id == o.id) ≡ true → y ≡ o
    pub owner : (y : Node) → In y ns → owns q y ≡ true → y ≡ o

  rest : (n : Node) (ns : List Node) → Sole (n ∷ ns) → Sole ns
  rest n ns s = record { once = s.once.1; number = λ y i. s.number y (inr i); owner = λ y i. s.owner y (inr i) }

  pub by-number : (f k : Node → Node) → ((y : Node) → (k y).id ≡ y.id) → (ns : List Node) → Sole ns → change (is_box o.id) f (map (at o.id k) ns) ≡ map (at o.id (λ y. f (k y))) ns
  by-number f k same [] s = refl
  by-number f k same (n ∷ ns) s = elim (cases_Bool (n.id == o.id)) [
    | inl t ↦ (
        let absent : has_box ns o.id ≡ false = subst (λ z. has_box ns z ≡ false) (eqb-true n.id o.id t) s.once.0 in
        ap (λ (b : Bool). change (is_box o.id) f (cond b (k n) n ∷ map (at o.id k) ns)) t
        ∙ ap (λ (b : Bool). cond b (f (k n) ∷ map (at o.id k) ns) (k n ∷ change (is_box o.id) f (map (at o.id k) ns))) (ap (λ z. z == o.id) (same n) ∙ t)
        ∙ ap (λ ms. f (k n) ∷ ms) (at-absent o.id k ns absent ∙ sym (at-absent o.id (λ y. f (k y)) ns absent))
        ∙ sym (ap (λ (b : Bool). cond b (f (k n)) n ∷ map (at o.id (λ y. f (k y))) ns) t))
    | inr e ↦
        ap (λ (b : Bool). change (is_box o.id) f (cond b (k n) n ∷ map (at o.id k) ns)) e
        ∙ ap (λ (b : Bool). cond b (f n ∷ map (at o.id k) ns) (n ∷ change (is_box o.id) f (map (at o.id k) ns))) e
        ∙ ap (λ ms. n ∷ ms) (by-number f k same ns (rest n ns s))
        ∙ sym (ap (λ (b : Bool). cond b (f (k n)) n ∷ map (at o.id (λ y. f (k y))) ns) e)
  ]

  pub by-owner : (f k : Node → Node) → owns q (k o) ≡ true → (ns : List Node) → Sole ns → change (owns q) f (map (at o.id k) ns) ≡ map (at o.id (λ y. f (k y))) ns
  by-owner f k own [] s = refl
  by-owner f k own (n ∷ ns) s = elim (cases_Bool (n.id == o.id)) [
    | inl t ↦ (
        let absent : has_box ns o.id ≡ false = subst (λ z. has_box ns z ≡ false) (eqb-true n.id o.id t) s.once.0 in
        let same : n ≡ o = s.number n (inl refl) t in
        ap (λ (b : Bool). change (owns q) f (cond b (k n) n ∷ map (at o.id k) ns)) t
        ∙ ap (λ (b : Bool). cond b (f (k n) ∷ map (at o.id k) ns) (k n ∷ change (owns q) f (map (at o.id k) ns))) (ap (λ (z : Node). owns q (k z)) same ∙ own)
        ∙ ap (λ ms. f (k n) ∷ ms) (at-absent o.id k ns absent ∙ sym (at-absent o.id (λ y. f (k y)) ns absent))
        ∙ sym (ap (λ (b : Bool). cond b (f (k n)) n ∷ map (at o.id (λ y. f (k y))) ns) t))
    | inr e ↦ (
        let no : owns q n ≡ false = elim (cases_Bool (owns q n)) [ inr x ↦ x | inl x ↦ absurd (clash (n.id == o.id) (eq-eqb n.id o.id (ap (λ (z : Node). z.id) (s.owner n (inl refl) x))) e) ] in
        ap (λ (b : Bool). change (owns q) f (cond b (k n) n ∷ map (at o.id k) ns)) e
        ∙ ap (λ (b : Bool). cond b (f n ∷ map (at o.id k) ns) (n ∷ change (owns q) f (map (at o.id k) ns))) no
        ∙ ap (λ ms. n ∷ ms) (by-owner f k own ns (rest n ns s))
        ∙ sym (ap (λ (b : Bool). cond b (f (k n)) n ∷ map (at o.id (λ y. f (k y))) ns) e))
  ]

  pub as-is : (ns : List Node) → map (at o.id (λ (y : Node). y)) ns ≡ ns
  as-is [] = refl
  as-is (n ∷ ns) = ap₂ (λ x xs. x ∷ xs) (elim (n.id == o.id) as (λ b. cond b n n ≡ n) [ true ↦ refl | false ↦ refl ]) (as-is ns)

  -- changes that give the same of o are the same
  pub at-one : (f k : Node → Node) → f o ≡ k o → (ns : List Node) → Sole ns → map (at o.id f) ns ≡ map (at o.id k) ns
  at-one f k h [] s = refl
  at-one f k h (n ∷ ns) s = ap₂ (λ x xs. x ∷ xs) (elim (cases_Bool (n.id == o.id)) [
    | inl t ↦ ap (λ (b : Bool). cond b (f n) n) t ∙ subst (λ (z : Node). f z ≡ k z) (sym (s.number n (inl refl) t)) h ∙ sym (ap (λ (b : Bool). cond b (k n) n) t)
    | inr e ↦ ap (λ (b : Bool). cond b (f n) n) e ∙ sym (ap (λ (b : Bool). cond b (k n) n) e)
  ]) (at-one f k h ns (rest n ns s))

  pub first-owner : (ns : List Node) → Sole ns → In o ns → owns q o ≡ true → first (owns q) ns ≡ Some o
  first-owner [] s i h = elim i [ ]
  first-owner (n ∷ ns) s i h = elim (cases_Bool (owns q n)) [
    | inl t ↦ ap (λ (b : Bool). cond b (Some n) (first (owns q) ns)) t ∙ ap (λ (z : Node). Some z) (s.owner n (inl refl) t)
    | inr e ↦ elim i [
      | inl x ↦ absurd (clash (owns q n) (subst (λ (z : Node). owns q z ≡ true) (sym x) h) e)
      | inr j ↦ ap (λ (b : Bool). cond b (Some n) (first (owns q) ns)) e ∙ first-owner ns (rest n ns s) j h
    ]
  ]
