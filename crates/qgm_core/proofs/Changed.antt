-- What is found in a graph where one box has changed.
use Rattle.std.proofs.Common.{ℕ, ◌==◌, ◌≡◌, ◌+◌, ◌-◌, ◌++◌, ◌||◌, arith, cond, Bool, true, false, List, [], ◌∷◌, Some, Option, get_or, map, option_map, refl, ap, sym, ◌∙◌, eqb-true, inl, inr, subst}
use Rattle.std.proofs.Math.ListN.{set}
use Rattle.std.proofs.lemmas.Bool.{cases_Bool}
use Rattle.std.specs.List.{list_any, remove}
use Rattle.qgm_core.specs.Boxes.{QueryGraph, has_box, is_box}
use Rattle.qgm_core.specs.Edits.{on_boxes, put_cells, spare_in, with_cond, with_conds, with_terms, without_cond}
use Rattle.list_laws.specs.Lists.{IsFirst, change, first, without}
use Rattle.qgm_core.specs.declared.node.Node.{Node}
use Rattle.qgm_core.specs.declared.parts.BoxParts.{BoxParts}
use Rattle.qgm_terms.specs.Conjuncts.{Conjuncts}
use Rattle.qgm_terms.specs.Substitution.{substituted, substituted_cond}
use Rattle.qgm_terms.specs.Terms.{Cond, Term}

-- which boxes there are
pub has-change : (p : Node → Bool) (f : Node → Node) (to : ℕ) (ns : List Node) → ((n : Node) → (f n).id ≡ n.id) → has_box (change p f ns) to ≡ has_box ns to
has-change p f to [] same = refl
has-change p f to (n ∷ ns) same =
    elim (p n) as (λ t. ◌≡◌ {A = Bool} (has_box (cond t (f n ∷ ns) (n ∷ change p f ns)) to) (has_box (n ∷ ns) to)) [
      | true ↦ ap (λ (b : ℕ). (b == to) || has_box ns to) (same n)
      | false ↦ ap (λ (b : Bool). (n.id == to) || b) (has-change p f to ns same)
    ]

-- two changes that are the same for the one that is found
pub change-same : {X : Type 0} (p : X → Bool) (f g : X → X) (xs : List X) → ((x : X) → first p xs ≡ Some x → f x ≡ g x) → change p f xs ≡ change p g xs
change-same p f g [] same = refl
change-same {X} p f g (x ∷ xs) same =
    elim (cases_Bool (p x)) [
      | inl t ↦ rw t (ap (λ (y : X). y ∷ xs) (same x (rw t refl)))
      | inr t ↦ rw t (ap (λ (ys : List X). x ∷ ys) (change-same p f g xs (λ y e. same y (rw t e))))
    ]

-- a graph whose box at a place is another one
pub edited : (p : Node → Bool) (f : Node → Node) (ns : List Node) (k : ℕ) (y d : Node) (g h : QueryGraph) → IsFirst p ns k → y ≡ f (get_or ns k d) → g.boxes ≡ ns → g ≡ h →
    record g { boxes = set ns k y } ≡ on_boxes (change p f) h
edited p f ns k y d g h at e same v =
    ap {B = QueryGraph} (λ (ms : List Node). record g { boxes = ms }) (at.3 f y d e ∙ sym (ap (λ (ms : List Node). change p f ms) same))
    ∙ ap {B = QueryGraph} (λ (m : QueryGraph). on_boxes (change p f) m) v

-- conditions that are the same, with room for as many
pub same_conds : (c d : Conjuncts) → c.items ≡ d.items → c.spare ≡ d.spare → c ≡ d
same_conds c d e f = ap {B = Conjuncts} (λ (is : List Cond). record { items = is; spare = c.spare }) e ∙ ap {B = Conjuncts} (λ (s : ℕ). record { items = d.items; spare = s }) f

-- cells put in place of columns in what is copied of the box, and then into it
pub terms-put : (b q : ℕ) (cells head : List Term) (conds : Conjuncts) (p : BoxParts) (ns : List Node) → Some p ≡ option_map (λ n. n.parts) (first (is_box b) ns) →
    conds ≡ record p.conds { items = map (substituted_cond q cells) p.conds.items } → head ≡ map (substituted q cells) p.head →
    change (is_box b) (with_terms conds head) ns ≡ change (is_box b) (put_cells q cells) ns
terms-put b q cells head conds p ns e f g =
    change-same (is_box b) (with_terms conds head) (put_cells q cells) ns
    (λ n at.
    let h : Some p ≡ Some n.parts = e ∙ ap (λ (o : Option Node). option_map (λ n. n.parts) o) at in
    let k : p ≡ n.parts = cc in
    rw (f, g, k) refl)

-- the room of another box, or of the same
pub spare-without : (b to i : ℕ) (ns : List Node) → spare_in (first (is_box to) (change (is_box b) (without_cond i) ns)) ≡ spare_in (first (is_box to) ns)
spare-without b to i [] = refl
spare-without b to i (n ∷ ns) =
    elim (is_box b n) as (λ t. ◌≡◌ {A = ℕ} (spare_in (first (is_box to) (cond t (without_cond i n ∷ ns) (n ∷ change (is_box b) (without_cond i) ns)))) (spare_in (first (is_box to) (n ∷ ns)))) [
      | true ↦ (elim (n.id == to) as (λ t. ◌≡◌ {A = ℕ} (spare_in (cond t (Some (without_cond i n)) (first (is_box to) ns))) (spare_in (cond t (Some n) (first (is_box to) ns)))) [
        | true ↦ refl
        | false ↦ refl
      ])
      | false ↦ (elim (n.id == to) as (λ t. ◌≡◌ {A = ℕ} (spare_in (cond t (Some n) (first (is_box to) (change (is_box b) (without_cond i) ns)))) (spare_in (cond t (Some n) (first (is_box to) ns)))) [
        | true ↦ refl
        | false ↦ spare-without b to i ns
      ])
    ]

-- which boxes there are without another one
pub has-without : (c d : ℕ) (ns : List Node) → (c == d) ≡ false → has_box (without (is_box c) ns) d ≡ has_box ns d
has-without c d [] apart = refl
has-without c d (n ∷ ns) apart =
    elim (cases_Bool (n.id == c)) [
      | inl t ↦ (
          let e : n.id ≡ c = eqb-true n.id c t in
          ap (λ (b : Bool). has_box (cond b ns (n ∷ without (is_box c) ns)) d) t ∙ sym (ap (λ (b : Bool). b || has_box ns d) (ap (λ (i : ℕ). i == d) e ∙ apart)))
      | inr t ↦ ap (λ (b : Bool). has_box (cond b ns (n ∷ without (is_box c) ns)) d) t ∙ ap (λ (b : Bool). (n.id == d) || b) (has-without c d ns apart)
    ]

-- one that passes is found
pub found : {X : Type 0} (p : X → Bool) (xs : List X) → list_any p xs ≡ true → (x : X) × (first p xs ≡ Some x)
found p [] h = absurd (let q : ⊥ = cc in q)
found {X} p (x ∷ xs) h =
    elim (cases_Bool (p x)) [
      | inl t ↦ (x, ap (λ (b : Bool). cond b (Some x) (first p xs)) t)
      | inr t ↦ (
          let k = found p xs (subst (λ (b : Bool). (b || list_any p xs) ≡ true) t h) in
          (k.0, ap (λ (b : Bool). cond b (Some x) (first p xs)) t ∙ k.1))
    ]

-- a condition that is taken out of a box
pub cond-taken : (b i j : ℕ) (ns : List Node) (n : Node) (cs : Conjuncts) → IsFirst (is_box b) ns j → n ≡ get_or ns j n → cs.items ≡ remove n.parts.conds.items i → cs.spare ≡ n.parts.conds.spare →
    set ns j (with_conds cs n) ≡ change (is_box b) (without_cond i) ns
cond-taken b i j ns n cs at e f g =
    at.3 (without_cond i) (with_conds cs n) n (ap (λ (ds : Conjuncts). with_conds ds n) (same_conds cs _ f g) ∙ ap (without_cond i) e)

-- one that is put into a box
pub cond-put : (b k : ℕ) (t : Cond) (ns : List Node) (n : Node) (cs : Conjuncts) → IsFirst (is_box b) ns k → n ≡ get_or ns k n → cs.items ≡ n.parts.conds.items ++ t ∷ [] → cs.spare + 1 ≡ n.parts.conds.spare →
    set ns k (with_conds cs n) ≡ change (is_box b) (with_cond t) ns
cond-put b k t ns n cs at e f g =
    let s : cs.spare ≡ n.parts.conds.spare - 1 = omega (arith, g) in
    at.3 (with_cond t) (with_conds cs n) n (ap (λ (ds : Conjuncts). with_conds ds n) (same_conds cs _ f s) ∙ ap (with_cond t) e)
