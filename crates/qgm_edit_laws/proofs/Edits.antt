-- What edits of lists of boxes keep.
use Rattle.std.specs.Prelude.{⊤}
use Rattle.std.proofs.Common.{ℕ, suc, ◌==◌, ◌≡◌, ◌||◌, ◌+◌, ◌≤◌, ◌<◌, cond, Bool, true, false, List, [], ◌∷◌, ◌++◌, map, length, refl, sym, ap, subst, ◌∙◌, eqb-true, ◌⊎◌, inl, inr, arith}
use Rattle.std.specs.List.{list_any, flat_map}
use Rattle.std.proofs.lemmas.Bool.{cases_Bool, eq-eqb, or_cases, or_left, or_parts, or_right}
use Rattle.qgm_core.specs.declared.node.Node.{Node}
use Rattle.qgm_core.specs.declared.owned.OwnedQuant.{OwnedQuant}
use Rattle.qgm_core.specs.Boxes.{Ordered, has_box, is_box}
use Rattle.list_laws.specs.Lists.{In, times, without}
use Rattle.qgm_edit_laws.proofs.Ranks.{has-in, place}
use Rattle.qgm_core.proofs.Reaching.{in-has}
use Rattle.list_laws.proofs.Counting.{in-times, times-append}
use Rattle.list_laws.proofs.Membership.{all-from, any-none, any-not, eq-false-sym, eq-itself, in-map, map-in, other}
use Rattle.list_laws.proofs.Booleans.{clash}

pub map-append : {X Y : Type 0} (f : X → Y) (xs ys : List X) → map f (xs ++ ys) ≡ map f xs ++ map f ys
map-append f [] ys = refl
map-append f (x ∷ xs) ys = ap (λ t. f x ∷ t) (map-append f xs ys)

-- BOXES DROPPED

-- without the boxes of this number
abbrev pub boxes_without : ℕ → List Node → List Node
boxes_without b [] = []
boxes_without b (n ∷ ns) = cond (n.id == b) (boxes_without b ns) (n ∷ boxes_without b ns)

pub in-without : (c : ℕ) (n : Node) (ns : List Node) → In n (boxes_without c ns) → In n ns × ((n.id == c) ≡ false)
in-without c n [] i = elim i [ ]
in-without c n (m ∷ ns) i = elim (m.id == c) as (λ t. (m.id == c) ≡ t → In n (cond t (boxes_without c ns) (m ∷ boxes_without c ns)) → In n (m ∷ ns) × ((n.id == c) ≡ false)) [
  | true ↦ λ t i. (let r = in-without c n ns i in (inr r.0, r.1))
  | false ↦ λ t i. elim i [ inl e ↦ (inl e, subst (λ (z : Node). (z.id == c) ≡ false) e t) | inr j ↦ (let r = in-without c n ns j in (inr r.0, r.1)) ]
] refl i

pub without-in : (c : ℕ) (n : Node) (ns : List Node) → In n ns → (n.id == c) ≡ false → In n (boxes_without c ns)
without-in c n [] i f = elim i [ ]
without-in c n (m ∷ ns) i f = elim (m.id == c) as (λ t. (m.id == c) ≡ t → In n (cond t (boxes_without c ns) (m ∷ boxes_without c ns))) [
  | true ↦ λ t. elim i [ inl e ↦ absurd (clash (n.id == c) (subst (λ (z : Node). (z.id == c) ≡ true) e t) f) | inr j ↦ without-in c n ns j f ]
  | false ↦ λ t. elim i [ inl e ↦ inl e | inr j ↦ inr (without-in c n ns j f) ]
] refl

pub without-absent : (c : ℕ) (ns : List Node) → has_box ns c ≡ false → boxes_without c ns ≡ ns
without-absent c [] h = refl
without-absent c (m ∷ ns) h = let ps = or_parts (m.id == c) (has_box ns c) h in ap (λ t. cond t (boxes_without c ns) (m ∷ boxes_without c ns)) ps.0 ∙ ap (λ z. m ∷ z) (without-absent c ns ps.1)

-- in a graph there is one
pub without-one : (c : ℕ) (ns : List Node) → Ordered ns → boxes_without c ns ≡ without (is_box c) ns
without-one c [] o = refl
without-one c (m ∷ ns) o = elim (cases_Bool (m.id == c)) [
  | inl t ↦ ap (λ t. cond t (boxes_without c ns) (m ∷ boxes_without c ns)) t ∙ without-absent c ns (subst (λ z. has_box ns z ≡ false) (eqb-true m.id c t) o.0) ∙ sym (ap (λ t. cond t ns (m ∷ without (is_box c) ns)) t)
  | inr f ↦ ap (λ t. cond t (boxes_without c ns) (m ∷ boxes_without c ns)) f ∙ ap (λ z. m ∷ z) (without-one c ns o.2) ∙ sym (ap (λ t. cond t ns (m ∷ without (is_box c) ns)) f)
]

pub times-without : (f : Node → List ℕ) (x : ℕ) (c : Node) (ns : List Node) → Ordered ns → In c ns → times x (flat_map f (boxes_without c.id ns)) + times x (f c) ≡ times x (flat_map f ns)
times-without f x c [] o i = elim i [ ]
times-without f x c (m ∷ ns) o i = elim (cases_Bool (m.id == c.id)) [
  | inl t ↦ (
      let same : m ≡ c = (elim i [ inl e ↦ e | inr j ↦ absurd (clash (has_box ns m.id) (subst (λ z. has_box ns z ≡ true) (sym (eqb-true m.id c.id t)) (in-has c ns j)) o.0) ]) in
      let gone : boxes_without c.id (m ∷ ns) ≡ ns = ap (λ t. cond t (boxes_without c.id ns) (m ∷ boxes_without c.id ns)) t ∙ without-absent c.id ns (subst (λ (z : Node). has_box ns z.id ≡ false) same o.0) in
      let a : times x (flat_map f (boxes_without c.id (m ∷ ns))) ≡ times x (flat_map f ns) = ap (λ z. times x (flat_map f z)) gone in
      let b = times-append x (f m) (flat_map f ns) in
      let d : times x (f m) ≡ times x (f c) = ap (λ z. times x (f z)) same in
      omega arith)
  | inr g ↦ (
      let j : In c ns = (elim i [ inl e ↦ absurd (clash (m.id == c.id) (eq-eqb m.id c.id (ap (λ (z : Node). z.id) e)) g) | inr j ↦ j ]) in
      let kept : boxes_without c.id (m ∷ ns) ≡ m ∷ boxes_without c.id ns = ap (λ t. cond t (boxes_without c.id ns) (m ∷ boxes_without c.id ns)) g in
      let a : times x (flat_map f (boxes_without c.id (m ∷ ns))) ≡ times x (flat_map f (m ∷ boxes_without c.id ns)) = ap (λ z. times x (flat_map f z)) kept in
      let b = times-append x (f m) (flat_map f ns) in
      let d = times-append x (f m) (flat_map f (boxes_without c.id ns)) in
      let e = times-without f x c ns o.2 j in
      omega arith)
]

pub ordered-without : (c : ℕ) (ns : List Node) → ((b : ℕ) → has_box (boxes_without c ns) b ≡ true → has_box ns b ≡ true)
ordered-without c ns b h = let r = has-in b (boxes_without c ns) h in subst (λ z. has_box ns z ≡ true) r.1.1 (in-has r.0 ns (in-without c r.0 ns r.1.0).0)

-- each box once
abbrev pub OnceEach : List Node → Type 0
OnceEach [] = ⊤
OnceEach (n ∷ ns) = (has_box ns n.id ≡ false) × OnceEach ns

pub once-each : (ns : List Node) → Ordered ns → OnceEach ns
once-each [] o = tt
once-each (n ∷ ns) o = (o.0, once-each ns o.2)

pub once-without : (c : ℕ) (ns : List Node) → OnceEach ns → OnceEach (boxes_without c ns)
once-without c [] o = tt
once-without c (n ∷ ns) o = elim (n.id == c) as (λ t. OnceEach (cond t (boxes_without c ns) (n ∷ boxes_without c ns))) [
  | true ↦ once-without c ns o.1
  | false ↦ (any-not (is_box n.id) (boxes_without c ns) (λ y i. any-none (is_box n.id) y ns o.0 (in-without c y ns i).0), once-without c ns o.1)
]

-- ONE BOX CHANGED
pub times-same : (f : Node → List ℕ) (g : Node → Node) (x : ℕ) (ns : List Node) → ((y : Node) → In y ns → f (g y) ≡ f y) → times x (flat_map f (map g ns)) ≡ times x (flat_map f ns)
times-same f g x [] h = refl
times-same f g x (m ∷ ns) h =
    let a = times-append x (f (g m)) (flat_map f (map g ns)) in
    let b = times-append x (f m) (flat_map f ns) in
    let c : times x (f (g m)) ≡ times x (f m) = ap (times x) (h m (inl refl)) in
    let d = times-same f g x ns (λ y i. h y (inr i)) in
    omega arith

pub times-change : (f : Node → List ℕ) (g : Node → Node) (x : ℕ) (b : Node) (ns : List Node) → OnceEach ns → In b ns → ((y : Node) → In y ns → (y.id == b.id) ≡ false → f (g y) ≡ f y)
    → times x (flat_map f (map g ns)) + times x (f b) ≡ times x (flat_map f ns) + times x (f (g b))
times-change f g x b [] o i h = elim i [ ]
times-change f g x b (m ∷ ns) o i h =
    let a = times-append x (f (g m)) (flat_map f (map g ns)) in
    let c = times-append x (f m) (flat_map f ns) in
    elim i [
      | inl e ↦ (
          let d = times-same f g x ns (λ y j. h y (inr j) (eq-false-sym b.id y.id (other (has_box ns) b.id y.id (subst (λ (z : Node). has_box ns z.id ≡ false) e o.0) (in-has y ns j)))) in
          let k : times x (f m) ≡ times x (f b) = ap (λ z. times x (f z)) e in
          let l : times x (f (g m)) ≡ times x (f (g b)) = ap (λ z. times x (f (g z))) e in
          omega arith)
      | inr j ↦ (
          let d = times-change f g x b ns o.1 j (λ y k. h y (inr k)) in
          let k : times x (f (g m)) ≡ times x (f m) = ap (times x) (h m (inl refl) (other (has_box ns) m.id b.id o.0 (in-has b ns j))) in
          omega arith)
    ]

-- ORDER: boxes dropped and quantifiers changed, so that each still ranges over a box behind
pub ordered-edit : (g : Node → Node) (c : ℕ) → ((y : Node) → (g y).id ≡ y.id) → (ns : List Node) → Ordered ns
    → ((y : Node) (r : OwnedQuant) → In y ns → (y.id == c) ≡ false → In r (g y).quants → (has_box ns r.over ≡ true) × (place ns y.id < place ns r.over) × ((r.over == c) ≡ false))
    → Ordered (map g (boxes_without c ns))
ordered-edit g c same [] o h = tt
ordered-edit g c same (n ∷ ns) o h =
    let rest : Ordered (map g (boxes_without c ns)) = ordered-edit g c same ns o.2 (λ y r i f j. lower y r i (h y r (inr i) f j)) in
    elim (n.id == c) as (λ t. (n.id == c) ≡ t → Ordered (map g (cond t (boxes_without c ns) (n ∷ boxes_without c ns)))) [
      | true ↦ λ t. rest
      | false ↦ λ t. (absent, all-from (λ r. has_box (map g (boxes_without c ns)) r.over) (g n).quants (λ r i. over r (h n r (inl refl) t i)), rest)
    ] refl
  where
    not-top : (b : ℕ) → 0 < place (n ∷ ns) b → (n.id == b) ≡ false
    not-top b h = elim (cases_Bool (n.id == b)) [ inl t ↦ (let z : place (n ∷ ns) b ≡ 0 = ap (λ (t : Bool). cond t 0 (suc (place ns b))) t in absurd (omega arith)) | inr f ↦ f ]

    behind : (b : ℕ) → has_box (n ∷ ns) b ≡ true → (n.id == b) ≡ false → has_box ns b ≡ true
    behind b h f = subst (λ (t : Bool). (t || has_box ns b) ≡ true) f h

    lower : (y : Node) (r : OwnedQuant) → In y ns → (has_box (n ∷ ns) r.over ≡ true) × (place (n ∷ ns) y.id < place (n ∷ ns) r.over) × ((r.over == c) ≡ false) → (has_box ns r.over ≡ true) × (place ns y.id < place ns r.over) × ((r.over == c) ≡ false)
    lower y r i x =
        let l0 : place (n ∷ ns) y.id < place (n ∷ ns) r.over = x.1 in
        let f : (n.id == r.over) ≡ false = not-top r.over (omega arith) in
        let g : (n.id == y.id) ≡ false = other (has_box ns) n.id y.id o.0 (in-has y ns i) in
        let a : place (n ∷ ns) r.over ≡ suc (place ns r.over) = ap (λ (t : Bool). cond t 0 (suc (place ns r.over))) f in
        let b : place (n ∷ ns) y.id ≡ suc (place ns y.id) = ap (λ (t : Bool). cond t 0 (suc (place ns y.id))) g in
        let l : place (n ∷ ns) y.id < place (n ∷ ns) r.over = x.1 in
        (behind r.over x.0 f, (omega arith), x.2)

    absent : has_box (map g (boxes_without c ns)) (g n).id ≡ false
    absent = any-not (is_box (g n).id) (map g (boxes_without c ns)) (λ y i. (
        let x = in-map g y (boxes_without c ns) i in
        let j = in-without c x.0 ns x.1.0 in
        let f : (x.0.id == n.id) ≡ false = eq-false-sym n.id x.0.id (other (has_box ns) n.id x.0.id o.0 (in-has x.0 ns j.0)) in
        subst (λ z. (y.id == z) ≡ false) (sym (same n)) (subst (λ z. (z == n.id) ≡ false) (sym (same x.0) ∙ ap (λ (z : Node). z.id) x.1.1) f)))

    over : (r : OwnedQuant) → (has_box (n ∷ ns) r.over ≡ true) × (place (n ∷ ns) n.id < place (n ∷ ns) r.over) × ((r.over == c) ≡ false) → has_box (map g (boxes_without c ns)) r.over ≡ true
    over r x =
        let l : place (n ∷ ns) n.id < place (n ∷ ns) r.over = x.1 in
        let held = has-in r.over ns (behind r.over x.0 (not-top r.over (omega arith))) in
        let f : (held.0.id == c) ≡ false = subst (λ z. (z == c) ≡ false) (sym held.1.1) x.2 in
        subst (λ z. has_box (map g (boxes_without c ns)) z ≡ true) (same held.0 ∙ held.1.1) (in-has (g held.0) (map g (boxes_without c ns)) (map-in g held.0 (boxes_without c ns) (without-in c held.0 ns held.1.0 f)))

-- one of two lists of quantifiers round one of them has no other of its number
pub split-once : (f : OwnedQuant → ℕ) (xs : List OwnedQuant) (s : OwnedQuant) (ys : List OwnedQuant) → times (f s) (map f (xs ++ s ∷ ys)) ≤ 1 → (r : OwnedQuant) → In r xs ⊎ In r ys → (f r == f s) ≡ false
split-once f xs s ys o r i =
    elim (cases_Bool (f r == f s)) [
      | inl t ↦ (
          let a : times (f s) (map f (xs ++ s ∷ ys)) ≡ times (f s) (map f xs) + times (f s) (f s ∷ map f ys) = ap (times (f s)) (map-append f xs (s ∷ ys)) ∙ times-append (f s) (map f xs) (f s ∷ map f ys) in
          let b : times (f s) (f s ∷ map f ys) ≡ 1 + times (f s) (map f ys) = ap (λ (t : Bool). cond t 1 0 + times (f s) (map f ys)) (eq-itself (f s)) in
          elim i [
            | inl j ↦ (let c : 1 ≤ times (f s) (map f xs) = subst (λ z. 1 ≤ times z (map f xs)) (eqb-true (f r) (f s) t) (in-times f r xs j) in absurd (omega arith))
            | inr j ↦ (let c : 1 ≤ times (f s) (map f ys) = subst (λ z. 1 ≤ times z (map f ys)) (eqb-true (f r) (f s) t) (in-times f r ys j) in absurd (omega arith))
          ])
      | inr n ↦ n
    ]

pub any-append : {X : Type 0} (p : X → Bool) (xs ys : List X) → list_any p (xs ++ ys) ≡ true → (list_any p xs ≡ true) ⊎ (list_any p ys ≡ true)
any-append p [] ys h = inr h
any-append p (x ∷ xs) ys h = elim (or_cases (p x) (list_any p (xs ++ ys)) h) [
  | inl a ↦ inl (or_left (p x) (list_any p xs) a)
  | inr b ↦ elim (any-append p xs ys b) [ inl c ↦ inl (or_right (p x) (list_any p xs) c) | inr d ↦ inr d ]
]

pub length-map : {X Y : Type 0} (f : X → Y) (xs : List X) → length (map f xs) ≡ length xs
length-map f [] = refl
length-map f (x ∷ xs) = ap suc (length-map f xs)
