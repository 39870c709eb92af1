-- Tables that are read by number.
use Rattle.std.proofs.Common.{◌≡◌, ℕ, zero, suc, ◌==◌, ◌<◌, ◌≤◌, ◌+◌, ◌++◌, cond, Bool, true, false, List, [], ◌∷◌, Option, Some, None, length, get_or, refl, sym, ◌∙◌, ap, arith, position, nat_lt, not, eqb-true, inl, inr}
use Rattle.std.proofs.Math.ListN.{set}
use Rattle.std.specs.List.{position_or_len}
use Rattle.std.specs.Option.{option_or}
use Rattle.std.proofs.lemmas.Bool.{cases_Bool, eqb-false, le-ltb, lt-ltb, ltb-false, ltb-true}
use Rattle.std.proofs.lemmas.List.{get_or-set_other, get_or-set_same, length-map}
use Rattle.qgm_core.specs.Boxes.{is_box, numbers}
use Rattle.list_laws.specs.Lists.{times}
use Rattle.qgm_core.specs.declared.node.Node.{Node}

module _ {X : Type 0} where
  pub read-set : (xs : List X) (x : ℕ) (v d : X) (y : ℕ) → x < length xs → get_or (set xs x v) y d ≡ cond (x == y) v (get_or xs y d)
  read-set xs x v d y l =
      elim (cases_Bool (x == y)) [
        | inl t ↦ ap (λ (k : ℕ). get_or (set xs x v) k d) (sym (eqb-true x y t)) ∙ get_or-set_same xs x v d l ∙ sym (ap (λ (b : Bool). cond b v (get_or xs y d)) t)
        | inr f ↦ get_or-set_other xs x y v d (λ e. eqb-false x y f (sym e)) ∙ sym (ap (λ (b : Bool). cond b v (get_or xs y d)) f)
      ]

  pub read-behind : (xs : List X) (y : ℕ) (d : X) → length xs ≤ y → get_or xs y d ≡ d
  read-behind [] y d l = refl
  read-behind (x ∷ xs) zero d l = absurd (omega (arith, l))
  read-behind (x ∷ xs) (suc y) d l = read-behind xs y d (omega (arith, l))

  -- what stands within, whatever is read behind the end
  pub read-within : (xs : List X) (y : ℕ) (d e : X) → y < length xs → get_or xs y d ≡ get_or xs y e
  read-within [] y d e l = absurd (omega (arith, l))
  read-within (x ∷ xs) zero d e l = refl
  read-within (x ∷ xs) (suc y) d e l = read-within xs y d e (omega (arith, l))

-- ---- counts

times-last : (xs : List ℕ) (x y : ℕ) → times y (xs ++ x ∷ []) ≡ cond (x == y) (suc (times y xs)) (times y xs)
times-last [] x y = elim (x == y) as (λ t. cond t 1 0 + 0 ≡ cond t 1 0) [
  | true ↦ refl
  | false ↦ refl
]
times-last (z ∷ xs) x y =
    let h = times-last xs x y in
    ap (λ (k : ℕ). cond (z == y) 1 0 + k) h
    ∙ elim (x == y) as (λ t. cond (z == y) 1 0 + cond t (suc (times y xs)) (times y xs) ≡ cond t (suc (cond (z == y) 1 0 + times y xs)) (cond (z == y) 1 0 + times y xs)) [
      | true ↦ (elim (z == y) as (λ t. cond t 1 0 + suc (times y xs) ≡ suc (cond t 1 0 + times y xs)) [
        | true ↦ omega arith
        | false ↦ omega arith
      ])
      | false ↦ refl
    ]

pub times-most : (xs : List ℕ) (y : ℕ) → times y xs ≤ length xs
times-most [] y = omega arith
times-most (x ∷ xs) y =
    let h = times-most xs y in
    elim (x == y) as (λ t. cond t 1 0 + times y xs ≤ suc (length xs)) [
      | true ↦ omega (arith, h)
      | false ↦ omega (arith, h)
    ]

pub counted-more : (list old long : List ℕ) (x v : ℕ) → ((y : ℕ) → get_or old y 0 ≡ times y list) → ((y : ℕ) → get_or long y 0 ≡ get_or old y 0) → x < length long → v ≡ times x list + 1 →
    (y : ℕ) → get_or (set long x v) y 0 ≡ times y (list ++ x ∷ [])
counted-more list old long x v h s l e y =
    read-set long x v 0 y l ∙ ap (λ (k : ℕ). cond (x == y) v k) (s y ∙ h y)
    ∙ elim (cases_Bool (x == y)) [
      | inl t ↦ (
          let same : x ≡ y = eqb-true x y t in
          let u : times x list ≡ times y list = ap (λ (k : ℕ). times k list) same in
          ap (λ (b : Bool). cond b v (times y list)) t ∙ (let w : v ≡ suc (times y list) = omega (arith, e, u) in w) ∙ sym (ap (λ (b : Bool). cond b (suc (times y list)) (times y list)) t))
      | inr f ↦ ap (λ (b : Bool). cond b v (times y list)) f ∙ sym (ap (λ (b : Bool). cond b (suc (times y list)) (times y list)) f)
    ]
    ∙ sym (times-last list x y)

-- ---- places

-- where b first stands, counted from i
abbrev place_from : ℕ → ℕ → List ℕ → Option ℕ
place_from b i [] = None
place_from b i (x ∷ xs) = cond (x == b) (Some i) (place_from b (suc i) xs)

lt-step : (m n : ℕ) → nat_lt (1 + m) (suc n) ≡ nat_lt m n
lt-step m n =
    elim (cases_Bool (nat_lt m n)) [
      | inl t ↦ lt-ltb (1 + m) (suc n) (let h = ltb-true m n t in omega (arith, h)) ∙ sym t
      | inr f ↦ le-ltb (1 + m) (suc n) (let h = ltb-false m n f in omega (arith, h)) ∙ sym f
    ]

-- counted from 0
place-counted : (b i : ℕ) (list : List ℕ) → place_from b i list ≡ cond (nat_lt (position_or_len (λ x. x == b) list) (length list)) (Some (i + position_or_len (λ x. x == b) list)) None
place-counted b i [] = refl
place-counted b i (x ∷ list) =
    let p = λ (y : ℕ). y == b in
    let m = position_or_len p list in
    elim (x == b) as (λ t. cond t (Some i) (place_from b (suc i) list) ≡ cond (nat_lt (cond (not t) (1 + m) 0) (suc (length list))) (Some (i + cond (not t) (1 + m) 0)) None) [
      | true ↦ (let e : i ≡ i + 0 = omega arith in ap (λ (k : ℕ). Some k) e) ∙ sym (ap (λ (t : Bool). cond t (Some (i + 0)) None) (lt-ltb 0 (suc (length list)) (omega arith)))
      | false ↦ place-counted b (suc i) list ∙ (let e : suc i + m ≡ i + (1 + m) = omega arith in ap (λ (k : ℕ). cond (nat_lt m (length list)) (Some k) None) e)
          ∙ sym (ap (λ (t : Bool). cond t (Some (i + (1 + m))) None) (lt-step m (length list)))
    ]

place-whole : (b : ℕ) (list : List ℕ) → place_from b 0 list ≡ position (λ x. x == b) list
place-whole b list =
    let m = position_or_len (λ (x : ℕ). x == b) list in
    let e : 0 + m ≡ m = omega arith in
    place-counted b 0 list ∙ ap (λ (k : ℕ). cond (nat_lt m (length list)) (Some k) None) e

place-last : (b i : ℕ) (xs : List ℕ) (x : ℕ) → place_from b i (xs ++ x ∷ []) ≡ option_or (place_from b i xs) (cond (x == b) (Some (i + length xs)) None)
place-last b i [] x = let e : i ≡ i + 0 = omega arith in ap (λ (k : ℕ). cond (x == b) (Some k) None) e
place-last b i (z ∷ xs) x =
    elim (z == b) as (λ t. cond t (Some i) (place_from b (suc i) (xs ++ x ∷ [])) ≡ option_or (cond t (Some i) (place_from b (suc i) xs)) (cond (x == b) (Some (i + suc (length xs))) None)) [
      | true ↦ refl
      | false ↦ place-last b (suc i) xs x ∙ (let e : suc i + length xs ≡ i + suc (length xs) = omega arith in ap (λ (k : ℕ). option_or (place_from b (suc i) xs) (cond (x == b) (Some k) None)) e)
    ]

position-last : (b : ℕ) (xs : List ℕ) (x : ℕ) → position (λ z. z == b) (xs ++ x ∷ []) ≡ option_or (position (λ z. z == b) xs) (cond (x == b) (Some (length xs)) None)
position-last b xs x =
    sym (place-whole b (xs ++ x ∷ [])) ∙ place-last b 0 xs x
    ∙ (let e : 0 + length xs ≡ length xs = omega arith in ap (λ (k : ℕ). option_or (place_from b 0 xs) (cond (x == b) (Some k) None)) e)
    ∙ ap (λ (o : Option ℕ). option_or o (cond (x == b) (Some (length xs)) None)) (place-whole b xs)

or-none : (o : Option ℕ) → o ≡ option_or o None
or-none None = refl
or-none (Some i) = refl

-- the place of one more
pub placed-more : (list : List ℕ) (old long : List (Option ℕ)) (x i : ℕ) (v : Option ℕ) → ((y : ℕ) → get_or old y None ≡ position (λ z. z == y) list) → ((y : ℕ) → get_or long y None ≡ get_or old y None) → x < length long →
    v ≡ option_or (get_or long x None) (Some i) → i ≡ length list → (y : ℕ) → get_or (set long x v) y None ≡ position (λ z. z == y) (list ++ x ∷ [])
placed-more list old long x i v h s l e f y =
    read-set long x v None y l
    ∙ elim (cases_Bool (x == y)) [
      | inl t ↦ (
          let same : x ≡ y = eqb-true x y t in
          ap (λ (b : Bool). cond b v (get_or long y None)) t ∙ e ∙ ap (λ (o : Option ℕ). option_or o (Some i)) (s x ∙ h x)
          ∙ ap (λ (k : ℕ). option_or (position (λ z. z == k) list) (Some i)) same ∙ ap (λ (k : ℕ). option_or (position (λ z. z == y) list) (Some k)) f
          ∙ sym (ap (λ (b : Bool). option_or (position (λ z. z == y) list) (cond b (Some (length list)) None)) t))
      | inr n ↦ ap (λ (b : Bool). cond b v (get_or long y None)) n ∙ s y ∙ h y ∙ or-none (position (λ z. z == y) list) ∙ sym (ap (λ (b : Bool). option_or (position (λ z. z == y) list) (cond b (Some (length list)) None)) n)
    ]
    ∙ sym (position-last y list x)

-- ---- boxes by their numbers

place-numbers : (b : ℕ) (ns : List Node) → position_or_len (λ x. x == b) (numbers ns) ≡ position_or_len (is_box b) ns
place-numbers b [] = refl
place-numbers b (n ∷ ns) = ap (λ (k : ℕ). cond (not (n.id == b)) (1 + k) 0) (place-numbers b ns)

pub position-numbers : (b : ℕ) (ns : List Node) → position (λ x. x == b) (numbers ns) ≡ position (is_box b) ns
position-numbers b ns =
    ap (λ (k : ℕ). cond (nat_lt k (length (numbers ns))) (Some k) None) (place-numbers b ns)
    ∙ ap (λ (l : ℕ). cond (nat_lt (position_or_len (is_box b) ns) l) (Some (position_or_len (is_box b) ns)) None) (length-map ns (λ (n : Node). n.id))
