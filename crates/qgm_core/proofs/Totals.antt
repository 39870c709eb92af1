-- Sums over boxes, by which numbers and uses are counted.
use Rattle.std.proofs.lemmas.Bool.{eq-eqb}
use Rattle.std.proofs.lemmas.List.{take_all}
use Rattle.qgm_core.proofs.Counted.{uses-most}
use Rattle.qgm_core.specs.Slots.{CountsUses}
use Rattle.std.proofs.Common.{ℕ, zero, suc, ◌≡◌, ◌+◌, ◌++◌, cond, not, Bool, true, false, List, [], ◌∷◌, Option, Some, None, filter, map, insert, refl, ap, ◌∙◌, arith, ◌<◌, ◌≤◌, get_or, length, take}
use Rattle.qgm_core.specs.Boxes.{is_box, is_quant, numbers, overs_in, overs_of, owns, put_at, range_in, ids_in}
use Rattle.qgm_core.specs.Edits.{put_range, put_range_found, quant_moved, without_quant, on_quant}
use Rattle.list_laws.specs.Lists.{change, first, put_below, times, without}
use Rattle.qgm_core.specs.declared.node.Node.{Node}
use Rattle.qgm_core.specs.declared.owned.OwnedQuant.{OwnedQuant}
use Rattle.list_laws.proofs.Counting.{times-append}

module _ {X : Type 0} (w : X → ℕ) where
  abbrev pub total : List X → ℕ
  total [] = 0
  total (x ∷ xs) = w x + total xs

  pub total-below : (p : X → Bool) (y : X) (xs : List X) → total (put_below p y xs) ≡ w y + total xs
  total-below p y [] = refl
  total-below p y (x ∷ xs) = let h = total-below p y xs in elim (p x) as (λ t. total (cond t (x ∷ (y ∷ xs)) (x ∷ put_below p y xs)) ≡ w y + (w x + total xs)) [
    | true ↦ omega arith
    | false ↦ omega (arith, h)
  ]

  pub total-last : (xs : List X) (y : X) → total (xs ++ y ∷ []) ≡ w y + total xs
  total-last [] y = refl
  total-last (x ∷ xs) y = let h = total-last xs y in omega (arith, h)

  pub total-without : (p : X → Bool) (xs : List X) (y : X) → first p xs ≡ Some y → total xs ≡ w y + total (without p xs)
  total-without p [] y e = absurd (let z : ⊥ = cc in z)
  total-without p (x ∷ xs) y e =
      elim (p x) as (λ t. ◌≡◌ {A = Option X} (cond t (Some x) (first p xs)) (Some y) → w x + total xs ≡ w y + total (cond t xs (x ∷ without p xs))) [
        | true ↦ λ e. (let s : x ≡ y = cc in ap (λ (z : X). w z + total xs) s)
        | false ↦ λ e. (let h = total-without p xs y e in omega (arith, h))
      ] e

  pub total-filter : (p : X → Bool) (xs : List X) → total (filter p xs) + total (filter (λ x. not (p x)) xs) ≡ total xs
  total-filter p [] = refl
  total-filter p (x ∷ xs) = let h = total-filter p xs in elim (p x) as (λ t. total (cond t (x ∷ filter p xs) (filter p xs)) + total (cond (not t) (x ∷ filter (λ x. not (p x)) xs) (filter (λ x. not (p x)) xs)) ≡ w x + total xs) [
    | true ↦ omega (arith, h)
    | false ↦ omega (arith, h)
  ]

  pub total-change : (p : X → Bool) (f : X → X) (xs : List X) (y : X) → first p xs ≡ Some y → total (change p f xs) + w y ≡ w (f y) + total xs
  total-change p f [] y e = absurd (let z : ⊥ = cc in z)
  total-change p f (x ∷ xs) y e =
      elim (p x) as (λ t. ◌≡◌ {A = Option X} (cond t (Some x) (first p xs)) (Some y) → total (cond t (f x ∷ xs) (x ∷ change p f xs)) + w y ≡ w (f y) + (w x + total xs)) [
        | true ↦ λ e. (let s : x ≡ y = cc in let a : w x ≡ w y = ap w s in let b : w (f x) ≡ w (f y) = ap (λ (z : X). w (f z)) s in omega (arith, a, b))
        | false ↦ λ e. (let h = total-change p f xs y e in omega (arith, h))
      ] e

  pub total-insert : (xs : List X) (i : ℕ) (y : X) → total (insert xs i y) ≡ w y + total xs
  total-insert [] zero y = refl
  total-insert [] (suc i) y = refl
  total-insert (x ∷ xs) zero y = refl
  total-insert (x ∷ xs) (suc i) y = let h = total-insert xs i y in omega (arith, h)

-- ---- numbers and uses as sums

abbrev pub number_times : ℕ → Node → ℕ
number_times x n = times x (n.id ∷ [])

abbrev pub over_times : ℕ → Node → ℕ
over_times x n = times x (overs_of n)

pub numbers-total : (x : ℕ) (ns : List Node) → times x (numbers ns) ≡ total (number_times x) ns
numbers-total x [] = refl
numbers-total x (n ∷ ns) = let h = numbers-total x ns in omega (arith, h)

pub overs-total : (x : ℕ) (ns : List Node) → times x (overs_in ns) ≡ total (over_times x) ns
overs-total x [] = refl
overs-total x (n ∷ ns) = let h = overs-total x ns in let k = times-append x (overs_of n) (overs_in ns) in omega (arith, h, k)

ranges-total : (x : ℕ) (rs : List OwnedQuant) → times x (map (λ r. r.over) rs) ≡ total (λ (r : OwnedQuant). times x (r.over ∷ [])) rs
ranges-total x [] = refl
ranges-total x (r ∷ rs) = let h = ranges-total x rs in omega (arith, h)

-- ---- boxes put and taken

module _ (x : ℕ) (ns : List Node) (n : Node) where
  pub numbers-put : (below : Option ℕ) → times x (numbers (put_at below n ns)) ≡ number_times x n + times x (numbers ns)
  numbers-put None = (let a = numbers-total x ns in let b = numbers-total x (ns ++ n ∷ []) in let h = total-last (number_times x) ns n in omega (arith, a, b, h))
  numbers-put (Some c) = (let a = numbers-total x ns in let b = numbers-total x (put_below (is_box c) n ns) in let h = total-below (number_times x) (is_box c) n ns in omega (arith, a, b, h))

  pub overs-put : (below : Option ℕ) → times x (overs_in (put_at below n ns)) ≡ over_times x n + times x (overs_in ns)
  overs-put None = (let a = overs-total x ns in let b = overs-total x (ns ++ n ∷ []) in let h = total-last (over_times x) ns n in omega (arith, a, b, h))
  overs-put (Some c) = (let a = overs-total x ns in let b = overs-total x (put_below (is_box c) n ns) in let h = total-below (over_times x) (is_box c) n ns in omega (arith, a, b, h))

  pub numbers-without : (p : Node → Bool) → first p ns ≡ Some n → times x (numbers ns) ≡ number_times x n + times x (numbers (without p ns))
  numbers-without p e = (let a = numbers-total x ns in let b = numbers-total x (without p ns) in let h = total-without (number_times x) p ns n e in omega (arith, a, b, h))

  pub overs-without : (p : Node → Bool) → first p ns ≡ Some n → times x (overs_in ns) ≡ over_times x n + times x (overs_in (without p ns))
  overs-without p e = (let a = overs-total x ns in let b = overs-total x (without p ns) in let h = total-without (over_times x) p ns n e in omega (arith, a, b, h))

-- a box that goes below another one
module _ (x : ℕ) (ns : List Node) (n : Node) (p r : Node → Bool) (e : first p ns ≡ Some n) where
  pub numbers-moved : times x (numbers (put_below r n (without p ns))) ≡ times x (numbers ns)
  numbers-moved =
      let a = numbers-total x (put_below r n (without p ns)) in
      let b = total-below (number_times x) r n (without p ns) in
      let c = numbers-total x (without p ns) in
      let d = numbers-without x ns n p e in
      omega (arith, a, b, c, d)

  pub overs-moved : times x (overs_in (put_below r n (without p ns))) ≡ times x (overs_in ns)
  overs-moved =
      let a = overs-total x (put_below r n (without p ns)) in
      let b = total-below (over_times x) r n (without p ns) in
      let c = overs-total x (without p ns) in
      let d = overs-without x ns n p e in
      omega (arith, a, b, c, d)

pub numbers-filter : (x : ℕ) (p : Node → Bool) (ns : List Node) → times x (numbers (filter p ns)) + times x (numbers (filter (λ n. not (p n)) ns)) ≡ times x (numbers ns)
numbers-filter x p ns =
    let a = numbers-total x (filter p ns) in
    let b = numbers-total x (filter (λ n. not (p n)) ns) in
    let c = numbers-total x ns in
    let d = total-filter (number_times x) p ns in
    omega (arith, a, b, c, d)

-- ---- a quantifier that goes to another place

-- its owner without it
overs-without_quant : (x q : ℕ) (n : Node) (r : OwnedQuant) → first (is_quant q) n.quants ≡ Some r → over_times x n ≡ times x (r.over ∷ []) + over_times x (without_quant q n)
overs-without_quant x q n r e =
    let a = ranges-total x n.quants in
    let b = ranges-total x (without (is_quant q) n.quants) in
    let h = total-without (λ (r : OwnedQuant). times x (r.over ∷ [])) (is_quant q) n.quants r e in
    omega (arith, a, b, h)

overs-put_range : (x i : ℕ) (r : OwnedQuant) (n : Node) → over_times x (put_range i r n) ≡ times x (r.over ∷ []) + over_times x n
overs-put_range x i r n =
    let a = ranges-total x n.quants in
    let b = ranges-total x (insert n.quants i r) in
    let h = total-insert (λ (r : OwnedQuant). times x (r.over ∷ [])) n.quants i r in
    omega (arith, a, b, h)

-- the same box is found, with or without it
pub requanted-overs : (x q b i : ℕ) (ns : List Node) (n m : Node) (r : OwnedQuant) → first (owns q) ns ≡ Some n → first (is_quant q) n.quants ≡ Some r → first (is_box b) (change (owns q) (without_quant q) ns) ≡ Some m →
    times x (overs_in (quant_moved q b i ns)) ≡ times x (overs_in ns)
requanted-overs x q b i ns n m r own range there =
    let mid = change (owns q) (without_quant q) ns in
    let new = change (is_box b) (put_range i r) mid in
    let unfolded : quant_moved q b i ns ≡ new = ap (λ (o : Option OwnedQuant). put_range_found b i o mid) (ap (range_in q) own ∙ range) in
    let u : times x (overs_in (quant_moved q b i ns)) ≡ times x (overs_in new) = ap (λ (ms : List Node). times x (overs_in ms)) unfolded in
    let s = overs-total x new in
    let t = overs-total x ns in
    let c = total-change (over_times x) (owns q) (without_quant q) ns n own in
    let d = total-change (over_times x) (is_box b) (put_range i r) mid m there in
    let j = overs-without_quant x q n r range in
    let k = overs-put_range x i r m in
    omega (arith, u, s, t, c, d, j, k)

-- ---- uses by one box that is changed

pub overs-changed : (x : ℕ) (p : Node → Bool) (f : Node → Node) (ns : List Node) (n : Node) (k l : ℕ) → first p ns ≡ Some n → over_times x n + k ≡ over_times x (f n) + l → times x (overs_in ns) + k ≡ times x (overs_in (change p f ns)) + l
overs-changed x p f ns n k l e h =
    let a = overs-total x ns in
    let b = overs-total x (change p f ns) in
    let c = total-change (over_times x) p f ns n e in
    omega (arith, a, b, c, h)

pub overs-put_quant : (x q : ℕ) (f : OwnedQuant → OwnedQuant) (n : Node) (r : OwnedQuant) → first (is_quant q) n.quants ≡ Some r → over_times x n + times x ((f r).over ∷ []) ≡ over_times x (on_quant q f n) + times x (r.over ∷ [])
overs-put_quant x q f n r e =
    let a = ranges-total x n.quants in
    let b = ranges-total x (change (is_quant q) f n.quants) in
    let c = total-change (λ (r : OwnedQuant). times x (r.over ∷ [])) (is_quant q) f n.quants r e in
    omega (arith, a, b, c)

-- ---- kept numbers

module _ (old new : List ℕ) (ns ms : List Node) (long : length new ≡ length old) (h : CountsUses old ns) where
  pub used-more : (b : ℕ) → ((x : ℕ) → x < length old → get_or new x 0 ≡ get_or old x 0 + times x (b ∷ [])) → ((x : ℕ) → times x (overs_in ms) ≡ times x (overs_in ns) + times x (b ∷ [])) → CountsUses new ms
  used-more b k e x l =
      let j : x < length old = omega (arith, l, long) in
      let a = h x j in
      let c = k x j in
      let d = e x in
      omega (arith, a, c, d)

  pub used-less : (b : ℕ) → ((x : ℕ) → x < length old → get_or new x 0 + times x (b ∷ []) ≡ get_or old x 0) → ((x : ℕ) → times x (overs_in ns) ≡ times x (overs_in ms) + times x (b ∷ [])) → CountsUses new ms
  used-less b k e x l =
      let j : x < length old = omega (arith, l, long) in
      let a = h x j in
      let c = k x j in
      let d = e x in
      omega (arith, a, c, d)

pub uses-all : (b : ℕ) (ns : List Node) → times b (overs_in ns) ≤ length (ids_in ns)
uses-all b ns =
    let h = uses-most b ns (length ns) in
    let e : times b (overs_in (take (length ns) ns)) ≡ times b (overs_in ns) = ap (λ (ms : List Node). times b (overs_in ms)) (take_all (length ns) ns (omega arith)) in
    omega (arith, h, e)

-- a quantifier's box is used
pub used-once : (q : ℕ) (p : Node → Bool) (ns : List Node) (n : Node) (r : OwnedQuant) → first p ns ≡ Some n → first (is_quant q) n.quants ≡ Some r → 1 ≤ times r.over (overs_in ns)
used-once q p ns n r own range =
    let b = r.over in
    let a = overs-without b ns n p own in
    let c = overs-without_quant b q n r range in
    let d : times b (b ∷ []) ≡ 1 = ap (λ (t : Bool). cond t 1 0 + 0) (eq-eqb b b refl) in
    omega (arith, a, c, d)

-- one quantifier ranges over another box
module _ (x q : ℕ) (p : Node → Bool) (over : ℕ) (ns : List Node) (n : Node) (r : OwnedQuant) (own : first p ns ≡ Some n) (range : first (is_quant q) n.quants ≡ Some r) where
  pub overs-redirected : times x (overs_in ns) + times x (over ∷ []) ≡ times x (overs_in (change p (on_quant q (λ r. record r { over = over })) ns)) + times x (r.over ∷ [])
  overs-redirected = overs-changed x p (on_quant q (λ r. record r { over = over })) ns n (times x (over ∷ [])) (times x (r.over ∷ [])) own (overs-put_quant x q (λ r. record r { over = over }) n r range)

  pub overs-less : times x (overs_in ns) ≡ times x (overs_in (change p (without_quant q) ns)) + times x (r.over ∷ [])
  overs-less =
      let k = overs-without_quant x q n r range in
      let h = overs-changed x p (without_quant q) ns n 0 (times x (r.over ∷ [])) own (omega (arith, k)) in
      omega (arith, h)

pub overs-more : (x i : ℕ) (p : Node → Bool) (r : OwnedQuant) (ns : List Node) (n : Node) → first p ns ≡ Some n → times x (overs_in (change p (put_range i r) ns)) ≡ times x (overs_in ns) + times x (r.over ∷ [])
overs-more x i p r ns n own =
    let k = overs-put_range x i r n in
    let h = overs-changed x p (put_range i r) ns n (times x (r.over ∷ [])) 0 own (omega (arith, k)) in
    omega (arith, h)

-- one quantifier less over w, and one more over b
pub used-moved : (old mid new : List ℕ) (ns ms : List Node) → length new ≡ length old → CountsUses old ns → (w b : ℕ) → ((x : ℕ) → x < length old → get_or mid x 0 + times x (w ∷ []) ≡ get_or old x 0) → ((x : ℕ) → x < length old → get_or new x 0 ≡ get_or mid x 0 + times x (b ∷ [])) →
    ((x : ℕ) → times x (overs_in ns) + times x (b ∷ []) ≡ times x (overs_in ms) + times x (w ∷ [])) → CountsUses new ms
used-moved old mid new ns ms long h w b less more e x l =
    let j : x < length old = omega (arith, l, long) in
    let a = h x j in
    let c = less x j in
    let d = more x j in
    let k = e x in
    omega (arith, a, c, d, k)
