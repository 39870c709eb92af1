-- Numbers of quantifiers rise, so they are distinct, and no map that was there before names them.
use Rattle.std.proofs.Common.{◌≡◌, ◌≤◌, ◌<◌, ℕ, zero, suc, ◌+◌, ◌==◌, nat_eq, ◌||◌, not, cond, Bool, true, false, List, [], ◌∷◌, ◌++◌, refl, ap, arith}
use Rattle.std.specs.List.{list_all, list_any}
use Rattle.std.proofs.lemmas.Bool.{eqb-true, ne_eqb}
use Rattle.qgm_core.specs.Boxes.{is_quant}
use Rattle.qgm_core.specs.declared.owned.OwnedQuant.{OwnedQuant}
use Rattle.qgm_translation.specs.Maps.{Frame, Map, Ref, nothing, none_counted, column, is_apart, fresh, fresh_in}
use Rattle.qgm_translation.specs.Shown.{over_in, distinct_ids, key_frame, key_ref, refs}
use Rattle.qgm_translation.specs.Lays.{Under, UnderIn, UnderRef}

apart-under : (n : ℕ) (r : Ref) → UnderRef n r → is_apart n r ≡ true
apart-under n nothing h = refl
apart-under n none_counted h = refl
apart-under n (column q k) h = ap not (ne_eqb q n (λ (t : q ≡ n). absurd (omega arith)))

fresh_in-under : (n : ℕ) (fr : Frame) → UnderIn n fr → fresh_in n fr ≡ true
fresh_in-under n [] h = refl
fresh_in-under n (r ∷ fr) h = let e = apart-under n r h.0 in let k = fresh_in-under n fr h.1 in rw (e, k)

pub fresh-under : (n : ℕ) (m : Map) → Under n m → fresh n m ≡ true
fresh-under n [] h = refl
fresh-under n (fr ∷ m) h = let e = fresh_in-under n fr h.0 in let k = fresh-under n m h.1 in rw (e, k)

under_ref-more : (n k : ℕ) (r : Ref) → n ≤ k → UnderRef n r → UnderRef k r
under_ref-more n k nothing l h = tt
under_ref-more n k none_counted l h = tt
under_ref-more n k (column q i) l h = omega arith

pub under_in-more : (n k : ℕ) (fr : Frame) → n ≤ k → UnderIn n fr → UnderIn k fr
under_in-more n k [] l h = tt
under_in-more n k (r ∷ fr) l h = (under_ref-more n k r l h.0, under_in-more n k fr l h.1)

pub under-more : (n k : ℕ) (m : Map) → n ≤ k → Under n m → Under k m
under-more n k [] l h = tt
under-more n k (fr ∷ m) l h = (under_in-more n k fr l h.0, under-more n k m l h.1)

pub under_in-append : (n : ℕ) (a b : Frame) → UnderIn n a → UnderIn n b → UnderIn n (a ++ b)
under_in-append n [] b h k = k
under_in-append n (r ∷ a) b h k = (h.0, under_in-append n a b h.1 k)

pub under_in-left : (n : ℕ) (a b : Frame) → UnderIn n (a ++ b) → UnderIn n a
under_in-left n [] b h = tt
under_in-left n (r ∷ a) b h = (h.0, under_in-left n a b h.1)

pub under_in-right : (n : ℕ) (a b : Frame) → UnderIn n (a ++ b) → UnderIn n b
under_in-right n [] b h = h
under_in-right n (r ∷ a) b h = under_in-right n a b h.1

pub under_in-refs : (k q i n : ℕ) → q < k → UnderIn k (refs q i n)
under_in-refs k q i zero h = tt
under_in-refs k q i (suc n) h = (h, under_in-refs k q (suc i) n h)

under-if : (n : ℕ) (b : Bool) (r t : Ref) → UnderRef n r → UnderRef n t → UnderRef n (cond b r t)
under-if n true r t h k = h
under-if n false r t h k = k

under-key : (k u j : ℕ) (places : List ℕ) (i : ℕ) → u < k → UnderRef k (key_ref u j places i)
under-key k u j [] i h = tt
under-key k u j (p ∷ ps) i h = under-if k (nat_eq i p) (column u j) (key_ref u (suc j) ps i) h (under-key k u (suc j) ps i h)

pub under-keys : (k u : ℕ) (places : List ℕ) (i n : ℕ) → u < k → UnderIn k (key_frame u places i n)
under-keys k u places i zero h = tt
under-keys k u places i (suc n) h = (under-key k u 1 places i h, under-keys k u places (i + 1) n h)

-- the numbers rise from n to below k
abbrev pub Rising : ℕ → ℕ → List OwnedQuant → Type 0
Rising n k [] = n ≤ k
Rising n k (o ∷ os) = (n ≤ o.id) × Rising (suc o.id) k os

pub rising-append : (a b c : ℕ) (os ps : List OwnedQuant) → Rising a b os → Rising b c ps → Rising a c (os ++ ps)
rising-append a b c [] [] h k = omega arith
rising-append a b c [] (p ∷ ps) h k = (let t = k.0 in omega arith, k.1)
rising-append a b c (o ∷ os) ps h k = (h.0, rising-append (suc o.id) b c os ps h.1 k)

pub rising-from : (a b c : ℕ) (os : List OwnedQuant) → a ≤ b → Rising b c os → Rising a c os
rising-from a b c [] h k = omega arith
rising-from a b c (o ∷ os) h k = (let t = k.0 in omega arith, k.1)

rising-other : (q n k : ℕ) (os : List OwnedQuant) → q < n → Rising n k os → list_all (λ p. not (q == p.id)) os ≡ true
rising-other q n k [] l h = refl
rising-other q n k (o ∷ os) l h =
    let t = h.0 in
    let e = ne_eqb q o.id (λ (t : q ≡ o.id). absurd (omega arith)) in
    let r = rising-other q (suc o.id) k os (omega arith) h.1 in rw (e, r)

pub rising-distinct : (n k : ℕ) (os : List OwnedQuant) → Rising n k os → distinct_ids os ≡ true
rising-distinct n k [] h = refl
rising-distinct n k (o ∷ os) h = let e = rising-other o.id (suc o.id) k os (omega arith) h.1 in let r = rising-distinct (suc o.id) k os h.1 in rw (e, r)

pub rising-fresh : (n k : ℕ) (m : Map) (os : List OwnedQuant) → Under n m → Rising n k os → list_all (λ o. fresh o.id m) os ≡ true
rising-fresh n k m [] u h = refl
rising-fresh n k m (o ∷ os) u h =
    let t = h.0 in
    let e = fresh-under o.id m (under-more n o.id m (omega arith) u) in
    let r = rising-fresh (suc o.id) k m os (under-more n (suc o.id) m (omega arith) u) h.1 in rw (e, r)

-- ---- the numbers among these

pub or-cases : {Z : Type 0} (a b : Bool) → (a || b) ≡ true → (a ≡ true → Z) → (b ≡ true → Z) → Z
or-cases true b h f g = f refl
or-cases false b h f g = g h

pub any-cases : {X Z : Type 0} (p : X → Bool) (xs ys : List X) → list_any p (xs ++ ys) ≡ true → (list_any p xs ≡ true → Z) → (list_any p ys ≡ true → Z) → Z
any-cases p [] ys h f g = g h
any-cases p (x ∷ xs) ys h f g = or-cases (p x) (list_any p (xs ++ ys)) h (λ e. f (ap (λ b. b || list_any p xs) e)) (λ t. any-cases p xs ys t (λ e. f (or-right (p x) (list_any p xs) e)) g)
  where
    or-right : (a b : Bool) → b ≡ true → (a || b) ≡ true
    or-right true b h = refl
    or-right false b h = h

pub rising-le : (n k : ℕ) (os : List OwnedQuant) → Rising n k os → n ≤ k
rising-le n k [] h = h
rising-le n k (o ∷ os) h = let x = h.0 in let r = rising-le (suc o.id) k os h.1 in omega arith

pub rising-in : (n k q : ℕ) (os : List OwnedQuant) → Rising n k os → list_any (is_quant q) os ≡ true → (n ≤ q) × (q < k)
rising-in n k q [] h t = absurd (cc t)
rising-in n k q (o ∷ os) h t =
    let x = h.0 in
    or-cases (o.id == q) (list_any (is_quant q) os) t
    (λ e. let same = eqb-true o.id q e in let r = rising-le (suc o.id) k os h.1 in (omega arith, omega arith))
    (λ e. let r = rising-in (suc o.id) k q os h.1 e in let lo = r.0 in (omega arith, r.1))

pub stays-false : (x y : Bool) → (y ≡ true → x ≡ true) → x ≡ false → y ≡ false
stays-false x true f h = absurd (let e = f refl in cc (e, h))
stays-false x false f h = refl

-- ---- how often boxes are used

pub below-or : {Z : Type 0} (j n : ℕ) → (j < n → Z) → (n ≤ j → Z) → Z
below-or j zero f g = g (omega arith)
below-or zero (suc n) f g = f (omega arith)
below-or (suc j) (suc n) f g = below-or j n (λ l. f (omega arith)) (λ l. g (omega arith))

pub over-append : (j : ℕ) (os ps : List OwnedQuant) → over_in j (os ++ ps) ≡ over_in j os + over_in j ps
over-append j [] ps = let e : over_in j ps ≡ 0 + over_in j ps = omega arith in e
over-append j (o ∷ os) ps = let e = over-append j os ps in omega arith

pub one-used : (b : Bool) (n : ℕ) → n ≡ cond b 0 1 → (cond b 1 0 + 0) + n ≡ 1
one-used true n h = omega arith
one-used false n h = omega arith
