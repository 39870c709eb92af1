-- Numbers that no box and no quantifier has, and numbers under edits.
use Rattle.std.proofs.Common.{◌≡◌, ℕ, zero, suc, ◌==◌, ◌<◌, ◌≤◌, ◌+◌, ◌++◌, Bool, true, false, List, [], ◌∷◌, cond, map, arith, insert, length, refl, sym, ◌∙◌, ap, subst, add-zero, get_or}
use Rattle.std.proofs.Math.ListN.{set}
use Rattle.std.specs.Prelude.{IsOk, OnOk, OnErr, is_ok, Ok, Err, if◌then◌else◌}
use Rattle.std.specs.declared.result.Result.{Result}
use Rattle.std.specs.List.{list_any, remove, take-map, drop-map}
use Rattle.std.specs.Result.{result_or}
use Rattle.std.proofs.lemmas.Bool.{ne_eqb, or_from, or_parts}
use Rattle.std.proofs.lemmas.List.{map-append, length-append}
use Rattle.qgm_core.specs.Boxes.{is_box, is_quant, owns, ids_in, ids_of, numbers}
use Rattle.qgm_core.specs.Edits.{on_quant, put_range, without_quant}
use Rattle.list_laws.specs.Lists.{EachOnce, change, holds, without}
use Rattle.qgm_core.specs.Numbered.{Numbered, Under}
use Rattle.qgm_core.specs.declared.node.Node.{Node}
use Rattle.qgm_core.specs.declared.owned.OwnedQuant.{OwnedQuant}

pub map_insert : {X Y : Type 0} (f : X → Y) (xs : List X) (i : ℕ) (x : X) → insert (map f xs) i (f x) ≡ map f (insert xs i x)
map_insert f xs i x = simp (map-append, take-map, drop-map)

pub map_remove : {X Y : Type 0} (f : X → Y) (xs : List X) (i : ℕ) → remove (map f xs) i ≡ map f (remove xs i)
map_remove f xs i = simp (map-append, take-map, drop-map)

pub never_both : (b : Bool) → b ≡ false → b ≡ true → ⊥
never_both b e h = let q : ⊥ = cc in q

-- what holds after a call, whether it is refused or not
pub on_both : {A E X : Type 0} (P : X → Type 0) (r : Result A E) (x y z : X) → OnOk r (x ≡ y) → OnErr r (x ≡ z) → P y → P z → P x
on_both P (Ok v) x y z e f p q = subst P (sym e) p
on_both P (Err v) x y z e f p q = subst P (sym f) q

-- what a call leaves that may be refused for another reason
pub or_ok : {A E D X : Type 0} (r : Result A E) (d : D) (x a b y : X) → x ≡ (if is_ok r then a else b) → a ≡ y → OnOk (result_or r (Err d)) (x ≡ y)
or_ok (Ok v) d x a b y e f = e ∙ f
or_ok (Err v) d x a b y e f = tt

-- what a call that can't be refused leaves
pub if_ok : {A E X : Type 0} (r : Result A E) (a b x : X) → IsOk r → x ≡ (if is_ok r then a else b) → x ≡ a
if_ok (Ok v) a b x h e = e
if_ok (Err v) a b x h e = absurd (let q : ⊥ = cc in q)

-- ---- below a number

pub under-weaker : (m n : ℕ) (xs : List ℕ) → m ≤ n → Under m xs → Under n xs
under-weaker m n [] l u = tt
under-weaker m n (x ∷ xs) l u = (let a = u.0 in omega (arith, a, l), under-weaker m n xs l u.1)

pub under-append : (m : ℕ) (xs ys : List ℕ) → Under m xs → Under m ys → Under m (xs ++ ys)
under-append m [] ys u v = v
under-append m (x ∷ xs) ys u v = (u.0, under-append m xs ys u.1 v)

pub under-left : (m : ℕ) (xs ys : List ℕ) → Under m (xs ++ ys) → Under m xs
under-left m [] ys u = tt
under-left m (x ∷ xs) ys u = (u.0, under-left m xs ys u.1)

pub under-right : (m : ℕ) (xs ys : List ℕ) → Under m (xs ++ ys) → Under m ys
under-right m [] ys u = u
under-right m (x ∷ xs) ys u = under-right m xs ys u.1

pub under-insert : (m : ℕ) (xs : List ℕ) (i y : ℕ) → y < m → Under m xs → Under m (insert xs i y)
under-insert m [] zero y l u = (l, tt)
under-insert m [] (suc i) y l u = (l, tt)
under-insert m (x ∷ xs) zero y l u = (l, u)
under-insert m (x ∷ xs) (suc i) y l u = (u.0, under-insert m xs i y l u.1)

pub under-absent : (m : ℕ) (xs : List ℕ) → Under m xs → holds m xs ≡ false
under-absent m [] u = refl
under-absent m (x ∷ xs) u = or_from (x == m) (holds m xs) (ne_eqb x m (λ e. let a = u.0 in omega (arith, a, e))) (under-absent m xs u.1)

-- ---- each once

holds-insert : (x : ℕ) (xs : List ℕ) (i y : ℕ) → (y == x) ≡ false → holds x xs ≡ false → holds x (insert xs i y) ≡ false
holds-insert x [] zero y n h = or_from (y == x) false n refl
holds-insert x [] (suc i) y n h = or_from (y == x) false n refl
holds-insert x (z ∷ xs) zero y n h = or_from (y == x) (holds x (z ∷ xs)) n h
holds-insert x (z ∷ xs) (suc i) y n h = let p = or_parts (z == x) (holds x xs) h in or_from (z == x) (holds x (insert xs i y)) p.0 (holds-insert x xs i y n p.1)

pub once-insert : (m : ℕ) (xs : List ℕ) (i : ℕ) → Under m xs → EachOnce xs → EachOnce (insert xs i m)
once-insert m [] zero u o = (refl, tt)
once-insert m [] (suc i) u o = (refl, tt)
once-insert m (x ∷ xs) zero u o = (under-absent m (x ∷ xs) u, o)
once-insert m (x ∷ xs) (suc i) u o = (holds-insert x xs i m (ne_eqb m x (λ e. let a = u.0 in omega (arith, a, e))) o.0, once-insert m xs i u.1 o.1)

-- ---- fresh numbers

pub no_box : (next : ℕ) (boxes : List Node) → Under next (numbers boxes) → list_any (is_box next) boxes ≡ false
no_box next [] u = refl
no_box next (n ∷ ns) u = or_from (n.id == next) (list_any (is_box next) ns) (ne_eqb n.id next (λ e. let a = u.0 in omega (arith, a, e))) (no_box next ns u.1)

no_range : (next : ℕ) (rs : List OwnedQuant) → Under next (map (λ r. r.id) rs) → list_any (is_quant next) rs ≡ false
no_range next [] u = refl
no_range next (r ∷ rs) u = or_from (r.id == next) (list_any (is_quant next) rs) (ne_eqb r.id next (λ e. let a = u.0 in omega (arith, a, e))) (no_range next rs u.1)

pub no_quant : (next : ℕ) (boxes : List Node) → Under next (ids_in boxes) → list_any (owns next) boxes ≡ false
no_quant next [] u = refl
no_quant next (n ∷ ns) u =
    or_from (owns next n) (list_any (owns next) ns) (no_range next n.quants (under-left next (ids_of n) (ids_in ns) u)) (no_quant next ns (under-right next (ids_of n) (ids_in ns) u))

-- ---- edits of one box

module _ (p : Node → Bool) (f : Node → Node) where
  pub numbers-change : ((n : Node) → (f n).id ≡ n.id) → (ns : List Node) → numbers (change p f ns) ≡ numbers ns
  numbers-change h [] = refl
  numbers-change h (n ∷ ns) =
      elim (p n) as (λ t. ◌≡◌ {A = List ℕ} (numbers (cond t (f n ∷ ns) (n ∷ change p f ns))) (n.id ∷ numbers ns)) [
        | true ↦ ap (λ b. b ∷ numbers ns) (h n)
        | false ↦ ap (λ bs. n.id ∷ bs) (numbers-change h ns)
      ]

  pub under-change : (m : ℕ) → ((n : Node) → Under m (ids_of n) → Under m (ids_of (f n))) → (ns : List Node) → Under m (ids_in ns) → Under m (ids_in (change p f ns))
  under-change m h [] u = tt
  under-change m h (n ∷ ns) u =
      let l = under-left m (ids_of n) (ids_in ns) u in
      let r = under-right m (ids_of n) (ids_in ns) u in
      elim (p n) as (λ t. Under m (ids_in (cond t (f n ∷ ns) (n ∷ change p f ns)))) [
        | true ↦ under-append m (ids_of (f n)) (ids_in ns) (h n l) r
        | false ↦ under-append m (ids_of n) (ids_in (change p f ns)) l (under-change m h ns r)
      ]

  pub fewer-change : (k : ℕ) → ((n : Node) → length (ids_of (f n)) ≤ length (ids_of n) + k) → (ns : List Node) → length (ids_in (change p f ns)) ≤ length (ids_in ns) + k
  fewer-change k h [] = omega arith
  fewer-change k h (n ∷ ns) =
      elim (p n) as (λ t. length (ids_in (cond t (f n ∷ ns) (n ∷ change p f ns))) ≤ length (ids_of n ++ ids_in ns) + k) [
        | true ↦ (let a = h n in rw (length-append (ids_of (f n)) (ids_in ns), length-append (ids_of n) (ids_in ns)) (omega (arith, a)))
        | false ↦ (let a = fewer-change k h ns in rw (length-append (ids_of n) (ids_in (change p f ns)), length-append (ids_of n) (ids_in ns)) (omega (arith, a)))
      ]

  -- numbers stay, and quantifiers go up by k at most
  pub numbered-change : (a b k : ℕ) (ns : List Node) → ((n : Node) → (f n).id ≡ n.id) → ((n : Node) → Under (b + k) (ids_of n) → Under (b + k) (ids_of (f n))) → ((n : Node) → length (ids_of (f n)) ≤ length (ids_of n) + k) →
      Numbered a b ns → Numbered a (b + k) (change p f ns)
  numbered-change a b k ns same below fewer m =
      let e = sym (numbers-change same ns) in
      let l = fewer-change k fewer ns in
      let d = m.3 in
      (subst (Under a) e m.0, subst EachOnce e m.1, under-change (b + k) below ns (under-weaker b (b + k) (ids_in ns) (omega arith) m.2), omega (arith, l, d))

-- an edit that leaves a box its number and its quantifiers theirs
pub numbered-parts : (p : Node → Bool) (f : Node → Node) (a b : ℕ) (ns : List Node) → ((n : Node) → (f n).id ≡ n.id) → ((n : Node) → ids_of (f n) ≡ ids_of n) → Numbered a b ns → Numbered a b (change p f ns)
numbered-parts p f a b ns same ids m =
    let h = numbered-change p f a b 0 ns same (λ n u. subst (Under (b + 0)) (sym (ids n)) u) (λ n. let e : length (ids_of (f n)) ≡ length (ids_of n) = ap length (ids n) in omega (arith, e)) m in
    subst (λ c. Numbered a c (change p f ns)) (add-zero b) h

-- ---- one element written

pub ids-set : (rs : List OwnedQuant) (i : ℕ) (y d : OwnedQuant) → i < length rs → y.id ≡ (get_or rs i d).id → map (λ r. r.id) (set rs i y) ≡ map (λ r. r.id) rs
ids-set [] i y d l e = absurd (omega arith)
ids-set (r ∷ rs) zero y d l e = ap (λ (q : ℕ). q ∷ map (λ r. r.id) rs) e
ids-set (r ∷ rs) (suc i) y d l e = ap (λ (qs : List ℕ). r.id ∷ qs) (ids-set rs i y d (omega arith) e)

numbers-set : (ns : List Node) (i : ℕ) (y d : Node) → i < length ns → y.id ≡ (get_or ns i d).id → numbers (set ns i y) ≡ numbers ns
numbers-set [] i y d l e = absurd (omega arith)
numbers-set (n ∷ ns) zero y d l e = ap (λ (b : ℕ). b ∷ numbers ns) e
numbers-set (n ∷ ns) (suc i) y d l e = ap (λ (bs : List ℕ). n.id ∷ bs) (numbers-set ns i y d (omega arith) e)

ids_in-set : (ns : List Node) (i : ℕ) (y d : Node) → i < length ns → ids_of y ≡ ids_of (get_or ns i d) → ids_in (set ns i y) ≡ ids_in ns
ids_in-set [] i y d l e = absurd (omega arith)
ids_in-set (n ∷ ns) zero y d l e = ap (λ (qs : List ℕ). qs ++ ids_in ns) e
ids_in-set (n ∷ ns) (suc i) y d l e = ap (λ (qs : List ℕ). ids_of n ++ qs) (ids_in-set ns i y d (omega arith) e)

-- a box is written that has the number and the quantifiers of the one that stood there
pub numbered-set : (a b : ℕ) (ns : List Node) (i : ℕ) (y d : Node) → i < length ns → y.id ≡ (get_or ns i d).id → ids_of y ≡ ids_of (get_or ns i d) → Numbered a b ns → Numbered a b (set ns i y)
numbered-set a b ns i y d l e f m =
    let p = sym (numbers-set ns i y d l e) in
    let q = sym (ids_in-set ns i y d l f) in
    (subst (Under a) p m.0, subst EachOnce p m.1, subst (Under b) q m.2, subst (λ qs. length qs ≤ b) q m.3)

-- ---- a box more

pub ids-insert : (ns : List Node) (i : ℕ) (n : Node) → ids_of n ≡ [] → ids_in (insert ns i n) ≡ ids_in ns
ids-insert [] zero n e = ap (λ (qs : List ℕ). qs ++ []) e
ids-insert [] (suc i) n e = ap (λ (qs : List ℕ). qs ++ []) e
ids-insert (m ∷ ns) zero n e = ap (λ (qs : List ℕ). qs ++ ids_in (m ∷ ns)) e
ids-insert (m ∷ ns) (suc i) n e = ap (λ (qs : List ℕ). ids_of m ++ qs) (ids-insert ns i n e)

pub numbered-insert : (a b : ℕ) (ns : List Node) (i : ℕ) (n : Node) → n.id ≡ a → ids_of n ≡ [] → Numbered a b ns → Numbered (a + 1) b (insert ns i n)
numbered-insert a b ns i n at none m =
    let e : insert (numbers ns) i a ≡ numbers (insert ns i n) = ap (λ (x : ℕ). insert (numbers ns) i x) (sym at) ∙ map_insert (λ (x : Node). x.id) ns i n in
    let q = sym (ids-insert ns i n none) in (
      subst (Under (a + 1)) e (under-insert (a + 1) (numbers ns) i a (omega arith) (under-weaker a (a + 1) (numbers ns) (omega arith) m.0)),
      subst EachOnce e (once-insert a (numbers ns) i m.0 m.1),
      subst (Under b) q m.2,
      subst (λ qs. length qs ≤ b) q m.3,
    )

-- ---- a quantifier more or less

pub ids-insert_one : (rs : List OwnedQuant) (i : ℕ) (r : OwnedQuant) → insert (map (λ r. r.id) rs) i r.id ≡ map (λ r. r.id) (insert rs i r)
ids-insert_one rs i r = map_insert (λ (r : OwnedQuant). r.id) rs i r

pub length-insert : (xs : List ℕ) (i y : ℕ) → length (insert xs i y) ≡ length xs + 1
length-insert [] zero y = refl
length-insert [] (suc i) y = refl
length-insert (x ∷ xs) zero y = omega arith
length-insert (x ∷ xs) (suc i) y = let h = length-insert xs i y in omega (arith, h)

pub numbered-quant : (p : Node → Bool) (a b : ℕ) (ns : List Node) (i : ℕ) (r : OwnedQuant) → r.id ≡ b → Numbered a b ns → Numbered a (b + 1) (change p (put_range i r) ns)
numbered-quant p a b ns i r at m =
    numbered-change p (put_range i r) a b 1 ns (λ n. refl)
    (λ n u. subst (Under (b + 1)) (ids-insert_one n.quants i r) (under-insert (b + 1) (ids_of n) i r.id (omega (arith, at)) u))
    (λ n. let e : length (ids_of (put_range i r n)) ≡ length (ids_of n) + 1 = ap length (sym (ids-insert_one n.quants i r)) ∙ length-insert (ids_of n) i r.id in omega (arith, e)) m

under-without : (m : ℕ) (p : OwnedQuant → Bool) (rs : List OwnedQuant) → Under m (map (λ r. r.id) rs) → Under m (map (λ r. r.id) (without p rs))
under-without m p [] u = tt
under-without m p (r ∷ rs) u =
    elim (p r) as (λ t. Under m (map (λ r. r.id) (cond t rs (r ∷ without p rs)))) [
      | true ↦ u.1
      | false ↦ (u.0, under-without m p rs u.1)
    ]

fewer-without : (p : OwnedQuant → Bool) (rs : List OwnedQuant) → length (map (λ r. r.id) (without p rs)) ≤ length (map (λ r. r.id) rs)
fewer-without p [] = omega arith
fewer-without p (r ∷ rs) =
    elim (p r) as (λ t. length (map (λ r. r.id) (cond t rs (r ∷ without p rs))) ≤ suc (length (map (λ r. r.id) rs))) [
      | true ↦ omega arith
      | false ↦ (let h = fewer-without p rs in omega (arith, h))
    ]

pub numbered-without : (p : Node → Bool) (q a b : ℕ) (ns : List Node) → Numbered a b ns → Numbered a b (change p (without_quant q) ns)
numbered-without p q a b ns m =
    let h = numbered-change p (without_quant q) a b 0 ns (λ n. refl) (λ n u. under-without (b + 0) (is_quant q) n.quants u) (λ n. let e = fewer-without (is_quant q) n.quants in omega (arith, e)) m in
    subst (λ c. Numbered a c (change p (without_quant q) ns)) (add-zero b) h

ids-change_one : (p : OwnedQuant → Bool) (f : OwnedQuant → OwnedQuant) (rs : List OwnedQuant) → ((r : OwnedQuant) → (f r).id ≡ r.id) → map (λ r. r.id) (change p f rs) ≡ map (λ r. r.id) rs
ids-change_one p f [] h = refl
ids-change_one p f (r ∷ rs) h =
    elim (p r) as (λ t. ◌≡◌ {A = List ℕ} (map (λ r. r.id) (cond t (f r ∷ rs) (r ∷ change p f rs))) (map (λ r. r.id) (r ∷ rs))) [
      | true ↦ ap (λ (q : ℕ). q ∷ map (λ r. r.id) rs) (h r)
      | false ↦ ap (λ (qs : List ℕ). r.id ∷ qs) (ids-change_one p f rs h)
    ]

pub ids-on_quant : (q : ℕ) (f : OwnedQuant → OwnedQuant) (n : Node) → ((r : OwnedQuant) → (f r).id ≡ r.id) → ids_of (on_quant q f n) ≡ ids_of n
ids-on_quant q f n h = ids-change_one (is_quant q) f n.quants h
