-- What goes by the greatest levels of the tuples alone.
use Rattle.std.proofs.Common.{◌≡◌, ◌≢◌, ℕ, ◌+◌, ◌<◌, ◌≤◌, min, eqb-true, Bool, true, false, cond, nat_eq, ◌&&◌, List, [], ◌∷◌, ◌++◌, refl, ap, ap₂, sym, ◌∙◌, Decides, ◌⊎◌, inl, inr, ⊎_elim, arith}
use Rattle.std.proofs.lemmas.Bool.{cases_Bool, eq-eqb, eqb-false, cases_lt}
use mathlib.Core.Path.{fun_ext}
use Rattle.sql_value.specs.declared.level.Level.{Level}
use Rattle.sql_value.specs.declared.level.Level.TheVariants.{No, Cardinality, Division, Overflow, Yes}
use Rattle.sql_value.specs.Level.{rank, least, greatest}
use Rattle.row_bag.specs.Bags.{row, keep, bind, fold_map, if_there, total, same_level, count, Alike, IsCommutativeMonoid}
use Rattle.row_bag.specs.declared.row.Row.{Row}
use Rattle.row_bag.specs.Sets.{multiplicity, level_in, once, distinct, SameLevels}
use Rattle.row_bag.proofs.Levels.{greatest-monoid, level_is_no, least-associative, least-commutative, least-no, no-least, yes-least, least-greatest, greatest-associative, greatest-commutative, greatest-itself, greatest-no, no-greatest, greatest-either, same_level-true}
use Rattle.row_bag.proofs.Folds.{four, fold_map-append, fold_map-act}
use Rattle.row_bag.proofs.Agreement.{sum-monoid, total-keep, total-bind}
use Rattle.row_bag.proofs.Counts.{alike-from_agree, total-alike, total-take_out, take_out, hits, hits_each, count-take_out, count-total}
use Rattle.row_bag.proofs.SetLaws.{if_there-at, count-once}

-- a is no higher than b
abbrev pub Below : Level → Level → Type 0
Below a b = greatest a b ≡ b

below-both : (a b : Level) → Below a b → Below b a → a ≡ b
below-both a b h k = sym k ∙ greatest-commutative b a ∙ h

below-trans : (a b c : Level) → Below a b → Below b c → Below a c
below-trans a b c h k = ap (greatest a) (sym k) ∙ sym (greatest-associative a b c) ∙ ap (λ x. greatest x c) h ∙ k

below-left : (a b m : Level) → Below (greatest a b) m → Below a m
below-left a b m h = ap (greatest a) (sym h) ∙ sym (greatest-associative a (greatest a b) m) ∙ ap (λ x. greatest x m) (sym (greatest-associative a a b) ∙ ap (λ x. greatest x b) (greatest-itself a)) ∙ h

below-right : (a b m : Level) → Below (greatest a b) m → Below b m
below-right a b m h = below-left b a m (ap (λ x. greatest x m) (greatest-commutative b a) ∙ h)

below-greatest : (a b m : Level) → Below a m → Below b m → Below (greatest a b) m
below-greatest a b m h k = greatest-associative a b m ∙ ap (greatest a) k ∙ h

-- least keeps the order
below-least : (a b c : Level) → Below a b → Below (least a c) (least b c)
below-least a b c h = ap₂ greatest (least-commutative a c) (least-commutative b c) ∙ sym (least-greatest c a b) ∙ ap (least c) h ∙ least-commutative c b

below-both_gather : {X : Type 0} (f g : X → Level) (xs : List X) → ((x : X) → Below (f x) (g x)) → Below (fold_map greatest No f xs) (fold_map greatest No g xs)
below-both_gather f g [] h = refl
below-both_gather f g (x ∷ xs) h = four greatest-monoid (f x) (fold_map greatest No f xs) (g x) (fold_map greatest No g xs) ∙ ap₂ greatest (h x) (below-both_gather f g xs h)

-- the whole is no lower than a part, and as low as any bound of the parts
below-fold_map : {X : Type 0} (f : X → Level) (xs : List X) (m : Level) → ((x : X) → Below (f x) m) → Below (fold_map greatest No f xs) m
below-fold_map f [] m h = no-greatest m
below-fold_map f (x ∷ xs) m h = greatest-associative (f x) (fold_map greatest No f xs) m ∙ ap (greatest (f x)) (below-fold_map f xs m h) ∙ h x

-- a least over the parts is the least of the whole
pub least-fold_map : {X : Type 0} (l : Level) (f : X → Level) (xs : List X) → least l (fold_map greatest No f xs) ≡ fold_map greatest No (λ x. least l (f x)) xs
least-fold_map l f xs = fold_map-act greatest No greatest No (least l) (least-no l) (λ a b. least-greatest l a b) f xs

least_weigh : {T : Type 0} (l : Level) (f : T → Level → Level) (c : T) (k : Level) → least l (if_there No f c k) ≡ if_there No (λ c k. least l (f c k)) c k
least_weigh l f c No = least-no l
least_weigh l f c Cardinality = refl
least_weigh l f c Division = refl
least_weigh l f c Overflow = refl
least_weigh l f c Yes = refl

pub least-total : {T : Type 0} (l : Level) (f : T → Level → Level) (rs : List (Row T)) → least l (total greatest No f rs) ≡ total greatest No (λ c k. least l (f c k)) rs
least-total l f rs = least-fold_map l (λ r. if_there No f r.cells r.level) rs ∙ ap (λ w. fold_map greatest No w rs) (fun_ext (λ r. least_weigh l f r.cells r.level))

cond_least : (b : Bool) (l k : Level) → cond b (least l k) No ≡ least l (cond b k No)
cond_least true l k = refl
cond_least false l k = sym (least-no l)

module _ {T : Type 0} (same : T → T → Bool) where
  pub level_in-append : (c : T) (xs ys : List (Row T)) → level_in same c (xs ++ ys) ≡ greatest (level_in same c xs) (level_in same c ys)
  level_in-append c xs ys = fold_map-append greatest-monoid (λ r. if_there No (λ k m. cond (same k c) m No) r.cells r.level) xs ys

  in_keep : (c : T) (l : Level) (k : T) (m : Level) → if_there No (λ k m. cond (same k c) m No) k (least l m) ≡ cond (same k c) (least l m) No
  in_keep c l k m = at (least l m)
    where
      at : (n : Level) → if_there No (λ k m. cond (same k c) m No) k n ≡ cond (same k c) n No
      at No = elim (same k c) as (λ b. No ≡ cond b No No) [ true ↦ refl | false ↦ refl ]
      at Cardinality = refl
      at Division = refl
      at Overflow = refl
      at Yes = refl

  pub level_in-keep : (c : T) (l : Level) (rs : List (Row T)) → level_in same c (keep l rs) ≡ least l (level_in same c rs)
  level_in-keep c l rs =
      total-keep greatest-monoid (λ k m. cond (same k c) m No) l rs
      ∙ ap (λ w. total greatest No w rs) (fun_ext (λ k. fun_ext (λ m. in_keep c l k m ∙ cond_least (same k c) l m)))
      ∙ sym (least-total l (λ k m. cond (same k c) m No) rs)

  pub level_in-bind : {A : Type 0} (c : T) (xs : List (Row A)) (f : A → List (Row T)) → level_in same c (bind xs f) ≡ total greatest No (λ a l. least l (level_in same c (f a))) xs
  level_in-bind c xs f =
      total-bind greatest-monoid (λ k m. cond (same k c) m No) xs f
      ∙ ap (λ w. total greatest No w xs) (fun_ext (λ a. fun_ext (λ l. level_in-keep c l (f a))))

  pub levels-refl : (xs : List (Row T)) → SameLevels same xs xs
  levels-refl xs = record { levels = λ c. refl }

  pub levels-trans : {xs ys zs : List (Row T)} → SameLevels same xs ys → SameLevels same ys zs → SameLevels same xs zs
  levels-trans h k = record { levels = λ c. h.levels c ∙ k.levels c }

  pub levels-sym : {xs ys : List (Row T)} → SameLevels same xs ys → SameLevels same ys xs
  levels-sym h = record { levels = λ c. sym (h.levels c) }

  pub levels-append : {xs ys us vs : List (Row T)} → SameLevels same xs us → SameLevels same ys vs → SameLevels same (xs ++ ys) (us ++ vs)
  levels-append {xs = xs} {ys = ys} {us = us} {vs = vs} h k = record { levels = λ c. level_in-append c xs ys ∙ ap₂ greatest (h.levels c) (k.levels c) ∙ sym (level_in-append c us vs) }

  pub levels-keep : {xs ys : List (Row T)} (l : Level) → SameLevels same xs ys → SameLevels same (keep l xs) (keep l ys)
  levels-keep {xs = xs} {ys = ys} l h = record { levels = λ c. level_in-keep c l xs ∙ ap (least l) (h.levels c) ∙ sym (level_in-keep c l ys) }

  -- EXISTS under DISTINCT is a join
  pub exists-as_join : {A : Type 0} (rows : List (Row A)) (t : A → Level) (xs : List (Row T)) →
      SameLevels same (keep (total greatest No (λ a l. least l (t a)) rows) xs) (bind rows (λ a. keep (t a) xs))
  exists-as_join rows t xs = record {
    levels = λ c.
        level_in-keep c (total greatest No (λ a l. least l (t a)) rows) xs
        ∙ least-commutative (total greatest No (λ a l. least l (t a)) rows) (level_in same c xs)
        ∙ least-total (level_in same c xs) (λ a l. least l (t a)) rows
        ∙ ap (λ w. total greatest No w rows) (fun_ext (λ a. fun_ext (λ l.
        least-commutative (level_in same c xs) (least l (t a)) ∙ least-associative l (t a) (level_in same c xs) ∙ ap (least l) (sym (level_in-keep c (t a) xs)))))
        ∙ sym (level_in-bind c rows (λ a. keep (t a) xs));
  }

module _ {T : Type 0} (same : T → T → Bool) (dec : (a b : T) → Decides (same a b) (a ≡ b)) where
  pub levels-from_alike : {xs ys : List (Row T)} → Alike xs ys → SameLevels same xs ys
  levels-from_alike h = record { levels = λ c. total-alike same dec greatest-monoid (λ k m. cond (same k c) m No) h }

  -- what a bag gives by the greatest levels of its tuples
  weigh_least : (h : Level) (k : T) (m : Level) (w : T → Level) → if_there No (λ a l. least l (w a)) k m ≡ least m (w k)
  weigh_least h k No w = sym (no-least (w k))
  weigh_least h k Cardinality w = refl
  weigh_least h k Division w = refl
  weigh_least h k Overflow w = refl
  weigh_least h k Yes w = refl

  pub own : (c : T) (m : Level) → if_there No (λ k m. cond (same k c) m No) c m ≡ m
  own c No = refl
  own c Cardinality = rw (dec c c).1 refl
  own c Division = rw (dec c c).1 refl
  own c Overflow = rw (dec c c).1 refl
  own c Yes = rw (dec c c).1 refl

  -- one tuple's part of what a bag gives
  tuple_below : (h : T → Level) (c : T) (ys : List (Row T)) → Below (least (level_in same c ys) (h c)) (total greatest No (λ a l. least l (h a)) ys)
  tuple_below h c ys = rw (least-commutative (level_in same c ys) (h c) ∙ least-total (h c) (λ k m. cond (same k c) m No) ys)
      (below-both_gather (λ r. if_there No (λ k m. least (h c) (cond (same k c) m No)) r.cells r.level) (λ r. if_there No (λ a l. least l (h a)) r.cells r.level) ys (λ r. each r.cells r.level))
    where
      at : (k : T) (m : Level) → Below (least (h c) (cond (same k c) m No)) (least m (h k))
      at k m = ⊎_elim
          (λ (t : same k c ≡ true).
          let e : k ≡ c = (dec k c).0 t in
          ap (λ b. greatest (least (h c) (cond b m No)) (least m (h k))) t ∙ ap (λ x. greatest (least (h c) m) (least m (h x))) e
          ∙ ap (λ x. greatest x (least m (h c))) (least-commutative (h c) m) ∙ greatest-itself (least m (h c)) ∙ sym (ap (λ x. least m (h x)) e))
          (λ (t : same k c ≡ false).
          ap (λ b. greatest (least (h c) (cond b m No)) (least m (h k))) t ∙ ap (λ x. greatest x (least m (h k))) (least-no (h c)) ∙ no-greatest (least m (h k)))
          (cases_Bool (same k c))

      each : (k : T) (m : Level) → Below (if_there No (λ k m. least (h c) (cond (same k c) m No)) k m) (if_there No (λ a l. least l (h a)) k m)
      each k No = refl
      each k Cardinality = at k Cardinality
      each k Division = at k Division
      each k Overflow = at k Overflow
      each k Yes = at k Yes

  below-total : (h : T → Level) (xs ys : List (Row T)) → ((c : T) → Below (level_in same c xs) (level_in same c ys)) → Below (total greatest No (λ a l. least l (h a)) xs) (total greatest No (λ a l. least l (h a)) ys)
  below-total h [] ys s = no-greatest (total greatest No (λ a l. least l (h a)) ys)
  below-total h (r ∷ rs) ys s =
      below-greatest (if_there No (λ a l. least l (h a)) r.cells r.level) (total greatest No (λ a l. least l (h a)) rs) (total greatest No (λ a l. least l (h a)) ys)
      (ap (λ x. greatest x (total greatest No (λ a l. least l (h a)) ys)) (weigh_least No r.cells r.level h)
      ∙ (below-trans (least r.level (h r.cells)) (least (level_in same r.cells ys) (h r.cells)) (total greatest No (λ a l. least l (h a)) ys)
      (below-least r.level (level_in same r.cells ys) (h r.cells)
      (ap (λ x. greatest x (level_in same r.cells ys)) (sym (own r.cells r.level)) ∙ (below-left (if_there No (λ k m. cond (same k r.cells) m No) r.cells r.level) (level_in same r.cells rs) (level_in same r.cells ys) (s r.cells))))
      (tuple_below h r.cells ys)))
      (below-total h rs ys (λ c. below-right (if_there No (λ k m. cond (same k c) m No) r.cells r.level) (level_in same c rs) (level_in same c ys) (s c)))

  -- what EXISTS, a join under DISTINCT and the like give, goes by the greatest levels alone
  pub total-levels : (h : T → Level) {xs ys : List (Row T)} → SameLevels same xs ys → total greatest No (λ a l. least l (h a)) xs ≡ total greatest No (λ a l. least l (h a)) ys
  total-levels h {xs = xs} {ys = ys} s =
      below-both (total greatest No (λ a l. least l (h a)) xs) (total greatest No (λ a l. least l (h a)) ys)
      (below-total h xs ys (λ c. ap (λ m. greatest m (level_in same c ys)) (s.levels c) ∙ greatest-itself (level_in same c ys)))
      (below-total h ys xs (λ c. ap (λ m. greatest m (level_in same c xs)) (sym (s.levels c)) ∙ greatest-itself (level_in same c xs)))

  pub levels-bind : {U : Type 0} (same_u : U → U → Bool) {xs ys : List (Row T)} {f g : T → List (Row U)} → SameLevels same xs ys → ((c : T) → SameLevels same_u (f c) (g c)) → SameLevels same_u (bind xs f) (bind ys g)
  levels-bind same_u {xs = xs} {ys = ys} {f = f} {g = g} h k = record {
    levels = λ u.
        level_in-bind same_u u xs f
        ∙ total-levels (λ a. level_in same_u u (f a)) h
        ∙ ap (λ w. total greatest No w ys) (fun_ext (λ a. fun_ext (λ l. ap (least l) ((k a).levels u))))
        ∙ sym (level_in-bind same_u u ys g);
  }

  -- a weight that is nothing but at one tuple
  pub total-absent : {M : Type 0} {op : M → M → M} {e : M} (m : IsCommutativeMonoid M op e) (f : T → Level → M) (c : T) → ((k : T) (l : Level) → same k c ≡ false → f k l ≡ e) →
      (rs : List (Row T)) → ((l : Level) → l ≢ No → count same c l rs ≡ 0) → total op e f rs ≡ e
  total-absent m f c z [] h = refl
  total-absent {op = op} {e = e} m f c z (r ∷ rs) h =
      ap₂ op (first (level_is_no r.level) (cases_Bool (same r.cells c)))
      (total-absent m f c z rs (λ l n. let k : count same c l (r ∷ rs) ≡ 0 = h l n in omega (arith, k)))
      ∙ m.unit e
    where
      first : (r.level ≡ No) ⊎ (r.level ≢ No) → (same r.cells c ≡ true) ⊎ (same r.cells c ≡ false) → if_there e f r.cells r.level ≡ e
      first (inl t) s = ap (if_there e f r.cells) t
      first (inr n) (inl s) =
          let k : cond (same r.cells c && same_level r.level r.level) 1 0 + count same c r.level rs ≡ 0 = h r.level n in
          let k2 : cond (same_level r.level r.level) 1 0 + count same c r.level rs ≡ 0 = rw s at k in
          let k3 : 1 + count same c r.level rs ≡ 0 = rw (eq-eqb (rank r.level) (rank r.level) refl) at k2 in
          absurd (omega (arith, k3))
      first (inr n) (inr s) = if_there-at e f r.cells r.level n ∙ z r.cells r.level s

  count_none : (c : T) (rs : List (Row T)) → multiplicity same c rs ≡ 0 → (l : Level) → l ≢ No → count same c l rs ≡ 0
  count_none c rs h l n =
      ⊎_elim (λ (t : 0 < count same c l rs).
      let k : multiplicity same c rs ≡ if_there 0 (λ k m. cond (same k c) 1 0) c l + multiplicity same c (take_out same c l rs) = total-take_out same dec sum-monoid (λ k m. cond (same k c) 1 0) c l rs t in
      let k2 : if_there 0 (λ k m. cond (same k c) 1 0) c l ≡ 1 = if_there-at {M = ℕ} 0 (λ k m. cond (same k c) 1 0) c l n ∙ ap (λ b. cond b 1 0) ((dec c c).1 refl) in
      absurd (omega (arith, k, k2, h)))
      (λ (t : count same c l rs ≤ 0). omega arith)
      (cases_lt 0 (count same c l rs))

  pub level_in-absent : (c : T) (rs : List (Row T)) → multiplicity same c rs ≡ 0 → level_in same c rs ≡ No
  level_in-absent c rs h = total-absent greatest-monoid (λ k m. cond (same k c) m No) c (λ k l t. ap (λ b. cond b l No) t) rs (count_none c rs h)

  -- the point law: over the tuples of a bag, each once, such a weight gives what it gives at its tuple
  pub total-once : {M : Type 0} {op : M → M → M} {e : M} (m : IsCommutativeMonoid M op e) (f : T → Level → M) (c : T) → ((k : T) (l : Level) → same k c ≡ false → f k l ≡ e) →
      (rs : List (Row T)) → total op e f (once same rs) ≡ cond (nat_eq (multiplicity same c rs) 0) e (f c Yes)
  total-once {op = op} {e = e} m f c z rs =
      ⊎_elim
      (λ (t : nat_eq (multiplicity same c rs) 0 ≡ true).
      let zero : multiplicity same c rs ≡ 0 = eqb-true (multiplicity same c rs) 0 t in
      rw t (total-absent m f c z (once same rs) (λ l n. count-once same dec c l rs ∙ ap (λ x. cond (same_level Yes l) (min 1 x) 0) zero ∙ either (same_level Yes l))))
      (λ (t : nat_eq (multiplicity same c rs) 0 ≡ false).
      let some : multiplicity same c rs ≡ 0 → ⊥ = eqb-false (multiplicity same c rs) 0 t in
      let one : count same c Yes (once same rs) ≡ min 1 (multiplicity same c rs) = count-once same dec c Yes rs in
      let in_it : 0 < count same c Yes (once same rs) = omega (arith, one, some) in
      rw t (total-take_out same dec m f c Yes (once same rs) in_it
      ∙ ap (op (f c Yes)) (total-absent m f c z (take_out same c Yes (once same rs)) (λ l n. left l n in_it))
      ∙ m.commutative (f c Yes) e ∙ m.unit (f c Yes)))
      (cases_Bool (nat_eq (multiplicity same c rs) 0))
    where
      either : (b : Bool) → cond b (min 1 0) 0 ≡ 0
      either true = refl
      either false = refl

      left : (l : Level) → l ≢ No → 0 < count same c Yes (once same rs) → count same c l (take_out same c Yes (once same rs)) ≡ 0
      left l n h =
          let a : count same c l (once same rs) ≡ if_there 0 (hits same c l) c Yes + count same c l (take_out same c Yes (once same rs)) = count-take_out same dec c l n c Yes (once same rs) h in
          let b : count same c l (once same rs) ≡ cond (same_level Yes l) (min 1 (multiplicity same c rs)) 0 = count-once same dec c l rs in
          let d : if_there 0 (hits same c l) c Yes ≡ cond (same_level Yes l) 1 0 = ap (λ s. cond (s && same_level Yes l) 1 0) ((dec c c).1 refl) in
          fits (same_level Yes l) (multiplicity same c rs) (count same c l (take_out same c Yes (once same rs))) (sym (a ∙ ap (λ x. x + count same c l (take_out same c Yes (once same rs))) d) ∙ b)
        where
          fits : (b : Bool) (n m : ℕ) → cond b 1 0 + m ≡ cond b (min 1 n) 0 → m ≡ 0
          fits true n m h = omega arith
          fits false n m h = omega arith

  weigh_nothing : {M : Type 0} (e : M) (w : T → Level → M) (k : T) → ((l : Level) → w k l ≡ e) → (l : Level) → if_there e w k l ≡ e
  weigh_nothing e w k z No = refl
  weigh_nothing e w k z Cardinality = z Cardinality
  weigh_nothing e w k z Division = z Division
  weigh_nothing e w k z Overflow = z Overflow
  weigh_nothing e w k z Yes = z Yes

  -- what such a weight gives over `distinct`
  pub total-distinct : {M : Type 0} {op : M → M → M} {e : M} (m : IsCommutativeMonoid M op e) (w : T → Level → M) (c : T) → ((k : T) (l : Level) → same k c ≡ false → w k l ≡ e) →
      (rs : List (Row T)) → total op e w (distinct same rs) ≡ if_there e w c (level_in same c rs)
  total-distinct {op = op} {e = e} m w c z rs =
      total-bind m w (once same rs) (λ k. row k (level_in same k rs) ∷ [])
      ∙ total-once m (λ k l. op (if_there e w k (least l (level_in same k rs))) e) c
      (λ k l t. ap (λ x. op x e) (weigh_nothing e w k (λ l. z k l t) (least l (level_in same k rs))) ∙ m.unit e) rs
      ∙ ap (λ x. cond (nat_eq (multiplicity same c rs) 0) e x) (m.commutative (if_there e w c (least Yes (level_in same c rs))) e ∙ m.unit (if_there e w c (least Yes (level_in same c rs))) ∙ ap (if_there e w c) (yes-least (level_in same c rs)))
      ∙ ⊎_elim
      (λ (t : nat_eq (multiplicity same c rs) 0 ≡ true). ap (λ b. cond b e (if_there e w c (level_in same c rs))) t ∙ ap (if_there e w c) (sym (level_in-absent c rs (eqb-true (multiplicity same c rs) 0 t))))
      (λ (t : nat_eq (multiplicity same c rs) 0 ≡ false). ap (λ b. cond b e (if_there e w c (level_in same c rs))) t)
      (cases_Bool (nat_eq (multiplicity same c rs) 0))

  -- each tuple stands in `distinct` once, at its greatest level
  pub distinct-is : (rs : List (Row T)) → (c : T) (l : Level) → l ≢ No → count same c l (distinct same rs) ≡ cond (same_level (level_in same c rs) l) 1 0
  distinct-is rs c l n =
      count-total same c l n (distinct same rs)
      ∙ total-distinct sum-monoid (hits same c l) c (λ k m t. ap (λ b. cond (b && same_level m l) 1 0) t) rs
      ∙ sym (hits_each same c l n c (level_in same c rs))
      ∙ ap (λ b. cond (b && same_level (level_in same c rs) l) 1 0) ((dec c c).1 refl)

  -- DISTINCT goes by the greatest levels alone
  pub distinct-levels : {xs ys : List (Row T)} → SameLevels same xs ys → Alike (distinct same xs) (distinct same ys)
  distinct-levels {xs = xs} {ys = ys} h = alike-from_agree same dec (record {
    counts = λ c l n.
        distinct-is xs c l n ∙ ap (λ m. cond (same_level m l) 1 0) (h.levels c) ∙ sym (distinct-is ys c l n);
  })

  pub levels-distinct : (xs : List (Row T)) → SameLevels same (distinct same xs) xs
  levels-distinct xs = record {
    levels = λ c.
        total-distinct greatest-monoid (λ k m. cond (same k c) m No) c (λ k m t. ap (λ b. cond b m No) t) xs ∙ own c (level_in same c xs);
  }

  -- a tuple stands at its greatest level
  level_stands : (c : T) (xs : List (Row T)) → level_in same c xs ≢ No → 0 < count same c (level_in same c xs) xs
  level_stands c [] n = absurd (n refl)
  level_stands c (r ∷ rs) n = ⊎_elim
      (λ (t : level_in same c (r ∷ rs) ≡ if_there No (λ k m. cond (same k c) m No) r.cells r.level).
      let k : count same c (level_in same c (r ∷ rs)) (r ∷ rs) ≡ cond (same r.cells c && same_level r.level (level_in same c (r ∷ rs))) 1 0 + count same c (level_in same c (r ∷ rs)) rs = refl in
      let k2 : cond (same r.cells c && same_level r.level (level_in same c (r ∷ rs))) 1 0 ≡ 1 = here r.cells r.level (level_in same c (r ∷ rs)) n t in
      omega (arith, k, k2))
      (λ (t : level_in same c (r ∷ rs) ≡ level_in same c rs).
      let k : count same c (level_in same c (r ∷ rs)) (r ∷ rs) ≡ cond (same r.cells c && same_level r.level (level_in same c (r ∷ rs))) 1 0 + count same c (level_in same c (r ∷ rs)) rs = refl in
      let k2 : 0 < count same c (level_in same c rs) rs = level_stands c rs (λ z. n (t ∙ z)) in
      let k3 : count same c (level_in same c (r ∷ rs)) rs ≡ count same c (level_in same c rs) rs = ap (λ l. count same c l rs) t in
      omega (arith, k, k2, k3))
      (greatest-either (if_there No (λ k m. cond (same k c) m No) r.cells r.level) (level_in same c rs))
    where
      here : (k : T) (m l : Level) → l ≢ No → l ≡ if_there No (λ k m. cond (same k c) m No) k m → ◌≡◌ {A = ℕ} (cond (same k c && same_level m l) 1 0) 1
      here k m l n e = ⊎_elim
          (λ (t : m ≡ No). absurd (n (e ∙ ap (if_there No (λ k m. cond (same k c) m No) k) t)))
          (λ (q : m ≢ No).
          let e2 : l ≡ cond (same k c) m No = e ∙ if_there-at No (λ k m. cond (same k c) m No) k m q in
          ⊎_elim
          (λ (t : same k c ≡ true). let e3 : l ≡ m = e2 ∙ ap (λ b. cond b m No) t in ap (λ b. cond (b && same_level m l) 1 0) t ∙ ap (λ b. cond b 1 0) (eq-eqb (rank m) (rank l) (ap rank (sym e3))))
          (λ (t : same k c ≡ false). absurd (n (e2 ∙ ap (λ b. cond b m No) t)))
          (cases_Bool (same k c)))
          (level_is_no m)

  -- DISTINCT of what is distinct already
  pub distinct-once : (xs : List (Row T)) → ((c : T) → multiplicity same c xs ≤ 1) → Alike (distinct same xs) xs
  distinct-once xs h = alike-from_agree same dec (record {
    counts = λ c l n. distinct-is xs c l n ∙
        ⊎_elim
        (λ (t : 0 < count same c l xs).
        let all : multiplicity same c xs ≡ if_there 0 (λ k m. cond (same k c) 1 0) c l + multiplicity same c (take_out same c l xs) = total-take_out same dec sum-monoid (λ k m. cond (same k c) 1 0) c l xs t in
        let one : if_there 0 (λ k m. cond (same k c) 1 0) c l ≡ 1 = if_there-at {M = ℕ} 0 (λ k m. cond (same k c) 1 0) c l n ∙ ap (λ b. cond b 1 0) ((dec c c).1 refl) in
        let most : multiplicity same c xs ≤ 1 = h c in
        let rest : multiplicity same c (take_out same c l xs) ≡ 0 = omega (arith, all, one, most) in
        let lev : level_in same c xs ≡ l = total-take_out same dec greatest-monoid (λ k m. cond (same k c) m No) c l xs t ∙ ap₂ greatest (own c l) (level_in-absent c (take_out same c l xs) rest) ∙ greatest-no l in
        let a : count same c l xs ≡ if_there 0 (hits same c l) c l + count same c l (take_out same c l xs) = count-take_out same dec c l n c l xs t in
        let b : count same c l (take_out same c l xs) ≡ 0 = count_none c (take_out same c l xs) rest l n in
        let d : if_there 0 (hits same c l) c l ≡ 1 = sym (hits_each same c l n c l) ∙ ap (λ b. cond (b && same_level l l) 1 0) ((dec c c).1 refl) ∙ ap (λ b. cond b 1 0) (eq-eqb (rank l) (rank l) refl) in
        let e : ◌≡◌ {A = ℕ} (cond (same_level (level_in same c xs) l) 1 0) 1 = ap (λ b. cond b 1 0) (eq-eqb (rank (level_in same c xs)) (rank l) (ap rank lev)) in
        omega (arith, a, b, d, e))
        (λ (t : count same c l xs ≤ 0).
        ⊎_elim
        (λ (s : same_level (level_in same c xs) l ≡ true).
        let e : level_in same c xs ≡ l = same_level-true (level_in same c xs) l s in
        let k : 0 < count same c (level_in same c xs) xs = level_stands c xs (λ z. n (sym e ∙ z)) in
        let k2 : count same c (level_in same c xs) xs ≡ count same c l xs = ap (λ l. count same c l xs) e in
        absurd (omega (arith, k, k2, t)))
        (λ (s : same_level (level_in same c xs) l ≡ false). ap (λ b. cond b 1 0) s ∙ omega (arith, t))
        (cases_Bool (same_level (level_in same c xs) l)))
        (cases_lt 0 (count same c l xs));
  })

  -- DISTINCT below DISTINCT may go: in an operand of a join, of a union, in the operand of an EXISTS
  pub distinct-bind : {U : Type 0} (same_u : U → U → Bool) (dec_u : (a b : U) → Decides (same_u a b) (a ≡ b)) (xs : List (Row T)) (f : T → List (Row U)) → SameLevels same_u (bind (distinct same xs) f) (bind xs f)
  distinct-bind same_u dec_u xs f = levels-bind same_u (levels-distinct xs) (λ c. levels-refl same_u (f c))
