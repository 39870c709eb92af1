-- A test of tuples before set operations and after them.
use Rattle.std.proofs.Common.{◌≡◌, ℕ, zero, suc, ◌+◌, ◌-◌, ◌≤◌, min, nat_eq, cond, Bool, true, false, ◌&&◌, List, [], ◌∷◌, ◌++◌, refl, ap, ap₂, sym, subst, ◌∙◌, Decides, ◌⊎◌, ⊎_elim, arith, inl, inr, eqb-true}
use Rattle.std.proofs.lemmas.Bool.{cases_Bool, eqb-false}
use mathlib.Core.Path.{fun_ext}
use Rattle.sql_value.specs.declared.level.Level.{Level}
use Rattle.sql_value.specs.declared.level.Level.TheVariants.{No, Cardinality, Division, Overflow, Yes}
use Rattle.sql_value.specs.Level.{greatest, least}
use Rattle.row_bag.specs.Bags.{Alike, bind, fold_map, if_there, keep, row, same_level, total, unit}
use Rattle.row_bag.specs.Sets.{copies, distinct, level_in, multiplicity, once, union}
use Rattle.row_bag.specs.declared.row.Row.{Row}
use Rattle.row_bag.proofs.Agreement.{alike-bind, alike-keep_no, alike-refl, alike-same, alike-sym, alike-trans, sum-monoid}
use Rattle.row_bag.proofs.Binds.{bind-append, bind-bind, keep-bind, unit-bind}
use Rattle.row_bag.proofs.Counts.{agree-from_alike, alike-from_agree, count-total, hits, hits_each}
use Rattle.row_bag.proofs.GreatestLevels.{distinct-is, least-total, own, total-distinct, total-once}
use Rattle.row_bag.proofs.Levels.{greatest-monoid, least-commutative, least-no, least-yes, no-least, yes-least}
use Rattle.row_bag.proofs.SetLaws.{count-once}
use Rattle.row_bag.specs.Filters.{FilterLaws, passing}
use Rattle.row_bag.specs.Filters as f
use Rattle.row_bag.proofs.Deciding.{decided-either}
use Rattle.row_bag.proofs.Images.{total-below, total-passing}
use Rattle.row_bag.proofs.Standing.{bind-standing, stands-from, stands-once}

weigh_zero : {T M : Type 0} (e : M) (w : T → Level → M) (k : T) → ((l : Level) → w k l ≡ e) → (l : Level) → if_there e w k l ≡ e
weigh_zero e w k z No = refl
weigh_zero e w k z Cardinality = z Cardinality
weigh_zero e w k z Division = z Division
weigh_zero e w k z Overflow = z Overflow
weigh_zero e w k z Yes = z Yes

pub passing-append : {T : Type 0} (t : T → Level) (xs ys : List (Row T)) → passing t (xs ++ ys) ≡ passing t xs ++ passing t ys
passing-append t xs ys = bind-append xs ys (λ c. keep (t c) (unit c))

-- what passes is bound at the level of the test
pub passing-bind : {T U : Type 0} (t : T → Level) (xs : List (Row T)) (g : T → List (Row U)) → bind (passing t xs) g ≡ bind xs (λ c. keep (t c) (g c))
passing-bind t xs g =
    bind-bind xs (λ c. keep (t c) (unit c)) g
    ∙ ap (bind xs) (fun_ext (λ c. sym (keep-bind (t c) (unit c) g) ∙ ap (keep (t c)) (unit-bind c g)))

-- a test of what is bound
pub bind-passing : {T U : Type 0} (t : U → Level) (xs : List (Row T)) (g : T → List (Row U)) → passing t (bind xs g) ≡ bind xs (λ c. passing t (g c))
bind-passing t xs g = bind-bind xs g (λ c. keep (t c) (unit c))

passing-copies : {T : Type 0} (t : T → Level) (n : ℕ) (c : T) → passing t (copies n c) ≡ keep (t c) (copies n c)
passing-copies t zero c = refl
passing-copies t (suc n) c = ap₂ (λ l rs. row c l ∷ rs) (yes-least (least (t c) Yes)) (passing-copies t n c)

module _ {T : Type 0} (same : T → T → Bool) (dec : (a b : T) → Decides (same a b) (a ≡ b)) where
  in_least : (w : T → Level → ℕ) (t : T → Level) (c : T) (l : Level) → if_there 0 (λ c l. if_there 0 w c (least l (t c))) c l ≡ if_there 0 w c (least l (t c))
  in_least w t c No = sym (ap (if_there 0 w c) (no-least (t c)))
  in_least w t c Cardinality = refl
  in_least w t c Division = refl
  in_least w t c Overflow = refl
  in_least w t c Yes = refl

  at_tuple : (c : T) (t : T → Level) (k : T) (m : Level) → if_there No (λ k m. cond (same k c) m No) k (least m (t k)) ≡ cond (same k c) (least m (t c)) No
  at_tuple c t k m = ⊎_elim
      (λ (s : same k c ≡ true).
      let e : k ≡ c = (dec k c).0 s in
      ap (λ x. if_there No (λ k m. cond (same k c) m No) x (least m (t x))) e ∙ own same dec c (least m (t c)) ∙ sym (ap (λ b. cond b (least m (t c)) No) s))
      (λ (s : same k c ≡ false).
      weigh_zero No (λ k m. cond (same k c) m No) k (λ l. ap (λ b. cond b l No) s) (least m (t k)) ∙ sym (ap (λ b. cond b (least m (t c)) No) s))
      (cases_Bool (same k c))

  pub level_in-passing : (c : T) (t : T → Level) (rs : List (Row T)) → level_in same c (passing t rs) ≡ least (level_in same c rs) (t c)
  level_in-passing c t rs =
      total-passing greatest-monoid (λ k m. cond (same k c) m No) t rs
      ∙ ap (λ w. total greatest No w rs) (fun_ext (λ k. fun_ext (λ m. at_tuple c t k m ∙ split (same k c) m)))
      ∙ sym (least-total (t c) (λ k m. cond (same k c) m No) rs)
      ∙ least-commutative (t c) (level_in same c rs)
    where
      split : (b : Bool) (m : Level) → cond b (least m (t c)) No ≡ least (t c) (cond b m No)
      split true m = least-commutative m (t c)
      split false m = sym (least-no (t c))

  -- a test of a tuple may be made within DISTINCT
  pub passing-distinct : (t : T → Level) (rs : List (Row T)) → Alike (passing t (distinct same rs)) (distinct same (passing t rs))
  passing-distinct t rs = alike-from_agree same dec (record {
    counts = λ c l n.
        count-total same c l n (passing t (distinct same rs))
        ∙ total-passing sum-monoid (hits same c l) t (distinct same rs)
        ∙ total-distinct same dec sum-monoid (λ k m. if_there 0 (hits same c l) k (least m (t k))) c
        (λ k m s. weigh_zero 0 (hits same c l) k (λ j. ap (λ b. cond (b && same_level j l) 1 0) s) (least m (t k))) rs
        ∙ in_least (hits same c l) t c (level_in same c rs)
        ∙ sym (hits_each same c l n c (least (level_in same c rs) (t c)))
        ∙ ap (λ b. cond (b && same_level (least (level_in same c rs) (t c)) l) 1 0) ((dec c c).1 refl)
        ∙ sym (ap (λ m. cond (same_level m l) 1 0) (level_in-passing c t rs))
        ∙ sym (distinct-is same dec (passing t rs) c l n);
  })

  -- and within both operands of a UNION
  pub passing-union : (t : T → Level) (xs ys : List (Row T)) → Alike (passing t (union same xs ys)) (union same (passing t xs) (passing t ys))
  passing-union t xs ys = alike-trans (passing-distinct t (xs ++ ys)) (alike-same (ap (distinct same) (passing-append t xs ys)))

  -- ---- how often a tuple passes

  abbrev once_each : T → T → Level → ℕ
  once_each c k m = cond (same k c) 1 0

  passes-wholly : (c : T) (t : T → Level) → t c ≡ Yes → (rs : List (Row T)) → multiplicity same c (passing t rs) ≡ multiplicity same c rs
  passes-wholly c t h rs = total-passing sum-monoid (once_each c) t rs ∙ ap (λ w. fold_map ◌+◌ 0 w rs) (fun_ext (λ r. each r.cells r.level))
    where
      same-one : (k : T) (m : Level) → if_there 0 (once_each c) k (least m (t k)) ≡ if_there 0 (once_each c) k m
      same-one k m = ⊎_elim
          (λ (s : same k c ≡ true). ap (λ x. if_there 0 (once_each c) k (least m (t x))) ((dec k c).0 s) ∙ ap (λ l. if_there 0 (once_each c) k (least m l)) h ∙ ap (if_there 0 (once_each c) k) (least-yes m))
          (λ (s : same k c ≡ false). weigh_zero 0 (once_each c) k (λ l. ap (λ b. cond b 1 0) s) (least m (t k)) ∙ sym (weigh_zero 0 (once_each c) k (λ l. ap (λ b. cond b 1 0) s) m))
          (cases_Bool (same k c))

      each : (k : T) (m : Level) → if_there 0 (λ k m. if_there 0 (once_each c) k (least m (t k))) k m ≡ if_there 0 (once_each c) k m
      each k No = refl
      each k Cardinality = same-one k Cardinality
      each k Division = same-one k Division
      each k Overflow = same-one k Overflow
      each k Yes = same-one k Yes

  passes-not : (c : T) (t : T → Level) → t c ≡ No → (rs : List (Row T)) → multiplicity same c (passing t rs) ≡ 0
  passes-not c t h rs = total-passing sum-monoid (once_each c) t rs ∙ none rs
    where
      nothing : (k : T) (m : Level) → if_there 0 (once_each c) k (least m (t k)) ≡ 0
      nothing k m = ⊎_elim
          (λ (s : same k c ≡ true). ap (λ x. if_there 0 (once_each c) k (least m (t x))) ((dec k c).0 s) ∙ ap (λ l. if_there 0 (once_each c) k (least m l)) h ∙ ap (if_there 0 (once_each c) k) (least-no m))
          (λ (s : same k c ≡ false). weigh_zero 0 (once_each c) k (λ l. ap (λ b. cond b 1 0) s) (least m (t k)))
          (cases_Bool (same k c))

      none : (rs : List (Row T)) → total ◌+◌ 0 (λ k m. if_there 0 (once_each c) k (least m (t k))) rs ≡ 0
      none [] = refl
      none (r ∷ rs) = ap₂ (λ a b. a + b) (weigh_zero 0 (λ k m. if_there 0 (once_each c) k (least m (t k))) r.cells (λ l. nothing r.cells l) r.level) (none rs)

  passes-less : (c : T) (t : T → Level) (rs : List (Row T)) → multiplicity same c (passing t rs) ≤ multiplicity same c rs
  passes-less c t rs = subst (λ n. n ≤ multiplicity same c rs) (sym (total-passing sum-monoid (once_each c) t rs))
      (total-below (λ k m. if_there 0 (once_each c) k (least m (t k))) (once_each c) rs (λ k m. one k (least m (t k))))
    where
      one : (k : T) (m : Level) → if_there 0 (once_each c) k m ≤ once_each c k m
      one k No = omega arith
      one k Cardinality = omega arith
      one k Division = omega arith
      one k Overflow = omega arith
      one k Yes = omega arith

  -- ---- the tuples that pass, each once

  once-passing : (t : T → Level) (rs : List (Row T)) → f.Decides same t rs → Alike (once same (passing t rs)) (passing t (once same rs))
  once-passing t rs d = alike-from_agree same dec (record {
    counts = λ c l n.
        count-once same dec c l (passing t rs)
        ∙ at c l (cases_Bool (nat_eq (multiplicity same c rs) 0))
        ∙ sym (count-total same c l n (passing t (once same rs))
        ∙ total-passing sum-monoid (hits same c l) t (once same rs)
        ∙ total-once same dec sum-monoid (λ k m. if_there 0 (hits same c l) k (least m (t k))) c (λ k m s. weigh_zero 0 (hits same c l) k (λ j. ap (λ b. cond (b && same_level j l) 1 0) s) (least m (t k))) rs);
  })
    where
      nothing : (b : Bool) → cond b (min 1 0) 0 ≡ 0
      nothing true = refl
      nothing false = refl

      at : (c : T) (l : Level) → ((nat_eq (multiplicity same c rs) 0 ≡ true) ⊎ (nat_eq (multiplicity same c rs) 0 ≡ false)) → cond (same_level Yes l) (min 1 (multiplicity same c (passing t rs))) 0 ≡ cond (nat_eq (multiplicity same c rs) 0) 0 (if_there 0 (hits same c l) c (least Yes (t c)))
      at c l (inl z) =
          let less = passes-less c t rs in
          let zero : multiplicity same c rs ≡ 0 = eqb-true (multiplicity same c rs) 0 z in
          let none : multiplicity same c (passing t rs) ≡ 0 = omega (arith, less, zero) in
          ap (λ n. cond (same_level Yes l) (min 1 n) 0) none ∙ nothing (same_level Yes l) ∙ sym (ap (λ b. cond b 0 (if_there 0 (hits same c l) c (least Yes (t c)))) z)
      at c l (inr z) = elim (decided-either (t c) (d c (stands-from same c rs z))) [
        | inl gone ↦
            ap (λ n. cond (same_level Yes l) (min 1 n) 0) (passes-not c t gone rs) ∙ nothing (same_level Yes l)
            ∙ sym (ap (λ b. cond b 0 (if_there 0 (hits same c l) c (least Yes (t c)))) z ∙ ap (λ m. if_there 0 (hits same c l) c (least Yes m)) gone)
        | inr whole ↦
            let some : multiplicity same c rs ≡ 0 → ⊥ = eqb-false (multiplicity same c rs) 0 z in
            let one : min 1 (multiplicity same c rs) ≡ 1 = omega (arith, some) in
            ap (λ n. cond (same_level Yes l) (min 1 n) 0) (passes-wholly c t whole rs) ∙ ap (λ n. cond (same_level Yes l) n 0) one
            ∙ sym (ap (λ b. cond b 0 (if_there 0 (hits same c l) c (least Yes (t c)))) z ∙ ap (λ m. if_there 0 (hits same c l) c (least Yes m)) whole ∙ ap (λ b. cond (b && same_level Yes l) 1 0) ((dec c c).1 refl))
      ]

  -- operations that give so many copies of each tuple of the first operand
  passing-operation : (number : ℕ → ℕ → ℕ) (t : T → Level) (xs ys : List (Row T)) → f.Decides same t xs
      → Alike (passing t (bind (once same xs) (λ c. copies (number (multiplicity same c xs) (multiplicity same c ys)) c))) (bind (once same (passing t xs)) (λ c. copies (number (multiplicity same c (passing t xs)) (multiplicity same c (passing t ys))) c))
  passing-operation number t xs ys d =
      alike-trans (alike-same (bind-passing t (once same xs) before ∙ ap (bind (once same xs)) (fun_ext (λ c. passing-copies t (number (multiplicity same c xs) (multiplicity same c ys)) c))))
      (alike-trans (bind-standing same dec (once same xs) (λ c. keep (t c) (before c)) (λ c. keep (t c) (after c)) (λ c s. at c (decided-either (t c) (d c (stands-once same dec c xs s)))))
      (alike-trans (alike-same (sym (passing-bind t (once same xs) after)))
      (alike-bind (alike-sym (once-passing t xs d)) (λ c. alike-refl (after c)))))
    where
      before : T → List (Row T)
      before c = copies (number (multiplicity same c xs) (multiplicity same c ys)) c

      after : T → List (Row T)
      after c = copies (number (multiplicity same c (passing t xs)) (multiplicity same c (passing t ys))) c

      at : (c : T) → (t c ≡ No) ⊎ (t c ≡ Yes) → Alike (keep (t c) (before c)) (keep (t c) (after c))
      at c (inl gone) = subst (λ l. Alike (keep l (before c)) (keep l (after c))) (sym gone) (alike-trans (alike-keep_no (before c)) (alike-sym (alike-keep_no (after c))))
      at c (inr whole) = alike-same (ap (λ n. keep (t c) (copies n c)) (ap₂ number (sym (passes-wholly c t whole xs)) (sym (passes-wholly c t whole ys))))

  pub filter-laws : FilterLaws T same
  filter-laws = record {
    of_append = λ t xs ys. passing-append t xs ys;
    of_distinct = λ t xs. agree-from_alike same (passing-distinct t xs);
    of_union = λ t xs ys. agree-from_alike same (passing-union t xs ys);
    of_intersect = λ t xs ys d. agree-from_alike same (passing-operation (λ m n. min 1 n) t xs ys d);
    of_intersect_all = λ t xs ys d. agree-from_alike same (passing-operation (λ m n. min m n) t xs ys d);
    of_except = λ t xs ys d. agree-from_alike same (passing-operation (λ m n. 1 - n) t xs ys d);
    of_except_all = λ t xs ys d. agree-from_alike same (passing-operation (λ m n. m - n) t xs ys d);
  }
