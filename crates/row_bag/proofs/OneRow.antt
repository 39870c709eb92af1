-- Bags of at most one row, and EXISTS over them.
use Rattle.std.proofs.Common.{◌≡◌, ◌≢◌, ℕ, ◌≤◌, Bool, List, [], ◌∷◌, ap, sym, ◌∙◌, Decides, ◌⊎◌, inl, inr, ⊎_elim, arith, append-nil}
use Rattle.sql_value.specs.declared.level.Level.{Level}
use Rattle.sql_value.specs.declared.level.Level.TheVariants.{No}
use Rattle.sql_value.specs.Level.{least, greatest}
use Rattle.row_bag.specs.Bags.{Alike, bind, if_there, keep, row, total}
use Rattle.row_bag.specs.Joins.{how_many}
use Rattle.row_bag.specs.declared.row.Row.{Row}
use Rattle.row_bag.proofs.Agreement.{alike-append, alike-bind, alike-keep_no, alike-refl, alike-same, alike-sym, alike-trans}
use Rattle.row_bag.proofs.Binds.{keep-keep}
use Rattle.row_bag.proofs.Counts.{agree-from_alike, total-alike}
use Rattle.row_bag.proofs.GreatestLevels.{exists-as_join}
use Rattle.row_bag.proofs.Levels.{greatest-monoid, greatest-no, level_is_no}
use Rattle.row_bag.proofs.SetLaws.{if_there-at}
use Rattle.row_bag.specs.ExistsJoins.{ExistsLaws}

-- one row, and it is there
pub record Alone {T : Type 0} (rs : List (Row T)) : Type 0 where
  pub cells : T
  pub level : Level
  pub is_there : level ≢ No
  pub only : Alike rs (row cells level ∷ [])

dead-first : {T : Type 0} (r : Row T) (rs : List (Row T)) → r.level ≡ No → Alike (r ∷ rs) rs
dead-first r rs t = record {
  sums = λ f.
      let z : if_there 0 f r.cells r.level ≡ 0 = ap (if_there 0 f r.cells) t in
      omega (arith, z);
}

pub none_there : {T : Type 0} (rs : List (Row T)) → how_many rs ≡ 0 → Alike rs []
none_there [] h = alike-refl []
none_there (r ∷ rs) h = ⊎_elim
    (λ (t : r.level ≡ No).
    let z : if_there {M = ℕ} 0 (λ c l. 1) r.cells r.level ≡ 0 = ap (if_there {M = ℕ} 0 (λ c l. 1) r.cells) t in
    alike-trans (dead-first r rs t) (none_there rs (omega (arith, z, h))))
    (λ (n : r.level ≢ No).
    let o : if_there {M = ℕ} 0 (λ c l. 1) r.cells r.level ≡ 1 = if_there-at {M = ℕ} 0 (λ c l. 1) r.cells r.level n in
    absurd (omega (arith, o, h)))
    (level_is_no r.level)

-- a bag of at most one row agrees with no row or with one
at-most-one : {T : Type 0} (rs : List (Row T)) → how_many rs ≤ 1 → Alike rs [] ⊎ Alone rs
at-most-one [] h = inl (alike-refl [])
at-most-one (r ∷ rs) h = ⊎_elim
    (λ (t : r.level ≡ No).
    let z : if_there {M = ℕ} 0 (λ c l. 1) r.cells r.level ≡ 0 = ap (if_there {M = ℕ} 0 (λ c l. 1) r.cells) t in
    ⊎_elim (λ a. inl (alike-trans (dead-first r rs t) a))
    (λ (a : Alone rs). inr (record { cells = a.cells; level = a.level; is_there = a.is_there; only = alike-trans (dead-first r rs t) a.only }))
    (at-most-one rs (omega (arith, z, h))))
    (λ (n : r.level ≢ No).
    let o : if_there {M = ℕ} 0 (λ c l. 1) r.cells r.level ≡ 1 = if_there-at {M = ℕ} 0 (λ c l. 1) r.cells r.level n in
    inr (record { cells = r.cells; level = r.level; is_there = n; only = alike-append (alike-refl (r ∷ [])) (none_there rs (omega (arith, o, h))) }))
    (level_is_no r.level)

module _ {T : Type 0} (same : T → T → Bool) (dec : (a b : T) → Decides (same a b) (a ≡ b)) where
  -- over at most one row EXISTS is a join
  pub exists-of_one : {U : Type 0} (rs : List (Row T)) → how_many rs ≤ 1 → (t : T → Level) (xs : List (Row U)) → Alike (keep (total greatest No (λ a l. least l (t a)) rs) xs) (bind rs (λ a. keep (t a) xs))
  exists-of_one rs h t xs = ⊎_elim
      (λ (e : Alike rs []).
      alike-trans (alike-same (ap (λ l. keep l xs) (total-alike same dec greatest-monoid (λ a l. least l (t a)) e)))
      (alike-trans (alike-keep_no xs) (alike-sym (alike-bind e (λ a. alike-refl (keep (t a) xs))))))
      (λ (a : Alone rs).
      alike-trans (alike-same (ap (λ l. keep l xs) (total-alike same dec greatest-monoid (λ a l. least l (t a)) a.only
      ∙ greatest-no (if_there No (λ a l. least l (t a)) a.cells a.level) ∙ if_there-at No (λ a l. least l (t a)) a.cells a.level a.is_there)))
      (alike-trans (alike-same (sym (keep-keep a.level (t a.cells) xs) ∙ sym (append-nil (keep a.level (keep (t a.cells) xs)))))
      (alike-sym (alike-bind a.only (λ a. alike-refl (keep (t a) xs))))))
      (at-most-one rs h)

  pub exists-laws : (U : Type 0) (same_u : U → U → Bool) → ExistsLaws T U same_u
  exists-laws U same_u = record {
    levels = λ partners test rows. exists-as_join same_u partners test rows;
    of_one = λ partners test rows h. agree-from_alike same_u (exists-of_one partners h test rows);
  }
