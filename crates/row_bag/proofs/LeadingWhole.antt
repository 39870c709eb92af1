-- One row of each tag, also of one without rows.
use Rattle.std.proofs.Common.{◌≡◌, ◌≢◌, ℕ, ◌+◌, ◌&&◌, min, nat_eq, cond, Bool, true, false, List, [], ◌∷◌, ◌++◌, take, drop, length, append-nil, append_assoc, refl, ap, ap₂, sym, ◌∙◌, ◌⊎◌, ⊎_elim, arith, eqb-true, inl, inr}
use Rattle.std.proofs.lemmas.Bool.{cases_Bool, eqb-false}
use mathlib.Core.Path.{fun_ext}
use Rattle.sql_value.specs.declared.cell.Cell.{Cell}
use Rattle.sql_value.specs.declared.level.Level.{Level}
use Rattle.sql_value.specs.declared.level.Level.TheVariants.{No, Yes}
use Rattle.row_bag.specs.Bags.{Agree, Alike, bind, count, if_there, keep, same_level, total, unit}
use Rattle.row_bag.specs.Joins.{how_many, or_else}
use Rattle.row_bag.specs.Sets.{grouped, of_group, once, same_cells}
use Rattle.row_bag.specs.declared.row.Row.{Row}
use Rattle.row_bag.proofs.Agreement.{alike-bind, alike-refl, alike-same, alike-sym, alike-trans}
use Rattle.row_bag.proofs.Binds.{bind-keep, bind-unit, unit-bind}
use Rattle.row_bag.proofs.Counts.{agree-from_alike, alike-from_agree}
use Rattle.row_bag.proofs.Levels.{level_is_no}
use Rattle.row_bag.proofs.SetLaws.{count-once, if_there-at}
use Rattle.row_bag.proofs.TupleBags.{same_cells-decides}
use Rattle.row_bag.specs.AsSets.{stands}
use Rattle.row_bag.specs.Tags.{LedBack, LedWhole, led}
use Rattle.row_bag.proofs.Images.{multiplicity-image}
use Rattle.row_bag.proofs.Leading.{drop-lead, grouped-led, led-bind, take-lead, under, whole}
use Rattle.row_bag.proofs.OneRow.{none_there}
use Rattle.row_bag.proofs.Standing.{stands-some}
use Rattle.row_bag.proofs.Tagging.{joined-back}

abbrev Tuple : Type 0
Tuple = List Cell

abbrev Rows : Type 0
Rows = List (Row Tuple)

-- ---- no row, or some

or_else-alike : {xs ys : Rows} (others : Rows) → Alike xs ys → Alike (or_else xs others) (or_else ys others)
or_else-alike {xs = xs} {ys = ys} others h = alike-trans (alike-same (ap (λ n. cond (nat_eq n 0) others xs) (h.sums (λ c l. 1)))) (pick (nat_eq (how_many ys) 0))
  where
    pick : (b : Bool) → Alike (cond b others xs) (cond b others ys)
    pick true = alike-refl others
    pick false = h

-- ---- groups by nothing

same-number : (b : Bool) (rs : Rows) → total ◌+◌ 0 (λ a l. cond b 1 0) rs ≡ cond b (how_many rs) 0
same-number true rs = refl
same-number false [] = refl
same-number false (r ∷ rs) = let z = nothing r.cells r.level in let rest = same-number false rs in omega (arith, z, rest)
  where
    nothing : (c : Tuple) (l : Level) → if_there {M = ℕ} 0 (λ a l. 0) c l ≡ 0
    nothing c l = ⊎_elim (λ (t : l ≡ No). ap (if_there {M = ℕ} 0 (λ a l. 0) c) t) (λ (n : l ≢ No). if_there-at {M = ℕ} 0 (λ a l. 0) c l n) (level_is_no l)

once-nothing : (rs : Rows) → Alike (once same_cells (bind rs (λ c. unit []))) (cond (nat_eq (how_many rs) 0) [] (unit []))
once-nothing rs = alike-from_agree same_cells same_cells-decides (record {
  counts = λ c l n.
      count-once same_cells same_cells-decides c l (bind rs (λ c. unit []))
      ∙ ap (λ n. cond (same_level Yes l) (min 1 n) 0) (multiplicity-image same_cells c (λ c. []) rs ∙ same-number (same_cells [] c) rs)
      ∙ number (same_cells [] c) (same_level Yes l) (nat_eq (how_many rs) 0) (how_many rs) refl ∙ sym (counted c l (nat_eq (how_many rs) 0));
})
  where
    counted : (c : Tuple) (l : Level) (z : Bool) → count same_cells c l (cond z [] (unit [])) ≡ cond z 0 (cond (same_cells [] c && same_level Yes l) 1 0)
    counted c l true = refl
    counted c l false = plus-zero (cond (same_cells [] c && same_level Yes l) 1 0)
      where
        plus-zero : (n : ℕ) → n + 0 ≡ n
        plus-zero n = omega arith

    number : (s p z : Bool) (n : ℕ) → z ≡ nat_eq n 0 → cond p (min 1 (cond s n 0)) 0 ≡ cond z 0 (cond (s && p) 1 0)
    number s false true n e = elim s as (λ s. ◌≡◌ {A = ℕ} 0 0) [ true ↦ refl | false ↦ refl ]
    number true false false n e = refl
    number false false false n e = refl
    number true true true n e = let zero : n ≡ 0 = eqb-true n 0 (sym e) in omega (arith, zero)
    number true true false n e = let some : n ≡ 0 → ⊥ = eqb-false n 0 (sym e) in omega (arith, some)
    number false true true n e = omega arith
    number false true false n e = omega arith

module _ (made : Rows → Tuple) where
  abbrev by_nothing : Rows → Rows
  by_nothing rs = grouped same_cells (λ c. []) (λ k group. k ++ made group) rs

  pick-bind : (z : Bool) (f : Tuple → Rows) → bind (cond z [] (unit [])) f ≡ cond z [] (f [])
  pick-bind true f = refl
  pick-bind false f = unit-bind [] f

  -- one group of all rows, where there is one
  whole-group : (rs : Rows) → Alike (by_nothing rs) (cond (nat_eq (how_many rs) 0) [] (unit (made rs)))
  whole-group rs =
      alike-trans (alike-bind (once-nothing rs) (λ k. alike-refl (unit (k ++ made (of_group same_cells (λ c. []) k rs)))))
      (alike-same (pick-bind (nat_eq (how_many rs) 0) (λ k. unit (k ++ made (of_group same_cells (λ c. []) k rs)))
      ∙ ap (λ (group : Rows). cond (nat_eq (how_many rs) 0) [] (unit (made group))) (bind-unit rs)))

-- ---- the row of a tag

module _ (w : ℕ) (tags : Rows) (f : Tuple → Rows) (made : Rows → Tuple) (long : (tag : Tuple) → stands same_cells tag tags ≡ true → length tag ≡ w)
    (kept : (xs ys : Rows) → Agree same_cells xs ys → made xs ≡ made ys) where
  abbrev tags_once : Rows
  tags_once = once same_cells tags

  abbrev groups : Rows
  groups = grouped same_cells (take w) (λ k rows. k ++ made (bind rows (λ cells. unit (drop w cells)))) (led tags_once f)

  made-kept : (k : Tuple) (xs ys : Rows) → Agree same_cells xs ys → k ++ made xs ≡ k ++ made ys
  made-kept k xs ys h = ap (λ (c : Tuple). k ++ c) (kept xs ys h)

  groups-led : Alike groups (led tags_once (λ u. by_nothing made (f u)))
  groups-led = alike-trans (alike-same (ap₂ (λ (key : Tuple → Tuple) (row_of : Tuple → Rows → Tuple). grouped same_cells key row_of (led tags_once f))
      (fun_ext (λ c. sym (append-nil (take w c))))
      (fun_ext (λ k. fun_ext (λ rows. ap (λ (c : Tuple). c ++ made (bind rows (λ cells. unit (drop w cells)))) (sym (whole w k)) ∙ append_assoc (take w k) (drop w k) (made (bind rows (λ cells. unit (drop w cells)))))))))
      (grouped-led w tags f (λ c. []) (λ k group. k ++ made group) long made-kept)

  given : {X : Type 0} (g h : Tuple → List (Row X)) → ((u : Tuple) → length u ≡ w → stands same_cells u tags ≡ true → Alike (g u) (h u)) → Alike (bind tags_once g) (bind tags_once h)
  given g h k = under w tags f (λ c. []) (λ k group. k ++ made group) long made-kept g h k

  -- of all groups that of the same tag
  own-group : (u : Tuple) → stands same_cells u tags ≡ true → Alike (bind groups (λ cells. keep (cond (same_cells (take w cells) u) Yes No) (unit (u ++ drop w cells)))) (cond (nat_eq (how_many (f u)) 0) [] (unit (u ++ made (f u))))
  own-group u s =
      alike-trans (alike-bind groups-led (λ cells. alike-refl (keep (cond (same_cells (take w cells) u) Yes No) (unit (u ++ drop w cells)))))
      (alike-trans (alike-same (led-bind tags_once (λ v. by_nothing made (f v)) (λ cells. keep (cond (same_cells (take w cells) u) Yes No) (unit (u ++ drop w cells)))))
      (alike-trans (given (λ v. bind (by_nothing made (f v)) (λ c. keep (cond (same_cells (take w (v ++ c)) u) Yes No) (unit (u ++ drop w (v ++ c))))) (λ v. keep (cond (same_cells v u) Yes No) (bind (by_nothing made (f v)) (λ c. unit (u ++ c))))
      (λ v l z. alike-same (ap (bind (by_nothing made (f v))) (fun_ext (λ c.
      ap₂ (λ (x y : Tuple). keep (cond (same_cells x u) Yes No) (unit (u ++ y))) (take-lead w tags f (λ c. []) (λ k group. k ++ made group) long made-kept v c l) (drop-lead w tags f (λ c. []) (λ k group. k ++ made group) long made-kept v c l)))
      ∙ sym (bind-keep (cond (same_cells v u) Yes No) (by_nothing made (f v)) (λ c. unit (u ++ c))))))
      (alike-trans (joined-back same_cells same_cells-decides u (λ v. bind (by_nothing made (f v)) (λ c. unit (u ++ c))) tags (stands-some same_cells u tags s))
      (alike-trans (alike-bind (whole-group made (f u)) (λ c. alike-refl (unit (u ++ c))))
      (alike-same (pick (nat_eq (how_many (f u)) 0)))))))
    where
      pick : (z : Bool) → bind (cond z [] (unit (made (f u)))) (λ c. unit (u ++ c)) ≡ cond z [] (unit (u ++ made (f u)))
      pick true = refl
      pick false = unit-bind (made (f u)) (λ c. unit (u ++ c))

  led-whole : Alike (bind tags_once (λ tag. or_else (bind groups (λ cells. keep (cond (same_cells (take w cells) tag) Yes No) (unit (tag ++ drop w cells)))) (unit (tag ++ made [])))) (led tags_once (λ tag. unit (made (f tag))))
  led-whole = given (λ u. or_else (bind groups (λ cells. keep (cond (same_cells (take w cells) u) Yes No) (unit (u ++ drop w cells)))) (unit (u ++ made []))) (λ u. bind (unit (made (f u))) (λ c. unit (u ++ c)))
      (λ u l s. alike-trans (or_else-alike (unit (u ++ made [])) (own-group u s))
      (alike-same (at u (cases_Bool (nat_eq (how_many (f u)) 0)) ∙ sym (unit-bind (made (f u)) (λ c. unit (u ++ c))))))
    where
      at : (u : Tuple) → (nat_eq (how_many (f u)) 0 ≡ true) ⊎ (nat_eq (how_many (f u)) 0 ≡ false) → or_else (cond (nat_eq (how_many (f u)) 0) [] (unit (u ++ made (f u)))) (unit (u ++ made [])) ≡ unit (u ++ made (f u))
      at u (inl z) =
          ap (λ b. or_else (cond b [] (unit (u ++ made (f u)))) (unit (u ++ made []))) z
          ∙ ap (λ (c : Tuple). unit (u ++ c)) (kept [] (f u) (agree-from_alike same_cells (alike-sym (none_there (f u) (eqb-true (how_many (f u)) 0 z)))))
      at u (inr z) = ap (λ b. or_else (cond b [] (unit (u ++ made (f u)))) (unit (u ++ made []))) z

pub led-whole_groups : LedWhole
led-whole_groups = λ w tags f made long kept. agree-from_alike same_cells (led-whole w tags f made long kept)

-- ---- the rows of a tag

pub led-back : LedBack
led-back = λ w tags f tag long s. agree-from_alike same_cells
    (alike-trans (alike-same (led-bind (once same_cells tags) f (λ cells. keep (cond (same_cells (take w cells) tag) Yes No) (unit cells))))
    (alike-trans (under w tags f (λ c. []) (λ k group. k) long (λ k xs ys h. refl)
    (λ v. bind (f v) (λ c. keep (cond (same_cells (take w (v ++ c)) tag) Yes No) (unit (v ++ c)))) (λ v. keep (cond (same_cells v tag) Yes No) (bind (f v) (λ c. unit (v ++ c))))
    (λ v l z. alike-same (ap (bind (f v)) (fun_ext (λ c. ap (λ (x : Tuple). keep (cond (same_cells x tag) Yes No) (unit (v ++ c))) (take-lead w tags f (λ c. []) (λ k group. k) long (λ k xs ys h. refl) v c l)))
    ∙ sym (bind-keep (cond (same_cells v tag) Yes No) (f v) (λ c. unit (v ++ c))))))
    (joined-back same_cells same_cells-decides tag (λ v. bind (f v) (λ c. unit (v ++ c))) tags (stands-some same_cells tag tags s))))
