-- Agreement as sets.
use Rattle.std.proofs.Common.{◌≡◌, Bool, true, false, cond, List, [], ◌∷◌, refl, ap, sym, ◌∙◌, Decides}
use Rattle.sql_value.specs.declared.level.Level.TheVariants.{No, Yes}
use Rattle.row_bag.specs.Bags.{Alike, row, unit}
use Rattle.row_bag.specs.Sets.{SameLevels, distinct, level_in, once}
use Rattle.row_bag.specs.declared.row.Row.{Row}
use Rattle.row_bag.proofs.Agreement.{alike-same, alike-trans}
use Rattle.row_bag.proofs.Binds.{bind-unit}
use Rattle.row_bag.proofs.Counts.{agree-from_alike, alike-from_agree}
use Rattle.row_bag.proofs.GreatestLevels.{distinct-bind, distinct-levels, levels-append, levels-bind, levels-distinct, levels-from_alike, levels-refl}
use Rattle.row_bag.specs.AsSets.{AgreeAsSets, GreatestLevels, SetAgreement, is_clean, stands}
use Rattle.row_bag.proofs.Deciding.{clean-alike, clean-distinct, level-clean}
use Rattle.row_bag.proofs.Standing.{bind-standing, stands-once}

module _ {T : Type 0} (same : T → T → Bool) where
  pub sets-levels : {xs ys : List (Row T)} → AgreeAsSets same xs ys → SameLevels same xs ys
  sets-levels {xs = xs} {ys = ys} h = record {
    levels = λ c. level-clean same c xs h.left_clean ∙ ap (λ b. cond b Yes No) (h.tuples c) ∙ sym (level-clean same c ys h.right_clean);
  }

  unless : (a b : Bool) → cond a Yes No ≡ cond b Yes No → a ≡ b
  unless true true h = refl
  unless true false h = cc h
  unless false true h = cc h
  unless false false h = refl

  pub levels-sets : (xs ys : List (Row T)) → is_clean xs ≡ true → is_clean ys ≡ true → SameLevels same xs ys → AgreeAsSets same xs ys
  levels-sets xs ys h k s = record {
    left_clean = h;
    right_clean = k;
    tuples = λ c. unless (stands same c xs) (stands same c ys) (sym (level-clean same c xs h) ∙ s.levels c ∙ level-clean same c ys k);
  }

  pub sets-sym : {xs ys : List (Row T)} → AgreeAsSets same xs ys → AgreeAsSets same ys xs
  sets-sym h = record { left_clean = h.right_clean; right_clean = h.left_clean; tuples = λ c. sym (h.tuples c) }

  pub sets-trans : {xs ys zs : List (Row T)} → AgreeAsSets same xs ys → AgreeAsSets same ys zs → AgreeAsSets same xs zs
  sets-trans h k = record { left_clean = h.left_clean; right_clean = k.right_clean; tuples = λ c. h.tuples c ∙ k.tuples c }

  module _ (dec : (a b : T) → Decides (same a b) (a ≡ b)) where
    pub sets-from_alike : (xs ys : List (Row T)) → is_clean xs ≡ true → Alike xs ys → AgreeAsSets same xs ys
    sets-from_alike xs ys h k = levels-sets xs ys h (sym (clean-alike same dec k) ∙ h) (levels-from_alike same dec k)

    pub set-agreement : SetAgreement T same
    set-agreement = record {
      by_levels = λ xs ys h k. ((λ s. sets-levels s), (λ s. levels-sets xs ys h k s));
      clean_kept = λ xs ys h. clean-alike same dec (alike-from_agree same dec h);
      of_bags = λ xs ys h k. sets-from_alike xs ys h (alike-from_agree same dec k);
      turned = λ xs ys h. sets-sym h;
      chained = λ xs ys zs h k. sets-trans h k;
      of_distinct = λ xs h. levels-sets (distinct same xs) xs (clean-distinct same xs h) h (levels-distinct same dec xs);
      distinct_agrees = λ xs ys h. agree-from_alike same (distinct-levels same dec (sets-levels h));
      at_yes = λ xs h. agree-from_alike same (alike-trans
          (bind-standing same dec (once same xs) (λ c. row c (level_in same c xs) ∷ []) (λ c. unit c)
          (λ c s. alike-same (ap (λ l. row c l ∷ []) (level-clean same c xs h ∙ ap (λ b. cond b Yes No) (stands-once same dec c xs s)))))
          (alike-same (bind-unit (once same xs))));
    }

    pub greatest-levels : GreatestLevels T same
    greatest-levels = record {
      of_distinct = λ xs. levels-distinct same dec xs;
      distinct_agrees = λ xs ys h. agree-from_alike same (distinct-levels same dec h);
      appended = λ xs ys us vs h k. levels-append same h k;
      bound = λ xs ys f g h k. levels-bind same dec same h k;
      within_join = λ xs f. agree-from_alike same (distinct-levels same dec (distinct-bind same dec same dec xs f));
      within_union = λ xs ys. agree-from_alike same (distinct-levels same dec (levels-append same (levels-distinct same dec xs) (levels-refl same ys)));
    }
