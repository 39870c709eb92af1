-- The laws of bags, as the records that contracts cite.
use Rattle.std.proofs.Common.{◌≡◌, Bool, List, Decides}
use Rattle.row_bag.specs.Bags.{Agree, Alike}
use Rattle.row_bag.specs.Laws.{Agreeing, AgreementLaws, BindLaws, KeptAgreement}
use Rattle.row_bag.specs.declared.row.Row.{Row}
use Rattle.row_bag.proofs.Agreement.{alike-append, alike-bind, alike-keep, alike-keep_no, alike-refl, alike-swap, alike-sym, alike-trans}
use Rattle.row_bag.proofs.Answered.{alike-there}
use Rattle.row_bag.proofs.Binds.{bind-bind, bind-keep, bind-unit, keep-and, keep-bind, keep-yes, unit-bind}
use Rattle.row_bag.proofs.Counts.{agree-from_alike, alike-from_agree}
use Rattle.row_bag.proofs.SetLaws.{distinct-alike, except-alike, except_all-alike, intersect-alike, intersect_all-alike, once-alike, union-alike}

pub bind-laws : (T : Type 0) → BindLaws T
bind-laws T = record {
  nested = bind-bind;
  of_one = unit-bind;
  to_one = bind-unit;
  kept_twice = keep-and;
  kept_wholly = keep-yes;
  kept_before = keep-bind;
  kept_within = bind-keep;
}

module _ {T : Type 0} (same : T → T → Bool) (dec : (a b : T) → Decides (same a b) (a ≡ b)) where
  sums : {xs ys : List (Row T)} → Agree same xs ys → Alike xs ys
  sums h = alike-from_agree same dec h

  counts : {xs ys : List (Row T)} → Alike xs ys → Agree same xs ys
  counts h = agree-from_alike same h

  pub agreement-laws : AgreementLaws T same
  agreement-laws = record {
    by_sums = λ xs ys. (sums, counts);
    itself = λ xs. counts (alike-refl xs);
    turned = λ xs ys h. counts (alike-sym (sums h));
    chained = λ xs ys zs h k. counts (alike-trans (sums h) (sums k));
  }

  pub kept-agreement : KeptAgreement T same
  kept-agreement = record {
    appended = λ xs ys us vs h k. counts (alike-append (sums h) (sums k));
    kept = λ level xs ys h. counts (alike-keep level (sums h));
    bound = λ xs ys f g h k. counts (alike-bind (sums h) (λ c. sums (k c)));
    taken_once = λ xs ys h. counts (once-alike same dec (sums h));
    of_distinct = λ xs ys h. counts (distinct-alike same dec (sums h));
    of_union = λ xs ys us vs h k. counts (union-alike same dec (sums h) (sums k));
    of_intersect = λ xs ys us vs h k. counts (intersect-alike same dec (sums h) (sums k));
    of_intersect_all = λ xs ys us vs h k. counts (intersect_all-alike same dec (sums h) (sums k));
    of_except = λ xs ys us vs h k. counts (except-alike same dec (sums h) (sums k));
    of_except_all = λ xs ys us vs h k. counts (except_all-alike same dec (sums h) (sums k));
  }

  pub agreeing : Agreeing T same
  agreeing = record {
    swapped = λ xs ys f. counts (alike-swap xs ys f);
    absent = λ xs. counts (alike-keep_no xs);
    without_absent = λ xs. counts (alike-there xs);
  }
