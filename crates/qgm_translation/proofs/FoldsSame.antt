-- The aggregates of a block are the same, wherever its columns are seen.
use Rattle.std.proofs.Common.{◌≡◌, List, [], ◌∷◌, ◌++◌, refl, ap, ap₂, sym, ◌∙◌}
use Rattle.sql_meaning.specs.ResolvedTrees.{Value, Addends, Multipliers, Values, Arms, Choices, Test, Tests, From, Froms}
use Rattle.sql_meaning.specs.ResolvedTrees as q
use Rattle.qgm_core.specs.declared.owned.OwnedQuant.{OwnedQuant}
use Rattle.qgm_translation.specs.Leaves.{Leaf, addend_leaves, arm_leaves, choice_leaves, count, fold, leaves, sub, list_leaves, multiplier_leaves, test_leaves, tests_leaves}
use Rattle.qgm_translation.specs.Maps.{Frame}
use Rattle.qgm_translation.specs.Shown as w
use Rattle.qgm_translation.specs.Sources.{Sources}
use Rattle.qgm_translation.specs.Folds.{all_on_folds, folds_in, on_folds}

pub folds_append : (xs ys : List Leaf) → folds_in (xs ++ ys) ≡ folds_in xs ++ folds_in ys
folds_append [] ys = refl
folds_append (sub fr kind query ∷ xs) ys = folds_append xs ys
folds_append (fold f distinct x ∷ xs) ys = ap (λ zs. fold f distinct x ∷ zs) (folds_append xs ys)
folds_append (count ∷ xs) ys = ap (λ zs. count ∷ zs) (folds_append xs ys)

both : (a b c d : List Leaf) → folds_in a ≡ folds_in c → folds_in b ≡ folds_in d → folds_in (a ++ b) ≡ folds_in (c ++ d)
both a b c d e f = folds_append a b ∙ ap₂ (λ x y. x ++ y) e f ∙ sym (folds_append c d)

module _ (f g : Frame) where
  mutual
    pub value_same : (x : Value) → folds_in (leaves f x) ≡ folds_in (leaves g x)
    value_same (q.number n) = refl
    value_same (q.text x) = refl
    value_same (q.null type) = refl
    value_same (q.column scope place) = refl
    value_same (q.sum x xs) = both (leaves f x) (addend_leaves f xs) (leaves g x) (addend_leaves g xs) (value_same x) (addends_same xs)
    value_same (q.product x xs) = both (leaves f x) (multiplier_leaves f xs) (leaves g x) (multiplier_leaves g xs) (value_same x) (multipliers_same xs)
    value_same (q.negative x) = value_same x
    value_same (q.searched xs last) = both (arm_leaves f xs) (leaves f last) (arm_leaves g xs) (leaves g last) (arms_same xs) (value_same last)
    value_same (q.simple x xs last) =
        both (leaves f x) (choice_leaves f xs ++ leaves f last) (leaves g x) (choice_leaves g xs ++ leaves g last) (value_same x)
        (both (choice_leaves f xs) (leaves f last) (choice_leaves g xs) (leaves g last) (choices_same xs) (value_same last))
    value_same (q.coalesce x xs) = both (leaves f x) (list_leaves f xs) (leaves g x) (list_leaves g xs) (value_same x) (values_same xs)
    value_same (q.null_if x y) = both (leaves f x) (leaves f y) (leaves g x) (leaves g y) (value_same x) (value_same y)
    value_same (q.scalar query) = refl
    value_same q.count_all = refl
    value_same (q.aggregate function distinct x) = refl

    addends_same : (xs : Addends) → folds_in (addend_leaves f xs) ≡ folds_in (addend_leaves g xs)
    addends_same q.no_addend = refl
    addends_same (q.one_addend op x xs) = both (leaves f x) (addend_leaves f xs) (leaves g x) (addend_leaves g xs) (value_same x) (addends_same xs)

    multipliers_same : (xs : Multipliers) → folds_in (multiplier_leaves f xs) ≡ folds_in (multiplier_leaves g xs)
    multipliers_same q.no_multiplier = refl
    multipliers_same (q.one_multiplier op x xs) = both (leaves f x) (multiplier_leaves f xs) (leaves g x) (multiplier_leaves g xs) (value_same x) (multipliers_same xs)

    pub values_same : (xs : Values) → folds_in (list_leaves f xs) ≡ folds_in (list_leaves g xs)
    values_same q.no_value = refl
    values_same (q.one_value x xs) = both (leaves f x) (list_leaves f xs) (leaves g x) (list_leaves g xs) (value_same x) (values_same xs)

    arms_same : (xs : Arms) → folds_in (arm_leaves f xs) ≡ folds_in (arm_leaves g xs)
    arms_same q.no_arm = refl
    arms_same (q.one_arm p x xs) =
        both (test_leaves f p) (leaves f x ++ arm_leaves f xs) (test_leaves g p) (leaves g x ++ arm_leaves g xs) (test_same p)
        (both (leaves f x) (arm_leaves f xs) (leaves g x) (arm_leaves g xs) (value_same x) (arms_same xs))

    choices_same : (xs : Choices) → folds_in (choice_leaves f xs) ≡ folds_in (choice_leaves g xs)
    choices_same q.no_choice = refl
    choices_same (q.one_choice x y xs) =
        both (leaves f x) (leaves f y ++ choice_leaves f xs) (leaves g x) (leaves g y ++ choice_leaves g xs) (value_same x)
        (both (leaves f y) (choice_leaves f xs) (leaves g y) (choice_leaves g xs) (value_same y) (choices_same xs))

    pub test_same : (p : Test) → folds_in (test_leaves f p) ≡ folds_in (test_leaves g p)
    test_same (q.all ps) = tests_same ps
    test_same (q.any ps) = tests_same ps
    test_same (q.negated p) = test_same p
    test_same (q.compare x op y) = both (leaves f x) (leaves f y) (leaves g x) (leaves g y) (value_same x) (value_same y)
    test_same (q.quantified x op each query) = both (leaves f x) _ (leaves g x) _ (value_same x) refl
    test_same (q.between x y z) =
        both (leaves f x) (leaves f y ++ leaves f z) (leaves g x) (leaves g y ++ leaves g z) (value_same x) (both (leaves f y) (leaves f z) (leaves g y) (leaves g z) (value_same y) (value_same z))
    test_same (q.among x xs) = both (leaves f x) (list_leaves f xs) (leaves g x) (list_leaves g xs) (value_same x) (values_same xs)
    test_same (q.among_rows x query) = both (leaves f x) _ (leaves g x) _ (value_same x) refl
    test_same (q.like x y) = both (leaves f x) (leaves f y) (leaves g x) (leaves g y) (value_same x) (value_same y)
    test_same (q.is_null x) = value_same x
    test_same (q.exists query) = refl

    tests_same : (ps : Tests) → folds_in (tests_leaves f ps) ≡ folds_in (tests_leaves g ps)
    tests_same q.no_test = refl
    tests_same (q.one_test p ps) = both (test_leaves f p) (tests_leaves f ps) (test_leaves g p) (tests_leaves g ps) (test_same p) (tests_same ps)

-- of the ON conditions of a FROM
pub on_same : (sources : Sources) (x : From) (os : List OwnedQuant) → folds_in (w.on_leaves sources x os) ≡ on_folds x
on_same sources (q.named name) os = refl
on_same sources (q.derived query) os = refl
on_same sources (q.crossed x y) os = folds_append (w.on_leaves sources x os) (w.on_leaves sources y (w.past sources x os)) ∙ ap₂ (λ a b. a ++ b) (on_same sources x os) (on_same sources y (w.past sources x os))
on_same sources (q.joined x y p) os =
    let fr = w.frame sources x os ++ w.frame sources y (w.past sources x os) in
    let ls = w.on_leaves sources y (w.past sources x os) in
    folds_append (w.on_leaves sources x os) (ls ++ test_leaves fr p)
    ∙ ap₂ (λ a b. a ++ b) (on_same sources x os) (folds_append ls (test_leaves fr p) ∙ ap₂ (λ a b. a ++ b) (on_same sources y (w.past sources x os)) (test_same fr [] p))
on_same sources (q.left_joined x y n p) os = refl

pub all_on_same : (sources : Sources) (xs : Froms) (os : List OwnedQuant) → folds_in (w.all_on_leaves sources xs os) ≡ all_on_folds xs
all_on_same sources q.no_from os = refl
all_on_same sources (q.one_from x xs) os = folds_append (w.on_leaves sources x os) (w.all_on_leaves sources xs (w.past sources x os)) ∙ ap₂ (λ a b. a ++ b) (on_same sources x os) (all_on_same sources xs (w.past sources x os))
