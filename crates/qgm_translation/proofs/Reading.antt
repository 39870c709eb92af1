-- Which names a query reads, those that are known, and those of its leaves.
use Rattle.std.specs.List.{list_any}
use Rattle.std.proofs.Common.{◌≡◌, ◌||◌, ℕ, Bool, true, false, List, [], ◌∷◌, ◌++◌, refl, ap, ap₂, sym, ◌∙◌, subst}
use Rattle.sql_ast.specs.Names.{same_name}
use Rattle.sql_meaning.specs.ResolvedTrees.{Value, Addends, Multipliers, Values, Arms, Choices, Test, Tests, From, Froms, Query}
use Rattle.sql_meaning.specs.ResolvedTrees as q
use Rattle.qgm_translation.specs.Buildable.{Buildable, FitAddends, FitArms, FitChoices, FitFrom, FitFroms, FitMultipliers, FitTest, FitTests, FitValue, FitValues}
use Rattle.qgm_translation.specs.Leaves.{Leaf, addend_leaves, arm_leaves, choice_leaves, count, every_or_some, fold, leaves, list_leaves, multiplier_leaves, sub, test_leaves, tests_leaves}
use Rattle.qgm_core.specs.declared.kinds.QuantKind.TheVariants.{E}
use Rattle.qgm_translation.specs.Maps.{Frame}
use Rattle.qgm_translation.specs.Reads.{addends_read, arms_read, choices_read, from_reads, froms_read, multipliers_read, query_reads, test_reads, tests_read, value_reads, values_read}
use Rattle.qgm_translation.specs.Sources.{Sources}
use Rattle.qgm_translation.specs.Views.{EachAddends, EachArms, EachChoices, EachFrom, EachFroms, EachIn, EachMultipliers, EachTest, EachTests, EachValue, EachValues}
use Rattle.qgm_translation.proofs.Numbers.{or-cases}
use Rattle.std.specs.Cmp.Lexicographic.{nat_list_eq_equiv, same_text}
use Rattle.std.proofs.lemmas.Bool.{or_left, or_right}
use Rattle.list_laws.proofs.Booleans.{or-assoc}

same-self : (a : List ℕ) → same_name a a ≡ true
same-self a = nat_list_eq_equiv.refl a

pub same-eq : (a b : List ℕ) → same_name a b ≡ true → a ≡ b
same-eq a b h = same_text a b (sym h)

or-false : (a : Bool) → a ≡ (a || false)
or-false true = refl
or-false false = refl

-- ---- a query that is buildable where some names are known is so where those are that it reads

module _ (sources : Sources) (has more : List ℕ → Bool) where
  mutual
    pub query-narrow : (x : Query) → Buildable sources has x → ((n : List ℕ) → query_reads x n ≡ true → more n ≡ true) → Buildable sources more x
    query-narrow (q.block distinct list from by) h known = (froms-narrow from h.0 (λ n e. known n (or_right (values_read list n) ((froms_read from n) || (test_reads by n)) (or_left (froms_read from n) (test_reads by n) e))), values-narrow list h.1 (λ n e. known n (or_left (values_read list n) ((froms_read from n) || (test_reads by n)) e)), test-narrow by h.2 (λ n e. known n (or_right (values_read list n) ((froms_read from n) || (test_reads by n)) (or_right (froms_read from n) (test_reads by n) e))))
    query-narrow (q.grouped distinct list from by places n having) h known = (froms-narrow from h.0 (λ n e. known n (or_right (values_read list n) ((froms_read from n) || ((test_reads by n) || (test_reads having n))) (or_left (froms_read from n) ((test_reads by n) || (test_reads having n)) e))), values-narrow list h.1 (λ n e. known n (or_left (values_read list n) ((froms_read from n) || ((test_reads by n) || (test_reads having n))) e)), test-narrow by h.2 (λ n e. known n (or_right (values_read list n) ((froms_read from n) || ((test_reads by n) || (test_reads having n))) (or_right (froms_read from n) ((test_reads by n) || (test_reads having n)) (or_left (test_reads by n) (test_reads having n) e)))), test-narrow having h.3 (λ n e. known n (or_right (values_read list n) ((froms_read from n) || ((test_reads by n) || (test_reads having n))) (or_right (froms_read from n) ((test_reads by n) || (test_reads having n)) (or_right (test_reads by n) (test_reads having n) e)))), h.4, h.5)
    query-narrow (q.combine x op all n y) h known = (query-narrow x h.0 (λ n e. known n (or_left (query_reads x n) (query_reads y n) e)), query-narrow y h.1 (λ n e. known n (or_right (query_reads x n) (query_reads y n) e)), h.2, h.3)
    query-narrow (q.intersect x all n y) h known = (query-narrow x h.0 (λ n e. known n (or_left (query_reads x n) (query_reads y n) e)), query-narrow y h.1 (λ n e. known n (or_right (query_reads x n) (query_reads y n) e)), h.2, h.3)

    pub from-narrow : (x : From) → FitFrom sources has x → ((n : List ℕ) → from_reads x n ≡ true → more n ≡ true) → FitFrom sources more x
    from-narrow (q.named name) h known = known name (same-self name)
    from-narrow (q.derived query) h known = query-narrow query h (λ n e. known n e)
    from-narrow (q.crossed x y) h known = (from-narrow x h.0 (λ n e. known n (or_left (from_reads x n) (from_reads y n) e)), from-narrow y h.1 (λ n e. known n (or_right (from_reads x n) (from_reads y n) e)))
    from-narrow (q.joined x y p) h known = (from-narrow x h.0 (λ n e. known n (or_left (from_reads x n) ((from_reads y n) || (test_reads p n)) e)), from-narrow y h.1 (λ n e. known n (or_right (from_reads x n) ((from_reads y n) || (test_reads p n)) (or_left (from_reads y n) (test_reads p n) e))), test-narrow p h.2 (λ n e. known n (or_right (from_reads x n) ((from_reads y n) || (test_reads p n)) (or_right (from_reads y n) (test_reads p n) e))))
    from-narrow (q.left_joined x y n p) h known = (from-narrow x h.0 (λ n e. known n (or_left (from_reads x n) ((from_reads y n) || (test_reads p n)) e)), from-narrow y h.1 (λ n e. known n (or_right (from_reads x n) ((from_reads y n) || (test_reads p n)) (or_left (from_reads y n) (test_reads p n) e))), h.2, h.3)

    pub froms-narrow : (x : Froms) → FitFroms sources has x → ((n : List ℕ) → froms_read x n ≡ true → more n ≡ true) → FitFroms sources more x
    froms-narrow q.no_from h known = tt
    froms-narrow (q.one_from x xs) h known = (from-narrow x h.0 (λ n e. known n (or_left (from_reads x n) (froms_read xs n) e)), froms-narrow xs h.1 (λ n e. known n (or_right (from_reads x n) (froms_read xs n) e)))

    pub value-narrow : (x : Value) → FitValue sources has x → ((n : List ℕ) → value_reads x n ≡ true → more n ≡ true) → FitValue sources more x
    value-narrow (q.number n) h known = tt
    value-narrow (q.text x) h known = tt
    value-narrow (q.null type) h known = tt
    value-narrow (q.column scope place) h known = tt
    value-narrow (q.sum x xs) h known = (value-narrow x h.0 (λ n e. known n (or_left (value_reads x n) (addends_read xs n) e)), addends-narrow xs h.1 (λ n e. known n (or_right (value_reads x n) (addends_read xs n) e)))
    value-narrow (q.product x xs) h known = (value-narrow x h.0 (λ n e. known n (or_left (value_reads x n) (multipliers_read xs n) e)), multipliers-narrow xs h.1 (λ n e. known n (or_right (value_reads x n) (multipliers_read xs n) e)))
    value-narrow (q.negative x) h known = value-narrow x h (λ n e. known n e)
    value-narrow (q.searched xs last) h known = (arms-narrow xs h.0 (λ n e. known n (or_left (arms_read xs n) (value_reads last n) e)), value-narrow last h.1 (λ n e. known n (or_right (arms_read xs n) (value_reads last n) e)))
    value-narrow (q.simple x xs last) h known = (value-narrow x h.0 (λ n e. known n (or_left (value_reads x n) ((choices_read xs n) || (value_reads last n)) e)), choices-narrow xs h.1 (λ n e. known n (or_right (value_reads x n) ((choices_read xs n) || (value_reads last n)) (or_left (choices_read xs n) (value_reads last n) e))), value-narrow last h.2 (λ n e. known n (or_right (value_reads x n) ((choices_read xs n) || (value_reads last n)) (or_right (choices_read xs n) (value_reads last n) e))))
    value-narrow (q.coalesce x xs) h known = (value-narrow x h.0 (λ n e. known n (or_left (value_reads x n) (values_read xs n) e)), values-narrow xs h.1 (λ n e. known n (or_right (value_reads x n) (values_read xs n) e)))
    value-narrow (q.null_if x y) h known = (value-narrow x h.0 (λ n e. known n (or_left (value_reads x n) (value_reads y n) e)), value-narrow y h.1 (λ n e. known n (or_right (value_reads x n) (value_reads y n) e)))
    value-narrow (q.scalar query) h known = query-narrow query h (λ n e. known n e)
    value-narrow q.count_all h known = tt
    value-narrow (q.aggregate f distinct x) h known = h

    pub addends-narrow : (x : Addends) → FitAddends sources has x → ((n : List ℕ) → addends_read x n ≡ true → more n ≡ true) → FitAddends sources more x
    addends-narrow q.no_addend h known = tt
    addends-narrow (q.one_addend op x xs) h known = (value-narrow x h.0 (λ n e. known n (or_left (value_reads x n) (addends_read xs n) e)), addends-narrow xs h.1 (λ n e. known n (or_right (value_reads x n) (addends_read xs n) e)))

    pub multipliers-narrow : (x : Multipliers) → FitMultipliers sources has x → ((n : List ℕ) → multipliers_read x n ≡ true → more n ≡ true) → FitMultipliers sources more x
    multipliers-narrow q.no_multiplier h known = tt
    multipliers-narrow (q.one_multiplier op x xs) h known = (value-narrow x h.0 (λ n e. known n (or_left (value_reads x n) (multipliers_read xs n) e)), multipliers-narrow xs h.1 (λ n e. known n (or_right (value_reads x n) (multipliers_read xs n) e)))

    pub values-narrow : (x : Values) → FitValues sources has x → ((n : List ℕ) → values_read x n ≡ true → more n ≡ true) → FitValues sources more x
    values-narrow q.no_value h known = tt
    values-narrow (q.one_value x xs) h known = (value-narrow x h.0 (λ n e. known n (or_left (value_reads x n) (values_read xs n) e)), values-narrow xs h.1 (λ n e. known n (or_right (value_reads x n) (values_read xs n) e)))

    pub arms-narrow : (x : Arms) → FitArms sources has x → ((n : List ℕ) → arms_read x n ≡ true → more n ≡ true) → FitArms sources more x
    arms-narrow q.no_arm h known = tt
    arms-narrow (q.one_arm p x xs) h known = (test-narrow p h.0 (λ n e. known n (or_left ((test_reads p n) || (value_reads x n)) (arms_read xs n) (or_left (test_reads p n) (value_reads x n) e))), value-narrow x h.1 (λ n e. known n (or_left ((test_reads p n) || (value_reads x n)) (arms_read xs n) (or_right (test_reads p n) (value_reads x n) e))), arms-narrow xs h.2 (λ n e. known n (or_right ((test_reads p n) || (value_reads x n)) (arms_read xs n) e)))

    pub choices-narrow : (x : Choices) → FitChoices sources has x → ((n : List ℕ) → choices_read x n ≡ true → more n ≡ true) → FitChoices sources more x
    choices-narrow q.no_choice h known = tt
    choices-narrow (q.one_choice x y xs) h known = (value-narrow x h.0 (λ n e. known n (or_left ((value_reads x n) || (value_reads y n)) (choices_read xs n) (or_left (value_reads x n) (value_reads y n) e))), value-narrow y h.1 (λ n e. known n (or_left ((value_reads x n) || (value_reads y n)) (choices_read xs n) (or_right (value_reads x n) (value_reads y n) e))), choices-narrow xs h.2 (λ n e. known n (or_right ((value_reads x n) || (value_reads y n)) (choices_read xs n) e)))

    pub test-narrow : (x : Test) → FitTest sources has x → ((n : List ℕ) → test_reads x n ≡ true → more n ≡ true) → FitTest sources more x
    test-narrow (q.all ps) h known = tests-narrow ps h (λ n e. known n e)
    test-narrow (q.any ps) h known = tests-narrow ps h (λ n e. known n e)
    test-narrow (q.negated p) h known = test-narrow p h (λ n e. known n e)
    test-narrow (q.compare x op y) h known = (value-narrow x h.0 (λ n e. known n (or_left (value_reads x n) (value_reads y n) e)), value-narrow y h.1 (λ n e. known n (or_right (value_reads x n) (value_reads y n) e)))
    test-narrow (q.quantified x op each query) h known = (value-narrow x h.0 (λ n e. known n (or_left (value_reads x n) (query_reads query n) e)), query-narrow query h.1 (λ n e. known n (or_right (value_reads x n) (query_reads query n) e)))
    test-narrow (q.between x y z) h known = (value-narrow x h.0 (λ n e. known n (or_left (value_reads x n) ((value_reads y n) || (value_reads z n)) e)), value-narrow y h.1 (λ n e. known n (or_right (value_reads x n) ((value_reads y n) || (value_reads z n)) (or_left (value_reads y n) (value_reads z n) e))), value-narrow z h.2 (λ n e. known n (or_right (value_reads x n) ((value_reads y n) || (value_reads z n)) (or_right (value_reads y n) (value_reads z n) e))))
    test-narrow (q.among x xs) h known = (value-narrow x h.0 (λ n e. known n (or_left (value_reads x n) (values_read xs n) e)), values-narrow xs h.1 (λ n e. known n (or_right (value_reads x n) (values_read xs n) e)))
    test-narrow (q.among_rows x query) h known = (value-narrow x h.0 (λ n e. known n (or_left (value_reads x n) (query_reads query n) e)), query-narrow query h.1 (λ n e. known n (or_right (value_reads x n) (query_reads query n) e)))
    test-narrow (q.like x y) h known = (value-narrow x h.0 (λ n e. known n (or_left (value_reads x n) (value_reads y n) e)), value-narrow y h.1 (λ n e. known n (or_right (value_reads x n) (value_reads y n) e)))
    test-narrow (q.is_null x) h known = value-narrow x h (λ n e. known n e)
    test-narrow (q.exists query) h known = query-narrow query h (λ n e. known n e)

    pub tests-narrow : (x : Tests) → FitTests sources has x → ((n : List ℕ) → tests_read x n ≡ true → more n ≡ true) → FitTests sources more x
    tests-narrow q.no_test h known = tt
    tests-narrow (q.one_test p ps) h known = (test-narrow p h.0 (λ n e. known n (or_left (test_reads p n) (tests_read ps n) e)), tests-narrow ps h.1 (λ n e. known n (or_right (test_reads p n) (tests_read ps n) e)))

-- ---- what a block reads is what its leaves read

module _ (name : List ℕ) where
  abbrev pub leaf_reads : Leaf → Bool
  leaf_reads (sub fr kind query) = query_reads query name
  leaf_reads (fold f distinct x) = false
  leaf_reads count = false

  abbrev pub any_reads : List Leaf → Bool
  any_reads ls = list_any leaf_reads ls

  pub any-append : (ls ks : List Leaf) → any_reads (ls ++ ks) ≡ (any_reads ls || any_reads ks)
  any-append [] ks = refl
  any-append (l ∷ ls) ks = ap (λ b. leaf_reads l || b) (any-append ls ks) ∙ sym (or-assoc (leaf_reads l) (any_reads ls) (any_reads ks))

  two : (a b : Bool) (ls ks : List Leaf) → a ≡ any_reads ls → b ≡ any_reads ks → (a || b) ≡ any_reads (ls ++ ks)
  two a b ls ks h k = ap₂ (λ x y. x || y) h k ∙ sym (any-append ls ks)

  three : (a b c : Bool) (ls ks js : List Leaf) → a ≡ any_reads ls → b ≡ any_reads ks → c ≡ any_reads js → (a || (b || c)) ≡ any_reads (ls ++ (ks ++ js))
  three a b c ls ks js h k j = two a (b || c) ls (ks ++ js) h (two b c ks js k j)

  three-left : (a b c : Bool) (ls ks js : List Leaf) → a ≡ any_reads ls → b ≡ any_reads ks → c ≡ any_reads js → ((a || b) || c) ≡ any_reads (ls ++ (ks ++ js))
  three-left a b c ls ks js h k j = or-assoc a b c ∙ three a b c ls ks js h k j

  module _ (fr : Frame) where
    mutual
      pub value-leaves : (x : Value) → value_reads x name ≡ any_reads (leaves fr x)
      value-leaves (q.number n) = refl
      value-leaves (q.text x) = refl
      value-leaves (q.null type) = refl
      value-leaves (q.column scope place) = refl
      value-leaves (q.sum x xs) = two (value_reads x name) (addends_read xs name) (leaves fr x) (addend_leaves fr xs) (value-leaves x) (addends-leaves xs)
      value-leaves (q.product x xs) = two (value_reads x name) (multipliers_read xs name) (leaves fr x) (multiplier_leaves fr xs) (value-leaves x) (multipliers-leaves xs)
      value-leaves (q.negative x) = value-leaves x
      value-leaves (q.searched xs last) = two (arms_read xs name) (value_reads last name) (arm_leaves fr xs) (leaves fr last) (arms-leaves xs) (value-leaves last)
      value-leaves (q.simple x xs last) = three (value_reads x name) (choices_read xs name) (value_reads last name) (leaves fr x) (choice_leaves fr xs) (leaves fr last) (value-leaves x) (choices-leaves xs) (value-leaves last)
      value-leaves (q.coalesce x xs) = two (value_reads x name) (values_read xs name) (leaves fr x) (list_leaves fr xs) (value-leaves x) (values-leaves xs)
      value-leaves (q.null_if x y) = two (value_reads x name) (value_reads y name) (leaves fr x) (leaves fr y) (value-leaves x) (value-leaves y)
      value-leaves (q.scalar query) = or-false (query_reads query name)
      value-leaves q.count_all = refl
      value-leaves (q.aggregate f distinct x) = refl

      pub addends-leaves : (x : Addends) → addends_read x name ≡ any_reads (addend_leaves fr x)
      addends-leaves q.no_addend = refl
      addends-leaves (q.one_addend op x xs) = two (value_reads x name) (addends_read xs name) (leaves fr x) (addend_leaves fr xs) (value-leaves x) (addends-leaves xs)

      pub multipliers-leaves : (x : Multipliers) → multipliers_read x name ≡ any_reads (multiplier_leaves fr x)
      multipliers-leaves q.no_multiplier = refl
      multipliers-leaves (q.one_multiplier op x xs) = two (value_reads x name) (multipliers_read xs name) (leaves fr x) (multiplier_leaves fr xs) (value-leaves x) (multipliers-leaves xs)

      pub values-leaves : (x : Values) → values_read x name ≡ any_reads (list_leaves fr x)
      values-leaves q.no_value = refl
      values-leaves (q.one_value x xs) = two (value_reads x name) (values_read xs name) (leaves fr x) (list_leaves fr xs) (value-leaves x) (values-leaves xs)

      pub arms-leaves : (x : Arms) → arms_read x name ≡ any_reads (arm_leaves fr x)
      arms-leaves q.no_arm = refl
      arms-leaves (q.one_arm p x xs) = three-left (test_reads p name) (value_reads x name) (arms_read xs name) (test_leaves fr p) (leaves fr x) (arm_leaves fr xs) (test-leaves p) (value-leaves x) (arms-leaves xs)

      pub choices-leaves : (x : Choices) → choices_read x name ≡ any_reads (choice_leaves fr x)
      choices-leaves q.no_choice = refl
      choices-leaves (q.one_choice x y xs) = three-left (value_reads x name) (value_reads y name) (choices_read xs name) (leaves fr x) (leaves fr y) (choice_leaves fr xs) (value-leaves x) (value-leaves y) (choices-leaves xs)

      pub test-leaves : (x : Test) → test_reads x name ≡ any_reads (test_leaves fr x)
      test-leaves (q.all ps) = tests-leaves ps
      test-leaves (q.any ps) = tests-leaves ps
      test-leaves (q.negated p) = test-leaves p
      test-leaves (q.compare x op y) = two (value_reads x name) (value_reads y name) (leaves fr x) (leaves fr y) (value-leaves x) (value-leaves y)
      test-leaves (q.quantified x op each query) = two (value_reads x name) (query_reads query name) (leaves fr x) (sub fr (every_or_some each) query ∷ []) (value-leaves x) (or-false (query_reads query name))
      test-leaves (q.between x y z) = three (value_reads x name) (value_reads y name) (value_reads z name) (leaves fr x) (leaves fr y) (leaves fr z) (value-leaves x) (value-leaves y) (value-leaves z)
      test-leaves (q.among x xs) = two (value_reads x name) (values_read xs name) (leaves fr x) (list_leaves fr xs) (value-leaves x) (values-leaves xs)
      test-leaves (q.among_rows x query) = two (value_reads x name) (query_reads query name) (leaves fr x) (sub fr E query ∷ []) (value-leaves x) (or-false (query_reads query name))
      test-leaves (q.like x y) = two (value_reads x name) (value_reads y name) (leaves fr x) (leaves fr y) (value-leaves x) (value-leaves y)
      test-leaves (q.is_null x) = value-leaves x
      test-leaves (q.exists query) = or-false (query_reads query name)

      pub tests-leaves : (x : Tests) → tests_read x name ≡ any_reads (tests_leaves fr x)
      tests-leaves q.no_test = refl
      tests-leaves (q.one_test p ps) = two (test_reads p name) (tests_read ps name) (test_leaves fr p) (tests_leaves fr ps) (test-leaves p) (tests-leaves ps)

  -- nothing is read where no leaf is
  pub no-leaf-test : (x : Test) → ((fr : Frame) → test_leaves fr x ≡ []) → test_reads x name ≡ true → ⊥
  no-leaf-test x none h = let e : test_reads x name ≡ false = test-leaves [] x ∙ ap any_reads (none []) in let z : true ≡ false = sym h ∙ e in let w : ⊥ = cc in w

-- ---- what a buildable query reads is known, and so is what holds of each name in it

module _ (sources : Sources) (has : List ℕ → Bool) (name : List ℕ) where
  mutual
    pub query-has : (x : Query) → Buildable sources has x → query_reads x name ≡ true → has name ≡ true
    query-has (q.block distinct list from by) h e = or-cases (values_read list name) ((froms_read from name) || (test_reads by name)) e (λ e. values-has list h.1 e) (λ e. (or-cases (froms_read from name) (test_reads by name) e (λ e. froms-has from h.0 e) (λ e. test-has by h.2 e)))
    query-has (q.grouped distinct list from by places n having) h e = or-cases (values_read list name) ((froms_read from name) || ((test_reads by name) || (test_reads having name))) e (λ e. values-has list h.1 e) (λ e. (or-cases (froms_read from name) ((test_reads by name) || (test_reads having name)) e (λ e. froms-has from h.0 e) (λ e. (or-cases (test_reads by name) (test_reads having name) e (λ e. test-has by h.2 e) (λ e. test-has having h.3 e)))))
    query-has (q.combine x op all n y) h e = or-cases (query_reads x name) (query_reads y name) e (λ e. query-has x h.0 e) (λ e. query-has y h.1 e)
    query-has (q.intersect x all n y) h e = or-cases (query_reads x name) (query_reads y name) e (λ e. query-has x h.0 e) (λ e. query-has y h.1 e)

    pub from-has : (x : From) → FitFrom sources has x → from_reads x name ≡ true → has name ≡ true
    from-has (q.named x) h e = subst (λ z. has z ≡ true) (same-eq x name e) h
    from-has (q.derived query) h e = query-has query h e
    from-has (q.crossed x y) h e = or-cases (from_reads x name) (from_reads y name) e (λ e. from-has x h.0 e) (λ e. from-has y h.1 e)
    from-has (q.joined x y p) h e = or-cases (from_reads x name) ((from_reads y name) || (test_reads p name)) e (λ e. from-has x h.0 e) (λ e. (or-cases (from_reads y name) (test_reads p name) e (λ e. from-has y h.1 e) (λ e. test-has p h.2 e)))
    from-has (q.left_joined x y n p) h e = or-cases (from_reads x name) ((from_reads y name) || (test_reads p name)) e (λ e. from-has x h.0 e) (λ e. (or-cases (from_reads y name) (test_reads p name) e (λ e. from-has y h.1 e) (λ e. absurd (no-leaf-test name p h.3 e))))

    pub froms-has : (x : Froms) → FitFroms sources has x → froms_read x name ≡ true → has name ≡ true
    froms-has q.no_from h e = absurd (cc e)
    froms-has (q.one_from x xs) h e = or-cases (from_reads x name) (froms_read xs name) e (λ e. from-has x h.0 e) (λ e. froms-has xs h.1 e)

    pub value-has : (x : Value) → FitValue sources has x → value_reads x name ≡ true → has name ≡ true
    value-has (q.number n) h e = absurd (cc e)
    value-has (q.text x) h e = absurd (cc e)
    value-has (q.null type) h e = absurd (cc e)
    value-has (q.column scope place) h e = absurd (cc e)
    value-has (q.sum x xs) h e = or-cases (value_reads x name) (addends_read xs name) e (λ e. value-has x h.0 e) (λ e. addends-has xs h.1 e)
    value-has (q.product x xs) h e = or-cases (value_reads x name) (multipliers_read xs name) e (λ e. value-has x h.0 e) (λ e. multipliers-has xs h.1 e)
    value-has (q.negative x) h e = value-has x h e
    value-has (q.searched xs last) h e = or-cases (arms_read xs name) (value_reads last name) e (λ e. arms-has xs h.0 e) (λ e. value-has last h.1 e)
    value-has (q.simple x xs last) h e = or-cases (value_reads x name) ((choices_read xs name) || (value_reads last name)) e (λ e. value-has x h.0 e) (λ e. (or-cases (choices_read xs name) (value_reads last name) e (λ e. choices-has xs h.1 e) (λ e. value-has last h.2 e)))
    value-has (q.coalesce x xs) h e = or-cases (value_reads x name) (values_read xs name) e (λ e. value-has x h.0 e) (λ e. values-has xs h.1 e)
    value-has (q.null_if x y) h e = or-cases (value_reads x name) (value_reads y name) e (λ e. value-has x h.0 e) (λ e. value-has y h.1 e)
    value-has (q.scalar query) h e = query-has query h e
    value-has q.count_all h e = absurd (cc e)
    value-has (q.aggregate f distinct x) h e = absurd (cc e)

    pub addends-has : (x : Addends) → FitAddends sources has x → addends_read x name ≡ true → has name ≡ true
    addends-has q.no_addend h e = absurd (cc e)
    addends-has (q.one_addend op x xs) h e = or-cases (value_reads x name) (addends_read xs name) e (λ e. value-has x h.0 e) (λ e. addends-has xs h.1 e)

    pub multipliers-has : (x : Multipliers) → FitMultipliers sources has x → multipliers_read x name ≡ true → has name ≡ true
    multipliers-has q.no_multiplier h e = absurd (cc e)
    multipliers-has (q.one_multiplier op x xs) h e = or-cases (value_reads x name) (multipliers_read xs name) e (λ e. value-has x h.0 e) (λ e. multipliers-has xs h.1 e)

    pub values-has : (x : Values) → FitValues sources has x → values_read x name ≡ true → has name ≡ true
    values-has q.no_value h e = absurd (cc e)
    values-has (q.one_value x xs) h e = or-cases (value_reads x name) (values_read xs name) e (λ e. value-has x h.0 e) (λ e. values-has xs h.1 e)

    pub arms-has : (x : Arms) → FitArms sources has x → arms_read x name ≡ true → has name ≡ true
    arms-has q.no_arm h e = absurd (cc e)
    arms-has (q.one_arm p x xs) h e = or-cases ((test_reads p name) || (value_reads x name)) (arms_read xs name) e (λ e. (or-cases (test_reads p name) (value_reads x name) e (λ e. test-has p h.0 e) (λ e. value-has x h.1 e))) (λ e. arms-has xs h.2 e)

    pub choices-has : (x : Choices) → FitChoices sources has x → choices_read x name ≡ true → has name ≡ true
    choices-has q.no_choice h e = absurd (cc e)
    choices-has (q.one_choice x y xs) h e = or-cases ((value_reads x name) || (value_reads y name)) (choices_read xs name) e (λ e. (or-cases (value_reads x name) (value_reads y name) e (λ e. value-has x h.0 e) (λ e. value-has y h.1 e))) (λ e. choices-has xs h.2 e)

    pub test-has : (x : Test) → FitTest sources has x → test_reads x name ≡ true → has name ≡ true
    test-has (q.all ps) h e = tests-has ps h e
    test-has (q.any ps) h e = tests-has ps h e
    test-has (q.negated p) h e = test-has p h e
    test-has (q.compare x op y) h e = or-cases (value_reads x name) (value_reads y name) e (λ e. value-has x h.0 e) (λ e. value-has y h.1 e)
    test-has (q.quantified x op each query) h e = or-cases (value_reads x name) (query_reads query name) e (λ e. value-has x h.0 e) (λ e. query-has query h.1 e)
    test-has (q.between x y z) h e = or-cases (value_reads x name) ((value_reads y name) || (value_reads z name)) e (λ e. value-has x h.0 e) (λ e. (or-cases (value_reads y name) (value_reads z name) e (λ e. value-has y h.1 e) (λ e. value-has z h.2 e)))
    test-has (q.among x xs) h e = or-cases (value_reads x name) (values_read xs name) e (λ e. value-has x h.0 e) (λ e. values-has xs h.1 e)
    test-has (q.among_rows x query) h e = or-cases (value_reads x name) (query_reads query name) e (λ e. value-has x h.0 e) (λ e. query-has query h.1 e)
    test-has (q.like x y) h e = or-cases (value_reads x name) (value_reads y name) e (λ e. value-has x h.0 e) (λ e. value-has y h.1 e)
    test-has (q.is_null x) h e = value-has x h e
    test-has (q.exists query) h e = query-has query h e

    pub tests-has : (x : Tests) → FitTests sources has x → tests_read x name ≡ true → has name ≡ true
    tests-has q.no_test h e = absurd (cc e)
    tests-has (q.one_test p ps) h e = or-cases (test_reads p name) (tests_read ps name) e (λ e. test-has p h.0 e) (λ e. tests-has ps h.1 e)

module _ (P : List ℕ → Type 0) (name : List ℕ) where
  mutual
    pub query-each : (x : Query) → EachIn P x → query_reads x name ≡ true → P name
    query-each (q.block distinct list from by) h e = or-cases (values_read list name) ((froms_read from name) || (test_reads by name)) e (λ e. values-each list h.1 e) (λ e. (or-cases (froms_read from name) (test_reads by name) e (λ e. froms-each from h.0 e) (λ e. test-each by h.2 e)))
    query-each (q.grouped distinct list from by places n having) h e = or-cases (values_read list name) ((froms_read from name) || ((test_reads by name) || (test_reads having name))) e (λ e. values-each list h.1 e) (λ e. (or-cases (froms_read from name) ((test_reads by name) || (test_reads having name)) e (λ e. froms-each from h.0 e) (λ e. (or-cases (test_reads by name) (test_reads having name) e (λ e. test-each by h.2 e) (λ e. test-each having h.3 e)))))
    query-each (q.combine x op all n y) h e = or-cases (query_reads x name) (query_reads y name) e (λ e. query-each x h.0 e) (λ e. query-each y h.1 e)
    query-each (q.intersect x all n y) h e = or-cases (query_reads x name) (query_reads y name) e (λ e. query-each x h.0 e) (λ e. query-each y h.1 e)

    pub from-each : (x : From) → EachFrom P x → from_reads x name ≡ true → P name
    from-each (q.named x) h e = subst P (same-eq x name e) h
    from-each (q.derived query) h e = query-each query h e
    from-each (q.crossed x y) h e = or-cases (from_reads x name) (from_reads y name) e (λ e. from-each x h.0 e) (λ e. from-each y h.1 e)
    from-each (q.joined x y p) h e = or-cases (from_reads x name) ((from_reads y name) || (test_reads p name)) e (λ e. from-each x h.0 e) (λ e. (or-cases (from_reads y name) (test_reads p name) e (λ e. from-each y h.1 e) (λ e. test-each p h.2 e)))
    from-each (q.left_joined x y n p) h e = or-cases (from_reads x name) ((from_reads y name) || (test_reads p name)) e (λ e. from-each x h.0 e) (λ e. (or-cases (from_reads y name) (test_reads p name) e (λ e. from-each y h.1 e) (λ e. test-each p h.2 e)))

    pub froms-each : (x : Froms) → EachFroms P x → froms_read x name ≡ true → P name
    froms-each q.no_from h e = absurd (cc e)
    froms-each (q.one_from x xs) h e = or-cases (from_reads x name) (froms_read xs name) e (λ e. from-each x h.0 e) (λ e. froms-each xs h.1 e)

    pub value-each : (x : Value) → EachValue P x → value_reads x name ≡ true → P name
    value-each (q.number n) h e = absurd (cc e)
    value-each (q.text x) h e = absurd (cc e)
    value-each (q.null type) h e = absurd (cc e)
    value-each (q.column scope place) h e = absurd (cc e)
    value-each (q.sum x xs) h e = or-cases (value_reads x name) (addends_read xs name) e (λ e. value-each x h.0 e) (λ e. addends-each xs h.1 e)
    value-each (q.product x xs) h e = or-cases (value_reads x name) (multipliers_read xs name) e (λ e. value-each x h.0 e) (λ e. multipliers-each xs h.1 e)
    value-each (q.negative x) h e = value-each x h e
    value-each (q.searched xs last) h e = or-cases (arms_read xs name) (value_reads last name) e (λ e. arms-each xs h.0 e) (λ e. value-each last h.1 e)
    value-each (q.simple x xs last) h e = or-cases (value_reads x name) ((choices_read xs name) || (value_reads last name)) e (λ e. value-each x h.0 e) (λ e. (or-cases (choices_read xs name) (value_reads last name) e (λ e. choices-each xs h.1 e) (λ e. value-each last h.2 e)))
    value-each (q.coalesce x xs) h e = or-cases (value_reads x name) (values_read xs name) e (λ e. value-each x h.0 e) (λ e. values-each xs h.1 e)
    value-each (q.null_if x y) h e = or-cases (value_reads x name) (value_reads y name) e (λ e. value-each x h.0 e) (λ e. value-each y h.1 e)
    value-each (q.scalar query) h e = query-each query h e
    value-each q.count_all h e = absurd (cc e)
    value-each (q.aggregate f distinct x) h e = absurd (cc e)

    pub addends-each : (x : Addends) → EachAddends P x → addends_read x name ≡ true → P name
    addends-each q.no_addend h e = absurd (cc e)
    addends-each (q.one_addend op x xs) h e = or-cases (value_reads x name) (addends_read xs name) e (λ e. value-each x h.0 e) (λ e. addends-each xs h.1 e)

    pub multipliers-each : (x : Multipliers) → EachMultipliers P x → multipliers_read x name ≡ true → P name
    multipliers-each q.no_multiplier h e = absurd (cc e)
    multipliers-each (q.one_multiplier op x xs) h e = or-cases (value_reads x name) (multipliers_read xs name) e (λ e. value-each x h.0 e) (λ e. multipliers-each xs h.1 e)

    pub values-each : (x : Values) → EachValues P x → values_read x name ≡ true → P name
    values-each q.no_value h e = absurd (cc e)
    values-each (q.one_value x xs) h e = or-cases (value_reads x name) (values_read xs name) e (λ e. value-each x h.0 e) (λ e. values-each xs h.1 e)

    pub arms-each : (x : Arms) → EachArms P x → arms_read x name ≡ true → P name
    arms-each q.no_arm h e = absurd (cc e)
    arms-each (q.one_arm p x xs) h e = or-cases ((test_reads p name) || (value_reads x name)) (arms_read xs name) e (λ e. (or-cases (test_reads p name) (value_reads x name) e (λ e. test-each p h.0 e) (λ e. value-each x h.1 e))) (λ e. arms-each xs h.2 e)

    pub choices-each : (x : Choices) → EachChoices P x → choices_read x name ≡ true → P name
    choices-each q.no_choice h e = absurd (cc e)
    choices-each (q.one_choice x y xs) h e = or-cases ((value_reads x name) || (value_reads y name)) (choices_read xs name) e (λ e. (or-cases (value_reads x name) (value_reads y name) e (λ e. value-each x h.0 e) (λ e. value-each y h.1 e))) (λ e. choices-each xs h.2 e)

    pub test-each : (x : Test) → EachTest P x → test_reads x name ≡ true → P name
    test-each (q.all ps) h e = tests-each ps h e
    test-each (q.any ps) h e = tests-each ps h e
    test-each (q.negated p) h e = test-each p h e
    test-each (q.compare x op y) h e = or-cases (value_reads x name) (value_reads y name) e (λ e. value-each x h.0 e) (λ e. value-each y h.1 e)
    test-each (q.quantified x op each query) h e = or-cases (value_reads x name) (query_reads query name) e (λ e. value-each x h.0 e) (λ e. query-each query h.1 e)
    test-each (q.between x y z) h e = or-cases (value_reads x name) ((value_reads y name) || (value_reads z name)) e (λ e. value-each x h.0 e) (λ e. (or-cases (value_reads y name) (value_reads z name) e (λ e. value-each y h.1 e) (λ e. value-each z h.2 e)))
    test-each (q.among x xs) h e = or-cases (value_reads x name) (values_read xs name) e (λ e. value-each x h.0 e) (λ e. values-each xs h.1 e)
    test-each (q.among_rows x query) h e = or-cases (value_reads x name) (query_reads query name) e (λ e. value-each x h.0 e) (λ e. query-each query h.1 e)
    test-each (q.like x y) h e = or-cases (value_reads x name) (value_reads y name) e (λ e. value-each x h.0 e) (λ e. value-each y h.1 e)
    test-each (q.is_null x) h e = value-each x h e
    test-each (q.exists query) h e = query-each query h e

    pub tests-each : (x : Tests) → EachTests P x → tests_read x name ≡ true → P name
    tests-each q.no_test h e = absurd (cc e)
    tests-each (q.one_test p ps) h e = or-cases (test_reads p name) (tests_read ps name) e (λ e. test-each p h.0 e) (λ e. tests-each ps h.1 e)
