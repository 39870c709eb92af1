-- Expressions and conditions of a block look up no quantifier that isn't seen in its map.
use Rattle.std.proofs.Common.{◌≡◌, ℕ, zero, suc, ◌==◌, ◌||◌, ◌&&◌, not, cond, Bool, true, false, List, [], ◌∷◌, ◌++◌, get_or, refl, Option, Some, None}
use Rattle.std.specs.List.{list_any}
use Rattle.std.proofs.lemmas.Bool.{and_parts, not-true, or_from}
use Rattle.sql_ast.specs.declared.word.Quantifier.{Quantifier}
use Rattle.sql_ast.specs.declared.word.Quantifier.TheVariants as quantifier
use Rattle.sql_value.specs.declared.order_key.SqlType.{SqlType}
use Rattle.sql_value.specs.declared.order_key.SqlType.TheVariants.{Integer, Varchar}
use Rattle.sql_meaning.specs.ResolvedTrees.{Value, Addends, Multipliers, Values, Arms, Choices, Test, Tests, Query}
use Rattle.sql_meaning.specs.ResolvedTrees as q
use Rattle.qgm_core.specs.declared.kinds.QuantKind.{QuantKind}
use Rattle.qgm_core.specs.declared.kinds.QuantKind.TheVariants.{E, S}
use Rattle.qgm_terms.specs.Terms as tree
use Rattle.qgm_terms.specs.Wanted.{reads, reads_cond}
use Rattle.qgm_meaning.specs.Searches.{reads_arms}
use Rattle.qgm_translation.specs.Leaves as w
use Rattle.qgm_translation.specs.Leaves.{Leaf, Slots, after, first_cell, first_quant, rest_of}
use Rattle.qgm_translation.specs.Maps.{Frame, Map, Ref, column, fresh, fresh_in, is_apart, none_counted, nothing, ref_term}
use Rattle.qgm_translation.specs.Sources.{Sources}
use Rattle.qgm_translation.specs.Terms as l

pub any-append : {X : Type 0} (p : X → Bool) (xs ys : List X) → list_any p xs ≡ false → list_any p ys ≡ false → list_any p (xs ++ ys) ≡ false
any-append p [] ys h k = k
any-append p (x ∷ xs) ys h k = parts (p x) (list_any p xs) h (λ g. any-append p xs ys g k)
  where
    parts : (a b : Bool) → (a || b) ≡ false → (b ≡ false → list_any p (xs ++ ys) ≡ false) → (a || list_any p (xs ++ ys)) ≡ false
    parts true b h f = absurd (cc h)
    parts false b h f = f h

module _ (n : ℕ) where
  pub ref-clear : (r : Ref) → is_apart n r ≡ true → reads n (ref_term r) ≡ false
  ref-clear nothing h = refl
  ref-clear none_counted h = refl
  ref-clear (column p k) h = not-true (p == n) h

  pub at-clear : (fr : Frame) (i : ℕ) → fresh_in n fr ≡ true → is_apart n (get_or fr i nothing) ≡ true
  at-clear [] i h = refl
  at-clear (r ∷ fr) zero h = (and_parts (is_apart n r) (fresh_in n fr) h).0
  at-clear (r ∷ fr) (suc i) h = at-clear fr i (and_parts (is_apart n r) (fresh_in n fr) h).1

  pub frame-clear : (m : Map) (i : ℕ) → fresh n m ≡ true → fresh_in n (get_or m i []) ≡ true
  frame-clear [] i h = refl
  frame-clear (fr ∷ m) zero h = (and_parts (fresh_in n fr) (fresh n m) h).0
  frame-clear (fr ∷ m) (suc i) h = frame-clear m i (and_parts (fresh_in n fr) (fresh n m) h).1

  -- the columns of aggregates aren't of n
  abbrev pub Cells : Slots → Type 0
  Cells s = fresh_in n s.cells ≡ true

  rest-clear : (fr : Frame) → fresh_in n fr ≡ true → fresh_in n (rest_of fr) ≡ true
  rest-clear [] h = refl
  rest-clear (r ∷ fr) h = (and_parts (is_apart n r) (fresh_in n fr) h).1

  first-clear : (fr : Frame) → fresh_in n fr ≡ true → is_apart n (first_cell fr) ≡ true
  first-clear [] h = refl
  first-clear (r ∷ fr) h = (and_parts (is_apart n r) (fresh_in n fr) h).0

  pub after-clear : (ls : List Leaf) (s : Slots) → Cells s → Cells (after ls s)
  after-clear [] s h = h
  after-clear (w.sub fr kind query ∷ ls) s h = after-clear ls (record s { quants = rest_of s.quants }) h
  after-clear (w.fold f distinct x ∷ ls) s h = after-clear ls (record s { cells = rest_of s.cells }) (rest-clear s.cells h)
  after-clear (w.count ∷ ls) s h = after-clear ls (record s { cells = rest_of s.cells }) (rest-clear s.cells h)

  null-clear : (type : SqlType) → reads n (l.null_as type) ≡ false
  null-clear Integer = refl
  null-clear Varchar = refl

  null_of-clear : (type : Option SqlType) → reads n (l.null_of type) ≡ false
  null_of-clear None = refl
  null_of-clear (Some type) = null-clear type

  either-clear : (type : SqlType) (b : Bool) (y : tree.Term) → reads n y ≡ false → reads n (cond b (l.null_as type) y) ≡ false
  either-clear type true y h = null-clear type
  either-clear type false y h = h

  result-clear : (type : SqlType) (x : Value) (y : tree.Term) → reads n y ≡ false → reads n (l.result_as type x y) ≡ false
  result-clear type x y h = either-clear type (l.is_untyped x) y h

  case-clear : (p : tree.Cond) (x y : tree.Term) → reads_cond n p ≡ false → reads n x ≡ false → reads n y ≡ false → reads n (l.case p x y) ≡ false
  case-clear p x y h k e = or_from (reads_cond n p || (reads n x || false)) (reads n y) (or_from (reads_cond n p) (reads n x || false) h (or_from (reads n x) false k refl)) e

  -- a column of r within some or every of r
  own-row : (b : Bool) (r : ℕ) (x : tree.Term) (g : tree.Sign) → (r == n) ≡ b → reads n x ≡ false → (false || (not b && reads_cond n (tree.compare g x (tree.col r 1)))) ≡ false
  own-row true r x g e h = refl
  own-row false r x g e h = or_from (reads n x) (r == n) h e

  quantified-clear : (each : Quantifier) (r : ℕ) (x : tree.Term) (g : tree.Sign) → reads n x ≡ false → reads_cond n (l.quantified each r (tree.compare g x (tree.col r 1))) ≡ false
  quantified-clear quantifier.Any r x g h = own-row (r == n) r x g refl h
  quantified-clear quantifier.Some r x g h = own-row (r == n) r x g refl h
  quantified-clear quantifier.All r x g h = own-row (r == n) r x g refl h

  exists-clear : (r : ℕ) → reads_cond n (tree.some r tree.always) ≡ false
  exists-clear r = by_case (r == n)
    where
      by_case : (b : Bool) → (false || (not b && false)) ≡ false
      by_case true = refl
      by_case false = refl

  pub split-clear : (p : tree.Cond) → reads_cond n p ≡ false → list_any (reads_cond n) (l.split p) ≡ false
  split-clear tree.always h = refl
  split-clear (tree.and p r) h = any-append (reads_cond n) (l.split p) (l.split r) (split-clear p (left (reads_cond n p) (reads_cond n r) h)) (split-clear r (right (reads_cond n p) (reads_cond n r) h))
    where
      left : (a b : Bool) → (a || b) ≡ false → a ≡ false
      left true b h = absurd (cc h)
      left false b h = refl

      right : (a b : Bool) → (a || b) ≡ false → b ≡ false
      right true b h = absurd (cc h)
      right false b h = h
  split-clear (tree.compare g x y) h = or_from (reads_cond n (tree.compare g x y)) false h refl
  split-clear (tree.is_null x) h = or_from (reads n x) false h refl
  split-clear (tree.or p r) h = or_from (reads_cond n (tree.or p r)) false h refl
  split-clear (tree.not p) h = or_from (reads_cond n p) false h refl
  split-clear (tree.some r p) h = or_from (reads_cond n (tree.some r p)) false h refl
  split-clear (tree.every r p) h = or_from (reads_cond n (tree.every r p)) false h refl

  -- the frames of subqueries don't show n
  abbrev pub Apart : List Leaf → Type 0
  Apart [] = Unit {0}
  Apart (w.sub f kind x ∷ ls) = (fresh_in n f ≡ true) × Apart ls
  Apart (w.fold f distinct x ∷ ls) = Apart ls
  Apart (w.count ∷ ls) = Apart ls

  pub apart-append : (xs ys : List Leaf) → Apart xs → Apart ys → Apart (xs ++ ys)
  apart-append [] ys h k = k
  apart-append (w.sub f kind x ∷ xs) ys h k = (h.0, apart-append xs ys h.1 k)
  apart-append (w.fold f distinct x ∷ xs) ys h k = apart-append xs ys h k
  apart-append (w.count ∷ xs) ys h k = apart-append xs ys h k

  module _ (sources : Sources) (fr : Frame) (m : Map) (own : fresh_in n fr ≡ true) where
    -- a record, so that the leaves are found
    pub record Clear (ls : List Leaf) : Type 0 where
      pub apart : Apart ls

    both : {xs ys : List Leaf} → Clear xs → Clear ys → Clear (xs ++ ys)
    both {xs} {ys} h k = record { apart = apart-append xs ys h.apart k.apart }

    none : Clear []
    none = record { apart = tt }

    asked : (kind : QuantKind) (query : Query) → Clear (w.sub fr kind query ∷ [])
    asked kind query = record { apart = (own, tt) }

    mutual
      pub leaves-apart : (x : Value) → Clear (w.leaves fr x)
      leaves-apart (q.number i) = none
      leaves-apart (q.text x) = none
      leaves-apart (q.null type) = none
      leaves-apart (q.column scope place) = none
      leaves-apart (q.sum x xs) = both (leaves-apart x) (addends-apart xs)
      leaves-apart (q.product x xs) = both (leaves-apart x) (multipliers-apart xs)
      leaves-apart (q.negative x) = leaves-apart x
      leaves-apart (q.searched xs last) = both (arms-apart xs) (leaves-apart last)
      leaves-apart (q.simple x xs last) = both (leaves-apart x) (both (choices-apart xs) (leaves-apart last))
      leaves-apart (q.coalesce x xs) = both (leaves-apart x) (list-apart xs)
      leaves-apart (q.null_if x y) = both (leaves-apart x) (leaves-apart y)
      leaves-apart (q.scalar query) = asked S query
      leaves-apart q.count_all = record { apart = tt }
      leaves-apart (q.aggregate f distinct x) = record { apart = tt }

      addends-apart : (xs : Addends) → Clear (w.addend_leaves fr xs)
      addends-apart q.no_addend = none
      addends-apart (q.one_addend op x xs) = both (leaves-apart x) (addends-apart xs)

      multipliers-apart : (xs : Multipliers) → Clear (w.multiplier_leaves fr xs)
      multipliers-apart q.no_multiplier = none
      multipliers-apart (q.one_multiplier op x xs) = both (leaves-apart x) (multipliers-apart xs)

      pub list-apart : (xs : Values) → Clear (w.list_leaves fr xs)
      list-apart q.no_value = none
      list-apart (q.one_value x xs) = both (leaves-apart x) (list-apart xs)

      arms-apart : (xs : Arms) → Clear (w.arm_leaves fr xs)
      arms-apart q.no_arm = none
      arms-apart (q.one_arm p x xs) = both (test-apart p) (both (leaves-apart x) (arms-apart xs))

      choices-apart : (xs : Choices) → Clear (w.choice_leaves fr xs)
      choices-apart q.no_choice = none
      choices-apart (q.one_choice x y xs) = both (leaves-apart x) (both (leaves-apart y) (choices-apart xs))

      pub test-apart : (p : Test) → Clear (w.test_leaves fr p)
      test-apart (q.all ps) = tests-apart ps
      test-apart (q.any ps) = tests-apart ps
      test-apart (q.negated p) = test-apart p
      test-apart (q.compare x op y) = both (leaves-apart x) (leaves-apart y)
      test-apart (q.quantified x op each query) = both (leaves-apart x) (asked (w.every_or_some each) query)
      test-apart (q.between x y z) = both (leaves-apart x) (both (leaves-apart y) (leaves-apart z))
      test-apart (q.among x xs) = both (leaves-apart x) (list-apart xs)
      test-apart (q.among_rows x query) = both (leaves-apart x) (asked E query)
      test-apart (q.like x y) = both (leaves-apart x) (leaves-apart y)
      test-apart (q.is_null x) = leaves-apart x
      test-apart (q.exists query) = asked E query

      tests-apart : (ps : Tests) → Clear (w.tests_leaves fr ps)
      tests-apart q.no_test = none
      tests-apart (q.one_test p ps) = both (test-apart p) (tests-apart ps)

    module _ (round : fresh n m ≡ true) where
      abbrev T : Slots → Value → tree.Term
      T s x = l.term sources fr m s x

      abbrev R : Slots → Value → Bool
      R s x = reads n (T s x)

      abbrev past : Value → Slots → Slots
      past x s = after (w.leaves fr x) s

      next : (x : Value) (s : Slots) → Cells s → Cells (past x s)
      next x s c = after-clear (w.leaves fr x) s c

      mutual
        pub term-clear : (s : Slots) (x : Value) → Cells s → reads n (l.term sources fr m s x) ≡ false
        term-clear s (q.number i) c = refl
        term-clear s (q.text x) c = refl
        term-clear s (q.null type) c = null_of-clear type
        term-clear s (q.column scope place) c = ref-clear (get_or (get_or (fr ∷ m) scope []) place nothing) (at-clear (get_or (fr ∷ m) scope []) place (frame-clear (fr ∷ m) scope (rw (own, round) refl)))
        term-clear s (q.sum x xs) c = summed-clear (past x s) (T s x) xs (next x s c) (term-clear s x c)
        term-clear s (q.product x xs) c = multiplied-clear (past x s) (T s x) xs (next x s c) (term-clear s x c)
        term-clear s (q.negative x) c = term-clear s x c
        term-clear s (q.searched xs last) c =
            let end = after (w.arm_leaves fr xs) s in
            let type = l.arms_type sources fr m s xs (sources.typed (T end last)) in
            or_from (reads_arms n (l.arms sources fr m type s xs)) (reads n (l.result_as type last (T end last))) (arms-clear type s xs c) (result-clear type last (T end last) (term-clear end last (after-clear (w.arm_leaves fr xs) s c)))
        term-clear s (q.simple x xs last) c =
            let mid = past x s in
            let end = after (w.choice_leaves fr xs) mid in
            let type = l.choices_type sources fr m mid xs (sources.typed (T end last)) in
            or_from (reads_arms n (l.choices sources fr m type mid (T s x) xs)) (reads n (l.result_as type last (T end last))) (choices-clear type mid (T s x) xs (next x s c) (term-clear s x c))
            (result-clear type last (T end last) (term-clear end last (after-clear (w.choice_leaves fr xs) mid (next x s c))))
        term-clear s (q.coalesce x xs) c = coalesced-clear (past x s) (T s x) xs (next x s c) (term-clear s x c)
        term-clear s (q.null_if x y) c =
            case-clear (tree.compare tree.equal (T s x) (T (past x s) y)) (l.null_as (sources.typed (T s x))) (T s x)
            (or_from (R s x) (R (past x s) y) (term-clear s x c) (term-clear (past x s) y (next x s c))) (null-clear (sources.typed (T s x))) (term-clear s x c)
        term-clear s (q.scalar query) c = refl
        term-clear s q.count_all c = ref-clear (first_cell s.cells) (first-clear s.cells c)
        term-clear s (q.aggregate f distinct x) c = ref-clear (first_cell s.cells) (first-clear s.cells c)

        summed-clear : (s : Slots) (x : tree.Term) (xs : Addends) → Cells s → reads n x ≡ false → reads n (l.summed sources fr m s x xs) ≡ false
        summed-clear s x q.no_addend c h = h
        summed-clear s x (q.one_addend op y ys) c h = summed-clear (past y s) (tree.both (l.additive op) x (T s y)) ys (next y s c) (or_from (reads n x) (R s y) h (term-clear s y c))

        multiplied-clear : (s : Slots) (x : tree.Term) (xs : Multipliers) → Cells s → reads n x ≡ false → reads n (l.multiplied sources fr m s x xs) ≡ false
        multiplied-clear s x q.no_multiplier c h = h
        multiplied-clear s x (q.one_multiplier op y ys) c h = multiplied-clear (past y s) (tree.both (l.multiplicative op) x (T s y)) ys (next y s c) (or_from (reads n x) (R s y) h (term-clear s y c))

        arms-clear : (type : SqlType) (s : Slots) (xs : Arms) → Cells s → reads_arms n (l.arms sources fr m type s xs) ≡ false
        arms-clear type s q.no_arm c = refl
        arms-clear type s (q.one_arm p x xs) c =
            let mid = after (w.test_leaves fr p) s in
            let d = after-clear (w.test_leaves fr p) s c in
            or_from (reads_cond n (l.cond sources fr m s p)) (reads n (l.result_as type x (T mid x)) || reads_arms n (l.arms sources fr m type (past x mid) xs)) (cond-clear s p c)
            (or_from (reads n (l.result_as type x (T mid x))) (reads_arms n (l.arms sources fr m type (past x mid) xs)) (result-clear type x (T mid x) (term-clear mid x d)) (arms-clear type (past x mid) xs (next x mid d)))

        choices-clear : (type : SqlType) (s : Slots) (x : tree.Term) (xs : Choices) → Cells s → reads n x ≡ false → reads_arms n (l.choices sources fr m type s x xs) ≡ false
        choices-clear type s x q.no_choice c h = refl
        choices-clear type s x (q.one_choice y z xs) c h =
            let mid = past y s in
            let d = next y s c in
            or_from (reads n x || R s y) (reads n (l.result_as type z (T mid z)) || reads_arms n (l.choices sources fr m type (past z mid) x xs)) (or_from (reads n x) (R s y) h (term-clear s y c))
            (or_from (reads n (l.result_as type z (T mid z))) (reads_arms n (l.choices sources fr m type (past z mid) x xs)) (result-clear type z (T mid z) (term-clear mid z d)) (choices-clear type (past z mid) x xs (next z mid d) h))

        coalesced-clear : (s : Slots) (x : tree.Term) (xs : Values) → Cells s → reads n x ≡ false → reads n (l.coalesced sources fr m s x xs) ≡ false
        coalesced-clear s x q.no_value c h = h
        coalesced-clear s x (q.one_value y ys) c h = case-clear (tree.not (tree.is_null x)) x (l.coalesced sources fr m (past y s) (T s y) ys) h h (coalesced-clear (past y s) (T s y) ys (next y s c) (term-clear s y c))

        pub cond-clear : (s : Slots) (p : Test) → Cells s → reads_cond n (l.cond sources fr m s p) ≡ false
        cond-clear s (q.all ps) c = every-clear s ps c
        cond-clear s (q.any ps) c = some-clear s ps c
        cond-clear s (q.negated p) c = cond-clear s p c
        cond-clear s (q.compare x op y) c = or_from (R s x) (R (past x s) y) (term-clear s x c) (term-clear (past x s) y (next x s c))
        cond-clear s (q.quantified x op each query) c = quantified-clear each (first_quant (past x s).quants) (T s x) (l.sign op) (term-clear s x c)
        cond-clear s (q.between x y z) c =
            let mid = past x s in
            let end = past y mid in
            or_from (R s x || R mid y) (R s x || R end z) (or_from (R s x) (R mid y) (term-clear s x c) (term-clear mid y (next x s c))) (or_from (R s x) (R end z) (term-clear s x c) (term-clear end z (next y mid (next x s c))))
        cond-clear s (q.among x xs) c = equals-clear (past x s) (T s x) xs (next x s c) (term-clear s x c)
        cond-clear s (q.among_rows x query) c = quantified-clear quantifier.Some (first_quant (past x s).quants) (T s x) tree.equal (term-clear s x c)
        cond-clear s (q.like x y) c = or_from (R s x) (R (past x s) y) (term-clear s x c) (term-clear (past x s) y (next x s c))
        cond-clear s (q.is_null x) c = term-clear s x c
        cond-clear s (q.exists query) c = exists-clear (first_quant s.quants)

        every-clear : (s : Slots) (ps : Tests) → Cells s → reads_cond n (l.every sources fr m s ps) ≡ false
        every-clear s q.no_test c = refl
        every-clear s (q.one_test p ps) c = and-clear (after (w.test_leaves fr p) s) (l.cond sources fr m s p) ps (after-clear (w.test_leaves fr p) s c) (cond-clear s p c)

        and-clear : (s : Slots) (d : tree.Cond) (ps : Tests) → Cells s → reads_cond n d ≡ false → reads_cond n (l.and_every sources fr m s d ps) ≡ false
        and-clear s d q.no_test c h = h
        and-clear s d (q.one_test p ps) c h =
            and-clear (after (w.test_leaves fr p) s) (tree.and d (l.cond sources fr m s p)) ps (after-clear (w.test_leaves fr p) s c) (or_from (reads_cond n d) (reads_cond n (l.cond sources fr m s p)) h (cond-clear s p c))

        some-clear : (s : Slots) (ps : Tests) → Cells s → reads_cond n (l.some sources fr m s ps) ≡ false
        some-clear s q.no_test c = refl
        some-clear s (q.one_test p ps) c = or-clear (after (w.test_leaves fr p) s) (l.cond sources fr m s p) ps (after-clear (w.test_leaves fr p) s c) (cond-clear s p c)

        or-clear : (s : Slots) (d : tree.Cond) (ps : Tests) → Cells s → reads_cond n d ≡ false → reads_cond n (l.or_some sources fr m s d ps) ≡ false
        or-clear s d q.no_test c h = h
        or-clear s d (q.one_test p ps) c h =
            or-clear (after (w.test_leaves fr p) s) (tree.or d (l.cond sources fr m s p)) ps (after-clear (w.test_leaves fr p) s c) (or_from (reads_cond n d) (reads_cond n (l.cond sources fr m s p)) h (cond-clear s p c))

        equals-clear : (s : Slots) (x : tree.Term) (xs : Values) → Cells s → reads n x ≡ false → reads_cond n (l.equals_one sources fr m s x xs) ≡ false
        equals-clear s x q.no_value c h = refl
        equals-clear s x (q.one_value y ys) c h = or_equals-clear (past y s) x (tree.compare tree.equal x (T s y)) ys (next y s c) h (or_from (reads n x) (R s y) h (term-clear s y c))

        or_equals-clear : (s : Slots) (x : tree.Term) (d : tree.Cond) (xs : Values) → Cells s → reads n x ≡ false → reads_cond n d ≡ false → reads_cond n (l.or_equals sources fr m s x d xs) ≡ false
        or_equals-clear s x d q.no_value c h k = k
        or_equals-clear s x d (q.one_value y ys) c h k =
            or_equals-clear (past y s) x (tree.or d (tree.compare tree.equal x (T s y))) ys (next y s c) h (or_from (reads_cond n d) (reads n x || R s y) k (or_from (reads n x) (R s y) h (term-clear s y c)))

      pub terms-clear : (s : Slots) (xs : Values) → Cells s → list_any (reads n) (l.terms sources fr m s xs) ≡ false
      terms-clear s q.no_value c = refl
      terms-clear s (q.one_value x xs) c = or_from (R s x) (list_any (reads n) (l.terms sources fr m (past x s) xs)) (term-clear s x c) (terms-clear (past x s) xs (next x s c))
