-- Chains, lists and CASE are those of their parts.
use Rattle.std.proofs.Common.{◌≡◌, List, [], ◌∷◌, ◌++◌, refl, ap, ap₂, sym, ◌∙◌, map, Bool, true, false, Some, None, if◌then◌else◌}
use Rattle.sql_value.specs.declared.order_key.SqlType.{SqlType}
use Rattle.sql_meaning.specs.ResolvedTrees.{Value, Values, Arms, Choices, Test, Tests}
use Rattle.sql_meaning.specs.ResolvedTrees as q
use Rattle.qgm_terms.specs.Terms.{Term, Cond, anded, ored}
use Rattle.qgm_terms.specs.Terms as t
use Rattle.qgm_terms.specs.Shown as shown
use Rattle.qgm_terms.specs.declared.tree.Gx.{Gx}
use Rattle.qgm_translation.specs.Lay.{SharedBox, box_named}
use Rattle.qgm_translation.specs.Leaves.{Slots, after, arm_leaves, choice_leaves, leaves, test_leaves}
use Rattle.qgm_translation.specs.Maps.{Frame, Map}
use Rattle.qgm_translation.specs.Sources.{Sources}
use Rattle.qgm_translation.specs.Terms.{and_every, arms, arms_type, case, choices, choices_type, cond, equals_one, every, is_untyped, null_as, or_equals, or_some, result_as, some, term, terms}
use Rattle.qgm_translation.specs.Terms as w
use Rattle.qgm_translation.specs.Typing.{typed_by}
use Rattle.qgm_build_terms.specs.Parts.{all_of, any_of, arms_in, choices_in, chosen, closed, closed_choice, coalesced, coalesced_onto, conds_in, first_type, last_type, open_term, own_type}
use Rattle.qgm_build_terms.specs.Setting.{told_by}
use Rattle.qgm_build_terms.specs.declared.setting.Named.{Named}

coalesced_last : (xs : List Gx) (y : Gx) → coalesced (shown.terms (xs ++ y ∷ [])) ≡ coalesced_onto (shown.terms xs) (shown.term y)
coalesced_last [] y = refl
coalesced_last (x ∷ []) y = refl
coalesced_last (x ∷ z ∷ xs) y = ap (case (t.not (t.is_null (shown.term x))) (shown.term x)) (coalesced_last (z ∷ xs) y)

pub coalesced_first : (x : Term) (xs : List Gx) (y : Gx) → coalesced (x ∷ shown.terms (xs ++ y ∷ [])) ≡ coalesced_onto (x ∷ shown.terms xs) (shown.term y)
coalesced_first x [] y = refl
coalesced_first x (z ∷ xs) y = ap (case (t.not (t.is_null x)) x) (coalesced_last (z ∷ xs) y)

pub coalesced_more : (xs : List Gx) (x : Gx) (y : Term) → coalesced_onto (shown.terms (xs ++ x ∷ [])) y ≡ coalesced_onto (shown.terms xs) (case (t.not (t.is_null (shown.term x))) (shown.term x) y)
coalesced_more [] x y = refl
coalesced_more (z ∷ xs) x y = ap (case (t.not (t.is_null (shown.term z))) (shown.term z)) (coalesced_more xs x y)

module _ (sources : Sources) (fr : Frame) (m : Map) where
  -- ---- COALESCE and IN

  pub coalesced_whole : (s : Slots) (x : Term) (ys : Values) → w.coalesced sources fr m s x ys ≡ coalesced (x ∷ terms sources fr m s ys)
  coalesced_whole s x q.no_value = refl
  coalesced_whole s x (q.one_value y ys) = ap (case (t.not (t.is_null x)) x) (coalesced_whole (after (leaves fr y) s) (term sources fr m s y) ys)

  or_equals_whole : (s : Slots) (x : Term) (c : Cond) (ys : Values) → or_equals sources fr m s x c ys ≡ ored c (map (t.compare t.equal x) (terms sources fr m s ys))
  or_equals_whole s x c q.no_value = refl
  or_equals_whole s x c (q.one_value y ys) = or_equals_whole (after (leaves fr y) s) x (t.or c (t.compare t.equal x (term sources fr m s y))) ys

  pub equals_whole : (s : Slots) (x : Term) (ys : Values) → equals_one sources fr m s x ys ≡ any_of (map (t.compare t.equal x) (terms sources fr m s ys))
  equals_whole s x q.no_value = refl
  equals_whole s x (q.one_value y ys) = or_equals_whole (after (leaves fr y) s) x (t.compare t.equal x (term sources fr m s y)) ys

  -- ---- AND and OR

  and_whole : (s : Slots) (c : Cond) (ps : Tests) → and_every sources fr m s c ps ≡ anded c (conds_in sources fr m s ps)
  and_whole s c q.no_test = refl
  and_whole s c (q.one_test p ps) = and_whole (after (test_leaves fr p) s) (t.and c (cond sources fr m s p)) ps

  pub every_whole : (s : Slots) (ps : Tests) → every sources fr m s ps ≡ all_of (conds_in sources fr m s ps)
  every_whole s q.no_test = refl
  every_whole s (q.one_test p ps) = and_whole (after (test_leaves fr p) s) (cond sources fr m s p) ps

  or_whole : (s : Slots) (c : Cond) (ps : Tests) → or_some sources fr m s c ps ≡ ored c (conds_in sources fr m s ps)
  or_whole s c q.no_test = refl
  or_whole s c (q.one_test p ps) = or_whole (after (test_leaves fr p) s) (t.or c (cond sources fr m s p)) ps

  pub some_whole : (s : Slots) (ps : Tests) → some sources fr m s ps ≡ any_of (conds_in sources fr m s ps)
  some_whole s q.no_test = refl
  some_whole s (q.one_test p ps) = or_whole (after (test_leaves fr p) s) (cond sources fr m s p) ps

-- ---- CASE

own_open : (rows : List (List SqlType)) (b : Bool) (y : Term) (rest : SqlType) → own_type rows (if b then None else Some y) rest ≡ (if b then rest else typed_by rows y)
own_open rows true y rest = refl
own_open rows false y rest = refl

closed_open : (type : SqlType) (b : Bool) (y : Term) → closed type (if b then None else Some y) ≡ (if b then null_as type else y)
closed_open type true y = refl
closed_open type false y = refl

module _ (named : List Named) (shared : List SharedBox) (rows : List (List SqlType)) (fr : Frame) (m : Map) where
  abbrev here : Sources
  here = record (told_by named) { shared = box_named shared; typed = typed_by rows }

  last_typed : (s : Slots) (x : Value) → last_type rows (open_term x (term here fr m s x)) ≡ typed_by rows (term here fr m s x)
  last_typed s (q.null None) = refl
  last_typed s (q.null (Some type)) = refl
  last_typed s (q.number n) = refl
  last_typed s (q.text x) = refl
  last_typed s (q.column scope place) = refl
  last_typed s (q.sum x xs) = refl
  last_typed s (q.product x xs) = refl
  last_typed s (q.negative x) = refl
  last_typed s (q.searched xs last) = refl
  last_typed s (q.simple x xs last) = refl
  last_typed s (q.coalesce x xs) = refl
  last_typed s (q.null_if x y) = refl
  last_typed s (q.scalar query) = refl
  last_typed s q.count_all = refl
  last_typed s (q.aggregate f distinct x) = refl

  arms_typed : (s : Slots) (xs : Arms) (type : SqlType) → arms_type here fr m s xs type ≡ first_type rows (arms_in here fr m s xs) type
  arms_typed s q.no_arm type = refl
  arms_typed s (q.one_arm p x xs) type =
      let y = term here fr m (after (test_leaves fr p) s) x in
      ap (λ z. if is_untyped x then z else typed_by rows y) (arms_typed (after (leaves fr x) (after (test_leaves fr p) s)) xs type) ∙ sym (own_open rows (is_untyped x) y _)

  arms_closed : (type : SqlType) (s : Slots) (xs : Arms) → arms here fr m type s xs ≡ t.armed (map (closed_choice type) (arms_in here fr m s xs))
  arms_closed type s q.no_arm = refl
  arms_closed type s (q.one_arm p x xs) =
      ap₂ (t.arm (cond here fr m s p)) (sym (closed_open type (is_untyped x) (term here fr m (after (test_leaves fr p) s) x)))
      (arms_closed type (after (leaves fr x) (after (test_leaves fr p) s)) xs)

  choices_typed : (s : Slots) (x : Term) (xs : Choices) (type : SqlType) → choices_type here fr m s xs type ≡ first_type rows (choices_in here fr m s x xs) type
  choices_typed s x q.no_choice type = refl
  choices_typed s x (q.one_choice y z xs) type =
      let w = term here fr m (after (leaves fr y) s) z in
      ap (λ d. if is_untyped z then d else typed_by rows w) (choices_typed (after (leaves fr z) (after (leaves fr y) s)) x xs type) ∙ sym (own_open rows (is_untyped z) w _)

  choices_closed : (type : SqlType) (s : Slots) (x : Term) (xs : Choices)
      → choices here fr m type s x xs ≡ t.armed (map (closed_choice type) (choices_in here fr m s x xs))
  choices_closed type s x q.no_choice = refl
  choices_closed type s x (q.one_choice y z xs) =
      ap₂ (t.arm (t.compare t.equal x (term here fr m s y))) (sym (closed_open type (is_untyped z) (term here fr m (after (leaves fr y) s) z)))
      (choices_closed type (after (leaves fr z) (after (leaves fr y) s)) x xs)

  pub searched_whole : (s : Slots) (xs : Arms) (last : Value)
      → term here fr m s (q.searched xs last)
      ≡ chosen rows (arms_in here fr m s xs) (open_term last (term here fr m (after (arm_leaves fr xs) s) last))
  searched_whole s xs last =
      let end = term here fr m (after (arm_leaves fr xs) s) last in
      let cs = arms_in here fr m s xs in
      let e : arms_type here fr m s xs (typed_by rows end) ≡ first_type rows cs (last_type rows (open_term last end))
      = arms_typed s xs (typed_by rows end) ∙ ap (first_type rows cs) (sym (last_typed (after (arm_leaves fr xs) s) last)) in
      ap (λ type. t.choose (arms here fr m type s xs) (result_as type last end)) e
      ∙ ap₂ t.choose (arms_closed (first_type rows cs (last_type rows (open_term last end))) s xs) (sym (closed_open (first_type rows cs (last_type rows (open_term last end))) (is_untyped last) end))

  pub simple_whole : (s : Slots) (x : Value) (xs : Choices) (last : Value)
      → term here fr m s (q.simple x xs last)
      ≡ chosen rows (choices_in here fr m (after (leaves fr x) s) (term here fr m s x) xs)
      (open_term last (term here fr m (after (choice_leaves fr xs) (after (leaves fr x) s)) last))
  simple_whole s x xs last =
      let mid = after (leaves fr x) s in
      let end = term here fr m (after (choice_leaves fr xs) mid) last in
      let y = term here fr m s x in
      let cs = choices_in here fr m mid y xs in
      let e : choices_type here fr m mid xs (typed_by rows end) ≡ first_type rows cs (last_type rows (open_term last end))
      = choices_typed mid y xs (typed_by rows end) ∙ ap (first_type rows cs) (sym (last_typed (after (choice_leaves fr xs) mid) last)) in
      ap (λ type. t.choose (choices here fr m type mid y xs) (result_as type last end)) e
      ∙ ap₂ t.choose (choices_closed (first_type rows cs (last_type rows (open_term last end))) mid y xs) (sym (closed_open (first_type rows cs (last_type rows (open_term last end))) (is_untyped last) end))

pub ruleset wholes = (coalesced_whole, equals_whole, every_whole, some_whole, searched_whole, simple_whole)
