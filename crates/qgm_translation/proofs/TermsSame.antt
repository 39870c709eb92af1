-- Expressions and conditions are the same where the types of the columns that they go by are.
use Rattle.std.proofs.Common.{◌≡◌, ◌<◌, ℕ, List, [], ◌∷◌, ◌++◌, map, get_or, pos, cond, refl, ap, ap₂, ◌∙◌}
use Rattle.sql_value.specs.declared.order_key.SqlType.{SqlType}
use Rattle.sql_meaning.specs.ResolvedTrees.{Value, Addends, Multipliers, Values, Arms, Choices, Test, Tests, From, Froms}
use Rattle.sql_meaning.specs.ResolvedTrees as q
use Rattle.qgm_terms.specs.Terms.{Term, Cond}
use Rattle.qgm_terms.specs.Terms as t
use Rattle.qgm_translation.specs.Lays.{TypedUnder, Under, UnderIn}
use Rattle.qgm_translation.specs.Leaves.{Leaf, Slots, after, arm_leaves, choice_leaves, count, first_quant, fold, leaves, sub, test_leaves}
use Rattle.qgm_translation.specs.Maps.{Frame, Map, nothing, ref_term}
use Rattle.qgm_translation.specs.Shown.{argument_terms, no_slots, padded, rows_list}
use Rattle.qgm_translation.specs.Sources.{Sources}
use Rattle.qgm_translation.specs.Terms as l
use Rattle.qgm_translation.proofs.TermsUnder.{SlotsUnder, after-under, no_slots-under, term-under}

abbrev if_untyped : Value → SqlType → SqlType → SqlType
if_untyped x a b = cond (l.is_untyped x) a b

module _ (one other : Sources) (n : ℕ) (some : 0 < n) (agree : (x : Term) → TypedUnder n x → one.typed x ≡ other.typed x) (fr : Frame) (m : Map) (u : UnderIn n fr) (v : Under n m) where
  typed-of : (s : Slots) → SlotsUnder n s → (x : Value) → l.term one fr m s x ≡ l.term other fr m s x → one.typed (l.term one fr m s x) ≡ other.typed (l.term other fr m s x)
  typed-of s h x e = ap one.typed e ∙ agree (l.term other fr m s x) (term-under other n some fr m u v s h x)

  mutual
    pub term-same : (s : Slots) → SlotsUnder n s → (x : Value) → l.term one fr m s x ≡ l.term other fr m s x
    term-same s h (q.number k) = refl
    term-same s h (q.text x) = refl
    term-same s h (q.null type) = refl
    term-same s h (q.column scope place) = refl
    term-same s h (q.sum x xs) = ap (λ z. l.summed one fr m (after (leaves fr x) s) z xs) (term-same s h x) ∙ summed-same (after (leaves fr x) s) (after-under n (leaves fr x) s h) (l.term other fr m s x) xs
    term-same s h (q.product x xs) = ap (λ z. l.multiplied one fr m (after (leaves fr x) s) z xs) (term-same s h x) ∙ multiplied-same (after (leaves fr x) s) (after-under n (leaves fr x) s h) (l.term other fr m s x) xs
    term-same s h (q.negative x) = ap t.minus_of (term-same s h x)
    term-same s h (q.searched xs last) =
        let end = after (arm_leaves fr xs) s in
        let under = after-under n (arm_leaves fr xs) s h in
        let e = term-same end under last in
        let type = ap (l.arms_type one fr m s xs) (typed-of end under last e) ∙ arms_type-same s h xs (other.typed (l.term other fr m end last)) in
        let to : SqlType = l.arms_type other fr m s xs (other.typed (l.term other fr m end last)) in
        ap₂ t.choose (ap (λ z. l.arms one fr m z s xs) type ∙ arms-same to s h xs) (ap₂ (λ z x. l.result_as z last x) type e)
    term-same s h (q.simple x xs last) =
        let mid = after (leaves fr x) s in
        let low = after-under n (leaves fr x) s h in
        let end = after (choice_leaves fr xs) mid in
        let under = after-under n (choice_leaves fr xs) mid low in
        let e = term-same end under last in
        let type = ap (l.choices_type one fr m mid xs) (typed-of end under last e) ∙ choices_type-same mid low xs (other.typed (l.term other fr m end last)) in
        let to : SqlType = l.choices_type other fr m mid xs (other.typed (l.term other fr m end last)) in
        ap₂ t.choose (ap₂ (λ z y. l.choices one fr m z mid y xs) type (term-same s h x) ∙ choices-same to mid low (l.term other fr m s x) xs) (ap₂ (λ z x. l.result_as z last x) type e)
    term-same s h (q.coalesce x xs) = ap (λ z. l.coalesced one fr m (after (leaves fr x) s) z xs) (term-same s h x) ∙ coalesced-same (after (leaves fr x) s) (after-under n (leaves fr x) s h) (l.term other fr m s x) xs
    term-same s h (q.null_if x y) =
        let e = term-same s h x in
        ap₂ (λ p z. l.case p z (l.term one fr m s x)) (ap₂ (t.compare t.equal) e (term-same (after (leaves fr x) s) (after-under n (leaves fr x) s h) y)) (ap l.null_as (typed-of s h x e))
        ∙ ap (l.case (t.compare t.equal (l.term other fr m s x) (l.term other fr m (after (leaves fr x) s) y)) (l.null_as (other.typed (l.term other fr m s x)))) e
    term-same s h (q.scalar query) = refl
    term-same s h q.count_all = refl
    term-same s h (q.aggregate f distinct x) = refl

    summed-same : (s : Slots) → SlotsUnder n s → (x : Term) (xs : Addends) → l.summed one fr m s x xs ≡ l.summed other fr m s x xs
    summed-same s h x q.no_addend = refl
    summed-same s h x (q.one_addend op y ys) =
        ap (λ z. l.summed one fr m (after (leaves fr y) s) (t.both (l.additive op) x z) ys) (term-same s h y)
        ∙ summed-same (after (leaves fr y) s) (after-under n (leaves fr y) s h) (t.both (l.additive op) x (l.term other fr m s y)) ys

    multiplied-same : (s : Slots) → SlotsUnder n s → (x : Term) (xs : Multipliers) → l.multiplied one fr m s x xs ≡ l.multiplied other fr m s x xs
    multiplied-same s h x q.no_multiplier = refl
    multiplied-same s h x (q.one_multiplier op y ys) =
        ap (λ z. l.multiplied one fr m (after (leaves fr y) s) (t.both (l.multiplicative op) x z) ys) (term-same s h y)
        ∙ multiplied-same (after (leaves fr y) s) (after-under n (leaves fr y) s h) (t.both (l.multiplicative op) x (l.term other fr m s y)) ys

    arms_type-same : (s : Slots) → SlotsUnder n s → (xs : Arms) (type : SqlType) → l.arms_type one fr m s xs type ≡ l.arms_type other fr m s xs type
    arms_type-same s h q.no_arm type = refl
    arms_type-same s h (q.one_arm p x xs) type =
        let mid = after (test_leaves fr p) s in
        let low = after-under n (test_leaves fr p) s h in
        ap₂ (λ a b. if_untyped x a b) (arms_type-same (after (leaves fr x) mid) (after-under n (leaves fr x) mid low) xs type) (typed-of mid low x (term-same mid low x))

    choices_type-same : (s : Slots) → SlotsUnder n s → (xs : Choices) (type : SqlType) → l.choices_type one fr m s xs type ≡ l.choices_type other fr m s xs type
    choices_type-same s h q.no_choice type = refl
    choices_type-same s h (q.one_choice y z xs) type =
        let mid = after (leaves fr y) s in
        let low = after-under n (leaves fr y) s h in
        ap₂ (λ a b. if_untyped z a b) (choices_type-same (after (leaves fr z) mid) (after-under n (leaves fr z) mid low) xs type) (typed-of mid low z (term-same mid low z))

    arms-same : (type : SqlType) (s : Slots) → SlotsUnder n s → (xs : Arms) → l.arms one fr m type s xs ≡ l.arms other fr m type s xs
    arms-same type s h q.no_arm = refl
    arms-same type s h (q.one_arm p x xs) =
        let mid = after (test_leaves fr p) s in
        let low = after-under n (test_leaves fr p) s h in
        ap₂ (λ c e. t.arm c (l.result_as type x e) (l.arms one fr m type (after (leaves fr x) mid) xs)) (cond-same s h p) (term-same mid low x)
        ∙ ap (t.arm (l.cond other fr m s p) (l.result_as type x (l.term other fr m mid x))) (arms-same type (after (leaves fr x) mid) (after-under n (leaves fr x) mid low) xs)

    choices-same : (type : SqlType) (s : Slots) → SlotsUnder n s → (x : Term) (xs : Choices) → l.choices one fr m type s x xs ≡ l.choices other fr m type s x xs
    choices-same type s h x q.no_choice = refl
    choices-same type s h x (q.one_choice y z xs) =
        let mid = after (leaves fr y) s in
        let low = after-under n (leaves fr y) s h in
        ap₂ (λ c e. t.arm (t.compare t.equal x c) (l.result_as type z e) (l.choices one fr m type (after (leaves fr z) mid) x xs)) (term-same s h y) (term-same mid low z)
        ∙ ap (t.arm (t.compare t.equal x (l.term other fr m s y)) (l.result_as type z (l.term other fr m mid z))) (choices-same type (after (leaves fr z) mid) (after-under n (leaves fr z) mid low) x xs)

    coalesced-same : (s : Slots) → SlotsUnder n s → (x : Term) (xs : Values) → l.coalesced one fr m s x xs ≡ l.coalesced other fr m s x xs
    coalesced-same s h x q.no_value = refl
    coalesced-same s h x (q.one_value y ys) =
        ap (l.case (t.not (t.is_null x)) x) (ap (λ z. l.coalesced one fr m (after (leaves fr y) s) z ys) (term-same s h y)
        ∙ coalesced-same (after (leaves fr y) s) (after-under n (leaves fr y) s h) (l.term other fr m s y) ys)

    pub cond-same : (s : Slots) → SlotsUnder n s → (p : Test) → l.cond one fr m s p ≡ l.cond other fr m s p
    cond-same s h (q.all ps) = every-same s h ps
    cond-same s h (q.any ps) = some-same s h ps
    cond-same s h (q.negated p) = ap t.not (cond-same s h p)
    cond-same s h (q.compare x op y) = ap₂ (t.compare (l.sign op)) (term-same s h x) (term-same (after (leaves fr x) s) (after-under n (leaves fr x) s h) y)
    cond-same s h (q.quantified x op each query) =
        let p = first_quant (after (leaves fr x) s).quants in
        ap (λ z. l.quantified each p (t.compare (l.sign op) z (t.col p 1))) (term-same s h x)
    cond-same s h (q.between x y z) =
        let mid = after (leaves fr x) s in
        let low = after-under n (leaves fr x) s h in
        ap₂ t.and (ap₂ (t.compare t.at_least) (term-same s h x) (term-same mid low y)) (ap₂ (t.compare t.at_most) (term-same s h x) (term-same (after (leaves fr y) mid) (after-under n (leaves fr y) mid low) z))
    cond-same s h (q.among x xs) = ap (λ z. l.equals_one one fr m (after (leaves fr x) s) z xs) (term-same s h x) ∙ equals_one-same (after (leaves fr x) s) (after-under n (leaves fr x) s h) (l.term other fr m s x) xs
    cond-same s h (q.among_rows x query) =
        let p = first_quant (after (leaves fr x) s).quants in
        ap (λ z. t.some p (t.compare t.equal z (t.col p 1))) (term-same s h x)
    cond-same s h (q.like x y) = ap₂ (t.compare t.like) (term-same s h x) (term-same (after (leaves fr x) s) (after-under n (leaves fr x) s h) y)
    cond-same s h (q.is_null x) = ap t.is_null (term-same s h x)
    cond-same s h (q.exists query) = refl

    every-same : (s : Slots) → SlotsUnder n s → (ps : Tests) → l.every one fr m s ps ≡ l.every other fr m s ps
    every-same s h q.no_test = refl
    every-same s h (q.one_test p ps) = ap (λ c. l.and_every one fr m (after (test_leaves fr p) s) c ps) (cond-same s h p) ∙ and_every-same (after (test_leaves fr p) s) (after-under n (test_leaves fr p) s h) (l.cond other fr m s p) ps

    and_every-same : (s : Slots) → SlotsUnder n s → (c : Cond) (ps : Tests) → l.and_every one fr m s c ps ≡ l.and_every other fr m s c ps
    and_every-same s h c q.no_test = refl
    and_every-same s h c (q.one_test p ps) =
        ap (λ d. l.and_every one fr m (after (test_leaves fr p) s) (t.and c d) ps) (cond-same s h p) ∙ and_every-same (after (test_leaves fr p) s) (after-under n (test_leaves fr p) s h) (t.and c (l.cond other fr m s p)) ps

    some-same : (s : Slots) → SlotsUnder n s → (ps : Tests) → l.some one fr m s ps ≡ l.some other fr m s ps
    some-same s h q.no_test = refl
    some-same s h (q.one_test p ps) = ap (λ c. l.or_some one fr m (after (test_leaves fr p) s) c ps) (cond-same s h p) ∙ or_some-same (after (test_leaves fr p) s) (after-under n (test_leaves fr p) s h) (l.cond other fr m s p) ps

    or_some-same : (s : Slots) → SlotsUnder n s → (c : Cond) (ps : Tests) → l.or_some one fr m s c ps ≡ l.or_some other fr m s c ps
    or_some-same s h c q.no_test = refl
    or_some-same s h c (q.one_test p ps) =
        ap (λ d. l.or_some one fr m (after (test_leaves fr p) s) (t.or c d) ps) (cond-same s h p) ∙ or_some-same (after (test_leaves fr p) s) (after-under n (test_leaves fr p) s h) (t.or c (l.cond other fr m s p)) ps

    equals_one-same : (s : Slots) → SlotsUnder n s → (x : Term) (xs : Values) → l.equals_one one fr m s x xs ≡ l.equals_one other fr m s x xs
    equals_one-same s h x q.no_value = refl
    equals_one-same s h x (q.one_value y ys) =
        ap (λ z. l.or_equals one fr m (after (leaves fr y) s) x (t.compare t.equal x z) ys) (term-same s h y)
        ∙ or_equals-same (after (leaves fr y) s) (after-under n (leaves fr y) s h) x (t.compare t.equal x (l.term other fr m s y)) ys

    or_equals-same : (s : Slots) → SlotsUnder n s → (x : Term) (c : Cond) (xs : Values) → l.or_equals one fr m s x c xs ≡ l.or_equals other fr m s x c xs
    or_equals-same s h x c q.no_value = refl
    or_equals-same s h x c (q.one_value y ys) =
        ap (λ z. l.or_equals one fr m (after (leaves fr y) s) x (t.or c (t.compare t.equal x z)) ys) (term-same s h y)
        ∙ or_equals-same (after (leaves fr y) s) (after-under n (leaves fr y) s h) x (t.or c (t.compare t.equal x (l.term other fr m s y))) ys

  pub terms-same : (s : Slots) → SlotsUnder n s → (xs : Values) → l.terms one fr m s xs ≡ l.terms other fr m s xs
  terms-same s h q.no_value = refl
  terms-same s h (q.one_value x xs) = ap₂ (λ z zs. z ∷ zs) (term-same s h x) (terms-same (after (leaves fr x) s) (after-under n (leaves fr x) s h) xs)

-- the arguments of aggregates
module _ (one other : Sources) (n : ℕ) (some : 0 < n) (agree : (x : Term) → TypedUnder n x → one.typed x ≡ other.typed x) (fr : Frame) (u : UnderIn n fr) where
  arguments-same : (ls : List Leaf) → argument_terms one fr ls ≡ argument_terms other fr ls
  arguments-same [] = refl
  arguments-same (sub f kind x ∷ ls) = arguments-same ls
  arguments-same (fold f d x ∷ ls) = ap₂ (λ z zs. z ∷ zs) (term-same one other n some agree fr [] u tt no_slots (no_slots-under n) x) (arguments-same ls)
  arguments-same (count ∷ ls) = arguments-same ls

  pub rows-same : (places : List ℕ) (ls : List Leaf) (s : Slots) → rows_list one places ls fr s ≡ rows_list other places ls fr s
  rows-same places ls s = ap (λ ts. padded (t.int (pos 1)) (map (λ place. ref_term (get_or fr place nothing)) places ++ ts)) (arguments-same ls)
