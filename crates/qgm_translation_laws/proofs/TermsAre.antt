-- The expressions and conditions of a block have, in its box, the types that they have in the query.
use Rattle.std.proofs.Common.{◌≡◌, ℕ, ◌||◌, not, cond, Bool, true, false, List, [], ◌∷◌, ◌++◌, get_or, Option, Some, None, refl, ap, sym, ◌∙◌, subst}
use Rattle.shared_types.specs.declared.compare.CmpOp.{CmpOp}
use Rattle.shared_types.specs.declared.compare.CmpOp.TheVariants.{Eq, Ne, Lt, Le, Gt, Ge}
use Rattle.sql_ast.specs.declared.word.AdditiveOp.{AdditiveOp}
use Rattle.sql_ast.specs.declared.word.AdditiveOp.TheVariants.{Plus, Minus, Concat}
use Rattle.sql_ast.specs.declared.word.MultiplicativeOp.{MultiplicativeOp}
use Rattle.sql_ast.specs.declared.word.MultiplicativeOp.TheVariants.{Times, Divide}
use Rattle.sql_ast.specs.declared.word.Quantifier.{Quantifier}
use Rattle.sql_ast.specs.declared.word.Quantifier.TheVariants as quantifier
use Rattle.sql_value.specs.declared.order_key.SqlType.{SqlType}
use Rattle.sql_value.specs.declared.order_key.SqlType.TheVariants.{Integer, Varchar}
use Rattle.sql_meaning.specs.ResolvedTrees.{Value, Addends, Multipliers, Values, Arms, Choices, Test, Tests, Query}
use Rattle.sql_meaning.specs.ResolvedTrees as q
use Rattle.qgm_core.specs.declared.kinds.QuantKind.{QuantKind}
use Rattle.qgm_core.specs.declared.kinds.QuantKind.TheVariants as binding
use Rattle.qgm_terms.specs.Terms as tree
use Rattle.qgm_terms.specs.Terms.{Term, Cond}
use Rattle.qgm_terms.specs.declared.named.QuantNode.{QuantNode}
use Rattle.qgm_terms.specs.declared.named.QuantNode.TheVariants as node
use Rattle.qgm_translation.specs.Leaves as w
use Rattle.qgm_translation.specs.Leaves.{Leaf, Slots, after, first_cell, first_quant, rest_of}
use Rattle.qgm_translation.specs.Maps.{Frame, Map, Ref, column, none_counted, nothing, ref_term}
use Rattle.qgm_translation.specs.Shown.{Either}
use Rattle.qgm_translation.specs.Sources.{Sources}
use Rattle.qgm_translation.specs.Terms as l
use Rattle.qgm_translation_laws.specs.Typed as typed
use Rattle.qgm_translation_laws.specs.Typed.{FoldsTo, IsOf, IsOfTypes, Scope, added, arms_typed, choices_typed}
use Rattle.qgm_translation.specs.Typing.{op_type as op_of}
use Rattle.qgm_translation_laws.proofs.Parts.{ArmsAre, Fit, Heads, Is, Signed}

abbrev of_some : SqlType → Option SqlType → SqlType
of_some a None = a
of_some a (Some b) = b

pub same-some : (a b : SqlType) → Some a ≡ Some b → a ≡ b
same-some a b h = ap (of_some a) h

given : (X : Type 0) (b : Bool) → Either b (Unit {0}) X → b ≡ false → X
given X true h e = absurd (cc e)
given X false h e = h

pick-type : (b : Bool) (y z a : SqlType) → (b ≡ true → y ≡ a) → (b ≡ false → z ≡ a) → cond b y z ≡ a
pick-type true y z a f g = f refl
pick-type false y z a f g = g refl

untyped-last : (a b : Bool) → (a || not b) ≡ true → a ≡ false → b ≡ false
untyped-last true b h e = absurd (cc e)
untyped-last false true h e = absurd (cc h)
untyped-last false false h e = refl

plain-sign : (op : CmpOp) (a : SqlType) → Signed (l.sign op) a
plain-sign Eq a = tt
plain-sign Ne a = tt
plain-sign Lt a = tt
plain-sign Le a = tt
plain-sign Gt a = tt
plain-sign Ge a = tt

added-is : (op : AdditiveOp) (a : SqlType) → a ≡ added op → a ≡ op_of (l.additive op)
added-is Plus a h = h
added-is Minus a h = h
added-is Concat a h = h

times-is : (op : MultiplicativeOp) → Integer ≡ op_of (l.multiplicative op)
times-is Times = refl
times-is Divide = refl

-- what is seen has a type
abbrev pub RefIs : (ℕ → ℕ → SqlType → Type 0) → Ref → SqlType → Type 0
RefIs K nothing a = a ≡ Integer
RefIs K none_counted a = a ≡ Integer
RefIs K (column n k) a = K n k a

-- each column that may be named has its type where it is seen
abbrev pub MapIs : (ℕ → ℕ → SqlType → Type 0) → Map → List Scope → Type 0
MapIs K m scopes = (scope place : ℕ) (a : SqlType) → get_or (get_or scopes scope []) place None ≡ Some a → RefIs K (get_or (get_or m scope []) place nothing) a

-- K: column k of q is of a type, and K0 in maps; N: a node stands there; J: column 1 of a quantifier, within some or every of it, is of a type
module _ (kinds : List ℕ → List SqlType) (K0 K : ℕ → ℕ → SqlType → Type 0) (lift : (n k : ℕ) (a : SqlType) → K0 n k a → K n k a) (N : QuantNode → Type 0) (J : ℕ → SqlType → Type 0) where
  abbrev I : Term → SqlType → Type 0
  I x a = Is K N J x a

  pub ref-is : (r : Ref) (a : SqlType) → RefIs K0 r a → Is K N J (ref_term r) a
  ref-is nothing a h = h
  ref-is none_counted a h = h
  ref-is (column n k) a h = lift n k a h

  -- what stands for leaves has their types, over groups of such rows; m: what is seen round the block
  module _ (m : Map) (rows : Option Scope) where
    abbrev pub OneOf : ℕ → Frame → Query → Type 0
    OneOf n f query = (scopes : List Scope) → MapIs K0 (f ∷ m) scopes → (a : SqlType) → IsOfTypes kinds scopes query (a ∷ []) → J n a

    abbrev pub Asked : QuantKind → ℕ → Frame → Query → Type 0
    Asked binding.F n f query = Unit {0}
    Asked binding.E n f query = N (node.Some n) × OneOf n f query
    Asked binding.A n f query = N (node.Every n) × OneOf n f query
    Asked binding.S n f query = N (node.Scalar n) × OneOf n f query

    abbrev pub Held : List Leaf → Slots → Type 0
    Held [] sl = Unit {0}
    Held (w.sub f kind query ∷ ls) sl = Asked kind (first_quant sl.quants) f query × Held ls (record sl { quants = rest_of sl.quants })
    Held (w.fold f distinct x ∷ ls) sl =
        ((row : Scope) → rows ≡ Some row → (u a : SqlType) → IsOf kinds None (row ∷ []) x u → FoldsTo f u a → RefIs K0 (first_cell sl.cells) a)
        × Held ls (record sl { cells = rest_of sl.cells })
    Held (w.count ∷ ls) sl = ((row : Scope) → rows ≡ Some row → RefIs K0 (first_cell sl.cells) Integer) × Held ls (record sl { cells = rest_of sl.cells })

    pub held-append : (xs ys : List Leaf) (sl : Slots) → Held (xs ++ ys) sl → Held xs sl × Held ys (after xs sl)
    held-append [] ys sl h = (tt, h)
    held-append (w.sub f kind query ∷ xs) ys sl h = let r = held-append xs ys (record sl { quants = rest_of sl.quants }) h.1 in ((h.0, r.0), r.1)
    held-append (w.fold f distinct x ∷ xs) ys sl h = let r = held-append xs ys (record sl { cells = rest_of sl.cells }) h.1 in ((h.0, r.0), r.1)
    held-append (w.count ∷ xs) ys sl h = let r = held-append xs ys (record sl { cells = rest_of sl.cells }) h.1 in ((h.0, r.0), r.1)

  null-is : (type a : SqlType) → type ≡ a → I (l.null_as type) a
  null-is Integer a h = sym h
  null-is Varchar a h = sym h

  null_of-is : (type : Option SqlType) (a : SqlType) → type ≡ Some a → I (l.null_of type) a
  null_of-is None a h = absurd (cc h)
  null_of-is (Some type) a h = null-is type a (same-some type a h)

  either-is : (b : Bool) (type a : SqlType) (y : Term) → type ≡ a → (b ≡ false → I y a) → I (cond b (l.null_as type) y) a
  either-is true type a y h f = null-is type a h
  either-is false type a y h f = f refl

  result-is : (type a : SqlType) (x : Value) (y : Term) → type ≡ a → (l.is_untyped x ≡ false → I y a) → I (l.result_as type x y) a
  result-is type a x y h f = either-is (l.is_untyped x) type a y h f

  module _ (sources : Sources) (told : (x : Term) (a : SqlType) → Is K N J x a → sources.typed x ≡ a) (fr : Frame) (m : Map) (rows : Option Scope) (scopes : List Scope) (seen : MapIs K0 (fr ∷ m) scopes) where
    abbrev T : Slots → Value → Term
    T sl x = l.term sources fr m sl x

    abbrev C : Slots → Test → Cond
    C sl p = l.cond sources fr m sl p

    abbrev H : List Leaf → Slots → Type 0
    H ls sl = Held m rows ls sl

    abbrev lv : Value → List Leaf
    lv x = w.leaves fr x

    abbrev Of : Value → SqlType → Type 0
    Of x a = IsOf kinds rows scopes x a

    compared-is : (op : CmpOp) (x y : Term) (a : SqlType) → I x a → I y a → Fit K N J (tree.compare (l.sign op) x y)
    compared-is op x y a h k = (a, (h, k, plain-sign op a))

    quantified-is : (each : Quantifier) (n : ℕ) (op : CmpOp) (x : Term) (a : SqlType) (query : Query) → I x a → Asked m rows (w.every_or_some each) n fr query → IsOfTypes kinds scopes query (a ∷ [])
        → Fit K N J (l.quantified each n (tree.compare (l.sign op) x (tree.col n 1)))
    quantified-is quantifier.Any n op x a query h g k = (g.0, (a, (h, refl, g.1 scopes seen a k, plain-sign op a)))
    quantified-is quantifier.Some n op x a query h g k = (g.0, (a, (h, refl, g.1 scopes seen a k, plain-sign op a)))
    quantified-is quantifier.All n op x a query h g k = (g.0, (a, (h, refl, g.1 scopes seen a k, plain-sign op a)))

    mutual
      pub term-is : (sl : Slots) (x : Value) (a : SqlType) → Held m rows (w.leaves fr x) sl → IsOf kinds rows scopes x a → Is K N J (l.term sources fr m sl x) a
      term-is sl (q.number n) a h e = e
      term-is sl (q.text x) a h e = e
      term-is sl (q.null type) a h e = null_of-is type a e
      term-is sl (q.column scope place) a h e = ref-is (get_or (get_or (fr ∷ m) scope []) place nothing) a (seen scope place a e)
      term-is sl (q.sum x xs) a h e =
          let p = held-append m rows (lv x) (w.addend_leaves fr xs) sl h in
          summed-is (after (lv x) sl) (T sl x) xs a p.1 (term-is sl x a p.0 e.0) e.1
      term-is sl (q.product x xs) a h e =
          let p = held-append m rows (lv x) (w.multiplier_leaves fr xs) sl h in
          subst (λ (z : SqlType). I (l.multiplied sources fr m (after (lv x) sl) (T sl x) xs) z) (sym e.0) (multiplied-is (after (lv x) sl) (T sl x) xs p.1 (term-is sl x Integer p.0 e.1) e.2)
      term-is sl (q.negative x) a h e = (e.0, term-is sl x Integer h e.1)
      term-is sl (q.searched xs last) a h e =
          let p = held-append m rows (w.arm_leaves fr xs) (lv last) sl h in
          let end = T (after (w.arm_leaves fr xs) sl) last in
          let type = l.arms_type sources fr m sl xs (sources.typed end) in
          let is : l.is_untyped last ≡ false → I end a = λ b. term-is (after (w.arm_leaves fr xs) sl) last a p.1 (given (Of last a) (l.is_untyped last) e.1 b) in
          let same : type ≡ a = arms-type sl xs a (sources.typed end) p.0 e.0 (λ b. told end a (is (untyped-last (arms_typed xs) (l.is_untyped last) e.2 b))) in
          (arms-are type sl xs a same p.0 e.0, result-is type a last end same is)
      term-is sl (q.simple x xs last) a h e =
          let p = held-append m rows (lv x) (w.choice_leaves fr xs ++ lv last) sl h in
          let mid = after (lv x) sl in
          let r = held-append m rows (w.choice_leaves fr xs) (lv last) mid p.1 in
          let end = T (after (w.choice_leaves fr xs) mid) last in
          let type = l.choices_type sources fr m mid xs (sources.typed end) in
          let is : l.is_untyped last ≡ false → I end a = λ b. term-is (after (w.choice_leaves fr xs) mid) last a r.1 (given (Of last a) (l.is_untyped last) e.1 b) in
          let same : type ≡ a = choices-type mid xs e.0.0 a (sources.typed end) r.0 e.0.1.1 (λ b. told end a (is (untyped-last (choices_typed xs) (l.is_untyped last) e.2 b))) in
          (choices-are type mid (T sl x) xs e.0.0 a same r.0 (term-is sl x e.0.0 p.0 e.0.1.0) e.0.1.1, result-is type a last end same is)
      term-is sl (q.coalesce x xs) a h e =
          let p = held-append m rows (lv x) (w.list_leaves fr xs) sl h in
          coalesced-is (after (lv x) sl) (T sl x) xs a p.1 (term-is sl x a p.0 e.0) e.1
      term-is sl (q.null_if x y) a h e =
          let p = held-append m rows (lv x) (lv y) sl h in
          let is = term-is sl x a p.0 e.0 in
          (((a, (is, term-is (after (lv x) sl) y a p.1 e.1, tt)), null-is (sources.typed (T sl x)) a (told (T sl x) a is), tt), is)
      term-is sl (q.scalar query) a h e = (h.0.0, h.0.1 scopes seen a e)
      term-is sl q.count_all a h e = ref-is (first_cell sl.cells) a (subst (λ (z : SqlType). RefIs K0 (first_cell sl.cells) z) (sym e.1) (h.0 e.0.0 e.0.1))
      term-is sl (q.aggregate f distinct x) a h e = ref-is (first_cell sl.cells) a (h.0 e.0 e.1.0 e.1.1.0 a e.1.1.1.0 e.1.1.1.1)

      summed-is : (sl : Slots) (x : Term) (xs : Addends) (a : SqlType) → H (w.addend_leaves fr xs) sl → I x a → typed.AddendsAre kinds rows scopes xs a → I (l.summed sources fr m sl x xs) a
      summed-is sl x q.no_addend a h i e = i
      summed-is sl x (q.one_addend op y ys) a h i e =
          let p = held-append m rows (lv y) (w.addend_leaves fr ys) sl h in
          summed-is (after (lv y) sl) (tree.both (l.additive op) x (T sl y)) ys a p.1 (added-is op a e.0, i, term-is sl y a p.0 e.1) e.2

      multiplied-is : (sl : Slots) (x : Term) (xs : Multipliers) → H (w.multiplier_leaves fr xs) sl → I x Integer → typed.MultipliersAre kinds rows scopes xs → I (l.multiplied sources fr m sl x xs) Integer
      multiplied-is sl x q.no_multiplier h i e = i
      multiplied-is sl x (q.one_multiplier op y ys) h i e =
          let p = held-append m rows (lv y) (w.multiplier_leaves fr ys) sl h in
          multiplied-is (after (lv y) sl) (tree.both (l.multiplicative op) x (T sl y)) ys p.1 (times-is op, i, term-is sl y Integer p.0 e.0) e.1

      arms-type : (sl : Slots) (xs : Arms) (a fall : SqlType) → H (w.arm_leaves fr xs) sl → typed.ArmsAre kinds rows scopes xs a → (arms_typed xs ≡ false → fall ≡ a) → l.arms_type sources fr m sl xs fall ≡ a
      arms-type sl q.no_arm a fall h e f = f refl
      arms-type sl (q.one_arm p x xs) a fall h e f =
          let r = held-append m rows (w.test_leaves fr p) (lv x ++ w.arm_leaves fr xs) sl h in
          let mid = after (w.test_leaves fr p) sl in
          let s = held-append m rows (lv x) (w.arm_leaves fr xs) mid r.1 in
          pick-type (l.is_untyped x) (l.arms_type sources fr m (after (lv x) mid) xs fall) (sources.typed (T mid x)) a
          (λ b. arms-type (after (lv x) mid) xs a fall s.1 e.2 (λ g. f (ap (λ z. not z || arms_typed xs) b ∙ g)))
          (λ b. told (T mid x) a (term-is mid x a s.0 (given (Of x a) (l.is_untyped x) e.1 b)))

      choices-type : (sl : Slots) (xs : Choices) (u a fall : SqlType) → H (w.choice_leaves fr xs) sl → typed.ChoicesAre kinds rows scopes u xs a → (choices_typed xs ≡ false → fall ≡ a) → l.choices_type sources fr m sl xs fall ≡ a
      choices-type sl q.no_choice u a fall h e f = f refl
      choices-type sl (q.one_choice y z xs) u a fall h e f =
          let r = held-append m rows (lv y) (lv z ++ w.choice_leaves fr xs) sl h in
          let mid = after (lv y) sl in
          let s = held-append m rows (lv z) (w.choice_leaves fr xs) mid r.1 in
          pick-type (l.is_untyped z) (l.choices_type sources fr m (after (lv z) mid) xs fall) (sources.typed (T mid z)) a
          (λ b. choices-type (after (lv z) mid) xs u a fall s.1 e.2 (λ g. f (ap (λ o. not o || choices_typed xs) b ∙ g)))
          (λ b. told (T mid z) a (term-is mid z a s.0 (given (Of z a) (l.is_untyped z) e.1 b)))

      arms-are : (type : SqlType) (sl : Slots) (xs : Arms) (a : SqlType) → type ≡ a → H (w.arm_leaves fr xs) sl → typed.ArmsAre kinds rows scopes xs a → ArmsAre K N J (l.arms sources fr m type sl xs) a
      arms-are type sl q.no_arm a same h e = tt
      arms-are type sl (q.one_arm p x xs) a same h e =
          let r = held-append m rows (w.test_leaves fr p) (lv x ++ w.arm_leaves fr xs) sl h in
          let mid = after (w.test_leaves fr p) sl in
          let s = held-append m rows (lv x) (w.arm_leaves fr xs) mid r.1 in
          (cond-is sl p r.0 e.0, result-is type a x (T mid x) same (λ b. term-is mid x a s.0 (given (Of x a) (l.is_untyped x) e.1 b)), arms-are type (after (lv x) mid) xs a same s.1 e.2)

      choices-are : (type : SqlType) (sl : Slots) (x : Term) (xs : Choices) (u a : SqlType) → type ≡ a → H (w.choice_leaves fr xs) sl → I x u → typed.ChoicesAre kinds rows scopes u xs a → ArmsAre K N J (l.choices sources fr m type sl x xs) a
      choices-are type sl x q.no_choice u a same h i e = tt
      choices-are type sl x (q.one_choice y z xs) u a same h i e =
          let r = held-append m rows (lv y) (lv z ++ w.choice_leaves fr xs) sl h in
          let mid = after (lv y) sl in
          let s = held-append m rows (lv z) (w.choice_leaves fr xs) mid r.1 in
          ((u, (i, term-is sl y u r.0 e.0, tt)), result-is type a z (T mid z) same (λ b. term-is mid z a s.0 (given (Of z a) (l.is_untyped z) e.1 b)), choices-are type (after (lv z) mid) x xs u a same s.1 i e.2)

      coalesced-is : (sl : Slots) (x : Term) (xs : Values) (a : SqlType) → H (w.list_leaves fr xs) sl → I x a → typed.AllAre kinds rows scopes xs a → I (l.coalesced sources fr m sl x xs) a
      coalesced-is sl x q.no_value a h i e = i
      coalesced-is sl x (q.one_value y ys) a h i e =
          let p = held-append m rows (lv y) (w.list_leaves fr ys) sl h in
          (((a, i), i, tt), coalesced-is (after (lv y) sl) (T sl y) ys a p.1 (term-is sl y a p.0 e.0) e.1)

      pub cond-is : (sl : Slots) (p : Test) → Held m rows (w.test_leaves fr p) sl → typed.IsTyped kinds rows scopes p → Fit K N J (l.cond sources fr m sl p)
      cond-is sl (q.all ps) h e = every-is sl ps h e
      cond-is sl (q.any ps) h e = some-is sl ps h e
      cond-is sl (q.negated p) h e = cond-is sl p h e
      cond-is sl (q.compare x op y) h e =
          let p = held-append m rows (lv x) (lv y) sl h in
          compared-is op (T sl x) (T (after (lv x) sl) y) e.0 (term-is sl x e.0 p.0 e.1.0) (term-is (after (lv x) sl) y e.0 p.1 e.1.1)
      cond-is sl (q.quantified x op each query) h e =
          let p = held-append m rows (lv x) (w.sub fr (w.every_or_some each) query ∷ []) sl h in
          quantified-is each (first_quant (after (lv x) sl).quants) op (T sl x) e.0 query (term-is sl x e.0 p.0 e.1.0) p.1.0 e.1.1
      cond-is sl (q.between x y z) h e =
          let p = held-append m rows (lv x) (lv y ++ lv z) sl h in
          let r = held-append m rows (lv y) (lv z) (after (lv x) sl) p.1 in
          let i = term-is sl x e.0 p.0 e.1.0 in
          ((e.0, (i, term-is (after (lv x) sl) y e.0 r.0 e.1.1, tt)), (e.0, (i, term-is (after (lv y) (after (lv x) sl)) z e.0 r.1 e.1.2, tt)))
      cond-is sl (q.among x xs) h e =
          let p = held-append m rows (lv x) (w.list_leaves fr xs) sl h in
          equals-are (after (lv x) sl) (T sl x) xs e.0 p.1 (term-is sl x e.0 p.0 e.1.0) e.1.1
      cond-is sl (q.among_rows x query) h e =
          let p = held-append m rows (lv x) (w.sub fr binding.E query ∷ []) sl h in
          (p.1.0.0, (e.0, (term-is sl x e.0 p.0 e.1.0, refl, p.1.0.1 scopes seen e.0 e.1.1, tt)))
      cond-is sl (q.like x y) h e =
          let p = held-append m rows (lv x) (lv y) sl h in
          (Varchar, (term-is sl x Varchar p.0 e.0, term-is (after (lv x) sl) y Varchar p.1 e.1, refl))
      cond-is sl (q.is_null x) h e = (e.0, term-is sl x e.0 h e.1)
      cond-is sl (q.exists query) h e = (h.0.0, tt)

      every-is : (sl : Slots) (ps : Tests) → H (w.tests_leaves fr ps) sl → typed.AreTyped kinds rows scopes ps → Fit K N J (l.every sources fr m sl ps)
      every-is sl q.no_test h e = tt
      every-is sl (q.one_test p ps) h e =
          let r = held-append m rows (w.test_leaves fr p) (w.tests_leaves fr ps) sl h in
          and_every-is (after (w.test_leaves fr p) sl) (C sl p) ps r.1 (cond-is sl p r.0 e.0) e.1

      and_every-is : (sl : Slots) (d : Cond) (ps : Tests) → H (w.tests_leaves fr ps) sl → Fit K N J d → typed.AreTyped kinds rows scopes ps → Fit K N J (l.and_every sources fr m sl d ps)
      and_every-is sl d q.no_test h i e = i
      and_every-is sl d (q.one_test p ps) h i e =
          let r = held-append m rows (w.test_leaves fr p) (w.tests_leaves fr ps) sl h in
          and_every-is (after (w.test_leaves fr p) sl) (tree.and d (C sl p)) ps r.1 (i, cond-is sl p r.0 e.0) e.1

      some-is : (sl : Slots) (ps : Tests) → H (w.tests_leaves fr ps) sl → typed.AreTyped kinds rows scopes ps → Fit K N J (l.some sources fr m sl ps)
      some-is sl q.no_test h e = tt
      some-is sl (q.one_test p ps) h e =
          let r = held-append m rows (w.test_leaves fr p) (w.tests_leaves fr ps) sl h in
          or_some-is (after (w.test_leaves fr p) sl) (C sl p) ps r.1 (cond-is sl p r.0 e.0) e.1

      or_some-is : (sl : Slots) (d : Cond) (ps : Tests) → H (w.tests_leaves fr ps) sl → Fit K N J d → typed.AreTyped kinds rows scopes ps → Fit K N J (l.or_some sources fr m sl d ps)
      or_some-is sl d q.no_test h i e = i
      or_some-is sl d (q.one_test p ps) h i e =
          let r = held-append m rows (w.test_leaves fr p) (w.tests_leaves fr ps) sl h in
          or_some-is (after (w.test_leaves fr p) sl) (tree.or d (C sl p)) ps r.1 (i, cond-is sl p r.0 e.0) e.1

      equals-are : (sl : Slots) (x : Term) (xs : Values) (a : SqlType) → H (w.list_leaves fr xs) sl → I x a → typed.AllAre kinds rows scopes xs a → Fit K N J (l.equals_one sources fr m sl x xs)
      equals-are sl x q.no_value a h i e = tt
      equals-are sl x (q.one_value y ys) a h i e =
          let p = held-append m rows (lv y) (w.list_leaves fr ys) sl h in
          or_equals-are (after (lv y) sl) x (tree.compare tree.equal x (T sl y)) ys a p.1 i (a, (i, term-is sl y a p.0 e.0, tt)) e.1

      or_equals-are : (sl : Slots) (x : Term) (d : Cond) (xs : Values) (a : SqlType) → H (w.list_leaves fr xs) sl → I x a → Fit K N J d → typed.AllAre kinds rows scopes xs a → Fit K N J (l.or_equals sources fr m sl x d xs)
      or_equals-are sl x d q.no_value a h i k e = k
      or_equals-are sl x d (q.one_value y ys) a h i k e =
          let p = held-append m rows (lv y) (w.list_leaves fr ys) sl h in
          or_equals-are (after (lv y) sl) x (tree.or d (tree.compare tree.equal x (T sl y))) ys a p.1 i (k, (a, (i, term-is sl y a p.0 e.0, tt))) e.1

    pub terms-are : (sl : Slots) (xs : Values) (types : List SqlType) → Held m rows (w.list_leaves fr xs) sl → typed.AreOf kinds rows scopes xs types → Heads K N J (l.terms sources fr m sl xs) types
    terms-are sl q.no_value types h e = e
    terms-are sl (q.one_value x xs) [] h e = absurd e
    terms-are sl (q.one_value x xs) (a ∷ types) h e =
        let p = held-append m rows (lv x) (w.list_leaves fr xs) sl h in
        (term-is sl x a p.0 e.0, terms-are (after (lv x) sl) xs types p.1 e.1)
