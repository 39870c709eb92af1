-- Expressions of two boxes that show one thing differ in numbers alone.
use Rattle.std.proofs.Common.{◌≡◌, ℕ, zero, suc, cond, Bool, true, false, List, [], ◌∷◌, ◌++◌, get_or, Option, Some, None, refl, ap₂, sym, subst}
use Rattle.sql_ast.specs.declared.word.Quantifier.{Quantifier}
use Rattle.sql_ast.specs.declared.word.Quantifier.TheVariants as quantifier
use Rattle.sql_ast.specs.declared.word.SetFunction.{SetFunction}
use Rattle.sql_value.specs.declared.order_key.SqlType.{SqlType}
use Rattle.sql_value.specs.declared.order_key.SqlType.TheVariants.{Integer, Varchar}
use Rattle.sql_meaning.specs.ResolvedTrees.{Value, Addends, Multipliers, Values, Arms, Choices, Test, Tests, Query}
use Rattle.sql_meaning.specs.ResolvedTrees as q
use Rattle.qgm_core.specs.declared.kinds.QuantKind.{QuantKind}
use Rattle.qgm_core.specs.declared.kinds.QuantKind.TheVariants as binding
use Rattle.qgm_terms.specs.Terms as tree
use Rattle.qgm_terms.specs.Terms.{Term, Cond}
use Rattle.qgm_terms.specs.declared.tree.Op.{Op}
use Rattle.sql_catalog.proofs.EachLaws.{Each, each_left, each_right}
use Rattle.qgm_translation.specs.Leaves as w
use Rattle.qgm_translation.specs.Leaves.{Leaf, Slots, after, first_cell, first_quant, rest_of}
use Rattle.qgm_translation.specs.Maps.{Frame, Map, Ref, column, none_counted, nothing, ref_term}
use Rattle.qgm_translation.specs.Sources.{Sources}
use Rattle.qgm_translation.specs.Terms as l
use Rattle.graph_alike.specs.Alike.{Like, LikeArms, LikeCond, LikeConds, LikeHeads, like_always, like_and, like_arm, like_both, like_choose, like_col, like_compare, like_every, like_int, like_is_null, like_minus, like_no_arm, like_not, like_null_int, like_null_text, like_or, like_scalar, like_some, like_text}

-- a property of expressions, of the arms of a CASE and of conditions, which their parts have too
pub record Parted (T : Term → Type 0) (S : tree.Arms → Type 0) (C : Cond → Type 0) : Type 0 where
  pub null : T tree.null_int
  pub both : (op : Op) (x y : Term) → T (tree.both op x y) → T x × T y
  pub minus : (x : Term) → T (tree.minus_of x) → T x
  pub choose : (s : tree.Arms) (x : Term) → T (tree.choose s x) → S s × T x
  pub arm : (c : Cond) (x : Term) (s : tree.Arms) → S (tree.arm c x s) → C c × T x × S s
  pub always : C tree.always
  pub compare : (sign : tree.Sign) (x y : Term) → C (tree.compare sign x y) → T x × T y
  pub is_null : (x : Term) → C (tree.is_null x) → T x
  pub and : (c d : Cond) → C (tree.and c d) → C c × C d
  pub anded : (c d : Cond) → C c → C d → C (tree.and c d)
  pub or : (c d : Cond) → C (tree.or c d) → C c × C d
  pub not : (c : Cond) → C (tree.not c) → C c
  pub some : (q : ℕ) (sign : tree.Sign) (x y : Term) → C (tree.some q (tree.compare sign x y)) → T x
  pub every : (q : ℕ) (sign : tree.Sign) (x y : Term) → C (tree.every q (tree.compare sign x y)) → T x

-- a condition has the property where those have it into which it is split
pub unsplit : (T : Term → Type 0) (S : tree.Arms → Type 0) (C : Cond → Type 0) → Parted T S C → (c : Cond) → Each C (l.split c) → C c
unsplit T S C parted tree.always h = parted.always
unsplit T S C parted (tree.and c d) h = parted.anded c d (unsplit T S C parted c (each_left C (l.split c) (l.split d) h)) (unsplit T S C parted d (each_right C (l.split c) (l.split d) h))
unsplit T S C parted (tree.compare sign x y) h = h.0
unsplit T S C parted (tree.is_null x) h = h.0
unsplit T S C parted (tree.or c d) h = h.0
unsplit T S C parted (tree.not c) h = h.0
unsplit T S C parted (tree.some q c) h = h.0
unsplit T S C parted (tree.every q c) h = h.0

module _ (R : ℕ → ℕ → Type 0) where
  abbrev pub LikeRef : Ref → Ref → Type 0
  LikeRef nothing nothing = Unit {0}
  LikeRef nothing none_counted = ⊥
  LikeRef nothing (column p k) = ⊥
  LikeRef none_counted nothing = ⊥
  LikeRef none_counted none_counted = Unit {0}
  LikeRef none_counted (column p k) = ⊥
  LikeRef (column q i) nothing = ⊥
  LikeRef (column q i) none_counted = ⊥
  LikeRef (column q i) (column p k) = R q p × (i ≡ k)

  abbrev pub LikeFrame : Frame → Frame → Type 0
  LikeFrame [] [] = Unit {0}
  LikeFrame [] (r ∷ fs) = ⊥
  LikeFrame (r ∷ fr) [] = ⊥
  LikeFrame (r ∷ fr) (p ∷ fs) = LikeRef r p × LikeFrame fr fs

  abbrev pub LikeMap : Map → Map → Type 0
  LikeMap [] [] = Unit {0}
  LikeMap [] (f ∷ n) = ⊥
  LikeMap (f ∷ m) [] = ⊥
  LikeMap (f ∷ m) (g ∷ n) = LikeFrame f g × LikeMap m n

  pub ref-like : (r p : Ref) → LikeRef r p → Like R (ref_term r) (ref_term p)
  ref-like nothing nothing h = like_null_int
  ref-like nothing none_counted h = absurd h
  ref-like nothing (column p k) h = absurd h
  ref-like none_counted nothing h = absurd h
  ref-like none_counted none_counted h = like_int _
  ref-like none_counted (column p k) h = absurd h
  ref-like (column q i) nothing h = absurd h
  ref-like (column q i) none_counted h = absurd h
  ref-like (column q i) (column p k) h = subst (λ z. Like R (tree.col q i) (tree.col p z)) h.1 (like_col q p i h.0)

  pub at-like : (f g : Frame) (i : ℕ) → LikeFrame f g → LikeRef (get_or f i nothing) (get_or g i nothing)
  at-like [] [] i h = tt
  at-like [] (r ∷ g) i h = absurd h
  at-like (r ∷ f) [] i h = absurd h
  at-like (r ∷ f) (p ∷ g) zero h = h.0
  at-like (r ∷ f) (p ∷ g) (suc i) h = at-like f g i h.1

  pub frame-at : (m n : Map) (i : ℕ) → LikeMap m n → LikeFrame (get_or m i []) (get_or n i [])
  frame-at [] [] i h = tt
  frame-at [] (g ∷ n) i h = absurd h
  frame-at (f ∷ m) [] i h = absurd h
  frame-at (f ∷ m) (g ∷ n) zero h = h.0
  frame-at (f ∷ m) (g ∷ n) (suc i) h = frame-at m n i h.1

  -- leaves of one text, in two boxes
  pub data LikeLeaves : List Leaf → List Leaf → Type 0 where
    no_leaf : LikeLeaves [] []
    like_sub : (f g : Frame) (kind : QuantKind) (x : Query) (ls ms : List Leaf) → LikeFrame f g → LikeLeaves ls ms → LikeLeaves (w.sub f kind x ∷ ls) (w.sub g kind x ∷ ms)
    like_aggregate : (f : SetFunction) (d : Bool) (x : Value) (ls ms : List Leaf) → LikeLeaves ls ms → LikeLeaves (w.fold f d x ∷ ls) (w.fold f d x ∷ ms)
    like_counted : (ls ms : List Leaf) → LikeLeaves ls ms → LikeLeaves (w.count ∷ ls) (w.count ∷ ms)

  pub leaves-both : {a b c d : List Leaf} → LikeLeaves a c → LikeLeaves b d → LikeLeaves (a ++ b) (c ++ d)
  leaves-both no_leaf k = k
  leaves-both {a} {b} {c} {d} (like_sub f g kind x ls ms e h) k = like_sub f g kind x (ls ++ b) (ms ++ d) e (leaves-both h k)
  leaves-both {a} {b} {c} {d} (like_aggregate f e x ls ms h) k = like_aggregate f e x (ls ++ b) (ms ++ d) (leaves-both h k)
  leaves-both {a} {b} {c} {d} (like_counted ls ms h) k = like_counted (ls ++ b) (ms ++ d) (leaves-both h k)

  -- what stands for leaves is alike
  abbrev pub Served : List Leaf → Slots → Slots → Type 0
  Served [] s t = Unit {0}
  Served (w.sub f kind x ∷ ls) s t = R (first_quant s.quants) (first_quant t.quants) × Served ls (record s { quants = rest_of s.quants }) (record t { quants = rest_of t.quants })
  Served (w.fold f d x ∷ ls) s t = LikeRef (first_cell s.cells) (first_cell t.cells) × Served ls (record s { cells = rest_of s.cells }) (record t { cells = rest_of t.cells })
  Served (w.count ∷ ls) s t = LikeRef (first_cell s.cells) (first_cell t.cells) × Served ls (record s { cells = rest_of s.cells }) (record t { cells = rest_of t.cells })

  pub served-both : (xs zs ys : List Leaf) (s t : Slots) → LikeLeaves xs zs → Served (xs ++ ys) s t → Served xs s t × Served ys (after xs s) (after zs t)
  served-both xs zs ys s t no_leaf h = (tt, h)
  served-both xs zs ys s t (like_sub f g kind x ls ms e k) h =
      let r = served-both ls ms ys (record s { quants = rest_of s.quants }) (record t { quants = rest_of t.quants }) k h.1 in ((h.0, r.0), r.1)
  served-both xs zs ys s t (like_aggregate f e x ls ms k) h = let r = served-both ls ms ys (record s { cells = rest_of s.cells }) (record t { cells = rest_of t.cells }) k h.1 in ((h.0, r.0), r.1)
  served-both xs zs ys s t (like_counted ls ms k) h = let r = served-both ls ms ys (record s { cells = rest_of s.cells }) (record t { cells = rest_of t.cells }) k h.1 in ((h.0, r.0), r.1)

  module _ (f g : Frame) (own : LikeFrame f g) where
    asked : (kind : QuantKind) (x : Query) → LikeLeaves (w.sub f kind x ∷ []) (w.sub g kind x ∷ [])
    asked kind x = like_sub f g kind x [] [] own no_leaf

    mutual
      pub leaves-like : (x : Value) → LikeLeaves (w.leaves f x) (w.leaves g x)
      leaves-like (q.number i) = no_leaf
      leaves-like (q.text x) = no_leaf
      leaves-like (q.null type) = no_leaf
      leaves-like (q.column scope place) = no_leaf
      leaves-like (q.sum x xs) = leaves-both (leaves-like x) (addends-like xs)
      leaves-like (q.product x xs) = leaves-both (leaves-like x) (multipliers-like xs)
      leaves-like (q.negative x) = leaves-like x
      leaves-like (q.searched xs last) = leaves-both (arms-like xs) (leaves-like last)
      leaves-like (q.simple x xs last) = leaves-both (leaves-like x) (leaves-both (choices-like xs) (leaves-like last))
      leaves-like (q.coalesce x xs) = leaves-both (leaves-like x) (list-like xs)
      leaves-like (q.null_if x y) = leaves-both (leaves-like x) (leaves-like y)
      leaves-like (q.scalar query) = asked binding.S query
      leaves-like q.count_all = like_counted [] [] no_leaf
      leaves-like (q.aggregate k d x) = like_aggregate k d x [] [] no_leaf

      addends-like : (xs : Addends) → LikeLeaves (w.addend_leaves f xs) (w.addend_leaves g xs)
      addends-like q.no_addend = no_leaf
      addends-like (q.one_addend op x xs) = leaves-both (leaves-like x) (addends-like xs)

      multipliers-like : (xs : Multipliers) → LikeLeaves (w.multiplier_leaves f xs) (w.multiplier_leaves g xs)
      multipliers-like q.no_multiplier = no_leaf
      multipliers-like (q.one_multiplier op x xs) = leaves-both (leaves-like x) (multipliers-like xs)

      pub list-like : (xs : Values) → LikeLeaves (w.list_leaves f xs) (w.list_leaves g xs)
      list-like q.no_value = no_leaf
      list-like (q.one_value x xs) = leaves-both (leaves-like x) (list-like xs)

      arms-like : (xs : Arms) → LikeLeaves (w.arm_leaves f xs) (w.arm_leaves g xs)
      arms-like q.no_arm = no_leaf
      arms-like (q.one_arm p x xs) = leaves-both (test-like p) (leaves-both (leaves-like x) (arms-like xs))

      choices-like : (xs : Choices) → LikeLeaves (w.choice_leaves f xs) (w.choice_leaves g xs)
      choices-like q.no_choice = no_leaf
      choices-like (q.one_choice x y xs) = leaves-both (leaves-like x) (leaves-both (leaves-like y) (choices-like xs))

      pub test-like : (p : Test) → LikeLeaves (w.test_leaves f p) (w.test_leaves g p)
      test-like (q.all ps) = tests-like ps
      test-like (q.any ps) = tests-like ps
      test-like (q.negated p) = test-like p
      test-like (q.compare x op y) = leaves-both (leaves-like x) (leaves-like y)
      test-like (q.quantified x op each query) = leaves-both (leaves-like x) (asked (w.every_or_some each) query)
      test-like (q.between x y z) = leaves-both (leaves-like x) (leaves-both (leaves-like y) (leaves-like z))
      test-like (q.among x xs) = leaves-both (leaves-like x) (list-like xs)
      test-like (q.among_rows x query) = leaves-both (leaves-like x) (asked binding.E query)
      test-like (q.like x y) = leaves-both (leaves-like x) (leaves-like y)
      test-like (q.is_null x) = leaves-like x
      test-like (q.exists query) = asked binding.E query

      tests-like : (ps : Tests) → LikeLeaves (w.tests_leaves f ps) (w.tests_leaves g ps)
      tests-like q.no_test = no_leaf
      tests-like (q.one_test p ps) = leaves-both (test-like p) (tests-like ps)

  -- ---- expressions and conditions

  null-like : (a b : SqlType) → a ≡ b → Like R (l.null_as a) (l.null_as b)
  null-like a b h = subst (λ z. Like R (l.null_as a) (l.null_as z)) h (itself a)
    where
      itself : (a : SqlType) → Like R (l.null_as a) (l.null_as a)
      itself Integer = like_null_int
      itself Varchar = like_null_text

  null_of-like : (type : Option SqlType) → Like R (l.null_of type) (l.null_of type)
  null_of-like None = like_null_int
  null_of-like (Some type) = null-like type type refl

  either-like : (b : Bool) (a c : SqlType) (x y : Term) → a ≡ c → Like R x y → Like R (cond b (l.null_as a) x) (cond b (l.null_as c) y)
  either-like true a c x y e h = null-like a c e
  either-like false a c x y e h = h

  result-like : (v : Value) (a c : SqlType) (x y : Term) → a ≡ c → Like R x y → Like R (l.result_as a v x) (l.result_as c v y)
  result-like v a c x y e h = either-like (l.is_untyped v) a c x y e h

  case-like : (p r : Cond) (a b c d : Term) → LikeCond R p r → Like R a c → Like R b d → Like R (l.case p a b) (l.case r c d)
  case-like p r a b c d h i j = like_choose (tree.arm p a tree.no_arm) (tree.arm r c tree.no_arm) b d (like_arm p r a c tree.no_arm tree.no_arm h i like_no_arm) j

  quantified-like : (each : Quantifier) (q p : ℕ) (a c : Cond) → R q p → LikeCond R a c → LikeCond R (l.quantified each q a) (l.quantified each p c)
  quantified-like quantifier.Any q p a c h k = like_some q p a c h k
  quantified-like quantifier.Some q p a c h k = like_some q p a c h k
  quantified-like quantifier.All q p a c h k = like_every q p a c h k

  pub conds-both : (a b c d : List Cond) → LikeConds R a c → LikeConds R b d → LikeConds R (a ++ b) (c ++ d)
  conds-both [] b [] d h k = k
  conds-both [] b (y ∷ c) d h k = absurd h
  conds-both (x ∷ a) b [] d h k = absurd h
  conds-both (x ∷ a) b (y ∷ c) d h k = (h.0, conds-both a b c d h.1 k)

  pub split-like : (a c : Cond) → LikeCond R a c → LikeConds R (l.split a) (l.split c)
  split-like a c like_always = tt
  split-like a c (like_compare g x y i j h k) = (like_compare g x y i j h k, tt)
  split-like a c (like_is_null x y h) = (like_is_null x y h, tt)
  split-like a c (like_and x y i j h k) = conds-both (l.split x) (l.split y) (l.split i) (l.split j) (split-like x i h) (split-like y j k)
  split-like a c (like_or x y i j h k) = (like_or x y i j h k, tt)
  split-like a c (like_not x y h) = (like_not x y h, tt)
  split-like a c (like_some q p x y r h) = (like_some q p x y r h, tt)
  split-like a c (like_every q p x y r h) = (like_every q p x y r h, tt)

  -- a result of a CASE has a property if it stands there with it, and else it is NULL
  untyped-null : (s : Sources) (f : Frame) (m : Map) (sl : Slots) (x : Value) → l.is_untyped x ≡ true → l.term s f m sl x ≡ tree.null_int
  untyped-null s f m sl (q.null None) h = refl
  untyped-null s f m sl (q.null (Some type)) h = absurd (cc h)
  untyped-null s f m sl (q.number i) h = absurd (cc h)
  untyped-null s f m sl (q.text x) h = absurd (cc h)
  untyped-null s f m sl (q.column scope place) h = absurd (cc h)
  untyped-null s f m sl (q.sum x xs) h = absurd (cc h)
  untyped-null s f m sl (q.product x xs) h = absurd (cc h)
  untyped-null s f m sl (q.negative x) h = absurd (cc h)
  untyped-null s f m sl (q.searched xs last) h = absurd (cc h)
  untyped-null s f m sl (q.simple x xs last) h = absurd (cc h)
  untyped-null s f m sl (q.coalesce x xs) h = absurd (cc h)
  untyped-null s f m sl (q.null_if x y) h = absurd (cc h)
  untyped-null s f m sl (q.scalar query) h = absurd (cc h)
  untyped-null s f m sl q.count_all h = absurd (cc h)
  untyped-null s f m sl (q.aggregate k d x) h = absurd (cc h)

  -- T, S, C: a property of expressions, of the arms of a CASE and of conditions, which their parts have too; sources tell one type of alike expressions that have it
  module _ (s z : Sources) (T : Term → Type 0) (S : tree.Arms → Type 0) (C : Cond → Type 0) (parted : Parted T S C) (told : (x y : Term) → T x → Like R x y → s.typed x ≡ z.typed y) (f g : Frame) (m n : Map) (own : LikeFrame f g) (round : LikeMap m n) where
    abbrev A : Slots → Value → Term
    A sl x = l.term s f m sl x

    abbrev B : Slots → Value → Term
    B tl x = l.term z g n tl x

    map-like : LikeMap (f ∷ m) (g ∷ n)
    map-like = (own, round)

    -- a first part and the rest
    part : (x : Value) (ls : List Leaf) (sl tl : Slots) → Served (w.leaves f x ++ ls) sl tl → Served (w.leaves f x) sl tl × Served ls (after (w.leaves f x) sl) (after (w.leaves g x) tl)
    part x ls sl tl h = served-both (w.leaves f x) (w.leaves g x) ls sl tl (leaves-like f g own x) h

    part-test : (p : Test) (ls : List Leaf) (sl tl : Slots) → Served (w.test_leaves f p ++ ls) sl tl → Served (w.test_leaves f p) sl tl × Served ls (after (w.test_leaves f p) sl) (after (w.test_leaves g p) tl)
    part-test p ls sl tl h = served-both (w.test_leaves f p) (w.test_leaves g p) ls sl tl (test-like f g own p) h

    -- what a result is has the property
    result-has : (x : Value) (a : SqlType) (sl : Slots) → T (l.result_as a x (A sl x)) → T (A sl x)
    result-has x a sl = go (l.is_untyped x) refl
      where
        go : (b : Bool) → l.is_untyped x ≡ b → T (cond b (l.null_as a) (A sl x)) → T (A sl x)
        go true e h = subst T (sym (untyped-null s f m sl x e)) parted.null
        go false e h = h

    quantified-has : (each : Quantifier) (u : ℕ) (sign : tree.Sign) (x y : Term) → C (l.quantified each u (tree.compare sign x y)) → T x
    quantified-has quantifier.Any u sign x y h = parted.some u sign x y h
    quantified-has quantifier.Some u sign x y h = parted.some u sign x y h
    quantified-has quantifier.All u sign x y h = parted.every u sign x y h

    mutual
      pub term-like : (sl tl : Slots) (x : Value) → Served (w.leaves f x) sl tl → T (l.term s f m sl x) → Like R (l.term s f m sl x) (l.term z g n tl x)
      term-like sl tl (q.number i) h j = like_int i
      term-like sl tl (q.text x) h j = like_text x
      term-like sl tl (q.null type) h j = null_of-like type
      term-like sl tl (q.column scope place) h j =
          ref-like (get_or (get_or (f ∷ m) scope []) place nothing) (get_or (get_or (g ∷ n) scope []) place nothing)
          (at-like (get_or (f ∷ m) scope []) (get_or (g ∷ n) scope []) place (frame-at (f ∷ m) (g ∷ n) scope map-like))
      term-like sl tl (q.sum x xs) h j = let p = part x (w.addend_leaves f xs) sl tl h in summed-like (after (w.leaves f x) sl) (after (w.leaves g x) tl) (A sl x) (B tl x) xs p.1 (term-like sl tl x p.0) j
      term-like sl tl (q.product x xs) h j = let p = part x (w.multiplier_leaves f xs) sl tl h in multiplied-like (after (w.leaves f x) sl) (after (w.leaves g x) tl) (A sl x) (B tl x) xs p.1 (term-like sl tl x p.0) j
      term-like sl tl (q.negative x) h j = like_minus (A sl x) (B tl x) (term-like sl tl x h (parted.minus (A sl x) j))
      term-like sl tl (q.searched xs last) h j =
          let p = served-both (w.arm_leaves f xs) (w.arm_leaves g xs) (w.leaves f last) sl tl (arms-like f g own xs) h in
          let end = A (after (w.arm_leaves f xs) sl) last in
          let stop = B (after (w.arm_leaves g xs) tl) last in
          let a = l.arms_type s f m sl xs (s.typed end) in
          let c = l.arms_type z g n tl xs (z.typed stop) in
          let r = parted.choose (l.arms s f m a sl xs) (l.result_as a last end) j in
          let i : T end = result-has last a (after (w.arm_leaves f xs) sl) r.1 in
          let same = term-like (after (w.arm_leaves f xs) sl) (after (w.arm_leaves g xs) tl) last p.1 i in
          let e : a ≡ c = arms-type a sl tl xs (s.typed end) (z.typed stop) p.0 r.0 (told end stop i same) in
          like_choose (l.arms s f m a sl xs) (l.arms z g n c tl xs) (l.result_as a last end) (l.result_as c last stop) (arms-same a c sl tl xs e p.0 r.0) (result-like last a c end stop e same)
      term-like sl tl (q.simple x xs last) h j =
          let p = part x (w.choice_leaves f xs ++ w.leaves f last) sl tl h in
          let sm = after (w.leaves f x) sl in
          let tm = after (w.leaves g x) tl in
          let r = served-both (w.choice_leaves f xs) (w.choice_leaves g xs) (w.leaves f last) sm tm (choices-like f g own xs) p.1 in
          let end = A (after (w.choice_leaves f xs) sm) last in
          let stop = B (after (w.choice_leaves g xs) tm) last in
          let a = l.choices_type s f m sm xs (s.typed end) in
          let c = l.choices_type z g n tm xs (z.typed stop) in
          let k = parted.choose (l.choices s f m a sm (A sl x) xs) (l.result_as a last end) j in
          let i : T end = result-has last a (after (w.choice_leaves f xs) sm) k.1 in
          let same = term-like (after (w.choice_leaves f xs) sm) (after (w.choice_leaves g xs) tm) last r.1 i in
          let e : a ≡ c = choices-type a sm tm (A sl x) xs (s.typed end) (z.typed stop) r.0 k.0 (told end stop i same) in
          like_choose (l.choices s f m a sm (A sl x) xs) (l.choices z g n c tm (B tl x) xs) (l.result_as a last end) (l.result_as c last stop) (choices-same a c sm tm (A sl x) (B tl x) xs e r.0 (term-like sl tl x p.0) k.0)
          (result-like last a c end stop e same)
      term-like sl tl (q.coalesce x xs) h j = let p = part x (w.list_leaves f xs) sl tl h in coalesced-like (after (w.leaves f x) sl) (after (w.leaves g x) tl) (A sl x) (B tl x) xs p.1 (term-like sl tl x p.0) j
      term-like sl tl (q.null_if x y) h j =
          let p = part x (w.leaves f y) sl tl h in
          let sm = after (w.leaves f x) sl in
          let tm = after (w.leaves g x) tl in
          let c = tree.compare tree.equal (A sl x) (A sm y) in
          let none = l.null_as (s.typed (A sl x)) in
          let r = parted.choose (tree.arm c none tree.no_arm) (A sl x) j in
          let k = parted.compare tree.equal (A sl x) (A sm y) (parted.arm c none tree.no_arm r.0).0 in
          let i = term-like sl tl x p.0 r.1 in
          case-like c (tree.compare tree.equal (B tl x) (B tm y)) none (A sl x) (l.null_as (z.typed (B tl x))) (B tl x)
          (like_compare tree.equal (A sl x) (A sm y) (B tl x) (B tm y) i (term-like sm tm y p.1 k.1)) (null-like (s.typed (A sl x)) (z.typed (B tl x)) (told (A sl x) (B tl x) r.1 i)) i
      term-like sl tl (q.scalar query) h j = like_scalar (first_quant sl.quants) (first_quant tl.quants) h.0
      term-like sl tl q.count_all h j = ref-like (first_cell sl.cells) (first_cell tl.cells) h.0
      term-like sl tl (q.aggregate k d x) h j = ref-like (first_cell sl.cells) (first_cell tl.cells) h.0

      summed-like : (sl tl : Slots) (x y : Term) (xs : Addends) → Served (w.addend_leaves f xs) sl tl → (T x → Like R x y) → T (l.summed s f m sl x xs) → Like R (l.summed s f m sl x xs) (l.summed z g n tl y xs)
      summed-like sl tl x y q.no_addend h i j = i j
      summed-like sl tl x y (q.one_addend op v xs) h i j =
          let p = part v (w.addend_leaves f xs) sl tl h in
          summed-like (after (w.leaves f v) sl) (after (w.leaves g v) tl) (tree.both (l.additive op) x (A sl v)) (tree.both (l.additive op) y (B tl v)) xs p.1
          (λ k. let r = parted.both (l.additive op) x (A sl v) k in like_both (l.additive op) x (A sl v) y (B tl v) (i r.0) (term-like sl tl v p.0 r.1)) j

      multiplied-like : (sl tl : Slots) (x y : Term) (xs : Multipliers) → Served (w.multiplier_leaves f xs) sl tl → (T x → Like R x y) → T (l.multiplied s f m sl x xs) → Like R (l.multiplied s f m sl x xs) (l.multiplied z g n tl y xs)
      multiplied-like sl tl x y q.no_multiplier h i j = i j
      multiplied-like sl tl x y (q.one_multiplier op v xs) h i j =
          let p = part v (w.multiplier_leaves f xs) sl tl h in
          multiplied-like (after (w.leaves f v) sl) (after (w.leaves g v) tl) (tree.both (l.multiplicative op) x (A sl v)) (tree.both (l.multiplicative op) y (B tl v)) xs p.1
          (λ k. let r = parted.both (l.multiplicative op) x (A sl v) k in like_both (l.multiplicative op) x (A sl v) y (B tl v) (i r.0) (term-like sl tl v p.0 r.1)) j

      arms-type : (type : SqlType) (sl tl : Slots) (xs : Arms) (a c : SqlType) → Served (w.arm_leaves f xs) sl tl → S (l.arms s f m type sl xs) → a ≡ c → l.arms_type s f m sl xs a ≡ l.arms_type z g n tl xs c
      arms-type type sl tl q.no_arm a c h j e = e
      arms-type type sl tl (q.one_arm p x xs) a c h j e =
          let r = part-test p (w.leaves f x ++ w.arm_leaves f xs) sl tl h in
          let sm = after (w.test_leaves f p) sl in
          let tm = after (w.test_leaves g p) tl in
          let k = part x (w.arm_leaves f xs) sm tm r.1 in
          let i = parted.arm (l.cond s f m sl p) (l.result_as type x (A sm x)) (l.arms s f m type (after (w.leaves f x) sm) xs) j in
          let has = result-has x type sm i.1 in
          ap₂ (λ (u v : SqlType). cond (l.is_untyped x) u v) (arms-type type (after (w.leaves f x) sm) (after (w.leaves g x) tm) xs a c k.1 i.2 e) (told (A sm x) (B tm x) has (term-like sm tm x k.0 has))

      choices-type : (type : SqlType) (sl tl : Slots) (v : Term) (xs : Choices) (a c : SqlType) → Served (w.choice_leaves f xs) sl tl → S (l.choices s f m type sl v xs) → a ≡ c → l.choices_type s f m sl xs a ≡ l.choices_type z g n tl xs c
      choices-type type sl tl v q.no_choice a c h j e = e
      choices-type type sl tl v (q.one_choice x y xs) a c h j e =
          let r = part x (w.leaves f y ++ w.choice_leaves f xs) sl tl h in
          let sm = after (w.leaves f x) sl in
          let tm = after (w.leaves g x) tl in
          let k = part y (w.choice_leaves f xs) sm tm r.1 in
          let i = parted.arm (tree.compare tree.equal v (A sl x)) (l.result_as type y (A sm y)) (l.choices s f m type (after (w.leaves f y) sm) v xs) j in
          let has = result-has y type sm i.1 in
          ap₂ (λ (u v : SqlType). cond (l.is_untyped y) u v) (choices-type type (after (w.leaves f y) sm) (after (w.leaves g y) tm) v xs a c k.1 i.2 e) (told (A sm y) (B tm y) has (term-like sm tm y k.0 has))

      arms-same : (a c : SqlType) (sl tl : Slots) (xs : Arms) → a ≡ c → Served (w.arm_leaves f xs) sl tl → S (l.arms s f m a sl xs) → LikeArms R (l.arms s f m a sl xs) (l.arms z g n c tl xs)
      arms-same a c sl tl q.no_arm e h j = like_no_arm
      arms-same a c sl tl (q.one_arm p x xs) e h j =
          let r = part-test p (w.leaves f x ++ w.arm_leaves f xs) sl tl h in
          let sm = after (w.test_leaves f p) sl in
          let tm = after (w.test_leaves g p) tl in
          let k = part x (w.arm_leaves f xs) sm tm r.1 in
          let i = parted.arm (l.cond s f m sl p) (l.result_as a x (A sm x)) (l.arms s f m a (after (w.leaves f x) sm) xs) j in
          like_arm (l.cond s f m sl p) (l.cond z g n tl p) (l.result_as a x (A sm x)) (l.result_as c x (B tm x)) (l.arms s f m a (after (w.leaves f x) sm) xs) (l.arms z g n c (after (w.leaves g x) tm) xs)
          (cond-like sl tl p r.0 i.0) (result-like x a c (A sm x) (B tm x) e (term-like sm tm x k.0 (result-has x a sm i.1))) (arms-same a c (after (w.leaves f x) sm) (after (w.leaves g x) tm) xs e k.1 i.2)

      choices-same : (a c : SqlType) (sl tl : Slots) (x y : Term) (xs : Choices) → a ≡ c → Served (w.choice_leaves f xs) sl tl → (T x → Like R x y) → S (l.choices s f m a sl x xs) → LikeArms R (l.choices s f m a sl x xs) (l.choices z g n c tl y xs)
      choices-same a c sl tl x y q.no_choice e h i j = like_no_arm
      choices-same a c sl tl x y (q.one_choice u v xs) e h i j =
          let r = part u (w.leaves f v ++ w.choice_leaves f xs) sl tl h in
          let sm = after (w.leaves f u) sl in
          let tm = after (w.leaves g u) tl in
          let k = part v (w.choice_leaves f xs) sm tm r.1 in
          let d = parted.arm (tree.compare tree.equal x (A sl u)) (l.result_as a v (A sm v)) (l.choices s f m a (after (w.leaves f v) sm) x xs) j in
          let o = parted.compare tree.equal x (A sl u) d.0 in
          like_arm (tree.compare tree.equal x (A sl u)) (tree.compare tree.equal y (B tl u)) (l.result_as a v (A sm v)) (l.result_as c v (B tm v)) (l.choices s f m a (after (w.leaves f v) sm) x xs) (l.choices z g n c (after (w.leaves g v) tm) y xs)
          (like_compare tree.equal x (A sl u) y (B tl u) (i o.0) (term-like sl tl u r.0 o.1)) (result-like v a c (A sm v) (B tm v) e (term-like sm tm v k.0 (result-has v a sm d.1)))
          (choices-same a c (after (w.leaves f v) sm) (after (w.leaves g v) tm) x y xs e k.1 i d.2)

      coalesced-like : (sl tl : Slots) (x y : Term) (xs : Values) → Served (w.list_leaves f xs) sl tl → (T x → Like R x y) → T (l.coalesced s f m sl x xs) → Like R (l.coalesced s f m sl x xs) (l.coalesced z g n tl y xs)
      coalesced-like sl tl x y q.no_value h i j = i j
      coalesced-like sl tl x y (q.one_value v xs) h i j =
          let p = part v (w.list_leaves f xs) sl tl h in
          let sm = after (w.leaves f v) sl in
          let tm = after (w.leaves g v) tl in
          let r = parted.choose (tree.arm (tree.not (tree.is_null x)) x tree.no_arm) (l.coalesced s f m sm (A sl v) xs) j in
          let k = i (parted.arm (tree.not (tree.is_null x)) x tree.no_arm r.0).1 in
          case-like (tree.not (tree.is_null x)) (tree.not (tree.is_null y)) x (l.coalesced s f m sm (A sl v) xs) y (l.coalesced z g n tm (B tl v) xs) (like_not (tree.is_null x) (tree.is_null y) (like_is_null x y k)) k
          (coalesced-like sm tm (A sl v) (B tl v) xs p.1 (term-like sl tl v p.0) r.1)

      pub cond-like : (sl tl : Slots) (p : Test) → Served (w.test_leaves f p) sl tl → C (l.cond s f m sl p) → LikeCond R (l.cond s f m sl p) (l.cond z g n tl p)
      cond-like sl tl (q.all ps) h j = every-like sl tl ps h j
      cond-like sl tl (q.any ps) h j = some-like sl tl ps h j
      cond-like sl tl (q.negated p) h j = like_not (l.cond s f m sl p) (l.cond z g n tl p) (cond-like sl tl p h (parted.not (l.cond s f m sl p) j))
      cond-like sl tl (q.compare x op y) h j =
          let p = part x (w.leaves f y) sl tl h in
          let sm = after (w.leaves f x) sl in
          let tm = after (w.leaves g x) tl in
          let r = parted.compare (l.sign op) (A sl x) (A sm y) j in
          like_compare (l.sign op) (A sl x) (A sm y) (B tl x) (B tm y) (term-like sl tl x p.0 r.0) (term-like sm tm y p.1 r.1)
      cond-like sl tl (q.quantified x op each query) h j =
          let p = part x (w.sub f (w.every_or_some each) query ∷ []) sl tl h in
          let u = first_quant (after (w.leaves f x) sl).quants in
          let v = first_quant (after (w.leaves g x) tl).quants in
          quantified-like each u v (tree.compare (l.sign op) (A sl x) (tree.col u 1)) (tree.compare (l.sign op) (B tl x) (tree.col v 1)) p.1.0
          (like_compare (l.sign op) (A sl x) (tree.col u 1) (B tl x) (tree.col v 1) (term-like sl tl x p.0 (quantified-has each u (l.sign op) (A sl x) (tree.col u 1) j)) (like_col u v 1 p.1.0))
      cond-like sl tl (q.between x y v) h j =
          let p = part x (w.leaves f y ++ w.leaves f v) sl tl h in
          let sm = after (w.leaves f x) sl in
          let tm = after (w.leaves g x) tl in
          let r = part y (w.leaves f v) sm tm p.1 in
          let sn = after (w.leaves f y) sm in
          let tn = after (w.leaves g y) tm in
          let k = parted.and (tree.compare tree.at_least (A sl x) (A sm y)) (tree.compare tree.at_most (A sl x) (A sn v)) j in
          let c = parted.compare tree.at_least (A sl x) (A sm y) k.0 in
          let d = parted.compare tree.at_most (A sl x) (A sn v) k.1 in
          let i = term-like sl tl x p.0 c.0 in
          like_and (tree.compare tree.at_least (A sl x) (A sm y)) (tree.compare tree.at_most (A sl x) (A sn v)) (tree.compare tree.at_least (B tl x) (B tm y)) (tree.compare tree.at_most (B tl x) (B tn v))
          (like_compare tree.at_least (A sl x) (A sm y) (B tl x) (B tm y) i (term-like sm tm y r.0 c.1)) (like_compare tree.at_most (A sl x) (A sn v) (B tl x) (B tn v) i (term-like sn tn v r.1 d.1))
      cond-like sl tl (q.among x xs) h j = let p = part x (w.list_leaves f xs) sl tl h in equals-like (after (w.leaves f x) sl) (after (w.leaves g x) tl) (A sl x) (B tl x) xs p.1 (term-like sl tl x p.0) j
      cond-like sl tl (q.among_rows x query) h j =
          let p = part x (w.sub f binding.E query ∷ []) sl tl h in
          let u = first_quant (after (w.leaves f x) sl).quants in
          let v = first_quant (after (w.leaves g x) tl).quants in
          like_some u v (tree.compare tree.equal (A sl x) (tree.col u 1)) (tree.compare tree.equal (B tl x) (tree.col v 1)) p.1.0
          (like_compare tree.equal (A sl x) (tree.col u 1) (B tl x) (tree.col v 1) (term-like sl tl x p.0 (parted.some u tree.equal (A sl x) (tree.col u 1) j)) (like_col u v 1 p.1.0))
      cond-like sl tl (q.like x y) h j =
          let p = part x (w.leaves f y) sl tl h in
          let sm = after (w.leaves f x) sl in
          let tm = after (w.leaves g x) tl in
          let r = parted.compare tree.like (A sl x) (A sm y) j in
          like_compare tree.like (A sl x) (A sm y) (B tl x) (B tm y) (term-like sl tl x p.0 r.0) (term-like sm tm y p.1 r.1)
      cond-like sl tl (q.is_null x) h j = like_is_null (A sl x) (B tl x) (term-like sl tl x h (parted.is_null (A sl x) j))
      cond-like sl tl (q.exists query) h j = like_some (first_quant sl.quants) (first_quant tl.quants) tree.always tree.always h.0 like_always

      every-like : (sl tl : Slots) (ps : Tests) → Served (w.tests_leaves f ps) sl tl → C (l.every s f m sl ps) → LikeCond R (l.every s f m sl ps) (l.every z g n tl ps)
      every-like sl tl q.no_test h j = like_always
      every-like sl tl (q.one_test p ps) h j =
          let r = part-test p (w.tests_leaves f ps) sl tl h in
          and_every-like (after (w.test_leaves f p) sl) (after (w.test_leaves g p) tl) (l.cond s f m sl p) (l.cond z g n tl p) ps r.1 (cond-like sl tl p r.0) j

      and_every-like : (sl tl : Slots) (c d : Cond) (ps : Tests) → Served (w.tests_leaves f ps) sl tl → (C c → LikeCond R c d) → C (l.and_every s f m sl c ps) → LikeCond R (l.and_every s f m sl c ps) (l.and_every z g n tl d ps)
      and_every-like sl tl c d q.no_test h i j = i j
      and_every-like sl tl c d (q.one_test p ps) h i j =
          let r = part-test p (w.tests_leaves f ps) sl tl h in
          and_every-like (after (w.test_leaves f p) sl) (after (w.test_leaves g p) tl) (tree.and c (l.cond s f m sl p)) (tree.and d (l.cond z g n tl p)) ps r.1
          (λ k. let o = parted.and c (l.cond s f m sl p) k in like_and c (l.cond s f m sl p) d (l.cond z g n tl p) (i o.0) (cond-like sl tl p r.0 o.1)) j

      some-like : (sl tl : Slots) (ps : Tests) → Served (w.tests_leaves f ps) sl tl → C (l.some s f m sl ps) → LikeCond R (l.some s f m sl ps) (l.some z g n tl ps)
      some-like sl tl q.no_test h j = like_not tree.always tree.always like_always
      some-like sl tl (q.one_test p ps) h j =
          let r = part-test p (w.tests_leaves f ps) sl tl h in
          or_some-like (after (w.test_leaves f p) sl) (after (w.test_leaves g p) tl) (l.cond s f m sl p) (l.cond z g n tl p) ps r.1 (cond-like sl tl p r.0) j

      or_some-like : (sl tl : Slots) (c d : Cond) (ps : Tests) → Served (w.tests_leaves f ps) sl tl → (C c → LikeCond R c d) → C (l.or_some s f m sl c ps) → LikeCond R (l.or_some s f m sl c ps) (l.or_some z g n tl d ps)
      or_some-like sl tl c d q.no_test h i j = i j
      or_some-like sl tl c d (q.one_test p ps) h i j =
          let r = part-test p (w.tests_leaves f ps) sl tl h in
          or_some-like (after (w.test_leaves f p) sl) (after (w.test_leaves g p) tl) (tree.or c (l.cond s f m sl p)) (tree.or d (l.cond z g n tl p)) ps r.1
          (λ k. let o = parted.or c (l.cond s f m sl p) k in like_or c (l.cond s f m sl p) d (l.cond z g n tl p) (i o.0) (cond-like sl tl p r.0 o.1)) j

      equals-like : (sl tl : Slots) (x y : Term) (xs : Values) → Served (w.list_leaves f xs) sl tl → (T x → Like R x y) → C (l.equals_one s f m sl x xs) → LikeCond R (l.equals_one s f m sl x xs) (l.equals_one z g n tl y xs)
      equals-like sl tl x y q.no_value h i j = like_not tree.always tree.always like_always
      equals-like sl tl x y (q.one_value v xs) h i j =
          let p = part v (w.list_leaves f xs) sl tl h in
          or_equals-like (after (w.leaves f v) sl) (after (w.leaves g v) tl) x y (tree.compare tree.equal x (A sl v)) (tree.compare tree.equal y (B tl v)) xs p.1 i
          (λ k. let o = parted.compare tree.equal x (A sl v) k in like_compare tree.equal x (A sl v) y (B tl v) (i o.0) (term-like sl tl v p.0 o.1)) j

      or_equals-like : (sl tl : Slots) (x y : Term) (c d : Cond) (xs : Values) → Served (w.list_leaves f xs) sl tl → (T x → Like R x y) → (C c → LikeCond R c d) → C (l.or_equals s f m sl x c xs) → LikeCond R (l.or_equals s f m sl x c xs) (l.or_equals z g n tl y d xs)
      or_equals-like sl tl x y c d q.no_value h i k j = k j
      or_equals-like sl tl x y c d (q.one_value v xs) h i k j =
          let p = part v (w.list_leaves f xs) sl tl h in
          or_equals-like (after (w.leaves f v) sl) (after (w.leaves g v) tl) x y (tree.or c (tree.compare tree.equal x (A sl v))) (tree.or d (tree.compare tree.equal y (B tl v))) xs p.1 i
          (λ r.
          let o = parted.or c (tree.compare tree.equal x (A sl v)) r in
          let u = parted.compare tree.equal x (A sl v) o.1 in
          like_or c (tree.compare tree.equal x (A sl v)) d (tree.compare tree.equal y (B tl v)) (k o.0) (like_compare tree.equal x (A sl v) y (B tl v) (i u.0) (term-like sl tl v p.0 u.1))) j

    pub terms-like : (sl tl : Slots) (xs : Values) → Served (w.list_leaves f xs) sl tl → Each T (l.terms s f m sl xs) → LikeHeads R (l.terms s f m sl xs) (l.terms z g n tl xs)
    terms-like sl tl q.no_value h j = tt
    terms-like sl tl (q.one_value x xs) h j = let p = part x (w.list_leaves f xs) sl tl h in (term-like sl tl x p.0 j.0, terms-like (after (w.leaves f x) sl) (after (w.leaves g x) tl) xs p.1 j.1)
