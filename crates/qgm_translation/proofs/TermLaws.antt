-- Expressions and conditions of a box mean what those of a checked query mean, where what stands for their leaves does.
use Rattle.std.proofs.Common.{◌≡◌, ℕ, zero, suc, List, [], ◌∷◌, ◌++◌, map, true, false, refl, ap, ap₂, sym, ◌∙◌, get_or}
use Rattle.std.proofs.lemmas.Bool.{eq-eqb}
use mathlib.Core.Path.{fun_ext}
use Rattle.shared_types.specs.declared.compare.CmpOp.{CmpOp}
use Rattle.shared_types.specs.declared.compare.CmpOp.TheVariants.{Eq, Ne, Lt, Le, Gt, Ge}
use Rattle.sql_ast.specs.declared.word.AdditiveOp.{AdditiveOp}
use Rattle.sql_ast.specs.declared.word.AdditiveOp.TheVariants.{Plus, Minus, Concat}
use Rattle.sql_ast.specs.declared.word.MultiplicativeOp.{MultiplicativeOp}
use Rattle.sql_ast.specs.declared.word.MultiplicativeOp.TheVariants.{Times, Divide}
use Rattle.sql_ast.specs.declared.word.Quantifier.{Quantifier}
use Rattle.sql_ast.specs.declared.word.Quantifier.TheVariants as quantifier
use Rattle.row_bag.specs.Bags.{total}
use Rattle.row_bag.specs.Order.{cell_of}
use Rattle.row_bag.proofs.Chains.{and_true, or_false}
use Rattle.sql_meaning.specs.Groups.{Group, aggregated, count_all, no_group}
use Rattle.sql_meaning.specs.Subqueries as u
use Rattle.sql_meaning.specs.Values as named
use Rattle.sql_value.specs.Comparison as c
use Rattle.sql_value.specs.Truths as t
use Rattle.sql_value.specs.declared.cell.Cell.{Cell}
use Rattle.sql_value.specs.declared.cell.Cell.TheVariants.{Null}
use Rattle.sql_value.specs.declared.level.Level.{Level}
use Rattle.sql_value.specs.declared.level.Level.TheVariants.{No, Cardinality, Division, Overflow, Yes}
use Rattle.sql_value.specs.declared.truth.Truth.{Truth}
use Rattle.sql_value.proofs.Laws.{and-associative, and-commutative, or-associative}
use Rattle.sql_meaning.specs.ResolvedMeaning as k
use Rattle.sql_meaning.specs.ResolvedTrees.{Value, Addends, Multipliers, Values, Arms, Choices, Test, Tests, Query}
use Rattle.sql_meaning.specs.ResolvedTrees as q
use Rattle.qgm_meaning.specs.Values.{Bag, Environment, bound, row_of}
use Rattle.qgm_meaning.specs.Values as m
use Rattle.qgm_terms.specs.Terms as tree
use Rattle.qgm_core.specs.declared.kinds.QuantKind.{QuantKind}
use Rattle.qgm_core.specs.declared.kinds.QuantKind.TheVariants as binding
use Rattle.qgm_translation.specs.Leaves as w
use Rattle.qgm_translation.specs.Terms as l
use Rattle.qgm_translation.specs.Sources.{Sources}
use Rattle.qgm_translation.specs.Maps.{Frame, Map, Ref, column, none_counted, nothing, ref_cell, ref_term, seen, seen_in}
use Rattle.qgm_translation.specs.Leaves.{Leaf, Slots, after, first_cell, first_quant, rest_of}
use Rattle.qgm_translation.specs.Terms.{cond, split, term}
use Rattle.qgm_translation.proofs.Results.{as-null, of-null, result-means}
use Rattle.sql_value.specs.declared.order_key.SqlType.{SqlType}
use Rattle.row_bag.specs.Subqueries.{presence}

-- ---- small facts

added : (op : AdditiveOp) (x y : Cell) → m.operate (l.additive op) x y ≡ named.additive op x y
added Plus x y = refl
added Minus x y = refl
added Concat x y = refl

times : (op : MultiplicativeOp) (x y : Cell) → m.operate (l.multiplicative op) x y ≡ named.multiplicative op x y
times Times x y = refl
times Divide x y = refl

compares : (op : CmpOp) (x y : Cell) → m.compared (l.sign op) x y ≡ c.compare op x y
compares Eq x y = refl
compares Ne x y = refl
compares Lt x y = refl
compares Le x y = refl
compares Gt x y = refl
compares Ge x y = refl

chooses : (level : Level) (x y : Cell) → m.chosen_at level x y ≡ named.case_at level x y
chooses No x y = refl
chooses Cardinality x y = refl
chooses Division x y = refl
chooses Overflow x y = refl
chooses Yes x y = refl

cases : {p p' : Truth} {x x' y y' : Cell} → p ≡ p' → x ≡ x' → y ≡ y' → m.chosen_at p.t x y ≡ named.case_of p' x' y'
cases {p} {p'} {x} {x'} {y} {y'} e f g = ap (λ (d : Truth). m.chosen_at d.t x y) e ∙ ap₂ (m.chosen_at p'.t) f g ∙ chooses p'.t x' y'

pub true-and : (p : Truth) → t.and (t.truth_of true) p ≡ p
true-and p = and-commutative (t.truth_of true) p ∙ and_true p

pub row-same : (n : ℕ) (cells : List Cell) (env : Environment) → row_of n (bound n cells env) ≡ cells
row-same n cells env = rw (eq-eqb n n refl) refl

first-only : (cells : List Cell) → cell_of 1 cells ≡ u.only_cell cells
first-only [] = refl
first-only (x ∷ cells) = refl

pub ref-means : (s : ℕ → Bag) (env : Environment) (r : Ref) → m.value s (ref_term r) env ≡ ref_cell env r
ref-means s env nothing = refl
ref-means s env none_counted = refl
ref-means s env (column n place) = refl

pub get_or-map : {X Y : Type 0} (f : X → Y) (xs : List X) (i : ℕ) (d : X) → get_or (map f xs) i (f d) ≡ f (get_or xs i d)
get_or-map f [] i d = refl
get_or-map f (x ∷ xs) zero d = refl
get_or-map f (x ∷ xs) (suc i) d = get_or-map f xs i d

pub column-means : (s : ℕ → Bag) (env : Environment) (n : Map) (scope place : ℕ) → m.value s (ref_term (get_or (get_or n scope []) place nothing)) env ≡ k.cell_at scope place (seen env n)
column-means s env n scope place =
    ref-means s env (get_or (get_or n scope []) place nothing)
    ∙ sym (get_or-map (ref_cell env) (get_or n scope []) place nothing)
    ∙ ap (λ f. get_or f place Null) (sym (get_or-map (seen_in env) n scope []))

-- ---- conditions in parts

pub all-append : (s : ℕ → Bag) (xs ys : List tree.Cond) (env : Environment) → m.all_true s (xs ++ ys) env ≡ t.and (m.all_true s xs env) (m.all_true s ys env)
all-append s [] ys env = sym (true-and (m.all_true s ys env))
all-append s (x ∷ xs) ys env =
    ap (t.and (m.truth s x env)) (all-append s xs ys env) ∙ sym (and-associative (m.truth s x env) (m.all_true s xs env) (m.all_true s ys env))

pub all-split : (s : ℕ → Bag) (p : tree.Cond) (env : Environment) → m.all_true s (split p) env ≡ m.truth s p env
all-split s tree.always env = refl
all-split s (tree.and p r) env = all-append s (split p) (split r) env ∙ ap₂ t.and (all-split s p env) (all-split s r env)
all-split s (tree.compare g x y) env = and_true _
all-split s (tree.is_null x) env = and_true _
all-split s (tree.or p r) env = and_true _
all-split s (tree.not p) env = and_true _
all-split s (tree.some n p) env = and_true _
all-split s (tree.every n p) env = and_true _

-- ---- terms

-- own: the scopes that a frame shows; Fits: a number doesn't stand in a frame; Reads: a column has a cell
module _ (known : List ℕ → Bag) (s : ℕ → Bag) (own : Frame → k.Scopes) (Fits : ℕ → Frame → Type 0) (Reads : Ref → Cell → Type 0) (group : Group (List Cell)) where
  -- what stands for leaves means what they mean
  abbrev pub Mean : List Leaf → Slots → Type 0
  Mean [] sl = Unit {0}
  Mean (w.sub f kind query ∷ ls) sl = (s (first_quant sl.quants) ≡ k.rows known query (own f)) × Fits (first_quant sl.quants) f × Mean ls (record sl { quants = rest_of sl.quants })
  Mean (w.fold f distinct x ∷ ls) sl = Reads (first_cell sl.cells) (aggregated f distinct (λ cells. k.value known x (cells ∷ []) no_group) group) × Mean ls (record sl { cells = rest_of sl.cells })
  Mean (w.count ∷ ls) sl = Reads (first_cell sl.cells) (count_all group) × Mean ls (record sl { cells = rest_of sl.cells })

  pub mean-append : (xs ys : List Leaf) (sl : Slots) → Mean (xs ++ ys) sl → Mean xs sl × Mean ys (after xs sl)
  mean-append [] ys sl h = (tt, h)
  mean-append (w.sub f kind query ∷ xs) ys sl h = let r = mean-append xs ys (record sl { quants = rest_of sl.quants }) h.2 in ((h.0, h.1, r.0), r.1)
  mean-append (w.fold f distinct x ∷ xs) ys sl h = let r = mean-append xs ys (record sl { cells = rest_of sl.cells }) h.1 in ((h.0, r.0), r.1)
  mean-append (w.count ∷ xs) ys sl h = let r = mean-append xs ys (record sl { cells = rest_of sl.cells }) h.1 in ((h.0, r.0), r.1)

  -- Good: environments in which the scopes are seen, whatever E and A quantifiers are bound
  module _ (sources : Sources) (fr : Frame) (outer : Map) (Good : Environment → Type 0) (sees : (env : Environment) → Good env → seen env (fr ∷ outer) ≡ own fr)
      (stays : (n : ℕ) → Fits n fr → (env : Environment) (cells : List Cell) → Good env → Good (bound n cells env))
      (reads : (r : Ref) (v : Cell) → Reads r v → (env : Environment) → Good env → ref_cell env r ≡ v) where
    abbrev scopes : k.Scopes
    scopes = own fr

    abbrev V : Value → Cell
    V x = k.value known x scopes group

    abbrev P : Test → Truth
    P p = k.truth known p scopes group

    abbrev lv : Value → List Leaf
    lv x = w.leaves fr x

    -- x op q's first column, in whatever row q is bound to
    in-row : (x : tree.Term) (v : Cell) (op : CmpOp) (n : ℕ) → ((env : Environment) → Good env → m.value s x env ≡ v) → ((env : Environment) (cells : List Cell) → Good env → Good (bound n cells env)) → (env : Environment) → Good env → (cells : List Cell)
        → m.truth s (tree.compare (l.sign op) x (tree.col n 1)) (bound n cells env) ≡ c.compare op v (u.only_cell cells)
    in-row x v op n means stays env g cells =
        compares op (m.value s x (bound n cells env)) (cell_of 1 (row_of n (bound n cells env)))
        ∙ ap₂ (c.compare op) (means (bound n cells env) (stays env cells g)) (ap (cell_of 1) (row-same n cells env) ∙ first-only cells)

    any-means : (x : tree.Term) (v : Cell) (op : CmpOp) (query : Query) (kind : QuantKind) (sl : Slots) → ((env : Environment) → Good env → m.value s x env ≡ v) → Mean (w.sub fr kind query ∷ []) sl → (env : Environment) → Good env
        → m.truth s (tree.some (first_quant sl.quants) (tree.compare (l.sign op) x (tree.col (first_quant sl.quants) 1))) env ≡ u.compare_any op v (k.rows known query scopes)
    any-means x v op query kind sl means h env g =
        ap₂ (total t.or (t.truth_of false)) (fun_ext (λ cells. fun_ext (λ level. ap (t.and (presence level)) (in-row x v op (first_quant sl.quants) means (stays (first_quant sl.quants) h.1) env g cells)))) h.0

    quantified-means : (x : tree.Term) (v : Cell) (op : CmpOp) (each : Quantifier) (query : Query) (kind : QuantKind) (sl : Slots) → ((env : Environment) → Good env → m.value s x env ≡ v) → Mean (w.sub fr kind query ∷ []) sl → (env : Environment) → Good env
        → m.truth s (l.quantified each (first_quant sl.quants) (tree.compare (l.sign op) x (tree.col (first_quant sl.quants) 1))) env ≡ u.quantified each op v (k.rows known query scopes)
    quantified-means x v op quantifier.Any query kind sl means h env g = any-means x v op query kind sl means h env g
    quantified-means x v op quantifier.Some query kind sl means h env g = any-means x v op query kind sl means h env g
    quantified-means x v op quantifier.All query kind sl means h env g =
        ap₂ (total t.and (t.truth_of true)) (fun_ext (λ cells. fun_ext (λ level. ap (t.or (t.negated (presence level))) (in-row x v op (first_quant sl.quants) means (stays (first_quant sl.quants) h.1) env g cells)))) h.0

    mutual
      pub term-means : (sl : Slots) (x : Value) → Mean (w.leaves fr x) sl → (env : Environment) → Good env → m.value s (term sources fr outer sl x) env ≡ k.value known x scopes group
      term-means sl (q.number n) h env g = refl
      term-means sl (q.text x) h env g = refl
      term-means sl (q.null type) h env g = of-null s env type
      term-means sl (q.column scope place) h env g = column-means s env (fr ∷ outer) scope place ∙ ap (k.cell_at scope place) (sees env g)
      term-means sl (q.sum x xs) h env g =
          let a = mean-append (lv x) (w.addend_leaves fr xs) sl h in
          summed-means (after (lv x) sl) (term sources fr outer sl x) xs a.1 env g ∙ ap (λ z. k.summed known z xs scopes group) (term-means sl x a.0 env g)
      term-means sl (q.product x xs) h env g =
          let a = mean-append (lv x) (w.multiplier_leaves fr xs) sl h in
          multiplied-means (after (lv x) sl) (term sources fr outer sl x) xs a.1 env g ∙ ap (λ z. k.multiplied known z xs scopes group) (term-means sl x a.0 env g)
      term-means sl (q.negative x) h env g = rw (term-means sl x h env g) refl
      term-means sl (q.searched xs last) h env g =
          let a = mean-append (w.arm_leaves fr xs) (lv last) sl h in
          let end = term sources fr outer (after (w.arm_leaves fr xs) sl) last in
          let type = l.arms_type sources fr outer sl xs (sources.typed end) in
          arms-mean type sl xs (m.value s (l.result_as type last end) env) a.0 env g
          ∙ ap (λ z. k.of_arms known xs z scopes group) (result-means known s env scopes group type last end (term-means (after (w.arm_leaves fr xs) sl) last a.1 env g))
      term-means sl (q.simple x xs last) h env g =
          let a = mean-append (lv x) (w.choice_leaves fr xs ++ lv last) sl h in
          let b = mean-append (w.choice_leaves fr xs) (lv last) (after (lv x) sl) a.1 in
          let end = after (w.choice_leaves fr xs) (after (lv x) sl) in
          let type = l.choices_type sources fr outer (after (lv x) sl) xs (sources.typed (term sources fr outer end last)) in
          choices-mean type (after (lv x) sl) (term sources fr outer sl x) xs (m.value s (l.result_as type last (term sources fr outer end last)) env) b.0 env g
          ∙ ap₂ (λ z y. k.of_choices known z xs y scopes group) (term-means sl x a.0 env g) (result-means known s env scopes group type last (term sources fr outer end last) (term-means end last b.1 env g))
      term-means sl (q.coalesce x xs) h env g =
          let a = mean-append (lv x) (w.list_leaves fr xs) sl h in
          coalesced-means (after (lv x) sl) (term sources fr outer sl x) xs a.1 env g ∙ ap (λ z. k.coalesced known z xs scopes group) (term-means sl x a.0 env g)
      term-means sl (q.null_if x y) h env g =
          let a = mean-append (lv x) (lv y) sl h in
          cases (ap₂ (c.compare Eq) (term-means sl x a.0 env g) (term-means (after (lv x) sl) y a.1 env g)) (as-null s env (sources.typed (term sources fr outer sl x))) (term-means sl x a.0 env g)
      term-means sl (q.scalar query) h env g = ap u.scalar h.0
      term-means sl q.count_all h env g = ref-means s env (first_cell sl.cells) ∙ reads (first_cell sl.cells) _ h.0 env g
      term-means sl (q.aggregate f distinct x) h env g = ref-means s env (first_cell sl.cells) ∙ reads (first_cell sl.cells) _ h.0 env g

      summed-means : (sl : Slots) (x : tree.Term) (xs : Addends) → Mean (w.addend_leaves fr xs) sl → (env : Environment) → Good env → m.value s (l.summed sources fr outer sl x xs) env ≡ k.summed known (m.value s x env) xs scopes group
      summed-means sl x q.no_addend h env g = refl
      summed-means sl x (q.one_addend op y ys) h env g =
          let a = mean-append (lv y) (w.addend_leaves fr ys) sl h in
          summed-means (after (lv y) sl) (tree.both (l.additive op) x (term sources fr outer sl y)) ys a.1 env g
          ∙ ap (λ z. k.summed known z ys scopes group) (added op (m.value s x env) (m.value s (term sources fr outer sl y) env) ∙ ap (named.additive op (m.value s x env)) (term-means sl y a.0 env g))

      multiplied-means : (sl : Slots) (x : tree.Term) (xs : Multipliers) → Mean (w.multiplier_leaves fr xs) sl → (env : Environment) → Good env → m.value s (l.multiplied sources fr outer sl x xs) env ≡ k.multiplied known (m.value s x env) xs scopes group
      multiplied-means sl x q.no_multiplier h env g = refl
      multiplied-means sl x (q.one_multiplier op y ys) h env g =
          let a = mean-append (lv y) (w.multiplier_leaves fr ys) sl h in
          multiplied-means (after (lv y) sl) (tree.both (l.multiplicative op) x (term sources fr outer sl y)) ys a.1 env g
          ∙ ap (λ z. k.multiplied known z ys scopes group) (times op (m.value s x env) (m.value s (term sources fr outer sl y) env) ∙ ap (named.multiplicative op (m.value s x env)) (term-means sl y a.0 env g))

      arms-mean : (type : SqlType) (sl : Slots) (xs : Arms) (last : Cell) → Mean (w.arm_leaves fr xs) sl → (env : Environment) → Good env → m.first_true s (l.arms sources fr outer type sl xs) last env ≡ k.of_arms known xs last scopes group
      arms-mean type sl q.no_arm last h env g = refl
      arms-mean type sl (q.one_arm p x xs) last h env g =
          let a = mean-append (w.test_leaves fr p) (lv x ++ w.arm_leaves fr xs) sl h in
          let b = mean-append (lv x) (w.arm_leaves fr xs) (after (w.test_leaves fr p) sl) a.1 in
          cases (cond-means sl p a.0 env g) (result-means known s env scopes group type x (term sources fr outer (after (w.test_leaves fr p) sl) x) (term-means (after (w.test_leaves fr p) sl) x b.0 env g)) (arms-mean type (after (lv x) (after (w.test_leaves fr p) sl)) xs last b.1 env g)

      choices-mean : (type : SqlType) (sl : Slots) (x : tree.Term) (xs : Choices) (last : Cell) → Mean (w.choice_leaves fr xs) sl → (env : Environment) → Good env → m.first_true s (l.choices sources fr outer type sl x xs) last env ≡ k.of_choices known (m.value s x env) xs last scopes group
      choices-mean type sl x q.no_choice last h env g = refl
      choices-mean type sl x (q.one_choice y z xs) last h env g =
          let a = mean-append (lv y) (lv z ++ w.choice_leaves fr xs) sl h in
          let b = mean-append (lv z) (w.choice_leaves fr xs) (after (lv y) sl) a.1 in
          cases (ap (c.compare Eq (m.value s x env)) (term-means sl y a.0 env g)) (result-means known s env scopes group type z (term sources fr outer (after (lv y) sl) z) (term-means (after (lv y) sl) z b.0 env g)) (choices-mean type (after (lv z) (after (lv y) sl)) x xs last b.1 env g)

      coalesced-means : (sl : Slots) (x : tree.Term) (xs : Values) → Mean (w.list_leaves fr xs) sl → (env : Environment) → Good env → m.value s (l.coalesced sources fr outer sl x xs) env ≡ k.coalesced known (m.value s x env) xs scopes group
      coalesced-means sl x q.no_value h env g = refl
      coalesced-means sl x (q.one_value y ys) h env g =
          let a = mean-append (lv y) (w.list_leaves fr ys) sl h in
          cases {p' = t.negated (c.is_null (m.value s x env))} refl refl
          (coalesced-means (after (lv y) sl) (term sources fr outer sl y) ys a.1 env g ∙ ap (λ z. k.coalesced known z ys scopes group) (term-means sl y a.0 env g))

      pub cond-means : (sl : Slots) (p : Test) → Mean (w.test_leaves fr p) sl → (env : Environment) → Good env → m.truth s (cond sources fr outer sl p) env ≡ k.truth known p scopes group
      cond-means sl (q.all ps) h env g = every-means sl ps h env g
      cond-means sl (q.any ps) h env g = some-means sl ps h env g
      cond-means sl (q.negated p) h env g = ap t.negated (cond-means sl p h env g)
      cond-means sl (q.compare x op y) h env g =
          let a = mean-append (lv x) (lv y) sl h in
          compares op (m.value s (term sources fr outer sl x) env) (m.value s (term sources fr outer (after (lv x) sl) y) env) ∙ ap₂ (c.compare op) (term-means sl x a.0 env g) (term-means (after (lv x) sl) y a.1 env g)
      cond-means sl (q.quantified x op each query) h env g =
          let a = mean-append (lv x) (w.sub fr (w.every_or_some each) query ∷ []) sl h in
          quantified-means (term sources fr outer sl x) (V x) op each query (w.every_or_some each) (after (lv x) sl) (term-means sl x a.0) a.1 env g
      cond-means sl (q.between x y z) h env g =
          let a = mean-append (lv x) (lv y ++ lv z) sl h in
          let b = mean-append (lv y) (lv z) (after (lv x) sl) a.1 in
          ap₂ t.and (ap₂ (c.compare Ge) (term-means sl x a.0 env g) (term-means (after (lv x) sl) y b.0 env g))
          (ap₂ (c.compare Le) (term-means sl x a.0 env g) (term-means (after (lv y) (after (lv x) sl)) z b.1 env g))
      cond-means sl (q.among x xs) h env g =
          let a = mean-append (lv x) (w.list_leaves fr xs) sl h in
          equals-mean (after (lv x) sl) (term sources fr outer sl x) xs a.1 env g ∙ ap (λ z. k.equals_one known z xs scopes group) (term-means sl x a.0 env g)
      cond-means sl (q.among_rows x query) h env g =
          let a = mean-append (lv x) (w.sub fr binding.E query ∷ []) sl h in
          any-means (term sources fr outer sl x) (V x) Eq query binding.E (after (lv x) sl) (term-means sl x a.0) a.1 env g
      cond-means sl (q.like x y) h env g =
          let a = mean-append (lv x) (lv y) sl h in
          ap₂ (m.compared tree.like) (term-means sl x a.0 env g) (term-means (after (lv x) sl) y a.1 env g)
      cond-means sl (q.is_null x) h env g = ap c.is_null (term-means sl x h env g)
      cond-means sl (q.exists query) h env g =
          ap₂ (total t.or (t.truth_of false)) (fun_ext (λ cells. fun_ext (λ level. and_true (presence level)))) h.0

      every-means : (sl : Slots) (ps : Tests) → Mean (w.tests_leaves fr ps) sl → (env : Environment) → Good env → m.truth s (l.every sources fr outer sl ps) env ≡ k.every known ps scopes group
      every-means sl q.no_test h env g = refl
      every-means sl (q.one_test p ps) h env g =
          let a = mean-append (w.test_leaves fr p) (w.tests_leaves fr ps) sl h in
          and_every-means (after (w.test_leaves fr p) sl) (cond sources fr outer sl p) ps a.1 env g ∙ ap (λ z. t.and z (k.every known ps scopes group)) (cond-means sl p a.0 env g)

      and_every-means : (sl : Slots) (d : tree.Cond) (ps : Tests) → Mean (w.tests_leaves fr ps) sl → (env : Environment) → Good env → m.truth s (l.and_every sources fr outer sl d ps) env ≡ t.and (m.truth s d env) (k.every known ps scopes group)
      and_every-means sl d q.no_test h env g = sym (and_true (m.truth s d env))
      and_every-means sl d (q.one_test p ps) h env g =
          let a = mean-append (w.test_leaves fr p) (w.tests_leaves fr ps) sl h in
          and_every-means (after (w.test_leaves fr p) sl) (tree.and d (cond sources fr outer sl p)) ps a.1 env g
          ∙ ap (λ z. t.and (t.and (m.truth s d env) z) (k.every known ps scopes group)) (cond-means sl p a.0 env g)
          ∙ and-associative (m.truth s d env) (P p) (k.every known ps scopes group)

      some-means : (sl : Slots) (ps : Tests) → Mean (w.tests_leaves fr ps) sl → (env : Environment) → Good env → m.truth s (l.some sources fr outer sl ps) env ≡ k.some known ps scopes group
      some-means sl q.no_test h env g = refl
      some-means sl (q.one_test p ps) h env g =
          let a = mean-append (w.test_leaves fr p) (w.tests_leaves fr ps) sl h in
          or_some-means (after (w.test_leaves fr p) sl) (cond sources fr outer sl p) ps a.1 env g ∙ ap (λ z. t.or z (k.some known ps scopes group)) (cond-means sl p a.0 env g)

      or_some-means : (sl : Slots) (d : tree.Cond) (ps : Tests) → Mean (w.tests_leaves fr ps) sl → (env : Environment) → Good env → m.truth s (l.or_some sources fr outer sl d ps) env ≡ t.or (m.truth s d env) (k.some known ps scopes group)
      or_some-means sl d q.no_test h env g = sym (or_false (m.truth s d env))
      or_some-means sl d (q.one_test p ps) h env g =
          let a = mean-append (w.test_leaves fr p) (w.tests_leaves fr ps) sl h in
          or_some-means (after (w.test_leaves fr p) sl) (tree.or d (cond sources fr outer sl p)) ps a.1 env g
          ∙ ap (λ z. t.or (t.or (m.truth s d env) z) (k.some known ps scopes group)) (cond-means sl p a.0 env g)
          ∙ or-associative (m.truth s d env) (P p) (k.some known ps scopes group)

      equals-mean : (sl : Slots) (x : tree.Term) (xs : Values) → Mean (w.list_leaves fr xs) sl → (env : Environment) → Good env → m.truth s (l.equals_one sources fr outer sl x xs) env ≡ k.equals_one known (m.value s x env) xs scopes group
      equals-mean sl x q.no_value h env g = refl
      equals-mean sl x (q.one_value y ys) h env g =
          let a = mean-append (lv y) (w.list_leaves fr ys) sl h in
          or_equals-mean (after (lv y) sl) x (tree.compare tree.equal x (term sources fr outer sl y)) ys a.1 env g
          ∙ ap (λ z. t.or (c.compare Eq (m.value s x env) z) (k.equals_one known (m.value s x env) ys scopes group)) (term-means sl y a.0 env g)

      or_equals-mean : (sl : Slots) (x : tree.Term) (d : tree.Cond) (xs : Values) → Mean (w.list_leaves fr xs) sl → (env : Environment) → Good env → m.truth s (l.or_equals sources fr outer sl x d xs) env ≡ t.or (m.truth s d env) (k.equals_one known (m.value s x env) xs scopes group)
      or_equals-mean sl x d q.no_value h env g = sym (or_false (m.truth s d env))
      or_equals-mean sl x d (q.one_value y ys) h env g =
          let a = mean-append (lv y) (w.list_leaves fr ys) sl h in
          or_equals-mean (after (lv y) sl) x (tree.or d (tree.compare tree.equal x (term sources fr outer sl y))) ys a.1 env g
          ∙ ap (λ z. t.or (t.or (m.truth s d env) (c.compare Eq (m.value s x env) z)) (k.equals_one known (m.value s x env) ys scopes group)) (term-means sl y a.0 env g)
          ∙ or-associative (m.truth s d env) (c.compare Eq (m.value s x env) (V y)) (k.equals_one known (m.value s x env) ys scopes group)

    pub terms-mean : (sl : Slots) (xs : Values) → Mean (w.list_leaves fr xs) sl → (env : Environment) → Good env → m.head_cells s (l.terms sources fr outer sl xs) env ≡ k.cells known xs scopes group
    terms-mean sl q.no_value h env g = refl
    terms-mean sl (q.one_value x xs) h env g =
        let a = mean-append (lv x) (w.list_leaves fr xs) sl h in
        ap₂ (λ z zs. z ∷ zs) (term-means sl x a.0 env g) (terms-mean (after (lv x) sl) xs a.1 env g)
