-- Types in chains of operators and in lists, and those of the results of a CASE.
use Rattle.std.proofs.Common.{◌≡◌, ◌∙◌, ◌&&◌, ◌||◌, ◌⊎◌, ℕ, Bool, true, false, not, List, [], ◌∷◌, ◌++◌, Option, Some, None, refl, sym, ap, ap₂, subst, inl, inr}
use Rattle.std.specs.Prelude.{⊤}
use Rattle.std.specs.List.{list_any}
use Rattle.std.proofs.lemmas.Bool.{or_parts}
use Rattle.sql_ast.specs.declared.word.AdditiveOp.{AdditiveOp}
use Rattle.sql_ast.specs.declared.word.AdditiveOp.TheVariants as add
use Rattle.sql_ast.specs.declared.word.DataType.{DataType}
use Rattle.sql_ast.specs.declared.word.DataType.TheVariants as type
use Rattle.sql_ast.specs.declared.word.MultiplicativeOp.{MultiplicativeOp}
use Rattle.sql_ast.specs.declared.word.SetFunction.{SetFunction}
use Rattle.sql_ast.specs.declared.word.SetFunction.TheVariants as function
use Rattle.sql_ast.specs.declared.word.Sign.{Sign}
use Rattle.sql_ast.specs.declared.word.Sign.TheVariants as sign
use Rattle.sql_meaning.specs.ResolvedTrees.{Value, Addends, Multipliers, Values, Test, Tests}
use Rattle.sql_meaning.specs.ResolvedTrees as q
use Rattle.sql_value.specs.declared.order_key.SqlType.{SqlType}
use Rattle.sql_value.specs.declared.order_key.SqlType.TheVariants.{Integer, Varchar}
use Rattle.sql_names.specs.Resolved.{append, both, either, more_addends, more_multipliers, more_tests, perhaps_not, plus, signed, times}
use Rattle.sql_names.specs.Resolved as resolved
use Rattle.sql_catalog.proofs.EachLaws.{Each, each_left, each_right}
use Rattle.sql_faults.specs.Columns.{first_known, operand_type, type_of_aggregate, type_of_declared}
use Rattle.sql_faults.specs.Rules.{differ, is_other, list_differs, parts_differ, results_differ, some_differ, wants_argument}
use Rattle.sql_faults.specs.Scopes.{is_empty}
use Rattle.qgm_translation_laws.specs.Typed.{AddendsAre, AreOf, AreTyped, FoldsTo, IsOf, IsTyped, MultipliersAre, added}
use Rattle.qgm_translation_laws.specs.Typed as t
use Rattle.qgm_translation.specs.Shown.{Either}
use Rattle.qgm_translation.specs.Terms.{is_untyped}
use Rattle.qgm_translation_laws.proofs.Stated.{is_this, no_fault_in, wanted}

-- ---- operators

pub operand_is : (op : AdditiveOp) → operand_type op ≡ added op
operand_is add.Plus = refl
operand_is add.Minus = refl
operand_is add.Concat = refl

pub declared_is : (d : DataType) → resolved.type_of d ≡ type_of_declared d
declared_is type.Integer = refl
declared_is type.Int = refl
declared_is (type.Varchar n) = refl

-- an aggregate of an argument of this type
pub aggregate_is : (f : SetFunction) (o : Option SqlType) (u : SqlType) → o ≡ Some u → wants_argument f o ≡ 0 → (v : SqlType) × ((type_of_aggregate f o ≡ Some v) × FoldsTo f u v)
aggregate_is function.Count o u e h = (Integer, (refl, refl))
aggregate_is function.Sum o u e h = (Integer, (refl, (wanted Integer u o e h, refl)))
aggregate_is function.Avg o u e h = (Integer, (refl, (wanted Integer u o e h, refl)))
aggregate_is function.Min o u e h = (u, (e, refl))
aggregate_is function.Max o u e h = (u, (e, refl))

-- ---- types that don't differ

-- none of these is known to be another type
abbrev pub Agree : SqlType → List (Option SqlType) → Type 0
Agree u types = Each (λ (o : Option SqlType). is_other u o ≡ false) types

none_other : (u : SqlType) (types : List (Option SqlType)) → list_any (is_other u) types ≡ false → Agree u types
none_other u [] h = tt
none_other u (o ∷ types) h = let e = or_parts (is_other u o) (list_any (is_other u) types) h in (e.0, none_other u types e.1)

not_both : (a b : Bool) → (a && b) ≡ false → b ≡ true → a ≡ false
not_both true b h e = absurd (cc)
not_both false b h e = refl

-- the first one is known
some_agree : (u : SqlType) (types : List (Option SqlType)) → some_differ (Some u ∷ types) ≡ false → Agree u types
some_agree Integer types h = none_other Integer types (not_both (list_any (is_other Integer) types) true h refl)
some_agree Varchar types h = none_other Varchar types h

pub parts_agree : (u : SqlType) (o : Option SqlType) (types : List (Option SqlType)) → o ≡ Some u → parts_differ (o ∷ types) ≡ 0 → Agree u types
parts_agree u o types e h = some_agree u types (no_fault_in (some_differ (Some u ∷ types)) 9 (subst (λ (z : Option SqlType). parts_differ (z ∷ types) ≡ 0) e h))

differ_agree : (u : SqlType) (types : List (Option SqlType)) → list_any (differ (Some u)) types ≡ false → Agree u types
differ_agree u [] h = tt
differ_agree u (o ∷ types) h = let e = or_parts (is_other u o) (list_any (differ (Some u)) types) h in (e.0, differ_agree u types e.1)

pub list_agrees : (u : SqlType) (o : Option SqlType) (types : List (Option SqlType)) → o ≡ Some u → list_differs o types ≡ 0 → Agree u types
list_agrees u o types e h = differ_agree u types (no_fault_in (list_any (differ (Some u)) types) 9 (subst (λ (z : Option SqlType). list_differs z types ≡ 0) e h))

pub first_is : (u : SqlType) (o : Option SqlType) (types : List (Option SqlType)) → o ≡ Some u → first_known (o ∷ types) ≡ Some u
first_is u o types e = ap (λ (z : Option SqlType). first_known (z ∷ types)) e

-- an expression whose type doesn't differ
pub agrees : (u v : SqlType) (o : Option SqlType) → o ≡ Some v → is_other u o ≡ false → v ≡ u
agrees u v o e h = is_this u v (subst (λ (z : Option SqlType). is_other u z ≡ false) e h)

-- ---- results of a CASE

abbrev pub IsKnown : Option SqlType → Type 0
IsKnown o = (u : SqlType) × (o ≡ Some u)

some_there : (xs ys : List (Option SqlType)) → is_empty (xs ++ ys) ≡ false → (not (is_empty xs) || not (is_empty ys)) ≡ true
some_there [] ys h = ap not h
some_there (x ∷ xs) ys h = refl

-- the type of the first known result is that of all
abbrev pub OneType : List (Option SqlType) → List (Option SqlType) → Type 0
OneType xs ys = (u : SqlType) × ((first_known (xs ++ ys) ≡ Some u) × Agree u xs × Agree u ys × ((not (is_empty xs) || not (is_empty ys)) ≡ true))

agree_first : (u : SqlType) → is_other u (Some u) ≡ false
agree_first Integer = refl
agree_first Varchar = refl

one_type_of : (xs ys all : List (Option SqlType)) → xs ++ ys ≡ all → Each IsKnown all → results_differ all ≡ 0 → OneType xs ys
one_type_of xs ys [] e h k = absurd (cc)
one_type_of xs ys (o ∷ all) e h k =
    let u = h.0 in
    let whole : Agree u.0 (xs ++ ys) = subst (Agree u.0) (sym e) (subst (λ (z : Option SqlType). is_other u.0 z ≡ false) (sym u.1) (agree_first u.0), parts_agree u.0 o all u.1 k) in (
      u.0,
      (
        ap first_known e ∙ first_is u.0 o all u.1,
        each_left (λ (z : Option SqlType). is_other u.0 z ≡ false) xs ys whole,
        each_right (λ (z : Option SqlType). is_other u.0 z ≡ false) xs ys whole,
        some_there xs ys (ap is_empty e),
      ),
    )

pub one_type : (xs ys : List (Option SqlType)) → Each IsKnown (xs ++ ys) → results_differ (xs ++ ys) ≡ 0 → OneType xs ys
one_type xs ys h k = one_type_of xs ys (xs ++ ys) refl h k

either_so : (a b c d : Bool) → a ≡ c → b ≡ d → (c || d) ≡ true → (a || b) ≡ true
either_so a b c d e f h = ap₂ (λ (x y : Bool). x || y) e f ∙ h

module _ (kinds : List ℕ → List SqlType) (rows : Option t.Scope) (cells : List t.Scope) where
  abbrev pub Is : Value → SqlType → Type 0
  Is x u = IsOf kinds rows cells x u

  abbrev pub Holds : Test → Type 0
  Holds p = IsTyped kinds rows cells p

  -- ---- chains

  more_addends_are : (xs : Addends) (op : AdditiveOp) (y : Value) (u : SqlType) → AddendsAre kinds rows cells xs u → u ≡ added op → Is y u → AddendsAre kinds rows cells (more_addends xs op y) u
  more_addends_are q.no_addend op y u h e k = (e, k, tt)
  more_addends_are (q.one_addend o x xs) op y u h e k = (h.0, h.1, more_addends_are xs op y u h.2 e k)

  pub plus_is : (x : Value) (op : AdditiveOp) (y : Value) (u : SqlType) → u ≡ added op → Is x u → Is y u → Is (plus x op y) u
  plus_is (q.sum x xs) op y u e h k = (h.0, more_addends_are xs op y u h.1 e k)
  plus_is (q.number n) op y u e h k = (h, (e, k, tt))
  plus_is (q.text x) op y u e h k = (h, (e, k, tt))
  plus_is (q.null z) op y u e h k = (h, (e, k, tt))
  plus_is (q.column scope place) op y u e h k = (h, (e, k, tt))
  plus_is (q.product x xs) op y u e h k = (h, (e, k, tt))
  plus_is (q.negative x) op y u e h k = (h, (e, k, tt))
  plus_is (q.searched xs last) op y u e h k = (h, (e, k, tt))
  plus_is (q.simple x xs last) op y u e h k = (h, (e, k, tt))
  plus_is (q.coalesce x xs) op y u e h k = (h, (e, k, tt))
  plus_is (q.null_if x z) op y u e h k = (h, (e, k, tt))
  plus_is (q.scalar body) op y u e h k = (h, (e, k, tt))
  plus_is q.count_all op y u e h k = (h, (e, k, tt))
  plus_is (q.aggregate f distinct x) op y u e h k = (h, (e, k, tt))

  more_multipliers_are : (xs : Multipliers) (op : MultiplicativeOp) (y : Value) → MultipliersAre kinds rows cells xs → Is y Integer → MultipliersAre kinds rows cells (more_multipliers xs op y)
  more_multipliers_are q.no_multiplier op y h k = (k, tt)
  more_multipliers_are (q.one_multiplier o x xs) op y h k = (h.0, more_multipliers_are xs op y h.1 k)

  pub times_is : (x : Value) (op : MultiplicativeOp) (y : Value) → Is x Integer → Is y Integer → Is (times x op y) Integer
  times_is (q.product x xs) op y h k = (refl, h.1, more_multipliers_are xs op y h.2 k)
  times_is (q.number n) op y h k = (refl, h, (k, tt))
  times_is (q.text x) op y h k = (refl, h, (k, tt))
  times_is (q.null z) op y h k = (refl, h, (k, tt))
  times_is (q.column scope place) op y h k = (refl, h, (k, tt))
  times_is (q.sum x xs) op y h k = (refl, h, (k, tt))
  times_is (q.negative x) op y h k = (refl, h, (k, tt))
  times_is (q.searched xs last) op y h k = (refl, h, (k, tt))
  times_is (q.simple x xs last) op y h k = (refl, h, (k, tt))
  times_is (q.coalesce x xs) op y h k = (refl, h, (k, tt))
  times_is (q.null_if x z) op y h k = (refl, h, (k, tt))
  times_is (q.scalar body) op y h k = (refl, h, (k, tt))
  times_is q.count_all op y h k = (refl, h, (k, tt))
  times_is (q.aggregate f distinct x) op y h k = (refl, h, (k, tt))

  pub signed_is : (p : Sign) (x : Value) → Is x Integer → Is (signed p x) Integer
  signed_is sign.Plus x h = h
  signed_is sign.Minus x h = (refl, h)

  more_tests_are : (ps : Tests) (p : Test) → AreTyped kinds rows cells ps → Holds p → AreTyped kinds rows cells (more_tests ps p)
  more_tests_are q.no_test p h k = (k, tt)
  more_tests_are (q.one_test r rs) p h k = (h.0, more_tests_are rs p h.1 k)

  pub both_typed : (r p : Test) → Holds r → Holds p → Holds (both r p)
  both_typed (q.all ps) p h k = more_tests_are ps p h k
  both_typed (q.any ps) p h k = (h, (k, tt))
  both_typed (q.negated r) p h k = (h, (k, tt))
  both_typed (q.compare x op y) p h k = (h, (k, tt))
  both_typed (q.quantified x op each body) p h k = (h, (k, tt))
  both_typed (q.between x y z) p h k = (h, (k, tt))
  both_typed (q.among x xs) p h k = (h, (k, tt))
  both_typed (q.among_rows x body) p h k = (h, (k, tt))
  both_typed (q.like x y) p h k = (h, (k, tt))
  both_typed (q.is_null x) p h k = (h, (k, tt))
  both_typed (q.exists body) p h k = (h, (k, tt))

  pub either_typed : (r p : Test) → Holds r → Holds p → Holds (either r p)
  either_typed (q.any ps) p h k = more_tests_are ps p h k
  either_typed (q.all ps) p h k = (h, (k, tt))
  either_typed (q.negated r) p h k = (h, (k, tt))
  either_typed (q.compare x op y) p h k = (h, (k, tt))
  either_typed (q.quantified x op each body) p h k = (h, (k, tt))
  either_typed (q.between x y z) p h k = (h, (k, tt))
  either_typed (q.among x xs) p h k = (h, (k, tt))
  either_typed (q.among_rows x body) p h k = (h, (k, tt))
  either_typed (q.like x y) p h k = (h, (k, tt))
  either_typed (q.is_null x) p h k = (h, (k, tt))
  either_typed (q.exists body) p h k = (h, (k, tt))

  pub not_typed : (negative : Bool) (p : Test) → Holds p → Holds (perhaps_not negative p)
  not_typed true p h = h
  not_typed false p h = h

  pub append_are : (xs ys : Values) (a b : List SqlType) → AreOf kinds rows cells xs a → AreOf kinds rows cells ys b → AreOf kinds rows cells (append xs ys) (a ++ b)
  append_are q.no_value ys a b h k = subst (λ (z : List SqlType). AreOf kinds rows cells ys (z ++ b)) (sym h) k
  append_are (q.one_value x xs) ys [] b h k = absurd h
  append_are (q.one_value x xs) ys (u ∷ a) b h k = (h.0, append_are xs ys a b h.1 k)

  -- ---- results

  -- what has a type isn't a NULL without one
  has_type : (x : Value) (u : SqlType) → Is x u → is_untyped x ≡ false
  has_type (q.null None) u h = absurd (cc)
  has_type (q.null (Some v)) u h = refl
  has_type (q.number n) u h = refl
  has_type (q.text x) u h = refl
  has_type (q.column scope place) u h = refl
  has_type (q.sum x xs) u h = refl
  has_type (q.product x xs) u h = refl
  has_type (q.negative x) u h = refl
  has_type (q.searched xs last) u h = refl
  has_type (q.simple x xs last) u h = refl
  has_type (q.coalesce x xs) u h = refl
  has_type (q.null_if x y) u h = refl
  has_type (q.scalar body) u h = refl
  has_type q.count_all u h = refl
  has_type (q.aggregate f distinct x) u h = refl

  -- a result is NULL, of no type, or an expression of its type
  abbrev pub Outcome : List (Option SqlType) → Value → Type 0
  Outcome types x = ((types ≡ []) × (x ≡ q.null None)) ⊎ ((u : SqlType) × ((types ≡ Some u ∷ []) × Is x u))

  pub outcome_known : (types : List (Option SqlType)) (x : Value) → Outcome types x → Each IsKnown types
  outcome_known types x (inl h) = subst (Each IsKnown) (sym h.0) tt
  outcome_known types x (inr h) = subst (Each IsKnown) (sym h.1.0) ((h.0, refl), tt)

  -- in a CASE of a type that isn't another
  pub outcome_is : (types : List (Option SqlType)) (x : Value) → Outcome types x → (v : SqlType) → Agree v types → Either (is_untyped x) ⊤ (Is x v)
  outcome_is types x (inl h) v k = subst (λ (z : Value). Either (is_untyped z) ⊤ (Is z v)) (sym h.1) tt
  outcome_is types x (inr h) v k =
      subst (λ (b : Bool). Either b ⊤ (Is x v)) (sym (has_type x h.0 h.1.1)) (subst (Is x) (is_this v h.0 (subst (Agree v) h.1.0 k).0) h.1.1)

  pub outcome_typed : (types : List (Option SqlType)) (x : Value) → Outcome types x → not (is_untyped x) ≡ not (is_empty types)
  outcome_typed types x (inl h) = ap (λ (z : Value). not (is_untyped z)) h.1 ∙ ap (λ (z : List (Option SqlType)). not (is_empty z)) (sym h.0)
  outcome_typed types x (inr h) = ap not (has_type x h.0 h.1.1) ∙ ap (λ (z : List (Option SqlType)). not (is_empty z)) (sym h.1.0)

  some_or : (xs ys : List (Option SqlType)) → not (is_empty (xs ++ ys)) ≡ (not (is_empty xs) || not (is_empty ys))
  some_or [] ys = refl
  some_or (x ∷ xs) ys = refl

  -- a result before others
  pub typed_more : (b c : Bool) (xs ys : List (Option SqlType)) → b ≡ not (is_empty xs) → c ≡ not (is_empty ys) → (b || c) ≡ not (is_empty (xs ++ ys))
  typed_more b c xs ys e f = ap₂ (λ (x y : Bool). x || y) e f ∙ sym (some_or xs ys)

  -- the results of a CASE with its ELSE
  pub last_typed : (b : Bool) (xs : List (Option SqlType)) (last : Value) (ys : List (Option SqlType)) → b ≡ not (is_empty xs) → Outcome ys last → (not (is_empty xs) || not (is_empty ys)) ≡ true → (b || not (is_untyped last)) ≡ true
  last_typed b xs last ys e f h = either_so b (not (is_untyped last)) (not (is_empty xs)) (not (is_empty ys)) e (outcome_typed ys last f) h
