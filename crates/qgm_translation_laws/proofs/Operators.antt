-- What fits stays so in chains of operators and in lists.
use Rattle.std.proofs.Common.{◌≡◌, ℕ, zero, suc, Bool, true, false, cond, List, length, Option, Some, None}
use Rattle.sql_ast.specs.declared.word.AdditiveOp.{AdditiveOp}
use Rattle.sql_ast.specs.declared.word.MultiplicativeOp.{MultiplicativeOp}
use Rattle.sql_ast.specs.declared.word.Sign.{Sign}
use Rattle.sql_ast.specs.declared.word.Sign.TheVariants as sign
use Rattle.sql_meaning.specs.ResolvedTrees.{Value, Addends, Multipliers, Values, Test, Tests, Froms}
use Rattle.sql_meaning.specs.ResolvedTrees as q
use Rattle.sql_names.specs.Places.{Span}
use Rattle.sql_names.specs.Resolved.{append, both, columns_from, either, more_addends, more_multipliers, more_tests, perhaps_not, plus, signed, times}
use Rattle.sql_names.specs.Resolved as resolved
use Rattle.qgm_translation.specs.Buildable.{Buildable, FitAddends, FitFroms, FitMultipliers, FitTest, FitTests, FitValue, FitValues}
use Rattle.qgm_translation.specs.Shown.{HasKey}
use Rattle.qgm_translation.specs.Sources.{Sources, froms_width}

module _ (sources : Sources) (has : List ℕ → Bool) where
  abbrev pub Fits : Value → Type 0
  Fits x = FitValue sources has x

  abbrev pub Holds : Test → Type 0
  Holds p = FitTest sources has p

  -- ---- chains

  more_addends_fit : (xs : Addends) (op : AdditiveOp) (y : Value) → FitAddends sources has xs → Fits y → FitAddends sources has (more_addends xs op y)
  more_addends_fit q.no_addend op y h k = (k, tt)
  more_addends_fit (q.one_addend o x xs) op y h k = (h.0, more_addends_fit xs op y h.1 k)

  pub plus_fits : (x : Value) (op : AdditiveOp) (y : Value) → Fits x → Fits y → Fits (plus x op y)
  plus_fits (q.sum x xs) op y h k = (h.0, more_addends_fit xs op y h.1 k)
  plus_fits (q.number n) op y h k = (h, (k, tt))
  plus_fits (q.text x) op y h k = (h, (k, tt))
  plus_fits (q.null t) op y h k = (h, (k, tt))
  plus_fits (q.column scope place) op y h k = (h, (k, tt))
  plus_fits (q.product x xs) op y h k = (h, (k, tt))
  plus_fits (q.negative x) op y h k = (h, (k, tt))
  plus_fits (q.searched xs last) op y h k = (h, (k, tt))
  plus_fits (q.simple x xs last) op y h k = (h, (k, tt))
  plus_fits (q.coalesce x xs) op y h k = (h, (k, tt))
  plus_fits (q.null_if x z) op y h k = (h, (k, tt))
  plus_fits (q.scalar body) op y h k = (h, (k, tt))
  plus_fits q.count_all op y h k = (h, (k, tt))
  plus_fits (q.aggregate f distinct x) op y h k = (h, (k, tt))

  more_multipliers_fit : (xs : Multipliers) (op : MultiplicativeOp) (y : Value) → FitMultipliers sources has xs → Fits y → FitMultipliers sources has (more_multipliers xs op y)
  more_multipliers_fit q.no_multiplier op y h k = (k, tt)
  more_multipliers_fit (q.one_multiplier o x xs) op y h k = (h.0, more_multipliers_fit xs op y h.1 k)

  pub times_fits : (x : Value) (op : MultiplicativeOp) (y : Value) → Fits x → Fits y → Fits (times x op y)
  times_fits (q.product x xs) op y h k = (h.0, more_multipliers_fit xs op y h.1 k)
  times_fits (q.number n) op y h k = (h, (k, tt))
  times_fits (q.text x) op y h k = (h, (k, tt))
  times_fits (q.null t) op y h k = (h, (k, tt))
  times_fits (q.column scope place) op y h k = (h, (k, tt))
  times_fits (q.sum x xs) op y h k = (h, (k, tt))
  times_fits (q.negative x) op y h k = (h, (k, tt))
  times_fits (q.searched xs last) op y h k = (h, (k, tt))
  times_fits (q.simple x xs last) op y h k = (h, (k, tt))
  times_fits (q.coalesce x xs) op y h k = (h, (k, tt))
  times_fits (q.null_if x z) op y h k = (h, (k, tt))
  times_fits (q.scalar body) op y h k = (h, (k, tt))
  times_fits q.count_all op y h k = (h, (k, tt))
  times_fits (q.aggregate f distinct x) op y h k = (h, (k, tt))

  more_tests_fit : (ps : Tests) (p : Test) → FitTests sources has ps → Holds p → FitTests sources has (more_tests ps p)
  more_tests_fit q.no_test p h k = (k, tt)
  more_tests_fit (q.one_test r rs) p h k = (h.0, more_tests_fit rs p h.1 k)

  pub both_fit : (r p : Test) → Holds r → Holds p → Holds (both r p)
  both_fit (q.all ps) p h k = more_tests_fit ps p h k
  both_fit (q.any ps) p h k = (h, (k, tt))
  both_fit (q.negated r) p h k = (h, (k, tt))
  both_fit (q.compare x op y) p h k = (h, (k, tt))
  both_fit (q.quantified x op each body) p h k = (h, (k, tt))
  both_fit (q.between x y z) p h k = (h, (k, tt))
  both_fit (q.among x xs) p h k = (h, (k, tt))
  both_fit (q.among_rows x body) p h k = (h, (k, tt))
  both_fit (q.like x y) p h k = (h, (k, tt))
  both_fit (q.is_null x) p h k = (h, (k, tt))
  both_fit (q.exists body) p h k = (h, (k, tt))

  pub either_fits : (r p : Test) → Holds r → Holds p → Holds (either r p)
  either_fits (q.any ps) p h k = more_tests_fit ps p h k
  either_fits (q.all ps) p h k = (h, (k, tt))
  either_fits (q.negated r) p h k = (h, (k, tt))
  either_fits (q.compare x op y) p h k = (h, (k, tt))
  either_fits (q.quantified x op each body) p h k = (h, (k, tt))
  either_fits (q.between x y z) p h k = (h, (k, tt))
  either_fits (q.among x xs) p h k = (h, (k, tt))
  either_fits (q.among_rows x body) p h k = (h, (k, tt))
  either_fits (q.like x y) p h k = (h, (k, tt))
  either_fits (q.is_null x) p h k = (h, (k, tt))
  either_fits (q.exists body) p h k = (h, (k, tt))

  pub signed_fits : (p : Sign) (x : Value) → Fits x → Fits (signed p x)
  signed_fits sign.Plus x h = h
  signed_fits sign.Minus x h = h

  pub not_fits : (negative : Bool) (p : Test) → Holds p → Holds (perhaps_not negative p)
  not_fits true p h = h
  not_fits false p h = h

  -- ---- columns and lists

  pub columns_fit : (scope place n : ℕ) → FitValues sources has (columns_from scope place n)
  columns_fit scope place zero = tt
  columns_fit scope place (suc n) = (tt, columns_fit scope (suc place) n)

  pub span_fits : (o : Option Span) → FitValues sources has (resolved.columns_of o)
  span_fits None = tt
  span_fits (Some p) = columns_fit p.scope p.first (length p.columns)

  pub append_fits : (xs ys : Values) → FitValues sources has xs → FitValues sources has ys → FitValues sources has (append xs ys)
  append_fits q.no_value ys h k = k
  append_fits (q.one_value x xs) ys h k = (h.0, append_fits xs ys h.1 k)

  -- ---- blocks

  pub block_fits : (b distinct : Bool) (list : Values) (from : Froms) (by : Test) (by_places : Option (List ℕ)) (n : ℕ) (having : Test)
      → FitFroms sources has from → FitValues sources has list → Holds by → Holds having → HasKey by_places → froms_width sources from ≡ n
      → Buildable sources has (cond b (q.grouped distinct list from by by_places n having) (q.block distinct list from by))
  block_fits true distinct list from by by_places n having f v w h k e = (f, v, w, h, k, e)
  block_fits false distinct list from by by_places n having f v w h k e = (f, v, w)
