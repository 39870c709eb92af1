-- Lists with one more part at their end.
use Rattle.std.proofs.Common.{◌≡◌, false, List, [], ◌∷◌, ◌++◌, refl, ap}
use Rattle.sql_meaning.specs.declared.resolved.Addend.{Addend}
use Rattle.sql_meaning.specs.declared.resolved.Multiplier.{Multiplier}
use Rattle.sql_meaning.specs.declared.resolved.Test.{Test}
use Rattle.sql_meaning.specs.ResolvedShown as shown
use Rattle.sql_meaning.specs.ResolvedTrees as q
use Rattle.sql_ast.specs.declared.word.AdditiveOp.{AdditiveOp}
use Rattle.sql_ast.specs.declared.word.MultiplicativeOp.{MultiplicativeOp}
use Rattle.sql_names.specs.Forms.{multiplies, sums, wants_all, wants_any}
use Rattle.sql_names.specs.Resolved.{both, either, more_addends, more_multipliers, more_tests, plus, times}

pub addends_pushed : (xs : List Addend) (y : Addend) → shown.addend_list (xs ++ y ∷ []) ≡ more_addends (shown.addend_list xs) y.op (shown.value y.value)
addends_pushed [] y = refl
addends_pushed (x ∷ xs) y = ap (q.one_addend x.op (shown.value x.value)) (addends_pushed xs y)

pub multipliers_pushed : (xs : List Multiplier) (y : Multiplier) → shown.multiplier_list (xs ++ y ∷ []) ≡ more_multipliers (shown.multiplier_list xs) y.op (shown.value y.value)
multipliers_pushed [] y = refl
multipliers_pushed (x ∷ xs) y = ap (q.one_multiplier x.op (shown.value x.value)) (multipliers_pushed xs y)

pub tests_pushed : (xs : List Test) (y : Test) → shown.test_list (xs ++ y ∷ []) ≡ more_tests (shown.test_list xs) (shown.test y)
tests_pushed [] y = refl
tests_pushed (x ∷ xs) y = ap (q.one_test (shown.test x)) (tests_pushed xs y)

-- ---- chains of two operands

pub plus_first : (a : q.Value) (o : AdditiveOp) (b : q.Value) → sums a ≡ false → plus a o b ≡ q.sum a (q.one_addend o b q.no_addend)
plus_first (q.number n) o b h = refl
plus_first (q.text x) o b h = refl
plus_first (q.null t) o b h = refl
plus_first (q.column d i) o b h = refl
plus_first (q.sum x xs) o b h = absurd (cc)
plus_first (q.product x xs) o b h = refl
plus_first (q.negative x) o b h = refl
plus_first (q.searched xs z) o b h = refl
plus_first (q.simple x xs z) o b h = refl
plus_first (q.coalesce x xs) o b h = refl
plus_first (q.null_if x z) o b h = refl
plus_first (q.scalar body) o b h = refl
plus_first q.count_all o b h = refl
plus_first (q.aggregate f d x) o b h = refl

pub times_first : (a : q.Value) (o : MultiplicativeOp) (b : q.Value) → multiplies a ≡ false → times a o b ≡ q.product a (q.one_multiplier o b q.no_multiplier)
times_first (q.number n) o b h = refl
times_first (q.text x) o b h = refl
times_first (q.null t) o b h = refl
times_first (q.column d i) o b h = refl
times_first (q.sum x xs) o b h = refl
times_first (q.product x xs) o b h = absurd (cc)
times_first (q.negative x) o b h = refl
times_first (q.searched xs z) o b h = refl
times_first (q.simple x xs z) o b h = refl
times_first (q.coalesce x xs) o b h = refl
times_first (q.null_if x z) o b h = refl
times_first (q.scalar body) o b h = refl
times_first q.count_all o b h = refl
times_first (q.aggregate f d x) o b h = refl

pub both_first : (a b : q.Test) → wants_all a ≡ false → both a b ≡ q.all (q.one_test a (q.one_test b q.no_test))
both_first (q.all ps) b h = absurd (cc)
both_first (q.any ps) b h = refl
both_first (q.negated r) b h = refl
both_first (q.compare x op y) b h = refl
both_first (q.quantified x op each body) b h = refl
both_first (q.between x y z) b h = refl
both_first (q.among x xs) b h = refl
both_first (q.among_rows x body) b h = refl
both_first (q.like x y) b h = refl
both_first (q.is_null x) b h = refl
both_first (q.exists body) b h = refl

pub either_first : (a b : q.Test) → wants_any a ≡ false → either a b ≡ q.any (q.one_test a (q.one_test b q.no_test))
either_first (q.all ps) b h = refl
either_first (q.any ps) b h = absurd (cc)
either_first (q.negated r) b h = refl
either_first (q.compare x op y) b h = refl
either_first (q.quantified x op each body) b h = refl
either_first (q.between x y z) b h = refl
either_first (q.among x xs) b h = refl
either_first (q.among_rows x body) b h = refl
either_first (q.like x y) b h = refl
either_first (q.is_null x) b h = refl
either_first (q.exists body) b h = refl
