-- What operators over resolved parts mean.
use Rattle.std.proofs.Common.{◌≡◌, ℕ, Bool, true, false, List, ◌∷◌, ◌++◌, refl, ap, sym, ◌∙◌}
use Rattle.row_bag.specs.declared.row.Row.{Row}
use Rattle.row_bag.proofs.Chains.{and_true, or_false}
use Rattle.sql_ast.specs.declared.word.AdditiveOp.{AdditiveOp}
use Rattle.sql_ast.specs.declared.word.MultiplicativeOp.{MultiplicativeOp}
use Rattle.sql_ast.specs.declared.word.Sign.{Sign}
use Rattle.sql_ast.specs.declared.word.Sign.TheVariants as sign
use Rattle.sql_value.specs.Truths.{and, or, truth_of}
use Rattle.sql_value.specs.declared.cell.Cell.{Cell}
use Rattle.sql_value.specs.declared.truth.Truth.{Truth}
use Rattle.sql_value.proofs.Laws.{and-associative, and-commutative, or-associative, or-commutative}
use Rattle.sql_meaning.specs.Groups.{Group}
use Rattle.sql_meaning.specs.Values as n
use Rattle.sql_meaning.specs.Values.{additive, multiplicative}
use Rattle.sql_meaning.specs.ResolvedMeaning as c
use Rattle.sql_meaning.specs.ResolvedTrees.{Value, Addends, Multipliers, Values, Test, Tests}
use Rattle.sql_meaning.specs.ResolvedTrees as q
use Rattle.sql_names.specs.Resolved.{append, both, either, more_addends, more_multipliers, more_tests, perhaps_not, plus, signed, times}

module _ (known : List ℕ → List (Row (List Cell))) (scopes : List (List Cell)) (group : Group (List Cell)) where
  abbrev value : Value → Cell
  value x = c.value known x scopes group

  abbrev truth : Test → Truth
  truth p = c.truth known p scopes group

  summed_more : (x : Cell) (xs : Addends) (op : AdditiveOp) (y : Value) → c.summed known x (more_addends xs op y) scopes group ≡ additive op (c.summed known x xs scopes group) (value y)
  summed_more x q.no_addend op y = refl
  summed_more x (q.one_addend o z xs) op y = summed_more (additive o x (value z)) xs op y

  pub plus_value : (x : Value) (op : AdditiveOp) (y : Value) → value (plus x op y) ≡ additive op (value x) (value y)
  plus_value (q.sum x xs) op y = summed_more (value x) xs op y
  plus_value (q.number n) op y = refl
  plus_value (q.text x) op y = refl
  plus_value (q.null t) op y = refl
  plus_value (q.column d i) op y = refl
  plus_value (q.product x xs) op y = refl
  plus_value (q.negative x) op y = refl
  plus_value (q.searched xs z) op y = refl
  plus_value (q.simple x xs z) op y = refl
  plus_value (q.coalesce x xs) op y = refl
  plus_value (q.null_if x z) op y = refl
  plus_value (q.scalar body) op y = refl
  plus_value q.count_all op y = refl
  plus_value (q.aggregate f d x) op y = refl

  multiplied_more : (x : Cell) (xs : Multipliers) (op : MultiplicativeOp) (y : Value) → c.multiplied known x (more_multipliers xs op y) scopes group ≡ multiplicative op (c.multiplied known x xs scopes group) (value y)
  multiplied_more x q.no_multiplier op y = refl
  multiplied_more x (q.one_multiplier o z xs) op y = multiplied_more (multiplicative o x (value z)) xs op y

  pub times_value : (x : Value) (op : MultiplicativeOp) (y : Value) → value (times x op y) ≡ multiplicative op (value x) (value y)
  times_value (q.product x xs) op y = multiplied_more (value x) xs op y
  times_value (q.number n) op y = refl
  times_value (q.text x) op y = refl
  times_value (q.null t) op y = refl
  times_value (q.column d i) op y = refl
  times_value (q.sum x xs) op y = refl
  times_value (q.negative x) op y = refl
  times_value (q.searched xs z) op y = refl
  times_value (q.simple x xs z) op y = refl
  times_value (q.coalesce x xs) op y = refl
  times_value (q.null_if x z) op y = refl
  times_value (q.scalar body) op y = refl
  times_value q.count_all op y = refl
  times_value (q.aggregate f d x) op y = refl

  pub signed_value : (p : Sign) (x : Value) → value (signed p x) ≡ n.signed p (value x)
  signed_value sign.Plus x = refl
  signed_value sign.Minus x = refl

  every_more : (ps : Tests) (p : Test) → c.every known (more_tests ps p) scopes group ≡ and (c.every known ps scopes group) (truth p)
  every_more q.no_test p = and-commutative (truth p) (truth_of true)
  every_more (q.one_test r rs) p = ap (and (truth r)) (every_more rs p) ∙ sym (and-associative (truth r) (c.every known rs scopes group) (truth p))

  pub both_truth : (r p : Test) → truth (both r p) ≡ and (truth r) (truth p)
  both_truth (q.all ps) p = every_more ps p
  both_truth (q.any ps) p = ap (and (truth (q.any ps))) (and_true (truth p))
  both_truth (q.negated r) p = ap (and (truth (q.negated r))) (and_true (truth p))
  both_truth (q.compare x op y) p = ap (and (truth (q.compare x op y))) (and_true (truth p))
  both_truth (q.quantified x op each body) p = ap (and (truth (q.quantified x op each body))) (and_true (truth p))
  both_truth (q.between x y z) p = ap (and (truth (q.between x y z))) (and_true (truth p))
  both_truth (q.among x xs) p = ap (and (truth (q.among x xs))) (and_true (truth p))
  both_truth (q.among_rows x body) p = ap (and (truth (q.among_rows x body))) (and_true (truth p))
  both_truth (q.like x y) p = ap (and (truth (q.like x y))) (and_true (truth p))
  both_truth (q.is_null x) p = ap (and (truth (q.is_null x))) (and_true (truth p))
  both_truth (q.exists body) p = ap (and (truth (q.exists body))) (and_true (truth p))

  some_more : (ps : Tests) (p : Test) → c.some known (more_tests ps p) scopes group ≡ or (c.some known ps scopes group) (truth p)
  some_more q.no_test p = or-commutative (truth p) (truth_of false)
  some_more (q.one_test r rs) p = ap (or (truth r)) (some_more rs p) ∙ sym (or-associative (truth r) (c.some known rs scopes group) (truth p))

  pub either_truth : (r p : Test) → truth (either r p) ≡ or (truth r) (truth p)
  either_truth (q.any ps) p = some_more ps p
  either_truth (q.all ps) p = ap (or (truth (q.all ps))) (or_false (truth p))
  either_truth (q.negated r) p = ap (or (truth (q.negated r))) (or_false (truth p))
  either_truth (q.compare x op y) p = ap (or (truth (q.compare x op y))) (or_false (truth p))
  either_truth (q.quantified x op each body) p = ap (or (truth (q.quantified x op each body))) (or_false (truth p))
  either_truth (q.between x y z) p = ap (or (truth (q.between x y z))) (or_false (truth p))
  either_truth (q.among x xs) p = ap (or (truth (q.among x xs))) (or_false (truth p))
  either_truth (q.among_rows x body) p = ap (or (truth (q.among_rows x body))) (or_false (truth p))
  either_truth (q.like x y) p = ap (or (truth (q.like x y))) (or_false (truth p))
  either_truth (q.is_null x) p = ap (or (truth (q.is_null x))) (or_false (truth p))
  either_truth (q.exists body) p = ap (or (truth (q.exists body))) (or_false (truth p))

  pub perhaps_not_truth : (negative : Bool) (p : Test) → truth (perhaps_not negative p) ≡ n.perhaps_not negative (truth p)
  perhaps_not_truth true p = refl
  perhaps_not_truth false p = refl

  pub cells_append : (xs ys : Values) → c.cells known (append xs ys) scopes group ≡ c.cells known xs scopes group ++ c.cells known ys scopes group
  cells_append q.no_value ys = refl
  cells_append (q.one_value x xs) ys = ap (λ (zs : List Cell). value x ∷ zs) (cells_append xs ys)
