-- AND, OR, the greatest error and sums, from the left.
use Rattle.std.proofs.lemmas.Grind.{common_steps}
use Rattle.std.proofs.lemmas.Int.{ints}
use Rattle.std.proofs.Common.{◌≡◌, true, false, Option, Some, None, ℤ, pos, ◌+ℤ◌, arith, refl, ◌∙◌}
use Rattle.row_bag.proofs.Levels.{least-yes}
use Rattle.row_bag.proofs.Worst.{worst-monoid}
use Rattle.sql_value.specs.Cells.{worst_of}
use Rattle.sql_value.specs.Level.{greatest}
use Rattle.sql_value.specs.declared.cell.Kind.{Kind}
use Rattle.sql_value.specs.Truths.{and, or, truth_of}
use Rattle.sql_value.specs.declared.level.Level.{Level}
use Rattle.sql_value.specs.declared.level.Level.TheVariants.{No, Cardinality, Division, Overflow, Yes}
use Rattle.sql_value.specs.declared.truth.Truth.{Truth}
use Rattle.sql_value.proofs.Laws.{and-associative, and-commutative, or-associative, or-commutative}

same_truth : {p q : Truth} → p.t ≡ q.t → p.f ≡ q.f → p ≡ q
same_truth {p} {q} t f = λ i. record { t = t i; f = f i }

greatest-no : (a : Level) → greatest a No ≡ a
greatest-no No = refl
greatest-no Cardinality = refl
greatest-no Division = refl
greatest-no Overflow = refl
greatest-no Yes = refl

-- true is nothing to AND, and false nothing to OR
pub and_true : (p : Truth) → and p (truth_of true) ≡ p
and_true p = same_truth (least-yes p.t) (greatest-no p.f)

pub or_false : (p : Truth) → or p (truth_of false) ≡ p
or_false p = same_truth (greatest-no p.t) (least-yes p.f)

pub and_joins : (p q r : Truth) → and (and p q) r ≡ and p (and q r)
and_joins = and-associative

pub true_and : (p : Truth) → and (truth_of true) p ≡ p
true_and p = and-commutative (truth_of true) p ∙ and_true p

pub or_joins : (p q r : Truth) → or (or p q) r ≡ or p (or q r)
or_joins = or-associative

pub false_or : (p : Truth) → or (truth_of false) p ≡ p
false_or p = or-commutative (truth_of false) p ∙ or_false p

pub ruleset and_steps = (common_steps, and_joins, true_and, and_true)

pub ruleset or_steps = (common_steps, or_joins, false_or, or_false)

pub worst_joins : (a b c : Option Kind) → worst_of (worst_of a b) c ≡ worst_of a (worst_of b c)
worst_joins a b c = worst-monoid.associative a b c

pub worst_none : (a : Option Kind) → worst_of a None ≡ a
worst_none None = refl
worst_none (Some k) = refl

pub ruleset worst_steps = (common_steps, worst_joins, worst_none)

pub sum_joins : (a b c : ℤ) → (a +ℤ b) +ℤ c ≡ a +ℤ (b +ℤ c)
sum_joins a b c = omega (arith, ints)

pub sum_zero : (a : ℤ) → a +ℤ pos 0 ≡ a
sum_zero a = omega (arith, ints)

pub zero_sum : (a : ℤ) → pos 0 +ℤ a ≡ a
zero_sum a = omega (arith, ints)

pub ruleset sum_steps = (common_steps, sum_joins, sum_zero, zero_sum)
