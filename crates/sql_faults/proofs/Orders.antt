-- The lesser of two numbers of faults.
use Rattle.std.proofs.Common.{◌≡◌, ◌∙◌, ◌≤◌, ◌<◌, ℕ, zero, suc, min, Some, refl, sym, arith}
use Rattle.std.proofs.lemmas.Grind.{common_steps}
use Rattle.sql_faults.specs.Numbers.{number}
use Rattle.sql_faults.specs.Rules.{lesser}
use Rattle.sql_faults.specs.declared.fault.Fault.{Fault}
use Rattle.sql_faults.specs.declared.fault.Fault.TheVariants as fault

is-fault : (a : Fault) → 0 < number (Some a)
is-fault fault.UnknownTable = omega arith
is-fault fault.DuplicateRange = omega arith
is-fault fault.UnknownColumn = omega arith
is-fault fault.Ambiguous = omega arith
is-fault fault.TypeMismatch = omega arith
is-fault fault.Degree = omega arith
is-fault fault.Grouping = omega arith
is-fault fault.AggregatePlace = omega arith
is-fault fault.OrderColumn = omega arith

pub lesser_none : (a : ℕ) → lesser a 0 ≡ a
lesser_none zero = refl
lesser_none (suc a) = refl

least-first : (a b : ℕ) → 0 < a → a ≤ b → lesser a b ≡ a
least-first zero b p q = absurd (omega arith)
least-first (suc a) zero p q = absurd (omega arith)
least-first (suc a) (suc b) p q = omega arith

least-second : (a b : ℕ) → 0 < b → b < a → lesser a b ≡ b
least-second zero b p q = absurd (omega arith)
least-second (suc a) zero p q = absurd (omega arith)
least-second (suc a) (suc b) p q = omega arith

pub lesser_first : (a b : Fault) → number (Some a) ≤ number (Some b) → number (Some a) ≡ lesser (number (Some a)) (number (Some b))
lesser_first a b h = sym (least-first (number (Some a)) (number (Some b)) (is-fault a) h)

pub lesser_second : (a b : Fault) → number (Some b) < number (Some a) → number (Some b) ≡ lesser (number (Some a)) (number (Some b))
lesser_second a b h = sym (least-second (number (Some a)) (number (Some b)) (is-fault b) h)

lesser-min : (a b : ℕ) → 0 < a → 0 < b → lesser a b ≡ min a b
lesser-min zero b p q = absurd (omega arith)
lesser-min (suc a) zero p q = absurd (omega arith)
lesser-min (suc a) (suc b) p q = refl

pub lesser_joins : (a b c : ℕ) → lesser (lesser a b) c ≡ lesser a (lesser b c)
lesser_joins zero b c = refl
lesser_joins (suc a) zero c = refl
lesser_joins (suc a) (suc b) zero = lesser_none (min (suc a) (suc b))
lesser_joins (suc a) (suc b) (suc c) =
    lesser-min (min (suc a) (suc b)) (suc c) (omega arith) (omega arith) ∙ (let e : min (min (suc a) (suc b)) (suc c) ≡ min (suc a) (min (suc b) (suc c)) = omega arith in e)
    ∙ sym (lesser-min (suc a) (min (suc b) (suc c)) (omega arith) (omega arith))

-- where the lesser of two is none, both are none
pub both_none : (a b : ℕ) → lesser a b ≡ 0 → (a ≡ 0) × (b ≡ 0)
both_none zero b h = (refl, h)
both_none (suc a) zero h = absurd (cc)
both_none (suc a) (suc b) h = absurd (omega (arith, h))

-- a step of a loop that keeps the least fault
pub ruleset fault_steps = (common_steps, lesser_joins)
