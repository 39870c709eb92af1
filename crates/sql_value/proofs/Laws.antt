-- The laws of AND, OR and NOT, and of a row that a condition filters.
use Rattle.std.proofs.Common.{ℕ, zero, suc, ◌≡◌, ◌∙◌, inl, inr, refl, sym, ap, arith, nat_le, min, max}
use Rattle.std.proofs.lemmas.Bool.{cases_Bool, leb-true, leb-false}
use Rattle.sql_value.specs.declared.level.Level.{Level}
use Rattle.sql_value.specs.declared.level.Level.TheVariants.{No, Cardinality, Division, Overflow, Yes}
use Rattle.sql_value.specs.declared.truth.Truth.{Truth}
use Rattle.sql_value.specs.Level.{greatest, least, rank}
use Rattle.sql_value.specs.Truths.{and, keep, negated, or}

level_at : ℕ → Level
level_at zero = No
level_at (suc zero) = Cardinality
level_at (suc (suc zero)) = Division
level_at (suc (suc (suc zero))) = Overflow
level_at (suc (suc (suc (suc n)))) = Yes

at-rank : (a : Level) → level_at (rank a) ≡ a
unfolding level_at
at-rank No = refl
at-rank Cardinality = refl
at-rank Division = refl
at-rank Overflow = refl
at-rank Yes = refl

-- a rank has one level
same-rank : (a b : Level) → rank a ≡ rank b → a ≡ b
same-rank a b e = sym (at-rank a) ∙ ap level_at e ∙ at-rank b

least-rank : (a b : Level) → rank (least a b) ≡ min (rank a) (rank b)
least-rank a b = elim (cases_Bool (nat_le (rank a) (rank b))) [
  | inl e ↦ rw e (let p = leb-true (rank a) (rank b) e in omega arith)
  | inr e ↦ rw e (let p = leb-false (rank a) (rank b) e in omega arith)
]

greatest-rank : (a b : Level) → rank (greatest a b) ≡ max (rank a) (rank b)
greatest-rank a b = elim (cases_Bool (nat_le (rank a) (rank b))) [
  | inl e ↦ rw e (let p = leb-true (rank a) (rank b) e in omega arith)
  | inr e ↦ rw e (let p = leb-false (rank a) (rank b) e in omega arith)
]

least-swaps : (a b : Level) → least a b ≡ least b a
least-swaps a b = same-rank _ _ (let x = least-rank a b in let y = least-rank b a in omega arith)

greatest-swaps : (a b : Level) → greatest a b ≡ greatest b a
greatest-swaps a b = same-rank _ _ (let x = greatest-rank a b in let y = greatest-rank b a in omega arith)

least-joins : (a b c : Level) → least (least a b) c ≡ least a (least b c)
least-joins a b c =
    same-rank _ _ (let w = least-rank (least a b) c in let x = least-rank a b in let y = least-rank a (least b c) in let z = least-rank b c in omega arith)

greatest-joins : (a b c : Level) → greatest (greatest a b) c ≡ greatest a (greatest b c)
greatest-joins a b c =
    same-rank _ _ (let w = greatest-rank (greatest a b) c in let x = greatest-rank a b in let y = greatest-rank a (greatest b c) in let z = greatest-rank b c in omega arith)

least-itself : (a : Level) → least a a ≡ a
least-itself a = same-rank _ _ (let x = least-rank a a in omega arith)

greatest-itself : (a : Level) → greatest a a ≡ a
greatest-itself a = same-rank _ _ (let x = greatest-rank a a in omega arith)

least-absorbs : (a b : Level) → least a (greatest a b) ≡ a
least-absorbs a b = same-rank _ _ (let x = least-rank a (greatest a b) in let y = greatest-rank a b in omega arith)

greatest-absorbs : (a b : Level) → greatest a (least a b) ≡ a
greatest-absorbs a b = same-rank _ _ (let x = greatest-rank a (least a b) in let y = least-rank a b in omega arith)

least-spreads : (a b c : Level) → least a (greatest b c) ≡ greatest (least a b) (least a c)
least-spreads a b c =
    same-rank _ _ (let v = least-rank a (greatest b c) in let w = greatest-rank b c in let x = greatest-rank (least a b) (least a c) in let y = least-rank a b in let z = least-rank a c in omega arith)

greatest-spreads : (a b c : Level) → greatest a (least b c) ≡ least (greatest a b) (greatest a c)
greatest-spreads a b c =
    same-rank _ _ (let v = greatest-rank a (least b c) in let w = least-rank b c in let x = least-rank (greatest a b) (greatest a c) in let y = greatest-rank a b in let z = greatest-rank a c in omega arith)

both : {p q : Truth} → p.t ≡ q.t → p.f ≡ q.f → p ≡ q
both {p} {q} t f = λ i. record { t = t i; f = f i }

pub and-associative : (p q r : Truth) → and (and p q) r ≡ and p (and q r)
and-associative p q r = both (least-joins p.t q.t r.t) (greatest-joins p.f q.f r.f)

pub or-associative : (p q r : Truth) → or (or p q) r ≡ or p (or q r)
or-associative p q r = both (greatest-joins p.t q.t r.t) (least-joins p.f q.f r.f)

pub and-commutative : (p q : Truth) → and p q ≡ and q p
and-commutative p q = both (least-swaps p.t q.t) (greatest-swaps p.f q.f)

pub or-commutative : (p q : Truth) → or p q ≡ or q p
or-commutative p q = both (greatest-swaps p.t q.t) (least-swaps p.f q.f)

pub and-idempotent : (p : Truth) → and p p ≡ p
and-idempotent p = both (least-itself p.t) (greatest-itself p.f)

pub or-idempotent : (p : Truth) → or p p ≡ p
or-idempotent p = both (greatest-itself p.t) (least-itself p.f)

pub and-absorbs : (p q : Truth) → and p (or p q) ≡ p
and-absorbs p q = both (least-absorbs p.t q.t) (greatest-absorbs p.f q.f)

pub or-absorbs : (p q : Truth) → or p (and p q) ≡ p
or-absorbs p q = both (greatest-absorbs p.t q.t) (least-absorbs p.f q.f)

pub and-distributes : (p q r : Truth) → and p (or q r) ≡ or (and p q) (and p r)
and-distributes p q r = both (least-spreads p.t q.t r.t) (greatest-spreads p.f q.f r.f)

pub or-distributes : (p q r : Truth) → or p (and q r) ≡ and (or p q) (or p r)
or-distributes p q r = both (greatest-spreads p.t q.t r.t) (least-spreads p.f q.f r.f)

-- De Morgan
pub not-and : (p q : Truth) → negated (and p q) ≡ or (negated p) (negated q)
not-and p q = both refl refl

pub not-or : (p q : Truth) → negated (or p q) ≡ and (negated p) (negated q)
not-or p q = both refl refl

pub not-not : (p : Truth) → negated (negated p) ≡ p
not-not p = both refl refl

-- a row that two conditions filter, one after the other, is there as far as one that both filter
pub keep-and : (level : Level) (p q : Truth) → keep (keep level p) q ≡ keep level (and p q)
keep-and level p q = least-joins level p.t q.t
