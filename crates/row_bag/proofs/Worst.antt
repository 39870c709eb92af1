-- The greatest error of several doesn't depend on their order.
use Rattle.std.proofs.Common.{ℕ, ◌≡◌, ◌∙◌, Option, Some, None, cond, nat_eq, nat_le, max, refl, sym, ap, arith, inl, inr}
use Rattle.std.proofs.lemmas.Bool.{cases_Bool, leb-false, leb-true}
use Rattle.sql_value.specs.Cells.{kind_rank, worse, worst_of}
use Rattle.sql_value.specs.declared.cell.Kind.{Kind}
use Rattle.sql_value.specs.declared.cell.Kind.TheVariants.{Cardinality, Division, Overflow}
use Rattle.row_bag.specs.Bags.{IsCommutativeMonoid}

kind_at : ℕ → Kind
kind_at n = cond (nat_eq n 0) Cardinality (cond (nat_eq n 1) Division Overflow)

at-rank : (k : Kind) → kind_at (kind_rank k) ≡ k
unfolding kind_at
at-rank Cardinality = refl
at-rank Division = refl
at-rank Overflow = refl

-- a rank has one kind
same-rank : (j k : Kind) → kind_rank j ≡ kind_rank k → j ≡ k
same-rank j k e = sym (at-rank j) ∙ ap kind_at e ∙ at-rank k

worse-rank : (j k : Kind) → kind_rank (worse j k) ≡ max (kind_rank j) (kind_rank k)
worse-rank j k = elim (cases_Bool (nat_le (kind_rank j) (kind_rank k))) [
  | inl e ↦ rw e (let p = leb-true (kind_rank j) (kind_rank k) e in omega arith)
  | inr e ↦ rw e (let p = leb-false (kind_rank j) (kind_rank k) e in omega arith)
]

worse-associative : (j k l : Kind) → worse (worse j k) l ≡ worse j (worse k l)
worse-associative j k l =
    same-rank _ _ (let w = worse-rank (worse j k) l in let x = worse-rank j k in let y = worse-rank j (worse k l) in let z = worse-rank k l in omega arith)

worse-commutative : (j k : Kind) → worse j k ≡ worse k j
worse-commutative j k = same-rank _ _ (let x = worse-rank j k in let y = worse-rank k j in omega arith)

worst-associative : (a b c : Option Kind) → worst_of (worst_of a b) c ≡ worst_of a (worst_of b c)
worst-associative None b c = refl
worst-associative (Some j) None c = refl
worst-associative (Some j) (Some k) None = refl
worst-associative (Some j) (Some k) (Some l) = ap (λ (w : Kind). Some w) (worse-associative j k l)

worst-commutative : (a b : Option Kind) → worst_of a b ≡ worst_of b a
worst-commutative None None = refl
worst-commutative None (Some k) = refl
worst-commutative (Some j) None = refl
worst-commutative (Some j) (Some k) = ap (λ (w : Kind). Some w) (worse-commutative j k)

-- the greatest error of those that there are
pub worst-monoid : IsCommutativeMonoid (Option Kind) worst_of None
worst-monoid = record { associative = worst-associative; commutative = worst-commutative; unit = λ a. refl }
