-- The laws of bags that rewriting a query stands on.
use Rattle.std.specs.Prelude.{◌≡◌, ◌↔◌, Bool, List, [], ◌++◌}
use Rattle.sql_value.specs.Truths.{and}
use Rattle.sql_value.specs.declared.level.Level.{Level}
use Rattle.sql_value.specs.declared.level.Level.TheVariants.{No, Yes}
use Rattle.sql_value.specs.declared.truth.Truth.{Truth}
use Rattle.row_bag.specs.Bags.{Agree, Alike, bind, keep, unit}
use Rattle.row_bag.specs.Sets.{distinct, except, except_all, intersect, intersect_all, once, union}
use Rattle.row_bag.specs.Verdict.{those_there}
use Rattle.row_bag.specs.declared.row.Row.{Row}

-- how rows are put together, as equations of lists
pub record BindLaws (T : Type 0) : Type 0 where
  pub nested : (xs : List (Row T)) (f g : T → List (Row T)) → bind (bind xs f) g ≡ bind xs (λ c. bind (f c) g)
  pub of_one : (c : T) (f : T → List (Row T)) → bind (unit c) f ≡ f c
  pub to_one : (xs : List (Row T)) → bind xs unit ≡ xs
  pub kept_twice : (p q : Truth) (xs : List (Row T)) → keep p.t (keep q.t xs) ≡ keep (and p q).t xs
  pub kept_wholly : (xs : List (Row T)) → keep Yes xs ≡ xs
  pub kept_before : (level : Level) (xs : List (Row T)) (f : T → List (Row T)) → keep level (bind xs f) ≡ bind (keep level xs) f
  pub kept_within : (level : Level) (xs : List (Row T)) (f : T → List (Row T)) → keep level (bind xs f) ≡ bind xs (λ c. keep level (f c))

-- agreement by counts is agreement by sums, and an equivalence
pub record AgreementLaws (T : Type 0) (same : T → T → Bool) : Type 0 where
  pub by_sums : (xs ys : List (Row T)) → Agree same xs ys ↔ Alike xs ys
  pub itself : (xs : List (Row T)) → Agree same xs xs
  pub turned : (xs ys : List (Row T)) → Agree same xs ys → Agree same ys xs
  pub chained : (xs ys zs : List (Row T)) → Agree same xs ys → Agree same ys zs → Agree same xs zs

-- operations keep agreement
pub record KeptAgreement (T : Type 0) (same : T → T → Bool) : Type 0 where
  pub appended : (xs ys us vs : List (Row T)) → Agree same xs us → Agree same ys vs → Agree same (xs ++ ys) (us ++ vs)
  pub kept : (level : Level) (xs ys : List (Row T)) → Agree same xs ys → Agree same (keep level xs) (keep level ys)
  pub bound : (xs ys : List (Row T)) (f g : T → List (Row T)) → Agree same xs ys → ((c : T) → Agree same (f c) (g c)) → Agree same (bind xs f) (bind ys g)
  pub taken_once : (xs ys : List (Row T)) → Agree same xs ys → Agree same (once same xs) (once same ys)
  pub of_distinct : (xs ys : List (Row T)) → Agree same xs ys → Agree same (distinct same xs) (distinct same ys)
  pub of_union : (xs ys us vs : List (Row T)) → Agree same xs us → Agree same ys vs → Agree same (union same xs ys) (union same us vs)
  pub of_intersect : (xs ys us vs : List (Row T)) → Agree same xs us → Agree same ys vs → Agree same (intersect same xs ys) (intersect same us vs)
  pub of_intersect_all : (xs ys us vs : List (Row T)) → Agree same xs us → Agree same ys vs → Agree same (intersect_all same xs ys) (intersect_all same us vs)
  pub of_except : (xs ys us vs : List (Row T)) → Agree same xs us → Agree same ys vs → Agree same (except same xs ys) (except same us vs)
  pub of_except_all : (xs ys us vs : List (Row T)) → Agree same xs us → Agree same ys vs → Agree same (except_all same xs ys) (except_all same us vs)

-- what agrees without being the same list
pub record Agreeing (T : Type 0) (same : T → T → Bool) : Type 0 where
  -- independent operands may change places
  pub swapped : (xs ys : List (Row T)) (f : T → T → List (Row T)) → Agree same (bind xs (λ a. bind ys (λ b. f a b))) (bind ys (λ b. bind xs (λ a. f a b)))
  -- a row at no isn't there
  pub absent : (xs : List (Row T)) → Agree same (keep No xs) []
  pub without_absent : (xs : List (Row T)) → Agree same xs (those_there xs)
