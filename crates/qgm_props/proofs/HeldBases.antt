-- What is inferred of a base holds over tables that satisfy it.
use Rattle.std.proofs.Common.{ℕ, zero, suc, ◌≡◌, ◌≢◌, ◌==◌, Bool, true, List, [], ◌∷◌, Option, Some, None, eqb-true, refl, subst, inl, inr}
use Rattle.row_bag.specs.Verdict.{is_there}
use Rattle.std.proofs.lemmas.Bool.{and_parts, or_cases}
use Rattle.row_bag.specs.Errors.{error_at}
use Rattle.row_bag.specs.Order.{cell_of}
use Rattle.row_bag.specs.declared.tables.Table.{Table}
use Rattle.sql_value.specs.declared.cell.Cell.{Cell}
use Rattle.sql_value.specs.declared.cell.Cell.TheVariants.{Int, Text, Null, Err}
use Rattle.sql_value.specs.declared.level.Level.{Level}
use Rattle.sql_value.specs.declared.level.Level.TheVariants.{No, Cardinality, Division, Overflow, Yes}
use Rattle.std.specs.List.{list_all}
use Rattle.sql_value.specs.declared.order_key.SqlType.{SqlType}
use Rattle.sql_value.specs.declared.order_key.SqlType.TheVariants.{Integer, Varchar}
use Rattle.list_laws.specs.Lists.{In, holds}
use Rattle.qgm_core.specs.declared.kinds.BaseTable.{BaseTable}
use Rattle.qgm_core.specs.declared.node.Node.{Node}
use Rattle.qgm_meaning.specs.Meaning.{rows_or_none}
use Rattle.qgm_meaning.specs.Values.{Bag}
use Rattle.qgm_meaning.specs.Satisfies.{FoundSatisfies, Satisfies, SatisfiesBy, are_of, have_values, is_of, is_value, is_yes}
use Rattle.qgm_props.specs.Facts.{Each, IsErrorFree, IsNotNull, is_sound}
use Rattle.qgm_props.proofs.EachClean.{EachClean}
use Rattle.qgm_props.proofs.Terms.{no-cell}

-- each base among these is satisfied
pub satisfied : (tables : List Table) (ns : List Node) (n : Node) → Satisfies tables ns → In n ns → SatisfiesBy n.parts.kind tables
satisfied tables [] n s i = elim i [ ]
satisfied tables (m ∷ ns) n s i = elim i [
  | inl e ↦ subst (λ (m : Node). SatisfiesBy m.parts.kind tables) e s.0
  | inr j ↦ satisfied tables ns n s.1 j
]

of-sound : (t : SqlType) (x : Cell) → is_of t x ≡ true → is_sound x ≡ true
of-sound Integer Null h = refl
of-sound Varchar Null h = refl
of-sound Integer (Err k) h = absurd (let z : ⊥ = cc in z)
of-sound Varchar (Err k) h = absurd (let z : ⊥ = cc in z)
of-sound Integer (Int n) h = h
of-sound Integer (Text s) h = refl
of-sound Varchar (Int n) h = absurd (let z : ⊥ = cc in z)
of-sound Varchar (Text s) h = refl

typed-sound : (ts : List SqlType) (xs : List Cell) → are_of ts xs ≡ true → (k : ℕ) → is_sound (cell_of k xs) ≡ true
typed-sound ts [] h k = no-cell k
typed-sound [] (x ∷ xs) h k = absurd (let z : ⊥ = cc in z)
typed-sound (t ∷ ts) (x ∷ xs) h zero = refl
typed-sound (t ∷ ts) (x ∷ xs) h (suc zero) = of-sound t x (and_parts (is_of t x) (are_of ts xs) h).0
typed-sound (t ∷ ts) (x ∷ xs) h (suc (suc k)) = typed-sound ts xs (and_parts (is_of t x) (are_of ts xs) h).1 (suc k)

-- each element of a list that all pass
all-each : {X : Type 0} (test : X → Bool) (P : X → Type 0) (xs : List X) → ((x : X) → test x ≡ true → P x) → list_all test xs ≡ true → Each P xs
all-each test P [] f h = tt
all-each test P (x ∷ xs) f h = let a = and_parts (test x) (list_all test xs) h in (f x a.0, all-each test P xs f a.1)

yes-clean : (l : Level) → is_yes l ≡ true → error_at l ≡ None
yes-clean No h = absurd (let z : ⊥ = cc in z)
yes-clean Cardinality h = absurd (let z : ⊥ = cc in z)
yes-clean Division h = absurd (let z : ⊥ = cc in z)
yes-clean Overflow h = absurd (let z : ⊥ = cc in z)
yes-clean Yes h = refl

value-not_null : (x : Cell) → is_value x ≡ true → x ≢ Null
value-not_null Null h e = let z : ⊥ = cc in z
value-not_null (Int n) h e = let z : ⊥ = cc in z
value-not_null (Text n) h e = let z : ⊥ = cc in z
value-not_null (Err n) h e = let z : ⊥ = cc in z

filled : (ks : List ℕ) (cells : List Cell) (k : ℕ) → have_values ks cells ≡ true → holds k ks ≡ true → cell_of k cells ≢ Null
filled [] cells k e h = absurd (let z : ⊥ = cc in z)
filled (j ∷ ks) cells k e h = let a = and_parts (is_value (cell_of j cells)) (have_values ks cells) e in elim (or_cases (j == k) (holds k ks) h) [
  | inl t ↦ subst (λ k. cell_of k cells ≢ Null) (eqb-true j k t) (value-not_null (cell_of j cells) a.0)
  | inr t ↦ filled ks cells k a.1 t
]

module _ (table : BaseTable) where
  pub base-clean : (o : Option Bag) → FoundSatisfies table o → EachClean (rows_or_none o)
  base-clean None f = absurd f
  base-clean (Some rows) f = all-each (λ r. is_yes r.level) (λ r. error_at r.level ≡ None) rows (λ r h. yes-clean r.level h) f.at_yes

  pub base-free : (o : Option Bag) (k : ℕ) → FoundSatisfies table o → IsErrorFree k (rows_or_none o)
  base-free None k f = absurd f
  base-free (Some rows) k f = all-each (λ r. are_of table.types r.cells) (λ r. is_there r ≡ true → is_sound (cell_of k r.cells) ≡ true) rows (λ r h _. typed-sound table.types r.cells h k) f.types

  pub base-filled : (o : Option Bag) (k : ℕ) → FoundSatisfies table o → holds k table.not_null ≡ true → IsNotNull k (rows_or_none o)
  base-filled None k f h = absurd f
  base-filled (Some rows) k f h = all-each (λ r. have_values table.not_null r.cells) (λ r. is_there r ≡ true → cell_of k r.cells ≢ Null) rows (λ r v _. filled table.not_null r.cells k v h) f.not_null
