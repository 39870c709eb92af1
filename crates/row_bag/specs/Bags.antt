-- Bags of rows at levels: how they are put together, what they add up to, and when they agree.
use Rattle.std.specs.Prelude.{◌≡◌, ◌≢◌, ℕ, ◌+◌, Bool, List, [], ◌∷◌, map, ◌&&◌, nat_eq, if◌then◌else◌}
use Rattle.std.specs.List.{flat_map}
use Rattle.sql_value.specs.Level.{least, rank}
use Rattle.sql_value.specs.declared.level.Level.{Level}
use Rattle.sql_value.specs.declared.level.Level.TheVariants.{No, Cardinality, Division, Overflow, Yes}
use Rattle.row_bag.specs.declared.row.Row.{Row}

-- a tuple at a level
abbrev pub row : {T : Type 0} → T → Level → Row T
row cells level = record { cells = cells; level = level }

-- the rows, each at the lower one of its level and this one
abbrev pub keep : {T : Type 0} → Level → List (Row T) → List (Row T)
keep level rows = map (λ r. row r.cells (least level r.level)) rows

-- one row at yes
abbrev pub unit : {T : Type 0} → T → List (Row T)
unit cells = row cells Yes ∷ []

-- tuples as rows at yes
abbrev pub at_yes : {T : Type 0} → List T → List (Row T)
at_yes tuples = map (λ c. row c Yes) tuples

-- for each row the rows that f gives of its tuple, each at the lower one of both levels
abbrev pub bind : {A B : Type 0} → List (Row A) → (A → List (Row B)) → List (Row B)
bind rows f = flat_map (λ r. keep r.level (f r.cells)) rows

-- what f gives of each element, put together by op from the right; e of none
abbrev pub fold_map : {X M : Type 0} → (M → M → M) → M → (X → M) → List X → M
fold_map op e f [] = e
fold_map op e f (x ∷ xs) = op (f x) (fold_map op e f xs)

-- what f gives of a row that is there; e of a row at no, which isn't there
abbrev pub if_there : {T M : Type 0} → M → (T → Level → M) → T → Level → M
if_there e f cells No = e
if_there e f cells Cardinality = f cells Cardinality
if_there e f cells Division = f cells Division
if_there e f cells Overflow = f cells Overflow
if_there e f cells Yes = f cells Yes

-- what f gives of each row that is there, put together by op
abbrev pub total : {T M : Type 0} → (M → M → M) → M → (T → Level → M) → List (Row T) → M
total op e f rows = fold_map op e (λ r. if_there e f r.cells r.level) rows

-- an operation whose totals don't depend on the order of the rows
pub record IsCommutativeMonoid (M : Type 0) (op : M → M → M) (e : M) : Type 0 where
  pub associative : (a b c : M) → op (op a b) c ≡ op a (op b c)
  pub commutative : (a b : M) → op a b ≡ op b a
  pub unit : (a : M) → op e a ≡ a

-- two levels are the same
abbrev pub same_level : Level → Level → Bool
same_level a b = nat_eq (rank a) (rank b)

-- how often a tuple stands in a bag at a level
abbrev pub count : {T : Type 0} → (T → T → Bool) → T → Level → List (Row T) → ℕ
count same c level rows = fold_map ◌+◌ 0 (λ r. if same r.cells c && same_level r.level level then 1 else 0) rows

-- bags agree: each tuple stands in both equally often at each level other than no
pub record Agree {T : Type 0} (same : T → T → Bool) (xs ys : List (Row T)) : Type 0 where
  pub counts : (c : T) (level : Level) → level ≢ No → count same c level xs ≡ count same c level ys

-- the same by sums, for tuples of any type: whatever number is given to each tuple and level, the rows that are there add up to the same in both
pub record Alike {T : Type 0} (xs ys : List (Row T)) : Type 0 where
  pub sums : (f : T → Level → ℕ) → total ◌+◌ 0 f xs ≡ total ◌+◌ 0 f ys
