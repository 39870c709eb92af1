-- Operations that go by how often a tuple occurs, and groups.
use Rattle.std.specs.Prelude.{◌≡◌, ℕ, ◌+◌, ◌-◌, min, Bool, List, [], ◌∷◌, ◌++◌, replicate, nat_eq, if◌then◌else◌, Option, Some, None}
use Rattle.std.specs.Cmp.Lexicographic.{slice_cmp}
use Rattle.std.specs.Ordering.{is_eq}
use Rattle.sql_value.specs.Cells.{cell_compare}
use Rattle.sql_value.specs.Level.{greatest, level_of}
use Rattle.sql_value.specs.declared.cell.Cell.{Cell}
use Rattle.sql_value.specs.declared.cell.Cell.TheVariants.{Err}
use Rattle.sql_value.specs.declared.cell.Kind.{Kind}
use Rattle.sql_value.specs.declared.level.Level.{Level}
use Rattle.sql_value.specs.declared.level.Level.TheVariants.{No, Yes}
use Rattle.row_bag.specs.Bags.{bind, if_there, row, total, unit}
use Rattle.row_bag.specs.Errors.{error_among}
use Rattle.row_bag.specs.declared.row.Row.{Row}

-- tuples of cells are equal: their cells are the same data, nulls and errors of one kind too
abbrev pub same_cells : List Cell → List Cell → Bool
same_cells a b = is_eq (slice_cmp cell_compare a b)

-- how often a tuple occurs, at whatever level
abbrev pub multiplicity : {T : Type 0} → (T → T → Bool) → T → List (Row T) → ℕ
multiplicity same c rows = total ◌+◌ 0 (λ k level. if same k c then 1 else 0) rows

-- the greatest level of a tuple; no where it doesn't occur
abbrev pub level_in : {T : Type 0} → (T → T → Bool) → T → List (Row T) → Level
level_in same c rows = total greatest No (λ k level. if same k c then level else No) rows

-- each tuple that occurs, once and at yes
abbrev pub once : {T : Type 0} → (T → T → Bool) → List (Row T) → List (Row T)
once same [] = []
once same (r ∷ rows) = if_there [] (λ c level. if nat_eq (multiplicity same c rows) 0 then unit c else []) r.cells r.level ++ once same rows

-- DISTINCT: each tuple once, at its greatest level
abbrev pub distinct : {T : Type 0} → (T → T → Bool) → List (Row T) → List (Row T)
distinct same rows = bind (once same rows) (λ c. row c (level_in same c rows) ∷ [])

-- UNION: each tuple of both once, at its greatest level
abbrev pub union : {T : Type 0} → (T → T → Bool) → List (Row T) → List (Row T) → List (Row T)
union same xs ys = distinct same (xs ++ ys)

-- so many rows of a tuple, at yes
abbrev pub copies : {T : Type 0} → ℕ → T → List (Row T)
copies n c = replicate n (row c Yes)

-- INTERSECT ALL: each tuple as often as in the operand that has it less often
abbrev pub intersect_all : {T : Type 0} → (T → T → Bool) → List (Row T) → List (Row T) → List (Row T)
intersect_all same xs ys = bind (once same xs) (λ c. copies (min (multiplicity same c xs) (multiplicity same c ys)) c)

-- INTERSECT: each tuple that occurs in both, once
abbrev pub intersect : {T : Type 0} → (T → T → Bool) → List (Row T) → List (Row T) → List (Row T)
intersect same xs ys = bind (once same xs) (λ c. copies (min 1 (multiplicity same c ys)) c)

-- EXCEPT ALL: each tuple of the first as often as it occurs there more often than in the second
abbrev pub except_all : {T : Type 0} → (T → T → Bool) → List (Row T) → List (Row T) → List (Row T)
except_all same xs ys = bind (once same xs) (λ c. copies (multiplicity same c xs - multiplicity same c ys) c)

-- EXCEPT: each tuple of the first that doesn't occur in the second, once
abbrev pub except : {T : Type 0} → (T → T → Bool) → List (Row T) → List (Row T) → List (Row T)
except same xs ys = bind (once same xs) (λ c. copies (1 - multiplicity same c ys) c)

-- the rows of a group
abbrev pub of_group : {T K : Type 0} → (K → K → Bool) → (T → K) → K → List (Row T) → List (Row T)
of_group same key k rows = bind rows (λ c. if same (key c) k then unit c else [])

-- one row for each key that occurs, of the rows that have it
abbrev pub grouped : {T K U : Type 0} → (K → K → Bool) → (T → K) → (K → List (Row T) → U) → List (Row T) → List (Row U)
grouped same key aggregated rows = bind (once same (bind rows (λ c. unit (key c)))) (λ k. unit (aggregated k (of_group same key k rows)))

-- one row of the error, where there is one, and else these rows
abbrev pub error_or_bag : {T : Type 0} → (Kind → T) → Option Kind → List (Row T) → List (Row T)
error_or_bag tuple (Some k) rows = row (tuple k) (level_of k) ∷ []
error_or_bag tuple None rows = rows

-- an operation's rows, or one row of the greatest error among the rows that it reads
abbrev pub collapsed : {T U : Type 0} → (T → Option Kind) → (Kind → U) → List (Row T) → List (Row U) → List (Row U)
collapsed held tuple rows result = error_or_bag tuple (error_among held rows) result

-- a tuple that is an error in so many columns
abbrev pub failed_cells : ℕ → Kind → List Cell
failed_cells columns k = replicate columns (Err k)

-- the same tuples at the same greatest levels
pub record SameLevels {T : Type 0} (same : T → T → Bool) (xs ys : List (Row T)) : Type 0 where
  pub levels : (c : T) → level_in same c xs ≡ level_in same c ys
