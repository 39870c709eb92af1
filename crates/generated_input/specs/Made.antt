-- The tables that are made from a number.
use Rattle.std.specs.Prelude.{ℕ, zero, suc, pos, ◌+◌, ◌*◌, ◌/◌, ◌%◌, ◌==◌, ◌++◌, if◌then◌else◌, List, [], ◌∷◌, codes, decimal}
use Rattle.row_bag.specs.declared.row.Row.{Row}
use Rattle.row_bag.specs.declared.tables.Table.{Table}
use Rattle.sql_value.specs.declared.cell.Cell.{Cell}
use Rattle.sql_value.specs.declared.cell.Cell.TheVariants.{Int, Text, Null}
use Rattle.sql_value.specs.declared.level.Level.TheVariants.{Yes}

-- the number behind another
abbrev pub next : ℕ → ℕ
next x = (x * 1103515245 + 12345) % 2147483648

-- the number n places behind the seed
unfoldable pub number : ℕ → ℕ → ℕ
number seed zero = seed
number seed (suc n) = next (number seed n)

-- what is drawn of a number
abbrev pub drawn : ℕ → ℕ
drawn x = x / 65536

-- the draw at place n, from 0
abbrev pub draw : ℕ → ℕ → ℕ
draw seed n = drawn (number seed (n + 1))

abbrev pub name_of : ℕ → List ℕ
name_of n = codes "B" ++ decimal n

-- one of fifty names, or null
abbrev pub building : ℕ → Cell
building v = if v % 10 == 0 then Null else Text (name_of (v % 50))

abbrev pub row : List Cell → Row (List Cell)
row cells = record { cells = cells; level = Yes }

-- the row of DEPT at place i, from 0, by its two draws
unfoldable pub dept_of : ℕ → ℕ → ℕ → Row (List Cell)
dept_of i v w = row (Int (pos (i + 1)) ∷ building v ∷ Int (pos (w % 1000)) ∷ [])

abbrev pub dept : ℕ → ℕ → Row (List Cell)
dept seed i = dept_of i (draw seed (2 * i)) (draw seed (2 * i + 1))

-- the row of EMP at place i, from 0, by its three draws, over so many rows of DEPT
unfoldable pub emp_of : ℕ → ℕ → ℕ → ℕ → ℕ → Row (List Cell)
emp_of depts i u v w = row (Int (pos (i + 1)) ∷ Int (pos (u % depts + 1)) ∷ building v ∷ Int (pos (w % 1000)) ∷ [])

abbrev pub emp : ℕ → ℕ → ℕ → Row (List Cell)
emp seed depts i = emp_of depts i (draw seed (2 * depts + 3 * i)) (draw seed (2 * depts + 3 * i + 1)) (draw seed (2 * depts + 3 * i + 2))

-- the rows at so many places, from 0
unfoldable pub rows_at : (ℕ → Row (List Cell)) → ℕ → List (Row (List Cell))
rows_at f zero = []
rows_at f (suc n) = rows_at f n ++ f n ∷ []

-- how many rows DEPT has
abbrev pub depts : ℕ → ℕ
depts rows = rows / 10 + 1

-- DEPT and EMP, of so many rows of EMP; the draws of DEPT come first
abbrev pub made : ℕ → ℕ → List Table
made seed rows =
    record { name = codes "DEPT"; bag = rows_at (dept seed) (depts rows) }
    ∷ record { name = codes "EMP"; bag = rows_at (emp seed (depts rows)) rows }
    ∷ []
