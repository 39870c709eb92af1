-- What a section adds to each number of a tally, and the exit status of a tally.
use Rattle.std.specs.Prelude.{ℕ, zero, suc}
use Rattle.io_edge.specs.Causes.{raised}
use Rattle.sql_cases.specs.declared.cases.Outcome.{Outcome}
use Rattle.sql_cases.specs.declared.cases.Outcome.TheVariants.{Taken, AsWanted, Otherwise, Faulty}

-- a case counts once, however it is answered
abbrev pub cases_after : Outcome → ℕ → ℕ
cases_after Taken n = n
cases_after AsWanted n = raised n
cases_after (Otherwise _) n = raised n
cases_after (Faulty _) n = n

-- the cases that are answered otherwise
abbrev pub others_after : Outcome → ℕ → ℕ
others_after Taken n = n
others_after AsWanted n = n
others_after (Otherwise _) n = raised n
others_after (Faulty _) n = n

-- what can't be read
abbrev pub faults_after : Outcome → ℕ → ℕ
faults_after Taken n = n
faults_after AsWanted n = n
faults_after (Otherwise _) n = n
faults_after (Faulty _) n = raised n

-- 2 where something can't be read, else 1 where a case is answered otherwise, else 0
abbrev pub status_by : (faults others : ℕ) → ℕ
status_by zero zero = 0
status_by zero (suc _) = 1
status_by (suc _) _ = 2
