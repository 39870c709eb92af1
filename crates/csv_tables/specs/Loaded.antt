-- What a call that loads tables tells.
use Rattle.std.specs.Prelude.{ℕ, ◌≡◌, ⊤, Result, Ok, Err, encode_utf8_all}
use Rattle.io_edge.specs.Causes.{Rose}
use Rattle.io_edge.specs.Outcome.{Ended, answered, faulted, starved}
use Rattle.io_edge.specs.declared.fetch.Interruption.{Interruption}
use Rattle.io_edge.specs.declared.fetch.Interruption.TheVariants as i
use Rattle.csv_tables.specs.TableFile.{Refusal}
use Rattle.csv_tables.specs.Rules.{Fault}
use Rattle.csv_tables.specs.declared.refusal.DataRefusal.{DataRefusal}
use Rattle.csv_tables.specs.declared.refusal.DataRefusal.TheVariants.{Refused, ReadFault, Memory}
use Rattle.csv_tables.specs.declared.refusal.TableRefusal.{TableRefusal}
use Rattle.csv_tables.specs.declared.refusal.TableRefusal.TheVariants as from_table

-- the end that a result tells of
abbrev pub loaded : {X : Type 0} → Result X DataRefusal → Ended (Result X Refusal)
loaded (Ok x) = answered (Ok x)
loaded (Err (Refused number table row)) = answered (Err (record { number = number; table = table; row = row }))
loaded (Err (ReadFault name)) = faulted (encode_utf8_all name)
loaded (Err Memory) = starved

-- the rows, or the fault, are these, or memory ran out
abbrev pub Gives : {X : Type 0} → Result X Fault → Result X TableRefusal → Type 0
Gives expected (Ok x) = expected ≡ Ok x
Gives expected (Err (from_table.Broken rule number)) = expected ≡ Err (record { rule = rule; record_number = number })
Gives expected (Err from_table.Memory) = ⊤

-- the refusal that a read ends in
abbrev pub interrupted : Interruption → DataRefusal
interrupted (i.ReadFault name) = ReadFault name
interrupted i.Memory = Memory

-- the end is this answer, or memory ran out
abbrev pub Answers : {X : Type 0} → X → Ended X → Type 0
Answers x (answered y) = y ≡ x
Answers x (faulted name) = ⊥
Answers x starved = ⊤

-- a fault of a read is answered only where the count of faults rose
abbrev pub RoseIfReadFault : {X : Type 0} → Result X DataRefusal → ℕ → ℕ → Type 0
RoseIfReadFault (Ok x) before now = ⊤
RoseIfReadFault (Err (Refused number table row)) before now = ⊤
RoseIfReadFault (Err (ReadFault name)) before now = Rose before now
RoseIfReadFault (Err Memory) before now = ⊤
