-- What files and a sink in memory hold.
use Rattle.std.specs.Prelude.{ℕ, ◌≡◌, ◌⊎◌, ⊤, List, map, Contains, Option, Some, None, Result, Ok, Err}
use Rattle.std.specs.String.{string_bytes}
use Rattle.io_edge.specs.Outside.{File, Ask, Told}
use Rattle.io_edge.specs.declared.files.ReadRefusal.{ReadRefusal}
use Rattle.io_edge.specs.declared.files.ReadRefusal.TheVariants.{TooLarge, Failed, Memory}
use Rattle.io_edge.specs.declared.mem_files.Entry.{Entry}
use Rattle.io_edge.specs.declared.mem_files.MemFiles.{MemFiles}
use Rattle.io_edge.specs.declared.mem_files.Read.{Read}

abbrev pub file_of : Entry → File
file_of e = (string_bytes e.name, e.bytes.items)

abbrev pub ask_of : Read → Ask
ask_of r = (string_bytes r.name, r.failed)

-- what files in memory tell: all
abbrev pub told_of : MemFiles → Option Told
told_of files = Some (record { files = map file_of files.entries.items; asked = map ask_of files.reads.items })

-- a read is to fail: the number of the call is listed, or no file has the name
abbrev pub IsToFail : List ℕ → ℕ → Option (List ℕ) → Type 0
IsToFail failing call bytes = Contains failing call ⊎ (bytes ≡ None)

-- a read fails exactly where it is to fail, want of memory aside
abbrev pub FailsWhere : Result (Unit {0}) ReadRefusal → Type 0 → Type 0
FailsWhere (Ok done) to_fail = to_fail → ⊥
FailsWhere (Err TooLarge) to_fail = to_fail → ⊥
FailsWhere (Err Failed) to_fail = to_fail
FailsWhere (Err Memory) to_fail = ⊤
