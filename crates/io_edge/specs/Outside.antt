-- What files and a sink tell of themselves, and what a call does to it.
use Rattle.std.specs.Prelude.{ℕ, ◌≡◌, ◌<◌, ◌≤◌, Bool, true, false, List, [], ◌∷◌, ◌++◌, length, take, Option, Some, None, IfSome, option_map, Result, Ok, Err, if◌then◌else◌}
use Rattle.std.specs.Str.{bytes_eq}
use Rattle.io_edge.specs.Causes.{raised}
use Rattle.io_edge.specs.declared.files.ReadRefusal.{ReadRefusal}
use Rattle.io_edge.specs.declared.files.ReadRefusal.TheVariants.{TooLarge, Failed, Memory}

-- a file: its name and its bytes
abbrev pub File : Type 0
File = List ℕ × List ℕ

-- one read: the name that was asked for, and whether the read failed
abbrev pub Ask : Type 0
Ask = List ℕ × Bool

-- what files tell: their names and bytes (of two of one name the first counts), and the reads so far
pub record Told : Type 0 where
  pub files : List File
  pub asked : List Ask

-- the bytes of a name
abbrev pub found : List File → List ℕ → Option (List ℕ)
found [] name = None
found (file ∷ files) name = if bytes_eq file.0 name then Some file.1 else found files name

-- a read that does not end for memory is noted, as failed or not
abbrev pub note : List ℕ → Result (Unit {0}) ReadRefusal → List Ask
note name (Ok done) = (name, false) ∷ []
note name (Err TooLarge) = (name, false) ∷ []
note name (Err Failed) = (name, true) ∷ []
note name (Err Memory) = []

abbrev pub with_asked : List Ask → Told → Told
with_asked more told = record told { asked = told.asked ++ more }

-- what a read leaves of what is told
abbrev pub told_after : List ℕ → Result (Unit {0}) ReadRefusal → Option Told → Option Told
told_after name result told = option_map (with_asked (note name result)) told

-- the name stands for these bytes, where it is told
abbrev pub StandsFor : Option Told → List ℕ → List ℕ → Type 0
StandsFor told name bytes = IfSome told (λ t. found t.files name ≡ Some bytes)

-- the name stands for more bytes than the limit, where it is told
abbrev pub IsOver : Option Told → List ℕ → ℕ → Type 0
IsOver told name limit = IfSome told (λ t. IfSome (found t.files name) (λ bytes. limit < length bytes) × (found t.files name ≡ None → ⊥))

-- the count of faults after a read that raises it where it fails, and nowhere else
abbrev pub faults_after : Result (Unit {0}) ReadRefusal → ℕ → ℕ
faults_after (Ok done) count = count
faults_after (Err TooLarge) count = count
faults_after (Err Failed) count = raised count
faults_after (Err Memory) count = count

-- how many bytes a write took
abbrev pub taken : {E : Type 0} → Result ℕ E → ℕ
taken (Ok n) = n
taken (Err e) = 0

-- a write takes a byte at least, of a piece that has one
abbrev pub TakesSome : ℕ → ℕ → Type 0
TakesSome size n = (n ≤ size) × (0 < size → 0 < n)

-- what is written after more bytes
abbrev pub written_after : List ℕ → Option (List ℕ) → Option (List ℕ)
written_after more written = option_map (λ w. w ++ more) written

-- a proper prefix of the bytes was written
abbrev pub StopsShort : Option (List ℕ) → Option (List ℕ) → List ℕ → Type 0
StopsShort before after bytes = (k : ℕ) × (k < length bytes) × (after ≡ written_after (take k bytes) before)
