-- The records that a reader has left.
use Rattle.std.specs.Prelude.{ℕ, ◌+◌, ◌≡◌, ◌⊎◌, true, List, [], length, Option, Some, None, IsSome}
use Rattle.csv.specs.Reading.{default_config, records, records_from, strip_bom, Ready, has_failed, is_flexible, reader_config, reader_state, reader_trim, source_of}
use Rattle.csv.specs.declared.parser.State.{State}
use Rattle.csv.specs.declared.reader.Reader.{Reader}
use Rattle.csv.specs.declared.reader.Trim.TheVariants as trim

-- a record: its fields, each a list of bytes
abbrev pub Fields : Type 0
Fields = List (List ℕ)

-- the records of a file, as the defaults of `csv` read it, with no header of its own
abbrev pub records_of : List ℕ → List Fields
records_of bytes = records default_config (strip_bom bytes)

-- the records of the bytes that are left, from a state
abbrev pub left_of : Option (List ℕ) → State → List Fields
left_of None s = []
left_of (Some bytes) s = records_from default_config (length bytes + 1) s bytes

-- the records that a reader has left; none where it has failed
abbrev pub records_left : {R : Type 0} → (R → Option (List ℕ)) → Reader R → List Fields
records_left rem r = left_of (source_of rem r) (reader_state r)

-- a reader that reads with the defaults, any number of fields
abbrev pub IsPlain : {R : Type 0} → (R → Option (List ℕ)) → Reader R → Type 0
IsPlain rem r = (reader_config r ≡ default_config) × (reader_trim r ≡ trim.None) × (is_flexible r ≡ true) × Ready r × IsSome (source_of rem r)

-- it has failed, or reads on
abbrev pub FailedOrPlain : {R : Type 0} → (R → Option (List ℕ)) → Reader R → Type 0
FailedOrPlain rem r = (has_failed r ≡ true) ⊎ IsPlain rem r
