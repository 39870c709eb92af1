-- What a call that reads files is to come to, and how that is told of what it did.
use Rattle.std.specs.Prelude.{ℕ, ◌≡◌, ⊤, nat_lt, if◌then◌else◌, List, [], ◌∷◌, ◌++◌, length, Option, Some, None, option_map, Result, Ok, Err, encode_utf8_all}
use Rattle.std.specs.Bool.{MatchBool}
use Rattle.io_edge.specs.Causes.{Rose}
use Rattle.io_edge.specs.Outside.{Ask, File, Told, found, with_asked}
use Rattle.io_edge.specs.declared.fetch.Interruption.{Interruption}
use Rattle.io_edge.specs.declared.fetch.Interruption.TheVariants.{ReadFault, Memory}

-- the names that are read, in order, and what the call comes to, or none where the last of these names is missing
pub record Outcome (X : Type 0) : Type 0 where
  pub names : List (List ℕ)
  pub end : Option X

-- it comes to this, and reads nothing
abbrev pub done : {X : Type 0} → X → Outcome X
done x = record { names = []; end = Some x }

abbrev pub missing : {X : Type 0} → Outcome X
missing = record { names = []; end = None }

-- first this, and then the rest, which goes by what came of it
abbrev pub onward : {X Y : Type 0} → Option X → (X → Outcome Y) → Outcome Y
onward None rest = missing
onward (Some x) rest = rest x

infixl 10 ◌>>=◌
abbrev pub ◌>>=◌ : {X Y : Type 0} → Outcome X → (X → Outcome Y) → Outcome Y
first >>= rest = let second = onward first.end rest in record { names = first.names ++ second.names; end = second.end }

-- the bytes of a file, or none where they are more than the limit
abbrev pub within : ℕ → List ℕ → Option (List ℕ)
within limit bytes = if nat_lt limit (length bytes) then None else Some bytes

-- one read: the bytes of a name, or none where they are more than the limit
abbrev pub read : List File → List ℕ → ℕ → Outcome (Option (List ℕ))
read files name limit = record { names = name ∷ []; end = option_map (within limit) (found files name) }

-- how a call ended: with an answer, at a name whose read failed, or for want of memory
pub data Ended (X : Type 0) : Type 0 where
  answered : X → Ended X
  faulted : List ℕ → Ended X
  starved : Ended X

-- the end that a result tells of
abbrev pub ended : {X : Type 0} → Result X Interruption → Ended X
ended (Ok x) = answered x
ended (Err (ReadFault name)) = faulted (encode_utf8_all name)
ended (Err Memory) = starved

-- these reads are of the first of the names, in order, and none follows one that failed
abbrev pub AskedOf : List (List ℕ) → List Ask → Type 0
AskedOf names [] = ⊤
AskedOf [] (a ∷ asks) = ⊥
AskedOf (name ∷ names) (a ∷ asks) = (a.0 ≡ name) × MatchBool a.1 (asks ≡ []) (AskedOf names asks)

-- the name whose read failed
abbrev pub failed_name : List Ask → Option (List ℕ)
failed_name [] = None
failed_name (a ∷ asks) = if a.1 then Some a.0 else failed_name asks

-- after these reads a call ended so: an answer is that of the outcome, all its names having been read, and a fault is that of the read which failed
abbrev pub EndsAs : {X : Type 0} → Outcome X → List Ask → Ended X → Type 0
EndsAs o asks (answered x) = (failed_name asks ≡ None) × (length asks ≡ length o.names) × (o.end ≡ Some x)
EndsAs o asks (faulted name) = failed_name asks ≡ Some name
EndsAs o asks starved = ⊤

-- what came of a call over files that tell of themselves: it read names of the outcome and nothing else, left the files, and ended as the outcome says
abbrev pub Comes : {X : Type 0} → Option Told → Option Told → (List File → Outcome X) → Ended X → Type 0
Comes None after o end = ⊤
Comes (Some t) None o end = ⊥
Comes (Some t) (Some u) o end = (asks : List Ask) × (u ≡ with_asked asks t) × AskedOf (o t.files).names asks × EndsAs (o t.files) asks end

-- a fault of a read is answered only where the count of faults rose
abbrev pub RoseIfFault : {X : Type 0} → Result X Interruption → ℕ → ℕ → Type 0
RoseIfFault (Ok x) before now = ⊤
RoseIfFault (Err (ReadFault name)) before now = Rose before now
RoseIfFault (Err Memory) before now = ⊤
