-- What a name stands for.
use Rattle.std.specs.Prelude.{List, [], ◌∷◌, Option, Some, None, if◌then◌else◌, option_and_then}
use Rattle.std.specs.Str.{bytes_eq}
use Rattle.clap.specs.Words.{Text}

infixl 10 ◌>>=◌
abbrev pub ◌>>=◌ : {A B : Type 0} → Option A → (A → Option B) → Option B
o >>= f = option_and_then f o

-- what stands beside a name in a table
abbrev pub named : {A : Type 0} → List (Text × A) → Text → Option A
named [] name = None
named (entry ∷ entries) name = if bytes_eq name entry.0 then Some entry.1 else named entries name
