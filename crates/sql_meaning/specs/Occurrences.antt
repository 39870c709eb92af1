-- How often a name stands among the columns of a FROM, and where it stands first; and what an index of the columns tells of it.
use Rattle.std.specs.Prelude.{◌≡◌, ℕ, suc, List, [], ◌∷◌, length, Option, Some, None, if◌then◌else◌}
use Rattle.std.specs.Map.{lookup}
use Rattle.std.specs.Option.{unwrap_or}
use Rattle.sql_ast.specs.Names.{same_name}
use Rattle.sql_meaning.specs.Scopes.{is_named}
use Rattle.sql_meaning.specs.declared.column_index.Occurrence.{Occurrence}
use Rattle.sql_meaning.specs.declared.column_index.Occurrence.TheVariants.{Nowhere, Once, Several}

-- after one column of another name
abbrev pub one_further : Occurrence → Occurrence
one_further Nowhere = Nowhere
one_further (Once place) = Once (suc place)
one_further (Several place) = Several (suc place)

-- after one column of the name
abbrev pub one_more : Occurrence → Occurrence
one_more Nowhere = Once 0
one_more (Once place) = Several 0
one_more (Several place) = Several 0

-- how often a name stands among columns: nowhere, once or several times, the first time at a place, from 0
abbrev pub occurrence : List ℕ → List (Option (List ℕ)) → Occurrence
occurrence name [] = Nowhere
occurrence name (column ∷ columns) = if is_named name column then one_more (occurrence name columns) else one_further (occurrence name columns)

-- the place of the first column of the name
abbrev pub first_place : Occurrence → Option ℕ
first_place Nowhere = None
first_place (Once place) = Some place
first_place (Several place) = Some place

-- with one more column of the name at the end, at this place
abbrev pub then_at : Occurrence → ℕ → Occurrence
then_at Nowhere place = Once place
then_at (Once first) place = Several first
then_at (Several first) place = Several first

-- what names with their occurrences tell of a name
abbrev pub told_of : List (List ℕ × Occurrence) → List ℕ → Occurrence
told_of entries name = unwrap_or (lookup (same_name name) entries) Nowhere

-- one more column is noted at a place after the others
abbrev pub Noted : List (List ℕ × Occurrence) → Option (List ℕ) → ℕ → List (List ℕ × Occurrence) → Type 0
Noted old column place new = (name : List ℕ) → told_of new name ≡ (if is_named name column then then_at (told_of old name) place else told_of old name)

-- names with their occurrences, and how many columns there are, tell of these columns
abbrev pub Indexes : List (Option (List ℕ)) → List (List ℕ × Occurrence) × ℕ → Type 0
Indexes columns index = ((name : List ℕ) → told_of index.0 name ≡ occurrence name columns) × (index.1 ≡ length columns)
