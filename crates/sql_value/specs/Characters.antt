-- The characters of stored texts.
use Rattle.std.specs.Prelude.{ℕ, List, [], take}
use Rattle.sql_value.specs.declared.character_string.Stored.{Stored}
use Rattle.sql_value.specs.declared.character_string.Stored.TheVariants.{Short, Long, Wide}
use Rattle.sql_value.specs.declared.characters.Characters.{Characters}
use Rattle.sql_value.specs.declared.characters.Characters.TheVariants as seen

-- the characters of a text as it is stored
abbrev pub stored_characters : Stored → List ℕ
stored_characters (Short count places) = take count places
stored_characters (Long bytes) = bytes.value.items
stored_characters (Wide chars) = chars.value.items

-- the bytes of a text that is stored as ASCII
abbrev pub stored_ascii : Stored → List ℕ
stored_ascii (Short count places) = take count places
stored_ascii (Long bytes) = bytes.value.items
stored_ascii (Wide chars) = []

-- how many places of a text's own piece of memory are taken
abbrev pub places_taken : Stored → ℕ
places_taken (Short count places) = count
places_taken (Long bytes) = 0
places_taken (Wide chars) = 0

-- characters that stand elsewhere, as a list
abbrev pub listed : Characters → List ℕ
listed (seen.Ascii bytes) = bytes.now
listed (seen.Wide chars) = chars.now
