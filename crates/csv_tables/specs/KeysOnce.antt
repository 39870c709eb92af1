-- The keys of a table, each once.
use Rattle.std.specs.Prelude.{◌&&◌, if◌then◌else◌, not, nat_eq, Bool, List, [], ◌∷◌, ◌++◌}
use Rattle.std.specs.Cmp.Lexicographic.{pointwise}
use Rattle.std.specs.List.{list_any}
use Rattle.sql_catalog.specs.declared.descriptor.KeyDescriptor.{KeyDescriptor}
use Rattle.sql_catalog.specs.declared.descriptor.TableDescriptor.{TableDescriptor}

-- both are primary, or neither is; of the same columns
abbrev pub same_key : KeyDescriptor → KeyDescriptor → Bool
same_key a b = (if a.primary then b.primary else not b.primary) && pointwise nat_eq a.places b.places

-- behind the keys so far, those of these that aren't among them
abbrev pub add_keys : List KeyDescriptor → List KeyDescriptor → List KeyDescriptor
add_keys out [] = out
add_keys out (k ∷ ks) = add_keys (if list_any (same_key k) out then out else out ++ k ∷ []) ks

-- a table with each key once
abbrev pub keyed_once : TableDescriptor → TableDescriptor
keyed_once t = record { columns = t.columns; keys = add_keys [] t.keys }
