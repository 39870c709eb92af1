-- The catalog of a schema's text isn't refused.
use Rattle.std.proofs.Common.{ℕ, ◌≡◌, List, Option, Some, None, Result, Ok, Err, refl, subst}
use Rattle.std.specs.Prelude.{⊤}
use Rattle.sql_ast.specs.Syntax as s
use Rattle.sql_ast.specs.Declarations.{Declared}
use Rattle.sql_catalog.specs.Catalog.{all_of, declared, fault, unless}
use Rattle.command_input.specs.Texts.{◌>>=◌, catalog_of, schema_of}

-- the catalog of a schema isn't refused
abbrev IsValid : Result Declared ℕ → Type 0
IsValid (Ok catalog) = fault catalog ≡ None
IsValid (Err number) = ⊤

valid-unless : (catalog : Declared) (number : Option ℕ) → fault catalog ≡ number → IsValid (unless catalog number)
valid-unless catalog None is = is
valid-unless catalog (Some number) is = tt

valid-schema : (schema : Result s.Schema ℕ) → IsValid (schema >>= declared)
valid-schema (Ok tree) = valid-unless (all_of tree) (fault (all_of tree)) refl
valid-schema (Err number) = tt

pub valid-catalog : (text : Option (List ℕ)) (catalog : Declared) → catalog_of text ≡ Ok catalog → fault catalog ≡ None
unfolding catalog_of
valid-catalog text catalog is = subst (λ (c : Result Declared ℕ). IsValid c) is (valid-schema (schema_of text))
