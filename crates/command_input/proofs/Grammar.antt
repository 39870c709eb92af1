-- The views of a schema of the grammar are of it.
use Rattle.std.proofs.Common.{ℕ, ◌≡◌, ◌&&◌, true, List, [], ◌∷◌, Option, Some, None, Result, Ok, Err, subst}
use Rattle.std.proofs.lemmas.Bool.{and_parts}
use Rattle.std.proofs.lemmas.List.Elements.{All-cons, All-nil}
use Rattle.sql_ast.specs.Declarations.{Declared, views_of}
use Rattle.sql_ast.specs.Grammatical.{are_elements, are_statements, is_query, some_of}
use Rattle.sql_ast.specs.Syntax as s
use Rattle.sql_catalog.specs.Catalog.{all_of, declared, fault, unless}
use Rattle.qgm_translation_laws.specs.Buildable.{AreQueries}

abbrev IsOfGrammar : s.ViewDecl → Type 0
IsOfGrammar view = is_query view.query ≡ true

views-queries : (xs : List s.Statement) → are_statements xs ≡ true → AreQueries (views_of xs)
views-queries [] h = All-nil IsOfGrammar
views-queries (s.table d ∷ xs) h = views-queries xs (and_parts (some_of d.elements && are_elements d.elements) (are_statements xs) h).1
views-queries (s.view v ∷ xs) h =
    let p = and_parts (is_query v.query) (are_statements xs) h in
    All-cons IsOfGrammar v (views_of xs) p.0 (views-queries xs p.1)

same-ok : (a b : Declared) → ◌≡◌ {A = Result Declared ℕ} (Ok a) (Ok b) → a ≡ b
same-ok a b e = cc

never-ok : (number : ℕ) (b : Declared) → ◌≡◌ {A = Result Declared ℕ} (Err number) (Ok b) → ⊥
never-ok number b e = cc

of-unless : (d : Declared) (number : Option ℕ) (catalog : Declared) → unless d number ≡ Ok catalog → d ≡ catalog
of-unless d None catalog is = same-ok d catalog is
of-unless d (Some number) catalog is = absurd (never-ok number catalog is)

pub queries-declared : (schema : s.Schema) (catalog : Declared) → are_statements schema.statements ≡ true → declared schema ≡ Ok catalog → AreQueries catalog.views
queries-declared schema catalog h is =
    subst (λ (d : Declared). AreQueries d.views) (of-unless (all_of schema) (fault (all_of schema)) catalog is) (views-queries schema.statements h)
