-- The sample computes, and has types by the law.
use Rattle.std.proofs.Common.{◌≡◌, true, refl}
use Rattle.sql_ast.specs.Grammatical.{is_query}
use Rattle.sql_ast.specs.Syntax as s
use Rattle.sql_catalog.proofs.EachLaws.{all_of_each}
use Rattle.qgm_translation_laws.proofs.TypingSchemas.{text_has_types}
use Rattle.qgm_translation_laws.specs.Sample.{Sampled, catalog, text}
use Rattle.qgm_translation_laws.specs.Typing.{ValidSchema}

schema_valid : ValidSchema catalog
schema_valid = record {
  accepted = refl;
  views = refl;
  queries = all_of_each (λ (view : s.ViewDecl). is_query view.query ≡ true) catalog.views (refl, tt);
}

pub sampled : Sampled
sampled = record {
  schema = schema_valid;
  valid = refl;
  view = refl;
  types = refl;
  gives = text_has_types catalog schema_valid text refl refl;
  stored = refl;
}
