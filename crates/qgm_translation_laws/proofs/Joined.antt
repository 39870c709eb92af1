-- A graph that is built of a valid query is well-formed, by what holds of the query's types and of its sources.
use Rattle.std.proofs.Common.{ℕ, Bool, List, [], Option}
use Rattle.sql_ast.specs.Declarations.{Declared}
use Rattle.sql_ast.specs.Syntax as s
use Rattle.sql_value.specs.declared.order_key.OrderKey.{OrderKey}
use Rattle.sql_value.specs.declared.order_key.SqlType.{SqlType}
use Rattle.sql_meaning.specs.ResolvedTrees.{Query}
use Rattle.sql_names.proofs.Valid.{shallow}
use Rattle.sql_names.specs.Resolved.{query}
use Rattle.sql_names.specs.Schema.{schema_columns}
use Rattle.sql_faults.specs.Views.{heads_of}
use Rattle.qgm_core.specs.Boxes.{QueryGraph}
use Rattle.qgm_terms.specs.Terms.{Term}
use Rattle.qgm_translation_laws.proofs.Agreed.{types-found}
use Rattle.qgm_translation_laws.proofs.Formed.{well-formed}
use Rattle.qgm_translation_laws.specs.Formed.{BuiltTyped}
use Rattle.qgm_translation.specs.Sources.{Sources}
use Rattle.qgm_translation_laws.proofs.Placed.{stored_placed}
use Rattle.qgm_translation_laws.proofs.Schemas.{fit_text, fit_views}
use Rattle.qgm_translation_laws.proofs.SchemaSources.{schema_sources, schema_sources_typed}
use Rattle.qgm_translation_laws.proofs.TypingSchemas.{text_has_types}
use Rattle.qgm_translation_laws.specs.Buildable.{Knows}
use Rattle.qgm_translation_laws.specs.Joined.{IsBuildableOver, IsBuiltOver, IsFormed, IsLaidOut, ValidQuery, stated_types}
use Rattle.qgm_translation_laws.specs.Sources.{sources_of}
use Rattle.qgm_translation_laws.specs.Typing.{SourcesOf, kinds_of}

pub valid_formed : (catalog : Declared) (shared : List ℕ → ℕ) (typed : Term → SqlType) (text : s.QueryText) (names : List (Option (List ℕ))) (order : List OrderKey) (g : QueryGraph)
    → ValidQuery catalog text → IsBuiltOver catalog (sources_of catalog shared typed) text names order g → IsLaidOut (sources_of catalog shared typed) g → IsFormed (stated_types catalog text) g
valid_formed catalog shared typed text names order g valid built laid =
    let kinds : List ℕ → List SqlType = kinds_of (heads_of catalog) in
    let sources : Sources = sources_of catalog shared typed in
    let resolved : Query = query (schema_columns catalog) [] text.query in
    let types : List SqlType = stated_types catalog text in
    let whole : BuiltTyped kinds sources resolved types names order g
    = record {
      built = built;
      ordered = laid.ordered;
      once = laid.once;
      typed = schema_sources_typed catalog shared typed valid.schema;
      told = laid.told;
      gives = text_has_types catalog valid.schema text valid.grammar valid.valid;
    } in
    record {
      formed = well-formed kinds sources resolved types names order g (record { typed = whole; placed = λ name. stored_placed catalog valid.schema.accepted name; apart = laid.apart });
      typed = types-found kinds sources resolved types names order g whole;
    }

pub valid_buildable : (catalog : Declared) (shared : List ℕ → ℕ) (typed : Term → SqlType) (has : List ℕ → Bool) (text : s.QueryText)
    → ValidQuery catalog text → Knows has (heads_of catalog) → IsBuildableOver catalog (sources_of catalog shared typed) has text
valid_buildable catalog shared typed has text valid knows =
    let says : SourcesOf catalog (sources_of catalog shared typed) = schema_sources catalog shared typed valid.schema in
    record {
      body = fit_text catalog (sources_of catalog shared typed) has says.counts knows text valid.grammar valid.valid;
      views = fit_views catalog (sources_of catalog shared typed) has says.counts knows (shallow catalog valid.schema.accepted) valid.schema.views valid.schema.queries;
    }
