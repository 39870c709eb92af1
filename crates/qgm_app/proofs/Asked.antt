-- What a question that is ready is to the graph that is built of it.
use Rattle.std.proofs.Common.{ℕ, ◌≡◌, ◌-◌, ◌++◌, ◌∙◌, List, [], Option, None, ap, map, min, subst, sym}
use Rattle.row_bag.specs.declared.tables.Table.{Table}
use Rattle.sql_ast.specs.Declarations.{Declared}
use Rattle.sql_ast.specs.Shown as written
use Rattle.sql_catalog.specs.Catalog.{fault}
use Rattle.sql_catalog.specs.Shown as catalogs
use Rattle.sql_meaning.specs.Meaning.{order_key}
use Rattle.sql_value.specs.declared.order_key.OrderKey.{OrderKey}
use Rattle.sql_faults.specs.Laws.{column_names}
use Rattle.qgm_core.specs.Boxes.{QueryGraph}
use Rattle.qgm_meaning.specs.Satisfies.{Satisfies}
use Rattle.qgm_translation_laws.specs.Joined.{AreTablesOf, ValidQuery}
use Rattle.qgm_translation_laws.specs.Laid.{IsGraphOf}
use Rattle.qgm_translation_laws.specs.Loaded.{LoadedAreTables, LoadedSatisfies}
use Rattle.qgm_build.specs.Valid.{IsItsGraph, IsOfText, IsQueryOf}
use Rattle.qgm_run.specs.Answers.{IsRewritten}
use Rattle.qgm_run.specs.Explained.{IsTold}
use Rattle.rule_plan.specs.declared.plan.Plan.{Plan}
use Rattle.sql_check.specs.Checked.{IsFilled, answer_of}
use Rattle.command_input.specs.Questions.{answer_to, question_of}
use Rattle.command_input.specs.Questions as asked
use Rattle.command_input.specs.Ready.{IsReady, IsSound}
use Rattle.command_input.specs.declared.question.Question.{Question}
use Rattle.qgm_app.specs.Rewriting.{IsBuilt, IsExplanation, IsRun, names_of, order_of}

-- its query is checked
pub sound-of : (q : Question) → IsReady q → IsSound q
sound-of q ready = record { views = ready.views; checked = ready.checked }

-- its query is one of the grammar over a schema, both valid
is-valid : (q : Question) → IsSound q → ValidQuery (catalogs.catalog q.catalog) (written.query_text q.valid.query)
is-valid q ready = record {
  schema = record { accepted = ready.views.valid; views = ready.views.of_catalog.valid; queries = ready.views.queries };
  grammar = ready.checked.grammar;
  valid = ready.checked.valid;
}

-- with its names resolved
of-text : (q : Question) → IsSound q → IsOfText (catalogs.catalog q.catalog) q.valid.checked (written.query_text q.valid.query)
of-text q ready = record { valid = is-valid q ready; query = ready.checked.query }

pub is-query : (q : Question) → IsSound q → IsQueryOf (catalogs.catalog q.catalog) q.views q.valid.checked
is-query q ready = record { views = ready.views.of_catalog; text = written.query_text q.valid.query; is = of-text q ready }

-- its tables are of the schema
pub has-tables : LoadedAreTables → (q : Question) → IsReady q → AreTablesOf (catalogs.catalog q.catalog) q.tables
has-tables law q ready = law (catalogs.catalog q.catalog) q.tables ready.tables

-- tables of a schema that isn't refused are what the checked query asks for
filled : (catalog : Declared) (tables : List Table) → fault catalog ≡ None → AreTablesOf catalog tables → IsFilled catalog tables
filled catalog tables valid are = record { valid = valid; declared = are.loaded; wide = are.wide }

-- over them the checked query has its answer
pub has-answer : LoadedAreTables → (q : Question) → IsReady q → answer_of q.views q.valid.checked q.tables ≡ answer_to (question_of q)
has-answer law q ready = ready.checked.answer q.tables (filled (catalogs.catalog q.catalog) q.tables ready.views.valid (has-tables law q ready))

-- ---- its graph

names-are : (q : Question) → IsSound q → q.valid.checked.names ≡ names_of (question_of q)
names-are q ready = ready.checked.names ∙ ap column_names ready.checked.columns

order-is : (q : Question) → IsSound q → q.valid.checked.order ≡ order_of (question_of q)
order-is q ready = ready.checked.order ∙ ap (λ (names : List (Option (List ℕ))). map (order_key names) (written.query_text q.valid.query).order) (names-are q ready)

-- the graph of the checked query is the question's
pub is-built : (q : Question) → IsSound q → (g : QueryGraph) → IsItsGraph (catalogs.catalog q.catalog) q.valid.checked g → IsBuilt (question_of q) g
is-built q ready g h =
    let catalog = catalogs.catalog q.catalog in
    let text = written.query_text q.valid.query in
    subst (λ (names : List (Option (List ℕ))). IsGraphOf catalog text names (order_of (question_of q)) g) (names-are q ready)
    (subst (λ (order : List OrderKey). IsGraphOf catalog text q.valid.checked.names order g) (order-is q ready) (h text (of-text q ready)))

-- its tables satisfy the bases
pub satisfies : LoadedSatisfies → (q : Question) → IsReady q → (g : QueryGraph) → IsItsGraph (catalogs.catalog q.catalog) q.valid.checked g → Satisfies q.tables g.boxes
satisfies law q ready g h =
    law (catalogs.catalog q.catalog) (written.query_text q.valid.query) q.valid.checked.names q.valid.checked.order g q.tables
    (is-valid q (sound-of q ready)) (h (written.query_text q.valid.query) (of-text q (sound-of q ready))) ready.tables
