-- The graph of a question's query, how it is rewritten, and how many evaluations of boxes its rows take.
use Rattle.std.specs.Prelude.{◌≡◌, ◌-◌, ℕ, List, [], Option, map, min}
use Rattle.qgm_translation_laws.specs.Laid.{IsGraphOf}
use Rattle.qgm_core.specs.Boxes.{QueryGraph}
use Rattle.sql_faults.specs.Columns.{columns}
use Rattle.sql_faults.specs.Laws.{column_names}
use Rattle.sql_faults.specs.Views.{heads_of}
use Rattle.qgm_run.specs.Answers.{IsRewritten}
use Rattle.qgm_run.specs.Explained.{IsTold}
use Rattle.rule_plan.specs.declared.plan.Plan.{Plan}
use Rattle.sql_meaning.specs.Meaning.{order_key}
use Rattle.sql_value.specs.declared.order_key.OrderKey.{OrderKey}
use Rattle.command_input.specs.Questions.{Question}

-- the names of the columns of a question's query
abbrev pub names_of : Question → List (Option (List ℕ))
names_of q = column_names (columns (heads_of q.catalog) q.query.query [])

-- the keys of its order
abbrev pub order_of : Question → List OrderKey
order_of q = map (order_key (names_of q)) q.query.order

-- this is the graph that is built of it
abbrev pub IsBuilt : Question → QueryGraph → Type 0
IsBuilt q g = IsGraphOf q.catalog q.query (names_of q) (order_of q) g

-- so many firings of rules rewrite its graph, by this plan, to one whose execution over the question's tables takes the steps from `before` to `after`
pub record IsRun (plan : Plan) (q : Question) (firings before after : ℕ) : Type 0 where
  pub graph : QueryGraph
  pub built : IsBuilt q graph
  pub rewritten : IsRewritten q.tables plan graph firings before after

-- the text tells of such a rewriting, and of so many evaluations of boxes as there are steps, or of the greatest 64-bit number where there are more
pub record IsExplanation (plan : Plan) (q : Question) (before after : ℕ) (text : List ℕ) : Type 0 where
  pub graph : QueryGraph
  pub built : IsBuilt q graph
  pub firings : ℕ
  pub evals : ℕ
  pub counted : evals ≡ min (after - before) 18446744073709551615
  pub told : IsTold q.tables plan graph firings evals before after text
