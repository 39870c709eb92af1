-- The statement of the graph that a rewriting ends in.
use Rattle.std.specs.Prelude.{ℕ, ◌≡◌, List}
use Rattle.graph_sql.specs.StatementText.{text_of}
use Rattle.graph_sql.specs.declared.tables.TableNames.{TableNames}
use Rattle.qgm_core.specs.Boxes.{QueryGraph}
use Rattle.qgm_props.specs.Inferred.{Facts, not_null_under}
use Rattle.qgm_props.specs.Laws.{Tells}
use Rattle.rule_plan.specs.declared.plan.Plan.{Plan}
use Rattle.rule_api.specs.declared.place.Firing.{Firing}
use Rattle.rule_set.specs.Elsewhere.{RewritesElsewhere}

-- firings rewrite g to h by the rules for another engine, and the text is that of h as a statement over tables of these names, where columns hold no null of which this is inferred
pub record IsStatement (tables : List TableNames) (plan : Plan) (g : QueryGraph) (text : List ℕ) : Type 0 where
  pub fs : List Firing
  pub h : QueryGraph
  pub rewrites : RewritesElsewhere plan g fs h
  pub known : Facts
  pub tells : Tells known h.boxes
  pub is : text ≡ text_of tables (not_null_under h.boxes known) h
