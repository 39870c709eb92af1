-- The count of an execution of the graph that a rewriting ends in.
use Rattle.std.specs.Prelude.{ℕ, ◌≡◌, ◌≤◌, ◌+◌, List, length}
use Rattle.box_exec.specs.Closed.{AllClosed, closed_number, reached_number}
use Rattle.qgm_core.specs.Boxes.{QueryGraph}
use Rattle.qgm_meaning.specs.Plain.{plain}
use Rattle.rule_plan.specs.declared.plan.Plan.{Plan}
use Rattle.row_bag.specs.declared.tables.Table.{Table}
use Rattle.rule_api.specs.declared.place.Firing.{Firing}
use Rattle.rule_set.specs.Rewriting.{Rewrites}

-- steps from `before` to `after`, as an execution of h takes them: as many as the root reaches boxes, where all of these are closed; at least as many as are closed; and at most as many as loops that skip nothing take
pub record Evaluates (tables : List Table) (h : QueryGraph) (before after : ℕ) : Type 0 where
  pub exact : AllClosed h → after ≡ before + reached_number h
  pub at_least : before + closed_number h ≤ after
  pub at_most : after ≤ before + plain tables h

-- n firings rewrite g to a graph whose execution takes the steps from `before` to `after`
pub record IsRewritten (tables : List Table) (plan : Plan) (g : QueryGraph) (n before after : ℕ) : Type 0 where
  pub fs : List Firing
  pub h : QueryGraph
  pub rewrites : Rewrites plan g fs h
  pub many : n ≡ length fs
  pub evaluates : Evaluates tables h before after
