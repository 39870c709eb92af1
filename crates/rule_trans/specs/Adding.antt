-- The steps of a conjunct that is added to a box.
use Rattle.std.specs.Prelude.{◌++◌, ◌∷◌, []}
use Rattle.qgm_core.specs.Boxes.{QueryGraph}
use Rattle.qgm_core.specs.Edits.{keep, put_terms}
use Rattle.qgm_core.specs.Free.{reached}
use Rattle.qgm_core.specs.declared.node.Node.{Node}
use Rattle.qgm_terms.specs.Terms.{Cond}
use Rattle.rule_trans.specs.declared.adding.AddPlan.{AddPlan}

-- p comes to n, at the end
abbrev pub add_plan : Node → Cond → AddPlan
add_plan n p = record { n = n.id; conds = record n.parts.conds { items = n.parts.conds.items ++ p ∷ [] }; head = n.parts.head }

-- the box gets its conditions, and those stay that the root reached before
abbrev pub add_steps : AddPlan → QueryGraph → QueryGraph
add_steps m g = keep (reached (g.root ∷ []) g.boxes) (put_terms m.n m.conds m.head g)
