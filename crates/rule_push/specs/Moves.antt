-- The steps of a conjunct that goes from one box to another.
use Rattle.std.specs.Prelude.{ℕ, ◌++◌, ◌∷◌, []}
use Rattle.std.specs.List.{remove}
use Rattle.qgm_core.specs.Boxes.{QueryGraph}
use Rattle.qgm_core.specs.Edits.{keep, put_terms}
use Rattle.qgm_core.specs.Free.{reached}
use Rattle.qgm_core.specs.declared.node.Node.{Node}
use Rattle.qgm_terms.specs.Terms.{Cond}
use Rattle.rule_push.specs.declared.moves.ArmsPlan.{ArmsPlan}
use Rattle.rule_push.specs.declared.moves.PushPlan.{PushPlan}

-- the condition of b at place i, from 0, goes, and p comes to n
abbrev pub push_plan : Node → ℕ → Node → Cond → PushPlan
push_plan b i n p = record {
  b = b.id;
  b_conds = record b.parts.conds { items = remove b.parts.conds.items i };
  b_head = b.parts.head;
  n = n.id;
  n_conds = record n.parts.conds { items = n.parts.conds.items ++ p ∷ [] };
  n_head = n.parts.head;
}

-- both boxes get their conditions, and those stay that the root reached before
abbrev pub push_steps : PushPlan → QueryGraph → QueryGraph
push_steps m g = keep (reached (g.root ∷ []) g.boxes) (put_terms m.b m.b_conds m.b_head (put_terms m.n m.n_conds m.n_head g))

-- the same, and q comes to m
abbrev pub arms_plan : Node → ℕ → Node → Cond → Node → Cond → ArmsPlan
arms_plan b i n p m q = record { first = push_plan b i n p; m = m.id; m_conds = record m.parts.conds { items = m.parts.conds.items ++ q ∷ [] }; m_head = m.parts.head }

-- the three boxes get their conditions, and those stay that the root reached before
abbrev pub arms_steps : ArmsPlan → QueryGraph → QueryGraph
arms_steps x g =
    keep (reached (g.root ∷ []) g.boxes) (put_terms x.first.b x.first.b_conds x.first.b_head (put_terms x.m x.m_conds x.m_head (put_terms x.first.n x.first.n_conds x.first.n_head g)))
