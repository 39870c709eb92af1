-- The steps of U2's action.
use Rattle.std.specs.Prelude.{ℕ, ◌≡◌, [], Some}
use Rattle.qgm_terms.specs.Conjuncts.{Conjuncts}
use Rattle.qgm_core.specs.Boxes.{HasBox, HasQuant, QueryGraph, bare_box, box_of}
use Rattle.qgm_core.specs.Edits.{compact, put_terms, range, redirect, with_box, with_quant}
use Rattle.qgm_core.specs.Held.{HasAll}
use Rattle.list_laws.specs.Lists.{In}
use Rattle.qgm_core.specs.declared.kinds.BoxKind.TheVariants.{Group}
use Rattle.qgm_core.specs.declared.kinds.Distinct.TheVariants.{Preserve}
use Rattle.qgm_core.specs.declared.kinds.QuantKind.TheVariants.{F}
use Rattle.qgm_core.specs.declared.kinds.Role.TheVariants.{Plain}
use Rattle.qgm_core.specs.declared.node.Node.{Node}
use Rattle.qgm_core.specs.declared.owned.OwnedQuant.{OwnedQuant}
use Rattle.qgm_core.specs.declared.parts.BoxParts.{BoxParts}
use Rattle.qgm_edit_laws.specs.Graph.{Sound}
use Rattle.rule_subquery.specs.ScalarToGroupLaws.{single_head}

abbrev pub no_conds : Conjuncts
no_conds = record { items = []; spare = 0 }

abbrev pub empty_group : BoxParts
empty_group = record { kind = Group 0; distinct = Preserve; role = Plain; conds = no_conds; head = [] }

-- below b stands a group without a cell
abbrev pub with_group : ℕ → ℕ → QueryGraph → QueryGraph
with_group b group g = with_box (Some b) (bare_box group empty_group) g

-- it has the quantifier q over c, and its single cell
abbrev pub filled : ℕ → ℕ → ℕ → QueryGraph → QueryGraph
filled group q c g = put_terms group no_conds (single_head q) (with_quant group 0 (range q F c) g)

-- the steps can be done at the group, and taken back
pub record CanFill (g : QueryGraph) (group : ℕ) (r : OwnedQuant) : Type 0 where
  pub held : HasBox group g
  pub over : HasBox r.over g
  pub owned : HasQuant r.id g
  pub undone : (q : ℕ) → (HasQuant q g → ⊥) → redirect r.id r.over (redirect r.id group (filled group q r.over g)) ≡ filled group q r.over g

-- r ranges over the group, and boxes that the root doesn't reach are gone; the number of its quantifier is new
pub record Fills (g h : QueryGraph) (group : ℕ) (r : OwnedQuant) : Type 0 where
  pub q : ℕ
  pub new : HasQuant q g → ⊥
  pub after : h ≡ compact (redirect r.id group (filled group q r.over g))

-- b is a box of the graph that owns r, and r ranges over one
pub record CanGroup (g : QueryGraph) (b : ℕ) (r : OwnedQuant) : Type 0 where
  pub node : Node
  pub sound : Sound g.boxes g.root
  pub at : node.id ≡ b
  pub within : In node g.boxes
  pub owned : In r node.quants
  pub c : Node
  pub under : box_of r.over g ≡ Some c

-- a new group stands below b, and r ranges over it
pub record Groups (g h : QueryGraph) (b : ℕ) (r : OwnedQuant) : Type 0 where
  pub group : ℕ
  pub fresh : HasBox group g → ⊥
  pub kept : HasAll g (with_group b group g)
  pub fills : Fills (with_group b group g) h group r
