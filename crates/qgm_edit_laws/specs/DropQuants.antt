-- Quantifiers of a select that nothing names go, with the boxes that the root then doesn't reach.
use Rattle.std.specs.Prelude.{ℕ, ◌≡◌, Bool, false, List, filter, map, None}
use Rattle.row_bag.specs.declared.tables.Table.{Table}
use Rattle.qgm_core.specs.Boxes.{QueryGraph, numbers}
use Rattle.qgm_core.specs.Edits.{compact, on_boxes, with_quants}
use Rattle.qgm_core.specs.Kinds.{is_F, is_fed}
use Rattle.list_laws.specs.Lists.{EachOnce, In}
use Rattle.qgm_core.specs.declared.kinds.BoxKind.TheVariants.{Select}
use Rattle.qgm_core.specs.declared.node.Node.{Node}
use Rattle.qgm_core.specs.declared.owned.OwnedQuant.{OwnedQuant}
use Rattle.qgm_wellformed.specs.WellFormed.{fault}
use Rattle.qgm_meaning.specs.Meaning.{root_bag}
use Rattle.qgm_meaning.specs.Scope.{read_by}
use Rattle.qgm_edit_laws.specs.Adds.{at}
use Rattle.qgm_edit_laws.specs.Graph.{Sound, nodes_in}
use Rattle.qgm_edit_laws.specs.FedOpen.{FedOpen}

-- a box with those of its quantifiers whose numbers pass
abbrev pub with_those : (ℕ → Bool) → Node → Node
with_those keep n = with_quants (λ rs. filter (λ r. keep r.id) rs) n

-- the graph where o keeps those alone, without the boxes that the root then doesn't reach
abbrev pub without_those : Node → (ℕ → Bool) → QueryGraph → QueryGraph
without_those o keep g = compact (on_boxes (λ boxes. map (at o.id (with_those keep)) boxes) g)

-- the others of o, a select that isn't fed, may go: no box reads them, and no node of o is of them
pub record MayLose (bs : List Node) (o : Node) (keep : ℕ → Bool) : Type 0 where
  pub within : In o bs
  pub select : o.parts.kind ≡ Select
  pub not_fed : is_fed o.parts.role ≡ false
  pub unread : (r : OwnedQuant) → In r o.quants → keep r.id ≡ false → (n : Node) → In n bs → read_by n r.id ≡ false
  pub no_node : (r : OwnedQuant) → In r o.quants → keep r.id ≡ false → nodes_in r.id o ≡ false

-- the graph is sound then, and the check finds nothing if no fed box is left over a closed box
pub record QuantsGone : Type 0 where
  pub sound : (g : QueryGraph) → Sound g.boxes g.root → (o : Node) (keep : ℕ → Bool) → MayLose g.boxes o keep → Sound (without_those o keep g).boxes g.root
  pub formed : (g : QueryGraph) → EachOnce (numbers g.boxes) → fault g ≡ None → (o : Node) (keep : ℕ → Bool) → MayLose g.boxes o keep → FedOpen (without_those o keep g).boxes → fault (without_those o keep g) ≡ None
  -- of E, A and S quantifiers the root gives the same rows
  pub bag : (g : QueryGraph) → Sound g.boxes g.root → (o : Node) (keep : ℕ → Bool) → MayLose g.boxes o keep → ((r : OwnedQuant) → In r o.quants → keep r.id ≡ false → is_F r.kind ≡ false) → (tables : List Table) → root_bag tables (without_those o keep g) ≡ root_bag tables g

-- no box reads a quantifier of a select that isn't an F quantifier: only nodes name it
abbrev pub RowlessUnread : Type 0
RowlessUnread = (bs : List Node) (root : ℕ) → Sound bs root → (o : Node) → In o bs → o.parts.kind ≡ Select → (r : OwnedQuant) → In r o.quants → is_F r.kind ≡ false → (n : Node) → In n bs → read_by n r.id ≡ false
