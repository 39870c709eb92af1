-- U3: over one clean row the root's bag means the same.
use Rattle.std.proofs.Common.{◌≡◌, ◌||◌, false, List, [], ◌∷◌, ◌++◌, map, None, Some, refl, sym, ap, subst, ◌∙◌}
use Rattle.std.specs.List.{list_any}
use Rattle.row_bag.specs.Bags.{Agree}
use Rattle.row_bag.specs.Sets.{same_cells}
use Rattle.row_bag.specs.declared.tables.Table.{Table}
use Rattle.qgm_meaning.proofs.OneClean.{the_row, one-agrees}
use Rattle.qgm_core.specs.Boxes.{QueryGraph, is_box, numbers}
use Rattle.qgm_core.specs.Edits.{on_boxes}
use Rattle.list_laws.specs.Lists.{EachOnce, change}
use Rattle.qgm_core.specs.declared.kinds.BoxKind.{BoxKind}
use Rattle.qgm_core.specs.declared.kinds.BoxKind.TheVariants.{Select}
use Rattle.qgm_core.specs.declared.node.Node.{Node}
use Rattle.qgm_core.specs.declared.owned.OwnedQuant.{OwnedQuant}
use Rattle.qgm_wellformed.specs.WellFormed.{fault}
use Rattle.qgm_meaning.specs.Meaning.{bag_in}
use Rattle.qgm_meaning.specs.Rules.{scalar_box}
use Rattle.qgm_meaning.specs.Satisfies.{Satisfies}
use Rattle.qgm_meaning.specs.Searches.{binds, binds_cond}
use Rattle.qgm_meaning.proofs.ScalarJoined.{scalar-joined}
use Rattle.qgm_meaning.specs.Rules as rules
use Rattle.qgm_edit_laws.specs.Adds.{at}
use Rattle.qgm_edit_laws.specs.Graph.{Sound}
use Rattle.qgm_edit_laws.proofs.Scope.{in-first}
use Rattle.qgm_edit_laws.specs.PutsBox.{PutsBox}
use Rattle.qgm_edit_laws.proofs.CheckedParts.{shaped, sound, typed}
use Rattle.qgm_edit_laws.proofs.PutsBox.{put-is}
use Rattle.rule_api.specs.Rules.{Preserves}
use Rattle.rule_facts.proofs.Actions.{preserves-put}
use Rattle.rule_subquery.proofs.ScalarToJoinSound.{OneScalar, absent-us, absent-vs, no-binds, owned, puts}
use Rattle.rule_subquery.specs.ScalarToJoin.{column_box}
use Rattle.list_laws.proofs.Booleans.{neither-left, neither-right}

module _ (g : QueryGraph) (u : EachOnce (numbers g.boxes)) (k : fault g ≡ None) (o : Node) (us : List OwnedQuant) (r : OwnedQuant) (vs : List OwnedQuant) (e : OneScalar g.boxes o us r vs) where
  abbrev bs : List Node
  bs = g.boxes

  w : Sound bs g.root
  w = sound g u k

  m : PutsBox bs g.root o (column_box us r vs)
  m = puts bs g.root w (typed g u k) (shaped g u k) o us r vs e

  abbrev N : Node
  N = scalar_box o.id o.parts o.parts.distinct us r.id r.over vs o.parts.conds.items o.parts.head

  abbrev M : Node
  M = rules.column_box o.id o.parts o.parts.distinct us r.id r.over vs o.parts.conds.items o.parts.head

  abbrev made : BoxKind → List OwnedQuant → Node
  made k qs = record o { parts = record o.parts { kind = k }; quants = qs }

  o-is : o ≡ N
  o-is = ap (λ k. made k o.quants) e.select ∙ ap (made Select) (e.split ∙ ap (λ k. us ++ (record { id = r.id; kind = k; over = r.over }) ∷ vs) e.is_s)

  n-is : M ≡ column_box us r vs o
  n-is = ap (λ k. record (column_box us r vs o) { parts = record (column_box us r vs o).parts { kind = k } }) (sym e.select)

  no-binds-o : (list_any (binds r.id) o.parts.head || list_any (binds_cond r.id) o.parts.conds.items) ≡ false
  no-binds-o = no-binds bs g.root w (typed g u k) (shaped g u k) o us r vs e

  agree : (tables : List Table) → Satisfies tables bs → Agree same_cells (bag_in tables (map (at o.id (column_box us r vs)) bs) g.root []) (bag_in tables bs g.root [])
  agree tables s =
      subst (λ z. Agree same_cells (bag_in tables z g.root []) (bag_in tables bs g.root [])) (put-is bs g.root w o (column_box us r vs) m)
      (subst (λ (z : Node). Agree same_cells (bag_in tables (change (is_box o.id) (λ (y : Node). z) bs) g.root []) (bag_in tables bs g.root [])) n-is
      (scalar-joined tables g o.id o.parts o.parts.distinct us r.id r.over vs o.parts.conds.items o.parts.head (λ env. the_row (bag_in tables bs r.over env))
      w.ordered (in-first o bs w.ordered e.within ∙ ap (λ z. Some z) o-is) (absent-us bs g.root w (typed g u k) (shaped g u k) o us r vs e) (absent-vs bs g.root w (typed g u k) (shaped g u k) o us r vs e)
      (w.settled o e.within r.id (owned bs g.root w (typed g u k) (shaped g u k) o us r vs e))
      (neither-left (list_any (binds r.id) o.parts.head) (list_any (binds_cond r.id) o.parts.conds.items) no-binds-o) (neither-right (list_any (binds r.id) o.parts.head) (list_any (binds_cond r.id) o.parts.conds.items) no-binds-o)
      (λ env fit. one-agrees (bag_in tables bs r.over env) (e.clean tables s env fit) (e.one tables s env fit))
      g.root w.rooted [] refl))

  pub scalar-preserves : Preserves g (on_boxes (map (at o.id (column_box us r vs))) g)
  scalar-preserves = preserves-put g u k o (column_box us r vs) m agree
