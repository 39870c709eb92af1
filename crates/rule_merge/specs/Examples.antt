-- M1 and M2 on small graphs.
use Rattle.std.specs.Prelude.{ℕ, ◌≡◌, pos, codes, List, [], ◌∷◌}
use Rattle.qgm_core.specs.declared.kinds.BoxKind.{BoxKind}
use Rattle.qgm_core.specs.declared.kinds.QuantKind.TheVariants.{F}
use Rattle.qgm_core.specs.declared.node.Node.{Node}
use Rattle.qgm_core.specs.Boxes.{QueryGraph, numbers}
use Rattle.qgm_core.specs.declared.owned.OwnedQuant.{OwnedQuant}
use Rattle.qgm_core.specs.declared.kinds.BoxKind.TheVariants.{Group, Select}
use Rattle.qgm_core.specs.declared.kinds.Distinct.TheVariants.{Preserve}
use Rattle.qgm_core.specs.declared.kinds.Role.TheVariants.{Plain}
use Rattle.qgm_meaning.specs.Examples.{stored, tables}
use Rattle.qgm_meaning.specs.Meaning.{root_bag}
use Rattle.qgm_terms.specs.Terms.{Cond, Term, both, col, compare, count_all, equal, int}
use Rattle.qgm_terms.specs.declared.tree.Op.TheVariants.{Add}
use Rattle.rule_merge.specs.Dropped.{MayDrop, dropped}
use Rattle.qgm_edit_laws.specs.Graph.{Sound}
use Rattle.rule_merge.specs.Merged.{merged_in}

abbrev node : ℕ → BoxKind → List Cond → List Term → List OwnedQuant → Node
node b k conds head quants = record { id = b; parts = record { kind = k; distinct = Preserve; role = Plain; conds = record { items = conds; spare = 0 }; head = head }; quants = quants }

abbrev pub f : ℕ → ℕ → OwnedQuant
f q b = record { id = q; kind = F; over = b }

-- ---- M1: box 2 is merged into box 1, under which a group of what box 4 looks up in it counts

abbrev upper : Node
upper = node 1 Select [] (col 1 1 ∷ col 2 1 ∷ []) (f 1 2 ∷ f 2 3 ∷ [])

abbrev lower : Node
lower = node 2 Select (compare equal (col 3 1) (int (pos 1)) ∷ []) (both Add (col 3 1) (int (pos 1)) ∷ []) (f 3 5 ∷ [])

abbrev graph : QueryGraph
graph = record { root = 1; names = []; order = []; boxes = upper ∷ lower ∷ node 3 (Group 0) [] (count_all ∷ []) (f 5 4 ∷ []) ∷ node 4 Select (compare equal (col 6 1) (col 1 1) ∷ []) (col 6 2 ∷ []) (f 6 5 ∷ []) ∷ node 5 (stored (codes "T")) [] [] [] ∷ [] }

abbrev pub Same : Type 0
Same = root_bag tables (merged_in upper lower [] (f 1 2) (f 2 3 ∷ []) graph) ≡ root_bag tables graph

-- ---- M2: box 2 gives all columns of box 3

abbrev pub top_box : Node
top_box = node 1 Select [] (col 1 2 ∷ col 1 1 ∷ []) (f 1 2 ∷ [])

abbrev pub middle : Node
middle = node 2 Select [] (col 2 1 ∷ col 2 2 ∷ []) (f 2 3 ∷ [])

abbrev pub lowest : Node
lowest = node 3 (stored (codes "T")) [] [] []

abbrev pub stacked : QueryGraph
stacked = record { root = 1; names = []; order = []; boxes = top_box ∷ middle ∷ lowest ∷ [] }

-- the graph is sound, M2 may drop box 2, and boxes 1 and 3 are left
pub record Dropped : Type 0 where
  pub sound : Sound stacked.boxes stacked.root
  pub may : MayDrop stacked middle lowest (f 2 3)
  pub left : numbers (dropped middle lowest stacked).boxes ≡ 1 ∷ (3 ∷ [])
