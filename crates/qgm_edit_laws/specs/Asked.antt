-- A column that goes, on a small graph.
use Rattle.std.specs.Prelude.{ℕ, ◌≡◌, pos, codes, List, [], ◌∷◌, None}
use Rattle.qgm_core.specs.declared.kinds.BoxKind.{BoxKind}
use Rattle.qgm_core.specs.declared.kinds.BoxKind.TheVariants.{Select}
use Rattle.qgm_core.specs.declared.kinds.Distinct.TheVariants.{Preserve}
use Rattle.qgm_core.specs.declared.kinds.QuantKind.TheVariants.{F}
use Rattle.qgm_core.specs.declared.kinds.Role.TheVariants.{Plain}
use Rattle.qgm_core.specs.declared.node.Node.{Node}
use Rattle.qgm_core.specs.declared.owned.OwnedQuant.{OwnedQuant}
use Rattle.qgm_core.specs.Boxes.{QueryGraph}
use Rattle.qgm_core.specs.Edits.{drop_column}
use Rattle.qgm_wellformed.specs.WellFormed.{fault}
use Rattle.qgm_meaning.specs.Examples.{stored, tables}
use Rattle.qgm_meaning.specs.Meaning.{root_bag}
use Rattle.qgm_terms.specs.Terms.{Cond, Term, col, int}
use Rattle.qgm_edit_laws.specs.FormedColumn.{MayDropColumn}

abbrev node : ℕ → BoxKind → List Cond → List Term → List OwnedQuant → Node
node b k conds head quants = record { id = b; parts = record { kind = k; distinct = Preserve; role = Plain; conds = record { items = conds; spare = 0 }; head = head }; quants = quants }

abbrev pub f : ℕ → ℕ → OwnedQuant
f q b = record { id = q; kind = F; over = b }

abbrev graph_of : List Node → QueryGraph
graph_of boxes = record { root = 1; names = []; order = []; boxes = boxes }

-- ---- box 2 loses its second column

abbrev pub naming : Node
naming = node 1 Select [] (col 1 3 ∷ (col 1 1 ∷ [])) (f 1 2 ∷ [])

abbrev pub named : Node
named = node 2 Select [] (col 2 1 ∷ (int (pos 1) ∷ (int (pos 2) ∷ []))) (f 2 3 ∷ [])

abbrev pub broad : QueryGraph
broad = graph_of (naming ∷ (named ∷ (node 3 (stored (codes "T")) [] [] [] ∷ [])))

-- no box names the column; the check finds no fault before and after
pub record Shortened : Type 0 where
  pub checked : fault broad ≡ None
  pub may : MayDropColumn broad named 2
  pub after : fault (drop_column 2 2 broad) ≡ None
  pub same : root_bag tables (drop_column 2 2 broad) ≡ root_bag tables broad
