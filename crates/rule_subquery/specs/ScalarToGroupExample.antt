-- The premises of U2's law on a small graph.
use Rattle.std.specs.Prelude.{ℕ, ◌≡◌, ◌++◌, codes, List, [], ◌∷◌, None}
use Rattle.qgm_core.specs.declared.kinds.BoxKind.{BoxKind}
use Rattle.qgm_core.specs.declared.kinds.BoxKind.TheVariants.{Group, Select}
use Rattle.qgm_core.specs.declared.kinds.Distinct.TheVariants.{Preserve}
use Rattle.qgm_core.specs.declared.kinds.QuantKind.TheVariants.{F, S}
use Rattle.qgm_core.specs.declared.kinds.Role.TheVariants.{Plain}
use Rattle.qgm_core.specs.declared.node.Node.{Node}
use Rattle.qgm_core.specs.declared.owned.OwnedQuant.{OwnedQuant}
use Rattle.qgm_core.specs.Boxes.{QueryGraph}
use Rattle.qgm_wellformed.specs.WellFormed.{fault}
use Rattle.qgm_meaning.specs.Examples.{stored, tables}
use Rattle.qgm_meaning.specs.Meaning.{root_bag}
use Rattle.qgm_terms.specs.Terms.{Cond, Term, count_all, scalar}
use Rattle.qgm_edit_laws.specs.Graph.{Sound}
use Rattle.rule_subquery.specs.ScalarToGroupLaws.{MaySingle, singled}

abbrev node : ℕ → BoxKind → List Cond → List Term → List OwnedQuant → Node
node b k conds head quants = record { id = b; parts = record { kind = k; distinct = Preserve; role = Plain; conds = record { items = conds; spare = 0 }; head = head }; quants = quants }

abbrev pub f : ℕ → ℕ → OwnedQuant
f q b = record { id = q; kind = F; over = b }

abbrev graph_of : List Node → QueryGraph
graph_of boxes = record { root = 1; names = []; order = []; boxes = boxes }

-- ---- a scalar of a count

abbrev pub s : ℕ → ℕ → OwnedQuant
s q b = record { id = q; kind = S; over = b }

abbrev pub counting : Node
counting = node 1 Select [] (scalar 2 ∷ []) (f 1 3 ∷ (s 2 2 ∷ []))

abbrev pub counted : Node
counted = node 2 (Group 0) [] (count_all ∷ []) (f 3 3 ∷ [])

abbrev pub below : List Node
below = counted ∷ (node 3 (stored (codes "T")) [] [] [] ∷ [])

abbrev pub scalars : QueryGraph
scalars = graph_of ((counting ∷ []) ++ below)

pub record Singled : Type 0 where
  pub checked : fault scalars ≡ None
  pub sound : Sound scalars.boxes scalars.root
  pub may : MaySingle (counting ∷ []) below 1 4 4 counting counted (s 2 2)
  pub after : fault (singled (counting ∷ []) below 4 4 counting counted (s 2 2) scalars) ≡ None
  pub same : root_bag tables (singled (counting ∷ []) below 4 4 counting counted (s 2 2) scalars) ≡ root_bag tables scalars
