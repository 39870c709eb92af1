-- Feeding on small graphs, for F, E and A.
use Rattle.std.specs.Prelude.{ℕ, ◌≡◌, codes, List, [], ◌∷◌, None}
use Rattle.row_bag.specs.Verdict.{those_there}
use Rattle.qgm_terms.specs.Terms.{Cond, Term, col, compare, equal, every, same, some, unequal}
use Rattle.qgm_core.specs.declared.kinds.BoxKind.{BoxKind}
use Rattle.qgm_core.specs.declared.kinds.BoxKind.TheVariants.{Select}
use Rattle.qgm_core.specs.declared.kinds.Distinct.TheVariants.{Preserve}
use Rattle.qgm_core.specs.declared.kinds.QuantKind.{QuantKind}
use Rattle.qgm_core.specs.declared.kinds.QuantKind.TheVariants.{A, E, F}
use Rattle.qgm_core.specs.declared.kinds.Role.TheVariants.{Plain}
use Rattle.qgm_core.specs.declared.node.Node.{Node}
use Rattle.qgm_core.specs.declared.owned.OwnedQuant.{OwnedQuant}
use Rattle.qgm_core.specs.Boxes.{QueryGraph}
use Rattle.qgm_wellformed.specs.WellFormed.{fault}
use Rattle.qgm_meaning.specs.Examples.{stored, tables}
use Rattle.qgm_meaning.specs.Meaning.{root_bag}
use Rattle.rule_feed.specs.Feed.{fed_boxes}

abbrev node : ℕ → BoxKind → List Cond → List Term → List OwnedQuant → Node
node b k conds head quants = record { id = b; parts = record { kind = k; distinct = Preserve; role = Plain; conds = record { items = conds; spare = 0 }; head = head }; quants = quants }

abbrev quant : ℕ → QuantKind → ℕ → OwnedQuant
quant q k b = record { id = q; kind = k; over = b }

abbrev graph_of : List Node → QueryGraph
graph_of boxes = record { root = 1; names = []; order = []; boxes = boxes }

abbrev lower : Node
lower = node 3 Select (compare same (col 3 2) (col 1 2) ∷ []) (col 3 1 ∷ (col 1 2 ∷ [])) (quant 3 F 2 ∷ [])

abbrev base : Node
base = node 2 (stored (codes "T")) [] [] []

abbrev upper : QuantKind → List Cond → List Term → Node
upper k conds head = node 1 Select conds head (quant 1 F 2 ∷ (quant 2 k 3 ∷ []))

abbrev before : QuantKind → List Cond → List Term → QueryGraph
before k conds head = graph_of (upper k conds head ∷ (lower ∷ (base ∷ [])))

abbrev after : QuantKind → List Cond → List Term → QueryGraph
after k conds head = graph_of (fed_boxes (upper k conds head ∷ []) (lower ∷ (base ∷ [])) (upper k conds head) base lower (quant 1 F 2) (quant 2 k 3) (record { d = 10; m = 11; dm = 12; dc = 13; mq = 14 }))

-- the check finds no fault after, nor before for F and E, and the root's rows are the same
pub record Fed : Type 0 where
  pub f_before : fault (before F [] (col 1 1 ∷ (col 2 1 ∷ []))) ≡ None
  pub f_after : fault (after F [] (col 1 1 ∷ (col 2 1 ∷ []))) ≡ None
  pub f_rows : those_there (root_bag tables (after F [] (col 1 1 ∷ (col 2 1 ∷ [])))) ≡ those_there (root_bag tables (before F [] (col 1 1 ∷ (col 2 1 ∷ []))))
  pub e_before : fault (before E (some 2 (compare unequal (col 2 1) (col 1 1)) ∷ []) (col 1 1 ∷ [])) ≡ None
  pub e_after : fault (after E (some 2 (compare unequal (col 2 1) (col 1 1)) ∷ []) (col 1 1 ∷ [])) ≡ None
  pub e_rows : root_bag tables (after E (some 2 (compare unequal (col 2 1) (col 1 1)) ∷ []) (col 1 1 ∷ [])) ≡ root_bag tables (before E (some 2 (compare unequal (col 2 1) (col 1 1)) ∷ []) (col 1 1 ∷ []))
  pub a_after : fault (after A (every 2 (compare equal (col 2 1) (col 1 1)) ∷ []) (col 1 1 ∷ [])) ≡ None
  pub a_rows : root_bag tables (after A (every 2 (compare equal (col 2 1) (col 1 1)) ∷ []) (col 1 1 ∷ [])) ≡ root_bag tables (before A (every 2 (compare equal (col 2 1) (col 1 1)) ∷ []) (col 1 1 ∷ []))
