-- A settled graph with an open box.
use Rattle.std.specs.Prelude.{ℕ, ◌≡◌, codes, false, List, [], ◌∷◌, None}
use Rattle.qgm_terms.specs.Terms.{Cond, Term, col, compare, same}
use Rattle.qgm_core.specs.Boxes.{QueryGraph}
use Rattle.qgm_core.specs.declared.kinds.BoxKind.{BoxKind}
use Rattle.qgm_core.specs.declared.kinds.BoxKind.TheVariants.{Select}
use Rattle.qgm_core.specs.declared.kinds.Distinct.TheVariants.{Preserve}
use Rattle.qgm_core.specs.declared.kinds.QuantKind.TheVariants.{F}
use Rattle.qgm_core.specs.declared.kinds.Role.TheVariants.{Plain}
use Rattle.qgm_core.specs.declared.node.Node.{Node}
use Rattle.qgm_core.specs.declared.owned.OwnedQuant.{OwnedQuant}
use Rattle.qgm_meaning.specs.Examples.{stored}
use Rattle.qgm_wellformed.specs.WellFormed.{fault}
use Rattle.qgm_props.specs.Calm.{is_closed}
use Rattle.rule_calm.specs.Settled.{IsSettled}

abbrev node : ℕ → BoxKind → List Cond → List Term → List OwnedQuant → Node
node b k conds head quants = record { id = b; parts = record { kind = k; distinct = Preserve; role = Plain; conds = record { items = conds; spare = 0 }; head = head }; quants = quants }

abbrev quant : ℕ → ℕ → OwnedQuant
quant q b = record { id = q; kind = F; over = b }

-- box 3 names a column of quantifier 1
abbrev pub sample : QueryGraph
sample = record {
  root = 1;
  names = [];
  order = [];
  boxes = node 1 Select [] (col 1 1 ∷ (col 2 1 ∷ [])) (quant 1 2 ∷ (quant 2 3 ∷ [])) ∷ (node 3 Select (compare same (col 3 2) (col 1 2) ∷ []) (col 3 1 ∷ (col 1 2 ∷ [])) (quant 3 2 ∷ []) ∷ (node 2 (stored (codes "T")) [] [] [] ∷ []));
}

-- it is settled, the check finds nothing in it, and box 3 is open
pub record SettledSample : Type 0 where
  pub faultless : fault sample ≡ None
  pub settled : IsSettled sample
  pub open_box : is_closed sample.boxes 3 ≡ false
