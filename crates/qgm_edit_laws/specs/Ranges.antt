-- Quantifiers over another box, and the columns of a quantifier in order.
use Rattle.std.specs.Prelude.{ℕ, zero, suc, ◌==◌, if◌then◌else◌, List, [], ◌∷◌, map}
use Rattle.qgm_core.specs.declared.node.Node.{Node}
use Rattle.qgm_core.specs.declared.owned.OwnedQuant.{OwnedQuant}
use Rattle.qgm_terms.specs.Terms.{Term, col}

-- quantifiers over b range over c
abbrev pub moved_range : ℕ → ℕ → OwnedQuant → OwnedQuant
moved_range b c r = record r { over = if r.over == b then c else r.over }

abbrev pub moved : ℕ → ℕ → Node → Node
moved b c n = record n { quants = map (moved_range b c) n.quants }

-- w columns of q, from place k on
abbrev pub columns_from : ℕ → ℕ → ℕ → List Term
columns_from q k zero = []
columns_from q k (suc w) = col q k ∷ columns_from q (suc k) w
