-- Keys that look-ups ask for, in terms of the graph.
use Rattle.std.specs.Prelude.{ℕ, ◌≡◌, ◌<◌, ◌+◌, not, Bool, true, List, drop, get_or, length, Option}
use Rattle.qgm_core.specs.Boxes.{has_box}
use Rattle.qgm_core.specs.Kinds.{is_F}
use Rattle.qgm_core.specs.declared.node.Node.{Node}
use Rattle.qgm_core.specs.declared.owned.OwnedQuant.{OwnedQuant}
use Rattle.box_exec.specs.Asked.{keys_at}
use Rattle.box_exec.specs.Costs.{Keeps}
use Rattle.box_exec.specs.Early.{is_open}
use Rattle.box_exec.specs.Taken.{matches}
use Rattle.box_exec.specs.declared.lookup.Keyed.{Keyed}
use Rattle.row_bag.specs.declared.operand.Operand.{Operand}
use Rattle.box_exec.specs.declared.under.Under.{Under}

-- a box that stands behind is open where its rows aren't kept
abbrev pub OpensAs : List (Option Operand) → List Node → ℕ → Under → Type 0
OpensAs memo below b under = (kept : ℕ → Bool) → Keeps memo kept below → has_box below b ≡ true → is_open under ≡ not (kept b)

-- each F quantifier of a box, bound in this order, has all keys that the conditions ask for
abbrev pub AllSought : Node → List OwnedQuant → List (Option Keyed) → Type 0
AllSought n rs ks = (i : ℕ) (r : OwnedQuant) → i < length rs → r ≡ get_or rs i r → is_F r.kind ≡ true → keys_at ks i ≡ matches n r (drop (i + 1) rs)
