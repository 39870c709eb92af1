use Rattle.std.proofs.Common.{◌≡◌, ◌++◌, drop}
use Rattle.qgm_terms.specs.Shown.{terms}
use Rattle.qgm_props.specs.Keys as spec
use Rattle.qgm_props.proofs.keys.columns_at.Given as goal

abbrev pub invariant-loop-k : goal.invariant-loop-k
invariant-loop-k l = l.columns.items ++ spec.columns_at l.q (terms l.head) (drop l.k-index l.places) ≡ spec.columns_at l.q (terms l.head) l.places
