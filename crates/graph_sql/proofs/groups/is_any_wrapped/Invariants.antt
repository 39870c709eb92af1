use Rattle.std.proofs.Common.{◌≡◌, drop, List, ℕ}
use Rattle.graph_sql.specs.Lists.{any_wrapped}
use Rattle.graph_sql.specs.Readings.{Names}
use Rattle.qgm_terms.specs.Shown.{terms}
use Rattle.graph_sql.proofs.groups.is_any_wrapped.Given as goal

-- what is left decides
abbrev pub invariant-loop-x : goal.invariant-loop-x
invariant-loop-x l = (n : Names (List ℕ)) → any_wrapped n (terms (drop l.x-index l.list)) ≡ any_wrapped n (terms l.list)
