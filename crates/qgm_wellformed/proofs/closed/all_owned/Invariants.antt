use Rattle.std.proofs.Common.{◌≡◌, drop}
use Rattle.std.specs.List.{list_all}
use Rattle.list_laws.specs.Lists.{holds}
use Rattle.qgm_wellformed.proofs.closed.all_owned.Given as goal

-- what is left decides
abbrev pub invariant-loop-q : goal.invariant-loop-q
invariant-loop-q l = list_all (λ q. holds q l.owned) (drop l.q-index l.names) ≡ list_all (λ q. holds q l.owned) l.names
