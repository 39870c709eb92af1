use Rattle.std.proofs.Common.{◌≡◌, not, [], drop, filter}
use Rattle.qgm_core.specs.Free as spec
use Rattle.list_laws.specs.Lists.{holds}
use Rattle.qgm_core.proofs.free.not_owned.Given as goal

-- what is left puts the rest
abbrev pub invariant-loop-q : goal.invariant-loop-q
invariant-loop-q l = spec.put_each l.free.items (filter (λ q. not (holds q l.owned)) (drop l.q-index l.names)) ≡ spec.put_each [] (filter (λ q. not (holds q l.owned)) l.names)
