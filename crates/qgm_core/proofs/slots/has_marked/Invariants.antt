use Rattle.std.proofs.Common.{◌≡◌, drop}
use Rattle.std.specs.List.{list_any}
use Rattle.list_laws.specs.Lists.{holds}
use Rattle.qgm_core.proofs.slots.has_marked.Given as goal

-- what is left decides
abbrev pub invariant-loop-q : goal.invariant-loop-q
invariant-loop-q l = list_any (λ q. holds q l.marks) (drop l.q-index l.qs) ≡ list_any (λ q. holds q l.marks) l.qs
