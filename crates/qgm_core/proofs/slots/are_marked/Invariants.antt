use Rattle.std.proofs.Common.{◌≡◌, drop}
use Rattle.std.specs.List.{list_all}
use Rattle.list_laws.specs.Lists.{holds}
use Rattle.qgm_core.proofs.slots.are_marked.Given as goal

-- what is left decides
abbrev pub invariant-loop-r : goal.invariant-loop-r
invariant-loop-r l = list_all (λ r. holds r.over l.marks) (drop l.r-index l.ranges) ≡ list_all (λ r. holds r.over l.marks) l.ranges
