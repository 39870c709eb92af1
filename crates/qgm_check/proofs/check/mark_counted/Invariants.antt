use Rattle.std.proofs.Common.{◌≡◌, ◌++◌, drop, filter, map}
use Rattle.qgm_core.specs.Kinds.{is_F_or_S}
use Rattle.qgm_check.proofs.check.mark_counted.Given as goal

-- what is left adds the rest
abbrev pub invariant-loop-range : goal.invariant-loop-range
invariant-loop-range l = l.marks ++ map (λ r. r.over) (filter (λ r. is_F_or_S r.kind) (drop l.range-index l.ranges)) ≡ l.initial.marks ++ map (λ r. r.over) (filter (λ r. is_F_or_S r.kind) l.ranges)
