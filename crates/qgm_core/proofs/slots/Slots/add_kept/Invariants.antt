use Rattle.std.proofs.Common.{◌≡◌, ◌++◌, [], drop}
use Rattle.std.specs.List.{flat_map, list_all}
use Rattle.qgm_core.specs.Slots.{is_kept_behind, kept, list_or}
use Rattle.qgm_core.proofs.slots.Slots.add_kept.Given as goal

-- what is left decides
abbrev pub invariant-loop-r : goal.invariant-loop-r
invariant-loop-r l = record {
  marked : list_all (is_kept_behind l.self l.behind) (drop l.r-index l.ranges) ≡ list_all (is_kept_behind l.self l.behind) l.ranges;
  names : l.out.items ++ flat_map (λ r. list_or [] (kept r.over l.self)) (drop l.r-index l.ranges) ≡ l.initial.out.items ++ flat_map (λ r. list_or [] (kept r.over l.self)) l.ranges;
}
