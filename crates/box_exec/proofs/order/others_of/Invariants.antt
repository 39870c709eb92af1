use Rattle.std.proofs.Common.{◌≡◌, ◌++◌, drop, map}
use Rattle.std.specs.List.{flat_map}
use Rattle.qgm_terms.specs.Shown.{conds, term}
use Rattle.box_exec.specs.Taken.{matched}
use Rattle.box_exec.proofs.order.others_of.Given as goal

abbrev pub invariant-loop-c : goal.invariant-loop-c
invariant-loop-c l = map (λ x. term x.now) l.made.items ++ map (λ m. m.other) (flat_map (matched l.q) (conds (drop l.c-index l.c-items))) ≡ map (λ m. m.other) (flat_map (matched l.q) (conds l.c-items))
