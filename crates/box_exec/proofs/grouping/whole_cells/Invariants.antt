use Rattle.std.proofs.Common.{◌≡◌, [], map, take}
use Rattle.group_states.specs.Groups.{AreAfter}
use Rattle.group_states.specs.declared.state.State.{State}
use Rattle.qgm_terms.specs.Shown.{terms}
use Rattle.box_exec.specs.Bound.{env_of}
use Rattle.box_exec.specs.Groups.{asked, fold_of}
use Rattle.box_exec.proofs.grouping.whole_cells.Given as goal

abbrev pub invariant-loop-i : goal.invariant-loop-i
invariant-loop-i l = record {
  folds : map (λ (s : State). s.fold) l.states.items ≡ map fold_of (terms l.folds);
  after : AreAfter 0 (map (asked [] (terms l.folds) l.quant (env_of l.env)) (take l.i l.rows)) l.states.items;
}
