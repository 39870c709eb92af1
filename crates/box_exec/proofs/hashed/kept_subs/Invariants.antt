use Rattle.std.proofs.Common.{filter, take}
use Rattle.qgm_meaning.specs.Values.{Environment}
use Rattle.box_exec.specs.Plans.{family, ranges}
use Rattle.box_exec.specs.Ready.{SubsOf, isnt_F}
use Rattle.box_exec.proofs.hashed.kept_subs.Given as goal

abbrev pub invariant-loop-i : goal.invariant-loop-i
invariant-loop-i l = (env : Environment) → SubsOf (family l.at) env (filter isnt_F (take l.i (ranges l.at.loops.now))) l.subs.items
