use Rattle.std.proofs.Common.{◌≡◌, ◌++◌, drop}
use Rattle.qgm_meaning.specs.Values.{head_cells}
use Rattle.qgm_terms.specs.Shown.{terms}
use Rattle.box_exec.specs.Bound.{env_of}
use Rattle.box_exec.specs.Sources.{held_by}
use Rattle.box_exec.proofs.heads.append_head.Given as goal

abbrev pub invariant-loop-x : goal.invariant-loop-x
invariant-loop-x l = l.out.items ++ head_cells (held_by l.subs) (terms (drop l.x-index l.list)) (env_of l.env) ≡ l.initial.out.items ++ head_cells (held_by l.subs) (terms l.list) (env_of l.env)
