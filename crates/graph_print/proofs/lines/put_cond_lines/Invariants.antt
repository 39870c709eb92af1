use Rattle.std.proofs.Common.{◌≡◌, ◌++◌, take}
use Rattle.std.specs.List.{flat_map}
use Rattle.graph_print.specs.GraphText as spec
use Rattle.qgm_terms.specs.Shown.{conds}
use Rattle.graph_print.proofs.lines.put_cond_lines.Given as goal

abbrev pub invariant-loop-c : goal.invariant-loop-c
invariant-loop-c l = l.out ≡ l.initial.out ++ flat_map (spec.cond_line l.quants l.kind) (conds (take l.c-index l.list))
