use Rattle.std.proofs.Common.{◌≡◌, ◌++◌, length, map, take, drop}
use Rattle.qgm_terms.specs.Depth.{depths}
use Rattle.qgm_terms.specs.Shift.{shifted}
use Rattle.qgm_terms.specs.Shown.{terms}
use Rattle.qgm_terms.proofs.shifts.shift_cells.Given as goal

abbrev pub invariant-loop-i : goal.invariant-loop-i
invariant-loop-i l =
    let cs = terms l.initial.list in
    record {
      so_far : terms l.list ≡ map (shifted l.q l.k) (take l.i cs) ++ drop l.i cs;
      same : length l.list ≡ length cs;
      depths : depths l.list ≡ depths l.initial.list;
    }
