use Rattle.std.proofs.Common.{◌≡◌, ◌+◌, drop}
use Rattle.graph_print.specs.Places.{place_in}
use Rattle.qgm_run.proofs.lines.number_in.Given as goal

-- what is left decides
abbrev pub invariant-loop-x : goal.invariant-loop-x
invariant-loop-x l =
    record {
      number : l.number ≡ l.x-index + 1;
      place : place_in l.order l.b ≡ l.x-index + place_in (drop l.x-index l.order) l.b;
    }
