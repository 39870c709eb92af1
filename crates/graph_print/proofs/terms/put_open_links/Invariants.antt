use Rattle.std.proofs.Common.{◌≡◌, ◌≤◌, ◌++◌, length, drop}
use Rattle.qgm_terms.specs.Shown.{links}
use Rattle.graph_print.specs.TermText.{open_links}
use Rattle.graph_print.proofs.terms.put_open_links.Given as goal

abbrev pub invariant-loop-i : goal.invariant-loop-i
invariant-loop-i l = record {
  within : l.i ≤ length l.list;
  added : l.out ≡ l.initial.out ++ open_links (links (drop l.i l.list));
}

abbrev pub decreases-loop-i : goal.decreases-loop-i
decreases-loop-i l = l.i
