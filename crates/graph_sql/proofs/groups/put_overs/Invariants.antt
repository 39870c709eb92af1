use Rattle.std.proofs.Common.{◌≡◌, ◌++◌, drop, List, ℕ}
use Rattle.graph_sql.specs.BodyText.{overs_text}
use Rattle.graph_sql.specs.Lists.{group_cells}
use Rattle.graph_sql.specs.Readings.{Names}
use Rattle.qgm_terms.specs.Shown.{terms}
use Rattle.graph_sql.proofs.groups.put_overs.Given as goal

-- what is left adds the rest
abbrev pub invariant-loop-i : goal.invariant-loop-i
invariant-loop-i l = (n : Names (List ℕ)) → l.out ++ overs_text l.i (group_cells n (terms (drop l.i l.list))) ≡ l.initial.out ++ overs_text 0 (group_cells n (terms l.list))
