use Rattle.std.proofs.Common.{◌≤◌, ◌+◌, drop}
use Rattle.std.specs.Prelude.{◌↔◌}
use Rattle.rule_merge.specs.MergeSelectCopies.{copied, most_copied, places_of}
use Rattle.rule_merge.proofs.merge_select.copies.few_copied.Given as goal

-- what is left for the other cells
abbrev pub invariant-loop-k : goal.invariant-loop-k
invariant-loop-k l = record {
  within : l.left ≤ most_copied;
  decides : (copied (places_of l.q l.names) (l.k + 1) (drop l.k l.cells) ≤ l.left) ↔ (copied (places_of l.q l.names) 1 l.cells ≤ most_copied);
}
