use Rattle.std.proofs.Common.{◌≡◌, ◌++◌, ℕ, map, take}
use Rattle.rule_merge.specs.MergeSelectCopies.{cut, name_of}
use Rattle.rule_merge.proofs.merge_select.names.add_each.Given as goal

abbrev pub invariant-loop-column : goal.invariant-loop-column
invariant-loop-column l = (n : ℕ) → l.levels ≡ cut n → l.out ≡ l.initial.out ++ map (name_of n) (take l.column-index l.columns)
