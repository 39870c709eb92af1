use Rattle.std.proofs.Common.{◌≡◌, ℕ, suc, ◌-◌, [], length, slice_index_or}
use Rattle.rule_merge.proofs.merge_select.names.reach_places.Given as goal

-- what is read stays
abbrev pub invariant-loop-alloc : goal.invariant-loop-alloc
invariant-loop-alloc l = (r : ℕ) → slice_index_or l.table.items r [] ≡ slice_index_or l.initial.table.items r []

abbrev pub decreases-loop-alloc : goal.decreases-loop-alloc
decreases-loop-alloc l = suc l.q - length l.table.items
