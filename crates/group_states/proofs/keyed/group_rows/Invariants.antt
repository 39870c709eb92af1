use Rattle.std.proofs.Common.{◌≡◌, ◌++◌, ℕ, All, List, length, map}
use Rattle.std.specs.Vec.Iter.{into_iter_items, into_iter_len}
use Rattle.row_bag.specs.Bags.{at_yes}
use Rattle.row_bag.specs.Groups.{rows_of}
use Rattle.group_states.specs.Groups.{Bag, IsGroup, group_of}
use Rattle.group_states.specs.declared.fold.Fold.{Fold}
use Rattle.group_states.specs.declared.keyed.KeyedStates.{KeyedStates}
use Rattle.group_states.proofs.Entries.{key}
use Rattle.group_states.proofs.keyed.group_rows.Given as goal

abbrev pub invariant-loop-group : goal.invariant-loop-group
invariant-loop-group l = record {
  rows : (n : ℕ) (folds : List Fold) (rows : Bag) → All (IsGroup n folds rows) l.yielded → l.made ≡ at_yes (map (λ (g : KeyedStates). group_of n folds (key g) (rows_of n (key g) rows)) l.yielded);
  whole : l.yielded ++ into_iter_items l.group-iterator ≡ l.fn.groups.items;
  left : into_iter_len l.group-iterator ≡ length (into_iter_items l.group-iterator);
}
