use Rattle.std.proofs.Common.{ℕ, ◌≡◌, false, filter, not, get_or, length, take}
use Rattle.qgm_core.specs.Boxes.{numbers}
use Rattle.list_laws.specs.Lists.{holds}
use Rattle.qgm_core.proofs.flags.flag_unmarked.Given as goal

abbrev pub invariant-loop-node : goal.invariant-loop-node
invariant-loop-node l = record {
  long : length l.flags.items ≡ length l.fn.flags.items;
  flags : (x : ℕ) → get_or l.flags.items x false ≡ holds x (numbers (filter (λ n. not (holds n.id l.marks)) (take l.node-index l.nodes)));
}
