use Rattle.std.proofs.Common.{ℕ, List, ◌≡◌, ◌≤◌, false, drop, get_or, length}
use Rattle.list_laws.specs.Lists.{holds}
use Rattle.qgm_core.proofs.Flagged.{reaching}
use Rattle.qgm_core.proofs.flags.spread.Given as goal

abbrev pub decreases-boxes : goal.decreases-boxes
decreases-boxes l = l.i

abbrev pub invariant-boxes : goal.invariant-boxes
invariant-boxes l = record {
  within : l.i ≤ length l.nodes;
  long : length l.flags.items ≡ length l.fn.flags.items;
  flags : (cs : List ℕ) → ((x : ℕ) → get_or l.fn.flags.items x false ≡ holds x cs) → (x : ℕ) → get_or l.flags.items x false ≡ holds x (reaching cs (drop l.i l.nodes));
}
