use Rattle.std.proofs.Common.{ℕ, ◌≡◌, ◌<◌, get_or, length, take}
use Rattle.qgm_core.specs.Boxes.{overs_in}
use Rattle.list_laws.specs.Lists.{times}
use Rattle.qgm_core.proofs.uses.recount.Given as goal

abbrev pub invariant-loop-node : goal.invariant-loop-node
invariant-loop-node l = record {
  long : length l.uses.items ≡ length l.fn.uses.items;
  counted : (x : ℕ) → x < length l.fn.uses.items → get_or l.uses.items x 0 ≡ times x (overs_in (take l.node-index l.nodes));
}
