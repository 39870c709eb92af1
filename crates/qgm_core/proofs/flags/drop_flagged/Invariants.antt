use Rattle.std.proofs.Common.{ℕ, ◌≡◌, ◌<◌, ◌≤◌, None, cond, false, get_or, length}
use Rattle.qgm_core.proofs.flags.drop_flagged.Given as goal

abbrev pub invariant-loop-i : goal.invariant-loop-i
invariant-loop-i l = record {
  long : length l.lists.items ≡ length l.fn.lists.items;
  done : (x : ℕ) → x < l.i → get_or l.lists.items x None ≡ cond (get_or l.flags x false) None (get_or l.fn.lists.items x None);
  rest : (x : ℕ) → l.i ≤ x → get_or l.lists.items x None ≡ get_or l.fn.lists.items x None;
}
