use Rattle.std.proofs.Common.{ℕ, ◌≡◌, ◌<◌, ◌+◌, get_or, length, true}
use Rattle.qgm_core.specs.Kinds.{is_F}
use Rattle.box_exec.specs.Asked.{keys_at, tested_at}
use Rattle.box_exec.specs.Lasting.{AllKeyed}
use Rattle.box_exec.specs.declared.under.Loop.{Loop}
use Rattle.box_exec.proofs.plan.all_keyed.Given as goal

abbrev pub invariant-loop-i : goal.invariant-loop-i
invariant-loop-i l = record {
  long : length l.made.items ≡ l.i;
  keyed : AllKeyed l.early l.loops l.made.items;
  asked : (j : ℕ) (m : Loop) → j < l.i → m ≡ get_or l.loops j m → is_F m.range.kind ≡ true → keys_at l.made.items j ≡ tested_at l.early (j + 1) m.range.id;
}
