use Rattle.std.proofs.Common.{All}
use Rattle.qgm_terms.specs.Shown.{conds}
use Rattle.qgm_terms.specs.Terms.{Cond}
use Rattle.box_exec.specs.Idle.{Idles, parted}
use Rattle.box_exec.proofs.idle.+idle_keys.Given as goal

abbrev pub invariant-idle_parts-loop-p : goal.invariant-idle_parts-loop-p
invariant-idle_parts-loop-p l =
    (c : Cond) → All (λ k. Idles l.holds l.q (parted l.holds c (conds l.list)) k) l.fn.made.items → All (λ k. Idles l.holds l.q (parted l.holds c (conds l.list)) k) l.made.items
