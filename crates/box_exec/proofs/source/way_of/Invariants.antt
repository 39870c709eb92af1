use Rattle.std.proofs.Common.{◌≡◌, drop}
use Rattle.box_exec.specs.Sources.{held_by}
use Rattle.box_exec.proofs.source.way_of.Given as goal

abbrev pub invariant-loop-sub : goal.invariant-loop-sub
invariant-loop-sub l = held_by (drop l.sub-index l.subs) l.q ≡ held_by l.subs l.q
