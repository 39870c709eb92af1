use Rattle.std.proofs.Common.{◌≡◌, drop}
use Rattle.qgm_build_terms.specs.Setting.{named_in}
use Rattle.qgm_build_terms.proofs.frames.find_named.Given as goal

abbrev pub invariant-loop-x : goal.invariant-loop-x
invariant-loop-x l = named_in (drop l.x-index l.named) l.name ≡ named_in l.named l.name
