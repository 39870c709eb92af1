use Rattle.std.proofs.Common.{◌≡◌, ◌++◌, map, drop}
use Rattle.qgm_terms.specs.Shown.{terms}
use Rattle.qgm_translation.specs.Maps.{ref_term}
use Rattle.qgm_build_terms.specs.Written.{frame_of}
use Rattle.qgm_build.proofs.finish.seen_terms.Given as goal

abbrev pub invariant-loop-x : goal.invariant-loop-x
invariant-loop-x l = terms l.out.items ++ map ref_term (frame_of (drop l.x-index l.frame)) ≡ map ref_term (frame_of l.frame)
