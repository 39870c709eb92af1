use Rattle.std.proofs.Common.{◌≡◌, ◌++◌, map, drop, get_or}
use Rattle.qgm_terms.specs.Shown.{terms}
use Rattle.qgm_translation.specs.Maps.{nothing, ref_term}
use Rattle.qgm_build_terms.specs.Written.{frame_of}
use Rattle.qgm_build.proofs.finish.key_terms.Given as goal

abbrev pub invariant-loop-place : goal.invariant-loop-place
invariant-loop-place l = terms l.out.items ++ map (λ place. ref_term (get_or (frame_of l.frame) place nothing)) (drop l.place-index l.places) ≡ map (λ place. ref_term (get_or (frame_of l.frame) place nothing)) l.places
