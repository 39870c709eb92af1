use Rattle.std.proofs.Common.{◌≡◌, drop, map}
use Rattle.qgm_translation.specs.Whole.{is_laid}
use Rattle.qgm_build_terms.specs.Setting.{shared_box}
use Rattle.qgm_build.proofs.whole.is_laid.Given as goal

abbrev pub invariant-loop-x : goal.invariant-loop-x
invariant-loop-x l =
    is_laid (map shared_box (drop l.x-index l.st.shared.items)) l.name ≡ is_laid (map shared_box l.st.shared.items) l.name
