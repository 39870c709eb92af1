use Rattle.std.proofs.Common.{◌≡◌, map, drop}
use Rattle.qgm_translation.specs.Lay.{box_named}
use Rattle.qgm_build_terms.specs.Setting.{shared_box}
use Rattle.qgm_build_terms.proofs.store.number_named.Given as goal

abbrev pub invariant-loop-x : goal.invariant-loop-x
invariant-loop-x l = box_named (map shared_box (drop l.x-index l.st.shared.items)) l.name ≡ box_named (map shared_box l.st.shared.items) l.name
