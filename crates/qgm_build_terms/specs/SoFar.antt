-- The boxes that the program has made, as those of the definition.
use Rattle.std.specs.Prelude.{length, map}
use Rattle.qgm_core.specs.Made.{boxes_of}
use Rattle.qgm_translation.specs.Lay.{Boxes}
use Rattle.qgm_build_terms.specs.Setting.{shared_box}
use Rattle.qgm_build_terms.specs.declared.made.Store.{Store}

abbrev pub so_far : Store → Boxes
so_far st = record { made = boxes_of st.made.items; box = length st.made.items; quant = st.next_quant; rows = st.rows.items; types = st.types.items; shared = map shared_box st.shared.items }
