use Rattle.std.proofs.Common.{◌≡◌, ◌++◌, drop}
use Rattle.sql_meaning.specs.ResolvedShown as shown
use Rattle.qgm_translation.specs.Shown as w
use Rattle.qgm_build_terms.specs.Site.{sources_at}
use Rattle.qgm_build_terms.specs.Written.{frame_of}
use Rattle.qgm_build_terms.proofs.frames.frame_all.Given as goal

abbrev pub invariant-loop-x : goal.invariant-loop-x
invariant-loop-x l = record {
  frame : frame_of l.out.items ++ w.frame_all (sources_at l.g) (shown.from_list (drop l.x-index l.list)) l.os.rest.now ≡ frame_of l.fn.out.items ++ w.frame_all (sources_at l.g) (shown.from_list l.list) l.fn.os.rest.now;
  past : w.past_all (sources_at l.g) (shown.from_list (drop l.x-index l.list)) l.os.rest.now ≡ w.past_all (sources_at l.g) (shown.from_list l.list) l.fn.os.rest.now;
}
