use Rattle.std.proofs.Common.{◌≡◌, ◌++◌, drop}
use Rattle.sql_meaning.specs.ResolvedShown as shown
use Rattle.qgm_translation.specs.Leaves as w
use Rattle.qgm_translation.specs.Shown.{all_on_leaves, all_ons}
use Rattle.qgm_build_terms.specs.Site.{sources_at}
use Rattle.qgm_build_terms.specs.Written.{map_of, slots_of}
use Rattle.qgm_build_terms.proofs.ons.all_on_conds.Given as goal

abbrev pub invariant-loop-x : goal.invariant-loop-x
invariant-loop-x l = record {
  conds : l.out.items ++ all_ons (sources_at l.g) (map_of l.outer) (shown.from_list (drop l.x-index l.list)) l.os.rest.now (slots_of l.s) ≡ l.fn.out.items ++ all_ons (sources_at l.g) (map_of l.outer) (shown.from_list l.list) l.fn.os.rest.now (slots_of l.fn.s);
  spare : l.out.spare ≡ l.fn.out.spare;
  slots : w.after (all_on_leaves (sources_at l.g) (shown.from_list (drop l.x-index l.list)) l.os.rest.now) (slots_of l.s) ≡ w.after (all_on_leaves (sources_at l.g) (shown.from_list l.list) l.fn.os.rest.now) (slots_of l.fn.s);
}
