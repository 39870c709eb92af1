use Rattle.std.proofs.Common.{◌∙◌, sym}
use Rattle.sql_meaning.specs.ResolvedShown as shown
use Rattle.qgm_build_terms.specs.Setting.{frame_in, outer_in, sources_in}
use Rattle.qgm_build_terms.specs.Site.{sources_at}
use Rattle.qgm_build_terms.specs.Written.{slots_of}
use Rattle.qgm_build.proofs.Finished.{from_conds_read}
use Rattle.qgm_build.proofs.Taking.{all_two}
use Rattle.qgm_build.proofs.select.from_conds.Goals as goal

pub returns-clause-conds : goal.returns-clause-conds
returns-clause-conds c =
    from_conds_read (sources_at c.site_in.result) (sources_in c.args.g.now) (outer_in c.args.g.now) (shown.from_list c.args.from.now) (shown.test c.args.by.now) c.args.fs.now (frame_in c.args.g.now) (slots_of c.args.s.now) (slots_of c.all_on_conds-joined.new.s)
    _ c.all_on_conds-joined.new.out.items c.add_test-tested.new.out.items c.all_on_conds-joined.result c.add_test-tested.result _
    c.site_in.ensures c.new-conds.ensures.items (sym c.and.ensures ∙ c.in_ok-and.was) c.all_on_conds-joined.ensures.conds c.all_on_conds-joined.ensures.slots c.add_test-tested.ensures.items

pub returns-clause-spare : goal.returns-clause-spare
returns-clause-spare c =
    let both = all_two c.all_on_conds-joined.result c.add_test-tested.result _ (sym c.and.ensures ∙ c.in_ok-and.was) c.all_on_conds-joined.ensures.spare c.add_test-tested.ensures.items in
    c.add_test-tested.ensures.spare ∙ both.0 ∙ c.new-conds.ensures.spare
