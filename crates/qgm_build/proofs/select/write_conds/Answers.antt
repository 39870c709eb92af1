use Rattle.std.proofs.Common.{ap}
use Rattle.std.proofs.lemmas.Result.{IfOk-weaker}
use Rattle.sql_meaning.specs.ResolvedShown as shown
use Rattle.qgm_build_terms.specs.Setting.{frame_in, outer_in, sources_in}
use Rattle.qgm_build_terms.specs.Written.{frame_of}
use Rattle.qgm_build.proofs.Finished.{rows_conds_read}
use Rattle.qgm_build.proofs.select.write_conds.Goals as goal

pub returns-clause-conds : goal.returns-clause-conds
returns-clause-conds c =
    IfOk-weaker c.from_conds.result _ _ (λ v e. rows_conds_read (sources_in c.args.g.now) (outer_in c.args.g.now) (shown.from_list c.args.x.now.from.now) (shown.test c.args.x.now.by.now) c.args.fs.now c.args.subs.now (frame_in c.args.g.now) (frame_of c.in_ok-cells.cells.items) (frame_of c.deref.result.now) v.items
    c.requires.seen c.in_ok-cells.ensures (ap frame_of c.deref.ensures.value) e) c.from_conds.ensures.conds
