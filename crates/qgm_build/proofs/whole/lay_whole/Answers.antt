use Rattle.std.proofs.Common.{◌∙◌}
use Rattle.qgm_build_terms.specs.SoFar.{so_far}
use Rattle.qgm_build.proofs.Laying.{whole_steps}
use Rattle.qgm_build.proofs.whole.lay_whole.Goals as goal

pub returns-clause-laid : goal.returns-clause-laid
returns-clause-laid c =
    whole_steps c.args.catalog.now c.args.views.now c.args.checked.now c.deref.result.now c.as_slice.result.now c.as_slice-2.result.now (so_far c.in_ok-store.store) (so_far c.lay_read.new.st) (so_far c.lay_within.new.st) c.in_ok-root.root
    (c.deref.ensures.value ∙ c.in_ok-named.ensures) c.as_slice.ensures c.as_slice-2.ensures c.in_ok-store.ensures c.in_ok-lay_read.ensures c.in_ok-root.ensures.laid
