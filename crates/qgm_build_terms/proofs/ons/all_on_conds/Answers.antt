use Rattle.std.proofs.lemmas.Grind.{common_steps}
use Rattle.std.proofs.Common.{◌∙◌, arith}
use Rattle.qgm_build_terms.specs.Site.{sources_at}
use Rattle.qgm_build_terms.specs.Written.{map_of, slots_of}
use Rattle.qgm_build_terms.proofs.Onning.{conds_step, leaves_step}
use Rattle.qgm_build_terms.proofs.ons.all_on_conds.Goals as goal

pub loop-x-preserved : goal.loop-x-preserved
loop-x-preserved c = record {
  conds = conds_step (sources_at c.args.g.now) (map_of c.args.outer.now) c.args.list.now c.loop-x.x-index c.x-item.result c.loop-x-test.true c.x-item.is c.loop-x.os.rest.now c.on_conds.new.os.rest.now (slots_of c.loop-x.s) (slots_of c.on_conds.new.s) c.loop-x.out.items c.on_conds.new.out.items _
      c.in_ok-on_conds.ensures.conds c.in_ok-on_conds.ensures.past c.in_ok-on_conds.ensures.slots c.loop-x.invariant.conds;
  spare = c.in_ok-on_conds.ensures.spare ∙ c.loop-x.invariant.spare;
  slots = leaves_step (sources_at c.args.g.now) (map_of c.args.outer.now) c.args.list.now c.loop-x.x-index c.x-item.result c.loop-x-test.true c.x-item.is c.loop-x.os.rest.now c.on_conds.new.os.rest.now (slots_of c.loop-x.s) (slots_of c.on_conds.new.s) _ c.in_ok-on_conds.ensures.past c.in_ok-on_conds.ensures.slots
      c.loop-x.invariant.slots;
}

pub returns-clause-slots : goal.returns-clause-slots
returns-clause-slots c = grind (arith, common_steps)

pub returns-clause-spare : goal.returns-clause-spare
returns-clause-spare c = grind (arith, common_steps)

pub loop-x-init : goal.loop-x-init
loop-x-init c = grind (arith, common_steps)

pub returns-clause-conds : goal.returns-clause-conds
returns-clause-conds c = grind (arith, common_steps)
