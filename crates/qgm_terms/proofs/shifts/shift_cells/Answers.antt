use Rattle.std.proofs.lemmas.Grind.{common_steps}
use Rattle.std.proofs.Common.{◌<◌, ◌∙◌, length, arith}
use Rattle.std.proofs.Math.ListN.{length-set}
use Rattle.qgm_terms.proofs.InPlace.{map_view_kept, map_view_more}
use Rattle.qgm_terms.specs.Depth.{depth}
use Rattle.qgm_terms.specs.Shift.{shifted}
use Rattle.qgm_terms.specs.Shown.{term, terms}
use Rattle.qgm_terms.proofs.shifts.shift_cells.Goals as goal

pub loop-i-preserved : goal.loop-i-preserved
loop-i-preserved c =
    let f = shifted c.args.q c.args.k in
    let in_range : c.loop-i.i < length c.loop-i.list = omega arith in
    record {
      so_far = map_view_more term f (terms c.args.list.now) c.loop-i.list c.loop-i.i c.shift.new.x c.index-list-i.result in_range c.loop-i.invariant.so_far c.loop-i.invariant.same c.shift.ensures.tree;
      same = simp length-set c.loop-i.invariant.same;
      depths = map_view_kept depth c.loop-i.list c.loop-i.i c.shift.new.x c.index-list-i.result in_range c.shift.ensures.depth ∙ c.loop-i.invariant.depths;
    }

pub loop-i-init : goal.loop-i-init
loop-i-init c = grind (arith, common_steps)

pub returns-clause-trees : goal.returns-clause-trees
returns-clause-trees c = grind (arith, common_steps)
