use Rattle.std.proofs.lemmas.Grind.{common_steps}
use Rattle.std.proofs.Common.{List, arith}
use Rattle.std.proofs.lemmas.Option.{slice_get_within}
use Rattle.row_bag.proofs.Agreement.{alike-same}
use Rattle.row_bag.proofs.Places.{read-at}
use Rattle.row_bag.specs.Joins.{or_else}
use Rattle.row_bag.specs.RowRefs.{lent}
use Rattle.sql_value.specs.declared.cell.Cell.{Cell}
use Rattle.qgm_meaning.specs.Values.{Bag}
use Rattle.box_exec.specs.Bound.{env_of}
use Rattle.box_exec.specs.Outer.{null_row, partner_rows}
use Rattle.box_exec.proofs.Loops.{bind-more}
use Rattle.box_exec.proofs.joining.each_joined.Goals as goal

pub loop-i-preserved : goal.loop-i-preserved
loop-i-preserved c =
    let join = c.args.join.now in
    let env = env_of c.args.env.now in
    let f : List Cell → Bag = λ left. or_else (partner_rows join.node.now join.left join.right left c.args.right.now.rows.now env) (null_row join.node.now join.left join.right left env) in
    let xs = c.args.xs.now in
    let x = lent c.at-x.result in
    bind-more xs c.loop-i.i x f c.loop-i.made c.append_kept.new.out c.in_ok-rows.rows (slice_get_within xs c.loop-i.i x c.at-x.ensures) (read-at xs c.loop-i.i x c.at-x.ensures) c.loop-i.invariant
    c.in_ok-rows.ensures (alike-same c.in_ok-append_kept.ensures)

pub returns : goal.returns
returns c = grind (arith, common_steps)
