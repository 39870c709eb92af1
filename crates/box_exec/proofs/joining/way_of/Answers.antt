use Rattle.std.proofs.lemmas.Result.{IfOk-weaker}
use Rattle.box_exec.specs.Outer.{rejects_on}
use Rattle.box_exec.proofs.joining.way_of.Goals as goal

pub returns : goal.returns
returns c =
    let join = c.args.join.now in
    let right = c.args.right.now in
    IfOk-weaker c.way_through.result _ _ (λ way f. f (rejects_on join.node.now) join.right right.rows.now c.len.ensures c.requires) c.way_through.ensures
