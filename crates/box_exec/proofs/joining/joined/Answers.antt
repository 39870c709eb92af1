use Rattle.std.proofs.Common.{sym, ◌∙◌}
use Rattle.std.proofs.lemmas.Result.{IfOk-weaker}
use Rattle.row_bag.proofs.Agreement.{alike-same, alike-trans}
use Rattle.box_exec.specs.Bound.{env_of}
use Rattle.box_exec.specs.Outer.{null_row, partner_rows}
use Rattle.box_exec.proofs.Loops.{none-there, some-there}
use Rattle.box_exec.proofs.joining.joined.Goals as goal

pub returns-then-any_there : goal.returns-then-any_there
returns-then-any_there c =
    let join = c.args.join.now in
    some-there c.in_ok-made.made (partner_rows join.node.now join.left join.right c.args.left.now c.args.right.now.rows.now (env_of c.args.env.now)) (null_row join.node.now join.left join.right c.args.left.now (env_of c.args.env.now))
    c.in_ok-made.ensures (sym c.any_there.ensures ∙ c.if-any_there.true)

pub returns : goal.returns
returns c =
    let join = c.args.join.now in
    let rows = partner_rows join.node.now join.left join.right c.args.left.now c.args.right.now.rows.now (env_of c.args.env.now) in
    let others = null_row join.node.now join.left join.right c.args.left.now (env_of c.args.env.now) in
    IfOk-weaker c.with_nulls.result _ _
    (λ made h. alike-trans (alike-same h) (none-there c.in_ok-made.made rows others c.in_ok-made.ensures (sym c.any_there.ensures ∙ c.if-any_there.false)))
    c.with_nulls.ensures
