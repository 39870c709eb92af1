use Rattle.box_exec.specs.Outer.{rejects_on}
use Rattle.box_exec.proofs.joining.hashed_right.Goals as goal

pub returns : goal.returns
returns c = c.hashed_by.ensures (rejects_on c.args.node.now) c.in_ok-keys.ensures
