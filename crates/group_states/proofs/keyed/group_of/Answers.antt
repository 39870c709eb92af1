use Rattle.std.proofs.Common.{[]}
use Rattle.group_states.proofs.keyed.group_of.Goals as goal

pub returns-clause-after : goal.returns-clause-after
returns-clause-after c = c.in_ok-take_row.ensures.after [] (c.in_ok-states.ensures.after c.args.keys)
