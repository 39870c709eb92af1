use Rattle.std.proofs.Common.{arith}
use Rattle.std.proofs.lemmas.Grind.{common_steps}
use Rattle.qgm_terms.proofs.Lists as lists
use Rattle.qgm_terms.specs.Shown as shown
use Rattle.rule_trans.proofs.Alone.{sides_anded, sides_ored}
use Rattle.rule_trans.proofs.equalities.+sides.Goals as goal

pub returns-then-is_single : goal.returns-then-is_single
returns-then-is_single t c =
    rw (c.in-All.is, lists.conds_hidden c.in-All.list, sides_anded (shown.cond c.in-All.a.value) (shown.conds c.in-All.list.items)) (grind (arith, common_steps))

pub returns-else-is_single : goal.returns-else-is_single
returns-else-is_single t c =
    rw (c.in-All.is, lists.conds_hidden c.in-All.list, sides_anded (shown.cond c.in-All.a.value) (shown.conds c.in-All.list.items)) (grind (arith, common_steps))

pub returns-then-is_single-2 : goal.returns-then-is_single-2
returns-then-is_single-2 t c =
    rw (c.in-Any.is, lists.conds_hidden c.in-Any.list, sides_ored (shown.cond c.in-Any.a.value) (shown.conds c.in-Any.list.items)) (grind (arith, common_steps))

pub returns-else-is_single-2 : goal.returns-else-is_single-2
returns-else-is_single-2 t c =
    rw (c.in-Any.is, lists.conds_hidden c.in-Any.list, sides_ored (shown.cond c.in-Any.a.value) (shown.conds c.in-Any.list.items)) (grind (arith, common_steps))
