use Rattle.std.proofs.Common.{◌≡◌, ◌++◌, ◌∙◌, ap, arith, length}
use Rattle.std.proofs.lemmas.Grind.{common_steps}
use Rattle.std.proofs.lemmas.Result.{on_ok_weaker}
use Rattle.qgm_terms.specs.Shown.{cond, conds}
use Rattle.qgm_terms.specs.Split.{split}
use Rattle.qgm_terms.proofs.Lists.{conds_hidden, lists}
use Rattle.qgm_terms.proofs.Splitting.{split_all, split_next, split_none}
use Rattle.qgm_terms.proofs.tree.+split.Goals as goal

pub split::add_splits-loop-p-preserved : goal.split::add_splits-loop-p-preserved
split::add_splits-loop-p-preserved h c = record {
  items = split_next c.loop-p.yielded c.in-Some.p c.args.out.now.items c.loop-p.out.items c.split_into.new.out.items c.in_ok-split_into.ensures.items c.loop-p.invariant.items;
  spare = c.in_ok-split_into.ensures.spare ∙ c.loop-p.invariant.spare;
}

pub Gc::split_into-returns-in_ok-split_into-in-All-clause-items : goal.Gc::split_into-returns-in_ok-split_into-in-All-clause-items
Gc::split_into-returns-in_ok-split_into-in-All-clause-items h c =
    rw (c.in-All.is, conds_hidden c.in-All.list) (on_ok_weaker c.add_splits.result (λ f. split_all (cond c.in-All.first.value) (conds c.in-All.list.items) c.args.out.now.items c.split_into.new.out.items c.add_splits.new.out.items
    (c.in_ok-split_into-in-All.ensures.items ∙ ap (λ p. c.args.out.now.items ++ split (cond p)) c.into_inner.ensures) f) c.add_splits.ensures.items)

pub Gc::split_into-returns-then-is_empty-clause-items : goal.Gc::split_into-returns-then-is_empty-clause-items
Gc::split_into-returns-then-is_empty-clause-items h c =
    let e : length c.in-Any.list.items ≡ 0 = grind (arith, common_steps) in
    rw (c.in-Any.is, conds_hidden c.in-Any.list, split_none (cond c.in-Any.first.value) c.in-Any.list.items e, ← c.into_inner-then-is_empty.ensures) c.split_into-then-is_empty.ensures.items

pub Gc::split_into-returns-else-is_empty-clause-items : goal.Gc::split_into-returns-else-is_empty-clause-items
Gc::split_into-returns-else-is_empty-clause-items h c = grind (arith, common_steps, lists)

pub Gc::split_into-returns-in-True-clause-items : goal.Gc::split_into-returns-in-True-clause-items
Gc::split_into-returns-in-True-clause-items t c = grind (arith, common_steps)

pub Gc::split_into-returns-in-Every-clause-items : goal.Gc::split_into-returns-in-Every-clause-items
Gc::split_into-returns-in-Every-clause-items t c = grind (arith, common_steps)

pub Gc::split_into-add_any-requires : goal.Gc::split_into-add_any-requires
Gc::split_into-add_any-requires t c = grind (arith, common_steps)

pub Gc::split_into-returns-in-IsNull-clause-items : goal.Gc::split_into-returns-in-IsNull-clause-items
Gc::split_into-returns-in-IsNull-clause-items t c = grind (arith, common_steps)

pub Gc::split_into-returns-in-Some-clause-items : goal.Gc::split_into-returns-in-Some-clause-items
Gc::split_into-returns-in-Some-clause-items t c = grind (arith, common_steps)

pub Gc::split_into-returns-in-Not-clause-items : goal.Gc::split_into-returns-in-Not-clause-items
Gc::split_into-returns-in-Not-clause-items t c = grind (arith, common_steps)

pub split::add_splits-loop-p-init : goal.split::add_splits-loop-p-init
split::add_splits-loop-p-init t c = grind (arith, common_steps)

pub Gc::split_into-returns-in_ok-split_into-in-All-clause-spare : goal.Gc::split_into-returns-in_ok-split_into-in-All-clause-spare
Gc::split_into-returns-in_ok-split_into-in-All-clause-spare t c = grind (arith, common_steps)

pub Gc::split_into-returns-in-Compare-clause-items : goal.Gc::split_into-returns-in-Compare-clause-items
Gc::split_into-returns-in-Compare-clause-items t c = grind (arith, common_steps)

pub Gc::split_into-returns-then-is_empty-clause-spare : goal.Gc::split_into-returns-then-is_empty-clause-spare
Gc::split_into-returns-then-is_empty-clause-spare t c = grind (arith, common_steps)
