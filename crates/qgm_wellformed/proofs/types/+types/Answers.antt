use Rattle.std.proofs.Common.{arith}
use Rattle.std.proofs.lemmas.Grind.{common_steps}
use Rattle.qgm_terms.proofs.Lists as lists
use Rattle.qgm_terms.specs.Shown as shown
use Rattle.qgm_wellformed.specs.Types.{type_at}
use Rattle.qgm_wellformed.proofs.TypeLaws as laws
use Rattle.qgm_wellformed.proofs.types.+types.Goals as goal

pub type_of-returns-in-Chain : goal.type_of-returns-in-Chain
type_of-returns-in-Chain t c =
    rw (c.in-Chain.is, lists.links_hidden c.in-Chain.list, laws.type_linked (type_at c.args.table.now c.args.places.now) (shown.term c.in-Chain.a.value) (shown.links c.in-Chain.list.items)) (grind (arith, common_steps))

pub type_of-returns-in-Case : goal.type_of-returns-in-Case
type_of-returns-in-Case t c =
    rw (c.in-Case.is, lists.choices_hidden c.in-Case.list, laws.type_case (type_at c.args.table.now c.args.places.now) (shown.choices c.in-Case.list.items) (shown.term c.in-Case.a.value)) (grind (arith, common_steps))

pub cond_fits-returns-in-All : goal.cond_fits-returns-in-All
cond_fits-returns-in-All t c =
    rw (c.in-All.is, lists.conds_hidden c.in-All.list, laws.fits_anded (type_at c.args.table.now c.args.places.now) (shown.cond c.in-All.a.value) (shown.conds c.in-All.list.items)) (grind (arith, common_steps))

pub cond_fits-returns-in-Any : goal.cond_fits-returns-in-Any
cond_fits-returns-in-Any t c =
    rw (c.in-Any.is, lists.conds_hidden c.in-Any.list, laws.fits_ored (type_at c.args.table.now c.args.places.now) (shown.cond c.in-Any.a.value) (shown.conds c.in-Any.list.items)) (grind (arith, common_steps))

pub arms_fit-loop-arm-preserved : goal.arms_fit-loop-arm-preserved
arms_fit-loop-arm-preserved t c = grind (arith, common_steps)

pub arms_fit-returns-then-not-both : goal.arms_fit-returns-then-not-both
arms_fit-returns-then-not-both t c = grind (arith, common_steps)

pub conds_fit-loop-c-preserved : goal.conds_fit-loop-c-preserved
conds_fit-loop-c-preserved t c = grind (arith, common_steps)

pub conds_fit-returns-then-not-cond_fits : goal.conds_fit-returns-then-not-cond_fits
conds_fit-returns-then-not-cond_fits t c = grind (arith, common_steps)

pub chain_type-loop-link-preserved : goal.chain_type-loop-link-preserved
chain_type-loop-link-preserved t c = grind (arith, common_steps)

pub arms_fit-returns : goal.arms_fit-returns
arms_fit-returns t c = grind (arith, common_steps)

pub conds_fit-returns : goal.conds_fit-returns
conds_fit-returns t c = grind (arith, common_steps)
