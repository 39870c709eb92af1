use Rattle.std.proofs.Common.{max, arith}
use Rattle.std.proofs.lemmas.Grind.{common_steps}
use Rattle.qgm_terms.proofs.Levels.{arm_depths_hidden, cond_depths_hidden, depth_cond_positive, depth_positive, link_depths_hidden}
use Rattle.qgm_terms.proofs.Most.{most_at, most_so_far}
use Rattle.qgm_terms.specs.Depth.{depth, depth_cond}
use Rattle.qgm_terms.proofs.depths.+fits.Goals as goal

pub fits-returns-in-Chain : goal.fits-returns-in-Chain
fits-returns-in-Chain t c = rw (c.in-Chain.is, link_depths_hidden c.in-Chain.list) (grind (arith, common_steps))

pub fits-returns-in-Case : goal.fits-returns-in-Case
fits-returns-in-Case t c = rw (c.in-Case.is, arm_depths_hidden c.in-Case.list) (grind (arith, common_steps))

pub fits_cond-returns-in-All : goal.fits_cond-returns-in-All
fits_cond-returns-in-All t c = rw (c.in-All.is, cond_depths_hidden c.in-All.list) (grind (arith, common_steps))

pub fits_cond-returns-in-Any : goal.fits_cond-returns-in-Any
fits_cond-returns-in-Any t c = rw (c.in-Any.is, cond_depths_hidden c.in-Any.list) (grind (arith, common_steps))

pub fits_links-returns-then-not-fits : goal.fits_links-returns-then-not-fits
fits_links-returns-then-not-fits t c =
    let within = most_at (λ l. depth l.right) c.args.list.now c.loop-link.link-index c.args.room c.link-item.result in
    grind (arith, common_steps, within)

pub fits_links-loop-link-preserved : goal.fits_links-loop-link-preserved
fits_links-loop-link-preserved t c =
    most_so_far (λ l. depth l.right) c.args.list.now c.loop-link.link-index c.args.room c.link-item.result (omega arith) c.loop-link.invariant (grind (arith, common_steps))

pub fits_arms-returns-then-not-both : goal.fits_arms-returns-then-not-both
fits_arms-returns-then-not-both t c =
    let within = most_at (λ a. max (depth_cond a.when) (depth a.then)) c.args.list.now c.loop-arm.arm-index c.args.room c.arm-item.result in
    grind (arith, common_steps, within)

pub fits_arms-loop-arm-preserved : goal.fits_arms-loop-arm-preserved
fits_arms-loop-arm-preserved t c =
    most_so_far (λ a. max (depth_cond a.when) (depth a.then)) c.args.list.now c.loop-arm.arm-index c.args.room c.arm-item.result (omega arith) c.loop-arm.invariant (grind (arith, common_steps))

pub fits_conds-returns-then-not-fits_cond : goal.fits_conds-returns-then-not-fits_cond
fits_conds-returns-then-not-fits_cond t c =
    let within = most_at depth_cond c.args.list.now c.loop-c.c-index c.args.room c.c-item.result in
    grind (arith, common_steps, within)

pub fits_conds-loop-c-preserved : goal.fits_conds-loop-c-preserved
fits_conds-loop-c-preserved t c =
    most_so_far depth_cond c.args.list.now c.loop-c.c-index c.args.room c.c-item.result (omega arith) c.loop-c.invariant (grind (arith, common_steps))

pub fits-returns-then-room-eq0 : goal.fits-returns-then-room-eq0
fits-returns-then-room-eq0 t c = grind (arith, common_steps, depth_positive)

pub fits_cond-returns-then-room-eq0 : goal.fits_cond-returns-then-room-eq0
fits_cond-returns-then-room-eq0 t c = grind (arith, common_steps, depth_cond_positive)

pub fits_arms-returns : goal.fits_arms-returns
fits_arms-returns t c = grind (arith, common_steps)

pub fits_links-returns : goal.fits_links-returns
fits_links-returns t c = grind (arith, common_steps)

pub fits_conds-returns : goal.fits_conds-returns
fits_conds-returns t c = grind (arith, common_steps)

pub fits-returns-in-Neg : goal.fits-returns-in-Neg
fits-returns-in-Neg t c = grind (arith, common_steps)

pub fits_cond-returns-in-Some : goal.fits_cond-returns-in-Some
fits_cond-returns-in-Some t c = grind (arith, common_steps)
