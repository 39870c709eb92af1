use Rattle.std.proofs.Common.{arith}
use Rattle.std.proofs.lemmas.Grind.{common_steps}
use Rattle.qgm_terms.proofs.Lists.{links_hidden, choices_hidden, conds_hidden}
use Rattle.qgm_terms.proofs.copies.+copy.Goals as goal

pub copy-returns-in-Chain : goal.copy-returns-in-Chain
copy-returns-in-Chain t c = rw (c.in-Chain.is, links_hidden c.in-Chain.list) (grind (arith, common_steps))

pub copy-returns-in-Case : goal.copy-returns-in-Case
copy-returns-in-Case t c = rw (c.in-Case.is, choices_hidden c.in-Case.list) (grind (arith, common_steps))

pub copy_cond-returns-in-All : goal.copy_cond-returns-in-All
copy_cond-returns-in-All t c = rw (c.in-All.is, conds_hidden c.in-All.list) (grind (arith, common_steps))

pub copy_cond-returns-in-Any : goal.copy_cond-returns-in-Any
copy_cond-returns-in-Any t c = rw (c.in-Any.is, conds_hidden c.in-Any.list) (grind (arith, common_steps))

pub copy_arms-loop-arm-preserved : goal.copy_arms-loop-arm-preserved
copy_arms-loop-arm-preserved t c = grind (arith, common_steps)

pub copy_arms-returns : goal.copy_arms-returns
copy_arms-returns t c = grind (arith, common_steps)

pub copy_all-returns : goal.copy_all-returns
copy_all-returns t c = grind (arith, common_steps)

pub copy_cond-returns-in-Some : goal.copy_cond-returns-in-Some
copy_cond-returns-in-Some t c = grind (arith, common_steps)

pub copy-returns-in-NullInt : goal.copy-returns-in-NullInt
copy-returns-in-NullInt t c = grind (arith, common_steps)

pub copy-returns-in-Col : goal.copy-returns-in-Col
copy-returns-in-Col t c = grind (arith, common_steps)

pub copy_cond-returns-in-Every : goal.copy_cond-returns-in-Every
copy_cond-returns-in-Every t c = grind (arith, common_steps)

pub copy_cond-returns-in-True : goal.copy_cond-returns-in-True
copy_cond-returns-in-True t c = grind (arith, common_steps)

pub copy_chain-returns : goal.copy_chain-returns
copy_chain-returns t c = grind (arith, common_steps)

pub copy_all-loop-c-preserved : goal.copy_all-loop-c-preserved
copy_all-loop-c-preserved t c = grind (arith, common_steps)

pub copy-returns-in-Scalar : goal.copy-returns-in-Scalar
copy-returns-in-Scalar t c = grind (arith, common_steps)

pub copy_chain-loop-link-preserved : goal.copy_chain-loop-link-preserved
copy_chain-loop-link-preserved t c = grind (arith, common_steps)

pub copy_arms-loop-arm-init : goal.copy_arms-loop-arm-init
copy_arms-loop-arm-init t c = grind (arith, common_steps)

pub copy_cond-returns-in-Not : goal.copy_cond-returns-in-Not
copy_cond-returns-in-Not t c = grind (arith, common_steps)

pub copy_cond-returns-in-Compare : goal.copy_cond-returns-in-Compare
copy_cond-returns-in-Compare t c = grind (arith, common_steps)

pub copy_any-returns : goal.copy_any-returns
copy_any-returns t c = grind (arith, common_steps)

pub copy_any-loop-c-preserved : goal.copy_any-loop-c-preserved
copy_any-loop-c-preserved t c = grind (arith, common_steps)

pub copy-returns-in-CountAll : goal.copy-returns-in-CountAll
copy-returns-in-CountAll t c = grind (arith, common_steps)

pub copy-returns-in-NullText : goal.copy-returns-in-NullText
copy-returns-in-NullText t c = grind (arith, common_steps)

pub copy_cond-returns-in-IsNull : goal.copy_cond-returns-in-IsNull
copy_cond-returns-in-IsNull t c = grind (arith, common_steps)

pub copy-returns-in-Neg : goal.copy-returns-in-Neg
copy-returns-in-Neg t c = grind (arith, common_steps)

pub copy-returns-in-Int : goal.copy-returns-in-Int
copy-returns-in-Int t c = grind (arith, common_steps)

pub copy_arms-loop-arm-smaller : goal.copy_arms-loop-arm-smaller
copy_arms-loop-arm-smaller t c = grind (arith, common_steps)
