use Rattle.std.proofs.Common.{arith}
use Rattle.std.proofs.lemmas.Grind.{common_steps}
use Rattle.qgm_terms.proofs.Substituted as chains
use Rattle.qgm_terms.proofs.Lists.{links_hidden, choices_hidden, conds_hidden}
use Rattle.qgm_terms.specs.Shown.{choices, cond, conds, links, term}
use Rattle.qgm_terms.proofs.substitution.+substitute.Goals as goal

pub substitute-returns-in-Chain : goal.substitute-returns-in-Chain
substitute-returns-in-Chain t c = rw (c.in-Chain.is, links_hidden c.in-Chain.list, chains.substituted_linked c.args.q c.args.cells.now (term c.in-Chain.a.value) (links c.in-Chain.list.items)) (grind (arith, common_steps))

pub substitute_cond-returns-in-All : goal.substitute_cond-returns-in-All
substitute_cond-returns-in-All t c = rw (c.in-All.is, conds_hidden c.in-All.list, chains.substituted_anded c.args.q c.args.cells.now (cond c.in-All.a.value) (conds c.in-All.list.items)) (grind (arith, common_steps))

pub substitute_cond-returns-in-Any : goal.substitute_cond-returns-in-Any
substitute_cond-returns-in-Any t c = rw (c.in-Any.is, conds_hidden c.in-Any.list, chains.substituted_ored c.args.q c.args.cells.now (cond c.in-Any.a.value) (conds c.in-Any.list.items)) (grind (arith, common_steps))

pub substitute-returns-in-Case : goal.substitute-returns-in-Case
substitute-returns-in-Case t c = rw (c.in-Case.is, choices_hidden c.in-Case.list, chains.substituted_armed c.args.q c.args.cells.now (choices c.in-Case.list.items)) (grind (arith, common_steps))

pub substitute_arms-loop-arm-preserved : goal.substitute_arms-loop-arm-preserved
substitute_arms-loop-arm-preserved t c = grind (arith, common_steps)

pub substitute_arms-returns : goal.substitute_arms-returns
substitute_arms-returns t c = grind (arith, common_steps)

pub substitute_chain-loop-link-preserved : goal.substitute_chain-loop-link-preserved
substitute_chain-loop-link-preserved t c = grind (arith, common_steps)

pub substitute_cond-returns-in-IsNull : goal.substitute_cond-returns-in-IsNull
substitute_cond-returns-in-IsNull t c = grind (arith, common_steps)

pub substitute_chain-loop-link-init : goal.substitute_chain-loop-link-init
substitute_chain-loop-link-init t c = grind (arith, common_steps)

pub substitute_cond-returns-in-Compare : goal.substitute_cond-returns-in-Compare
substitute_cond-returns-in-Compare t c = grind (arith, common_steps)

pub substitute_cond-returns-in-Some : goal.substitute_cond-returns-in-Some
substitute_cond-returns-in-Some t c = grind (arith, common_steps)

pub substitute_cond-returns-in-Not : goal.substitute_cond-returns-in-Not
substitute_cond-returns-in-Not t c = grind (arith, common_steps)

pub substitute_cond-returns-in-True : goal.substitute_cond-returns-in-True
substitute_cond-returns-in-True t c = grind (arith, common_steps)

pub substitute-returns-in-NullInt : goal.substitute-returns-in-NullInt
substitute-returns-in-NullInt t c = grind (arith, common_steps)

pub substitute_any-loop-c-preserved : goal.substitute_any-loop-c-preserved
substitute_any-loop-c-preserved t c = grind (arith, common_steps)

pub substitute-returns-in-CountAll : goal.substitute-returns-in-CountAll
substitute-returns-in-CountAll t c = grind (arith, common_steps)

pub substitute_arms-loop-arm-smaller : goal.substitute_arms-loop-arm-smaller
substitute_arms-loop-arm-smaller t c = grind (arith, common_steps)

pub substitute-returns-in-Col : goal.substitute-returns-in-Col
substitute-returns-in-Col t c = grind (arith, common_steps)

pub substitute_all-loop-c-preserved : goal.substitute_all-loop-c-preserved
substitute_all-loop-c-preserved t c = grind (arith, common_steps)

pub substitute_all-returns : goal.substitute_all-returns
substitute_all-returns t c = grind (arith, common_steps)

pub substitute-returns-in-Scalar : goal.substitute-returns-in-Scalar
substitute-returns-in-Scalar t c = grind (arith, common_steps)

pub substitute_cond-returns-in-Every : goal.substitute_cond-returns-in-Every
substitute_cond-returns-in-Every t c = grind (arith, common_steps)

pub substitute-returns-in-NullText : goal.substitute-returns-in-NullText
substitute-returns-in-NullText t c = grind (arith, common_steps)

pub substitute-returns-in-Int : goal.substitute-returns-in-Int
substitute-returns-in-Int t c = grind (arith, common_steps)

pub substitute_arms-loop-arm-init : goal.substitute_arms-loop-arm-init
substitute_arms-loop-arm-init t c = grind (arith, common_steps)

pub substitute_chain-returns : goal.substitute_chain-returns
substitute_chain-returns t c = grind (arith, common_steps)

pub substitute-returns-in-Neg : goal.substitute-returns-in-Neg
substitute-returns-in-Neg t c = grind (arith, common_steps)

pub substitute_any-returns : goal.substitute_any-returns
substitute_any-returns t c = grind (arith, common_steps)
