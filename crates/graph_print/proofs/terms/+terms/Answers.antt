use Rattle.std.proofs.Common.{arith}
use Rattle.std.proofs.lemmas.Grind.{common_steps}
use Rattle.qgm_terms.proofs.Lists as lists
use Rattle.qgm_terms.specs.Shown as shown
use Rattle.graph_print.proofs.Nests as laws
use Rattle.graph_print.proofs.Steps.{step}
use Rattle.graph_print.specs.Places.{place_in}
use Rattle.graph_print.specs.TermText.{choice_text, link_text, next_text}
use Rattle.graph_print.proofs.terms.+terms.Goals as goal

pub put_term-returns-in_ok-put_term-in-Chain : goal.put_term-returns-in_ok-put_term-in-Chain
put_term-returns-in_ok-put_term-in-Chain t c =
    rw (c.in-Chain.is, lists.links_hidden c.in-Chain.list, laws.text_linked (place_in c.args.at.now) (shown.term c.in-Chain.a.value) (shown.links c.in-Chain.list.items)) (grind (arith, common_steps))

pub put_term-returns-in_ok-put_arms-in-Case : goal.put_term-returns-in_ok-put_arms-in-Case
put_term-returns-in_ok-put_arms-in-Case t c =
    rw (c.in-Case.is, lists.choices_hidden c.in-Case.list, laws.text_case (place_in c.args.at.now) (shown.choices c.in-Case.list.items) (shown.term c.in-Case.a.value)) (grind (arith, common_steps))

pub put_cond-returns-in_ok-put_cond-in-All : goal.put_cond-returns-in_ok-put_cond-in-All
put_cond-returns-in_ok-put_cond-in-All t c =
    rw (c.in-All.is, lists.conds_hidden c.in-All.list, laws.text_anded (place_in c.args.at.now) (shown.cond c.in-All.a.value) (shown.conds c.in-All.list.items)) (grind (arith, common_steps))

pub put_cond-returns-in_ok-put_cond-in-Any : goal.put_cond-returns-in_ok-put_cond-in-Any
put_cond-returns-in_ok-put_cond-in-Any t c =
    rw (c.in-Any.is, lists.conds_hidden c.in-Any.list, laws.text_ored (place_in c.args.at.now) (shown.cond c.in-Any.a.value) (shown.conds c.in-Any.list.items)) (grind (arith, common_steps))

pub put_links-loop-link-preserved : goal.put_links-loop-link-preserved
put_links-loop-link-preserved t c =
    step (link_text (place_in c.args.at.now)) shown.link c.args.list.now c.loop-link.link-index c.link-item.result c.args.out.now c.loop-link.out c.put_one.new.out c.loop-link-test.true c.link-item.is c.loop-link.invariant c.in_ok-put_one.ensures

pub put_arms-loop-arm-preserved : goal.put_arms-loop-arm-preserved
put_arms-loop-arm-preserved t c =
    step (choice_text (place_in c.args.at.now)) shown.choice c.args.list.now c.loop-arm.arm-index c.arm-item.result c.args.out.now c.loop-arm.out c.put_arm.new.out c.loop-arm-test.true c.arm-item.is c.loop-arm.invariant c.in_ok-put_arm.ensures

pub put_conds-loop-c-preserved : goal.put_conds-loop-c-preserved
put_conds-loop-c-preserved t c =
    step (next_text (place_in c.args.at.now)) shown.cond c.args.list.now c.loop-c.c-index c.c-item.result c.args.out.now c.loop-c.out c.put_next.new.out c.loop-c-test.true c.c-item.is c.loop-c.invariant c.in_ok-put_next.ensures

pub put_cond-returns-in_ok-put_node-in-Some : goal.put_cond-returns-in_ok-put_node-in-Some
put_cond-returns-in_ok-put_node-in-Some t c = grind (arith, common_steps)

pub put_term-returns-in-Neg : goal.put_term-returns-in-Neg
put_term-returns-in-Neg t c = grind (arith, common_steps)

pub put_term-returns-in-Int : goal.put_term-returns-in-Int
put_term-returns-in-Int t c = grind (arith, common_steps)

pub put_arm-returns : goal.put_arm-returns
put_arm-returns t c = grind (arith, common_steps)

pub put_term-returns-in-Col : goal.put_term-returns-in-Col
put_term-returns-in-Col t c = grind (arith, common_steps)

pub put_cond-returns-in-Not : goal.put_cond-returns-in-Not
put_cond-returns-in-Not t c = grind (arith, common_steps)

pub put_next-returns : goal.put_next-returns
put_next-returns t c = grind (arith, common_steps)

pub put_one-returns : goal.put_one-returns
put_one-returns t c = grind (arith, common_steps)

pub put_cond-returns-in_ok-put_node-in-Every : goal.put_cond-returns-in_ok-put_node-in-Every
put_cond-returns-in_ok-put_node-in-Every t c = grind (arith, common_steps)

pub put_cond-returns-in-IsNull : goal.put_cond-returns-in-IsNull
put_cond-returns-in-IsNull t c = grind (arith, common_steps)
