use Rattle.std.proofs.Common.{arith}
use Rattle.std.proofs.lemmas.Grind.{common_steps}
use Rattle.qgm_terms.proofs.Lists as lists
use Rattle.qgm_term_search.proofs.Operators as operators
use Rattle.qgm_term_search.proofs.PostfixLaws as laws
use Rattle.qgm_terms.specs.Shown as shown
use Rattle.qgm_term_search.proofs.tokens.+tokens.Goals as goal

pub add_tokens-returns-in_ok-add_tokens-in-Chain : goal.add_tokens-returns-in_ok-add_tokens-in-Chain
add_tokens-returns-in_ok-add_tokens-in-Chain t c =
    rw (c.in-Chain.is, lists.links_hidden c.in-Chain.list, laws.tokens_linked (shown.term c.in-Chain.a.value) (shown.links c.in-Chain.list.items)) (grind (arith, common_steps))

pub add_tokens-returns-in_ok-add_tokens-in-Case : goal.add_tokens-returns-in_ok-add_tokens-in-Case
add_tokens-returns-in_ok-add_tokens-in-Case t c =
    rw (c.in-Case.is, lists.choices_hidden c.in-Case.list, laws.tokens_case (shown.choices c.in-Case.list.items) (shown.term c.in-Case.a.value)) (grind (arith, common_steps))

pub add_tokens_of_cond-returns-in_ok-add_tokens_of_cond-in-All : goal.add_tokens_of_cond-returns-in_ok-add_tokens_of_cond-in-All
add_tokens_of_cond-returns-in_ok-add_tokens_of_cond-in-All t c =
    rw (c.in-All.is, lists.conds_hidden c.in-All.list, laws.tokens_anded (shown.cond c.in-All.a.value) (shown.conds c.in-All.list.items)) (grind (arith, common_steps))

pub add_tokens_of_cond-returns-in_ok-add_tokens_of_cond-in-Any : goal.add_tokens_of_cond-returns-in_ok-add_tokens_of_cond-in-Any
add_tokens_of_cond-returns-in_ok-add_tokens_of_cond-in-Any t c =
    rw (c.in-Any.is, lists.conds_hidden c.in-Any.list, laws.tokens_ored (shown.cond c.in-Any.a.value) (shown.conds c.in-Any.list.items)) (grind (arith, common_steps))

pub add_tokens_of_arms-loop-arm-preserved : goal.add_tokens_of_arms-loop-arm-preserved
add_tokens_of_arms-loop-arm-preserved t c = grind (arith, common_steps)

pub add_tokens_of_conds-loop-c-preserved : goal.add_tokens_of_conds-loop-c-preserved
add_tokens_of_conds-loop-c-preserved t c = grind (arith, common_steps)

pub add_tokens_of_links-loop-link-preserved : goal.add_tokens_of_links-loop-link-preserved
add_tokens_of_links-loop-link-preserved t c = grind (arith, common_steps)

pub add_tokens_of_conds-returns : goal.add_tokens_of_conds-returns
add_tokens_of_conds-returns t c = grind (arith, common_steps)

pub add_tokens_of_links-returns : goal.add_tokens_of_links-returns
add_tokens_of_links-returns t c = grind (arith, common_steps)

pub add_tokens_of_arms-returns : goal.add_tokens_of_arms-returns
add_tokens_of_arms-returns t c = grind (arith, common_steps)

pub add_tokens_of_cond-returns-in_ok-push-in-Some : goal.add_tokens_of_cond-returns-in_ok-push-in-Some
add_tokens_of_cond-returns-in_ok-push-in-Some t c = grind (arith, common_steps)

pub add_tokens_of_cond-returns-in_ok-add_tokens_of_cond-in-Not : goal.add_tokens_of_cond-returns-in_ok-add_tokens_of_cond-in-Not
add_tokens_of_cond-returns-in_ok-add_tokens_of_cond-in-Not t c = grind (arith, common_steps)

pub add_tokens-returns-in_ok-push-in-Col : goal.add_tokens-returns-in_ok-push-in-Col
add_tokens-returns-in_ok-push-in-Col t c = grind (arith, common_steps)

pub add_tokens-returns-in_ok-add_tokens-in-Neg : goal.add_tokens-returns-in_ok-add_tokens-in-Neg
add_tokens-returns-in_ok-add_tokens-in-Neg t c = grind (arith, common_steps)

pub add_tokens_of_cond-returns-in_ok-add_tokens-in-IsNull : goal.add_tokens_of_cond-returns-in_ok-add_tokens-in-IsNull
add_tokens_of_cond-returns-in_ok-add_tokens-in-IsNull t c = grind (arith, common_steps)

pub add_tokens_of_cond-returns-in_ok-push-in-Compare : goal.add_tokens_of_cond-returns-in_ok-push-in-Compare
add_tokens_of_cond-returns-in_ok-push-in-Compare t c = rw (c.in-Compare.is, operators.sign_back c.in-Compare.s) (grind (arith, common_steps))

pub add_tokens-returns-in_ok-push-in-Fold : goal.add_tokens-returns-in_ok-push-in-Fold
add_tokens-returns-in_ok-push-in-Fold t c =
    rw (c.in-Fold.is, operators.aggregate_back c.in-Fold.f, operators.taken_back c.in-Fold.each) (grind (arith, common_steps))

pub add_tokens_of_cond-returns-in_ok-push-in-Every : goal.add_tokens_of_cond-returns-in_ok-push-in-Every
add_tokens_of_cond-returns-in_ok-push-in-Every t c = grind (arith, common_steps)

pub add_tokens-returns-in_ok-push-in-Int : goal.add_tokens-returns-in_ok-push-in-Int
add_tokens-returns-in_ok-push-in-Int t c = grind (arith, common_steps)

pub add_tokens-returns-in_ok-push-in-Scalar : goal.add_tokens-returns-in_ok-push-in-Scalar
add_tokens-returns-in_ok-push-in-Scalar t c = grind (arith, common_steps)
