use Rattle.std.proofs.Common.{ap, ◌∙◌, arith}
use Rattle.std.proofs.lemmas.Grind.{common_steps}
use Rattle.qgm_terms.proofs.Lists as lists
use Rattle.qgm_terms.specs.Shown as shown
use Rattle.qgm_terms.specs.declared.tree.Gx.{Gx}
use Rattle.graph_sql.specs.Readings.{holds_value}
use Rattle.graph_sql.specs.Scoped.{is_sure}
use Rattle.graph_sql.proofs.Nests as laws
use Rattle.graph_sql.proofs.terms.+terms.Goals as goal

pub put_term-returns-in_ok-put_term-in-Chain : goal.put_term-returns-in_ok-put_term-in-Chain
put_term-returns-in_ok-put_term-in-Chain t c =
    rw (c.in-Chain.is, lists.links_hidden c.in-Chain.list, laws.text_linked c.args.scope.now (shown.term c.in-Chain.a.value) (shown.links c.in-Chain.list.items)) (grind (arith, common_steps))

pub put_term-returns-in_ok-put_arms-in-Case : goal.put_term-returns-in_ok-put_arms-in-Case
put_term-returns-in_ok-put_arms-in-Case t c =
    rw (c.in-Case.is, lists.choices_hidden c.in-Case.list, laws.text_case c.args.scope.now (shown.choices c.in-Case.list.items) (shown.term c.in-Case.a.value)) (grind (arith, common_steps))

pub put_cond-returns-in_ok-put_conds-in-All : goal.put_cond-returns-in_ok-put_conds-in-All
put_cond-returns-in_ok-put_conds-in-All t c =
    rw (c.in-All.is, lists.conds_hidden c.in-All.list, laws.text_anded c.args.scope.now c.args.reading c.args.chain (shown.cond c.in-All.a.value) (shown.conds c.in-All.list.items)) (grind (arith, common_steps))

pub put_cond-returns-in_ok-put_conds-in-Any : goal.put_cond-returns-in_ok-put_conds-in-Any
put_cond-returns-in_ok-put_conds-in-Any t c =
    rw (c.in-Any.is, lists.conds_hidden c.in-Any.list, laws.text_ored c.args.scope.now c.args.reading c.args.chain (shown.cond c.in-Any.a.value) (shown.conds c.in-Any.list.items)) (grind (arith, common_steps))

pub put_cond-returns-in_ok-put_term-in-Compare : goal.put_cond-returns-in_ok-put_term-in-Compare
put_cond-returns-in_ok-put_term-in-Compare t c =
    let a = c.holds_value.ensures ∙ ap (λ (x : Gx). holds_value (is_sure c.args.scope.now.sure.now) (shown.term x)) c.deref.ensures in
    let b = c.holds_value-in-Compare.ensures ∙ ap (λ (x : Gx). holds_value (is_sure c.args.scope.now.sure.now) (shown.term x)) c.deref-in-Compare.ensures in
    rw (
      c.in-Compare.is,
      laws.text_compared c.args.scope.now c.args.chain c.args.reading (shown.sign c.in-Compare.s) (shown.term c.in-Compare.a.value) (shown.term c.in-Compare.b.value) c.form_of-form.result c.holds_value.result
          c.holds_value-in-Compare.result c.form_of-form.ensures a b,
    )
    (grind (arith, common_steps))
