use Rattle.std.proofs.Common.{◌≡◌, ◌∙◌, false, sym, rules}
use Rattle.qgm_terms.specs.Shown.{term}
use Rattle.qgm_terms.specs.Wanted.{reads}
use Rattle.box_exec.proofs.Alone.{other-is}
use Rattle.box_exec.proofs.key.is_other.Goals as goal

pub returns-then-is_node_free-clause-other : goal.returns-then-is_node_free-clause-other
returns-then-is_node_free-clause-other c = λ h.
    let unread : c.stands_in.result ≡ false = search rules in
    let away : reads c.args.q (term c.args.x.now) ≡ false = sym c.stands_in.ensures ∙ unread in
    other-is c.args.q (term c.args.x.now) (sym c.is_node_free.ensures ∙ c.if-is_node_free.true) away
