use Rattle.std.proofs.lemmas.Result.{IfOk-weaker}
use Rattle.qgm_props.specs.Table.{facts_of}
use Rattle.qgm_run.proofs.statement.rewritten_statement.Goals as goal

pub returns : goal.returns
returns c = IfOk-weaker c.statement.result _ _
    (λ text is. record { fs = c.in_ok-last._trace; h = c.in_ok-last.last; rewrites = c.in_ok-last.ensures; known = facts_of c.in_ok-facts.facts; tells = c.in_ok-facts.ensures.exact; is = is }) c.statement.ensures
