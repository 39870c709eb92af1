use Rattle.std.proofs.Common.{◌≡◌, ◌∙◌, arith}
use Rattle.std.proofs.lemmas.Grind.{common_steps}
use Rattle.row_bag.specs.Verdict.{verdict}
use Rattle.row_bag.specs.declared.outcome.Verdict.TheVariants.{Error, Rows}
use Rattle.sql_meaning.specs.Meaning.{answer_of}
use Rattle.qgm_app.specs.Held.{answer_as}
use Rattle.qgm_app.proofs.answers.ordered.Goals as goal

pub returns-in_ok-sorted-in-Rows : goal.returns-in_ok-sorted-in-Rows
returns-in_ok-sorted-in-Rows c =
    let own : answer_as c.args.heading.now.names (Rows c.in_ok-sorted-in-Rows.field-0) ≡ answer_of c.args.heading.now.names c.args.heading.now.order (verdict c.args.bag) = grind (arith, common_steps) in
    λ rows agree. own ∙ c.answer_laws.ensures.alike c.args.heading.now.names c.args.heading.now.order c.args.bag rows agree

pub returns-in-Error : goal.returns-in-Error
returns-in-Error c =
    let own : answer_as c.args.heading.now.names (Error c.in-Error.kind) ≡ answer_of c.args.heading.now.names c.args.heading.now.order (verdict c.args.bag) = grind (arith, common_steps) in
    λ rows agree. own ∙ c.answer_laws.ensures.alike c.args.heading.now.names c.args.heading.now.order c.args.bag rows agree
