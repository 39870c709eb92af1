use Rattle.std.proofs.Common.{◌≡◌, ◌∙◌}
use Rattle.row_bag.specs.Verdict.{verdict}
use Rattle.sql_check.specs.Checked.{rows_of}
use Rattle.sql_meaning.specs.Meaning.{answer_of}
use Rattle.command_input.specs.Questions.{answer_to, question_of}
use Rattle.qgm_app.proofs.Asked.{has-answer}
use Rattle.qgm_app.proofs.answers.explain.Goals as goal

pub returns-clause-answer : goal.returns-clause-answer
returns-clause-answer g c =
    let q = c.args.question in
    let h = c.in_ok-heading.heading in
    let rows = rows_of q.views q.valid.checked q.tables in
    let means : answer_of h.names h.order (verdict rows) ≡ answer_to (question_of q) =
    rw (c.in_ok-heading.ensures.names, c.in_ok-heading.ensures.order) (has-answer c.loaded_laws.ensures.tables q c.requires.ready) in
    c.in_ok-answered.ensures.answer rows c.in_ok-heading.ensures.rows ∙ means
