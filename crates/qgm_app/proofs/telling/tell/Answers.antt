use Rattle.std.proofs.Common.{ap, encode_utf8_all}
use Rattle.command_line.specs.Line.{task_text}
use Rattle.command_line.specs.declared.task.Task.{Task}
use Rattle.command_input.specs.Questions.{question_of}
use Rattle.qgm_app.specs.Held.{held_answer}
use Rattle.qgm_app.proofs.Reported.{answer-isnt-usage, explained-isnt-usage, rows-isnt-usage, tells-answer, tells-explained, tells-statement, tells-summary, counts-answer, counts-explained, counts-statement, counts-summary}
use Rattle.qgm_app.proofs.telling.tell.Goals as goal

pub returns-in_ok-answered-in-Run-clause-counts : goal.returns-in_ok-answered-in-Run-clause-counts
returns-in_ok-answered-in-Run-clause-counts g c =
    let a = c.in_ok-answered-in-Run in
    counts-answer c.tell_answer.result (task_text c.args.line.now.task) c.in-Run.schema.now c.in-Run.query.now c.in-Run.dir.now c.args.line.now.plan (question_of c.args.question) (held_answer a.answered) a.answered.firings _ _
    (ap (λ (t : Task). task_text t) c.in-Run.is) c.tell_answer.ensures a.ensures.answer a.ensures.run

pub returns-in_ok-explained-in-Explain-clause-tells : goal.returns-in_ok-explained-in-Explain-clause-tells
returns-in_ok-explained-in-Explain-clause-tells g c =
    let e = c.in_ok-explained-in-Explain in
    tells-explained c.tell_explained.result (task_text c.args.line.now.task) c.in-Explain.schema.now c.in-Explain.query.now c.in-Explain.dir.now c.args.line.now.plan (question_of c.args.question)
    e.explained.text (held_answer e.explained.answered) _ _ (ap (λ (t : Task). task_text t) c.in-Explain.is) c.tell_explained.ensures e.ensures.answer e.ensures.text

pub returns-in_ok-explained-in-Explain-clause-counts : goal.returns-in_ok-explained-in-Explain-clause-counts
returns-in_ok-explained-in-Explain-clause-counts g c =
    let e = c.in_ok-explained-in-Explain in
    counts-explained c.tell_explained.result (task_text c.args.line.now.task) c.in-Explain.schema.now c.in-Explain.query.now c.in-Explain.dir.now c.args.line.now.plan (question_of c.args.question)
    e.explained.text (held_answer e.explained.answered) _ _ (ap (λ (t : Task). task_text t) c.in-Explain.is) c.tell_explained.ensures e.ensures.answer e.ensures.text

pub returns-in_ok-answered-in-Gen-clause-tells : goal.returns-in_ok-answered-in-Gen-clause-tells
returns-in_ok-answered-in-Gen-clause-tells g c =
    let a = c.in_ok-answered-in-Gen in
    tells-summary c.tell_summary.result (task_text c.args.line.now.task) c.in-Gen.seed c.in-Gen.rows c.args.line.now.plan (question_of c.args.question) (held_answer a.answered) a.answered.firings _ _
    (ap (λ (t : Task). task_text t) c.in-Gen.is) c.tell_summary.ensures a.ensures.answer a.ensures.run

pub returns-in_ok-answered-in-Gen-clause-counts : goal.returns-in_ok-answered-in-Gen-clause-counts
returns-in_ok-answered-in-Gen-clause-counts g c =
    let a = c.in_ok-answered-in-Gen in
    counts-summary c.tell_summary.result (task_text c.args.line.now.task) c.in-Gen.seed c.in-Gen.rows c.args.line.now.plan (question_of c.args.question) (held_answer a.answered) a.answered.firings _ _
    (ap (λ (t : Task). task_text t) c.in-Gen.is) c.tell_summary.ensures a.ensures.answer a.ensures.run

pub answer-requires : goal.answer-requires
answer-requires g c = let fit = rw c.in-Run.is at c.requires in record { ready = fit }

pub answer-requires-in-Gen : goal.answer-requires-in-Gen
answer-requires-in-Gen g c = let fit = rw c.in-Gen.is at c.requires in record { ready = fit }

pub explain-requires : goal.explain-requires
explain-requires g c = let fit = rw c.in-Explain.is at c.requires in record { ready = fit }

pub returns-in_ok-answered-in-Run-clause-tells : goal.returns-in_ok-answered-in-Run-clause-tells
returns-in_ok-answered-in-Run-clause-tells g c =
    let a = c.in_ok-answered-in-Run in
    tells-answer c.tell_answer.result (task_text c.args.line.now.task) c.in-Run.schema.now c.in-Run.query.now c.in-Run.dir.now c.args.line.now.plan (question_of c.args.question) (held_answer a.answered)
    (ap (λ (t : Task). task_text t) c.in-Run.is) c.tell_answer.ensures a.ensures.answer

pub returns-in_ok-answered-in-Run-clause-line : goal.returns-in_ok-answered-in-Run-clause-line
returns-in_ok-answered-in-Run-clause-line g c = answer-isnt-usage c.tell_answer.result (held_answer c.in_ok-answered-in-Run.answered) c.tell_answer.ensures

pub returns-in_ok-explained-in-Explain-clause-line : goal.returns-in_ok-explained-in-Explain-clause-line
returns-in_ok-explained-in-Explain-clause-line g c =
    let e = c.in_ok-explained-in-Explain.explained in
    explained-isnt-usage c.tell_explained.result (encode_utf8_all e.text) (held_answer e.answered) c.tell_explained.ensures

pub returns-in_ok-answered-in-Gen-clause-line : goal.returns-in_ok-answered-in-Gen-clause-line
returns-in_ok-answered-in-Gen-clause-line g c = rows-isnt-usage c.tell_summary.result _ c.tell_summary.ensures

pub state-requires : goal.state-requires
state-requires g c = let fit = rw c.in-Sql.is at c.requires in fit

pub returns-in_ok-text-in-Sql-clause-tells : goal.returns-in_ok-text-in-Sql-clause-tells
returns-in_ok-text-in-Sql-clause-tells g c =
    let x = c.in_ok-text-in-Sql in
    tells-statement c.tell_statement.result (task_text c.args.line.now.task) c.in-Sql.schema.now c.in-Sql.query.now c.args.line.now.plan (question_of c.args.question) x.text
    (ap (λ (t : Task). task_text t) c.in-Sql.is) c.tell_statement.ensures x.ensures

pub returns-in_ok-text-in-Sql-clause-counts : goal.returns-in_ok-text-in-Sql-clause-counts
returns-in_ok-text-in-Sql-clause-counts g c =
    let x = c.in_ok-text-in-Sql in
    counts-statement c.tell_statement.result (task_text c.args.line.now.task) c.in-Sql.schema.now c.in-Sql.query.now c.args.line.now.plan (question_of c.args.question) x.text _
    (ap (λ (t : Task). task_text t) c.in-Sql.is) c.tell_statement.ensures x.ensures

pub returns-in_ok-text-in-Sql-clause-line : goal.returns-in_ok-text-in-Sql-clause-line
returns-in_ok-text-in-Sql-clause-line g c = rows-isnt-usage c.tell_statement.result _ c.tell_statement.ensures
