-- What the calls that settle and tell an answer give, where memory suffices.
use Rattle.std.specs.Prelude.{IfOk, ◌≢◌}
use Rattle.std.proofs.Common.{ℕ, ◌≡◌, ◌∙◌, List, Option, Some, None, Result, Ok, Err, arith, ap, inl, inr, refl, subst, sym, encode_utf8_all}
use Rattle.command_line.specs.Line.{TaskText, explain, gen, run, sql}
use Rattle.generated_input.specs.Made.{depts}
use Rattle.io_edge.specs.Outcome.{Outcome}
use Rattle.io_edge.specs.Outside.{Ask, File, Told, written_after}
use Rattle.qgm_core.specs.Boxes.{QueryGraph}
use Rattle.qgm_run.specs.Answers.{IsRewritten}
use Rattle.qgm_run.specs.declared.outcome.Ran.{Ran}
use Rattle.rule_plan.specs.declared.plan.Plan.{Plan}
use Rattle.row_bag.specs.Bags.{Agree}
use Rattle.row_bag.specs.Sets.{same_cells}
use Rattle.row_bag.specs.Verdict.{verdict}
use Rattle.row_bag.specs.declared.row.Row.{Row}
use Rattle.shared_types.specs.declared.memory.OutOfMemory.{OutOfMemory}
use Rattle.sql_meaning.specs.Meaning.{Answer, answer_error, answer_of, answer_rows}
use Rattle.sql_value.specs.declared.cell.Cell.{Cell}
use Rattle.sql_value.specs.declared.cell.Kind.{Kind}
use Rattle.sql_value.specs.declared.order_key.OrderKey.{OrderKey}
use Rattle.command_input.specs.Printed.{printed, said_of, status_of}
use Rattle.command_input.specs.Questions.{Question, answer_to}
use Rattle.command_input.specs.declared.report.Report.{Report}
use Rattle.command_input.specs.declared.report.Report.TheVariants.{Rows, Error, ExplainedError, Usage, SchemaRefused, ViewRefused, DataRefused, QueryRefused}
use Rattle.command_input.specs.declared.report.Said.{Said}
use Rattle.qgm_app.specs.Outcome.{End}
use Rattle.qgm_app.specs.Held.{held_answer}
use Rattle.qgm_app.specs.Rewriting.{IsBuilt, IsExplanation, IsRun}
use Rattle.qgm_app.specs.Runs.{ComesTo, IsSaid, Prepares}
use Rattle.qgm_app.specs.Stated.{IsStated}
use Rattle.qgm_app.specs.Telling.{CountsBy, IsErrorReport, IsReported, TellsBy, report_behind, report_of, row_number, statement_line, summary}
use Rattle.qgm_app.specs.declared.answers.Answered.{Answered}

-- ---- answers

-- what holds of no result holds of each
pub of-each : {X E : Type 0} (r : Result X E) (P : Type 0) → P → IfOk r (λ x. P)
of-each (Ok x) P p = p
of-each (Err e) P p = tt

-- the answer of rows that agree with a question's
pub settled-answer : (r : Result Answered OutOfMemory) (names : List (Option (List ℕ))) (order : List OrderKey) (bag rows : List (Row (List Cell))) (what : Answer)
    → IfOk r (λ a. (rows : List (Row (List Cell))) → Agree same_cells bag rows → held_answer a ≡ answer_of names order (verdict rows))
    → Agree same_cells bag rows → answer_of names order (verdict rows) ≡ what → IfOk r (λ a. held_answer a ≡ what)
settled-answer (Ok a) names order bag rows what h agree means = h rows agree ∙ means
settled-answer (Err e) names order bag rows what h agree means = tt

-- ---- reports

tells-by : (t u : TaskText) (plan : Plan) (q : Question) (report : Report) → t ≡ u → TellsBy u plan q report → TellsBy t plan q report
tells-by t u plan q report is h = subst (λ (x : TaskText). TellsBy x plan q report) (sym is) h

pub tells-explained : (r : Result Report OutOfMemory) (t : TaskText) (schema query dir : List ℕ) (plan : Plan) (q : Question) (text : List ℕ) (answer : Answer) (before after : ℕ)
    → t ≡ explain schema query dir → IfOk r (λ report. report ≡ report_behind (encode_utf8_all text) answer) → answer ≡ answer_to q → IsExplanation plan q before after text
    → IfOk r (λ report. TellsBy t plan q report)
tells-explained (Ok report) t schema query dir plan q text answer before after task is same h =
    tells-by t (explain schema query dir) plan q report task
    (record { text = text; before = before; after = after; explanation = h; reported = is ∙ ap (λ (a : Answer). report_behind (encode_utf8_all text) a) same })
tells-explained (Err e) t schema query dir plan q text answer before after task is same h = tt

pub tells-summary : (r : Result Report OutOfMemory) (t : TaskText) (seed rows : ℕ) (plan : Plan) (q : Question) (answer : Answer) (firings before after : ℕ)
    → t ≡ gen seed rows → IfOk r (λ report. report ≡ Rows (summary (depts rows) rows (row_number answer) firings)) → answer ≡ answer_to q → IsRun plan q firings before after
    → IfOk r (λ report. TellsBy t plan q report)
tells-summary (Ok report) t seed rows plan q answer firings before after task is same h =
    tells-by t (gen seed rows) plan q report task
    (record { firings = firings; before = before; after = after; run = h; reported = is ∙ ap (λ (a : Answer). Rows (summary (depts rows) rows (row_number a) firings)) same })
tells-summary (Err e) t seed rows plan q answer firings before after task is same h = tt

pub tells-answer : (r : Result Report OutOfMemory) (t : TaskText) (schema query dir : List ℕ) (plan : Plan) (q : Question) (answer : Answer)
    → t ≡ run schema query dir → IfOk r (λ report. report ≡ report_of answer) → answer ≡ answer_to q → IfOk r (λ report. TellsBy t plan q report)
tells-answer (Ok report) t schema query dir plan q answer task is same = tells-by t (run schema query dir) plan q report task (is ∙ ap (λ (a : Answer). report_of a) same)
tells-answer (Err e) t schema query dir plan q answer task is same = tt

pub tells-statement : (r : Result Report OutOfMemory) (t : TaskText) (schema query : List ℕ) (plan : Plan) (q : Question) (text : List ℕ)
    → t ≡ sql schema query → IfOk r (λ report. report ≡ Rows (statement_line text)) → IsStated plan q text → IfOk r (λ report. TellsBy t plan q report)
tells-statement (Ok report) t schema query plan q text task is h = tells-by t (sql schema query) plan q report task (record { text = text; stated = h; reported = is })
tells-statement (Err e) t schema query plan q text task is h = tt

-- and the steps of what they tell of
counts-by : (t u : TaskText) (plan : Plan) (q : Question) (report : Report) (before after : ℕ) → t ≡ u → CountsBy u plan q report before after → CountsBy t plan q report before after
counts-by t u plan q report before after is h = subst (λ (x : TaskText). CountsBy x plan q report before after) (sym is) h

pub counts-explained : (r : Result Report OutOfMemory) (t : TaskText) (schema query dir : List ℕ) (plan : Plan) (q : Question) (text : List ℕ) (answer : Answer) (before after : ℕ)
    → t ≡ explain schema query dir → IfOk r (λ report. report ≡ report_behind (encode_utf8_all text) answer) → answer ≡ answer_to q → IsExplanation plan q before after text
    → IfOk r (λ report. CountsBy t plan q report before after)
counts-explained (Ok report) t schema query dir plan q text answer before after task is same h =
    counts-by t (explain schema query dir) plan q report before after task (text, h, is ∙ ap (λ (a : Answer). report_behind (encode_utf8_all text) a) same)
counts-explained (Err e) t schema query dir plan q text answer before after task is same h = tt

pub counts-summary : (r : Result Report OutOfMemory) (t : TaskText) (seed rows : ℕ) (plan : Plan) (q : Question) (answer : Answer) (firings before after : ℕ)
    → t ≡ gen seed rows → IfOk r (λ report. report ≡ Rows (summary (depts rows) rows (row_number answer) firings)) → answer ≡ answer_to q → IsRun plan q firings before after
    → IfOk r (λ report. CountsBy t plan q report before after)
counts-summary (Ok report) t seed rows plan q answer firings before after task is same h =
    counts-by t (gen seed rows) plan q report before after task (firings, h, is ∙ ap (λ (a : Answer). Rows (summary (depts rows) rows (row_number a) firings)) same)
counts-summary (Err e) t seed rows plan q answer firings before after task is same h = tt

pub counts-answer : (r : Result Report OutOfMemory) (t : TaskText) (schema query dir : List ℕ) (plan : Plan) (q : Question) (answer : Answer) (firings before after : ℕ)
    → t ≡ run schema query dir → IfOk r (λ report. report ≡ report_of answer) → answer ≡ answer_to q → IsRun plan q firings before after → IfOk r (λ report. CountsBy t plan q report before after)
counts-answer (Ok report) t schema query dir plan q answer firings before after task is same h =
    counts-by t (run schema query dir) plan q report before after task (firings, h, is ∙ ap (λ (a : Answer). report_of a) same)
counts-answer (Err e) t schema query dir plan q answer firings before after task is same h = tt

pub counts-statement : (r : Result Report OutOfMemory) (t : TaskText) (schema query : List ℕ) (plan : Plan) (q : Question) (text : List ℕ) (steps : ℕ)
    → t ≡ sql schema query → IfOk r (λ report. report ≡ Rows (statement_line text)) → IsStated plan q text → IfOk r (λ report. CountsBy t plan q report steps steps)
counts-statement (Ok report) t schema query plan q text steps task is h =
    counts-by t (sql schema query) plan q report steps steps task (refl, record { text = text; stated = h; reported = is })
counts-statement (Err e) t schema query plan q text steps task is h = tt

-- none of these says that the words are no command
rows-are-none : (bytes : List ℕ) → Rows bytes ≢ Usage
rows-are-none bytes = λ e. cc

answer-is-none : (answer : Answer) → report_of answer ≢ Usage
answer-is-none (answer_rows names rows) = rows-are-none _
answer-is-none (answer_error kind) = λ e. cc

explained-is-none : (told : List ℕ) (answer : Answer) → report_behind told answer ≢ Usage
explained-is-none told (answer_rows names rows) = rows-are-none _
explained-is-none told (answer_error kind) = λ e. cc

isnt-usage : (r : Result Report OutOfMemory) (what : Report) → IfOk r (λ report. report ≡ what) → what ≢ Usage → IfOk r (λ report. report ≢ Usage)
isnt-usage (Ok report) what is h = λ e. h (sym is ∙ e)
isnt-usage (Err e) what is h = tt

pub answer-isnt-usage : (r : Result Report OutOfMemory) (answer : Answer) → IfOk r (λ report. report ≡ report_of answer) → IfOk r (λ report. report ≢ Usage)
answer-isnt-usage r answer is = isnt-usage r (report_of answer) is (answer-is-none answer)

pub explained-isnt-usage : (r : Result Report OutOfMemory) (told : List ℕ) (answer : Answer) → IfOk r (λ report. report ≡ report_behind told answer) → IfOk r (λ report. report ≢ Usage)
explained-isnt-usage r told answer is = isnt-usage r (report_behind told answer) is (explained-is-none told answer)

pub rows-isnt-usage : (r : Result Report OutOfMemory) (bytes : List ℕ) → IfOk r (λ report. report ≡ Rows bytes) → IfOk r (λ report. report ≢ Usage)
rows-isnt-usage r bytes is = isnt-usage r (Rows bytes) is (rows-are-none bytes)

-- ---- errors

-- a report whose status is 1 is of a runtime error
error-of : (report : Report) → status_of report ≡ 1 → (kind : Kind) × IsErrorReport kind report
error-of (Rows bytes) h = absurd (omega (arith, h))
error-of (Error kind) h = (kind, inl refl)
error-of (ExplainedError told kind) h = (kind, inr (told, refl))
error-of Usage h = absurd (omega (arith, h))
error-of (SchemaRefused number) h = absurd (omega (arith, h))
error-of (ViewRefused view number) h = absurd (omega (arith, h))
error-of (DataRefused number table row) h = absurd (omega (arith, h))
error-of (QueryRefused number) h = absurd (omega (arith, h))

three-one : ◌≡◌ {A = ℕ} 3 1 → ⊥
three-one h = omega (arith, h)

-- what is said under that status is a report
error-said : (o : Outcome End) (asks : List Ask) (name : Option (List ℕ)) (said : Said) → IsSaid o asks name said → said.status ≡ 1 → (report : Report) × IsReported o report × (said ≡ said_of report)
error-said o asks None said h e = (h.1, h.2, h.3)
error-said o asks (Some name) said h e = absurd (three-one (sym (ap (λ (s : Said). s.status) h) ∙ e))

pub error-told : (t u : Option Told) (o : List File → Outcome End) (said : Said) (bytes : List ℕ) (old new : Option (List ℕ)) → Prepares t u o (Ok said) → bytes ≡ said.text → new ≡ written_after bytes old
    → said.status ≡ 1 → ComesTo t o (λ report. (kind : Kind) × IsErrorReport kind report × (new ≡ written_after (printed report) old))
error-told None u o said bytes old new h text is e = tt
error-told (Some t) None o said bytes old new h text is e = absurd h
error-told (Some t) (Some u) o said bytes old new h text is e =
    let r = error-said (o t.files) h.0 _ said h.2.1 e in
    let k = error-of r.0 (sym (ap (λ (s : Said). s.status) r.2) ∙ e) in
    (r.0, r.1, (k.0, k.1, is ∙ ap (λ (x : List ℕ). written_after x old) (text ∙ ap (λ (s : Said). s.text) r.2)))

-- what is said under another status than that of a failed read is a report
report-said : (o : Outcome End) (asks : List Ask) (name : Option (List ℕ)) (said : Said) → IsSaid o asks name said → said.status ≢ 3 → (report : Report) × IsReported o report × (said ≡ said_of report)
report-said o asks None said h e = (h.1, h.2, h.3)
report-said o asks (Some name) said h e = absurd (e (ap (λ (s : Said). s.status) h))

pub report-told : (t u : Option Told) (o : List File → Outcome End) (said : Said) (bytes : List ℕ) (old new : Option (List ℕ)) → Prepares t u o (Ok said) → bytes ≡ said.text → new ≡ written_after bytes old
    → said.status ≢ 3 → ComesTo t o (λ report. (said.status ≡ status_of report) × (new ≡ written_after (printed report) old))
report-told None u o said bytes old new h text is e = tt
report-told (Some t) None o said bytes old new h text is e = absurd h
report-told (Some t) (Some u) o said bytes old new h text is e =
    let r = report-said (o t.files) h.0 _ said h.2.1 e in
    (r.0, r.1, (ap (λ (s : Said). s.status) r.2, is ∙ ap (λ (x : List ℕ). written_after x old) (text ∙ ap (λ (s : Said). s.text) r.2)))
