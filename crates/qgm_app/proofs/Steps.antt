-- How what is found for a command line and what is told of it fit together.
use Rattle.std.specs.Prelude.{IfOk}
use Rattle.std.proofs.Common.{ℕ, ◌≡◌, List, Option, Some, None, Result, Ok, Err, refl, sym, subst}
use Rattle.io_edge.specs.Outcome.{Comes, Outcome, answered, done, starved}
use Rattle.io_edge.specs.Outside.{File, Told}
use Rattle.io_edge.specs.declared.fetch.Interruption.{Interruption}
use Rattle.io_edge.specs.declared.fetch.Interruption.TheVariants.{ReadFault, Memory}
use Rattle.io_edge.proofs.Order.{comes-bind, comes-bind-faulted, comes-bind-starved, comes-done, comes-mapped, comes-starved}
use Rattle.shared_types.specs.declared.memory.OutOfMemory.{OutOfMemory}
use Rattle.command_line.specs.Line.{LineText}
use Rattle.command_line.specs.Reading.{line}
use Rattle.command_input.specs.Printed.{said_of}
use Rattle.command_input.specs.Questions.{Request}
use Rattle.command_input.specs.Stages.{request_end}
use Rattle.command_input.specs.declared.report.Report.{Report}
use Rattle.command_input.specs.declared.report.Report.TheVariants.{Usage}
use Rattle.command_input.specs.declared.report.Said.{Said}
use Rattle.qgm_app.specs.Outcome.{End, end_of, outcome, refusing, with_line, with_task}
use Rattle.qgm_app.specs.Runs.{ComesTold, Prepares}
use Rattle.qgm_app.specs.Telling.{Counts, CountsOf, Reports}

-- ---- what is found

-- nothing is read
pub found-done : (t : Option Told) (found made : Request) → found ≡ made → Comes t t (λ fs. done made) (answered found)
found-done t found made is = subst (λ (f : Request). Comes t t (λ fs. done made) (answered f)) (sym is) (comes-done t made)

-- ---- what is told

-- what was found for a command line
pub line-found : (t u : Option Told) (taken : LineText) (found : Request)
    → Comes t u (λ fs. with_task taken.task fs) (answered found) → Comes t u (λ fs. with_line (Some taken) fs) (answered (end_of taken found))
unfolding with_line
line-found t u taken found h = comes-mapped t u (λ fs. with_task taken.task fs) (end_of taken) found h

-- a report of it
pub line-told : (t u : Option Told) (taken : LineText) (found : Request) (report : Report)
    → Comes t u (λ fs. with_task taken.task fs) (answered found) → Reports (end_of taken found) report → ComesTold t u (λ fs. with_line (Some taken) fs) (Ok report)
line-told t u taken found report h r = (end_of taken found, line-found t u taken found h, r)

-- an interruption
pub line-interrupted : (t u : Option Told) (taken : LineText) (e : Interruption)
    → Comes t u (λ fs. with_task taken.task fs) (request_end (Err e)) → ComesTold t u (λ fs. with_line (Some taken) fs) (Err e)
unfolding with_line
line-interrupted t u taken (ReadFault name) h = comes-bind-faulted t u (λ fs. with_task taken.task fs) (λ found fs. done (end_of taken found)) _ h
line-interrupted t u taken Memory h = comes-bind-starved t u (λ fs. with_task taken.task fs) (λ found fs. done (end_of taken found)) h

-- memory ran out after it
pub line-starved : (t u : Option Told) (taken : LineText) (found : Request)
    → Comes t u (λ fs. with_task taken.task fs) (answered found) → Comes t u (λ fs. with_line (Some taken) fs) starved
unfolding with_line
line-starved t u taken found h = comes-bind t u u (λ fs. with_task taken.task fs) (λ f fs. done (end_of taken f)) found starved h (comes-starved u (λ fs. done (end_of taken found)))

-- the words are no command line
pub no-line : (t : Option Told) (words : List (List ℕ)) → line words ≡ None → ComesTold t t (outcome words) (Ok Usage)
unfolding with_line
no-line t words is =
    (refusing Usage, subst (λ (l : Option LineText). Comes t t (λ fs. with_line l fs) (answered (refusing Usage))) (sym is) (comes-done t (refusing Usage)), refl)

-- the words are a command line, and what it comes to is next
pub line-taken : (t u : Option Told) (words : List (List ℕ)) (taken : LineText) (result : Result Report Interruption) → line words ≡ Some taken
    → ComesTold t u (λ fs. with_line (Some taken) fs) result → ComesTold t u (outcome words) result
line-taken t u words taken result is h = subst (λ (l : Option LineText). ComesTold t u (λ fs. with_line l fs) result) (sym is) h

-- what is said of a report
pub told-prepares : (t u : Option Told) (o : List File → Outcome End) (report : Report) (result : Result Said OutOfMemory) → ComesTold t u o (Ok report)
    → IfOk result (λ (said : Said). said ≡ said_of report) → Prepares t u o result
told-prepares None u o report result h is = tt
told-prepares (Some t) None o report result h is = absurd h.1
told-prepares (Some t) (Some u) o report (Ok said) h is =
    let k = h.1 in
    (k.0, k.1, (k.2, rw k.3.0 (k.3.1, report, (h.0, k.3.2, h.2), is)))
told-prepares (Some t) (Some u) o report (Err e) h is = (h.1.0, h.1.1, h.1.2)

-- ---- steps

-- these are the steps of what an outcome comes to
counts-at : (t u : Option Told) (o : List File → Outcome End) (end : End) (report : Report) (before after : ℕ) → Comes t u o (answered end) → Counts end report before after → CountsOf t o report before after
counts-at None u o end report before after h k = tt
counts-at (Some t) None o end report before after h k = absurd h
counts-at (Some t) (Some u) o end report before after h k = (end, h.3.2, k)

-- of what was found for a command line
pub line-counts : (t u : Option Told) (taken : LineText) (found : Request) (report : Report) (before after : ℕ)
    → Comes t u (λ fs. with_task taken.task fs) (answered found) → Counts (end_of taken found) report before after → CountsOf t (λ fs. with_line (Some taken) fs) report before after
line-counts t u taken found report before after h k = counts-at t u (λ fs. with_line (Some taken) fs) (end_of taken found) report before after (line-found t u taken found h) k

-- of words that are no command line
pub no-line-counts : (t : Option Told) (words : List (List ℕ)) (before after : ℕ) → line words ≡ None → after ≡ before → CountsOf t (outcome words) Usage before after
unfolding with_line
no-line-counts t words before after is same =
    subst (λ (l : Option LineText). CountsOf t (λ fs. with_line l fs) Usage before after) (sym is)
    (counts-at t t (λ fs. with_line None fs) (refusing Usage) Usage before after (comes-done t (refusing Usage)) (same, refl))

-- of words that are one
pub line-taken-counts : (t : Option Told) (words : List (List ℕ)) (taken : LineText) (report : Report) (before after : ℕ) → line words ≡ Some taken
    → CountsOf t (λ fs. with_line (Some taken) fs) report before after → CountsOf t (outcome words) report before after
line-taken-counts t words taken report before after is h = subst (λ (l : Option LineText). CountsOf t (λ fs. with_line l fs) report before after) (sym is) h
