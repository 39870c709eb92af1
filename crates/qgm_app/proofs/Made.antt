-- The question of `gen` is refused for no seed and no number of rows.
use Rattle.std.proofs.Common.{ℕ, ◌≡◌, ◌∙◌, subst, Ok, Err}
use Rattle.io_edge.specs.declared.fetch.Interruption.{Interruption}
use Rattle.io_edge.specs.declared.fetch.Interruption.TheVariants.{ReadFault, Memory}
use Rattle.command_input.specs.declared.report.Report.{Report}
use Rattle.command_input.proofs.NeverRefused.{none-refused}
use Rattle.command_input.specs.Generated.{generated}
use Rattle.command_input.specs.Questions.{Question, request_of}
use Rattle.command_input.specs.declared.question.Request.{Request}
use Rattle.command_input.specs.declared.question.Request.TheVariants.{Asked, Refused}
use Rattle.qgm_app.specs.Runs.{IsAsked, IsMadeReport, IsMadeRequest}

asked : (found : Request) (q : Question) → request_of found ≡ Ok q → IsAsked found
asked (Asked question) q e = tt
asked (Refused report) q e = absurd (let no : ⊥ = cc in no)

pub made-asked : (seed rows : ℕ) (found : Request) → request_of found ≡ generated seed rows → IsAsked found
made-asked seed rows found e = let (q, is) = none-refused seed rows in asked found q (e ∙ is)

-- ---- what is told of it

pub interrupted : (e : Interruption) (P : Type 0) → (P → IsMadeRequest (Err e)) → P → IsMadeReport (Err e)
interrupted (ReadFault name) P h p = h p
interrupted Memory P h p = tt

pub not-refused : (found : Request) (report : Report) → found ≡ Refused report → IsAsked found → ⊥
not-refused found report is h = let k = subst (λ (f : Request). IsAsked f) is h in k
