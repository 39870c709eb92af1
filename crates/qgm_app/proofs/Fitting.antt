-- What a command needs of its question is what was found of it.
use Rattle.std.proofs.Common.{◌≡◌, subst}
use Rattle.command_line.specs.Line.{TaskText, explain, gen, run, sql}
use Rattle.command_input.specs.Ready.{IsReady, IsRequestReady, IsRequestSound, IsSound}
use Rattle.command_input.specs.declared.question.Question.{Question}
use Rattle.command_input.specs.declared.question.Request.{Request}
use Rattle.command_input.specs.declared.question.Request.TheVariants.{Asked}
use Rattle.qgm_app.specs.Fit.{IsFit, IsFitRequest}

ready-asked : (found : Request) (q : Question) → found ≡ Asked q → IsRequestReady found → IsReady q
ready-asked found q is h = let k = subst (λ (f : Request). IsRequestReady f) is h in k

sound-asked : (found : Request) (q : Question) → found ≡ Asked q → IsRequestSound found → IsSound q
sound-asked found q is h = let k = subst (λ (f : Request). IsRequestSound f) is h in k

pub fit-asked : (t : TaskText) (found : Request) (q : Question) → found ≡ Asked q → IsFitRequest t found → IsFit t q
fit-asked (run schema query dir) found q is h = ready-asked found q is h
fit-asked (explain schema query dir) found q is h = ready-asked found q is h
fit-asked (sql schema query) found q is h = sound-asked found q is h
fit-asked (gen seed rows) found q is h = ready-asked found q is h
