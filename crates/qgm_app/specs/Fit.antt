-- What each command needs of its question.
use Rattle.command_line.specs.Line.{TaskText, explain, gen, run, sql}
use Rattle.command_input.specs.Ready.{IsReady, IsRequestReady, IsRequestSound, IsSound}
use Rattle.command_input.specs.declared.question.Question.{Question}
use Rattle.command_input.specs.declared.question.Request.{Request}

-- a checked query, and tables that fit; `sql` needs no table
abbrev pub IsFit : TaskText → Question → Type 0
IsFit (run schema query dir) q = IsReady q
IsFit (explain schema query dir) q = IsReady q
IsFit (sql schema query) q = IsSound q
IsFit (gen seed rows) q = IsReady q

-- of a question that was found
abbrev pub IsFitRequest : TaskText → Request → Type 0
IsFitRequest (run schema query dir) found = IsRequestReady found
IsFitRequest (explain schema query dir) found = IsRequestReady found
IsFitRequest (sql schema query) found = IsRequestSound found
IsFitRequest (gen seed rows) found = IsRequestReady found
