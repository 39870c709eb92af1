-- What a command line is to come to over the files that it is given: the names that it reads, in order, and what comes of it: a report, or a question of whose answer its report tells.
-- The order is one: words, schema, views, query, tables, answer. The first refusal in this order is the report.
use Rattle.std.specs.Prelude.{ℕ, List, Option, Some, None, Ok, Err}
use Rattle.io_edge.specs.Outcome.{Outcome, done, ◌>>=◌}
use Rattle.io_edge.specs.Outside.{File}
use Rattle.command_line.specs.Line.{LineText, TaskText, explain, gen, run, sql}
use Rattle.command_line.specs.Reading.{line}
use Rattle.command_input.specs.Generated.{generated}
use Rattle.command_input.specs.Questions.{Question, Request}
use Rattle.command_input.specs.Stages.{from_schema}
use Rattle.command_input.specs.declared.report.Report.{Report}
use Rattle.command_input.specs.declared.report.Report.TheVariants.{Usage}

-- the question of a command; `sql` reads no table
abbrev pub with_task : TaskText → List File → Outcome Request
with_task (run schema query dir) files = from_schema schema query (Some dir) files
with_task (explain schema query dir) files = from_schema schema query (Some dir) files
with_task (sql schema query) files = from_schema schema query None files
with_task (gen seed rows) files = done (generated seed rows)

-- what comes of a command line: this report, or a report on the answer to this question
pub data End : Type 0 where
  refusing : Report → End
  answering : LineText → Question → End

abbrev pub end_of : LineText → Request → End
end_of taken (Ok question) = answering taken question
end_of taken (Err report) = refusing report

-- the command line, or none where the words are none; and then what comes of it
unfoldable pub with_line : Option LineText → List File → Outcome End
with_line None files = done (refusing Usage)
with_line (Some taken) files = with_task taken.task files >>= (λ found. done (end_of taken found))

-- the outcome of a command line over these files
abbrev pub outcome : List (List ℕ) → List File → Outcome End
outcome words files = with_line (line words) files
