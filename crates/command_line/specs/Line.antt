-- A command line, without the addresses of its texts.
use Rattle.std.specs.Prelude.{ℕ, ◌&&◌, nat_le, Bool, true, false}
use Rattle.clap.specs.Words.{Text}
use Rattle.rule_plan.specs.declared.plan.Plan.{Plan}
use Rattle.command_line.specs.Command.{greatest_rows, greatest_seed}
use Rattle.command_line.specs.declared.task.Line.{Line}
use Rattle.command_line.specs.declared.task.Task.{Task}
use Rattle.command_line.specs.declared.task.Task.TheVariants.{Run, Explain, Sql, Gen}

-- a command with its arguments: the names of the schema's file, of the query's file and of the
-- folder of tables, which `sql` doesn't read; and of `gen`, the seed and the number of rows
pub data TaskText : Type 0 where
  run : Text → Text → Text → TaskText
  explain : Text → Text → Text → TaskText
  sql : Text → Text → TaskText
  gen : ℕ → ℕ → TaskText

pub record LineText : Type 0 where
  pub task : TaskText
  pub plan : Plan

abbrev pub task_text : Task → TaskText
task_text (Run schema query dir) = run schema.now query.now dir.now
task_text (Explain schema query dir) = explain schema.now query.now dir.now
task_text (Sql schema query) = sql schema.now query.now
task_text (Gen seed rows) = gen seed rows

-- what a `Line` says
abbrev pub line_text : Line → LineText
line_text l = record { task = task_text l.task; plan = l.plan }

-- whether the program takes the command: its numbers are within range (`clap` takes no others)
abbrev pub is_taken : TaskText → Bool
is_taken (run schema query dir) = true
is_taken (explain schema query dir) = true
is_taken (sql schema query) = true
is_taken (gen seed rows) = nat_le seed greatest_seed && nat_le rows greatest_rows
