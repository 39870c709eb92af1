-- The answer that the program holds.
use Rattle.std.specs.Prelude.{ℕ, List, Option}
use Rattle.row_bag.specs.declared.outcome.Verdict.{Verdict}
use Rattle.row_bag.specs.declared.outcome.Verdict.TheVariants.{Rows, Error}
use Rattle.sql_meaning.specs.Meaning.{Answer, answer_error, answer_rows}
use Rattle.qgm_app.specs.declared.answers.Answered as held

-- a verdict under these names
abbrev pub answer_as : List (Option (List ℕ)) → Verdict → Answer
answer_as names (Rows rows) = answer_rows names rows
answer_as names (Error kind) = answer_error kind

-- the answer that the program holds
abbrev pub held_answer : held.Answered → Answer
held_answer a = answer_as a.names a.verdict
