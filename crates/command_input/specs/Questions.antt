-- Questions: a valid query over a catalog and tables.
use Rattle.std.specs.Prelude.{List, Result, Ok, Err}
use Rattle.row_bag.specs.declared.tables.Table.{Table}
use Rattle.sql_ast.specs.Declarations.{Declared}
use Rattle.sql_ast.specs.Shown as shown
use Rattle.sql_ast.specs.Syntax as s
use Rattle.sql_catalog.specs.Shown as catalogs
use Rattle.sql_meaning.specs.Meaning.{Answer, answer, known_of}
use Rattle.command_input.specs.declared.question.Request.TheVariants.{Asked, Refused}
use Rattle.command_input.specs.declared.question.Request as held_request
use Rattle.command_input.specs.declared.question.Question as held
use Rattle.command_input.specs.declared.report.Report.{Report}

-- a query over a catalog and tables
pub record Question : Type 0 where
  pub catalog : Declared
  pub query : s.QueryText
  pub tables : List Table

-- what the query means over them
abbrev pub answer_to : Question → Answer
answer_to q = answer (known_of q.catalog q.tables) q.query

-- the question that the program holds
abbrev pub question_of : held.Question → Question
question_of q = record { catalog = catalogs.catalog q.catalog; query = shown.query_text q.valid.query; tables = q.tables }

-- a question, or the report that refuses it
abbrev pub Request : Type 0
Request = Result Question Report

-- what the program is asked
abbrev pub request_of : held_request.Request → Request
request_of (Asked q) = Ok (question_of q)
request_of (Refused report) = Err report
