-- What a command tells of the answer to its question, and how many steps it takes.
use Rattle.std.specs.Prelude.{ℕ, ◌≡◌, ◌⊎◌, List, ◌++◌, codes, encode_utf8_all, length, Some, Option, IfSome}
use Rattle.std.specs.Fmt.{decimal}
use Rattle.csv_tables.specs.Printed.{printed_rows}
use Rattle.generated_input.specs.Made.{depts}
use Rattle.io_edge.specs.Outcome.{Outcome}
use Rattle.io_edge.specs.Outside.{File, Told}
use Rattle.rule_plan.specs.declared.plan.Plan.{Plan}
use Rattle.sql_value.specs.declared.cell.Kind.{Kind}
use Rattle.sql_meaning.specs.Meaning.{Answer, answer_error, answer_rows}
use Rattle.command_line.specs.Line.{LineText, TaskText, explain, gen, run, sql}
use Rattle.command_input.specs.Questions.{Question, answer_to}
use Rattle.command_input.specs.declared.report.Report.{Report}
use Rattle.command_input.specs.declared.report.Report.TheVariants.{Rows, Error, ExplainedError}
use Rattle.qgm_app.specs.Outcome.{End, answering, refusing}
use Rattle.qgm_app.specs.Rewriting.{IsExplanation, IsRun}
use Rattle.qgm_app.specs.Stated.{IsStated}

-- `run`: the rows in CSV, or the error
abbrev pub report_of : Answer → Report
report_of (answer_rows names rows) = Rows (printed_rows names rows)
report_of (answer_error kind) = Error kind

-- `explain`: bytes that tell of the rewriting, and behind them what `run` prints
abbrev pub report_behind : List ℕ → Answer → Report
report_behind told (answer_rows names rows) = Rows (told ++ printed_rows names rows)
report_behind told (answer_error kind) = ExplainedError told kind

-- a report of an explanation of a question's answer
pub record IsExplained (plan : Plan) (q : Question) (report : Report) : Type 0 where
  pub text : List ℕ
  pub before : ℕ
  pub after : ℕ
  pub explanation : IsExplanation plan q before after text
  pub reported : report ≡ report_behind (encode_utf8_all text) (answer_to q)

-- `sql`: the statement, and a line feed
abbrev pub statement_line : List ℕ → List ℕ
statement_line text = encode_utf8_all text ++ codes "\n"

-- a report of the statement of a question's query
pub record IsStatementReport (plan : Plan) (q : Question) (report : Report) : Type 0 where
  pub text : List ℕ
  pub stated : IsStated plan q text
  pub reported : report ≡ Rows (statement_line text)

-- how many rows an answer has
abbrev pub row_number : Answer → ℕ
row_number (answer_rows names rows) = length rows
row_number (answer_error kind) = 0

-- so many rows of DEPT and of EMP, so many in the answer, and so many firings of rules
abbrev pub summary : ℕ → ℕ → ℕ → ℕ → List ℕ
summary d e n firings =
    codes "TABLES " ++ (decimal d ++ (codes " " ++ (decimal e ++ (codes "\nANSWER " ++ (decimal n ++ (codes "\nFIRINGS " ++ (decimal firings ++ codes "\n")))))))

-- `gen`: a report that sums an answer up, over so many rows of EMP
pub record IsSummary (plan : Plan) (q : Question) (rows : ℕ) (report : Report) : Type 0 where
  pub firings : ℕ
  pub before : ℕ
  pub after : ℕ
  pub run : IsRun plan q firings before after
  pub reported : report ≡ Rows (summary (depts rows) rows (row_number (answer_to q)) firings)

-- a report of a command, by a plan, on the answer to a question
abbrev pub TellsBy : TaskText → Plan → Question → Report → Type 0
TellsBy (run schema query dir) plan question report = report ≡ report_of (answer_to question)
TellsBy (explain schema query dir) plan question report = IsExplained plan question report
TellsBy (sql schema query) plan question report = IsStatementReport plan question report
TellsBy (gen seed rows) plan question report = IsSummary plan question rows report

abbrev pub Tells : LineText → Question → Report → Type 0
Tells taken question report = TellsBy taken.task taken.plan question report

-- a report of what comes of a command line
abbrev pub Reports : End → Report → Type 0
Reports (refusing refusal) report = report ≡ refusal
Reports (answering taken question) report = Tells taken question report

-- an outcome comes to something of which this is a report
abbrev pub IsReported : Outcome End → Report → Type 0
IsReported o report = (end : End) × (o.end ≡ Some end) × Reports end report

-- a report of this runtime error
abbrev pub IsErrorReport : Kind → Report → Type 0
IsErrorReport kind report = (report ≡ Error kind) ⊎ ((told : List ℕ) × (report ≡ ExplainedError told kind))

-- ---- steps

-- a report of a command, by a plan, on the answer to a question, and the steps of the execution that it tells of; `sql` executes nothing
abbrev pub CountsBy : TaskText → Plan → Question → Report → ℕ → ℕ → Type 0
CountsBy (run schema query dir) plan question report before after = (firings : ℕ) × IsRun plan question firings before after × (report ≡ report_of (answer_to question))
CountsBy (explain schema query dir) plan question report before after =
    (text : List ℕ) × IsExplanation plan question before after text × (report ≡ report_behind (encode_utf8_all text) (answer_to question))
CountsBy (sql schema query) plan question report before after = (after ≡ before) × IsStatementReport plan question report
CountsBy (gen seed rows) plan question report before after =
    (firings : ℕ) × IsRun plan question firings before after × (report ≡ Rows (summary (depts rows) rows (row_number (answer_to question)) firings))

-- the steps from `before` to `after` are those of what comes of a command line, of which this is a report: none of a refusal, and of a question those of the graph that its query's is rewritten to, of which the report tells
abbrev pub Counts : End → Report → ℕ → ℕ → Type 0
Counts (refusing refusal) report before after = (after ≡ before) × (report ≡ refusal)
Counts (answering taken question) report before after = CountsBy taken.task taken.plan question report before after

-- over files that tell of themselves
abbrev pub CountsOf : Option Told → (List File → Outcome End) → Report → ℕ → ℕ → Type 0
CountsOf told o report before after = IfSome told (λ t. (end : End) × ((o t.files).end ≡ Some end) × Counts end report before after)
