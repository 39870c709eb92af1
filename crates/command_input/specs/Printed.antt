-- The status and the text of a report.
use Rattle.std.specs.Prelude.{ℕ, List, ◌++◌, codes, encode_utf8_all}
use Rattle.std.specs.Fmt.{decimal}
use Rattle.sql_value.specs.declared.cell.Kind.{Kind}
use Rattle.sql_value.specs.declared.cell.Kind.TheVariants.{Cardinality, Division, Overflow}
use Rattle.command_input.specs.declared.report.Report.{Report}
use Rattle.command_input.specs.declared.report.Report.TheVariants.{Rows, Error, ExplainedError, Usage, SchemaRefused, ViewRefused, DataRefused, QueryRefused}
use Rattle.command_input.specs.declared.report.Said.{Said}

-- the SQLSTATE of a runtime error
abbrev pub sqlstate : Kind → List ℕ
sqlstate Cardinality = codes "21000"
sqlstate Division = codes "22012"
sqlstate Overflow = codes "22003"

abbrev pub status_of : Report → ℕ
status_of (Rows bytes) = 0
status_of (Error kind) = 1
status_of (ExplainedError told kind) = 1
status_of Usage = 2
status_of (SchemaRefused number) = 5
status_of (ViewRefused view number) = 5
status_of (DataRefused number table row) = 6
status_of (QueryRefused number) = 7

-- the line of a runtime error
abbrev pub error_line : Kind → List ℕ
error_line kind = codes "ERROR " ++ (sqlstate kind ++ codes "\n")

abbrev pub printed : Report → List ℕ
printed (Rows bytes) = bytes
printed (Error kind) = error_line kind
printed (ExplainedError told kind) = told ++ error_line kind
printed Usage = codes "USAGE\n"
printed (SchemaRefused number) = codes "SCHEMA S" ++ (decimal number ++ codes "\n")
printed (ViewRefused view number) = codes "SCHEMA S11 " ++ (encode_utf8_all view ++ (codes " " ++ (decimal number ++ codes "\n")))
printed (DataRefused number table row) = codes "DATA X" ++ (decimal number ++ (codes " " ++ (encode_utf8_all table ++ (codes " " ++ (decimal row ++ codes "\n")))))
printed (QueryRefused number) = codes "QUERY Q" ++ (decimal number ++ codes "\n")

-- a status and what is printed, as a report has them
abbrev pub said_of : Report → Said
said_of report = record { status = status_of report; text = printed report }

-- status 3, and the name whose read failed
abbrev pub read_failed : List ℕ → Said
read_failed name = record { status = 3; text = codes "READ " ++ (name ++ codes "\n") }
