-- What a run has done, held against the outcome that it is to come to.
use Rattle.std.specs.Prelude.{ℕ, ◌≡◌, ◌≢◌, ⊤, List, length, Option, Some, None, IfSome, Result, Ok, Err, encode_utf8_all}
use Rattle.io_edge.specs.Outcome.{AskedOf, Comes, Outcome, answered, faulted, failed_name, starved}
use Rattle.io_edge.specs.Outside.{Ask, File, StopsShort, Told, with_asked, written_after}
use Rattle.io_edge.specs.declared.fetch.Interruption.{Interruption}
use Rattle.io_edge.specs.declared.fetch.Interruption.TheVariants.{ReadFault, Memory}
use Rattle.shared_types.specs.declared.memory.OutOfMemory.{OutOfMemory}
use Rattle.command_line.specs.Line.{TaskText, explain, gen, run, sql}
use Rattle.command_input.specs.Printed.{read_failed, said_of, status_of}
use Rattle.command_input.specs.declared.question.Request.{Request}
use Rattle.command_input.specs.declared.question.Request.TheVariants.{Asked, Refused}
use Rattle.command_input.specs.declared.report.Report.{Report}
use Rattle.command_input.specs.declared.report.Report.TheVariants.{Usage}
use Rattle.command_input.specs.declared.report.Said.{Said}
use Rattle.qgm_app.specs.Outcome.{End}
use Rattle.qgm_app.specs.Telling.{IsReported, Reports}

-- what came of a command line, as `Comes`: a report of it, or the interruption
abbrev pub ComesTold : Option Told → Option Told → (List File → Outcome End) → Result Report Interruption → Type 0
ComesTold before after o (Ok report) = (end : End) × Comes before after o (answered end) × Reports end report
ComesTold before after o (Err (ReadFault name)) = Comes before after o (faulted (encode_utf8_all name))
ComesTold before after o (Err Memory) = Comes before after o starved

-- what is said after these reads: a report of the outcome, all of its names having been read, or the name whose read failed
abbrev pub IsSaid : Outcome End → List Ask → Option (List ℕ) → Said → Type 0
IsSaid o asks None said = (length asks ≡ length o.names) × (report : Report) × IsReported o report × (said ≡ said_of report)
IsSaid o asks (Some name) said = said ≡ read_failed name

-- what was prepared over files that tell of themselves: they were read as the outcome says and left as they were
abbrev pub IsPrepared : Outcome End → List Ask → Result Said OutOfMemory → Type 0
IsPrepared o asks (Ok said) = AskedOf o.names asks × IsSaid o asks (failed_name asks) said
IsPrepared o asks (Err e) = AskedOf o.names asks

abbrev pub Prepares : Option Told → Option Told → (List File → Outcome End) → Result Said OutOfMemory → Type 0
Prepares None after o result = ⊤
Prepares (Some t) None o result = ⊥
Prepares (Some t) (Some u) o result = (asks : List Ask) × (u ≡ with_asked asks t) × IsPrepared (o t.files) asks result

-- how a run ended after these reads
pub record RanAs (o : Outcome End) (asks : List Ask) (old new : Option (List ℕ)) (status : ℕ) : Type 0 where
  pub asked : AskedOf o.names asks
  -- where the sink took all and memory sufficed, all of what is to be said, under its status
  pub said : status ≢ 4 → status ≢ 8 → (said : Said) × IsSaid o asks (failed_name asks) said × (status ≡ said.status) × (new ≡ written_after said.text old)
  -- where the sink failed, a proper prefix of it
  pub short : status ≡ 4 → (said : Said) × IsSaid o asks (failed_name asks) said × StopsShort old new said.text

-- how a run ended over files that tell of themselves; over others nothing is said
abbrev pub Runs : Option Told → Option Told → (List File → Outcome End) → Option (List ℕ) → Option (List ℕ) → ℕ → Type 0
Runs None after o old new status = ⊤
Runs (Some t) None o old new status = ⊥
Runs (Some t) (Some u) o old new status = (asks : List Ask) × (u ≡ with_asked asks t) × RanAs (o t.files) asks old new status

-- a command that makes its tables, and reads no file
abbrev pub IsMade : TaskText → Type 0
IsMade (run schema query dir) = ⊥
IsMade (explain schema query dir) = ⊥
IsMade (sql schema query) = ⊥
IsMade (gen seed rows) = ⊤

-- a question was found
abbrev pub IsAsked : Request → Type 0
IsAsked (Asked question) = ⊤
IsAsked (Refused report) = ⊥

-- what is found, and what is told, by a command that reads nothing: a question and its answer, or want of memory
abbrev pub IsMadeRequest : Result Request Interruption → Type 0
IsMadeRequest (Ok found) = IsAsked found
IsMadeRequest (Err (ReadFault name)) = ⊥
IsMadeRequest (Err Memory) = ⊤

abbrev pub IsMadeReport : Result Report Interruption → Type 0
IsMadeReport (Ok report) = status_of report ≡ 0
IsMadeReport (Err (ReadFault name)) = ⊥
IsMadeReport (Err Memory) = ⊤

-- the answer to words that are no command line, or want of memory
abbrev pub IsUsage : Result Report Interruption → Type 0
IsUsage (Ok report) = report ≡ Usage
IsUsage (Err (ReadFault name)) = ⊥
IsUsage (Err Memory) = ⊤

-- over files that tell of themselves, the outcome comes to something of which a report is this one
abbrev pub ComesTo : Option Told → (List File → Outcome End) → (Report → Type 0) → Type 0
ComesTo told o holds = IfSome told (λ t. (report : Report) × IsReported (o t.files) report × holds report)
