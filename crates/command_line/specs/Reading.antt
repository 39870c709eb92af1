-- What the words of a command line say.
use Rattle.std.specs.Prelude.{ℕ, Bool, true, false, List, [], ◌∷◌, Option, Some, None, ◌&&◌, if◌then◌else◌}
use Rattle.std.specs.Prelude.{codes, length, nat_lt, option_and_then, unwrap_or, ◌^◌}
use Rattle.std.specs.List.{list_all}
use Rattle.std.specs.Str.{bytes_eq}
use Rattle.std.specs.Char.{digit_value}
use Rattle.std.specs.Str.Parse.{digits_value, without_leading_plus}
use Rattle.clap.specs.Words.{Kinds, Row, Text, fault_of, first_of, subcommand_of}
use Rattle.rule_plan.specs.declared.plan.Order.{Order}
use Rattle.rule_plan.specs.declared.plan.Order.TheVariants.{Sequence, Priority, Scatter}
use Rattle.rule_plan.specs.declared.plan.Plan.{Plan}
use Rattle.shared_types.specs.declared.walk.Walk.{Walk}
use Rattle.shared_types.specs.declared.walk.Walk.TheVariants.{Depth, Breadth}
use Rattle.command_line.specs.Classes.{classes_named}
use Rattle.command_line.specs.Command.{line_app}
use Rattle.command_line.specs.Line.{LineText, TaskText, run, explain, sql, gen, is_taken}
use Rattle.command_line.specs.Named.{◌>>=◌, named}

abbrev pub order_named : Text → Option Order
order_named = named ((codes "sequence", Sequence) ∷ (codes "priority", Priority) ∷ (codes "scatter", Scatter) ∷ [])

abbrev pub walk_named : Text → Option Walk
walk_named = named ((codes "depth", Depth) ∷ (codes "breadth", Breadth) ∷ [])

-- the digits of a number of 64 bits
abbrev pub is_number : Text → Bool
is_number ds = nat_lt 0 (length ds) && list_all (λ d. nat_lt (digit_value d) 10) ds
    && nat_lt (digits_value 10 ds) (2 ^ 64)

-- the number that a text writes; 0 for a text that is none, which `clap` rules out
unfoldable pub number : Text → ℕ
number text =
    let ds = without_leading_plus text in
    if is_number ds then digits_value 10 ds else 0

-- the value of an argument, which each command has by a default or since it is required
abbrev pub text_at : Text → List Row → Text
text_at id rows = unwrap_or (first_of id rows) []

unfoldable pub plan_at : List Row → Option Plan
plan_at rows = do
  order ← order_named (text_at (codes "order") rows)
  walk ← walk_named (text_at (codes "walk") rows)
  classes ← classes_named (text_at (codes "classes") rows)
  Some (record {
    classes = classes;
    order = order;
    walk = walk;
    seed = number (text_at (codes "seed") rows);
    budget = number (text_at (codes "budget") rows);
  })

-- `sql`, whose dialect must be the one that there is
abbrev pub sql_at : List Row → Option TaskText
sql_at rows = if bytes_eq (text_at (codes "dialect") rows) (codes "postgres")
    then Some (sql (text_at (codes "schema") rows) (text_at (codes "query") rows)) else None

unfoldable pub task_at : Text → List Row → Option TaskText
task_at name rows = if bytes_eq name (codes "run")
    then Some (run (text_at (codes "schema") rows) (text_at (codes "query") rows)
    (text_at (codes "dir") rows))
    else (if bytes_eq name (codes "explain")
    then Some (explain (text_at (codes "schema") rows) (text_at (codes "query") rows)
    (text_at (codes "dir") rows))
    else (if bytes_eq name (codes "sql")
    then sql_at rows
    else (if bytes_eq name (codes "gen")
    then Some (gen (number (text_at (codes "start") rows)) (number (text_at (codes "rows") rows)))
    else None)))

-- what a subcommand with its matches says
unfoldable pub command_at : Text × List Row → Option LineText
command_at p = do
  task ← task_at p.0 p.1
  plan ← plan_at p.1
  Some (record { task = task; plan = plan })

abbrev pub no_fault : Kinds → Bool
no_fault [] = true
no_fault (k ∷ ks) = false

-- what the words say, whose command may not be taken; none where `clap` doesn't take them, they
-- hold no command, or an order, a walk, a class or a dialect isn't one of those listed
unfoldable pub known_line : List Text → Option LineText
known_line words = if no_fault (fault_of line_app words)
    then option_and_then command_at (subcommand_of line_app words) else None

-- the command line that the words are
unfoldable pub line : List Text → Option LineText
line words = do
  found ← known_line words
  if is_taken found.task then Some found else None
