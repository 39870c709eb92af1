-- The command, as `clap` reads it.
use Rattle.std.specs.Prelude.{ℕ, [], ◌∷◌, Some, true, codes}
use Rattle.clap.specs.Words.{App, Rule, Shape, Text, new_app, new_rule, with_rule, with_subcommand}
use Rattle.clap.specs.declared.builder.ValueParser.TheVariants as parser

-- an option with a long name and a default
abbrev pub option_rule : Text → Text → Rule
option_rule name default =
    record (new_rule name) { long = Some name; defaults = default ∷ [] }

abbrev pub number_rule : Text → ℕ → Text → Rule
number_rule name most default =
    record (option_rule name default) { parser = Some (parser.Unsigned 0 most) }

-- a positional that must be there
abbrev pub place_rule : Text → Rule
place_rule name = record (new_rule name) { required = true }

abbrev pub number_place_rule : Text → ℕ → Rule
number_place_rule name most = record (place_rule name) { parser = Some (parser.Unsigned 0 most) }

abbrev pub every_class : Text
every_class = codes "merge,subquery,distinct,push,trans,prune,magic"

abbrev pub greatest_budget : ℕ
greatest_budget = 10000

abbrev pub greatest_seed : ℕ
greatest_seed = 2147483647

abbrev pub greatest_rows : ℕ
greatest_rows = 100000

-- the options that each command has
abbrev pub with_option_rules : App → App
with_option_rules a = with_rule (with_rule (with_rule (with_rule
    (with_rule a (number_rule (codes "budget") greatest_budget (codes "1000")))
    (option_rule (codes "order") (codes "sequence")))
    (option_rule (codes "walk") (codes "depth")))
    (option_rule (codes "classes") every_class))
    (number_rule (codes "seed") greatest_seed (codes "0"))

-- `run` and `explain`
unfoldable pub table_app : Text → App
table_app name = with_option_rules
    (with_rule (with_rule (with_rule (new_app name) (place_rule (codes "schema")))
    (place_rule (codes "query"))) (place_rule (codes "dir")))

-- `sql`
unfoldable pub sql_app : App
sql_app = with_rule (with_option_rules
    (with_rule (with_rule (new_app (codes "sql")) (place_rule (codes "schema")))
    (place_rule (codes "query")))) (option_rule (codes "dialect") (codes "postgres"))

unfoldable pub gen_app : App
gen_app = with_option_rules
    (with_rule (with_rule (new_app (codes "gen")) (number_place_rule (codes "start") greatest_seed))
    (number_place_rule (codes "rows") greatest_rows))

abbrev pub bare_top : Shape
bare_top = record (new_app (codes "qgm")).top {
  no_binary_name = true;
  disable_help_flag = true;
  disable_help_subcommand = true;
  disable_version_flag = true;
}

-- the command without commands below it
abbrev pub top_app : App
top_app = record { top = bare_top; subs = [] }

-- the whole command
unfoldable pub line_app : App
line_app = with_subcommand (with_subcommand (with_subcommand (with_subcommand
    top_app
    (table_app (codes "run")).top) (table_app (codes "explain")).top) sql_app.top) gen_app.top
