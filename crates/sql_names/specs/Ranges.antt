-- The ranges that the program holds.
use Rattle.std.specs.Prelude.{ℕ, Bool, ◌&&◌, List, Option, map}
use Rattle.std.specs.Cmp.Lexicographic.{pointwise}
use Rattle.std.specs.Option.{option_eq}
use Rattle.sql_ast.specs.Names.{same_name}
use Rattle.sql_meaning.specs.Scopes.{Shape}
use Rattle.sql_names.specs.declared.range.Range.{Range}

abbrev pub shape : List Range → Shape
shape ranges = map (λ range. (range.name, range.columns)) ranges

-- two ranges have the same name and columns
abbrev pub same_range : List ℕ × List (Option (List ℕ)) → List ℕ × List (Option (List ℕ)) → Bool
same_range a b = same_name a.0 b.0 && pointwise (option_eq same_name) a.1 b.1

-- the same of lists of ranges
abbrev pub same_ranges : Shape → Shape → Bool
same_ranges xs ys = pointwise same_range xs ys
