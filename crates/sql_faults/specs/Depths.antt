-- Views by their nesting depth, as the code finds them: beside each view, whether it nests deeper than some depth.
use Rattle.std.specs.Prelude.{ℕ, Bool, false, not, ◌&&◌, ◌||◌, List, [], ◌∷◌, map, Option, None, option_map, if◌then◌else◌}
use Rattle.sql_ast.specs.Syntax as s
use Rattle.sql_ast.specs.Names.{contains}
use Rattle.sql_catalog.specs.Nesting.{nests_over}
use Rattle.sql_catalog.specs.declared.reader.Reader.{Reader}
use Rattle.sql_meaning.specs.Scopes.{first_of}
use Rattle.sql_faults.specs.Scopes.{Heads}
use Rattle.sql_faults.specs.Views.{refusal_of}
use Rattle.sql_faults.specs.declared.depth.Faulty.{Faulty}

-- one of these views is marked and has one of these names
abbrev pub reads_marked : List (List ℕ) → List Reader → List Bool → Bool
reads_marked reads [] marks = false
reads_marked reads (w ∷ views) [] = false
reads_marked reads (w ∷ views) (b ∷ marks) = (b && contains reads w.name) || reads_marked reads views marks

-- which views nest deeper than this
abbrev pub over : List Reader → ℕ → List Bool
over views depth = map (nests_over views depth) views

-- the refusal of the first view that is marked in the first list alone and isn't valid
abbrev pub refused_marked : Heads → List s.ViewDecl → List Bool → List Bool → Option (List ℕ × ℕ)
refused_marked heads [] marks deeper = None
refused_marked heads (v ∷ views) [] deeper = None
refused_marked heads (v ∷ views) (a ∷ marks) [] = None
refused_marked heads (v ∷ views) (a ∷ marks) (b ∷ deeper) = if a && not b then first_of (refusal_of heads v) (refused_marked heads views marks deeper) else refused_marked heads views marks deeper

-- a view that isn't valid with the number of its fault, as the code has them
abbrev pub refusal : Option Faulty → Option (List ℕ × ℕ)
refusal found = option_map (λ (f : Faulty). (f.view, f.number)) found
