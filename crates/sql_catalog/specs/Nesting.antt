-- How views read one another, by their names.
use Rattle.std.specs.Prelude.{ℕ, ◌||◌, ◌&&◌, not, Bool, true, false, List, length, map, filter, zero, suc}
use Rattle.std.specs.List.{list_any}
use Rattle.sql_ast.specs.Syntax as s
use Rattle.sql_catalog.specs.declared.reader.Reader.{Reader}
use Rattle.sql_ast.specs.Names.{contains}
use Rattle.sql_catalog.specs.TableNames.{in_query}

-- a view's name, and the names that stand in its body
abbrev pub reader_of : s.ViewDecl → Reader
reader_of v = record { name = v.name; reads = in_query v.query }

abbrev pub readers_of : List s.ViewDecl → List Reader
readers_of views = map reader_of views

-- the views' names
abbrev pub reader_names : List Reader → List (List ℕ)
reader_names views = map (λ (v : Reader). v.name) views

-- the views whose names stand in a view's body
abbrev pub read_by : List Reader → Reader → List Reader
read_by views v = filter (λ (w : Reader). contains v.reads w.name) views

-- a chain of views leads from a view to this name: the name stands in its body, or a view that it reads leads there, in at most this many more steps
abbrev pub leads : List Reader → ℕ → Reader → List ℕ → Bool
leads views zero v name = contains v.reads name
leads views (suc n) v name = contains v.reads name || list_any (λ w. leads views n w name) (read_by views v)

-- a chain of views leads from a view to itself; a shortest one passes each view at most once
abbrev pub is_recursive : List Reader → Bool
is_recursive views = list_any (λ (v : Reader). leads views (length views) v v.name) views

-- a view nests deeper than this: a chain of more views than this begins with it, where each reads the next. A view that reads tables alone nests 1 deep.
abbrev pub nests_over : List Reader → ℕ → Reader → Bool
nests_over views zero v = true
nests_over views (suc n) v = list_any (nests_over views n) (read_by views v)

-- a view nests exactly this deep
abbrev pub nests_at : List Reader → ℕ → Reader → Bool
nests_at views zero v = false
nests_at views (suc n) v = nests_over views n v && not (nests_over views (suc n) v)
