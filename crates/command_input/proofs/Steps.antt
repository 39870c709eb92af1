-- How the stages of reading fit together.
use Rattle.std.proofs.Common.{ℕ, ◌≡◌, List, Option, Some, None, Result, Ok, Err, sym, subst}
use Rattle.csv_tables.specs.Load.{tables_of}
use Rattle.csv_tables.specs.TableFile.{Refusal}
use Rattle.io_edge.specs.Outcome.{Comes, Ended, Outcome, answered, done, ended, faulted, read, starved, ◌>>=◌}
use Rattle.io_edge.specs.Outside.{File, Told}
use Rattle.io_edge.specs.declared.fetch.Interruption.{Interruption}
use Rattle.io_edge.specs.declared.fetch.Interruption.TheVariants.{ReadFault, Memory}
use Rattle.io_edge.proofs.Order.{comes-bind, comes-bind-faulted, comes-bind-starved, comes-done, comes-mapped}
use Rattle.row_bag.specs.declared.tables.Table.{Table}
use Rattle.sql_ast.specs.Syntax as s
use Rattle.sql_ast.specs.Declarations.{Declared}
use Rattle.sql_faults.specs.Views.{view_refusal}
use Rattle.command_input.specs.Questions.{Request}
use Rattle.command_input.specs.Stages.{from_folder, from_tables, request_end, with_catalog, with_query, with_tables, with_views}
use Rattle.command_input.specs.Texts.{catalog_of, valid_query}
use Rattle.command_input.specs.declared.report.Report.TheVariants.{SchemaRefused, ViewRefused, QueryRefused}

-- a call that was interrupted interrupts what follows
pub find-interrupted : {X : Type 0} (t u : Option Told) (o : List File → Outcome X) (f : X → List File → Outcome Request) (e : Interruption)
    → Comes t u o (ended (Err e)) → Comes t u (λ fs. o fs >>= (λ x. f x fs)) (request_end (Err e))
find-interrupted t u o f (ReadFault name) h = comes-bind-faulted t u o f _ h
find-interrupted t u o f Memory h = comes-bind-starved t u o f h

-- the tables were read, or refused
pub tables-read : (t u : Option Told) (dir : List ℕ) (catalog : Declared) (query : s.QueryText) (found : Result (List Table) Refusal)
    → Comes t u (λ fs. tables_of catalog.tables dir fs) (answered found)
    → Comes t u (λ fs. from_tables dir catalog query fs) (answered (with_tables catalog query found))
tables-read t u dir catalog query found h = comes-mapped t u (λ fs. tables_of catalog.tables dir fs) (with_tables catalog query) found h

-- the read of a table failed
pub tables-faulted : (t u : Option Told) (dir : List ℕ) (catalog : Declared) (query : s.QueryText) (name : List ℕ)
    → Comes t u (λ fs. tables_of catalog.tables dir fs) (faulted name) → Comes t u (λ fs. from_tables dir catalog query fs) (faulted name)
tables-faulted t u dir catalog query name h =
    comes-bind-faulted t u (λ fs. tables_of catalog.tables dir fs) (λ found fs. done (with_tables catalog query found)) name h

-- memory ran out while the tables were read
pub tables-starved : (t u : Option Told) (dir : List ℕ) (catalog : Declared) (query : s.QueryText)
    → Comes t u (λ fs. tables_of catalog.tables dir fs) starved → Comes t u (λ fs. from_tables dir catalog query fs) starved
tables-starved t u dir catalog query h = comes-bind-starved t u (λ fs. tables_of catalog.tables dir fs) (λ found fs. done (with_tables catalog query found)) h

-- the query's text was read, and then this was done with it
pub text-of-query : (t u v : Option Told) (name : List ℕ) (dir : Option (List ℕ)) (catalog : Declared) (text : Option (List ℕ)) (end : Ended Request)
    → Comes t u (λ fs. read fs name 65536) (answered text) → Comes u v (λ fs. with_query dir catalog fs (valid_query catalog text)) end
    → Comes t v (λ fs. read fs name 65536 >>= (λ x. with_query dir catalog fs (valid_query catalog x))) end
text-of-query t u v name dir catalog text end h k = comes-bind t u v (λ fs. read fs name 65536) (λ x fs. with_query dir catalog fs (valid_query catalog x)) text end h k

-- the query is refused
pub query-refused : (t : Option Told) (dir : Option (List ℕ)) (catalog : Declared) (text : Option (List ℕ)) (number : ℕ) → valid_query catalog text ≡ Err number
    → Comes t t (λ fs. with_query dir catalog fs (valid_query catalog text)) (answered (Err (QueryRefused number)))
unfolding with_query
query-refused t dir catalog text number is =
    subst (λ (q : Result s.QueryText ℕ). Comes t t (λ fs. with_query dir catalog fs q) (answered (Err (QueryRefused number)))) (sym is) (comes-done t (Err (QueryRefused number)))

-- the query is valid, and the tables are next
pub query-taken : (t u : Option Told) (dir : Option (List ℕ)) (catalog : Declared) (text : Option (List ℕ)) (query : s.QueryText) (end : Ended Request) → valid_query catalog text ≡ Ok query
    → Comes t u (λ fs. from_folder dir catalog query fs) end → Comes t u (λ fs. with_query dir catalog fs (valid_query catalog text)) end
unfolding with_query
query-taken t u dir catalog text query end is h = subst (λ (q : Result s.QueryText ℕ). Comes t u (λ fs. with_query dir catalog fs q) end) (sym is) h

-- the schema's text was read, and then this was done with it
pub text-of-schema : (t u v : Option Told) (name query : List ℕ) (dir : Option (List ℕ)) (text : Option (List ℕ)) (end : Ended Request)
    → Comes t u (λ fs. read fs name 65536) (answered text) → Comes u v (λ fs. with_catalog query dir fs (catalog_of text)) end
    → Comes t v (λ fs. read fs name 65536 >>= (λ x. with_catalog query dir fs (catalog_of x))) end
text-of-schema t u v name query dir text end h k = comes-bind t u v (λ fs. read fs name 65536) (λ x fs. with_catalog query dir fs (catalog_of x)) text end h k

pub schema-refused : (t : Option Told) (query : List ℕ) (dir : Option (List ℕ)) (text : Option (List ℕ)) (number : ℕ) → catalog_of text ≡ Err number
    → Comes t t (λ fs. with_catalog query dir fs (catalog_of text)) (answered (Err (SchemaRefused number)))
unfolding with_catalog
schema-refused t query dir text number is =
    subst (λ (catalog : Result Declared ℕ). Comes t t (λ fs. with_catalog query dir fs catalog) (answered (Err (SchemaRefused number)))) (sym is) (comes-done t (Err (SchemaRefused number)))

pub schema-taken : (t u : Option Told) (query : List ℕ) (dir : Option (List ℕ)) (text : Option (List ℕ)) (catalog : Declared) (end : Ended Request) → catalog_of text ≡ Ok catalog
    → Comes t u (λ fs. with_views query dir catalog fs (view_refusal catalog)) end → Comes t u (λ fs. with_catalog query dir fs (catalog_of text)) end
unfolding with_catalog
schema-taken t u query dir text catalog end is h = subst (λ (c : Result Declared ℕ). Comes t u (λ fs. with_catalog query dir fs c) end) (sym is) h

-- a view is refused
pub view-refused : (t : Option Told) (query : List ℕ) (dir : Option (List ℕ)) (catalog : Declared) (view : List ℕ) (number : ℕ) → view_refusal catalog ≡ Some (view, number)
    → Comes t t (λ fs. with_views query dir catalog fs (view_refusal catalog)) (answered (Err (ViewRefused view number)))
unfolding with_views
view-refused t query dir catalog view number is =
    subst (λ (found : Option (List ℕ × ℕ)). Comes t t (λ fs. with_views query dir catalog fs found) (answered (Err (ViewRefused view number)))) (sym is) (comes-done t (Err (ViewRefused view number)))

-- the views are valid, and the query is next
pub views-taken : (t u : Option Told) (query : List ℕ) (dir : Option (List ℕ)) (catalog : Declared) (end : Ended Request) → view_refusal catalog ≡ None
    → Comes t u (λ fs. read fs query 65536 >>= (λ x. with_query dir catalog fs (valid_query catalog x))) end → Comes t u (λ fs. with_views query dir catalog fs (view_refusal catalog)) end
unfolding with_views
views-taken t u query dir catalog end is h = subst (λ (found : Option (List ℕ × ℕ)). Comes t u (λ fs. with_views query dir catalog fs found) end) (sym is) h
