-- How the reads of the tables fit together.
use Rattle.std.proofs.Common.{ℕ, ◌+◌, ◌<◌, ◌≤◌, ◌≡◌, ◌∙◌, List, [], ◌∷◌, ◌++◌, Option, Result, Ok, Err, drop, drop-cons, get_or, length, refl, sym, ap, subst, append_assoc, add-one}
use Rattle.std.proofs.Math.ListN.{drop_of_length-le}
use Rattle.std.proofs.lemmas.List.{append-nil}
use Rattle.io_edge.specs.Outcome.{Comes, Ended, Outcome, answered, done, faulted, read, starved}
use Rattle.io_edge.specs.Outside.{File, Told}
use Rattle.io_edge.proofs.Order.{comes-bind, comes-bind-faulted, comes-bind-starved, comes-done, comes-starved}
use Rattle.row_bag.specs.declared.tables.Table.{Table}
use Rattle.sql_ast.specs.declared.schema.TableDecl.{TableDecl}
use Rattle.std.specs.Prelude.{encode_utf8_all}
use Rattle.csv_tables.specs.declared.refusal.DataRefusal.{DataRefusal}
use Rattle.csv_tables.specs.declared.refusal.DataRefusal.TheVariants.{Refused, ReadFault, Memory}
use Rattle.csv_tables.specs.Load.{tables_of}
use Rattle.csv_tables.specs.Loaded.{Answers, loaded}
use Rattle.csv_tables.specs.TableFile.{Refusal, or_refused, path_of, table_of, table_read, unless_refused}

-- an answer with no read, or want of memory
pub comes-answers : {X : Type 0} (t : Option Told) (x : X) (end : Ended X) → Answers x end → Comes t t (λ fs. done x) end
comes-answers t x (answered y) h = subst (λ z. Comes t t (λ fs. done z) (answered y)) h (comes-done t y)
comes-answers t x (faulted name) h = absurd h
comes-answers t x starved h = comes-starved t (λ fs. done x)

-- a table's file that was read, or is too large
pub comes-table : (t u : Option Told) (d : TableDecl) (dir path : List ℕ) (bytes : Option (List ℕ)) (end : Ended (Result Table Refusal)) → path ≡ path_of dir d.name
    → Comes t u (λ fs. read fs path 67108864) (answered bytes) → Answers (table_of d bytes) end → Comes t u (λ fs. table_read d dir fs) end
comes-table t u d dir path bytes end is h k =
    comes-bind t u u (λ fs. read fs (path_of dir d.name) 67108864) (λ b fs. done (table_of d b)) bytes end (rw is at h) (comes-answers u (table_of d bytes) end k)

-- its read failed
pub comes-table-faulted : (t u : Option Told) (d : TableDecl) (dir path name : List ℕ) → path ≡ path_of dir d.name
    → Comes t u (λ fs. read fs path 67108864) (faulted name) → Comes t u (λ fs. table_read d dir fs) (faulted name)
comes-table-faulted t u d dir path name is h = comes-bind-faulted t u (λ fs. read fs (path_of dir d.name) 67108864) (λ b fs. done (table_of d b)) name (rw is at h)

-- its read found no memory
pub comes-table-starved : (t u : Option Told) (d : TableDecl) (dir path : List ℕ) → path ≡ path_of dir d.name
    → Comes t u (λ fs. read fs path 67108864) starved → Comes t u (λ fs. table_read d dir fs) starved
comes-table-starved t u d dir path is h = comes-bind-starved t u (λ fs. read fs (path_of dir d.name) 67108864) (λ b fs. done (table_of d b)) (rw is at h)

-- the end of the whole where these tables stand already
abbrev pub ended_after : List Table → Ended (Result (List Table) Refusal) → Ended (Result (List Table) Refusal)
ended_after done (answered (Ok ts)) = answered (Ok (done ++ ts))
ended_after done (answered (Err why)) = answered (Err why)
ended_after done (faulted name) = faulted name
ended_after done starved = starved

pub after-one : (stand : List Table) (t : Table) (end : Ended (Result (List Table) Refusal)) → ended_after stand (ended_after (t ∷ []) end) ≡ ended_after (stand ++ t ∷ []) end
after-one stand t (answered (Ok ts)) = ap (λ (x : List Table). answered (Ok x)) (sym (append_assoc stand (t ∷ []) ts))
after-one stand t (answered (Err why)) = refl
after-one stand t (faulted name) = refl
after-one stand t starved = refl

-- the table before the rest
with-first : (t u : Option Told) (o : List File → Outcome (Result (List Table) Refusal)) (x : Table) (end : Ended (Result (List Table) Refusal))
    → Comes t u o end → Comes t u (λ fs. unless_refused (o fs) (λ ts. done (Ok (x ∷ ts)))) (ended_after (x ∷ []) end)
with-first t u o x (answered (Ok ts)) h =
    comes-bind t u u o (λ r fs. or_refused (λ ts. done (Ok (x ∷ ts))) r) (Ok ts) (answered (Ok (x ∷ ts))) h (comes-done u (Ok (x ∷ ts)))
with-first t u o x (answered (Err why)) h = comes-bind t u u o (λ r fs. or_refused (λ ts. done (Ok (x ∷ ts))) r) (Err why) (answered (Err why)) h (comes-done u (Err why))
with-first t u o x (faulted name) h = comes-bind-faulted t u o (λ r fs. or_refused (λ ts. done (Ok (x ∷ ts))) r) name h
with-first t u o x starved h = comes-bind-starved t u o (λ r fs. or_refused (λ ts. done (Ok (x ∷ ts))) r) h

abbrev rest_of : List TableDecl → List ℕ → List File → Table → Outcome (Result (List Table) Refusal)
rest_of ds dir fs table = unless_refused (tables_of ds dir fs) (λ tables. done (Ok (table ∷ tables)))

-- a table came, and then the rest
comes-first : (t u v : Option Told) (d : TableDecl) (ds : List TableDecl) (dir : List ℕ) (x : Table) (end : Ended (Result (List Table) Refusal))
    → Comes t u (λ fs. table_read d dir fs) (answered (Ok x)) → Comes u v (λ fs. tables_of ds dir fs) end → Comes t v (λ fs. tables_of (d ∷ ds) dir fs) (ended_after (x ∷ []) end)
unfolding tables_of
comes-first t u v d ds dir x end h k =
    comes-bind t u v (λ fs. table_read d dir fs) (λ r fs. or_refused (rest_of ds dir fs) r) (Ok x) (ended_after (x ∷ []) end) h (with-first u v (λ fs. tables_of ds dir fs) x end k)

-- what a refusal ends in is the same, whatever stands already
after-refused : (stand : List Table) (e : DataRefusal) → ended_after stand (loaded {X = List Table} (Err e)) ≡ loaded {X = List Table} (Err e)
after-refused stand (Refused number table row) = refl
after-refused stand (ReadFault name) = refl
after-refused stand Memory = refl

-- no table came, which ends the whole
stops : (t u : Option Told) (d : TableDecl) (ds : List TableDecl) (dir : List ℕ) (e : DataRefusal)
    → Comes t u (λ fs. table_read d dir fs) (loaded {X = Table} (Err e)) → Comes t u (λ fs. tables_of (d ∷ ds) dir fs) (loaded {X = List Table} (Err e))
unfolding tables_of
stops t u d ds dir (Refused number table row) h =
    let why : Refusal = record { number = number; table = table; row = row } in
    comes-bind t u u (λ fs. table_read d dir fs) (λ r fs. or_refused (rest_of ds dir fs) r) (Err why) (answered (Err why)) h (comes-done u (Err why))
stops t u d ds dir (ReadFault name) h = comes-bind-faulted t u (λ fs. table_read d dir fs) (λ r fs. or_refused (rest_of ds dir fs) r) (encode_utf8_all name) h
stops t u d ds dir Memory h = comes-bind-starved t u (λ fs. table_read d dir fs) (λ r fs. or_refused (rest_of ds dir fs) r) h

-- what comes of the rest comes of the whole, once these tables stand
abbrev pub Carries : Option Told → Option Told → List TableDecl → List TableDecl → List ℕ → List Table → Type 0
Carries start now whole left dir stand =
    (u : Option Told) (end : Ended (Result (List Table) Refusal)) → Comes now u (λ fs. tables_of left dir fs) end → Comes start u (λ fs. tables_of whole dir fs) (ended_after stand end)

next-of : (ds : List TableDecl) (i : ℕ) (d : TableDecl) → i < length ds → d ≡ get_or ds i d → drop i ds ≡ d ∷ drop (i + 1) ds
next-of ds i d p is = drop-cons ds i d p ∙ rw (← is, add-one i) refl

pub carries-more : (start now then : Option Told) (whole : List TableDecl) (i : ℕ) (dir : List ℕ) (stand : List Table) (d : TableDecl) (x : Table) → i < length whole → d ≡ get_or whole i d
    → Comes now then (λ fs. table_read d dir fs) (answered (Ok x)) → Carries start now whole (drop i whole) dir stand → Carries start then whole (drop (i + 1) whole) dir (stand ++ x ∷ [])
carries-more start now then whole i dir stand d x p is h carries = λ u end k.
    let rest : Comes now u (λ fs. tables_of (drop i whole) dir fs) (ended_after (x ∷ []) end) = rw (next-of whole i d p is) (comes-first now then u d (drop (i + 1) whole) dir x end h k) in
    rw after-one at (carries u (ended_after (x ∷ []) end) rest)

pub carries-stops : (start now then : Option Told) (whole : List TableDecl) (i : ℕ) (dir : List ℕ) (stand : List Table) (d : TableDecl) (e : DataRefusal) → i < length whole → d ≡ get_or whole i d
    → Comes now then (λ fs. table_read d dir fs) (loaded {X = Table} (Err e)) → Carries start now whole (drop i whole) dir stand
    → Comes start then (λ fs. tables_of whole dir fs) (loaded {X = List Table} (Err e))
carries-stops start now then whole i dir stand d e p is h carries =
    let rest : Comes now then (λ fs. tables_of (drop i whole) dir fs) (loaded {X = List Table} (Err e)) = rw (next-of whole i d p is) (stops now then d (drop (i + 1) whole) dir e h) in
    rw (after-refused stand e) at (carries then (loaded {X = List Table} (Err e)) rest)

-- memory ran out once the table came
pub carries-starves : (start now then : Option Told) (whole : List TableDecl) (i : ℕ) (dir : List ℕ) (stand : List Table) (d : TableDecl) (x : Table) → i < length whole → d ≡ get_or whole i d
    → Comes now then (λ fs. table_read d dir fs) (answered (Ok x)) → Carries start now whole (drop i whole) dir stand → Comes start then (λ fs. tables_of whole dir fs) starved
carries-starves start now then whole i dir stand d x p is h carries =
    carries-more start now then whole i dir stand d x p is h carries then starved (comes-starved then (λ fs. tables_of (drop (i + 1) whole) dir fs))

pub carries-all : (start now : Option Told) (whole : List TableDecl) (i : ℕ) (dir : List ℕ) (stand : List Table) → length whole ≤ i → Carries start now whole (drop i whole) dir stand
    → Comes start now (λ fs. tables_of whole dir fs) (answered (Ok stand))
unfolding tables_of
carries-all start now whole i dir stand p carries =
    let rest : Comes now now (λ fs. tables_of (drop i whole) dir fs) (answered (Ok [])) = rw (drop_of_length-le whole {i = i} p) (comes-done now (Ok [])) in
    rw (append-nil stand) at (carries now (answered (Ok [])) rest)
