-- Rows of a quantifier, found by the hashes of the cells that equalities ask for.
use Rattle.std.specs.Prelude.{ℕ, ◌≡◌, ◌<◌, Bool, true, false, All, IfSome, List, get_or, if◌then◌else◌, length, map, Option, Some, None, ⊤}
use Rattle.std.specs.List.{list_all}
use Rattle.list_laws.specs.Lists.{In}
use Rattle.qgm_meaning.specs.Values.{Environment, bound}
use Rattle.qgm_terms.specs.Shown.{term}
use Rattle.row_bag.specs.Hashes.{hash_of}
use Rattle.row_bag.specs.declared.row.Row.{Row}
use Rattle.row_index.specs.Ways.{Indexes, Spans, sees}
use Rattle.row_index.specs.declared.ways.Way.{Way}
use Rattle.sql_value.specs.declared.cell.Cell.{Cell}
use Rattle.box_exec.specs.Equalities.{are_apart, is_nowhere, is_plain, other_of, others, own_of, owns}
use Rattle.box_exec.specs.declared.key.Key.{Key}
use Rattle.box_exec.specs.declared.lookup.Aim.{Aim}
use Rattle.box_exec.specs.declared.lookup.Aim.TheVariants.{Hash, Anywhere, Nowhere}
use Rattle.box_exec.specs.declared.lookup.Hashed.{Hashed}
use Rattle.box_exec.specs.declared.lookup.Keyed.{Keyed}

-- where q is bound to a row whose own cell is apart from the other one, a test rejects
abbrev pub RejectsBy : (Environment → Bool) → ℕ → Key → Type 0
RejectsBy test q key =
    (cells : List Cell) (env : Environment)
    → is_plain key.by (own_of q (term key.own.now) cells) ≡ true
    → is_plain key.by (other_of (term key.other.now) env) ≡ true
    → are_apart key.by (own_of q (term key.own.now) cells) (other_of (term key.other.now) env) ≡ true
    → test (bound q cells env) ≡ true

-- ---- hashes of rows

abbrev pub all_plain : ℕ → List Key → List Cell → Bool
all_plain q keys cells = list_all (λ k. is_plain k.by (own_of q (term k.own.now) cells)) keys

-- the hash of the own cells of a row, if all are plain
abbrev pub row_hash : ℕ → List Key → List Cell → Option ℕ
row_hash q keys cells = if all_plain q keys cells then Some (hash_of (owns q keys cells)) else None

abbrev pub row_hashes : ℕ → List Key → List (Row (List Cell)) → List (Option ℕ)
row_hashes q keys rows = map (λ r. row_hash q keys r.cells) rows

-- keys by which a test rejects, and an index of rows by them
abbrev pub Hashes : (Environment → Bool) → ℕ → List (Row (List Cell)) → Hashed → Type 0
Hashes test q rows h = All (λ k. RejectsBy test q k) h.keys.items × Indexes (row_hashes q h.keys.items rows) h.index

-- keys by which a test rejects, and an index of rows by them, if it is made
abbrev pub FitsKeys : (Environment → Bool) → ℕ → List (Row (List Cell)) → Keyed → Type 0
FitsKeys test q rows k = All (λ key. RejectsBy test q key) k.keys.items × IfSome k.index (λ ix. Indexes (row_hashes q k.keys.items rows) ix)

-- ---- ways through rows

abbrev pub others_plain : List Key → Environment → Bool
others_plain keys env = list_all (λ k. is_plain k.by (other_of (term k.other.now) env)) keys

-- what the other sides of keys come to: a hash where all are plain, anything, or one of which an equality is nowhere true
abbrev pub Aims : List Key → Environment → Aim → Type 0
Aims keys env (Hash h) = (others_plain keys env ≡ true) × (h ≡ hash_of (others keys env))
Aims keys env Anywhere = ⊤
Aims keys env Nowhere = (key : Key) × (In key keys × (is_nowhere key.by (other_of (term key.other.now) env) ≡ true))

-- a row at this place is rejected
abbrev pub Skipped : (Environment → Bool) → ℕ → List (Row (List Cell)) → Environment → ℕ → Type 0
Skipped test q rows env k = (r : Row (List Cell)) → k < length rows → r ≡ get_or rows k r → test (bound q r.cells env) ≡ true

-- a way passes over rejected rows alone
pub record Leads (test : Environment → Bool) (q : ℕ) (rows : List (Row (List Cell))) (env : Environment) (w : Way) : Type 0 where
  pub end : w.end ≡ length rows
  pub spans : Spans w.index w.end
  pub passed : (k : ℕ) → sees w k ≡ false → Skipped test q rows env k
