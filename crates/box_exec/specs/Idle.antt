-- Rows that count for nothing in some and every.
use Rattle.std.specs.Prelude.{ℕ, ◌≡◌, ◌&&◌, Bool, true, false, List}
use Rattle.qgm_meaning.specs.Values.{Bag, Environment, compared, truth}
use Rattle.qgm_terms.specs.Terms.{Cond, Sign, anded, ored}
use Rattle.row_bag.specs.Bags.{if_there}
use Rattle.row_bag.specs.Subqueries.{every, presence, some}
use Rattle.row_bag.specs.declared.row.Row.{Row}
use Rattle.sql_value.specs.Truths as t
use Rattle.sql_value.specs.declared.cell.Cell.{Cell}
use Rattle.sql_value.specs.declared.level.Level.{Level}
use Rattle.sql_value.specs.declared.truth.Truth.{Truth}
use Rattle.box_exec.specs.Levels.{is_none, is_yes}
use Rattle.box_exec.specs.Equalities.{are_apart, is_plain}
use Rattle.box_exec.specs.Lookup.{Hashes, Leads, RejectsBy}
use Rattle.box_exec.specs.declared.key.Equality.{Equality}
use Rattle.box_exec.specs.declared.key.Equality.TheVariants.{Numbers, Texts}
use Rattle.box_exec.specs.declared.key.Key.{Key}
use Rattle.box_exec.specs.declared.lookup.Hashed.{Hashed}
use Rattle.row_index.specs.declared.ways.Way.{Way}

-- ---- some and every as one: false is some, and true is every

-- the OR, or the AND
abbrev pub joined : Bool → Truth → Truth → Truth
joined false p q = t.or p q
joined true p q = t.and p q

-- the OR or the AND over rows
abbrev pub quantified : Bool → (List Cell → Truth) → Bag → Truth
quantified false test rows = some test rows
quantified true test rows = every test rows

-- what a row that is there counts in it
abbrev pub counted : Bool → Level → Truth → Truth
counted false level p = t.and (presence level) p
counted true level p = t.or (t.negated (presence level)) p

-- what a row counts
abbrev pub row_truth : Bool → (List Cell → Truth) → Row (List Cell) → Truth
row_truth holds test r = if_there (t.truth_of holds) (λ cells level. counted holds level (test cells)) r.cells r.level

-- the AND, or the OR, of conditions
abbrev pub parted : Bool → Cond → List Cond → Cond
parted false c ps = anded c ps
parted true c ps = ored c ps

-- ---- rows that count for nothing

-- true wholly, or false wholly
abbrev pub is_wholly : Bool → Truth → Bool
is_wholly true p = is_yes p.t && is_none p.f
is_wholly false p = is_none p.t && is_yes p.f

-- a condition is false wholly for some, true wholly for every: the row counts for nothing
abbrev pub is_idle : Bool → (ℕ → Bag) → Cond → Environment → Bool
is_idle holds s c env = is_wholly holds (truth s c env)

-- a row whose own cell is apart from the other one of a key counts for nothing
abbrev pub Idles : Bool → ℕ → Cond → Key → Type 0
Idles holds q c key = (s : ℕ → Bag) → RejectsBy (is_idle holds s c) q key

-- numbers alone, or texts alone
abbrev pub of_type : Bool → Equality
of_type true = Texts
of_type false = Numbers

-- of plain cells that are apart a comparison is true wholly, or false wholly, in either order
abbrev pub Tells : Bool → Sign → Equality → Type 0
Tells holds sign by = (x y : Cell) → is_plain by x ≡ true → is_plain by y ≡ true → are_apart by x y ≡ true → (is_wholly holds (compared sign x y) ≡ true) × (is_wholly holds (compared sign y x) ≡ true)

-- an index of rows by such keys
abbrev pub HashesIdle : Bool → ℕ → Cond → Bag → Hashed → Type 0
HashesIdle holds q c rows h = (s : ℕ → Bag) → Hashes (is_idle holds s c) q rows h

-- a way passes over rows alone that count for nothing
abbrev pub LeadsIdle : Bool → ℕ → Cond → Bag → Environment → Way → Type 0
LeadsIdle holds q c rows env w = (s : ℕ → Bag) → Leads (is_idle holds s c) q rows env w
