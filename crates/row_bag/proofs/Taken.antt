-- The first table of a name, at its place.
use Rattle.std.proofs.Common.{ℕ, zero, suc, ◌<◌, ◌≡◌, true, false, List, [], ◌∷◌, Some, None, length, get_or, set, position, refl, ap, arith, inl, inr, cond}
use Rattle.std.proofs.lemmas.Bool.{cases_lt, lt-ltb}
use Rattle.std.proofs.lemmas.List.Quantifiers.{position-Some}
use Rattle.std.proofs.lemmas.List.Sums.{fails_before_first}
use Rattle.std.specs.List.{position_or_len}
use Rattle.row_bag.specs.Tables.{bag_named, has_name, without_rows}
use Rattle.row_bag.specs.declared.tables.Table.{Table}

-- the table without its rows
abbrev pub without_its_rows : Table → Table
without_its_rows table = record table { bag = [] }

first-named : (name : List ℕ) (tables : List Table) (i : ℕ) (d : Table) → i < length tables → has_name name (get_or tables i d) ≡ true
    → ((k : ℕ) → k < i → has_name name (get_or tables k d) ≡ false)
    → (bag_named tables name ≡ Some (get_or tables i d).bag) × (set tables i (without_its_rows (get_or tables i d)) ≡ without_rows tables name)
first-named name [] i d low is none = absurd (omega arith)
first-named name (t ∷ tables) zero d low is none = rw is (refl, refl)
first-named name (t ∷ tables) (suc i) d low is none =
    let rest = first-named name tables i d (omega arith) is (λ k p. none (suc k) (omega arith)) in
    rw (none zero (omega arith)) (rest.0, ap (λ (ts : List Table). t ∷ ts) rest.1)

pub at-place : (name : List ℕ) (tables : List Table) (i : ℕ) (d : Table) → position (has_name name) tables ≡ Some i
    → (bag_named tables name ≡ Some (get_or tables i d).bag) × (set tables i (without_its_rows (get_or tables i d)) ≡ without_rows tables name)
at-place name tables i d is =
    let (low, named, none) = position-Some (has_name name) tables i d is in
    first-named name tables i d low named none

none-named : (name : List ℕ) (tables : List Table) → ((k : ℕ) (d : Table) → k < length tables → has_name name (get_or tables k d) ≡ false)
    → (bag_named tables name ≡ None) × (without_rows tables name ≡ tables)
none-named name [] none = (refl, refl)
none-named name (t ∷ tables) none =
    let rest = none-named name tables (λ k d p. none (suc k) d (omega arith)) in
    rw (none zero t (omega arith)) (rest.0, ap (λ (ts : List Table). t ∷ ts) rest.1)

pub no-place : (name : List ℕ) (tables : List Table) → position (has_name name) tables ≡ None → (bag_named tables name ≡ None) × (without_rows tables name ≡ tables)
no-place name tables is =
    none-named name tables (λ k d low. elim (cases_lt (position_or_len (has_name name) tables) (length tables)) [
      | inl found ↦
          let e : position (has_name name) tables ≡ Some (position_or_len (has_name name) tables) =
          ap (λ b. cond b (Some (position_or_len (has_name name) tables)) None) (lt-ltb (position_or_len (has_name name) tables) (length tables) found) in
          cc
      | inr past ↦ fails_before_first (has_name name) tables k d (omega arith)
    ])
