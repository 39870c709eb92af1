-- Rows that differ in each key repeat none.
use Rattle.std.proofs.Common.{◌≡◌, List, [], ◌∷◌, ◌++◌, map, Bool, true, false, ◌&&◌, not, Ok, refl, append_assoc}
use Rattle.std.proofs.lemmas.List.{append-nil}
use Rattle.std.specs.List.{list_all, list_any}
use Rattle.row_bag.specs.declared.row.Row.{Row}
use Rattle.sql_value.specs.declared.cell.Cell.{Cell}
use Rattle.sql_catalog.specs.declared.descriptor.KeyDescriptor.{KeyDescriptor}
use Rattle.csv_tables.specs.Checked.{keys_checked}
use Rattle.csv_tables.specs.Differ.{rows_differ}
use Rattle.csv_tables.specs.KeyCells.{contents_in, repeats}
use Rattle.csv_tables.specs.Seen.{seen_in}

not-true : (a : Bool) → not a ≡ true → a ≡ false
not-true true e = absurd (cc e)
not-true false e = refl

and-true : (a b : Bool) → (a && b) ≡ true → (a ≡ true) × (b ≡ true)
and-true true b e = (refl, e)
and-true false b e = absurd (cc e)

first-differ : (ks : List KeyDescriptor) (test : KeyDescriptor → Bool) (rest : KeyDescriptor → Bool) → list_all (λ k. not (test k) && rest k) ks ≡ true → (list_any test ks ≡ false) × (list_all rest ks ≡ true)
first-differ [] test rest e = (refl, refl)
first-differ (k ∷ ks) test rest e =
    let p = and-true (not (test k) && rest k) (list_all (λ k. not (test k) && rest k) ks) e in
    let q = and-true (not (test k)) (rest k) p.0 in
    let others = first-differ ks test rest p.1 in
    (rw (not-true (test k) q.0) others.0, rw q.1 others.1)

keys-pass : (ks : List KeyDescriptor) (before rows : List (Row (List Cell))) → list_all (λ k. rows_differ k before rows) ks ≡ true → keys_checked ks before rows ≡ Ok (map (seen_in (before ++ rows)) ks)
unfolding keys_checked rows_differ
keys-pass ks before [] e = rw (append-nil before) refl
keys-pass ks before (row ∷ rows) e =
    let p = first-differ ks (repeats before (contents_in row)) (λ k. rows_differ k (before ++ row ∷ []) rows) e in
    rw (p.0, ← append_assoc before (row ∷ []) rows) (keys-pass ks (before ++ row ∷ []) rows p.1)

pub all-differ : (ks : List KeyDescriptor) (rows : List (Row (List Cell))) → list_all (λ k. rows_differ k [] rows) ks ≡ true → keys_checked ks [] rows ≡ Ok (map (seen_in rows) ks)
all-differ ks rows e = keys-pass ks [] rows e
