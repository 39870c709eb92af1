-- What holds of the keys of a table holds of each key once.
use Rattle.std.proofs.Common.{◌≡◌, ◌||◌, ◌++◌, ◌∙◌, ℕ, not, Bool, true, false, if◌then◌else◌, List, [], ◌∷◌, Result, Ok, Err, refl, sym, ap, ap₂, eqb-true, inl, inr}
use Rattle.std.specs.Prelude.{nat_eq}
use Rattle.std.specs.Cmp.Lexicographic.{pointwise}
use Rattle.std.specs.List.{list_any}
use Rattle.std.proofs.lemmas.Bool.{and_parts, cases_Bool}
use Rattle.row_bag.specs.declared.row.Row.{Row}
use Rattle.sql_value.specs.declared.cell.Cell.{Cell}
use Rattle.sql_catalog.specs.declared.descriptor.KeyDescriptor.{KeyDescriptor}
use Rattle.sql_catalog.specs.declared.descriptor.TableDescriptor.{TableDescriptor}
use Rattle.csv_tables.specs.declared.content.Content.{Content}
use Rattle.csv_tables.specs.KeyCells.{repeats}
use Rattle.csv_tables.specs.KeysOnce.{add_keys, keyed_once, same_key}
use Rattle.csv_tables.specs.Records.{Fields}
use Rattle.csv_tables.specs.Rules.{Fault}
use Rattle.csv_tables.specs.Tables.{◌>>=◌, broken_by, contents_of, row_after, rows_after}

same-places : (xs ys : List ℕ) → pointwise nat_eq xs ys ≡ true → xs ≡ ys
same-places [] [] e = refl
same-places [] (y ∷ ys) e = absurd (cc e)
same-places (x ∷ xs) [] e = absurd (cc e)
same-places (x ∷ xs) (y ∷ ys) e = let p = and_parts (nat_eq x y) (pointwise nat_eq xs ys) e in ap₂ (λ u v. u ∷ v) (eqb-true x y p.0) (same-places xs ys p.1)

same-flag : (a b : Bool) → (if a then b else not b) ≡ true → a ≡ b
same-flag true true e = refl
same-flag true false e = absurd (cc e)
same-flag false true e = absurd (cc e)
same-flag false false e = refl

same-is : (a b : KeyDescriptor) → same_key a b ≡ true → a ≡ b
same-is a b e =
    let p = and_parts (if a.primary then b.primary else not b.primary) (pointwise nat_eq a.places b.places) e in
    ap₂ (λ (u : Bool) (v : List ℕ). record { primary = u; places = v }) (same-flag a.primary b.primary p.0) (same-places a.places b.places p.1)

module _ (p : KeyDescriptor → Bool) where
  -- one that is among others adds nothing
  among : (k : KeyDescriptor) (out : List KeyDescriptor) → list_any (same_key k) out ≡ true → list_any p out ≡ (list_any p out || p k)
  among k [] e = absurd (cc e)
  among k (j ∷ out) e = elim (cases_Bool (same_key k j)) [
    | inl t ↦ twice (p j) (list_any p out) (p k) (ap p (same-is k j t))
    | inr f ↦ once (p j) (list_any p out) (p k) (among k out (sym (ap (λ z. z || list_any (same_key k) out) f) ∙ e))
  ]
    where
      twice : (a b c : Bool) → c ≡ a → (a || b) ≡ ((a || b) || c)
      twice true b c h = refl
      twice false true c h = refl
      twice false false c h = sym h

      once : (a b c : Bool) → b ≡ (b || c) → (a || b) ≡ ((a || b) || c)
      once true b c h = refl
      once false b c h = h

  last : (out : List KeyDescriptor) (k : KeyDescriptor) → list_any p (out ++ k ∷ []) ≡ (list_any p out || p k)
  last [] k = alone (p k)
    where
      alone : (a : Bool) → (a || false) ≡ a
      alone true = refl
      alone false = refl
  last (j ∷ out) k = ap (λ z. p j || z) (last out k) ∙ turn (p j) (list_any p out) (p k)
    where
      turn : (a b c : Bool) → (a || (b || c)) ≡ ((a || b) || c)
      turn true b c = refl
      turn false b c = refl

  added : (k : KeyDescriptor) (out : List KeyDescriptor) → list_any p (if list_any (same_key k) out then out else out ++ k ∷ []) ≡ (list_any p out || p k)
  added k out = elim (cases_Bool (list_any (same_key k) out)) [
    | inl t ↦ ap (λ z. list_any p (if z then out else out ++ k ∷ [])) t ∙ among k out t
    | inr f ↦ ap (λ z. list_any p (if z then out else out ++ k ∷ [])) f ∙ last out k
  ]

  any-added : (ks out : List KeyDescriptor) → list_any p (add_keys out ks) ≡ (list_any p out || list_any p ks)
  any-added [] out = alone (list_any p out)
    where
      alone : (a : Bool) → a ≡ (a || false)
      alone true = refl
      alone false = refl
  any-added (k ∷ ks) out =
      any-added ks (if list_any (same_key k) out then out else out ++ k ∷ [])
      ∙ ap (λ z. z || list_any p ks) (added k out) ∙ turn (list_any p out) (p k) (list_any p ks)
    where
      turn : (a b c : Bool) → ((a || b) || c) ≡ (a || (b || c))
      turn true b c = refl
      turn false b c = refl

broken-once : (t : TableDescriptor) (before : List (Row (List Cell))) (xs : List Content) → broken_by (keyed_once t) before xs ≡ broken_by t before xs
unfolding broken_by
broken-once t before xs = rw (any-added (repeats before xs) t.keys []) refl

row-once : (t : TableDescriptor) (before : List (Row (List Cell))) (fs : Fields) → row_after (keyed_once t) before fs ≡ row_after t before fs
unfolding row_after
row-once t before fs = rw (broken-once t before (contents_of t.columns fs)) refl

-- a row, and then the rest with it
then-once : (row : Result (Row (List Cell)) Fault) (f g : Row (List Cell) → Result (List (Row (List Cell))) Fault) → ((x : Row (List Cell)) → f x ≡ g x) → (row >>= f) ≡ (row >>= g)
then-once (Ok x) f g h = h x
then-once (Err e) f g h = refl

pub rows-once : (t : TableDescriptor) (before : List (Row (List Cell))) (rs : List Fields) → rows_after (keyed_once t) before rs ≡ rows_after t before rs
unfolding rows_after
rows-once t before [] = refl
rows-once t before (r ∷ rs) =
    rw (row-once t before r)
    (then-once (row_after t before r) (λ x. rows_after (keyed_once t) (before ++ x ∷ []) rs) (λ x. rows_after t (before ++ x ∷ []) rs) (λ x. rows-once t (before ++ x ∷ []) rs))
