-- Steps of the loops over fields and records.
use Rattle.std.proofs.Common.{ℕ, zero, suc, ◌+◌, ◌<◌, ◌≤◌, ◌≡◌, ◌∙◌, List, [], ◌∷◌, ◌++◌, drop, length, Some, None, refl, sym, ap, arith, append_assoc, add-one, Bool, true, false, ◌&&◌, get_or, drop-cons, ◌⊎◌, inl, inr}
use Rattle.std.proofs.Math.Bool.{and-false}
use Rattle.std.specs.Cmp.Lexicographic.{pointwise}
use Rattle.csv.specs.Records.{field_at}
use Rattle.csv_tables.specs.Records.{Fields}
use Rattle.std.proofs.Math.ListN.{drop_of_length-le}
use Rattle.std.proofs.lemmas.List.{append-nil}
use Rattle.sql_catalog.specs.declared.descriptor.ColumnDescriptor.{ColumnDescriptor}
use Rattle.csv_tables.specs.declared.content.Content.{Content}
use Rattle.sql_value.specs.declared.cell.Cell.{Cell}
use Rattle.csv_tables.specs.declared.content.Content.TheVariants.{Holds, BadInteger, TooLong, BadUtf8}
use Rattle.csv_tables.specs.Contents.{content_of}
use Rattle.csv_tables.specs.Tables.{cells_of, contents_of, fits_column}

at-some-suc : (fs : Fields) (i : ℕ) (f : List ℕ) → field_at fs i ≡ Some f → drop i fs ≡ f ∷ drop (suc i) fs
unfolding field_at
at-some-suc [] i f e = cc e
at-some-suc (g ∷ fs) zero f e = ap (λ (x : List ℕ). x ∷ fs) (cc e)
at-some-suc (g ∷ fs) (suc i) f e = at-some-suc fs i f e

pub at-some : (fs : Fields) (i : ℕ) (f : List ℕ) → field_at fs i ≡ Some f → drop i fs ≡ f ∷ drop (i + 1) fs
at-some fs i f e = rw add-one (at-some-suc fs i f e)

pub at-none : (fs : Fields) (i : ℕ) → i < length fs → field_at fs i ≡ None → ⊥
unfolding field_at
at-none [] i p e = omega arith
at-none (g ∷ fs) zero p e = cc e
at-none (g ∷ fs) (suc i) p e = at-none fs i (omega arith) e

pub past-none : (fs : Fields) (i : ℕ) → field_at fs i ≡ None → drop i fs ≡ []
unfolding field_at
past-none [] zero e = refl
past-none [] (suc i) e = refl
past-none (g ∷ fs) zero e = absurd (cc e)
past-none (g ∷ fs) (suc i) e = past-none fs i e

header-length : (cs : List ColumnDescriptor) (fs : Fields) → (length fs ≡ length cs → ⊥) → pointwise fits_column cs fs ≡ false
header-length [] [] h = absurd (h refl)
header-length [] (f ∷ fs) h = refl
header-length (c ∷ cs) [] h = refl
header-length (c ∷ cs) (f ∷ fs) h = rw (header-length cs fs (λ e. h (omega arith))) (and-false (fits_column c f))

-- one more column
pub header-more : (cs : List ColumnDescriptor) (fs : Fields) (i : ℕ) (f : List ℕ) (d : ColumnDescriptor) → i < length cs → field_at fs i ≡ Some f
    → pointwise fits_column (drop i cs) (drop i fs) ≡ (fits_column (get_or cs i d) f && pointwise fits_column (drop (i + 1) cs) (drop (i + 1) fs))
header-more cs fs i f d p at = rw (at-some fs i f at, drop-cons cs i d p, add-one i) refl

pub header-differs : (cs : List ColumnDescriptor) (fs : Fields) (i : ℕ) (f : List ℕ) (d : ColumnDescriptor) (all : Bool) → i < length cs → field_at fs i ≡ Some f → fits_column (get_or cs i d) f ≡ false
    → all ≡ pointwise fits_column (drop i cs) (drop i fs) → false ≡ all
header-differs cs fs i f d all p at other e = sym (rw (header-more cs fs i f d p at, other) at e)

pub header-agrees : (cs : List ColumnDescriptor) (fs : Fields) (i : ℕ) (f : List ℕ) (d : ColumnDescriptor) (all : Bool) → i < length cs → field_at fs i ≡ Some f → fits_column (get_or cs i d) f ≡ true
    → all ≡ pointwise fits_column (drop i cs) (drop i fs) → all ≡ pointwise fits_column (drop (i + 1) cs) (drop (i + 1) fs)
header-agrees cs fs i f d all p at same e = rw (header-more cs fs i f d p at, same) at e

-- one more field
pub contents-more : (cs : List ColumnDescriptor) (fs : Fields) (i : ℕ) (d : ColumnDescriptor) (f : List ℕ) (x : Content) (done all : List Content) → i < length cs → field_at fs i ≡ Some f → x ≡ content_of (get_or cs i d).data_type f
    → all ≡ done ++ contents_of (drop i cs) (drop i fs) → all ≡ (done ++ x ∷ []) ++ contents_of (drop (i + 1) cs) (drop (i + 1) fs)
unfolding contents_of
contents-more cs fs i d f x done all p at made e =
    (rw (drop-cons cs i d p, at-some fs i f at) at e) ∙ rw (made, add-one i) (sym (append_assoc done (content_of (get_or cs i d).data_type f ∷ []) (contents_of (drop (suc i) cs) (drop (suc i) fs))))

contents-none : (cs : List ColumnDescriptor) (done : List Content) → done ++ contents_of cs [] ≡ done
unfolding contents_of
contents-none [] done = append-nil done
contents-none (c ∷ cs) done = append-nil done

-- no field is left
pub contents-short : (cs : List ColumnDescriptor) (fs : Fields) (i : ℕ) (done all : List Content) → field_at fs i ≡ None → all ≡ done ++ contents_of (drop i cs) (drop i fs) → done ≡ all
contents-short cs fs i done all at e = sym ((rw (past-none fs i at) at e) ∙ contents-none (drop i cs) done)

-- no column is left
pub contents-all : (cs : List ColumnDescriptor) (fs : Fields) (i : ℕ) (done all : List Content) → length cs ≤ i → all ≡ done ++ contents_of (drop i cs) (drop i fs) → done ≡ all
unfolding contents_of
contents-all cs fs i done all p e = sym ((rw (drop_of_length-le cs {i = i} p) at e) ∙ append-nil done)

-- one more content
pub cells-append : (xs : List Content) (x : Content) → cells_of (xs ++ x ∷ []) ≡ cells_of xs ++ cells_of (x ∷ [])
cells-append [] x = refl
cells-append (Holds c ∷ xs) x = ap (λ (cs : List Cell). c ∷ cs) (cells-append xs x)
cells-append (BadInteger ∷ xs) x = cells-append xs x
cells-append (TooLong ∷ xs) x = cells-append xs x
cells-append (BadUtf8 ∷ xs) x = cells-append xs x

pub cells-skip : (x : Content) → (x ≡ BadInteger) ⊎ ((x ≡ TooLong) ⊎ (x ≡ BadUtf8)) → cells_of (x ∷ []) ≡ []
cells-skip (Holds c) (inl e) = absurd (cc e)
cells-skip (Holds c) (inr (inl e)) = absurd (cc e)
cells-skip (Holds c) (inr (inr e)) = absurd (cc e)
cells-skip BadInteger e = refl
cells-skip TooLong e = refl
cells-skip BadUtf8 e = refl
