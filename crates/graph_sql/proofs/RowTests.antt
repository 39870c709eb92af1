-- Conditions of some row and of every row, by tests of the rows that are there.
use Rattle.std.proofs.Common.{◌≡◌, ◌&&◌, ◌||◌, not, Bool, true, false, List, [], ◌∷◌, map, Option, Some, None, refl, ap, ap₂, sym, ◌∙◌, inl, inr}
use Rattle.std.proofs.lemmas.Bool.{and_parts}
use Rattle.std.specs.List.{list_any}
use Rattle.list_laws.specs.Lists.{In}
use Rattle.row_bag.specs.AsSets.{is_clean, is_decided}
use Rattle.row_bag.specs.Bags.{row}
use Rattle.row_bag.specs.Errors.{error_at}
use Rattle.row_bag.specs.Verdict.{those_there}
use Rattle.row_bag.specs.Subqueries as subquery
use Rattle.row_bag.specs.Subqueries.{every, only_cell, some}
use Rattle.qgm_meaning.specs.Satisfies.{is_yes}
use Rattle.qgm_meaning.specs.Values.{Bag}
use Rattle.sql_value.specs.Level.{greatest, least}
use Rattle.sql_value.specs.Arithmetic.{error_or}
use Rattle.sql_value.specs.Cells.{worst_of}
use Rattle.sql_value.specs.declared.cell.Cell.{Cell}
use Rattle.sql_value.specs.declared.cell.Cell.TheVariants.{Null}
use Rattle.sql_value.specs.declared.cell.Kind.{Kind}
use Rattle.sql_value.specs.declared.cell.Kind.TheVariants as Kinds
use Rattle.sql_value.specs.declared.level.Level.{Level}
use Rattle.sql_value.specs.declared.level.Level.TheVariants.{No, Cardinality, Division, Overflow, Yes}
use Rattle.sql_value.specs.declared.truth.Truth.{Truth}
use Rattle.graph_sql.specs.Logic.{cell_of_rows}
use Rattle.graph_sql.specs.ReadingLaw.{rows_there}
use Rattle.graph_sql.proofs.Levels.{decided-greatest, decided-least, yes-greatest, yes-least}

pub not-and : (a b : Bool) → not (a && b) ≡ (not a || not b)
not-and true b = refl
not-and false b = refl

pub not-or : (a b : Bool) → not (a || b) ≡ (not a && not b)
not-or true b = refl
not-or false b = refl

pub not-not : (a : Bool) → not (not a) ≡ a
not-not true = refl
not-not false = refl

-- what holds of rows holds of those behind the first
behind : {P : List Cell → Type 0} (c : List Cell) (l : Level) (rs : Bag) → ((d : List Cell) → In d (rows_there (row c l ∷ rs)) → P d) → (d : List Cell) → In d (rows_there rs) → P d
behind c No rs p d i = p d i
behind c Cardinality rs p d i = p d (inr i)
behind c Division rs p d i = p d (inr i)
behind c Overflow rs p d i = p d (inr i)
behind c Yes rs p d i = p d (inr i)

module _ (test : List Cell → Truth) (probe : List Cell → Bool) where
  -- one more row
  some-true-by : (c : List Cell) (l : Level) (rs : Bag) → is_decided l ≡ true → ((d : List Cell) → In d (rows_there (row c l ∷ rs)) → probe d ≡ is_yes (test d).t)
      → list_any probe (rows_there rs) ≡ is_yes (some test rs).t → list_any probe (rows_there (row c l ∷ rs)) ≡ is_yes (some test (row c l ∷ rs)).t
  some-true-by c No rs h p e = e ∙ sym (yes-greatest No (some test rs).t)
  some-true-by c Cardinality rs h p e = absurd (let z : ⊥ = cc in z)
  some-true-by c Division rs h p e = absurd (let z : ⊥ = cc in z)
  some-true-by c Overflow rs h p e = absurd (let z : ⊥ = cc in z)
  some-true-by c Yes rs h p e =
      ap₂ (λ (a b : Bool). a || b) (p c (inl refl) ∙ sym (yes-least Yes (test c).t)) e ∙ sym (yes-greatest (least Yes (test c).t) (some test rs).t)

  pub some-true : (rows : Bag) → is_clean rows ≡ true → ((d : List Cell) → In d (rows_there rows) → probe d ≡ is_yes (test d).t) → list_any probe (rows_there rows) ≡ is_yes (some test rows).t
  some-true [] h p = refl
  some-true (r ∷ rs) h p =
      let k = and_parts (is_decided r.level) (is_clean rs) h in
      some-true-by r.cells r.level rs k.0 p (some-true rs k.1 (behind r.cells r.level rs p))

  some-false-by : (c : List Cell) (l : Level) (rs : Bag) → is_decided l ≡ true → ((d : List Cell) → In d (rows_there (row c l ∷ rs)) → probe d ≡ not (is_yes (test d).f))
      → list_any probe (rows_there rs) ≡ not (is_yes (some test rs).f) → list_any probe (rows_there (row c l ∷ rs)) ≡ not (is_yes (some test (row c l ∷ rs)).f)
  some-false-by c No rs h p e = e ∙ sym (ap not (yes-least Yes (some test rs).f))
  some-false-by c Cardinality rs h p e = absurd (let z : ⊥ = cc in z)
  some-false-by c Division rs h p e = absurd (let z : ⊥ = cc in z)
  some-false-by c Overflow rs h p e = absurd (let z : ⊥ = cc in z)
  some-false-by c Yes rs h p e =
      ap₂ (λ (a b : Bool). a || b) (p c (inl refl) ∙ sym (ap not (yes-greatest No (test c).f))) e
      ∙ sym (not-and (is_yes (greatest No (test c).f)) (is_yes (some test rs).f))
      ∙ sym (ap not (yes-least (greatest No (test c).f) (some test rs).f))

  pub some-false : (rows : Bag) → is_clean rows ≡ true → ((d : List Cell) → In d (rows_there rows) → probe d ≡ not (is_yes (test d).f)) → list_any probe (rows_there rows) ≡ not (is_yes (some test rows).f)
  some-false [] h p = refl
  some-false (r ∷ rs) h p =
      let k = and_parts (is_decided r.level) (is_clean rs) h in
      some-false-by r.cells r.level rs k.0 p (some-false rs k.1 (behind r.cells r.level rs p))

  every-true-by : (c : List Cell) (l : Level) (rs : Bag) → is_decided l ≡ true → ((d : List Cell) → In d (rows_there (row c l ∷ rs)) → probe d ≡ not (is_yes (test d).t))
      → list_any probe (rows_there rs) ≡ not (is_yes (every test rs).t) → list_any probe (rows_there (row c l ∷ rs)) ≡ not (is_yes (every test (row c l ∷ rs)).t)
  every-true-by c No rs h p e = e ∙ sym (ap not (yes-least Yes (every test rs).t))
  every-true-by c Cardinality rs h p e = absurd (let z : ⊥ = cc in z)
  every-true-by c Division rs h p e = absurd (let z : ⊥ = cc in z)
  every-true-by c Overflow rs h p e = absurd (let z : ⊥ = cc in z)
  every-true-by c Yes rs h p e =
      ap₂ (λ (a b : Bool). a || b) (p c (inl refl) ∙ sym (ap not (yes-greatest No (test c).t))) e
      ∙ sym (not-and (is_yes (greatest No (test c).t)) (is_yes (every test rs).t))
      ∙ sym (ap not (yes-least (greatest No (test c).t) (every test rs).t))

  pub every-true : (rows : Bag) → is_clean rows ≡ true → ((d : List Cell) → In d (rows_there rows) → probe d ≡ not (is_yes (test d).t)) → list_any probe (rows_there rows) ≡ not (is_yes (every test rows).t)
  every-true [] h p = refl
  every-true (r ∷ rs) h p =
      let k = and_parts (is_decided r.level) (is_clean rs) h in
      every-true-by r.cells r.level rs k.0 p (every-true rs k.1 (behind r.cells r.level rs p))

  every-false-by : (c : List Cell) (l : Level) (rs : Bag) → is_decided l ≡ true → ((d : List Cell) → In d (rows_there (row c l ∷ rs)) → probe d ≡ is_yes (test d).f)
      → list_any probe (rows_there rs) ≡ is_yes (every test rs).f → list_any probe (rows_there (row c l ∷ rs)) ≡ is_yes (every test (row c l ∷ rs)).f
  every-false-by c No rs h p e = e ∙ sym (yes-greatest No (every test rs).f)
  every-false-by c Cardinality rs h p e = absurd (let z : ⊥ = cc in z)
  every-false-by c Division rs h p e = absurd (let z : ⊥ = cc in z)
  every-false-by c Overflow rs h p e = absurd (let z : ⊥ = cc in z)
  every-false-by c Yes rs h p e =
      ap₂ (λ (a b : Bool). a || b) (p c (inl refl) ∙ sym (yes-least Yes (test c).f)) e ∙ sym (yes-greatest (least Yes (test c).f) (every test rs).f)

  pub every-false : (rows : Bag) → is_clean rows ≡ true → ((d : List Cell) → In d (rows_there rows) → probe d ≡ is_yes (test d).f) → list_any probe (rows_there rows) ≡ is_yes (every test rows).f
  every-false [] h p = refl
  every-false (r ∷ rs) h p =
      let k = and_parts (is_decided r.level) (is_clean rs) h in
      every-false-by r.cells r.level rs k.0 p (every-false rs k.1 (behind r.cells r.level rs p))

-- ---- no error comes of rows where none is

abbrev pub Settled : Truth → Type 0
Settled p = (is_decided p.t ≡ true) × (is_decided p.f ≡ true)

module _ (test : List Cell → Truth) where
  some-settled-by : (c : List Cell) (l : Level) (rs : Bag) → is_decided l ≡ true → ((d : List Cell) → In d (rows_there (row c l ∷ rs)) → Settled (test d)) → Settled (some test rs) → Settled (some test (row c l ∷ rs))
  some-settled-by c No rs h p e = (decided-greatest No (some test rs).t refl e.0, decided-least Yes (some test rs).f refl e.1)
  some-settled-by c Cardinality rs h p e = absurd (let z : ⊥ = cc in z)
  some-settled-by c Division rs h p e = absurd (let z : ⊥ = cc in z)
  some-settled-by c Overflow rs h p e = absurd (let z : ⊥ = cc in z)
  some-settled-by c Yes rs h p e =
      let k = p c (inl refl) in (
        decided-greatest (least Yes (test c).t) (some test rs).t (decided-least Yes (test c).t refl k.0) e.0,
        decided-least (greatest No (test c).f) (some test rs).f (decided-greatest No (test c).f refl k.1) e.1,
      )

  pub some-settled : (rows : Bag) → is_clean rows ≡ true → ((d : List Cell) → In d (rows_there rows) → Settled (test d)) → Settled (some test rows)
  some-settled [] h p = (refl, refl)
  some-settled (r ∷ rs) h p =
      let k = and_parts (is_decided r.level) (is_clean rs) h in
      some-settled-by r.cells r.level rs k.0 p (some-settled rs k.1 (behind r.cells r.level rs p))

  every-settled-by : (c : List Cell) (l : Level) (rs : Bag) → is_decided l ≡ true → ((d : List Cell) → In d (rows_there (row c l ∷ rs)) → Settled (test d)) → Settled (every test rs) → Settled (every test (row c l ∷ rs))
  every-settled-by c No rs h p e = (decided-least Yes (every test rs).t refl e.0, decided-greatest No (every test rs).f refl e.1)
  every-settled-by c Cardinality rs h p e = absurd (let z : ⊥ = cc in z)
  every-settled-by c Division rs h p e = absurd (let z : ⊥ = cc in z)
  every-settled-by c Overflow rs h p e = absurd (let z : ⊥ = cc in z)
  every-settled-by c Yes rs h p e =
      let k = p c (inl refl) in (
        decided-least (greatest No (test c).t) (every test rs).t (decided-greatest No (test c).t refl k.0) e.0,
        decided-greatest (least Yes (test c).f) (every test rs).f (decided-least Yes (test c).f refl k.1) e.1,
      )

  pub every-settled : (rows : Bag) → is_clean rows ≡ true → ((d : List Cell) → In d (rows_there rows) → Settled (test d)) → Settled (every test rows)
  every-settled [] h p = (refl, refl)
  every-settled (r ∷ rs) h p =
      let k = and_parts (is_decided r.level) (is_clean rs) h in
      every-settled-by r.cells r.level rs k.0 p (every-settled rs k.1 (behind r.cells r.level rs p))

-- ---- a scalar

-- rows that are there are at yes
there-yes : (rows : Bag) → is_clean rows ≡ true → subquery.level_error (those_there rows) ≡ None
there-yes [] h = refl
there-yes (r ∷ rs) h = let k = and_parts (is_decided r.level) (is_clean rs) h in by r.cells r.level k.0 (there-yes rs k.1)
  where
    by : (c : List Cell) (l : Level) → is_decided l ≡ true → subquery.level_error (those_there rs) ≡ None → subquery.level_error (those_there (row c l ∷ rs)) ≡ None
    by c No h e = e
    by c Cardinality h e = absurd (let z : ⊥ = cc in z)
    by c Division h e = absurd (let z : ⊥ = cc in z)
    by c Overflow h e = absurd (let z : ⊥ = cc in z)
    by c Yes h e = e

abbrev first_error : Bag → Option Kind
first_error [] = None
first_error (y ∷ ys) = error_at y.level

first-yes : (rows : Bag) → is_clean rows ≡ true → first_error (those_there rows) ≡ None
first-yes [] h = refl
first-yes (x ∷ xs) h = let k = and_parts (is_decided x.level) (is_clean xs) h in by x.cells x.level k.0 (first-yes xs k.1)
  where
    by : (c : List Cell) (l : Level) → is_decided l ≡ true → first_error (those_there xs) ≡ None → first_error (those_there (row c l ∷ xs)) ≡ None
    by c No d e = e
    by c Cardinality d e = absurd (let z : ⊥ = cc in z)
    by c Division d e = absurd (let z : ⊥ = cc in z)
    by c Overflow d e = absurd (let z : ⊥ = cc in z)
    by c Yes d e = refl

-- over rows that are there
of-those : (ts : Bag) → subquery.level_error ts ≡ None → first_error ts ≡ None → cell_of_rows (map (λ r. r.cells) ts) ≡ subquery.scalar_of_those ts
of-those [] h f = refl
of-those (r ∷ []) h f = sym (ap (λ (k : Option Kind). error_or k (only_cell r.cells)) f)
of-those (r ∷ q ∷ ts) h f = sym (ap (λ (k : Option Kind). error_or (worst_of (Some Kinds.Cardinality) k) Null) h)

pub scalars : (rows : Bag) → is_clean rows ≡ true → cell_of_rows (rows_there rows) ≡ subquery.scalar rows
scalars rows h = of-those (those_there rows) (there-yes rows h) (first-yes rows h)
