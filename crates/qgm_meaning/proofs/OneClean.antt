-- A bag of exactly one row, at no error level, is that row at yes.
use Rattle.std.proofs.Common.{ℕ, ◌≡◌, ◌+◌, true, false, List, [], ◌∷◌, refl, sym, ap, ◌∙◌, arith}
use Rattle.std.proofs.lemmas.Bool.{and_parts}
use Rattle.sql_value.specs.declared.cell.Cell.{Cell}
use Rattle.sql_value.specs.declared.level.Level.{Level}
use Rattle.sql_value.specs.declared.level.Level.TheVariants.{No, Cardinality, Division, Overflow, Yes}
use Rattle.row_bag.specs.AsSets.{is_clean, is_decided}
use Rattle.row_bag.specs.Bags.{Agree, Alike, if_there, total, unit}
use Rattle.row_bag.specs.Joins.{how_many}
use Rattle.row_bag.specs.Sets.{same_cells}
use Rattle.row_bag.specs.declared.row.Row.{Row}
use Rattle.row_bag.proofs.Counts.{agree-from_alike}
use Rattle.row_bag.proofs.OneRow.{none_there}

-- the cells of the first row that is there
abbrev first_by : Level → List Cell → List Cell → List Cell
first_by No cells others = others
first_by Cardinality cells others = cells
first_by Division cells others = cells
first_by Overflow cells others = cells
first_by Yes cells others = cells

abbrev pub the_row : List (Row (List Cell)) → List Cell
the_row [] = []
the_row (r ∷ rows) = first_by r.level r.cells (the_row rows)

pub one-clean : (rows : List (Row (List Cell))) → is_clean rows ≡ true → how_many rows ≡ 1 → Alike rows (unit (the_row rows))
one-clean [] c h = absurd (omega (arith, h))
one-clean (r ∷ rows) c h = by r.level refl (one-clean rows (and_parts (is_decided r.level) (is_clean rows) c).1)
  where
    decided : is_decided r.level ≡ true
    decided = (and_parts (is_decided r.level) (is_clean rows) c).0

    by : (l : Level) → r.level ≡ l → (how_many rows ≡ 1 → Alike rows (unit (the_row rows))) → Alike (r ∷ rows) (unit (first_by l r.cells (the_row rows)))
    by No e again = record {
      sums = λ f.
          let z : if_there 0 f r.cells r.level ≡ 0 = ap (if_there 0 f r.cells) e in
          let n : if_there {M = ℕ} 0 (λ c l. 1) r.cells r.level ≡ 0 = ap (if_there {M = ℕ} 0 (λ c l. 1) r.cells) e in
          let a = again (omega (arith, n, h)) in
          let b : total ◌+◌ 0 f rows ≡ total ◌+◌ 0 f (unit (the_row rows)) = a.sums f in
          omega (arith, z, b);
    }
    by Yes e again = record {
      sums = λ f.
          let z : if_there 0 f r.cells r.level ≡ f r.cells Yes = ap (if_there 0 f r.cells) e in
          let n : if_there {M = ℕ} 0 (λ c l. 1) r.cells r.level ≡ 1 = ap (if_there {M = ℕ} 0 (λ c l. 1) r.cells) e in
          let none : how_many rows ≡ 0 = omega (arith, n, h) in
          let b : total ◌+◌ 0 f rows ≡ 0 = (none_there rows none).sums f in
          omega (arith, z, b);
    }
    by Cardinality e again = absurd (let x : is_decided r.level ≡ false = ap is_decided e in let y : true ≡ false = sym decided ∙ x in let z : ⊥ = cc in z)
    by Division e again = absurd (let x : is_decided r.level ≡ false = ap is_decided e in let y : true ≡ false = sym decided ∙ x in let z : ⊥ = cc in z)
    by Overflow e again = absurd (let x : is_decided r.level ≡ false = ap is_decided e in let y : true ≡ false = sym decided ∙ x in let z : ⊥ = cc in z)

pub one-agrees : (rows : List (Row (List Cell))) → is_clean rows ≡ true → how_many rows ≡ 1 → Agree same_cells rows (unit (the_row rows))
one-agrees rows c h = agree-from_alike same_cells (one-clean rows c h)
