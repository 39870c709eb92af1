-- Rows that count for nothing in some and every: those of which the condition is false, or true, wholly.
use Rattle.std.proofs.Common.{ℕ, zero, suc, ◌≡◌, ◌<◌, ◌≤◌, ◌+◌, ◌-◌, not, Bool, true, false, List, [], ◌∷◌, drop, get_or, length, refl, sym, ap, ◌∙◌, inl, inr, arith}
use Rattle.std.proofs.Math.ListN.{drop_of_length-le}
use Rattle.std.proofs.lemmas.Bool.{cases_lt}
use Rattle.std.proofs.lemmas.List.{get_or_default}
use Rattle.row_bag.specs.Bags.{if_there}
use Rattle.row_bag.specs.Subqueries.{every, presence, some}
use Rattle.row_bag.specs.declared.row.Row.{Row}
use Rattle.sql_value.specs.Truths as t
use Rattle.sql_value.specs.Truths.{truth_of}
use Rattle.sql_value.specs.declared.cell.Cell.{Cell}
use Rattle.sql_value.specs.declared.level.Level.{Level}
use Rattle.sql_value.specs.declared.level.Level.TheVariants.{No, Cardinality, Division, Overflow, Yes}
use Rattle.sql_value.specs.declared.truth.Truth.{Truth}
use Rattle.row_index.specs.Ways.{StandsFrom, place}
use Rattle.row_index.specs.declared.ways.Cursor.{Cursor}
use Rattle.row_index.specs.declared.ways.Way.{Way}
use Rattle.row_index.proofs.Passed.{seen-low, seen-passed}
use Rattle.qgm_meaning.specs.Values.{Bag, Environment, bound, truth}
use Rattle.qgm_terms.specs.Terms.{Cond}
use Rattle.box_exec.specs.Idle.{LeadsIdle, counted, joined, quantified, row_truth}
use Rattle.box_exec.proofs.Loops.{from as rows-from}
use Rattle.box_exec.proofs.Steps.{every_more, some_more}
use Rattle.box_exec.proofs.Units.{and-done, and-unit, joined-unit, or-done, or-unit, wholly-is}

-- a row of which the condition is false wholly counts for nothing in some, one of which it is true wholly for nothing in every
idle-there : (holds : Bool) (test : List Cell → Truth) (cells : List Cell) (l : Level) → test cells ≡ truth_of holds → if_there (truth_of holds) (λ cells level. counted holds level (test cells)) cells l ≡ truth_of holds
idle-there holds test cells No h = refl
idle-there true test cells Cardinality h = ap (counted true Cardinality) h
idle-there true test cells Division h = ap (counted true Division) h
idle-there true test cells Overflow h = ap (counted true Overflow) h
idle-there true test cells Yes h = ap (counted true Yes) h
idle-there false test cells Cardinality h = ap (counted false Cardinality) h
idle-there false test cells Division h = ap (counted false Division) h
idle-there false test cells Overflow h = ap (counted false Overflow) h
idle-there false test cells Yes h = ap (counted false Yes) h

pub quantified-none : (holds : Bool) (test : List Cell → Truth) → quantified holds test [] ≡ truth_of holds
quantified-none false test = refl
quantified-none true test = refl

idle-row : (holds : Bool) (test : List Cell → Truth) (r : Row (List Cell)) (rows : List (Row (List Cell))) → test r.cells ≡ truth_of holds → quantified holds test (r ∷ rows) ≡ quantified holds test rows
idle-row false test r rows h = ap (λ (x : Truth). t.or x (some test rows)) (idle-there false test r.cells r.level h) ∙ or-unit (some test rows)
idle-row true test r rows h = ap (λ (x : Truth). t.and x (every test rows)) (idle-there true test r.cells r.level h) ∙ and-unit (every test rows)

abbrev absent : Row (List Cell)
absent = record { cells = []; level = No }

module _ (holds : Bool) (test : List Cell → Truth) (rows : List (Row (List Cell))) where
  abbrev Idle : ℕ → ℕ → Type 0
  Idle from to = (k : ℕ) (r : Row (List Cell)) → from ≤ k → k < to → k < length rows → r ≡ get_or rows k r → test r.cells ≡ truth_of holds

  -- rows in a row that count for nothing
  idle-rows : (from d : ℕ) → Idle from (from + d) → quantified holds test (drop from rows) ≡ quantified holds test (drop (from + d) rows)
  idle-rows from zero idle = ap (λ (n : ℕ). quantified holds test (drop n rows)) (omega arith)
  idle-rows from (suc d) idle =
      let before = idle-rows from d (λ k r low up inside at. idle k r low (omega (arith, up)) inside at) in
      let more : (from + d) + 1 ≡ from + suc d = omega arith in
      before ∙ elim (cases_lt (from + d) (length rows)) [
        | inl inside ↦
            (let r = get_or rows (from + d) absent in
            let at : r ≡ get_or rows (from + d) r = get_or_default rows (from + d) absent r inside in
            ap (quantified holds test) (rows-from rows (from + d) absent inside)
            ∙ idle-row holds test r (drop ((from + d) + 1) rows) (idle (from + d) r (omega arith) (omega arith) inside at)
            ∙ ap (λ (n : ℕ). quantified holds test (drop n rows)) more)
        | inr past ↦ ap (quantified holds test) (drop_of_length-le rows past ∙ sym (drop_of_length-le rows (omega (arith, past))))
      ]

  idle-to : (from to : ℕ) → from ≤ to → Idle from to → quantified holds test (drop from rows) ≡ quantified holds test (drop to rows)
  idle-to from to le idle =
      let e : from + (to - from) ≡ to = omega (arith, le) in
      idle-rows from (to - from) (λ k r low up inside at. idle k r low (omega (arith, up, e)) inside at) ∙ ap (λ (n : ℕ). quantified holds test (drop n rows)) e

none-left : (holds : Bool) (test : List Cell → Truth) (rows : Bag) → rows ≡ [] → quantified holds test rows ≡ truth_of holds
none-left false test rows e = ap (λ (rs : Bag). some test rs) e
none-left true test rows e = ap (λ (rs : Bag). every test rs) e

-- those that a way passes over
module _ (holds : Bool) (q : ℕ) (s : ℕ → Bag) (c : Cond) (rows : Bag) (env : Environment) (w : Way) (leads : LeadsIdle holds q c rows env w) where
  abbrev test_of : List Cell → Truth
  test_of cells = truth s c (bound q cells env)

  pub idle-stepped : (from : ℕ) (k : Cursor) → from ≤ w.end → StandsFrom w from k → quantified holds test_of (drop from rows) ≡ quantified holds test_of (drop (place k) rows)
  idle-stepped from k le stands =
      let led = leads s in
      idle-to holds test_of rows from (place k) (seen-low w from k led.spans le stands)
      (λ j r low up inside at. wholly-is holds (test_of r.cells) (led.passed j (seen-passed w from k led.spans stands j low up) r inside at))

  -- nothing is left past its end
  pub idle-ended : (i : ℕ) (x whole : Truth) → w.end ≤ i → joined holds x (quantified holds test_of (drop i rows)) ≡ whole → x ≡ whole
  idle-ended i x whole over h =
      let end = (leads s).end in
      sym (joined-unit holds x) ∙ ap (joined holds x) (sym (none-left holds test_of (drop i rows) (drop_of_length-le rows (omega (arith, end, over))))) ∙ h

-- one row more
pub quantified-more : (holds : Bool) (test : List Cell → Truth) (rows : List (Row (List Cell))) (i : ℕ) (d : Row (List Cell)) (x y z whole : Truth) → i < length rows → get_or rows i d ≡ d → y ≡ row_truth holds test d → z ≡ joined holds x y
    → joined holds x (quantified holds test (drop i rows)) ≡ whole → joined holds z (quantified holds test (drop (i + 1) rows)) ≡ whole
quantified-more false test rows i d x y z whole l at ey ez h = some_more (λ cells level. t.and (presence level) (test cells)) rows i d x y z whole l at ey ez h
quantified-more true test rows i d x y z whole l at ey ez h = every_more (λ cells level. t.or (t.negated (presence level)) (test cells)) rows i d x y z whole l at ey ez h

-- what is still to come counts for nothing
pub quantified-done : (holds : Bool) (x rest whole : Truth) → x ≡ truth_of (not holds) → joined holds x rest ≡ whole → x ≡ whole
quantified-done false x rest whole e h = e ∙ sym (or-done rest) ∙ ap (λ (y : Truth). t.or y rest) (sym e) ∙ h
quantified-done true x rest whole e h = e ∙ sym (and-done rest) ∙ ap (λ (y : Truth). t.and y rest) (sym e) ∙ h
