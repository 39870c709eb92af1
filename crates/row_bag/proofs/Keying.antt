-- Keys of a bag.
use Rattle.std.proofs.Common.{◌≡◌, ◌==◌, ℕ, ◌+◌, ◌≤◌, min, nat_eq, cond, Bool, true, false, ◌||◌, List, [], ◌∷◌, map, refl, ap, ap₂, sym, subst, ◌∙◌, Decides, arith, inl, inr, eqb-true}
use Rattle.std.specs.List.{list_all, list_any}
use Rattle.std.proofs.lemmas.Bool.{and_parts, cases_Bool}
use mathlib.Core.Path.{fun_ext}
use Rattle.sql_value.specs.declared.cell.Cell.{Cell}
use Rattle.sql_value.specs.declared.cell.Cell.TheVariants.{Null}
use Rattle.sql_value.specs.declared.level.Level.{Level}
use Rattle.sql_value.specs.declared.level.Level.TheVariants.{No, Cardinality, Division, Overflow, Yes}
use Rattle.sql_value.specs.Level.{least}
use Rattle.row_bag.specs.Bags.{Alike, bind, if_there, total, unit}
use Rattle.row_bag.specs.Joins.{how_many}
use Rattle.row_bag.specs.Order.{cell_of}
use Rattle.row_bag.specs.Sets.{distinct, grouped, multiplicity, of_group, once, same_cells}
use Rattle.row_bag.specs.declared.row.Row.{Row}
use Rattle.row_bag.proofs.Agreement.{alike-bind, alike-refl, sum-monoid}
use Rattle.row_bag.proofs.Binds.{bind-bind, bind-unit, unit-bind}
use Rattle.row_bag.proofs.Copies.{multiplicity-distinct}
use Rattle.row_bag.proofs.Counts.{agree-from_alike, alike-from_agree}
use Rattle.row_bag.proofs.GreatestLevels.{distinct-once, total-once}
use Rattle.row_bag.proofs.SetLaws.{multiplicity-alike}
use Rattle.row_bag.proofs.TupleBags.{same_cells-decides}
use Rattle.row_bag.specs.Filters.{passing}
use Rattle.row_bag.specs.Keys.{HasKey, IsKey, KeyLaws, cells_at}
use Rattle.row_bag.proofs.Images.{multiplicity-image, total-below, total-passing}

abbrev Rows : Type 0
Rows = List (Row (List Cell))

at-most : (b d : Bool) → (b ≡ true → d ≡ true) → ◌≤◌ (cond b 1 0) (cond d 1 0)
at-most true true h = omega arith
at-most true false h = cc (h refl)
at-most false d h = omega arith

no-more : (b : Bool) → ◌≤◌ (cond b 1 0) 1
no-more true = omega arith
no-more false = omega arith

module _ {T K : Type 0} (same : T → T → Bool) (dec : (a b : T) → Decides (same a b) (a ≡ b)) (same_k : K → K → Bool) (dec_k : (a b : K) → Decides (same_k a b) (a ≡ b)) (read : T → K) where
  -- each tuple occurs at most once
  pub key-once : (rows : List (Row T)) → IsKey same_k read rows → (c : T) → multiplicity same c rows ≤ 1
  key-once rows h c =
      let below : multiplicity same c rows ≤ total ◌+◌ 0 (λ a l. cond (same_k (read a) (read c)) 1 0) rows =
      total-below (λ a l. cond (same a c) 1 0) (λ a l. cond (same_k (read a) (read c)) 1 0) rows (λ a l. at-most (same a c) (same_k (read a) (read c)) (λ e. (dec_k (read a) (read c)).1 (ap read ((dec a c).0 e)))) in
      let most : total ◌+◌ 0 (λ a l. cond (same_k (read a) (read c)) 1 0) rows ≤ 1 = subst (λ n. n ≤ 1) (multiplicity-image same_k (read c) read rows) (h (read c)) in
      omega (arith, below, most)

  pub key-alike : (xs ys : List (Row T)) → Alike xs ys → IsKey same_k read xs → IsKey same_k read ys
  key-alike xs ys a h k = subst (λ n. n ≤ 1) (multiplicity-alike same_k dec_k k (alike-bind a (λ c. alike-refl (unit (read c))))) (h k)

  pub key-passing : (level : T → Level) (rows : List (Row T)) → IsKey same_k read rows → IsKey same_k read (passing level rows)
  key-passing level rows h k =
      let most : total ◌+◌ 0 (λ a l. cond (same_k (read a) k) 1 0) rows ≤ 1 = subst (λ n. n ≤ 1) (multiplicity-image same_k k read rows) (h k) in
      let same : multiplicity same_k k (bind (passing level rows) (λ c. unit (read c))) ≡ total ◌+◌ 0 (λ c l. if_there 0 (λ a l. cond (same_k (read a) k) 1 0) c (least l (level c))) rows =
      multiplicity-image same_k k read (passing level rows) ∙ total-passing sum-monoid (λ a l. cond (same_k (read a) k) 1 0) level rows in
      let below : total ◌+◌ 0 (λ c l. if_there 0 (λ a l. cond (same_k (read a) k) 1 0) c (least l (level c))) rows ≤ total ◌+◌ 0 (λ a l. cond (same_k (read a) k) 1 0) rows =
      total-below (λ c l. if_there 0 (λ a l. cond (same_k (read a) k) 1 0) c (least l (level c))) (λ a l. cond (same_k (read a) k) 1 0) rows (λ a l. each a (least l (level a))) in
      omega (arith, most, same, below)
    where
      each : (a : T) (m : Level) → if_there 0 (λ a l. cond (same_k (read a) k) 1 0) a m ≤ cond (same_k (read a) k) 1 0
      each a No = omega arith
      each a Cardinality = omega arith
      each a Division = omega arith
      each a Overflow = omega arith
      each a Yes = omega arith

  pub key-distinct : (rows : List (Row K)) → IsKey same_k (λ c. c) (distinct same_k rows)
  key-distinct rows k =
      let e : multiplicity same_k k (bind (distinct same_k rows) (λ c. unit c)) ≡ min 1 (multiplicity same_k k rows) = ap (multiplicity same_k k) (bind-unit (distinct same_k rows)) ∙ multiplicity-distinct same_k dec_k k rows in
      omega (arith, e)

-- the keys of groups
pub key-groups : {T K U : Type 0} (same : K → K → Bool) (dec : (a b : K) → Decides (same a b) (a ≡ b)) (key : T → K) (made : K → List (Row T) → U) (read : U → K) (rows : List (Row T))
    → ((k : K) (group : List (Row T)) → read (made k group) ≡ k) → IsKey same read (grouped same key made rows)
key-groups same dec key made read rows h k =
    let keys : List (Row _) = bind rows (λ c. unit (key c)) in
    let e : bind (grouped same key made rows) (λ c. unit (read c)) ≡ once same keys =
    bind-bind (once same keys) (λ k. unit (made k (of_group same key k rows))) (λ c. unit (read c))
    ∙ ap (bind (once same keys)) (fun_ext (λ k. unit-bind (made k (of_group same key k rows)) (λ c. unit (read c)) ∙ ap unit (h k (of_group same key k rows))))
    ∙ bind-unit (once same keys) in
    let n : multiplicity same k (once same keys) ≡ cond (nat_eq (multiplicity same k keys) 0) 0 (cond (same k k) 1 0) =
    total-once same dec sum-monoid (λ j l. cond (same j k) 1 0) k (λ j l other. ap (λ b. cond b 1 0) other) keys in
    let e2 : multiplicity same k (bind (grouped same key made rows) (λ c. unit (read c))) ≡ multiplicity same k (once same keys) = ap (multiplicity same k) e in
    let most : cond (nat_eq (multiplicity same k keys) 0) 0 (cond (same k k) 1 0) ≤ 1 = either (nat_eq (multiplicity same k keys) 0) (same k k) in
    omega (arith, n, e2, most)
  where
    either : (a b : Bool) → ◌≤◌ (cond a 0 (cond b 1 0)) 1
    either true b = omega arith
    either false b = no-more b

-- ---- columns

-- the cell of column k among the cells of these columns
found : List ℕ → List Cell → ℕ → Cell
found [] cells k = Null
found (j ∷ js) [] k = Null
found (j ∷ js) (cell ∷ cells) k = cond (j == k) cell (found js cells k)

found-is : (all : List ℕ) (cells : List Cell) (k : ℕ) → list_any (λ j. j == k) all ≡ true → found all (cells_at all cells) k ≡ cell_of k cells
unfolding found
found-is [] cells k h = cc h
found-is (j ∷ all) cells k h = elim (cases_Bool (j == k)) [
  | inl e ↦ ap (λ b. cond b (cell_of j cells) (found all (cells_at all cells) k)) e ∙ ap (λ i. cell_of i cells) (eqb-true j k e)
  | inr e ↦ ap (λ b. cond b (cell_of j cells) (found all (cells_at all cells) k)) e ∙ found-is all cells k (sym (ap (λ b. b || list_any (λ j. j == k) all) e) ∙ h)
]

some-found : (some all : List ℕ) (cells : List Cell) → list_all (λ k. list_any (λ j. j == k) all) some ≡ true → map (found all (cells_at all cells)) some ≡ cells_at some cells
some-found [] all cells h = refl
some-found (k ∷ some) all cells h =
    let p = and_parts (list_any (λ j. j == k) all) (list_all (λ k. list_any (λ j. j == k) all) some) h in
    ap₂ (λ (c : Cell) (cs : List Cell). c ∷ cs) (found-is all cells k p.0) (some-found some all cells p.1)

key-wider : (some all : List ℕ) (rows : Rows) → list_all (λ k. list_any (λ j. j == k) all) some ≡ true → HasKey some rows → HasKey all rows
key-wider some all rows within h v =
    let at : List Cell = map (found all v) some in
    let most : total ◌+◌ 0 (λ a l. cond (same_cells (cells_at some a) at) 1 0) rows ≤ 1 = subst (λ n. n ≤ 1) (multiplicity-image same_cells at (cells_at some) rows) (h at) in
    let below : total ◌+◌ 0 (λ a l. cond (same_cells (cells_at all a) v) 1 0) rows ≤ total ◌+◌ 0 (λ a l. cond (same_cells (cells_at some a) at) 1 0) rows =
    total-below (λ a l. cond (same_cells (cells_at all a) v) 1 0) (λ a l. cond (same_cells (cells_at some a) at) 1 0) rows
    (λ a l. at-most (same_cells (cells_at all a) v) (same_cells (cells_at some a) at) (λ e. (same_cells-decides (cells_at some a) at).1 (sym (some-found some all a within) ∙ ap (λ cells. map (found all cells) some) ((same_cells-decides (cells_at all a) v).0 e)))) in
    let e : multiplicity same_cells v (bind rows (λ c. unit (cells_at all c))) ≡ total ◌+◌ 0 (λ a l. cond (same_cells (cells_at all a) v) 1 0) rows = multiplicity-image same_cells v (cells_at all) rows in
    omega (arith, most, below, e)

key-empty : (rows : Rows) → HasKey [] rows → how_many rows ≤ 1
key-empty rows h = subst (λ n. n ≤ 1) (multiplicity-image same_cells [] (cells_at []) rows) (h [])

empty-key : (rows : Rows) → how_many rows ≤ 1 → HasKey [] rows
empty-key rows h k =
    let e : multiplicity same_cells k (bind rows (λ c. unit (cells_at [] c))) ≡ total ◌+◌ 0 (λ a l. cond (same_cells [] k) 1 0) rows = multiplicity-image same_cells k (cells_at []) rows in
    let below : total ◌+◌ 0 (λ a l. cond (same_cells [] k) 1 0) rows ≤ how_many rows = total-below (λ a l. cond (same_cells [] k) 1 0) (λ a l. 1) rows (λ a l. no-more (same_cells [] k)) in
    omega (arith, e, below, h)

pub key-laws : KeyLaws
key-laws = record {
  distinct_goes = λ columns rows h. agree-from_alike same_cells (distinct-once same_cells same_cells-decides rows (key-once same_cells same_cells-decides same_cells same_cells-decides (cells_at columns) rows h));
  kept = λ columns xs ys a h. key-alike same_cells same_cells-decides same_cells same_cells-decides (cells_at columns) xs ys (alike-from_agree same_cells same_cells-decides a) h;
  empty = λ rows. (key-empty rows, empty-key rows);
  filtered = λ columns level rows h. key-passing same_cells same_cells-decides same_cells same_cells-decides (cells_at columns) level rows h;
  wider = λ some all rows within h. key-wider some all rows within h;
  of_distinct = λ rows. key-distinct same_cells same_cells-decides same_cells same_cells-decides (λ c. c) rows;
  of_groups = λ key made read rows h. key-groups same_cells same_cells-decides key made read rows h;
}
