-- Groups of rows of which each is behind its key.
use Rattle.std.proofs.Common.{ℕ, suc, zero, ◌≡◌, ◌<◌, ◌+◌, ◌++◌, append_assoc, get_or, Bool, true, false, cond, List, [], ◌∷◌, drop, length, map, take, min, refl, sym, ◌∙◌, ap, ap₂, arith, Option, None, Some}
use Rattle.std.proofs.lemmas.List.{get_or_append_left, get_or_push, length-map, length_push, nil_from_length, take_min}
use mathlib.Core.Path.{fun_ext}
use Rattle.group_states.specs.Folds.{cell_of}
use Rattle.group_states.specs.Groups.{argument, cells_from, groups_of}
use Rattle.group_states.specs.declared.fold.Fold.TheVariants.{Nothing}
use Rattle.row_bag.specs.Aggregates.{count_cell}
use Rattle.row_bag.specs.Bags.{Alike, bind, if_there, row, unit}
use Rattle.row_bag.specs.Errors.{error_among, error_at, error_in}
use Rattle.row_bag.specs.Groups as g
use Rattle.row_bag.specs.Joins.{how_many}
use Rattle.row_bag.specs.Sets.{collapsed, error_or_bag, failed_cells, grouped, of_group, once, same_cells}
use Rattle.row_bag.specs.declared.row.Row.{Row}
use Rattle.row_bag.proofs.Binds.{bind-bind, unit-bind}
use Rattle.row_bag.proofs.Levels.{least-yes}
use Rattle.sql_value.specs.Cells.{worst_of}
use Rattle.sql_value.specs.Level.{level_of}
use Rattle.row_bag.proofs.Agreement.{alike-same, alike-trans}
use Rattle.sql_value.specs.declared.cell.Cell.{Cell}
use Rattle.sql_value.specs.declared.cell.Kind.{Kind}
use Rattle.sql_value.specs.declared.level.Level.{Level}
use Rattle.sql_value.specs.declared.level.Level.TheVariants.{No, Cardinality, Division, Overflow, Yes}
use Rattle.qgm_meaning.specs.Meaning.{fold_cell, grouped_rows, nothing}
use Rattle.qgm_meaning.specs.Values.{Bag, Environment, bound, value}
use Rattle.qgm_terms.specs.Terms.{Term}
use Rattle.qgm_terms.specs.Terms as t
use Rattle.qgm_terms.specs.Shown.{links, term, terms}
use Rattle.qgm_terms.specs.declared.tree.Gx.{Gx}
use Rattle.qgm_terms.specs.declared.tree.Link.{Link}
use Rattle.qgm_terms.specs.declared.tree.Op.{Op}
use Rattle.sql_value.specs.declared.cell.Cell.TheVariants.{Null}
use Rattle.box_exec.specs.Groups.{argument_of, arguments_of, asked, by_keys, fold_of, key_of}

-- ---- keys

taken : (xs ys : List Cell) → take (length xs) (xs ++ ys) ≡ xs
taken [] ys = refl
taken (x ∷ xs) ys = ap (λ (zs : List Cell). x ∷ zs) (taken xs ys)

-- the cell past others
past : (xs ys : List Cell) (y : Cell) → get_or (xs ++ y ∷ ys) (length xs) Null ≡ y
past xs ys y = ap (λ (zs : List Cell). get_or zs (length xs) Null) (sym (append_assoc xs (y ∷ []) ys)) ∙ get_or_append_left (xs ++ y ∷ []) ys Null (length xs) (let e = length_push xs y in omega (arith, e)) ∙ get_or_push xs y Null (length xs) refl

-- rows of which each is behind a key, and keeps what these functions give
asked-bind : (f : List Cell → List Cell) (rows : Bag) → map (λ (r : Row (List Cell)). row (f r.cells) r.level) rows ≡ bind rows (λ c. unit (f c))
asked-bind f [] = refl
asked-bind f (r ∷ rows) = ap₂ (λ (l : Level) (rest : Bag). row (f r.cells) l ∷ rest) (sym (least-yes r.level)) (asked-bind f rows)

-- ---- cells of a group

-- what an aggregate is of the arguments
fold-cell : (q : ℕ) (env : Environment) (rows : Bag) (x : Term) → cell_of (fold_of x) (bind rows (λ c. unit (argument_of x (bound q c env)))) ≡ fold_cell q env rows x
fold-cell q env rows t.count_all = ap count_cell (many-bound rows)
  where
    one-there : (c : List Cell) (l : Level) → ◌≡◌ {A = ℕ} (if_there 0 (λ cells level. 1) Null l) (if_there 0 (λ cells level. 1) c l)
    one-there c No = refl
    one-there c Cardinality = refl
    one-there c Division = refl
    one-there c Overflow = refl
    one-there c Yes = refl

    many-bound : (rows : Bag) → how_many (bind rows (λ c. unit Null)) ≡ how_many rows
    many-bound [] = refl
    many-bound (r ∷ rows) =
        ap₂ (λ (x y : ℕ). x + y) (ap (λ (l : Level). if_there 0 (λ cells level. 1) Null l) (least-yes r.level) ∙ one-there r.cells r.level) (many-bound rows)
fold-cell q env rows (t.fold f e x) = refl
fold-cell q env rows (t.int n) = refl
fold-cell q env rows (t.text s) = refl
fold-cell q env rows t.null_int = refl
fold-cell q env rows t.null_text = refl
fold-cell q env rows (t.col r k) = refl
fold-cell q env rows (t.both o x y) = refl
fold-cell q env rows (t.minus_of x) = refl
fold-cell q env rows (t.choose s x) = refl
fold-cell q env rows (t.scalar r) = refl

arguments-bind : (k : ℕ) (rows : Bag) → map (argument k) rows ≡ bind rows (λ c. unit (get_or c k Null))
arguments-bind k [] = refl
arguments-bind k (r ∷ rows) = ap₂ (λ (l : Level) (rest : List (Row Cell)). row (get_or r.cells k Null) l ∷ rest) (sym (least-yes r.level)) (arguments-bind k rows)

-- the other cells of a group, of rows that have so many cells before the arguments
cells-asked : (q : ℕ) (env : Environment) (rows : Bag) (folds : List Term) (k : ℕ) (before : List Cell → List Cell) → ((c : List Cell) → length (before c) ≡ k)
    → cells_from k (map fold_of folds) (bind rows (λ c. unit (before c ++ arguments_of folds q env c))) ≡ map (fold_cell q env rows) folds
cells-asked q env rows [] k before long = refl
cells-asked q env rows (x ∷ folds) k before long =
    ap₂ (λ (c : Cell) (cells : List Cell). c ∷ cells)
    (ap (cell_of (fold_of x))
    (arguments-bind k (bind rows (λ c. unit (whole c)))
    ∙ bind-bind rows (λ c. unit (whole c)) (λ c. unit (get_or c k Null))
    ∙ ap (bind rows) (fun_ext (λ c. unit-bind (whole c) (λ c. unit (get_or c k Null)) ∙ ap (λ (d : Cell). unit d) (own c))))
    ∙ fold-cell q env rows x)
    (ap (cells_from (k + 1) (map fold_of folds)) (ap (bind rows) (fun_ext (λ c. ap (λ (cells : List Cell). unit cells) (sym (append_assoc (before c) (argument_of x (bound q c env) ∷ []) (arguments_of folds q env c))))))
    ∙ cells-asked q env rows folds (k + 1) (λ c. before c ++ argument_of x (bound q c env) ∷ []) (λ c. length_push (before c) (argument_of x (bound q c env)) ∙ ap (λ (n : ℕ). n + 1) (long c)))
  where
    whole : List Cell → List Cell
    whole c = before c ++ arguments_of (x ∷ folds) q env c

    own : (c : List Cell) → get_or (whole c) k Null ≡ argument_of x (bound q c env)
    own c = ap (λ (n : ℕ). get_or (whole c) n Null) (sym (long c)) ∙ past (before c) (arguments_of folds q env c) (argument_of x (bound q c env))

module _ (n : ℕ) (key rest : List Cell → List Cell) (long : (c : List Cell) → length (key c) ≡ n) where
  abbrev both : List Cell → List Cell
  both c = key c ++ rest c

  key-taken : (c : List Cell) → take n (both c) ≡ key c
  key-taken c = ap (λ (m : ℕ). take m (both c)) (sym (long c)) ∙ taken (key c) (rest c)

  same-error : (c : List Cell) (l : Level)
      → ◌≡◌ {A = Option Kind} (if_there None (λ cells level. worst_of (error_at level) (error_in (take n cells))) (both c) l) (if_there None (λ cells level. worst_of (error_at level) (error_in (key cells))) c l)
  same-error c No = refl
  same-error c Cardinality = ap (λ (k : List Cell). worst_of (error_at Cardinality) (error_in k)) (key-taken c)
  same-error c Division = ap (λ (k : List Cell). worst_of (error_at Division) (error_in k)) (key-taken c)
  same-error c Overflow = ap (λ (k : List Cell). worst_of (error_at Overflow) (error_in k)) (key-taken c)
  same-error c Yes = ap (λ (k : List Cell). worst_of (error_at Yes) (error_in k)) (key-taken c)

  -- the error of a grouping
  pub error-asked : (rows : Bag) → error_among (λ cells. error_in (take n cells)) (map (λ (r : Row (List Cell)). row (both r.cells) r.level) rows) ≡ error_among (λ cells. error_in (key cells)) rows
  error-asked [] = refl
  error-asked (r ∷ rows) = ap₂ worst_of (same-error r.cells r.level) (error-asked rows)

  keys-asked : (rows : Bag) → g.keys_of n (bind rows (λ c. unit (both c))) ≡ once same_cells (bind rows (λ c. unit (key c)))
  keys-asked rows =
      ap (once same_cells)
      (bind-bind rows (λ c. unit (both c)) (λ cells. unit (take n cells)) ∙ ap (bind rows) (fun_ext (λ c. unit-bind (both c) (λ cells. unit (take n cells)) ∙ ap (λ (cells : List Cell). unit cells) (key-taken c))))

  -- the rows of a group
  members : (rows : Bag) (k : List Cell) → g.rows_of n k (bind rows (λ c. unit (both c))) ≡ bind (of_group same_cells key k rows) (λ c. unit (both c))
  members rows k =
      bind-bind rows (λ c. unit (both c)) (λ cells. cond (same_cells (take n cells) k) (unit cells) [])
      ∙ ap (bind rows) (fun_ext (λ c.
      unit-bind (both c) (λ cells. cond (same_cells (take n cells) k) (unit cells) [])
      ∙ ap (λ (z : List Cell). cond (same_cells z k) (unit (both c)) []) (key-taken c)
      ∙ one c (same_cells (key c) k)))
      ∙ sym (bind-bind rows (λ c. cond (same_cells (key c) k) (unit c) []) (λ c. unit (both c)))
    where
      one : (c : List Cell) (b : Bool) → cond b (unit (both c)) [] ≡ bind (cond b (unit c) []) (λ c. unit (both c))
      one c true = sym (unit-bind c (λ c. unit (both c)))
      one c false = refl

-- the groups themselves
groups-asked : (n : ℕ) (key : List Cell → List Cell) (long : (c : List Cell) → length (key c) ≡ n) (folds : List Term) (q : ℕ) (env : Environment) (rows : Bag)
    → groups_of n (map fold_of folds) (map (λ (r : Row (List Cell)). row (key r.cells ++ arguments_of folds q env r.cells) r.level) rows) ≡ grouped same_cells key (λ k members. k ++ map (fold_cell q env members) folds) rows
groups-asked n key long folds q env rows =
    ap (groups_of n (map fold_of folds)) (asked-bind whole rows)
    ∙ ap₂ (λ (keys : Bag) (f : List Cell → Bag). bind keys f) (keys-asked n key (arguments_of folds q env) long rows)
    (fun_ext (λ k. ap (λ (cells : List Cell). unit (k ++ cells)) (ap (cells_from n (map fold_of folds)) (members n key (arguments_of folds q env) long rows k) ∙ cells-asked q env (of_group same_cells key k rows) folds n key long)))
  where
    whole : List Cell → List Cell
    whole c = key c ++ arguments_of folds q env c

-- all rows as one group
pub whole-asked : (folds : List Term) (q : ℕ) (env : Environment) (rows : Bag) → cells_from 0 (map fold_of folds) (map (asked [] folds q env) rows) ≡ map (fold_cell q env rows) folds
whole-asked folds q env rows = ap (cells_from 0 (map fold_of folds)) (asked-bind (λ c. [] ++ arguments_of folds q env c) rows) ∙ cells-asked q env rows folds 0 (λ c. []) (λ c. refl)

-- ---- the cells of a head

pub key-long : (keys : List Term) (q : ℕ) (env : Environment) (c : List Cell) → length (key_of keys q env c) ≡ length keys
key-long keys q env c = length-map keys (λ x. value nothing x (bound q c env))

drop-within : {X : Type 0} (k : ℕ) (xs : List X) → drop (min k (length xs)) xs ≡ drop k xs
drop-within zero xs = let e : min 0 (length xs) ≡ 0 = omega arith in ap (λ (n : ℕ). drop n xs) e
drop-within {X} (suc k) [] = let e : min (suc k) 0 ≡ 0 = omega arith in ap (λ (n : ℕ). drop n (none X)) e
  where
    none : (X : Type 0) → List X
    none X = []
drop-within (suc k) (x ∷ xs) = let e : min (suc k) (suc (length xs)) ≡ suc (min k (length xs)) = omega arith in ap (λ (n : ℕ). drop n (x ∷ xs)) e ∙ drop-within k xs

both-parts : {X : Type 0} (k : ℕ) (xs : List X) → length (take k xs) + length (drop k xs) ≡ length xs
both-parts zero xs = omega arith
both-parts (suc k) [] = refl
both-parts (suc k) (x ∷ xs) = let h = both-parts k xs in omega (arith, h)

head-parts : (k : ℕ) (head : List Term) (q : ℕ) (env : Environment) (rows : Bag)
    → by_keys (take (min (suc k) (length head)) head) (drop (min (suc k) (length head)) head) q env rows ≡ grouped_rows (suc k) head q env rows
head-parts k head q env rows =
    ap₂ (λ (xs ys : List Term). by_keys xs ys q env rows) (take_min (suc k) head) (drop-within (suc k) head)
    ∙ ap (λ (m : ℕ). collapsed (λ cells. error_in (key_of (take (suc k) head) q env cells)) (failed_cells m) rows (grouped same_cells (key_of (take (suc k) head) q env) (λ key members. key ++ map (fold_cell q env members) (drop (suc k) head)) rows))
    (both-parts (suc k) head)

terms-take : (n : ℕ) (xs : List Gx) → terms (take n xs) ≡ take n (terms xs)
terms-take zero xs = refl
terms-take (suc n) [] = refl
terms-take (suc n) (x ∷ xs) = ap (λ (ys : List Term). term x ∷ ys) (terms-take n xs)

terms-drop : (n : ℕ) (xs : List Gx) → terms (drop n xs) ≡ drop n (terms xs)
terms-drop zero xs = refl
terms-drop (suc n) [] = refl
terms-drop (suc n) (x ∷ xs) = terms-drop n xs

-- the first cells of a head, so many or as many as there are, and the others
pub head-split : (k n : ℕ) (head : List Gx) (q : ℕ) (env : Environment) (rows : Bag) → (k ≡ 0 → ⊥) → n ≡ min k (length head)
    → by_keys (terms (take n head)) (terms (drop n head)) q env rows ≡ grouped_rows k (terms head) q env rows
head-split zero n head q env rows h e = absurd (h refl)
head-split (suc k) n head q env rows h e =
    ap₂ (λ (xs ys : List Term). by_keys xs ys q env rows) (terms-take n head) (terms-drop n head)
    ∙ ap (λ (m : ℕ). by_keys (take m (terms head)) (drop m (terms head)) q env rows) (e ∙ ap (min (suc k)) (sym (length-map head term)))
    ∙ head-parts k (terms head) q env rows

-- ---- groups as they are made

-- all rows as one group
pub whole-group : (folds : List Term) (q : ℕ) (env : Environment) (rows : Bag) → error_among (λ cells. error_in []) rows ≡ None
    → row (map (fold_cell q env rows) folds) Yes ∷ [] ≡ grouped_rows 0 folds q env rows
whole-group folds q env rows h = sym (ap (λ (e : Option Kind). error_or_bag (failed_cells (length folds)) e (unit (map (fold_cell q env rows) folds))) h)

pub whole-failed : (folds : List Term) (q : ℕ) (env : Environment) (rows : Bag) (n : ℕ) (k : Kind) → n ≡ length folds → error_among (λ cells. error_in []) rows ≡ Some k
    → row (failed_cells n k) (level_of k) ∷ [] ≡ grouped_rows 0 folds q env rows
whole-failed folds q env rows n k e h =
    ap (λ (m : ℕ). row (failed_cells m k) (level_of k) ∷ []) e
    ∙ sym (ap (λ (e : Option Kind). error_or_bag (failed_cells (length folds)) e (unit (map (fold_cell q env rows) folds))) h)

module _ (keys folds : List Term) (q : ℕ) (env : Environment) (rows : Bag) (n : ℕ) (e : n ≡ length keys) where
  abbrev made : Bag
  made = map (asked keys folds q env) rows

  abbrev key : List Cell → List Cell
  key = key_of keys q env

  abbrev result : Bag
  result = grouped same_cells key (λ key members. key ++ map (fold_cell q env members) folds) rows

  long : (c : List Cell) → length (key c) ≡ n
  long c = key-long keys q env c ∙ sym e

  error : (o : Option Kind) → g.key_error n made ≡ o → error_among (λ cells. error_in (key cells)) rows ≡ o
  error o h = sym (error-asked n key (arguments_of folds q env) long rows) ∙ h

  -- one row of the greatest error
  pub keys-failed : (m : ℕ) (k : Kind) → m ≡ length folds → g.key_error n made ≡ Some k → row (failed_cells (n + m) k) (level_of k) ∷ [] ≡ by_keys keys folds q env rows
  keys-failed m k f h =
      ap₂ (λ (x y : ℕ). row (failed_cells (x + y) k) (level_of k) ∷ []) e f
      ∙ sym (ap (λ (o : Option Kind). error_or_bag (failed_cells (length keys + length folds)) o result) (error (Some k) h))

  -- one row for each key
  pub keys-made : (out : Bag) → g.key_error n made ≡ None → Alike out (groups_of n (map fold_of folds) made) → Alike out (by_keys keys folds q env rows)
  keys-made out h a =
      alike-trans a
      (alike-same (groups-asked n key long folds q env rows ∙ sym (ap (λ (o : Option Kind). error_or_bag (failed_cells (length keys + length folds)) o result) (error None h))))

-- ---- cells that are no aggregate

chain-null : (o : Op) (x y : Term) (ls : List t.Link) → fold_of (t.linked (t.both o x y) ls) ≡ Nothing
chain-null o x y [] = refl
chain-null o x y (l ∷ ls) = chain-null l.op (t.both o x y) l.right ls

chain-none : (env : Environment) (o : Op) (x y : Term) (ls : List t.Link) → argument_of (t.linked (t.both o x y) ls) env ≡ Null
chain-none env o x y [] = refl
chain-none env o x y (l ∷ ls) = chain-none env l.op (t.both o x y) l.right ls

-- a chain is its first operand where it has no other
pub chain-one : (x : Term) (ls : List Link) → length ls ≡ 0 → t.linked x (links ls) ≡ x
chain-one x ls h = ap (λ (ks : List Link). t.linked x (links ks)) (nil_from_length ls h)

-- and else no aggregate
pub chain-more : (x : Term) (ls : List Link) → 0 < length ls → fold_of (t.linked x (links ls)) ≡ Nothing
chain-more x [] h = absurd (omega (arith, h))
chain-more x (l ∷ ls) h = chain-null l.op x (term l.right) (links ls)

pub chain-nothing : (env : Environment) (x : Term) (ls : List Link) → 0 < length ls → argument_of (t.linked x (links ls)) env ≡ Null
chain-nothing env x [] h = absurd (omega (arith, h))
chain-nothing env x (l ∷ ls) h = chain-none env l.op x (term l.right) (links ls)
