-- The groups of a block, and those of a group box over its rows.
use Rattle.std.proofs.Common.{◌≡◌, ℕ, zero, suc, ◌+◌, nat_eq, Bool, true, false, cond, List, [], ◌∷◌, ◌++◌, map, take, drop, length, replicate, get_or, append_assoc, append-nil, refl, ap, ap₂, sym, ◌∙◌, subst, arith, Option, Some, None, pos}
use mathlib.Core.Path.{fun_ext}
use Rattle.row_bag.specs.Bags.{bind, if_there, keep, unit}
use Rattle.row_bag.specs.Errors.{error_among, error_at, error_in}
use Rattle.row_bag.specs.Order.{cell_of}
use Rattle.row_bag.specs.Sets.{error_or_bag, failed_cells, grouped, multiplicity, of_group, once, same_cells}
use Rattle.row_bag.specs.declared.row.Row.{Row}
use Rattle.row_bag.proofs.Binds.{bind-append, bind-bind, unit-bind}
use Rattle.row_bag.proofs.Levels.{least-yes}
use Rattle.sql_meaning.specs.Groups.{Group, Grouped, aggregated, count_all, count_cell, failed, members, of_arguments, one_group, no_group}
use Rattle.sql_meaning.specs.Joins.{how_many}
use Rattle.sql_value.specs.Cells.{worst_of}
use Rattle.sql_value.specs.Level.{least, level_of}
use Rattle.sql_value.specs.declared.cell.Cell.{Cell}
use Rattle.sql_value.specs.declared.cell.Cell.TheVariants.{Int, Null, Err}
use Rattle.sql_value.specs.declared.cell.Kind.{Kind}
use Rattle.sql_value.specs.declared.level.Level.{Level}
use Rattle.sql_value.specs.declared.level.Level.TheVariants.{No, Cardinality, Division, Overflow, Yes}
use Rattle.sql_meaning.specs.ResolvedMeaning as k
use Rattle.sql_meaning.specs.ResolvedMeaning.{masked_from}
use Rattle.qgm_meaning.specs.Values.{Bag, Environment, bound, head_cells, row_of, value}
use Rattle.qgm_terms.specs.Terms.{Term}
use Rattle.qgm_terms.specs.Terms as t
use Rattle.qgm_meaning.specs.Meaning.{nothing}
use Rattle.row_bag.specs.Aggregates.{folded}
use Rattle.qgm_meaning.specs.Aggregated.{aggregate_of, taken_of}
use Rattle.qgm_translation.specs.Shown.{aggregate, taken}
use Rattle.qgm_translation.proofs.Bridge.{folds-same}
use Rattle.qgm_meaning.specs.Meaning.{fold_cells, fold_cell, grouped_rows, groups, key_cells}
use Rattle.qgm_translation.specs.Leaves.{Leaf, count, fold, sub}
use Rattle.qgm_translation.specs.Maps.{seen_in}
use Rattle.qgm_translation.specs.Shown.{HasKey, columns_of, fold_terms, key_places, padded, refs}
use Rattle.qgm_translation.proofs.Things.{arguments}
use Rattle.qgm_translation.proofs.Things.{group_rows}
use Rattle.qgm_translation.proofs.TermLaws.{row-same}
use Rattle.qgm_translation.proofs.Keys.{cell-prefix, picked, push-length, same-errors, same-key}
use Rattle.qgm_translation.proofs.Selects.{refs-head}
use Rattle.qgm_translation.proofs.Wide.{AllRows, Wide, bind-all, map-length, replicate-length}

-- ---- groups under two keys that tell the same rows apart

there-same : {A B M : Type 0} (e : M) (f : A → Level → M) (g : B → Level → M) (a : A) (b : B) (l : Level) → ((l : Level) → f a l ≡ g b l) → if_there e f a l ≡ if_there e g b l
there-same e f g a b No h = refl
there-same e f g a b Cardinality h = h Cardinality
there-same e f g a b Division h = h Division
there-same e f g a b Overflow h = h Overflow
there-same e f g a b Yes h = h Yes

module _ (P : List Cell → Type 0) (one two : List Cell → List Cell) (same : (a b : List Cell) → P a → P b → same_cells (one a) (one b) ≡ same_cells (two a) (two b)) where
  keyed : (List Cell → List Cell) → Bag → Bag
  keyed key xs = bind xs (λ c. unit (key c))

  often : (a : List Cell) → P a → (xs : Bag) → AllRows P xs → multiplicity same_cells (one a) (bind xs (λ c. unit (one c))) ≡ multiplicity same_cells (two a) (bind xs (λ c. unit (two c)))
  often a p [] h = refl
  often a p (x ∷ xs) h =
      ap₂ ◌+◌
      (there-same 0 (λ k level. cond (same_cells k (one a)) 1 0) (λ k level. cond (same_cells k (two a)) 1 0) (one x.cells) (two x.cells) (least x.level Yes)
      (λ l. ap (λ b. cond b 1 0) (same x.cells a h.0 p)))
      (often a p xs h.1)

  module _ {U : Type 0} (f g : List Cell → List (Row U)) (alike : (a : List Cell) → P a → f (one a) ≡ g (two a)) where
    given : (a : List Cell) → P a → (b : Bool) → bind (cond b (unit (one a)) []) f ≡ bind (cond b (unit (two a)) []) g
    given a p true = unit-bind (one a) f ∙ alike a p ∙ sym (unit-bind (two a) g)
    given a p false = refl

    first : (a : List Cell) → P a → (l : Level) (m n : ℕ) → m ≡ n → bind (if_there [] (λ c l. cond (nat_eq m 0) (unit c) []) (one a) l) f ≡ bind (if_there [] (λ c l. cond (nat_eq n 0) (unit c) []) (two a) l) g
    first a p No m n h = refl
    first a p Cardinality m n h = given a p (nat_eq m 0) ∙ ap (λ z. bind (cond (nat_eq z 0) (unit (two a)) []) g) h
    first a p Division m n h = given a p (nat_eq m 0) ∙ ap (λ z. bind (cond (nat_eq z 0) (unit (two a)) []) g) h
    first a p Overflow m n h = given a p (nat_eq m 0) ∙ ap (λ z. bind (cond (nat_eq z 0) (unit (two a)) []) g) h
    first a p Yes m n h = given a p (nat_eq m 0) ∙ ap (λ z. bind (cond (nat_eq z 0) (unit (two a)) []) g) h

    if_once : (List Cell → List Cell) → List Cell → Level → Bag → Bag
    if_once key a l rest = if_there [] (λ c l. cond (nat_eq (multiplicity same_cells c rest) 0) (unit c) []) (key a) l

    once-first : (key : List Cell → List Cell) (a : List Cell) (l : Level) (rest : Bag) → if_there [] (λ c l. cond (nat_eq (multiplicity same_cells c rest) 0) (unit c) []) (key a) l ≡ if_there [] (λ c l. cond (nat_eq (multiplicity same_cells (key a) rest) 0) (unit c) []) (key a) l
    once-first key a l rest = there-same [] (λ c l. cond (nat_eq (multiplicity same_cells c rest) 0) (unit c) []) (λ c l. cond (nat_eq (multiplicity same_cells (key a) rest) 0) (unit c) []) (key a) (key a) l (λ m. refl)

    pub once-alike : (xs : Bag) → AllRows P xs → bind (once same_cells (bind xs (λ c. unit (one c)))) f ≡ bind (once same_cells (bind xs (λ c. unit (two c)))) g
    once-alike [] h = refl
    once-alike (x ∷ xs) h =
        let ys = bind xs (λ c. unit (one c)) in
        let zs = bind xs (λ c. unit (two c)) in
        let l = least x.level Yes in
        bind-append (if_there [] (λ c l. cond (nat_eq (multiplicity same_cells c ys) 0) (unit c) []) (one x.cells) l) (once same_cells ys) f
        ∙ ap₂ (λ a b. a ++ b)
        (ap (λ z. bind z f) (once-first one x.cells l ys) ∙ first x.cells h.0 l (multiplicity same_cells (one x.cells) ys) (multiplicity same_cells (two x.cells) zs) (often x.cells h.0 xs h.1)
        ∙ ap (λ z. bind z g) (sym (once-first two x.cells l zs)))
        (once-alike xs h.1)
        ∙ sym (bind-append (if_there [] (λ c l. cond (nat_eq (multiplicity same_cells c zs) 0) (unit c) []) (two x.cells) l) (once same_cells zs) g)

  pub group-alike : (a : List Cell) → P a → (xs : Bag) → AllRows P xs → of_group same_cells one (one a) xs ≡ of_group same_cells two (two a) xs
  group-alike a p xs h =
      bind-all P xs (λ c. cond (same_cells (one c) (one a)) (unit c) []) (λ c. cond (same_cells (two c) (two a)) (unit c) []) h (λ c q. ap (λ b. cond b (unit c) []) (same c a q p))

-- ---- rows that are read through a change

module _ (low : List Cell → List Cell) (key after : List Cell → List Cell) (reads : (a : List Cell) → after (low a) ≡ key a) where
  pub keys-after : (xs : Bag) → bind (bind xs (λ a. unit (low a))) (λ c. unit (after c)) ≡ bind xs (λ a. unit (key a))
  keys-after xs = bind-bind xs (λ a. unit (low a)) (λ c. unit (after c)) ∙ ap (bind xs) (fun_ext (λ a. unit-bind (low a) (λ c. unit (after c)) ∙ ap unit (reads a)))

  one-after : (b : Bool) (a : List Cell) → bind (cond b (unit a) []) (λ x. unit (low x)) ≡ cond b (unit (low a)) []
  one-after true a = unit-bind a (λ x. unit (low x))
  one-after false a = refl

  pub group-after : (c : List Cell) (xs : Bag) → of_group same_cells after c (bind xs (λ a. unit (low a))) ≡ bind (of_group same_cells key c xs) (λ a. unit (low a))
  group-after c xs =
      bind-bind xs (λ a. unit (low a)) (λ r. cond (same_cells (after r) c) (unit r) [])
      ∙ ap (bind xs) (fun_ext (λ a. unit-bind (low a) (λ r. cond (same_cells (after r) c) (unit r) [])
      ∙ ap (λ z. cond (same_cells z c) (unit (low a)) []) (reads a) ∙ sym (one-after (same_cells (key a) c) a)))
      ∙ sym (bind-bind xs (λ a. cond (same_cells (key a) c) (unit a) []) (λ a. unit (low a)))

  pub errors-after : (P : List Cell → Type 0) (held : List Cell → Option Kind) (other : List Cell → Option Kind) → ((a : List Cell) → P a → held (low a) ≡ other a)
      → (xs : Bag) → AllRows P xs → error_among held (bind xs (λ a. unit (low a))) ≡ error_among other xs
  errors-after P held other h [] w = refl
  errors-after P held other h (x ∷ xs) w =
      ap₂ worst_of
      (ap (if_there None (λ c l. worst_of (error_at l) (held c)) (low x.cells)) (least-yes x.level)
      ∙ there-same None (λ c l. worst_of (error_at l) (held c)) (λ c l. worst_of (error_at l) (other c)) (low x.cells) x.cells x.level (λ l. ap (worst_of (error_at l)) (h x.cells w.0)))
      (errors-after P held other h xs w.1)

  pub many-after : (xs : Bag) → how_many (bind xs (λ a. unit (low a))) ≡ how_many xs
  many-after [] = refl
  many-after (x ∷ xs) =
      ap₂ ◌+◌ (ap (if_there 0 (λ c l. 1) (low x.cells)) (least-yes x.level) ∙ there-same 0 (λ c l. 1) (λ c l. 1) (low x.cells) x.cells x.level (λ l. refl)) (many-after xs)

-- ---- aggregates

-- what a row holds where it is filled up
abbrev pub filler : List Cell → List Cell
filler [] = Int (pos 1) ∷ []
filler (x ∷ xs) = []

module _ (known : List ℕ → Bag) where
  -- the aggregates of a block, one by one
  abbrev pub totals : List Leaf → Group (List Cell) → List Cell
  totals [] group = []
  totals (sub f kind x ∷ ls) group = totals ls group
  totals (fold f distinct x ∷ ls) group = aggregated f distinct (λ cells. k.value known x (cells ∷ []) no_group) group ∷ totals ls group
  totals (count ∷ ls) group = count_all group ∷ totals ls group

  folds-total : (q : ℕ) (env : Environment) (low : List Cell → List Cell) (g : Bag) (ls : List Leaf) (j : ℕ) (pre rest : List Cell → List Cell) → ((a : List Cell) → low a ≡ pre a ++ (arguments known ls a ++ rest a)) → ((a : List Cell) → j ≡ suc (length (pre a)))
      → map (fold_cell q env (bind g (λ a. unit (low a)))) (fold_terms q j ls) ≡ totals ls (members g)
  folds-total q env low g [] j pre rest h e = refl
  folds-total q env low g (sub f kind x ∷ ls) j pre rest h e = folds-total q env low g ls j pre rest h e
  folds-total q env low g (fold f distinct x ∷ ls) j pre rest h e =
      let v : List Cell → Cell = λ a. k.value known x (a ∷ []) no_group in
      ap₂ (λ a b. a ∷ b)
      (folds-same f distinct (bind (bind g (λ a. unit (low a))) (λ c. unit (value nothing (t.col q j) (bound q c env))))
      ∙ ap (of_arguments f distinct)
      (bind-bind g (λ a. unit (low a)) (λ c. unit (value nothing (t.col q j) (bound q c env)))
      ∙ ap (bind g) (fun_ext (λ a. unit-bind (low a) (λ c. unit (value nothing (t.col q j) (bound q c env)))
      ∙ ap unit (ap (cell_of j) (row-same q (low a) env ∙ h a) ∙ cell-prefix (pre a) (v a) (arguments known ls a ++ rest a) j (e a))))))
      (folds-total q env low g ls (suc j) (λ a. pre a ++ v a ∷ []) rest (λ a. h a ∙ sym (append_assoc (pre a) (v a ∷ []) (arguments known ls a ++ rest a))) (λ a. ap suc (e a ∙ sym (push-length (pre a) (v a)))))
  folds-total q env low g (count ∷ ls) j pre rest h e =
      ap₂ (λ a b. a ∷ b) (ap count_cell (many-after low low (λ c. c) (λ a. refl) g)) (folds-total q env low g ls j pre rest h e)

  -- ---- a group box

  refs-prefix : (q : ℕ) (env : Environment) (pre xs rest : List Cell) (j : ℕ) → row_of q env ≡ pre ++ (xs ++ rest) → j ≡ suc (length pre) → seen_in env (refs q j (length xs)) ≡ xs
  refs-prefix q env pre [] rest j h e = refl
  refs-prefix q env pre (x ∷ xs) rest j h e =
      ap₂ (λ a b. a ∷ b) (ap (cell_of j) h ∙ cell-prefix pre x (xs ++ rest) j e)
      (refs-prefix q env (pre ++ x ∷ []) xs rest (suc j) (h ∙ sym (append_assoc pre (x ∷ []) (xs ++ rest))) (ap suc (e ∙ sym (push-length pre x))))

  take-columns : (q j n : ℕ) (zs : List Term) → take n (columns_of q j n ++ zs) ≡ columns_of q j n
  take-columns q j zero zs = refl
  take-columns q j (suc n) zs = ap (λ b. t.col q j ∷ b) (take-columns q (suc j) n zs)

  drop-columns : (q j n : ℕ) (zs : List Term) → drop n (columns_of q j n ++ zs) ≡ zs
  drop-columns q j zero zs = refl
  drop-columns q j (suc n) zs = drop-columns q (suc j) n zs

  padded-filler : (xs : List Cell) → padded (Int (pos 1)) xs ≡ xs ++ filler xs
  padded-filler [] = refl
  padded-filler (x ∷ xs) = sym (append-nil (x ∷ xs))

  module _ (places : List ℕ) (ls : List Leaf) where
    abbrev pub low : List Cell → List Cell
    low a = padded (Int (pos 1)) (picked places a ++ arguments known ls a)

    abbrev pub rest : List Cell → List Cell
    rest a = filler (picked places a ++ arguments known ls a)

    low-parts : (a : List Cell) → low a ≡ picked places a ++ (arguments known ls a ++ rest a)
    low-parts a = padded-filler (picked places a ++ arguments known ls a) ∙ append_assoc (picked places a) (arguments known ls a) (filler (picked places a ++ arguments known ls a))

    abbrev pub head_of : ℕ → List Term
    head_of q = columns_of q 1 (length places) ++ fold_terms q (suc (length places)) ls

    module _ (q : ℕ) (env : Environment) where
      abbrev key' : List Cell → List Cell
      key' = key_cells (length places) (head_of q) q env

      key-low : (a : List Cell) → key' (low a) ≡ picked places a
      key-low a =
          ap (λ hs. head_cells nothing hs (bound q (low a) env)) (take-columns q 1 (length places) (fold_terms q (suc (length places)) ls))
          ∙ refs-head nothing (bound q (low a) env) (refs q 1 (length places))
          ∙ ap (λ n. seen_in (bound q (low a) env) (refs q 1 n)) (sym (map-length (λ place. get_or a place Null) places))
          ∙ refs-prefix q (bound q (low a) env) [] (picked places a) (arguments known ls a ++ rest a) 1 (row-same q (low a) env ∙ low-parts a) refl

      folds-low : (g : Bag) → fold_cells (length places) (head_of q) q env (bind g (λ a. unit (low a))) ≡ totals ls (members g)
      folds-low g =
          ap (map (fold_cell q env (bind g (λ a. unit (low a))))) (drop-columns q 1 (length places) (fold_terms q (suc (length places)) ls))
          ∙ folds-total q env low g ls (suc (length places)) (picked places) rest low-parts (λ a. ap suc (sym (map-length (λ place. get_or a place Null) places)))

      module _ {U : Type 0} (w : ℕ) (X : Bag) (wide : Wide w X) (f : Grouped (List Cell) → List (Row U)) (g : List Cell → List (Row U))
          (alike : (a : List Cell) → length a ≡ w → (rows : Bag) → f (one_group (masked_from 0 places a) (members rows)) ≡ g (picked places a ++ totals ls (members rows)))
          (failing : (kind : Kind) → f (one_group (masked_from 0 places (replicate w (Err kind))) (failed kind)) ≡ g (map (λ _. Err kind) places ++ totals ls (failed kind))) where
        abbrev L : Bag
        L = bind X (λ a. unit (low a))

        grouped-alike : bind (grouped same_cells (masked_from 0 places) (λ key rows. one_group key (members rows)) X) f ≡ bind (grouped same_cells key' (λ key rows. key ++ fold_cells (length places) (head_of q) q env rows) L) g
        grouped-alike =
            let mask = masked_from 0 places in
            let pick = picked places in
            let keys : Bag = bind X (λ c. unit (mask c)) in
            bind-bind (once same_cells keys) (λ key. unit (one_group key (members (of_group same_cells mask key X)))) f
            ∙ ap (bind (once same_cells keys)) (fun_ext (λ key. unit-bind (one_group key (members (of_group same_cells mask key X))) f))
            ∙ once-alike (λ a. length a ≡ w) mask pick (λ a b. same-key places w a b) (λ key. f (one_group key (members (of_group same_cells mask key X)))) (λ key. g (key ++ totals ls (members (of_group same_cells pick key X))))
            (λ a p. ap (λ rows. f (one_group (mask a) (members rows))) (group-alike (λ a. length a ≡ w) mask pick (λ a b. same-key places w a b) a p X wide) ∙ alike a p (of_group same_cells pick (pick a) X)) X wide
            ∙ ap (λ ks. bind (once same_cells ks) (λ key. g (key ++ totals ls (members (of_group same_cells pick key X))))) (sym (keys-after low pick key' key-low X))
            ∙ ap (bind (once same_cells (bind L (λ c. unit (key' c))))) (fun_ext (λ key.
            ap (λ cells. g (key ++ cells)) (sym (ap (fold_cells (length places) (head_of q) q env) (group-after low pick key' key-low key X) ∙ folds-low (of_group same_cells pick key X)))
            ∙ sym (unit-bind (key ++ fold_cells (length places) (head_of q) q env (of_group same_cells key' key L)) g)))
            ∙ sym (bind-bind (once same_cells (bind L (λ c. unit (key' c)))) (λ key. unit (key ++ fold_cells (length places) (head_of q) q env (of_group same_cells key' key L))) g)

        collapse : {A B : Type 0} (one : Kind → A) (two : Kind → B) (xs : List (Row A)) (ys : List (Row B)) (o p : Option Kind) (u : A → List (Row U)) (v : B → List (Row U)) → o ≡ p
            → ((kind : Kind) → u (one kind) ≡ v (two kind)) → bind xs u ≡ bind ys v → bind (error_or_bag one o xs) u ≡ bind (error_or_bag two p ys) v
        collapse one two xs ys o p u v e h k = ap (λ z. bind (error_or_bag one z xs) u) e ∙ by_case p
          where
            by_case : (p : Option Kind) → bind (error_or_bag one p xs) u ≡ bind (error_or_bag two p ys) v
            by_case None = k
            by_case (Some kind) = ap (λ rows. keep (level_of kind) rows ++ []) (h kind)

        same-error : error_among (λ cells. error_in (masked_from 0 places cells)) X ≡ error_among (λ cells. error_in (key' cells)) L
        same-error =
            sym (errors-after low (picked places) key' key-low (λ a. length a ≡ w) (λ cells. error_in (key' cells)) (λ cells. error_in (masked_from 0 places cells))
            (λ a p. ap error_in (key-low a) ∙ sym (same-errors places a)) X wide)

      replicate-append : (a b : ℕ) (x : Cell) → replicate (a + b) x ≡ replicate a x ++ replicate b x
      replicate-append zero b x = let e : 0 + b ≡ b = omega arith in ap (λ n. replicate n x) e
      replicate-append (suc a) b x = let e : suc a + b ≡ suc (a + b) = omega arith in ap (λ n. replicate n x) e ∙ ap (λ z. x ∷ z) (replicate-append a b x)

      replicate-map : (ps : List ℕ) (x : Cell) → replicate (length ps) x ≡ map (λ _. x) ps
      replicate-map [] x = refl
      replicate-map (p ∷ ps) x = ap (λ z. x ∷ z) (replicate-map ps x)

      failed-totals : (more : List Leaf) (j : ℕ) (kind : Kind) → replicate (length (fold_terms q j more)) (Err kind) ≡ totals more (failed kind)
      failed-totals [] j kind = refl
      failed-totals (sub f b x ∷ more) j kind = failed-totals more j kind
      failed-totals (fold f distinct x ∷ more) j kind = ap (λ z. Err kind ∷ z) (failed-totals more (suc j) kind)
      failed-totals (count ∷ more) j kind = ap (λ z. Err kind ∷ z) (failed-totals more j kind)

      head-length : (n j : ℕ) (zs : List Term) → length (columns_of q j n ++ zs) ≡ n + length zs
      head-length zero j zs = let e : length zs ≡ 0 + length zs = omega arith in e
      head-length (suc n) j zs = let e : suc (n + length zs) ≡ suc n + length zs = omega arith in ap suc (head-length n (suc j) zs) ∙ e

      failed-row : (kind : Kind) → failed_cells (length (head_of q)) kind ≡ map (λ _. Err kind) places ++ totals ls (failed kind)
      failed-row kind =
          ap (λ n. replicate n (Err kind)) (head-length (length places) 1 (fold_terms q (suc (length places)) ls))
          ∙ replicate-append (length places) (length (fold_terms q (suc (length places)) ls)) (Err kind)
          ∙ ap₂ (λ a b. a ++ b) (replicate-map places (Err kind)) (failed-totals ls (suc (length places)) kind)

  nulls-masked : (i n : ℕ) → masked_from i [] (replicate n Null) ≡ replicate n Null
  nulls-masked i zero = refl
  nulls-masked i (suc n) = ap (λ b. Null ∷ b) (nulls-masked (i + 1) n)

  -- the groups of a block, seen by what follows, are those of the box
  pub groups-bind : {U : Type 0} (by : Option (List ℕ)) (ls : List Leaf) (q : ℕ) (env : Environment) → HasKey by → (w : ℕ) (X : Bag) → Wide w X → (f : Grouped (List Cell) → List (Row U)) (g : List Cell → List (Row U))
      → ((a : List Cell) → length a ≡ w → (rows : Bag) → f (one_group (masked_from 0 (key_places by) a) (members rows)) ≡ g (picked (key_places by) a ++ totals ls (members rows)))
      → ((kind : Kind) → f (one_group (masked_from 0 (key_places by) (replicate w (Err kind))) (failed kind)) ≡ g (map (λ _. Err kind) (key_places by) ++ totals ls (failed kind)))
      → bind (k.groups by w X) f ≡ bind (grouped_rows (length (key_places by)) (head_of (key_places by) ls q) q env (bind X (λ a. unit (low (key_places by) ls a)))) g
  groups-bind None ls q env has w X wide f g alike failing =
      let L : Bag = bind X (λ a. unit (low [] ls a)) in
      collapse [] ls q env w X wide f g alike failing (λ kind. one_group (masked_from 0 [] (replicate w (Err kind))) (failed kind)) (failed_cells (length (head_of [] ls q)))
      (unit (one_group (replicate w Null) (members X))) (unit (fold_cells 0 (head_of [] ls q) q env L))
      (error_among (λ cells. error_in (masked_from 0 [] cells)) X) (error_among (λ cells. error_in (key_cells 0 (head_of [] ls q) q env cells)) L) f g
      (same-error [] ls q env w X wide f g alike failing) (λ kind. failing kind ∙ ap g (sym (failed-row [] ls q env kind)))
      (unit-bind (one_group (replicate w Null) (members X)) f
      ∙ ap (λ key. f (one_group key (members X))) (sym (nulls-masked 0 w))
      ∙ alike (replicate w Null) (replicate-length w Null) X ∙ ap g (sym (folds-low [] ls q env X))
      ∙ sym (unit-bind (fold_cells 0 (head_of [] ls q) q env L) g))
  groups-bind (Some []) ls q env has w X wide f g alike failing = absurd has
  groups-bind (Some (p ∷ ps)) ls q env has w X wide f g alike failing =
      let places = p ∷ ps in
      let L : Bag = bind X (λ a. unit (low places ls a)) in
      collapse places ls q env w X wide f g alike failing (λ kind. one_group (masked_from 0 places (replicate w (Err kind))) (failed kind)) (failed_cells (length (head_of places ls q)))
      (grouped same_cells (masked_from 0 places) (λ key rows. one_group key (members rows)) X) (groups (length places) (head_of places ls q) q env L)
      (error_among (λ cells. error_in (masked_from 0 places cells)) X) (error_among (λ cells. error_in (key_cells (length places) (head_of places ls q) q env cells)) L) f g
      (same-error places ls q env w X wide f g alike failing) (λ kind. failing kind ∙ ap g (sym (failed-row places ls q env kind)))
      (grouped-alike places ls q env w X wide f g alike failing)

  -- ---- the rows of a group box don't depend on the number of its quantifier

  refs-free : (q : ℕ) (env : Environment) (cells : List Cell) (j n : ℕ) → head_cells nothing (columns_of q j n) (bound q cells env) ≡ head_cells nothing (columns_of 0 j n) (bound 0 cells [])
  refs-free q env cells j zero = refl
  refs-free q env cells j (suc n) = ap₂ (λ a b. a ∷ b) (ap (cell_of j) (row-same q cells env ∙ sym (row-same 0 cells []))) (refs-free q env cells (suc j) n)

  folds-free : (q : ℕ) (env : Environment) (rows : Bag) (j : ℕ) (ls : List Leaf) → map (fold_cell q env rows) (fold_terms q j ls) ≡ map (fold_cell 0 [] rows) (fold_terms 0 j ls)
  folds-free q env rows j [] = refl
  folds-free q env rows j (sub f kind x ∷ ls) = folds-free q env rows j ls
  folds-free q env rows j (fold f distinct x ∷ ls) =
      ap₂ (λ a b. a ∷ b)
      (ap (λ (h : List Cell → List (Row Cell)). folded (aggregate_of (aggregate f)) (taken_of (taken distinct)) (bind rows h)) (fun_ext (λ (c : List Cell). ap (λ row. unit (cell_of j row)) (row-same q c env ∙ sym (row-same 0 c [])))))
      (folds-free q env rows (suc j) ls)
  folds-free q env rows j (count ∷ ls) = ap (λ b. count_cell (how_many rows) ∷ b) (folds-free q env rows j ls)

  module _ (places : List ℕ) (ls : List Leaf) (q : ℕ) (env : Environment) where
    key-free : (cells : List Cell) → key_cells (length places) (head_of places ls q) q env cells ≡ key_cells (length places) (head_of places ls 0) 0 [] cells
    key-free cells =
        ap (λ hs. head_cells nothing hs (bound q cells env)) (take-columns q 1 (length places) (fold_terms q (suc (length places)) ls))
        ∙ refs-free q env cells 1 (length places)
        ∙ sym (ap (λ hs. head_cells nothing hs (bound 0 cells [])) (take-columns 0 1 (length places) (fold_terms 0 (suc (length places)) ls)))

    cells-free : (rows : Bag) → fold_cells (length places) (head_of places ls q) q env rows ≡ fold_cells (length places) (head_of places ls 0) 0 [] rows
    cells-free rows =
        ap (map (fold_cell q env rows)) (drop-columns q 1 (length places) (fold_terms q (suc (length places)) ls))
        ∙ folds-free q env rows (suc (length places)) ls
        ∙ sym (ap (map (fold_cell 0 [] rows)) (drop-columns 0 1 (length places) (fold_terms 0 (suc (length places)) ls)))

    by-free : (n : ℕ) → n ≡ length places → (rows : Bag) → groups n (head_of places ls q) q env rows ≡ groups n (head_of places ls 0) 0 [] rows
    by-free zero h rows = ap unit (subst (λ n. fold_cells n (head_of places ls q) q env rows ≡ fold_cells n (head_of places ls 0) 0 [] rows) (sym h) (cells-free rows))
    by-free (suc n) h rows =
        ap₂ (λ key folds. grouped same_cells key (λ k members. k ++ folds members) rows)
        (fun_ext (λ cells. subst (λ n. key_cells n (head_of places ls q) q env cells ≡ key_cells n (head_of places ls 0) 0 [] cells) (sym h) (key-free cells)))
        (fun_ext (λ (members : Bag). subst (λ n. fold_cells n (head_of places ls q) q env members ≡ fold_cells n (head_of places ls 0) 0 [] members) (sym h) (cells-free members)))

    pub group-free : (rows : Bag) → grouped_rows (length places) (head_of places ls q) q env rows ≡ group_rows known places ls rows
    group-free rows =
        ap₂ (λ key result. error_or_bag (failed_cells (length (head_of places ls q))) (error_among (λ cells. error_in (key cells)) rows) result) (fun_ext key-free) (by-free (length places) refl rows)
        ∙ ap (λ tuple. error_or_bag tuple (error_among (λ cells. error_in (key_cells (length places) (head_of places ls 0) 0 [] cells)) rows) (groups (length places) (head_of places ls 0) 0 [] rows))
        (fun_ext (λ kind. failed-row places ls q env kind ∙ sym (failed-row places ls 0 [] kind)))
