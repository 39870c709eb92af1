-- Groups, of which one takes a row more.
use Rattle.std.proofs.Common.{◌≡◌, ℕ, zero, suc, ◌+◌, ◌<◌, ◌≤◌, min, nat_eq, eqb-true, true, false, cond, List, [], ◌∷◌, ◌++◌, map, length, get_or, set, append-nil, take, All, Some, refl, sym, ap, ap₂, ◌∙◌, subst, arith, inl, inr}
use Rattle.std.specs.Prelude.{option_map, slice_get}
use Rattle.std.proofs.Math.Seq.{map-set_same}
use Rattle.std.proofs.lemmas.Bool.{cases_Bool, eqb-false}
use Rattle.std.proofs.lemmas.Grind.{get_or-set_at}
use Rattle.std.proofs.lemmas.List.{get_or-set_other, get_or_append_left, get_or_push, length-set, length_push, map_push}
use Rattle.std.proofs.lemmas.List.Elements.{All-push}
use Rattle.std.proofs.lemmas.Option.{slice_get-get_or, slice_get-map}
use Rattle.sql_value.specs.declared.cell.Cell.{Cell}
use Rattle.sql_value.specs.declared.cell.Cell.TheVariants.{Null}
use Rattle.sql_value.specs.declared.level.Level.{Level}
use Rattle.sql_value.specs.declared.level.Level.TheVariants.{No, Cardinality, Division, Overflow, Yes}
use Rattle.row_bag.specs.Bags.{Agree, Alike, at_yes, bind, if_there, row, same_level, unit}
use Rattle.row_bag.specs.Groups.{keys_of, rows_of}
use Rattle.row_bag.specs.Matched.{often}
use Rattle.row_bag.specs.Sets.{multiplicity, same_cells}
use Rattle.row_bag.specs.Verdict.{is_there, those_there}
use Rattle.row_bag.specs.declared.row.Row.{Row}
use Rattle.row_bag.proofs.Agreement.{alike-bind, alike-refl, alike-same, alike-sym, alike-trans, sum-monoid}
use Rattle.row_bag.proofs.Answered.{alike-there}
use Rattle.row_bag.proofs.Binds.{bind-append}
use Rattle.row_bag.proofs.Counts.{alike-from_agree}
use Rattle.row_bag.proofs.Entering.{often-some}
use Rattle.row_bag.proofs.FoldLaws.{folded-alike, many-alike}
use Rattle.row_bag.proofs.Folds.{fold_map-append}
use Rattle.row_bag.proofs.Grouping.{count-yes, none-weight, tally, tally-is}
use Rattle.row_bag.proofs.Indexed.{some-same}
use Rattle.row_bag.proofs.Keeping.{often-push}
use Rattle.row_bag.proofs.Levels.{least-yes}
use Rattle.row_bag.proofs.SetLaws.{count-once, grouped-alike}
use Rattle.row_bag.proofs.TupleBags.{same_cells-decides}
use Rattle.row_bag.specs.Aggregates.{count_cell}
use Rattle.group_states.specs.Folds.{cell_of}
use Rattle.group_states.specs.Groups.{AreAfter, AreGroups, Bag, HasRows, IsGroup, argument, cells_from, group_of, groups_of}
use Rattle.group_states.specs.declared.fold.Fold.{Fold}
use Rattle.group_states.specs.declared.fold.Fold.TheVariants.{Rows, Of, Nothing}
use Rattle.group_states.specs.declared.state.State.{State}
use Rattle.group_states.specs.declared.keyed.KeyedStates.{KeyedStates}
use Rattle.group_states.specs.declared.table.GroupTable.{GroupTable}

abbrev pub Tuple : Type 0
Tuple = List Cell

abbrev pub key : KeyedStates → Tuple
key g = g.key.items

-- the keys of rows
abbrev keyed : ℕ → Bag → Bag
keyed n rows = bind rows (λ cells. unit (take n cells))

-- a tuple that stands once has one place
once-place : (c : Tuple) (ts : List Tuple) (j k : ℕ) → often c ts ≤ 1 → slice_get ts j ≡ Some c → slice_get ts k ≡ Some c → j ≡ k
once-place c [] j k once p q = absurd (cc p)
once-place c (t ∷ ts) zero zero once p q = refl
once-place c (t ∷ ts) zero (suc k) once p q =
    let one : ◌≡◌ {A = ℕ} (cond (same_cells t c) 1 0) 1 = ap (λ b. cond b 1 0) ((same_cells-decides t c).1 (some-same t c p)) in
    let more = often-some c ts k q in
    absurd (omega (arith, one, more, once))
once-place c (t ∷ ts) (suc j) zero once p q =
    let one : ◌≡◌ {A = ℕ} (cond (same_cells t c) 1 0) 1 = ap (λ b. cond b 1 0) ((same_cells-decides t c).1 (some-same t c q)) in
    let more = often-some c ts j p in
    absurd (omega (arith, one, more, once))
once-place c (t ∷ ts) (suc j) (suc k) once p q = ap (λ n. suc n) (once-place c ts j k (omega (arith, once)) p q)

-- ---- rows that are there

pub there-pushed : (rows : Bag) (r : Row Tuple) → is_there r ≡ true → those_there (rows ++ r ∷ []) ≡ those_there rows ++ r ∷ []
there-pushed [] r is = rw is refl
there-pushed (x ∷ rows) r is = elim (is_there x) as (λ b. cond b (x ∷ those_there (rows ++ r ∷ [])) (those_there (rows ++ r ∷ [])) ≡ cond b (x ∷ those_there rows) (those_there rows) ++ r ∷ []) [
  | true ↦ ap (λ (t : Bag). x ∷ t) (there-pushed rows r is)
  | false ↦ there-pushed rows r is
]

pub absent-pushed : (rows : Bag) (r : Row Tuple) → is_there r ≡ false → those_there (rows ++ r ∷ []) ≡ those_there rows
absent-pushed [] r is = rw is refl
absent-pushed (x ∷ rows) r is = elim (is_there x) as (λ b. cond b (x ∷ those_there (rows ++ r ∷ [])) (those_there (rows ++ r ∷ [])) ≡ cond b (x ∷ those_there rows) (those_there rows)) [
  | true ↦ ap (λ (t : Bag). x ∷ t) (absent-pushed rows r is)
  | false ↦ absent-pushed rows r is
]

-- ---- rows of a key

rows-own : (n : ℕ) (k : Tuple) (rows : Bag) (r : Row Tuple) → same_cells (take n r.cells) k ≡ true → rows_of n k (rows ++ r ∷ []) ≡ rows_of n k rows ++ r ∷ []
rows-own n k rows r is = bind-append rows (r ∷ []) (λ c. cond (same_cells (take n c) k) (unit c) []) ∙ ap (λ (t : Bag). rows_of n k rows ++ t) (rw is (ap (λ l. row r.cells l ∷ []) (least-yes r.level)))

rows-other : (n : ℕ) (k : Tuple) (rows : Bag) (r : Row Tuple) → same_cells (take n r.cells) k ≡ false → rows_of n k (rows ++ r ∷ []) ≡ rows_of n k rows
rows-other n k rows r other = bind-append rows (r ∷ []) (λ c. cond (same_cells (take n c) k) (unit c) []) ∙ ap (λ (t : Bag). rows_of n k rows ++ t) (rw other refl) ∙ append-nil (rows_of n k rows)

weight : (n : ℕ) (k c : Tuple) (l : Level) → is_there (row c l) ≡ true → ◌≡◌ {A = ℕ} (if_there 0 (λ c l. cond (same_cells (take n c) k) 1 0) c l) (cond (same_cells (take n c) k) 1 0)
weight n k c No h = cc h
weight n k c Cardinality h = refl
weight n k c Division h = refl
weight n k c Overflow h = refl
weight n k c Yes h = refl

-- how often a key stands among those of rows, one row more
often-more : (n : ℕ) (k : Tuple) (rows : Bag) (r : Row Tuple) → is_there r ≡ true → multiplicity same_cells k (keyed n (rows ++ r ∷ [])) ≡ multiplicity same_cells k (keyed n rows) + cond (same_cells (take n r.cells) k) 1 0
often-more n k rows r is =
    let one = weight n k r.cells r.level is in
    let pushed : tally n k (rows ++ r ∷ []) ≡ tally n k rows + tally n k (r ∷ []) = fold_map-append sum-monoid (λ (r : Row Tuple). if_there 0 (λ c l. cond (same_cells (take n c) k) 1 0) r.cells r.level) rows (r ∷ []) in
    let all = tally-is n k (rows ++ r ∷ []) in
    let before = tally-is n k rows in
    omega (arith, one, pushed, all, before)

-- a key that is none has no rows
pub none-there : (n : ℕ) (k : Tuple) (rows : Bag) → tally n k (those_there rows) ≡ 0 → rows_of n k (those_there rows) ≡ []
none-there n k [] h = refl
none-there n k (r ∷ rows) h = by r.cells r.level h (none-there n k rows)
  where
    first : (c : Tuple) (l : Level) (xs : Bag) → is_there (row c l) ≡ true → tally n k (row c l ∷ xs) ≡ 0 → (tally n k xs ≡ 0 → rows_of n k xs ≡ []) → rows_of n k (row c l ∷ xs) ≡ []
    first c l xs is h rest = elim (cases_Bool (same_cells (take n c) k)) [
      | inl same ↦
          let one = weight n k c l is ∙ ap (λ b. cond b 1 0) same in
          absurd (omega (arith, one, h))
      | inr other ↦ rw other (rest (let none = none-weight n k c l other in omega (arith, none, h)))
    ]

    by : (c : Tuple) (l : Level) → tally n k (those_there (row c l ∷ rows)) ≡ 0 → (tally n k (those_there rows) ≡ 0 → rows_of n k (those_there rows) ≡ []) → rows_of n k (those_there (row c l ∷ rows)) ≡ []
    by c No h rest = rest h
    by c Cardinality h rest = first c Cardinality (those_there rows) refl h rest
    by c Division h rest = first c Division (those_there rows) refl h rest
    by c Overflow h rest = first c Overflow (those_there rows) refl h rest
    by c Yes h rest = first c Yes (those_there rows) refl h rest

-- ---- a row more

module _ (n : ℕ) (folds : List Fold) (rows : Bag) (groups : List KeyedStates) (r : Row Tuple) (some : is_there r ≡ true) (so : AreGroups n folds rows groups) where
  abbrev more : Bag
  more = rows ++ r ∷ []

  key-at : (j : ℕ) (d : KeyedStates) → j < length groups → slice_get (map key groups) j ≡ Some (key (get_or groups j d))
  key-at j d within = slice_get-map key groups j ∙ ap (option_map key) (slice_get-get_or groups j d within)

  kept : (g : KeyedStates) → IsGroup n folds rows g → same_cells (take n r.cells) (key g) ≡ false → IsGroup n folds more g
  kept g is other = (is.0, subst (λ (t : Bag). AreAfter n t g.states.items) (sym (rows-other n (key g) rows r other)) is.1)

  pub entered-found : (k : ℕ) (old new : KeyedStates) → k < length groups → slice_get (map key groups) k ≡ Some (take n r.cells) → old ≡ get_or groups k old → key new ≡ key old
      → map (λ (s : State). s.fold) new.states.items ≡ map (λ (s : State). s.fold) old.states.items
      → ((rs : Bag) → AreAfter n rs old.states.items → AreAfter n (rs ++ r ∷ []) new.states.items)
      → AreGroups n folds more (set groups k new)
  entered-found k old new inside found is ek ef step = record {
    own = λ j d within. elim (cases_Bool (nat_eq j k)) [
      | inl same ↦ rw (get_or-set_at groups k j new d (eqb-true j k same) inside) now
      | inr other ↦
          let within' : j < length groups = rw (length-set groups k new) at within in
          rw (get_or-set_other groups k j new d (eqb-false j k other)) (kept (get_or groups j d) (so.own j d within') (apart j d within' (eqb-false j k other)))
    ];
    keys = λ c. ap (often c) same-keys ∙ so.keys c ∙ counted c;
  }
    where
      mine : key old ≡ take n r.cells
      mine = ap key is ∙ some-same (key (get_or groups k old)) (take n r.cells) (sym (key-at k old inside) ∙ found)

      same-keys : map key (set groups k new) ≡ map key groups
      same-keys = map-set_same key groups k new old (ek ∙ ap key is)

      before : IsGroup n folds rows old
      before = subst (IsGroup n folds rows) (sym is) (so.own k old inside)

      now : IsGroup n folds more new
      now = (
        ef ∙ before.0,
        subst (λ (t : Bag). AreAfter n t new.states.items) (sym (ap (λ (u : Tuple). rows_of n u more) ek ∙ rows-own n (key old) rows r ((same_cells-decides (take n r.cells) (key old)).1 (sym mine)))) (step (rows_of n (key old) rows) before.1),
      )

      once : (c : Tuple) → often c (map key groups) ≤ 1
      once c = let e = so.keys c in omega (arith, e)

      apart : (j : ℕ) (d : KeyedStates) → j < length groups → (j ≡ k → ⊥) → same_cells (take n r.cells) (key (get_or groups j d)) ≡ false
      apart j d within not = elim (cases_Bool (same_cells (take n r.cells) (key (get_or groups j d)))) [
        | inl same ↦
            let e : take n r.cells ≡ key (get_or groups j d) = (same_cells-decides (take n r.cells) (key (get_or groups j d))).0 same in
            absurd (not (once-place (take n r.cells) (map key groups) j k (once (take n r.cells)) (key-at j d within ∙ ap (λ (t : Tuple). Some t) (sym e)) found))
        | inr other ↦ other
      ]

      counted : (c : Tuple) → min 1 (multiplicity same_cells c (keyed n rows)) ≡ min 1 (multiplicity same_cells c (keyed n more))
      counted c = elim (cases_Bool (same_cells (take n r.cells) c)) [
        | inl same ↦
            let stands = often-some c (map key groups) k (found ∙ ap (λ (t : Tuple). Some t) ((same_cells-decides (take n r.cells) c).0 same)) in
            let e = so.keys c in
            let m = often-more n c rows r some ∙ ap (λ b. multiplicity same_cells c (keyed n rows) + cond b 1 0) same in
            omega (arith, stands, e, m)
        | inr other ↦
            let m = often-more n c rows r some ∙ ap (λ b. multiplicity same_cells c (keyed n rows) + cond b 1 0) other in
            omega (arith, m)
      ]

  pub entered-new : (g : KeyedStates) → key g ≡ take n r.cells → map (λ (s : State). s.fold) g.states.items ≡ folds → AreAfter n (r ∷ []) g.states.items
      → often (take n r.cells) (map key groups) ≡ 0 → rows_of n (take n r.cells) rows ≡ []
      → AreGroups n folds more (groups ++ g ∷ [])
  entered-new g ek ef after none empty = record {
    own = All-push (IsGroup n folds more) groups g others now;
    keys = λ c. ap (often c) (map_push key groups g) ∙ often-push c (map key groups) (key g) ∙ counted c;
  }
    where
      now : IsGroup n folds more g
      now = (
        ef,
        subst (λ (t : Bag). AreAfter n t g.states.items)
            (sym (rows-own n (key g) rows r ((same_cells-decides (take n r.cells) (key g)).1 (sym ek)) ∙ ap (λ (t : Bag). t ++ r ∷ []) (ap (λ (u : Tuple). rows_of n u rows) ek ∙ empty)))
            after,
      )

      others : All (IsGroup n folds more) groups
      others j d within = kept (get_or groups j d) (so.own j d within) (apart j d within)
        where
          apart : (j : ℕ) (d : KeyedStates) → j < length groups → same_cells (take n r.cells) (key (get_or groups j d)) ≡ false
          apart j d within = elim (cases_Bool (same_cells (take n r.cells) (key (get_or groups j d)))) [
            | inl same ↦
                let e : take n r.cells ≡ key (get_or groups j d) = (same_cells-decides (take n r.cells) (key (get_or groups j d))).0 same in
                let stands = often-some (take n r.cells) (map key groups) j (key-at j d within ∙ ap (λ (t : Tuple). Some t) (sym e)) in
                absurd (omega (arith, none, stands))
            | inr other ↦ other
          ]

      counted : (c : Tuple) → often c (map key groups) + cond (same_cells (key g) c) 1 0 ≡ min 1 (multiplicity same_cells c (keyed n more))
      counted c = elim (cases_Bool (same_cells (take n r.cells) c)) [
        | inl same ↦
            let zero : often c (map key groups) ≡ 0 = ap (λ (t : Tuple). often t (map key groups)) (sym ((same_cells-decides (take n r.cells) c).0 same)) ∙ none in
            let e = so.keys c in
            let m = often-more n c rows r some ∙ ap (λ b. multiplicity same_cells c (keyed n rows) + cond b 1 0) same in
            let one : ◌≡◌ {A = ℕ} (cond (same_cells (key g) c) 1 0) 1 = ap (λ (t : Tuple). cond (same_cells t c) 1 0) ek ∙ ap (λ b. cond b 1 0) same in
            omega (arith, zero, e, m, one)
        | inr other ↦
            let e = so.keys c in
            let m = often-more n c rows r some ∙ ap (λ b. multiplicity same_cells c (keyed n rows) + cond b 1 0) other in
            let one : ◌≡◌ {A = ℕ} (cond (same_cells (key g) c) 1 0) 0 = ap (λ (t : Tuple). cond (same_cells t c) 1 0) ek ∙ ap (λ b. cond b 1 0) other in
            omega (arith, e, m, one)
      ]

-- a key of no group has no row
pub no-rows : (n : ℕ) (folds : List Fold) (rows : Bag) (groups : List KeyedStates) (k : Tuple) → AreGroups n folds (those_there rows) groups → often k (map key groups) ≡ 0 → rows_of n k (those_there rows) ≡ []
no-rows n folds rows groups k so none =
    let e = so.keys k in
    let m = tally-is n k (those_there rows) in
    none-there n k rows (omega (arith, e, m, none))

-- ---- at the end

over-groups : (n : ℕ) (folds : List Fold) (rows : Bag) (groups : List KeyedStates)
    → at_yes (map (λ (g : KeyedStates). group_of n folds (key g) (rows_of n (key g) rows)) groups) ≡ bind (at_yes (map key groups)) (λ k. unit (group_of n folds k (rows_of n k rows)))
over-groups n folds rows [] = refl
over-groups n folds rows (g ∷ groups) = ap (λ (t : Bag). row (group_of n folds (key g) (rows_of n (key g) rows)) Yes ∷ t) (over-groups n folds rows groups)

keys-agree : (n : ℕ) (folds : List Fold) (rows : Bag) (groups : List KeyedStates) → AreGroups n folds rows groups → Agree same_cells (at_yes (map key groups)) (keys_of n rows)
keys-agree n folds rows groups so = record {
  counts = λ c l some. count-yes c l (map key groups) ∙ ap (λ m. cond (same_level Yes l) m 0) (so.keys c) ∙ sym (count-once same_cells same_cells-decides c l (keyed n rows));
}

arguments-bound : (k : ℕ) (rows : Bag) → map (argument k) rows ≡ bind rows (λ cells. unit (get_or cells k Null))
arguments-bound k [] = refl
arguments-bound k (r ∷ rows) = ap₂ (λ (l : Level) (rest : List (Row Cell)). row (get_or r.cells k Null) l ∷ rest) (sym (least-yes r.level)) (arguments-bound k rows)

cell-alike : (f : Fold) (xs ys : List (Row Cell)) → Alike xs ys → cell_of f xs ≡ cell_of f ys
cell-alike Rows xs ys h = ap count_cell (many-alike xs ys h)
cell-alike (Of f each) xs ys h = folded-alike f each xs ys h
cell-alike Nothing xs ys h = refl

cells-alike : (k : ℕ) (folds : List Fold) (xs ys : Bag) → Alike xs ys → cells_from k folds xs ≡ cells_from k folds ys
cells-alike k [] xs ys h = refl
cells-alike k (f ∷ folds) xs ys h =
    ap₂ (λ (c : Cell) (cells : List Cell). c ∷ cells)
    (cell-alike f (map (argument k) xs) (map (argument k) ys) (alike-trans (alike-same (arguments-bound k xs)) (alike-trans (alike-bind h (λ c. alike-refl (unit (get_or c k Null)))) (alike-same (sym (arguments-bound k ys))))))
    (cells-alike (k + 1) folds xs ys h)

pub groups-made : (n : ℕ) (folds : List Fold) (rows : Bag) (groups : List KeyedStates) → AreGroups n folds (those_there rows) groups
    → Alike (at_yes (map (λ (g : KeyedStates). group_of n folds (key g) (rows_of n (key g) (those_there rows))) groups)) (groups_of n folds rows)
groups-made n folds rows groups so =
    alike-trans (alike-same (over-groups n folds (those_there rows) groups))
    (alike-trans (alike-bind (alike-from_agree same_cells same_cells-decides (keys-agree n folds (those_there rows) groups so)) (λ k. alike-refl (unit (group_of n folds k (rows_of n k (those_there rows))))))
    (grouped-alike same_cells same_cells-decides (take n) (group_of n folds) (λ k xs ys h. ap (λ (cells : List Cell). k ++ cells) (cells-alike n folds xs ys h)) (alike-sym (alike-there rows))))

at-yes-more : (f : KeyedStates → Tuple) (xs : List KeyedStates) (x : KeyedStates) → at_yes (map f (xs ++ x ∷ [])) ≡ at_yes (map f xs) ++ row (f x) Yes ∷ []
at-yes-more f [] x = refl
at-yes-more f (y ∷ xs) x = ap (λ (b : Bag). row (f y) Yes ∷ b) (at-yes-more f xs x)

-- a group more has been gone through
pub made-more : (n : ℕ) (folds : List Fold) (rows : Bag) (done : List KeyedStates) (g : KeyedStates) (made new : Bag) (r : Row Tuple) → new ≡ made ++ r ∷ [] → r.level ≡ Yes
    → ((m : ℕ) (rs : Bag) → AreAfter m rs g.states.items → r.cells ≡ group_of m (map (λ (s : State). s.fold) g.states.items) (key g) rs)
    → (All (IsGroup n folds rows) done → made ≡ at_yes (map (λ (g : KeyedStates). group_of n folds (key g) (rows_of n (key g) rows)) done))
    → All (IsGroup n folds rows) (done ++ g ∷ []) → new ≡ at_yes (map (λ (g : KeyedStates). group_of n folds (key g) (rows_of n (key g) rows)) (done ++ g ∷ []))
made-more n folds rows done g made new r pushed level cells before all =
    pushed
    ∙ ap₂ (λ (b : Bag) (x : Row Tuple). b ++ x ∷ []) (before others) (ap₂ (λ (c : Tuple) (l : Level). row c l) (cells n (rows_of n (key g) rows) own.1 ∙ ap (λ (fs : List Fold). group_of n fs (key g) (rows_of n (key g) rows)) own.0) level)
    ∙ sym (at-yes-more (λ (g : KeyedStates). group_of n folds (key g) (rows_of n (key g) rows)) done g)
  where
    long : length (done ++ g ∷ []) ≡ length done + 1
    long = length_push done g

    others : All (IsGroup n folds rows) done
    others j d within = subst (IsGroup n folds rows) (get_or_append_left done (g ∷ []) d j within) (all j d (omega (arith, long, within)))

    own : IsGroup n folds rows g
    own = subst (IsGroup n folds rows) (get_or_push done g g (length done) refl) (all (length done) g (omega (arith, long)))

-- ---- a table, one row more

pub table-absent : (n : ℕ) (folds : List Fold) (rows : Bag) (t : GroupTable) (r : Row Tuple) → is_there r ≡ false → HasRows n folds rows t → HasRows n folds (rows ++ r ∷ []) t
table-absent n folds rows t r is so = record {
  many = so.many;
  asked = so.asked;
  groups = subst (λ (xs : Bag). AreGroups n folds xs t.groups.items) (sym (absent-pushed rows r is)) so.groups;
}

pub table-more : (n : ℕ) (folds asked : List Fold) (rows : Bag) (t new : GroupTable) (r : Row Tuple) → is_there r ≡ true → asked ≡ t.folds.items → new.keys ≡ t.keys → new.folds.items ≡ t.folds.items
    → ((rs : Bag) → AreGroups t.keys asked (those_there rs) t.groups.items → AreGroups t.keys asked (those_there rs ++ r ∷ []) new.groups.items)
    → HasRows n folds rows t → HasRows n folds (rows ++ r ∷ []) new
table-more n folds asked rows t new r is ea ek ef step so =
    let same : asked ≡ folds = ea ∙ so.asked in
    let before : AreGroups t.keys asked (those_there rows) t.groups.items =
    subst (λ (fs : List Fold). AreGroups t.keys fs (those_there rows) t.groups.items) (sym same) (subst (λ (m : ℕ). AreGroups m folds (those_there rows) t.groups.items) (sym so.many) so.groups) in
    let after : AreGroups n folds (those_there rows ++ r ∷ []) new.groups.items =
    subst (λ (m : ℕ). AreGroups m folds (those_there rows ++ r ∷ []) new.groups.items) so.many (subst (λ (fs : List Fold). AreGroups t.keys fs (those_there rows ++ r ∷ []) new.groups.items) same (step rows before)) in
    record {
      many = ek ∙ so.many;
      asked = ef ∙ so.asked;
      groups = subst (λ (xs : Bag). AreGroups n folds xs new.groups.items) (sym (there-pushed rows r is)) after;
    }
