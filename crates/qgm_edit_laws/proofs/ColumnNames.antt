-- What boxes name where a quantifier loses a column: its later columns go down by one, and all else stays.
use Rattle.std.proofs.Common.{ℕ, ◌==◌, ◌≡◌, ◌&&◌, ◌-◌, not, nat_lt, cond, Bool, true, false, List, [], ◌∷◌, ◌++◌, map, take, drop, length, refl, sym, ap, ap₂, subst, ◌∙◌, inl, inr}
use Rattle.std.specs.Prelude.{nat_le}
use Rattle.std.specs.List.{flat_map, list_all, list_any}
use Rattle.std.proofs.lemmas.Bool.{and_parts, or_cases, or_left, or_parts, or_right}
use Rattle.std.proofs.lemmas.List.{drop-map, take-map}
use Rattle.qgm_core.specs.declared.node.Node.{Node}
use Rattle.qgm_core.specs.Edits.{shift_node}
use Rattle.list_laws.specs.Lists.{In}
use Rattle.qgm_terms.specs.Gathered.{Search, gathered, gathered_arms, gathered_cond, listed_arms}
use Rattle.qgm_terms.specs.Named.{columns_in, columns_in_cond, names_in, nodes_in, nodes_in_cond}
use Rattle.qgm_terms.specs.Named as named
use Rattle.qgm_terms.specs.Shift.{shifted, shifted_arms, shifted_cond, shifted_place}
use Rattle.qgm_terms.specs.Terms.{Term, int, text, null_int, null_text, col, both, minus_of, choose, count_all, fold, scalar, Arms, no_arm, arm, Cond, always, compare, is_null, and, or, some, every}
use Rattle.qgm_terms.specs.Terms as t
use Rattle.qgm_terms.specs.Wanted.{any_in, any_in_cond, has_aggregate, reads, wanted}
use Rattle.qgm_terms.specs.declared.named.Column.{Column}
use Rattle.qgm_terms.specs.declared.sought.Sought.TheVariants.{Aggregate}
use Rattle.qgm_wellformed.specs.Columns.{columns_of}
use Rattle.qgm_wellformed.specs.Shapes.{head_folds, head_is_own, is_aggregate, is_column, nodes_of}
use Rattle.qgm_core.specs.Boxes.{owns}
use Rattle.qgm_edit_laws.specs.FormedAdds.{of_column, types_asked}
use Rattle.qgm_edit_laws.proofs.AnyPut.{conds-more, heads-more}
use Rattle.qgm_edit_laws.proofs.Column.{place_each, shift_each}
use Rattle.qgm_edit_laws.proofs.Edits.{length-map, map-append}
use Rattle.qgm_edit_laws.proofs.Naming.{heads-shift, term-shift}
use Rattle.qgm_edit_laws.proofs.Read.{at_all, at_cond, columns-found, is_at}
use Rattle.qgm_edit_laws.proofs.PutTypes.{all-put}
use Rattle.list_laws.proofs.Membership.{in-map}
use Rattle.list_laws.proofs.Booleans.{clash}

-- ---- lists

flat-same : {X Y : Type 0} (f : X → List Y) (h : X → X) → ((x : X) → f (h x) ≡ f x) → (xs : List X) → flat_map f (map h xs) ≡ flat_map f xs
flat-same f h e [] = refl
flat-same f h e (x ∷ xs) = ap₂ (λ u v. u ++ v) (e x) (flat-same f h e xs)

flat-moved : {X Y : Type 0} (f : X → List Y) (h : X → X) (m : Y → Y) → ((x : X) → f (h x) ≡ map m (f x)) → (xs : List X) → flat_map f (map h xs) ≡ map m (flat_map f xs)
flat-moved f h m e [] = refl
flat-moved f h m e (x ∷ xs) = ap₂ (λ u v. u ++ v) (e x) (flat-moved f h m e xs) ∙ sym (map-append m (f x) (flat_map f xs))

-- ---- what is gathered of anything but the places of columns stays

module _ {A : Type 0} (none : A) (with : A → A → A) (s : Search A) (unplaced : (r i j : ℕ) → s.at_column r i ≡ s.at_column r j) (p k : ℕ) where
  mutual
    term-gathered : (x : Term) → gathered none with s (shifted p k x) ≡ gathered none with s x
    term-gathered (int n) = refl
    term-gathered (text v) = refl
    term-gathered null_int = refl
    term-gathered null_text = refl
    term-gathered (col r j) = unplaced r (shifted_place p k r j) j
    term-gathered (both o x y) = ap₂ with (term-gathered x) (term-gathered y)
    term-gathered (minus_of x) = term-gathered x
    term-gathered (choose a x) = ap₂ with (arms-gathered a) (term-gathered x)
    term-gathered count_all = refl
    term-gathered (fold f u x) = ap s.at_aggregate (term-gathered x)
    term-gathered (scalar r) = refl

    arms-gathered : (a : Arms) → gathered_arms none with s (shifted_arms p k a) ≡ gathered_arms none with s a
    arms-gathered no_arm = refl
    arms-gathered (arm c x a) = ap₂ with (cond-gathered c) (ap₂ with (term-gathered x) (arms-gathered a))

    cond-gathered : (c : Cond) → gathered_cond none with s (shifted_cond p k c) ≡ gathered_cond none with s c
    cond-gathered always = refl
    cond-gathered (compare sign x y) = ap₂ with (term-gathered x) (term-gathered y)
    cond-gathered (is_null x) = term-gathered x
    cond-gathered (and c d) = ap₂ with (cond-gathered c) (cond-gathered d)
    cond-gathered (or c d) = ap₂ with (cond-gathered c) (cond-gathered d)
    cond-gathered (t.not c) = cond-gathered c
    cond-gathered (some r c) = ap (s.at_some r) (cond-gathered c)
    cond-gathered (every r c) = ap (s.at_every r) (cond-gathered c)

module _ (p k : ℕ) where
  -- the quantifiers that cells name, and the scalars, somes and everys of a box
  pub own-shift : (n : Node) → head_is_own (shift_node k p n) ≡ head_is_own n
  own-shift n = ap (list_all (λ q. owns q n)) (flat-same names_in (shifted p k) (term-gathered [] (λ x y. x ++ y) named.names (λ r i j. refl) p k) n.parts.head)

  pub nodes-shift : (n : Node) → nodes_of (shift_node k p n) ≡ nodes_of n
  nodes-shift n = ap₂ (λ u v. u ++ v)
      (flat-same nodes_in (shifted p k) (term-gathered [] (λ x y. x ++ y) named.nodes (λ r i j. refl) p k) n.parts.head)
      (flat-same nodes_in_cond (shifted_cond p k) (cond-gathered [] (λ x y. x ++ y) named.nodes (λ r i j. refl) p k) n.parts.conds.items)

  -- ---- columns

  abbrev moved : Column → Column
  moved d = record { quant = d.quant; place = shifted_place p k d.quant d.place }

  joined : (xs ys xs' ys' : List Column) → xs' ≡ map moved xs → ys' ≡ map moved ys → xs' ++ ys' ≡ map moved (xs ++ ys)
  joined xs ys xs' ys' e f = ap₂ (λ u v. u ++ v) e f ∙ sym (map-append moved xs ys)

  mutual
    term-moved : (x : Term) → columns_in (shifted p k x) ≡ map moved (columns_in x)
    term-moved (int n) = refl
    term-moved (text v) = refl
    term-moved null_int = refl
    term-moved null_text = refl
    term-moved (col r j) = refl
    term-moved (both o x y) = joined (columns_in x) (columns_in y) (columns_in (shifted p k x)) (columns_in (shifted p k y)) (term-moved x) (term-moved y)
    term-moved (minus_of x) = term-moved x
    term-moved (choose a x) = joined (listed_arms named.columns a) (columns_in x) (listed_arms named.columns (shifted_arms p k a)) (columns_in (shifted p k x)) (arms-moved a) (term-moved x)
    term-moved count_all = refl
    term-moved (fold f u x) = term-moved x
    term-moved (scalar r) = refl

    arms-moved : (a : Arms) → listed_arms named.columns (shifted_arms p k a) ≡ map moved (listed_arms named.columns a)
    arms-moved no_arm = refl
    arms-moved (arm c x a) =
        joined (columns_in_cond c) (columns_in x ++ listed_arms named.columns a) (columns_in_cond (shifted_cond p k c)) (columns_in (shifted p k x) ++ listed_arms named.columns (shifted_arms p k a)) (cond-moved c)
        (joined (columns_in x) (listed_arms named.columns a) (columns_in (shifted p k x)) (listed_arms named.columns (shifted_arms p k a)) (term-moved x) (arms-moved a))

    cond-moved : (c : Cond) → columns_in_cond (shifted_cond p k c) ≡ map moved (columns_in_cond c)
    cond-moved always = refl
    cond-moved (compare sign x y) = joined (columns_in x) (columns_in y) (columns_in (shifted p k x)) (columns_in (shifted p k y)) (term-moved x) (term-moved y)
    cond-moved (is_null x) = term-moved x
    cond-moved (and c d) = joined (columns_in_cond c) (columns_in_cond d) (columns_in_cond (shifted_cond p k c)) (columns_in_cond (shifted_cond p k d)) (cond-moved c) (cond-moved d)
    cond-moved (or c d) = joined (columns_in_cond c) (columns_in_cond d) (columns_in_cond (shifted_cond p k c)) (columns_in_cond (shifted_cond p k d)) (cond-moved c) (cond-moved d)
    cond-moved (t.not c) = cond-moved c
    cond-moved (some r c) = cond-moved c
    cond-moved (every r c) = cond-moved c

  columns-moved : (n : Node) → columns_of (shift_node k p n) ≡ map moved (columns_of n)
  columns-moved n = joined (flat_map columns_in n.parts.head) (flat_map columns_in_cond n.parts.conds.items) (flat_map columns_in (map (shifted p k) n.parts.head)) (flat_map columns_in_cond (map (shifted_cond p k) n.parts.conds.items))
      (flat-moved columns_in (shifted p k) moved term-moved n.parts.head)
      (flat-moved columns_in_cond (shifted_cond p k) moved cond-moved n.parts.conds.items)

  -- ---- cells

  column-shift : (x : Term) → is_column (shifted p k x) ≡ is_column x
  column-shift (int n) = refl
  column-shift (text v) = refl
  column-shift null_int = refl
  column-shift null_text = refl
  column-shift (col r j) = refl
  column-shift (both o x y) = refl
  column-shift (minus_of x) = refl
  column-shift (choose a x) = refl
  column-shift count_all = refl
  column-shift (fold f u x) = refl
  column-shift (scalar r) = refl

  aggregate-shift : (x : Term) → is_aggregate (shifted p k x) ≡ is_aggregate x
  aggregate-shift (int n) = refl
  aggregate-shift (text v) = refl
  aggregate-shift null_int = refl
  aggregate-shift null_text = refl
  aggregate-shift (col r j) = refl
  aggregate-shift (both o x y) = refl
  aggregate-shift (minus_of x) = refl
  aggregate-shift (choose a x) = refl
  aggregate-shift count_all = refl
  aggregate-shift (fold f u x) = ap not (term-shift p k (wanted Aggregate) (λ r i j. refl) x)
  aggregate-shift (scalar r) = refl

  pub all-columns-shift : (xs : List Term) → list_all is_column (map (shifted p k) xs) ≡ list_all is_column xs
  all-columns-shift xs = all-put is_column is_column (shifted p k) xs (λ x i. column-shift x)

  pub folds-shift : (keys : ℕ) (xs : List Term) → head_folds keys (map (shifted p k) xs) ≡ head_folds keys xs
  folds-shift keys xs =
      ap₂ (λ (l : ℕ) (b : Bool). nat_le keys l && not b && list_all is_aggregate (drop keys (map (shifted p k) xs))) (length-map (shifted p k) xs)
      (ap (list_any has_aggregate) (take-map (shifted p k) keys xs) ∙ heads-shift p k (wanted Aggregate) (λ r i j. refl) (take keys xs))
      ∙ ap (λ z. nat_le keys (length xs) && not (list_any has_aggregate (take keys xs)) && z) (ap (list_all is_aggregate) (drop-map (shifted p k) keys xs) ∙ all-put is_aggregate is_aggregate (shifted p k) (drop keys xs) (λ x i. aggregate-shift x))

  column-kept : (x : Term) → is_column x ≡ true → reads p x ≡ false → shifted p k x ≡ x
  column-kept (int n) h f = refl
  column-kept (text v) h f = refl
  column-kept null_int h f = refl
  column-kept null_text h f = refl
  column-kept (col r j) h f = ap (λ b. col r (cond (b && nat_lt k j) (j - 1) j)) f
  column-kept (both o x y) h f = absurd (let z : ⊥ = cc in z)
  column-kept (minus_of x) h f = absurd (let z : ⊥ = cc in z)
  column-kept (choose a x) h f = absurd (let z : ⊥ = cc in z)
  column-kept count_all h f = refl
  column-kept (fold g u x) h f = absurd (let z : ⊥ = cc in z)
  column-kept (scalar r) h f = refl

  -- columns of others stay
  pub columns-kept : (xs : List Term) → list_all is_column xs ≡ true → list_any (reads p) xs ≡ false → map (shifted p k) xs ≡ xs
  columns-kept [] h f = refl
  columns-kept (x ∷ xs) h f =
      let a = and_parts (is_column x) (list_all is_column xs) h in let b = or_parts (reads p x) (list_any (reads p) xs) f in
      ap₂ (λ (y : Term) (ys : List Term). y ∷ ys) (column-kept x a.0 b.0) (columns-kept xs a.1 b.1)

-- a column that a box names after it named before, at the place that it had
pub each-column : (k : ℕ) (qs : List ℕ) (n : Node) (d : Column) → In d (columns_of (shift_each k qs n)) → (c : Column) × (In c (columns_of n) × ((c.quant ≡ d.quant) × (place_each k qs c.quant c.place ≡ d.place)))
each-column k [] n d i = (d, (i, (refl, refl)))
each-column k (p ∷ qs) n d i =
    let x = each-column k qs (shift_node k p n) d i in
    let y = in-map (moved p k) x.0 (columns_of n) (subst (λ z. In x.0 z) (columns-moved p k n) x.1.0) in
    (y.0, (y.1.0, (ap (λ (c : Column). c.quant) y.1.1 ∙ x.1.1.0, ap (λ (c : Column). place_each k qs c.quant c.place) y.1.1 ∙ x.1.1.1)))

-- a box asks for the type of a column that it names
pub at-asked : (q k : ℕ) (n : Node) → list_any (is_at q k) (columns_of n) ≡ true → types_asked q k n ≡ true
at-asked q k n h = elim (or_cases (list_any (at_all q k) n.parts.head) (list_any (at_cond q k) n.parts.conds.items) (sym (columns-found q k n) ∙ h)) [
  | inl a ↦ or_left (list_any (any_in (of_column q k)) n.parts.head) (list_any (any_in_cond (of_column q k)) n.parts.conds.items) (heads-more (λ r j. (r == q) && (j == k)) (λ r j. (r == q) && (j == k)) (λ r. false) (λ r. (r == q) && (1 == k)) (λ r. false) (λ r. false) (λ r. true) (λ r. true) (λ r j h. h) (λ r h. absurd (let z : ⊥ = cc in z)) (λ r h. h) (λ r h. h) n.parts.head a)
  | inr a ↦ or_right (list_any (any_in (of_column q k)) n.parts.head) (list_any (any_in_cond (of_column q k)) n.parts.conds.items) (conds-more (λ r j. (r == q) && (j == k)) (λ r j. (r == q) && (j == k)) (λ r. false) (λ r. (r == q) && (1 == k)) (λ r. false) (λ r. false) (λ r. true) (λ r. true) (λ r j h. h) (λ r h. absurd (let z : ⊥ = cc in z)) (λ r h. h) (λ r h. h) n.parts.conds.items a)
]

-- a box names a column whose type it asks for, but for column 1 of a scalar
pub asked-column : (q k : ℕ) (n : Node) → (1 == k) ≡ false → types_asked q k n ≡ true → list_any (is_at q k) (columns_of n) ≡ true
asked-column q k n f h = columns-found q k n ∙ (elim (or_cases (list_any (any_in (of_column q k)) n.parts.head) (list_any (any_in_cond (of_column q k)) n.parts.conds.items) h) [
  | inl a ↦ or_left (list_any (at_all q k) n.parts.head) (list_any (at_cond q k) n.parts.conds.items) (heads-more (λ r j. (r == q) && (j == k)) (λ r j. (r == q) && (j == k)) (λ r. (r == q) && (1 == k)) (λ r. false) (λ r. false) (λ r. false) (λ r. true) (λ r. true) (λ r j h. h) none (λ r h. h) (λ r h. h) n.parts.head a)
  | inr a ↦ or_right (list_any (at_all q k) n.parts.head) (list_any (at_cond q k) n.parts.conds.items) (conds-more (λ r j. (r == q) && (j == k)) (λ r j. (r == q) && (j == k)) (λ r. (r == q) && (1 == k)) (λ r. false) (λ r. false) (λ r. false) (λ r. true) (λ r. true) (λ r j h. h) none (λ r h. h) (λ r h. h) n.parts.conds.items a)
])
  where
    none : (r : ℕ) → ((r == q) && (1 == k)) ≡ true → false ≡ true
    none r h = absurd (clash (1 == k) (and_parts (r == q) (1 == k) h).1 f)
