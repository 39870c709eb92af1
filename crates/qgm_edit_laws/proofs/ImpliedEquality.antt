-- An equality that follows from two others, of which the cell between is no error, may be added.
use Rattle.std.proofs.Common.{ℕ, ◌==◌, ◌≡◌, cond, Bool, true, false, List, ◌∷◌, map, Option, Some, None, refl, sym, ap, ap₂, subst, ◌∙◌, eqb-true, ◌⊎◌, inl, inr, take, []}
use Rattle.std.proofs.lemmas.Bool.{cases_Bool, or_parts}
use Rattle.std.specs.Ordering.{is_eq, ordering_reverse}
use Rattle.std.specs.declared.cmp.Ordering.{Ordering}
use Rattle.std.specs.declared.cmp.Ordering.TheVariants.{Less, Equal, Greater}
use Rattle.row_bag.specs.Bags.{Agree, Alike, bind, keep, unit}
use Rattle.row_bag.specs.Joins.{or_else}
use Rattle.row_bag.specs.Sets.{same_cells}
use Rattle.row_bag.specs.declared.tables.Table.{Table}
use Rattle.row_bag.proofs.Agreement.{alike-refl, alike-same, alike-trans}
use Rattle.row_bag.proofs.Counts.{agree-from_alike}
use Rattle.row_bag.proofs.FoldLaws.{or_else-alike}
use Rattle.row_bag.proofs.Levels.{least-associative, least-commutative, least-no, least-yes, no-least, yes-least}
use Rattle.sql_value.specs.Cells.{cell_compare, error_of, worst_of}
use Rattle.sql_value.specs.Comparison as c
use Rattle.sql_value.specs.Level.{least, level_of}
use Rattle.sql_value.specs.Truths as t
use Rattle.shared_types.specs.declared.compare.CmpOp.TheVariants as op
use Rattle.sql_value.specs.declared.cell.Cell.{Cell}
use Rattle.sql_value.specs.declared.cell.Cell.TheVariants.{Err, Int, Null, Text}
use Rattle.sql_value.specs.declared.cell.Kind.{Kind}
use Rattle.sql_value.specs.declared.cell.Kind.TheVariants as kind
use Rattle.sql_value.specs.declared.level.Level.{Level}
use Rattle.sql_value.specs.declared.level.Level.TheVariants.{No, Cardinality, Division, Overflow, Yes}
use Rattle.sql_value.specs.declared.truth.Truth.{Truth}
use Rattle.sql_value.proofs.Total.{cell-ties, cell-total}
use Rattle.qgm_core.specs.Boxes.{is_quant}
use Rattle.qgm_core.specs.Kinds.{is_enforce}
use Rattle.list_laws.specs.Lists.{In, first}
use Rattle.qgm_core.specs.declared.kinds.BoxKind.TheVariants.{OuterJoin}
use Rattle.qgm_core.specs.declared.node.Node.{Node}
use Rattle.qgm_core.specs.declared.owned.OwnedQuant.{OwnedQuant}
use Rattle.qgm_meaning.specs.Fits.{fits}
use Rattle.qgm_meaning.specs.Laws.{Stays, occurs}
use Rattle.qgm_meaning.specs.Meaning.{Family, bag_in, given, given_by, nothing, of_two, outer_rows, quant_rows, rows_by, rows_of}
use Rattle.qgm_meaning.specs.Values.{Bag, Environment, all_true, bound, head_cells, truth, value}
use Rattle.qgm_meaning.proofs.Alikes.{bind-within, once_if-alike}
use Rattle.qgm_meaning.proofs.Fitting.{hereditary}
use Rattle.qgm_meaning.proofs.Frames.{any-framed, bag-framed}
use Rattle.qgm_meaning.proofs.Joined.{all_true-append, unread}
use Rattle.qgm_meaning.proofs.Merged.{over_each-within}
use Rattle.qgm_meaning.specs.Scope.{loose, loose_by, loose_of, read_beyond, read_by, under_any}
use Rattle.qgm_terms.specs.Terms.{Cond, Term, col, compare, equal}
use Rattle.qgm_edit_laws.specs.Graph.{Sound}
use Rattle.qgm_edit_laws.proofs.OneBox.{at}
use Rattle.qgm_edit_laws.proofs.PartForms.{at-all}
use Rattle.qgm_edit_laws.proofs.Ranks.{same-box}
use Rattle.qgm_edit_laws.proofs.Rules.{same-agree}
use Rattle.qgm_edit_laws.proofs.Scope.{unfold-bag, unfold-loose}
use Rattle.qgm_edit_laws.specs.ImpliedEquality.{EqualFollows, Equates, NoError}
use Rattle.qgm_edit_laws.specs.ConjunctEdits.{more}
use Rattle.qgm_edit_laws.proofs.SiftedBags.{sifted-agree, stay-in}
use Rattle.list_laws.proofs.Membership.{any-from, eq-itself}

-- ---- levels

abbrev eq : Cell → Cell → Level
eq x y = (c.compare op.Eq x y).t

-- of two values
abbrev veq : Cell → Cell → Level
veq x y = (c.compare_values op.Eq x y).t

order-equal : (o : Ordering) → is_eq o ≡ true → o ≡ Equal
order-equal Less h = absurd (let z : ⊥ = cc in z)
order-equal Equal h = refl
order-equal Greater h = absurd (let z : ⊥ = cc in z)

reversed : (o : Ordering) → is_eq (ordering_reverse o) ≡ is_eq o
reversed Less = refl
reversed Equal = refl
reversed Greater = refl

turn : (x y : Cell) → is_eq (cell_compare x y) ≡ is_eq (cell_compare y x)
turn x y = ap is_eq (cell-total.antisymm x y) ∙ reversed (cell_compare y x)

abbrev level-of : Bool → Level
level-of true = Yes
level-of false = No

of-bool : (b : Bool) → (t.truth_of b).t ≡ level-of b
of-bool true = refl
of-bool false = refl

-- where two are equal, and the next two are as far as v, the outer two are
through : (b v w : Level) (p : Bool) → (p ≡ true → w ≡ v) → least (least (level-of p) v) w ≡ least (level-of p) v
through b v w true h = ap (λ z. least (least Yes v) z) (h refl) ∙ ap (λ z. least z v) (yes-least v) ∙ itself v ∙ sym (yes-least v)
  where
    itself : (l : Level) → least l l ≡ l
    itself No = refl
    itself Cardinality = refl
    itself Division = refl
    itself Overflow = refl
    itself Yes = refl
through b v w false h = ap (λ z. least z w) (no-least v) ∙ no-least w ∙ sym (no-least v)

-- nothing is true to the left
none-left : (v w : Level) → least (least No v) w ≡ least No v
none-left v w = ap (λ z. least z w) (no-least v) ∙ no-least w ∙ sym (no-least v)

none-right : (u w : Level) → least (least u No) w ≡ least u No
none-right u w = ap (λ z. least z w) (least-no u) ∙ no-least w ∙ sym (least-no u)

-- of values and nulls
values-through : (x m z : Cell) → error_of x ≡ None → error_of m ≡ None → error_of z ≡ None → least (least (veq x m) (veq m z)) (veq x z) ≡ least (veq x m) (veq m z)
values-through (Int a) (Int b) (Int d) i j l =
    ap (λ (u : Level). least (least u (veq (Int b) (Int d))) (veq (Int a) (Int d))) (of-bool (is_eq (cell_compare (Int a) (Int b))))
    ∙ through No (veq (Int b) (Int d)) (veq (Int a) (Int d)) (is_eq (cell_compare (Int a) (Int b))) (λ t. ap (λ z. veq z (Int d)) (cell-ties (Int a) (Int b) (order-equal (cell_compare (Int a) (Int b)) t)))
    ∙ ap (λ u. least u (veq (Int b) (Int d))) (sym (of-bool (is_eq (cell_compare (Int a) (Int b)))))
values-through (Int a) (Int b) (Text d) i j l = none-right (veq (Int a) (Int b)) No
values-through (Int a) (Int b) Null i j l = none-right (veq (Int a) (Int b)) No
values-through (Int a) (Text b) z i j l = none-left (veq (Text b) z) (veq (Int a) z)
values-through (Int a) Null z i j l = none-left (veq Null z) (veq (Int a) z)
values-through (Text a) (Text b) (Text d) i j l =
    ap (λ (u : Level). least (least u (veq (Text b) (Text d))) (veq (Text a) (Text d))) (of-bool (is_eq (cell_compare (Text a) (Text b))))
    ∙ through No (veq (Text b) (Text d)) (veq (Text a) (Text d)) (is_eq (cell_compare (Text a) (Text b))) (λ t. ap (λ z. veq z (Text d)) (cell-ties (Text a) (Text b) (order-equal (cell_compare (Text a) (Text b)) t)))
    ∙ ap (λ u. least u (veq (Text b) (Text d))) (sym (of-bool (is_eq (cell_compare (Text a) (Text b)))))
values-through (Text a) (Text b) (Int d) i j l = none-right (veq (Text a) (Text b)) No
values-through (Text a) (Text b) Null i j l = none-right (veq (Text a) (Text b)) No
values-through (Text a) (Int b) z i j l = none-left (veq (Int b) z) (veq (Text a) z)
values-through (Text a) Null z i j l = none-left (veq Null z) (veq (Text a) z)
values-through Null (Int b) z i j l = none-left (veq (Int b) z) (veq Null z)
values-through Null (Text b) z i j l = none-left (veq (Text b) z) (veq Null z)
values-through Null Null z i j l = none-left (veq Null z) (veq Null z)
values-through (Err k) m z i j l = absurd (let q : ⊥ = cc in q)
values-through (Int a) (Err k) z i j l = absurd (let q : ⊥ = cc in q)
values-through (Text a) (Err k) z i j l = absurd (let q : ⊥ = cc in q)
values-through Null (Err k) z i j l = absurd (let q : ⊥ = cc in q)
values-through (Int a) (Int b) (Err k) i j l = absurd (let q : ⊥ = cc in q)
values-through (Text a) (Text b) (Err k) i j l = absurd (let q : ⊥ = cc in q)

-- with errors on either side
errors-through : (o p : Option Kind) (u v w : Level) → (o ≡ None → p ≡ None → least (least u v) w ≡ least u v)
    → ((p ≡ None) → (v ≡ No) ⊎ (v ≡ Yes)) → ((o ≡ None) → (u ≡ No) ⊎ (u ≡ Yes))
    → least (least ((t.error_or (worst_of o None) (record { t = u; f = No })).t) ((t.error_or (worst_of None p) (record { t = v; f = No })).t)) ((t.error_or (worst_of o p) (record { t = w; f = No })).t)
    ≡ least ((t.error_or (worst_of o None) (record { t = u; f = No })).t) ((t.error_or (worst_of None p) (record { t = v; f = No })).t)
errors-through None None u v w h dv du = h refl refl
errors-through (Some j) None u v w h dv du = elim (dv refl) [
  | inl e ↦ ap (λ z. least (least (level_of j) z) (level_of j)) e ∙ none-right (level_of j) (level_of j) ∙ ap (λ z. least (level_of j) z) (sym e)
  | inr e ↦ ap (λ z. least (least (level_of j) z) (level_of j)) e ∙ by j ∙ ap (λ z. least (level_of j) z) (sym e)
]
  where
    by : (j : Kind) → least (least (level_of j) Yes) (level_of j) ≡ least (level_of j) Yes
    by kind.Cardinality = refl
    by kind.Division = refl
    by kind.Overflow = refl
errors-through None (Some j) u v w h dv du = elim (du refl) [
  | inl e ↦ ap (λ z. least (least z (level_of j)) (level_of j)) e ∙ none-left (level_of j) (level_of j) ∙ ap (λ z. least z (level_of j)) (sym e)
  | inr e ↦ ap (λ z. least (least z (level_of j)) (level_of j)) e ∙ by j ∙ ap (λ z. least z (level_of j)) (sym e)
]
  where
    by : (j : Kind) → least (least Yes (level_of j)) (level_of j) ≡ least Yes (level_of j)
    by kind.Cardinality = refl
    by kind.Division = refl
    by kind.Overflow = refl
errors-through (Some j) (Some l) u v w h dv du = by j l
  where
    by : (j l : Kind) → least (least (level_of j) (level_of l)) ((t.error_or (worst_of (Some j) (Some l)) (record { t = w; f = No })).t) ≡ least (level_of j) (level_of l)
    by kind.Cardinality kind.Cardinality = refl
    by kind.Cardinality kind.Division = refl
    by kind.Cardinality kind.Overflow = refl
    by kind.Division kind.Cardinality = refl
    by kind.Division kind.Division = refl
    by kind.Division kind.Overflow = refl
    by kind.Overflow kind.Cardinality = refl
    by kind.Overflow kind.Division = refl
    by kind.Overflow kind.Overflow = refl

-- only how far it is true
of-t : (o : Option Kind) (p : Truth) → (t.error_or o p).t ≡ (t.error_or o (record { t = p.t; f = No })).t
of-t None p = refl
of-t (Some k) p = refl

bool-decided : (b : Bool) → ((t.truth_of b).t ≡ No) ⊎ ((t.truth_of b).t ≡ Yes)
bool-decided true = inr refl
bool-decided false = inl refl

veq-decided : (x y : Cell) → (veq x y ≡ No) ⊎ (veq x y ≡ Yes)
veq-decided (Int a) (Int b) = bool-decided (is_eq (cell_compare (Int a) (Int b)))
veq-decided (Text a) (Text b) = bool-decided (is_eq (cell_compare (Text a) (Text b)))
veq-decided (Int a) (Text b) = inl refl
veq-decided (Int a) Null = inl refl
veq-decided (Int a) (Err k) = inl refl
veq-decided (Text a) (Int b) = inl refl
veq-decided (Text a) Null = inl refl
veq-decided (Text a) (Err k) = inl refl
veq-decided Null (Int b) = inl refl
veq-decided Null (Text b) = inl refl
veq-decided Null Null = inl refl
veq-decided Null (Err k) = inl refl
veq-decided (Err j) (Int b) = inl refl
veq-decided (Err j) (Text b) = inl refl
veq-decided (Err j) Null = inl refl
veq-decided (Err j) (Err k) = inl refl

veq-turn : (x y : Cell) → veq x y ≡ veq y x
veq-turn (Int a) (Int b) = ap (λ z. (t.truth_of z).t) (turn (Int a) (Int b))
veq-turn (Text a) (Text b) = ap (λ z. (t.truth_of z).t) (turn (Text a) (Text b))
veq-turn (Int a) (Text b) = refl
veq-turn (Int a) Null = refl
veq-turn (Int a) (Err k) = refl
veq-turn (Text a) (Int b) = refl
veq-turn (Text a) Null = refl
veq-turn (Text a) (Err k) = refl
veq-turn Null (Int b) = refl
veq-turn Null (Text b) = refl
veq-turn Null Null = refl
veq-turn Null (Err k) = refl
veq-turn (Err j) (Int b) = refl
veq-turn (Err j) (Text b) = refl
veq-turn (Err j) Null = refl
veq-turn (Err j) (Err k) = refl

worst-turn : (o p : Option Kind) → worst_of o p ≡ worst_of p o
worst-turn None None = refl
worst-turn None (Some k) = refl
worst-turn (Some j) None = refl
worst-turn (Some kind.Cardinality) (Some kind.Cardinality) = refl
worst-turn (Some kind.Cardinality) (Some kind.Division) = refl
worst-turn (Some kind.Cardinality) (Some kind.Overflow) = refl
worst-turn (Some kind.Division) (Some kind.Cardinality) = refl
worst-turn (Some kind.Division) (Some kind.Division) = refl
worst-turn (Some kind.Division) (Some kind.Overflow) = refl
worst-turn (Some kind.Overflow) (Some kind.Cardinality) = refl
worst-turn (Some kind.Overflow) (Some kind.Division) = refl
worst-turn (Some kind.Overflow) (Some kind.Overflow) = refl

pub eq-turn : (x y : Cell) → eq x y ≡ eq y x
eq-turn x y =
    of-t (worst_of (error_of x) (error_of y)) (c.compare_values op.Eq x y)
    ∙ ap₂ (λ (o : Option Kind) (v : Level). (t.error_or o (record { t = v; f = No })).t) (worst-turn (error_of x) (error_of y)) (veq-turn x y)
    ∙ sym (of-t (worst_of (error_of y) (error_of x)) (c.compare_values op.Eq y x))

-- as far as x = m and m = z are true, m being no error, x = z is
pub eq-through : (x m z : Cell) → error_of m ≡ None → least (least (eq x m) (eq m z)) (eq x z) ≡ least (eq x m) (eq m z)
eq-through x m z n =
    let a : eq x m ≡ (t.error_or (worst_of (error_of x) None) (record { t = veq x m; f = No })).t = of-t (worst_of (error_of x) (error_of m)) (c.compare_values op.Eq x m) ∙ ap (λ o. (t.error_or (worst_of (error_of x) o) (record { t = veq x m; f = No })).t) n in
    let b : eq m z ≡ (t.error_or (worst_of None (error_of z)) (record { t = veq m z; f = No })).t = of-t (worst_of (error_of m) (error_of z)) (c.compare_values op.Eq m z) ∙ ap (λ o. (t.error_or (worst_of o (error_of z)) (record { t = veq m z; f = No })).t) n in
    let d : eq x z ≡ (t.error_or (worst_of (error_of x) (error_of z)) (record { t = veq x z; f = No })).t = of-t (worst_of (error_of x) (error_of z)) (c.compare_values op.Eq x z) in
    ap₂ (λ (u v : Level). least u v) (ap₂ least a b) d
    ∙ errors-through (error_of x) (error_of z) (veq x m) (veq m z) (veq x z) (λ i j. values-through x m z i n j) (λ i. veq-decided m z) (λ i. veq-decided x m)
    ∙ sym (ap₂ least a b)

-- ---- conjuncts

-- a conjunct that is there adds nothing
absorbed : (rows : ℕ → Bag) (e : Environment) (p : Cond) (ps : List Cond) → In p ps → least (all_true rows ps e).t (truth rows p e).t ≡ (all_true rows ps e).t
absorbed rows e p [] i = elim i [ ]
absorbed rows e p (q ∷ ps) i = elim i [
  | inl h ↦ subst (λ z. least (least (truth rows q e).t (all_true rows ps e).t) (truth rows z e).t ≡ least (truth rows q e).t (all_true rows ps e).t) h (again (truth rows q e).t (all_true rows ps e).t)
  | inr j ↦ least-associative (truth rows q e).t (all_true rows ps e).t (truth rows p e).t ∙ ap (least (truth rows q e).t) (absorbed rows e p ps j)
]
  where
    itself : (l : Level) → least l l ≡ l
    itself No = refl
    itself Cardinality = refl
    itself Division = refl
    itself Overflow = refl
    itself Yes = refl

    again : (a b : Level) → least (least a b) a ≡ least a b
    again a b = least-commutative (least a b) a ∙ sym (least-associative a a b) ∙ ap (λ z. least z b) (itself a)

-- what is at most as true as two that are there
follows : (a u v w : Level) → least a u ≡ a → least a v ≡ a → least (least u v) w ≡ least u v → least a w ≡ a
follows a u v w hu hv h =
    let both : least a (least u v) ≡ a = sym (least-associative a u v) ∙ ap (λ z. least z v) hu ∙ hv in
    ap (λ z. least z w) (sym both) ∙ least-associative a (least u v) w ∙ ap (least a) h ∙ both

module _ (bs : List Node) (root : ℕ) (w : Sound bs root) (n : Node) (x : Term) (q k : ℕ) (z : Term) (c d : Cond) (m : EqualFollows bs n x q k z c d) (tables : List Table) (none : NoError tables bs q k) where
  abbrev f : Family
  f = bag_in tables bs

  abbrev p : Cond
  p = compare equal x z

  abbrev n' : Node
  n' = more p n

  abbrev fine : Environment → Bool
  fine e = fits (bag_in tables bs) bs e

  equated : (rows : ℕ → Bag) (e : Environment) (a b : Term) (h : Cond) → Equates a b h → (truth rows h e).t ≡ eq (value rows a e) (value rows b e)
  equated rows e a b h (inl r) = ap (λ y. (truth rows y e).t) r
  equated rows e a b h (inr r) = ap (λ y. (truth rows y e).t) r ∙ eq-turn (value rows b e) (value rows a e)

  level-same : (rows : ℕ → Bag) (e : Environment) → fine e ≡ true → (all_true rows n'.parts.conds.items e).t ≡ (all_true rows n.parts.conds.items e).t
  level-same rows e ok =
      all_true-append rows n.parts.conds.items (p ∷ []) e ∙ ap (least (all_true rows n.parts.conds.items e).t) (least-yes (truth rows p e).t)
      ∙ follows (all_true rows n.parts.conds.items e).t (truth rows c e).t (truth rows d e).t (truth rows p e).t (absorbed rows e c n.parts.conds.items m.first) (absorbed rows e d n.parts.conds.items m.second)
      (ap₂ (λ (u v : Level). least (least u v) (truth rows p e).t) (equated rows e x (col q k) c m.of_first) (equated rows e (col q k) z d m.of_second)
      ∙ eq-through (value rows x e) (value rows (col q k) e) (value rows z e) (none e ok)
      ∙ sym (ap₂ least (equated rows e x (col q k) c m.of_first) (equated rows e (col q k) z d m.of_second)))

  given-same : (rows : ℕ → Bag) (e : Environment) → fine e ≡ true → given rows n' e ≡ given rows n e
  given-same rows e ok = ap (λ l. keep l (unit (head_cells rows n.parts.head e))) (level-same rows e ok)

  stay : Stays fine (quant_rows n f) n.quants
  stay = stay-in fine f bs (hereditary f bs) n m.within

  -- an outer join binds the second where the first is bound
  outer-same : n.parts.kind ≡ OuterJoin → (rs : List OwnedQuant) → n.quants ≡ rs → (e : Environment) → fine e ≡ true → Alike (of_two rs (outer_rows n' (quant_rows n f) e)) (of_two rs (outer_rows n (quant_rows n f) e))
  outer-same o [] h e ok = alike-refl []
  outer-same o (a ∷ []) h e ok = alike-refl []
  outer-same o (a ∷ (b ∷ rs)) h e ok =
      bind-within (s a.id e) (both n') (both n) (λ u there. (
      let first : fine (bound a.id u e) ≡ true = st.0 e u (m.rows o a (in-n (inl refl))) ok there in
      or_else-alike (bind (s b.id e) (λ v. given nothing n' (bound b.id v (bound a.id u e)))) (bind (s b.id e) (λ v. given nothing n (bound b.id v (bound a.id u e)))) (unit (head_cells nothing n.parts.head (bound b.id [] (bound a.id u e))))
      (bind-within (s b.id e) (λ v. given nothing n' (bound b.id v (bound a.id u e))) (λ v. given nothing n (bound b.id v (bound a.id u e))) (λ v there. alike-same (given-same nothing (bound b.id v (bound a.id u e))
      (st.1.0 (bound a.id u e) v (m.rows o b (in-n (inr (inl refl)))) first (ap (occurs v) (beside u) ∙ there)))))))
    where
      s : Family
      s = quant_rows n f

      in-n : {r : OwnedQuant} → In r (a ∷ (b ∷ rs)) → In r n.quants
      in-n {r} i = subst (λ z. In r z) (sym h) i

      st : Stays fine (quant_rows n f) (a ∷ (b ∷ rs))
      st = subst (λ z. Stays fine (quant_rows n f) z) h stay

      both : Node → List Cell → Bag
      both y u = or_else (bind (quant_rows n f b.id e) (λ v. given nothing y (bound b.id v (bound a.id u e)))) (unit (head_cells nothing y.parts.head (bound b.id [] (bound a.id u e))))

      not-looked : under_any n.quants (loose bs) a.id ≡ false
      not-looked =
          let l : loose_of n (loose bs) a.id ≡ false = ap (λ (z : ℕ → Bool). z a.id) (sym (unfold-loose bs n w.ordered m.within)) ∙ w.settled n m.within a.id (any-from (is_quant a.id) a n.quants (in-n (inl refl)) (eq-itself a.id)) in
          (or_parts (under_any n.quants (loose bs) a.id) (read_beyond (take 2 n.quants) (read_by n) a.id) (subst (λ y. loose_by y n (loose bs) a.id ≡ false) o l)).0

      beside : (u : List Cell) → quant_rows n f b.id (bound a.id u e) ≡ quant_rows n f b.id e
      beside u = sym (any-framed n (bag_in tables bs) (loose bs) (bag-framed tables bs) b.id e (bound a.id u e) (unread (under_any n.quants (loose bs)) a.id u e not-looked))

  rows-alike : (e : Environment) → fine e ≡ true → Alike (rows_of tables n' f e) (rows_of tables n f e)
  rows-alike e ok = elim m.kind [
    | inl s ↦
        alike-trans (alike-same (ap (λ y. rows_by y tables n' (quant_rows n f) e) s))
        (alike-trans (once_if-alike (is_enforce n.parts.distinct) (over_each-within fine (quant_rows n f) (given_by (quant_rows n f) n') (given_by (quant_rows n f) n) n.quants stay (λ e ok. alike-same (given-same (λ q. quant_rows n f q e) e ok)) e ok))
        (alike-same (sym (ap (λ y. rows_by y tables n (quant_rows n f) e) s))))
    | inr o ↦
        alike-trans (alike-same (ap (λ y. rows_by y tables n' (quant_rows n f) e) o))
        (alike-trans (outer-same o n.quants refl e ok)
        (alike-same (sym (ap (λ y. rows_by y tables n (quant_rows n f) e) o))))
  ]

  abbrev g : Node → Node
  g = at n.id (more p)

  cases : (y : Node) → In y bs → ((y ≡ n) × (g y ≡ n')) ⊎ (g y ≡ y)
  cases y i = elim (cases_Bool (y.id == n.id)) [
    | inl t ↦ (let e : y ≡ n = same-box bs y n w.ordered i m.within (eqb-true y.id n.id t) in inl (e, ap g e ∙ ap (λ (z : Bool). cond z n' n) (eq-itself n.id)))
    | inr t ↦ inr (ap (λ (z : Bool). cond z (more p y) y) t)
  ]

  pub equal-agree : Sound (map (at n.id (more (compare equal x z))) bs) root → Agree same_cells (bag_in tables (map (at n.id (more (compare equal x z))) bs) root []) (bag_in tables bs root [])
  equal-agree after = sifted-agree bs root w tables (λ x. None) g (λ y. at-all n.id (more p) (λ z. z.id) (λ z. refl) y) (λ y i. at-all n.id (more p) (λ z. z.quants) (λ z. refl) y) after refl
      (λ y i e ok. elim (cases y i) [
        | inl h ↦ subst (λ (u : Node). Agree same_cells (rows_of tables (g y) f e) (f u.id e)) (sym h.0) (subst (λ u. Agree same_cells (rows_of tables u f e) (f n.id e)) (sym h.1)
            (agree-from_alike same_cells (alike-trans (rows-alike e ok) (alike-same (sym (unfold-bag tables bs n w.ordered m.within e))))))
        | inr h ↦ same-agree (ap (λ u. rows_of tables u f e) h ∙ sym (unfold-bag tables bs y w.ordered i e))
      ])
