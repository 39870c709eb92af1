-- A few boxes of a graph changed or new: all others mean what they meant.
use Rattle.std.proofs.Common.{ℕ, zero, suc, ◌==◌, ◌≡◌, ◌≤◌, ◌+◌, ◌||◌, cond, min, Bool, true, false, List, [], ◌∷◌, length, Some, None, refl, sym, ap, ap₂, subst, ◌∙◌, eqb-true, ◌⊎◌, inl, inr, arith}
use Rattle.std.specs.List.{list_any}
use Rattle.std.proofs.lemmas.Bool.{cases_Bool, or_from, or_parts}
use mathlib.Core.Path.{fun_ext}
use Rattle.row_bag.specs.Bags.{Alike, bind, keep, unit}
use Rattle.row_bag.specs.Sets.{distinct, multiplicity, once, same_cells}
use Rattle.row_bag.specs.Tags.{led}
use Rattle.row_bag.specs.declared.tables.Table.{Table}
use Rattle.row_bag.proofs.Agreement.{alike-same, alike-sym, alike-trans}
use Rattle.row_bag.proofs.Copies.{multiplicity-distinct}
use Rattle.row_bag.proofs.Counts.{agree-from_alike, alike-from_agree}
use Rattle.row_bag.proofs.GreatestLevels.{distinct-once}
use Rattle.row_bag.proofs.Setting.{set-agreement}
use Rattle.row_bag.proofs.TupleBags.{same_cells-decides}
use Rattle.qgm_core.specs.Boxes.{Ordered, QueryGraph, has_box, is_box, is_quant, width}
use Rattle.qgm_core.specs.Kinds.{is_F, is_enforce}
use Rattle.list_laws.specs.Lists.{In, first}
use Rattle.qgm_core.specs.declared.kinds.BoxKind.TheVariants.{Select}
use Rattle.qgm_core.specs.declared.node.Node.{Node}
use Rattle.qgm_core.specs.declared.owned.OwnedQuant.{OwnedQuant}
use Rattle.qgm_meaning.specs.Laws.{AgreesBack, Stays}
use Rattle.qgm_meaning.specs.Meaning.{Family, bag_in, given_by, grouped_rows, of_one, once_if, over_each, quant_rows, rows_by, rows_found, rows_of}
use Rattle.qgm_meaning.specs.Ranks.{SameUnder}
use Rattle.qgm_meaning.specs.Filters.{outer_of}
use Rattle.qgm_meaning.specs.Searches.{names, names_cond}
use Rattle.qgm_meaning.specs.Values.{Bag, Environment, all_true, bound, head_cells}
use Rattle.qgm_meaning.specs.Widths.{Wide}
use Rattle.qgm_meaning.proofs.Alikes.{only-alike}
use Rattle.qgm_meaning.proofs.Fed.{fed-rows}
use Rattle.qgm_meaning.proofs.Nodes.{all_true-nodes, head-nodes}
use Rattle.qgm_meaning.proofs.Unfold.{rows-local, unfold-bag}
use Rattle.qgm_props.specs.Facts.{Each, IsClean, IsErrorFree, is_sound}
use Rattle.qgm_props.proofs.Folds.{none-in}
use Rattle.qgm_props.proofs.Rows.{occurs-each}
use Rattle.qgm_terms.specs.Terms.{Cond, Term}
use Rattle.qgm_core.specs.Edits.{range}
use Rattle.qgm_core.specs.declared.kinds.QuantKind.TheVariants.{F}
use Rattle.qgm_core.specs.declared.kinds.Role.TheVariants.{Fed}
use Rattle.qgm_edit_laws.specs.Graph.{nodes_in}
use Rattle.row_bag.specs.Order.{cell_of}
use Rattle.sql_value.specs.declared.truth.Truth.{Truth}
use Rattle.rule_magic.specs.AbsorbGroup.{GroupBags, KeylessBags, AreNew, IsGroupOver}
use Rattle.rule_magic.specs.AbsorbSelect.{SelectBags}
use Rattle.rule_magic.specs.Boxes.{absorbed_box, counted_box, joined_box, keyed_box, of_both, pair_box}
use Rattle.rule_magic.specs.FedBox.{IsFedAt, IsOld}
use Rattle.rule_magic.specs.UnderTags.{AreTags}
use Rattle.rule_magic.proofs.TaggedCounts.{single-tags}
use Rattle.qgm_meaning.proofs.LedSets.{Tuple}
use Rattle.rule_magic.proofs.TaggedSelects.{selects-tags}
use Rattle.rule_magic.proofs.TaggedRows.{keyed-under}
use Rattle.rule_magic.proofs.TaggedWidths.{wide-stands}
use Rattle.list_laws.proofs.Membership.{eq-false-sym, eq-itself}
use Rattle.qgm_core.proofs.Reaching.{in-has, overs-held}
use Rattle.list_laws.proofs.Booleans.{clash}

-- a box among ordered ones is the one of its number
pub first-of : (ns : List Node) (n : Node) → Ordered ns → In n ns → first (is_box n.id) ns ≡ Some n
first-of [] n o k = elim k [ ]
first-of (m ∷ ns) n o k = elim k [
  | inl e ↦ ap (λ b. cond b (Some m) (first (is_box n.id) ns)) (subst (λ (z : Node). (m.id == z.id) ≡ true) e (eq-itself m.id)) ∙ ap Some e
  | inr j ↦ (
      let f : (m.id == n.id) ≡ false = elim (cases_Bool (m.id == n.id)) [
        | inr f ↦ f
        | inl y ↦ absurd (clash (has_box ns m.id) (subst (λ z. has_box ns z ≡ true) (sym (eqb-true m.id n.id y)) (in-has n ns j)) o.0)
      ] in
      ap (λ b. cond b (Some m) (first (is_box n.id) ns)) f ∙ first-of ns n o.2 j)
]

-- the boxes xs after a change, hs: a box is one of before that isn't special and ranges over no special one, or it gives the family back up to agreement
pub record Given (tables : List Table) (xs : List Node) (special : ℕ → Bool) (f : Family) (n : Node) : Type 0 where
  pub same : Bool
  pub old : same ≡ true → In n xs × ((special n.id ≡ false) × ((r : OwnedQuant) → In r n.quants → special r.over ≡ false))
  pub new : same ≡ false → (e : Environment) → Alike (rows_of tables n f e) (f n.id e)

module _ (tables : List Table) (xs hs : List Node) (ox : Ordered xs) (oh : Ordered hs) (special : ℕ → Bool) (f : Family) (plain : (x : ℕ) → special x ≡ false → (e : Environment) → f x e ≡ bag_in tables xs x e) where
  under : (rs : List OwnedQuant) → ((r : OwnedQuant) → In r rs → special r.over ≡ false) → SameUnder rs f (bag_in tables xs)
  under [] h = tt
  under (r ∷ rs) h = (fun_ext (λ e. plain r.over (h r (inl refl)) e), under rs (λ s i. h s (inr i)))

  always : Environment → Bool
  always e = true

  stays : (g : Family) (rs : List OwnedQuant) → Stays (λ e. true) g rs
  stays g [] = tt
  stays g (r ∷ rs) = ((λ e cells t p o. refl), stays g rs)

  one : (n : Node) → Given tables xs special f n → (e : Environment) → Alike (rows_of tables n f e) (f n.id e)
  one n h e = pick h.same refl
    where
      pick : (b : Bool) → h.same ≡ b → Alike (rows_of tables n f e) (f n.id e)
      pick false k = h.new k e
      pick true k =
          let a = h.old k in
          alike-same (ap (λ (g : Environment → Bag). g e) (rows-local tables n f (bag_in tables xs) (under n.quants a.1.1)) ∙ sym (unfold-bag tables xs n.id n e ox (first-of xs n ox a.0)) ∙ sym (plain n.id a.1.0 e))

  back : (ns : List Node) → ((n : Node) → In n ns → Given tables xs special f n) → AgreesBack (λ e. true) tables f ns
  back [] h = tt
  back (n ∷ ns) h = (stays (quant_rows n f) n.quants, (λ e p. agree-from_alike same_cells (one n (h n (inl refl)) e)), back ns (λ m i. h m (inr i)))

  -- so all boxes mean what the family says
  pub region-bags : ((n : Node) → In n hs → Given tables xs special f n) → (b : ℕ) → has_box hs b ≡ true → (e : Environment) → Alike (bag_in tables hs b e) (f b e)
  region-bags h b k e = only-alike tables f (λ e. true) hs oh (back hs h) b k e refl

-- ---- the rows of a magic box

enforced : (rows given : Bag) → rows ≡ distinct same_cells given → IsClean rows → Alike rows (once same_cells rows)
enforced rows given e c =
    alike-trans (alike-sym (distinct-once same_cells same_cells-decides rows (λ k. subst (λ z. multiplicity same_cells k z ≤ 1) (sym e) (subst (λ n. n ≤ 1) (sym (multiplicity-distinct same_cells same_cells-decides k given)) (few (multiplicity same_cells k given))))))
    (alike-from_agree same_cells same_cells-decides ((set-agreement same_cells same_cells-decides).at_yes rows c))
  where
    few : (n : ℕ) → min 1 n ≤ 1
    few n = omega arith

-- cells of which each place is no error
cells-sound : (cells : Tuple) → ((k : ℕ) → 1 ≤ k → k ≤ length cells → is_sound (cell_of k cells) ≡ true) → Each (λ x. is_sound x ≡ true) cells
cells-sound [] h = tt
cells-sound (x ∷ xs) h = (h 1 (omega (arith)) (let k : length (x ∷ xs) ≡ suc (length xs) = refl in omega (arith, k)), cells-sound xs (λ k l m. more k l m))
  where
    more : (k : ℕ) → 1 ≤ k → k ≤ length xs → is_sound (cell_of k xs) ≡ true
    more zero l m = absurd (let z : ⊥ = omega (arith, l) in z)
    more (suc k) l m = h (suc (suc k)) (omega (arith)) (let j : length (x ∷ xs) ≡ suc (length xs) = refl in omega (arith, j, m))

-- the rows of an ENFORCE box that are clean and without errors
pub tags-of : (w : ℕ) (rows given : Bag) → rows ≡ distinct same_cells given → Wide w rows → IsClean rows → ((k : ℕ) → 1 ≤ k → k ≤ w → IsErrorFree k rows) → AreTags w rows
tags-of w rows given e l c f = record {
  wide = l;
  each_once = agree-from_alike same_cells (enforced rows given e c);
  clean = c;
  sound = λ u s. none-in u (cells-sound u (λ k i j. let n = wide-stands w rows l u s in occurs-each (λ cells. is_sound (cell_of k cells) ≡ true) rows (f k i (omega (arith, j, n))) u s));
}

-- ---- a fed box

module _ (tables : List Table) (g : QueryGraph) (d m c : Node) (a r : OwnedQuant) (at : IsFedAt tables g d m c a r) where
  abbrev f : Family
  f = bag_in tables g.boxes

  -- a select of two quantifiers over these, whose head is all columns of both
  pub pair-rows : (n : Node) (s : Family) (p q : OwnedQuant) (w v : ℕ) (e : Environment) → n.parts.kind ≡ Select → is_enforce n.parts.distinct ≡ false → n.parts.conds.items ≡ [] → n.quants ≡ p ∷ (q ∷ []) → n.parts.head ≡ of_both p.id w q.id v
      → is_F p.kind ≡ true → is_F q.kind ≡ true → (q.id == p.id) ≡ false → Wide w (s p.over e) → ((u : Tuple) → Wide v (s q.over (bound p.id u e)))
      → rows_of tables n s e ≡ led (s p.over e) (λ u. s q.over (bound p.id u e))
  pair-rows n s p q w v e kind once conds quants head fp fq apart lw lv =
      ap (λ k. rows_by k tables n (quant_rows n s) e) kind
      ∙ ap (λ t. once_if t (over_each n.quants (quant_rows n s) (given_by (quant_rows n s) n) e)) once
      ∙ ap₂ (λ (cs : List Cond) (hd : List Term). over_each n.quants (quant_rows n s) (made cs hd) e) conds head
      ∙ ap (λ (rs : List OwnedQuant). over_each rs (λ x e. rows_found (first (is_quant x) rs) s e) (λ e. keep (all_true (λ x. rows_found (first (is_quant x) rs) s e) [] e).t (unit (head_cells (λ x. rows_found (first (is_quant x) rs) s e) (of_both p.id w q.id v) e))) e) quants
      ∙ fed-rows tables both n.id n.parts p q w v e fp fq apart (subst (Wide w) (sym first-is) lw) (λ u. subst (Wide v) (sym (second-is u)) (lv u))
      ∙ ap₂ (λ (x : Bag) (y : Tuple → Bag). led x y) first-is (fun_ext (λ u. second-is u))
    where
      made : List Cond → List Term → Environment → Bag
      made cs hd e = keep (all_true (λ x. quant_rows n s x e) cs e).t (unit (head_cells (λ x. quant_rows n s x e) hd e))

      both : Family
      both x e = rows_found (first (is_quant x) (p ∷ (q ∷ []))) s e

      first-is : both p.id e ≡ s p.over e
      first-is = ap (λ t. rows_found (cond t (Some p) (first (is_quant p.id) (q ∷ []))) s e) (eq-itself p.id)

      second-is : (u : Tuple) → both q.id (bound p.id u e) ≡ s q.over (bound p.id u e)
      second-is u = ap (λ t. rows_found (cond t (Some p) (first (is_quant q.id) (q ∷ []))) s (bound p.id u e)) (eq-false-sym q.id p.id apart)
          ∙ ap (λ t. rows_found (cond t (Some q) None) s (bound p.id u e)) (eq-itself q.id)

  pub fed-bag : (e : Environment) → f d.id e ≡ led (f m.id e) (λ u. f c.id (bound a.id u e))
  fed-bag e =
      unfold-bag tables g.boxes d.id d e at.ordered (first-of g.boxes d at.ordered at.in_d)
      ∙ pair-rows d f a r (width m) (width c) e at.a_select at.not_once at.no_cond at.quants at.head at.row_a at.row_r at.apart
      (subst (λ i. Wide (width m) (f i e)) (sym at.over_m) (at.wide m at.in_m e)) (λ u. subst (λ i. Wide (width c) (f i (bound a.id u e))) (sym at.over_c) (at.wide c at.in_c (bound a.id u e)))
      ∙ ap₂ (λ (i j : ℕ). led (f i e) (λ u. f j (bound a.id u e))) at.over_m at.over_c

  -- ---- G2

  -- what a select gives goes by its own quantifiers
  each-own : (s t : Family) (rs : List OwnedQuant) → ((x : ℕ) (e : Environment) → (x == a.id) ≡ false → s x e ≡ t x e) → list_any (λ s. s.id == a.id) rs ≡ false → nodes_in a.id c ≡ false → (e : Environment)
      → over_each rs s (given_by s c) e ≡ over_each rs t (given_by t c) e
  each-own s t [] same apart free e =
      let fr = or_parts (list_any (names a.id) c.parts.head) (list_any (names_cond a.id) c.parts.conds.items) free in
      ap₂ (λ (p : Truth) (z : Tuple). keep p.t (unit z))
      (all_true-nodes (λ x. s x e) (λ x. t x e) c.parts.conds.items e (λ x k. same x e (other x k fr.1)))
      (head-nodes (λ x. s x e) (λ x. t x e) c.parts.head e (λ x k. same x e (other' x k fr.0)))
    where
      other : (x : ℕ) → list_any (names_cond x) c.parts.conds.items ≡ true → list_any (names_cond a.id) c.parts.conds.items ≡ false → (x == a.id) ≡ false
      other x k n = elim (cases_Bool (x == a.id)) [ inr z ↦ z | inl z ↦ absurd (clash (list_any (names_cond a.id) c.parts.conds.items) (subst (λ y. list_any (names_cond y) c.parts.conds.items ≡ true) (eqb-true x a.id z) k) n) ]

      other' : (x : ℕ) → list_any (names x) c.parts.head ≡ true → list_any (names a.id) c.parts.head ≡ false → (x == a.id) ≡ false
      other' x k n = elim (cases_Bool (x == a.id)) [ inr z ↦ z | inl z ↦ absurd (clash (list_any (names a.id) c.parts.head) (subst (λ y. list_any (names y) c.parts.head ≡ true) (eqb-true x a.id z) k) n) ]
  each-own s t (q ∷ rs) same apart free e =
      let ap1 = or_parts (q.id == a.id) (list_any (λ s. s.id == a.id) rs) apart in
      elim (is_F q.kind) as (λ z. ◌≡◌ {A = Bag}
      (cond z (bind (s q.id e) (λ cells. over_each rs s (given_by s c) (bound q.id cells e))) (over_each rs s (given_by s c) e))
      (cond z (bind (t q.id e) (λ cells. over_each rs t (given_by t c) (bound q.id cells e))) (over_each rs t (given_by t c) e))) [
        | true ↦ ap₂ (λ (x : Bag) (y : Tuple → Bag). bind x y) (same q.id e ap1.0) (fun_ext (λ cells. each-own s t rs same ap1.1 free (bound q.id cells e)))
        | false ↦ each-own s t rs same ap1.1 free e
      ]

  module _ (h : QueryGraph) (oh : Ordered h.boxes) (select_c : c.parts.kind ≡ Select) (apart : list_any (λ s. s.id == a.id) c.quants ≡ false) (free : nodes_in a.id c ≡ false) where
    abbrev d' : Node
    d' = absorbed_box d.id a (width m) c

    abbrev s : Family
    s = quant_rows d' f

    absorbed-rows : (e : Environment) → Alike (rows_of tables d' f e) (f d.id e)
    absorbed-rows e =
        let tag : quant_rows d' f a.id e ≡ f m.id e = ap (λ t. rows_found (cond t (Some a) (first (is_quant a.id) c.quants)) f e) (eq-itself a.id) ∙ ap (λ i. f i e) at.over_m in
        alike-trans (alike-same (ap (λ k. rows_by k tables d' (quant_rows d' f) e) select_c))
        (alike-trans (alike-from_agree same_cells same_cells-decides (selects-tags tables (quant_rows d' f) d.id (width m) a c e at.row_a apart (subst (AreTags (width m)) (sym tag) (at.tags e))))
        (alike-same (ap₂ (λ (x : Bag) (y : Tuple → Bag). led x y) tag (fun_ext (λ u.
        ap (once_if (is_enforce c.parts.distinct)) (each-own (quant_rows d' f) (quant_rows c f) c.quants (λ x e n. ap (λ t. rows_found (cond t (Some a) (first (is_quant x) c.quants)) f e) (eq-false-sym x a.id n)) apart free (bound a.id u e))
        ∙ sym (ap (λ k. rows_by k tables c (quant_rows c f) (bound a.id u e)) select_c)
        ∙ sym (unfold-bag tables g.boxes c.id c (bound a.id u e) at.ordered (first-of g.boxes c at.ordered at.in_c))))
        ∙ sym (fed-bag e))))

    pub select-absorbed : ((n : Node) → In n h.boxes → IsOld g d c n ⊎ (n ≡ d')) → (b : ℕ) → has_box h.boxes b ≡ true → (e : Environment) → Alike (bag_in tables h.boxes b e) (f b e)
    select-absorbed boxes b k e = region-bags tables g.boxes h.boxes at.ordered oh (λ x. false) f (λ x n e. refl) (λ n i. elim (boxes n i) [
      | inl o ↦ record { same = true; old = λ t. (o.within, (refl, λ r j. refl)); new = λ t. absurd (let z : ⊥ = cc in z) }
      | inr o ↦ record { same = false; old = λ t. absurd (let z : ⊥ = cc in z); new = λ t e. subst (λ (y : Node). Alike (rows_of tables y f e) (f y.id e)) (sym o) (absorbed-rows e) }
    ]) b k e

  -- ---- G3

  module _ (x : Node) (q : OwnedQuant) (keys : ℕ) (over : IsGroupOver tables g d m c x a q keys) where
    -- what the fed box over m and x gives
    abbrev fed_over : Environment → Bag
    fed_over e = led (f m.id e) (λ u. f x.id (bound a.id u e))

    group-bag : (e : Environment) → f c.id e ≡ grouped_rows keys c.parts.head q.id e (f x.id e)
    group-bag e =
        unfold-bag tables g.boxes c.id c e at.ordered (first-of g.boxes c at.ordered at.in_c)
        ∙ ap (λ k. rows_by k tables c (quant_rows c f) e) over.a_group
        ∙ ap (λ (rs : List OwnedQuant). of_one rs (λ y. grouped_rows keys c.parts.head y e (rows_found (first (is_quant y) rs) f e))) over.one
        ∙ ap (λ t. grouped_rows keys c.parts.head q.id e (rows_found (cond t (Some q) None) f e)) (eq-itself q.id)
        ∙ ap (λ i. grouped_rows keys c.parts.head q.id e (f i e)) over.over_x

    -- c's number is now that of the fed box
    abbrev fam : Family
    fam b e = cond (b == c.id) (fed_over e) (f b e)

    fam-c : (e : Environment) → fam c.id e ≡ fed_over e
    fam-c e = ap (λ t. cond t (fed_over e) (f c.id e)) (eq-itself c.id)

    fam-other : (b : ℕ) → (b == c.id) ≡ false → (e : Environment) → fam b e ≡ f b e
    fam-other b n e = ap (λ t. cond t (fed_over e) (f b e)) n

    pair-fed : (fm : Family) (e : Environment) → ((e : Environment) → fm m.id e ≡ f m.id e) → ((e : Environment) → fm x.id e ≡ f x.id e) → (w : ℕ) → width m ≡ w
        → rows_of tables (pair_box c.id Fed a.id m.id w q.id x.id (width x)) fm e ≡ fed_over e
    pair-fed fm e hm hx w wm =
        pair-rows (pair_box c.id Fed a.id m.id w q.id x.id (width x)) fm (range a.id F m.id) (range q.id F x.id) w (width x) e refl refl refl refl refl refl refl over.apart
        (subst (Wide w) (sym (hm e)) (subst (λ n. Wide n (f m.id e)) wm (at.wide m at.in_m e))) (λ u. subst (Wide (width x)) (sym (hx (bound a.id u e))) (at.wide x over.in_x (bound a.id u e)))
        ∙ ap₂ (λ (y : Bag) (z : Tuple → Bag). led y z) (hm e) (fun_ext (λ u. hx (bound a.id u e)))

  module _ (h : QueryGraph) (oh : Ordered h.boxes) (x : Node) (q : OwnedQuant) (k : ℕ) (over : IsGroupOver tables g d m c x a q (suc k)) where
    abbrev g' : Node
    g' = keyed_box d.id (width m + suc k) q.id r.id (width m) (width x) c.parts.head c.id

    keyed-rows : (e : Environment) → Alike (rows_of tables g' (fam x q (suc k) over) e) (fam x q (suc k) over d.id e)
    keyed-rows e =
        alike-trans (alike-same (ap (λ t. grouped_rows (width m + suc k) g'.parts.head r.id e (rows_found (cond t (Some (range r.id F c.id)) None) (fam x q (suc k) over) e)) (eq-itself r.id)
        ∙ ap (grouped_rows (width m + suc k) g'.parts.head r.id e) (fam-c x q (suc k) over e)))
        (alike-trans (alike-from_agree same_cells same_cells-decides (keyed-under (width m) (width x) q.id r.id k c.parts.head (f m.id e) (λ u. f x.id (bound a.id u e)) e (λ u. bound a.id u e) (at.tags e) (λ u. at.wide x over.in_x (bound a.id u e)) over.own over.folds (over.sound e)))
        (alike-same (ap (led (f m.id e)) (fun_ext (λ u. sym (group-bag x q (suc k) over (bound a.id u e)))) ∙ sym (fed-bag e) ∙ sym (fam-other x q (suc k) over d.id over.d_not_c e))))

    pub group-absorbed : ((n : Node) → In n h.boxes → IsOld g d c n ⊎ ((n ≡ g') ⊎ (n ≡ pair_box c.id Fed a.id m.id (width m) q.id x.id (width x)))) → (b : ℕ) → has_box h.boxes b ≡ true → (b == c.id) ≡ false → (e : Environment) → Alike (bag_in tables h.boxes b e) (f b e)
    group-absorbed boxes b i n e = alike-trans (region-bags tables g.boxes h.boxes at.ordered oh (λ y. y == c.id) (fam x q (suc k) over) (fam-other x q (suc k) over) (λ y j. elim (boxes y j) [
      | inl o ↦ record { same = true; old = λ t. (o.within, (o.not_c, o.elsewhere)); new = λ t. absurd (let z : ⊥ = cc in z) }
      | inr s ↦ elim s [
        | inl o ↦ record { same = false; old = λ t. absurd (let z : ⊥ = cc in z); new = λ t e. subst (λ (y : Node). Alike (rows_of tables y (fam x q (suc k) over) e) (fam x q (suc k) over y.id e)) (sym o) (keyed-rows e) }
        | inr o ↦ record {
          same = false;
          old = λ t. absurd (let z : ⊥ = cc in z);
          new = λ t e. subst (λ (y : Node). Alike (rows_of tables y (fam x q (suc k) over) e) (fam x q (suc k) over y.id e)) (sym o)
              (alike-same (pair-fed x q (suc k) over (fam x q (suc k) over) e (fam-other x q (suc k) over m.id over.m_not_c) (fam-other x q (suc k) over x.id over.x_not_c) (width m) refl ∙ sym (fam-c x q (suc k) over e)));
        }
      ]
    ]) b i e) (alike-same (fam-other x q (suc k) over b n e))

  -- without keys
  module _ (h : QueryGraph) (oh : Ordered h.boxes) (x : Node) (q : OwnedQuant) (over : IsGroupOver tables g d m c x a q 0) (w o n om oc p : ℕ) (wm : width m ≡ suc w) (fresh : AreNew g c o n) (two : (om == oc) ≡ false) where
    abbrev j' : Node
    j' = joined_box o om m.id oc n (suc w) (length c.parts.head)

    abbrev n' : Node
    n' = keyed_box n (suc w) q.id p (suc w) (width x) c.parts.head c.id

    abbrev s' : Node
    s' = counted_box d.id r.id (suc w) c.parts.head o

    abbrev groups_of : Environment → Bag
    groups_of e = grouped_rows (suc w) n'.parts.head p e (fed_over x q 0 over e)

    abbrev joined_of : Environment → Bag
    joined_of e = outer_of j' e om oc (f m.id e) (groups_of e)

    abbrev whole : Family
    whole b e = cond (b == o) (joined_of e) (cond (b == n) (groups_of e) (fam x q 0 over b e))

    abbrev is_special : ℕ → Bool
    is_special b = (b == o) || ((b == n) || (b == c.id))

    known-not : (b i : ℕ) → has_box g.boxes b ≡ true → has_box g.boxes i ≡ false → (b == i) ≡ false
    known-not b i k l = elim (cases_Bool (b == i)) [ inr z ↦ z | inl z ↦ absurd (clash (has_box g.boxes i) (subst (λ y. has_box g.boxes y ≡ true) (eqb-true b i z) k) l) ]

    plain : (b : ℕ) → is_special b ≡ false → (e : Environment) → whole b e ≡ f b e
    plain b k e =
        let a1 = or_parts (b == o) ((b == n) || (b == c.id)) k in let a2 = or_parts (b == n) (b == c.id) a1.1 in
        ap (λ t. cond t (joined_of e) (cond (b == n) (groups_of e) (fam x q 0 over b e))) a1.0 ∙ ap (λ t. cond t (groups_of e) (fam x q 0 over b e)) a2.0 ∙ fam-other x q 0 over b a2.1 e

    old-plain : (b : ℕ) → has_box g.boxes b ≡ true → (b == c.id) ≡ false → is_special b ≡ false
    old-plain b k l = or_from (b == o) ((b == n) || (b == c.id)) (known-not b o k fresh.o_new) (or_from (b == n) (b == c.id) (known-not b n k fresh.n_new) l)

    has-m : has_box g.boxes m.id ≡ true
    has-m = in-has m g.boxes at.in_m

    has-c : has_box g.boxes c.id ≡ true
    has-c = in-has c g.boxes at.in_c

    at-c : (e : Environment) → whole c.id e ≡ fed_over x q 0 over e
    at-c e = ap (λ t. cond t (joined_of e) (cond (c.id == n) (groups_of e) (fam x q 0 over c.id e))) (known-not c.id o has-c fresh.o_new) ∙ ap (λ t. cond t (groups_of e) (fam x q 0 over c.id e)) (known-not c.id n has-c fresh.n_new) ∙ fam-c x q 0 over e

    at-n : (e : Environment) → whole n e ≡ groups_of e
    at-n e = ap (λ t. cond t (joined_of e) (cond (n == n) (groups_of e) (fam x q 0 over n e))) (eq-false-sym o n fresh.apart) ∙ ap (λ t. cond t (groups_of e) (fam x q 0 over n e)) (eq-itself n)

    at-o : (e : Environment) → whole o e ≡ joined_of e
    at-o e = ap (λ t. cond t (joined_of e) (cond (o == n) (groups_of e) (fam x q 0 over o e))) (eq-itself o)

    n-rows : (e : Environment) → rows_of tables n' whole e ≡ whole n e
    n-rows e = ap (λ t. grouped_rows (suc w) n'.parts.head p e (rows_found (cond t (Some (range p F c.id)) None) whole e)) (eq-itself p) ∙ ap (grouped_rows (suc w) n'.parts.head p e) (at-c e) ∙ sym (at-n e)

    o-rows : (e : Environment) → rows_of tables j' whole e ≡ whole o e
    o-rows e =
        ap₂ (λ (y z : Bag). outer_of j' e om oc y z)
        (ap (λ t. rows_found (cond t (Some (range om F m.id)) (first (is_quant om) (range oc F n ∷ []))) whole e) (eq-itself om) ∙ plain m.id (old-plain m.id has-m over.m_not_c) e)
        (ap (λ t. rows_found (cond t (Some (range om F m.id)) (first (is_quant oc) (range oc F n ∷ []))) whole e) two ∙ ap (λ t. rows_found (cond t (Some (range oc F n)) None) whole e) (eq-itself oc) ∙ at-n e)
        ∙ sym (at-o e)

    s-rows : (e : Environment) → Alike (rows_of tables s' whole e) (whole d.id e)
    s-rows e =
        let join : quant_rows s' whole r.id e ≡ joined_of e = ap (λ t. rows_found (cond t (Some (range r.id F o)) None) whole e) (eq-itself r.id) ∙ at-o e in
        alike-trans (alike-from_agree same_cells same_cells-decides (single-tags tables (quant_rows s' whole) w (width x) q.id p om oc r.id o m.id n d.id o c.parts.head (f m.id e) (λ u. f x.id (bound a.id u e)) e e (λ u. bound a.id u e) two
        (subst (λ i. AreTags i (f m.id e)) wm (at.tags e)) (λ u. at.wide x over.in_x (bound a.id u e)) over.own over.folds (over.sound e) join))
        (alike-same (ap (led (f m.id e)) (fun_ext (λ u. sym (group-bag x q 0 over (bound a.id u e)))) ∙ sym (fed-bag e) ∙ sym (plain d.id (old-plain d.id (in-has d g.boxes at.in_d) over.d_not_c) e)))

    pub whole-absorbed : ((y : Node) → In y h.boxes → IsOld g d c y ⊎ ((y ≡ s') ⊎ ((y ≡ j') ⊎ ((y ≡ n') ⊎ (y ≡ pair_box c.id Fed a.id m.id (suc w) q.id x.id (width x))))))
        → (b : ℕ) → has_box g.boxes b ≡ true → has_box h.boxes b ≡ true → (b == c.id) ≡ false → (e : Environment) → Alike (bag_in tables h.boxes b e) (f b e)
    whole-absorbed boxes b known i l e = alike-trans (region-bags tables g.boxes h.boxes at.ordered oh is_special whole plain (λ y j. elim (boxes y j) [
      | inl z ↦ record { same = true; old = λ t. (z.within, (old-plain y.id (in-has y g.boxes z.within) z.not_c, λ r k. old-plain r.over (overs-held g.boxes y r at.ordered z.within k) (z.elsewhere r k))); new = λ t. absurd (let z : ⊥ = cc in z) }
      | inr z ↦ elim z [
        | inl z ↦ changed y (λ e. subst (λ (y : Node). Alike (rows_of tables y whole e) (whole y.id e)) (sym z) (s-rows e))
        | inr z ↦ elim z [
          | inl z ↦ changed y (λ e. subst (λ (y : Node). Alike (rows_of tables y whole e) (whole y.id e)) (sym z) (alike-same (o-rows e)))
          | inr z ↦ elim z [
            | inl z ↦ changed y (λ e. subst (λ (y : Node). Alike (rows_of tables y whole e) (whole y.id e)) (sym z) (alike-same (n-rows e)))
            | inr z ↦ changed y (λ e. subst (λ (y : Node). Alike (rows_of tables y whole e) (whole y.id e)) (sym z) (alike-same (pair-fed x q 0 over whole e (plain m.id (old-plain m.id has-m over.m_not_c)) (plain x.id (old-plain x.id (in-has x g.boxes over.in_x) over.x_not_c)) (suc w) wm ∙ sym (at-c e))))
          ]
        ]
      ]
    ]) b i e) (alike-same (plain b (old-plain b known l) e))
      where
        changed : (y : Node) → ((e : Environment) → Alike (rows_of tables y whole e) (whole y.id e)) → Given tables g.boxes is_special whole y
        changed y h = record { same = false; old = λ t. absurd (let z : ⊥ = cc in z); new = λ t e. h e }

pub absorbs-select : SelectBags
absorbs-select = λ tables g h d m c a r at oh select apart free boxes b k e. agree-from_alike same_cells (select-absorbed tables g d m c a r at h oh select apart free boxes b k e)

pub absorbs-group : GroupBags
absorbs-group = λ tables g h d m c x a r q k at over oh boxes b i n e. agree-from_alike same_cells (group-absorbed tables g d m c a r at h oh x q k over boxes b i n e)

pub absorbs-keyless : KeylessBags
absorbs-keyless = λ tables g h d m c x a r q w o n om oc p wm at over oh fresh two boxes b known i l e. agree-from_alike same_cells (whole-absorbed tables g d m c a r at h oh x q over w o n om oc p wm fresh two boxes b known i l e)
