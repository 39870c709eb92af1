-- U2 keeps all.
use Rattle.std.proofs.Common.{ℕ, ◌==◌, ◌≡◌, ◌&&◌, ◌||◌, ◌+◌, ◌≤◌, cond, Bool, true, false, List, [], ◌∷◌, ◌++◌, Option, Some, None, refl, sym, ap, ap₂, subst, ◌∙◌, eqb-true, ◌⊎◌, inl, inr, arith}
use Rattle.std.specs.List.{list_any}
use Rattle.std.proofs.lemmas.Bool.{and_from, and_parts, cases_Bool, eq-eqb, or_left}
use Rattle.row_bag.specs.Subqueries as subquery
use Rattle.row_bag.specs.declared.tables.Table.{Table}
use Rattle.qgm_core.specs.Boxes.{QueryGraph, has_box, is_quant, owns, width}
use Rattle.qgm_core.specs.Edits.{on_quant}
use Rattle.qgm_core.specs.Kinds.{is_F, is_enforce}
use Rattle.list_laws.specs.Lists.{In, first}
use Rattle.qgm_core.specs.declared.kinds.BoxKind.TheVariants.{Group}
use Rattle.qgm_core.specs.declared.kinds.QuantKind.TheVariants.{F}
use Rattle.qgm_core.specs.declared.node.Node.{Node}
use Rattle.qgm_core.specs.declared.owned.OwnedQuant.{OwnedQuant}
use Rattle.qgm_meaning.specs.Meaning.{Family, bag_in, given_by, grouped_rows, once_if, quant_rows, over_each, rows_by, rows_found, rows_of}
use Rattle.qgm_meaning.specs.Scope.{loose, read_by}
use Rattle.qgm_meaning.specs.Values.{Bag, Environment, bound, row_of}
use Rattle.qgm_meaning.specs.Fits.{fits, has_row}
use Rattle.qgm_meaning.specs.Laws.{AgreesBack, Stays, occurs}
use Rattle.qgm_meaning.proofs.Alikes.{once_if-alike, only-alike}
use Rattle.qgm_meaning.proofs.Frames.{bag-framed}
use Rattle.qgm_meaning.proofs.Merged.{over_each-within}
use mathlib.Core.Path.{fun_ext}
use Rattle.row_bag.specs.Bags.{Agree, Alike, bind}
use Rattle.row_bag.specs.Sets.{same_cells}
use Rattle.row_bag.proofs.Agreement.{alike-same}
use Rattle.row_bag.proofs.Counts.{agree-from_alike}
use Rattle.sql_value.specs.declared.cell.Cell.{Cell}
use Rattle.qgm_edit_laws.specs.Adds.{Interposes, as_box, interposed, onto}
use Rattle.qgm_edit_laws.specs.Checked.{own_seen}
use Rattle.qgm_edit_laws.specs.Graph.{ArmsBy, Sound, reads_in}
use Rattle.qgm_edit_laws.specs.KeepsOver.{KeepsOver}
use Rattle.qgm_edit_laws.specs.Facts.{HasAtMostOne, IsErrorFree}
use Rattle.rule_subquery.specs.ScalarToGroupLaws.{MaySingle, SafeSingle, single_box, single_head, singled}
use Rattle.qgm_edit_laws.proofs.Adds.{loose-owned, reads-at-read}
use Rattle.qgm_edit_laws.proofs.Interposed.{fam, fam-s, fam-was, interposed-sound, others-after, over_now, rowless, rowless-unread, turned-after, turned-before, turned-each, turned-in}
use Rattle.qgm_edit_laws.proofs.PlacedLists.{in-more}
use Rattle.qgm_edit_laws.proofs.Ranks.{has-in, same-box}
use Rattle.qgm_edit_laws.proofs.Scope.{unfold-bag}
use Rattle.qgm_edit_laws.proofs.Rules.{same-agree}
use Rattle.rule_subquery.proofs.ScalarToGroupScalars.{each-scalar, single-scalar}
use Rattle.qgm_core.proofs.Reaching.{in-has, overs-held}
use Rattle.list_laws.proofs.Booleans.{clash, or-false}
use Rattle.list_laws.proofs.Membership.{any-from, eq-false-sym, eq-itself, in-left, in-map, in-right}

module _ (xs ys : List Node) (g : QueryGraph) (w : Sound (xs ++ ys) g.root) (b p : ℕ) (o c : Node) (r : OwnedQuant) (m : MaySingle xs ys g.root b p o c r) where
  abbrev bs : List Node
  bs = xs ++ ys

  abbrev s : Node
  s = single_box b p c.id

  o-bs : In o bs
  o-bs = in-left o xs ys m.in_o

  c-bs : In c bs
  c-bs = in-right c xs ys m.in_c

  apart : (n : Node) → In n bs → (n.id == b) ≡ false
  apart n i = elim (cases_Bool (n.id == b)) [ inr f ↦ f | inl t ↦ absurd (clash (has_box bs b) (subst (λ z. has_box bs z ≡ true) (eqb-true n.id b t) (in-has n bs i)) m.new_box) ]

  owner : owns r.id o ≡ true
  owner = any-from (is_quant r.id) r o.quants m.owned (eq-itself r.id)

  p-not-r : (p == r.id) ≡ false
  p-not-r = elim (cases_Bool (p == r.id)) [ inr f ↦ f | inl t ↦ absurd (clash (list_any (owns p) bs) (subst (λ z. list_any (owns z) bs ≡ true) (sym (eqb-true p r.id t)) (any-from (owns r.id) o bs o-bs owner)) m.new_quant) ]

  read-s : (q : ℕ) → read_by s q ≡ true → (p == q) ≡ true
  read-s q t = sym (or-false (p == q)) ∙ sym (or-false ((p == q) || false)) ∙ t

  pub interposes : Interposes xs ys g.root s o c r
  interposes = record {
    adds = record {
      fresh = m.new_box;
      over = λ x j. elim j [ inl e ↦ subst (λ (z : OwnedQuant). has_box ys z.over ≡ true) e (in-has c ys m.in_c) | inr z ↦ elim z [ ] ];
      not_root = λ x j. elim j [ inl e ↦ subst (λ (z : OwnedQuant). (z.over == g.root) ≡ false) e m.not_root | inr z ↦ elim z [ ] ];
      new = λ q t. subst (λ z. list_any (owns z) bs ≡ false) (eqb-true p q (sym (or-false (p == q)) ∙ t)) m.new_quant;
      once = λ q. elim (p == q) as (λ t. cond t 1 0 + 0 ≤ 1) [ true ↦ (omega arith) | false ↦ (omega arith) ];
      fits = λ q k t n u x i j e l v. elim (in-more xs s ys n i) [
        | inl y ↦ elim (subst (λ (z : Node). In x z.quants) (sym y) j) [
          | inl a ↦ (
              let same : u ≡ c = same-box bs u c w.ordered l c-bs (v ∙ ap (λ (z : OwnedQuant). z.over) (sym a)) in
              let one : k ≡ 1 = read-at k q t in let wide : 1 ≤ width u = subst (λ (z : Node). 1 ≤ width z) (sym same) m.column in ((omega arith), (omega arith)))
          | inr z ↦ elim z [ ]
        ]
        | inr y ↦ absurd (clash (list_any (owns p) bs) (any-from (owns p) n bs y (any-from (is_quant p) x n.quants j (eq-eqb x.id p (e ∙ sym (eqb-true p q (read-s q (reads-at-read q k s t))))))) m.new_quant)
      ];
      own_nodes = λ q t. absurd (let z : ⊥ = cc in z);
      bare = tt;
      arms = λ u x j l v. tt;
    };
    in_o = m.in_o;
    in_c = m.in_c;
    owned = m.owned;
    over_c = m.over_c;
    once_c = (let e : ◌≡◌ {A = ℕ} (cond (c.id == c.id) 1 0) 1 = ap (λ (t : Bool). cond {A = ℕ} t 1 0) (eq-itself c.id) in omega arith);
    others = λ x j. elim j [ inl e ↦ inl (ap (λ (z : OwnedQuant). z.over) (sym e)) | inr z ↦ elim z [ ] ];
    scoped = record {
      under = λ done x rest e q t. (
          let over : x.over ≡ c.id = alone done x rest e in
          ap (λ (z : Bool). cond z (loose bs c.id q) (loose bs b q)) (eq-itself b)
          ∙ sym (ap (λ (z : Bool). cond z (loose bs c.id q) (loose bs c.id q)) (apart c c-bs)) ∙ subst (λ z. as_box bs b c.id z q ≡ true) over t);
      own = λ q t. or_left (own_seen (Group 0) s q) (as_box bs b c.id b q) (or_left (p == q) false (read-s q t));
    };
    fits = λ n i k t. absurd (elim (in-more xs s ys n i) [
      | inl y ↦ clash (p == r.id) (read-s r.id (reads-at-read r.id k s (subst (λ (z : Node). reads_in r.id k z ≡ true) (sym y) t))) p-not-r
      | inr y ↦ rowless-unread bs g.root w o r o-bs m.owned (ap is_F m.is_s) m.a_select n y (reads-at-read r.id k n t)
    ]);
    arms = subst (λ k. ArmsBy k (width s) (width o)) (sym m.a_select) tt;
  }
    where
      read-at : (k q : ℕ) → reads_in q k s ≡ true → k ≡ 1
      read-at k q t = let a = and_parts (p == q) (1 == k) (sym (or-false ((p == q) && (1 == k))) ∙ sym (or-false (((p == q) && (1 == k)) || false)) ∙ t) in sym (eqb-true 1 k a.1)

      alone : (done : List OwnedQuant) (x : OwnedQuant) (rest : List OwnedQuant) → s.quants ≡ done ++ x ∷ rest → x.over ≡ c.id
      alone [] x rest e = let y : record { id = p; kind = F; over = c.id } ≡ x = cc in ap (λ (z : OwnedQuant). z.over) (sym y)
      alone (d ∷ []) x rest e = absurd (let z : ⊥ = cc in z)
      alone (d ∷ (d2 ∷ done)) x rest e = absurd (let z : ⊥ = cc in z)

  module _ (tables : List Table) (safe : (e : Environment) → fits (bag_in tables bs) bs e ≡ true → IsErrorFree 1 (bag_in tables bs c.id e) ⊎ HasAtMostOne (bag_in tables bs c.id e)) where
    abbrev f : Family
    f = bag_in tables bs

    abbrev give : Environment → Bag
    give e = grouped_rows 0 (single_head p) p e (f c.id e)

    abbrev after : Family
    after = fam xs ys g.root w s o c r interposes tables give

    after-was : (x : ℕ) → (x == b) ≡ false → after x ≡ f x
    after-was x n = fam-was xs ys g.root w s o c r interposes tables give x n

    s-rows : (e : Environment) → rows_of tables s after e ≡ give e
    s-rows e = ap (λ (t : Bool). grouped_rows 0 (single_head p) p e (rows_found (cond t (Some (record { id = p; kind = F; over = c.id })) None) after e)) (eq-itself p)
        ∙ ap (λ (h : Environment → Bag). grouped_rows 0 (single_head p) p e (h e)) (after-was c.id (apart c c-bs))

    -- ---- environments that fit but for the new quantifier, which no box looks up

    abbrev cut : Environment → Environment
    cut [] = []
    cut (x ∷ e) = cond (x.0 == p) (cut e) (x ∷ cut e)

    row-cut : (q : ℕ) → (q == p) ≡ false → (e : Environment) → row_of q (cut e) ≡ row_of q e
    row-cut q n [] = refl
    row-cut q n (x ∷ e) = elim (cases_Bool (x.0 == p)) [
      | inl t ↦ (
          let k : (x.0 == q) ≡ false = (elim (cases_Bool (x.0 == q)) [ inr h ↦ h | inl h ↦ absurd (clash (q == p) (eq-eqb q p (sym (eqb-true x.0 q h) ∙ eqb-true x.0 p t)) n) ]) in
          ap (λ (z : Bool). row_of q (cond z (cut e) (x ∷ cut e))) t ∙ row-cut q n e ∙ sym (ap (λ (z : Bool). cond z x.1 (row_of q e)) k))
      | inr t ↦ ap (λ (z : Bool). row_of q (cond z (cut e) (x ∷ cut e))) t ∙ ap (λ z. cond (x.0 == q) x.1 z) (row-cut q n e)
    ]

    bag-cut : (x : ℕ) (e : Environment) → f x (cut e) ≡ f x e
    bag-cut x e = bag-framed tables bs x (cut e) e (record {
      rows = λ q t. row-cut q (elim (cases_Bool (q == p)) [
        | inr h ↦ h
        | inl h ↦ absurd (clash (list_any (owns p) bs) (subst (λ z. list_any (owns z) bs ≡ true) (eqb-true q p h) (loose-owned bs g.root w x q t)) m.new_quant)
      ]) e;
    })

    abbrev passes : Environment → Bool
    passes e = fits f bs (cut e)

    not-p : (y : Node) (x : OwnedQuant) → In y bs → In x y.quants → (x.id == p) ≡ false
    not-p y x i j = elim (cases_Bool (x.id == p)) [
      | inr h ↦ h
      | inl h ↦ absurd (clash (list_any (owns p) bs) (any-from (owns p) y bs i (any-from (is_quant p) x y.quants j h)) m.new_quant)
    ]

    -- a row that a quantifier of one of the boxes has
    binds-fit : (y : Node) (x : OwnedQuant) → In y bs → In x y.quants → (cells : List Cell) (e : Environment) → passes e ≡ true → occurs cells (quant_rows y f x.id e) ≡ true → passes (bound x.id cells e) ≡ true
    binds-fit y x i j cells e t there =
        ap (λ (z : Bool). fits f bs (cond z (cut e) (bound x.id cells (cut e)))) (not-p y x i j)
        ∙ and_from (has_row f bs x.id cells (cut e)) (fits f bs (cut e))
        (any-from (λ (n : Node). owns x.id n && occurs cells (quant_rows n f x.id (cut e))) y bs i
        (and_from (owns x.id y) (occurs cells (quant_rows y f x.id (cut e))) (any-from (is_quant x.id) x y.quants j (eq-itself x.id)) (ap (occurs cells) (cut-found (first (is_quant x.id) y.quants) e) ∙ there))) t
      where
        cut-found : (q : Option OwnedQuant) (e : Environment) → rows_found q f (cut e) ≡ rows_found q f e
        cut-found None e = refl
        cut-found (Some z) e = bag-cut z.over e

    abbrev t : Family
    t = quant_rows (on_quant r.id (over_now b) o) after

    abbrev so : Family
    so = quant_rows o f

    not-r : (x : OwnedQuant) → In x o.quants → is_F x.kind ≡ true → (x.id == r.id) ≡ false
    not-r x j h = elim (cases_Bool (x.id == r.id)) [ inr n ↦ n | inl y ↦ absurd (rowless bs g.root w o r o-bs m.owned (ap is_F m.is_s) o o-bs (any-from (λ (q : OwnedQuant). is_F q.kind && is_quant r.id q) x o.quants j (ap₂ (λ (a : Bool) (b : Bool). a && b) h y))) ]

    stays-o : (rs : List OwnedQuant) → ((x : OwnedQuant) → In x rs → In x o.quants) → Stays passes so rs
    stays-o [] sub = tt
    stays-o (x ∷ rs) sub = ((λ e cells k h there. binds-fit o x o-bs (sub x (inl refl)) cells e h there), stays-o rs (λ y j. sub y (inr j)))

    -- where the scalars are one
    given-one : (e : Environment) → passes e ≡ true → given_by t (on_quant r.id (over_now b) o) e ≡ given_by so o e
    given-one e h =
        each-scalar (λ q e0. t q e) (λ q e0. so q e) r.id (on_quant r.id (over_now b) o) o refl
        (λ q n. fun_ext (λ e0. ap (λ (k : Environment → Bag). k e) (others-after xs ys g.root w s o c r interposes tables give q n)))
        (λ e0. ap subquery.scalar (turned-after xs ys g.root w s o c r interposes tables give e) ∙ single-scalar p e (f c.id e) (subst (λ z. IsErrorFree 1 z ⊎ HasAtMostOne z) (bag-cut c.id e) (safe (cut e) h)) ∙ ap subquery.scalar (sym (turned-before xs ys g.root w s o c r interposes tables give e)))
        m.scalars m.scalars_conds [] (λ x j. elim j [ ]) e

    each-family : (G : Environment → Bag) (rs : List OwnedQuant) → ((x : OwnedQuant) → In x rs → In x o.quants) → (e : Environment) → over_each rs t G e ≡ over_each rs so G e
    each-family G [] sub e = refl
    each-family G (x ∷ rs) sub e = by (is_F x.kind) refl (λ e. each-family G rs (λ y j. sub y (inr j)) e)
      where
        by : (k : Bool) → is_F x.kind ≡ k → ((e : Environment) → over_each rs t G e ≡ over_each rs so G e)
            → cond k (bind (t x.id e) (λ cells. over_each rs t G (bound x.id cells e))) (over_each rs t G e) ≡ cond k (bind (so x.id e) (λ cells. over_each rs so G (bound x.id cells e))) (over_each rs so G e)
        by true h rest = ap₂ (λ (a : Bag) (k : List Cell → Bag). bind a k) (ap (λ (k : Environment → Bag). k e) (others-after xs ys g.root w s o c r interposes tables give x.id (not-r x (sub x (inl refl)) h))) (fun_ext (λ cells. rest (bound x.id cells e)))
        by false h rest = rest e

    o-rows : (e : Environment) → passes e ≡ true → Alike (rows_of tables (on_quant r.id (over_now b) o) after e) (rows_of tables o f e)
    o-rows e h =
        subst (λ z. Alike z (rows_of tables o f e)) (sym (ap (λ k. rows_by k tables (on_quant r.id (over_now b) o) t e) m.a_select ∙ ap (once_if (is_enforce o.parts.distinct)) (turned-each r.id b o.quants t (given_by t (on_quant r.id (over_now b) o)) e ∙ each-family (given_by t (on_quant r.id (over_now b) o)) o.quants (λ x j. j) e)))
        (subst (λ z. Alike (once_if (is_enforce o.parts.distinct) (over_each o.quants so (given_by t (on_quant r.id (over_now b) o)) e)) z) (sym (ap (λ k. rows_by k tables o so e) m.a_select))
        (once_if-alike (is_enforce o.parts.distinct) (over_each-within passes so (given_by t (on_quant r.id (over_now b) o)) (given_by so o) o.quants (stays-o o.quants (λ x j. j)) (λ e k. alike-same (given-one e k)) e h)))

    -- ---- all boxes

    abbrev turn : Node → Node
    turn = onto o.id r.id b

    apart-over : (y : Node) (z : OwnedQuant) → In y bs → In z y.quants → (z.over == b) ≡ false
    apart-over y z i j = elim (cases_Bool (z.over == b)) [ inr f ↦ f | inl t ↦ absurd (clash (has_box bs b) (subst (λ v. has_box bs v ≡ true) (eqb-true z.over b t) (overs-held bs y z w.ordered i j)) m.new_box) ]

    was-found : (q : ℕ) (e : Environment) (y : Node) → In y bs → (rs : List OwnedQuant) → ((z : OwnedQuant) → In z rs → In z y.quants) → rows_found (first (is_quant q) rs) after e ≡ rows_found (first (is_quant q) rs) f e
    was-found q e y i [] sub = refl
    was-found q e y i (z ∷ rs) sub = elim (z.id == q) as (λ t. rows_found (cond t (Some z) (first (is_quant q) rs)) after e ≡ rows_found (cond t (Some z) (first (is_quant q) rs)) f e) [
      | true ↦ ap (λ (k : Environment → Bag). k e) (after-was z.over (apart-over y z i (sub z (inl refl))))
      | false ↦ was-found q e y i rs (λ v l. sub v (inr l))
    ]

    same-quants : (y : Node) → In y bs → quant_rows y after ≡ quant_rows y f
    same-quants y i = fun_ext (λ q. fun_ext (λ e. was-found q e y i y.quants (λ z l. l)))

    turn-o : turn o ≡ on_quant r.id (over_now b) o
    turn-o = ap (λ (z : Bool). cond z (on_quant r.id (over_now b) o) o) (eq-itself o.id)

    turn-other : (y : Node) → (y.id == o.id) ≡ false → turn y ≡ y
    turn-other y n = ap (λ (z : Bool). cond z (on_quant r.id (over_now b) y) y) n

    is-o : (y : Node) → In y bs → (y.id == o.id) ≡ true → y ≡ o
    is-o y i t = same-box bs y o w.ordered i o-bs (eqb-true y.id o.id t)

    -- a quantifier of o then
    of-o : (x : OwnedQuant) → In x (on_quant r.id (over_now b) o).quants → is_F x.kind ≡ true → (cells : List Cell) (e : Environment) → passes e ≡ true → occurs cells (quant_rows (on_quant r.id (over_now b) o) after x.id e) ≡ true → passes (bound x.id cells e) ≡ true
    of-o x j k cells e h there = elim (turned-in r.id b o.quants x j) [
      | inl l ↦ binds-fit o x o-bs l cells e h (ap (λ (k : Environment → Bag). occurs cells (k e)) (sym (others-after xs ys g.root w s o c r interposes tables give x.id (not-r x l k))) ∙ there)
      | inr l ↦ absurd (clash (l.0.id == r.id) (eq-eqb l.0.id r.id l.1.1.0) (not-r l.0 l.1.0 (subst (λ (z : OwnedQuant). is_F z.kind ≡ true) (sym l.1.1.1) k)))
    ]

    turned-quant : (y : Node) (x : OwnedQuant) → In y bs → In x (turn y).quants → is_F x.kind ≡ true → (cells : List Cell) (e : Environment) → passes e ≡ true → occurs cells (quant_rows (turn y) after x.id e) ≡ true → passes (bound x.id cells e) ≡ true
    turned-quant y x i j k cells e h there = elim (cases_Bool (y.id == o.id)) [
      | inl q ↦ (
          let is : turn y ≡ on_quant r.id (over_now b) o = ap turn (is-o y i q) ∙ turn-o in
          of-o x (subst (λ (z : Node). In x z.quants) is j) k cells e h (subst (λ (z : Node). occurs cells (quant_rows z after x.id e) ≡ true) is there))
      | inr n ↦ (
          let is : turn y ≡ y = turn-other y n in
          binds-fit y x i (subst (λ (z : Node). In x z.quants) is j) cells e h
          (ap (λ (k : Family). occurs cells (k x.id e)) (sym (same-quants y i)) ∙ subst (λ (z : Node). occurs cells (quant_rows z after x.id e) ≡ true) is there))
    ]

    at-box : (y : Node) → In y bs → (e : Environment) → passes e ≡ true → Agree same_cells (rows_of tables (turn y) after e) (after y.id e)
    at-box y i e h = elim (cases_Bool (y.id == o.id)) [
      | inl q ↦ (
          let same = is-o y i q in
          subst (λ (z : Node). Agree same_cells (rows_of tables (turn z) after e) (after z.id e)) (sym same)
          (subst (λ z. Agree same_cells (rows_of tables z after e) (after o.id e)) (sym turn-o)
          (subst (λ z. Agree same_cells (rows_of tables (on_quant r.id (over_now b) o) after e) z) (sym (unfold-bag tables bs o w.ordered o-bs e) ∙ sym (ap (λ (k : Environment → Bag). k e) (after-was o.id (apart o o-bs))))
          (agree-from_alike same_cells (o-rows e h)))))
      | inr n ↦ same-agree (ap (λ z. rows_of tables z after e) (turn-other y n) ∙ ap (λ (k : Family). rows_by y.parts.kind tables y k e) (same-quants y i)
          ∙ sym (unfold-bag tables bs y w.ordered i e) ∙ sym (ap (λ (k : Environment → Bag). k e) (after-was y.id (apart y i))))
    ]

    not-o : (b == o.id) ≡ false
    not-o = eq-false-sym o.id b (apart o o-bs)

    turn-s : turn s ≡ s
    turn-s = ap (λ (z : Bool). cond z (on_quant r.id (over_now b) s) s) not-o

    stays-s : Stays passes (quant_rows s after) s.quants
    stays-s = ((λ e cells k h there. ap (λ (z : Bool). fits f bs (cond z (cut e) (bound p cells (cut e)))) (eq-itself p) ∙ h), tt)

    stays-y : (y : Node) → In y bs → (rs : List OwnedQuant) → ((x : OwnedQuant) → In x rs → In x (turn y).quants) → Stays passes (quant_rows (turn y) after) rs
    stays-y y i [] sub = tt
    stays-y y i (x ∷ rs) sub = ((λ e cells k h there. turned-quant y x i (sub x (inl refl)) k cells e h there), stays-y y i rs (λ z l. sub z (inr l)))

    both : (n : Node) → In n (interposed xs ys s o.id r.id) → Stays passes (quant_rows n after) n.quants × ((e : Environment) → passes e ≡ true → Agree same_cells (rows_of tables n after e) (after n.id e))
    both n i =
        let y = in-map turn n (xs ++ s ∷ ys) i in
        subst (λ (z : Node). Stays passes (quant_rows z after) z.quants × ((e : Environment) → passes e ≡ true → Agree same_cells (rows_of tables z after e) (after z.id e))) y.1.1 (elim (in-more xs s ys y.0 y.1.0) [
          | inl k ↦ subst (λ (z : Node). Stays passes (quant_rows (turn z) after) (turn z).quants × ((e : Environment) → passes e ≡ true → Agree same_cells (rows_of tables (turn z) after e) (after (turn z).id e))) k
              (subst (λ (z : Node). Stays passes (quant_rows z after) z.quants × ((e : Environment) → passes e ≡ true → Agree same_cells (rows_of tables z after e) (after z.id e))) (sym turn-s)
              (stays-s, λ e h. same-agree (s-rows e ∙ sym (fam-s xs ys g.root w s o c r interposes tables give e))))
          | inr k ↦ (stays-y y.0 k (turn y.0).quants (λ x j. j), λ e h. subst (λ z. Agree same_cells (rows_of tables (turn y.0) after e) (after z e)) (sym (turn-id y.0)) (at-box y.0 k e h))
        ])
      where
        turn-id : (y : Node) → (turn y).id ≡ y.id
        turn-id y = elim (y.id == o.id) as (λ t. ◌≡◌ {A = ℕ} (cond t (on_quant r.id (over_now b) y) y).id y.id) [ true ↦ refl | false ↦ refl ]

    back : (ns : List Node) → ((n : Node) → In n ns → In n (interposed xs ys s o.id r.id)) → AgreesBack passes tables after ns
    back [] sub = tt
    back (n ∷ ns) sub = let h = both n (sub n (inl refl)) in (h.0, h.1, back ns (λ y j. sub y (inr j)))

    pub root-same : Agree same_cells (bag_in tables (interposed xs ys s o.id r.id) g.root []) (f g.root [])
    root-same =
        let v = interposed-sound xs ys g.root w s o c r interposes in
        let root = has-in g.root bs w.rooted in
        let n : (g.root == b) ≡ false = subst (λ z. (z == b) ≡ false) root.1.1 (apart root.0 root.1.0) in
        subst (λ (k : Environment → Bag). Agree same_cells (bag_in tables (interposed xs ys s o.id r.id) g.root []) (k [])) (after-was g.root n)
        (agree-from_alike same_cells (only-alike tables after passes (interposed xs ys s o.id r.id) v.ordered (back (interposed xs ys s o.id r.id) (λ y j. j)) g.root v.rooted [] refl))

pub single-keeps : (xs ys : List Node) (g : QueryGraph) → g.boxes ≡ xs ++ ys → Sound g.boxes g.root → (b p : ℕ) (o c : Node) (r : OwnedQuant) → MaySingle xs ys g.root b p o c r → SafeSingle g.boxes c → KeepsOver g (singled xs ys b p o c r g)
single-keeps xs ys g e w b p o c r m safe =
    let v : Sound (xs ++ ys) g.root = subst (λ z. Sound z g.root) e w in record {
      well = interposed-sound xs ys g.root v (single_box b p c.id) o c r (interposes xs ys g v b p o c r m);
      bag = λ tables s. subst (λ (z : List Node). Agree same_cells (bag_in tables (interposed xs ys (single_box b p c.id) o.id r.id) g.root []) (bag_in tables z g.root [])) (sym e)
          (root-same xs ys g v b p o c r m tables (λ env fit. subst (λ (z : List Node). IsErrorFree 1 (bag_in tables z c.id env) ⊎ HasAtMostOne (bag_in tables z c.id env)) e
          (safe tables s env (subst (λ (z : List Node). fits (bag_in tables z) z env ≡ true) (sym e) fit))));
      names = refl;
      order = refl;
    }
