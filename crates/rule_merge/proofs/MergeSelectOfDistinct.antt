-- M1 at an ENFORCE select keeps all: the select below may give its rows more than once, and then it is merged.
use Rattle.std.proofs.Common.{ℕ, ◌==◌, ◌≡◌, ◌&&◌, ◌||◌, ◌≤◌, ◌<◌, cond, Bool, true, false, List, [], ◌∷◌, ◌++◌, map, Some, refl, sym, ap, ap₂, subst, ◌∙◌, eqb-true, inl, inr, arith}
use Rattle.std.specs.List.{list_any}
use Rattle.std.proofs.lemmas.Bool.{cases_Bool, eq-eqb, or_left, or_right}
use mathlib.Core.Path.{fun_ext}
use Rattle.row_bag.specs.Bags.{Agree, bind, keep, unit}
use Rattle.row_bag.specs.Sets.{SameLevels, same_cells}
use Rattle.row_bag.specs.declared.tables.Table.{Table}
use Rattle.row_bag.proofs.Counts.{agree-from_alike}
use Rattle.row_bag.proofs.GreatestLevels.{distinct-levels, levels-bind, levels-distinct, levels-refl}
use Rattle.row_bag.proofs.TupleBags.{same_cells-decides}
use Rattle.sql_value.specs.declared.truth.Truth.{Truth}
use Rattle.qgm_core.specs.Boxes.{Ordered, QueryGraph, has_box, ids_of, is_box, is_quant, overs_in, overs_of, width}
use Rattle.qgm_core.specs.Edits.{compact, on_boxes, with_distinct}
use Rattle.qgm_core.specs.Kinds.{is_F, is_enforce}
use Rattle.list_laws.specs.Lists.{In, first, times, without}
use Rattle.qgm_core.specs.declared.kinds.BoxKind.{BoxKind}
use Rattle.qgm_core.specs.declared.kinds.BoxKind.TheVariants.{Base, Select, Group, SetOp, OuterJoin}
use Rattle.qgm_core.specs.declared.kinds.Distinct.TheVariants.{Preserve}
use Rattle.qgm_core.specs.declared.node.Node.{Node}
use Rattle.qgm_core.specs.declared.owned.OwnedQuant.{OwnedQuant}
use Rattle.qgm_meaning.specs.Laws.{AgreesBack, Stays}
use Rattle.qgm_meaning.specs.Meaning.{Family, bag_in, given_by, once_if, over_each, quant_rows, rows_by, rows_found, rows_of}
use Rattle.qgm_meaning.specs.Ranks.{SameUnder}
use Rattle.qgm_meaning.specs.Scope.{read_by}
use Rattle.qgm_meaning.specs.Searches.{names, names_cond}
use Rattle.qgm_meaning.specs.Values.{Bag, Environment, all_true, bound, head_cells}
use Rattle.qgm_meaning.proofs.Alikes.{only-alike}
use Rattle.qgm_meaning.proofs.Nodes.{all_true-nodes, head-nodes}
use Rattle.qgm_meaning.proofs.Unfold.{rows-local}
use Rattle.qgm_edit_laws.specs.Adds.{at}
use Rattle.qgm_edit_laws.specs.Changes.{Reparts}
use Rattle.qgm_edit_laws.specs.Graph.{BareBy, Sound, binds_row, nodes_in, reads_in}
use Rattle.qgm_edit_laws.specs.Keeps.{Keeps}
use Rattle.rule_merge.specs.Merged.{Merges, merge_node, merged_in}
use Rattle.rule_merge.specs.MergesDistinct.{MergesDistinct}
use Rattle.rule_merge.specs.MergesPermit.{MergesAny}
use Rattle.qgm_edit_laws.proofs.Changes.{parts-sound}
use Rattle.qgm_edit_laws.proofs.Filters.{over-once}
use Rattle.qgm_edit_laws.proofs.Ranks.{place, place-under, same-box}
use Rattle.qgm_edit_laws.proofs.Rules.{keeps-chained, same-agree}
use Rattle.rule_merge.proofs.MergeSelectKeeps.{merge-keeps}
use Rattle.qgm_edit_laws.proofs.Scope.{one-parent, unfold-bag}
use Rattle.qgm_edit_laws.proofs.Scoped.{few-ids, scoped-of}
use Rattle.qgm_edit_laws.proofs.Turns.{first-own}
use Rattle.qgm_edit_laws.proofs.Widths.{filled-map}
use Rattle.list_laws.proofs.Counting.{times-in}
use Rattle.list_laws.proofs.Membership.{any-from, eq-false-sym, eq-itself, in-map, in-right, map-in}
use Rattle.list_laws.proofs.Booleans.{clash}

-- rows with DISTINCT or without have the same greatest levels
levels-once : (t : Bool) (rows : Bag) → SameLevels same_cells (once_if t rows) rows
levels-once true rows = levels-distinct same_cells same_cells-decides rows
levels-once false rows = levels-refl same_cells rows

-- so have the combinations, where the rows of each quantifier have
pub each-levels : (s t : Family) (give : Environment → Bag) (rs : List OwnedQuant) → ((x : OwnedQuant) → In x rs → (e : Environment) → SameLevels same_cells (s x.id e) (t x.id e)) → (e : Environment) → SameLevels same_cells (over_each rs s give e) (over_each rs t give e)
each-levels s t give [] h e = levels-refl same_cells (give e)
each-levels s t give (r ∷ rs) h e = elim (is_F r.kind) as (λ f. SameLevels same_cells
    (cond f (bind (s r.id e) (λ cells. over_each rs s give (bound r.id cells e))) (over_each rs s give e))
    (cond f (bind (t r.id e) (λ cells. over_each rs t give (bound r.id cells e))) (over_each rs t give e))) [
      | true ↦ levels-bind same_cells same_cells-decides same_cells (h r (inl refl) e) (λ cells. each-levels s t give rs (λ x i e. h x (inr i) e) (bound r.id cells e))
      | false ↦ each-levels s t give rs (λ x i e. h x (inr i) e) e
    ]

bare-same : (k : BoxKind) (y : Node) → BareBy k y → BareBy k (with_distinct Preserve y)
bare-same (Base table) y h = h
bare-same Select y h = h
bare-same (Group keys) y h = h
bare-same (SetOp operator types) y h = h
bare-same OuterJoin y h = h

abbrev pub loosened : ℕ → Node → Node
loosened c = at c (with_distinct Preserve)

pub by-all : {X : Type 0} (c : ℕ) (f : Node → X) → ((y : Node) → f (with_distinct Preserve y) ≡ f y) → (y : Node) → f (loosened c y) ≡ f y
by-all c f h y = elim (y.id == c) as (λ t. f (cond t (with_distinct Preserve y) y) ≡ f y) [ true ↦ h y | false ↦ refl ]

map-absent : (c : ℕ) (ns : List Node) → has_box ns c ≡ false → map (loosened c) ns ≡ ns
map-absent c [] h = refl
map-absent c (n ∷ ns) h = elim (cases_Bool (n.id == c)) [
  | inl t ↦ absurd (clash (has_box (n ∷ ns) c) (or_left (n.id == c) (has_box ns c) t) h)
  | inr f ↦ ap₂ (λ (x : Node) (xs : List Node). x ∷ xs) (ap (λ t. cond t (with_distinct Preserve n) n) f) (map-absent c ns (sym (ap (λ t. t || has_box ns c) f) ∙ h))
]

-- without c it doesn't matter what c was
pub without-map : (c : ℕ) (ns : List Node) → Ordered ns → without (is_box c) (map (loosened c) ns) ≡ without (is_box c) ns
without-map c [] o = refl
without-map c (n ∷ ns) o =
    let same : (loosened c n).id ≡ n.id = by-all c (λ (y : Node). y.id) (λ y. refl) n in
    elim (cases_Bool (n.id == c)) [
      | inl t ↦ ap (λ z. cond z (map (loosened c) ns) (loosened c n ∷ without (is_box c) (map (loosened c) ns))) (ap (λ z. z == c) same ∙ t)
          ∙ map-absent c ns (subst (λ z. has_box ns z ≡ false) (eqb-true n.id c t) o.0) ∙ sym (ap (λ z. cond z ns (n ∷ without (is_box c) ns)) t)
      | inr f ↦ ap (λ z. cond z (map (loosened c) ns) (loosened c n ∷ without (is_box c) (map (loosened c) ns))) (ap (λ z. z == c) same ∙ f)
          ∙ ap₂ (λ (x : Node) (xs : List Node). x ∷ xs) (ap (λ t. cond t (with_distinct Preserve n) n) f) (without-map c ns o.2) ∙ sym (ap (λ z. cond z ns (n ∷ without (is_box c) ns)) f)
    ]

overs-same : (c : ℕ) (ns : List Node) → overs_in (map (loosened c) ns) ≡ overs_in ns
overs-same c [] = refl
overs-same c (n ∷ ns) = ap₂ (λ (xs ys : List ℕ). xs ++ ys) (by-all c overs_of (λ y. refl) n) (overs-same c ns)

-- whichever DISTINCT both are
pub any-of : (bs : List Node) (b c : Node) (us : List OwnedQuant) (r : OwnedQuant) (vs : List OwnedQuant) → MergesDistinct bs b c us r vs → MergesAny bs b c us r vs
any-of bs b c us r vs m = record {
  in_b = m.in_b;
  in_c = m.in_c;
  split = m.split;
  is_f = m.is_f;
  over_c = m.over_c;
  select_b = m.select_b;
  select_c = m.select_c;
  one_use = m.one_use;
  naked = m.naked;
}

-- ---- the boxes, with c as PRESERVE

module _ (bs : List Node) (root : ℕ) (w : Sound bs root) (b c : Node) (us : List OwnedQuant) (r : OwnedQuant) (vs : List OwnedQuant) (m : MergesAny bs b c us r vs) where
  abbrev q : ℕ
  q = r.id

  abbrev g : Node → Node
  g = loosened c.id

  abbrev c' : Node
  c' = with_distinct Preserve c

  pub in-b : In r b.quants
  in-b = subst (λ z. In r z) (sym m.split) (in-right r us (r ∷ vs) (inl refl))

  pub b-not-c : (b.id == c.id) ≡ false
  b-not-c = elim (cases_Bool (b.id == c.id)) [
    | inr f ↦ f
    | inl t ↦ absurd (
        let less : place bs b.id < place bs c.id = subst (λ z. place bs b.id < place bs z) m.over_c (place-under bs b r w.ordered m.in_b in-b) in
        let same : place bs b.id ≡ place bs c.id = ap (place bs) (eqb-true b.id c.id t) in omega arith)
  ]

  reparts : Reparts bs g
  reparts = record {
    id = by-all c.id (λ n. n.id) (λ y. refl);
    kind = λ y i. by-all c.id (λ n. n.parts.kind) (λ y. refl) y;
    quants = λ y i. by-all c.id (λ n. n.quants) (λ y. refl) y;
    wide = λ y i. by-all c.id width (λ y. refl) y;
    reads = λ y i x t. (scoped-of bs root w y i).own x (sym (by-all c.id (λ n. read_by n x) (λ y. refl) y) ∙ t);
    fits = λ y i x k t. w.fits y i x k (sym (by-all c.id (λ n. reads_in x k n) (λ y. refl) y) ∙ t);
    own_nodes = λ y i x t. w.own_nodes y i x (sym (by-all c.id (λ n. nodes_in x n) (λ y. refl) y) ∙ t);
    bare = λ y i. elim (y.id == c.id) as (λ t. BareBy y.parts.kind (cond t (with_distinct Preserve y) y)) [ true ↦ bare-same y.parts.kind y (w.bare y i) | false ↦ w.bare y i ];
  }

  pub sound : Sound (map g bs) root
  sound = parts-sound bs root w g reparts

  pub g-other : (y : Node) → (y.id == c.id) ≡ false → g y ≡ y
  g-other y f = ap (λ t. cond t (with_distinct Preserve y) y) f

  pub g-c : g c ≡ c'
  g-c = ap (λ t. cond t c' c) (eq-itself c.id)

  -- M1 may fire there
  pub merges : Merges (map g bs) b c' us r vs
  merges = record {
    in_b = subst (λ z. In z (map g bs)) (g-other b b-not-c) (map-in g b bs m.in_b);
    in_c = subst (λ z. In z (map g bs)) g-c (map-in g c bs m.in_c);
    split = m.split;
    is_f = m.is_f;
    over_c = m.over_c;
    select_b = m.select_b;
    select_c = m.select_c;
    one_use = ap (times c.id) (overs-same c.id bs) ∙ m.one_use;
    not_enforced = refl;
    naked = λ y i n k t. (
        let x = in-map g y bs i in
        m.naked x.0 x.1.0 (ap (λ z. z == b.id) (sym (by-all c.id (λ n. n.id) (λ y. refl) x.0)) ∙ ap (λ (z : Node). z.id == b.id) x.1.1 ∙ n) k
        (sym (by-all c.id (λ n. reads_in q k n) (λ y. refl) x.0) ∙ ap (λ (z : Node). reads_in q k z) x.1.1 ∙ t));
  }

  -- only r ranges over c
  only-b : (y : Node) (x : OwnedQuant) → In y bs → In x y.quants → x.over ≡ c.id → y ≡ b
  only-b y x i j e = one-parent bs root w c.id y b x r (let a = m.one_use in omega arith) i m.in_b j in-b e m.over_c

  pub not-over : (y : Node) → In y bs → (y.id == b.id) ≡ false → (x : OwnedQuant) → In x y.quants → (x.over == c.id) ≡ false
  not-over y i n x j = elim (cases_Bool (x.over == c.id)) [ inr f ↦ f | inl t ↦ absurd (clash (y.id == b.id) (eq-eqb y.id b.id (ap (λ (z : Node). z.id) (only-b y x i j (eqb-true x.over c.id t)))) n) ]

  pub few-b : (x : ℕ) → times x (ids_of b) ≤ 1
  few-b x = few-ids bs b x (w.once x) m.in_b

  pub alone : (x : OwnedQuant) → In x b.quants → (x.id == q) ≡ false → (x.over == c.id) ≡ false
  alone x j n = elim (cases_Bool (x.over == c.id)) [
    | inr f ↦ f
    | inl t ↦ absurd (clash (x.id == q) (over-once x r b.quants c.id few-c j in-b (eqb-true x.over c.id t) m.over_c) n)
  ]
    where
      few-c : times c.id (overs_of b) ≤ 1
      few-c = let a = times-in overs_of c.id b bs m.in_b in let d = m.one_use in omega arith

  no-row : (x : ℕ) → nodes_in x b ≡ true → (x == q) ≡ false
  no-row x t = elim (cases_Bool (x == q)) [
    | inr f ↦ f
    | inl y ↦ absurd (clash (binds_row q b.quants) (any-from (λ (z : OwnedQuant). is_F z.kind && is_quant q z) r b.quants in-b (ap₂ (λ (a d : Bool). a && d) m.is_f (eq-itself q)))
        (subst (λ z. binds_row z b.quants ≡ false) (eqb-true x q y) (w.own_nodes b m.in_b x t).1))
  ]

  module _ (tables : List Table) where
    abbrev pub f : Family
    f = bag_in tables bs

    -- the rows of c as those of PRESERVE
    abbrev pub raw : Environment → Bag
    raw e = over_each c.quants (quant_rows c f) (given_by (quant_rows c f) c) e

    abbrev pub f' : Family
    f' x e = cond (x == c.id) (raw e) (f x e)

    pub f-was : (x : ℕ) → (x == c.id) ≡ false → f' x ≡ f x
    f-was x n = fun_ext (λ e. ap (λ (t : Bool). cond t (raw e) (f x e)) n)

    pub f-c : (e : Environment) → f' c.id e ≡ raw e
    f-c e = ap (λ (t : Bool). cond t (raw e) (f c.id e)) (eq-itself c.id)

    levels-c : (e : Environment) → SameLevels same_cells (f' c.id e) (f c.id e)
    levels-c e = subst (λ z. SameLevels same_cells z (f c.id e)) (sym (f-c e)) (subst (λ z. SameLevels same_cells (raw e) z) (sym was) (record { levels = λ k. sym ((levels-once (is_enforce c.parts.distinct) (raw e)).levels k) }))
      where
        was : f c.id e ≡ once_if (is_enforce c.parts.distinct) (raw e)
        was = unfold-bag tables bs c w.ordered m.in_c e ∙ ap (λ z. rows_by z tables c (quant_rows c f) e) m.select_c

    pub under-same : (rs : List OwnedQuant) → ((x : OwnedQuant) → In x rs → (x.over == c.id) ≡ false) → SameUnder rs f' f
    under-same [] h = tt
    under-same (x ∷ rs) h = (f-was x.over (h x (inl refl)), under-same rs (λ z j. h z (inr j)))

    pub c-rows : (e : Environment) → rows_of tables c' f' e ≡ f' c.id e
    c-rows e =
        ap (λ (h : Environment → Bag). h e) (rows-local tables c' f' f (under-same c.quants (not-over c m.in_c (eq-false-sym b.id c.id b-not-c))))
        ∙ ap (λ z. rows_by z tables c' (quant_rows c f) e) m.select_c ∙ sym (f-c e)

    abbrev pub s : Family
    s = quant_rows b f

    abbrev pub s' : Family
    s' = quant_rows b f'

    s-same : (x : ℕ) → (x == q) ≡ false → s' x ≡ s x
    s-same x n = by b.quants (λ y j. j)
      where
        by : (rs : List OwnedQuant) → ((y : OwnedQuant) → In y rs → In y b.quants) → rows_found (first (is_quant x) rs) f' ≡ rows_found (first (is_quant x) rs) f
        by [] sub = refl
        by (y ∷ rs) sub = elim (cases_Bool (y.id == x)) [
          | inl t ↦ ap (λ (z : Bool). rows_found (cond z (Some y) (first (is_quant x) rs)) f') t ∙ f-was y.over (alone y (sub y (inl refl)) (subst (λ z. (z == q) ≡ false) (sym (eqb-true y.id x t)) n)) ∙ sym (ap (λ (z : Bool). rows_found (cond z (Some y) (first (is_quant x) rs)) f) t)
          | inr t ↦ ap (λ (z : Bool). rows_found (cond z (Some y) (first (is_quant x) rs)) f') t ∙ by rs (λ z j. sub z (inr j)) ∙ sym (ap (λ (z : Bool). rows_found (cond z (Some y) (first (is_quant x) rs)) f) t)
        ]

    levels-q : (e : Environment) → SameLevels same_cells (s' q e) (s q e)
    levels-q e =
        let one : first (is_quant q) b.quants ≡ Some r = first-own r b.quants (few-b q) in-b in
        let now : s' q e ≡ f' c.id e = ap (λ o. rows_found o f' e) one ∙ ap (λ z. f' z e) m.over_c in
        let was : s q e ≡ f c.id e = ap (λ o. rows_found o f e) one ∙ ap (λ z. f z e) m.over_c in
        subst (λ z. SameLevels same_cells z (s q e)) (sym now) (subst (λ z. SameLevels same_cells (f' c.id e) z) (sym was) (levels-c e))

    pub levels-s : (x : OwnedQuant) → In x b.quants → (e : Environment) → SameLevels same_cells (s' x.id e) (s x.id e)
    levels-s x j e = elim (cases_Bool (x.id == q)) [
      | inl t ↦ subst (λ z. SameLevels same_cells (s' z e) (s z e)) (sym (eqb-true x.id q t)) (levels-q e)
      | inr n ↦ subst (λ (z : Environment → Bag). SameLevels same_cells (z e) (s x.id e)) (sym (s-same x.id n)) (levels-refl same_cells (s x.id e))
    ]

    pub given-same : (e : Environment) → given_by s' b e ≡ given_by s b e
    given-same e =
        let same : (x : ℕ) → nodes_in x b ≡ true → s' x e ≡ s x e = λ x t. ap (λ (h : Environment → Bag). h e) (s-same x (no-row x t)) in
        ap (λ (z : Truth). keep z.t (unit (head_cells (λ x. s' x e) b.parts.head e))) (all_true-nodes (λ x. s' x e) (λ x. s x e) b.parts.conds.items e (λ x t. same x (or_right (list_any (names x) b.parts.head) (list_any (names_cond x) b.parts.conds.items) t)))
        ∙ ap (λ h. keep (all_true (λ x. s x e) b.parts.conds.items e).t (unit h)) (head-nodes (λ x. s' x e) (λ x. s x e) b.parts.head e (λ x t. same x (or_left (list_any (names x) b.parts.head) (list_any (names_cond x) b.parts.conds.items) t)))

    b-rows : is_enforce b.parts.distinct ≡ true → (e : Environment) → Agree same_cells (rows_of tables b f' e) (f b.id e)
    b-rows k e =
        let now : rows_of tables b f' e ≡ once_if true (over_each b.quants s' (given_by s b) e) =
        ap (λ z. rows_by z tables b s' e) m.select_b ∙ ap (λ o. once_if o (over_each b.quants s' (given_by s' b) e)) k ∙ ap (λ (h : Environment → Bag). once_if true (over_each b.quants s' h e)) (fun_ext given-same) in
        let was : f b.id e ≡ once_if true (over_each b.quants s (given_by s b) e) =
        unfold-bag tables bs b w.ordered m.in_b e ∙ ap (λ z. rows_by z tables b s e) m.select_b ∙ ap (λ o. once_if o (over_each b.quants s (given_by s b) e)) k in
        subst (λ z. Agree same_cells z (f b.id e)) (sym now) (subst (λ z. Agree same_cells (once_if true (over_each b.quants s' (given_by s b) e)) z) (sym was)
        (agree-from_alike same_cells (distinct-levels same_cells same_cells-decides (each-levels s' s (given_by s b) b.quants levels-s e))))

    at-box : is_enforce b.parts.distinct ≡ true → (y : Node) → In y bs → (e : Environment) → Agree same_cells (rows_of tables (g y) f' e) (f' y.id e)
    at-box k y i e = elim (cases_Bool (y.id == c.id)) [
      | inl t ↦ (
          let same : y ≡ c = same-box bs y c w.ordered i m.in_c (eqb-true y.id c.id t) in
          subst (λ (z : Node). Agree same_cells (rows_of tables (g z) f' e) (f' z.id e)) (sym same) (same-agree (ap (λ z. rows_of tables z f' e) g-c ∙ c-rows e)))
      | inr n ↦ subst (λ (z : Node). Agree same_cells (rows_of tables z f' e) (f' y.id e)) (sym (g-other y n)) (subst (λ (z : Environment → Bag). Agree same_cells (rows_of tables y f' e) (z e)) (sym (f-was y.id n)) (elim (cases_Bool (y.id == b.id)) [
        | inl t ↦ (
            let same : y ≡ b = same-box bs y b w.ordered i m.in_b (eqb-true y.id b.id t) in
            subst (λ (z : Node). Agree same_cells (rows_of tables z f' e) (f z.id e)) (sym same) (b-rows k e))
        | inr d ↦ same-agree (ap (λ (z : Environment → Bag). z e) (rows-local tables y f' f (under-same y.quants (not-over y i d))) ∙ sym (unfold-bag tables bs y w.ordered i e))
      ]))
    ]

    stays : (s : Family) (rs : List OwnedQuant) → Stays (λ e. true) s rs
    stays s [] = tt
    stays s (x ∷ rs) = ((λ e cells h p o. refl), stays s rs)

    backs : (ns : List Node) → ((n : Node) → In n ns → (e : Environment) → Agree same_cells (rows_of tables n f' e) (f' n.id e)) → AgreesBack (λ e. true) tables f' ns
    backs [] h = tt
    backs (n ∷ ns) h = (stays (quant_rows n f') n.quants, (λ e p. h n (inl refl) e), backs ns (λ n i. h n (inr i)))

    pub root-not-c : (root == c.id) ≡ false
    root-not-c = elim (cases_Bool (root == c.id)) [ inr n ↦ n | inl t ↦ absurd (let a = w.top in let d = m.one_use in let e : times root (overs_in bs) ≡ times c.id (overs_in bs) = ap (λ z. times z (overs_in bs)) (eqb-true root c.id t) in omega arith) ]

    pub root-same : is_enforce b.parts.distinct ≡ true → (e : Environment) → Agree same_cells (bag_in tables (map g bs) root e) (f root e)
    root-same k e = subst (λ (z : Environment → Bag). Agree same_cells (bag_in tables (map g bs) root e) (z e)) (f-was root root-not-c)
        (agree-from_alike same_cells (only-alike tables f' (λ e. true) (map g bs) sound.ordered (backs (map g bs) (λ n i e. (
        let y = in-map g n bs i in
        subst (λ (z : Node). Agree same_cells (rows_of tables z f' e) (f' z.id e)) y.1.1 (subst (λ x. Agree same_cells (rows_of tables (g y.0) f' e) (f' x e)) (sym (by-all c.id (λ n. n.id) (λ y. refl) y.0)) (at-box k y.0 y.1.0 e))))) root sound.rooted e refl))

-- the graph after M1 is sound, of whichever DISTINCT the two are
pub merge-any-sound : (h : QueryGraph) → Sound h.boxes h.root → (b c : Node) (us : List OwnedQuant) (rq : OwnedQuant) (vs : List OwnedQuant) → MergesAny h.boxes b c us rq vs → Sound (merged_in b c us rq vs h).boxes h.root
merge-any-sound h w b c us rq vs m =
    subst (λ z. Sound (compact (on_boxes (λ bs. map (merge_node b.id rq.id c (us ++ (c.quants ++ vs))) z) h)).boxes h.root) (without-map c.id h.boxes w.ordered)
    (merge-keeps (on_boxes (map (loosened c.id)) h) (sound h.boxes h.root w b c us rq vs m) b (with_distinct Preserve c) us rq vs (merges h.boxes h.root w b c us rq vs m)).well

pub merge-distinct-keeps : (h : QueryGraph) → Sound h.boxes h.root → (b c : Node) (us : List OwnedQuant) (rq : OwnedQuant) (vs : List OwnedQuant) → MergesDistinct h.boxes b c us rq vs → Keeps h (merged_in b c us rq vs h)
merge-distinct-keeps h w b c us rq vs m =
    let a = any-of h.boxes b c us rq vs m in
    let mid : QueryGraph = on_boxes (map (loosened c.id)) h in
    let one : Keeps h mid = record {
      well = sound h.boxes h.root w b c us rq vs a;
      bag = λ tables filled. root-same h.boxes h.root w b c us rq vs a tables m.enforced [];
      bases = λ tables filled. filled-map tables (loosened c.id) (λ y. by-all c.id (λ n. n.parts.kind) (λ y. refl) y) h.boxes filled;
      names = refl;
      order = refl;
    } in
    let two : Keeps mid (merged_in b (with_distinct Preserve c) us rq vs mid) = merge-keeps mid one.well b (with_distinct Preserve c) us rq vs (merges h.boxes h.root w b c us rq vs a) in
    subst (λ z. Keeps h (compact (on_boxes (λ bs. map (merge_node b.id rq.id c (us ++ (c.quants ++ vs))) z) h))) (without-map c.id h.boxes w.ordered)
    (keeps-chained.chained h mid (merged_in b (with_distinct Preserve c) us rq vs mid) one two)
