-- The check finds nothing more after U2.
use Rattle.std.proofs.Common.{ℕ, ◌==◌, ◌≡◌, ◌&&◌, ◌||◌, ◌≤◌, cond, Bool, true, false, List, [], ◌∷◌, ◌++◌, length, Some, None, refl, sym, ap, subst, ◌∙◌, eqb-true, inl, inr, arith}
use Rattle.std.specs.List.{list_all, list_any}
use Rattle.std.proofs.lemmas.Bool.{and_from, and_parts, cases_Bool, eq-eqb, le-leb, or_cases, or_left, or_right}
use Rattle.sql_value.specs.declared.order_key.SqlType.{SqlType}
use Rattle.qgm_core.specs.Boxes.{QueryGraph, is_quant, width}
use Rattle.qgm_core.specs.Edits.{range}
use Rattle.qgm_core.specs.Kinds.{is_F, is_F_or_S, is_S, is_fed, width_by}
use Rattle.list_laws.specs.Lists.{In}
use Rattle.qgm_core.specs.declared.kinds.BoxKind.{BoxKind}
use Rattle.qgm_core.specs.declared.kinds.BoxKind.TheVariants.{Base, Group, OuterJoin, Select, SetOp}
use Rattle.qgm_core.specs.declared.kinds.QuantKind.TheVariants.{F}
use Rattle.qgm_core.specs.declared.node.Node.{Node}
use Rattle.qgm_core.specs.declared.owned.OwnedQuant.{OwnedQuant}
use Rattle.qgm_terms.specs.Terms.{Term}
use Rattle.qgm_wellformed.specs.Columns.{columns_of, fits, over_box}
use Rattle.qgm_wellformed.specs.Types.{Lookup, arms_agree, cond_fits, is_known, known, lookup_of, term_type, type_found, types_by, types_of}
use Rattle.qgm_meaning.specs.Searches.{binds, binds_cond, names, names_cond}
use Rattle.qgm_edit_laws.specs.FormedAdds.{MayInterpose, column_of, own_box, own_types, types_asked}
use Rattle.qgm_edit_laws.specs.Graph.{Sound, nodes_in}
use Rattle.qgm_edit_laws.specs.Reforms.{types_at}
use Rattle.qgm_edit_laws.specs.Shaped.{Shaped, Typed}
use Rattle.rule_subquery.specs.ScalarToGroupLaws.{MaySingle, SingleWellFormed, single_box, single_head}
use Rattle.qgm_edit_laws.proofs.Adds.{reads-at-read}
use Rattle.qgm_edit_laws.proofs.AnyPut.{conds-names, heads-names}
use Rattle.qgm_edit_laws.proofs.BoxForms.{counted-seen}
use Rattle.qgm_edit_laws.proofs.ColumnNames.{asked-column}
use Rattle.qgm_edit_laws.proofs.ColumnShapes.{fed-two}
use Rattle.qgm_edit_laws.proofs.Follow.{settled-types}
use Rattle.qgm_edit_laws.proofs.Formed.{sound-checked}
use Rattle.qgm_edit_laws.proofs.Interposed.{rowless-unread}
use Rattle.qgm_edit_laws.proofs.InterposedForms.{interposed-formed}
use Rattle.qgm_edit_laws.proofs.Read.{is_at, unbound-reads}
use Rattle.qgm_edit_laws.proofs.Scope.{in-first, one-owner}
use Rattle.qgm_edit_laws.proofs.ShapeParts.{fed-parts, shape-from, shape-parts, two-parts}
use Rattle.rule_subquery.proofs.ScalarToGroupMeans.{interposes}
use Rattle.qgm_edit_laws.proofs.TypesBy.{found-as}
use Rattle.list_laws.proofs.Membership.{any-from, eq-itself, in-left, in-right}
use Rattle.list_laws.proofs.Booleans.{clash}

-- the first column of a box whose columns have types has one
first-known : (at : Lookup) (k : BoxKind) (head : List Term) → list_all (λ x. is_known (term_type at x)) head ≡ true → 1 ≤ width_by k (length head) → is_known (column_of (types_by at k head) 1) ≡ true
first-known at k head h l = by k l
  where
    listed : (types : List SqlType) → 1 ≤ length types → is_known (column_of (known types) 1) ≡ true
    listed [] l = absurd (omega arith)
    listed (t ∷ ts) l = refl

    celled : (xs : List Term) → list_all (λ x. is_known (term_type at x)) xs ≡ true → 1 ≤ length xs → is_known (column_of (types_by at Select xs) 1) ≡ true
    celled [] h l = absurd (omega arith)
    celled (x ∷ xs) h l = (and_parts (is_known (term_type at x)) (list_all (λ x. is_known (term_type at x)) xs) h).0

    by : (k : BoxKind) → 1 ≤ width_by k (length head) → is_known (column_of (types_by at k head) 1) ≡ true
    by (Base table) l = listed table.types l
    by Select l = celled head h l
    by (Group keys) l = celled head h l
    by (SetOp form types) l = listed types l
    by OuterJoin l = celled head h l

module _ (xs ys : List Node) (g : QueryGraph) (w : Sound (xs ++ ys) g.root) (ty : Typed (xs ++ ys)) (sh : Shaped (xs ++ ys) g.root) (b p : ℕ) (o c : Node) (r : OwnedQuant) (m : MaySingle xs ys g.root b p o c r) where
  abbrev bs : List Node
  bs = xs ++ ys

  abbrev s : Node
  s = single_box b p c.id

  o-bs : In o bs
  o-bs = in-left o xs ys m.in_o

  c-bs : In c bs
  c-bs = in-right c xs ys m.in_c

  -- a fed box has F quantifiers alone
  not-fed : is_fed o.parts.role ≡ false
  not-fed = elim (cases_Bool (is_fed o.parts.role)) [
    | inr f ↦ f
    | inl f ↦ absurd (
        let t = fed-two bs o.parts.head o.quants (fed-parts g.root bs o f (shape-parts g.root bs o (sh.shapes o o-bs)).kind).fed in
        let k = and_parts (is_F t.0.kind) (is_F t.1.0.kind) (two-parts bs o.parts.head t.0 t.1.0 t.1.1.1).kinds in
        let row : is_F r.kind ≡ true = (elim (subst (λ z. In r z) t.1.1.0 m.owned) [
          | inl e ↦ subst (λ (z : OwnedQuant). is_F z.kind ≡ true) e k.0
          | inr j ↦ elim j [ inl e ↦ subst (λ (z : OwnedQuant). is_F z.kind ≡ true) e k.1 | inr n ↦ elim n [ ] ]
        ]) in
        clash (is_F r.kind) row (ap is_F m.is_s))
  ]

  -- ---- r is named by scalars of o alone

  apart-names : (y : Node) → In y bs → (list_any (binds r.id) y.parts.head || list_any (binds_cond r.id) y.parts.conds.items) ≡ true → ⊥
  apart-names y i h =
      let named : nodes_in r.id y ≡ true = (elim (or_cases (list_any (binds r.id) y.parts.head) (list_any (binds_cond r.id) y.parts.conds.items) h) [
        | inl a ↦ or_left (list_any (names r.id) y.parts.head) (list_any (names_cond r.id) y.parts.conds.items) (heads-names r.id y.parts.head a)
        | inr a ↦ or_right (list_any (names r.id) y.parts.head) (list_any (names_cond r.id) y.parts.conds.items) (conds-names r.id y.parts.conds.items a)
      ]) in
      let same : y ≡ o = one-owner bs g.root w r.id y o i o-bs (w.own_nodes y i r.id named).0 (any-from (is_quant r.id) r o.quants m.owned (eq-itself r.id)) in
      elim (or_cases (list_any (binds r.id) o.parts.head) (list_any (binds_cond r.id) o.parts.conds.items) (subst (λ (z : Node). (list_any (binds r.id) z.parts.head || list_any (binds_cond r.id) z.parts.conds.items) ≡ true) same h)) [
        | inl a ↦ clash (list_any (binds r.id) o.parts.head) a m.scalars
        | inr a ↦ clash (list_any (binds_cond r.id) o.parts.conds.items) a m.scalars_conds
      ]

  no-column : (y : Node) → In y bs → (k : ℕ) → list_any (is_at r.id k) (columns_of y) ≡ true → ⊥
  no-column y i k h = elim (cases_Bool (list_any (binds r.id) y.parts.head || list_any (binds_cond r.id) y.parts.conds.items)) [
    | inl a ↦ apart-names y i a
    | inr a ↦ rowless-unread bs g.root w o r o-bs m.owned (ap is_F m.is_s) m.a_select y i (reads-at-read r.id k y (unbound-reads r.id k y a h))
  ]

  first-asked : (y : Node) → In y bs → (k : ℕ) → types_asked r.id k y ≡ true → k ≡ 1
  first-asked y i k h = elim (cases_Bool (1 == k)) [ inl e ↦ sym (eqb-true 1 k e) | inr n ↦ absurd (no-column y i k (asked-column r.id k y n h)) ]

  -- ---- the group's one column is the first of c

  under-p : own_box bs s p ≡ Some c
  under-p = ap (λ (t : Bool). over_box bs (cond t (Some (range p F c.id)) None)) (eq-itself p) ∙ in-first c bs w.ordered c-bs

  type-p : own_types bs s p 1 ≡ column_of (types_at bs c.id) 1
  type-p = ap (type_found (types_of bs) 1) under-p ∙ found-as bs 1 (Some c)

  known-p : is_known (own_types bs s p 1) ≡ true
  known-p =
      let a = and_parts (list_all (λ x. is_known (term_type (lookup_of bs) x)) c.parts.head) (list_all (cond_fits (lookup_of bs)) c.parts.conds.items && arms_agree (types_of bs) c.parts.kind c.quants) (ty c c-bs) in
      ap is_known type-p ∙ ap (λ z. is_known (column_of z 1)) (settled-types bs g.root w c c-bs) ∙ first-known (lookup_of bs) c.parts.kind c.parts.head a.0 m.column

  pub may-interpose : MayInterpose xs ys g.root s o c r
  may-interpose = record {
    interposes = interposes xs ys g w b p o c r m;
    select = m.a_select;
    not_fed = not-fed;
    not_fed_s = refl;
    own = λ q h. h;
    types = ap (λ (z : Bool). (z && true) && (true && true)) known-p;
    columns = ap (λ z. fits 1 z && true) under-p ∙ ap (λ (z : Bool). z && true) (le-leb 1 (width c) m.column);
    shape = shape-from g.root bs s (record { kind = ap (λ (z : Bool). (z || false) && true) (eq-itself p); nodes = refl; placed = refl; scalar = λ t. refl });
    same = λ y i k h. subst (λ z. column_of (types_by (own_types bs s) (Group 0) (single_head p)) z ≡ column_of (types_at bs c.id) z) (sym (first-asked y i k h)) type-p;
    wide = λ y d i j e. absurd (no-column y i d.place (any-from (is_at r.id d.place) d (columns_of y) j (and_from (d.quant == r.id) (d.place == d.place) (eq-eqb d.quant r.id e) (eq-itself d.place))));
    scalar = λ h. refl;
    counted = λ h. refl;
    scalars = λ q z j k e h. elim j [ inl n ↦ absurd (clash (is_S q.kind) h (ap (λ (z : OwnedQuant). is_S z.kind) (sym n))) | inr n ↦ elim n [ ] ];
    unseen = λ q z j k e h. elim j [ inl n ↦ counted-seen bs g.root ty sh o z r o-bs m.owned (ap is_F_or_S m.is_s) k (e ∙ ap (λ (z : OwnedQuant). z.over) (sym n) ∙ sym m.over_c) | inr n ↦ elim n [ ] ];
  }

pub single-formed : SingleWellFormed
single-formed xs ys g e u f b p o c r m =
    let k = (sound-checked g u).0 f in
    interposed-formed xs ys g e u f (single_box b p c.id) o c r
    (may-interpose xs ys g (subst (λ z. Sound z g.root) e k.0) (subst Typed e k.1) (subst (λ z. Shaped z g.root) e k.2) b p o c r m)
