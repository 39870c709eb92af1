-- P3: a conjunct goes through a set operation into both of its arms.
use Rattle.std.proofs.Common.{ℕ, zero, suc, ◌==◌, ◌≡◌, ◌&&◌, ◌≤◌, ◌<◌, nat_le, cond, Bool, true, false, List, ◌∷◌, ◌++◌, map, length, Option, Some, None, slice_get, refl, sym, ap, ap₂, subst, ◌∙◌, eqb-true, ◌⊎◌, inl, inr, arith, []}
use Rattle.std.specs.List.{list_all}
use Rattle.std.proofs.lemmas.Bool.{and_parts, cases_Bool, eq-eqb, leb-false, leb-true, or_cases}
use Rattle.row_bag.specs.AsSets.{is_clean, is_decided, stands}
use Rattle.row_bag.specs.Bags.{Agree}
use Rattle.row_bag.specs.Order.{cell_of}
use Rattle.row_bag.specs.Sets.{same_cells}
use Rattle.row_bag.specs.Verdict.{is_there}
use Rattle.row_bag.specs.declared.row.Row.{Row}
use Rattle.row_bag.specs.declared.tables.Table.{Table}
use Rattle.row_bag.proofs.TupleBags.{same_cells-decides}
use Rattle.sql_value.specs.declared.cell.Cell.{Cell}
use Rattle.sql_value.specs.declared.cell.Cell.TheVariants.{Null}
use Rattle.sql_value.specs.declared.level.Level.{Level}
use Rattle.sql_value.specs.declared.order_key.SqlType.{SqlType}
use Rattle.sql_value.specs.declared.order_key.SqlType.TheVariants.{Integer, Varchar}
use Rattle.qgm_core.specs.Boxes.{QueryGraph, numbers, overs_in, width}
use Rattle.qgm_core.specs.Edits.{on_boxes}
use Rattle.qgm_core.specs.Kinds.{is_fed, width_by}
use Rattle.list_laws.specs.Lists.{EachOnce, In, first, times}
use Rattle.qgm_core.specs.declared.kinds.BoxKind.TheVariants.{Select, SetOp}
use Rattle.qgm_core.specs.declared.kinds.SetOperator.{SetOperator}
use Rattle.qgm_core.specs.declared.kinds.SetOperator.TheVariants.{Except, ExceptAll, Intersect, IntersectAll, Union, UnionAll}
use Rattle.qgm_core.specs.declared.node.Node.{Node}
use Rattle.qgm_core.specs.declared.owned.OwnedQuant.{OwnedQuant}
use Rattle.qgm_wellformed.specs.Columns.{box_under}
use Rattle.qgm_wellformed.specs.Types.{agree, all_agree, arm_agrees, arms_agree, cond_fits, is_known, is_typed, joined_column, known, lookup_of, term_type, type_found, types_by, types_of}
use Rattle.qgm_wellformed.specs.WellFormed.{fault}
use Rattle.qgm_meaning.specs.Filters.{Passable, PassableBy}
use Rattle.qgm_meaning.specs.Fits.{fits}
use Rattle.qgm_meaning.specs.Laws.{occurs}
use Rattle.qgm_meaning.specs.Meaning.{Family, bag_in, nothing, rows_of}
use Rattle.qgm_meaning.specs.Satisfies.{Satisfies}
use Rattle.qgm_meaning.specs.Values.{Bag, Environment, bound}
use Rattle.qgm_meaning.specs.Widths.{Wide}
use Rattle.qgm_props.specs.Facts.{IsErrorFree, is_sound}
use Rattle.qgm_props.specs.Inferred.{Facts, Inferred, clean, cond_free, error_free}
use Rattle.qgm_props.specs.Laws.{Premises}
use Rattle.qgm_props.proofs.EachClean.{clean-each}
use Rattle.qgm_props.proofs.HeldGroups.{nothing-sound}
use Rattle.qgm_props.proofs.HeldSets.{none-in-arms}
use Rattle.qgm_props.proofs.Rows.{occurs-each}
use Rattle.qgm_props.proofs.Terms.{SoundColumns, no-cell, truth-decided}
use Rattle.qgm_props.proofs.Wide.{arm-rows}
use Rattle.qgm_terms.specs.Substitution.{cell_at, substituted_cond}
use Rattle.qgm_terms.specs.Terms.{Cond}
use Rattle.qgm_terms.specs.Wanted.{reads_at_cond}
use Rattle.qgm_edit_laws.specs.Graph.{ArmsBy, Sound}
use Rattle.qgm_edit_laws.specs.Conditioned.{conditioned}
use Rattle.qgm_edit_laws.specs.Shaped.{Shaped, Typed}
use Rattle.qgm_edit_laws.proofs.ConjunctForms.{names-none}
use Rattle.qgm_edit_laws.proofs.Conjuncts.{test}
use Rattle.qgm_edit_laws.proofs.Edits.{any-append, split-once}
use Rattle.qgm_edit_laws.proofs.Follow.{settled-types, types_at}
use Rattle.qgm_edit_laws.proofs.Formed.{sound-checked}
use Rattle.qgm_edit_laws.proofs.OneBox.{at}
use Rattle.qgm_edit_laws.proofs.PartForms.{at-all}
use Rattle.qgm_edit_laws.proofs.Ranks.{place, same-box}
use Rattle.qgm_edit_laws.proofs.Rules.{same-agree}
use Rattle.qgm_edit_laws.proofs.Scoped.{few-ids}
use Rattle.qgm_edit_laws.proofs.TypedKept.{found-under}
use Rattle.qgm_edit_laws.proofs.HeadTypes.{type-of}
use Rattle.qgm_edit_laws.proofs.CondTypes as typed
use Rattle.qgm_edit_laws.specs.ConjunctEdits.{MayAddConjunct, more}
use Rattle.qgm_edit_laws.specs.PushDown.{PushesFrom}
use Rattle.qgm_edit_laws.proofs.AddConjunctForms.{added-formed}
use Rattle.qgm_edit_laws.proofs.DropConjunctForms.{dropped-formed}
use Rattle.qgm_props.proofs.FactsIn.{clean-in, free-in}
use Rattle.rule_facts.proofs.Premises.{premises}
use Rattle.qgm_edit_laws.proofs.PushedRows.{more-back, pushed-agree, set-back}
use Rattle.rule_push.proofs.Leaves.{checked, in-r, lose, p-column, p-fits, p-folded}
use Rattle.qgm_edit_laws.proofs.PutConjunct.{put-may}
use Rattle.qgm_edit_laws.specs.SiftedBags.{Tests, sifted}
use Rattle.qgm_edit_laws.proofs.SiftedBags.{untouched}
use Rattle.qgm_edit_laws.proofs.OneUse as used
use Rattle.qgm_edit_laws.proofs.OneUse.{map-map}
use Rattle.rule_facts.proofs.Compacted.{numbers-map}
use Rattle.list_laws.proofs.Membership.{all-in, eq-false-sym, eq-itself, map-in}

-- ---- types

-- types that agree are the same
agree-same : (a b : Option SqlType) → agree a b ≡ true → a ≡ b
agree-same (Some Integer) (Some Integer) h = refl
agree-same (Some Varchar) (Some Varchar) h = refl
agree-same (Some Integer) (Some Varchar) h = absurd (let z : ⊥ = cc in z)
agree-same (Some Varchar) (Some Integer) h = absurd (let z : ⊥ = cc in z)
agree-same (Some Integer) None h = absurd (let z : ⊥ = cc in z)
agree-same (Some Varchar) None h = absurd (let z : ⊥ = cc in z)
agree-same None (Some x) h = absurd (let z : ⊥ = cc in z)
agree-same None None h = absurd (let z : ⊥ = cc in z)

all-same : (xs ys : List (Option SqlType)) → all_agree xs ys ≡ true → xs ≡ ys
all-same [] [] h = refl
all-same [] (y ∷ ys) h = absurd (let z : ⊥ = cc in z)
all-same (x ∷ xs) [] h = absurd (let z : ⊥ = cc in z)
all-same (x ∷ xs) (y ∷ ys) h = let a = and_parts (agree x y) (all_agree xs ys) h in ap₂ (λ (u : Option SqlType) (us : List (Option SqlType)). u ∷ us) (agree-same x y a.0) (all-same xs ys a.1)

-- ---- rows without errors

-- a row of w cells, each place of which is sound, is sound everywhere
row-sound : (w : ℕ) (rows : Bag) → Wide w rows → ((j : ℕ) → 1 ≤ j → j ≤ w → IsErrorFree j rows) → (cells : List Cell) → occurs cells rows ≡ true → (j : ℕ) → is_sound (cell_of j cells) ≡ true
row-sound w rows wide free cells o zero = refl
row-sound w rows wide free cells o (suc j) = elim (cases_Bool (nat_le (suc j) w)) [
  | inl t ↦ occurs-each (λ cells. is_sound (cell_of (suc j) cells) ≡ true) rows (free (suc j) (omega arith) (leb-true (suc j) w t)) cells o
  | inr n ↦ ap is_sound (beyond cells j (let l = long rows wide o in let m = leb-false (suc j) w n in omega arith))
]
  where
    long : (rows : Bag) → Wide w rows → occurs cells rows ≡ true → length cells ≡ w
    long [] d o = absurd (let z : ⊥ = cc in z)
    long (r ∷ rows) d o = elim (or_cases (same_cells r.cells cells && is_there r) (occurs cells rows) o) [
      | inl t ↦ ap length (sym ((same_cells-decides r.cells cells).0 (and_parts (same_cells r.cells cells) (is_there r) t).0)) ∙ d.0
      | inr t ↦ long rows d.1 t
    ]

    beyond : (cells : List Cell) (j : ℕ) → length cells ≤ j → cell_of (suc j) cells ≡ Null
    beyond [] j l = refl
    beyond (c ∷ cells) zero l = absurd (let e : length (c ∷ cells) ≡ suc (length cells) = refl in let z : ⊥ = omega arith in z)
    beyond (c ∷ cells) (suc j) l = beyond cells j (let e : length (c ∷ cells) ≡ suc (length cells) = refl in omega arith)

-- ---- P3

module _ (g : QueryGraph) (u : EachOnce (numbers g.boxes)) (f : fault g ≡ None) (b : Node) (ps : List Cond) (p : Cond) (qs : List Cond) (us : List OwnedQuant) (r : OwnedQuant) (vs : List OwnedQuant) (m : PushesFrom g.boxes b ps p qs us r vs)
    (c : Node) (in-c : In c g.boxes) (over : c.id ≡ r.over) (form : SetOperator) (types : List SqlType) (kind : c.parts.kind ≡ SetOp form types) (s1 s2 : OwnedQuant) (two : c.quants ≡ s1 ∷ (s2 ∷ []))
    (n1 n2 : Node) (in-1 : In n1 g.boxes) (in-2 : In n2 g.boxes) (under-1 : n1.id ≡ s1.over) (under-2 : n2.id ≡ s2.over) (once1 : times n1.id (overs_in g.boxes) ≡ 1) (once2 : times n2.id (overs_in g.boxes) ≡ 1)
    (select1 : n1.parts.kind ≡ Select) (select2 : n2.parts.kind ≡ Select) (not_fed1 : is_fed n1.parts.role ≡ false) (not_fed2 : is_fed n2.parts.role ≡ false) where
  abbrev bs : List Node
  bs = g.boxes

  ok : Sound g.boxes g.root × Typed g.boxes × Shaped g.boxes g.root
  ok = checked g u f b ps p qs us r vs m

  w : Sound g.boxes g.root
  w = ok.0

  r-in : In r b.quants
  r-in = in-r g u f b ps p qs us r vs m

  in-s1 : In s1 c.quants
  in-s1 = subst (λ z. In s1 z) (sym two) (inl refl)

  in-s2 : In s2 c.quants
  in-s2 = subst (λ z. In s2 z) (sym two) (inr (inl refl))

  beside : (s2.id == s1.id) ≡ false
  beside = split-once (λ (x : OwnedQuant). x.id) [] s1 (s2 ∷ []) (subst (λ z. times s1.id (map (λ (x : OwnedQuant). x.id) z) ≤ 1) two (few-ids bs c s1.id (w.once s1.id) in-c)) s2 (inr (inl refl))

  abbrev p1 : Cond
  p1 = substituted_cond r.id n1.parts.head p

  abbrev p2 : Cond
  p2 = substituted_cond r.id n2.parts.head p

  -- ---- a column of the operation has the type of an arm's cell

  column-is : (j : ℕ) → lookup_of bs r.id (suc j) ≡ joined_column (slice_get (known types) j)
  column-is j =
      let under : box_under bs r.id ≡ Some c = found-under bs g.root w r.id (record { owner = b; quant = r; box = c; owner_in = m.in_b; quant_in = r-in; is_q = refl; box_in = in-c; is_over = over }) in
      let all : types_at bs c.id ≡ known types = settled-types bs g.root w c in-c ∙ ap (λ z. types_by (lookup_of bs) z c.parts.head) kind in
      ap (type_found (types_of bs) (suc j)) under ∙ type-of j (first (is_typed c.id) (types_of bs)) ∙ ap (λ z. joined_column (slice_get z j)) all

  arm-types : (s : OwnedQuant) (n : Node) → In s c.quants → In n bs → n.id ≡ s.over → n.parts.kind ≡ Select → map (term_type (lookup_of bs)) n.parts.head ≡ known types
  arm-types s n i j e select =
      let a = and_parts (list_all (λ x. is_known (term_type (lookup_of bs) x)) c.parts.head) (list_all (cond_fits (lookup_of bs)) c.parts.conds.items && arms_agree (types_of bs) c.parts.kind c.quants) (ok.1 c in-c) in
      let d = and_parts (list_all (cond_fits (lookup_of bs)) c.parts.conds.items) (arms_agree (types_of bs) c.parts.kind c.quants) a.1 in
      let h : list_all (arm_agrees (types_of bs) types) c.quants ≡ true = ap (λ z. arms_agree (types_of bs) z c.quants) (sym kind) ∙ d.1 in
      let same : types_at bs s.over ≡ known types = all-same (types_at bs s.over) (known types) (all-in (arm_agrees (types_of bs) types) s c.quants h i) in
      sym (settled-types bs g.root w n j ∙ ap (λ z. types_by (lookup_of bs) z n.parts.head) select) ∙ ap (types_at bs) e ∙ same

  good : (s : OwnedQuant) (n : Node) → In s c.quants → In n bs → n.id ≡ s.over → n.parts.kind ≡ Select → (j : ℕ) → reads_at_cond r.id j p ≡ true → term_type (lookup_of bs) (cell_at j n.parts.head) ≡ lookup_of bs r.id j
  good s n i in-n e select j h = at-place j (p-column g u f b ps p qs us r vs m c in-c over j h)
    where
      wide : width n ≡ width c
      wide = subst (λ z. ArmsBy z (width n) (width c)) kind (w.arms c n s in-c i in-n e)

      long : width n ≡ length n.parts.head
      long = ap (λ z. width_by z (length n.parts.head)) select

      at-place : (j : ℕ) → (1 ≤ j) × (j ≤ width c) → term_type (lookup_of bs) (cell_at j n.parts.head) ≡ lookup_of bs r.id j
      at-place zero l = absurd (let a = l.0 in let z : ⊥ = omega arith in z)
      at-place (suc j) l =
          typed.cell-type (lookup_of bs) r.id n.parts.head n.parts.head j (let a = l.1 in omega (arith, wide, long))
          ∙ ap (λ z. joined_column (slice_get z j)) (arm-types s n i in-n e select) ∙ sym (column-is j)

  may1 : MayAddConjunct g n1 p1
  may1 = put-may g u f n1 in-1 select1 not_fed1 r.id p m.node_free m.own (p-fits g u f b ps p qs us r vs m) (p-folded g u f b ps p qs us r vs m) (good s1 n1 in-s1 in-1 under-1 select1)

  abbrev a1 : Node → Node
  a1 = at n1.id (more p1)

  abbrev a2 : Node → Node
  a2 = at n2.id (more p2)

  abbrev d : Node → Node
  d = at b.id (conditioned (ps ++ qs))

  abbrev g1 : QueryGraph
  g1 = on_boxes (map a1) g

  abbrev g2 : QueryGraph
  g2 = on_boxes (map a2) g1

  formed-1 : fault g1 ≡ None
  formed-1 = added-formed g u f n1 p1 may1

  once-1 : EachOnce (numbers g1.boxes)
  once-1 = subst (λ z. EachOnce z) (sym (numbers-map a1 (λ y. at-all n1.id (more p1) (λ z. z.id) (λ z. refl) y) bs)) u

  two-not-one : (n2.id == n1.id) ≡ false
  two-not-one = subst (λ z. (z == n1.id) ≡ false) (sym under-2) (used.not-beside bs g.root w c s1 n1.id in-c in-s1 (sym under-1) once1 s2 in-s2 beside)

  a1-2 : a1 n2 ≡ n2
  a1-2 = ap (λ (z : Bool). cond z (more p1 n2) n2) two-not-one

  in-2-1 : In n2 g1.boxes
  in-2-1 = subst (λ z. In z g1.boxes) a1-2 (map-in a1 n2 bs in-2)

  looks : lookup_of g1.boxes ≡ lookup_of bs
  looks = typed.lookup-map a1 (λ y. at-all n1.id (more p1) (λ z. z.id) (λ z. refl) y) (λ y. at-all n1.id (more p1) (λ z. z.parts.kind) (λ z. refl) y) (λ y. at-all n1.id (more p1) (λ z. z.parts.head) (λ z. refl) y) (λ y. at-all n1.id (more p1) (λ z. z.quants) (λ z. refl) y) bs

  may2 : MayAddConjunct g1 n2 p2
  may2 = put-may g1 once-1 formed-1 n2 in-2-1 select2 not_fed2 r.id p m.node_free m.own (subst (λ z. cond_fits z p ≡ true) (sym looks) (p-fits g u f b ps p qs us r vs m)) (p-folded g u f b ps p qs us r vs m)
      (λ j h. subst (λ z. term_type z (cell_at j n2.parts.head) ≡ z r.id j) (sym looks) (good s2 n2 in-s2 in-2 under-2 select2 j h))

  formed-2 : fault g2 ≡ None
  formed-2 = added-formed g1 once-1 formed-1 n2 p2 may2

  once-2 : EachOnce (numbers g2.boxes)
  once-2 = subst (λ z. EachOnce z) (sym (numbers-map a2 (λ y. at-all n2.id (more p2) (λ z. z.id) (λ z. refl) y) g1.boxes)) once-1

  b-not-c : (b.id == c.id) ≡ false
  b-not-c = used.apart bs g.root w b r m.in_b r-in c.id (sym over)

  b-not : (s : OwnedQuant) (n : Node) → In s c.quants → n.id ≡ s.over → (b.id == n.id) ≡ false
  b-not s n i e = elim (cases_Bool (b.id == n.id)) [
    | inr z ↦ z
    | inl z ↦ absurd (
        let x : place bs b.id < place bs c.id = subst (λ z. place bs b.id < place bs z) (sym over) (used.below bs g.root w b r m.in_b r-in) in
        let y : place bs c.id < place bs n.id = subst (λ z. place bs c.id < place bs z) (sym e) (used.below bs g.root w c s in-c i) in
        let k : place bs b.id ≡ place bs n.id = ap (place bs) (eqb-true b.id n.id z) in let q : ⊥ = omega arith in q)
  ]

  a-b : a2 (a1 b) ≡ b
  a-b = ap a2 (ap (λ (z : Bool). cond z (more p1 b) b) (b-not s1 n1 in-s1 under-1)) ∙ ap (λ (z : Bool). cond z (more p2 b) b) (b-not s2 n2 in-s2 under-2)

  pub push-into-arms-formed : fault (on_boxes (map (at b.id (conditioned (ps ++ qs)))) (on_boxes (map (at n2.id (more (substituted_cond r.id n2.parts.head p)))) (on_boxes (map (at n1.id (more (substituted_cond r.id n1.parts.head p)))) g))) ≡ None
  push-into-arms-formed = dropped-formed g2 once-2 formed-2 b ps p qs (lose g u f b ps p qs us r vs m g2 (subst (λ z. In z g2.boxes) a-b (map-in a2 (a1 b) g1.boxes (map-in a1 b bs m.in_b))))

  abbrev h : Node → Node
  h y = d (a2 (a1 y))

  fused : map d (map a2 (map a1 bs)) ≡ map h bs
  fused = ap (map d) (map-map a2 a1 bs) ∙ map-map d (λ y. a2 (a1 y)) bs

  sound-h : Sound (map h bs) g.root
  sound-h = subst (λ z. Sound z g.root) fused ((sound-checked (on_boxes (map d) g2) (subst (λ z. EachOnce z) (sym (numbers-map d (λ y. at-all b.id (conditioned (ps ++ qs)) (λ z. z.id) (λ z. refl) y) g2.boxes)) once-2)).0 push-into-arms-formed).0

  -- ---- the bags, where the level passes

  abbrev l : List Cell → Level
  l = test r.id p

  module _ (tables : List Table) (passable : (e : Environment) → fits (bag_in tables g.boxes) g.boxes e ≡ true → PassableBy form (test r.id p) (bag_in tables g.boxes s1.over e) (bag_in tables g.boxes s2.over e)) where
    abbrev fam : Family
    fam = bag_in tables bs

    abbrev t : Tests
    t x = cond (x == c.id) (Some l) (cond (x == n1.id) (Some l) (cond (x == n2.id) (Some l) None))

    none-at : (x : ℕ) → (x == c.id) ≡ false → (x == n1.id) ≡ false → (x == n2.id) ≡ false → t x ≡ None
    none-at x i j k = ap₂ (λ (y z : Bool). cond y (Some l) (cond z (Some l) (cond (x == n2.id) (Some l) None))) i j ∙ ap (λ (y : Bool). cond y (Some l) None) k

    at-c : (x : ℕ) → (x == c.id) ≡ true → t x ≡ Some l
    at-c x e = ap (λ (y : Bool). cond y (Some l) (cond (x == n1.id) (Some l) (cond (x == n2.id) (Some l) None))) e

    some-or : (y z v : Bool) → ((y ≡ true) ⊎ ((z ≡ true) ⊎ (v ≡ true))) → cond y (Some l) (cond z (Some l) (cond v (Some l) None)) ≡ Some l
    some-or true z v e = refl
    some-or false true v e = refl
    some-or false false true e = refl
    some-or false false false e = elim e [ inl x ↦ absurd (let q : ⊥ = cc in q) | inr x ↦ elim x [ inl y ↦ absurd (let q : ⊥ = cc in q) | inr y ↦ absurd (let q : ⊥ = cc in q) ] ]

    at-1 : (x : ℕ) → x ≡ n1.id → t x ≡ Some l
    at-1 x e = some-or (x == c.id) (x == n1.id) (x == n2.id) (inr (inl (eq-eqb x n1.id e)))

    at-2 : (x : ℕ) → x ≡ n2.id → t x ≡ Some l
    at-2 x e = some-or (x == c.id) (x == n1.id) (x == n2.id) (inr (inr (eq-eqb x n2.id e)))

    one : times c.id (overs_in bs) ≡ 1
    one = subst (λ z. times z (overs_in bs) ≡ 1) (sym over) m.one_use

    -- quantifiers of a box other than b and c range over none of them
    free-of : (y : Node) → In y bs → (y.id == b.id) ≡ false → (y.id == c.id) ≡ false → (x : OwnedQuant) → In x y.quants → t x.over ≡ None
    free-of y i nb nc x j = none-at x.over (used.not-other bs g.root w b r c.id m.in_b r-in (sym over) one y i nb x j) (used.not-other bs g.root w c s1 n1.id in-c in-s1 (sym under-1) once1 y i nc x j) (used.not-other bs g.root w c s2 n2.id in-c in-s2 (sym under-2) once2 y i nc x j)

    not-c : (s : OwnedQuant) (n : Node) → In s c.quants → n.id ≡ s.over → (n.id == c.id) ≡ false
    not-c s n i e = eq-false-sym c.id n.id (used.apart bs g.root w c s in-c i n.id (sym e))

    other : (y : Node) → (y.id == b.id) ≡ false → h y ≡ a2 (a1 y)
    other y z = ap (λ (x : Bool). cond x (conditioned (ps ++ qs) (a2 (a1 y))) (a2 (a1 y))) (ap (λ z. z == b.id) (at-all n2.id (more p2) (λ z. z.id) (λ z. refl) (a1 y) ∙ at-all n1.id (more p1) (λ z. z.id) (λ z. refl) y) ∙ z)

    h-1 : h n1 ≡ more p1 n1
    h-1 = other n1 (eq-false-sym b.id n1.id (b-not s1 n1 in-s1 under-1)) ∙ ap a2 (ap (λ (z : Bool). cond z (more p1 n1) n1) (eq-itself n1.id)) ∙ ap (λ (z : Bool). cond z (more p2 (more p1 n1)) (more p1 n1)) (eq-false-sym n2.id n1.id two-not-one)

    h-2 : h n2 ≡ more p2 n2
    h-2 = other n2 (eq-false-sym b.id n2.id (b-not s2 n2 in-s2 under-2)) ∙ ap a2 a1-2 ∙ ap (λ (z : Bool). cond z (more p2 n2) n2) (eq-itself n2.id)

    h-other : (y : Node) → (y.id == b.id) ≡ false → (y.id == n1.id) ≡ false → (y.id == n2.id) ≡ false → h y ≡ y
    h-other y i j k = other y i ∙ ap a2 (ap (λ (z : Bool). cond z (more p1 y) y) j) ∙ ap (λ (z : Bool). cond z (more p2 y) y) k

    arm-back : (s : OwnedQuant) (n : Node) → In s c.quants → In n bs → n.id ≡ s.over → n.parts.kind ≡ Select → t n.id ≡ Some l → (e : Environment) → Agree same_cells (rows_of tables (more (substituted_cond r.id n.parts.head p) n) (sifted t fam) e) (sifted t fam n.id e)
    arm-back s n i j k select tested e = more-back bs g.root w tables t n j select r.id p (names-none p m.node_free) m.own tested (free-of n j (eq-false-sym b.id n.id (b-not s n i k)) (not-c s n i k)) e

    pub push-into-arms-agree : Agree same_cells (bag_in tables (map h bs) g.root []) (bag_in tables bs g.root [])
    push-into-arms-agree = pushed-agree bs g.root w b ps p qs us r vs m tables t (at-c r.over (eq-eqb r.over c.id (sym over)))
        (λ x j z. none-at x.over (used.not-beside bs g.root w b r c.id m.in_b r-in (sym over) one x j z) (used.not-other bs g.root w c s1 n1.id in-c in-s1 (sym under-1) once1 b m.in_b b-not-c x j) (used.not-other bs g.root w c s2 n2.id in-c in-s2 (sym under-2) once2 b m.in_b b-not-c x j))
        h (λ y. at-all b.id (conditioned (ps ++ qs)) (λ z. z.id) (λ z. refl) (a2 (a1 y)) ∙ at-all n2.id (more p2) (λ z. z.id) (λ z. refl) (a1 y) ∙ at-all n1.id (more p1) (λ z. z.id) (λ z. refl) y)
        (λ y i. at-all b.id (conditioned (ps ++ qs)) (λ z. z.quants) (λ z. refl) (a2 (a1 y)) ∙ at-all n2.id (more p2) (λ z. z.quants) (λ z. refl) (a1 y) ∙ at-all n1.id (more p1) (λ z. z.quants) (λ z. refl) y)
        sound-h
        (none-at g.root (used.not-root bs g.root w b r c.id m.in_b r-in (sym over) one) (used.not-root bs g.root w c s1 n1.id in-c in-s1 (sym under-1) once1) (used.not-root bs g.root w c s2 n2.id in-c in-s2 (sym under-2) once2))
        (none-at b.id b-not-c (b-not s1 n1 in-s1 under-1) (b-not s2 n2 in-s2 under-2))
        (ap d a-b ∙ ap (λ (z : Bool). cond z (conditioned (ps ++ qs) b) b) (eq-itself b.id))
        (λ y i z e fit. elim (cases_Bool (y.id == n1.id)) [
          | inl q ↦ (
              let same : y ≡ n1 = same-box bs y n1 w.ordered i in-1 (eqb-true y.id n1.id q) in
              subst (λ (v : Node). Agree same_cells (rows_of tables (h v) (sifted t fam) e) (sifted t fam v.id e)) (sym same)
              (subst (λ v. Agree same_cells (rows_of tables v (sifted t fam) e) (sifted t fam n1.id e)) (sym h-1) (arm-back s1 n1 in-s1 in-1 under-1 select1 (at-1 n1.id refl) e)))
          | inr q ↦ elim (cases_Bool (y.id == n2.id)) [
            | inl v ↦ (
                let same : y ≡ n2 = same-box bs y n2 w.ordered i in-2 (eqb-true y.id n2.id v) in
                subst (λ (v : Node). Agree same_cells (rows_of tables (h v) (sifted t fam) e) (sifted t fam v.id e)) (sym same)
                (subst (λ v. Agree same_cells (rows_of tables v (sifted t fam) e) (sifted t fam n2.id e)) (sym h-2) (arm-back s2 n2 in-s2 in-2 under-2 select2 (at-2 n2.id refl) e)))
            | inr v ↦ subst (λ x. Agree same_cells (rows_of tables x (sifted t fam) e) (sifted t fam y.id e)) (sym (h-other y z q v)) (elim (cases_Bool (y.id == c.id)) [
              | inl x ↦ (
                  let same : y ≡ c = same-box bs y c w.ordered i in-c (eqb-true y.id c.id x) in
                  subst (λ (v : Node). Agree same_cells (rows_of tables v (sifted t fam) e) (sifted t fam v.id e)) (sym same)
                  (set-back bs g.root w tables t c in-c form types kind s1 s2 two (eq-false-sym s2.id s1.id beside) l (at-c c.id (eq-itself c.id)) (at-1 s1.over (sym under-1)) (at-2 s2.over (sym under-2)) e (passable e fit)))
              | inr x ↦ same-agree (untouched bs g.root w tables t y i (none-at y.id x q v) (free-of y i z x) e)
            ])
          ]
        ])

  -- ---- it passes: of INTERSECT and EXCEPT where the arms are clean, their columns and the conjunct error-free

  module _ (known : Facts) (p_free : cond_free g.boxes known false p ≡ true) (clean1 : Inferred g.boxes (clean n1.id)) (clean2 : Inferred g.boxes (clean n2.id))
      (free1 : (j : ℕ) → 1 ≤ j → j ≤ length types → Inferred g.boxes (error_free n1.id j)) (free2 : (j : ℕ) → 1 ≤ j → j ≤ length types → Inferred g.boxes (error_free n2.id j))
      (tables : List Table) (sat : Satisfies tables g.boxes) (e : Environment) (fit : fits (bag_in tables g.boxes) g.boxes e ≡ true) where
    abbrev family : Family
    family = bag_in tables bs

    given : Premises tables bs
    given = premises bs g.root w tables sat

    abbrev xs : Bag
    xs = bag_in tables bs s1.over e

    abbrev ys : Bag
    ys = bag_in tables bs s2.over e

    free-x : (j : ℕ) → 1 ≤ j → j ≤ length types → IsErrorFree j xs
    free-x j i k = subst (λ z. IsErrorFree j (bag_in tables bs z e)) under-1 (free-in tables bs given e fit n1.id j (free1 j i k))

    free-y : (j : ℕ) → 1 ≤ j → j ≤ length types → IsErrorFree j ys
    free-y j i k = subst (λ z. IsErrorFree j (bag_in tables bs z e)) under-2 (free-in tables bs given e fit n2.id j (free2 j i k))

    wide-x : Wide (length types) xs
    wide-x = arm-rows tables bs given c form types s1 in-c kind in-s1 e

    wide-y : Wide (length types) ys
    wide-y = arm-rows tables bs given c form types s2 in-c kind in-s2 e

    decided : (cells : List Cell) → stands same_cells cells (xs ++ ys) ≡ true → is_decided (test r.id p cells) ≡ true
    decided cells o = (truth-decided bs known nothing (nothing-sound bs known) false p (bound r.id cells []) sound-cells p_free).0
      where
        all-sound : (j : ℕ) → is_sound (cell_of j cells) ≡ true
        all-sound = elim (any-append (λ (x : Row (List Cell)). same_cells x.cells cells && is_there x) (bag_in tables bs s1.over e) (bag_in tables bs s2.over e) o) [
          | inl i ↦ row-sound (length types) (bag_in tables bs s1.over e) wide-x free-x cells i
          | inr i ↦ row-sound (length types) (bag_in tables bs s2.over e) wide-y free-y cells i
        ]

        sound-cells : SoundColumns bs known (bound r.id cells [])
        sound-cells x j q = elim (r.id == x) as (λ (z : Bool). is_sound (cell_of j (cond z cells [])) ≡ true) [ true ↦ all-sound j | false ↦ no-cell j ]

    passes-both : Passable (test r.id p) xs ys
    passes-both = record {
      clean = none-in-arms (length types) xs ys wide-x wide-y
          (clean-each xs (subst (λ z. is_clean (bag_in tables bs z e) ≡ true) under-1 (clean-in tables bs given e fit n1.id clean1)))
          (clean-each ys (subst (λ z. is_clean (bag_in tables bs z e) ≡ true) under-2 (clean-in tables bs given e fit n2.id clean2))) free-x free-y;
      decided = decided;
    }

    pub sets-passable : PassableBy form (test r.id p) (bag_in tables g.boxes s1.over e) (bag_in tables g.boxes s2.over e)
    sets-passable = by form
      where
        by : (form : SetOperator) → PassableBy form (test r.id p) (bag_in tables g.boxes s1.over e) (bag_in tables g.boxes s2.over e)
        by UnionAll = tt
        by Union = tt
        by IntersectAll = passes-both
        by Intersect = passes-both
        by ExceptAll = passes-both
        by Except = passes-both
