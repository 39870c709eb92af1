-- The types that were known as boxes were laid are those that are found in them.
use Rattle.std.proofs.Common.{◌≡◌, ℕ, zero, suc, ◌-◌, ◌==◌, ◌&&◌, Bool, true, false, cond, List, [], ◌∷◌, map, get_or, Option, Some, None, refl, ap, sym, ◌∙◌, subst, inl, inr, arith}
use Rattle.std.specs.Prelude.{slice_get}
use Rattle.std.proofs.lemmas.Bool.{eq-eqb, eqb-true, ne_eqb}
use Rattle.sql_value.specs.declared.order_key.SqlType.{SqlType}
use Rattle.sql_value.specs.declared.order_key.SqlType.TheVariants.{Integer, Varchar}
use Rattle.qgm_core.specs.Boxes.{is_box, owns, range_in}
use Rattle.list_laws.specs.Lists.{In, first}
use Rattle.qgm_core.specs.declared.node.Node.{Node}
use Rattle.qgm_core.specs.declared.owned.OwnedQuant.{OwnedQuant}
use Rattle.qgm_core.specs.declared.kinds.BoxKind.{BoxKind}
use Rattle.qgm_core.specs.declared.kinds.BoxKind.TheVariants.{Base, Select, Group, SetOp, OuterJoin}
use Rattle.qgm_terms.specs.Terms.{Aggregate, Term}
use Rattle.qgm_terms.specs.Terms as t
use Rattle.qgm_terms.specs.declared.tree.Op.{Op}
use Rattle.qgm_terms.specs.declared.tree.Op.TheVariants.{Add, Sub, Mul, Div, Cat}
use Rattle.qgm_wellformed.specs.Columns.{box_under, over_box}
use Rattle.qgm_wellformed.specs.Types.{Lookup, arms_fit, integer_if, is_integer, is_known, is_varchar, joined_column, known, term_type, type_if, type_in, types_by, varchar_if}
use Rattle.qgm_wellformed.specs.Types as c
use Rattle.qgm_translation.specs.Lay.{Boxes, column_types}
use Rattle.qgm_translation.specs.Lays.{EachHasTypes, EachRanges, HasTypes, Ranges}
use Rattle.qgm_translation.specs.Sources.{Sources}
use Rattle.qgm_translation.specs.Typing.{aggregate_type, column_type, op_type, type_at, typed_by}
use Rattle.qgm_translation_laws.specs.Formed.{Told}
use Rattle.qgm_translation_laws.specs.Told.{GivesBack, columns_by}
use Rattle.qgm_edit_laws.proofs.Levels.{number-of, some-in}
use Rattle.qgm_translation_laws.proofs.Telling.{told-by}

same_type : (a b : SqlType) → Some a ≡ Some b → a ≡ b
same_type a b h = cc

integer_found : (b : Bool) (u : SqlType) → integer_if b ≡ Some u → Integer ≡ u
integer_found true u h = same_type Integer u h
integer_found false u h = absurd (cc h)

varchar_found : (b : Bool) (u : SqlType) → varchar_if b ≡ Some u → Varchar ≡ u
varchar_found true u h = same_type Varchar u h
varchar_found false u h = absurd (cc h)

type_found : (b : Bool) (o : Option SqlType) (u : SqlType) → type_if b o ≡ Some u → o ≡ Some u
type_found true o u h = h
type_found false o u h = absurd (cc h)

op_found : (op : Op) (a b : Option SqlType) (u : SqlType) → c.op_type op a b ≡ Some u → op_type op ≡ u
op_found Add a b u h = integer_found (is_integer a && is_integer b) u h
op_found Sub a b u h = integer_found (is_integer a && is_integer b) u h
op_found Mul a b u h = integer_found (is_integer a && is_integer b) u h
op_found Div a b u h = integer_found (is_integer a && is_integer b) u h
op_found Cat a b u h = varchar_found (is_varchar a && is_varchar b) u h

aggregate_found : (f : Aggregate) (o : Option SqlType) (type u : SqlType) → ((v : SqlType) → o ≡ Some v → type ≡ v) → c.aggregate_type f o ≡ Some u → aggregate_type f type ≡ u
aggregate_found t.single o type u g h = g u h
aggregate_found t.count o type u g h = integer_found (is_known o) u h
aggregate_found t.sum o type u g h = integer_found (is_integer o) u h
aggregate_found t.avg o type u g h = integer_found (is_integer o) u h
aggregate_found t.least o type u g h = g u h
aggregate_found t.greatest o type u g h = g u h

module _ (rows : List (List SqlType)) where
  -- the type of a column of a quantifier
  abbrev pub by_rows : Lookup
  by_rows q k = Some (column_type rows q k)

  tells : (x : Term) (u : SqlType) → term_type by_rows x ≡ Some u → typed_by rows x ≡ u
  tells (t.int n) u h = same_type Integer u h
  tells (t.text s) u h = same_type Varchar u h
  tells t.null_int u h = same_type Integer u h
  tells t.null_text u h = same_type Varchar u h
  tells (t.col q k) u h = same_type (column_type rows q k) u h
  tells (t.scalar q) u h = same_type (column_type rows q 1) u h
  tells (t.both op a b) u h = op_found op (term_type by_rows a) (term_type by_rows b) u h
  tells (t.minus_of a) u h = integer_found (is_integer (term_type by_rows a)) u h
  tells (t.choose arms a) u h = tells a u (type_found (arms_fit by_rows (term_type by_rows a) arms) (term_type by_rows a) u h)
  tells t.count_all u h = same_type Integer u h
  tells (t.fold f e a) u h = aggregate_found f (term_type by_rows a) (typed_by rows a) u (λ v g. tells a v g) h

  -- ---- the columns of a box

  known-told : (types : List SqlType) (i : ℕ) (u : SqlType) → joined_column (slice_get (known types) i) ≡ Some u → get_or types i Integer ≡ u
  known-told [] i u h = absurd (cc h)
  known-told (x ∷ types) zero u h = same_type x u h
  known-told (x ∷ types) (suc i) u h = known-told types i u h

  head-told : (head : List Term) (i : ℕ) (u : SqlType) → joined_column (slice_get (map (term_type by_rows) head) i) ≡ Some u → get_or (map (typed_by rows) head) i Integer ≡ u
  head-told [] i u h = absurd (cc h)
  head-told (x ∷ head) zero u h = tells x u h
  head-told (x ∷ head) (suc i) u h = head-told head i u h

  columns-told : (kind : BoxKind) (head : List Term) (i : ℕ) (u : SqlType) → joined_column (slice_get (types_by by_rows kind head) i) ≡ Some u → get_or (column_types rows kind head) i Integer ≡ u
  columns-told (Base table) head i u h = known-told table.types i u h
  columns-told Select head i u h = head-told head i u h
  columns-told (Group keys) head i u h = head-told head i u h
  columns-told (SetOp operator types) head i u h = known-told types i u h
  columns-told OuterJoin head i u h = head-told head i u h

  place-told : (k : ℕ) (n : Node) (u : SqlType) → type_in k (Some (columns_by by_rows n)) ≡ Some u → type_at (column_types rows n.parts.kind n.parts.head) k ≡ u
  place-told zero n u h = absurd (let e = sym (ap (λ b. cond b None (joined_column (slice_get (types_by by_rows n.parts.kind n.parts.head) (0 - 1)))) (eq-eqb 0 0 refl)) ∙ h in none u e)
    where
      none : (u : SqlType) → None ≡ Some u → ⊥
      none u h = cc
  place-told (suc i) n u h =
      let types = types_by by_rows n.parts.kind n.parts.head in
      let e : suc i - 1 ≡ i = omega arith in
      columns-told n.parts.kind n.parts.head i u
      (ap (λ z. joined_column (slice_get types z)) (sym e)
      ∙ sym (ap (λ b. cond b None (joined_column (slice_get types (suc i - 1)))) (ne_eqb (suc i) 0 (λ (z : suc i ≡ 0). absurd (omega arith)))) ∙ h)

-- ---- the box under a quantifier

has-in : (s : Boxes) (ns : List Node) (n : Node) → In n ns → EachHasTypes s ns → HasTypes s n
has-in s [] n i h = absurd i
has-in s (m ∷ ns) n (inl e) h = subst (HasTypes s) e h.0
has-in s (m ∷ ns) n (inr i) h = has-in s ns n i h.1

ranges-in : (s : Boxes) (os : List OwnedQuant) (o : OwnedQuant) → In o os → EachRanges s os → Ranges s o
ranges-in s [] o i h = absurd i
ranges-in s (p ∷ os) o (inl e) h = subst (Ranges s) e h.0
ranges-in s (p ∷ os) o (inr i) h = ranges-in s os o i h.1

module _ (s : Boxes) (typed : EachHasTypes s s.made) where
  -- a quantifier has the columns of the box that it ranges over
  row-of : (q : ℕ) (n : Node) → box_under s.made q ≡ Some n → get_or s.rows q [] ≡ column_types s.rows n.parts.kind n.parts.head
  row-of q n h = owner (first (owns q) s.made) refl h
    where
      over : (m : Node) (o : OwnedQuant) → first (owns q) s.made ≡ Some m → range_in q (Some m) ≡ Some o → first (is_box o.over) s.made ≡ Some n → get_or s.rows q [] ≡ column_types s.rows n.parts.kind n.parts.head
      over m o e f g =
          let here = some-in (owns q) s.made m e in
          let there = some-in (λ (p : OwnedQuant). p.id == q) m.quants o f in
          let has = has-in s s.made m here.0 typed in
          let ranges = ranges-in s m.quants o there.0 has.quants in
          let below = has-in s s.made n (some-in (is_box o.over) s.made n g).0 typed in
          ap (λ z. get_or s.rows z []) (sym (eqb-true o.id q there.1)) ∙ ranges.types ∙ ap (λ z. get_or s.types z []) (sym (number-of s.made o.over n g)) ∙ below.types

      range : (m : Node) (o : Option OwnedQuant) → first (owns q) s.made ≡ Some m → range_in q (Some m) ≡ o → over_box s.made o ≡ Some n → get_or s.rows q [] ≡ column_types s.rows n.parts.kind n.parts.head
      range m None e f g = absurd (cc g)
      range m (Some o) e f g = over m o e f g

      owner : (o : Option Node) → first (owns q) s.made ≡ o → over_box s.made (range_in q o) ≡ Some n → get_or s.rows q [] ≡ column_types s.rows n.parts.kind n.parts.head
      owner None e g = absurd (cc g)
      owner (Some m) e g = range m (range_in q (Some m)) e refl g

  gives-back : GivesBack (by_rows s.rows) s.made
  gives-back q k n u e h = ap Some (ap (λ row. type_at row k) (row-of q n e) ∙ place-told s.rows k n u h)

  pub laid-told : (sources : Sources) → ((x : Term) → sources.typed x ≡ typed_by s.rows x) → Told sources s.made
  laid-told sources known steps x u h = told-by (by_rows s.rows) s.made gives-back sources (λ x u h. known x ∙ tells s.rows x u h) steps x u h
