-- What is found in boxes is found by any types of columns that the boxes give back.
use Rattle.std.proofs.Common.{◌≡◌, ℕ, zero, suc, ◌-◌, ◌==◌, ◌&&◌, Bool, true, false, cond, List, [], ◌∷◌, map, Option, Some, None, refl, ap, ap₂, sym, ◌∙◌}
use Rattle.std.specs.Prelude.{slice_get}
use Rattle.std.proofs.lemmas.Bool.{and_parts}
use Rattle.sql_value.specs.declared.order_key.SqlType.{SqlType}
use Rattle.sql_value.specs.declared.order_key.SqlType.TheVariants.{Integer, Varchar}
use Rattle.qgm_core.specs.Boxes.{is_box, owns, range_in}
use Rattle.list_laws.specs.Lists.{first}
use Rattle.qgm_core.specs.declared.node.Node.{Node}
use Rattle.qgm_core.specs.declared.owned.OwnedQuant.{OwnedQuant}
use Rattle.qgm_core.specs.declared.kinds.BoxKind.{BoxKind}
use Rattle.qgm_core.specs.declared.kinds.BoxKind.TheVariants.{Base, Select, Group, SetOp, OuterJoin}
use Rattle.qgm_terms.specs.Terms as t
use Rattle.qgm_terms.specs.Terms.{Aggregate, Arms, Cond, Sign, Term}
use Rattle.qgm_terms.specs.declared.tree.Op.{Op}
use Rattle.qgm_terms.specs.declared.tree.Op.TheVariants.{Add, Sub, Mul, Div, Cat}
use Rattle.qgm_wellformed.specs.Columns.{box_under, over_box}
use Rattle.qgm_wellformed.specs.Types.{Lookup, agree, aggregate_type, arms_fit, column_type, cond_fits, integer_if, is_integer, is_known, is_typed, joined_column, op_type, sign_fits, term_type, type_found, type_if, type_in, types_after, types_by}
use Rattle.qgm_wellformed.specs.declared.types.Typed.{Typed}
use Rattle.qgm_translation.specs.Sources.{Sources}
use Rattle.qgm_translation_laws.specs.Formed.{Told}
use Rattle.qgm_translation_laws.specs.Told.{GivesBack, TellsBy, columns_by}
use Rattle.qgm_edit_laws.proofs.Levels.{first-typed, number-of}

-- a type that is known, is known as the same
abbrev Kept : Option SqlType → Option SqlType → Type 0
Kept a b = (u : SqlType) → a ≡ Some u → b ≡ Some u

kept-op : (op : Op) (a b c d : Option SqlType) → Kept a c → Kept b d → Kept (op_type op a b) (op_type op c d)
kept-op Add None b c d f g u h = absurd (cc h)
kept-op Add (Some Varchar) b c d f g u h = absurd (cc h)
kept-op Add (Some Integer) None c d f g u h = absurd (cc h)
kept-op Add (Some Integer) (Some w) c d f g u h = ap₂ (op_type Add) (f Integer refl) (g w refl) ∙ h
kept-op Sub None b c d f g u h = absurd (cc h)
kept-op Sub (Some Varchar) b c d f g u h = absurd (cc h)
kept-op Sub (Some Integer) None c d f g u h = absurd (cc h)
kept-op Sub (Some Integer) (Some w) c d f g u h = ap₂ (op_type Sub) (f Integer refl) (g w refl) ∙ h
kept-op Mul None b c d f g u h = absurd (cc h)
kept-op Mul (Some Varchar) b c d f g u h = absurd (cc h)
kept-op Mul (Some Integer) None c d f g u h = absurd (cc h)
kept-op Mul (Some Integer) (Some w) c d f g u h = ap₂ (op_type Mul) (f Integer refl) (g w refl) ∙ h
kept-op Div None b c d f g u h = absurd (cc h)
kept-op Div (Some Varchar) b c d f g u h = absurd (cc h)
kept-op Div (Some Integer) None c d f g u h = absurd (cc h)
kept-op Div (Some Integer) (Some w) c d f g u h = ap₂ (op_type Div) (f Integer refl) (g w refl) ∙ h
kept-op Cat None b c d f g u h = absurd (cc h)
kept-op Cat (Some Integer) b c d f g u h = absurd (cc h)
kept-op Cat (Some Varchar) None c d f g u h = absurd (cc h)
kept-op Cat (Some Varchar) (Some w) c d f g u h = ap₂ (op_type Cat) (f Varchar refl) (g w refl) ∙ h

kept-agree : (a b c d : Option SqlType) → Kept a c → Kept b d → agree a b ≡ true → agree c d ≡ true
kept-agree None b c d f g h = absurd (cc h)
kept-agree (Some Integer) None c d f g h = absurd (cc h)
kept-agree (Some Varchar) None c d f g h = absurd (cc h)
kept-agree (Some v) (Some w) c d f g h = ap₂ agree (f v refl) (g w refl) ∙ h

kept-like : (a b c d : Option SqlType) → Kept a c → Kept b d → sign_fits t.like a b ≡ true → sign_fits t.like c d ≡ true
kept-like None b c d f g h = absurd (cc h)
kept-like (Some Integer) b c d f g h = absurd (cc h)
kept-like (Some Varchar) None c d f g h = absurd (cc h)
kept-like (Some Varchar) (Some w) c d f g h = ap₂ (sign_fits t.like) (f Varchar refl) (g w refl) ∙ h

kept-sign : (sign : Sign) (a b c d : Option SqlType) → Kept a c → Kept b d → sign_fits sign a b ≡ true → sign_fits sign c d ≡ true
kept-sign t.equal a b c d f g h = kept-agree a b c d f g h
kept-sign t.unequal a b c d f g h = kept-agree a b c d f g h
kept-sign t.below a b c d f g h = kept-agree a b c d f g h
kept-sign t.at_most a b c d f g h = kept-agree a b c d f g h
kept-sign t.above a b c d f g h = kept-agree a b c d f g h
kept-sign t.at_least a b c d f g h = kept-agree a b c d f g h
kept-sign t.same a b c d f g h = kept-agree a b c d f g h
kept-sign t.like a b c d f g h = kept-like a b c d f g h

kept-known : (a c : Option SqlType) → Kept a c → is_known a ≡ true → is_known c ≡ true
kept-known None c f h = absurd (cc h)
kept-known (Some v) c f h = ap is_known (f v refl)

kept-minus : (a c : Option SqlType) → Kept a c → Kept (integer_if (is_integer a)) (integer_if (is_integer c))
kept-minus None c f u h = absurd (cc h)
kept-minus (Some v) c f u h = ap (λ z. integer_if (is_integer z)) (f v refl) ∙ h

kept-aggregate : (g : Aggregate) (a c : Option SqlType) → Kept a c → Kept (aggregate_type g a) (aggregate_type g c)
kept-aggregate t.single a c f u h = f u h
kept-aggregate t.count None c f u h = absurd (cc h)
kept-aggregate t.count (Some v) c f u h = ap (aggregate_type t.count) (f v refl) ∙ h
kept-aggregate t.sum None c f u h = absurd (cc h)
kept-aggregate t.sum (Some v) c f u h = ap (aggregate_type t.sum) (f v refl) ∙ h
kept-aggregate t.avg None c f u h = absurd (cc h)
kept-aggregate t.avg (Some v) c f u h = ap (aggregate_type t.avg) (f v refl) ∙ h
kept-aggregate t.least a c f u h = f u h
kept-aggregate t.greatest a c f u h = f u h

kept-if : (b c : Bool) (a d : Option SqlType) → (b ≡ true → c ≡ true) → Kept a d → Kept (type_if b a) (type_if c d)
kept-if false c a d f g u h = absurd (cc h)
kept-if true c a d f g u h = ap (λ z. type_if z d) (f refl) ∙ g u h

both-kept : (a b c d : Bool) → (a ≡ true → c ≡ true) → (b ≡ true → d ≡ true) → (a && b) ≡ true → (c && d) ≡ true
both-kept a b c d f g h = let u = and_parts a b h in ap₂ ◌&&◌ (f u.0) (g u.1)

module _ (at other : Lookup) (kept : (q k : ℕ) → Kept (at q k) (other q k)) where
  mutual
    term-kept : (x : Term) → Kept (term_type at x) (term_type other x)
    term-kept (t.int n) u h = h
    term-kept (t.text x) u h = h
    term-kept t.null_int u h = h
    term-kept t.null_text u h = h
    term-kept (t.col q k) u h = kept q k u h
    term-kept (t.scalar q) u h = kept q 1 u h
    term-kept (t.both op x y) u h = kept-op op (term_type at x) (term_type at y) (term_type other x) (term_type other y) (term-kept x) (term-kept y) u h
    term-kept (t.minus_of x) u h = kept-minus (term_type at x) (term_type other x) (term-kept x) u h
    term-kept (t.choose s x) u h =
        kept-if (arms_fit at (term_type at x) s) (arms_fit other (term_type other x) s) (term_type at x) (term_type other x) (λ e. arms-kept s (term_type at x) (term_type other x) (term-kept x) e) (term-kept x) u h
    term-kept t.count_all u h = h
    term-kept (t.fold f e x) u h = kept-aggregate f (term_type at x) (term_type other x) (term-kept x) u h

    arms-kept : (s : Arms) (a c : Option SqlType) → Kept a c → arms_fit at a s ≡ true → arms_fit other c s ≡ true
    arms-kept t.no_arm a c f h = refl
    arms-kept (t.arm p x s) a c f h =
        both-kept (cond_fits at p) _ (cond_fits other p) _ (λ e. cond-kept p e)
        (λ e. both-kept (agree (term_type at x) a) (arms_fit at a s) (agree (term_type other x) c) (arms_fit other c s) (λ i. kept-agree (term_type at x) a (term_type other x) c (term-kept x) f i) (λ i. arms-kept s a c f i) e) h

    cond-kept : (p : Cond) → cond_fits at p ≡ true → cond_fits other p ≡ true
    cond-kept t.always h = refl
    cond-kept (t.compare sign x y) h = kept-sign sign (term_type at x) (term_type at y) (term_type other x) (term_type other y) (term-kept x) (term-kept y) h
    cond-kept (t.is_null x) h = kept-known (term_type at x) (term_type other x) (term-kept x) h
    cond-kept (t.and p r) h = both-kept (cond_fits at p) (cond_fits at r) (cond_fits other p) (cond_fits other r) (λ e. cond-kept p e) (λ e. cond-kept r e) h
    cond-kept (t.or p r) h = both-kept (cond_fits at p) (cond_fits at r) (cond_fits other p) (cond_fits other r) (λ e. cond-kept p e) (λ e. cond-kept r e) h
    cond-kept (t.not p) h = cond-kept p h
    cond-kept (t.some q p) h = cond-kept p h
    cond-kept (t.every q p) h = cond-kept p h

  head-kept : (xs : List Term) (i : ℕ) → Kept (joined_column (slice_get (map (term_type at) xs) i)) (joined_column (slice_get (map (term_type other) xs) i))
  head-kept [] i u h = absurd (cc h)
  head-kept (x ∷ xs) zero u h = term-kept x u h
  head-kept (x ∷ xs) (suc i) u h = head-kept xs i u h

  columns-kept : (kind : BoxKind) (head : List Term) (i : ℕ) → Kept (joined_column (slice_get (types_by at kind head) i)) (joined_column (slice_get (types_by other kind head) i))
  columns-kept (Base table) head i u h = h
  columns-kept Select head i u h = head-kept head i u h
  columns-kept (Group keys) head i u h = head-kept head i u h
  columns-kept (SetOp operator types) head i u h = h
  columns-kept OuterJoin head i u h = head-kept head i u h

  place-kept : (k : ℕ) (n : Node) → Kept (type_in k (Some (columns_by at n))) (type_in k (Some (columns_by other n)))
  place-kept k n = by_case (k == 0)
    where
      by_case : (b : Bool) → Kept (cond b None (joined_column (slice_get (types_by at n.parts.kind n.parts.head) (k - 1)))) (cond b None (joined_column (slice_get (types_by other n.parts.kind n.parts.head) (k - 1))))
      by_case true u h = absurd (cc h)
      by_case false u h = columns-kept n.parts.kind n.parts.head (k - 1) u h

module _ (at : Lookup) (bs : List Node) (back : GivesBack at bs) where
  at-found : (table : List Typed) (q k : ℕ) → ((n : Node) → box_under bs q ≡ Some n → Kept (type_in k (first (is_typed n.id) table)) (at q k)) → Kept (column_type bs table q k) (at q k)
  at-found table q k f u h = under (range_in q (first (owns q) bs)) refl h
    where
      box : (r : OwnedQuant) → range_in q (first (owns q) bs) ≡ Some r → (o : Option Node) → first (is_box r.over) bs ≡ o → type_found table k o ≡ Some u → at q k ≡ Some u
      box r e None g h = absurd (cc h)
      box r e (Some n) g h = f n (ap (over_box bs) e ∙ g) u h

      under : (o : Option OwnedQuant) → range_in q (first (owns q) bs) ≡ o → type_found table k (over_box bs o) ≡ Some u → at q k ≡ Some u
      under None e h = absurd (cc h)
      under (Some r) e h = box r e (first (is_box r.over) bs) refl h

  -- a box that is under a quantifier is found by its number
  itself : (q : ℕ) (n : Node) → box_under bs q ≡ Some n → first (is_box n.id) bs ≡ Some n
  itself q n h = by_case (range_in q (first (owns q) bs)) h
    where
      by_case : (o : Option OwnedQuant) → over_box bs o ≡ Some n → first (is_box n.id) bs ≡ Some n
      by_case None h = absurd (cc h)
      by_case (Some r) h = ap (λ z. first (is_box z) bs) (number-of bs r.over n h) ∙ h

  found : (steps q k : ℕ) → Kept (column_type bs (types_after steps bs) q k) (at q k)
  found zero q k = at-found [] q k (λ n e u h. absurd (cc h))
  found (suc steps) q k =
      at-found (types_after (suc steps) bs) q k (λ n e u h.
      back q k n u e (place-kept (column_type bs (types_after steps bs)) at (λ p j. found steps p j) k n u (ap (type_in k) (sym (first-typed bs (types_after steps bs) bs n.id n (itself q n e))) ∙ h)))

  pub told-by : (sources : Sources) → TellsBy at sources → Told sources bs
  told-by sources tells steps x u h = tells x u (term-kept (column_type bs (types_after steps bs)) at (λ q k. found steps q k) x u h)
