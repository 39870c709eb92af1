-- The types of heads, and of columns in order.
use Rattle.std.proofs.Common.{ℕ, suc, ◌-◌, ◌≡◌, arith, cond, List, [], ◌∷◌, ◌++◌, length, map, Option, Some, None, refl, sym, ap, ap₂, ◌∙◌}
use Rattle.std.specs.Prelude.{slice_get}
use Rattle.std.proofs.Math.Dec.{eqb-suc-zero}
use Rattle.sql_value.specs.declared.order_key.SqlType.{SqlType}
use Rattle.qgm_core.specs.Kinds.{width_by}
use Rattle.qgm_core.specs.declared.kinds.BoxKind.{BoxKind}
use Rattle.qgm_core.specs.declared.kinds.BoxKind.TheVariants.{Base, Select, Group, SetOp, OuterJoin}
use Rattle.qgm_terms.specs.Terms.{Term}
use Rattle.qgm_wellformed.specs.Types.{Lookup, joined_column, known, term_type, type_in, types_by, types_found}
use Rattle.qgm_wellformed.specs.declared.types.Typed.{Typed}
use Rattle.qgm_edit_laws.specs.Ranges.{columns_from}
use Rattle.qgm_edit_laws.specs.Placed.{place}
use Rattle.qgm_edit_laws.specs.Shaped as shaped
use Rattle.qgm_edit_laws.proofs.Edits.{length-map}
use Rattle.qgm_edit_laws.proofs.Levels as levels
use Rattle.qgm_edit_laws.proofs.AllColumns.{length-one}
use Rattle.list_laws.proofs.Membership.{append-one}

-- ---- all columns, in order

at-place : (pre : List (Option SqlType)) (x : Option SqlType) (ts : List (Option SqlType)) → joined_column (slice_get (pre ++ x ∷ ts) (length pre)) ≡ x
at-place [] x ts = refl
at-place (y ∷ pre) x ts = at-place pre x ts

-- cells that are all columns, from a place on, have the types from that place on
pub columns-typed : (at : Lookup) (q : ℕ) (all : List (Option SqlType)) → ((i : ℕ) → at q (suc i) ≡ joined_column (slice_get all i)) → (pre ts : List (Option SqlType)) → all ≡ pre ++ ts → map (term_type at) (columns_from q (suc (length pre)) (length ts)) ≡ ts
columns-typed at q all h pre [] e = refl
columns-typed at q all h pre (x ∷ ts) e =
    ap₂ (λ (y : Option SqlType) (ys : List (Option SqlType)). y ∷ ys) (h (length pre) ∙ ap (λ z. joined_column (slice_get z (length pre))) e ∙ at-place pre x ts)
    (ap (λ k. map (term_type at) (columns_from q (suc k) (length ts))) (sym (length-one pre x)) ∙ columns-typed at q all h (pre ++ x ∷ []) ts (e ∙ sym (append-one pre x ts)))

pub type-of : (i : ℕ) (o : Option Typed) → type_in (suc i) o ≡ joined_column (slice_get (types_found o) i)
type-of i None = refl
type-of i (Some x) = ap (λ b. cond b None (joined_column (slice_get x.types (suc i - 1)))) (eqb-suc-zero i) ∙ (let f : suc i - 1 ≡ i = omega arith in ap (λ z. joined_column (slice_get x.types z)) f)

length-known : (types : List SqlType) → length (known types) ≡ length types
length-known types = length-map (λ (t : SqlType). Some t) types

pub types-width : (at : Lookup) (k : BoxKind) (head : List Term) → length (types_by at k head) ≡ width_by k (length head)
types-width at (Base table) head = length-known table.types
types-width at Select head = length-map (term_type at) head
types-width at (Group keys) head = length-map (term_type at) head
types-width at (SetOp form types) head = length-known types
types-width at OuterJoin head = length-map (term_type at) head

pub no-length : {X : Type 0} (xs ys : List X) → length xs ≡ 0 → length ys ≡ 0 → xs ≡ ys
no-length [] [] h k = refl
no-length [] (y ∷ ys) h k = absurd (omega arith)
no-length (x ∷ xs) ys h k = absurd (omega arith)
