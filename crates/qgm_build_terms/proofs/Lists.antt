-- Lists of what is seen, one by one.
use Rattle.std.proofs.Common.{◌≡◌, ◌<◌, ◌+◌, ◌-◌, ℕ, zero, suc, List, [], ◌∷◌, ◌++◌, append_assoc, length, map, get_or, slice_get, refl, ap, sym, arith, ◌∙◌}
use Rattle.sql_value.specs.declared.order_key.SqlType.{SqlType}
use Rattle.sql_value.specs.declared.order_key.SqlType.TheVariants.{Integer}
use Rattle.qgm_terms.specs.Terms.{Link, Term, both, col, linked}
use Rattle.sql_meaning.specs.ResolvedShown.{value_list}
use Rattle.sql_meaning.specs.declared.resolved.Value.{Value}
use Rattle.qgm_translation.specs.Maps.{Ref, column, nothing, ref_term}
use Rattle.qgm_translation.specs.Shown.{columns_of, refs}
use Rattle.qgm_translation.specs.Sources.{how_many_values}
use Rattle.qgm_translation.specs.Typing.{chain_type, row_or, type_or, typed_by}
use Rattle.qgm_build_terms.specs.Written.{frame_of, ref_or}
use Rattle.qgm_build_terms.specs.declared.seen.Seen.{Seen}

pub frame_get : (frame : List Seen) (k : ℕ) → get_or (frame_of frame) k nothing ≡ ref_or (slice_get frame k)
frame_get [] k = refl
frame_get (x ∷ frame) zero = refl
frame_get (x ∷ frame) (suc k) = frame_get frame k

pub type_get : (types : List SqlType) (k : ℕ) → get_or types k Integer ≡ type_or (slice_get types k)
type_get [] k = refl
type_get (x ∷ types) zero = refl
type_get (x ∷ types) (suc k) = type_get types k

pub row_get : (rows : List (List SqlType)) (q : ℕ) → get_or rows q [] ≡ row_or (slice_get rows q)
row_get [] q = refl
row_get (x ∷ rows) zero = refl
row_get (x ∷ rows) (suc q) = row_get rows q

-- a chain has the type of its last operator
pub chain_typed : (rows : List (List SqlType)) (x : Term) (ls : List Link) → typed_by rows (linked x ls) ≡ chain_type (typed_by rows x) ls
chain_typed rows x [] = refl
chain_typed rows x (l ∷ ls) = chain_typed rows (both l.op x l.right) ls

refs_step : (q k n : ℕ) → k < n → refs q (k + 1) (n - k) ≡ column q (k + 1) ∷ refs q (k + 1 + 1) (n - (k + 1))
refs_step q k n h =
    let e : n - k ≡ suc (n - (k + 1)) = omega arith in
    let f : suc (k + 1) ≡ k + 1 + 1 = omega arith in
    ap (refs q (k + 1)) e ∙ ap (λ j. column q (k + 1) ∷ refs q j (n - (k + 1))) f

pub refs_more : (ys : List Ref) (q k n : ℕ) (a : List Ref) → k < n → a ++ refs q (k + 1) (n - k) ≡ ys → (a ++ (column q (k + 1) ∷ [])) ++ refs q (k + 1 + 1) (n - (k + 1)) ≡ ys
refs_more ys q k n a h e = append_assoc a (column q (k + 1) ∷ []) (refs q (k + 1 + 1) (n - (k + 1))) ∙ ap (λ z. a ++ z) (sym (refs_step q k n h)) ∙ e

pub values_counted : (xs : List Value) → how_many_values (value_list xs) ≡ length xs
values_counted [] = refl
values_counted (x ∷ xs) = ap suc (values_counted xs)

-- the type of one more column
pub types_more : (ys : List SqlType) (rows : List (List SqlType)) (q k n : ℕ) (a : List SqlType) → k < n → a ++ map (typed_by rows) (columns_of q (k + 1) (n - k)) ≡ ys
    → (a ++ (typed_by rows (col q (k + 1)) ∷ [])) ++ map (typed_by rows) (columns_of q (k + 1 + 1) (n - (k + 1))) ≡ ys
types_more ys rows q k n a h e =
    append_assoc a (typed_by rows (col q (k + 1)) ∷ []) (map (typed_by rows) (columns_of q (k + 1 + 1) (n - (k + 1))))
    ∙ ap (λ z. a ++ map (typed_by rows) (map ref_term z)) (sym (refs_step q k n h)) ∙ e
