-- A head of all columns of a quantifier, in order.
use Rattle.std.proofs.Common.{ℕ, zero, suc, ◌==◌, ◌≡◌, false, List, [], ◌∷◌, ◌++◌, length, get_or, refl, sym, ap, ap₂, ◌∙◌, inl, inr}
use Rattle.std.specs.List.{list_any, flat_map}
use Rattle.std.proofs.lemmas.Bool.{or_from}
use Rattle.sql_value.specs.declared.cell.Cell.{Cell}
use Rattle.sql_value.specs.declared.cell.Cell.TheVariants.{Null}
use Rattle.row_bag.specs.Order.{cell_of}
use Rattle.row_bag.specs.declared.row.Row.{Row}
use Rattle.list_laws.specs.Lists.{In}
use Rattle.qgm_meaning.specs.Values.{Bag, Environment, head_cells, row_of}
use Rattle.qgm_terms.specs.Wanted.{reads}
use Rattle.qgm_edit_laws.specs.Ranges.{columns_from}
use Rattle.list_laws.proofs.Membership.{append-one}

pub length-columns : (q k w : ℕ) → length (columns_from q k w) ≡ w
length-columns q k zero = refl
length-columns q k (suc w) = ap suc (length-columns q (suc k) w)

pub columns-read : (q p k w : ℕ) → (q == p) ≡ false → list_any (reads p) (columns_from q k w) ≡ false
columns-read q p k zero f = refl
columns-read q p k (suc w) f = or_from (q == p) (list_any (reads p) (columns_from q (suc k) w)) f (columns-read q p (suc k) w f)

at-place : (pre : List Cell) (x : Cell) (v : List Cell) → get_or (pre ++ x ∷ v) (length pre) Null ≡ x
at-place [] x v = refl
at-place (y ∷ pre) x v = at-place pre x v

pub length-one : {X : Type 0} (xs : List X) (x : X) → length (xs ++ x ∷ []) ≡ suc (length xs)
length-one [] x = refl
length-one (z ∷ xs) x = ap suc (length-one xs x)

-- all columns of a row, in order, are the row
pub columns-row : (s : ℕ → Bag) (q : ℕ) (e : Environment) (pre v : List Cell) → row_of q e ≡ pre ++ v → head_cells s (columns_from q (suc (length pre)) (length v)) e ≡ v
columns-row s q e pre [] h = refl
columns-row s q e pre (x ∷ v) h =
    ap₂ (λ (c : Cell) (cs : List Cell). c ∷ cs) (ap (cell_of (suc (length pre))) h ∙ at-place pre x v)
    (ap (λ k. head_cells s (columns_from q (suc k) (length v)) e) (sym (length-one pre x)) ∙ columns-row s q e (pre ++ x ∷ []) v (h ∙ sym (append-one pre x v)))

pub rows-alike : (f g : Row (List Cell) → Bag) (xs : Bag) → ((x : Row (List Cell)) → In x xs → f x ≡ g x) → flat_map f xs ≡ flat_map g xs
rows-alike f g [] h = refl
rows-alike f g (x ∷ xs) h = ap₂ (λ a b. a ++ b) (h x (inl refl)) (rows-alike f g xs (λ y i. h y (inr i)))
