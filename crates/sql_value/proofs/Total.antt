-- The order of cells is total, and its ties are equal.
use Rattle.std.proofs.Common.{ℕ, ◌≡◌, ◌∙◌, List, refl, sym, ap}
use Rattle.std.proofs.lemmas.Map.Text.{is_eq-slice_cmp}
use Rattle.std.proofs.lemmas.Slice.Eq.{bytes_eq-Decides}
use Rattle.std.proofs.lemmas.Cmp.{int_cmp_total, int_ranked, nat_cmp_total}
use Rattle.std.specs.Cmp.{IsTotalOrder}
use Rattle.std.specs.Cmp.Lexicographic.{nat_list_cmp_total, slice_cmp}
use Rattle.std.specs.Ordering.{is_eq, nat_cmp, ordering_reverse}
use Rattle.std.specs.declared.cmp.Ordering.TheVariants.{Less, Equal}
use Rattle.sql_value.specs.Cells.{cell_compare, kind_rank}
use Rattle.sql_value.specs.declared.cell.Cell.{Cell}
use Rattle.sql_value.specs.declared.cell.Cell.TheVariants.{Int, Text, Null, Err}
use Rattle.sql_value.specs.declared.cell.Kind.{Kind}
use Rattle.sql_value.specs.declared.cell.Kind.TheVariants.{Cardinality, Division, Overflow}

turned : (x y : Cell) → cell_compare x y ≡ ordering_reverse (cell_compare y x)
turned Null Null = refl
turned Null (Int y) = refl
turned Null (Text y) = refl
turned Null (Err y) = refl
turned (Int x) Null = refl
turned (Int x) (Int y) = int_cmp_total.antisymm x y
turned (Int x) (Text y) = refl
turned (Int x) (Err y) = refl
turned (Text x) Null = refl
turned (Text x) (Int y) = refl
turned (Text x) (Text y) = nat_list_cmp_total.antisymm x y
turned (Text x) (Err y) = refl
turned (Err x) Null = refl
turned (Err x) (Int y) = refl
turned (Err x) (Text y) = refl
turned (Err x) (Err y) = nat_cmp_total.antisymm (kind_rank x) (kind_rank y)

chained : (x y z : Cell) → cell_compare x y ≡ Less → cell_compare y z ≡ Less → cell_compare x z ≡ Less
chained Null Null Null p q = cc p
chained Null Null (Int z) p q = cc p
chained Null Null (Text z) p q = cc p
chained Null Null (Err z) p q = cc p
chained Null (Int y) Null p q = cc q
chained Null (Int y) (Int z) p q = refl
chained Null (Int y) (Text z) p q = refl
chained Null (Int y) (Err z) p q = refl
chained Null (Text y) Null p q = cc q
chained Null (Text y) (Int z) p q = cc q
chained Null (Text y) (Text z) p q = refl
chained Null (Text y) (Err z) p q = refl
chained Null (Err y) Null p q = cc q
chained Null (Err y) (Int z) p q = cc q
chained Null (Err y) (Text z) p q = cc q
chained Null (Err y) (Err z) p q = refl
chained (Int x) Null Null p q = cc p
chained (Int x) Null (Int z) p q = cc p
chained (Int x) Null (Text z) p q = cc p
chained (Int x) Null (Err z) p q = cc p
chained (Int x) (Int y) Null p q = cc q
chained (Int x) (Int y) (Int z) p q = int_cmp_total.trans x y z p q
chained (Int x) (Int y) (Text z) p q = refl
chained (Int x) (Int y) (Err z) p q = refl
chained (Int x) (Text y) Null p q = cc q
chained (Int x) (Text y) (Int z) p q = cc q
chained (Int x) (Text y) (Text z) p q = refl
chained (Int x) (Text y) (Err z) p q = refl
chained (Int x) (Err y) Null p q = cc q
chained (Int x) (Err y) (Int z) p q = cc q
chained (Int x) (Err y) (Text z) p q = cc q
chained (Int x) (Err y) (Err z) p q = refl
chained (Text x) Null Null p q = cc p
chained (Text x) Null (Int z) p q = cc p
chained (Text x) Null (Text z) p q = cc p
chained (Text x) Null (Err z) p q = cc p
chained (Text x) (Int y) Null p q = cc p
chained (Text x) (Int y) (Int z) p q = cc p
chained (Text x) (Int y) (Text z) p q = cc p
chained (Text x) (Int y) (Err z) p q = cc p
chained (Text x) (Text y) Null p q = cc q
chained (Text x) (Text y) (Int z) p q = cc q
chained (Text x) (Text y) (Text z) p q = nat_list_cmp_total.trans x y z p q
chained (Text x) (Text y) (Err z) p q = refl
chained (Text x) (Err y) Null p q = cc q
chained (Text x) (Err y) (Int z) p q = cc q
chained (Text x) (Err y) (Text z) p q = cc q
chained (Text x) (Err y) (Err z) p q = refl
chained (Err x) Null Null p q = cc p
chained (Err x) Null (Int z) p q = cc p
chained (Err x) Null (Text z) p q = cc p
chained (Err x) Null (Err z) p q = cc p
chained (Err x) (Int y) Null p q = cc p
chained (Err x) (Int y) (Int z) p q = cc p
chained (Err x) (Int y) (Text z) p q = cc p
chained (Err x) (Int y) (Err z) p q = cc p
chained (Err x) (Text y) Null p q = cc p
chained (Err x) (Text y) (Int z) p q = cc p
chained (Err x) (Text y) (Text z) p q = cc p
chained (Err x) (Text y) (Err z) p q = cc p
chained (Err x) (Err y) Null p q = cc q
chained (Err x) (Err y) (Int z) p q = cc q
chained (Err x) (Err y) (Text z) p q = cc q
chained (Err x) (Err y) (Err z) p q = nat_cmp_total.trans (kind_rank x) (kind_rank y) (kind_rank z) p q

alike : (x y z : Cell) → cell_compare x y ≡ Equal → cell_compare x z ≡ cell_compare y z
alike Null Null Null p = refl
alike Null Null (Int z) p = refl
alike Null Null (Text z) p = refl
alike Null Null (Err z) p = refl
alike Null (Int y) Null p = cc p
alike Null (Int y) (Int z) p = cc p
alike Null (Int y) (Text z) p = cc p
alike Null (Int y) (Err z) p = cc p
alike Null (Text y) Null p = cc p
alike Null (Text y) (Int z) p = cc p
alike Null (Text y) (Text z) p = cc p
alike Null (Text y) (Err z) p = cc p
alike Null (Err y) Null p = cc p
alike Null (Err y) (Int z) p = cc p
alike Null (Err y) (Text z) p = cc p
alike Null (Err y) (Err z) p = cc p
alike (Int x) Null Null p = cc p
alike (Int x) Null (Int z) p = cc p
alike (Int x) Null (Text z) p = cc p
alike (Int x) Null (Err z) p = cc p
alike (Int x) (Int y) Null p = refl
alike (Int x) (Int y) (Int z) p = int_cmp_total.congr x y z p
alike (Int x) (Int y) (Text z) p = refl
alike (Int x) (Int y) (Err z) p = refl
alike (Int x) (Text y) Null p = cc p
alike (Int x) (Text y) (Int z) p = cc p
alike (Int x) (Text y) (Text z) p = cc p
alike (Int x) (Text y) (Err z) p = cc p
alike (Int x) (Err y) Null p = cc p
alike (Int x) (Err y) (Int z) p = cc p
alike (Int x) (Err y) (Text z) p = cc p
alike (Int x) (Err y) (Err z) p = cc p
alike (Text x) Null Null p = cc p
alike (Text x) Null (Int z) p = cc p
alike (Text x) Null (Text z) p = cc p
alike (Text x) Null (Err z) p = cc p
alike (Text x) (Int y) Null p = cc p
alike (Text x) (Int y) (Int z) p = cc p
alike (Text x) (Int y) (Text z) p = cc p
alike (Text x) (Int y) (Err z) p = cc p
alike (Text x) (Text y) Null p = refl
alike (Text x) (Text y) (Int z) p = refl
alike (Text x) (Text y) (Text z) p = nat_list_cmp_total.congr x y z p
alike (Text x) (Text y) (Err z) p = refl
alike (Text x) (Err y) Null p = cc p
alike (Text x) (Err y) (Int z) p = cc p
alike (Text x) (Err y) (Text z) p = cc p
alike (Text x) (Err y) (Err z) p = cc p
alike (Err x) Null Null p = cc p
alike (Err x) Null (Int z) p = cc p
alike (Err x) Null (Text z) p = cc p
alike (Err x) Null (Err z) p = cc p
alike (Err x) (Int y) Null p = cc p
alike (Err x) (Int y) (Int z) p = cc p
alike (Err x) (Int y) (Text z) p = cc p
alike (Err x) (Int y) (Err z) p = cc p
alike (Err x) (Text y) Null p = cc p
alike (Err x) (Text y) (Int z) p = cc p
alike (Err x) (Text y) (Text z) p = cc p
alike (Err x) (Text y) (Err z) p = cc p
alike (Err x) (Err y) Null p = refl
alike (Err x) (Err y) (Int z) p = refl
alike (Err x) (Err y) (Text z) p = refl
alike (Err x) (Err y) (Err z) p = nat_cmp_total.congr (kind_rank x) (kind_rank y) (kind_rank z) p

-- null first, then numbers, texts and errors, is a total order
pub cell-total : IsTotalOrder cell_compare
cell-total = record { antisymm = turned; trans = chained; congr = alike }

texts-tie : (s t : List ℕ) → slice_cmp nat_cmp s t ≡ Equal → s ≡ t
texts-tie s t p = (bytes_eq-Decides s t).0 (sym (is_eq-slice_cmp s t) ∙ ap is_eq p)

kind-ties : (j k : Kind) → cell_compare (Err j) (Err k) ≡ Equal → j ≡ k
kind-ties Cardinality Cardinality p = refl
kind-ties Cardinality Division p = cc p
kind-ties Cardinality Overflow p = cc p
kind-ties Division Cardinality p = cc p
kind-ties Division Division p = refl
kind-ties Division Overflow p = cc p
kind-ties Overflow Cardinality p = cc p
kind-ties Overflow Division p = cc p
kind-ties Overflow Overflow p = refl

-- cells that tie are equal
pub cell-ties : (x y : Cell) → cell_compare x y ≡ Equal → x ≡ y
cell-ties Null Null p = refl
cell-ties Null (Int y) p = cc p
cell-ties Null (Text y) p = cc p
cell-ties Null (Err y) p = cc p
cell-ties (Int x) Null p = cc p
cell-ties (Int x) (Int y) p = ap Int (int_ranked x y Equal (sym p))
cell-ties (Int x) (Text y) p = cc p
cell-ties (Int x) (Err y) p = cc p
cell-ties (Text x) Null p = cc p
cell-ties (Text x) (Int y) p = cc p
cell-ties (Text x) (Text y) p = ap (λ (t : List ℕ). Text t) (texts-tie x y p)
cell-ties (Text x) (Err y) p = cc p
cell-ties (Err x) Null p = cc p
cell-ties (Err x) (Int y) p = cc p
cell-ties (Err x) (Text y) p = cc p
cell-ties (Err x) (Err y) p = ap Err (kind-ties x y p)
