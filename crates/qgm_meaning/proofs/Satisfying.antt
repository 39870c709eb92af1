-- What follows where tables satisfy the bases.
use Rattle.std.proofs.Common.{ℕ, suc, ◌≡◌, ◌||◌, cond, nat_eq, Bool, true, List, [], ◌∷◌, Option, Some, None, filter, length, refl, sym, ap, ap₂, subst, ◌∙◌, eqb-true, inl, inr}
use Rattle.std.specs.List.{list_all, list_any}
use Rattle.std.proofs.lemmas.Bool.{and_from, and_parts, cases_Bool}
use Rattle.row_bag.specs.AsSets.{is_clean, is_decided}
use Rattle.row_bag.specs.Keys.{HasKey}
use Rattle.row_bag.specs.Bags.{if_there}
use Rattle.row_bag.specs.Errors.{error_among, error_at, error_in}
use Rattle.row_bag.specs.Order.{cell_of}
use Rattle.row_bag.specs.Tables.{bag_named}
use Rattle.row_bag.specs.declared.tables.Table.{Table}
use Rattle.sql_value.specs.Cells.{error_of, worst_of}
use Rattle.sql_value.specs.declared.cell.Cell.{Cell}
use Rattle.sql_value.specs.declared.cell.Cell.TheVariants.{Int, Text, Null, Err}
use Rattle.sql_value.specs.declared.level.Level.{Level}
use Rattle.sql_value.specs.declared.level.Level.TheVariants.{No, Cardinality, Division, Overflow, Yes}
use Rattle.sql_value.specs.declared.order_key.SqlType.{SqlType}
use Rattle.sql_value.specs.declared.order_key.SqlType.TheVariants.{Integer, Varchar}
use Rattle.qgm_core.specs.declared.kinds.BaseTable.{BaseTable}
use Rattle.qgm_core.specs.declared.kinds.BoxKind.{BoxKind}
use Rattle.qgm_core.specs.declared.kinds.BoxKind.TheVariants.{Base, Select, Group, SetOp, OuterJoin}
use Rattle.qgm_core.specs.declared.node.Node.{Node}
use Rattle.qgm_meaning.specs.Meaning.{rows_or_none}
use Rattle.qgm_meaning.specs.Satisfies.{FoundSatisfies, OfSatisfying, Satisfies, SatisfiesBy, are_of, have_values, is_of, is_value, is_yes}
use Rattle.qgm_meaning.specs.Values.{Bag}
use Rattle.qgm_meaning.specs.Widths.{Filled, FilledBy, Wide}

as-many : (types : List SqlType) (cells : List Cell) → are_of types cells ≡ true → length cells ≡ length types
as-many [] [] h = refl
as-many [] (c ∷ cells) h = cc h
as-many (t ∷ types) [] h = cc h
as-many (t ∷ types) (c ∷ cells) h = ap suc (as-many types cells (and_parts (is_of t c) (are_of types cells) h).1)

wide : (types : List SqlType) (rows : Bag) → list_all (λ r. are_of types r.cells) rows ≡ true → Wide (length types) rows
wide types [] h = tt
wide types (r ∷ rows) h =
    let p = and_parts (are_of types r.cells) (list_all (λ r. are_of types r.cells) rows) h in
    (as-many types r.cells p.0, wide types rows p.1)

found-filled : (table : BaseTable) (o : Option Bag) → FoundSatisfies table o → Wide (length table.types) (rows_or_none o)
found-filled table None h = absurd h
found-filled table (Some rows) h = wide table.types rows h.types

filled-by : (kind : BoxKind) (tables : List Table) → SatisfiesBy kind tables → FilledBy kind tables
filled-by (Base table) tables h = found-filled table (bag_named tables table.name) h
filled-by Select tables h = tt
filled-by (Group keys) tables h = tt
filled-by (SetOp operator types) tables h = tt
filled-by OuterJoin tables h = tt

filled : (tables : List Table) (ns : List Node) → Satisfies tables ns → Filled tables ns
filled tables [] h = tt
filled tables (n ∷ ns) h = (filled-by n.parts.kind tables h.0, filled tables ns h.1)

yes-decided : (l : Level) → is_yes l ≡ true → is_decided l ≡ true
yes-decided No h = refl
yes-decided Cardinality h = cc h
yes-decided Division h = cc h
yes-decided Overflow h = cc h
yes-decided Yes h = refl

clean : (rows : Bag) → list_all (λ r. is_yes r.level) rows ≡ true → is_clean rows ≡ true
clean [] h = refl
clean (r ∷ rows) h =
    let p = and_parts (is_yes r.level) (list_all (λ r. is_yes r.level) rows) h in
    and_from (is_decided r.level) (is_clean rows) (yes-decided r.level p.0) (clean rows p.1)

no-error : (t : SqlType) (c : Cell) → is_of t c ≡ true → error_of c ≡ None
no-error t (Int n) h = refl
no-error t (Text s) h = refl
no-error t Null h = refl
no-error Integer (Err k) h = cc h
no-error Varchar (Err k) h = cc h

no-errors : (types : List SqlType) (cells : List Cell) → are_of types cells ≡ true → error_in cells ≡ None
no-errors [] [] h = refl
no-errors [] (c ∷ cells) h = cc h
no-errors (t ∷ types) [] h = cc
no-errors (t ∷ types) (c ∷ cells) h =
    let p = and_parts (is_of t c) (are_of types cells) h in
    ap₂ worst_of (no-error t c p.0) (no-errors types cells p.1)

row-free : (c : List Cell) (l : Level) → is_yes l ≡ true → error_in c ≡ None → if_there None (λ cells level. worst_of (error_at level) (error_in cells)) c l ≡ None
row-free c No h e = refl
row-free c Cardinality h e = cc h
row-free c Division h e = cc h
row-free c Overflow h e = cc h
row-free c Yes h e = e

error-free : (types : List SqlType) (rows : Bag) → list_all (λ r. is_yes r.level) rows ≡ true → list_all (λ r. are_of types r.cells) rows ≡ true → error_among error_in rows ≡ None
error-free types [] h k = refl
error-free types (r ∷ rows) h k =
    let p = and_parts (is_yes r.level) (list_all (λ r. is_yes r.level) rows) h in
    let q = and_parts (are_of types r.cells) (list_all (λ r. are_of types r.cells) rows) k in
    ap₂ worst_of (row-free r.cells r.level p.0 (no-errors types r.cells q.0)) (error-free types rows p.1 q.1)

-- what holds at all of the columns holds at each
at-one : (columns : List ℕ) (cells : List Cell) (k : ℕ) → list_any (λ j. nat_eq j k) columns ≡ true → have_values columns cells ≡ true → is_value (cell_of k cells) ≡ true
at-one [] cells k h v = cc h
at-one (j ∷ columns) cells k h v =
    let p = and_parts (is_value (cell_of j cells)) (have_values columns cells) v in
    elim (cases_Bool (nat_eq j k)) [
      | inl t ↦ subst (λ i. is_value (cell_of i cells) ≡ true) (eqb-true j k t) p.0
      | inr t ↦ at-one columns cells k (sym (ap (λ (b : Bool). b || list_any (λ j. nat_eq j k) columns) t) ∙ h) p.1
    ]

at-some : (all some : List ℕ) (cells : List Cell) → list_all (λ k. list_any (λ j. nat_eq j k) all) some ≡ true → have_values all cells ≡ true → have_values some cells ≡ true
at-some all [] cells h v = refl
at-some all (k ∷ some) cells h v =
    let p = and_parts (list_any (λ j. nat_eq j k) all) (list_all (λ k. list_any (λ j. nat_eq j k) all) some) h in
    and_from (is_value (cell_of k cells)) (have_values some cells) (at-one all cells k p.0 v) (at-some all some cells p.1 v)

all-kept : (all some : List ℕ) (rows : Bag) → list_all (λ k. list_any (λ j. nat_eq j k) all) some ≡ true → list_all (λ r. have_values all r.cells) rows ≡ true → filter (λ r. have_values some r.cells) rows ≡ rows
all-kept all some [] h v = refl
all-kept all some (r ∷ rows) h v =
    let p = and_parts (have_values all r.cells) (list_all (λ r. have_values all r.cells) rows) v in
    ap (λ (b : Bool). cond b (r ∷ filter (λ r. have_values some r.cells) rows) (filter (λ r. have_values some r.cells) rows)) (at-some all some r.cells h p.0)
    ∙ ap (λ (rs : Bag). r ∷ rs) (all-kept all some rows h p.1)

pub of-satisfying : OfSatisfying
of-satisfying = record {
  filled = λ tables ns h. filled tables ns h;
  clean = λ table rows h. clean rows h.at_yes;
  error_free = λ table rows h. error-free table.types rows h.at_yes h.types;
  keys = λ table rows columns h i within. subst (λ (rs : Bag). HasKey columns rs) (all-kept table.not_null columns rows within h.not_null) (h.keys columns i);
}
