-- What rows come to doesn't depend on their order.
use Rattle.std.proofs.Common.{◌≡◌, ◌∙◌, nat_eq, cond, true, false, List, Option, ℤ, pos, ◌+ℤ◌, refl, sym, ap, ap₂, Decides, arith}
use Rattle.std.proofs.lemmas.Int.{ints}
use Rattle.std.proofs.lemmas.Cmp.{tied_itself}
use Rattle.std.specs.Ordering.{is_eq}
use Rattle.std.specs.declared.cmp.Ordering.{Ordering}
use Rattle.std.specs.declared.cmp.Ordering.TheVariants.{Less, Equal, Greater}
use Rattle.row_bag.specs.Aggregates as a
use Rattle.row_bag.specs.Bags.{Alike, IsCommutativeMonoid, total}
use Rattle.row_bag.specs.Errors.{error_at}
use Rattle.row_bag.specs.Joins.{how_many, or_else}
use Rattle.row_bag.specs.Sets.{same_cells}
use Rattle.row_bag.specs.Subqueries as u
use Rattle.row_bag.specs.declared.row.Row.{Row}
use Rattle.row_bag.proofs.Agreement.{alike-bind, alike-refl}
use Rattle.row_bag.proofs.Counts.{total-alike}
use Rattle.row_bag.proofs.Levels.{greatest-associative, greatest-commutative, least-associative, least-commutative, no-greatest, yes-least}
use Rattle.row_bag.proofs.SetLaws.{error_among-alike, once-alike}
use Rattle.row_bag.proofs.TupleBags.{same_cells-decides}
use Rattle.row_bag.proofs.Worst.{worst-monoid}
use Rattle.sql_value.proofs.Total.{cell-ties, cell-total}
use Rattle.sql_value.specs.Arithmetic.{error_or}
use Rattle.sql_value.specs.Cells.{cell_compare, error_of}
use Rattle.sql_value.specs.Truths as t
use Rattle.sql_value.specs.declared.aggregate.Aggregate.{Aggregate}
use Rattle.sql_value.specs.declared.aggregate.Aggregate.TheVariants as aggregate
use Rattle.sql_value.specs.declared.aggregate.Taken.{Taken}
use Rattle.sql_value.specs.declared.aggregate.Taken.TheVariants as taken
use Rattle.sql_value.specs.declared.cell.Cell.{Cell}
use Rattle.sql_value.specs.declared.cell.Kind.{Kind}
use Rattle.sql_value.specs.declared.level.Level.{Level}
use Rattle.sql_value.specs.declared.truth.Truth.{Truth}
use Rattle.row_bag.proofs.FirstCells.{greater-monoid, lesser-monoid}
use Rattle.row_bag.proofs.Onlys.{Only, one, only-monoid, only_of, scalar-total, single-total}

or-monoid : IsCommutativeMonoid Truth t.or (t.truth_of false)
or-monoid = record {
  associative = λ a b c. ap₂ (λ (x y : Level). record { t = x; f = y }) (greatest-associative a.t b.t c.t) (least-associative a.f b.f c.f);
  commutative = λ a b. ap₂ (λ (x y : Level). record { t = x; f = y }) (greatest-commutative a.t b.t) (least-commutative a.f b.f);
  unit = λ a. ap₂ (λ (x y : Level). record { t = x; f = y }) (no-greatest a.t) (yes-least a.f);
}

and-monoid : IsCommutativeMonoid Truth t.and (t.truth_of true)
and-monoid = record {
  associative = λ a b c. ap₂ (λ (x y : Level). record { t = x; f = y }) (least-associative a.t b.t c.t) (greatest-associative a.f b.f c.f);
  commutative = λ a b. ap₂ (λ (x y : Level). record { t = x; f = y }) (least-commutative a.t b.t) (greatest-commutative a.f b.f);
  unit = λ a. ap₂ (λ (x y : Level). record { t = x; f = y }) (yes-least a.t) (no-greatest a.f);
}

whole-monoid : IsCommutativeMonoid ℤ ◌+ℤ◌ (pos 0)
whole-monoid = record { associative = λ a b c. omega (arith, ints); commutative = λ a b. omega (arith, ints); unit = λ a. omega (arith, ints) }

cell-decides : (x y : Cell) → Decides (a.same_cell x y) (x ≡ y)
cell-decides x y = (λ h. cell-ties x y (tie (cell_compare x y) h), λ e. ap (λ (c : Cell). a.same_cell c y) e ∙ ap is_eq (tied_itself cell-total y))
  where
    tie : (o : Ordering) → is_eq o ≡ true → o ≡ Equal
    tie Less h = cc h
    tie Equal h = refl
    tie Greater h = cc h

-- ---- subqueries

pub exists-alike : (xs ys : List (Row (List Cell))) → Alike xs ys → u.exists xs ≡ u.exists ys
exists-alike xs ys h = total-alike same_cells same_cells-decides or-monoid (λ cells level. u.presence level) h

pub some-alike : (test : List Cell → Truth) (xs ys : List (Row (List Cell))) → Alike xs ys → u.some test xs ≡ u.some test ys
some-alike test xs ys h = total-alike same_cells same_cells-decides or-monoid (λ cells level. t.and (u.presence level) (test cells)) h

pub every-alike : (test : List Cell → Truth) (xs ys : List (Row (List Cell))) → Alike xs ys → u.every test xs ≡ u.every test ys
every-alike test xs ys h = total-alike same_cells same_cells-decides and-monoid (λ cells level. t.or (t.negated (u.presence level)) (test cells)) h

pub scalar-alike : (xs ys : List (Row (List Cell))) → Alike xs ys → u.scalar xs ≡ u.scalar ys
scalar-alike xs ys h =
    sym (scalar-total xs)
    ∙ ap₂ (λ (e : Option Kind) (o : Only). error_or e (only_of o))
    (total-alike same_cells same_cells-decides worst-monoid (λ cells level. error_at level) h)
    (total-alike same_cells same_cells-decides only-monoid (λ cells level. one (u.only_cell cells)) h)
    ∙ scalar-total ys

-- ---- aggregates

pub many-alike : {T : Type 0} (xs ys : List (Row T)) → Alike xs ys → how_many xs ≡ how_many ys
many-alike xs ys h = h.sums (λ row level. 1)

as_taken-alike : (each : Taken) (xs ys : List (Row Cell)) → Alike xs ys → Alike (a.as_taken each xs) (a.as_taken each ys)
as_taken-alike taken.All xs ys h = h
as_taken-alike taken.Distinct xs ys h = once-alike a.same_cell cell-decides h

values-alike : (each : Taken) (xs ys : List (Row Cell)) → Alike xs ys → Alike (a.values each xs) (a.values each ys)
values-alike each xs ys h = as_taken-alike each _ _ (alike-bind h (λ c. alike-refl (a.unless_null c)))

summed : {M : Type 0} {op : M → M → M} {e : M} → IsCommutativeMonoid M op e → (f : Cell → Level → M) (each : Taken) (xs ys : List (Row Cell)) → Alike xs ys → total op e f (a.values each xs) ≡ total op e f (a.values each ys)
summed m f each xs ys h = total-alike a.same_cell cell-decides m f (values-alike each xs ys h)

of_arguments-alike : (f : Aggregate) (each : Taken) (xs ys : List (Row Cell)) → Alike xs ys → a.of_arguments f each xs ≡ a.of_arguments f each ys
of_arguments-alike aggregate.Single each xs ys h = sym (single-total xs) ∙ ap only_of (total-alike a.same_cell cell-decides only-monoid (λ c level. one c) h) ∙ single-total ys
of_arguments-alike aggregate.Count each xs ys h = ap a.count_cell (many-alike (a.values each xs) (a.values each ys) (values-alike each xs ys h))
of_arguments-alike aggregate.Sum each xs ys h = ap₂ a.sum (many-alike (a.values each xs) (a.values each ys) (values-alike each xs ys h)) (summed whole-monoid (λ c level. a.number_in c) each xs ys h)
of_arguments-alike aggregate.Avg each xs ys h = ap₂ a.mean (many-alike (a.values each xs) (a.values each ys) (values-alike each xs ys h)) (summed whole-monoid (λ c level. a.number_in c) each xs ys h)
of_arguments-alike aggregate.Min each xs ys h = summed lesser-monoid (λ c level. c) each xs ys h
of_arguments-alike aggregate.Max each xs ys h = summed greater-monoid (λ c level. c) each xs ys h

pub folded-alike : (f : Aggregate) (each : Taken) (xs ys : List (Row Cell)) → Alike xs ys → a.folded f each xs ≡ a.folded f each ys
folded-alike f each xs ys h = ap₂ error_or (error_among-alike a.same_cell cell-decides error_of h) (of_arguments-alike f each xs ys h)

-- ---- these rows or others

pub or_else-alike : {T : Type 0} (xs ys others : List (Row T)) → Alike xs ys → Alike (or_else xs others) (or_else ys others)
or_else-alike xs ys others h = rw (many-alike xs ys h) (elim (nat_eq (how_many ys) 0) as (λ b. Alike (cond b others xs) (cond b others ys)) [ true ↦ alike-refl others | false ↦ h ])
