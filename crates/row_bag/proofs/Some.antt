-- A condition of some row, or of every one, goes by the tuples that stand there.
use Rattle.std.proofs.Common.{◌≡◌, true, false, List, [], ◌∷◌, refl, ap, ap₂, sym, ◌∙◌, ◌⊎◌, inl, inr}
use Rattle.std.proofs.lemmas.Bool.{and_parts}
use mathlib.Core.Path.{fun_ext}
use Rattle.sql_value.specs.Level.{greatest, least}
use Rattle.sql_value.specs.Truths as t
use Rattle.sql_value.specs.declared.cell.Cell.{Cell}
use Rattle.sql_value.specs.declared.level.Level.{Level}
use Rattle.sql_value.specs.declared.level.Level.TheVariants.{No, Cardinality, Division, Overflow, Yes}
use Rattle.sql_value.specs.declared.truth.Truth.{Truth}
use Rattle.row_bag.specs.Bags.{fold_map, if_there, total}
use Rattle.row_bag.specs.Sets.{SameLevels, same_cells}
use Rattle.row_bag.specs.Subqueries.{every, presence, some}
use Rattle.row_bag.specs.declared.row.Row.{Row}
use Rattle.row_bag.proofs.Folds.{fold_map-act}
use Rattle.row_bag.proofs.GreatestLevels.{total-levels}
use Rattle.row_bag.proofs.Levels.{no-greatest, no-least, yes-least}
use Rattle.row_bag.proofs.TupleBags.{same_cells-decides}
use Rattle.row_bag.specs.AsSets.{AgreeAsSets, QuantifiedSets, is_clean, is_decided}
use Rattle.row_bag.proofs.Deciding.{decided-either}
use Rattle.row_bag.proofs.Setting.{sets-levels}

-- the chain of levels from the other end
abbrev flip : Level → Level
flip No = Yes
flip Cardinality = Overflow
flip Division = Division
flip Overflow = Cardinality
flip Yes = No

flip-flip : (a : Level) → flip (flip a) ≡ a
flip-flip No = refl
flip-flip Cardinality = refl
flip-flip Division = refl
flip-flip Overflow = refl
flip-flip Yes = refl

flip-least : (a b : Level) → flip (least a b) ≡ greatest (flip a) (flip b)
flip-least No b = ap flip (no-least b) ∙ sym (by b)
  where
    by : (b : Level) → greatest Yes (flip b) ≡ Yes
    by No = refl
    by Cardinality = refl
    by Division = refl
    by Overflow = refl
    by Yes = refl
flip-least Cardinality No = refl
flip-least Cardinality Cardinality = refl
flip-least Cardinality Division = refl
flip-least Cardinality Overflow = refl
flip-least Cardinality Yes = refl
flip-least Division No = refl
flip-least Division Cardinality = refl
flip-least Division Division = refl
flip-least Division Overflow = refl
flip-least Division Yes = refl
flip-least Overflow No = refl
flip-least Overflow Cardinality = refl
flip-least Overflow Division = refl
flip-least Overflow Overflow = refl
flip-least Overflow Yes = refl
flip-least Yes b = ap flip (yes-least b) ∙ sym (no-greatest (flip b))

abbrev Tuples : Type 0
Tuples = List (Row (List Cell))

-- how far it is true
some-true : (h : List Cell → Truth) (rs : Tuples) → (some h rs).t ≡ total greatest No (λ a l. least l (h a).t) rs
some-true h rs =
    fold_map-act t.or (t.truth_of false) greatest No (λ (p : Truth). p.t) refl (λ a b. refl) (λ (r : Row (List Cell)). if_there (t.truth_of false) (λ a l. t.and (presence l) (h a)) r.cells r.level) rs
    ∙ ap (λ w. fold_map greatest No w rs) (fun_ext (λ r. each r.cells r.level))
  where
    each : (a : List Cell) (l : Level) → (if_there (t.truth_of false) (λ a l. t.and (presence l) (h a)) a l).t ≡ if_there No (λ a l. least l (h a).t) a l
    each a No = refl
    each a Cardinality = refl
    each a Division = refl
    each a Overflow = refl
    each a Yes = refl

-- how far it is false over a clean bag, from the other end
some-false : (h : List Cell → Truth) (rs : Tuples) → is_clean rs ≡ true → flip (some h rs).f ≡ total greatest No (λ a l. least l (flip (h a).f)) rs
some-false h [] c = refl
some-false h (r ∷ rs) c =
    let p = and_parts (is_decided r.level) (is_clean rs) c in
    flip-least (if_there (t.truth_of false) (λ a l. t.and (presence l) (h a)) r.cells r.level).f (some h rs).f
    ∙ ap₂ greatest (at r.cells r.level (decided-either r.level p.0)) (some-false h rs p.1)
  where
    at : (a : List Cell) (l : Level) → (l ≡ No) ⊎ (l ≡ Yes) → flip (if_there (t.truth_of false) (λ a l. t.and (presence l) (h a)) a l).f ≡ if_there No (λ a l. least l (flip (h a).f)) a l
    at a l (inl e) = ap (λ l. flip (if_there (t.truth_of false) (λ a l. t.and (presence l) (h a)) a l).f) e ∙ sym (ap (if_there No (λ a l. least l (flip (h a).f)) a) e)
    at a l (inr e) =
        ap (λ l. flip (if_there (t.truth_of false) (λ a l. t.and (presence l) (h a)) a l).f) e
        ∙ ap flip (no-greatest (h a).f) ∙ sym (yes-least (flip (h a).f))
        ∙ sym (ap (if_there No (λ a l. least l (flip (h a).f)) a) e)

pub some-sets : (h : List Cell → Truth) (xs ys : Tuples) → AgreeAsSets same_cells xs ys → some h xs ≡ some h ys
some-sets h xs ys s =
    let levels : SameLevels same_cells xs ys = sets-levels same_cells s in
    let p : (some h xs).t ≡ (some h ys).t = some-true h xs ∙ total-levels same_cells same_cells-decides (λ a. (h a).t) levels ∙ sym (some-true h ys) in
    let g : flip (some h xs).f ≡ flip (some h ys).f = some-false h xs s.left_clean ∙ total-levels same_cells same_cells-decides (λ a. flip (h a).f) levels ∙ sym (some-false h ys s.right_clean) in
    let f : (some h xs).f ≡ (some h ys).f = sym (flip-flip (some h xs).f) ∙ ap flip g ∙ flip-flip (some h ys).f in
    λ i. record { t = p i; f = f i }

-- of every row is not of some row that it isn't
every-some : (h : List Cell → Truth) (rs : Tuples) → every h rs ≡ t.negated (some (λ a. t.negated (h a)) rs)
every-some h rs = sym (
    fold_map-act t.or (t.truth_of false) t.and (t.truth_of true) t.negated refl (λ a b. refl) (λ (r : Row (List Cell)). if_there (t.truth_of false) (λ a l. t.and (presence l) (t.negated (h a))) r.cells r.level) rs
    ∙ ap (λ w. fold_map t.and (t.truth_of true) w rs) (fun_ext (λ r. each r.cells r.level)))
  where
    each : (a : List Cell) (l : Level) → t.negated (if_there (t.truth_of false) (λ a l. t.and (presence l) (t.negated (h a))) a l) ≡ if_there (t.truth_of true) (λ a l. t.or (t.negated (presence l)) (h a)) a l
    each a No = refl
    each a Cardinality = refl
    each a Division = refl
    each a Overflow = refl
    each a Yes = refl

pub every-sets : (h : List Cell → Truth) (xs ys : Tuples) → AgreeAsSets same_cells xs ys → every h xs ≡ every h ys
every-sets h xs ys s = every-some h xs ∙ ap t.negated (some-sets (λ a. t.negated (h a)) xs ys s) ∙ sym (every-some h ys)

pub quantified-sets : QuantifiedSets
quantified-sets = record { of_some = some-sets; of_every = every-sets }
