-- Tests of what is under the quantifiers of a box, of its columns and of its cells.
use Rattle.std.specs.Prelude.{ℕ, zero, suc, ◌&&◌, if◌then◌else◌, Bool, true, false, List, [], ◌∷◌, Option, Some, None, slice_get}
use Rattle.std.specs.List.{list_all}
use Rattle.qgm_core.specs.Boxes.{owns, range_in}
use Rattle.qgm_core.specs.Kinds.{is_F}
use Rattle.list_laws.specs.Lists.{first}
use Rattle.qgm_core.specs.declared.node.Node.{Node}
use Rattle.qgm_core.specs.declared.owned.OwnedQuant.{OwnedQuant}
use Rattle.qgm_terms.specs.Terms.{Term, Cond}

-- the box that a quantifier ranges over; where nobody owns it no fact is known of it
abbrev pub of_over : {X : Type 0} → X → (ℕ → X) → Option OwnedQuant → X
of_over none known None = none
of_over none known (Some r) = known r.over

abbrev pub of_quant : List Node → (ℕ → Bool) → ℕ → Bool
of_quant boxes known q = of_over false known (range_in q (first (owns q) boxes))

-- under all quantifiers
abbrev pub all_under : (ℕ → Bool) → List OwnedQuant → Bool
all_under known rs = list_all (λ r. known r.over) rs

-- under the F quantifiers
abbrev pub all_under_F : (ℕ → Bool) → List OwnedQuant → Bool
all_under_F known [] = true
all_under_F known (r ∷ rs) = if is_F r.kind then known r.over && all_under_F known rs else all_under_F known rs

-- under the first quantifier, and the second
abbrev pub under_first : (ℕ → Bool) → List OwnedQuant → Bool
under_first known [] = false
under_first known (r ∷ rs) = known r.over

abbrev pub under_second : (ℕ → Bool) → List OwnedQuant → Bool
under_second known [] = false
under_second known (r ∷ rs) = under_first known rs

abbrev pub under_two : (ℕ → Bool) → List OwnedQuant → Bool
under_two known rs = under_first known rs && under_second known rs

-- the places from 1 to w
abbrev pub all_places : ℕ → (ℕ → Bool) → Bool
all_places zero test = true
all_places (suc w) test = test (suc w) && all_places w test

-- a test of the cell at a place, from 1; where there is none it fails
abbrev pub of_cell : (Term → Bool) → Option Term → Bool
of_cell test None = false
of_cell test (Some x) = test x

abbrev pub at_place : (Term → Bool) → List Term → ℕ → Bool
at_place test head zero = false
at_place test head (suc k) = of_cell test (slice_get head k)

-- there is no condition
abbrev pub no_cond : List Cond → Bool
no_cond [] = true
no_cond (c ∷ cs) = false

-- of a box that is found
abbrev pub of_box : {X : Type 0} → X → (Node → X) → Option Node → X
of_box none said None = none
of_box none said (Some n) = said n
