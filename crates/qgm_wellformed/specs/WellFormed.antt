-- Where a graph is ill-formed, clause by clause.
use Rattle.std.specs.Prelude.{ℕ, ◌==◌, ◌&&◌, ◌||◌, min, not, if◌then◌else◌, Bool, true, false, List, [], ◌∷◌, Option, Some, None}
use Rattle.std.specs.List.{list_any, list_all}
use Rattle.qgm_core.specs.Boxes.{QueryGraph, all_over, has_box, ids_in, overs_in, owns}
use Rattle.qgm_core.specs.Free.{named_by, free_in}
use Rattle.qgm_core.specs.Kinds.{is_F_or_S, is_permit}
use Rattle.list_laws.specs.Lists.{holds}
use Rattle.qgm_core.specs.declared.node.Node.{Node}
use Rattle.qgm_core.specs.declared.owned.OwnedQuant.{OwnedQuant}
use Rattle.qgm_wellformed.specs.Columns.{columns_fit}
use Rattle.qgm_wellformed.specs.Shapes.{shape_fits}
use Rattle.qgm_wellformed.specs.Types.{types_agree}
use Rattle.qgm_wellformed.specs.View.{in_view}
use Rattle.qgm_wellformed.specs.declared.clause.Clause.{Clause}
use Rattle.qgm_wellformed.specs.declared.clause.Clause.TheVariants.{I1, I2, I3, I4, I5, I6, I7, I8, I9}
use Rattle.qgm_wellformed.specs.declared.clause.Fault.{Fault}

abbrev pub is_empty : List ℕ → Bool
is_empty [] = true
is_empty (x ∷ xs) = false

-- x stands exactly once here
abbrev pub once : ℕ → List ℕ → Bool
once x [] = false
once x (y ∷ ys) = if y == x then not (holds x ys) else once x ys

abbrev pub is_counted_in : List OwnedQuant → ℕ → Bool
is_counted_in rs b = list_any (λ r. (r.over == b) && is_F_or_S r.kind) rs

-- an F or S quantifier ranges over b
abbrev pub is_counted : List Node → ℕ → Bool
is_counted boxes b = list_any (λ n. is_counted_in n.quants b) boxes

-- each number that a box names is that of a box or a quantifier of the graph
abbrev pub ids_known : List Node → Node → Bool
ids_known boxes n = all_over boxes n.quants && list_all (λ q. list_any (owns q) boxes) (named_by n)

-- each quantifier of the box is owned once
abbrev pub owned_once : List Node → Node → Bool
owned_once boxes n = list_all (λ r. once r.id (ids_in boxes)) n.quants

-- each name is in view, and nothing is free in the root
abbrev pub names_in_view : ℕ → List Node → Node → Bool
names_in_view root boxes n = list_all (in_view boxes n) (named_by n) && (not (n.id == root) || is_empty (free_in boxes n.id))

-- no quantifier ranges over the root, and one over an open box
abbrev pub opened_once : ℕ → List Node → Node → Bool
opened_once root boxes n = if n.id == root then not (holds n.id (overs_in boxes)) else is_empty (free_in boxes n.id) || once n.id (overs_in boxes)

-- a PERMIT box isn't the root, and no F or S quantifier ranges over it
abbrev pub permit_unseen : ℕ → List Node → Node → Bool
permit_unseen root boxes n = not (is_permit n.parts.distinct) || not ((n.id == root) || is_counted boxes n.id)

-- a box keeps a clause; `below` are the boxes of lower rank
abbrev pub keeps : Clause → ℕ → List Node → List Node → Node → Bool
keeps I1 root boxes below n = ids_known boxes n
keeps I2 root boxes below n = owned_once boxes n
keeps I3 root boxes below n = all_over below n.quants
keeps I4 root boxes below n = columns_fit boxes n
keeps I5 root boxes below n = types_agree boxes n
keeps I6 root boxes below n = names_in_view root boxes n
keeps I7 root boxes below n = opened_once root boxes n
keeps I8 root boxes below n = permit_unseen root boxes n
keeps I9 root boxes below n = shape_fits root boxes n

-- a fault that stands at no box: a root that the graph lacks
abbrev pub at_no_box : Clause → ℕ → List Node → List ℕ
at_no_box I1 root boxes = if has_box boxes root then [] else 18446744073709551615 ∷ []
at_no_box I2 root boxes = []
at_no_box I3 root boxes = []
at_no_box I4 root boxes = []
at_no_box I5 root boxes = []
at_no_box I6 root boxes = []
at_no_box I7 root boxes = []
at_no_box I8 root boxes = []
at_no_box I9 root boxes = []

-- the boxes at which a clause fails
abbrev pub faults : Clause → ℕ → List Node → List Node → List ℕ
faults c root boxes [] = at_no_box c root boxes
faults c root boxes (n ∷ ns) = if keeps c root boxes ns n then faults c root boxes ns else n.id ∷ faults c root boxes ns

abbrev pub least_with : ℕ → Option ℕ → Option ℕ
least_with x None = Some x
least_with x (Some y) = Some (min x y)

abbrev pub least : List ℕ → Option ℕ
least [] = None
least (x ∷ xs) = least_with x (least xs)

abbrev pub fault_or : Clause → Option ℕ → Option Fault → Option Fault
fault_or c None other = other
fault_or c (Some b) other = Some (record { clause = c; at = b })

-- the first of the clauses that fails, at the least box
abbrev pub first_fault : List Clause → ℕ → List Node → Option Fault
first_fault [] root boxes = None
first_fault (c ∷ cs) root boxes = fault_or c (least (faults c root boxes boxes)) (first_fault cs root boxes)

-- the clauses in their order
abbrev pub clauses : List Clause
clauses = I1 ∷ I2 ∷ I3 ∷ I4 ∷ I5 ∷ I6 ∷ I7 ∷ I8 ∷ I9 ∷ []

-- the least clause that fails, with the least box at which it does; none of a well-formed graph
abbrev pub fault : QueryGraph → Option Fault
fault g = first_fault clauses g.root g.boxes
