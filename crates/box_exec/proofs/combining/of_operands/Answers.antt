use Rattle.std.proofs.lemmas.Result.{IfOk-weaker}
use Rattle.row_bag.specs.Sets.{same_cells}
use Rattle.row_bag.proofs.Counts.{alike-from_agree}
use Rattle.row_bag.proofs.TupleBags.{same_cells-decides}
use Rattle.box_exec.proofs.combining.of_operands.Goals as goal

pub returns-in-UnionAll : goal.returns-in-UnionAll
returns-in-UnionAll c =
    rw (c.in-UnionAll.is) (IfOk-weaker c.union.result _ _ (λ bag h. alike-from_agree same_cells same_cells-decides h) c.union.ensures)

pub returns-in-Union : goal.returns-in-Union
returns-in-Union c =
    rw (c.in-Union.is) (IfOk-weaker c.union-in-Union.result _ _ (λ bag h. alike-from_agree same_cells same_cells-decides h) c.union-in-Union.ensures)

pub returns-in-IntersectAll : goal.returns-in-IntersectAll
returns-in-IntersectAll c =
    let agree = rw (c.rows.ensures, c.rows-in-IntersectAll.ensures) at c.intersect.ensures in
    rw (c.in-IntersectAll.is) (IfOk-weaker c.intersect.result _ _ (λ bag h. alike-from_agree same_cells same_cells-decides h) agree)

pub returns-in-Intersect : goal.returns-in-Intersect
returns-in-Intersect c =
    let agree = rw (c.rows-in-Intersect.ensures, c.rows-in-Intersect-2.ensures) at c.intersect-in-Intersect.ensures in
    rw (c.in-Intersect.is) (IfOk-weaker c.intersect-in-Intersect.result _ _ (λ bag h. alike-from_agree same_cells same_cells-decides h) agree)

pub returns-in-ExceptAll : goal.returns-in-ExceptAll
returns-in-ExceptAll c =
    let agree = rw (c.rows-in-ExceptAll.ensures, c.rows-in-ExceptAll-2.ensures) at c.except.ensures in
    rw (c.in-ExceptAll.is) (IfOk-weaker c.except.result _ _ (λ bag h. alike-from_agree same_cells same_cells-decides h) agree)

pub returns-in-Except : goal.returns-in-Except
returns-in-Except c =
    let agree = rw (c.rows-in-Except.ensures, c.rows-in-Except-2.ensures) at c.except-in-Except.ensures in
    rw (c.in-Except.is) (IfOk-weaker c.except-in-Except.result _ _ (λ bag h. alike-from_agree same_cells same_cells-decides h) agree)
