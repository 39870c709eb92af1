use Rattle.std.proofs.lemmas.Grind.{common_steps}
use Rattle.std.proofs.Common.{◌≡◌, [], ap, arith}
use Rattle.qgm_core.specs.declared.kinds.BoxKind.{BoxKind}
use Rattle.qgm_meaning.specs.Meaning.{bag_in}
use Rattle.qgm_meaning.specs.Plain.{counted_by}
use Rattle.box_exec.specs.Costs.{asked}
use Rattle.box_exec.proofs.Entries.{kept-everywhere}
use Rattle.box_exec.proofs.memo.entry.Goals as goal

pub returns-in_ok-rows-in-Select-clause-rows : goal.returns-in_ok-rows-in-Select-clause-rows
returns-in_ok-rows-in-Select-clause-rows g c = kept-everywhere c.args.tables.now c.args.place.now.node.now c.args.place.now.below.now c.in_ok-rows-in-Select.rows c.requires.closed c.in_ok-rows-in-Select.ensures.rows

pub returns-in-Base-clause-took : goal.returns-in-Base-clause-took
returns-in-Base-clause-took g c = λ kept keeps.
    let e : counted_by c.args.place.now.node.now.parts.kind c.args.place.now.node.now (bag_in c.args.tables.now c.args.place.now.below.now) (asked c.args.tables.now kept c.args.place.now.below.now) [] ≡ 1 =
    ap (λ (k : BoxKind). counted_by k c.args.place.now.node.now (bag_in c.args.tables.now c.args.place.now.below.now) (asked c.args.tables.now kept c.args.place.now.below.now) []) c.in-Base.is in
    (omega (arith, c.step.ensures.ticked), omega (arith, c.step.ensures.ticked, e))

pub returns-in-Base-clause-rows : goal.returns-in-Base-clause-rows
returns-in-Base-clause-rows g c = grind (arith, common_steps)

pub returns-in-Base-clause-counted : goal.returns-in-Base-clause-counted
returns-in-Base-clause-counted g c = grind (arith, common_steps)

pub returns-in_err-rows-in-Select-clause-counted : goal.returns-in_err-rows-in-Select-clause-counted
returns-in_err-rows-in-Select-clause-counted g c = grind (arith, common_steps)

pub returns-in-Some-clause-took : goal.returns-in-Some-clause-took
returns-in-Some-clause-took g c = grind (arith, common_steps)

pub evaluated-requires-clause-ready : goal.evaluated-requires-clause-ready
evaluated-requires-clause-ready g c = grind (arith, common_steps)

pub returns-in_ok-rows-in-Select-clause-counted : goal.returns-in_ok-rows-in-Select-clause-counted
returns-in_ok-rows-in-Select-clause-counted g c = grind (arith, common_steps)

pub returns-in-Some-clause-counted : goal.returns-in-Some-clause-counted
returns-in-Some-clause-counted g c = grind (arith, common_steps)

pub returns-in-Base-clause-taken : goal.returns-in-Base-clause-taken
returns-in-Base-clause-taken g c = λ kept seeks. (omega (arith, c.step.ensures.taken), omega (arith, c.step.ensures.taken))

pub returns-in-Some-clause-taken : goal.returns-in-Some-clause-taken
returns-in-Some-clause-taken g c = λ kept seeks. (omega (arith, c.step-in-Some.ensures.taken), omega (arith, c.step-in-Some.ensures.taken))
