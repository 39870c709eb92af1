use Rattle.std.proofs.lemmas.Grind.{common_steps}
use Rattle.std.proofs.Common.{ℕ, Bool, ◌≡◌, [], ap, arith, cond}
use Rattle.qgm_meaning.specs.Meaning.{bag_in}
use Rattle.qgm_meaning.specs.Plain.{counted_by}
use Rattle.box_exec.specs.Costs.{asked}
use Rattle.box_exec.specs.Taken.{taken_by}
use Rattle.box_exec.specs.Takings.{asked_takings}
use Rattle.box_exec.proofs.memo.entry_if.Goals as goal

pub returns-in_ok-rows-clause-took : goal.returns-in_ok-rows-clause-took
returns-in_ok-rows-clause-took g c = λ kept keeps.
    let n = c.args.place.now.node.now in
    let cost : ℕ = counted_by n.parts.kind n (bag_in c.args.tables.now c.args.place.now.below.now) (asked c.args.tables.now kept c.args.place.now.below.now) [] in
    let took = c.in_ok-rows.ensures.took kept keeps in
    let one : ◌≡◌ {A = ℕ} (cond c.args.keep 1 0) 1 = ap (λ (b : Bool). cond b 1 0) c.if-keep.true in
    let all : cond c.args.keep cost 0 ≡ cost = ap (λ (b : Bool). cond b cost 0) c.if-keep.true in
    (omega (arith, took.0, one), omega (arith, took.1, all))

pub returns-in_ok-rows-clause-counted : goal.returns-in_ok-rows-clause-counted
returns-in_ok-rows-clause-counted g c = grind (arith, common_steps)

pub returns-in_ok-rows-clause-rows : goal.returns-in_ok-rows-clause-rows
returns-in_ok-rows-clause-rows g c = grind (arith, common_steps)

pub returns-in_ok-rows-clause-taken : goal.returns-in_ok-rows-clause-taken
returns-in_ok-rows-clause-taken g c = λ kept seeks.
    let n = c.args.place.now.node.now in
    let one : ℕ = taken_by kept n.parts.kind n (bag_in c.args.tables.now c.args.place.now.below.now) (asked_takings c.args.tables.now kept c.args.place.now.below.now) [] in
    let took = c.in_ok-rows.ensures.taken kept seeks in
    let all : cond c.args.keep one 0 ≡ one = ap (λ (b : Bool). cond b one 0) c.if-keep.true in
    (omega (arith, took.0), omega (arith, took.1, all))
