use Rattle.std.proofs.Common.{sym, ◌∙◌, ◌∷◌, arith, subst}
use Rattle.box_exec.specs.Lasting.{AllPlanned}
use Rattle.box_exec.proofs.Roots.{root-behind, root-fit, root-none, root-ordered, root-rows, root-takes, root-there, root-took}
use Rattle.box_exec.specs.Sources.{held}
use Rattle.box_exec.specs.Takings.{AllSeek}
use Rattle.box_exec.proofs.Totals.{took-exactly, took-within}
use Rattle.box_exec.proofs.Ways.{TookRows, taken-within}
use Rattle.std.proofs.lemmas.Grind.{common_steps}
use Rattle.box_exec.proofs.execution.executed.Goals as goal

pub returns-in_default-clause-rows : goal.returns-in_default-clause-rows
returns-in_default-clause-rows g c =
    root-none c.args.graph.now.boxes c.nodes-nodes.result.now c.args.graph.now.root c.root-root.result c.nodes-nodes.ensures c.root-root.ensures c.args.tables.now c.new.result (sym c.place_of.ensures ∙ c.in_default.is) c.new.ensures

pub memo_of-requires : goal.memo_of-requires
memo_of-requires g c =
    root-behind c.args.graph.now.boxes c.nodes-nodes.result.now c.args.graph.now.root c.root-root.result c.nodes-nodes.ensures c.root-root.ensures c.in-Some.i c.behind-below.result.now c.behind-below.ensures c.requires.fit

pub root_rows-requires-clause-fit : goal.root_rows-requires-clause-fit
root_rows-requires-clause-fit g c =
    root-fit c.args.graph.now.boxes c.nodes-nodes.result.now c.args.graph.now.root c.root-root.result c.nodes-nodes.ensures c.root-root.ensures c.in-Some.i c.index-nodes-i.result c.behind-below.result.now (sym c.place_of.ensures ∙ c.in-Some.is) c.index-nodes-i.is c.behind-below.ensures c.requires.fit

pub returns-clause-rows : goal.returns-clause-rows
returns-clause-rows g c =
    root-rows c.args.graph.now.boxes c.nodes-nodes.result.now c.args.graph.now.root c.root-root.result c.nodes-nodes.ensures c.root-root.ensures c.args.tables.now c.in-Some.i c.index-nodes-i.result c.behind-below.result.now (held c.in_ok-rows.rows) (sym c.place_of.ensures ∙ c.in-Some.is) c.index-nodes-i.is c.behind-below.ensures c.in_ok-rows.ensures.rows

pub returns-in_default-clause-took : goal.returns-in_default-clause-took
returns-in_default-clause-took g c = λ has kept how.
    absurd (root-there c.args.graph.now.boxes c.nodes-nodes.result.now c.args.graph.now.root c.root-root.result c.nodes-nodes.ensures c.root-root.ensures (sym c.place_of.ensures ∙ c.in_default.is) has)

pub returns-clause-took : goal.returns-clause-took
returns-clause-took g c = λ has kept how.
    let found = root-took c.args.graph.now.boxes c.nodes-nodes.result.now c.args.graph.now.root c.root-root.result c.nodes-nodes.ensures c.root-root.ensures c.args.tables.now c.in-Some.i c.index-nodes-i.result c.behind-below.result.now c.in_ok-marks.marks kept
    (sym c.place_of.ensures ∙ c.in-Some.is) c.index-nodes-i.is c.behind-below.ensures c.in_ok-marks.ensures how in
    found.1 c.args.steps.now c.memo_of.new.steps c.root_rows.new.steps (c.in_ok-memo.ensures.took kept found.0)
    (c.in_ok-rows.ensures.took kept (c.in_ok-memo.ensures.keeps kept found.0))

pub returns-in_default-clause-exact : goal.returns-in_default-clause-exact
returns-in_default-clause-exact g c = λ w all. took-exactly c.args.tables.now c.args.graph.now w all c.args.steps.now c.args.steps.now (returns-in_default-clause-took g c)

pub returns-in_default-clause-at_least_closed : goal.returns-in_default-clause-at_least_closed
returns-in_default-clause-at_least_closed g c = λ w. (took-within c.args.tables.now c.args.graph.now w c.args.steps.now c.args.steps.now (returns-in_default-clause-took g c)).0

pub returns-in_default-clause-at_most_plain : goal.returns-in_default-clause-at_most_plain
returns-in_default-clause-at_most_plain g c = λ w. (took-within c.args.tables.now c.args.graph.now w c.args.steps.now c.args.steps.now (returns-in_default-clause-took g c)).1

pub returns-clause-exact : goal.returns-clause-exact
returns-clause-exact g c = λ w all. took-exactly c.args.tables.now c.args.graph.now w all c.args.steps.now c.root_rows.new.steps (returns-clause-took g c)

pub returns-clause-at_least_closed : goal.returns-clause-at_least_closed
returns-clause-at_least_closed g c = λ w. (took-within c.args.tables.now c.args.graph.now w c.args.steps.now c.root_rows.new.steps (returns-clause-took g c)).0

pub returns-clause-at_most_plain : goal.returns-clause-at_most_plain
returns-clause-at_most_plain g c = λ w. (took-within c.args.tables.now c.args.graph.now w c.args.steps.now c.root_rows.new.steps (returns-clause-took g c)).1

pub bounds-nodes-i : goal.bounds-nodes-i
bounds-nodes-i c = grind (arith, common_steps)

pub offset_bounds-nodes-i : goal.offset_bounds-nodes-i
offset_bounds-nodes-i c = grind (arith, common_steps)

pub returns-clause-counted : goal.returns-clause-counted
returns-clause-counted c = grind (arith, common_steps)

pub returns-in_err-rows-clause-at_most_plain : goal.returns-in_err-rows-clause-at_most_plain
returns-in_err-rows-clause-at_most_plain g c = grind (arith, common_steps)

pub behind-below-requires : goal.behind-below-requires
behind-below-requires g c = grind (arith, common_steps)

pub returns-in_err-rows-clause-counted : goal.returns-in_err-rows-clause-counted
returns-in_err-rows-clause-counted g c = grind (arith, common_steps)

pub returns-in_err-rows-clause-exact : goal.returns-in_err-rows-clause-exact
returns-in_err-rows-clause-exact g c = grind (arith, common_steps)

pub returns-in_err-rows-clause-took : goal.returns-in_err-rows-clause-took
returns-in_err-rows-clause-took g c = grind (arith, common_steps)

pub returns-in_err-rows-clause-at_least_closed : goal.returns-in_err-rows-clause-at_least_closed
returns-in_err-rows-clause-at_least_closed g c = grind (arith, common_steps)

pub root_rows-requires-clause-plans : goal.root_rows-requires-clause-plans
root_rows-requires-clause-plans g c =
    let n = c.index-nodes-i.result in
    let below = c.behind-below.result.now in
    subst (λ (ps : _). AllPlanned c.in_ok-memo.memo.items ps (n ∷ below)) (sym c.deref.ensures.value) (c.in_ok-memo.ensures.plans n)

pub root_rows-requires-clause-ready : goal.root_rows-requires-clause-ready
root_rows-requires-clause-ready g c = grind (arith, common_steps)

pub returns-in_err-rows-clause-rows : goal.returns-in_err-rows-clause-rows
returns-in_err-rows-clause-rows g c = grind (arith, common_steps)

pub returns-clause-at_most_ways : goal.returns-clause-at_most_ways
returns-clause-at_most_ways g c = λ indexed w.
    let tables = c.args.tables.now in
    let graph = c.args.graph.now in
    let n = c.index-nodes-i.result in
    let below = c.behind-below.result.now in
    let took : TookRows tables graph 0 c.root_rows.new.tally.taken = λ has ordered kept how.
    let placed = sym c.place_of.ensures ∙ c.in-Some.is in
    let found = root-takes graph.boxes c.nodes-nodes.result.now graph.root c.root-root.result c.nodes-nodes.ensures c.root-root.ensures tables c.in-Some.i n below c.in_ok-marks.marks kept placed c.index-nodes-i.is c.behind-below.ensures c.in_ok-marks.ensures how in
    let sorted = root-ordered graph.boxes c.nodes-nodes.result.now graph.root c.root-root.result c.nodes-nodes.ensures c.root-root.ensures c.in-Some.i n below placed c.index-nodes-i.is c.behind-below.ensures ordered in
    found.1 0 c.memo_of.new.tally.taken c.root_rows.new.tally.taken (c.in_ok-memo.ensures.taken kept found.0 indexed sorted.2)
    (c.in_ok-rows.ensures.taken kept (record {
      by_keys = indexed;
      keeps = c.in_ok-memo.ensures.keeps kept found.0;
      ordered = sorted;
      planned = subst (λ (ps : _). AllSeek kept ps (n ∷ below)) (sym c.deref.ensures.value) (c.in_ok-memo.ensures.seeks kept found.0 indexed sorted.2 n);
    })) in
    let most = taken-within tables graph w 0 c.root_rows.new.tally.taken took in
    omega (arith, most)
