use Rattle.std.proofs.lemmas.Grind.{common_steps}
use Rattle.std.proofs.Common.{[], slice_get, sym, subst, arith}
use Rattle.box_exec.specs.Costs.{Keeps}
use Rattle.box_exec.specs.Sources.{held}
use Rattle.box_exec.specs.Ready.{Entry, Held, Ready}
use Rattle.box_exec.proofs.Places.{entry-holds}
use Rattle.box_exec.proofs.handed_on.root_rows.Goals as goal

pub returns-clause-rows : goal.returns-clause-rows
returns-clause-rows g c =
    let tables = c.args.tables.now in
    let n = c.args.root.now.node.now in
    let below = c.args.root.now.below.now in
    let o = slice_get c.args.memo.items c.in-Some.k in
    let entry : Entry tables n below o =
    subst (λ (m : _). Entry tables n below (slice_get m c.in-Some.k)) c.deref.ensures.value
    (c.in-Some.ensures.entry tables (subst (λ (m : _). Ready tables m below) (sym c.deref.ensures.value) c.requires.ready)) in
    entry-holds tables n below o (held c.taken.result) [] entry c.taken.ensures

pub taken-requires : goal.taken-requires
taken-requires g c = grind (arith, common_steps)

pub returns-in_default-clause-took : goal.returns-in_default-clause-took
returns-in_default-clause-took g c = λ kept keeps.
    c.in_ok-rows.ensures.took kept (subst (λ (m : _). Keeps m kept c.args.root.now.below.now) (sym c.deref-in_default.ensures.value) keeps)

pub returns-in_default-clause-taken : goal.returns-in_default-clause-taken
returns-in_default-clause-taken g c = λ kept seeks.
    c.in_ok-rows.ensures.taken kept (record {
      by_keys = seeks.by_keys;
      keeps = subst (λ (m : _). Keeps m kept c.args.root.now.below.now) (sym c.deref-in_default.ensures.value) seeks.keeps;
      ordered = seeks.ordered;
      planned = seeks.planned;
    })
