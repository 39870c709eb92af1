use Rattle.std.proofs.lemmas.Grind.{common_steps}
use Rattle.std.proofs.Common.{sym, ◌∙◌, arith, length, slice_get}
use Rattle.box_exec.proofs.Lasting.{held-in, none-in, stored-at, stored-none}
use Rattle.box_exec.proofs.Places.{kept-under, nothing-under, open-under}
use Rattle.box_exec.specs.declared.under.Under.TheVariants.{Nothing}
use Rattle.box_exec.proofs.Seeking.{absent-opens, held-is, held-opens, unheld-opens}
use Rattle.box_exec.proofs.under.find_under.Goals as goal

pub returns-in_default-clause-stands : goal.returns-in_default-clause-stands
returns-in_default-clause-stands c = nothing-under c.args.run.now.tables.now c.args.below.now c.args.b (sym c.place_of.ensures ∙ c.in_default.is)

pub returns-in-Some-kept-clause-stands : goal.returns-in-Some-kept-clause-stands
returns-in-Some-kept-clause-stands c =
    kept-under c.args.run.now.tables.now c.args.run.now.memo.now c.args.below.now c.behind-behind.result.now c.args.b c.in-Some.i c.in-Some-kept.rows.now (sym c.place_of.ensures ∙ c.in-Some.is) c.behind-behind.ensures c.requires c.in-Some-kept.ensures.some

pub returns-in-None-clause-stands : goal.returns-in-None-clause-stands
returns-in-None-clause-stands c =
    open-under c.args.run.now.tables.now c.args.run.now.memo.now c.args.below.now c.behind-behind.result.now c.args.b c.in-Some.i c.index-below-i.result (sym c.place_of.ensures ∙ c.in-Some.is) c.index-below-i.is c.behind-behind.ensures (c.kept.ensures.none c.in-None.is) c.requires

pub returns-in_default-clause-kept : goal.returns-in_default-clause-kept
returns-in_default-clause-kept c = sym (stored-none c.args.run.now.memo.now c.args.below.now c.args.b (sym c.place_of.ensures ∙ c.in_default.is))

pub returns-in-Some-kept-clause-kept : goal.returns-in-Some-kept-clause-kept
returns-in-Some-kept-clause-kept c =
    held-in (slice_get c.args.run.now.memo.now (length c.behind-behind.result.now)) c.in-Some-kept.rows.now c.in-Some-kept.ensures.some
    ∙ sym (stored-at c.args.run.now.memo.now c.args.below.now c.behind-behind.result.now c.args.b c.in-Some.i (sym c.place_of.ensures ∙ c.in-Some.is) c.behind-behind.ensures)

pub returns-in-None-clause-kept : goal.returns-in-None-clause-kept
returns-in-None-clause-kept c =
    none-in (slice_get c.args.run.now.memo.now (length c.behind-behind.result.now)) (c.kept.ensures.none c.in-None.is)
    ∙ sym (stored-at c.args.run.now.memo.now c.args.below.now c.behind-behind.result.now c.args.b c.in-Some.i (sym c.place_of.ensures ∙ c.in-Some.is) c.behind-behind.ensures)

pub offset_bounds-below-i : goal.offset_bounds-below-i
offset_bounds-below-i c = grind (arith, common_steps)

pub bounds-below-i : goal.bounds-below-i
bounds-below-i c = grind (arith, common_steps)

pub behind-behind-requires : goal.behind-behind-requires
behind-behind-requires c = grind (arith, common_steps)

pub returns-in_default-clause-opens : goal.returns-in_default-clause-opens
returns-in_default-clause-opens c = absent-opens c.args.run.now.memo.now c.args.below.now c.args.b Nothing (sym c.place_of.ensures ∙ c.in_default.is)

pub returns-in-Some-kept-clause-opens : goal.returns-in-Some-kept-clause-opens
returns-in-Some-kept-clause-opens c = λ kept keeps there.
    held-opens c.args.run.now.memo.now c.args.below.now c.behind-behind.result.now c.args.b c.in-Some.i (sym c.place_of.ensures ∙ c.in-Some.is) c.behind-behind.ensures
    (held-is (slice_get c.args.run.now.memo.now (length c.behind-behind.result.now)) c.in-Some-kept.rows.now c.in-Some-kept.ensures.some) kept keeps

pub returns-in-None-clause-opens : goal.returns-in-None-clause-opens
returns-in-None-clause-opens c = λ kept keeps there.
    unheld-opens c.args.run.now.memo.now c.args.below.now c.behind-behind.result.now c.args.b c.in-Some.i (sym c.place_of.ensures ∙ c.in-Some.is) c.behind-behind.ensures
    (c.kept.ensures.none c.in-None.is) kept keeps
