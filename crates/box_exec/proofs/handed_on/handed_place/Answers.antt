use Rattle.std.proofs.lemmas.Grind.{common_steps}
use Rattle.std.proofs.Common.{ℕ, ◌≡◌, true, length, sym, ◌∙◌, ap, arith}
use Rattle.box_exec.specs.HandedOn.{is_wide}
use Rattle.box_exec.proofs.HandedOn.{handed-entry}
use Rattle.box_exec.proofs.handed_on.handed_place.Goals as goal

pub returns-then-is_wide-clause-entry : goal.returns-then-is_wide-clause-entry
returns-then-is_wide-clause-entry c = λ tables ready.
    let n = c.args.place.now.node.now in
    let rows = c.in-Some-kept.rows.now in
    let wide : is_wide (length n.parts.head) rows ≡ true = sym (c.is_wide.ensures ∙ ap (λ (k : ℕ). is_wide k rows) c.len.ensures) ∙ c.if-is_wide.true in
    handed-entry tables c.args.memo.now n c.args.place.now.below.now c.behind-k.result.now c.in-Some.r c.in-Some-place_of.i rows c.in-Some.ensures (sym c.place_of.ensures ∙ c.in-Some-place_of.is) c.behind-k.ensures c.in-Some-kept.ensures.some wide ready

pub behind-k-requires : goal.behind-k-requires
behind-k-requires c = grind (arith, common_steps)

pub returns-then-is_wide-clause-held : goal.returns-then-is_wide-clause-held
returns-then-is_wide-clause-held c = grind (arith, common_steps)
