use Rattle.std.proofs.Common.{◌≡◌, ℕ, ◌==◌, List, Some, None, true, false, position, sym, ap, ◌∙◌, arith}
use Rattle.qgm_core.specs.Boxes.{is_box}
use Rattle.list_laws.specs.Lists.{holds}
use Rattle.qgm_core.proofs.ByNumber.{position-numbers}
use Rattle.qgm_core.proofs.Visited.{behind-before, behind-none, behind-seen, behind-start}
use Rattle.std.proofs.lemmas.Grind.{common_steps}
use Rattle.qgm_core.proofs.walks.+visit.Goals as goal

pub returns-in_default : goal.returns-in_default
returns-in_default t c =
    let ns = c.args.nodes.now in
    let b = c.args.b in
    let at : position (is_box b) ns ≡ None = sym (position-numbers b ns) ∙ sym (ap (λ (xs : List ℕ). position (λ x. x == b) xs) c.requires.places) ∙ sym c.find.ensures ∙ c.in_default.is in
    sym (behind-none b c.args.from ns c.args.seen.now at)

pub returns-then-i-from : goal.returns-then-i-from
returns-then-i-from t c =
    let ns = c.args.nodes.now in
    let b = c.args.b in
    let at : position (is_box b) ns ≡ Some c.in-Some.i = sym (position-numbers b ns) ∙ sym (ap (λ (xs : List ℕ). position (λ x. x == b) xs) c.requires.places) ∙ sym c.find.ensures ∙ c.in-Some.is in
    sym (behind-before b c.args.from ns c.in-Some.i c.args.seen.now c.requires.once at c.if-i-from.true)

pub returns-then-has : goal.returns-then-has
returns-then-has t c =
    let ns = c.args.nodes.now in
    let b = c.args.b in
    let at : position (is_box b) ns ≡ Some c.in-Some.i = sym (position-numbers b ns) ∙ sym (ap (λ (xs : List ℕ). position (λ x. x == b) xs) c.requires.places) ∙ sym c.find.ensures ∙ c.in-Some.is in
    let h : holds b c.args.seen.now ≡ true = sym c.has.ensures ∙ c.if-has.true in
    sym (behind-seen b c.args.from ns c.in-Some.i c.args.seen.now at c.if-i-from.false h)

pub loop-range-init : goal.loop-range-init
loop-range-init t c =
    let ns = c.args.nodes.now in
    let b = c.args.b in
    let at : position (is_box b) ns ≡ Some c.in-Some.i = sym (position-numbers b ns) ∙ sym (ap (λ (xs : List ℕ). position (λ x. x == b) xs) c.requires.places) ∙ sym c.find.ensures ∙ c.in-Some.is in
    let h : holds b c.args.seen.now ≡ false = sym c.has.ensures ∙ c.if-has.false in
    behind-start b c.args.from ns c.in-Some.i c.index-nodes-i.result c.args.seen.now c.push.new.self c.as_slice-range-items.result.now at c.if-i-from.false h c.as_slice-range-items.ensures c.in_ok-push.ensures

pub bounds-nodes-i : goal.bounds-nodes-i
bounds-nodes-i t c = grind (arith, common_steps)

pub loop-range-preserved : goal.loop-range-preserved
loop-range-preserved t c = grind (arith, common_steps)

pub overflow_add-i : goal.overflow_add-i
overflow_add-i t c = grind (arith, common_steps)

pub visit-requires : goal.visit-requires
visit-requires t c = grind (arith, common_steps)

pub offset_bounds-nodes-i : goal.offset_bounds-nodes-i
offset_bounds-nodes-i t c = grind (arith, common_steps)

pub offset_bounds-range-items-range-index : goal.offset_bounds-range-items-range-index
offset_bounds-range-items-range-index t c = grind (arith, common_steps)

pub loop-range-smaller : goal.loop-range-smaller
loop-range-smaller t c = grind (arith, common_steps)

pub returns : goal.returns
returns t c = grind (arith, common_steps)
