use Rattle.std.proofs.lemmas.Grind.{common_steps}
use Rattle.std.proofs.Common.{◌≡◌, ◌&&◌, ◌||◌, ◌+◌, ◌-◌, not, Some, true, false, drop, sym, subst, ◌∙◌, ap, arith}
use Rattle.std.specs.Prelude.{slice_get}
use Rattle.std.proofs.lemmas.Bool.{or_left, or_right}
use Rattle.qgm_terms.specs.Shown.{term}
use Rattle.qgm_terms.specs.Wanted.{node_free}
use Rattle.rule_merge.specs.MergeSelect.{cells_free, read_elsewhere}
use Rattle.rule_merge.proofs.MergeSelectPlaced.{cells-more}
use Rattle.rule_merge.proofs.merge_select.condition.cells_free.Goals as goal
use Rattle.rule_merge.proofs.merge_select.condition.cells_free.Goals.{else-not-is_node_free-via-then-not-is_node_free+else-read_elsewhere, else-not-is_node_free-via-else-not-is_node_free}

pub returns-then-read_elsewhere : goal.returns-then-read_elsewhere
returns-then-read_elsewhere c =
    let k = c.loop-k.k in
    let b = c.args.b in
    let q = c.args.q in
    let bs = c.args.nodes.now in
    let head = c.args.head.now in
    let x = term c.at.result.now in
    let n : node_free x ≡ false = sym c.is_node_free.ensures ∙ c.if-not-is_node_free.true in
    let r : read_elsewhere b q (k + 1) bs ≡ true = sym c.read_elsewhere.ensures ∙ c.if-read_elsewhere.true in
    let t : (node_free x || not (read_elsewhere b q (k + 1) bs)) ≡ false = ap (λ v. v || not (read_elsewhere b q (k + 1) bs)) n ∙ ap not r in
    let z : k + 1 - 1 ≡ k = omega arith in
    let e : slice_get head k ≡ Some x = subst (λ j. slice_get head j ≡ Some x) z c.at.ensures in
    sym (ap (λ v. v && cells_free b q bs (k + 1 + 1) (drop (k + 1) head)) t) ∙ sym (cells-more b q bs (k + 1) k head x e) ∙ c.loop-k.invariant

pub loop-k-preserved : goal.loop-k-preserved
loop-k-preserved c =
    let k = c.loop-k.k in
    let b = c.args.b in
    let q = c.args.q in
    let bs = c.args.nodes.now in
    let head = c.args.head.now in
    let x = term c.at.result.now in
    let t : (node_free x || not (read_elsewhere b q (k + 1) bs)) ≡ true = (elim c.else-not-is_node_free.branch [
      | else-not-is_node_free-via-then-not-is_node_free+else-read_elsewhere w ↦ or_right (node_free x) (not (read_elsewhere b q (k + 1) bs)) (ap not (sym w.read_elsewhere.ensures ∙ w.if-read_elsewhere.false))
      | else-not-is_node_free-via-else-not-is_node_free w ↦ or_left (node_free x) (not (read_elsewhere b q (k + 1) bs)) (sym c.is_node_free.ensures ∙ w.if-not-is_node_free.false)
    ]) in
    let z : k + 1 - 1 ≡ k = omega arith in
    let e : slice_get head k ≡ Some x = subst (λ j. slice_get head j ≡ Some x) z c.at.ensures in
    sym (ap (λ v. v && cells_free b q bs (k + 1 + 1) (drop (k + 1) head)) t) ∙ sym (cells-more b q bs (k + 1) k head x e) ∙ c.loop-k.invariant

pub returns : goal.returns
returns c = grind (arith, common_steps)
