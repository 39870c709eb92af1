use Rattle.std.proofs.Common.{◌≡◌, ◌&&◌, ◌+◌, ◌-◌, Some, true, false, drop, sym, subst, ◌∙◌, ap, arith, rules}
use Rattle.std.specs.Prelude.{slice_get}
use Rattle.qgm_terms.specs.Shown.{term}
use Rattle.rule_merge.specs.DropCopy.{are_columns, is_col}
use Rattle.rule_merge.proofs.DropCopyColumns.{columns-more}
use Rattle.rule_merge.proofs.drop_copy.condition.are_columns.Goals as goal

pub returns-then-not-same : goal.returns-then-not-same
returns-then-not-same c =
    let k = c.loop-k.k in
    let q = c.args.q in
    let head = c.args.head.now in
    let x = term c.at-cell.result.now in
    let t : is_col q (k + 1) x ≡ false = search rules in
    let z : k + 1 - 1 ≡ k = omega arith in
    let e : slice_get head k ≡ Some x = subst (λ j. slice_get head j ≡ Some x) z c.at-cell.ensures in
    sym (ap (λ v. v && are_columns q (k + 1 + 1) (drop (k + 1) head)) t) ∙ sym (columns-more q (k + 1) k head x e) ∙ c.loop-k.invariant

pub loop-k-preserved : goal.loop-k-preserved
loop-k-preserved c =
    let k = c.loop-k.k in
    let q = c.args.q in
    let head = c.args.head.now in
    let x = term c.at-cell.result.now in
    let t : is_col q (k + 1) x ≡ true = search rules in
    let z : k + 1 - 1 ≡ k = omega arith in
    let e : slice_get head k ≡ Some x = subst (λ j. slice_get head j ≡ Some x) z c.at-cell.ensures in
    sym (ap (λ v. v && are_columns q (k + 1 + 1) (drop (k + 1) head)) t) ∙ sym (columns-more q (k + 1) k head x e) ∙ c.loop-k.invariant
