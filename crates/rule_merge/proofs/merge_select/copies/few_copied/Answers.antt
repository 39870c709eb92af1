use Rattle.std.proofs.Common.{◌≡◌, ◌+◌, ◌-◌, ◌*◌, ◌<◌, Some, drop, ap, subst, sym, ◌∙◌, arith}
use Rattle.std.specs.Prelude.{slice_get}
use Rattle.list_laws.specs.Lists.{times}
use Rattle.qgm_term_size.specs.Size.{cell_size}
use Rattle.qgm_terms.specs.Shown.{term}
use Rattle.rule_merge.specs.MergeSelectCopies.{copied, places_of}
use Rattle.rule_merge.proofs.MergeSelectFew.{copied-more, left-decides, none-decides}
use Rattle.rule_merge.proofs.merge_select.copies.few_copied.Goals as goal

pub loop-k-preserved : goal.loop-k-preserved
loop-k-preserved c =
    let ks = places_of c.args.q c.args.names.now in
    let k = c.loop-k.k in
    let xs = c.args.cells.now in
    let x = term c.at.result.now in
    let z : k + 1 - 1 ≡ k = omega arith in
    let e : slice_get xs k ≡ Some x = subst (λ j. slice_get xs j ≡ Some x) z c.at.ensures in
    let n : c.saturating_sub-copies.result ≡ times (k + 1) ks - 1 = grind (arith, c.saturating_sub-copies.ensures, c.times.ensures) in
    let s : cell_size x * (times (k + 1) ks - 1) + c.in-Some.rest ≡ c.loop-k.left = ap (λ j. cell_size x * j + c.in-Some.rest) (sym n) ∙ c.in-Some.ensures.some in
    record {
      within = (let i = c.loop-k.invariant.within in omega (arith, s, i));
      decides =
          left-decides (cell_size x * (times (k + 1) ks - 1)) (copied ks (k + 1) (drop k xs)) (copied ks (k + 1 + 1) (drop (k + 1) xs)) c.in-Some.rest c.loop-k.left
          (copied-more ks (k + 1) k xs x e) s c.loop-k.invariant.decides;
    }

pub returns-in-None : goal.returns-in-None
returns-in-None c =
    let ks = places_of c.args.q c.args.names.now in
    let k = c.loop-k.k in
    let xs = c.args.cells.now in
    let x = term c.at.result.now in
    let z : k + 1 - 1 ≡ k = omega arith in
    let e : slice_get xs k ≡ Some x = subst (λ j. slice_get xs j ≡ Some x) z c.at.ensures in
    let n : c.saturating_sub-copies.result ≡ times (k + 1) ks - 1 = grind (arith, c.saturating_sub-copies.ensures, c.times.ensures) in
    let s : c.loop-k.left < cell_size x * (times (k + 1) ks - 1) = subst (λ j. c.loop-k.left < cell_size x * j) n c.in-None.ensures.none in (
      λ h. absurd (let q : ⊥ = cc in q),
      λ h. absurd (none-decides (cell_size x * (times (k + 1) ks - 1)) (copied ks (k + 1) (drop k xs)) (copied ks (k + 1 + 1) (drop (k + 1) xs)) c.loop-k.left (copied-more ks (k + 1) k xs x e) s c.loop-k.invariant.decides h),
    )
