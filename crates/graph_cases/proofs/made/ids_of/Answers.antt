use Rattle.std.proofs.Common.{◌≡◌, ℕ, suc, ◌-◌, ◌++◌, List, [], drop, map, ap, subst, ◌∙◌, arith}
use Rattle.qgm_core.specs.Boxes.{ids_in}
use Rattle.qgm_core.specs.Made.{on_top}
use Rattle.qgm_core.specs.declared.owned.OwnedQuant.{OwnedQuant}
use Rattle.graph_cases.proofs.Stacked.{ids-more}
use Rattle.graph_cases.proofs.made.ids_of.Goals as goal

pub loop-i-preserved : goal.loop-i-preserved
loop-i-preserved c =
    let made = c.args.made.now in
    let ids = c.loop-i.ids.items in
    let x = c.index-made-i.result in
    let k = c.loop-i.i - 1 in
    let w = c.loop-i.invariant.within in
    let t = c.loop-i-test.true in
    let e : c.loop-i.i ≡ suc k = omega (arith, t) in
    let d : ids ≡ ids_in (on_top (suc k) (drop (suc k) made) []) = subst (λ (i : ℕ). ids ≡ ids_in (on_top i (drop i made) [])) e c.loop-i.invariant.done in
    let m : c.add_ids.new.out.items ≡ ids ++ map (λ r. r.id) c.as_slice.result.now = c.in_ok-add_ids.ensures in
    record {
      within = omega (arith, w);
      done =
          ids-more made k x ids c.add_ids.new.out.items (omega (arith, w, t)) d
          (m ∙ ap (λ (rs : List OwnedQuant). ids ++ map (λ r. r.id) rs) c.as_slice.ensures);
    }
