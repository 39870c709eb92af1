use Rattle.std.proofs.Common.{◌∙◌, sym}
use Rattle.qgm_build_terms.specs.SoFar.{so_far}
use Rattle.qgm_build.proofs.Paired.{pair_drawn, pair_ranging}
use Rattle.qgm_build.proofs.Taking.{all_two}
use Rattle.qgm_build.proofs.pairs.pair.Goals as goal

pub returns-clause-quants : goal.returns-clause-quants
returns-clause-quants c =
    let both = all_two c.draw-first.result c.draw-second.result _ (sym c.and.ensures ∙ c.in_ok-and.was) c.draw-first.ensures c.draw-second.ensures in
    rw (c.in_ok-left.was, c.in_ok-right.was) (pair_drawn c.in_ok-left.left c.in_ok-right.right (so_far c.args.st.now) (so_far c.draw-first.new.st) (so_far c.draw-second.new.st) c.new-quants.result c.draw-first.new.quants c.draw-second.new.quants c.new-quants.ensures both.0 both.1)

pub returns-clause-store : goal.returns-clause-store
returns-clause-store c =
    let both = all_two c.draw-first.result c.draw-second.result _ (sym c.and.ensures ∙ c.in_ok-and.was) c.draw-first.ensures c.draw-second.ensures in
    rw (c.in_ok-left.was, c.in_ok-right.was) (pair_ranging c.in_ok-left.left c.in_ok-right.right (so_far c.args.st.now) (so_far c.draw-first.new.st) (so_far c.draw-second.new.st) c.new-quants.result c.draw-first.new.quants c.draw-second.new.quants both.0 both.1)
