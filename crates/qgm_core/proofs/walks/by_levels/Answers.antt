use Rattle.std.proofs.Common.{◌≡◌, ◌<◌, ◌+◌, ◌++◌, length, drop, ap, arith, List, ℕ, ◌∙◌}
use Rattle.std.proofs.lemmas.List.{length-append}
use Rattle.qgm_core.specs.Walk.{news, under}
use Rattle.qgm_core.proofs.Visited.{levels_step}
use Rattle.qgm_core.proofs.walks.by_levels.Goals as goal

pub loop-level-preserved : goal.loop-level-preserved
loop-level-preserved c =
    let ns = c.args.nodes.now in
    let seen = c.loop-level.seen in
    let now = drop c.loop-level.start seen in
    let more = news seen (under ns now) in
    let end = length c.as_slice-end.result.now in
    let e : end ≡ length seen = ap (λ (xs : List ℕ). length xs) c.as_slice-end.ensures in
    let f : c.add_level.new.seen ≡ seen ++ more = c.in_ok-add_level.ensures in
    let m : length c.add_level.new.seen ≡ length seen + length more = ap length f ∙ length-append seen more in
    let l : c.loop-level._level < length ns = omega (arith, c.loop-level-test.true) in
    record {
      within = omega (arith, e, m);
      left = levels_step (length ns) c.loop-level._level end ns now seen c.add_level.new.seen l e f ∙ c.loop-level.invariant.left;
    }
