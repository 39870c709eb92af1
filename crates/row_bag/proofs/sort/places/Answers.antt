use Rattle.std.proofs.Common.{◌≡◌, ◌∙◌, ◌+◌, sym, ℤ, ap, arith, length, rules}
use mir.Syntax.{w64}
use mir.Val.{of_z, to_z}
use Rattle.std.proofs.lemmas.Grind.{common_steps}
use Rattle.std.proofs.lemmas.List.Elements.{All-push}
use Rattle.row_bag.specs.Places.{row_at}
use Rattle.row_bag.specs.Ranks.{key_rank}
use Rattle.row_bag.specs.declared.sort.Ranked.{Ranked}
use Rattle.row_bag.proofs.Ranking.{own-push}
use Rattle.row_bag.proofs.sort.places.Goals as goal

pub loop-place-preserved : goal.loop-place-preserved
loop-place-preserved c =
    let keys = c.args.keys.now in
    let rows = c.args.bag.now in
    let before = c.loop-place.places.items in
    let stored : ℤ = to_z w64 (of_z w64 c.key_rank-rank.result) in
    let same : stored ≡ c.key_rank-rank.result = search rules in
    let made : Ranked = record { rank = stored; place = c.loop-place.place } in
    let count : length c.push.new.self.items ≡ c.loop-place.place + 1 = grind (arith, common_steps) in
    record {
      count = count;
      own = rw c.in_ok-push.ensures.items (own-push before made c.loop-place.invariant.own (sym c.loop-place.invariant.count));
      ranks = rw c.in_ok-push.ensures.items
          (All-push (λ (p : Ranked). p.rank ≡ key_rank keys (row_at rows p.place)) before made c.loop-place.invariant.ranks (same ∙ c.key_rank-rank.ensures ∙ ap (key_rank keys) c.row_at.ensures));
    }
