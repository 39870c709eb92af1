use Rattle.std.proofs.Common.{◌≡◌, ◌∙◌, arith, length, rules}
use Rattle.std.proofs.lemmas.Grind.{common_steps}
use Rattle.std.proofs.lemmas.Fn.{always_returns_same}
use Rattle.std.proofs.lemmas.List.{length-map}
use Rattle.std.proofs.lemmas.List.Sorted.{All-permutation}
use Rattle.row_bag.specs.Places.{row_at}
use Rattle.row_bag.specs.Ranks.{key_rank}
use Rattle.row_bag.specs.declared.sort.Ranked.{Ranked}
use Rattle.row_bag.proofs.Ranking.{own-moved, own-within, place_less, places-ascend, places-rank}
use Rattle.row_bag.proofs.sort.in_order.Goals as goal

pub returns-clause-ascending : goal.returns-clause-ascending
returns-clause-ascending c =
    let keys = c.args.keys.now in
    let rows = c.args.bag.now in
    let ranks = All-permutation (λ (p : Ranked). p.rank ≡ key_rank keys (row_at rows p.place)) c.in_ok-ranked.ranked.items c.sort_unstable_by.new.self.items c.sort_unstable_by.ensures.permutation c.in_ok-ranked.ensures.ranks in
    let up = c.sort_unstable_by.ensures.sorted (place_less keys rows) (places-rank keys rows) (always_returns_same _ _ _ (λ a r f called. search rules)) in
    rw (c.in_ok-append_places.ensures, c.deref.ensures.value) (places-ascend keys rows c.sort_unstable_by.new.self.items ranks up)

pub returns-clause-same_rows : goal.returns-clause-same_rows
returns-clause-same_rows c =
    rw (c.in_ok-append_places.ensures, c.deref.ensures.value) (own-moved c.args.bag.now c.in_ok-ranked.ranked.items c.sort_unstable_by.new.self.items c.in_ok-ranked.ensures.own c.in_ok-ranked.ensures.count c.sort_unstable_by.ensures.permutation)

pub returns-clause-within : goal.returns-clause-within
returns-clause-within c =
    rw (c.in_ok-append_places.ensures, c.deref.ensures.value) (own-within _ c.in_ok-ranked.ranked.items c.sort_unstable_by.new.self.items c.in_ok-ranked.ensures.own c.in_ok-ranked.ensures.count c.sort_unstable_by.ensures.permutation)
