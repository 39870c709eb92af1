use Rattle.std.proofs.Common.{◌≡◌, ◌≤◌, ◌+◌, drop, length}
use Rattle.qgm_core.specs.Slots.{KeepsFree, Refreshed, stale_in}
use Rattle.qgm_core.proofs.Told.{Passed}
use Rattle.qgm_core.proofs.slots.Slots.refresh.Given as goal

abbrev pub invariant-boxes : goal.invariant-boxes
invariant-boxes g l = record {
  within : l.i ≤ length l.nodes;
  rest : Refreshed l.initial.self l.self;
  right : KeepsFree l.self l.nodes;
  fresh : stale_in l.self (drop l.i l.nodes) ≡ 0;
  counted : l.steps + stale_in l.self l.nodes ≡ l.initial.steps + stale_in l.initial.self l.nodes;
  passed : Passed l.behind l.owned (drop l.i l.nodes);
}

abbrev pub decreases-boxes : goal.decreases-boxes
decreases-boxes g l = l.i
