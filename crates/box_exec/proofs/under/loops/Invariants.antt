use Rattle.std.proofs.Common.{◌≡◌, All, map, take}
use Rattle.box_exec.specs.Lasting.{rows_kept, rows_stored}
use Rattle.box_exec.specs.Ready.{Stands}
use Rattle.box_exec.specs.Sought.{OpensAs}
use Rattle.box_exec.proofs.under.loops.Given as goal

abbrev pub invariant-loop-range : goal.invariant-loop-range
invariant-loop-range l = record {
  ranges : map (λ m. m.range) l.made.items ≡ take l.range-index l.ranges;
  stand : All (λ m. Stands l.run.tables.now l.run.memo.now l.below m.range.over m.under) l.made.items;
  kept : All (λ m. rows_kept m.under ≡ rows_stored l.run.memo.now l.below m.range.over) l.made.items;
  opens : All (λ m. OpensAs l.run.memo.now l.below m.range.over m.under) l.made.items;
}
