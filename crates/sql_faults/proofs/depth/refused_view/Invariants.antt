use Rattle.std.proofs.Common.{◌≡◌, option_map}
use Rattle.sql_catalog.specs.Shown as declared
use Rattle.sql_faults.specs.Depths.{over}
use Rattle.sql_faults.specs.Views.{refused_to}
use Rattle.sql_faults.specs.declared.depth.Faulty.{Faulty}
use Rattle.sql_faults.proofs.depth.refused_view.Given as goal

abbrev pub invariant-loop-depth : goal.invariant-loop-depth
invariant-loop-depth l = record {
  marks : l.marks ≡ over l.all l._depth;
  found : option_map (λ (f : Faulty). (f.view, f.number)) l.found ≡ refused_to (declared.catalog l.known.catalog.now) l._depth;
}
