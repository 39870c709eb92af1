use Rattle.std.proofs.Common.{◌≤◌, drop, take}
use Rattle.csv_tables.specs.Fits.{FitsSchema}
use Rattle.csv_tables.proofs.Loads.{Carries}
use Rattle.csv_tables.proofs.loading.load.Given as goal

-- whatever the rest comes to, the whole comes to, after the tables that stand
abbrev pub invariant-loop-decl : goal.invariant-loop-decl
invariant-loop-decl g l = record {
  comes : Carries (g.F.Files.told l.fn.files) (g.F.Files.told l.files) l.decl-items (drop l.decl-index l.decl-items) l.dir l.tables;
  later : g.F.Files.faults l.fn.files ≤ g.F.Files.faults l.files;
  fits : FitsSchema (take l.decl-index l.decl-items) l.tables;
}
