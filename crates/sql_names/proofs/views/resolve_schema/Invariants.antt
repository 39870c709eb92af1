use Rattle.std.proofs.Common.{◌≡◌, ◌≤◌, length, map, take}
use Rattle.sql_catalog.specs.Shown.{catalog}
use Rattle.sql_names.specs.Known.{table_range}
use Rattle.sql_names.specs.Schema.{columns_at}
use Rattle.sql_names.specs.Shapes.{columns_among, shape}
use Rattle.sql_names.proofs.views.resolve_schema.Given as goal

abbrev pub invariant-rounds : goal.invariant-rounds
invariant-rounds l = record {
  columns : columns_among l.known.items ≡ columns_at (catalog l.schema) l._depth;
  tables : take l.tables (shape l.known.items) ≡ map table_range (catalog l.schema).tables;
  within : l.tables ≤ length l.known.items;
  depth : l._depth ≤ 16;
}
