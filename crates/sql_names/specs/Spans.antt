-- Columns side by side that the program holds.
use Rattle.std.specs.Prelude.{Option, Some, None}
use Rattle.sql_names.specs.Places as places
use Rattle.sql_names.specs.declared.span.Span.{Span}

abbrev pub span : Option Span → Option places.Span
span None = None
span (Some s) = Some (record { scope = s.scope; first = s.first; columns = s.columns.now })
