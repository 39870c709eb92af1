use Rattle.std.proofs.Common.{◌≡◌, ◌∙◌, ℕ, true, List, drop, length, map, ap, ap₂, sym, arith}
use Rattle.sql_ast.specs.Shown as written
use Rattle.sql_catalog.specs.Shown.{catalog}
use Rattle.sql_names.specs.Known.{table_range, view_over, view_range}
use Rattle.sql_names.specs.Ranges.{same_ranges}
use Rattle.sql_names.specs.Resolved.{Columns}
use Rattle.sql_names.specs.Schema.{columns_at}
use Rattle.sql_names.specs.Shapes.{columns_among, shape}
use Rattle.sql_names.specs.declared.range.Range.{Range}
use Rattle.sql_names.proofs.Known.{columns_first, settled}
use Rattle.sql_names.proofs.Rounds.{rest_whole, round_over, tables_first, tables_stay, tables_within}
use Rattle.sql_names.proofs.views.resolve_schema.Goals as goal

pub rounds-init : goal.rounds-init
rounds-init c =
    let start : shape c.in_ok-known.known.items ≡ map table_range c.args.schema.now.tables = c.in_ok-known.ensures ∙ ap (map table_range) (c.as_slice.ensures ∙ c.tables.ensures) in
    let all : c.len-tables.result ≡ length c.in_ok-known.known.items = omega (arith, c.len-tables.ensures, c.in_ok-known.known.ok.0) in
    record {
      columns = columns_first (catalog c.args.schema.now) c.in_ok-known.known.items start;
      tables = tables_first c.len-tables.result c.in_ok-known.known.items (map table_range c.args.schema.now.tables) start all;
      within = omega (arith, all);
      depth = omega arith;
    }

pub rounds-preserved : goal.rounds-preserved
rounds-preserved c =
    let made : shape c.in_ok-next.next.ranges.items ≡ map (view_range (columns_among c.rounds.known.items)) (map written.view c.args.schema.now.views) =
    c.in_ok-next.ensures.ranges ∙ ap (λ (known : List Range). map (view_range (columns_among known)) (map written.view c.args.schema.now.views)) c.as_slice-in-rounds.ensures.value in
    record {
      columns = round_over (catalog c.args.schema.now) c.rounds._depth c.len-tables.result c.rounds.known.items c.in_ok-known-2.known.items c.in_ok-next.next.ranges.items c.rounds.invariant.columns c.rounds.invariant.tables made c.in_ok-known-2.ensures;
      tables = tables_stay c.len-tables.result c.rounds.known.items c.in_ok-known-2.known.items c.in_ok-next.next.ranges.items (map table_range c.args.schema.now.tables) c.rounds.invariant.within c.rounds.invariant.tables c.in_ok-known-2.ensures;
      within = tables_within c.len-tables.result c.rounds.known.items c.in_ok-known-2.known.items c.in_ok-next.next.ranges.items c.rounds.invariant.within c.in_ok-known-2.ensures;
      depth = omega (arith, c.rounds-test.true);
    }

pub returns-then-same_ranges-clause-columns : goal.returns-then-same_ranges-clause-columns
returns-then-same_ranges-clause-columns c =
    let made : shape c.in_ok-next.next.ranges.items ≡ map (view_range (columns_among c.rounds.known.items)) (map written.view c.args.schema.now.views) =
    c.in_ok-next.ensures.ranges ∙ ap (λ (known : List Range). map (view_range (columns_among known)) (map written.view c.args.schema.now.views)) c.as_slice-in-rounds.ensures.value in
    let alike : same_ranges (shape (drop c.len-tables.result c.rounds.known.items)) (shape c.in_ok-next.next.ranges.items) ≡ true =
    ap₂ (λ (xs ys : List Range). same_ranges (shape (drop c.len-tables.result xs)) (shape ys)) (sym c.as_slice-in-rounds-2.ensures.value) (sym c.as_slice-in-rounds-3.ensures.value)
    ∙ ap (λ (xs : List Range). same_ranges (shape xs) (shape c.as_slice-in-rounds-3.result.now)) (sym (rest_whole c.len-tables.result c.as_slice-in-rounds-2.result.now))
    ∙ sym c.same_ranges.ensures ∙ c.if-same_ranges.true in
    ap columns_among c.from_vec.ensures
    ∙ settled (catalog c.args.schema.now) c.rounds._depth c.len-tables.result c.rounds.known.items c.in_ok-next.next.ranges.items (omega (arith, c.rounds-test.true)) c.rounds.invariant.columns c.rounds.invariant.tables made alike

pub returns-then-same_ranges-clause-views : goal.returns-then-same_ranges-clause-views
returns-then-same_ranges-clause-views c =
    let made : shape c.in_ok-next.next.ranges.items ≡ map (view_range (columns_among c.rounds.known.items)) (map written.view c.args.schema.now.views) =
    c.in_ok-next.ensures.ranges ∙ ap (λ (known : List Range). map (view_range (columns_among known)) (map written.view c.args.schema.now.views)) c.as_slice-in-rounds.ensures.value in
    let alike : same_ranges (shape (drop c.len-tables.result c.rounds.known.items)) (shape c.in_ok-next.next.ranges.items) ≡ true =
    ap₂ (λ (xs ys : List Range). same_ranges (shape (drop c.len-tables.result xs)) (shape ys)) (sym c.as_slice-in-rounds-2.ensures.value) (sym c.as_slice-in-rounds-3.ensures.value)
    ∙ ap (λ (xs : List Range). same_ranges (shape xs) (shape c.as_slice-in-rounds-3.result.now)) (sym (rest_whole c.len-tables.result c.as_slice-in-rounds-2.result.now))
    ∙ sym c.same_ranges.ensures ∙ c.if-same_ranges.true in
    c.in_ok-next.ensures.views
    ∙ ap (λ (known : List Range). map (view_over (columns_among known)) (map written.view c.args.schema.now.views)) c.as_slice-in-rounds.ensures.value
    ∙ ap (λ (columns : Columns). map (view_over columns) (map written.view c.args.schema.now.views))
    (settled (catalog c.args.schema.now) c.rounds._depth c.len-tables.result c.rounds.known.items c.in_ok-next.next.ranges.items (omega (arith, c.rounds-test.true)) c.rounds.invariant.columns c.rounds.invariant.tables made alike)

pub returns-clause-columns : goal.returns-clause-columns
returns-clause-columns c =
    let last : c.rounds._depth ≡ 16 = omega (arith, c.rounds-test.false, c.rounds.invariant.depth) in
    ap columns_among c.from_vec-2.ensures ∙ c.rounds.invariant.columns ∙ ap (λ (depth : ℕ). columns_at (catalog c.args.schema.now) depth) last

pub returns-clause-views : goal.returns-clause-views
returns-clause-views c =
    let last : c.rounds._depth ≡ 16 = omega (arith, c.rounds-test.false, c.rounds.invariant.depth) in
    c.in_ok-last.ensures.views
    ∙ ap (λ (known : List Range). map (view_over (columns_among known)) (map written.view c.args.schema.now.views)) c.as_slice-2.ensures.value
    ∙ ap (λ (columns : Columns). map (view_over columns) (map written.view c.args.schema.now.views)) (c.rounds.invariant.columns ∙ ap (λ (depth : ℕ). columns_at (catalog c.args.schema.now) depth) last)
