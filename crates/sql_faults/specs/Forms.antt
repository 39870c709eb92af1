-- Forms of which chains are made.
use Rattle.std.specs.Prelude.{Bool, true, false}
use Rattle.sql_ast.specs.declared.tree.Block.{Block}
use Rattle.sql_ast.specs.Shown as written
use Rattle.sql_ast.specs.Syntax as s
pub use Rattle.sql_meaning.specs.Chains.{is_conjunction, is_disjunction, is_product, is_sum}

-- CASE WHEN
abbrev pub is_searched : s.Expr → Bool
is_searched (s.searched xs o) = true
is_searched _ = false

-- CASE x WHEN
abbrev pub is_simple : s.Expr → Bool
is_simple (s.simple x xs o) = true
is_simple _ = false

-- a block, as the code has it
abbrev pub block_of : Block → s.Query
block_of b = s.block b.quantifier (written.select_list b.list) (written.table_list b.from) (written.filter b.filter) b.grouping (written.filter b.having)
