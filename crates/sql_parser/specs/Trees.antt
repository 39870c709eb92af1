-- Reading of what may stand in brackets or in CASE, of any kind.
use Rattle.std.specs.Prelude.{ℕ}
use Rattle.sql_ast.specs.Shown as shown
use Rattle.sql_ast.specs.Syntax as s
use Rattle.sql_parser.specs.declared.nested.Nonterminal.{Nonterminal}
use Rattle.sql_parser.specs.declared.nested.Nonterminal.TheVariants as kind
use Rattle.sql_parser.specs.declared.nested.Tree.{Tree}
use Rattle.sql_parser.specs.declared.nested.Tree.TheVariants as made
use Rattle.sql_parser.specs.Read as read
use Rattle.sql_parser.specs.Words.{Parser, mapped}

-- what is read, of any kind
pub data AnyTree : Type 0 where
  expr : s.Expr → AnyTree
  cond : s.Cond → AnyTree
  query : s.Query → AnyTree
  table : s.TableRef → AnyTree

-- the tree that a value of the program holds
abbrev pub seen : Tree → AnyTree
seen (made.Expr x) = expr (shown.expr x.value)
seen (made.Cond x) = cond (shown.cond x.value)
seen (made.Query x) = query (shown.query x.value)
seen (made.Table x) = table (shown.table x.value)

-- what is read of a kind, with brackets and CASE nested less deep than the number
abbrev pub nested : Nonterminal → ℕ → Parser AnyTree
nested kind.Expr depth ts = mapped expr (read.expr depth ts)
nested kind.Cond depth ts = mapped cond (read.cond depth ts)
nested kind.Query depth ts = mapped query (read.query depth ts)
nested kind.Table depth ts = mapped table (read.table depth ts)
