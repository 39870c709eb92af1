-- The trees of texts, without where they lie in memory. Every definition on trees goes over these.
use Rattle.std.specs.Prelude.{ℕ, ℤ, Bool, List, Option}
use Rattle.shared_types.specs.declared.compare.CmpOp.{CmpOp}
use Rattle.sql_ast.specs.declared.name.Alias.{Alias}
use Rattle.sql_ast.specs.declared.name.Column.{Column}
use Rattle.sql_ast.specs.declared.name.Correlation.{Correlation}
use Rattle.sql_ast.specs.declared.schema.TableDecl.{TableDecl}
use Rattle.sql_ast.specs.declared.text.Sort.{Sort}
use Rattle.sql_ast.specs.declared.word.AdditiveOp.{AdditiveOp}
use Rattle.sql_ast.specs.declared.word.DataType.{DataType}
use Rattle.sql_ast.specs.declared.word.MultiplicativeOp.{MultiplicativeOp}
use Rattle.sql_ast.specs.declared.word.Quantifier.{Quantifier}
use Rattle.sql_ast.specs.declared.word.SetFunction.{SetFunction}
use Rattle.sql_ast.specs.declared.word.SetOperator.{SetOperator}
use Rattle.sql_ast.specs.declared.word.SetQuantifier.{SetQuantifier}
use Rattle.sql_ast.specs.declared.word.Sign.{Sign}

mutual
  pub data Expr : Type 0 where
    add : Expr → AdditiveOp → Expr → Expr
    multiply : Expr → MultiplicativeOp → Expr → Expr
    signed : Sign → Expr → Expr
    number : ℤ → Expr
    string : List ℕ → Expr
    col : Column → Expr
    paren : Expr → Expr
    scalar : Query → Expr
    count_all : Expr
    aggregate : SetFunction → Option SetQuantifier → Expr → Expr
    searched : Arms → Otherwise → Expr
    simple : Expr → Choices → Otherwise → Expr
    coalesce : Expr → Exprs → Expr
    null_if : Expr → Expr → Expr
    cast_null : DataType → Expr

  pub data Exprs : Type 0 where
    no_expr : Exprs
    one_expr : Expr → Exprs → Exprs

  pub data Res : Type 0 where
    given : Expr → Res
    null : Res

  pub data Arms : Type 0 where
    no_arm : Arms
    one_arm : Cond → Res → Arms → Arms

  pub data Choices : Type 0 where
    no_choice : Choices
    one_choice : Expr → Res → Choices → Choices

  pub data Otherwise : Type 0 where
    no_else : Otherwise
    or_else : Res → Otherwise

  pub data Cond : Type 0 where
    either : Cond → Cond → Cond
    both : Cond → Cond → Cond
    negated : Cond → Cond
    bracket : Cond → Cond
    compare : Expr → CmpOp → Expr → Cond
    quantified : Expr → CmpOp → Quantifier → Query → Cond
    between : Expr → Bool → Expr → Expr → Cond
    in_query : Expr → Bool → Query → Cond
    in_list : Expr → Bool → Exprs → Cond
    like : Expr → Bool → Expr → Cond
    is_null : Expr → Bool → Cond
    exists : Query → Cond

  pub data Filter : Type 0 where
    no_filter : Filter
    only_where : Cond → Filter

  pub data Item : Type 0 where
    item : Expr → Option Alias → Item
    all_of : List ℕ → Item

  pub data Items : Type 0 where
    no_item : Items
    one_item : Item → Items → Items

  pub data SelectList : Type 0 where
    star : SelectList
    items : Items → SelectList

  pub data TableRef : Type 0 where
    join : TableRef → Bool → TableRef → Cond → TableRef
    left_join : TableRef → Bool → TableRef → Cond → TableRef
    cross_join : TableRef → TableRef → TableRef
    named : List ℕ → Option Correlation → TableRef
    derived : Query → Correlation → TableRef
    joined : TableRef → TableRef

  pub data TableRefs : Type 0 where
    no_table : TableRefs
    one_table : TableRef → TableRefs → TableRefs

  pub data Query : Type 0 where
    combine : Query → SetOperator → Bool → Query → Query
    intersect : Query → Bool → Query → Query
    block : Option SetQuantifier → SelectList → TableRefs → Filter → List Column → Filter → Query
    enclosed : Query → Query

pub record QueryText : Type 0 where
  pub query : Query
  pub order : List Sort
  pub semicolon : Bool

pub record ViewDecl : Type 0 where
  pub name : List ℕ
  pub columns : List (List ℕ)
  pub query : Query

pub data Statement : Type 0 where
  table : TableDecl → Statement
  view : ViewDecl → Statement

pub record Schema : Type 0 where
  pub statements : List Statement
