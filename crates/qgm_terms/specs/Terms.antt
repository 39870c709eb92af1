-- Expressions and conditions as trees.
use Rattle.std.specs.Prelude.{ℕ, ℤ, List, [], ◌∷◌}
use Rattle.qgm_terms.specs.declared.tree.Op.{Op}

-- an aggregate of the cells of a group; `single` is the cell of at most one row
pub data Aggregate : Type 0 where
  single : Aggregate
  count : Aggregate
  sum : Aggregate
  avg : Aggregate
  least : Aggregate
  greatest : Aggregate

-- whether an aggregate takes equal cells once
pub data Taken : Type 0 where
  all_of : Taken
  each_once : Taken

-- a comparison; `same` holds of two nulls too
pub data Sign : Type 0 where
  equal : Sign
  unequal : Sign
  below : Sign
  at_most : Sign
  above : Sign
  at_least : Sign
  same : Sign
  like : Sign

mutual
  pub data Term : Type 0 where
    int : ℤ → Term
    text : List ℕ → Term
    null_int : Term
    null_text : Term
    -- a column, by its place from 1, of a quantifier's row
    col : ℕ → ℕ → Term
    -- the cell of the one row of an S quantifier
    scalar : ℕ → Term
    both : Op → Term → Term → Term
    minus_of : Term → Term
    choose : Arms → Term → Term
    count_all : Term
    fold : Aggregate → Taken → Term → Term

  -- conditions, each with its result
  pub data Arms : Type 0 where
    no_arm : Arms
    arm : Cond → Term → Arms → Arms

  pub data Cond : Type 0 where
    always : Cond
    compare : Sign → Term → Term → Cond
    is_null : Term → Cond
    and : Cond → Cond → Cond
    or : Cond → Cond → Cond
    not : Cond → Cond
    -- of some row of an E quantifier, of every row of an A quantifier
    some : ℕ → Cond → Cond
    every : ℕ → Cond → Cond

-- an operator and its right operand
pub record Link : Type 0 where
  pub op : Op
  pub right : Term

-- a first operand, and then operators and operands, from the left
abbrev pub linked : Term → List Link → Term
linked x [] = x
linked x (l ∷ ls) = linked (both l.op x l.right) ls

-- a condition and its result
pub record Choice : Type 0 where
  pub when : Cond
  pub then : Term

abbrev pub armed : List Choice → Arms
armed [] = no_arm
armed (c ∷ cs) = arm c.when c.then (armed cs)

-- the AND of a first condition and others, from the left
abbrev pub anded : Cond → List Cond → Cond
anded p [] = p
anded p (q ∷ qs) = anded (and p q) qs

-- the OR of a first condition and others, from the left
abbrev pub ored : Cond → List Cond → Cond
ored p [] = p
ored p (q ∷ qs) = ored (or p q) qs
