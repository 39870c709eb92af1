-- What expressions and conditions name, as often as they do, in the order of the text.
use Rattle.std.specs.Prelude.{ℕ, List, [], ◌∷◌}
use Rattle.qgm_terms.specs.Gathered.{Search, listed, listed_cond}
use Rattle.qgm_terms.specs.Terms.{Term, Cond}
use Rattle.qgm_terms.specs.declared.named.Column.{Column}
use Rattle.qgm_terms.specs.declared.named.QuantNode.{QuantNode}
use Rattle.qgm_terms.specs.declared.named.QuantNode.TheVariants.{Scalar, Some, Every}

-- the quantifiers: of columns, scalars and nodes
abbrev pub names : Search (List ℕ)
names = record {
  at_column = λ q k. q ∷ [];
  at_scalar = λ q. q ∷ [];
  at_some = λ q inner. q ∷ inner;
  at_every = λ q inner. q ∷ inner;
  at_aggregate = λ inner. inner;
}

-- the columns
abbrev pub columns : Search (List Column)
columns = record {
  at_column = λ q k. record { quant = q; place = k } ∷ [];
  at_scalar = λ q. [];
  at_some = λ q inner. inner;
  at_every = λ q inner. inner;
  at_aggregate = λ inner. inner;
}

-- scalars, some and every, each with its quantifier
abbrev pub nodes : Search (List QuantNode)
nodes = record {
  at_column = λ q k. [];
  at_scalar = λ q. Scalar q ∷ [];
  at_some = λ q inner. Some q ∷ inner;
  at_every = λ q inner. Every q ∷ inner;
  at_aggregate = λ inner. inner;
}

abbrev pub names_in : Term → List ℕ
names_in = listed names

abbrev pub names_in_cond : Cond → List ℕ
names_in_cond = listed_cond names

abbrev pub columns_in : Term → List Column
columns_in = listed columns

abbrev pub columns_in_cond : Cond → List Column
columns_in_cond = listed_cond columns

abbrev pub nodes_in : Term → List QuantNode
nodes_in = listed nodes

abbrev pub nodes_in_cond : Cond → List QuantNode
nodes_in_cond = listed_cond nodes
