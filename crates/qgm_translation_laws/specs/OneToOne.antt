-- In two graphs that are built of one query numbers stand for one another one to one.
use Rattle.std.specs.Prelude.{◌≤◌, ℕ, List, Option}
use Rattle.sql_value.specs.declared.order_key.OrderKey.{OrderKey}
use Rattle.sql_value.specs.declared.order_key.SqlType.{SqlType}
use Rattle.sql_meaning.specs.ResolvedTrees.{Query}
use Rattle.graph_alike.specs.OneToOne.{AreOneToOne}
use Rattle.qgm_core.specs.Boxes.{Ordered, QueryGraph, ids_in}
use Rattle.list_laws.specs.Lists.{times}
use Rattle.qgm_terms.specs.Terms.{Term}
use Rattle.qgm_translation.specs.Law.{IsBuiltOf}
use Rattle.qgm_translation.specs.Sources.{Sources}
use Rattle.qgm_translation.specs.There.{EachForOne}

-- a graph is built of a query; its boxes stand in order, no two quantifiers have one number, and each box is there for one thing
pub record BuiltApart (sources : Sources) (query : Query) (names : List (Option (List ℕ))) (order : List OrderKey) (g : QueryGraph) : Type 0 where
  pub built : IsBuiltOf sources query names order g
  pub ordered : Ordered g.boxes
  pub once : (q : ℕ) → times q (ids_in g.boxes) ≤ 1
  pub there : EachForOne sources query g

-- two graphs that are built so of one query, over sources that share other boxes and tell other types
abbrev pub BuiltOneToOne : Type 0
BuiltOneToOne =
    (sources : Sources) (shared : List ℕ → ℕ) (typed : Term → SqlType) (query : Query) (names : List (Option (List ℕ))) (order : List OrderKey) (g h : QueryGraph)
    → BuiltApart sources query names order g → BuiltApart (record sources { shared = shared; typed = typed }) query names order h → AreOneToOne g h
