-- A graph in which a derived table ranges over the box of a view that has its body: it is built of the query, and this box meets two of another graph.
use Rattle.std.specs.Prelude.{ℕ, codes, pos, false, List, [], ◌∷◌, None}
use Rattle.sql_meaning.specs.ResolvedTrees.{Query}
use Rattle.sql_meaning.specs.ResolvedTrees as q
use Rattle.shared_types.specs.declared.compare.CmpOp.TheVariants as op
use Rattle.qgm_core.specs.Boxes.{Ordered, QueryGraph}
use Rattle.qgm_core.specs.Edits.{range}
use Rattle.qgm_core.specs.declared.kinds.BoxKind.TheVariants.{Select}
use Rattle.qgm_core.specs.declared.kinds.QuantKind.TheVariants.{F}
use Rattle.qgm_core.specs.declared.node.Node.{Node}
use Rattle.qgm_core.specs.declared.owned.OwnedQuant.{OwnedQuant}
use Rattle.qgm_terms.specs.Terms as t
use Rattle.qgm_translation.specs.Law.{IsBuiltOf}
use Rattle.qgm_translation.specs.Samples.{base, box, sources}
use Rattle.graph_alike.specs.Alike.{Meets}
use Rattle.qgm_translation.specs.There.{EachForOne}

-- the body of V: SELECT U.C, U.D FROM U WHERE U.D >= 8
abbrev pub body : Query
body = q.block false (q.one_value (q.column 0 0) (q.one_value (q.column 0 1) q.no_value)) (q.one_from (q.named (codes "U")) q.no_from) (q.compare (q.column 0 1) op.Ge (q.number (pos 8)))

-- SELECT V.C FROM V, (SELECT U.C, U.D FROM U WHERE U.D >= 8) AS W
abbrev pub twice : Query
twice = q.block false (q.one_value (q.column 0 0) q.no_value) (q.one_from (q.named (codes "V")) (q.one_from (q.derived body) q.no_from)) (q.all q.no_test)

-- over the boxes of V and of W
abbrev pub top : List OwnedQuant → Node
top quants = box 1 Select [] (t.col 1 1 ∷ []) quants

-- of this number, over U in the quantifier of the same number
abbrev pub over_u : ℕ → Node
over_u b = box b Select (t.compare t.at_least (t.col b 2) (t.int (pos 8)) ∷ []) (t.col b 1 ∷ t.col b 2 ∷ []) (range b F 7 ∷ [])

-- W ranges over V's box, 8
abbrev pub reusing : QueryGraph
reusing = record { boxes = top (range 1 F 8 ∷ range 2 F 8 ∷ []) ∷ over_u 8 ∷ base 7 (codes "U") ∷ []; root = 1; names = None ∷ []; order = [] }

-- W has the box 9
abbrev pub apart : QueryGraph
apart = record { boxes = top (range 1 F 8 ∷ range 2 F 9 ∷ []) ∷ over_u 8 ∷ over_u 9 ∷ base 7 (codes "U") ∷ []; root = 1; names = None ∷ []; order = [] }

-- both graphs are built of the query, and the box 8 of the first meets the boxes 8 and 9 of the second; in the first the box 8 isn't there for one thing
pub record Reused : Type 0 where
  pub first : IsBuiltOf sources twice (None ∷ []) [] reusing
  pub second : IsBuiltOf sources twice (None ∷ []) [] apart
  pub ordered : Ordered reusing.boxes × Ordered apart.boxes
  pub view : Meets reusing apart 8 8
  pub derived : Meets reusing apart 8 9
  pub refused : EachForOne sources twice reusing → ⊥
