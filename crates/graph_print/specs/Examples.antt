-- Graphs, expressions and conditions with their texts.
use Rattle.std.specs.Prelude.{◌≡◌, ℕ, pos, negsuc, codes, true, false, List, [], ◌∷◌, ◌++◌, Some, None}
use Rattle.std.specs.List.{flat_map}
use Rattle.sql_value.specs.declared.order_key.SqlType.{SqlType}
use Rattle.sql_value.specs.declared.order_key.SqlType.TheVariants.{Integer, Varchar}
use Rattle.qgm_core.specs.Boxes.{QueryGraph}
use Rattle.qgm_core.specs.declared.kinds.BoxKind.{BoxKind}
use Rattle.qgm_core.specs.declared.kinds.BoxKind.TheVariants.{Base, Select, Group, SetOp, OuterJoin}
use Rattle.qgm_core.specs.declared.kinds.Distinct.TheVariants.{Preserve}
use Rattle.qgm_core.specs.declared.kinds.QuantKind.{QuantKind}
use Rattle.qgm_core.specs.declared.kinds.QuantKind.TheVariants.{F, S}
use Rattle.qgm_core.specs.declared.kinds.Role.TheVariants.{Plain}
use Rattle.qgm_core.specs.declared.kinds.SetOperator.TheVariants.{ExceptAll}
use Rattle.qgm_core.specs.declared.node.Node.{Node}
use Rattle.qgm_core.specs.declared.owned.OwnedQuant.{OwnedQuant}
use Rattle.qgm_terms.specs.Terms.{Term, int, text, null_int, col, scalar, both, choose, arm, no_arm, count_all, fold, avg, each_once, Cond, always, compare, equal, above, like, ored, not}
use Rattle.qgm_terms.specs.declared.tree.Op.TheVariants.{Add, Sub}
use Rattle.graph_print.specs.GraphText.{text_of}
use Rattle.graph_print.specs.TermText.{cond_text, term_text}

abbrev pub n : ℕ → Term
n k = int (pos k)

abbrev pub box : ℕ → BoxKind → List Cond → List Term → List OwnedQuant → Node
box b k conds head quants = record { id = b; parts = record { kind = k; distinct = Preserve; role = Plain; conds = record { items = conds; spare = 0 }; head = head }; quants = quants }

abbrev pub stored : ℕ → List ℕ → List SqlType → Node
stored b name types = box b (Base (record { name = name; types = types; keys = []; not_null = [] })) [] [] []

abbrev pub over : ℕ → QuantKind → ℕ → OwnedQuant
over q kind b = record { id = q; kind = kind; over = b }

abbrev lines : List (List ℕ) → List ℕ
lines ls = flat_map (λ l. l ++ codes "\n") ls

-- SELECT A FROM NONE
abbrev plain : QueryGraph
plain = record {
  boxes = box 1 Select [] (col 0 1 ∷ []) (over 0 F 0 ∷ []) ∷ stored 0 (codes "NONE") (Integer ∷ []) ∷ [];
  root = 1;
  names = Some (codes "A") ∷ [];
  order = [];
}

-- SELECT D.DNO FROM DEPT D WHERE D.BUDGET > 4 AND (SELECT COUNT(*) FROM EMP E WHERE E.BLDG = D.BLDG) = 0, its boxes ranked in another order than they are walked
abbrev pub counted : QueryGraph
counted = record {
  boxes =
      box 5 Select (compare above (col 0 3) (n 4) ∷ compare equal (scalar 4) (n 0) ∷ []) (col 0 1 ∷ []) (over 0 F 0 ∷ over 4 S 4 ∷ [])
      ∷ box 4 Select [] (col 3 1 ∷ []) (over 3 F 3 ∷ [])
      ∷ box 3 (Group 0) [] (count_all ∷ []) (over 2 F 2 ∷ [])
      ∷ box 2 Select (compare equal (col 1 3) (col 0 2) ∷ []) (n 1 ∷ []) (over 1 F 1 ∷ [])
      ∷ stored 1 (codes "EMP") (Integer ∷ Integer ∷ Varchar ∷ Integer ∷ [])
      ∷ stored 0 (codes "DEPT") (Integer ∷ Varchar ∷ Integer ∷ [])
      ∷ [];
  root = 5;
  names = Some (codes "DNO") ∷ [];
  order = [];
}

-- SELECT 'x' AS "a""b" FROM "T""" EXCEPT ALL a LEFT JOIN, ordered by its column
abbrev joined : QueryGraph
joined = record {
  boxes =
      box 3 (SetOp ExceptAll (Varchar ∷ [])) [] [] (over 0 F 2 ∷ over 1 F 1 ∷ [])
      ∷ box 2 Select [] (text (codes "x") ∷ []) (over 2 F 0 ∷ [])
      ∷ box 1 OuterJoin (compare equal (col 3 1) (col 4 1) ∷ always ∷ []) (col 3 1 ∷ []) (over 3 F 0 ∷ over 4 F 0 ∷ [])
      ∷ stored 0 (codes "T\"") (Varchar ∷ [])
      ∷ [];
  root = 3;
  names = Some (codes "a\"b") ∷ None ∷ [];
  order = record { column = 1; descending = true } ∷ record { column = 2; descending = false } ∷ [];
}

pub record OfGraphs : Type 0 where
  pub plain : text_of plain ≡ lines (
      codes "out \"A\"" ∷ codes "order"
      ∷ codes "box 1 select preserve plain closed" ∷ codes "quant 1 F 2" ∷ codes "head int (col 1 1)"
      ∷ codes "box 2 base \"NONE\" closed" ∷ codes "head int"
      ∷ [])
  pub counted : text_of counted ≡ lines (
      codes "out \"DNO\"" ∷ codes "order"
      ∷ codes "box 1 select preserve plain closed" ∷ codes "quant 1 F 2" ∷ codes "quant 2 S 3"
      ∷ codes "where (gt (col 1 3) (int 4))" ∷ codes "where (eq (scalar 2) (int 0))" ∷ codes "head int (col 1 1)"
      ∷ codes "box 2 base \"DEPT\" closed" ∷ codes "head int" ∷ codes "head text" ∷ codes "head int"
      ∷ codes "box 3 select preserve plain open" ∷ codes "quant 3 F 4" ∷ codes "head int (col 3 1)"
      ∷ codes "box 4 group 0 open" ∷ codes "quant 4 F 5" ∷ codes "head int (count-all)"
      ∷ codes "box 5 select preserve plain open" ∷ codes "quant 5 F 6" ∷ codes "where (eq (col 5 3) (col 1 2))" ∷ codes "head int (int 1)"
      ∷ codes "box 6 base \"EMP\" closed" ∷ codes "head int" ∷ codes "head int" ∷ codes "head text" ∷ codes "head int"
      ∷ [])
  pub joined : text_of joined ≡ lines (
      codes "out \"a\"\"b\" -" ∷ codes "order 1 desc 2 asc"
      ∷ codes "box 1 setop except-all closed" ∷ codes "quant 1 F 2" ∷ codes "quant 2 F 4" ∷ codes "head text"
      ∷ codes "box 2 select preserve plain closed" ∷ codes "quant 3 F 3" ∷ codes "head text (text 'x')"
      ∷ codes "box 3 base \"T\"\"\" closed" ∷ codes "head text"
      ∷ codes "box 4 outerjoin closed" ∷ codes "quant 4 F 3" ∷ codes "quant 5 F 3"
      ∷ codes "on (eq (col 4 1) (col 5 1))" ∷ codes "on (true)" ∷ codes "head text (col 4 1)"
      ∷ [])

abbrev same : ℕ → ℕ
same q = q

pub record OfTerms : Type 0 where
  -- chains nest to the left
  pub chain : term_text same (both Sub (both Add (n 1) (col 2 3)) (int (negsuc 3))) ≡ codes "(sub (add (int 1) (col 2 3)) (int -4))"
  pub quote : term_text same (text (codes "it's")) ≡ codes "(text 'it''s')"
  pub case : term_text same (choose (arm (not always) (n 1) (arm always null_int no_arm)) (n 2)) ≡ codes "(case (not (true)) (int 1) (true) (null int) else (int 2))"
  pub distinct : term_text same (fold avg each_once (col 1 2)) ≡ codes "(avg-distinct (col 1 2))"
  pub or : cond_text same (ored always (always ∷ compare like (col 1 1) (text []) ∷ [])) ≡ codes "(or (or (true) (true)) (like (col 1 1) (text '')))"
