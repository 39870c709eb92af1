-- A rewriting with its text.
use Rattle.std.specs.Prelude.{◌≡◌, ℕ, codes, List, [], ◌∷◌, ◌++◌, Some}
use Rattle.std.specs.List.{flat_map}
use Rattle.sql_value.specs.declared.order_key.SqlType.TheVariants.{Integer, Varchar}
use Rattle.qgm_core.specs.Boxes.{QueryGraph}
use Rattle.qgm_core.specs.declared.kinds.BoxKind.{BoxKind}
use Rattle.qgm_core.specs.declared.kinds.BoxKind.TheVariants.{Base, Select}
use Rattle.qgm_core.specs.declared.kinds.Distinct.TheVariants.{Preserve}
use Rattle.qgm_core.specs.declared.kinds.QuantKind.TheVariants.{F}
use Rattle.qgm_core.specs.declared.kinds.Role.TheVariants.{Plain}
use Rattle.qgm_core.specs.declared.node.Node.{Node}
use Rattle.qgm_core.specs.declared.owned.OwnedQuant.{OwnedQuant}
use Rattle.qgm_terms.specs.Terms.{Term, col}
use Rattle.rule_api.specs.declared.place.Firing.{Firing}
use Rattle.rule_api.specs.declared.rule_id.RuleId.TheVariants.{M1}
use Rattle.qgm_run.specs.Explained.{count_lines, firing_lines, graph_lines}

abbrev box : ℕ → BoxKind → List Term → List OwnedQuant → Node
box b k head quants = record { id = b; parts = record { kind = k; distinct = Preserve; role = Plain; conds = record { items = []; spare = 0 }; head = head }; quants = quants }

-- one column of the box under an F quantifier
abbrev column_of : ℕ → ℕ → ℕ → Node
column_of b q under = box b Select (col q 1 ∷ []) (record { id = q; kind = F; over = under } ∷ [])

abbrev dept : Node
dept = box 0 (Base (record { name = codes "DEPT"; types = Integer ∷ Varchar ∷ Integer ∷ []; keys = []; not_null = [] })) [] []

abbrev graph_of : List Node → QueryGraph
graph_of boxes = record { boxes = boxes; root = 4; names = Some (codes "DNO") ∷ []; order = [] }

-- SELECT DNO FROM (SELECT DNO FROM DEPT) X, and M1 at its root
abbrev built : QueryGraph
built = graph_of (column_of 4 8 2 ∷ column_of 2 6 0 ∷ dept ∷ [])

abbrev merges : Firing
merges = record { rule = M1; place = record { at = 4; i = 1; j = 0 } }

abbrev merged : QueryGraph
merged = graph_of (column_of 4 6 0 ∷ dept ∷ [])

abbrev lines : List (List ℕ) → List ℕ
lines ls = flat_map (λ l. l ++ codes "\n") ls

abbrev pub OfMerge : Type 0
OfMerge =
    (graph_lines 0 built ++ firing_lines 0 built merges merged ++ count_lines 1 2) ≡ lines (
    codes "GRAPH 0" ∷ codes "out \"DNO\"" ∷ codes "order"
    ∷ codes "box 1 select preserve plain closed" ∷ codes "quant 1 F 2" ∷ codes "head int (col 1 1)"
    ∷ codes "box 2 select preserve plain closed" ∷ codes "quant 2 F 3" ∷ codes "head int (col 2 1)"
    ∷ codes "box 3 base \"DEPT\" closed" ∷ codes "head int" ∷ codes "head text" ∷ codes "head int"
    ∷ codes "FIRE 1 M1 1 1 0"
    ∷ codes "GRAPH 1" ∷ codes "out \"DNO\"" ∷ codes "order"
    ∷ codes "box 1 select preserve plain closed" ∷ codes "quant 1 F 2" ∷ codes "head int (col 1 1)"
    ∷ codes "box 2 base \"DEPT\" closed" ∷ codes "head int" ∷ codes "head text" ∷ codes "head int"
    ∷ codes "FIRINGS 1" ∷ codes "EVALS 2"
    ∷ [])
