-- Which columns of a box are named, and whether a set operation ranges over it.
use Rattle.std.specs.Prelude.{ℕ, ◌==◌, ◌&&◌, ◌++◌, if◌then◌else◌, Bool, false, List, [], ◌∷◌}
use Rattle.std.specs.List.{flat_map, list_any}
use Rattle.list_laws.specs.Lists.{holds}
use Rattle.qgm_core.specs.Edits.{quants_over}
use Rattle.qgm_core.specs.declared.node.Node.{Node}
use Rattle.qgm_edit_laws.specs.Changes.{is_set_op}
use Rattle.qgm_terms.specs.declared.named.Column.{Column}
use Rattle.qgm_terms.specs.declared.named.QuantNode.{QuantNode}
use Rattle.qgm_terms.specs.declared.named.QuantNode.TheVariants.{Scalar, Some, Every}
use Rattle.qgm_wellformed.specs.Columns.{columns_of}
use Rattle.qgm_wellformed.specs.Shapes.{nodes_of}

-- the places of those of these columns that are of such quantifiers
abbrev pub places_of : List ℕ → List Column → List ℕ
places_of qs [] = []
places_of qs (c ∷ cs) = if holds c.quant qs then c.place ∷ places_of qs cs else places_of qs cs

-- a scalar of such a quantifier, which names column 1
abbrev pub is_scalar_of : List ℕ → QuantNode → Bool
is_scalar_of qs (Scalar q) = holds q qs
is_scalar_of qs (Some q) = false
is_scalar_of qs (Every q) = false

-- 1 for each of these
abbrev pub firsts_of : List ℕ → List QuantNode → List ℕ
firsts_of qs [] = []
firsts_of qs (n ∷ ns) = if is_scalar_of qs n then 1 ∷ firsts_of qs ns else firsts_of qs ns

-- the columns of such quantifiers that a box names
abbrev pub named_in_box : List ℕ → Node → List ℕ
named_in_box qs n = places_of qs (columns_of n) ++ firsts_of qs (nodes_of n)

-- those that boxes name
abbrev pub named_in : List ℕ → List Node → List ℕ
named_in qs boxes = flat_map (named_in_box qs) boxes

-- the columns of box b that are named
abbrev pub named_of : ℕ → List Node → List ℕ
named_of b boxes = named_in (quants_over b boxes) boxes

-- a quantifier of a box ranges over b
abbrev pub has_over : ℕ → Node → Bool
has_over b n = list_any (λ r. r.over == b) n.quants

-- a set operation ranges over b
abbrev pub is_operand : ℕ → List Node → Bool
is_operand b boxes = list_any (λ n. is_set_op n.parts.kind && has_over b n) boxes
