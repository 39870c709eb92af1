-- The one quantifier that a conjunct reads, as the code finds it: by what the conjunct names.
use Rattle.std.specs.Prelude.{ℕ, ◌==◌, ◌&&◌, if◌then◌else◌, Bool, false, List, Option, Some, None}
use Rattle.qgm_core.specs.Boxes.{QueryGraph, box_of, is_quant, overs_in}
use Rattle.qgm_core.specs.Kinds.{is_F, is_plain, is_select}
use Rattle.list_laws.specs.Lists.{first, times}
use Rattle.qgm_core.specs.declared.node.Node.{Node}
use Rattle.qgm_core.specs.declared.owned.OwnedQuant.{OwnedQuant}
use Rattle.qgm_terms.specs.Named.{names_in_cond}
use Rattle.qgm_terms.specs.Terms.{Cond}
use Rattle.qgm_terms.specs.Wanted.{any_in_cond, reads_cond, wanted}
use Rattle.qgm_terms.specs.declared.sought.Sought.TheVariants as sought
use Rattle.rule_push.specs.PushPlaces.{into_box, reads_other}

-- q, where p reads a column of no other of these quantifiers
abbrev pub alone_among : Cond → List ℕ → Option ℕ → Option ℕ
alone_among p names None = None
alone_among p names (Some q) = if reads_other q p names then None else Some q

-- the one of these quantifiers of which p reads a column
abbrev pub lone_read : Cond → List ℕ → Option ℕ
lone_read p names = alone_among p names (first (λ q. reads_cond q p) names)

-- the F quantifier of a number
abbrev pub row_quant : ℕ → List OwnedQuant → Option OwnedQuant
row_quant q rs = first (λ r. is_F r.kind && is_quant q r) rs

abbrev pub row_found : Option ℕ → List OwnedQuant → Option OwnedQuant
row_found None rs = None
row_found (Some q) rs = row_quant q rs

abbrev pub one_of : Cond → List OwnedQuant → Option OwnedQuant
one_of p rs = if any_in_cond (wanted sought.Node) p then None else row_found (lone_read p (names_in_cond p)) rs

-- the quantifier that p, a node-free conjunct of the plain select b, reads alone
abbrev pub one_read : Node → Cond → Option OwnedQuant
one_read b p = if is_select b.parts.kind && is_plain b.parts.role then one_of p b.quants else None

-- p may go through it, over whose box no other quantifier ranges
abbrev pub goes_alone : (Cond → OwnedQuant → Node → Bool) → QueryGraph → Cond → Option OwnedQuant → Bool
goes_alone passes g p None = false
goes_alone passes g p (Some r) = into_box passes p r (box_of r.over g) && (times r.over (overs_in g.boxes) == 1)
