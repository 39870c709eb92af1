-- M1 at an ENFORCE select: the select below may be ENFORCE too.
use Rattle.std.specs.Prelude.{ℕ, ◌≡◌, ◌==◌, ◌++◌, true, false, List, ◌∷◌}
use Rattle.qgm_core.specs.Boxes.{overs_in, QueryGraph}
use Rattle.qgm_core.specs.Kinds.{is_F, is_enforce}
use Rattle.list_laws.specs.Lists.{In, times}
use Rattle.qgm_core.specs.declared.kinds.BoxKind.TheVariants.{Select}
use Rattle.qgm_core.specs.declared.node.Node.{Node}
use Rattle.qgm_core.specs.declared.owned.OwnedQuant.{OwnedQuant}
use Rattle.qgm_meaning.specs.Searches.{bare}
use Rattle.qgm_edit_laws.specs.Graph.{Sound, reads_in}
use Rattle.qgm_edit_laws.specs.Keeps.{Keeps}
use Rattle.rule_merge.specs.Merged.{merged_in}
use Rattle.qgm_terms.specs.Substitution.{cell_at}

-- nb is an ENFORCE select with the quantifiers us, rq, vs, of which rq is an F over the select nc, ENFORCE or not, that no other ranges over; the cells of nc are bare whose columns another box than nb reads, which are boxes below nb
pub record MergesDistinct (bs : List Node) (nb nc : Node) (us : List OwnedQuant) (rq : OwnedQuant) (vs : List OwnedQuant) : Type 0 where
  pub in_b : In nb bs
  pub in_c : In nc bs
  pub split : nb.quants ≡ us ++ rq ∷ vs
  pub is_f : is_F rq.kind ≡ true
  pub over_c : rq.over ≡ nc.id
  pub select_b : nb.parts.kind ≡ Select
  pub select_c : nc.parts.kind ≡ Select
  pub one_use : times nc.id (overs_in bs) ≡ 1
  pub enforced : is_enforce nb.parts.distinct ≡ true
  pub naked : (y : Node) → In y bs → (y.id == nb.id) ≡ false → (k : ℕ) → reads_in rq.id k y ≡ true → bare (cell_at k nc.parts.head) ≡ true

-- M1 keeps all there
abbrev pub MergeDistinctKeeps : Type 0
MergeDistinctKeeps = (g : QueryGraph) → Sound g.boxes g.root → (b c : Node) (us : List OwnedQuant) (rq : OwnedQuant) (vs : List OwnedQuant) → MergesDistinct g.boxes b c us rq vs → Keeps g (merged_in b c us rq vs g)
