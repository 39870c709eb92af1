-- M1, a select in a select is one select: its quantifiers, conditions and cells stand in the place of the quantifier over it.
use Rattle.std.specs.Prelude.{ℕ, ◌≡◌, ◌==◌, ◌++◌, if◌then◌else◌, true, false, List, ◌∷◌, map}
use Rattle.qgm_core.specs.Boxes.{QueryGraph, is_box, overs_in}
use Rattle.qgm_core.specs.Edits.{compact, on_boxes}
use Rattle.qgm_core.specs.Kinds.{is_F, is_enforce}
use Rattle.list_laws.specs.Lists.{In, times, without}
use Rattle.qgm_core.specs.declared.kinds.BoxKind.TheVariants.{Select}
use Rattle.qgm_core.specs.declared.node.Node.{Node}
use Rattle.qgm_core.specs.declared.owned.OwnedQuant.{OwnedQuant}
use Rattle.qgm_meaning.specs.Scope.{put_node}
use Rattle.qgm_meaning.specs.Searches.{bare}
use Rattle.qgm_edit_laws.specs.Graph.{reads_in}
use Rattle.qgm_terms.specs.Substitution.{cell_at, substituted, substituted_cond}

-- c's cells for the columns of q, c's conjuncts behind the others, and these quantifiers
abbrev pub merged : ℕ → Node → List OwnedQuant → Node → Node
merged q c quants n =
    record n {
      parts =
          record n.parts {
            head = map (substituted q c.parts.head) n.parts.head;
            conds = record n.parts.conds { items = map (substituted_cond q c.parts.head) n.parts.conds.items ++ c.parts.conds.items };
          };
      quants = quants;
    }

abbrev pub merge_node : ℕ → ℕ → Node → List OwnedQuant → Node → Node
merge_node b q c quants n = if n.id == b then merged q c quants n else put_node q c.parts.head n

-- box b, whose quantifiers these now are, merged with box c under q; c's cells stand for the columns of q in all boxes
abbrev pub merge : ℕ → ℕ → Node → List OwnedQuant → List Node → List Node
merge b q c quants bs = map (merge_node b q c quants) (without (is_box c.id) bs)

-- nb is a select with the quantifiers us, rq, vs, of which rq is an F over the select nc without ENFORCE, that no other ranges over; the cells of nc are bare whose columns another box than nb reads, which are boxes below nb
pub record Merges (bs : List Node) (nb nc : Node) (us : List OwnedQuant) (rq : OwnedQuant) (vs : List OwnedQuant) : Type 0 where
  pub in_b : In nb bs
  pub in_c : In nc bs
  pub split : nb.quants ≡ us ++ rq ∷ vs
  pub is_f : is_F rq.kind ≡ true
  pub over_c : rq.over ≡ nc.id
  pub select_b : nb.parts.kind ≡ Select
  pub select_c : nc.parts.kind ≡ Select
  pub one_use : times nc.id (overs_in bs) ≡ 1
  pub not_enforced : is_enforce nc.parts.distinct ≡ false
  pub naked : (y : Node) → In y bs → (y.id == nb.id) ≡ false → (k : ℕ) → reads_in rq.id k y ≡ true → bare (cell_at k nc.parts.head) ≡ true

-- c's quantifiers in the place of rq
abbrev pub merged_in : Node → Node → List OwnedQuant → OwnedQuant → List OwnedQuant → QueryGraph → QueryGraph
merged_in b c us rq vs g = compact (on_boxes (merge b.id rq.id c (us ++ (c.quants ++ vs))) g)
