-- M1 keeps what rules keep.
use Rattle.std.proofs.Common.{ℕ, ◌==◌, ◌≡◌, cond, true, false, List, [], ◌∷◌, ◌++◌, map, refl, subst, ◌∙◌}
use Rattle.row_bag.specs.declared.tables.Table.{Table}
use Rattle.qgm_core.specs.declared.kinds.BoxKind.{BoxKind}
use Rattle.qgm_core.specs.declared.node.Node.{Node}
use Rattle.qgm_core.specs.declared.owned.OwnedQuant.{OwnedQuant}
use Rattle.qgm_meaning.specs.Scope.{put_node}
use Rattle.qgm_meaning.specs.Widths.{Filled}
use Rattle.qgm_edit_laws.proofs.Edits.{boxes_without, without-one}
use Rattle.qgm_edit_laws.specs.Graph.{Sound}
use Rattle.rule_merge.specs.Merged.{merge_node, merged, Merges, merged_in}
use Rattle.qgm_core.specs.Boxes.{QueryGraph}
use Rattle.list_laws.specs.Lists.{holds}
use Rattle.qgm_edit_laws.specs.Keeps.{Keeps}
use Rattle.qgm_edit_laws.proofs.Compact.{compact-bag, compact-sound}
use Rattle.rule_merge.proofs.MergeSelectMeans.{merge-bag}
use Rattle.rule_merge.proofs.MergeSelectSound.{merge-sound}
use Rattle.qgm_core.specs.Edits.{compact}
use Rattle.qgm_core.specs.Free.{reached}
use Rattle.qgm_edit_laws.proofs.Widths.{filled-kept, filled-map, filled-without}
use Rattle.qgm_edit_laws.proofs.Rules.{same-agree}

merge-kind : (b q : ℕ) (c : Node) (quants : List OwnedQuant) (n : Node) → (merge_node b q c quants n).parts.kind ≡ n.parts.kind
merge-kind b q c quants n = elim (n.id == b) as (λ t. ◌≡◌ {A = BoxKind} (cond t (merged q c quants n) (put_node q c.parts.head n)).parts.kind n.parts.kind) [ true ↦ refl | false ↦ refl ]

pub filled-merge : (tables : List Table) (b q : ℕ) (c : Node) (quants : List OwnedQuant) (ns : List Node) → Filled tables ns → Filled tables (map (merge_node b q c quants) (boxes_without c.id ns))
filled-merge tables b q c quants ns h = filled-map tables (merge_node b q c quants) (merge-kind b q c quants) (boxes_without c.id ns) (filled-without tables c.id ns h)

pub merge-keeps : (g : QueryGraph) → Sound g.boxes g.root → (b c : Node) (us : List OwnedQuant) (rq : OwnedQuant) (vs : List OwnedQuant) → Merges g.boxes b c us rq vs → Keeps g (merged_in b c us rq vs g)
merge-keeps g w b c us rq vs m =
    let quants = us ++ (c.quants ++ vs) in
    let bs = map (merge_node b.id rq.id c quants) (boxes_without c.id g.boxes) in
    let n = merge-sound g.boxes g.root w b c us rq vs m in
    subst (λ (z : List Node). Keeps g (compact (record g { boxes = map (merge_node b.id rq.id c quants) z }))) (without-one c.id g.boxes w.ordered) (record {
      well = compact-sound bs g.root n;
      bag = λ tables filled. same-agree (compact-bag bs g.root n tables [] ∙ merge-bag tables g.boxes g.root w b c us rq vs m []);
      bases = λ tables filled. filled-kept tables (λ x. holds x (reached (g.root ∷ []) bs)) bs (filled-merge tables b.id rq.id c quants g.boxes filled);
      names = refl;
      order = refl;
    })
