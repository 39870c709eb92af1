-- M1, M2 and dropping boxes that are not reached keep what rules keep.
use Rattle.std.proofs.Common.{◌≡◌, [], ◌∷◌, refl, ◌∙◌}
use Rattle.row_bag.specs.Bags.{Agree, keep}
use Rattle.row_bag.specs.Sets.{same_cells}
use Rattle.row_bag.proofs.Agreement.{alike-same}
use Rattle.row_bag.proofs.BagLaws.{agreement-laws}
use Rattle.row_bag.proofs.TupleBags.{same_cells-decides}
use Rattle.row_bag.proofs.Counts.{agree-from_alike}
use Rattle.qgm_core.specs.Boxes.{QueryGraph}
use Rattle.list_laws.specs.Lists.{holds}
use Rattle.qgm_meaning.specs.Meaning.{root_bag}
use Rattle.qgm_meaning.specs.Values.{Bag}
use Rattle.qgm_edit_laws.specs.Graph.{Sound}
use Rattle.qgm_edit_laws.specs.Keeps.{Keeps}
use Rattle.qgm_edit_laws.specs.Laws.{KeepsChained}
use Rattle.qgm_edit_laws.proofs.Compact.{compact-bag, compact-sound}
use Rattle.qgm_core.specs.Edits.{compact}
use Rattle.qgm_core.specs.Free.{reached}
use Rattle.qgm_edit_laws.proofs.Widths.{filled-kept}

pub same-agree : {xs ys : Bag} → xs ≡ ys → Agree same_cells xs ys
same-agree e = agree-from_alike same_cells (alike-same e)

-- boxes that the root doesn't reach
pub compact-keeps : (g : QueryGraph) → Sound g.boxes g.root → Keeps g (compact g)
compact-keeps g w = record {
  well = compact-sound g.boxes g.root w;
  bag = λ tables filled. same-agree (compact-bag g.boxes g.root w tables []);
  bases = λ tables filled. filled-kept tables (λ x. holds x (reached (g.root ∷ []) g.boxes)) g.boxes filled;
  names = refl;
  order = refl;
}

-- no step, and one after another
pub keeps-chained : KeepsChained
keeps-chained =
    let laws = agreement-laws same_cells same_cells-decides in record {
      itself = λ g w. record {
        well = w;
        bag = λ tables filled. laws.itself (root_bag tables g);
        bases = λ tables filled. filled;
        names = refl;
        order = refl;
      };
      chained = λ f g h k l. record {
        well = l.well;
        bag = λ tables filled. laws.chained (root_bag tables h) (root_bag tables g) (root_bag tables f) (l.bag tables (k.bases tables filled)) (k.bag tables filled);
        bases = λ tables filled. l.bases tables (k.bases tables filled);
        names = l.names ∙ k.names;
        order = l.order ∙ k.order;
      };
    }
