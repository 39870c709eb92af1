-- The edits in place of U1 come to its action.
use Rattle.std.proofs.Common.{◌≡◌, List, [], ◌∷◌, ◌++◌, length, refl, sym, ap, ◌∙◌}
use Rattle.qgm_terms.specs.Conjuncts.{Conjuncts}
use Rattle.qgm_terms.specs.Terms.{Term}
use Rattle.qgm_core.specs.Boxes.{QueryGraph}
use Rattle.qgm_core.specs.Edits.{move_quant, on_box, put_quant, put_terms, set_distinct, with_distinct, with_terms}
use Rattle.list_laws.specs.Lists.{In}
use Rattle.qgm_core.specs.declared.kinds.Distinct.{Distinct}
use Rattle.qgm_core.specs.declared.kinds.QuantKind.TheVariants.{F}
use Rattle.qgm_core.specs.declared.node.Node.{Node}
use Rattle.qgm_core.specs.declared.owned.OwnedQuant.{OwnedQuant}
use Rattle.qgm_meaning.specs.Rules.{as_F}
use Rattle.qgm_edit_laws.specs.Graph.{Sound}
use Rattle.qgm_edit_laws.proofs.Edits.{once-each}
use Rattle.qgm_edit_laws.proofs.OneBox.{change-at}
use Rattle.qgm_edit_laws.proofs.OneBoxSteps.{at-one, by-number}
use Rattle.rule_subquery.proofs.LastAsF.{moved, quants-moved, sole, turned}

module _ (g : QueryGraph) (w : Sound g.boxes g.root) (o : Node) (i : In o g.boxes) (us : List OwnedQuant) (r : OwnedQuant) (vs : List OwnedQuant) (split : o.quants ≡ us ++ r ∷ vs) where
  pub exists-to-join-edits : (d : Distinct) (conds : Conjuncts) (head : List Term) (k : Node → Node) → k o ≡ record o { parts = record o.parts { distinct = d; conds = conds; head = head }; quants = (us ++ vs) ++ as_F r.id r.over ∷ [] }
      → set_distinct o.id d (put_terms o.id conds head (put_quant r.id F (move_quant r.id o.id (length (us ++ vs)) g))) ≡ on_box o.id k g
  exists-to-join-edits d conds head k e =
      ap (λ z. set_distinct o.id d (put_terms o.id conds head z)) (turned g w o i us r vs split)
      ∙ ap (set_distinct o.id d) (ap (λ (z : List Node). record g { boxes = z }) (by-number o r.id (with_terms conds head) (moved g w o i us r vs split) (λ y. refl) g.boxes (sole g w o i us r vs split)))
      ∙ ap (λ (z : List Node). record g { boxes = z }) (by-number o r.id (with_distinct d) (λ y. with_terms conds head (moved g w o i us r vs split y)) (λ y. refl) g.boxes (sole g w o i us r vs split)
      ∙ at-one o r.id (λ y. with_distinct d (with_terms conds head (moved g w o i us r vs split y))) k (ap (λ rs. record o { parts = record o.parts { distinct = d; conds = conds; head = head }; quants = rs }) (quants-moved g w o i us r vs split) ∙ sym e) g.boxes (sole g w o i us r vs split)
      ∙ sym (change-at o.id k g.boxes (once-each g.boxes w.ordered)))
