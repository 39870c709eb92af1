-- The edits in place of U4 come to its action.
use Rattle.std.proofs.Common.{◌≡◌, ◌≤◌, true, false, List, [], ◌∷◌, ◌++◌, map, Some, refl, sym, ap, subst, ◌∙◌, eqb-true, inl, inr, arith}
use Rattle.std.specs.List.{list_any}
use Rattle.qgm_terms.specs.Conjuncts.{Conjuncts}
use Rattle.qgm_terms.specs.Terms.{Term}
use Rattle.qgm_core.specs.Boxes.{QueryGraph, ids_of, is_box, is_quant, owns}
use Rattle.qgm_core.specs.Edits.{on_box, on_quant, parted, put_box, put_quant, set_distinct, with_distinct}
use Rattle.list_laws.specs.Lists.{In, change, first, times}
use Rattle.qgm_core.specs.declared.kinds.Distinct.{Distinct}
use Rattle.qgm_core.specs.declared.kinds.BoxKind.{BoxKind}
use Rattle.qgm_core.specs.declared.kinds.QuantKind.TheVariants.{E}
use Rattle.qgm_core.specs.declared.kinds.Role.{Role}
use Rattle.qgm_core.specs.declared.node.Node.{Node}
use Rattle.qgm_core.specs.declared.owned.OwnedQuant.{OwnedQuant}
use Rattle.qgm_edit_laws.specs.Graph.{Sound}
use Rattle.qgm_edit_laws.proofs.Edits.{once-each, split-once}
use Rattle.qgm_edit_laws.proofs.OneBox.{change-at}
use Rattle.qgm_edit_laws.proofs.Scope.{in-first, one-owner}
use Rattle.qgm_edit_laws.proofs.OneBoxSteps.{Sole, as-is, at-one, by-number, by-owner, change-last}
use Rattle.list_laws.proofs.Membership.{any-from, any-not, eq-itself}
use Rattle.list_laws.proofs.Counting.{times-in}

module _ (g : QueryGraph) (w : Sound g.boxes g.root) (o : Node) (i : In o g.boxes) (l r : OwnedQuant) (split : o.quants ≡ l ∷ (r ∷ [])) where
  in-second : In r o.quants
  in-second = subst (λ z. In r z) (sym split) (inr (inl refl))

  own-second : owns r.id o ≡ true
  own-second = any-from (is_quant r.id) r o.quants in-second (eq-itself r.id)

  few-second : times r.id (map (λ (x : OwnedQuant). x.id) ((l ∷ []) ++ r ∷ [])) ≤ 1
  few-second = subst (λ z. times r.id (map (λ (x : OwnedQuant). x.id) z) ≤ 1) split (let a = times-in ids_of r.id o g.boxes i in let b = w.once r.id in omega arith)

  left-second : list_any (is_quant r.id) (l ∷ []) ≡ false
  left-second = any-not (is_quant r.id) (l ∷ []) (λ x j. split-once (λ (x : OwnedQuant). x.id) (l ∷ []) r [] few-second x (inl j))

  pub set-to-exists-edits : (d : Distinct) (kind : BoxKind) (role : Role) (conds : Conjuncts) (head : List Term) (k : Node → Node)
      → k o ≡ record o { parts = record o.parts { kind = kind; role = role; distinct = d; conds = conds; head = head }; quants = l ∷ (record r { kind = E } ∷ []) }
      → put_quant r.id E (set_distinct o.id d (put_box o.id kind role conds head g)) ≡ on_box o.id k g
  set-to-exists-edits d kind role conds head k e =
      ap (λ (z : List Node). record g { boxes = z }) (
      ap (change (owns r.id) (on_quant r.id (λ x. record x { kind = E }))) (
      ap (change (is_box o.id) (with_distinct d)) (ap (change (is_box o.id) (parted kind role conds head)) (sym (as-is o r.id g.boxes)) ∙ by-number o r.id (parted kind role conds head) (λ y. y) (λ y. refl) g.boxes one)
      ∙ by-number o r.id (with_distinct d) (parted kind role conds head) (λ y. refl) g.boxes one)
      ∙ by-owner o r.id (on_quant r.id (λ x. record x { kind = E })) (λ y. with_distinct d (parted kind role conds head y)) own-second g.boxes one
      ∙ at-one o r.id (λ y. on_quant r.id (λ x. record x { kind = E }) (with_distinct d (parted kind role conds head y))) k
      (ap (λ rs. record o { parts = record o.parts { kind = kind; role = role; distinct = d; conds = conds; head = head }; quants = rs }) (ap (change (is_quant r.id) (λ x. record x { kind = E })) split ∙ change-last r.id (λ x. record x { kind = E }) (l ∷ []) r left-second (eq-itself r.id)) ∙ sym e) g.boxes one
      ∙ sym (change-at o.id k g.boxes (once-each g.boxes w.ordered)))
    where
      one : Sole o r.id g.boxes
      one = record {
        once = once-each g.boxes w.ordered;
        number = λ y j t. let a : Some y ≡ Some o = sym (in-first y g.boxes w.ordered j) ∙ ap (λ z. first (is_box z) g.boxes) (eqb-true y.id o.id t) ∙ in-first o g.boxes w.ordered i in cc;
        owner = λ y j t. one-owner g.boxes g.root w r.id y o j i t own-second;
      }
