-- Under a tag no error is among the operands of a set operation that would collapse for it.
use Rattle.std.proofs.Common.{ℕ, ◌==◌, ◌≡◌, cond, true, false, List, [], ◌∷◌, ◌++◌, length, Some, None, sym, ap, ap₂, subst, ◌∙◌}
use Rattle.row_bag.specs.AsSets.{stands}
use Rattle.row_bag.specs.Errors.{error_among, error_in}
use Rattle.row_bag.specs.Sets.{same_cells}
use Rattle.row_bag.specs.declared.tables.Table.{Table}
use Rattle.sql_value.specs.declared.cell.Cell.{Cell}
use Rattle.sql_value.specs.declared.order_key.SqlType.{SqlType}
use Rattle.qgm_core.specs.Boxes.{QueryGraph, is_quant, numbers}
use Rattle.list_laws.specs.Lists.{EachOnce, first}
use Rattle.qgm_core.specs.declared.kinds.BoxKind.TheVariants.{SetOp}
use Rattle.qgm_core.specs.declared.kinds.SetOperator.{SetOperator}
use Rattle.qgm_core.specs.declared.kinds.SetOperator.TheVariants.{UnionAll, Union, IntersectAll, Intersect, ExceptAll, Except}
use Rattle.qgm_core.specs.declared.node.Node.{Node}
use Rattle.qgm_core.specs.declared.owned.OwnedQuant.{OwnedQuant}
use Rattle.qgm_wellformed.specs.Sentences.{WellFormed}
use Rattle.qgm_meaning.specs.Meaning.{bag_in, combined, of_two, quant_rows, rows_by, rows_found}
use Rattle.qgm_meaning.specs.Satisfies.{Satisfies}
use Rattle.qgm_meaning.specs.Values.{Bag, Environment, bound}
use Rattle.qgm_meaning.proofs.Unfold.{unfold-bag}
use Rattle.qgm_props.specs.Facts.{IsClean}
use Rattle.qgm_props.specs.Inferred.{Facts, clean_by}
use Rattle.qgm_props.specs.Laws.{Tells}
use Rattle.rule_magic.specs.AbsorbSetOperation.{SetsGiven}
use Rattle.rule_magic.specs.Places.{AbsorbsBy, MayAbsorb, SetsReady}
use Rattle.rule_magic.specs.UnderTags.{NoneAmong}
use Rattle.rule_magic.proofs.AbsorbFacts as fed
use Rattle.rule_magic.proofs.AbsorbFacts.{error-unclean}
use Rattle.rule_magic.proofs.AbsorbBags.{first-of}
use Rattle.list_laws.proofs.Membership.{eq-itself}

module _ (g : QueryGraph) (once : EachOnce (numbers g.boxes)) (wf : WellFormed g) (known : Facts) (tells : Tells known g.boxes) (d : Node) (may : MayAbsorb g.boxes known d) (tables : List Table) (s : Satisfies tables g.boxes)
    (types : List SqlType) (l r : OwnedQuant) (two : may.c.quants ≡ l ∷ (r ∷ [])) (apart : (l.id == r.id) ≡ false) (x y : Node) (over_x : l.over ≡ x.id) (over_y : r.over ≡ y.id) where
  abbrev c : Node
  c = may.c

  abbrev under : ℕ → Environment → List Cell → Bag
  under b e u = bag_in tables g.boxes b (bound may.a.id u e)

  is-op : (form : SetOperator) → may.c.parts.kind ≡ SetOp form types → (e : Environment) (u : List Cell) → under c.id e u ≡ combined form (length types) (under x.id e u) (under y.id e u)
  is-op form kind e u =
      unfold-bag tables g.boxes c.id c (bound may.a.id u e) (fed.fine g once wf known tells d may).0.ordered (first-of g.boxes c (fed.fine g once wf known tells d may).0.ordered may.in_c)
      ∙ ap (λ k. rows_by k tables c (quant_rows c (bag_in tables g.boxes)) (bound may.a.id u e)) kind
      ∙ ap (λ (rs : List OwnedQuant). of_two rs (λ p q. combined form (length types) (rows_found (first (is_quant p) rs) (bag_in tables g.boxes) (bound may.a.id u e)) (rows_found (first (is_quant q) rs) (bag_in tables g.boxes) (bound may.a.id u e)))) two
      ∙ ap₂ (λ i j. combined form (length types) (rows_found (cond i (Some l) (cond (r.id == l.id) (Some r) None)) (bag_in tables g.boxes) (bound may.a.id u e)) (rows_found (cond j (Some l) (cond (r.id == r.id) (Some r) None)) (bag_in tables g.boxes) (bound may.a.id u e))) (eq-itself l.id) apart
      ∙ ap (λ j. combined form (length types) (under l.over e u) (rows_found (cond j (Some r) None) (bag_in tables g.boxes) (bound may.a.id u e))) (eq-itself r.id)
      ∙ ap₂ (λ i j. combined form (length types) (under i e u) (under j e u)) over_x over_y

  clean-op : clean_by g.boxes known may.c.parts.kind may.c ≡ true → (e : Environment) (u : List Cell) → stands same_cells u (bag_in tables g.boxes may.m.id e) ≡ true → IsClean (under c.id e u)
  clean-op h e u z = fed.clean-under-tag g once wf known tells d may tables s c may.in_c (fed.said-clean g once wf known tells d may tables s c may.in_c h) (fed.open-c g once wf known tells d may).1 e u z

  -- so the conditions of G4 suffice
  pub sets-sound : (form : SetOperator) → may.c.parts.kind ≡ SetOp form types → (e : Environment) (u : List Cell) → stands same_cells u (bag_in tables g.boxes may.m.id e) ≡ true → NoneAmong form (under x.id e u) (under y.id e u)
  sets-sound form kind e u z = by form kind (subst (λ k. AbsorbsBy g.boxes known k c) kind may.absorbs).0
    where
      said : (form : SetOperator) (kind : may.c.parts.kind ≡ SetOp form types) → clean_by g.boxes known (SetOp form types) c ≡ true → clean_by g.boxes known may.c.parts.kind may.c ≡ true
      said form kind h = subst (λ k. clean_by g.boxes known k c ≡ true) (sym kind) h

      by : (form : SetOperator) → may.c.parts.kind ≡ SetOp form types → SetsReady g.boxes known form (length types) c.quants → NoneAmong form (under x.id e u) (under y.id e u)
      by UnionAll kind h = tt
      by Union kind h = tt
      by IntersectAll kind h = error-unclean (length types) (error_among error_in (under x.id e u ++ under y.id e u)) _ (subst IsClean (is-op IntersectAll kind e u) (clean-op (said IntersectAll kind h) e u z))
      by Intersect kind h = error-unclean (length types) (error_among error_in (under x.id e u ++ under y.id e u)) _ (subst IsClean (is-op Intersect kind e u) (clean-op (said Intersect kind h) e u z))
      by ExceptAll kind h = error-unclean (length types) (error_among error_in (under x.id e u ++ under y.id e u)) _ (subst IsClean (is-op ExceptAll kind e u) (clean-op (said ExceptAll kind h) e u z))
      by Except kind h = error-unclean (length types) (error_among error_in (under x.id e u ++ under y.id e u)) _ (subst IsClean (is-op Except kind e u) (clean-op (said Except kind h) e u z))

pub sets-given : SetsGiven
sets-given = λ g once wf known tells d may tables s form types l r kind two apart x y ox oy e u z. sets-sound g once wf known tells d may tables s types l r two apart x y ox oy form kind e u z
