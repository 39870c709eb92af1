-- What is so of a conjunct that may leave a select.
use Rattle.std.proofs.Common.{ℕ, ◌≡◌, ◌≤◌, true, false, List, ◌∷◌, ◌++◌, None, refl, sym, ap, subst, ◌∙◌, inl}
use Rattle.std.specs.List.{list_all, list_any}
use Rattle.std.proofs.lemmas.Bool.{eq-eqb, or_parts, or_right}
use Rattle.qgm_core.specs.Boxes.{QueryGraph, is_quant, numbers, width}
use Rattle.list_laws.specs.Lists.{EachOnce, In}
use Rattle.qgm_core.specs.declared.node.Node.{Node}
use Rattle.qgm_core.specs.declared.owned.OwnedQuant.{OwnedQuant}
use Rattle.qgm_wellformed.specs.Types.{cond_fits, lookup_of}
use Rattle.qgm_wellformed.specs.WellFormed.{fault}
use Rattle.qgm_terms.specs.Terms.{Cond}
use Rattle.qgm_terms.specs.Wanted.{has_aggregate_cond, reads_at, reads_at_cond}
use Rattle.qgm_edit_laws.specs.Graph.{Sound}
use Rattle.qgm_edit_laws.specs.Shaped.{Shaped, Typed}
use Rattle.qgm_edit_laws.proofs.ConjunctForms.{old-conds, unfolded-was}
use Rattle.qgm_edit_laws.proofs.Formed.{sound-checked}
use Rattle.qgm_edit_laws.proofs.PlacedLists.{any-more}
use Rattle.qgm_edit_laws.proofs.CondTypes.{all-mid}
use Rattle.qgm_edit_laws.specs.ConjunctEdits.{MayDropConjunct}
use Rattle.qgm_edit_laws.specs.PushDown.{PushesFrom}
use Rattle.list_laws.proofs.Membership.{any-from, in-right}

module _ (g : QueryGraph) (u : EachOnce (numbers g.boxes)) (f : fault g ≡ None) (b : Node) (ps : List Cond) (p : Cond) (qs : List Cond) (us : List OwnedQuant) (r : OwnedQuant) (vs : List OwnedQuant) (m : PushesFrom g.boxes b ps p qs us r vs) where
  pub checked : Sound g.boxes g.root × Typed g.boxes × Shaped g.boxes g.root
  checked = (sound-checked g u).0 f

  pub in-p : In p b.parts.conds.items
  in-p = subst (λ z. In p z) (sym m.conds) (in-right p ps (p ∷ qs) (inl refl))

  pub in-r : In r b.quants
  in-r = subst (λ z. In r z) (sym m.split) (in-right r us (r ∷ vs) (inl refl))

  pub p-fits : cond_fits (lookup_of g.boxes) p ≡ true
  p-fits = all-mid (cond_fits (lookup_of g.boxes)) ps p qs (ap (list_all (cond_fits (lookup_of g.boxes))) (sym m.conds) ∙ old-conds g.boxes g.root checked.0 checked.1 checked.2 b m.in_b)

  pub p-folded : has_aggregate_cond p ≡ false
  p-folded = (or_parts (has_aggregate_cond p) (list_any has_aggregate_cond (ps ++ qs)) (sym (any-more has_aggregate_cond ps p qs) ∙ ap (list_any has_aggregate_cond) (sym m.conds) ∙ (unfolded-was g.boxes g.root checked.0 checked.1 checked.2 b m.in_b m.select_b b.parts.conds.items 0).1)).0

  -- a column that it reads is one of the box under the quantifier
  pub p-column : (c : Node) → In c g.boxes → c.id ≡ r.over → (k : ℕ) → reads_at_cond r.id k p ≡ true → (1 ≤ k) × (k ≤ width c)
  p-column c i e k h = checked.0.fits b m.in_b r.id k (or_right (list_any (reads_at r.id k) b.parts.head) (list_any (reads_at_cond r.id k) b.parts.conds.items) (any-from (reads_at_cond r.id k) p b.parts.conds.items in-p h)) b r c m.in_b in-r refl i e

  -- after boxes below got conjuncts, b may lose it
  pub lose : (h : QueryGraph) → In b h.boxes → MayDropConjunct h b ps p qs
  lose h i = record { within = i; select = m.select_b; conds = m.conds; own = λ q t. any-from (is_quant q) r b.quants in-r (eq-eqb r.id q (sym (m.own q t))) }
