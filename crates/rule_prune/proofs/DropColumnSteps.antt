-- What the code of N1 owes its steps.
use Rattle.std.proofs.Common.{ℕ, ◌≡◌, true, Some, None, refl, sym, ap, subst, ◌∙◌, eqb-true, arith}
use Rattle.std.proofs.lemmas.Bool.{eq-eqb}
use Rattle.qgm_core.specs.Boxes.{HasBox, HasQuant, QueryGraph, is_box, is_quant, numbers, owns}
use Rattle.qgm_core.specs.Edits.{compact, drop_column, drop_quant}
use Rattle.list_laws.specs.Lists.{EachOnce, In, first}
use Rattle.qgm_core.specs.declared.node.Node.{Node}
use Rattle.qgm_wellformed.specs.Sentences.{WellFormed}
use Rattle.qgm_wellformed.proofs.Faults.{finds-none}
use Rattle.qgm_edit_laws.specs.Graph.{Sound}
use Rattle.qgm_edit_laws.proofs.Column.{dropped-column}
use Rattle.qgm_edit_laws.proofs.Formed.{sound-checked}
use Rattle.qgm_edit_laws.proofs.Levels.{first-passes, some-in}
use Rattle.rule_prune.specs.Pruned.{MayCut}
use Rattle.rule_prune.specs.DropQuantifier.{others}
use Rattle.rule_prune.specs.DropColumn.{stays}
use Rattle.qgm_edit_laws.specs.DropQuants.{without_those}
use Rattle.rule_prune.specs.Unnamed.{dropped_all, unnamed}
use Rattle.rule_prune.proofs.UnnamedGo.{few, few-unnamed, in-unnamed, unnamed-gone, without-one}
use Rattle.list_laws.proofs.Membership.{any-from, any-in}
use Rattle.list_laws.proofs.Counting.{each-once}

pub box-found : (g : QueryGraph) (b : ℕ) → HasBox b g → first (is_box b) g.boxes ≡ None → ⊥
box-found g b h e =
    let x = any-in (is_box b) g.boxes h in
    let y = first-passes (is_box b) g.boxes x.0 x.1.0 x.1.1 in
    let z : None ≡ Some y.0 = sym e ∙ y.1.0 in let q : ⊥ = cc in q

module _ (g : QueryGraph) (u : EachOnce (numbers g.boxes)) (w : WellFormed g) (b k : ℕ) (m : MayCut g b k) (g1 : QueryGraph) (e : g1 ≡ drop_column b k g) (n : Node) (f : first (is_box b) g1.boxes ≡ Some n) where
  sound : Sound g1.boxes g1.root
  sound =
      let s : Sound g.boxes g.root = ((sound-checked g u).0 ((finds-none g u).1 w)).0 in
      let id : m.0.id ≡ b = eqb-true m.0.id b (some-in (is_box b) g.boxes m.0 m.1.0).1 in
      subst (λ (z : QueryGraph). Sound z.boxes z.root) (sym e) (subst (λ z. Sound (drop_column z k g).boxes g.root) id (dropped-column g.boxes g.root s m.0 k m.1.1 g refl))

  in-n : In n g1.boxes
  in-n = (some-in (is_box b) g1.boxes n f).0

  pub all-held : (q : ℕ) → In q (unnamed n n.quants) → HasQuant q g1
  all-held q i =
      let x = in-unnamed g1.boxes g1.root sound n in-n q n.quants i in
      any-from (owns q) n g1.boxes in-n (any-from (is_quant q) x.0 n.quants x.1.0 (eq-eqb x.0.id q x.1.1.0))

  pub all-once : EachOnce (unnamed n n.quants)
  all-once = each-once (unnamed n n.quants) (λ q. (let a = few-unnamed g1.boxes g1.root sound n in-n q n.quants in let c = few g1.boxes g1.root sound n in-n q in omega (arith, a, c)))

  -- it is the action
  pub pruned-is : compact (dropped_all (unnamed n n.quants) g1) ≡ without_those n (stays n) g1
  pruned-is = ap compact (unnamed-gone g1.boxes g1.root sound n in-n g1 refl)

-- N2's code does its action
pub quant-gone : (g : QueryGraph) → Sound g.boxes g.root → (b : Node) → In b g.boxes → (q : ℕ) → owns q b ≡ true → compact (drop_quant q g) ≡ without_those b (others q) g
quant-gone g s b i q own = ap compact (without-one g.boxes g.root s b i g refl q own)
