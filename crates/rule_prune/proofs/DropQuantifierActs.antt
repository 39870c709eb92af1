-- N2: what is found at a place, and what its steps do.
use Rattle.std.proofs.Common.{ℕ, ◌≡◌, ◌-◌, ◌&&◌, not, map, true, false, List, [], ◌∷◌, ◌++◌, length, None, Some, slice_get, refl, sym, ap, ap₂, subst, ◌∙◌, arith}
use Rattle.qgm_core.specs.Boxes.{HasQuant, QueryGraph, box_of, is_box, is_quant, numbers, owns, quants_in, quants_of}
use Rattle.qgm_core.specs.Edits.{compact, drop_quant}
use Rattle.qgm_core.specs.Free.{reached}
use Rattle.qgm_core.specs.Kinds.{is_fed}
use Rattle.list_laws.specs.Lists.{EachOnce, In, holds}
use Rattle.qgm_core.specs.declared.node.Node.{Node}
use Rattle.qgm_core.specs.declared.owned.OwnedQuant.{OwnedQuant}
use Rattle.qgm_wellformed.specs.Sentences.{WellFormed}
use Rattle.qgm_wellformed.proofs.Faults.{finds-none}
use Rattle.qgm_edit_laws.specs.DropQuants.{with_those, without_those}
use Rattle.qgm_edit_laws.specs.Graph.{Sound}
use Rattle.qgm_edit_laws.proofs.Compact.{in-kept}
use Rattle.qgm_edit_laws.proofs.Formed.{sound-checked}
use Rattle.qgm_edit_laws.proofs.Levels.{some-in}
use Rattle.qgm_edit_laws.proofs.OneBox.{at}
use Rattle.qgm_edit_laws.proofs.PartForms.{at-all}
use Rattle.rule_api.specs.Picks.{picks}
use Rattle.rule_api.specs.Rules.{Preserves}
use Rattle.rule_api.specs.declared.place.Place.{Place}
use Rattle.rule_facts.proofs.FedClosed.{unfed-open}
use Rattle.rule_facts.proofs.Picked.{none-picked}
use Rattle.rule_facts.specs.FedClosed.{any_fed, any_fed_closed}
use Rattle.rule_facts.specs.Places.{in_owner}
use Rattle.rule_prune.specs.DropQuantifier.{DropsQuantifier, GoesAt, MayDropQuantifier, is_one_row, is_read, may_drop_quantifier, may_have, others}
use Rattle.rule_prune.proofs.DropColumnSteps.{quant-gone}
use Rattle.rule_prune.proofs.Preserving.{drop-quantifier-preserves}
use Rattle.list_laws.proofs.Indexed.{get-in}
use Rattle.list_laws.proofs.Membership.{any-from, any-none, eq-itself, in-map}

-- ---- where none passes

pub none_found : (g : QueryGraph) (b : ℕ) (n : Node) → box_of b g ≡ Some n → may_have n ≡ false → picks (in_owner (may_drop_quantifier g) (box_of b g)) 1 (quants_of b g) ≡ []
none_found g b n e h =
    ap (λ z. picks (in_owner (may_drop_quantifier g) z) 1 (quants_in z)) e
    ∙ none-picked (may_drop_quantifier g n) 1 n.quants (λ r i. ap (λ z. z && (is_one_row g.boxes r && (not (is_read g.boxes n r.id) && not (any_fed_closed (without_those n (others r.id) g))))) h)

-- ---- a quantifier of a box

pub own-quant : (n : Node) (r : OwnedQuant) → In r n.quants → owns r.id n ≡ true
own-quant n r i = any-from (is_quant r.id) r n.quants i (eq-itself r.id)

pub found-in : (g : QueryGraph) (b : ℕ) (n : Node) → box_of b g ≡ Some n → In n g.boxes
found-in g b n e = (some-in (is_box b) g.boxes n e).0

pub held : (g : QueryGraph) (n : Node) (q : ℕ) → In n g.boxes → owns q n ≡ true → HasQuant q g
held g n q i o = any-from (owns q) n g.boxes i o

sound : (g : QueryGraph) → EachOnce (numbers g.boxes) → WellFormed g → Sound g.boxes g.root
sound g u w = ((sound-checked g u).0 ((finds-none g u).1 w)).0

-- its steps
pub gone : (g : QueryGraph) → EachOnce (numbers g.boxes) → WellFormed g → (n : Node) (q : ℕ) → In n g.boxes → owns q n ≡ true → compact (drop_quant q g) ≡ without_those n (others q) g
gone g u w n q i o = quant-gone g (sound g u w) n i q o

-- where no box is fed, none is after it
abbrev changed : Node → ℕ → QueryGraph → List Node
changed n q g = map (at n.id (with_those (others q))) g.boxes

pub unfed_gone : (g : QueryGraph) (n : Node) (q : ℕ) → any_fed g.boxes ≡ false → any_fed_closed (without_those n (others q) g) ≡ false
unfed_gone g n q none = unfed-open (without_those n (others q) g) (λ m i.
    let x = in-map (at n.id (with_those (others q))) m g.boxes (in-kept (λ k. holds k (reached (g.root ∷ []) (changed n q g))) m (changed n q g) i).0 in
    ap (λ (z : Node). is_fed z.parts.role) (sym x.1.1) ∙ ap is_fed (at-all n.id (with_those (others q)) (λ z. z.parts.role) (λ z. refl) x.0) ∙ any-none (λ (z : Node). is_fed z.parts.role) x.0 g.boxes none x.1.0)

-- ---- at a place

module _ (p : Place) (g : QueryGraph) (m : MayDropQuantifier p g) where
  pub no-box : box_of p.at g ≡ None → ⊥
  no-box e = let x : None ≡ Some m.b = sym e ∙ m.found in let z : ⊥ = cc in z

  pub box-is : (y : Node) → box_of p.at g ≡ Some y → y ≡ m.b
  box-is y e = let x : Some y ≡ Some m.b = sym e ∙ m.found in cc

  pub get-here : slice_get m.b.quants (p.i - 1) ≡ Some m.r
  get-here = let e : p.i - 1 ≡ length m.us = (let d = m.nth in omega (arith, d)) in ap₂ slice_get m.unread.split e ∙ mid m.us m.r m.vs
    where
      mid : (us : List OwnedQuant) (r : OwnedQuant) (vs : List OwnedQuant) → slice_get (us ++ r ∷ vs) (length us) ≡ Some r
      mid [] r vs = refl
      mid (u ∷ us) r vs = mid us r vs

  in-r : In m.r m.b.quants
  in-r = get-in (p.i - 1) m.b.quants m.r get-here

  module _ (q : ℕ) (is : GoesAt p g q) where
    own : owns q m.b ≡ true
    own = subst (λ z. owns z m.b ≡ true) (sym (is m)) (own-quant m.b m.r in-r)

    pub quant-there : HasQuant q g
    quant-there = held g m.b q m.unread.within own

    module _ (u : EachOnce (numbers g.boxes)) (w : WellFormed g) where
      pub acts : (h : QueryGraph) → h ≡ compact (drop_quant q g) → DropsQuantifier p g h
      acts h e = record { may = m; after = e ∙ gone g u w m.b q m.unread.within own ∙ ap (λ z. without_those m.b (others z) g) (is m) }

      pub preserves : (h : QueryGraph) → h ≡ compact (drop_quant q g) → Preserves g h
      preserves h e = drop-quantifier-preserves g h u w p (acts h e)
