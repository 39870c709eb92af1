-- The test of fed boxes over closed ones says what it is for.
use Rattle.std.proofs.Common.{◌&&◌, ◌≡◌, true, false, List, [], ◌∷◌, refl, sym, ap, ◌∙◌, inl, inr}
use Rattle.std.proofs.lemmas.Bool.{and_parts, cases_Bool}
use Rattle.qgm_wellformed.specs.WellFormed.{is_empty}
use Rattle.qgm_core.specs.Boxes.{QueryGraph}
use Rattle.qgm_core.specs.Free.{free_in}
use Rattle.qgm_core.specs.Kinds.{is_fed}
use Rattle.list_laws.specs.Lists.{In}
use Rattle.qgm_core.specs.declared.node.Node.{Node}
use Rattle.qgm_core.specs.declared.owned.OwnedQuant.{OwnedQuant}
use Rattle.qgm_edit_laws.specs.FedOpen.{FedOpen}
use Rattle.rule_facts.specs.FedClosed.{any_fed_closed, fed_closed, second_closed}
use Rattle.list_laws.proofs.Booleans.{and-passed, clash}
use Rattle.list_laws.proofs.Membership.{any-none, any-not}

second-is : (bs : List Node) (rs : List OwnedQuant) → second_closed bs rs ≡ true → (a : OwnedQuant) × ((d : OwnedQuant) × ((rs ≡ a ∷ (d ∷ [])) × (is_empty (free_in bs d.over) ≡ true)))
second-is bs [] h = absurd (let z : ⊥ = cc in z)
second-is bs (a ∷ []) h = absurd (let z : ⊥ = cc in z)
second-is bs (a ∷ (d ∷ [])) h = (a, (d, (refl, h)))
second-is bs (a ∷ (d ∷ (e ∷ rs))) h = absurd (let z : ⊥ = cc in z)

pub fed-from : (h : QueryGraph) → any_fed_closed h ≡ false → FedOpen h.boxes
fed-from h f n i fed a d e = ap (second_closed h.boxes) (sym e) ∙ and-passed (is_fed n.parts.role) (second_closed h.boxes n.quants) (any-none (fed_closed h.boxes) n h.boxes f i) fed

pub fed-to : (h : QueryGraph) → FedOpen h.boxes → any_fed_closed h ≡ false
fed-to h f = any-not (fed_closed h.boxes) h.boxes (λ n i. elim (cases_Bool (fed_closed h.boxes n)) [
  | inr k ↦ k
  | inl t ↦ absurd (
      let a = and_parts (is_fed n.parts.role) (second_closed h.boxes n.quants) t in
      let s = second-is h.boxes n.quants a.1 in
      clash (is_empty (free_in h.boxes s.1.0.over)) s.1.1.1 (f n i a.0 s.0 s.1.0 s.1.1.0))
])

-- where no box is fed
pub unfed-open : (h : QueryGraph) → ((n : Node) → In n h.boxes → is_fed n.parts.role ≡ false) → any_fed_closed h ≡ false
unfed-open h f = any-not (fed_closed h.boxes) h.boxes (λ n i. ap (λ z. z && second_closed h.boxes n.quants) (f n i))
