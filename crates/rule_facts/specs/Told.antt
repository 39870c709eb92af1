-- Facts as the code is told them, as booleans.
use Rattle.std.proofs.Common.{ℕ, ◌≡◌, Bool, true, false, List, refl, sym, ◌∙◌, inl, inr}
use Rattle.std.specs.Prelude.{◌↔◌}
use Rattle.std.proofs.lemmas.Bool.{cases_Bool}
use Rattle.qgm_core.specs.Boxes.{Ordered}
use Rattle.qgm_core.specs.declared.node.Node.{Node}
use Rattle.qgm_props.specs.Inferred.{Fact, Facts, Inferred, says}
use Rattle.qgm_props.specs.Laws.{KeyInferred, Tells}
use Rattle.qgm_props.proofs.InferredKeys.{tells-key}
use Rattle.qgm_props.proofs.Settled.{all-told}
use Rattle.qgm_props.specs.Keys.{holds_key}
use Rattle.list_laws.proofs.Booleans.{clash}

-- a fact is inferred, and some key among these columns
unfoldable pub infers : List Node → Fact → Bool
infers bs f = says (all-told bs).0 f

unfoldable pub infers_key : List Node → ℕ → List ℕ → Bool
infers_key bs b ks = holds_key (all-told bs).0.at_most_one bs b ks

-- ---- what is told is what is inferred

pub told : (bs : List Node) (f : Fact) → (infers bs f ≡ true) ↔ Inferred bs f
unfolding infers
told bs f = ((all-told bs).1 f)

pub untold : (bs : List Node) (f : Fact) → infers bs f ≡ false → Inferred bs f → ⊥
untold bs f n i = clash (infers bs f) ((told bs f).1 i) n

pub not-told : (bs : List Node) (f : Fact) → (Inferred bs f → ⊥) → infers bs f ≡ false
not-told bs f n = elim (cases_Bool (infers bs f)) [ inr h ↦ h | inl t ↦ absurd (n ((told bs f).0 t)) ]

pub told-key : (bs : List Node) → Ordered bs → (b : ℕ) (ks : List ℕ) → (infers_key bs b ks ≡ true) ↔ KeyInferred bs b ks
unfolding infers_key
told-key bs o b ks = tells-key (all-told bs).0 bs b ks (infers_key bs b ks) refl (all-told bs).1 o

-- what is told of facts of the code
pub told-is : (bs : List Node) (known : Facts) → Tells known bs → (f : Fact) → says known f ≡ infers bs f
told-is bs known tells f = elim (cases_Bool (infers bs f)) [
  | inl t ↦ (tells f).1 ((told bs f).0 t) ∙ sym t
  | inr n ↦ elim (cases_Bool (says known f)) [
    | inr k ↦ k ∙ sym n
    | inl t ↦ absurd (clash (infers bs f) ((told bs f).1 ((tells f).0 t)) n)
  ]
]
