-- The sample is settled.
use Rattle.std.proofs.Common.{◌≡◌, ◌&&◌, true, false, refl, subst, inl, inr}
use Rattle.std.proofs.lemmas.Bool.{and_from}
use Rattle.list_laws.specs.Lists.{In}
use Rattle.qgm_core.specs.Kinds.{is_S}
use Rattle.qgm_core.specs.declared.node.Node.{Node}
use Rattle.qgm_core.specs.declared.owned.OwnedQuant.{OwnedQuant}
use Rattle.qgm_props.specs.Inferred.{Closed, Facts, clean, error_free}
use Rattle.qgm_props.proofs.Settled.{all-told}
use Rattle.rule_calm.specs.Settled.{IsFirm, SettledBox}
use Rattle.rule_calm.specs.SettledSample.{SettledSample, sample}
use Rattle.rule_calm.proofs.Framed.{told-closed}

abbrev known : Facts
known = (all-told sample.boxes).0

closed : Closed sample.boxes known
closed = told-closed sample.boxes known (all-told sample.boxes).1

clean-2 : known.clean 2 ≡ true
clean-2 = closed (clean 2) refl

free-2 : known.error_free 2 2 ≡ true
free-2 = closed (error_free 2 2) refl

clean-3 : known.clean 3 ≡ true
clean-3 = closed (clean 3) (and_from (known.clean 2 && true) ((known.error_free 2 2 && known.error_free 2 2) && true) (and_from (known.clean 2) true clean-2 refl) (and_from (known.error_free 2 2 && known.error_free 2 2) true (and_from (known.error_free 2 2) (known.error_free 2 2) free-2 free-2) refl))

no-scalar : (r : OwnedQuant) → is_S r.kind ≡ true → is_S r.kind ≡ false → IsFirm sample.boxes r.over
no-scalar r h k = absurd (let z : ⊥ = cc in z)

each : (n : Node) → In n sample.boxes → SettledBox sample.boxes known 1 n
each n (inl e) = subst (SettledBox sample.boxes known 1) e (record { calm = refl; no_single = refl; scalars = λ r j k. elim j [ inl y ↦ no-scalar r k (subst (λ (z : OwnedQuant). is_S z.kind ≡ false) y refl) | inr j ↦ elim j [ inl y ↦ no-scalar r k (subst (λ (z : OwnedQuant). is_S z.kind ≡ false) y refl) | inr n ↦ elim n [ ] ] ] })
each n (inr (inl e)) = subst (SettledBox sample.boxes known 1) e (record {
  calm = and_from (known.clean 3 && (known.error_free 2 2 && (known.error_free 2 2 && true))) true (and_from (known.clean 3) (known.error_free 2 2 && (known.error_free 2 2 && true)) clean-3 (and_from (known.error_free 2 2) (known.error_free 2 2 && true) free-2 (and_from (known.error_free 2 2) true free-2 refl))) refl;
  no_single = refl;
  scalars = λ r j k. elim j [ inl y ↦ no-scalar r k (subst (λ (z : OwnedQuant). is_S z.kind ≡ false) y refl) | inr n ↦ elim n [ ] ];
})
each n (inr (inr (inl e))) = subst (SettledBox sample.boxes known 1) e (record { calm = and_from (known.clean 2 && true) true (and_from (known.clean 2) true clean-2 refl) refl; no_single = refl; scalars = λ r j k. elim j [ ] })
each n (inr (inr (inr i))) = elim i [ ]

pub settled-sample : SettledSample
settled-sample = record { faultless = refl; settled = record { known = known; tells = (all-told sample.boxes).1; each = each }; open_box = refl }
