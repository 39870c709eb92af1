-- What is inferred of boxes, as the code is told it.
use Rattle.std.proofs.Common.{ℕ, ◌≡◌, Bool, List, sym, ap, ap₂, ◌∙◌, inl, inr}
use Rattle.std.proofs.lemmas.Bool.{cases_Bool}
use mathlib.Core.Path.{fun_ext}
use Rattle.qgm_core.specs.declared.node.Node.{Node}
use Rattle.qgm_props.specs.Inferred.{Fact, Facts, at_most_one, clean, error_free, exactly_one, not_null, says}
use Rattle.qgm_props.specs.Laws.{Tells}
use Rattle.qgm_props.proofs.Settled.{all-told}
use Rattle.list_laws.proofs.Booleans.{clash}

unfoldable pub facts_in : List Node → Facts
facts_in bs = (all-told bs).0

pub tells-in : (bs : List Node) → Tells (facts_in bs) bs
unfolding facts_in
tells-in bs = (all-told bs).1

-- ---- facts that are told are these

same-said : (bs : List Node) (known : Facts) → Tells known bs → (f : Fact) → says known f ≡ says (facts_in bs) f
same-said bs known tells f = elim (cases_Bool (says (facts_in bs) f)) [
  | inl t ↦ (tells f).1 ((tells-in bs f).0 t) ∙ sym t
  | inr n ↦ elim (cases_Bool (says known f)) [
    | inr k ↦ k ∙ sym n
    | inl t ↦ absurd (clash (says (facts_in bs) f) ((tells-in bs f).1 ((tells f).0 t)) n)
  ]
]

pub facts-are : (bs : List Node) (known : Facts) → Tells known bs → known ≡ facts_in bs
facts-are bs known tells =
    let k : Facts = facts_in bs in
    let c : known.clean ≡ k.clean = fun_ext (λ b. same-said bs known tells (clean b)) in
    let e : known.error_free ≡ k.error_free = fun_ext (λ b. fun_ext (λ j. same-said bs known tells (error_free b j))) in
    let n : known.not_null ≡ k.not_null = fun_ext (λ b. fun_ext (λ j. same-said bs known tells (not_null b j))) in
    let o : known.at_most_one ≡ k.at_most_one = fun_ext (λ b. same-said bs known tells (at_most_one b)) in
    let x : known.exactly_one ≡ k.exactly_one = fun_ext (λ b. same-said bs known tells (exactly_one b)) in
    ap₂ (λ (c : ℕ → Bool) (e : ℕ → ℕ → Bool). record known { clean = c; error_free = e }) c e
    ∙ ap₂ (λ (n : ℕ → ℕ → Bool) (o : ℕ → Bool). record known { clean = k.clean; error_free = k.error_free; not_null = n; at_most_one = o }) n o
    ∙ ap (λ (x : ℕ → Bool). record k { exactly_one = x }) x
