-- A rule is enabled exactly where it is of an enabled class.
use Rattle.std.proofs.Common.{◌≡◌, ◌||◌, true, false, cond, List, [], ◌∷◌, ◌++◌, refl, sym, ◌∙◌, ap, Some, ◌⊎◌, inl, inr, subst, eqb-true}
use Rattle.std.specs.List.{flat_map, list_any}
use Rattle.std.specs.Prelude.{◌↔◌, slice_get}
use Rattle.list_laws.specs.Lists.{In}
use Rattle.rule_plan.specs.declared.classes.Class.{Class}
use Rattle.rule_api.specs.declared.rule_id.RuleId.{RuleId}
use Rattle.rule_api.specs.declared.rule_id.RuleId.TheVariants.{M1, M2, U1, U2, U3, U4, L1, L2, L3, P1, P2, P3, P4, J1, J2, N1, N2, G1, G2, G3, G4, G5}
use Rattle.rule_engine.specs.Control.{all_new, enabled, with_new}
use Rattle.rule_api.specs.RuleIds.{all_rules, is_rule, rank_of}
use Rattle.rule_engine.specs.Control.{rules_of}
use Rattle.rule_engine.proofs.Chosen.{in-flat_map, to-flat_map}
use Rattle.list_laws.proofs.Membership.{in-append, in-left, in-right}

-- ---- no two rules have one rank

at-rank : (r : RuleId) → slice_get all_rules (rank_of r) ≡ Some r
at-rank M1 = refl
at-rank M2 = refl
at-rank U1 = refl
at-rank U2 = refl
at-rank U3 = refl
at-rank U4 = refl
at-rank L1 = refl
at-rank L2 = refl
at-rank L3 = refl
at-rank P1 = refl
at-rank P2 = refl
at-rank P3 = refl
at-rank P4 = refl
at-rank J1 = refl
at-rank J2 = refl
at-rank N1 = refl
at-rank N2 = refl
at-rank G1 = refl
at-rank G2 = refl
at-rank G3 = refl
at-rank G4 = refl
at-rank G5 = refl

same-rule : (r s : RuleId) → is_rule r s ≡ true → s ≡ r
same-rule r s e =
    let k : Some s ≡ Some r = sym (at-rank s) ∙ ap (slice_get all_rules) (eqb-true (rank_of s) (rank_of r) e) ∙ at-rank r in
    let q : s ≡ r = cc in q

any-in : (r : RuleId) (out : List RuleId) → list_any (is_rule r) out ≡ true → In r out
any-in r [] = λ e. absurd (let q : ⊥ = cc in q)
any-in r (s ∷ out) =
    elim (is_rule r s) as (λ b. is_rule r s ≡ b → (b || list_any (is_rule r) out) ≡ true → (s ≡ r) ⊎ In r out) [ true ↦ λ k e. inl (same-rule r s k) | false ↦ λ k e. inr (any-in r out e) ] refl

-- ---- what is added

with-from : (r s : RuleId) (out : List RuleId) → In r (with_new out s) → In r out ⊎ (s ≡ r)
with-from r s out =
    elim (list_any (is_rule s) out) as (λ b. In r (cond b out (out ++ s ∷ [])) → In r out ⊎ (s ≡ r)) [
      | true ↦ λ i. inl i
      | false ↦ λ i. elim (in-append r out (s ∷ []) i) [ inl j ↦ inl j | inr j ↦ elim j [ inl e ↦ inr e | inr k ↦ elim k [ ] ] ]
    ]

with-to : (r s : RuleId) (out : List RuleId) → In r out → In r (with_new out s)
with-to r s out =
    elim (list_any (is_rule s) out) as (λ b. In r out → In r (cond b out (out ++ s ∷ []))) [ true ↦ λ i. i | false ↦ λ i. in-left r out (s ∷ []) i ]

with-itself : (s : RuleId) (out : List RuleId) → In s (with_new out s)
with-itself s out =
    elim (list_any (is_rule s) out) as (λ b. list_any (is_rule s) out ≡ b → In s (cond b out (out ++ s ∷ []))) [ true ↦ λ e. any-in s out e | false ↦ λ e. in-right s out (s ∷ []) (inl refl) ] refl

all-from : (r : RuleId) (out rs : List RuleId) → In r (all_new out rs) → In r out ⊎ In r rs
all-from r out [] i = inl i
all-from r out (s ∷ rs) i =
    elim (all-from r (with_new out s) rs i) [
      | inl j ↦ elim (with-from r s out j) [ inl k ↦ inl k | inr e ↦ inr (inl e) ]
      | inr j ↦ inr (inr j)
    ]

all-kept : (r : RuleId) (out rs : List RuleId) → In r out → In r (all_new out rs)
all-kept r out [] i = i
all-kept r out (s ∷ rs) i = all-kept r (with_new out s) rs (with-to r s out i)

all-to : (r : RuleId) (out rs : List RuleId) → In r rs → In r (all_new out rs)
all-to r out [] i = elim i [ ]
all-to r out (s ∷ rs) (inl e) = all-kept r (with_new out s) rs (subst (λ z. In z (with_new out s)) e (with-itself s out))
all-to r out (s ∷ rs) (inr i) = all-to r (with_new out s) rs i

enabled-to : (cs : List Class) (r : RuleId) → In r (enabled cs) → (c : Class) × (In c cs × In r (rules_of c))
enabled-to cs r i = elim (all-from r [] (flat_map rules_of cs) i) [ inl j ↦ elim j [ ] | inr j ↦ in-flat_map rules_of cs r j ]

pub enabled-exact : (cs : List Class) (r : RuleId) → In r (enabled cs) ↔ ((c : Class) × (In c cs × In r (rules_of c)))
enabled-exact cs r = (enabled-to cs r, λ h. all-to r [] (flat_map rules_of cs) (to-flat_map rules_of cs h.0 r h.1.0 h.1.1))

-- ---- the pass

pub all-new-append : (out rs ss : List RuleId) → all_new out (rs ++ ss) ≡ all_new (all_new out rs) ss
all-new-append out [] ss = refl
all-new-append out (r ∷ rs) ss = all-new-append (with_new out r) rs ss
