-- The conjuncts of an AND are those of its operands, and an OR of two or more is its one conjunct.
use Rattle.std.proofs.Common.{◌≡◌, List, [], ◌∷◌, ◌++◌, length, arith, append_assoc, append-nil, refl, ap, sym, ◌∙◌}
use Rattle.std.specs.List.{flat_map}
use Rattle.qgm_terms.specs.Shown.{cond, conds}
use Rattle.qgm_terms.specs.Terms.{Cond, and, anded, or, ored}
use Rattle.qgm_terms.specs.declared.tree.Gc.{Gc}
use Rattle.qgm_edit_laws.specs.ConjunctsOf.{conjuncts}

pub conjuncts-anded : (p : Cond) (qs : List Cond) → conjuncts (anded p qs) ≡ conjuncts p ++ flat_map conjuncts qs
conjuncts-anded p [] = sym (append-nil (conjuncts p))
conjuncts-anded p (q ∷ qs) = conjuncts-anded (and p q) qs ∙ append_assoc (conjuncts p) (conjuncts q) (flat_map conjuncts qs)

or-kept : (c d : Cond) (ps : List Cond) → conjuncts (ored (or c d) ps) ≡ ored (or c d) ps ∷ []
or-kept c d [] = refl
or-kept c d (p ∷ ps) = or-kept (or c d) p ps

-- an OR of two or more is one condition
conjuncts-ored : (c : Cond) (ps : List Gc) → (length ps ≡ 0 → ⊥) → conjuncts (ored c (conds ps)) ≡ ored c (conds ps) ∷ []
conjuncts-ored c [] h = absurd (h refl)
conjuncts-ored c (p ∷ ps) h = or-kept c (cond p) (conds ps)

ored-none : (c : Cond) (ps : List Gc) → length ps ≡ 0 → ored c (conds ps) ≡ c
ored-none c [] e = refl
ored-none c (p ∷ ps) e = absurd (omega arith)

pub put-any : (c : Cond) (ps : List Gc) (old new : List Cond) → (length ps ≡ 0 → ⊥) → new ≡ old ++ ored c (conds ps) ∷ [] → new ≡ old ++ conjuncts (ored c (conds ps))
put-any c ps old new h e = e ∙ ap (λ z. old ++ z) (sym (conjuncts-ored c ps h))

pub put-none : (c : Cond) (ps : List Gc) (old new : List Cond) → length ps ≡ 0 → new ≡ old ++ conjuncts c → new ≡ old ++ conjuncts (ored c (conds ps))
put-none c ps old new h e = e ∙ ap (λ z. old ++ conjuncts z) (sym (ored-none c ps h))

-- the operands of an AND, the first and the others
pub put-all : (p : Cond) (qs start mid new : List Cond) → mid ≡ start ++ conjuncts p → new ≡ mid ++ flat_map conjuncts qs → new ≡ start ++ conjuncts (anded p qs)
put-all p qs start mid new e f = f ∙ ap (λ zs. zs ++ flat_map conjuncts qs) e ∙ append_assoc start (conjuncts p) (flat_map conjuncts qs) ∙ ap (λ zs. start ++ zs) (sym (conjuncts-anded p qs))
