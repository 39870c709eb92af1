-- An AND is split into the parts of all its operands.
use Rattle.std.proofs.Common.{◌≡◌, ◌<◌, length, arith, List, [], ◌∷◌, ◌++◌, append_assoc, append-nil, refl, ap, sym, ◌∙◌}
use Rattle.qgm_terms.specs.Shown.{cond, conds}
use Rattle.qgm_terms.specs.Terms.{Cond, and, anded, or, ored}
use Rattle.qgm_terms.specs.declared.tree.Gc.{Gc}
use Rattle.qgm_terms.specs.Split.{split, splits}

pub split_anded : (p : Cond) (qs : List Cond) → split (anded p qs) ≡ split p ++ splits qs
split_anded p [] = sym (append-nil (split p))
split_anded p (q ∷ qs) = split_anded (and p q) qs ∙ append_assoc (split p) (split q) (splits qs)

or_kept : (c d : Cond) (ps : List Cond) → split (ored (or c d) ps) ≡ ored (or c d) ps ∷ []
or_kept c d [] = refl
or_kept c d (p ∷ ps) = or_kept (or c d) p ps

-- an OR of two or more is one condition
pub split_ored : (c : Cond) (ps : List Gc) → 0 < length ps → split (ored c (conds ps)) ≡ ored c (conds ps) ∷ []
split_ored c [] h = absurd (omega arith)
split_ored c (p ∷ ps) h = or_kept c (cond p) (conds ps)

pub split_none : (c : Cond) (ps : List Gc) → length ps ≡ 0 → split (ored c (conds ps)) ≡ split c
split_none c [] e = refl
split_none c (p ∷ ps) e = absurd (omega arith)

splits_conds : (ps : List Gc) (p : Gc) → splits (conds (ps ++ p ∷ [])) ≡ splits (conds ps) ++ split (cond p)
splits_conds [] p = append-nil (split (cond p))
splits_conds (q ∷ ps) p = ap (λ zs. split (cond q) ++ zs) (splits_conds ps p) ∙ sym (append_assoc (split (cond q)) (splits (conds ps)) (split (cond p)))

-- one more condition of a list
pub split_next : (ps : List Gc) (p : Gc) (start old new : List Cond) → new ≡ old ++ split (cond p) → old ≡ start ++ splits (conds ps) → new ≡ start ++ splits (conds (ps ++ p ∷ []))
split_next ps p start old new e h =
    e ∙ ap (λ zs. zs ++ split (cond p)) h ∙ append_assoc start (splits (conds ps)) (split (cond p)) ∙ ap (λ zs. start ++ zs) (sym (splits_conds ps p))

-- the operands of an AND, the first and the others
pub split_all : (p : Cond) (qs start mid new : List Cond) → mid ≡ start ++ split p → new ≡ mid ++ splits qs → new ≡ start ++ split (anded p qs)
split_all p qs start mid new e f = f ∙ ap (λ zs. zs ++ splits qs) e ∙ append_assoc start (split p) (splits qs) ∙ ap (λ zs. start ++ zs) (sym (split_anded p qs))
