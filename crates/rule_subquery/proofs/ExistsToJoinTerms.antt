-- The conjunct of an E quantifier, and places one by one.
use Rattle.std.proofs.Common.{ℕ, suc, ◌<◌, ◌-◌, ◌==◌, ◌≡◌, ◌++◌, cond, Bool, false, List, [], ◌∷◌, None, Some, length, refl, sym, ap, ◌∙◌, arith}
use Rattle.std.specs.List.{list_any}
use Rattle.std.proofs.lemmas.Bool.{or_parts}
use Rattle.qgm_meaning.specs.Searches.{names_cond}
use Rattle.qgm_terms.specs.Shown as shown
use Rattle.qgm_terms.specs.Terms.{Cond, and, anded, or, ored, some}
use Rattle.qgm_terms.specs.Terms as terms
use Rattle.qgm_terms.specs.declared.tree.Gc.{Gc}
use Rattle.qgm_edit_laws.specs.ConjunctsOf.{conjuncts}
use Rattle.qgm_props.specs.InferredKeys.{places_to}
use Rattle.rule_subquery.specs.ExistsToJoinSteps.{inner_of, joined_conds, parts_of}
use Rattle.list_laws.proofs.Membership.{append-one, eq-itself}

-- ---- an AND or an OR of one

pub anded-none : (c : Cond) (ps : List Gc) → length ps ≡ 0 → anded c (shown.conds ps) ≡ c
anded-none c [] e = refl
anded-none c (p ∷ ps) e = absurd (omega arith)

pub ored-none : (c : Cond) (ps : List Gc) → length ps ≡ 0 → ored c (shown.conds ps) ≡ c
ored-none c [] e = refl
ored-none c (p ∷ ps) e = absurd (omega arith)

none-anded : (q : ℕ) (c d : Cond) (ps : List Cond) → inner_of q (anded (and c d) ps) ≡ None
none-anded q c d [] = refl
none-anded q c d (p ∷ ps) = none-anded q (and c d) p ps

none-ored : (q : ℕ) (c d : Cond) (ps : List Cond) → inner_of q (ored (or c d) ps) ≡ None
none-ored q c d [] = refl
none-ored q c d (p ∷ ps) = none-ored q (or c d) p ps

pub inner-anded : (q : ℕ) (c : Cond) (ps : List Gc) → (length ps ≡ 0 → ⊥) → inner_of q (anded c (shown.conds ps)) ≡ None
inner-anded q c [] h = absurd (h refl)
inner-anded q c (p ∷ ps) h = none-anded q c (shown.cond p) (shown.conds ps)

pub inner-ored : (q : ℕ) (c : Cond) (ps : List Gc) → (length ps ≡ 0 → ⊥) → inner_of q (ored c (shown.conds ps)) ≡ None
inner-ored q c [] h = absurd (h refl)
inner-ored q c (p ∷ ps) h = none-ored q c (shown.cond p) (shown.conds ps)

-- ---- the conjuncts of c in the place of its conjunct

-- a conjunct without a node of q isn't its conjunct
not-inner : (q : ℕ) (x : Cond) → names_cond q x ≡ false → inner_of q x ≡ None
not-inner q terms.always h = refl
not-inner q (terms.compare sign x y) h = refl
not-inner q (terms.is_null x) h = refl
not-inner q (terms.and c d) h = refl
not-inner q (terms.or c d) h = refl
not-inner q (terms.not c) h = refl
not-inner q (some r c) h = ap (λ (t : Bool). cond t (Some c) None) (or_parts (r == q) (names_cond q c) h).0
not-inner q (terms.every r c) h = refl

stay : (q : ℕ) (xs : List Cond) → list_any (names_cond q) xs ≡ false → joined_conds q xs ≡ xs
stay q [] h = refl
stay q (x ∷ xs) h =
    let e = or_parts (names_cond q x) (list_any (names_cond q) xs) h in
    ap (λ o. parts_of o x ++ joined_conds q xs) (not-inner q x e.0) ∙ ap (λ zs. x ∷ zs) (stay q xs e.1)

pub joined-is : (q : ℕ) (xs : List Cond) (c : Cond) (ys : List Cond) → list_any (names_cond q) xs ≡ false → list_any (names_cond q) ys ≡ false → joined_conds q (xs ++ some q c ∷ ys) ≡ xs ++ (conjuncts c ++ ys)
joined-is q [] c ys a b = ap (λ (t : Bool). parts_of (cond t (Some c) None) (some q c) ++ joined_conds q ys) (eq-itself q) ∙ ap (λ zs. conjuncts c ++ zs) (stay q ys b)
joined-is q (x ∷ xs) c ys a b =
    let e = or_parts (names_cond q x) (list_any (names_cond q) xs) a in
    ap (λ o. parts_of o x ++ joined_conds q (xs ++ some q c ∷ ys)) (not-inner q x e.0) ∙ ap (λ zs. x ∷ zs) (joined-is q xs c ys e.1 b)

-- ---- places

pub places-step : (out : List ℕ) (n : ℕ) → 0 < n → (out ++ n ∷ []) ++ places_to (n - 1) ≡ out ++ places_to n
places-step out n h =
    let e : n ≡ suc (n - 1) = omega (arith, h) in
    append-one out n (places_to (n - 1)) ∙ ap (λ m. out ++ m ∷ places_to (n - 1)) e ∙ ap (λ m. out ++ places_to m) (sym e)
