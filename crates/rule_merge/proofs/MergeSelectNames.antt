-- Names of columns, one more at the end, as tables that are read by quantifier.
use Rattle.std.proofs.Common.{◌≡◌, ℕ, zero, suc, ◌==◌, ◌<◌, ◌++◌, cond, true, false, List, [], ◌∷◌, length, get_or, refl, sym, ◌∙◌, ap, arith, max, eqb-true, inl, inr}
use Rattle.std.proofs.Math.ListN.{set}
use Rattle.std.proofs.lemmas.Bool.{cases_Bool}
use Rattle.list_laws.proofs.Membership.{eq-itself}
use Rattle.qgm_core.proofs.ByNumber.{read-set}
use Rattle.rule_merge.specs.MergeSelectCopies.{levels_of, places_of}
use Rattle.rule_merge.specs.declared.merge_select.names.Name.{Name}

-- a table with nothing at its end is read as before
pub pushed-same : {X : Type 0} (xs : List X) (d : X) (y : ℕ) → get_or (xs ++ d ∷ []) y d ≡ get_or xs y d
pushed-same [] d zero = refl
pushed-same [] d (suc y) = refl
pushed-same (x ∷ xs) d zero = refl
pushed-same (x ∷ xs) d (suc y) = pushed-same xs d y

places-last : (q : ℕ) (ns : List Name) (n : Name) → places_of q (ns ++ n ∷ []) ≡ cond (n.quant == q) (places_of q ns ++ n.place ∷ []) (places_of q ns)
places-last q [] n = refl
places-last q (m ∷ ns) n =
    ap (λ (z : List ℕ). cond (m.quant == q) (m.place ∷ z) z) (places-last q ns n)
    ∙ elim (m.quant == q) as (λ t. cond t (m.place ∷ cond (n.quant == q) (places_of q ns ++ n.place ∷ []) (places_of q ns)) (cond (n.quant == q) (places_of q ns ++ n.place ∷ []) (places_of q ns)) ≡ cond (n.quant == q) (cond t (m.place ∷ places_of q ns) (places_of q ns) ++ n.place ∷ []) (cond t (m.place ∷ places_of q ns) (places_of q ns))) [
      | true ↦ (elim (n.quant == q) as (λ t. m.place ∷ cond t (places_of q ns ++ n.place ∷ []) (places_of q ns) ≡ cond t (m.place ∷ (places_of q ns ++ n.place ∷ [])) (m.place ∷ places_of q ns)) [
        | true ↦ refl
        | false ↦ refl
      ])
      | false ↦ refl
    ]

levels-last : (q : ℕ) (ns : List Name) (n : Name) → levels_of q (ns ++ n ∷ []) ≡ cond (n.quant == q) (max (levels_of q ns) n.levels) (levels_of q ns)
levels-last q [] n = elim (n.quant == q) as (λ t. max (cond t n.levels 0) 0 ≡ cond t (max 0 n.levels) 0) [
  | true ↦ omega arith
  | false ↦ refl
]
levels-last q (m ∷ ns) n =
    ap (λ (z : ℕ). max (cond (m.quant == q) m.levels 0) z) (levels-last q ns n)
    ∙ elim (n.quant == q) as (λ t. max (cond (m.quant == q) m.levels 0) (cond t (max (levels_of q ns) n.levels) (levels_of q ns)) ≡ cond t (max (max (cond (m.quant == q) m.levels 0) (levels_of q ns)) n.levels) (max (cond (m.quant == q) m.levels 0) (levels_of q ns))) [
      | true ↦ omega arith
      | false ↦ refl
    ]

-- the entry of a quantifier, and those of others
more : {X : Type 0} (long : List X) (q : ℕ) (v d : X) (after : ℕ → X) → q < length long → v ≡ after q → ((y : ℕ) → (q == y) ≡ false → get_or long y d ≡ after y) → (y : ℕ) → get_or (set long q v) y d ≡ after y
more long q v d after l e h y =
    read-set long q v d y l
    ∙ elim (cases_Bool (q == y)) [
      | inl t ↦ ap (λ b. cond b v (get_or long y d)) t ∙ e ∙ ap after (eqb-true q y t)
      | inr f ↦ ap (λ b. cond b v (get_or long y d)) f ∙ h y f
    ]

pub places-more : (ns : List Name) (old long : List (List ℕ)) (n : Name) (v : List ℕ) → ((y : ℕ) → get_or old y [] ≡ places_of y ns) → ((y : ℕ) → get_or long y [] ≡ get_or old y []) → n.quant < length long → v ≡ places_of n.quant ns ++ n.place ∷ []
    → (y : ℕ) → get_or (set long n.quant v) y [] ≡ places_of y (ns ++ n ∷ [])
places-more ns old long n v h s l e =
    more long n.quant v [] (λ y. places_of y (ns ++ n ∷ [])) l
    (e ∙ sym (places-last n.quant ns n ∙ ap (λ b. cond b (places_of n.quant ns ++ n.place ∷ []) (places_of n.quant ns)) (eq-itself n.quant)))
    (λ y f. s y ∙ h y ∙ sym (places-last y ns n ∙ ap (λ b. cond b (places_of y ns ++ n.place ∷ []) (places_of y ns)) f))

pub levels-more : (ns : List Name) (old long : List ℕ) (n : Name) (v : ℕ) → ((y : ℕ) → get_or old y 0 ≡ levels_of y ns) → ((y : ℕ) → get_or long y 0 ≡ get_or old y 0) → n.quant < length long → v ≡ max (levels_of n.quant ns) n.levels
    → (y : ℕ) → get_or (set long n.quant v) y 0 ≡ levels_of y (ns ++ n ∷ [])
levels-more ns old long n v h s l e =
    more long n.quant v 0 (λ y. levels_of y (ns ++ n ∷ [])) l
    (e ∙ sym (levels-last n.quant ns n ∙ ap (λ b. cond b (max (levels_of n.quant ns) n.levels) (levels_of n.quant ns)) (eq-itself n.quant)))
    (λ y f. s y ∙ h y ∙ sym (levels-last y ns n ∙ ap (λ b. cond b (max (levels_of y ns) n.levels) (levels_of y ns)) f))
