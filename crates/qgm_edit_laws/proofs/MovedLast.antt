-- A quantifier of a box behind all others, of another kind.
use Rattle.std.proofs.Common.{ℕ, ◌==◌, ◌≡◌, ◌&&◌, ◌||◌, ◌+◌, cond, not, Bool, true, false, List, [], ◌∷◌, ◌++◌, map, Option, Some, None, refl, sym, ap, ap₂, ◌∙◌, eqb-true, ◌⊎◌, inl, inr, arith}
use Rattle.std.specs.List.{list_any}
use Rattle.std.proofs.lemmas.Bool.{cases_Bool, eq-eqb, or_parts}
use Rattle.qgm_core.specs.Boxes.{is_quant}
use Rattle.qgm_core.specs.Kinds.{is_F}
use Rattle.list_laws.specs.Lists.{In, first, times}
use Rattle.qgm_core.specs.declared.node.Node.{Node}
use Rattle.qgm_core.specs.declared.owned.OwnedQuant.{OwnedQuant}
use Rattle.qgm_meaning.specs.Meaning.{Family, rows_found}
use Rattle.qgm_meaning.specs.Scope.{looks_found, loose_each, quant_looks, read_by, under_any}
use Rattle.qgm_meaning.specs.Values.{Bag, Environment}
use Rattle.qgm_edit_laws.proofs.Read.{any-both}
use Rattle.list_laws.proofs.Membership.{in-append, in-left, in-right}
use Rattle.list_laws.proofs.Booleans.{clash}

-- the box that a quantifier which is found ranges over
abbrev pub over_opt : Option OwnedQuant → Option ℕ
over_opt None = None
over_opt (Some r) = Some r.over

abbrev rows_at : Option ℕ → Family → Environment → Bag
rows_at None F e = []
rows_at (Some b) F e = F b e

abbrev looks_at : Option ℕ → (ℕ → ℕ → Bool) → ℕ → Bool
looks_at None L q = false
looks_at (Some b) L q = L b q

rows-found : (a : Option OwnedQuant) (F : Family) (e : Environment) → rows_found a F e ≡ rows_at (over_opt a) F e
rows-found None F e = refl
rows-found (Some r) F e = refl

looks-found : (a : Option OwnedQuant) (L : ℕ → ℕ → Bool) (q : ℕ) → looks_found a L q ≡ looks_at (over_opt a) L q
looks-found None L q = refl
looks-found (Some r) L q = refl

pub rows-over : (a b : Option OwnedQuant) → over_opt a ≡ over_opt b → (F : Family) (e : Environment) → rows_found a F e ≡ rows_found b F e
rows-over a b h F e = rows-found a F e ∙ ap (λ z. rows_at z F e) h ∙ sym (rows-found b F e)

pub looks-over : (a b : Option OwnedQuant) → over_opt a ≡ over_opt b → (L : ℕ → ℕ → Bool) (q : ℕ) → looks_found a L q ≡ looks_found b L q
looks-over a b h L q = looks-found a L q ∙ ap (λ z. looks_at z L q) h ∙ sym (looks-found b L q)

times-both : (f : OwnedQuant → ℕ) (x : ℕ) (us vs : List OwnedQuant) → times x (map f (us ++ vs)) ≡ times x (map f us) + times x (map f vs)
times-both f x [] vs = omega arith
times-both f x (u ∷ us) vs = let h = times-both f x us vs in omega arith

pub times-behind : (f : OwnedQuant → ℕ) (x : ℕ) (us : List OwnedQuant) (r s : OwnedQuant) (vs : List OwnedQuant) → f s ≡ f r → times x (map f ((us ++ vs) ++ s ∷ [])) ≡ times x (map f (us ++ r ∷ vs))
times-behind f x us r s vs h =
    let a = times-both f x (us ++ vs) (s ∷ []) in
    let b = times-both f x us vs in
    let c = times-both f x us (r ∷ vs) in
    let e : ◌≡◌ {A = ℕ} (cond (f s == x) 1 0) (cond (f r == x) 1 0) = ap (λ z. cond (z == x) 1 0) h in omega arith

pub any-behind : (p : OwnedQuant → Bool) (us : List OwnedQuant) (r s : OwnedQuant) (vs : List OwnedQuant) → p s ≡ p r → list_any p ((us ++ vs) ++ s ∷ []) ≡ list_any p (us ++ r ∷ vs)
any-behind p us r s vs h =
    any-both p (us ++ vs) (s ∷ []) ∙ ap₂ (λ x y. x || (y || false)) (any-both p us vs) h
    ∙ turn (list_any p us) (list_any p vs) (p r) ∙ sym (any-both p us (r ∷ vs))
  where
    turn : (a b c : Bool) → ((a || b) || (c || false)) ≡ (a || (c || b))
    turn true b c = refl
    turn false true true = refl
    turn false true false = refl
    turn false false true = refl
    turn false false false = refl

-- one that is there then was there, or is the new last one
pub in-behind : (t : OwnedQuant) (us : List OwnedQuant) (r s : OwnedQuant) (vs : List OwnedQuant) → In t ((us ++ vs) ++ s ∷ []) → (In t us ⊎ In t vs) ⊎ (s ≡ t)
in-behind t us r s vs j = elim (in-append t (us ++ vs) (s ∷ []) j) [
  | inl k ↦ inl (in-append t us vs k)
  | inr k ↦ elim k [ inl e ↦ inr e | inr z ↦ elim z [ ] ]
]

pub in-beside : (t : OwnedQuant) (us : List OwnedQuant) (r : OwnedQuant) (vs : List OwnedQuant) → In t us ⊎ In t vs → In t (us ++ r ∷ vs)
in-beside t us r vs (inl j) = in-left t us (r ∷ vs) j
in-beside t us r vs (inr j) = in-right t us (r ∷ vs) (inr j)

module _ (r s : OwnedQuant) (id : s.id ≡ r.id) (over : s.over ≡ r.over) (q : ℕ) where
  last-over : (vs : List OwnedQuant) → list_any (is_quant r.id) vs ≡ false → over_opt (first (is_quant q) (vs ++ s ∷ [])) ≡ over_opt (cond (r.id == q) (Some r) (first (is_quant q) vs))
  last-over [] h = ap (λ z. over_opt (cond (z == q) (Some s) None)) id ∙ (elim (r.id == q) as (λ t. over_opt (cond t (Some s) None) ≡ over_opt (cond t (Some r) None)) [ true ↦ ap (λ z. Some z) over | false ↦ refl ])
  last-over (v ∷ vs) h =
      let k = or_parts (v.id == r.id) (list_any (is_quant r.id) vs) h in
      elim (cases_Bool (v.id == q)) [
        | inl t ↦ (
            let n : (r.id == q) ≡ false = (elim (cases_Bool (r.id == q)) [ inr f ↦ f | inl y ↦ absurd (clash (v.id == r.id) (eq-eqb v.id r.id (eqb-true v.id q t ∙ sym (eqb-true r.id q y))) k.0) ]) in
            ap (λ z. over_opt (cond z (Some v) (first (is_quant q) (vs ++ s ∷ [])))) t
            ∙ sym (ap (λ z. over_opt (cond z (Some r) (cond (v.id == q) (Some v) (first (is_quant q) vs)))) n ∙ ap (λ z. over_opt (cond z (Some v) (first (is_quant q) vs))) t))
        | inr f ↦ ap (λ z. over_opt (cond z (Some v) (first (is_quant q) (vs ++ s ∷ [])))) f ∙ last-over vs k.1
            ∙ sym (ap (λ z. over_opt (cond (r.id == q) (Some r) (cond z (Some v) (first (is_quant q) vs)))) f)
      ]

  pub over-behind : (us vs : List OwnedQuant) → list_any (is_quant r.id) vs ≡ false → over_opt (first (is_quant q) ((us ++ vs) ++ s ∷ [])) ≡ over_opt (first (is_quant q) (us ++ r ∷ vs))
  over-behind [] vs h = last-over vs h
  over-behind (u ∷ us) vs h = elim (u.id == q) as (λ t. over_opt (cond t (Some u) (first (is_quant q) ((us ++ vs) ++ s ∷ []))) ≡ over_opt (cond t (Some u) (first (is_quant q) (us ++ r ∷ vs)))) [ true ↦ refl | false ↦ over-behind us vs h ]

-- ---- what is looked up, from quantifier to quantifier

module _ (A : ℕ → Bool) (q : ℕ) where
  abbrev pub walk : List OwnedQuant → Bool → Bool
  walk [] z = z
  walk (r ∷ rs) z = cond (is_F r.kind) (A r.id || (not (r.id == q) && walk rs z)) (walk rs z)

  pub each-walk : (n : Node) (L : ℕ → ℕ → Bool) → ((x : ℕ) → quant_looks n L x q ≡ A x) → (rs : List OwnedQuant) → loose_each rs n L q ≡ walk rs (read_by n q || under_any n.quants L q)
  each-walk n L h [] = refl
  each-walk n L h (r ∷ rs) = ap₂ (λ a b. cond (is_F r.kind) (a || (not (r.id == q) && b)) b) (h r.id) (each-walk n L h rs)

  pub walk-both : (us vs : List OwnedQuant) (z : Bool) → walk (us ++ vs) z ≡ walk us (walk vs z)
  walk-both [] vs z = refl
  walk-both (u ∷ us) vs z = ap (λ b. cond (is_F u.kind) (A u.id || (not (u.id == q) && b)) b) (walk-both us vs z)

pub absorbed : (a e : Bool) → (a ≡ true → e ≡ true) → (a || e) ≡ e
absorbed true e h = sym (h refl)
absorbed false e h = refl
