-- Turns of quantifiers: which is found under a number, and what is looked up at its turn.
use Rattle.std.proofs.Common.{ℕ, ◌==◌, ◌≡◌, ◌&&◌, ◌||◌, ◌≤◌, cond, Bool, true, false, List, [], ◌∷◌, ◌++◌, map, Option, Some, refl, ap, subst, ◌∙◌, inl, inr, arith}
use Rattle.std.specs.List.{list_any}
use Rattle.std.proofs.lemmas.Bool.{cases_Bool, or_from, or_left, or_parts, or_right}
use Rattle.qgm_core.specs.declared.node.Node.{Node}
use Rattle.qgm_core.specs.declared.owned.OwnedQuant.{OwnedQuant}
use Rattle.qgm_core.specs.Kinds.{is_F}
use Rattle.qgm_core.specs.Boxes.{is_quant}
use Rattle.list_laws.specs.Lists.{first, In, times}
use Rattle.qgm_meaning.specs.Scope.{loose_each, quant_looks}
use Rattle.qgm_edit_laws.specs.Graph.{binds_row}
use Rattle.std.specs.Prelude as p
use Rattle.list_laws.proofs.Counting.{in-times}
use Rattle.list_laws.proofs.Membership.{eq-itself}

pub first-own : (r : OwnedQuant) (rs : List OwnedQuant) → times r.id (map (λ (r : OwnedQuant). r.id) rs) ≤ 1 → In r rs → first (is_quant r.id) rs ≡ Some r
first-own r [] o i = elim i [ ]
first-own r (x ∷ rs) o i = elim i [
  | inl e ↦ ap (λ (t : Bool). cond t (Some x) (first (is_quant r.id) rs)) (subst (λ (z : OwnedQuant). (x.id == z.id) ≡ true) e (eq-itself x.id)) ∙ ap Some e
  | inr j ↦ elim (cases_Bool (x.id == r.id)) [
    | inl t ↦ absurd (let a : ◌≡◌ {A = ℕ} (cond (x.id == r.id) 1 0) 1 = ap (λ (b : Bool). cond {A = ℕ} b 1 0) t in let h = in-times (λ (r : OwnedQuant). r.id) r rs j in omega arith)
    | inr f ↦ ap (λ (t : Bool). cond t (Some x) (first (is_quant r.id) rs)) f ∙ first-own r rs (let a : ◌≡◌ {A = ℕ} (cond (x.id == r.id) 1 0) 0 = ap (λ (b : Bool). cond {A = ℕ} b 1 0) f in omega arith) j
  ]
]

-- quantifiers of other numbers in between change nothing
pub first-skip : (p : ℕ) (xs ys zs : List OwnedQuant) → list_any (is_quant p) ys ≡ false → first (is_quant p) (xs ++ (ys ++ zs)) ≡ first (is_quant p) (xs ++ zs)
first-skip p [] [] zs h = refl
first-skip p [] (y ∷ ys) zs h = let n = or_parts (is_quant p y) (list_any (is_quant p) ys) h in ap (λ t. cond t (Some y) (first (is_quant p) (ys ++ zs))) n.0 ∙ first-skip p [] ys zs n.1
first-skip p (x ∷ xs) ys zs h = ap (λ z. cond (is_quant p x) (Some x) z) (first-skip p xs ys zs h)

pub first-held : (p : ℕ) (ys zs : List OwnedQuant) → list_any (is_quant p) ys ≡ true → first (is_quant p) (ys ++ zs) ≡ first (is_quant p) ys
first-held p [] zs h = absurd (let z : ⊥ = cc in z)
first-held p (y ∷ ys) zs h =
    elim (is_quant p y) as (λ t. (t || list_any (is_quant p) ys) ≡ true → ◌≡◌ {A = Option OwnedQuant} (cond t (Some y) (first (is_quant p) (ys ++ zs))) (cond t (Some y) (first (is_quant p) ys))) [
      | true ↦ λ h. refl
      | false ↦ λ h. first-held p ys zs h
    ] h

-- what is looked up at the turn of an F quantifier, before which it isn't bound, is looked up
pub each-turn : (n : Node) (look : ℕ → ℕ → Bool) (q : ℕ) (done : List OwnedQuant) (r : OwnedQuant) (rest : List OwnedQuant) → is_F r.kind ≡ true → binds_row q done ≡ false → quant_looks n look r.id q ≡ true → loose_each (done ++ r ∷ rest) n look q ≡ true
each-turn n look q [] r rest f u t =
    ap (λ b. cond b (quant_looks n look r.id q || (p.not (r.id == q) && loose_each rest n look q)) (loose_each rest n look q)) f ∙ or_left (quant_looks n look r.id q) (p.not (r.id == q) && loose_each rest n look q) t
each-turn n look q (x ∷ done) r rest f u t =
    let h = or_parts (is_F x.kind && (x.id == q)) (binds_row q done) u in
    step (is_F x.kind) (x.id == q) h.0 (each-turn n look q done r rest f h.1 t)
  where
    step : (a b : Bool) → (a && b) ≡ false → loose_each (done ++ r ∷ rest) n look q ≡ true → cond a (quant_looks n look x.id q || (p.not b && loose_each (done ++ r ∷ rest) n look q)) (loose_each (done ++ r ∷ rest) n look q) ≡ true
    step true true k l = cc k
    step true false k l = or_right (quant_looks n look x.id q) (loose_each (done ++ r ∷ rest) n look q) l
    step false b k l = l

pub split-in : (r : OwnedQuant) (rs : List OwnedQuant) → In r rs → (done : List OwnedQuant) × ((rest : List OwnedQuant) × (rs ≡ done ++ r ∷ rest))
split-in r [] i = elim i [ ]
split-in r (x ∷ rs) i = elim i [
  | inl e ↦ ([], (rs, ap (λ z. z ∷ rs) e))
  | inr j ↦ (let s = split-in r rs j in (x ∷ s.0, (s.1.0, ap (λ z. x ∷ z) s.1.1)))
]

pub any-parts : {X : Type 0} (f : X → Bool) (xs ys : List X) → list_any f (xs ++ ys) ≡ false → (list_any f xs ≡ false) × (list_any f ys ≡ false)
any-parts f [] ys h = (refl, h)
any-parts f (x ∷ xs) ys h = let n = or_parts (f x) (list_any f (xs ++ ys)) h in let r = any-parts f xs ys n.1 in (or_from (f x) (list_any f xs) n.0 r.0, r.1)
