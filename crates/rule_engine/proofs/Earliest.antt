-- One pass finds the first of those whose rule ranks first.
use Rattle.std.proofs.Common.{ℕ, ◌≡◌, ◌<◌, ◌≤◌, ◌&&◌, Bool, true, false, cond, List, [], ◌∷◌, refl, sym, ◌∙◌, ap, arith, Option, Some, None, nat_lt, nat_le}
use Rattle.std.proofs.Math.Bool.{and-false}
use Rattle.std.proofs.lemmas.Bool.{le-leb, leb-false, leb-true, lt-leb, ltb-false, ltb-true}
use Rattle.list_laws.specs.Lists.{first}
use Rattle.rule_api.specs.declared.place.Firing.{Firing}
use Rattle.rule_engine.specs.Control.{earliest, is_least}
use Rattle.rule_api.specs.RuleIds.{rank_of}

-- ---- the pass

abbrev pub better : Option Firing → Firing → Option Firing
better None f = Some f
better (Some e) f = cond (nat_lt (rank_of f.rule) (rank_of e.rule)) (Some f) (Some e)

abbrev pub best : Option Firing → List Firing → Option Firing
best o [] = o
best o (f ∷ fs) = best (better o f) fs

-- ---- what it finds

first-same : (p q : Firing → Bool) (xs : List Firing) → ((x : Firing) → p x ≡ q x) → first p xs ≡ first q xs
first-same p q [] h = refl
first-same p q (x ∷ xs) h = ap (λ b. cond b (Some x) (first p xs)) (h x) ∙ ap (λ o. cond (q x) (Some x) o) (first-same p q xs h)

le-itself : (n : ℕ) → nat_le n n ≡ true
le-itself n = le-leb n n (omega arith)

-- f before e: who is before f is before e
narrow : (x e f : ℕ) (t : Bool) → f < e → (nat_le x e && (nat_le x f && t)) ≡ (nat_le x f && t)
narrow x e f t h =
    elim (nat_le x f) as (λ b. nat_le x f ≡ b → (nat_le x e && (b && t)) ≡ (b && t)) [
      | true ↦ λ k. (let l = leb-true x f k in ap (λ b. b && t) (le-leb x e (omega arith)))
      | false ↦ λ k. and-false (nat_le x e)
    ] refl

-- e not after f: who is before e is before f
wide : (x e f : ℕ) (t : Bool) → e ≤ f → (nat_le x e && (nat_le x f && t)) ≡ (nat_le x e && t)
wide x e f t h =
    elim (nat_le x e) as (λ b. nat_le x e ≡ b → (b && (nat_le x f && t)) ≡ (b && t)) [
      | true ↦ λ k. (let l = leb-true x e k in ap (λ b. b && t) (le-leb x f (omega arith)))
      | false ↦ λ k. refl
    ] refl

-- who isn't least makes those after it not least
not-least : (e f : Firing) → rank_of e.rule ≤ rank_of f.rule → (ys : List Firing) → is_least ys e ≡ false → is_least ys f ≡ false
not-least e f h [] = λ k. absurd (let q : ⊥ = cc in q)
not-least e f h (y ∷ ys) =
    elim (nat_le (rank_of e.rule) (rank_of y.rule)) as (λ b. nat_le (rank_of e.rule) (rank_of y.rule) ≡ b → (b && is_least ys e) ≡ false → (nat_le (rank_of f.rule) (rank_of y.rule) && is_least ys f) ≡ false) [
      | true ↦ λ l k. ap (λ b. nat_le (rank_of f.rule) (rank_of y.rule) && b) (not-least e f h ys k) ∙ and-false (nat_le (rank_of f.rule) (rank_of y.rule))
      | false ↦ λ l k. (let m = leb-false (rank_of e.rule) (rank_of y.rule) l in ap (λ b. b && is_least ys f) (lt-leb (rank_of f.rule) (rank_of y.rule) (omega arith)))
    ] refl

-- the first of the least, where a first one is put before
found-later : (e f : Firing) (fs : List Firing) → rank_of f.rule < rank_of e.rule → first (is_least (f ∷ fs)) (f ∷ fs) ≡ first (is_least (e ∷ f ∷ fs)) (e ∷ f ∷ fs)
found-later e f fs h =
    sym (first-same (is_least (e ∷ f ∷ fs)) (is_least (f ∷ fs)) (f ∷ fs) (λ x. narrow (rank_of x.rule) (rank_of e.rule) (rank_of f.rule) (is_least fs x) h))
    ∙ sym (ap (λ b. cond b (Some e) (first (is_least (e ∷ f ∷ fs)) (f ∷ fs))) (
    ap (λ b. nat_le (rank_of e.rule) (rank_of e.rule) && (b && is_least fs e)) (lt-leb (rank_of e.rule) (rank_of f.rule) h) ∙ and-false (nat_le (rank_of e.rule) (rank_of e.rule))))

skipped : (e f : Firing) (fs : List Firing) (b : Bool) → is_least (e ∷ fs) e ≡ b → rank_of e.rule ≤ rank_of f.rule →
    cond b (Some e) (first (is_least (e ∷ fs)) fs) ≡ cond b (Some e) (cond (is_least (e ∷ fs) f) (Some f) (first (is_least (e ∷ fs)) fs))
skipped e f fs true k h = refl
skipped e f fs false k h = sym (ap (λ b. cond b (Some f) (first (is_least (e ∷ fs)) fs)) (not-least e f h (e ∷ fs) k))

found-first : (e f : Firing) (fs : List Firing) → rank_of e.rule ≤ rank_of f.rule → first (is_least (e ∷ fs)) (e ∷ fs) ≡ first (is_least (e ∷ f ∷ fs)) (e ∷ f ∷ fs)
found-first e f fs h =
    skipped e f fs (is_least (e ∷ fs) e) refl h
    ∙ sym (first-same (is_least (e ∷ f ∷ fs)) (is_least (e ∷ fs)) (e ∷ f ∷ fs) (λ x. wide (rank_of x.rule) (rank_of e.rule) (rank_of f.rule) (is_least fs x) h))

best-first : (e : Firing) (fs : List Firing) → best (Some e) fs ≡ first (is_least (e ∷ fs)) (e ∷ fs)
best-first e [] = sym (ap (λ b. cond (b && true) (Some e) None) (le-itself (rank_of e.rule)))
best-first e (f ∷ fs) =
    elim (nat_lt (rank_of f.rule) (rank_of e.rule)) as (λ b. nat_lt (rank_of f.rule) (rank_of e.rule) ≡ b → best (cond b (Some f) (Some e)) fs ≡ first (is_least (e ∷ f ∷ fs)) (e ∷ f ∷ fs)) [
      | true ↦ λ k. best-first f fs ∙ found-later e f fs (ltb-true (rank_of f.rule) (rank_of e.rule) k)
      | false ↦ λ k. best-first e fs ∙ found-first e f fs (ltb-false (rank_of f.rule) (rank_of e.rule) k)
    ] refl

pub best-earliest : (fs : List Firing) → best None fs ≡ earliest fs
unfolding earliest
best-earliest [] = refl
best-earliest (f ∷ fs) = best-first f fs

best-some : (e : Firing) (fs : List Firing) → best (Some e) fs ≡ None → ⊥
best-some e [] h = let q : ⊥ = cc in q
best-some e (x ∷ fs) h =
    elim (nat_lt (rank_of x.rule) (rank_of e.rule)) as (λ b. best (cond b (Some x) (Some e)) fs ≡ None → ⊥) [ true ↦ best-some x fs | false ↦ best-some e fs ] h

-- of some there is an earliest
pub earliest-some : (x : Firing) (xs : List Firing) → earliest (x ∷ xs) ≡ None → ⊥
earliest-some x xs h = best-some x xs (best-earliest (x ∷ xs) ∙ h)
