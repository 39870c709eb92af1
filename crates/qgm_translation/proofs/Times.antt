-- Numbers of quantifiers that stand once, counted.
use Rattle.std.proofs.Common.{◌≡◌, ◌≤◌, ℕ, ◌==◌, ◌||◌, not, cond, Bool, true, false, List, [], ◌∷◌, map, refl, ap, sym, ◌∙◌, subst, arith, inl, inr}
use Rattle.std.specs.List.{list_all, list_any}
use Rattle.std.proofs.lemmas.Bool.{and_parts, cases_Bool, eq-eqb, eqb-true, or_parts}
use Rattle.qgm_core.specs.Boxes.{ids_in, ids_of, is_quant, owns}
use Rattle.list_laws.specs.Lists.{times}
use Rattle.qgm_core.specs.declared.node.Node.{Node}
use Rattle.qgm_core.specs.declared.owned.OwnedQuant.{OwnedQuant}
use Rattle.qgm_translation.specs.Shown.{distinct_ids}
use Rattle.qgm_translation.specs.Lays.{Once, owned}
use Rattle.list_laws.proofs.Counting.{times-append}

not-owned : (q : ℕ) (os : List OwnedQuant) → list_any (is_quant q) os ≡ false → times q (map (λ o. o.id) os) ≡ 0
not-owned q [] h = refl
not-owned q (o ∷ os) h =
    let u = or_parts (o.id == q) (list_any (is_quant q) os) h in
    let e : cond {A = ℕ} (o.id == q) 1 0 ≡ 0 = ap (λ (b : Bool). cond {A = ℕ} b 1 0) u.0 in
    let r = not-owned q os u.1 in
    omega arith

nowhere : (q : ℕ) (ns : List Node) → owned q ns ≡ false → times q (ids_in ns) ≡ 0
nowhere q [] h = refl
nowhere q (n ∷ ns) h =
    let u = or_parts (owns q n) (owned q ns) h in
    let a = times-append q (ids_of n) (ids_in ns) in
    let e = not-owned q n.quants u.0 in
    let r = nowhere q ns u.1 in
    omega arith

apart : (q : ℕ) (o : OwnedQuant) (os : List OwnedQuant) → o.id ≡ q → list_all (λ p. not (o.id == p.id)) os ≡ true → list_any (is_quant q) os ≡ false
apart q o [] e h = refl
apart q o (p ∷ os) e h =
    let u = and_parts (not (o.id == p.id)) (list_all (λ p. not (o.id == p.id)) os) h in
    ap (λ b. b || list_any (is_quant q) os) (other p.id (subst (λ z. not (z == p.id) ≡ true) e u.0)) ∙ apart q o os e u.1
  where
    other : (b : ℕ) → not (q == b) ≡ true → (b == q) ≡ false
    other b h = elim (cases_Bool (b == q)) [
      | inr f ↦ f
      | inl f ↦ absurd (let z : not (b == b) ≡ true = subst (λ y. not (y == b) ≡ true) (sym (eqb-true b q f)) h in itself b z)
    ]
      where
        itself : (b : ℕ) → not (b == b) ≡ true → ⊥
        itself b z = let e : not (b == b) ≡ false = ap not (let r : b ≡ b = refl in eq-eqb b b r) in let y : true ≡ false = sym z ∙ e in let w : ⊥ = cc in w

few : (q : ℕ) (os : List OwnedQuant) → distinct_ids os ≡ true → times q (map (λ o. o.id) os) ≤ 1
few q [] h = omega arith
few q (o ∷ os) h =
    let u = and_parts (list_all (λ p. not (o.id == p.id)) os) (distinct_ids os) h in
    elim (cases_Bool (o.id == q)) [
      | inl t ↦ (let e : cond {A = ℕ} (o.id == q) 1 0 ≡ 1 = ap (λ (b : Bool). cond {A = ℕ} b 1 0) t in let r = not-owned q os (apart q o os (eqb-true o.id q t) u.0) in omega arith)
      | inr t ↦ (let e : cond {A = ℕ} (o.id == q) 1 0 ≡ 0 = ap (λ (b : Bool). cond {A = ℕ} b 1 0) t in let r = few q os u.1 in omega arith)
    ]

pub counted-once : (ns : List Node) → Once ns → (q : ℕ) → times q (ids_in ns) ≤ 1
counted-once [] h q = omega arith
counted-once (n ∷ ns) h q =
    let a = times-append q (ids_of n) (ids_in ns) in
    elim (cases_Bool (owns q n)) [
      | inl t ↦ (let r = few q n.quants h.0 in let e = nowhere q ns (h.1 q t) in omega arith)
      | inr t ↦ (let r = counted-once ns h.2 q in let e = not-owned q n.quants t in omega arith)
    ]
