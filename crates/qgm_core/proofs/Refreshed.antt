-- Lists that are computed, one after the other.
use Rattle.std.proofs.Common.{ℕ, zero, suc, ◌==◌, ◌≡◌, ◌≤◌, ◌+◌, ◌||◌, cond, Bool, true, false, List, [], ◌∷◌, Option, Some, None, length, slice_get, take, eqb-true, refl, sym, ap, subst, ◌∙◌, inl, inr, arith}
use Rattle.std.proofs.lemmas.Bool.{cases_Bool, eq-eqb, ne_eqb, or_left, or_parts, or_right}
use Rattle.qgm_core.specs.Boxes.{numbers}
use Rattle.qgm_core.specs.Free.{free_in}
use Rattle.qgm_core.specs.Slots.{KeepsFree, Refreshed, SlotTable, is_stale, kept, list_or, stale_in}
use Rattle.list_laws.specs.Lists.{EachOnce, holds}
use Rattle.qgm_core.specs.declared.node.Node.{Node}

abbrev pub stale : ℕ → SlotTable → ℕ
stale b t = cond (is_stale (kept b t)) 1 0

-- what one more box adds
pub stale-more : (t : SlotTable) (ns : List Node) (i : ℕ) (n : Node) → slice_get ns i ≡ Some n → stale_in t (take (suc i) ns) ≡ stale_in t (take i ns) + stale n.id t
stale-more t [] i n e = absurd (let z : ⊥ = cc in z)
stale-more t (m ∷ ns) zero n e = let s : m ≡ n = cc in let k : stale m.id t ≡ stale n.id t = ap (λ (z : Node). stale z.id t) s in omega (arith, k)
stale-more t (m ∷ ns) (suc i) n e = let h = stale-more t ns i n e in omega (arith, h)

-- no list is lost
stale-less : (o p : Option (List ℕ)) → ((qs : List ℕ) → o ≡ Some qs → p ≡ Some qs) → cond (is_stale p) 1 0 ≤ cond (is_stale o) 1 0
stale-less None None h = omega arith
stale-less None (Some rs) h = omega arith
stale-less (Some qs) None h = absurd (let e = h qs refl in let z : ⊥ = cc in z)
stale-less (Some qs) (Some rs) h = omega arith

pub stale-fewer : (t u : SlotTable) → Refreshed t u → (ns : List Node) → stale_in u ns ≤ stale_in t ns
stale-fewer t u r [] = omega arith
stale-fewer t u r (n ∷ ns) =
    let h = stale-fewer t u r ns in
    let k = stale-less (kept n.id t) (kept n.id u) (r.3 n.id) in
    omega (arith, h, k)

pub refreshed-then : (t u v : SlotTable) → Refreshed t u → Refreshed u v → Refreshed t v
refreshed-then t u v r s = (s.0 ∙ r.0, s.1 ∙ r.1, s.2 ∙ r.2, λ b qs e. s.3 b qs (r.3 b qs e))

module _ (b : ℕ) (t u : SlotTable) (others : (x : ℕ) → (b == x) ≡ false → kept x u ≡ kept x t) where
  -- boxes of other numbers
  stale-same : (ns : List Node) → holds b (numbers ns) ≡ false → stale_in u ns ≡ stale_in t ns
  stale-same [] h = refl
  stale-same (n ∷ ns) h =
      let s = or_parts (n.id == b) (holds b (numbers ns)) h in
      let k = stale-same ns s.1 in
      let a : stale n.id u ≡ stale n.id t = ap (λ (o : Option (List ℕ)). cond (is_stale o) 1 0) (others n.id (ne_eqb b n.id (λ e. (let z : (n.id == b) ≡ true = eq-eqb n.id b (sym e) in let c = s.0 in let w : ⊥ = cc in w)))) in
      omega (arith, k, a)

  -- the one of this number isn't stale then
  pub stale-one : (qs : List ℕ) → kept b u ≡ Some qs → (ns : List Node) → EachOnce (numbers ns) → holds b (numbers ns) ≡ true → stale_in u ns + stale b t ≡ stale_in t ns
  stale-one qs e [] o h = absurd (let z : ⊥ = cc in z)
  stale-one qs e (n ∷ ns) o h =
      elim (cases_Bool (n.id == b)) [
        | inl s ↦ (
            let i : n.id ≡ b = eqb-true n.id b s in
            let k = stale-same ns (subst (λ (x : ℕ). holds x (numbers ns) ≡ false) i o.0) in
            let a : stale n.id u ≡ 0 = ap (λ (x : ℕ). stale x u) i ∙ ap (λ (o : Option (List ℕ)). cond (is_stale o) 1 0) e in
            let d : stale n.id t ≡ stale b t = ap (λ (x : ℕ). stale x t) i in
            omega (arith, k, a, d))
        | inr f ↦ (
            let k = stale-one qs e ns o.1 (subst (λ (t : Bool). (t || holds b (numbers ns)) ≡ true) f h) in
            let a : stale n.id u ≡ stale n.id t = ap (λ (o : Option (List ℕ)). cond (is_stale o) 1 0) (others n.id (ne_eqb b n.id (λ e. (let z : (n.id == b) ≡ true = eq-eqb n.id b (sym e) in let w : ⊥ = cc in w)))) in
            omega (arith, k, a))
      ]

  -- the list is right
  pub right-one : (ns : List Node) → kept b u ≡ Some (list_or (free_in ns b) (kept b t)) → KeepsFree t ns → KeepsFree u ns
  right-one ns e k x qs h =
      elim (cases_Bool (b == x)) [
        | inr f ↦ k x qs (sym (others x f) ∙ h)
        | inl s ↦ (
            let i : b ≡ x = eqb-true b x s in
            let z : Some (list_or (free_in ns b) (kept b t)) ≡ Some qs = sym e ∙ ap (λ (y : ℕ). kept y u) i ∙ h in
            let w : list_or (free_in ns b) (kept b t) ≡ qs = cc in
            ap (λ (y : ℕ). free_in ns y) (sym i) ∙ chosen (kept b t) (λ rs. k b rs) ∙ w)
      ]
    where
      chosen : (o : Option (List ℕ)) → ((rs : List ℕ) → o ≡ Some rs → free_in ns b ≡ rs) → free_in ns b ≡ list_or (free_in ns b) o
      chosen None g = refl
      chosen (Some rs) g = g rs refl

pub at-held : (ns : List Node) (i : ℕ) (n : Node) → slice_get ns i ≡ Some n → holds n.id (numbers ns) ≡ true
at-held [] i n e = absurd (let z : ⊥ = cc in z)
at-held (m ∷ ns) zero n e = let s : m ≡ n = cc in or_left (m.id == n.id) (holds n.id (numbers ns)) (eq-eqb m.id n.id (ap (λ (z : Node). z.id) s))
at-held (m ∷ ns) (suc i) n e = or_right (m.id == n.id) (holds n.id (numbers ns)) (at-held ns i n e)

pub stale-most : (t : SlotTable) (ns : List Node) → stale_in t ns ≤ length ns
stale-most t [] = omega arith
stale-most t (n ∷ ns) =
    let h = stale-most t ns in
    elim (is_stale (kept n.id t)) as (λ b. cond b 1 0 + stale_in t ns ≤ suc (length ns)) [
      | true ↦ omega (arith, h)
      | false ↦ omega (arith, h)
    ]
