-- Numbers of boxes and quantifiers, where only boxes that pass are kept.
use Rattle.std.proofs.Common.{ℕ, ◌==◌, ◌≡◌, ◌≤◌, cond, Bool, true, false, List, [], ◌∷◌, length, filter, refl, arith}
use Rattle.std.proofs.lemmas.List.{length-append}
use Rattle.std.proofs.lemmas.Bool.{or_from, or_parts}
use Rattle.qgm_core.specs.Boxes.{ids_in, ids_of, numbers}
use Rattle.list_laws.specs.Lists.{EachOnce, holds}
use Rattle.qgm_core.specs.Numbered.{Numbered, Under}
use Rattle.qgm_core.specs.declared.node.Node.{Node}
use Rattle.qgm_core.proofs.Fresh.{under-append, under-left, under-right}

module _ (p : Node → Bool) where
  under-numbers : (a : ℕ) (ns : List Node) → Under a (numbers ns) → Under a (numbers (filter p ns))
  under-numbers a [] u = tt
  under-numbers a (n ∷ ns) u =
      elim (p n) as (λ t. Under a (numbers (cond t (n ∷ filter p ns) (filter p ns)))) [
        | true ↦ (u.0, under-numbers a ns u.1)
        | false ↦ under-numbers a ns u.1
      ]

  unheld : (x : ℕ) (ns : List Node) → holds x (numbers ns) ≡ false → holds x (numbers (filter p ns)) ≡ false
  unheld x [] h = refl
  unheld x (n ∷ ns) h =
      let s = or_parts (n.id == x) (holds x (numbers ns)) h in
      elim (p n) as (λ t. holds x (numbers (cond t (n ∷ filter p ns) (filter p ns))) ≡ false) [
        | true ↦ or_from (n.id == x) (holds x (numbers (filter p ns))) s.0 (unheld x ns s.1)
        | false ↦ unheld x ns s.1
      ]

  once : (ns : List Node) → EachOnce (numbers ns) → EachOnce (numbers (filter p ns))
  once [] o = tt
  once (n ∷ ns) o =
      elim (p n) as (λ t. EachOnce (numbers (cond t (n ∷ filter p ns) (filter p ns)))) [
        | true ↦ (unheld n.id ns o.0, once ns o.1)
        | false ↦ once ns o.1
      ]

  under-ids : (b : ℕ) (ns : List Node) → Under b (ids_in ns) → Under b (ids_in (filter p ns))
  under-ids b [] u = tt
  under-ids b (n ∷ ns) u =
      let l = under-left b (ids_of n) (ids_in ns) u in
      let r = under-right b (ids_of n) (ids_in ns) u in
      elim (p n) as (λ t. Under b (ids_in (cond t (n ∷ filter p ns) (filter p ns)))) [
        | true ↦ under-append b (ids_of n) (ids_in (filter p ns)) l (under-ids b ns r)
        | false ↦ under-ids b ns r
      ]

  fewer : (ns : List Node) → length (ids_in (filter p ns)) ≤ length (ids_in ns)
  fewer [] = omega arith
  fewer (n ∷ ns) =
      let h = fewer ns in
      let l = length-append (ids_of n) (ids_in ns) in
      elim (p n) as (λ t. length (ids_in (cond t (n ∷ filter p ns) (filter p ns))) ≤ length (ids_in (n ∷ ns))) [
        | true ↦ (let k = length-append (ids_of n) (ids_in (filter p ns)) in omega (arith, h, l, k))
        | false ↦ omega (arith, h, l)
      ]

  pub numbered-filter : (a b : ℕ) (ns : List Node) → Numbered a b ns → Numbered a b (filter p ns)
  numbered-filter a b ns m = (under-numbers a ns m.0, once ns m.1, under-ids b ns m.2, (let f = fewer ns in let l = m.3 in omega (arith, f, l)))
