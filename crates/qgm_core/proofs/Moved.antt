-- Numbers of boxes, one of which goes to another place.
use Rattle.std.proofs.Common.{ℕ, ◌==◌, ◌≡◌, ◌<◌, ◌+◌, cond, Bool, true, false, List, [], ◌∷◌, Option, Some, length, refl, sym, subst, arith}
use Rattle.std.proofs.lemmas.List.{length-append}
use Rattle.std.proofs.lemmas.Bool.{or_from, or_parts}
use Rattle.qgm_core.specs.Boxes.{ids_in, ids_of, numbers}
use Rattle.list_laws.specs.Lists.{EachOnce, first, holds, put_below, without}
use Rattle.qgm_core.specs.Numbered.{Numbered, Under}
use Rattle.qgm_core.specs.declared.node.Node.{Node}
use Rattle.qgm_core.proofs.Fresh.{under-append, under-left, under-right}
use Rattle.list_laws.proofs.Membership.{eq-false-sym}

-- a box, and others without it
pub record Apart (a b : ℕ) (n : Node) (ns : List Node) : Type 0 where
  pub low : n.id < a
  pub lows : Under a (numbers ns)
  pub new : holds n.id (numbers ns) ≡ false
  pub once : EachOnce (numbers ns)
  pub own : Under b (ids_of n)
  pub others : Under b (ids_in ns)

module _ (p : Node → Bool) where
  unheld : (x : ℕ) (ns : List Node) → holds x (numbers ns) ≡ false → holds x (numbers (without p ns)) ≡ false
  unheld x [] h = refl
  unheld x (m ∷ ns) h =
      let s = or_parts (m.id == x) (holds x (numbers ns)) h in
      elim (p m) as (λ t. holds x (numbers (cond t ns (m ∷ without p ns))) ≡ false) [
        | true ↦ s.1
        | false ↦ or_from (m.id == x) (holds x (numbers (without p ns))) s.0 (unheld x ns s.1)
      ]

  other : (x : ℕ) (ns : List Node) (n : Node) → holds x (numbers ns) ≡ false → first p ns ≡ Some n → (n.id == x) ≡ false
  other x [] n h e = absurd (let q : ⊥ = cc in q)
  other x (m ∷ ns) n h e =
      let s = or_parts (m.id == x) (holds x (numbers ns)) h in
      elim (p m) as (λ t. ◌≡◌ {A = Option Node} (cond t (Some m) (first p ns)) (Some n) → (n.id == x) ≡ false) [
        | true ↦ λ e. (let same : m ≡ n = cc in subst (λ (n : Node). (n.id == x) ≡ false) same s.0)
        | false ↦ λ e. other x ns n s.1 e
      ] e

  pub count : (ns : List Node) (n : Node) → first p ns ≡ Some n → length (ids_of n) + length (ids_in (without p ns)) ≡ length (ids_in ns)
  count [] n e = absurd (let q : ⊥ = cc in q)
  count (x ∷ ns) n e =
      let s = length-append (ids_of x) (ids_in ns) in
      elim (p x) as (λ t. ◌≡◌ {A = Option Node} (cond t (Some x) (first p ns)) (Some n) → length (ids_of n) + length (ids_in (cond t ns (x ∷ without p ns))) ≡ length (ids_in (x ∷ ns))) [
        | true ↦ λ e. (let same : x ≡ n = cc in subst (λ (n : Node). length (ids_of n) + length (ids_in ns) ≡ length (ids_in (x ∷ ns))) same (sym s))
        | false ↦ λ e. (let k = count ns n e in let z = length-append (ids_of x) (ids_in (without p ns)) in omega (arith, s, k, z))
      ] e

  pub taken : (a b : ℕ) (ns : List Node) (n : Node) → Under a (numbers ns) → EachOnce (numbers ns) → Under b (ids_in ns) → first p ns ≡ Some n → Apart a b n (without p ns)
  taken a b [] n u o v e = absurd (let q : ⊥ = cc in q)
  taken a b (x ∷ ns) n u o v e =
      let l = under-left b (ids_of x) (ids_in ns) v in
      let r = under-right b (ids_of x) (ids_in ns) v in
      elim (p x) as (λ t. ◌≡◌ {A = Option Node} (cond t (Some x) (first p ns)) (Some n) → Apart a b n (cond t ns (x ∷ without p ns))) [
        | true ↦ λ e. (
            let same : x ≡ n = cc in
            subst (λ (n : Node). Apart a b n ns) same (record { low = u.0; lows = u.1; new = o.0; once = o.1; own = l; others = r }))
        | false ↦ λ e. (
            let k = taken a b ns n u.1 o.1 r e in
            record {
              low = k.low;
              lows = (u.0, k.lows);
              new = or_from (x.id == n.id) (holds n.id (numbers (without p ns))) (eq-false-sym n.id x.id (other x.id ns n o.0 e)) k.new;
              once = (unheld x.id ns o.0, k.once);
              own = k.own;
              others = under-append b (ids_of x) (ids_in (without p ns)) l k.others;
            })
      ] e

-- the box among the others
module _ (q : Node → Bool) (n : Node) where
  unput : (x : ℕ) (ns : List Node) → (n.id == x) ≡ false → holds x (numbers ns) ≡ false → holds x (numbers (put_below q n ns)) ≡ false
  unput x [] d h = or_from (n.id == x) false d refl
  unput x (m ∷ ns) d h =
      let s = or_parts (m.id == x) (holds x (numbers ns)) h in
      elim (q m) as (λ t. holds x (numbers (cond t (m ∷ (n ∷ ns)) (m ∷ put_below q n ns))) ≡ false) [
        | true ↦ or_from (m.id == x) (holds x (numbers (n ∷ ns))) s.0 (or_from (n.id == x) (holds x (numbers ns)) d s.1)
        | false ↦ or_from (m.id == x) (holds x (numbers (put_below q n ns))) s.0 (unput x ns d s.1)
      ]

  more : (ns : List Node) → length (ids_in (put_below q n ns)) ≡ length (ids_of n) + length (ids_in ns)
  more [] = length-append (ids_of n) []
  more (m ∷ ns) =
      let s = length-append (ids_of m) (ids_in ns) in
      elim (q m) as (λ t. length (ids_in (cond t (m ∷ (n ∷ ns)) (m ∷ put_below q n ns))) ≡ length (ids_of n) + length (ids_in (m ∷ ns))) [
        | true ↦ (let y = length-append (ids_of m) (ids_in (n ∷ ns)) in let z = length-append (ids_of n) (ids_in ns) in omega (arith, s, y, z))
        | false ↦ (let k = more ns in let y = length-append (ids_of m) (ids_in (put_below q n ns)) in omega (arith, s, k, y))
      ]

  below : (a b : ℕ) (ns : List Node) → Apart a b n ns → Under a (numbers (put_below q n ns)) × EachOnce (numbers (put_below q n ns)) × Under b (ids_in (put_below q n ns))
  below a b [] k = ((k.low, tt), (refl, tt), under-append b (ids_of n) [] k.own tt)
  below a b (m ∷ ns) k =
      let d = or_parts (m.id == n.id) (holds n.id (numbers ns)) k.new in
      let l = under-left b (ids_of m) (ids_in ns) k.others in
      let r = under-right b (ids_of m) (ids_in ns) k.others in
      let rest = below a b ns (record { low = k.low; lows = k.lows.1; new = d.1; once = k.once.1; own = k.own; others = r }) in
      elim (q m) as (λ t. Under a (numbers (cond t (m ∷ (n ∷ ns)) (m ∷ put_below q n ns))) × EachOnce (numbers (cond t (m ∷ (n ∷ ns)) (m ∷ put_below q n ns))) × Under b (ids_in (cond t (m ∷ (n ∷ ns)) (m ∷ put_below q n ns)))) [
        | true ↦ (
          (k.lows.0, (k.low, k.lows.1)),
          (or_from (n.id == m.id) (holds m.id (numbers ns)) (eq-false-sym m.id n.id d.0) k.once.0, (d.1, k.once.1)),
          under-append b (ids_of m) (ids_in (n ∷ ns)) l (under-append b (ids_of n) (ids_in ns) k.own r),
        )
        | false ↦ (
          (k.lows.0, rest.0),
          (unput m.id ns (eq-false-sym m.id n.id d.0) k.once.0, rest.1),
          under-append b (ids_of m) (ids_in (put_below q n ns)) l rest.2,
        )
      ]

pub numbered-moved : (p q : Node → Bool) (a b : ℕ) (ns : List Node) (n : Node) → first p ns ≡ Some n → Numbered a b ns → Numbered a b (put_below q n (without p ns))
numbered-moved p q a b ns n e m =
    let k = below q n a b (without p ns) (taken p a b ns n m.0 m.1 m.2 e) in
    let c = count p ns n e in
    let d = more q n (without p ns) in
    let f = m.3 in
    (k.0, k.1, k.2, omega (arith, c, d, f))
