-- A box that goes, and one whose quantifiers stand in another box.
use Rattle.std.proofs.Common.{◌≡◌, ℕ, zero, suc, ◌==◌, ◌≤◌, ◌+◌, ◌++◌, cond, Bool, true, false, List, [], ◌∷◌, Option, Some, length, map, take, drop, get_or, position, refl, sym, ◌∙◌, ap, subst, arith, inl, inr, eqb-true}
use Rattle.std.proofs.Math.ListN.{set}
use Rattle.std.specs.List.{remove}
use Rattle.std.proofs.lemmas.Bool.{cases_Bool}
use Rattle.qgm_core.specs.Boxes.{ids_of, is_box, quants_in}
use Rattle.qgm_core.specs.Edits.{absorbed, spliced_at, with_quants}
use Rattle.list_laws.specs.Lists.{EachOnce, IsFirst, change, first, without}
use Rattle.qgm_core.specs.Numbered.{Numbered, Under}
use Rattle.qgm_core.specs.declared.node.Node.{Node}
use Rattle.qgm_core.specs.declared.owned.OwnedQuant.{OwnedQuant}
use Rattle.qgm_core.proofs.First.{is_first}
use Rattle.qgm_core.proofs.Fresh.{fewer-change, numbers-change, under-change}
use Rattle.qgm_core.proofs.Moved.{count, taken}
use Rattle.qgm_core.proofs.Requanted.{position-set}

-- a box that goes
pub numbered-dropped : (p : Node → Bool) (a b : ℕ) (ns : List Node) (n : Node) → first p ns ≡ Some n → Numbered a b ns → Numbered a b (without p ns)
numbered-dropped p a b ns n e m =
    let k = taken p a b ns n m.0 m.1 m.2 e in
    let c = count p ns n e in
    let d = m.3 in
    (k.lows, k.once, k.others, omega (arith, c, d))

-- ---- quantifiers in the place of one

under-take : (m i : ℕ) (rs : List OwnedQuant) → Under m (map (λ r. r.id) rs) → Under m (map (λ r. r.id) (take i rs))
under-take m zero rs u = tt
under-take m (suc i) [] u = tt
under-take m (suc i) (r ∷ rs) u = (u.0, under-take m i rs u.1)

under-drop : (m i : ℕ) (rs : List OwnedQuant) → Under m (map (λ r. r.id) rs) → Under m (map (λ r. r.id) (drop i rs))
under-drop m zero rs u = u
under-drop m (suc i) [] u = tt
under-drop m (suc i) (r ∷ rs) u = under-drop m i rs u.1

under-joined : (m : ℕ) (rs ss : List OwnedQuant) → Under m (map (λ r. r.id) rs) → Under m (map (λ r. r.id) ss) → Under m (map (λ r. r.id) (rs ++ ss))
under-joined m [] ss u v = v
under-joined m (r ∷ rs) ss u v = (u.0, under-joined m rs ss u.1 v)

ids-joined : (rs ss : List OwnedQuant) → length (map (λ r. r.id) (rs ++ ss)) ≡ length (map (λ r. r.id) rs) + length (map (λ r. r.id) ss)
ids-joined [] ss = omega arith
ids-joined (r ∷ rs) ss = let h = ids-joined rs ss in omega (arith, h)

ids-parts : (i : ℕ) (rs : List OwnedQuant) → length (map (λ r. r.id) (take i rs)) + length (map (λ r. r.id) (drop (suc i) rs)) ≤ length (map (λ r. r.id) rs)
ids-parts zero [] = omega arith
ids-parts zero (r ∷ rs) = omega arith
ids-parts (suc i) [] = omega arith
ids-parts (suc i) (r ∷ rs) = let h = ids-parts i rs in omega (arith, h)

under-spliced : (m i : ℕ) (cs rs : List OwnedQuant) → Under m (map (λ r. r.id) cs) → Under m (map (λ r. r.id) rs) → Under m (map (λ r. r.id) (spliced_at i cs rs))
under-spliced m i cs rs u v = under-joined m (take i rs) (cs ++ drop (suc i) rs) (under-take m i rs v) (under-joined m cs (drop (suc i) rs) u (under-drop m (suc i) rs v))

fewer-spliced : (i : ℕ) (cs rs : List OwnedQuant) → length (map (λ r. r.id) (spliced_at i cs rs)) ≤ length (map (λ r. r.id) rs) + length (map (λ r. r.id) cs)
fewer-spliced i cs rs =
    let h = ids-joined (take i rs) (cs ++ drop (suc i) rs) in
    let k = ids-joined cs (drop (suc i) rs) in
    let l = ids-parts i rs in
    omega (arith, h, k, l)

-- ---- numbers

pub numbered-absorbed : (d i c a b : ℕ) (ns : List Node) (n : Node) → first (is_box c) ns ≡ Some n → Numbered a b ns → Numbered a b (absorbed d i c ns)
numbered-absorbed d i c a b ns n e m =
    let f = with_quants (spliced_at i n.quants) in
    let ms = without (is_box c) ns in
    let k = taken (is_box c) a b ns n m.0 m.1 m.2 e in
    let s = count (is_box c) ns n e in
    let same = sym (numbers-change (is_box d) f (λ n. refl) ms) in
    let l = fewer-change (is_box d) f (length (ids_of n)) (λ x. fewer-spliced i n.quants x.quants) ms in
    let t = m.3 in
    subst (λ (o : Option Node). Numbered a b (change (is_box d) (with_quants (spliced_at i (quants_in o))) ms)) (sym e)
    (subst (Under a) same k.lows, subst EachOnce same k.once, under-change (is_box d) f b (λ x u. under-spliced b i n.quants x.quants k.own u) ms k.others, omega (arith, s, l, t))

-- ---- the write and the removal

without-change : (b c : ℕ) (f : Node → Node) (ns : List Node) → (b == c) ≡ false → ((n : Node) → (f n).id ≡ n.id) → without (is_box c) (change (is_box b) f ns) ≡ change (is_box b) f (without (is_box c) ns)
without-change b c f [] apart same = refl
without-change b c f (n ∷ ns) apart same =
    let w = without-change b c f ns apart same in
    elim (cases_Bool (n.id == b)) [
      | inl t ↦ (
          let e : n.id ≡ b = eqb-true n.id b t in
          let no : (n.id == c) ≡ false = ap (λ (k : ℕ). k == c) e ∙ apart in
          let no_f : ((f n).id == c) ≡ false = ap (λ (k : ℕ). k == c) (same n) ∙ no in
          ap (λ (u : Bool). without (is_box c) (cond u (f n ∷ ns) (n ∷ change (is_box b) f ns))) t
          ∙ ap (λ (u : Bool). cond u ns (f n ∷ without (is_box c) ns)) no_f
          ∙ sym (ap (λ (u : Bool). change (is_box b) f (cond u ns (n ∷ without (is_box c) ns))) no ∙ ap (λ (u : Bool). cond u (f n ∷ without (is_box c) ns) (n ∷ change (is_box b) f (without (is_box c) ns))) t))
      | inr t ↦ ap (λ (u : Bool). without (is_box c) (cond u (f n ∷ ns) (n ∷ change (is_box b) f ns))) t
          ∙ elim (n.id == c) as (λ u. cond u (change (is_box b) f ns) (n ∷ without (is_box c) (change (is_box b) f ns)) ≡ change (is_box b) f (cond u ns (n ∷ without (is_box c) ns))) [
            | true ↦ refl
            | false ↦ ap (λ (ms : List Node). n ∷ ms) w ∙ sym (ap (λ (u : Bool). cond u (f n ∷ without (is_box c) ns) (n ∷ change (is_box b) f (without (is_box c) ns))) t)
          ]
    ]

pub absorbed-at : (b i c : ℕ) (xs : List Node) (j k : ℕ) (y d e : Node) → IsFirst (is_box b) xs j → position (is_box c) xs ≡ Some k → (b == c) ≡ false →
    y ≡ with_quants (spliced_at i (get_or xs k e).quants) (get_or xs j d) → remove (set xs j y) k ≡ absorbed b i c xs
absorbed-at b i c xs j k y d e own at apart h =
    let f = with_quants (spliced_at i (get_or xs k e).quants) in
    let there = is_first (is_box c) xs k at in
    let id : is_box c y ≡ is_box c (get_or xs j d) = ap (λ (n : Node). n.id == c) h in
    let out = is_first (is_box c) (set xs j y) k (position-set (is_box c) xs j y d id ∙ at) in
    let written : set xs j y ≡ change (is_box b) f xs = own.3 f y d h in
    out.4 ∙ ap (λ (ns : List Node). without (is_box c) ns) written ∙ without-change b c f xs apart (λ n. refl)
    ∙ ap (λ (o : Option Node). change (is_box b) (with_quants (spliced_at i (quants_in o))) (without (is_box c) xs)) (sym (there.1 e))
