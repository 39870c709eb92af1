-- The boxes from which a box is reached, from the last rank to the first.
use Rattle.std.proofs.lemmas.List.{get_or-replicate, length-replicate}
use Rattle.qgm_core.specs.Slots.{meets}
use Rattle.std.proofs.Common.{ℕ, zero, suc, ◌==◌, ◌≡◌, ◌<◌, ◌-◌, ◌||◌, cond, Some, drop, get_or, length, arith, Bool, true, false, List, [], ◌∷◌, ◌++◌, map, refl, sym, ap, subst, ◌∙◌, eqb-true, inl, inr, replicate, filter, take}
use Rattle.std.proofs.Math.ListN.{set}
use Rattle.std.specs.Prelude.{slice_get}
use Rattle.std.specs.List.{list_any}
use Rattle.std.proofs.lemmas.Bool.{cases_Bool, or_parts, cases_lt}
use Rattle.std.proofs.lemmas.List.Folds.{list_any-append}
use Rattle.qgm_core.specs.Boxes.{numbers, overs_of}
use Rattle.qgm_core.specs.Free.{marked, reached}
use Rattle.qgm_core.specs.Numbered.{Under}
use Rattle.list_laws.specs.Lists.{holds}
use Rattle.qgm_core.specs.declared.node.Node.{Node}
use Rattle.qgm_core.specs.declared.owned.OwnedQuant.{OwnedQuant}
use Rattle.list_laws.proofs.Booleans.{or-false, or-true, same-truth}
use Rattle.list_laws.proofs.Indexed.{drop-more}
use Rattle.list_laws.proofs.Membership.{eq-itself}
use Rattle.qgm_core.proofs.ByNumber.{read-set, read-behind}

-- these, and each box one of whose quantifiers ranges over one of them behind it
abbrev pub reaching : List ℕ → List Node → List ℕ
reaching cs [] = cs
reaching cs (n ∷ ns) = cond (meets (reaching cs ns) (overs_of n)) (n.id ∷ reaching cs ns) (reaching cs ns)

same-other : (a b : ℕ) → (a == b) ≡ (b == a)
same-other a b = same-truth (a == b) (b == a) (λ t. subst (λ (z : ℕ). (z == a) ≡ true) (eqb-true a b t) (eq-itself a)) (λ t. subst (λ (z : ℕ). (z == b) ≡ true) (eqb-true b a t) (eq-itself b))

pub meets-one : (c : ℕ) (marks : List ℕ) → holds c marks ≡ meets (c ∷ []) marks
meets-one c [] = refl
meets-one c (m ∷ marks) =
    ap (λ (t : Bool). t || holds c marks) (same-other m c ∙ sym (or-false (c == m)))
    ∙ ap (λ (t : Bool). ((c == m) || false) || t) (meets-one c marks)

-- a number more, which doesn't stand among the marks
meets-more : (x : ℕ) (cs marks : List ℕ) → holds x marks ≡ false → meets (x ∷ cs) marks ≡ meets cs marks
meets-more x cs [] h = refl
meets-more x cs (m ∷ marks) h =
    let s = or_parts (m == x) (holds x marks) h in
    ap (λ (t : Bool). (t || holds m cs) || meets (x ∷ cs) marks) (same-other x m ∙ s.0)
    ∙ ap (λ (t : Bool). holds m cs || t) (meets-more x cs marks s.1)

-- which does
meets-it : (x : ℕ) (cs marks : List ℕ) → holds x marks ≡ true → meets (x ∷ cs) marks ≡ true
meets-it x cs [] h = absurd (let z : ⊥ = cc in z)
meets-it x cs (m ∷ marks) h =
    elim (m == x) as (λ t. (m == x) ≡ t → (t || holds x marks) ≡ true → meets (x ∷ cs) (m ∷ marks) ≡ true) [
      | true ↦ λ e h. ap (λ (t : Bool). (t || holds m cs) || meets (x ∷ cs) marks) (same-other x m ∙ e)
      | false ↦ λ e h. ap (λ (t : Bool). holds m (x ∷ cs) || t) (meets-it x cs marks h) ∙ or-true (holds m (x ∷ cs))
    ] refl h

-- what is marked reaches one of these where one of the marks does
pub reaches-some : (cs : List ℕ) (ns : List Node) (marks : List ℕ) → meets cs (reached marks ns) ≡ meets (reaching cs ns) marks
reaches-some cs [] marks = refl
reaches-some cs (n ∷ ns) marks =
    let ds = reaching cs ns in
    reaches-some cs ns (marked marks n)
    ∙ elim (cases_Bool (holds n.id marks)) [
      | inl t ↦ (
          ap (λ (b : Bool). meets ds (cond b (marks ++ overs_of n) marks)) t
          ∙ list_any-append (λ m. holds m ds) marks (overs_of n)
          ∙ elim (meets ds (overs_of n)) as (λ b. (meets ds marks || b) ≡ meets (cond b (n.id ∷ ds) ds) marks) [
            | true ↦ or-true (meets ds marks) ∙ sym (meets-it n.id ds marks t)
            | false ↦ or-false (meets ds marks)
          ])
      | inr f ↦ (
          ap (λ (b : Bool). meets ds (cond b (marks ++ overs_of n) marks)) f
          ∙ elim (meets ds (overs_of n)) as (λ b. meets ds marks ≡ meets (cond b (n.id ∷ ds) ds) marks) [
            | true ↦ sym (meets-more n.id ds marks f)
            | false ↦ refl
          ])
    ]

-- the numbers that reach one of these
pub reaches-them : (cs : List ℕ) (ns : List Node) (x : ℕ) → meets cs (reached (x ∷ []) ns) ≡ holds x (reaching cs ns)
reaches-them cs ns x = reaches-some cs ns (x ∷ []) ∙ or-false (holds x (reaching cs ns))

-- ---- flags

-- one flag more
pub flag-put : (flags : List Bool) (c : ℕ) (cs : List ℕ) → c < length flags → ((x : ℕ) → get_or flags x false ≡ holds x cs) → (x : ℕ) → get_or (set flags c true) x false ≡ holds x (c ∷ cs)
flag-put flags c cs l h x =
    read-set flags c true false x l
    ∙ elim (c == x) as (λ t. cond t true (get_or flags x false) ≡ (t || holds x cs)) [
      | true ↦ refl
      | false ↦ h x
    ]

pub no-flags : (m x : ℕ) → get_or (replicate m false) x false ≡ false
no-flags m x = elim (cases_lt x m) [
  | inl l ↦ get_or-replicate m x false false l
  | inr g ↦ read-behind (replicate m false) x false (let e = length-replicate m false in omega (arith, e, g))
]

-- ---- one more box

any-flagged : (flags : List Bool) (cs : List ℕ) → ((x : ℕ) → get_or flags x false ≡ holds x cs) → (rs : List OwnedQuant) → list_any (λ r. get_or flags r.over false) rs ≡ meets cs (map (λ r. r.over) rs)
any-flagged flags cs h [] = refl
any-flagged flags cs h (r ∷ rs) =
    ap (λ (t : Bool). t || list_any (λ r. get_or flags r.over false) rs) (h r.over)
    ∙ ap (λ (t : Bool). holds r.over cs || t) (any-flagged flags cs h rs)

pub under-at : (m : ℕ) (ns : List Node) (k : ℕ) (n : Node) → Under m (numbers ns) → slice_get ns k ≡ Some n → n.id < m
under-at m [] k n u e = absurd (let z : ⊥ = cc in z)
under-at m (o ∷ ns) zero n u e = let s : o ≡ n = cc in subst (λ (z : Node). z.id < m) s u.0
under-at m (o ∷ ns) (suc k) n u e = under-at m ns k n u.1 e

-- the boxes from the one at place i - 1, from 0
from-it : (ns : List Node) (i : ℕ) (n : Node) → 0 < i → slice_get ns (i - 1) ≡ Some n → drop (i - 1) ns ≡ n ∷ drop i ns
from-it ns i n l e =
    let s : suc (i - 1) ≡ i = omega (arith, l) in
    drop-more (i - 1) ns n e ∙ ap (λ (k : ℕ). n ∷ drop k ns) s

module _ (start : List ℕ) (ns : List Node) (i : ℕ) (n : Node) (flags : List Bool) (l : 0 < i) (at : slice_get ns (i - 1) ≡ Some n) (h : (x : ℕ) → get_or flags x false ≡ holds x (reaching start (drop i ns))) where
  abbrev cs : List ℕ
  cs = reaching start (drop i ns)

  unfolded : (b : Bool) → list_any (λ r. get_or flags r.over false) n.quants ≡ b → reaching start (drop (i - 1) ns) ≡ cond b (n.id ∷ cs) cs
  unfolded b e =
      ap (λ (ms : List Node). reaching start ms) (from-it ns i n l at)
      ∙ ap (λ (t : Bool). cond t (n.id ∷ cs) cs) (sym (any-flagged flags cs h n.quants) ∙ e)

  pub flags-more : n.id < length flags → list_any (λ r. get_or flags r.over false) n.quants ≡ true → (x : ℕ) → get_or (set flags n.id true) x false ≡ holds x (reaching start (drop (i - 1) ns))
  flags-more within e x =
      read-set flags n.id true false x within
      ∙ elim (n.id == x) as (λ t. cond t true (get_or flags x false) ≡ (t || holds x cs)) [
        | true ↦ refl
        | false ↦ h x
      ]
      ∙ ap (λ (ms : List ℕ). holds x ms) (sym (unfolded true e))

  pub flags-same : list_any (λ r. get_or flags r.over false) n.quants ≡ false → (x : ℕ) → get_or flags x false ≡ holds x (reaching start (drop (i - 1) ns))
  flags-same e x = h x ∙ ap (λ (ms : List ℕ). holds x ms) (sym (unfolded false e))

-- ---- those that pass, by number

swap-or : (a b c : Bool) → (a || (b || c)) ≡ (b || (a || c))
swap-or true true c = refl
swap-or true false c = refl
swap-or false true c = refl
swap-or false false c = refl

pub held-more : (p : Node → Bool) (x : ℕ) (ns : List Node) (i : ℕ) (n : Node) → slice_get ns i ≡ Some n → holds x (numbers (filter p (take (suc i) ns))) ≡ holds x (cond (p n) (n.id ∷ numbers (filter p (take i ns))) (numbers (filter p (take i ns))))
held-more p x [] i n e = absurd (let z : ⊥ = cc in z)
held-more p x (m ∷ ns) zero n e =
    let s : m ≡ n = cc in
    ap (λ (z : Node). holds x (numbers (cond (p z) (z ∷ []) []))) s
    ∙ elim (p n) as (λ t. holds x (numbers (cond t (n ∷ []) [])) ≡ holds x (cond t (n.id ∷ []) [])) [ true ↦ refl | false ↦ refl ]
held-more p x (m ∷ ns) (suc i) n e =
    let h = held-more p x ns i n e in
    let old = numbers (filter p (take i ns)) in
    elim (p m) as (λ t. holds x (numbers (cond t (m ∷ filter p (take (suc i) ns)) (filter p (take (suc i) ns)))) ≡ holds x (cond (p n) (n.id ∷ numbers (cond t (m ∷ filter p (take i ns)) (filter p (take i ns)))) (numbers (cond t (m ∷ filter p (take i ns)) (filter p (take i ns)))))) [
      | true ↦ ap (λ (t : Bool). (m.id == x) || t) h ∙ elim (p n) as (λ t. ((m.id == x) || holds x (cond t (n.id ∷ old) old)) ≡ holds x (cond t (n.id ∷ (m.id ∷ old)) (m.id ∷ old))) [
        | true ↦ swap-or (m.id == x) (n.id == x) (holds x old)
        | false ↦ refl
      ]
      | false ↦ h
    ]
