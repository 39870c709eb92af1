-- The magic box under a fed box has a column: the open box reads one.
use Rattle.std.proofs.Common.{ℕ, ◌==◌, ◌≡◌, ◌≤◌, ◌&&◌, ◌||◌, true, false, List, [], ◌∷◌, refl, subst, inl, inr, arith}
use Rattle.std.specs.Prelude as p
use Rattle.std.specs.List.{list_any}
use Rattle.std.proofs.lemmas.Bool.{and_from, and_parts, or_cases, or_left, or_right}
use Rattle.qgm_core.specs.Boxes.{QueryGraph, is_quant, numbers, width}
use Rattle.qgm_core.specs.Kinds.{is_F}
use Rattle.list_laws.specs.Lists.{EachOnce, In}
use Rattle.qgm_core.specs.declared.node.Node.{Node}
use Rattle.qgm_core.specs.declared.owned.OwnedQuant.{OwnedQuant}
use Rattle.qgm_wellformed.specs.Sentences.{WellFormed}
use Rattle.qgm_edit_laws.specs.Graph.{Sound, binds_row, nodes_in, reads_in}
use Rattle.qgm_edit_laws.proofs.FreeLoose.{looks-free}
use Rattle.qgm_edit_laws.proofs.Read.{named-split}
use Rattle.qgm_edit_laws.proofs.Scope.{one-owner}
use Rattle.qgm_meaning.specs.Scope.{read_by}
use Rattle.qgm_meaning.specs.Searches.{reads_arms, reads_at_arms}
use Rattle.qgm_props.specs.Inferred.{Facts}
use Rattle.qgm_props.specs.Laws.{Tells}
use Rattle.qgm_terms.specs.Terms.{Term, int, text, null_int, null_text, col, both, minus_of, choose, count_all, fold, scalar, Arms, no_arm, arm, Cond, always, compare, is_null, and, or, not, some, every}
use Rattle.qgm_terms.specs.Wanted.{reads, reads_at, reads_at_cond, reads_cond}
use Rattle.rule_magic.specs.Places.{MayAbsorb}
use Rattle.rule_magic.proofs.AbsorbSelectFormed as made
use Rattle.list_laws.proofs.Membership.{any-from, eq-itself}
use Rattle.list_laws.proofs.Booleans.{clash}

module _ (q : ℕ) where
  mutual
    pub term-place : (x : Term) → reads q x ≡ true → (k : ℕ) × (reads_at q k x ≡ true)
    term-place (int n) h = absurd (let z : ⊥ = cc in z)
    term-place (text s) h = absurd (let z : ⊥ = cc in z)
    term-place null_int h = absurd (let z : ⊥ = cc in z)
    term-place null_text h = absurd (let z : ⊥ = cc in z)
    term-place (col r k) h = (k, and_from (r == q) (k == k) h (eq-itself k))
    term-place (both o x y) h = elim (or_cases (reads q x) (reads q y) h) [
      | inl e ↦ (let z = term-place x e in (z.0, or_left (reads_at q z.0 x) (reads_at q z.0 y) z.1))
      | inr e ↦ (let z = term-place y e in (z.0, or_right (reads_at q z.0 x) (reads_at q z.0 y) z.1))
    ]
    term-place (minus_of x) h = term-place x h
    term-place (choose s x) h = elim (or_cases (reads_arms q s) (reads q x) h) [
      | inl e ↦ (let z = arms-place s e in (z.0, or_left (reads_at_arms q z.0 s) (reads_at q z.0 x) z.1))
      | inr e ↦ (let z = term-place x e in (z.0, or_right (reads_at_arms q z.0 s) (reads_at q z.0 x) z.1))
    ]
    term-place count_all h = absurd (let z : ⊥ = cc in z)
    term-place (fold f e x) h = term-place x h
    term-place (scalar r) h = absurd (let z : ⊥ = cc in z)

    arms-place : (s : Arms) → reads_arms q s ≡ true → (k : ℕ) × (reads_at_arms q k s ≡ true)
    arms-place no_arm h = absurd (let z : ⊥ = cc in z)
    arms-place (arm c x s) h = elim (or_cases (reads_cond q c) (reads q x || reads_arms q s) h) [
      | inl e ↦ (let z = cond-place c e in (z.0, or_left (reads_at_cond q z.0 c) (reads_at q z.0 x || reads_at_arms q z.0 s) z.1))
      | inr e ↦ elim (or_cases (reads q x) (reads_arms q s) e) [
        | inl e ↦ (let z = term-place x e in (z.0, or_right (reads_at_cond q z.0 c) (reads_at q z.0 x || reads_at_arms q z.0 s) (or_left (reads_at q z.0 x) (reads_at_arms q z.0 s) z.1)))
        | inr e ↦ (let z = arms-place s e in (z.0, or_right (reads_at_cond q z.0 c) (reads_at q z.0 x || reads_at_arms q z.0 s) (or_right (reads_at q z.0 x) (reads_at_arms q z.0 s) z.1)))
      ]
    ]

    pub cond-place : (c : Cond) → reads_cond q c ≡ true → (k : ℕ) × (reads_at_cond q k c ≡ true)
    cond-place always h = absurd (let z : ⊥ = cc in z)
    cond-place (compare g x y) h = elim (or_cases (reads q x) (reads q y) h) [
      | inl e ↦ (let z = term-place x e in (z.0, or_left (reads_at q z.0 x) (reads_at q z.0 y) z.1))
      | inr e ↦ (let z = term-place y e in (z.0, or_right (reads_at q z.0 x) (reads_at q z.0 y) z.1))
    ]
    cond-place (is_null x) h = term-place x h
    cond-place (and c d) h = elim (or_cases (reads_cond q c) (reads_cond q d) h) [
      | inl e ↦ (let z = cond-place c e in (z.0, or_left (reads_at_cond q z.0 c) (reads_at_cond q z.0 d) z.1))
      | inr e ↦ (let z = cond-place d e in (z.0, or_right (reads_at_cond q z.0 c) (reads_at_cond q z.0 d) z.1))
    ]
    cond-place (or c d) h = elim (or_cases (reads_cond q c) (reads_cond q d) h) [
      | inl e ↦ (let z = cond-place c e in (z.0, or_left (reads_at_cond q z.0 c) (reads_at_cond q z.0 d) z.1))
      | inr e ↦ (let z = cond-place d e in (z.0, or_right (reads_at_cond q z.0 c) (reads_at_cond q z.0 d) z.1))
    ]
    cond-place (not c) h = cond-place c h
    cond-place (some r c) h = let a = and_parts (p.not (r == q)) (reads_cond q c) h in let z = cond-place c a.1 in (z.0, and_from (p.not (r == q)) (reads_at_cond q z.0 c) a.0 z.1)
    cond-place (every r c) h = let a = and_parts (p.not (r == q)) (reads_cond q c) h in let z = cond-place c a.1 in (z.0, and_from (p.not (r == q)) (reads_at_cond q z.0 c) a.0 z.1)

  heads-place : (xs : List Term) → list_any (reads q) xs ≡ true → (k : ℕ) × (list_any (reads_at q k) xs ≡ true)
  heads-place [] h = absurd (let z : ⊥ = cc in z)
  heads-place (x ∷ xs) h = elim (or_cases (reads q x) (list_any (reads q) xs) h) [
    | inl e ↦ (let z = term-place x e in (z.0, or_left (reads_at q z.0 x) (list_any (reads_at q z.0) xs) z.1))
    | inr e ↦ (let z = heads-place xs e in (z.0, or_right (reads_at q z.0 x) (list_any (reads_at q z.0) xs) z.1))
  ]

  conds-place : (xs : List Cond) → list_any (reads_cond q) xs ≡ true → (k : ℕ) × (list_any (reads_at_cond q k) xs ≡ true)
  conds-place [] h = absurd (let z : ⊥ = cc in z)
  conds-place (x ∷ xs) h = elim (or_cases (reads_cond q x) (list_any (reads_cond q) xs) h) [
    | inl e ↦ (let z = cond-place x e in (z.0, or_left (reads_at_cond q z.0 x) (list_any (reads_at_cond q z.0) xs) z.1))
    | inr e ↦ (let z = conds-place xs e in (z.0, or_right (reads_at_cond q z.0 x) (list_any (reads_at_cond q z.0) xs) z.1))
  ]

  pub read-place : (n : Node) → read_by n q ≡ true → (k : ℕ) × (reads_in q k n ≡ true)
  read-place n h = elim (or_cases (list_any (reads q) n.parts.head) (list_any (reads_cond q) n.parts.conds.items) h) [
    | inl e ↦ (let z = heads-place n.parts.head e in (z.0, or_left (list_any (reads_at q z.0) n.parts.head) (list_any (reads_at_cond q z.0) n.parts.conds.items) z.1))
    | inr e ↦ (let z = conds-place n.parts.conds.items e in (z.0, or_right (list_any (reads_at q z.0) n.parts.head) (list_any (reads_at_cond q z.0) n.parts.conds.items) z.1))
  ]

module _ (g : QueryGraph) (once : EachOnce (numbers g.boxes)) (wf : WellFormed g) (known : Facts) (tells : Tells known g.boxes) (d : Node) (may : MayAbsorb g.boxes known d) where
  w : Sound g.boxes g.root
  w = made.w g once wf known tells d may

  pub wide-magic : 1 ≤ width may.m
  wide-magic =
      let free = looks-free g.boxes g.root w may.c.id may.a.id (made.open-c g once wf known tells d may).0 in
      let n : Node = free.0.0 in
      let i : In n g.boxes = free.0.1.0 in
      let in-a = made.in-a g once wf known tells d may in
      elim (or_cases (read_by n may.a.id) (nodes_in may.a.id n) (named-split may.a.id n free.0.1.1.1)) [
        | inl h ↦ (let z = read-place may.a.id n h in let l = w.fits n i may.a.id z.0 z.1 d may.a may.m may.in_d in-a refl may.in_m may.over_m in let lo = l.0 in let hi = l.1 in omega (arith, lo, hi))
        | inr h ↦ absurd (
            let o = w.own_nodes n i may.a.id h in
            let same : n ≡ d = one-owner g.boxes g.root w may.a.id n d i may.in_d o.0 (any-from (is_quant may.a.id) may.a d.quants in-a (eq-itself may.a.id)) in
            let binds : binds_row may.a.id d.quants ≡ true = any-from (λ (s : OwnedQuant). is_F s.kind && is_quant may.a.id s) may.a d.quants in-a (and_from (is_F may.a.kind) (may.a.id == may.a.id) (made.f-a g once wf known tells d may) (eq-itself may.a.id)) in
            clash (binds_row may.a.id d.quants) binds (subst (λ (z : Node). binds_row may.a.id z.quants ≡ false) same o.1))
      ]
