-- Of the boxes that the root doesn't reach no more are fed than open, so a graph that is lower stays lower without them.
use Rattle.std.proofs.Common.{ℕ, ◌==◌, ◌≡◌, ◌≤◌, ◌+◌, ◌&&◌, cond, not, Bool, true, false, List, [], ◌∷◌, map, refl, sym, ap, ap₂, subst, ◌∙◌, inl, inr, arith}
use Rattle.std.proofs.lemmas.Bool.{and_from, and_parts, cases_Bool, eq-eqb, not-true, or_left}
use Rattle.qgm_core.specs.Boxes.{Ordered, QueryGraph, has_box, is_box, numbers, overs_in, overs_of}
use Rattle.qgm_core.specs.Free.{IsFree, free_in, reached}
use Rattle.list_laws.specs.Lists.{EachOnce, In, first, holds, times}
use Rattle.qgm_core.specs.declared.node.Node.{Node}
use Rattle.qgm_core.specs.declared.owned.OwnedQuant.{OwnedQuant}
use Rattle.qgm_wellformed.specs.Sentences.{WellFormed}
use Rattle.qgm_wellformed.specs.Shapes.{only}
use Rattle.qgm_wellformed.specs.WellFormed.{is_empty}
use Rattle.qgm_wellformed.specs.declared.clause.Clause.TheVariants.{I1}
use Rattle.qgm_wellformed.proofs.Below.{free-free}
use Rattle.qgm_wellformed.proofs.Faults.{finds-none, well-ordered}
use Rattle.qgm_edit_laws.specs.Graph.{Sound}
use Rattle.qgm_edit_laws.proofs.Compact.{Drops, compact-sound, in-kept, kept, reaches}
use Rattle.qgm_edit_laws.proofs.Formed.{sound-checked}
use Rattle.qgm_edit_laws.proofs.Ranks.{has-in}
use Rattle.qgm_edit_laws.proofs.Scope.{in-first, one-parent, only-loose, unfold-loose}
use Rattle.qgm_meaning.specs.Scope.{loose}
use Rattle.qgm_props.specs.Calm.{is_closed}
use Rattle.qgm_props.specs.Measure.{fed_in, is_fed_box, is_loose_scalar, is_open, keyless_found, many, summed, weight}
use Rattle.qgm_props.proofs.FedShapes.{fed-shape, not-root, used-once}
use Rattle.qgm_props.proofs.Many.{many-append, many-fewer, many-same, summed-less}
use Rattle.qgm_props.proofs.NeverNegative.{fed-select}
use Rattle.qgm_core.proofs.KindTests.{fed-is}
use Rattle.qgm_core.proofs.Reaching.{in-has, overs-held}
use Rattle.rule_magic.specs.AbsorbMeasure.{CompactLowers}
use Rattle.rule_magic.proofs.AbsorbShared.{closed-looks, loose-scalar, looks-closed}
use Rattle.list_laws.proofs.Booleans.{clash}
use Rattle.list_laws.proofs.Membership.{eq-itself, in-append, in-map}

-- ---- numbers of boxes that pass, counted at their boxes

module _ (p : ℕ → Bool) where
  -- of these boxes those that pass, each as often as its number stands there
  abbrev often : List ℕ → List Node → ℕ
  often ls ys = summed (λ (y : Node). cond (p y.id) (times y.id ls) 0) ys

  here : (z : ℕ) → p z ≡ true → (ys : List Node) (y : Node) → In y ys → y.id ≡ z → 1 ≤ summed (λ (y : Node). cond (p y.id) (cond (z == y.id) 1 0) 0) ys
  here z t [] y i e = elim i [ ]
  here z t (x ∷ ys) y i e = elim i [
    | inl k ↦ (
        let id : x.id ≡ z = ap (λ (y : Node). y.id) k ∙ e in
        let a : cond (p x.id) (cond (z == x.id) 1 0) 0 ≡ ◌+◌ 1 0 = ap₂ (λ (b c : Bool). cond b (cond c 1 0) 0) (ap p id ∙ t) (eq-eqb z x.id (sym id)) ∙ omega arith in
        omega (arith, a))
    | inr j ↦ (let b = here z t ys y j e in omega (arith, b))
  ]

  split-times : (z : ℕ) (ls : List ℕ) (ys : List Node) → often (z ∷ ls) ys ≡ summed (λ (y : Node). cond (p y.id) (cond (z == y.id) 1 0) 0) ys + often ls ys
  split-times z ls [] = omega arith
  split-times z ls (y ∷ ys) =
      let h = split-times z ls ys in
      let a : cond (p y.id) (cond (z == y.id) 1 0 + times y.id ls) 0 ≡ cond (p y.id) (cond (z == y.id) 1 0) 0 + cond (p y.id) (times y.id ls) 0 = one (p y.id) (cond (z == y.id) 1 0) (times y.id ls) in
      omega (arith, h, a)
    where
      one : (b : Bool) (m n : ℕ) → cond b (m + n) 0 ≡ cond b m 0 + cond b n 0
      one true m n = refl
      one false m n = omega arith

  at-boxes : (ls : List ℕ) (ys : List Node) → ((z : ℕ) → In z ls → (y : Node) × (In y ys × (y.id ≡ z))) → many p ls ≤ often ls ys
  at-boxes [] ys h = omega arith
  at-boxes (z ∷ ls) ys h =
      let rest = at-boxes ls ys (λ x i. h x (inr i)) in
      let s = split-times z ls ys in
      elim (cases_Bool (p z)) [
        | inl t ↦ (let y = h z (inl refl) in let a = here z t ys y.0 y.1.0 y.1.1 in let b : cond (p z) 1 0 ≡ ◌+◌ 1 0 = ap (λ b. cond b 1 0) t ∙ omega arith in omega (arith, rest, s, a, b))
        | inr n ↦ (let b : cond (p z) 1 0 ≡ ◌+◌ 0 0 = ap (λ b. cond b 1 0) n ∙ omega arith in omega (arith, rest, s, b))
      ]

  many-flat : (ns : List Node) → many p (overs_in ns) ≡ summed (λ (n : Node). many p (overs_of n)) ns
  many-flat [] = refl
  many-flat (n ∷ ns) = let a = many-append p (overs_of n) (overs_in ns) in let b = many-flat ns in omega (arith, a, b)

  many-in : (z : ℕ) (ls : List ℕ) → In z ls → p z ≡ true → 1 ≤ many p ls
  many-in z [] i t = elim i [ ]
  many-in z (x ∷ ls) i t = elim i [
    | inl e ↦ (let b : cond (p x) 1 0 ≡ ◌+◌ 1 0 = ap (λ b. cond b 1 0) (ap p e ∙ t) ∙ omega arith in omega (arith, b))
    | inr j ↦ (let b = many-in z ls j t in omega (arith, b))
  ]

  -- where each of some boxes ranges over one that passes, there are no more of them than of such quantifiers
  some-fewer : (t : Node → Bool) (ns : List Node) → ((n : Node) → In n ns → t n ≡ true → 1 ≤ many p (overs_of n)) → many t ns ≤ summed (λ (n : Node). many p (overs_of n)) ns
  some-fewer t [] h = omega arith
  some-fewer t (n ∷ ns) h =
      let rest = some-fewer t ns (λ m i. h m (inr i)) in
      elim (cases_Bool (t n)) [
        | inl y ↦ (let a = h n (inl refl) y in let b : cond (t n) 1 0 ≡ ◌+◌ 1 0 = ap (λ b. cond b 1 0) y ∙ omega arith in omega (arith, rest, a, b))
        | inr f ↦ (let b : cond (t n) 1 0 ≡ ◌+◌ 0 0 = ap (λ b. cond b 1 0) f ∙ omega arith in omega (arith, rest, b))
      ]

overs-under : (z : ℕ) (ns : List Node) → In z (overs_in ns) → (n : Node) × ((r : OwnedQuant) × (In n ns × (In r n.quants × (r.over ≡ z))))
overs-under z [] i = elim i [ ]
overs-under z (n ∷ ns) i = elim (in-append z (overs_of n) (overs_in ns) i) [
  | inl j ↦ (let r = in-map (λ (r : OwnedQuant). r.over) z n.quants j in (n, (r.0, (inl refl, r.1))))
  | inr j ↦ (let r = overs-under z ns j in (r.0, (r.1.0, (inr r.1.1.0, r.1.1.1))))
]

ones : (t : Node → Bool) (ys : List Node) → summed (λ (y : Node). cond (t y) 1 0) ys ≡ many t ys
ones t [] = refl
ones t (y ∷ ys) = let h = ones t ys in omega (arith, h)

-- ---- those that stay and those that go

module _ (keep : ℕ → Bool) where
  abbrev goes : (Node → Bool) → Node → Bool
  goes t n = t n && not (keep n.id)

  many-parts : (t : Node → Bool) (ns : List Node) → many t ns ≡ many t (kept keep ns) + many (goes t) ns
  many-parts t [] = omega arith
  many-parts t (n ∷ ns) =
      let h = many-parts t ns in
      elim (cases_Bool (keep n.id)) [
        | inl k ↦ (
            let a : many t (cond (keep n.id) (n ∷ kept keep ns) (kept keep ns)) ≡ cond (t n) 1 0 + many t (kept keep ns) = ap (λ b. many t (cond b (n ∷ kept keep ns) (kept keep ns))) k in
            let b : cond (t n && not (keep n.id)) 1 0 ≡ ◌+◌ 0 0 = ap (λ z. cond (t n && not z) 1 0) k ∙ none (t n) in
            omega (arith, h, a, b))
        | inr k ↦ (
            let a : many t (cond (keep n.id) (n ∷ kept keep ns) (kept keep ns)) ≡ many t (kept keep ns) = ap (λ b. many t (cond b (n ∷ kept keep ns) (kept keep ns))) k in
            let b : ◌≡◌ {A = ℕ} (cond (t n && not (keep n.id)) 1 0) (cond (t n) 1 0) = ap (λ z. cond (t n && not z) 1 0) k ∙ same (t n) in
            omega (arith, h, a, b))
      ]
    where
      none : (b : Bool) → cond (b && false) 1 0 ≡ ◌+◌ 0 0
      none true = omega arith
      none false = omega arith

      same : (b : Bool) → ◌≡◌ {A = ℕ} (cond (b && true) 1 0) (cond b 1 0)
      same true = refl
      same false = refl

  summed-parts : (f : Node → ℕ) (ns : List Node) → summed f (kept keep ns) ≤ summed f ns
  summed-parts f [] = omega arith
  summed-parts f (n ∷ ns) =
      let h = summed-parts f ns in
      elim (cases_Bool (keep n.id)) [
        | inl k ↦ (let a : summed f (cond (keep n.id) (n ∷ kept keep ns) (kept keep ns)) ≡ f n + summed f (kept keep ns) = ap (λ b. summed f (cond b (n ∷ kept keep ns) (kept keep ns))) k in omega (arith, h, a))
        | inr k ↦ (let a : summed f (cond (keep n.id) (n ∷ kept keep ns) (kept keep ns)) ≡ summed f (kept keep ns) = ap (λ b. summed f (cond b (n ∷ kept keep ns) (kept keep ns))) k in omega (arith, h, a))
      ]

only-some : (q : ℕ) (xs : List ℕ) → only q xs ≡ true → is_empty xs ≡ false
only-some q [] h = absurd (let z : ⊥ = cc in z)
only-some q (x ∷ xs) h = refl

not-empty : (xs : List ℕ) → not (is_empty xs) ≡ true → (q : ℕ) × (holds q xs ≡ true)
not-empty [] h = absurd (let z : ⊥ = cc in z)
not-empty (x ∷ xs) h = (x, or_left (x == x) (holds x xs) (eq-itself x))

-- ---- of a well-formed graph

module _ (g : QueryGraph) (once : EachOnce (numbers g.boxes)) (wf : WellFormed g) where
  abbrev bs : List Node
  bs = g.boxes

  abbrev keep : ℕ → Bool
  keep b = holds b (reached (g.root ∷ []) g.boxes)

  abbrev ks : List Node
  ks = kept keep g.boxes

  o : Ordered g.boxes
  o = well-ordered g once wf

  w : Sound g.boxes g.root
  w = ((sound-checked g once).0 ((finds-none g once).1 wf)).0

  v : Sound ks g.root
  v = compact-sound g.boxes g.root w

  drops : Drops keep g.boxes g.root
  drops = reaches g.boxes g.root o

  same-loose : (b : ℕ) → has_box ks b ≡ true → loose ks b ≡ loose g.boxes b
  same-loose b h = only-loose (loose g.boxes) ks v.ordered (λ n i. sym (unfold-loose g.boxes n o (in-kept keep n g.boxes i).0)) b h

  same-closed : (n : Node) → In n ks → is_open ks n ≡ is_open g.boxes n
  same-closed n i =
      let e : (q : ℕ) → loose ks n.id q ≡ loose g.boxes n.id q = λ q. ap (λ (k : ℕ → Bool). k q) (same-loose n.id (in-has n ks i)) in
      ap not (elim (cases_Bool (is_closed g.boxes n.id)) [
        | inl t ↦ looks-closed ks g.root v n.id (λ q. e q ∙ closed-looks g.boxes g.root w n.id t q) ∙ sym t
        | inr f ↦ elim (cases_Bool (is_closed ks n.id)) [
          | inr k ↦ k ∙ sym f
          | inl t ↦ absurd (clash (is_closed g.boxes n.id) (looks-closed g.boxes g.root w n.id (λ q. sym (e q) ∙ closed-looks ks g.root v n.id t q)) f)
        ]
      ])

  same-scalars : (n : Node) → In n ks → (r : OwnedQuant) → In r n.quants → is_loose_scalar ks r ≡ true → is_loose_scalar g.boxes r ≡ true
  same-scalars n i r j t =
      let u = has-in r.over ks (overs-held ks n r v.ordered i j) in
      let a : first (is_box r.over) ks ≡ first (is_box r.over) g.boxes = subst (λ b. first (is_box b) ks ≡ first (is_box b) g.boxes) u.1.1 (in-first u.0 ks v.ordered u.1.0 ∙ sym (in-first u.0 g.boxes o (in-kept keep u.0 g.boxes u.1.0).0)) in
      loose-scalar g.boxes ks r (ap keyless_found a) t

  -- a number of an open box that goes
  abbrev passes : ℕ → Bool
  passes b = not (is_closed g.boxes b) && not (keep b)

  fed-over : (n : Node) → In n g.boxes → goes keep is_fed_box n ≡ true → 1 ≤ many passes (overs_of n)
  fed-over n i t =
      let x = and_parts (is_fed_box n) (not (keep n.id)) t in
      let e = fed-is n.parts.role x.0 in
      let s = fed-shape g once wf n i (fed-select g once wf n i e) e in
      let in-r : In s.r n.quants = subst (λ (z : List OwnedQuant). In s.r z) (sym s.quants) (inr (inl refl)) in
      let opened : not (is_closed g.boxes s.r.over) ≡ true = ap not (only-some s.a.id (free_in g.boxes s.r.over) s.alone) in
      let c = has-in s.r.over g.boxes (overs-held g.boxes n s.r o i in-r) in
      let f = not-empty (free_in g.boxes c.0.id) (subst (λ b. not (is_closed g.boxes b) ≡ true) (sym c.1.1) opened) in
      let free : (q : ℕ) × IsFree g.boxes c.0.id q = (f.0, (free-free g.boxes o c.0.id f.0).0 f.1) in
      let gone : keep s.r.over ≡ false = elim (cases_Bool (keep s.r.over)) [
        | inr k ↦ k
        | inl k ↦ absurd (elim (drops.under s.r.over k) [
          | inl z ↦ not-root g once wf c.0 c.1.0 free (c.1.1 ∙ z)
          | inr z ↦ (
              let one : times c.0.id (overs_in g.boxes) ≡ 1 = used-once g once wf c.0 c.1.0 free in
              let same : z.0 ≡ n = one-parent g.boxes g.root w c.0.id z.0 n z.1.1.1.0 s.r (omega (arith, one)) z.1.0 i z.1.1.1.1.0 in-r (z.1.1.1.1.1 ∙ sym c.1.1) (sym c.1.1) in
              clash (keep n.id) (subst (λ (y : Node). keep y.id ≡ true) same z.1.1.0) (not-true (keep n.id) x.1))
        ])
      ] in
      many-in passes s.r.over (overs_of n) (subst (λ (z : List OwnedQuant). In s.r.over (map (λ (r : OwnedQuant). r.over) z)) (sym s.quants) (inr (inl refl)))
      (and_from (not (is_closed g.boxes s.r.over)) (not (keep s.r.over)) opened (ap not gone))

  each-open : (y : Node) → In y g.boxes → cond (passes y.id) (times y.id (overs_in g.boxes)) 0 ≤ cond (goes keep (is_open g.boxes) y) 1 0
  each-open y i = elim (cases_Bool (passes y.id)) [
    | inr f ↦ (let a : cond (passes y.id) (times y.id (overs_in g.boxes)) 0 ≡ ◌+◌ 0 0 = ap (λ b. cond b (times y.id (overs_in g.boxes)) 0) f ∙ omega arith in omega (arith, a))
    | inl t ↦ (
        let f = not-empty (free_in g.boxes y.id) (and_parts (not (is_closed g.boxes y.id)) (not (keep y.id)) t).0 in
        let u : times y.id (overs_in g.boxes) ≡ 1 = used-once g once wf y i (f.0, (free-free g.boxes o y.id f.0).0 f.1) in
        let a : cond (passes y.id) (times y.id (overs_in g.boxes)) 0 ≡ times y.id (overs_in g.boxes) = ap (λ b. cond b (times y.id (overs_in g.boxes)) 0) t in
        let b : cond (goes keep (is_open g.boxes) y) 1 0 ≡ ◌+◌ 1 0 = ap (λ b. cond b 1 0) t ∙ omega arith in
        omega (arith, u, a, b))
  ]

  -- so of those that go no more are fed than open
  gone-fewer : many (goes keep is_fed_box) g.boxes ≤ many (goes keep (is_open g.boxes)) g.boxes
  gone-fewer =
      let a = some-fewer passes (goes keep is_fed_box) g.boxes fed-over in
      let b = many-flat passes g.boxes in
      let c = at-boxes passes (overs_in g.boxes) g.boxes (λ z i. let u = overs-under z g.boxes i in let m = has-in u.1.0.over g.boxes ((wf.kept I1 u.0 u.1.1.0).0 u.1.0 u.1.1.1.0) in (m.0, (m.1.0, m.1.1 ∙ u.1.1.1.1))) in
      let d = summed-less (λ (y : Node). cond (passes y.id) (times y.id (overs_in g.boxes)) 0) (λ (y : Node). cond (goes keep (is_open g.boxes) y) 1 0) g.boxes each-open in
      let e = ones (goes keep (is_open g.boxes)) g.boxes in
      omega (arith, a, b, c, d, e)

  -- what stays weighs so much less
  pub compact-less : weight ks + fed_in g.boxes ≤ weight g.boxes + fed_in ks
  compact-less =
      let opened = many-parts keep (is_open g.boxes) g.boxes in
      let fed = many-parts keep is_fed_box g.boxes in
      let fewer = gone-fewer in
      let same : many (is_open ks) ks ≡ many (is_open g.boxes) ks = many-same (is_open ks) (is_open g.boxes) ks same-closed in
      let less : summed (λ (n : Node). many (is_loose_scalar ks) n.quants) ks ≤ summed (λ (n : Node). many (is_loose_scalar g.boxes) n.quants) ks =
      summed-less (λ (n : Node). many (is_loose_scalar ks) n.quants) (λ (n : Node). many (is_loose_scalar g.boxes) n.quants) ks (λ n i. many-fewer (is_loose_scalar ks) (is_loose_scalar g.boxes) n.quants (same-scalars n i)) in
      let more = summed-parts keep (λ (n : Node). many (is_loose_scalar g.boxes) n.quants) g.boxes in
      omega (arith, opened, fed, fewer, same, less, more)

pub compact-lowers : CompactLowers
compact-lowers = λ g h once wf l. (let c = compact-less h once wf in omega (arith, c, l))
