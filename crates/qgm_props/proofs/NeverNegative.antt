-- There are no more fed boxes than open ones.
use Rattle.std.proofs.Common.{ℕ, ◌==◌, ◌≡◌, ◌≤◌, ◌+◌, ◌&&◌, cond, not, Bool, true, false, List, [], ◌∷◌, map, refl, sym, ap, ap₂, subst, ◌∙◌, eqb-true, inl, inr, arith}
use Rattle.std.proofs.lemmas.Bool.{and_parts, cases_Bool, eq-eqb, or_left}
use Rattle.qgm_core.specs.Boxes.{Ordered, QueryGraph, has_box, is_box, numbers, overs_in, overs_of}
use Rattle.qgm_core.specs.Free.{free_in}
use Rattle.qgm_core.specs.Kinds.{is_plain}
use Rattle.list_laws.specs.Lists.{EachOnce, In, holds, times}
use Rattle.qgm_core.specs.declared.kinds.BoxKind.{BoxKind}
use Rattle.qgm_core.specs.declared.kinds.BoxKind.TheVariants.{Base, Select, Group, SetOp, OuterJoin}
use Rattle.qgm_core.specs.declared.kinds.Role.TheVariants.{Fed}
use Rattle.qgm_core.specs.declared.node.Node.{Node}
use Rattle.qgm_core.specs.declared.owned.OwnedQuant.{OwnedQuant}
use Rattle.qgm_wellformed.specs.Sentences.{WellFormed}
use Rattle.qgm_wellformed.specs.Shapes.{are_F, head_folds, head_is_own, is_group, is_none, kind_fits, only}
use Rattle.qgm_wellformed.specs.declared.clause.Clause.TheVariants.{I1}
use Rattle.qgm_wellformed.specs.WellFormed.{is_empty}
use Rattle.qgm_wellformed.proofs.Below.{free-free}
use Rattle.qgm_wellformed.proofs.Faults.{well-ordered}
use Rattle.qgm_props.specs.Calm.{is_closed}
use Rattle.qgm_props.specs.Measure.{NeverNegative, fed_in, is_fed_box, is_open, many, summed}
use Rattle.qgm_props.proofs.FedShapes.{fed-shape, shape-kind, used-once}
use Rattle.qgm_props.proofs.Many.{many-append, summed-less}
use Rattle.qgm_core.proofs.KindTests.{fed-is}
use Rattle.list_laws.proofs.Membership.{any-in, eq-itself, in-append, in-map}

has-in : (b : ℕ) (ns : List Node) → has_box ns b ≡ true → (n : Node) × (In n ns × (n.id ≡ b))
has-in b ns h = let r = any-in (is_box b) ns h in (r.0, (r.1.0, eqb-true r.0.id b r.1.1))

module _ (p : ℕ → Bool) where
  -- of these boxes those that pass, each as often as its number stands there
  abbrev often : List ℕ → List Node → ℕ
  often ls ys = summed (λ (y : Node). cond (p y.id) (times y.id ls) 0) ys

  here : (z : ℕ) → p z ≡ true → (ys : List Node) (y : Node) → In y ys → y.id ≡ z → 1 ≤ summed (λ (y : Node). cond (p y.id) (cond (z == y.id) 1 0) 0) ys
  here z t [] y i e = elim i [ ]
  here z t (x ∷ ys) y i e = elim i [
    | inl k ↦ (
        let id : x.id ≡ z = ap (λ (y : Node). y.id) k ∙ e in
        let a : cond (p x.id) (cond (z == x.id) 1 0) 0 ≡ ◌+◌ 1 0 = ap₂ (λ (b c : Bool). cond b (cond c 1 0) 0) (ap p id ∙ t) (eq-eqb z x.id (sym id)) ∙ omega arith in
        omega (arith, a))
    | inr j ↦ (let b = here z t ys y j e in omega (arith, b))
  ]

  split-times : (z : ℕ) (ls : List ℕ) (ys : List Node) → often (z ∷ ls) ys ≡ summed (λ (y : Node). cond (p y.id) (cond (z == y.id) 1 0) 0) ys + often ls ys
  split-times z ls [] = omega arith
  split-times z ls (y ∷ ys) =
      let h = split-times z ls ys in
      let a : cond (p y.id) (cond (z == y.id) 1 0 + times y.id ls) 0 ≡ cond (p y.id) (cond (z == y.id) 1 0) 0 + cond (p y.id) (times y.id ls) 0 = one (p y.id) (cond (z == y.id) 1 0) (times y.id ls) in
      omega (arith, h, a)
    where
      one : (b : Bool) (m n : ℕ) → cond b (m + n) 0 ≡ cond b m 0 + cond b n 0
      one true m n = refl
      one false m n = omega arith

  -- numbers of boxes that pass, one by one, are counted at their boxes
  at-boxes : (ls : List ℕ) (ys : List Node) → ((z : ℕ) → In z ls → (y : Node) × (In y ys × (y.id ≡ z))) → many p ls ≤ often ls ys
  at-boxes [] ys h = omega arith
  at-boxes (z ∷ ls) ys h =
      let rest = at-boxes ls ys (λ x i. h x (inr i)) in
      let s = split-times z ls ys in
      elim (cases_Bool (p z)) [
        | inl t ↦ (let y = h z (inl refl) in let a = here z t ys y.0 y.1.0 y.1.1 in let b : cond (p z) 1 0 ≡ ◌+◌ 1 0 = ap (λ b. cond b 1 0) t ∙ omega arith in omega (arith, rest, s, a, b))
        | inr n ↦ (let b : cond (p z) 1 0 ≡ ◌+◌ 0 0 = ap (λ b. cond b 1 0) n ∙ omega arith in omega (arith, rest, s, b))
      ]

  many-flat : (ns : List Node) → many p (overs_in ns) ≡ summed (λ (n : Node). many p (overs_of n)) ns
  many-flat [] = refl
  many-flat (n ∷ ns) = let a = many-append p (overs_of n) (overs_in ns) in let b = many-flat ns in omega (arith, a, b)

  many-in : (z : ℕ) (ls : List ℕ) → In z ls → p z ≡ true → 1 ≤ many p ls
  many-in z [] i t = elim i [ ]
  many-in z (x ∷ ls) i t = elim i [
    | inl e ↦ (let b : cond (p x) 1 0 ≡ ◌+◌ 1 0 = ap (λ b. cond b 1 0) (ap p e ∙ t) ∙ omega arith in omega (arith, b))
    | inr j ↦ (let b = many-in z ls j t in omega (arith, b))
  ]

fed-fewer : (p : ℕ → Bool) (ns : List Node) → ((n : Node) → In n ns → is_fed_box n ≡ true → 1 ≤ many p (overs_of n)) → many is_fed_box ns ≤ summed (λ (n : Node). many p (overs_of n)) ns
fed-fewer p [] h = omega arith
fed-fewer p (n ∷ ns) h =
    let rest = fed-fewer p ns (λ m i. h m (inr i)) in
    elim (cases_Bool (is_fed_box n)) [
      | inl t ↦ (let a = h n (inl refl) t in let b : cond (is_fed_box n) 1 0 ≡ ◌+◌ 1 0 = ap (λ b. cond b 1 0) t ∙ omega arith in omega (arith, rest, a, b))
      | inr f ↦ (let b : cond (is_fed_box n) 1 0 ≡ ◌+◌ 0 0 = ap (λ b. cond b 1 0) f ∙ omega arith in omega (arith, rest, b))
    ]

overs-under : (z : ℕ) (ns : List Node) → In z (overs_in ns) → (n : Node) × ((r : OwnedQuant) × (In n ns × (In r n.quants × (r.over ≡ z))))
overs-under z [] i = elim i [ ]
overs-under z (n ∷ ns) i = elim (in-append z (overs_of n) (overs_in ns) i) [
  | inl j ↦ (let r = in-map (λ (r : OwnedQuant). r.over) z n.quants j in (n, (r.0, (inl refl, r.1))))
  | inr j ↦ (let r = overs-under z ns j in (r.0, (r.1.0, (inr r.1.1.0, r.1.1.1))))
]

only-some : (q : ℕ) (xs : List ℕ) → only q xs ≡ true → is_empty xs ≡ false
only-some q [] h = absurd (let z : ⊥ = cc in z)
only-some q (x ∷ xs) h = refl

module _ (g : QueryGraph) (once : EachOnce (numbers g.boxes)) (w : WellFormed g) where
  abbrev passes : ℕ → Bool
  passes b = not (is_closed g.boxes b)

  o : Ordered g.boxes
  o = well-ordered g once w

  not-empty : (xs : List ℕ) → not (is_empty xs) ≡ true → (q : ℕ) × (holds q xs ≡ true)
  not-empty [] h = absurd (let z : ⊥ = cc in z)
  not-empty (x ∷ xs) h = (x, or_left (x == x) (holds x xs) (eq-itself x))

  pub fed-select : (n : Node) → In n g.boxes → n.parts.role ≡ Fed → n.parts.kind ≡ Select
  fed-select n i e = at n.parts.kind refl (shape-kind g once w n i)
    where
      plain-not : (b : Bool) → (b && is_plain n.parts.role) ≡ true → ⊥
      plain-not b h = let a = and_parts b (is_plain n.parts.role) h in let z : is_plain Fed ≡ true = subst (λ r. is_plain r ≡ true) e a.1 in let y : ⊥ = cc in y

      at : (k : BoxKind) → n.parts.kind ≡ k → kind_fits g.root g.boxes n n.parts.kind ≡ true → n.parts.kind ≡ Select
      at (Base t) k h = absurd (plain-not _ (subst (λ z. kind_fits g.root g.boxes n z ≡ true) k h))
      at Select k h = k
      at (Group t) k h = absurd (group-not (subst (λ z. kind_fits g.root g.boxes n z ≡ true) k h))
        where
          group-not : is_group t n ≡ true → ⊥
          group-not h =
              let a = and_parts (are_F 1 n.quants && is_none n.parts.conds.items && is_plain n.parts.role && head_folds t n.parts.head) (head_is_own n) h in
              let b = and_parts (are_F 1 n.quants && is_none n.parts.conds.items && is_plain n.parts.role) (head_folds t n.parts.head) a.0 in
              plain-not (are_F 1 n.quants && is_none n.parts.conds.items) b.0
      at (SetOp f t) k h = absurd (plain-not _ (subst (λ z. kind_fits g.root g.boxes n z ≡ true) k h))
      at OuterJoin k h = absurd (plain-not _ (subst (λ z. kind_fits g.root g.boxes n z ≡ true) k h))

  fed-over : (n : Node) → In n g.boxes → is_fed_box n ≡ true → 1 ≤ many passes (overs_of n)
  fed-over n i t =
      let e = fed-is n.parts.role t in
      let s = fed-shape g once w n i (fed-select n i e) e in
      many-in passes s.r.over (overs_of n) (subst (λ (z : List OwnedQuant). In s.r.over (map (λ (r : OwnedQuant). r.over) z)) (sym s.quants) (inr (inl refl))) (ap not (only-some s.a.id (free_in g.boxes s.r.over) s.alone))

  each-open : (y : Node) → In y g.boxes → cond (passes y.id) (times y.id (overs_in g.boxes)) 0 ≤ cond (is_open g.boxes y) 1 0
  each-open y i = elim (cases_Bool (passes y.id)) [
    | inr f ↦ (let a : cond (passes y.id) (times y.id (overs_in g.boxes)) 0 ≡ ◌+◌ 0 0 = ap (λ b. cond b (times y.id (overs_in g.boxes)) 0) f ∙ omega arith in omega (arith, a))
    | inl t ↦ (
        let f = not-empty (free_in g.boxes y.id) t in
        let u : times y.id (overs_in g.boxes) ≡ 1 = used-once g once w y i (f.0, (free-free g.boxes o y.id f.0).0 f.1) in
        let a : cond (passes y.id) (times y.id (overs_in g.boxes)) 0 ≡ times y.id (overs_in g.boxes) = ap (λ b. cond b (times y.id (overs_in g.boxes)) 0) t in
        let b : cond (is_open g.boxes y) 1 0 ≡ ◌+◌ 1 0 = ap (λ b. cond b 1 0) t ∙ omega arith in
        omega (arith, u, a, b))
  ]

  ones : (ys : List Node) → summed (λ (y : Node). cond (is_open g.boxes y) 1 0) ys ≡ many (is_open g.boxes) ys
  ones [] = refl
  ones (y ∷ ys) = let h = ones ys in omega (arith, h)

  positive : fed_in g.boxes ≤ many (is_open g.boxes) g.boxes
  positive =
      let a = fed-fewer passes g.boxes fed-over in
      let b = many-flat passes g.boxes in
      let c = at-boxes passes (overs_in g.boxes) g.boxes (λ z i. let u = overs-under z g.boxes i in let m = has-in u.1.0.over g.boxes ((w.kept I1 u.0 u.1.1.0).0 u.1.0 u.1.1.1.0) in (m.0, (m.1.0, m.1.1 ∙ u.1.1.1.1))) in
      let d = summed-less (λ (y : Node). cond (passes y.id) (times y.id (overs_in g.boxes)) 0) (λ (y : Node). cond (is_open g.boxes y) 1 0) g.boxes each-open in
      let e = ones g.boxes in
      omega (arith, a, b, c, d, e)

pub never-negative : NeverNegative
never-negative = λ g once w. positive g once w
