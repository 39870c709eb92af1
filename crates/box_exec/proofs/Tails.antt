-- The boxes behind a box of a graph: what is said of them there is said of them in the whole graph.
use Rattle.std.proofs.Common.{ℕ, ◌==◌, ◌≡◌, cond, Bool, true, List, [], ◌∷◌, Some, refl, sym, ap, subst, ◌∙◌, eqb-true, ◌⊎◌, inl, inr}
use Rattle.std.proofs.lemmas.Bool.{or_right}
use Rattle.qgm_core.specs.Boxes.{Ordered, has_box, is_box}
use Rattle.qgm_core.specs.Free.{Reaches, itself, through}
use Rattle.list_laws.specs.Lists.{In, first}
use Rattle.qgm_core.specs.declared.node.Node.{Node}
use Rattle.qgm_core.specs.declared.owned.OwnedQuant.{OwnedQuant}
use Rattle.qgm_meaning.specs.Ranks.{by_rank}
use Rattle.qgm_core.proofs.Reaching.{in-has, overs-held}
use Rattle.list_laws.proofs.Booleans.{clash}
use Rattle.list_laws.proofs.Membership.{all-in, any-in, eq-itself, other}

-- the last boxes of these, from some place on
abbrev pub Tail : List Node → List Node → Type 0
Tail [] ns = ns ≡ []
Tail (m ∷ bs) ns = (ns ≡ m ∷ bs) ⊎ Tail bs ns

pub whole : (bs : List Node) → Tail bs bs
whole [] = refl
whole (m ∷ bs) = inl refl

pub behind-one : (bs : List Node) (n : Node) (ns : List Node) → Tail bs (n ∷ ns) → Tail bs ns
behind-one [] n ns t = absurd (let z : ⊥ = cc in z)
behind-one (m ∷ bs) n ns t = elim t [
  | inl e ↦ inr (subst (λ (xs : List Node). Tail bs xs) (let h : bs ≡ ns = cc in h) (whole bs))
  | inr u ↦ inr (behind-one bs n ns u)
]

pub tail-at : (bs : List Node) (n : Node) → In n bs → (ns : List Node) × Tail bs (n ∷ ns)
tail-at [] n i = elim i [ ]
tail-at (m ∷ bs) n i = elim i [
  | inl e ↦ (bs, inl (ap (λ (z : Node). z ∷ bs) (sym e)))
  | inr j ↦ (let x = tail-at bs n j in (x.0, inr x.1))
]

pub tail-ordered : (bs ns : List Node) → Tail bs ns → Ordered bs → Ordered ns
tail-ordered [] ns t o = subst Ordered (sym t) o
tail-ordered (m ∷ bs) ns t o = elim t [
  | inl e ↦ subst Ordered (sym e) o
  | inr u ↦ tail-ordered bs ns u o.2
]

pub tail-in : (bs ns : List Node) → Tail bs ns → (n : Node) → In n ns → In n bs
tail-in [] ns t n i = subst (In n) t i
tail-in (m ∷ bs) ns t n i = elim t [
  | inl e ↦ subst (In n) e i
  | inr u ↦ inr (tail-in bs ns u n i)
]

pub tail-has : (bs ns : List Node) → Tail bs ns → (b : ℕ) → has_box ns b ≡ true → has_box bs b ≡ true
tail-has [] ns t b h = subst (λ (xs : List Node). has_box xs b ≡ true) t h
tail-has (m ∷ bs) ns t b h = elim t [
  | inl e ↦ subst (λ (xs : List Node). has_box xs b ≡ true) e h
  | inr u ↦ or_right (m.id == b) (has_box bs b) (tail-has bs ns u b h)
]

module _ {X : Type 0} (none : X) (step : Node → (ℕ → X) → X) where
  pub at-head : (n : Node) (ns : List Node) → by_rank none step (n ∷ ns) n.id ≡ step n (by_rank none step ns)
  at-head n ns = ap (λ (t : Bool). cond t (step n (by_rank none step ns)) (by_rank none step ns n.id)) (eq-itself n.id)

  pub tail-rank : (bs ns : List Node) → Tail bs ns → Ordered bs → (b : ℕ) → has_box ns b ≡ true → by_rank none step ns b ≡ by_rank none step bs b
  tail-rank [] ns t o b h = ap (λ (xs : List Node). by_rank none step xs b) t
  tail-rank (m ∷ bs) ns t o b h = elim t [
    | inl e ↦ ap (λ (xs : List Node). by_rank none step xs b) e
    | inr u ↦ tail-rank bs ns u o.2 b h
        ∙ sym (ap (λ (t : Bool). cond t (step m (by_rank none step bs)) (by_rank none step bs b)) (other (has_box bs) m.id b o.0 (tail-has bs ns u b h)))
  ]

-- ---- boxes of one number

pub has-in : (b : ℕ) (ns : List Node) → has_box ns b ≡ true → (n : Node) × (In n ns × (n.id ≡ b))
has-in b ns h = let r = any-in (is_box b) ns h in (r.0, (r.1.0, eqb-true r.0.id b r.1.1))

-- a box is the one of its number
pub same-box : (ns : List Node) (n m : Node) → Ordered ns → In n ns → In m ns → n.id ≡ m.id → n ≡ m
same-box [] n m o i j e = elim i [ ]
same-box (x ∷ ns) n m o i j e = elim i [
  | inl p ↦ elim j [ inl q ↦ sym p ∙ q | inr k ↦ absurd (clash (has_box ns x.id) (subst (λ z. has_box ns z ≡ true) (sym e ∙ ap (λ (z : Node). z.id) (sym p)) (in-has m ns k)) o.0) ]
  | inr k ↦ elim j [ inl q ↦ absurd (clash (has_box ns x.id) (subst (λ z. has_box ns z ≡ true) (e ∙ ap (λ (z : Node). z.id) (sym q)) (in-has n ns k)) o.0) | inr l ↦ same-box ns n m o.2 k l e ]
]

-- what is reached from one of these boxes is one of them
pub tail-reach : (bs ns : List Node) → Tail bs ns → Ordered bs → (b c : ℕ) → Reaches bs b c → has_box ns b ≡ true → has_box ns c ≡ true
tail-reach bs ns t o b c (itself x) h = h
tail-reach bs ns t o b c (through n r x i j k) h =
    let f = has-in n.id ns h in
    let same : f.0 ≡ n = same-box bs f.0 n o (tail-in bs ns t f.0 f.1.0) i f.1.1 in
    tail-reach bs ns t o r.over x k (overs-held ns n r (tail-ordered bs ns t o) (subst (λ (z : Node). In z ns) same f.1.0) j)

pub overs-here : (ns : List Node) (n : Node) (r : OwnedQuant) → Ordered (n ∷ ns) → In r n.quants → has_box ns r.over ≡ true
overs-here ns n r p j = all-in (λ r. has_box ns r.over) r n.quants p.1 j

-- no box under a box reaches it
pub not-back : (bs : List Node) → Ordered bs → (n : Node) (r : OwnedQuant) (c : ℕ) → In n bs → In r n.quants → Reaches bs r.over c → Reaches bs c n.id → ⊥
not-back bs o n r c i j k l =
    let t = tail-at bs n i in
    let p = tail-ordered bs (n ∷ t.0) t.1 o in
    let under = behind-one bs n t.0 t.1 in
    clash (has_box t.0 n.id) (tail-reach bs t.0 under o c n.id l (tail-reach bs t.0 under o r.over c k (overs-here t.0 n r p j))) p.0

-- nor does a box that stands behind it
pub not-up : (bs ns : List Node) (m : Node) → Tail bs (m ∷ ns) → Ordered bs → (b : ℕ) → has_box ns b ≡ true → Reaches bs b m.id → ⊥
not-up bs ns m t o b h k = clash (has_box ns m.id) (tail-reach bs ns (behind-one bs m ns t) o b m.id k h) (tail-ordered bs (m ∷ ns) t o).0

pub first-in : (n : Node) (ns : List Node) → Ordered ns → In n ns → first (is_box n.id) ns ≡ Some n
first-in n [] o i = elim i [ ]
first-in n (m ∷ ns) o i = elim i [
  | inl e ↦ ap (λ (t : Bool). cond t (Some m) (first (is_box n.id) ns)) (subst (λ (z : Node). (m.id == z.id) ≡ true) e (eq-itself m.id)) ∙ ap Some e
  | inr j ↦ ap (λ (t : Bool). cond t (Some m) (first (is_box n.id) ns)) (other (has_box ns) m.id n.id o.0 (in-has n ns j)) ∙ first-in n ns o.2 j
]
