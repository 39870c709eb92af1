-- What is free in a box after M1.
use Rattle.std.specs.Prelude.{not as no}
use Rattle.std.proofs.Common.{ℕ, ◌==◌, ◌≡◌, ◌+◌, ◌<◌, ◌&&◌, arith, cond, Bool, true, false, List, [], ◌∷◌, ◌++◌, map, refl, sym, ap, subst, ◌∙◌, eqb-true, ◌⊎◌, inl, inr}
use Rattle.std.specs.List.{list_any}
use Rattle.std.proofs.lemmas.Bool.{and_parts, cases_Bool, eq-eqb, or_cases, or_left, or_parts, or_right}
use Rattle.qgm_core.specs.Boxes.{ids_of, is_quant, owns}
use Rattle.qgm_core.specs.Free.{IsFree, Reaches, itself, named_by, reached, through}
use Rattle.list_laws.specs.Lists.{In, holds, times}
use Rattle.qgm_core.specs.declared.node.Node.{Node}
use Rattle.qgm_core.specs.declared.owned.OwnedQuant.{OwnedQuant}
use Rattle.qgm_terms.specs.Substitution.{substituted, substituted_cond}
use Rattle.qgm_core.proofs.Reaching.{reached-reaches}
use Rattle.qgm_meaning.specs.Scope.{put_node}
use Rattle.qgm_meaning.specs.Searches.{names, names_cond}
use Rattle.qgm_edit_laws.specs.Graph.{Sound}
use Rattle.rule_merge.specs.Merged.{Merges, merge_node, merged}
use Rattle.qgm_edit_laws.specs.Placed.{place}
use Rattle.qgm_edit_laws.proofs.AnyPut.{cell-any, conds-more, conds-put, heads-more, heads-put}
use Rattle.qgm_edit_laws.proofs.Edits.{any-append, boxes_without, without-in}
use Rattle.rule_merge.proofs.MergeSelectMeans as before
use Rattle.rule_merge.proofs.MergeSelectSound.{merge-sound}
use Rattle.qgm_edit_laws.proofs.Naming.{named-any, says, says_cond}
use Rattle.qgm_edit_laws.proofs.Ranks.{place-under, same-box}
use Rattle.qgm_edit_laws.proofs.Scope.{one-owner, one-parent, owned-times}
use Rattle.qgm_edit_laws.proofs.TypedKept.{found}
use Rattle.list_laws.proofs.Counting.{times-in}
use Rattle.list_laws.proofs.Membership.{any-from, any-in, eq-itself, in-append, in-left, in-right, map-in}
use Rattle.list_laws.proofs.Booleans.{clash}

module _ (bs : List Node) (root : ℕ) (w : Sound bs root) (b c : Node) (us : List OwnedQuant) (r : OwnedQuant) (vs : List OwnedQuant) (m : Merges bs b c us r vs) where
  abbrev q : ℕ
  q = r.id

  abbrev quants : List OwnedQuant
  quants = us ++ (c.quants ++ vs)

  abbrev box : Node
  box = merged q c quants b

  abbrev put : Node → Node
  put = put_node q c.parts.head

  abbrev g : Node → Node
  g = merge_node b.id q c quants

  abbrev hm : List Node
  hm = map g (boxes_without c.id bs)

  pub sound : Sound hm root
  sound = merge-sound bs root w b c us r vs m

  pub b-not-c : (b.id == c.id) ≡ false
  b-not-c = before.b-id [] bs root w b c us r vs m

  pub r-in : In r b.quants
  r-in = before.rq-in [] bs root w b c us r vs m

  pub to : (y : Node) → In y bs → (y.id == c.id) ≡ false → In (g y) hm
  to y i n = map-in g y (boxes_without c.id bs) (without-in c.id y bs i n)

  pub to-other : (y : Node) → In y bs → (y.id == b.id) ≡ false → (y.id == c.id) ≡ false → In (put y) hm
  to-other y i n l = subst (λ z. In z hm) (before.g-other [] bs root w b c us r vs m y n) (to y i l)

  pub box-in : In box hm
  box-in = subst (λ z. In z hm) (before.g-b [] bs root w b c us r vs m b (eq-itself b.id)) (to b m.in_b b-not-c)

  pub from : (n : Node) → In n hm → (box ≡ n) ⊎ ((y : Node) × (In y bs × (((y.id == b.id) ≡ false) × (((y.id == c.id) ≡ false) × (put y ≡ n)))))
  from = before.in-h [] bs root w b c us r vs m

  -- ---- whose quantifiers are whose

  pub of-c : (s : OwnedQuant) → In s c.quants → In s quants
  of-c s j = in-right s us (c.quants ++ vs) (in-left s c.quants vs j)

  pub of-b : (s : OwnedQuant) → In s b.quants → (s.id == q) ≡ false → In s quants
  of-b s j n = elim (in-append s us (r ∷ vs) (subst (λ z. In s z) m.split j)) [
    | inl a ↦ in-left s us (c.quants ++ vs) a
    | inr a ↦ elim a [
      | inl d ↦ absurd (clash (s.id == q) (eq-eqb s.id q (ap (λ (z : OwnedQuant). z.id) (sym d))) n)
      | inr d ↦ in-right s us (c.quants ++ vs) (in-right s c.quants vs d)
    ]
  ]

  pub quant-of : (s : OwnedQuant) → In s quants → In s b.quants ⊎ In s c.quants
  quant-of s j = elim (before.in-quants-m [] bs root w b c us r vs m s j) [ inl a ↦ inl a.0 | inr d ↦ inr d ]

  -- q is no longer owned
  pub q-gone : (n : Node) → In n hm → owns q n ≡ false
  q-gone n i = elim (cases_Bool (owns q n)) [
    | inr f ↦ f
    | inl t ↦ absurd (
        let a = before.counted [] bs root w b c us r vs m (λ r. r.id) q in
        let d = w.once q in
        let e = owned-times q n t in
        let f = times-in ids_of q n hm i in
        let one : times q (map (λ (s : OwnedQuant). s.id) (r ∷ [])) ≡ 1 = ap (λ (t : Bool). cond t 1 0 + 0) (eq-itself q) in omega arith)
  ]

  -- nor named
  pub named-not-q : (n : Node) → In n hm → (p : ℕ) → holds p (named_by n) ≡ true → (p == q) ≡ false
  named-not-q n i p h = elim (cases_Bool (p == q)) [
    | inr f ↦ f
    | inl t ↦ absurd (
        let x = found hm root sound n i p h in
        let same : x.quant.id ≡ q = x.is_q ∙ eqb-true p q t in
        clash (owns q x.owner) (any-from (is_quant q) x.quant x.owner.quants x.quant_in (eq-eqb x.quant.id q same)) (q-gone x.owner x.owner_in))
  ]

  -- c alone is under r, and under no other
  pub under-c : (n : Node) (s : OwnedQuant) → In n bs → In s n.quants → s.over ≡ c.id → n ≡ b
  under-c n s i j e = one-parent bs root w c.id n b s r (let a = m.one_use in omega arith) i m.in_b j r-in e m.over_c

  pub not-over-c : (n : Node) (s : OwnedQuant) → In n bs → (n.id == b.id) ≡ false → In s n.quants → (s.over == c.id) ≡ false
  not-over-c n s i f j = elim (cases_Bool (s.over == c.id)) [
    | inr n ↦ n
    | inl t ↦ absurd (clash (n.id == b.id) (eq-eqb n.id b.id (ap (λ (z : Node). z.id) (under-c n s i j (eqb-true s.over c.id t)))) f)
  ]

  -- ---- what is named

  -- what a box names after it named before, or c names it and the box named q
  abbrev pub Was : Node → ℕ → Type 0
  Was y p = ((holds p (named_by y) ≡ true) × ((p == q) ≡ false)) ⊎ ((holds q (named_by y) ≡ true) × (holds p (named_by c) ≡ true))

  module _ (p : ℕ) where
    apart : (k : ℕ) → (k == q) ≡ false → (k == p) ≡ true → (p == q) ≡ false
    apart k n e = subst (λ z. (z == q) ≡ false) (eqb-true k p e) n

    by-head : (x : ℕ) (y : Node) → list_any (says x) y.parts.head ≡ true → holds x (named_by y) ≡ true
    by-head x y h = named-any x y ∙ or_left (list_any (says x) y.parts.head) (list_any (says_cond x) y.parts.conds.items) h

    by-cond : (x : ℕ) (y : Node) → list_any (says_cond x) y.parts.conds.items ≡ true → holds x (named_by y) ≡ true
    by-cond x y h = named-any x y ∙ or_right (list_any (says x) y.parts.head) (list_any (says_cond x) y.parts.conds.items) h

    head-was : (y : Node) → In y bs → list_any (says p) (map (substituted q c.parts.head) y.parts.head) ≡ true → Was y p
    head-was y i h =
        elim (heads-put q c.parts.head (λ r k. r == p) (λ r. r == p) (λ r. r == p) (λ r. true) ((p == q) ≡ false) (λ r k. apart r) apart apart y.parts.head (or_parts (list_any (names q) y.parts.head) (list_any (names_cond q) y.parts.conds.items) (before.nodes-not-q [] bs root w b c us r vs m y i)).0 h) [
          | inl a ↦ inl (by-head p y a.0, a.1)
          | inr a ↦ inr (
            by-head q y (heads-more (λ r k. (r == q) && (k == a.0)) (λ r k. r == q) (λ r. false) (λ r. r == q) (λ r. false) (λ r. r == q) (λ r. no (r == q)) (λ r. true) (λ r k h. (and_parts (r == q) (k == a.0) h).0) (λ r h. absurd (let z : ⊥ = cc in z)) (λ r h. absurd (let z : ⊥ = cc in z)) (λ r h. refl) y.parts.head a.1.0),
            by-head p c (cell-any (says p) c.parts.head a.0 refl a.1.1),
          )
        ]

    conds-was : (y : Node) → In y bs → list_any (says_cond p) (map (substituted_cond q c.parts.head) y.parts.conds.items) ≡ true → Was y p
    conds-was y i h =
        elim (conds-put q c.parts.head (λ r k. r == p) (λ r. r == p) (λ r. r == p) (λ r. true) ((p == q) ≡ false) (λ r k. apart r) apart apart y.parts.conds.items (or_parts (list_any (names q) y.parts.head) (list_any (names_cond q) y.parts.conds.items) (before.nodes-not-q [] bs root w b c us r vs m y i)).1 h) [
          | inl a ↦ inl (by-cond p y a.0, a.1)
          | inr a ↦ inr (
            by-cond q y (conds-more (λ r k. (r == q) && (k == a.0)) (λ r k. r == q) (λ r. false) (λ r. r == q) (λ r. false) (λ r. r == q) (λ r. no (r == q)) (λ r. true) (λ r k h. (and_parts (r == q) (k == a.0) h).0) (λ r h. absurd (let z : ⊥ = cc in z)) (λ r h. absurd (let z : ⊥ = cc in z)) (λ r h. refl) y.parts.conds.items a.1.0),
            by-head p c (cell-any (says p) c.parts.head a.0 refl a.1.1),
          )
        ]

    pub put-was : (y : Node) → In y bs → holds p (named_by (put y)) ≡ true → Was y p
    put-was y i h = elim (or_cases (list_any (says p) (map (substituted q c.parts.head) y.parts.head)) (list_any (says_cond p) (map (substituted_cond q c.parts.head) y.parts.conds.items)) (sym (named-any p (put y)) ∙ h)) [ inl a ↦ head-was y i a | inr a ↦ conds-was y i a ]

    pub box-was : holds p (named_by box) ≡ true → (holds p (named_by b) ≡ true) ⊎ (holds p (named_by c) ≡ true)
    box-was h = elim (or_cases (list_any (says p) (map (substituted q c.parts.head) b.parts.head)) (list_any (says_cond p) (map (substituted_cond q c.parts.head) b.parts.conds.items ++ c.parts.conds.items)) (sym (named-any p box) ∙ h)) [
      | inl a ↦ one (head-was b m.in_b a)
      | inr a ↦ elim (any-append (says_cond p) (map (substituted_cond q c.parts.head) b.parts.conds.items) c.parts.conds.items a) [
        | inl d ↦ one (conds-was b m.in_b d)
        | inr d ↦ inr (by-cond p c d)
      ]
    ]
      where
        one : Was b p → (holds p (named_by b) ≡ true) ⊎ (holds p (named_by c) ≡ true)
        one z = elim z [ inl a ↦ inl a.0 | inr a ↦ inr a.1 ]

  -- ---- what is reached

  reach-then : (x y z : ℕ) → Reaches bs x y → Reaches bs y z → Reaches bs x z
  reach-then x y z (itself k) l = l
  reach-then x y z (through n s k i j h) l = through n s z i j (reach-then s.over k z h l)

  pub b-reaches-c : Reaches bs b.id c.id
  b-reaches-c = through b r c.id m.in_b r-in (subst (λ z. Reaches bs z c.id) (sym m.over_c) (itself c.id))

  pub reach-from : (x y : ℕ) → Reaches hm x y → Reaches bs x y
  reach-from x y (itself k) = itself k
  reach-from x y (through n s k i j h) =
      let l = reach-from s.over k h in
      elim (from n i) [
        | inl e ↦ subst (λ (z : Node). Reaches bs z.id y) e (elim (quant-of s (subst (λ (z : Node). In s z.quants) (sym e) j)) [
          | inl a ↦ through b s k m.in_b a l
          | inr a ↦ reach-then b.id c.id k b-reaches-c (through c s k m.in_c a l)
        ])
        | inr o ↦ subst (λ (z : Node). Reaches bs z.id y) o.1.1.1.1 (through o.0 s k o.1.0 (subst (λ (z : Node). In s z.quants) (sym o.1.1.1.1) j) l)
      ]

  -- the box that stands for box x
  abbrev now : ℕ → ℕ
  now x = cond (x == c.id) b.id x

  now-other : (x : ℕ) → (x == c.id) ≡ false → now x ≡ x
  now-other x n = ap (λ t. cond t b.id x) n

  c-under : (s : OwnedQuant) → In s c.quants → (s.over == c.id) ≡ false
  c-under s j = elim (cases_Bool (s.over == c.id)) [
    | inr f ↦ f
    | inl t ↦ absurd (let u : place bs c.id < place bs s.over = place-under bs c s w.ordered m.in_c j in let e : place bs s.over ≡ place bs c.id = ap (place bs) (eqb-true s.over c.id t) in omega arith)
  ]

  pub reach-to : (x y : ℕ) → Reaches bs x y → (y == c.id) ≡ false → Reaches hm (now x) y
  reach-to x y (itself k) f = subst (λ z. Reaches hm z x) (sym (now-other x f)) (itself x)
  reach-to x y (through n s k i j h) f =
      let l = reach-to s.over k h f in
      elim (cases_Bool (n.id == c.id)) [
        | inl t ↦ (
            let same : n ≡ c = same-box bs n c w.ordered i m.in_c (eqb-true n.id c.id t) in
            let u : In s c.quants = subst (λ (z : Node). In s z.quants) same j in
            subst (λ z. Reaches hm z y) (sym (ap (λ t. cond t b.id n.id) t)) (through box s k box-in (of-c s u) (subst (λ z. Reaches hm z y) (now-other s.over (c-under s u)) l)))
        | inr a ↦ subst (λ z. Reaches hm z y) (sym (now-other n.id a)) (elim (cases_Bool (n.id == b.id)) [
          | inr d ↦ through (put n) s k (to-other n i d a) j (subst (λ z. Reaches hm z y) (now-other s.over (not-over-c n s i d j)) l)
          | inl t ↦ (
              let same : n ≡ b = same-box bs n b w.ordered i m.in_b (eqb-true n.id b.id t) in
              let u : In s b.quants = subst (λ (z : Node). In s z.quants) same j in
              subst (λ z. Reaches hm z y) (sym (eqb-true n.id b.id t)) (elim (cases_Bool (s.over == c.id)) [
                | inl e ↦ subst (λ z. Reaches hm z y) (ap (λ t. cond t b.id s.over) e) l
                | inr e ↦ through box s k box-in (of-b s u (not-q s e u)) (subst (λ z. Reaches hm z y) (now-other s.over e) l)
              ]))
        ])
      ]
    where
      not-q : (s : OwnedQuant) → (s.over == c.id) ≡ false → In s b.quants → (s.id == q) ≡ false
      not-q s e u = elim (in-append s us (r ∷ vs) (subst (λ z. In s z) m.split u)) [
        | inl a ↦ before.apart [] bs root w b c us r vs m us vs r s m.split (inl a)
        | inr a ↦ elim a [
          | inl d ↦ absurd (clash (s.over == c.id) (eq-eqb s.over c.id (ap (λ (z : OwnedQuant). z.over) (sym d) ∙ m.over_c)) e)
          | inr d ↦ before.apart [] bs root w b c us r vs m us vs r s m.split (inr d)
        ]
      ]

  -- what reaches c, and isn't c, reaches b
  pub via-b : (x y : ℕ) → Reaches bs x y → (y == c.id) ≡ true → (x == c.id) ≡ false → Reaches bs x b.id
  via-b x y (itself k) t f = absurd (clash (x == c.id) t f)
  via-b x y (through n s k i j h) t f = elim (cases_Bool (s.over == c.id)) [
    | inl e ↦ subst (λ (z : Node). Reaches bs z.id b.id) (sym (under-c n s i j (eqb-true s.over c.id e))) (itself b.id)
    | inr e ↦ through n s b.id i j (via-b s.over k h t e)
  ]

  -- ---- what is free

  -- in a box in which q isn't free only what was free is free
  pub free-from : (x p : ℕ) → (x == c.id) ≡ false → (IsFree bs x q → ⊥) → IsFree hm x p → IsFree bs x p
  free-from x p n f z =
      let o = z.0.0 in let i = z.0.1.0 in let k : Reaches bs x o.id = reach-from x o.id z.0.1.1.0 in let h = z.0.1.1.1 in
      let p-not-q = named-not-q o i p h in (
        elim (from o i) [
          | inl e ↦ (
              let l : Reaches bs x b.id = subst (λ (z : Node). Reaches bs x z.id) (sym e) k in
              elim (box-was p (subst (λ (z : Node). holds p (named_by z) ≡ true) (sym e) h)) [
                | inl a ↦ (b, (m.in_b, (l, a)))
                | inr a ↦ (c, (m.in_c, (reach-then x b.id c.id l b-reaches-c, a)))
              ])
          | inr y ↦ (
              let l : Reaches bs x y.0.id = subst (λ (z : Node). Reaches bs x z.id) (sym y.1.1.1.1) k in
              elim (put-was p y.0 y.1.0 (subst (λ (z : Node). holds p (named_by z) ≡ true) (sym y.1.1.1.1) h)) [
                | inl a ↦ (y.0, (y.1.0, (l, a.0)))
                | inr a ↦ (c, (m.in_c, (reach-then x b.id c.id (b-reached y.0 y.1.0 l a.0) b-reaches-c, a.1)))
              ])
        ],
        λ y j l. unowned y j l p-not-q,
      )
    where
      b-reached : (y : Node) → In y bs → Reaches bs x y.id → holds q (named_by y) ≡ true → Reaches bs x b.id
      b-reached y j l h = elim (cases_Bool (holds b.id (reached (x ∷ []) bs))) [
        | inl t ↦ (reached-reaches bs w.ordered x b.id).0 t
        | inr u ↦ absurd (f (
          (y, (j, (l, h))),
          λ o k e. elim (cases_Bool (owns q o)) [
            | inr v ↦ v
            | inl t ↦ absurd (clash (holds b.id (reached (x ∷ []) bs)) ((reached-reaches bs w.ordered x b.id).1 (subst (λ (z : Node). Reaches bs x z.id) (one-owner bs root w q o b k m.in_b t (before.own-q [] bs root w b c us r vs m)) e)) u)
          ],
        ))
      ]

      boxed : (s : OwnedQuant) → In s quants → (s.id == p) ≡ true → Reaches bs x b.id → ⊥
      boxed s j t l = clash (owns p box) (any-from (is_quant p) s quants j t) (z.1 box box-in (subst (λ k. Reaches hm k b.id) (now-other x n) (reach-to x b.id l b-not-c)))

      unowned : (y : Node) → In y bs → Reaches bs x y.id → (p == q) ≡ false → owns p y ≡ false
      unowned y j l v = elim (cases_Bool (owns p y)) [
        | inr u ↦ u
        | inl t ↦ (
            let s = any-in (is_quant p) y.quants t in
            absurd (elim (cases_Bool (y.id == c.id)) [
              | inl e ↦ boxed s.0 (of-c s.0 (subst (λ (z : Node). In s.0 z.quants) (same-box bs y c w.ordered j m.in_c (eqb-true y.id c.id e)) s.1.0)) s.1.1 (via-b x y.id l e n)
              | inr e ↦ elim (cases_Bool (y.id == b.id)) [
                | inl a ↦ boxed s.0 (of-b s.0 (subst (λ (z : Node). In s.0 z.quants) (same-box bs y b w.ordered j m.in_b (eqb-true y.id b.id a)) s.1.0) (subst (λ k. (k == q) ≡ false) (sym (eqb-true s.0.id p s.1.1)) v)) s.1.1 (subst (λ k. Reaches bs x k) (eqb-true y.id b.id a) l)
                | inr a ↦ clash (owns p y) t (z.1 (put y) (to-other y j a e) (subst (λ k. Reaches hm k y.id) (now-other x n) (reach-to x y.id l e)))
              ]
            ]))
      ]
