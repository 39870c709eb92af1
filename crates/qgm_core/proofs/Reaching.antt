-- What the pass marks is what a box reaches.
use Rattle.std.proofs.Common.{ℕ, ◌≡◌, cond, Bool, true, false, List, [], ◌∷◌, ◌++◌, refl, sym, subst, ◌⊎◌, inl, inr, ◌↔◌}
use Rattle.qgm_core.specs.Boxes.{Ordered, has_box, is_box, overs_of}
use Rattle.qgm_core.specs.Free.{Reaches, itself, through, marked, reached}
use Rattle.list_laws.specs.Lists.{In, holds}
use Rattle.qgm_core.specs.declared.node.Node.{Node}
use Rattle.qgm_core.specs.declared.owned.OwnedQuant.{OwnedQuant}
use Rattle.std.proofs.lemmas.Bool.{or_right}
use Rattle.list_laws.proofs.Booleans.{clash}
use Rattle.list_laws.proofs.Membership.{all-in, any-from, eq-itself, holds-in, in-append, in-holds, in-left, in-map, in-right, map-in}

-- ---- boxes in order

pub in-has : (n : Node) (ns : List Node) → In n ns → has_box ns n.id ≡ true
in-has n ns i = any-from (is_box n.id) n ns i (eq-itself n.id)

pub overs-held : (ns : List Node) (n : Node) (r : OwnedQuant) → Ordered ns → In n ns → In r n.quants → has_box ns r.over ≡ true
overs-held [] n r o i j = elim i [ ]
overs-held (m ∷ ns) n r o i j = elim i [
  | inl e ↦ or_right (is_box r.over m) (has_box ns r.over) (all-in (λ r. has_box ns r.over) r m.quants o.1 (subst (λ (z : Node). In r z.quants) (sym e) j))
  | inr k ↦ or_right (is_box r.over m) (has_box ns r.over) (overs-held ns n r o.2 k j)
]

-- ---- marks

more : (b : ℕ) (marks : List ℕ) (n : Node) → In b marks → In b (marked marks n)
more b marks n i = elim (holds n.id marks) as (λ t. In b (cond t (marks ++ overs_of n) marks)) [ true ↦ in-left b marks (overs_of n) i | false ↦ i ]

pub stays : (b : ℕ) (marks : List ℕ) (ns : List Node) → In b marks → In b (reached marks ns)
stays b marks [] i = i
stays b marks (n ∷ ns) i = stays b (marked marks n) ns (more b marks n i)

-- a mark that a box set
by-mark : (b : ℕ) (marks : List ℕ) (n : Node) → In b (marked marks n) → In b marks ⊎ ((holds n.id marks ≡ true) × ((r : OwnedQuant) × (In r n.quants × (r.over ≡ b))))
by-mark b marks n i = elim (holds n.id marks) as (λ t. holds n.id marks ≡ t → In b (cond t (marks ++ overs_of n) marks) → In b marks ⊎ ((holds n.id marks ≡ true) × ((r : OwnedQuant) × (In r n.quants × (r.over ≡ b))))) [
  | true ↦ λ t i. elim (in-append b marks (overs_of n) i) [ inl a ↦ inl a | inr c ↦ inr (t, in-map (λ (r : OwnedQuant). r.over) b n.quants c) ]
  | false ↦ λ t i. inl i
] refl i

-- where a mark comes from
pub come : (b : ℕ) (marks : List ℕ) (ns : List Node) → In b (reached marks ns) → In b marks ⊎ ((n : Node) × (In n ns × ((r : OwnedQuant) × (In r n.quants × (r.over ≡ b)))))
come b marks [] i = inl i
come b marks (n ∷ ns) i = elim (come b (marked marks n) ns i) [
  | inl a ↦ elim (by-mark b marks n a) [ inl c ↦ inl c | inr c ↦ inr (n, (inl refl, c.1)) ]
  | inr x ↦ inr (x.0, (inr x.1.0, x.1.1))
]

-- a marked box marks those under it
pub closes : (marks : List ℕ) (ns : List Node) → Ordered ns → (n : Node) (r : OwnedQuant) → In n ns → In n.id (reached marks ns) → In r n.quants → In r.over (reached marks ns)
closes marks [] o n r i k j = elim i [ ]
closes marks (m ∷ ns) o n r i k j = elim i [
  | inr l ↦ closes (marked marks m) ns o.2 n r l k j
  | inl e ↦ stays r.over (marked marks m) ns (at (subst (λ (z : Node). In z.id (reached (marked marks m) ns)) (sym e) k) (subst (λ (z : Node). In r z.quants) (sym e) j))
]
  where
    at : In m.id (reached (marked marks m) ns) → In r m.quants → In r.over (marked marks m)
    at k u = elim (come m.id (marked marks m) ns k) [
      | inr x ↦ absurd (clash (has_box ns m.id) (subst (λ z. has_box ns z ≡ true) x.1.1.1.1 (overs-held ns x.0 x.1.1.0 o.2 x.1.0 x.1.1.1.0)) o.0)
      | inl a ↦ elim (by-mark m.id marks m a) [
        | inr c ↦ absurd (clash (has_box ns m.id) (subst (λ z. has_box ns z ≡ true) c.1.1.1 (all-in (λ r. has_box ns r.over) c.1.0 m.quants o.1 c.1.1.0)) o.0)
        | inl c ↦ subst (λ (t : Bool). In r.over (cond t (marks ++ overs_of m) marks)) (sym (in-holds m.id marks c)) (in-right r.over marks (overs_of m) (map-in (λ (r : OwnedQuant). r.over) r m.quants u))
      ]
    ]

module _ (bs : List Node) where
  -- ---- reached

  reach-then : (b c d : ℕ) → Reaches bs b c → Reaches bs c d → Reaches bs b d
  reach-then b c d (itself x) k = k
  reach-then b c d (through n r x i j h) k = through n r d i j (reach-then r.over x d h k)

  marks-reach : (b : ℕ) (marks : List ℕ) (ns : List Node) → ((m : ℕ) → In m marks → Reaches bs b m) → ((n : Node) → In n ns → In n bs) → (c : ℕ) → In c (reached marks ns) → Reaches bs b c
  marks-reach b marks [] h sub c i = h c i
  marks-reach b marks (n ∷ ns) h sub c i = marks-reach b (marked marks n) ns (λ m j. step m (by-mark m marks n j)) (λ m j. sub m (inr j)) c i
    where
      step : (m : ℕ) → In m marks ⊎ ((holds n.id marks ≡ true) × ((r : OwnedQuant) × (In r n.quants × (r.over ≡ m)))) → Reaches bs b m
      step m (inl a) = h m a
      step m (inr x) = subst (λ z. Reaches bs b z) x.1.1.1 (reach-then b n.id x.1.0.over (h n.id (holds-in n.id marks x.0)) (through n x.1.0 x.1.0.over (sub n (inl refl)) x.1.1.0 (itself x.1.0.over)))

  carried : Ordered bs → (marks : List ℕ) (b c : ℕ) → Reaches bs b c → In b (reached marks bs) → In c (reached marks bs)
  carried o marks b c (itself x) i = i
  carried o marks b c (through n r x j k h) i = carried o marks r.over x h (closes marks bs o n r j i k)

  pub reached-reaches : Ordered bs → (b c : ℕ) → (holds c (reached (b ∷ []) bs) ≡ true) ↔ Reaches bs b c
  reached-reaches o b c = (
    λ h. marks-reach b (b ∷ []) bs (λ m i. elim i [ inl e ↦ subst (λ z. Reaches bs b z) e (itself b) | inr z ↦ elim z [ ] ]) (λ n i. i) c (holds-in c (reached (b ∷ []) bs) h),
    λ r. in-holds c (reached (b ∷ []) bs) (carried o (b ∷ []) b c r (stays b (b ∷ []) bs (inl refl))),
  )
