-- The depth walk lists exactly the boxes that are reached, each once.
use Rattle.std.proofs.Common.{ℕ, ◌≡◌, ◌==◌, ◌||◌, cond, eqb-true, Bool, true, false, List, [], ◌∷◌, ◌++◌, map, refl, sym, subst, ◌⊎◌, inl, inr, ◌↔◌}
use Rattle.std.proofs.lemmas.Bool.{or_left, or_right}
use Rattle.qgm_core.specs.Boxes.{Ordered, has_box, overs_of}
use Rattle.qgm_core.specs.Free.{Reaches, itself, through}
use Rattle.list_laws.specs.Lists.{EachOnce, In, each, holds}
use Rattle.qgm_core.specs.Walk.{visit}
use Rattle.qgm_core.specs.declared.node.Node.{Node}
use Rattle.qgm_core.specs.declared.owned.OwnedQuant.{OwnedQuant}
use Rattle.qgm_core.proofs.Reaching.{in-has}
use Rattle.list_laws.proofs.Booleans.{clash}
use Rattle.list_laws.proofs.Membership.{all-in, holds-in, in-append, in-left, in-map, in-right, map-in}
use Rattle.list_laws.proofs.Counting.{once-more}

-- ---- each in turn

each-from : (f : ℕ → List ℕ → List ℕ) (x : ℕ) (P : Type 0) (rs : List OwnedQuant) → ((r : OwnedQuant) (seen : List ℕ) → In r rs → In x (f r.over seen) → In x seen ⊎ P) → (seen : List ℕ) → In x (each f (map (λ r. r.over) rs) seen) → In x seen ⊎ P
each-from f x P [] h seen i = inl i
each-from f x P (r ∷ rs) h seen i = elim (each-from f x P rs (λ s n j. h s n (inr j)) (f r.over seen) i) [ inl j ↦ h r seen (inl refl) j | inr p ↦ inr p ]

each-grows : (f : ℕ → List ℕ → List ℕ) (x : ℕ) → ((c : ℕ) (s : List ℕ) → In x s → In x (f c s)) → (cs s : List ℕ) → In x s → In x (each f cs s)
each-grows f x g [] s i = i
each-grows f x g (c ∷ cs) s i = each-grows f x g cs (f c s) (g c s i)

each-adds : (f : ℕ → List ℕ → List ℕ) → ((x c : ℕ) (s : List ℕ) → In x s → In x (f c s)) → (cs : List ℕ) → ((c : ℕ) (s : List ℕ) → In c cs → In c (f c s)) → (s : List ℕ) (c : ℕ) → In c cs → In c (each f cs s)
each-adds f g [] a s c i = elim i [ ]
each-adds f g (d ∷ cs) a s c (inl e) = each-grows f c (g c) cs (f d s) (subst (λ z. In z (f d s)) e (a d s (inl refl)))
each-adds f g (d ∷ cs) a s c (inr i) = each-adds f g cs (λ c s j. a c s (inr j)) (f d s) c i

each-keeps : (P : List ℕ → Type 0) (f : ℕ → List ℕ → List ℕ) → ((c : ℕ) (s : List ℕ) → P s → P (f c s)) → (cs s : List ℕ) → P s → P (each f cs s)
each-keeps P f k [] s p = p
each-keeps P f k (c ∷ cs) s p = each-keeps P f k cs (f c s) (k c s p)

-- ---- what a visit lists

-- a visit of b
abbrev visited : Node → List Node → ℕ → List ℕ → Bool → Bool → List ℕ
visited n ns b seen is met = cond is (cond met seen (each (visit ns) (overs_of n) (seen ++ b ∷ []))) (visit ns b seen)

grows : (ns : List Node) (b : ℕ) (seen : List ℕ) (x : ℕ) → In x seen → In x (visit ns b seen)
grows [] b seen x i = i
grows (n ∷ ns) b seen x i = elim (n.id == b) as (λ v. In x (visited n ns b seen v (holds b seen))) [
  | true ↦ elim (holds b seen) as (λ v. In x (visited n ns b seen true v)) [
    | true ↦ i
    | false ↦ each-grows (visit ns) x (λ c s j. grows ns c s x j) (overs_of n) (seen ++ b ∷ []) (in-left x seen (b ∷ []) i)
  ]
  | false ↦ grows ns b seen x i
]

adds : (ns : List Node) (b : ℕ) (seen : List ℕ) → has_box ns b ≡ true → In b (visit ns b seen)
adds [] b seen = λ h. absurd (let z : ⊥ = cc in z)
adds (n ∷ ns) b seen = elim (n.id == b) as (λ v. (v || has_box ns b) ≡ true → In b (visited n ns b seen v (holds b seen))) [
  | true ↦ λ h. elim (holds b seen) as (λ v. holds b seen ≡ v → In b (visited n ns b seen true v)) [
    | true ↦ λ e. holds-in b seen e
    | false ↦ λ e. each-grows (visit ns) b (λ c s j. grows ns c s b j) (overs_of n) (seen ++ b ∷ []) (in-right b seen (b ∷ []) (inl refl))
  ] refl
  | false ↦ λ h. adds ns b seen h
]

-- what is new is of these boxes
held : (ns : List Node) (b : ℕ) (seen : List ℕ) (x : ℕ) → In x (visit ns b seen) → In x seen ⊎ (has_box ns x ≡ true)
held [] b seen x = λ i. inl i
held (n ∷ ns) b seen x = elim (n.id == b) as (λ v. (n.id == b) ≡ v → In x (visited n ns b seen v (holds b seen)) → In x seen ⊎ (has_box (n ∷ ns) x ≡ true)) [
  | true ↦ λ e. elim (holds b seen) as (λ v. In x (visited n ns b seen true v) → In x seen ⊎ (has_box (n ∷ ns) x ≡ true)) [
    | true ↦ λ i. inl i
    | false ↦ λ i. elim (each-from (visit ns) x (has_box ns x ≡ true) n.quants (λ r s j k. held ns r.over s x k) (seen ++ b ∷ []) i) [
      | inl j ↦ elim (in-append x seen (b ∷ []) j) [
        | inl l ↦ inl l
        | inr l ↦ elim l [ inl p ↦ inr (or_left (n.id == x) (has_box ns x) (subst (λ z. (n.id == z) ≡ true) p e)) | inr z ↦ elim z [ ] ]
      ]
      | inr h ↦ inr (or_right (n.id == x) (has_box ns x) h)
    ]
  ]
  | false ↦ λ e i. elim (held ns b seen x i) [ inl l ↦ inl l | inr h ↦ inr (or_right (n.id == x) (has_box ns x) h) ]
] refl

-- of these boxes, what is under one that was seen was seen
Closed : List Node → List ℕ → Type 0
Closed ns seen = (m : Node) (r : OwnedQuant) → In m ns → In r m.quants → In m.id seen → In r.over seen

closes : (ns : List Node) → Ordered ns → (b : ℕ) (seen : List ℕ) → Closed ns seen → Closed ns (visit ns b seen)
unfolding Closed
closes [] o b seen h = h
closes (n ∷ ns) o b seen h = elim (n.id == b) as (λ v. (n.id == b) ≡ v → Closed (n ∷ ns) (visited n ns b seen v (holds b seen))) [
  | true ↦ λ e. elim (holds b seen) as (λ v. Closed (n ∷ ns) (visited n ns b seen true v)) [
    | true ↦ h
    | false ↦ λ m r i j k. elim i [
      | inl p ↦ each-adds (visit ns) (λ x c s u. grows ns c s x u) (overs_of n) (λ c s u. adds ns c s (over c u)) (seen ++ b ∷ []) r.over (map-in (λ (r : OwnedQuant). r.over) r n.quants (subst (λ (z : Node). In r z.quants) (sym p) j))
      | inr q ↦ each-keeps (Closed ns) (visit ns) (λ c s. closes ns o.2 c s) (overs_of n) (seen ++ b ∷ []) (start e) m r q j k
    ]
  ]
  | false ↦ λ e m r i j k. elim i [
    | inl p ↦ elim (held ns b seen n.id (subst (λ (z : Node). In z.id (visit ns b seen)) (sym p) k)) [
      | inl l ↦ grows ns b seen r.over (h n r (inl refl) (subst (λ (z : Node). In r z.quants) (sym p) j) l)
      | inr t ↦ absurd (clash (has_box ns n.id) t o.0)
    ]
    | inr q ↦ closes ns o.2 b seen (λ m r i. h m r (inr i)) m r q j k
  ]
] refl
  where
    over : (c : ℕ) → In c (overs_of n) → has_box ns c ≡ true
    over c u = let x = in-map (λ (r : OwnedQuant). r.over) c n.quants u in subst (λ z. has_box ns z ≡ true) x.1.1 (all-in (λ r. has_box ns r.over) x.0 n.quants o.1 x.1.0)

    start : (n.id == b) ≡ true → Closed ns (seen ++ b ∷ [])
    start e m r i j k = elim (in-append m.id seen (b ∷ []) k) [
      | inl l ↦ in-left r.over seen (b ∷ []) (h m r (inr i) j l)
      | inr l ↦ elim l [
        | inl p ↦ absurd (clash (has_box ns n.id) (subst (λ z. has_box ns z ≡ true) (sym (eqb-true n.id b e)) (subst (λ z. has_box ns z ≡ true) (sym p) (in-has m ns i))) o.0)
        | inr z ↦ elim z [ ]
      ]
    ]

once : (ns : List Node) (b : ℕ) (seen : List ℕ) → EachOnce seen → EachOnce (visit ns b seen)
once [] b seen o = o
once (n ∷ ns) b seen o = elim (n.id == b) as (λ v. EachOnce (visited n ns b seen v (holds b seen))) [
  | true ↦ elim (holds b seen) as (λ v. holds b seen ≡ v → EachOnce (visited n ns b seen true v)) [
    | true ↦ λ e. o
    | false ↦ λ e. each-keeps EachOnce (visit ns) (λ c s p. once ns c s p) (overs_of n) (seen ++ b ∷ []) (once-more seen b e o)
  ] refl
  | false ↦ once ns b seen o
]

module _ (bs : List Node) where
  visit-from : (ns : List Node) → ((n : Node) → In n ns → In n bs) → (b : ℕ) (seen : List ℕ) (x : ℕ) → In x (visit ns b seen) → In x seen ⊎ Reaches bs b x
  visit-from [] sub b seen x = λ i. inl i
  visit-from (n ∷ ns) sub b seen x = elim (n.id == b) as (λ v. (n.id == b) ≡ v → In x (visited n ns b seen v (holds b seen)) → In x seen ⊎ Reaches bs b x) [
    | true ↦ λ e. elim (holds b seen) as (λ v. In x (visited n ns b seen true v) → In x seen ⊎ Reaches bs b x) [
      | true ↦ λ i. inl i
      | false ↦ λ i. elim (each-from (visit ns) x (Reaches bs n.id x) n.quants (λ r s j k. elim (visit-from ns (λ m u. sub m (inr u)) r.over s x k) [ inl l ↦ inl l | inr t ↦ inr (through n r x (sub n (inl refl)) j t) ]) (seen ++ b ∷ []) i) [
        | inl j ↦ elim (in-append x seen (b ∷ []) j) [
          | inl l ↦ inl l
          | inr l ↦ elim l [ inl p ↦ inr (subst (λ z. Reaches bs b z) p (itself b)) | inr z ↦ elim z [ ] ]
        ]
        | inr t ↦ inr (subst (λ z. Reaches bs z x) (eqb-true n.id b e) t)
      ]
    ]
    | false ↦ λ e i. visit-from ns (λ m u. sub m (inr u)) b seen x i
  ] refl

  pub follow : (seen : List ℕ) → ((m : Node) (r : OwnedQuant) → In m bs → In r m.quants → In m.id seen → In r.over seen) → (c x : ℕ) → Reaches bs c x → In c seen → In x seen
  follow seen h c x (itself y) i = i
  follow seen h c x (through n r y j k t) i = follow seen h r.over y t (h n r j k i)

  pub depth-reached : Ordered bs → (b : ℕ) → has_box bs b ≡ true → (x : ℕ) → In x (visit bs b []) ↔ Reaches bs b x
  unfolding Closed
  depth-reached o b h x = (
    λ i. elim (visit-from bs (λ n j. j) b [] x i) [ inl z ↦ elim z [ ] | inr t ↦ t ],
    λ t. follow (visit bs b []) (closes bs o b [] (λ m r i j k. elim k [ ])) b x t (adds bs b [] h),
  )

pub depth-once : (bs : List Node) (b : ℕ) → EachOnce (visit bs b [])
depth-once bs b = once bs b [] tt
