-- I6 and I7 as they are tested are I6 and I7 as rules use them.
use Rattle.std.specs.Prelude.{⊤}
use Rattle.std.proofs.Common.{ℕ, zero, suc, ◌==◌, ◌≡◌, ◌&&◌, ◌||◌, ◌+◌, ◌≤◌, ◌<◌, cond, not, Bool, true, false, List, [], ◌∷◌, ◌++◌, map, take, refl, sym, ap, ap₂, subst, ◌∙◌, eqb-true, ◌⊎◌, inl, inr, arith}
use Rattle.std.specs.List.{list_any}
use Rattle.std.proofs.lemmas.Bool.{and_from, and_parts, cases_Bool, eq-eqb, not-true, or_cases, or_left, or_right}
use Rattle.qgm_core.specs.declared.node.Node.{Node}
use Rattle.qgm_core.specs.declared.owned.OwnedQuant.{OwnedQuant}
use Rattle.qgm_core.specs.declared.kinds.BoxKind.{BoxKind}
use Rattle.qgm_core.specs.declared.kinds.BoxKind.TheVariants.{Base, Select, Group, SetOp, OuterJoin}
use Rattle.qgm_core.specs.Boxes.{Ordered, has_box, is_quant, owns, overs_of, ids_of, overs_in, ids_in}
use Rattle.qgm_core.specs.Kinds.{is_F}
use Rattle.qgm_meaning.specs.Scope.{loose, loose_by, loose_each, looks_found, read_beyond, read_by, under_any}
use Rattle.qgm_meaning.proofs.ExistsJoined.{inner}
use Rattle.qgm_edit_laws.specs.Checked.{scoped, scoped_by, shown, viewers, own_seen, read_free, Checked}
use Rattle.list_laws.specs.Lists.{holds, In, times}
use Rattle.qgm_core.specs.Free.{reached}
use Rattle.qgm_edit_laws.specs.Graph.{BareBy, binds_row, Sound}
use Rattle.qgm_edit_laws.proofs.Compact.{come}
use Rattle.qgm_edit_laws.proofs.Edits.{map-append, split-once}
use Rattle.qgm_edit_laws.proofs.Looks.{each-cases}
use Rattle.qgm_edit_laws.proofs.Ranks.{place, place-under}
use Rattle.qgm_edit_laws.proofs.Scope.{bound-owned, climb, closed-root, loose-within, owned-times, parent, touched, unfold-loose}
use Rattle.qgm_edit_laws.proofs.Turns.{each-turn, first-own}
use Rattle.list_laws.proofs.Membership.{all-in, any-from, any-in, any-not, append-one, holds-in, in-append, in-holds, in-left, in-map, in-right, map-in}
use Rattle.qgm_core.proofs.Reaching.{closes, overs-held, stays}
use Rattle.list_laws.proofs.Counting.{in-times, times-append, times-in, times-once}
use Rattle.list_laws.proofs.Booleans.{clash}

bound-in : (q : ℕ) (rs : List OwnedQuant) → binds_row q rs ≡ true → (r : OwnedQuant) × (In r rs × ((is_F r.kind ≡ true) × (r.id ≡ q)))
bound-in q rs h = let x = any-in (λ r. is_F r.kind && is_quant q r) rs h in let ps = and_parts (is_F x.0.kind) (is_quant q x.0) x.1.1 in (x.0, (x.1.0, (ps.0, eqb-true x.0.id q ps.1)))

-- a box under an F quantifier looks up neither that quantifier nor a later one
abbrev pub Lateral : (ℕ → ℕ → Bool) → List OwnedQuant → Type 0
Lateral under [] = ⊤
Lateral under (r ∷ rs) = (is_F r.kind ≡ true → (q : ℕ) → under r.over q ≡ true → binds_row q (r ∷ rs) ≡ false) × Lateral under rs

binds-right : (q : ℕ) (xs ys : List OwnedQuant) → binds_row q ys ≡ true → binds_row q (xs ++ ys) ≡ true
binds-right q [] ys h = h
binds-right q (x ∷ xs) ys h = or_right (is_F x.kind && is_quant q x) (binds_row q (xs ++ ys)) (binds-right q xs ys h)

list-times : (q : ℕ) (rs : List OwnedQuant) → binds_row q rs ≡ true → 1 ≤ times q (map (λ (r : OwnedQuant). r.id) rs)
list-times q rs h = let x = bound-in q rs h in subst (λ z. 1 ≤ times z (map (λ (r : OwnedQuant). r.id) rs)) x.1.1.1 (in-times (λ (r : OwnedQuant). r.id) x.0 rs x.1.0)

-- WHO IS SHOWN Q
scoped-over : (q b : ℕ) (own met : Bool) (rs : List OwnedQuant) → In b (scoped q own met rs) → (r : OwnedQuant) × (In r rs × (r.over ≡ b))
scoped-over q b own met [] i = elim i [ ]
scoped-over q b own met (r ∷ rs) i =
    elim (in-append b (cond (cond (is_F r.kind) met own) (r.over ∷ []) []) (scoped q own (met || (is_F r.kind && is_quant q r)) rs) i) [
      | inl a ↦ (r, (inl refl, one (cond (is_F r.kind) met own) r a))
      | inr c ↦ (let x = scoped-over q b own (met || (is_F r.kind && is_quant q r)) rs c in (x.0, (inr x.1.0, x.1.1)))
    ]
  where
    one : (t : Bool) (r : OwnedQuant) → In b (cond t (r.over ∷ []) []) → r.over ≡ b
    one true r a = elim a [ inl e ↦ e | inr z ↦ elim z [ ] ]
    one false r a = elim a [ ]

more-met : (met a b : Bool) → ((met || a) || b) ≡ true → (met || (a || b)) ≡ true
more-met true a b h = refl
more-met false a b h = h

less-met : (met a b : Bool) → (met || (a || b)) ≡ true → ((met || a) || b) ≡ true
less-met true a b h = refl
less-met false a b h = h

-- somebody is shown q only by a box that binds it
scoped-binds : (q b : ℕ) (own met : Bool) (rs : List OwnedQuant) → In b (scoped q own met rs) → (own ≡ true) ⊎ ((met || binds_row q rs) ≡ true)
scoped-binds q b own met [] i = elim i [ ]
scoped-binds q b own met (r ∷ rs) i =
    elim (in-append b (cond (cond (is_F r.kind) met own) (r.over ∷ []) []) (scoped q own (met || (is_F r.kind && is_quant q r)) rs) i) [
      | inl a ↦ elim (is_F r.kind) as (λ t. In b (cond (cond t met own) (r.over ∷ []) []) → (own ≡ true) ⊎ ((met || ((t && is_quant q r) || binds_row q rs)) ≡ true)) [
        | true ↦ λ a. inr (or_left met (is_quant q r || binds_row q rs) (held met a))
        | false ↦ λ a. inl (held own a)
      ] a
      | inr c ↦ elim (scoped-binds q b own (met || (is_F r.kind && is_quant q r)) rs c) [ inl x ↦ inl x | inr x ↦ inr (more-met met (is_F r.kind && is_quant q r) (binds_row q rs) x) ]
    ]
  where
    held : (t : Bool) → In b (cond t (r.over ∷ []) []) → t ≡ true
    held true a = refl
    held false a = elim a [ ]

-- a box under an F quantifier, and under no other, is shown q only if q comes before
scoped-before : (q : ℕ) (own met : Bool) (done : List OwnedQuant) (r : OwnedQuant) (rs : List OwnedQuant) → is_F r.kind ≡ true → ((s : OwnedQuant) → In s done → (s.over == r.over) ≡ false) → ((s : OwnedQuant) → In s rs → (s.over == r.over) ≡ false)
    → In r.over (scoped q own met (done ++ r ∷ rs)) → (met || binds_row q done) ≡ true
scoped-before q own met [] r rs f hd hr i =
    elim (in-append r.over (cond (cond (is_F r.kind) met own) (r.over ∷ []) []) (scoped q own (met || (is_F r.kind && is_quant q r)) rs) i) [
      | inl a ↦ or_left met false (held met (subst (λ t. In r.over (cond (cond t met own) (r.over ∷ []) [])) f a))
      | inr c ↦ (let x = scoped-over q r.over own (met || (is_F r.kind && is_quant q r)) rs c in absurd (clash (x.0.over == r.over) (eq-eqb x.0.over r.over x.1.1) (hr x.0 x.1.0)))
    ]
  where
    held : (t : Bool) → In r.over (cond t (r.over ∷ []) []) → t ≡ true
    held true a = refl
    held false a = elim a [ ]
scoped-before q own met (d ∷ done) r rs f hd hr i =
    elim (in-append r.over (cond (cond (is_F d.kind) met own) (d.over ∷ []) []) (scoped q own (met || (is_F d.kind && is_quant q d)) (done ++ r ∷ rs)) i) [
      | inl a ↦ absurd (clash (d.over == r.over) (eq-eqb d.over r.over (one (cond (is_F d.kind) met own) a)) (hd d (inl refl)))
      | inr c ↦ more-met met (is_F d.kind && is_quant q d) (binds_row q done) (scoped-before q own (met || (is_F d.kind && is_quant q d)) done r rs f (λ s j. hd s (inr j)) hr c)
    ]
  where
    one : (t : Bool) → In r.over (cond t (d.over ∷ []) []) → d.over ≡ r.over
    one true a = elim a [ inl e ↦ e | inr z ↦ elim z [ ] ]
    one false a = elim a [ ]

-- a box that reads q under a box that binds it is shown it
scoped-has : (under : ℕ → ℕ → Bool) (q : ℕ) (own met : Bool) (rs : List OwnedQuant) → Lateral under rs → (r : OwnedQuant) → In r rs → under r.over q ≡ true → own ≡ true → (met || binds_row q rs) ≡ true → In r.over (scoped q own met rs)
scoped-has under q own met [] l r i u o h = elim i [ ]
scoped-has under q own met (s ∷ rs) l r i u o h =
    elim i [
      | inl e ↦ in-left r.over (cond (cond (is_F s.kind) met own) (s.over ∷ []) []) (scoped q own (met || (is_F s.kind && is_quant q s)) rs) (subst (λ (z : OwnedQuant). In z.over (cond (cond (is_F s.kind) met own) (s.over ∷ []) [])) e (at (subst (λ (z : OwnedQuant). under z.over q ≡ true) (sym e) u)))
      | inr j ↦ in-right r.over (cond (cond (is_F s.kind) met own) (s.over ∷ []) []) (scoped q own (met || (is_F s.kind && is_quant q s)) rs) (scoped-has under q own (met || (is_F s.kind && is_quant q s)) rs l.1 r j u o (less-met met (is_F s.kind && is_quant q s) (binds_row q rs) h))
    ]
  where
    shows : (t : Bool) → t ≡ true → In s.over (cond t (s.over ∷ []) [])
    shows true e = inl refl
    shows false e = absurd (let z : ⊥ = cc in z)

    met-is : binds_row q (s ∷ rs) ≡ false → met ≡ true
    met-is n = elim (or_cases met (binds_row q (s ∷ rs)) h) [ inl x ↦ x | inr x ↦ absurd (clash (binds_row q (s ∷ rs)) x n) ]

    at : under s.over q ≡ true → In s.over (cond (cond (is_F s.kind) met own) (s.over ∷ []) [])
    at u = elim (cases_Bool (is_F s.kind)) [
      | inl t ↦ subst (λ b. In s.over (cond (cond b met own) (s.over ∷ []) [])) (sym t) (shows met (met-is (l.0 t q u)))
      | inr f ↦ subst (λ b. In s.over (cond (cond b met own) (s.over ∷ []) [])) (sym f) (shows own o)
    ]

v-stays : (q b : ℕ) (marks : List ℕ) (ns : List Node) → In b marks → In b (viewers q marks ns)
v-stays q b marks [] i = i
v-stays q b marks (n ∷ ns) i = v-stays q b (marks ++ shown q marks n) ns (in-left b marks (shown q marks n) i)

by-shown : (q b : ℕ) (marks : List ℕ) (n : Node) → In b (shown q marks n) → ((holds n.id marks ≡ true) × In b (overs_of n)) ⊎ In b (scoped_by n.parts.kind q n.quants)
by-shown q b marks n i = elim (holds n.id marks) as (λ t. holds n.id marks ≡ t → In b (cond t (overs_of n) (scoped_by n.parts.kind q n.quants)) → ((holds n.id marks ≡ true) × In b (overs_of n)) ⊎ In b (scoped_by n.parts.kind q n.quants)) [
  | true ↦ λ t i. inl (t, i)
  | false ↦ λ t i. inr i
] refl i

scoped_by-over : (k : BoxKind) (q b : ℕ) (rs : List OwnedQuant) → In b (scoped_by k q rs) → ((r : OwnedQuant) × (In r rs × (r.over ≡ b))) × (binds_row q rs ≡ true)
scoped_by-over (Base name) q b rs i = elim i [ ]
scoped_by-over Select q b rs i = (scoped-over q b (binds_row q rs) false rs i, elim (scoped-binds q b (binds_row q rs) false rs i) [ inl x ↦ x | inr x ↦ x ])
scoped_by-over (Group k) q b rs i = elim i [ ]
scoped_by-over (SetOp form w) q b rs i = elim i [ ]
scoped_by-over OuterJoin q b rs i = elim i [ ]

shown-over : (q b : ℕ) (marks : List ℕ) (n : Node) → In b (shown q marks n) → (r : OwnedQuant) × (In r n.quants × (r.over ≡ b))
shown-over q b marks n i = elim (by-shown q b marks n i) [ inl a ↦ in-map (λ (r : OwnedQuant). r.over) b n.quants a.1 | inr c ↦ (scoped_by-over n.parts.kind q b n.quants c).0 ]

v-come : (q b : ℕ) (marks : List ℕ) (ns : List Node) → In b (viewers q marks ns)
    → In b marks ⊎ ((n : Node) × (In n ns × (((r : OwnedQuant) × (In r n.quants × (r.over ≡ b))) × (In n.id (viewers q marks ns) ⊎ In b (scoped_by n.parts.kind q n.quants)))))
v-come q b marks [] i = inl i
v-come q b marks (n ∷ ns) i = elim (v-come q b (marks ++ shown q marks n) ns i) [
  | inr x ↦ inr (x.0, (inr x.1.0, x.1.1))
  | inl a ↦ elim (in-append b marks (shown q marks n) a) [
    | inl c ↦ inl c
    | inr c ↦ inr (
      n,
      (
        inl refl,
        (
          shown-over q b marks n c,
          elim (by-shown q b marks n c) [
            | inl d ↦ inl (v-stays q n.id (marks ++ shown q marks n) ns (in-left n.id marks (shown q marks n) (holds-in n.id marks d.0)))
            | inr d ↦ inr d
          ],
        ),
      ),
    )
  ]
]

-- what sees q shows it to all under it, and what binds it shows it as it should
v-closes : (q : ℕ) (marks : List ℕ) (ns : List Node) → Ordered ns → (n : Node) (r : OwnedQuant) → In n ns → In r n.quants → In n.id (viewers q marks ns) ⊎ In r.over (scoped_by n.parts.kind q n.quants) → In r.over (viewers q marks ns)
v-closes q marks [] o n r i j k = elim i [ ]
v-closes q marks (m ∷ ns) o n r i j k = elim i [
  | inr l ↦ v-closes q (marks ++ shown q marks m) ns o.2 n r l j k
  | inl e ↦ v-stays q r.over (marks ++ shown q marks m) ns (in-right r.over marks (shown q marks m) (
      at (subst (λ (z : Node). In r z.quants) (sym e) j) (subst (λ (z : Node). In z.id (viewers q (marks ++ shown q marks m) ns) ⊎ In r.over (scoped_by z.parts.kind q z.quants)) (sym e) k)))
]
  where
    all : In r m.quants → In r.over (overs_of m)
    all u = map-in (λ (r : OwnedQuant). r.over) r m.quants u

    marked : holds m.id marks ≡ true → In r m.quants → In r.over (shown q marks m)
    marked t u = subst (λ (b : Bool). In r.over (cond b (overs_of m) (scoped_by m.parts.kind q m.quants))) (sym t) (all u)

    at : In r m.quants → In m.id (viewers q (marks ++ shown q marks m) ns) ⊎ In r.over (scoped_by m.parts.kind q m.quants) → In r.over (shown q marks m)
    at u k = elim (cases_Bool (holds m.id marks)) [
      | inl t ↦ marked t u
      | inr f ↦ elim k [
        | inr c ↦ subst (λ (b : Bool). In r.over (cond b (overs_of m) (scoped_by m.parts.kind q m.quants))) (sym f) c
        | inl v ↦ elim (v-come q m.id (marks ++ shown q marks m) ns v) [
          | inr x ↦ absurd (clash (has_box ns m.id) (subst (λ z. has_box ns z ≡ true) x.1.1.0.1.1 (overs-held ns x.0 x.1.1.0.0 o.2 x.1.0 x.1.1.0.1.0)) o.0)
          | inl a ↦ elim (in-append m.id marks (shown q marks m) a) [
            | inl c ↦ marked (in-holds m.id marks c) u
            | inr c ↦ (let x = shown-over q m.id marks m c in absurd (clash (has_box ns m.id) (subst (λ z. has_box ns z ≡ true) x.1.1 (all-in (λ r. has_box ns r.over) x.0 m.quants o.1 x.1.0)) o.0))
          ]
        ]
      ]
    ]

module _ (bs : List Node) (o : Ordered bs) where
  -- what is reached from a box isn't above it
  reached-by : (k b z : ℕ) → place bs z < k → In z (reached (b ∷ []) bs) → place bs b ≤ place bs z
  reached-by zero b z f i = absurd (omega arith)
  reached-by (suc k) b z f i = elim (come z (b ∷ []) bs i) [
    | inl a ↦ elim a [ inl e ↦ (let p : place bs b ≡ place bs z = ap (place bs) e in omega arith) | inr n ↦ elim n [ ] ]
    | inr x ↦ (
        let r = x.1.1.1.0 in
        let up : place bs x.0.id < place bs z = subst (λ y. place bs x.0.id < place bs y) x.1.1.1.1.1 (place-under bs x.0 r o x.1.0 x.1.1.1.1.0) in
        let h = reached-by k b x.0.id (omega arith) x.1.1.0 in omega arith)
  ]

  -- a closed set that holds a box holds what is reached from it
  reach-in : (k b c z : ℕ) → place bs z < k → In b (reached (c ∷ []) bs) → In z (reached (b ∷ []) bs) → In z (reached (c ∷ []) bs)
  reach-in zero b c z f u i = absurd (omega arith)
  reach-in (suc k) b c z f u i = elim (come z (b ∷ []) bs i) [
    | inl a ↦ elim a [ inl e ↦ subst (λ y. In y (reached (c ∷ []) bs)) e u | inr n ↦ elim n [ ] ]
    | inr x ↦ (
        let r = x.1.1.1.0 in
        let up : place bs x.0.id < place bs z = subst (λ y. place bs x.0.id < place bs y) x.1.1.1.1.1 (place-under bs x.0 r o x.1.0 x.1.1.1.1.0) in
        let h = reach-in k b c x.0.id (omega arith) u x.1.1.0 in
        subst (λ y. In y (reached (c ∷ []) bs)) x.1.1.1.1.1 (closes (c ∷ []) bs o x.0 r x.1.0 h x.1.1.1.1.0))
  ]

  -- FROM CHECKED
  module _ (root : ℕ) (once : (q : ℕ) → times q (ids_in bs) ≤ 1) (c : Checked bs root) where
    same-owner : (q : ℕ) (n m : Node) → In n bs → In m bs → owns q n ≡ true → owns q m ≡ true → n ≡ m
    same-owner q n m i j h k = times-once ids_of q n m bs (once q) i j (owned-times q n h) (owned-times q m k)

    -- who sees q is below the box that binds it
    view-by : (k q b : ℕ) → place bs b < k → In b (viewers q [] bs) → (n : Node) → In n bs → owns q n ≡ true → place bs n.id < place bs b
    view-by zero q b f v n i t = absurd (omega arith)
    view-by (suc k) q b f v n i t = elim (v-come q b [] bs v) [
      | inl a ↦ elim a [ ]
      | inr x ↦ (
          let r = x.1.1.0.0 in
          let up : place bs x.0.id < place bs b = subst (λ y. place bs x.0.id < place bs y) x.1.1.0.1.1 (place-under bs x.0 r o x.1.0 x.1.1.0.1.0) in
          elim x.1.1.1 [
            | inl u ↦ (let h = view-by k q x.0.id (omega arith) u n i t in omega arith)
            | inr s ↦ subst (λ (z : Node). place bs z.id < place bs b) (same-owner q x.0 n x.1.0 i (bound-owned q x.0.quants (scoped_by-over x.0.parts.kind q b x.0.quants s).1) t) up
          ])
    ]

    abbrev Carries : ℕ → ℕ → Type 0
    Carries b q = In b (viewers q [] bs) × ((z : Node) × (In z bs × (In z.id (reached (b ∷ []) bs) × (read_by z q ≡ true))))

    carries-free : (b q : ℕ) → Carries b q → read_free bs b q ≡ true
    carries-free b q x =
        let z = x.1 in
        and_from (list_any (λ n. holds n.id (reached (b ∷ []) bs) && read_by n q) bs) (not (list_any (λ n. holds n.id (reached (b ∷ []) bs) && owns q n) bs))
        (any-from (λ n. holds n.id (reached (b ∷ []) bs) && read_by n q) z.0 bs z.1.0 (and_from (holds z.0.id (reached (b ∷ []) bs)) (read_by z.0 q) (in-holds z.0.id (reached (b ∷ []) bs) z.1.1.0) z.1.1.1))
        (ap not (any-not (λ n. holds n.id (reached (b ∷ []) bs) && owns q n) bs (λ n i. elim (cases_Bool (holds n.id (reached (b ∷ []) bs) && owns q n)) [
          | inl t ↦ (
              let ps = and_parts (holds n.id (reached (b ∷ []) bs)) (owns q n) t in
              let below = reached-by (suc (place bs n.id)) b n.id (omega arith) (holds-in n.id (reached (b ∷ []) bs) ps.0) in
              let above = view-by (suc (place bs b)) q b (omega arith) x.0 n i ps.1 in absurd (omega arith))
          | inr f ↦ f
        ])))

    carries-used : (b q : ℕ) → Carries b q → times b (overs_in bs) ≡ 1
    carries-used b q x = elim (cases_Bool (b == root)) [
      | inl t ↦ absurd (clash (read_free bs root q) (subst (λ z. read_free bs z q ≡ true) (eqb-true b root t) (carries-free b q x)) (c.root_free q))
      | inr f ↦ c.opened b q (carries-free b q x) f
    ]

    -- the one box over a box that sees q
    over-one : (b q : ℕ) → Carries b q → (n : Node) (r : OwnedQuant) → In n bs → In r n.quants → r.over ≡ b → In n.id (viewers q [] bs) ⊎ In b (scoped_by n.parts.kind q n.quants)
    over-one b q x n r i j e = elim (v-come q b [] bs x.0) [
      | inl a ↦ elim a [ ]
      | inr y ↦ (
          let u = carries-used b q x in
          let F = λ (n : Node). overs_of n in
          let s = y.1.1.0.0 in
          let same : y.0 ≡ n = times-once F b y.0 n bs (omega arith) y.1.0 i
          (subst (λ z. 1 ≤ times z (F y.0)) y.1.1.0.1.1 (in-times (λ (r : OwnedQuant). r.over) s y.0.quants y.1.1.0.1.0)) (subst (λ z. 1 ≤ times z (F n)) e (in-times (λ (r : OwnedQuant). r.over) r n.quants j)) in
          subst (λ (z : Node). In z.id (viewers q [] bs) ⊎ In b (scoped_by z.parts.kind q z.quants)) same y.1.1.1)
    ]

    -- at a quantifier below which q is looked up
    at-quant : (n : Node) (q : ℕ) (r : OwnedQuant) → In n bs → In r n.quants → Carries r.over q → In n.id (viewers q [] bs) ⊎ In r.over (scoped_by n.parts.kind q n.quants)
    at-quant n q r i j x = over-one r.over q x n r i j refl

    carried : (n : Node) (q : ℕ) (r : OwnedQuant) → In n bs → In r n.quants → Carries r.over q → In n.id (viewers q [] bs) → Carries n.id q
    carried n q r i j x v = let z = x.1 in (v, (z.0, (z.1.0, (reach-in (suc (place bs z.0.id)) r.over n.id z.0.id (omega arith) (closes (n.id ∷ []) bs o n r i (stays n.id (n.id ∷ []) bs (inl refl)) j) z.1.1.0, z.1.1.1))))

    read-carried : (n : Node) (q : ℕ) → In n bs → read_by n q ≡ true → own_seen n.parts.kind n q ≡ false → Carries n.id q
    read-carried n q i t f = (
      elim (or_cases (own_seen n.parts.kind n q) (holds n.id (viewers q [] bs)) (c.seen n i q t)) [ inl y ↦ absurd (clash (own_seen n.parts.kind n q) y f) | inr y ↦ holds-in n.id (viewers q [] bs) y ],
      (n, (i, (stays n.id (n.id ∷ []) bs (inl refl), t))),
    )

    few-ids : (n : Node) (q : ℕ) → In n bs → times q (ids_of n) ≤ 1
    few-ids n q i = let a = times-in ids_of q n bs i in let b = once q in omega arith

    -- at the turn of r, before which q isn't bound
    at-turn : (n : Node) (q : ℕ) → In n bs → n.parts.kind ≡ Select → (done : List OwnedQuant) (r : OwnedQuant) (rest : List OwnedQuant) → n.quants ≡ done ++ r ∷ rest → is_F r.kind ≡ true → binds_row q done ≡ false → Carries r.over q → Carries n.id q
    at-turn n q i k done r rest e f u x =
        let j : In r n.quants = subst (λ z. In r z) (sym e) (in-right r done (r ∷ rest) (inl refl)) in
        elim (at-quant n q r i j x) [
          | inl v ↦ carried n q r i j x v
          | inr s ↦ (
              let one = carries-used r.over q x in
              let few : times r.over (map (λ (r : OwnedQuant). r.over) (done ++ r ∷ rest)) ≤ 1 = subst (λ z. times r.over (map (λ (r : OwnedQuant). r.over) z) ≤ 1) e (let a = times-in overs_of r.over n bs i in omega arith) in
              let s' : In r.over (scoped q (binds_row q n.quants) false (done ++ r ∷ rest)) = subst (λ z. In r.over (scoped q (binds_row q n.quants) false z)) e (subst (λ z. In r.over (scoped_by z q n.quants)) k s) in
              absurd (clash (binds_row q done) (scoped-before q (binds_row q n.quants) false done r rest f (λ s m. split-once (λ r. r.over) done r rest few s (inl m)) (λ s m. split-once (λ r. r.over) done r rest few s (inr m)) s') u))
        ]

    append-none : (xs : List OwnedQuant) → xs ++ [] ≡ xs
    append-none [] = refl
    append-none (x ∷ xs) = ap (λ z. x ∷ z) (append-none xs)

    module _ (n : Node) (i : In n bs) (under : ℕ → ℕ → Bool) (hu : (b q : ℕ) → under b q ≡ true → Carries b q) (q : ℕ) where
      -- nobody below sees a quantifier of a box that isn't a Select
      below-other : ((b : ℕ) → In b (scoped_by n.parts.kind q n.quants) → ⊥) → under_any n.quants under q ≡ true → Carries n.id q
      below-other none t =
          let r = any-in (λ (r : OwnedQuant). under r.over q) n.quants t in
          let x = hu r.0.over q r.1.1 in
          elim (at-quant n q r.0 i r.1.0 x) [ inl v ↦ carried n q r.0 i r.1.0 x v | inr s ↦ absurd (none r.0.over s) ]

      beyond : (k : ℕ) → (own_seen n.parts.kind n q ≡ list_any (is_quant q) (take k n.quants)) → read_beyond (take k n.quants) (read_by n) q ≡ true → Carries n.id q
      beyond k e t = let ps = and_parts (not (list_any (is_quant q) (take k n.quants))) (read_by n q) t in read-carried n q i ps.1 (e ∙ not-true (list_any (is_quant q) (take k n.quants)) ps.0)

      in-turn : n.parts.kind ≡ Select → loose_each n.quants n under q ≡ true → Carries n.id q
      in-turn k t = elim (each-cases n under q n.quants [] (subst (λ z. loose_each z n under q ≡ true) (sym (append-none n.quants)) t)) [
        | inl e ↦ (
            let r = e.1.0 in
            let j : In r n.quants = subst (λ z. In r z) (sym e.1.1.1.0) (in-right r e.0 (r ∷ e.1.1.0) (inl refl)) in
            at-turn n q i k e.0 r e.1.1.0 e.1.1.1.0 e.1.1.1.1.0 e.1.1.1.1.1.0
            (hu r.over q (subst (λ o. looks_found o under q ≡ true) (first-own r n.quants (few-ids n r.id i) j) e.1.1.1.1.1.1)))
        | inr e ↦ elim (or_cases (read_by n q) (under_any n.quants under q) e.1) [
          | inl a ↦ read-carried n q i a (ap (λ z. own_seen z n q) k ∙ e.0)
          | inr a ↦ below-other (λ b s. clash (binds_row q n.quants) (scoped_by-over n.parts.kind q b n.quants s).1 e.0) a
        ]
      ]

      carry-by : (k : BoxKind) → n.parts.kind ≡ k → loose_by k n under q ≡ true → Carries n.id q
      carry-by (Base name) e t = absurd (let z : ⊥ = cc in z)
      carry-by Select e t = in-turn e t
      carry-by (Group k) e t = elim (or_cases (under_any n.quants under q) (read_beyond (take 1 n.quants) (read_by n) q) t) [
        | inl a ↦ below-other (λ b s. elim (subst (λ z. In b (scoped_by z q n.quants)) e s) [ ]) a
        | inr a ↦ beyond 1 (ap (λ z. own_seen z n q) e) a
      ]
      carry-by (SetOp form w) e t = below-other (λ b s. elim (subst (λ z. In b (scoped_by z q n.quants)) e s) [ ]) t
      carry-by OuterJoin e t = elim (or_cases (under_any n.quants under q) (read_beyond (take 2 n.quants) (read_by n) q) t) [
        | inl a ↦ below-other (λ b s. elim (subst (λ z. In b (scoped_by z q n.quants)) e s) [ ]) a
        | inr a ↦ beyond 2 (ap (λ z. own_seen z n q) e) a
      ]

    loose-carries : (b q : ℕ) → loose bs b q ≡ true → Carries b q
    loose-carries = loose-within Carries bs (λ n i under hu q t. carry-by n i under hu q n.parts.kind refl t)

    pub used-from : (b q : ℕ) → loose bs b q ≡ true → times b (overs_in bs) ≡ 1
    used-from b q l = carries-used b q (loose-carries b q l)

    pub settled-from : (n : Node) → In n bs → (q : ℕ) → owns q n ≡ true → loose bs n.id q ≡ false
    settled-from n i q t = elim (cases_Bool (loose bs n.id q)) [
      | inr f ↦ f
      | inl l ↦ (let h = view-by (suc (place bs n.id)) q n.id (omega arith) (loose-carries n.id q l).0 n i t in absurd (omega arith))
    ]

  -- what a box reads and doesn't see as its own it looks up
  pub looks-up : (k : BoxKind) (n : Node) (q : ℕ) → BareBy k n → read_by n q ≡ true → own_seen k n q ≡ false → loose_by k n (loose bs) q ≡ true
  looks-up (Base name) n q e t f = absurd (clash (read_by n q) t (ap₂ (λ h c. read_by (record n { parts = record n.parts { head = h; conds = record n.parts.conds { items = c } } }) q) e.1 e.2))
  looks-up Select n q e t f = elim (cases_Bool (loose_each n.quants n (loose bs) q)) [
    | inl y ↦ y
    | inr y ↦ absurd (clash (read_by n q || under_any n.quants (loose bs) q) (or_left (read_by n q) (under_any n.quants (loose bs) q) t) (inner n (loose bs) q n.quants f y))
  ]
  looks-up (Group k) n q e t f = or_right (under_any n.quants (loose bs) q) (read_beyond (take 1 n.quants) (read_by n) q) (and_from (not (list_any (is_quant q) (take 1 n.quants))) (read_by n q) (ap not f) t)
  looks-up (SetOp form w) n q e t f = absurd (clash (read_by n q) t (ap₂ (λ h c. read_by (record n { parts = record n.parts { head = h; conds = record n.parts.conds { items = c } } }) q) e.0 e.1))
  looks-up OuterJoin n q e t f = or_right (under_any n.quants (loose bs) q) (read_beyond (take 2 n.quants) (read_by n) q) (and_from (not (list_any (is_quant q) (take 2 n.quants))) (read_by n q) (ap not f) t)

  -- TO CHECKED
  module _ (root : ℕ) (w : Sound bs root) where
    lateral-of : (n : Node) → In n bs → n.parts.kind ≡ Select → (done rs : List OwnedQuant) → n.quants ≡ done ++ rs → Lateral (loose bs) rs
    lateral-of n i k done [] e = tt
    lateral-of n i k done (r ∷ rs) e = (
      (λ t q l. elim (cases_Bool (binds_row q (r ∷ rs))) [
        | inr f ↦ f
        | inl y ↦ (
            let ids = λ (xs : List OwnedQuant). map (λ (r : OwnedQuant). r.id) xs in
            let own : owns q n ≡ true = bound-owned q n.quants (subst (λ z. binds_row q z ≡ true) (sym e) (binds-right q done (r ∷ rs) y)) in
            let j : In r n.quants = subst (λ z. In r z) (sym e) (in-right r done (r ∷ rs) (inl refl)) in
            let few : (x : ℕ) → times x (ids_of n) ≤ 1 = (λ x. let a = times-in ids_of x n bs i in let b = w.once x in omega arith) in
            let off : binds_row q done ≡ false = (elim (cases_Bool (binds_row q done)) [
              | inr f ↦ f
              | inl z ↦ (
                  let a3 : times q (ids n.quants) ≡ times q (ids done) + times q (ids (r ∷ rs)) = ap (λ z. times q (ids z)) e ∙ ap (times q) (map-append (λ (r : OwnedQuant). r.id) done (r ∷ rs)) ∙ times-append q (ids done) (ids (r ∷ rs)) in
                  let a4 = list-times q done z in let a5 = list-times q (r ∷ rs) y in let a6 = few q in absurd (omega arith))
            ]) in
            let there : loose bs n.id q ≡ true = ap (λ (h : ℕ → Bool). h q) (unfold-loose bs n w.ordered i) ∙ ap (λ z. loose_by z n (loose bs) q) k ∙ ap (λ z. loose_each z n (loose bs) q) e
            ∙ each-turn n (loose bs) q done r rs t off (ap (λ o. looks_found o (loose bs) q) (first-own r n.quants (few r.id) j) ∙ l) in
            absurd (clash (loose bs n.id q) there (w.settled n i q own)))
      ]),
      lateral-of n i k (done ++ r ∷ []) rs (e ∙ sym (append-one done r rs)),
    )

    viewed-by : (k b q : ℕ) → place bs b < k → loose bs b q ≡ true → In b (viewers q [] bs)
    viewed-by zero b q f l = absurd (omega arith)
    viewed-by (suc k) b q f l =
        let p = parent bs root w b q l in
        let n = p.0 in let r = p.1.1.0 in
        let up : place bs n.id < place bs b = subst (λ z. place bs n.id < place bs z) p.1.1.1.1 (place-under bs n r o p.1.0 p.1.1.1.0) in
        let u : loose bs r.over q ≡ true = subst (λ z. loose bs z q ≡ true) (sym p.1.1.1.1) l in
        subst (λ z. In z (viewers q [] bs)) p.1.1.1.1 (v-closes q [] bs o n r p.1.0 p.1.1.1.0 (elim (climb bs root w n r q p.1.0 p.1.1.1.0 u) [
          | inl t ↦ inr (subst (λ z. In r.over (scoped_by z q n.quants)) (sym t.0) (scoped-has (loose bs) q (binds_row q n.quants) false n.quants (lateral-of n p.1.0 t.0 [] n.quants refl) r p.1.1.1.0 u t.1 t.1))
          | inr g ↦ inl (viewed-by k n.id q (omega arith) g)
        ]))

    -- what is free is loose
    free-by : (k b z q : ℕ) → place bs z < k → In z (reached (b ∷ []) bs) → ((n : Node) → In n bs → In n.id (reached (b ∷ []) bs) → owns q n ≡ false) → loose bs z q ≡ true → loose bs b q ≡ true
    free-by zero b z q f i h l = absurd (omega arith)
    free-by (suc k) b z q f i h l = elim (come z (b ∷ []) bs i) [
      | inl a ↦ elim a [ inl e ↦ subst (λ y. loose bs y q ≡ true) (sym e) l | inr n ↦ elim n [ ] ]
      | inr x ↦ (
          let r = x.1.1.1.0 in
          let up : place bs x.0.id < place bs z = subst (λ y. place bs x.0.id < place bs y) x.1.1.1.1.1 (place-under bs x.0 r o x.1.0 x.1.1.1.1.0) in
          let u : loose bs r.over q ≡ true = subst (λ y. loose bs y q ≡ true) (sym x.1.1.1.1.1) l in
          free-by k b x.0.id q (omega arith) x.1.1.0 h (elim (climb bs root w x.0 r q x.1.0 x.1.1.1.1.0 u) [
            | inl y ↦ absurd (clash (owns q x.0) (bound-owned q x.0.quants y.1) (h x.0 x.1.0 x.1.1.0))
            | inr y ↦ y
          ]))
    ]

    pub free-loose : (b q : ℕ) → read_free bs b q ≡ true → loose bs b q ≡ true
    free-loose b q t =
        let M = reached (b ∷ []) bs in
        let ps = and_parts (list_any (λ n. holds n.id M && read_by n q) bs) (not (list_any (λ n. holds n.id M && owns q n) bs)) t in
        let x = any-in (λ (n : Node). holds n.id M && read_by n q) bs ps.0 in
        let xs = and_parts (holds x.0.id M) (read_by x.0 q) x.1.1 in
        let none : (n : Node) → In n bs → In n.id M → owns q n ≡ false = (λ n i k. elim (cases_Bool (owns q n)) [
          | inl y ↦ absurd (clash (list_any (λ (n : Node). holds n.id M && owns q n) bs) (any-from (λ (n : Node). holds n.id M && owns q n) n bs i (and_from (holds n.id M) (owns q n) (in-holds n.id M k) y)) (not-true (list_any (λ (n : Node). holds n.id M && owns q n) bs) ps.1))
          | inr f ↦ f
        ]) in
        let j = holds-in x.0.id M xs.0 in
        free-by (suc (place bs x.0.id)) b x.0.id q (omega arith) j none (elim (touched bs root w x.0 q x.1.0 (or_left (read_by x.0 q) (under_any x.0.quants (loose bs) q) xs.1)) [
          | inl y ↦ absurd (clash (owns q x.0) y (none x.0 x.1.0 j))
          | inr y ↦ y
        ])

    pub to-checked : Checked bs root
    to-checked = record {
      seen = λ n i q t. elim (cases_Bool (own_seen n.parts.kind n q)) [
        | inl y ↦ or_left (own_seen n.parts.kind n q) (holds n.id (viewers q [] bs)) y
        | inr f ↦ or_right (own_seen n.parts.kind n q) (holds n.id (viewers q [] bs)) (in-holds n.id (viewers q [] bs)
            (viewed-by (suc (place bs n.id)) n.id q (omega arith) (ap (λ (h : ℕ → Bool). h q) (unfold-loose bs n w.ordered i) ∙ looks-up n.parts.kind n q (w.bare n i) t f)))
      ];
      root_free = λ q. elim (cases_Bool (read_free bs root q)) [ inl t ↦ absurd (closed-root bs root w q (free-loose root q t)) | inr f ↦ f ];
      opened = λ b q t n. w.used b q (free-loose b q t);
      top = w.top;
    }
