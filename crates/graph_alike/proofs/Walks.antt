-- The walks of graphs that differ in numbers alone meet.
use Rattle.std.proofs.Common.{ℕ, zero, suc, ◌≡◌, ◌≤◌, ◌++◌, cond, List, [], ◌∷◌, length, map, refl, sym, ap, subst, ◌∙◌, ◌⊎◌, inl, inr, arith}
use Rattle.std.proofs.lemmas.Bool.{cases_Bool}
use Rattle.list_laws.specs.Lists.{EachOnce, In, first, holds}
use Rattle.list_laws.proofs.Booleans.{clash}
use Rattle.list_laws.proofs.Membership.{in-holds, map-in}
use Rattle.graph_alike.specs.Alike.{Meets, SameButNumbers}
use Rattle.graph_alike.specs.Alike as k
use Rattle.graph_alike.specs.OneToOne.{Along, AreOneToOne, IsOneToOne, more, none}
use Rattle.graph_alike.proofs.Along.{along-append, same-holds}
use Rattle.graph_alike.proofs.Meeting.{Below, Both, both-back, boxes-along, first-at, found, froms, froms-along, met-ids, overs-along, second-at}
use Rattle.qgm_core.specs.Boxes.{QueryGraph, is_box, numbers, overs_of, quants_in}
use Rattle.qgm_core.specs.Walk.{levels, news, under, walk}
use Rattle.qgm_core.specs.declared.node.Node.{Node}
use Rattle.qgm_edit_laws.proofs.Formed.{sound-checked}
use Rattle.qgm_wellformed.proofs.Faults.{finds-none}
use Rattle.qgm_wellformed.specs.Sentences.{WellFormed}
use Rattle.shared_types.specs.declared.walk.Walk.{Walk}
use Rattle.shared_types.specs.declared.walk.Walk.TheVariants.{Breadth, Depth}

-- ---- numbers of boxes

once-along : (R : ℕ → ℕ → Type 0) → IsOneToOne R → (xs ys : List ℕ) → Along R xs ys → EachOnce ys → EachOnce xs
once-along R o [] [] none u = tt
once-along R o [] (y ∷ ys) l u = elim l [ ]
once-along R o (x ∷ xs) [] l u = elim l [ ]
once-along R o (x ∷ xs) (y ∷ ys) (more _ _ _ _ r l) u = (same-holds R o xs ys x y l r ∙ u.0, once-along R o xs ys l u.1)

along-length : (R : ℕ → ℕ → Type 0) (xs ys : List ℕ) → Along R xs ys → length xs ≡ length ys
along-length R [] [] none = refl
along-length R [] (y ∷ ys) l = elim l [ ]
along-length R (x ∷ xs) [] l = elim l [ ]
along-length R (x ∷ xs) (y ∷ ys) (more _ _ _ _ r l) = ap suc (along-length R xs ys l)

-- a list without one that it has
pub record Less (x : ℕ) (ys : List ℕ) : Type 0 where
  pub rest : List ℕ
  pub shorter : length ys ≡ suc (length rest)
  pub others : (y : ℕ) → In y ys → (x ≡ y) ⊎ In y rest

less : (x : ℕ) (ys : List ℕ) → In x ys → Less x ys
less x [] i = elim i [ ]
less x (y ∷ ys) i = elim i [
  | inl e ↦ record { rest = ys; shorter = refl; others = λ z j. elim j [ inl f ↦ inl (sym e ∙ f) | inr h ↦ inr h ] }
  | inr j ↦ (
      let l = less x ys j in
      record { rest = y ∷ l.rest; shorter = ap suc l.shorter; others = λ z h. elim h [ inl f ↦ inr (inl f) | inr g ↦ elim (l.others z g) [ inl f ↦ inl f | inr q ↦ inr (inr q) ] ] })
]

within : (xs ys : List ℕ) → EachOnce xs → ((x : ℕ) → In x xs → In x ys) → length xs ≤ length ys
within [] ys u f = omega arith
within (x ∷ xs) ys u f =
    let l = less x ys (f x (inl refl)) in
    let h = within xs l.rest u.1 (λ z i. elim (l.others z (f z (inr i))) [
      | inr j ↦ j
      | inl e ↦ absurd (clash (holds x xs) (in-holds x xs (subst (λ q. In q xs) (sym e) i)) u.0)
    ]) in
    let s = l.shorter in
    omega (arith, h, s)

ids-length : (ns : List Node) → length (numbers ns) ≡ length ns
ids-length [] = refl
ids-length (n ∷ ns) = ap suc (ids-length ns)

module _ (g h : QueryGraph) (w : Both g h) where
  froms-in : (ms : List Node) (sub : Below g h w ms h) (x : ℕ) → In x (froms g h w ms sub) → In x (numbers g.boxes)
  froms-in [] sub x i = elim i [ ]
  froms-in (m ∷ ms) sub x i = elim i [
    | inl e ↦ subst (λ z. In z (numbers g.boxes)) e (let s = w.one.second m (sub m (inl refl)) in map-in (λ (n : Node). n.id) s.0 g.boxes s.1.0)
    | inr j ↦ froms-in ms (λ z q. sub z (inr q)) x j
  ]

  no-more : EachOnce (numbers h.boxes) → length h.boxes ≤ length g.boxes
  no-more u =
      let l = froms-along g h w h.boxes (λ z i. i) in
      let a = within (froms g h w h.boxes (λ z i. i)) (numbers g.boxes) (once-along (Meets g h) w.one.boxes (froms g h w h.boxes (λ z i. i)) (numbers h.boxes) l u) (froms-in h.boxes (λ z i. i)) in
      let b = along-length (Meets g h) (froms g h w h.boxes (λ z i. i)) (numbers h.boxes) l in
      let c = ids-length g.boxes in
      let d = ids-length h.boxes in
      omega (arith, a, b, c, d)

  -- ---- level by level

  news-along : (seen old cs ds : List ℕ) → Along (Meets g h) seen old → Along (Meets g h) cs ds → Along (Meets g h) (news seen cs) (news old ds)
  news-along seen old [] [] l none = none
  news-along seen old [] (d ∷ ds) l c = elim c [ ]
  news-along seen old (c ∷ cs) [] l q = elim q [ ]
  news-along seen old (c ∷ cs) (d ∷ ds) l (more _ _ _ _ r t) =
      let e = same-holds (Meets g h) w.one.boxes seen old c d l r in
      let grown = along-append (Meets g h) seen old (c ∷ []) (d ∷ []) l (more c d [] [] r none) in
      elim (cases_Bool (holds c seen)) [
        | inl s ↦ subst (λ b. Along (Meets g h) (cond b (news seen cs) (c ∷ news (seen ++ c ∷ []) cs)) (news old (d ∷ ds))) (sym s)
            (subst (λ b. Along (Meets g h) (news seen cs) (cond b (news old ds) (d ∷ news (old ++ d ∷ []) ds))) (sym (sym e ∙ s)) (news-along seen old cs ds l t))
        | inr s ↦ subst (λ b. Along (Meets g h) (cond b (news seen cs) (c ∷ news (seen ++ c ∷ []) cs)) (news old (d ∷ ds))) (sym s)
            (subst (λ b. Along (Meets g h) (c ∷ news (seen ++ c ∷ []) cs) (cond b (news old ds) (d ∷ news (old ++ d ∷ []) ds))) (sym (sym e ∙ s))
            (more c d (news (seen ++ c ∷ []) cs) (news (old ++ d ∷ []) ds) r (news-along (seen ++ c ∷ []) (old ++ d ∷ []) cs ds grown t)))
      ]

  under-along : (bs cs : List ℕ) → Along (Meets g h) bs cs → Along (Meets g h) (under g.boxes bs) (under h.boxes cs)
  under-along [] [] none = none
  under-along [] (c ∷ cs) l = elim l [ ]
  under-along (b ∷ bs) [] l = elim l [ ]
  under-along (b ∷ bs) (c ∷ cs) (more _ _ _ _ r l) =
      let f = found g h w b c r in
      along-append (Meets g h) (map (λ r. r.over) (quants_in (first (is_box b) g.boxes))) (map (λ r. r.over) (quants_in (first (is_box c) h.boxes))) (under g.boxes bs) (under h.boxes cs)
      (subst (λ z. Along (Meets g h) (map (λ r. r.over) (quants_in z)) (map (λ r. r.over) (quants_in (first (is_box c) h.boxes)))) (sym (first-at g h w b c r))
      (subst (λ z. Along (Meets g h) (overs_of f.n) (map (λ r. r.over) (quants_in z))) (sym (second-at g h w b c r)) (overs-along g h w f.n f.m f.in_g f.in_h (met-ids g h w b c r))))
      (under-along bs cs l)

  levels-along : (m : ℕ) (bs cs seen old : List ℕ) → Along (Meets g h) bs cs → Along (Meets g h) seen old → Along (Meets g h) (levels m g.boxes bs seen) (levels m h.boxes cs old)
  levels-along zero bs cs seen old b l = l
  levels-along (suc m) bs cs seen old b l =
      let n = news-along seen old (under g.boxes bs) (under h.boxes cs) l (under-along bs cs b) in
      levels-along m (news seen (under g.boxes bs)) (news old (under h.boxes cs)) (seen ++ news seen (under g.boxes bs)) (old ++ news old (under h.boxes cs)) n
      (along-append (Meets g h) seen old (news seen (under g.boxes bs)) (news old (under h.boxes cs)) l n)

walk-along : (w : Walk) (g h : QueryGraph) → Both g h → length g.boxes ≡ length h.boxes → Along (Meets g h) (walk w g) (walk w h)
walk-along Depth g h both e = boxes-along g h both
walk-along Breadth g h both e =
    subst (λ n. Along (Meets g h) (levels (length g.boxes) g.boxes (g.root ∷ []) (g.root ∷ [])) (levels n h.boxes (h.root ∷ []) (h.root ∷ []))) e
    (levels-along g h both (length g.boxes) (g.root ∷ []) (h.root ∷ []) (g.root ∷ []) (h.root ∷ []) (more g.root h.root [] [] k.roots none) (more g.root h.root [] [] k.roots none))

pub walks-meet : (w : Walk) (g h : QueryGraph) → EachOnce (numbers g.boxes) → EachOnce (numbers h.boxes) → WellFormed g → WellFormed h → SameButNumbers g h → AreOneToOne g h → Along (Meets g h) (walk w g) (walk w h)
walks-meet w g h u v a b s o =
    let both : Both g h = record { same = s; one = o; first_sound = ((sound-checked g u).0 ((finds-none g u).1 a)).0; second_sound = ((sound-checked h v).0 ((finds-none h v).1 b)).0 } in
    let x = no-more g h both v in
    let y = no-more h g (both-back g h both) u in
    walk-along w g h both (omega (arith, x, y))
