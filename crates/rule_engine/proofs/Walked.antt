-- A well-formed graph has each box of a walk.
use Rattle.std.proofs.Common.{ℕ, zero, suc, ◌≡◌, ◌<◌, arith, ◌==◌, ◌++◌, true, false, cond, List, [], ◌∷◌, length, map, refl, Option, Some, None, ◌⊎◌, inl, inr, subst}
use Rattle.std.specs.Prelude.{slice_index_or}
use Rattle.std.proofs.lemmas.Bool.{or_left, or_right}
use Rattle.qgm_core.specs.Boxes.{HasBox, QueryGraph, has_box, is_box, overs_of, quants_in}
use Rattle.list_laws.specs.Lists.{In, each, first, holds}
use Rattle.qgm_core.specs.Walk.{levels, news, under, visit, walk}
use Rattle.qgm_core.specs.declared.node.Node.{Node}
use Rattle.qgm_core.specs.declared.owned.OwnedQuant.{OwnedQuant}
use Rattle.qgm_wellformed.specs.Sentences.{WellFormed}
use Rattle.qgm_wellformed.specs.declared.clause.Clause.TheVariants.{I1}
use Rattle.shared_types.specs.declared.walk.Walk.{Walk}
use Rattle.shared_types.specs.declared.walk.Walk.TheVariants.{Depth, Breadth}
use Rattle.rule_engine.proofs.Chosen.{in-flat_map}
use Rattle.list_laws.proofs.Membership.{in-append}

-- ---- depth first

each-held : (f : ℕ → List ℕ → List ℕ) (x : ℕ) (P : Type 0) → ((b : ℕ) (seen : List ℕ) → In x (f b seen) → In x seen ⊎ P) → (bs seen : List ℕ) → In x (each f bs seen) → In x seen ⊎ P
each-held f x P h [] seen i = inl i
each-held f x P h (b ∷ bs) seen i = elim (each-held f x P h bs (f b seen) i) [ inl j ↦ h b seen j | inr p ↦ inr p ]

-- b was seen before, or is n
here : (x : ℕ) (n : Node) (ns : List Node) (b : ℕ) (seen : List ℕ) → (n.id == b) ≡ true → In x (seen ++ b ∷ []) → In x seen ⊎ (has_box (n ∷ ns) x ≡ true)
here x n ns b seen e i =
    elim (in-append x seen (b ∷ []) i) [
      | inl j ↦ inl j
      | inr j ↦ elim j [ inl k ↦ inr (or_left (n.id == x) (has_box ns x) (subst (λ z. (n.id == z) ≡ true) k e)) | inr k ↦ elim k [ ] ]
    ]

visit-held : (ns : List Node) (b : ℕ) (seen : List ℕ) (x : ℕ) → In x (visit ns b seen) → In x seen ⊎ (has_box ns x ≡ true)
visit-held [] b seen x = λ i. inl i
visit-held (n ∷ ns) b seen x =
    elim (n.id == b) as (λ v. (n.id == b) ≡ v → In x (cond v (cond (holds b seen) seen (each (visit ns) (overs_of n) (seen ++ b ∷ []))) (visit ns b seen)) → In x seen ⊎ (has_box (n ∷ ns) x ≡ true)) [
      | true ↦ λ e. elim (holds b seen) as (λ v. In x (cond v seen (each (visit ns) (overs_of n) (seen ++ b ∷ []))) → In x seen ⊎ (has_box (n ∷ ns) x ≡ true)) [
        | true ↦ λ i. inl i
        | false ↦ λ i. elim (each-held (visit ns) x (has_box ns x ≡ true) (λ b seen i. visit-held ns b seen x i) (overs_of n) (seen ++ b ∷ []) i) [
          | inl j ↦ here x n ns b seen e j
          | inr h ↦ inr (or_right (n.id == x) (has_box ns x) h)
        ]
      ]
      | false ↦ λ e i. elim (visit-held ns b seen x i) [ inl j ↦ inl j | inr h ↦ inr (or_right (n.id == x) (has_box ns x) h) ]
    ] refl

-- ---- level by level

first-in : (b : ℕ) (ns : List Node) (n : Node) → first (is_box b) ns ≡ Some n → In n ns
first-in b [] n = λ e. absurd (let q : ⊥ = cc in q)
first-in b (m ∷ ns) n =
    elim (m.id == b) as (λ v. cond v (Some m) (first (is_box b) ns) ≡ Some n → (m ≡ n) ⊎ In n ns) [ true ↦ λ e. inl (let q : m ≡ n = cc in q) | false ↦ λ e. inr (first-in b ns n e) ]

over-held : (g : QueryGraph) → WellFormed g → (o : Option Node) → ((n : Node) → o ≡ Some n → In n g.boxes) → (x : ℕ) → In x (map (λ r. r.over) (quants_in o)) → HasBox x g
over-held g w None h x i = elim i [ ]
over-held g w (Some n) h x i = from n.quants (λ r j. (w.kept I1 n (h n refl)).0 r j) i
  where
    from : (rs : List OwnedQuant) → ((r : OwnedQuant) → In r rs → HasBox r.over g) → In x (map (λ r. r.over) rs) → HasBox x g
    from [] k i = elim i [ ]
    from (r ∷ rs) k (inl e) = subst (λ z. HasBox z g) e (k r (inl refl))
    from (r ∷ rs) k (inr i) = from rs (λ r j. k r (inr j)) i

under-held : (g : QueryGraph) → WellFormed g → (bs : List ℕ) (x : ℕ) → In x (under g.boxes bs) → HasBox x g
under-held g w bs x i =
    let r = in-flat_map (λ b. map (λ r. r.over) (quants_in (first (is_box b) g.boxes))) bs x i in
    over-held g w (first (is_box r.0) g.boxes) (λ n e. first-in r.0 g.boxes n e) x r.1.1

news-in : (seen bs : List ℕ) (x : ℕ) → In x (news seen bs) → In x bs
news-in seen [] x = λ i. i
news-in seen (b ∷ bs) x =
    elim (holds b seen) as (λ v. In x (cond v (news seen bs) (b ∷ news (seen ++ b ∷ []) bs)) → (b ≡ x) ⊎ In x bs) [
      | true ↦ λ i. inr (news-in seen bs x i)
      | false ↦ λ i. elim i [ inl e ↦ inl e | inr j ↦ inr (news-in (seen ++ b ∷ []) bs x j) ]
    ]

levels-held : (g : QueryGraph) → WellFormed g → (m : ℕ) (now seen : List ℕ) → ((x : ℕ) → In x seen → HasBox x g) → (x : ℕ) → In x (levels m g.boxes now seen) → HasBox x g
levels-held g w zero now seen h x i = h x i
levels-held g w (suc m) now seen h x i =
    levels-held g w m (news seen (under g.boxes now)) (seen ++ news seen (under g.boxes now))
    (λ x i. elim (in-append x seen (news seen (under g.boxes now)) i) [ inl j ↦ h x j | inr j ↦ under-held g w now x (news-in seen (under g.boxes now) x j) ]) x i

pub walk-held : (w : Walk) (g : QueryGraph) → WellFormed g → (b : ℕ) → In b (walk w g) → HasBox b g
walk-held Depth g f b i = elim (visit-held g.boxes g.root [] b i) [ inl j ↦ elim j [ ] | inr h ↦ h ]
walk-held Breadth g f b i = levels-held g f (length g.boxes) (g.root ∷ []) (g.root ∷ []) (λ x j. elim j [ inl e ↦ subst (λ z. HasBox z g) e f.rooted | inr k ↦ elim k [ ] ]) b i

-- a box that is read of a walk
in-read : (xs : List ℕ) (k : ℕ) → k < length xs → In (slice_index_or xs k 0) xs
in-read [] k h = absurd (omega arith)
in-read (y ∷ ys) zero h = inl refl
in-read (y ∷ ys) (suc k) h = inr (in-read ys k (omega arith))

pub read-held : (w : Walk) (g : QueryGraph) → WellFormed g → (xs : List ℕ) → xs ≡ walk w g → (k : ℕ) → k < length xs → HasBox (slice_index_or xs k 0) g
read-held w g f xs e k h = walk-held w g f (slice_index_or xs k 0) (subst (λ l. In (slice_index_or xs k 0) l) e (in-read xs k h))
