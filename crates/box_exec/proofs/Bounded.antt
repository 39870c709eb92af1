-- Nothing is named beyond the root where what a box touches it owns or looks up.
use Rattle.std.proofs.Common.{ℕ, ◌≡◌, ◌==◌, ◌&&◌, ◌||◌, ◌++◌, cond, not, Bool, true, false, List, [], ◌∷◌, refl, subst, eqb-true, ◌⊎◌, inl, inr}
use Rattle.std.specs.List.{flat_map, list_any}
use Rattle.std.proofs.lemmas.Bool.{cases_Bool, eq-eqb, not-true, or_cases, or_left, or_right}
use Rattle.qgm_core.specs.Boxes.{owns}
use Rattle.qgm_core.specs.Free.{named_by}
use Rattle.list_laws.specs.Lists.{In}
use Rattle.qgm_core.specs.declared.node.Node.{Node}
use Rattle.qgm_core.specs.declared.owned.OwnedQuant.{OwnedQuant}
use Rattle.qgm_meaning.specs.Scope.{loose, read_by, under_any}
use Rattle.qgm_meaning.specs.Searches.{names, names_arms, names_cond, reads_arms}
use Rattle.qgm_terms.specs.Gathered.{listed_arms}
use Rattle.qgm_terms.specs.Named.{names_in, names_in_cond}
use Rattle.qgm_terms.specs.Named as named
use Rattle.qgm_terms.specs.Terms as s
use Rattle.qgm_terms.specs.Wanted.{reads, reads_cond}
use Rattle.box_exec.specs.Beyond.{beyond, beyond_of}
use Rattle.box_exec.specs.Settled.{BoundIfTouched, node_stands}
use Rattle.list_laws.proofs.Booleans.{clash}
use Rattle.list_laws.proofs.Membership.{any-from, in-append, in-filter, in-flat}

mix : (a b c d : Bool) → ((a || b) ≡ true) ⊎ ((c || d) ≡ true) → ((a || c) || (b || d)) ≡ true
mix true b c d h = refl
mix false b c d (inl h) = or_right c (b || d) (or_left b d h)
mix false b c d (inr h) = elim (or_cases c d h) [
  | inl t ↦ or_left c (b || d) t
  | inr t ↦ or_right c (b || d) (or_right b d t)
]

under-node : (u a b : Bool) → (u ≡ true) ⊎ ((a || b) ≡ true) → ((not u && a) || (u || b)) ≡ true
under-node true a b h = refl
under-node false a b (inl h) = absurd (let z : ⊥ = cc in z)
under-node false a b (inr h) = h

module _ (q : ℕ) where
  two : (xs ys : List ℕ) (a b c d : Bool) → In q (xs ++ ys) → (In q xs → (a || b) ≡ true) → (In q ys → (c || d) ≡ true) → ((a || c) || (b || d)) ≡ true
  two xs ys a b c d i f g = mix a b c d (elim (in-append q xs ys i) [ inl j ↦ inl (f j) | inr j ↦ inr (g j) ])

  node-case : (r : ℕ) (xs : List ℕ) (a b : Bool) → In q (r ∷ xs) → (In q xs → (a || b) ≡ true) → ((not (r == q) && a) || ((r == q) || b)) ≡ true
  node-case r xs a b i f = under-node (r == q) a b (elim i [ inl e ↦ inl (eq-eqb r q e) | inr j ↦ inr (f j) ])

  mutual
    split : (x : s.Term) → In q (names_in x) → (reads q x || names q x) ≡ true
    split (s.int n) i = elim i [ ]
    split (s.text t) i = elim i [ ]
    split s.null_int i = elim i [ ]
    split s.null_text i = elim i [ ]
    split (s.col r k) i = elim i [ inl e ↦ or_left (r == q) false (eq-eqb r q e) | inr j ↦ elim j [ ] ]
    split (s.scalar r) i = elim i [ inl e ↦ eq-eqb r q e | inr j ↦ elim j [ ] ]
    split (s.both op x y) i = two (names_in x) (names_in y) (reads q x) (names q x) (reads q y) (names q y) i (split x) (split y)
    split (s.minus_of x) i = split x i
    split (s.choose a x) i = two (listed_arms named.names a) (names_in x) (reads_arms q a) (names_arms q a) (reads q x) (names q x) i (split-arms a) (split x)
    split s.count_all i = elim i [ ]
    split (s.fold f t x) i = split x i

    split-arms : (a : s.Arms) → In q (listed_arms named.names a) → (reads_arms q a || names_arms q a) ≡ true
    split-arms s.no_arm i = elim i [ ]
    split-arms (s.arm c x a) i =
        two (names_in_cond c) (names_in x ++ listed_arms named.names a) (reads_cond q c) (names_cond q c) (reads q x || reads_arms q a) (names q x || names_arms q a) i (split-cond c)
        (λ j. two (names_in x) (listed_arms named.names a) (reads q x) (names q x) (reads_arms q a) (names_arms q a) j (split x) (split-arms a))

    split-cond : (c : s.Cond) → In q (names_in_cond c) → (reads_cond q c || names_cond q c) ≡ true
    split-cond s.always i = elim i [ ]
    split-cond (s.compare sign x y) i = two (names_in x) (names_in y) (reads q x) (names q x) (reads q y) (names q y) i (split x) (split y)
    split-cond (s.is_null x) i = split x i
    split-cond (s.and c d) i = two (names_in_cond c) (names_in_cond d) (reads_cond q c) (names_cond q c) (reads_cond q d) (names_cond q d) i (split-cond c) (split-cond d)
    split-cond (s.or c d) i = two (names_in_cond c) (names_in_cond d) (reads_cond q c) (names_cond q c) (reads_cond q d) (names_cond q d) i (split-cond c) (split-cond d)
    split-cond (s.not c) i = split-cond c i
    split-cond (s.some r c) i = node-case r (names_in_cond c) (reads_cond q c) (names_cond q c) i (split-cond c)
    split-cond (s.every r c) i = node-case r (names_in_cond c) (reads_cond q c) (names_cond q c) i (split-cond c)

  any-split : {X : Type 0} (f g : X → Bool) (h : X → List ℕ) → ((x : X) → In q (h x) → (f x || g x) ≡ true) → (xs : List X) → In q (flat_map h xs) → (list_any f xs || list_any g xs) ≡ true
  any-split f g h k xs i =
      let x = in-flat h q xs i in
      elim (or_cases (f x.0) (g x.0) (k x.0 x.1.1)) [
        | inl t ↦ or_left (list_any f xs) (list_any g xs) (any-from f x.0 xs x.1.0 t)
        | inr t ↦ or_right (list_any f xs) (list_any g xs) (any-from g x.0 xs x.1.0 t)
      ]

  -- what a box names it reads, or a node of it has it
  named-split : (n : Node) → In q (named_by n) → (read_by n q || node_stands q n) ≡ true
  named-split n i =
      two (flat_map names_in n.parts.head) (flat_map names_in_cond n.parts.conds.items) (list_any (reads q) n.parts.head) (list_any (names q) n.parts.head) (list_any (reads_cond q) n.parts.conds.items) (list_any (names_cond q) n.parts.conds.items) i
      (any-split (reads q) (names q) names_in split n.parts.head) (any-split (reads_cond q) (names_cond q) names_in_cond split-cond n.parts.conds.items)

  module _ (bs : List Node) (nodes : (n : Node) → In n bs → node_stands q n ≡ true → owns q n ≡ true) (touched : (n : Node) → In n bs → (read_by n q || under_any n.quants (loose bs) q) ≡ true → (owns q n ≡ true) ⊎ (loose bs n.id q ≡ true)) where
    loose-at : (n : Node) → In n bs → owns q n ≡ false → (read_by n q || under_any n.quants (loose bs) q) ≡ true → loose bs n.id q ≡ true
    loose-at n i f t = elim (touched n i t) [ inl o ↦ absurd (clash (owns q n) o f) | inr l ↦ l ]

    beyond-loose : (ns : List Node) → ((n : Node) → In n ns → In n bs) → (b : ℕ) → In q (beyond ns b) → loose bs b q ≡ true
    beyond-loose [] sub b i = elim i [ ]
    beyond-loose (n ∷ ns) sub b i = elim (cases_Bool (n.id == b)) [
      | inr f ↦ beyond-loose ns (λ m j. sub m (inr j)) b (subst (λ (t : Bool). In q (cond t (beyond_of n (beyond ns)) (beyond ns b))) f i)
      | inl t ↦ (
          let all = in-filter (λ q. not (owns q n)) q (named_by n ++ flat_map (λ r. beyond ns r.over) n.quants) (subst (λ (t : Bool). In q (cond t (beyond_of n (beyond ns)) (beyond ns b))) t i) in
          let away : owns q n ≡ false = not-true (owns q n) all.1 in
          subst (λ (z : ℕ). loose bs z q ≡ true) (eqb-true n.id b t) (elim (in-append q (named_by n) (flat_map (λ r. beyond ns r.over) n.quants) all.0) [
            | inl j ↦ elim (or_cases (read_by n q) (node_stands q n) (named-split n j)) [
              | inl u ↦ loose-at n (sub n (inl refl)) away (or_left (read_by n q) (under_any n.quants (loose bs) q) u)
              | inr u ↦ absurd (clash (owns q n) (nodes n (sub n (inl refl)) u) away)
            ]
            | inr j ↦ (
                let x = in-flat (λ (r : OwnedQuant). beyond ns r.over) q n.quants j in
                loose-at n (sub n (inl refl)) away (or_right (read_by n q) (under_any n.quants (loose bs) q) (any-from (λ (r : OwnedQuant). loose bs r.over q) x.0 n.quants x.1.0 (beyond-loose ns (λ m j. sub m (inr j)) x.0.over x.1.1))))
          ]))
    ]

nothing-in : (xs : List ℕ) → ((q : ℕ) → In q xs → ⊥) → xs ≡ []
nothing-in [] h = refl
nothing-in (x ∷ xs) h = absurd (h x (inl refl))

pub bound-if-touched : BoundIfTouched
bound-if-touched g w rooted nodes touched closed = record {
  ordered = w.ordered;
  rooted = rooted;
  once = w.once;
  top = nothing-in (beyond g.boxes g.root) (λ q i. closed q (beyond-loose q g.boxes (λ n j. nodes n j q) (λ n j. touched n q j) g.boxes (λ n j. j) g.root i));
}
