-- Nothing is free where all that marked boxes name is owned by marked ones.
use Rattle.std.proofs.Common.{ℕ, ◌==◌, ◌≡◌, ◌≤◌, ◌<◌, ◌&&◌, cond, nat_lt, not, true, false, List, [], ◌∷◌, ◌++◌, filter, refl, sym, ap, subst, ◌∙◌, inl, inr, ◌↔◌, arith}
use Rattle.std.specs.List.{list_all, flat_map}
use Rattle.std.proofs.lemmas.Bool.{and_from, and_parts, cases_Bool, eq-eqb, eqb-true, ltb-false, ltb-true, not-true, or_left}
use Rattle.qgm_core.specs.Boxes.{Ordered, ids_of, is_quant, owns}
use Rattle.qgm_core.specs.Free.{IsFree, free_among, free_in, is_owned, named_where, owned_where, put_each, put_once, reached}
use Rattle.list_laws.specs.Lists.{In, holds}
use Rattle.qgm_core.specs.declared.node.Node.{Node}
use Rattle.qgm_core.specs.declared.owned.OwnedQuant.{OwnedQuant}
use Rattle.qgm_wellformed.specs.Closed.{names_owned}
use Rattle.qgm_wellformed.specs.Laws.{Ascending}
use Rattle.qgm_wellformed.specs.Shapes.{only}
use Rattle.qgm_wellformed.specs.WellFormed.{is_empty}
use Rattle.qgm_wellformed.proofs.Below.{free-free}
use Rattle.qgm_wellformed.proofs.Kept.{empty-none, none-empty}
use Rattle.list_laws.proofs.Booleans.{clash, same-truth}
use Rattle.list_laws.proofs.Membership.{all-from, all-in, any-from, any-in, filter-in, flat-in, holds-in, in-append, in-filter, in-flat, in-holds, in-left, in-map, in-right, map-in}
use Rattle.qgm_core.proofs.PutOnce.{each-in, in-each, in-once}

-- ---- what is free stands in ascending order

once-ascends : (q : ℕ) (xs : List ℕ) → Ascending xs → Ascending (put_once q xs)
once-ascends q [] a = (λ y i. elim i [ ], tt)
once-ascends q (r ∷ rs) a = elim (nat_lt q r) as (λ t. nat_lt q r ≡ t → Ascending (cond t (q ∷ (r ∷ rs)) (cond (r == q) (r ∷ rs) (r ∷ put_once q rs)))) [
  | true ↦ λ t. (let l = ltb-true q r t in (λ y i. elim i [ inl e ↦ omega arith | inr j ↦ (let m = a.0 y j in omega arith) ], a))
  | false ↦ λ t. elim (r == q) as (λ u. (r == q) ≡ u → Ascending (cond u (r ∷ rs) (r ∷ put_once q rs))) [
    | true ↦ λ u. a
    | false ↦ λ u. (
      λ y i. elim (in-once y q rs i) [
        | inl e ↦ (let l = ltb-false q r t in let n : (r ≡ q → ⊥) = λ d. clash (r == q) (eq-eqb r q d) u in less r q y l n e)
        | inr j ↦ a.0 y j
      ],
      once-ascends q rs a.1,
    )
  ] refl
] refl
  where
    less : (r q y : ℕ) → r ≤ q → (r ≡ q → ⊥) → q ≡ y → r < y
    less r q y l n e = elim (cases_Bool (nat_lt r q)) [
      | inl t ↦ (let m = ltb-true r q t in omega arith)
      | inr f ↦ absurd (let m = ltb-false r q f in let d : r ≡ q = omega arith in n d)
    ]

each-ascends : (xs ys : List ℕ) → Ascending xs → Ascending (put_each xs ys)
each-ascends xs [] a = a
each-ascends xs (y ∷ ys) a = each-ascends (put_once y xs) ys (once-ascends y xs a)

only-is : (q : ℕ) (xs : List ℕ) → Ascending xs → ((x : ℕ) → In x xs → x ≡ q) → is_empty xs ≡ false → only q xs ≡ true
only-is q [] a h e = absurd (let z : ⊥ = cc in z)
only-is q (p ∷ []) a h e = and_from (p == q) true (eq-eqb p q (h p (inl refl))) refl
only-is q (p ∷ (r ∷ rs)) a h e = absurd (let k = h p (inl refl) in let l = h r (inr (inl refl)) in let m = a.0 r (inl refl) in omega arith)

only-in : (q : ℕ) (xs : List ℕ) → only q xs ≡ true → (x : ℕ) → In x xs → x ≡ q
only-in q [] h x i = elim i [ ]
only-in q (p ∷ []) h x i = let ps = and_parts (p == q) true h in elim i [ inl e ↦ sym e ∙ eqb-true p q ps.0 | inr z ↦ elim z [ ] ]
only-in q (p ∷ (r ∷ rs)) h x i = let ps = and_parts (p == q) false h in absurd (let z : ⊥ = cc in z)

module _ (marks : List ℕ) (ns : List Node) where
  abbrev owned : List ℕ
  owned = flat_map (owned_where marks) ns

  abbrev named : List ℕ
  named = flat_map (named_where marks) ns

  owned-in : (q : ℕ) → is_owned marks ns q ≡ true → In q owned
  owned-in q h =
      let x = any-in (λ n. holds n.id marks && owns q n) ns h in
      let ps = and_parts (holds x.0.id marks) (owns q x.0) x.1.1 in
      let r = any-in (is_quant q) x.0.quants ps.1 in
      let i : In q (ids_of x.0) = subst (λ z. In z (ids_of x.0)) (eqb-true r.0.id q r.1.1) (map-in (λ (r : OwnedQuant). r.id) r.0 x.0.quants r.1.0) in
      flat-in (owned_where marks) x.0 q ns x.1.0 (subst (λ b. In q (cond b (ids_of x.0) [])) (sym ps.0) i)

  in-owned : (q : ℕ) → In q owned → is_owned marks ns q ≡ true
  in-owned q i =
      let x = in-flat (owned_where marks) q ns i in
      let w = marked x.0 x.1.1 in
      let r = in-map (λ (r : OwnedQuant). r.id) q x.0.quants w.1 in
      any-from (λ n. holds n.id marks && owns q n) x.0 ns x.1.0 (and_from (holds x.0.id marks) (owns q x.0) w.0 (any-from (is_quant q) r.0 x.0.quants r.1.0 (eq-eqb r.0.id q r.1.1)))
    where
      marked : (n : Node) → In q (owned_where marks n) → (holds n.id marks ≡ true) × In q (ids_of n)
      marked n i = elim (holds n.id marks) as (λ t. holds n.id marks ≡ t → In q (cond t (ids_of n) []) → (holds n.id marks ≡ true) × In q (ids_of n)) [
        | true ↦ λ t i. (t, i)
        | false ↦ λ t i. elim i [ ]
      ] refl i

  -- a name that isn't owned is free
  is-free : (q : ℕ) → In q named → is_owned marks ns q ≡ false → holds q (free_among marks ns) ≡ true
  is-free q i f = in-holds q (free_among marks ns) (each-in q [] (filter (λ q. not (is_owned marks ns q)) named) (inr (filter-in (λ q. not (is_owned marks ns q)) q named i (ap not f))))

  -- what is free is a name that isn't owned
  free-is : (q : ℕ) → holds q (free_among marks ns) ≡ true → In q named × (is_owned marks ns q ≡ false)
  free-is q h = elim (in-each q [] (filter (λ q. not (is_owned marks ns q)) named) (holds-in q (free_among marks ns) h)) [
    | inl z ↦ elim z [ ]
    | inr i ↦ (let f = in-filter (λ q. not (is_owned marks ns q)) q named i in (f.0, not-true (is_owned marks ns q) f.1))
  ]

  all-closed : list_all (names_owned marks owned) ns ≡ true → is_empty (free_among marks ns) ≡ true
  all-closed h = none-empty (free_among marks ns) (λ q k. (
      let f = free-is q k in
      let x = in-flat (named_where marks) q ns f.0 in
      let t = all-in (λ q. holds q owned) q (named_where marks x.0) (all-in (names_owned marks owned) x.0 ns h x.1.0) x.1.1 in
      clash (is_owned marks ns q) (in-owned q (holds-in q owned t)) f.1))

  closed-all : is_empty (free_among marks ns) ≡ true → list_all (names_owned marks owned) ns ≡ true
  closed-all h = all-from (names_owned marks owned) ns (λ n i. all-from (λ q. holds q owned) (named_where marks n) (λ q j. elim (cases_Bool (is_owned marks ns q)) [
    | inl t ↦ in-holds q owned (owned-in q t)
    | inr f ↦ absurd (empty-none (free_among marks ns) h q (is-free q (flat-in (named_where marks) n q ns i j) f))
  ]))

  pub closed_owned : list_all (names_owned marks (flat_map (owned_where marks) ns)) ns ≡ is_empty (free_among marks ns)
  closed_owned = same-truth (list_all (names_owned marks owned) ns) (is_empty (free_among marks ns)) all-closed closed-all

  pub ascends : Ascending (free_among marks ns)
  ascends = each-ascends [] (filter (λ q. not (is_owned marks ns q)) named) tt

  -- q alone is free where it isn't owned, and nothing is free beside it
  pub alone_none : (q : ℕ) → list_all (names_owned marks (flat_map (owned_where marks) ns)) ns ≡ true → only q (free_among marks ns) ≡ false
  alone_none q h = none (free_among marks ns) (all-closed h)
    where
      none : (xs : List ℕ) → is_empty xs ≡ true → only q xs ≡ false
      none [] e = refl
      none (x ∷ xs) e = absurd (let z : ⊥ = cc in z)

  abbrev more : ℕ → List ℕ
  more q = flat_map (owned_where marks) ns ++ q ∷ []

  alone-all : (q : ℕ) → list_all (names_owned marks owned) ns ≡ false → list_all (names_owned marks (more q)) ns ≡ true → only q (free_among marks ns) ≡ true
  alone-all q f h = only-is q (free_among marks ns) ascends (λ x i. one x (free-is x (in-holds x (free_among marks ns) i))) (sym closed_owned ∙ f)
    where
      one : (x : ℕ) → In x named × (is_owned marks ns x ≡ false) → x ≡ q
      one x k =
          let y = in-flat (named_where marks) x ns k.0 in
          let t = all-in (λ q'. holds q' (more q)) x (named_where marks y.0) (all-in (names_owned marks (more q)) y.0 ns h y.1.0) y.1.1 in
          elim (in-append x owned (q ∷ []) (holds-in x (more q) t)) [
            | inl a ↦ absurd (clash (is_owned marks ns x) (in-owned x a) k.1)
            | inr c ↦ elim c [ inl e ↦ sym e | inr z ↦ elim z [ ] ]
          ]

  all-alone : (q : ℕ) → only q (free_among marks ns) ≡ true → list_all (names_owned marks (more q)) ns ≡ true
  all-alone q h = all-from (names_owned marks (more q)) ns (λ n i. all-from (λ q'. holds q' (more q)) (named_where marks n) (λ x j. in-holds x (more q) (elim (cases_Bool (is_owned marks ns x)) [
    | inl t ↦ in-left x owned (q ∷ []) (owned-in x t)
    | inr f ↦ in-right x owned (q ∷ []) (inl (sym (only-in q (free_among marks ns) h x (holds-in x (free_among marks ns) (is-free x (flat-in (named_where marks) n x ns i j) f)))))
  ])))

  pub alone_all : (q : ℕ) → list_all (names_owned marks (flat_map (owned_where marks) ns)) ns ≡ false → list_all (names_owned marks (flat_map (owned_where marks) ns ++ q ∷ [])) ns ≡ only q (free_among marks ns)
  alone_all q f = same-truth (list_all (names_owned marks (more q)) ns) (only q (free_among marks ns)) (alone-all q f) (all-alone q)

pub alone-no : (ns : List Node) (b q : ℕ) (marks held : List ℕ) → marks ≡ reached (b ∷ []) ns → held ≡ flat_map (owned_where marks) ns → list_all (names_owned marks held) ns ≡ true → false ≡ only q (free_in ns b)
alone-no ns b q marks held e f h =
    sym (ap (λ (ms : List ℕ). only q (free_among ms ns)) (sym e) ∙ alone_none marks ns q (subst (λ os. list_all (names_owned marks os) ns ≡ true) f h))

pub alone-so : (ns : List Node) (b q : ℕ) (marks held : List ℕ) → marks ≡ reached (b ∷ []) ns → held ≡ flat_map (owned_where marks) ns → list_all (names_owned marks held) ns ≡ false → list_all (names_owned marks (held ++ q ∷ [])) ns ≡ only q (free_in ns b)
alone-so ns b q marks held e f h =
    ap (λ (os : List ℕ). list_all (names_owned marks (os ++ q ∷ [])) ns) f ∙ alone_all marks ns q (subst (λ os. list_all (names_owned marks os) ns ≡ false) f h) ∙ ap (λ (ms : List ℕ). only q (free_among ms ns)) e

pub finds-alone : (ns : List Node) → Ordered ns → (b q : ℕ) → (only q (free_in ns b) ≡ true) ↔ (IsFree ns b q × ((p : ℕ) → IsFree ns b p → p ≡ q))
finds-alone ns o b q = (
  λ h. ((free-free ns o b q).0 (here (free_in ns b) h), λ p f. only-in q (free_in ns b) h p (holds-in p (free_in ns b) ((free-free ns o b p).1 f))),
  λ k. only-is q (free_in ns b) (ascends (reached (b ∷ []) ns) ns) (λ p i. k.1 p ((free-free ns o b p).0 (in-holds p (free_in ns b) i))) (some (free_in ns b) ((free-free ns o b q).1 k.0)),
)
  where
    here : (xs : List ℕ) → only q xs ≡ true → holds q xs ≡ true
    here [] h = absurd (let z : ⊥ = cc in z)
    here (p ∷ []) h = let ps = and_parts (p == q) true h in or_left (p == q) false ps.0
    here (p ∷ (r ∷ rs)) h = let ps = and_parts (p == q) false h in absurd (let z : ⊥ = cc in z)

    some : (xs : List ℕ) → holds q xs ≡ true → is_empty xs ≡ false
    some [] h = absurd (let z : ⊥ = cc in z)
    some (x ∷ xs) h = refl
