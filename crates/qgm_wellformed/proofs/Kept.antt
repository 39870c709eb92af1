-- What is tested of a box is what the clause says.
use Rattle.std.specs.Prelude.{⊤}
use Rattle.std.proofs.Common.{ℕ, ◌==◌, ◌≡◌, ◌+◌, ◌&&◌, ◌||◌, cond, not, Bool, true, false, List, [], ◌∷◌, ◌++◌, refl, sym, ap, subst, ◌∙◌, eqb-true, inl, inr, ◌↔◌, arith}
use Rattle.std.specs.List.{list_any, list_all}
use Rattle.std.proofs.lemmas.Bool.{and_from, and_parts, cases_Bool, eq-eqb, not-true, or_cases, or_left, or_right}
use Rattle.qgm_core.specs.Boxes.{Ordered, QueryGraph, has_box, ids_in, numbers, overs_in, owns}
use Rattle.qgm_core.specs.Free.{IsFree, free_in, named_by}
use Rattle.qgm_core.specs.Kinds.{is_F_or_S, is_permit}
use Rattle.list_laws.specs.Lists.{EachOnce, In, holds, times}
use Rattle.qgm_core.specs.declared.node.Node.{Node}
use Rattle.qgm_wellformed.specs.Sentences.{IdsKnown, IsKept, NamesInView, OpenedOnce, OwnedOnce, PermitUnseen}
use Rattle.qgm_wellformed.specs.View.{in_view}
use Rattle.qgm_wellformed.specs.WellFormed.{ids_known, is_counted, is_counted_in, is_empty, keeps, names_in_view, once, opened_once, owned_once, permit_unseen}
use Rattle.qgm_wellformed.specs.declared.clause.Clause.{Clause}
use Rattle.qgm_wellformed.specs.declared.clause.Clause.TheVariants.{I1, I2, I3, I4, I5, I6, I7, I8, I9}
use Rattle.qgm_wellformed.proofs.Below.{free-free}
use Rattle.qgm_wellformed.proofs.Seen.{view-is}
use Rattle.list_laws.proofs.Booleans.{clash}
use Rattle.list_laws.proofs.Membership.{all-from, all-in, any-from, any-in, eq-itself, holds-in, in-holds, in-right, map-in}

-- ---- numbers in lists

times-none : (x : ℕ) (ys : List ℕ) → holds x ys ≡ false → times x ys ≡ 0
times-none x [] h = refl
times-none x (y ∷ ys) h = elim (y == x) as (λ t. (t || holds x ys) ≡ false → cond t 1 0 + times x ys ≡ 0) [
  | true ↦ λ h. absurd (let z : ⊥ = cc in z)
  | false ↦ λ h. (let e = times-none x ys h in omega arith)
] h

none-times : (x : ℕ) (ys : List ℕ) → times x ys ≡ 0 → holds x ys ≡ false
none-times x [] h = refl
none-times x (y ∷ ys) h = elim (y == x) as (λ t. cond t 1 0 + times x ys ≡ 0 → (t || holds x ys) ≡ false) [
  | true ↦ λ h. absurd (omega arith)
  | false ↦ λ h. none-times x ys (omega arith)
] h

once-is : (x : ℕ) (ys : List ℕ) → once x ys ≡ true → times x ys ≡ 1
once-is x [] h = absurd (let z : ⊥ = cc in z)
once-is x (y ∷ ys) h = elim (y == x) as (λ t. cond t (not (holds x ys)) (once x ys) ≡ true → cond t 1 0 + times x ys ≡ 1) [
  | true ↦ λ h. (let e = times-none x ys (not-true (holds x ys) h) in omega arith)
  | false ↦ λ h. (let e = once-is x ys h in omega arith)
] h

is-once : (x : ℕ) (ys : List ℕ) → times x ys ≡ 1 → once x ys ≡ true
is-once x [] h = absurd (omega arith)
is-once x (y ∷ ys) h = elim (y == x) as (λ t. cond t 1 0 + times x ys ≡ 1 → cond t (not (holds x ys)) (once x ys) ≡ true) [
  | true ↦ λ h. ap not (none-times x ys (omega arith))
  | false ↦ λ h. is-once x ys (omega arith)
] h

pub empty-none : (xs : List ℕ) → is_empty xs ≡ true → (q : ℕ) → holds q xs ≡ true → ⊥
empty-none [] e q h = let z : ⊥ = cc in z
empty-none (x ∷ xs) e q h = let z : ⊥ = cc in z

pub none-empty : (xs : List ℕ) → ((q : ℕ) → holds q xs ≡ true → ⊥) → is_empty xs ≡ true
none-empty [] h = refl
none-empty (x ∷ xs) h = absurd (h x (or_left (x == x) (holds x xs) (eq-itself x)))

-- ---- a box stands at one place

split-once : (n : Node) (up low up' low' : List Node) → EachOnce (numbers (up ++ n ∷ low)) → up ++ n ∷ low ≡ up' ++ n ∷ low' → low ≡ low'
split-once n [] low [] low' o e = let p : low ≡ low' = cc in p
split-once n [] low (m ∷ up') low' o e =
    let p : low ≡ up' ++ n ∷ low' = cc in
    absurd (clash (holds n.id (numbers low)) (in-holds n.id (numbers low) (map-in (λ (z : Node). z.id) n low (subst (λ z. In n z) (sym p) (in-right n up' (n ∷ low') (inl refl))))) o.0)
split-once n (m ∷ up) low [] low' o e =
    let p : m ≡ n = cc in
    absurd (clash (holds m.id (numbers (up ++ n ∷ low))) (in-holds m.id (numbers (up ++ n ∷ low)) (map-in (λ (z : Node). z.id) m (up ++ n ∷ low) (in-right m up (n ∷ low) (inl (sym p))))) o.0)
split-once n (m ∷ up) low (m' ∷ up') low' o e = let p : up ++ n ∷ low ≡ up' ++ n ∷ low' = cc in split-once n up low up' low' o.1 p

-- ---- each clause

-- what a clause needs of the graph for its pass to compute what it says
abbrev pub Needs : Clause → List Node → Type 0
Needs I1 bs = ⊤
Needs I2 bs = ⊤
Needs I3 bs = ⊤
Needs I4 bs = ⊤
Needs I5 bs = ⊤
Needs I6 bs = Ordered bs
Needs I7 bs = Ordered bs
Needs I8 bs = ⊤
Needs I9 bs = ⊤

if-not : (a b : Bool) → (not a || b) ≡ true → a ≡ true → b ≡ true
if-not true b h t = h
if-not false b h t = absurd (let z : ⊥ = cc in z)

not-if : (a b : Bool) → (a ≡ true → b ≡ true) → (not a || b) ≡ true
not-if true b h = h refl
not-if false b h = refl

module _ (g : QueryGraph) where
  abbrev bs : List Node
  bs = g.boxes

  known-is : (n : Node) → ids_known bs n ≡ true → IdsKnown g n
  known-is n h =
      let ps = and_parts (list_all (λ r. has_box bs r.over) n.quants) (list_all (λ q. list_any (owns q) bs) (named_by n)) h in
      (λ r i. all-in (λ r. has_box bs r.over) r n.quants ps.0 i, λ q k. all-in (λ q. list_any (owns q) bs) q (named_by n) ps.1 (holds-in q (named_by n) k))

  is-known : (n : Node) → IdsKnown g n → ids_known bs n ≡ true
  is-known n k =
      and_from (list_all (λ r. has_box bs r.over) n.quants) (list_all (λ q. list_any (owns q) bs) (named_by n))
      (all-from (λ r. has_box bs r.over) n.quants k.0) (all-from (λ q. list_any (owns q) bs) (named_by n) (λ q i. k.1 q (in-holds q (named_by n) i)))

  owned-is : (n : Node) → owned_once bs n ≡ true → OwnedOnce g n
  owned-is n h = λ r i. once-is r.id (ids_in bs) (all-in (λ r. once r.id (ids_in bs)) r n.quants h i)

  is-owned : (n : Node) → OwnedOnce g n → owned_once bs n ≡ true
  is-owned n k = all-from (λ r. once r.id (ids_in bs)) n.quants (λ r i. is-once r.id (ids_in bs) (k r i))

  module _ (o : Ordered bs) where
    closed-is : (b : ℕ) → is_empty (free_in bs b) ≡ true → (q : ℕ) → IsFree bs b q → ⊥
    closed-is b h q f = empty-none (free_in bs b) h q ((free-free bs o b q).1 f)

    is-closed : (b : ℕ) → ((q : ℕ) → IsFree bs b q → ⊥) → is_empty (free_in bs b) ≡ true
    is-closed b h = none-empty (free_in bs b) (λ q k. h q ((free-free bs o b q).0 k))

    view-of : (n : Node) → names_in_view g.root bs n ≡ true → NamesInView g n
    view-of n h =
        let ps = and_parts (list_all (in_view bs n) (named_by n)) (not (n.id == g.root) || is_empty (free_in bs n.id)) h in (
          λ q k. (view-is bs o n q).0 (all-in (in_view bs n) q (named_by n) ps.0 (holds-in q (named_by n) k)),
          λ e q f. closed-is n.id (if-not (n.id == g.root) (is_empty (free_in bs n.id)) ps.1 (eq-eqb n.id g.root e)) q (subst (λ b. IsFree bs b q) (sym e) f),
        )

    of-view : (n : Node) → NamesInView g n → names_in_view g.root bs n ≡ true
    of-view n k =
        and_from (list_all (in_view bs n) (named_by n)) (not (n.id == g.root) || is_empty (free_in bs n.id))
        (all-from (in_view bs n) (named_by n) (λ q i. (view-is bs o n q).1 (k.0 q (in-holds q (named_by n) i))))
        (not-if (n.id == g.root) (is_empty (free_in bs n.id)) (λ t. let e = eqb-true n.id g.root t in is-closed n.id (λ q f. k.1 e q (subst (λ b. IsFree bs b q) e f))))

    opened-if : (t : Bool) → Node → Bool
    opened-if t n = cond t (not (holds n.id (overs_in bs))) (is_empty (free_in bs n.id) || once n.id (overs_in bs))

    opened-is : (n : Node) → opened_once g.root bs n ≡ true → OpenedOnce g n
    unfolding opened-if
    opened-is n h = (
      λ e. (
          let t = subst (λ b. opened-if b n ≡ true) (eq-eqb n.id g.root e) h in
          subst (λ b. times b (overs_in bs) ≡ 0) e (times-none n.id (overs_in bs) (not-true (holds n.id (overs_in bs)) t))),
      λ no q f. elim (cases_Bool (n.id == g.root)) [
        | inl t ↦ absurd (no (eqb-true n.id g.root t))
        | inr t ↦ elim (or_cases (is_empty (free_in bs n.id)) (once n.id (overs_in bs)) (subst (λ b. opened-if b n ≡ true) t h)) [
          | inl c ↦ absurd (closed-is n.id c q f)
          | inr u ↦ once-is n.id (overs_in bs) u
        ]
      ],
    )

    is-opened : (n : Node) → OpenedOnce g n → opened_once g.root bs n ≡ true
    unfolding opened-if
    is-opened n k = elim (cases_Bool (n.id == g.root)) [
      | inl t ↦ (
          let e = eqb-true n.id g.root t in
          subst (λ b. opened-if b n ≡ true) (sym t) (ap not (none-times n.id (overs_in bs) (subst (λ b. times b (overs_in bs) ≡ 0) (sym e) (k.0 e)))))
      | inr t ↦ subst (λ b. opened-if b n ≡ true) (sym t) (elim (cases_Bool (is_empty (free_in bs n.id))) [
        | inl c ↦ or_left (is_empty (free_in bs n.id)) (once n.id (overs_in bs)) c
        | inr c ↦ or_right (is_empty (free_in bs n.id)) (once n.id (overs_in bs)) (elim (cases_Bool (once n.id (overs_in bs))) [
          | inl u ↦ u
          | inr u ↦ absurd (clash (is_empty (free_in bs n.id)) (is-closed n.id (λ q f. clash (once n.id (overs_in bs)) (is-once n.id (overs_in bs) (k.1 (λ e. clash (n.id == g.root) (eq-eqb n.id g.root e) t) q f)) u)) c)
        ])
      ])
    ]

  permit-is : (n : Node) → permit_unseen g.root bs n ≡ true → PermitUnseen g n
  permit-is n h d =
      let u = not-true ((n.id == g.root) || is_counted bs n.id) (if-not (is_permit n.parts.distinct) (not ((n.id == g.root) || is_counted bs n.id)) h d) in (
        λ e. clash ((n.id == g.root) || is_counted bs n.id) (or_left (n.id == g.root) (is_counted bs n.id) (eq-eqb n.id g.root e)) u,
        λ m r i j e. elim (cases_Bool (is_F_or_S r.kind)) [
          | inr f ↦ f
          | inl t ↦ absurd (clash ((n.id == g.root) || is_counted bs n.id)
              (or_right (n.id == g.root) (is_counted bs n.id)
              (any-from (λ m. is_counted_in m.quants n.id) m bs i (any-from (λ r. (r.over == n.id) && is_F_or_S r.kind) r m.quants j (and_from (r.over == n.id) (is_F_or_S r.kind) (eq-eqb r.over n.id e) t)))) u)
        ],
      )

  is-permit : (n : Node) → PermitUnseen g n → permit_unseen g.root bs n ≡ true
  is-permit n k = not-if (is_permit n.parts.distinct) (not ((n.id == g.root) || is_counted bs n.id)) (λ d. elim (cases_Bool ((n.id == g.root) || is_counted bs n.id)) [
    | inr f ↦ ap not f
    | inl t ↦ absurd (elim (or_cases (n.id == g.root) (is_counted bs n.id) t) [
      | inl e ↦ (k d).0 (eqb-true n.id g.root e)
      | inr c ↦ (
          let x = any-in (λ m. is_counted_in m.quants n.id) bs c in
          let y = any-in (λ r. (r.over == n.id) && is_F_or_S r.kind) x.0.quants x.1.1 in
          let ps = and_parts (y.0.over == n.id) (is_F_or_S y.0.kind) y.1.1 in
          clash (is_F_or_S y.0.kind) ps.1 ((k d).1 x.0 y.0 x.1.0 y.1.0 (eqb-true y.0.over n.id ps.0)))
    ])
  ])

  -- what is tested of a box, above these, is what the clause says of it
  pub kept-is : EachOnce (numbers bs) → (c : Clause) → Needs c bs → (n : Node) (up low : List Node) → bs ≡ up ++ n ∷ low → (keeps c g.root bs low n ≡ true) ↔ IsKept c g n
  kept-is u I1 w n up low e = (known-is n, is-known n)
  kept-is u I2 w n up low e = (owned-is n, is-owned n)
  kept-is u I3 w n up low e = (
    λ h up' low' e' r i. (
        let same : low ≡ low' = split-once n up low up' low' (subst (λ z. EachOnce (numbers z)) e u) (sym e ∙ e') in
        subst (λ z. has_box z r.over ≡ true) same (all-in (λ r. has_box low r.over) r n.quants h i)),
    λ k. all-from (λ r. has_box low r.over) n.quants (λ r i. k up low e r i),
  )
  kept-is u I4 w n up low e = (λ h. h, λ h. h)
  kept-is u I5 w n up low e = (λ h. h, λ h. h)
  kept-is u I6 w n up low e = (view-of w n, of-view w n)
  kept-is u I7 w n up low e = (opened-is w n, is-opened w n)
  kept-is u I8 w n up low e = (permit-is n, is-permit n)
  kept-is u I9 w n up low e = (λ h. h, λ h. h)
