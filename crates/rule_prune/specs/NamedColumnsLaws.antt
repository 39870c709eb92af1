-- The columns that are listed as named are those whose types a box asks for.
use Rattle.std.proofs.Common.{ℕ, ◌==◌, ◌≡◌, ◌&&◌, ◌||◌, cond, Bool, true, false, List, [], ◌∷◌, ◌++◌, filter, refl, sym, ap, ap₂, subst, ◌∙◌, eqb-true, inl, inr}
use Rattle.std.specs.List.{flat_map, list_any}
use Rattle.std.proofs.lemmas.Bool.{and_from, and_parts, cases_Bool, eq-eqb, or_cases, or_left, or_right}
use Rattle.list_laws.specs.Lists.{In, holds}
use Rattle.list_laws.proofs.Booleans.{clash}
use Rattle.list_laws.proofs.Membership.{any-from, any-in, any-not, eq-itself, filter-in, flat-in, holds-in, in-append, in-filter, in-flat, in-holds, in-left, in-map, in-right, map-in}
use Rattle.qgm_core.specs.Edits.{ids_over, quants_over}
use Rattle.qgm_core.specs.declared.node.Node.{Node}
use Rattle.qgm_core.specs.declared.owned.OwnedQuant.{OwnedQuant}
use Rattle.qgm_edit_laws.specs.Changes.{is_set_op}
use Rattle.qgm_edit_laws.specs.FormedAdds.{of_column, types_asked}
use Rattle.qgm_edit_laws.specs.FormedColumn.{Unasked}
use Rattle.qgm_edit_laws.proofs.Read.{any-both, is_at}
use Rattle.qgm_terms.specs.Gathered.{listed_arms}
use Rattle.qgm_terms.specs.Named.{columns_in, columns_in_cond, nodes_in, nodes_in_cond}
use Rattle.qgm_terms.specs.Named as named
use Rattle.qgm_terms.specs.Terms.{Term, int, text, null_int, null_text, col, both, minus_of, choose, count_all, fold, scalar, Arms, no_arm, arm, Cond, always, compare, is_null, and, or, not, some, every}
use Rattle.qgm_terms.specs.Wanted.{any_in, any_in_arms, any_in_cond}
use Rattle.qgm_terms.specs.declared.named.Column.{Column}
use Rattle.qgm_terms.specs.declared.named.QuantNode.{QuantNode}
use Rattle.qgm_terms.specs.declared.named.QuantNode.TheVariants.{Scalar, Some, Every}
use Rattle.qgm_wellformed.specs.Columns.{columns_of}
use Rattle.qgm_wellformed.specs.Shapes.{nodes_of}
use Rattle.rule_prune.specs.NamedColumns.{firsts_of, has_over, is_operand, is_scalar_of, named_in_box, named_of, places_of}

-- ---- what a box asks for stands in its lists

-- a scalar of q
abbrev is_scalar : ℕ → QuantNode → Bool
is_scalar q (Scalar r) = r == q
is_scalar q (Some r) = false
is_scalar q (Every r) = false

join : (a s b u e : Bool) → ((a || (e && s)) || (b || (e && u))) ≡ ((a || b) || (e && (s || u)))
join true s b u e = refl
join false s true u true = (let h : (s || true) ≡ true = or_right s true refl in h)
join false s true u false = refl
join false s false u true = refl
join false s false u false = refl

nothing : (e : Bool) → false ≡ (false || (e && false))
nothing true = refl
nothing false = refl

module _ (q k : ℕ) where
  -- column k of q, or a scalar of q where k is 1
  abbrev listed : List Column → List QuantNode → Bool
  listed cs ns = list_any (is_at q k) cs || ((1 == k) && list_any (is_scalar q) ns)

  together : (cs ds : List Column) (ns ms : List QuantNode) → (listed cs ns || listed ds ms) ≡ listed (cs ++ ds) (ns ++ ms)
  together cs ds ns ms =
      join (list_any (is_at q k) cs) (list_any (is_scalar q) ns) (list_any (is_at q k) ds) (list_any (is_scalar q) ms) (1 == k)
      ∙ sym (ap₂ (λ (a s : Bool). a || ((1 == k) && s)) (any-both (is_at q k) cs ds) (any-both (is_scalar q) ns ms))

  column-listed : (a e : Bool) → a ≡ ((a || false) || (e && false))
  column-listed true e = refl
  column-listed false true = refl
  column-listed false false = refl

  scalar-listed : (a e : Bool) → (a && e) ≡ (false || (e && (a || false)))
  scalar-listed true true = refl
  scalar-listed true false = refl
  scalar-listed false true = refl
  scalar-listed false false = refl

  mutual
    term-listed : (x : Term) → any_in (of_column q k) x ≡ listed (columns_in x) (nodes_in x)
    term-listed (int n) = nothing (1 == k)
    term-listed (text s) = nothing (1 == k)
    term-listed null_int = nothing (1 == k)
    term-listed null_text = nothing (1 == k)
    term-listed (col r j) = column-listed ((r == q) && (j == k)) (1 == k)
    term-listed (both o x y) = ap₂ (λ a b. a || b) (term-listed x) (term-listed y) ∙ together (columns_in x) (columns_in y) (nodes_in x) (nodes_in y)
    term-listed (minus_of x) = term-listed x
    term-listed (choose s x) = ap₂ (λ a b. a || b) (arms-listed s) (term-listed x) ∙ together (listed_arms named.columns s) (columns_in x) (listed_arms named.nodes s) (nodes_in x)
    term-listed count_all = nothing (1 == k)
    term-listed (fold f t x) = term-listed x
    term-listed (scalar r) = scalar-listed (r == q) (1 == k)

    arms-listed : (s : Arms) → any_in_arms (of_column q k) s ≡ listed (listed_arms named.columns s) (listed_arms named.nodes s)
    arms-listed no_arm = nothing (1 == k)
    arms-listed (arm c x s) =
        ap₂ (λ a b. a || b) (cond-listed c) (ap₂ (λ a b. a || b) (term-listed x) (arms-listed s) ∙ together (columns_in x) (listed_arms named.columns s) (nodes_in x) (listed_arms named.nodes s))
        ∙ together (columns_in_cond c) (columns_in x ++ listed_arms named.columns s) (nodes_in_cond c) (nodes_in x ++ listed_arms named.nodes s)

    cond-listed : (c : Cond) → any_in_cond (of_column q k) c ≡ listed (columns_in_cond c) (nodes_in_cond c)
    cond-listed always = nothing (1 == k)
    cond-listed (compare sign x y) = ap₂ (λ a b. a || b) (term-listed x) (term-listed y) ∙ together (columns_in x) (columns_in y) (nodes_in x) (nodes_in y)
    cond-listed (is_null x) = term-listed x
    cond-listed (and c d) = ap₂ (λ a b. a || b) (cond-listed c) (cond-listed d) ∙ together (columns_in_cond c) (columns_in_cond d) (nodes_in_cond c) (nodes_in_cond d)
    cond-listed (or c d) = ap₂ (λ a b. a || b) (cond-listed c) (cond-listed d) ∙ together (columns_in_cond c) (columns_in_cond d) (nodes_in_cond c) (nodes_in_cond d)
    cond-listed (not c) = cond-listed c
    cond-listed (some r c) = cond-listed c
    cond-listed (every r c) = cond-listed c

  cells-listed : (xs : List Term) → list_any (any_in (of_column q k)) xs ≡ listed (flat_map columns_in xs) (flat_map nodes_in xs)
  cells-listed [] = nothing (1 == k)
  cells-listed (x ∷ xs) = ap₂ (λ a b. a || b) (term-listed x) (cells-listed xs) ∙ together (columns_in x) (flat_map columns_in xs) (nodes_in x) (flat_map nodes_in xs)

  conds-listed : (cs : List Cond) → list_any (any_in_cond (of_column q k)) cs ≡ listed (flat_map columns_in_cond cs) (flat_map nodes_in_cond cs)
  conds-listed [] = nothing (1 == k)
  conds-listed (c ∷ cs) = ap₂ (λ a b. a || b) (cond-listed c) (conds-listed cs) ∙ together (columns_in_cond c) (flat_map columns_in_cond cs) (nodes_in_cond c) (flat_map nodes_in_cond cs)

  asked-listed : (n : Node) → types_asked q k n ≡ listed (columns_of n) (nodes_of n)
  asked-listed n =
      ap₂ (λ a b. a || b) (cells-listed n.parts.head) (conds-listed n.parts.conds.items)
      ∙ together (flat_map columns_in n.parts.head) (flat_map columns_in_cond n.parts.conds.items) (flat_map nodes_in n.parts.head) (flat_map nodes_in_cond n.parts.conds.items)

-- ---- of many quantifiers

places-in : (qs : List ℕ) (q k : ℕ) (cs : List Column) → holds q qs ≡ true → list_any (is_at q k) cs ≡ true → In k (places_of qs cs)
places-in qs q k [] h t = absurd (let z : ⊥ = cc in z)
places-in qs q k (c ∷ cs) h t = elim (or_cases (is_at q k c) (list_any (is_at q k) cs) t) [
  | inl a ↦ (
      let e = and_parts (c.quant == q) (c.place == k) a in
      let here : holds c.quant qs ≡ true = subst (λ z. holds z qs ≡ true) (sym (eqb-true c.quant q e.0)) h in
      subst (λ z. In k z) (sym (ap (λ b. cond b (c.place ∷ places_of qs cs) (places_of qs cs)) here)) (inl (eqb-true c.place k e.1)))
  | inr a ↦ (let i = places-in qs q k cs h a in elim (holds c.quant qs) as (λ b. In k (cond b (c.place ∷ places_of qs cs) (places_of qs cs))) [ true ↦ inr i | false ↦ i ])
]

in-places : (qs : List ℕ) (k : ℕ) (cs : List Column) → In k (places_of qs cs) → (q : ℕ) × ((holds q qs ≡ true) × (list_any (is_at q k) cs ≡ true))
in-places qs k [] i = elim i [ ]
in-places qs k (c ∷ cs) i = elim (holds c.quant qs) as (λ b. holds c.quant qs ≡ b → In k (cond b (c.place ∷ places_of qs cs) (places_of qs cs)) → (q : ℕ) × ((holds q qs ≡ true) × (list_any (is_at q k) (c ∷ cs) ≡ true))) [
  | true ↦ λ t i. elim i [
    | inl e ↦ (c.quant, (t, or_left (is_at c.quant k c) (list_any (is_at c.quant k) cs) (and_from (c.quant == c.quant) (c.place == k) (eq-itself c.quant) (eq-eqb c.place k e))))
    | inr j ↦ (let r = in-places qs k cs j in (r.0, (r.1.0, or_right (is_at r.0 k c) (list_any (is_at r.0 k) cs) r.1.1)))
  ]
  | false ↦ λ t i. (let r = in-places qs k cs i in (r.0, (r.1.0, or_right (is_at r.0 k c) (list_any (is_at r.0 k) cs) r.1.1)))
] refl i

scalar-in : (qs : List ℕ) (q : ℕ) (n : QuantNode) → holds q qs ≡ true → is_scalar q n ≡ true → is_scalar_of qs n ≡ true
scalar-in qs q (Scalar r) h t = subst (λ z. holds z qs ≡ true) (sym (eqb-true r q t)) h
scalar-in qs q (Some r) h t = t
scalar-in qs q (Every r) h t = t

in-scalar : (qs : List ℕ) (n : QuantNode) → is_scalar_of qs n ≡ true → (q : ℕ) × ((holds q qs ≡ true) × (is_scalar q n ≡ true))
in-scalar qs (Scalar r) t = (r, (t, eq-itself r))
in-scalar qs (Some r) t = absurd (let z : ⊥ = cc in z)
in-scalar qs (Every r) t = absurd (let z : ⊥ = cc in z)

firsts-in : (qs : List ℕ) (q : ℕ) (ns : List QuantNode) → holds q qs ≡ true → list_any (is_scalar q) ns ≡ true → In 1 (firsts_of qs ns)
firsts-in qs q [] h t = absurd (let z : ⊥ = cc in z)
firsts-in qs q (n ∷ ns) h t = elim (or_cases (is_scalar q n) (list_any (is_scalar q) ns) t) [
  | inl a ↦ subst (λ z. In 1 z) (sym (ap (λ b. cond b (1 ∷ firsts_of qs ns) (firsts_of qs ns)) (scalar-in qs q n h a))) (inl refl)
  | inr a ↦ (let i = firsts-in qs q ns h a in elim (is_scalar_of qs n) as (λ b. In 1 (cond b (1 ∷ firsts_of qs ns) (firsts_of qs ns))) [ true ↦ inr i | false ↦ i ])
]

in-firsts : (qs : List ℕ) (k : ℕ) (ns : List QuantNode) → In k (firsts_of qs ns) → (1 ≡ k) × ((q : ℕ) × ((holds q qs ≡ true) × (list_any (is_scalar q) ns ≡ true)))
in-firsts qs k [] i = elim i [ ]
in-firsts qs k (n ∷ ns) i = elim (is_scalar_of qs n) as (λ b. is_scalar_of qs n ≡ b → In k (cond b (1 ∷ firsts_of qs ns) (firsts_of qs ns)) → (1 ≡ k) × ((q : ℕ) × ((holds q qs ≡ true) × (list_any (is_scalar q) (n ∷ ns) ≡ true)))) [
  | true ↦ λ t i. elim i [
    | inl e ↦ (let r = in-scalar qs n t in (e, (r.0, (r.1.0, or_left (is_scalar r.0 n) (list_any (is_scalar r.0) ns) r.1.1))))
    | inr j ↦ (let r = in-firsts qs k ns j in (r.0, (r.1.0, (r.1.1.0, or_right (is_scalar r.1.0 n) (list_any (is_scalar r.1.0) ns) r.1.1.1))))
  ]
  | false ↦ λ t i. (let r = in-firsts qs k ns i in (r.0, (r.1.0, (r.1.1.0, or_right (is_scalar r.1.0 n) (list_any (is_scalar r.1.0) ns) r.1.1.1))))
] refl i

-- a box asks for the type of a column exactly where the column is listed
pub box-lists : (qs : List ℕ) (q k : ℕ) (n : Node) → holds q qs ≡ true → types_asked q k n ≡ true → In k (named_in_box qs n)
box-lists qs q k n h t = elim (or_cases (list_any (is_at q k) (columns_of n)) ((1 == k) && list_any (is_scalar q) (nodes_of n)) (sym (asked-listed q k n) ∙ t)) [
  | inl a ↦ in-left k (places_of qs (columns_of n)) (firsts_of qs (nodes_of n)) (places-in qs q k (columns_of n) h a)
  | inr a ↦ (
      let e = and_parts (1 == k) (list_any (is_scalar q) (nodes_of n)) a in
      in-right k (places_of qs (columns_of n)) (firsts_of qs (nodes_of n)) (subst (λ z. In z (firsts_of qs (nodes_of n))) (eqb-true 1 k e.0) (firsts-in qs q (nodes_of n) h e.1)))
]

pub lists-box : (qs : List ℕ) (k : ℕ) (n : Node) → In k (named_in_box qs n) → (q : ℕ) × ((holds q qs ≡ true) × (types_asked q k n ≡ true))
lists-box qs k n i = elim (in-append k (places_of qs (columns_of n)) (firsts_of qs (nodes_of n)) i) [
  | inl j ↦ (
      let r = in-places qs k (columns_of n) j in
      (r.0, (r.1.0, asked-listed r.0 k n ∙ or_left (list_any (is_at r.0 k) (columns_of n)) ((1 == k) && list_any (is_scalar r.0) (nodes_of n)) r.1.1)))
  | inr j ↦ (
      let r = in-firsts qs k (nodes_of n) j in
      (r.1.0, (r.1.1.0, asked-listed r.1.0 k n ∙ or_right (list_any (is_at r.1.0 k) (columns_of n)) ((1 == k) && list_any (is_scalar r.1.0) (nodes_of n)) (and_from (1 == k) (list_any (is_scalar r.1.0) (nodes_of n)) (eq-eqb 1 k r.0) r.1.1.1))))
]

-- ---- the quantifiers over a box

over-in : (b : ℕ) (bs : List Node) (o : Node) (r : OwnedQuant) → In o bs → In r o.quants → r.over ≡ b → holds r.id (quants_over b bs) ≡ true
over-in b bs o r i j e =
    in-holds r.id (quants_over b bs)
    (flat-in (λ n. ids_over b n.quants) o r.id bs i (map-in (λ (x : OwnedQuant). x.id) r (filter (λ x. x.over == b) o.quants) (filter-in (λ x. x.over == b) r o.quants j (eq-eqb r.over b e))))

in-over : (b : ℕ) (bs : List Node) (q : ℕ) → holds q (quants_over b bs) ≡ true → (o : Node) × ((r : OwnedQuant) × (In o bs × (In r o.quants × ((r.over ≡ b) × (r.id ≡ q)))))
in-over b bs q h =
    let o = in-flat (λ n. ids_over b n.quants) q bs (holds-in q (quants_over b bs) h) in
    let r = in-map (λ (x : OwnedQuant). x.id) q (filter (λ x. x.over == b) o.0.quants) o.1.1 in
    let f = in-filter (λ x. x.over == b) r.0 o.0.quants r.1.0 in
    (o.0, (r.0, (o.1.0, (f.0, (eqb-true r.0.over b f.1, r.1.1)))))

-- ---- a column that isn't listed is one that no box names

pub unasked-from : (bs : List Node) (b k : ℕ) → holds k (named_of b bs) ≡ false → Unasked bs b k
unasked-from bs b k f n o r i j l e = elim (cases_Bool (types_asked r.id k n)) [
  | inr u ↦ u
  | inl t ↦ absurd (clash (holds k (named_of b bs)) (in-holds k (named_of b bs) (flat-in (named_in_box (quants_over b bs)) n k bs i (box-lists (quants_over b bs) r.id k n (over-in b bs o r j l e) t))) f)
]

pub unasked-to : (bs : List Node) (b k : ℕ) → Unasked bs b k → holds k (named_of b bs) ≡ false
unasked-to bs b k u = elim (cases_Bool (holds k (named_of b bs))) [
  | inr f ↦ f
  | inl t ↦ absurd (
      let n = in-flat (named_in_box (quants_over b bs)) k bs (holds-in k (named_of b bs) t) in
      let q = lists-box (quants_over b bs) k n.0 n.1.1 in
      let o = in-over b bs q.0 q.1.0 in
      let r = o.1.1 in
      clash (types_asked q.0 k n.0) q.1.1 (subst (λ z. types_asked z k n.0 ≡ false) r.1.1.1 (u n.0 o.0 o.1.0 n.1.0 r.0 r.1.0 r.1.1.0)))
]

-- ---- operands of set operations

pub no-arm-from : (bs : List Node) (b : ℕ) → is_operand b bs ≡ false → (o : Node) (r : OwnedQuant) → In o bs → In r o.quants → r.over ≡ b → is_set_op o.parts.kind ≡ false
no-arm-from bs b f o r i j e = elim (cases_Bool (is_set_op o.parts.kind)) [
  | inr n ↦ n
  | inl t ↦ absurd (
      clash (is_operand b bs) (any-from (λ (n : Node). is_set_op n.parts.kind && has_over b n) o bs i (and_from (is_set_op o.parts.kind) (has_over b o) t (any-from (λ (x : OwnedQuant). x.over == b) r o.quants j (eq-eqb r.over b e)))) f)
]

pub no-arm-to : (bs : List Node) (b : ℕ) → ((o : Node) (r : OwnedQuant) → In o bs → In r o.quants → r.over ≡ b → is_set_op o.parts.kind ≡ false) → is_operand b bs ≡ false
no-arm-to bs b h = any-not (λ (n : Node). is_set_op n.parts.kind && has_over b n) bs (λ n i. elim (cases_Bool (is_set_op n.parts.kind && has_over b n)) [
  | inr f ↦ f
  | inl t ↦ absurd (
      let a = and_parts (is_set_op n.parts.kind) (has_over b n) t in
      let r = any-in (λ (x : OwnedQuant). x.over == b) n.quants a.1 in
      clash (is_set_op n.parts.kind) a.0 (h n r.0 i r.1.0 (eqb-true r.0.over b r.1.1)))
])
