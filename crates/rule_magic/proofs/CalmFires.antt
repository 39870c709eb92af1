-- In a calm graph where a box is open a rule of class magic has a place.
use Rattle.std.proofs.Common.{ℕ, zero, suc, ◌==◌, ◌≡◌, ◌≤◌, ◌<◌, ◌+◌, ◌&&◌, ◌||◌, cond, not, Bool, true, false, List, [], ◌∷◌, ◌++◌, map, length, Option, Some, None, refl, sym, ap, ap₂, subst, ◌∙◌, eqb-true, ◌⊎◌, inl, inr, arith}
use Rattle.std.specs.List.{flat_map, list_all, list_any}
use Rattle.std.proofs.lemmas.Bool.{and_parts, cases_Bool, eq-eqb, or_left, or_right}
use Rattle.qgm_core.specs.Boxes.{Ordered, QueryGraph, has_box, ids_in, ids_of, is_box, is_quant, numbers, overs_in, overs_of, owns, width}
use Rattle.qgm_core.specs.Free.{IsFree, NamedBelow, Reaches, free_in, itself, named_by, through}
use Rattle.qgm_core.specs.Kinds.{is_F, is_S, is_magic, is_preserve}
use Rattle.list_laws.specs.Lists.{EachOnce, In, first, holds, times}
use Rattle.qgm_core.specs.declared.kinds.BoxKind.{BoxKind}
use Rattle.qgm_core.specs.declared.kinds.BoxKind.TheVariants.{Base, Select, Group, SetOp, OuterJoin}
use Rattle.qgm_core.specs.declared.kinds.QuantKind.{QuantKind}
use Rattle.qgm_core.specs.declared.kinds.QuantKind.TheVariants.{F, E, A, S}
use Rattle.qgm_core.specs.declared.kinds.Role.{Role}
use Rattle.qgm_core.specs.declared.kinds.Role.TheVariants.{Plain, Magic, Fed}
use Rattle.qgm_core.specs.declared.kinds.SetOperator.{SetOperator}
use Rattle.qgm_core.specs.declared.kinds.SetOperator.TheVariants.{UnionAll, Union, IntersectAll, Intersect, ExceptAll, Except}
use Rattle.qgm_core.specs.declared.node.Node.{Node}
use Rattle.qgm_core.specs.declared.owned.OwnedQuant.{OwnedQuant}
use Rattle.qgm_wellformed.specs.Columns.{columns_of}
use Rattle.qgm_wellformed.specs.Sentences.{WellFormed}
use Rattle.qgm_wellformed.specs.Shapes.{columns_from, columns_through, fed_by, is_column, is_none, kind_fits, magic_found, only, same_columns, width_found}
use Rattle.qgm_wellformed.specs.Shapes as shape
use Rattle.qgm_wellformed.specs.View.{Sees, Shows, is_row, seen, shown}
use Rattle.qgm_wellformed.specs.WellFormed.{is_empty}
use Rattle.qgm_wellformed.specs.declared.clause.Clause.TheVariants.{I1, I2, I6, I7}
use Rattle.qgm_wellformed.proofs.Below.{free-free}
use Rattle.qgm_wellformed.proofs.Faults.{well-ordered}
use Rattle.qgm_edit_laws.specs.Placed.{place}
use Rattle.qgm_edit_laws.proofs.Ranks.{has-in, place-under, same-box}
use Rattle.qgm_props.specs.Calm.{calm, calm_box, calm_column, calm_magic, calm_scalar, clean_below, is_closed}
use Rattle.qgm_props.specs.Inferred as inf
use Rattle.qgm_props.proofs.FedShapes as fed-shapes
use Rattle.qgm_props.proofs.FedShapes.{FedShape}
use Rattle.qgm_props.proofs.Settled.{founded}
use Rattle.qgm_props.specs.Inferred.{Facts, all_places, all_under, clean_by, error_free_under, inferred_once, of_box, says}
use Rattle.qgm_props.specs.Laws.{Tells}
use Rattle.qgm_terms.specs.Named.{columns_in, names_in, names_in_cond}
use Rattle.qgm_terms.specs.Terms as t
use Rattle.qgm_terms.specs.Terms.{Term}
use Rattle.qgm_terms.specs.declared.named.Column.{Column}
use Rattle.rule_magic.specs.CalmFires.{CalmFires}
use Rattle.rule_magic.specs.Places.{AbsorbsBy, AreFew, IsOpen, MagicAt, MayAbsorb, MayFeed, SetsReady}
use Rattle.qgm_core.proofs.KindTests.{select-is}
use Rattle.qgm_core.proofs.Reaching.{in-has}
use Rattle.list_laws.proofs.Counting.{in-times, times-in, times-map, times-once, times-some}
use Rattle.list_laws.proofs.Booleans.{clash, or-false}
use Rattle.list_laws.proofs.Membership.{all-in, any-from, any-in, eq-itself, in-append, in-left, in-right}

-- ---- lists

first-box : (ns : List Node) (n : Node) → Ordered ns → In n ns → first (is_box n.id) ns ≡ Some n
first-box [] n o k = elim k [ ]
first-box (m ∷ ns) n o k = elim k [
  | inl e ↦ ap (λ b. cond b (Some m) (first (is_box n.id) ns)) (subst (λ (z : Node). (m.id == z.id) ≡ true) e (eq-itself m.id)) ∙ ap (λ (z : Node). Some z) e
  | inr j ↦ (
      let f : (m.id == n.id) ≡ false = elim (cases_Bool (m.id == n.id)) [
        | inr f ↦ f
        | inl y ↦ absurd (clash (has_box ns m.id) (subst (λ z. has_box ns z ≡ true) (sym (eqb-true m.id n.id y)) (in-has n ns j)) o.0)
      ] in
      ap (λ b. cond b (Some m) (first (is_box n.id) ns)) f ∙ first-box ns n o.2 j)
]

owns-in : (q : ℕ) (n : Node) → owns q n ≡ true → (r : OwnedQuant) × (In r n.quants × (r.id ≡ q))
owns-in q n h = let x = any-in (is_quant q) n.quants h in (x.0, (x.1.0, eqb-true x.0.id q x.1.1))

in-owns : (r : OwnedQuant) (n : Node) → In r n.quants → owns r.id n ≡ true
in-owns r n k = any-from (is_quant r.id) r n.quants k (eq-itself r.id)

row-owns : (q : ℕ) (rs : List OwnedQuant) → is_row q rs ≡ true → (r : OwnedQuant) × (In r rs × ((r.id ≡ q) × (is_F r.kind ≡ true)))
row-owns q rs h = let x = any-in (λ r. is_quant q r && is_F r.kind) rs h in let a = and_parts (is_quant q x.0) (is_F x.0.kind) x.1.1 in (x.0, (x.1.0, (eqb-true x.0.id q a.0, a.1)))

-- the first F quantifier over an open box, or none
abbrev Closed : List Node → ℕ → Type 0
Closed boxes b = (q : ℕ) → IsFree boxes b q → ⊥

pub record FirstOpen (boxes : List Node) (rs : List OwnedQuant) : Type 0 where
  pub us : List OwnedQuant
  pub r : OwnedQuant
  pub vs : List OwnedQuant
  pub split : rs ≡ us ++ r ∷ vs
  pub row : is_F r.kind ≡ true
  pub opened : IsOpen boxes r.over
  pub before : (p : OwnedQuant) → In p us → is_F p.kind ≡ true → Closed boxes p.over

abbrev NoneOpen : List Node → List OwnedQuant → Type 0
NoneOpen boxes rs = (p : OwnedQuant) → In p rs → is_F p.kind ≡ true → Closed boxes p.over

module _ (boxes : List Node) (ordered : Ordered boxes) where
  open-or-closed : (b : ℕ) → IsOpen boxes b ⊎ Closed boxes b
  open-or-closed b = elim (free_in boxes b) as (λ xs. free_in boxes b ≡ xs → IsOpen boxes b ⊎ Closed boxes b) [
    | [] ↦ λ e. inr (λ q f. (let h : holds q [] ≡ true = subst (λ xs. holds q xs ≡ true) e ((free-free boxes ordered b q).1 f) in let z : ⊥ = cc in z))
    | (x ∷ xs) ↦ λ e. inl (x, (free-free boxes ordered b x).0 (subst (λ ys. holds x ys ≡ true) (sym e) (or_left (x == x) (holds x xs) (eq-itself x))))
  ] refl

  pub closed-is : (b : ℕ) → is_closed boxes b ≡ true → Closed boxes b
  closed-is b h q f = elim (free_in boxes b) as (λ xs. free_in boxes b ≡ xs → ⊥) [
    | [] ↦ λ e. (let k : holds q [] ≡ true = subst (λ xs. holds q xs ≡ true) e ((free-free boxes ordered b q).1 f) in let z : ⊥ = cc in z)
    | (x ∷ xs) ↦ λ e. (let k : is_empty (x ∷ xs) ≡ true = subst (λ ys. is_empty ys ≡ true) e h in let z : ⊥ = cc in z)
  ] refl

  first-open : (rs : List OwnedQuant) → FirstOpen boxes rs ⊎ NoneOpen boxes rs
  first-open [] = inr (λ p k f. elim k [ ])
  first-open (r ∷ rs) = elim (cases_Bool (is_F r.kind)) [
    | inl f ↦ elim (open-or-closed r.over) [
      | inl o ↦ inl (record { us = []; r = r; vs = rs; split = refl; row = f; opened = o; before = λ p k g. elim k [ ] })
      | inr c ↦ more (first-open rs) (λ g. c)
    ]
    | inr n ↦ more (first-open rs) (λ g. absurd (clash (is_F r.kind) g n))
  ]
    where
      more : FirstOpen boxes rs ⊎ NoneOpen boxes rs → (is_F r.kind ≡ true → Closed boxes r.over) → FirstOpen boxes (r ∷ rs) ⊎ NoneOpen boxes (r ∷ rs)
      more (inl x) c = inl (record {
        us = r ∷ x.us;
        r = x.r;
        vs = x.vs;
        split = ap (λ (ys : List OwnedQuant). r ∷ ys) x.split;
        row = x.row;
        opened = x.opened;
        before = λ p k g. elim k [ inl e ↦ subst (λ (z : OwnedQuant). Closed boxes z.over) e (c (subst (λ (z : OwnedQuant). is_F z.kind ≡ true) (sym e) g)) | inr j ↦ x.before p j g ];
      })
      more (inr x) c = inr (λ p k g. elim k [ inl e ↦ subst (λ (z : OwnedQuant). Closed boxes z.over) e (c (subst (λ (z : OwnedQuant). is_F z.kind ≡ true) (sym e) g)) | inr j ↦ x p j g ])

-- two splits of a list at what stands there once
overs-append : (us vs : List OwnedQuant) → map (λ (r : OwnedQuant). r.over) (us ++ vs) ≡ map (λ (r : OwnedQuant). r.over) us ++ map (λ (r : OwnedQuant). r.over) vs
overs-append [] vs = refl
overs-append (u ∷ us) vs = ap (λ (xs : List ℕ). u.over ∷ xs) (overs-append us vs)

same-split : (b : ℕ) (us : List OwnedQuant) (r : OwnedQuant) (vs us' : List OwnedQuant) (r' : OwnedQuant) (vs' : List OwnedQuant) → times b (map (λ (r : OwnedQuant). r.over) (us ++ r ∷ vs)) ≤ 1
    → us ++ r ∷ vs ≡ us' ++ r' ∷ vs' → r.over ≡ b → r'.over ≡ b → us ≡ us'
same-split b [] r vs [] r' vs' few e h k = refl
same-split b [] r vs (u ∷ us') r' vs' few e h k = absurd (
    let e2 : vs ≡ us' ++ r' ∷ vs' = cc in
    let one : (r.over == b) ≡ true = eq-eqb r.over b h in
    let more : 1 ≤ times b (map (λ (r : OwnedQuant). r.over) vs) = subst (λ z. 1 ≤ times z (map (λ (r : OwnedQuant). r.over) vs)) k (in-times (λ (r : OwnedQuant). r.over) r' vs (subst (λ (z : List OwnedQuant). In r' z) (sym e2) (in-right r' us' (r' ∷ vs') (inl refl)))) in
    let all : cond (r.over == b) 1 0 + times b (map (λ (r : OwnedQuant). r.over) vs) ≤ 1 = few in
    let two : 1 + times b (map (λ (r : OwnedQuant). r.over) vs) ≤ 1 = subst (λ (t : Bool). cond t 1 0 + times b (map (λ (r : OwnedQuant). r.over) vs) ≤ 1) one all in
    omega (arith, more, two))
same-split b (u ∷ us) r vs [] r' vs' few e h k = absurd (
    let e1 : u ≡ r' = cc in
    let one : (u.over == b) ≡ true = eq-eqb u.over b (ap (λ (z : OwnedQuant). z.over) e1 ∙ k) in
    let more : 1 ≤ times b (map (λ (r : OwnedQuant). r.over) (us ++ r ∷ vs)) = subst (λ z. 1 ≤ times z (map (λ (r : OwnedQuant). r.over) (us ++ r ∷ vs))) h (in-times (λ (r : OwnedQuant). r.over) r (us ++ r ∷ vs) (in-right r us (r ∷ vs) (inl refl))) in
    let two : 1 + times b (map (λ (r : OwnedQuant). r.over) (us ++ r ∷ vs)) ≤ 1 = subst (λ (t : Bool). cond t 1 0 + times b (map (λ (r : OwnedQuant). r.over) (us ++ r ∷ vs)) ≤ 1) one few in
    omega (arith, more, two))
same-split b (u ∷ us) r vs (u' ∷ us') r' vs' few e h k =
    let e1 : u ≡ u' = cc in let e2 : us ++ r ∷ vs ≡ us' ++ r' ∷ vs' = cc in
    ap₂ (λ (x : OwnedQuant) (xs : List OwnedQuant). x ∷ xs) e1 (same-split b us r vs us' r' vs' (le-rest (cond (u.over == b) 1 0) (times b (map (λ (r : OwnedQuant). r.over) (us ++ r ∷ vs))) few) e2 h k)
  where
    le-rest : (m n : ℕ) → m + n ≤ 1 → n ≤ 1
    le-rest m n l = omega (arith, l)

-- ---- shapes

f-not-s : (k : QuantKind) → is_F k ≡ true → is_S k ≡ true → ⊥
f-not-s F f s = let z : ⊥ = cc in z
f-not-s E f s = let z : ⊥ = cc in z
f-not-s A f s = let z : ⊥ = cc in z
f-not-s S f s = let z : ⊥ = cc in z

-- the columns that such a head names are of these quantifiers
column-named : (x : Term) (q : ℕ) → is_column x ≡ true → holds q (names_in x) ≡ true → (k : ℕ) × In (record { quant = q; place = k }) (columns_in x)
column-named (t.int n) q c h = absurd (let z : ⊥ = cc in z)
column-named (t.text s) q c h = absurd (let z : ⊥ = cc in z)
column-named t.null_int q c h = absurd (let z : ⊥ = cc in z)
column-named t.null_text q c h = absurd (let z : ⊥ = cc in z)
column-named (t.col r k) q c h = (k, inl (ap (λ (z : ℕ). record { quant = z; place = k }) (eqb-true r q (sym (or-false (r == q)) ∙ h))))
column-named (t.scalar r) q c h = absurd (let z : ⊥ = cc in z)
column-named (t.both op x y) q c h = absurd (let z : ⊥ = cc in z)
column-named (t.minus_of x) q c h = absurd (let z : ⊥ = cc in z)
column-named (t.choose s x) q c h = absurd (let z : ⊥ = cc in z)
column-named t.count_all q c h = absurd (let z : ⊥ = cc in z)
column-named (t.fold f e x) q c h = absurd (let z : ⊥ = cc in z)

any-split : (p : ℕ → Bool) (xs ys : List ℕ) → list_any p (xs ++ ys) ≡ true → (list_any p xs ≡ true) ⊎ (list_any p ys ≡ true)
any-split p [] ys h = inr h
any-split p (x ∷ xs) ys h = elim (cases_Bool (p x)) [
  | inl y ↦ inl (or_left (p x) (list_any p xs) y)
  | inr n ↦ elim (any-split p xs ys (sym (ap (λ b. b || list_any p (xs ++ ys)) n) ∙ h)) [ inl y ↦ inl (or_right (p x) (list_any p xs) y) | inr y ↦ inr y ]
]

head-named : (xs : List Term) (q : ℕ) → list_all is_column xs ≡ true → holds q (flat_map names_in xs) ≡ true → (k : ℕ) × In (record { quant = q; place = k }) (flat_map columns_in xs)
head-named [] q c h = absurd (let z : ⊥ = cc in z)
head-named (x ∷ xs) q c h =
    let a = and_parts (is_column x) (list_all is_column xs) c in
    elim (any-split (λ m. m == q) (names_in x) (flat_map names_in xs) h) [
      | inl y ↦ (let b = column-named x q a.0 y in (b.0, in-left (record { quant = q; place = b.0 }) (columns_in x) (flat_map columns_in xs) b.1))
      | inr y ↦ (let b = head-named xs q a.1 y in (b.0, in-right (record { quant = q; place = b.0 }) (columns_in x) (flat_map columns_in xs) b.1))
    ]

same-quant : (cs ds : List Column) → same_columns cs ds ≡ true → (c : Column) → In c cs → (d : Column) × (In d ds × (c.quant ≡ d.quant))
same-quant [] ds h c k = elim k [ ]
same-quant (x ∷ cs) [] h c k = absurd (let z : ⊥ = cc in z)
same-quant (x ∷ cs) (y ∷ ds) h c k =
    let a = and_parts ((x.quant == y.quant) && (x.place == y.place)) (same_columns cs ds) h in
    let b = and_parts (x.quant == y.quant) (x.place == y.place) a.0 in
    elim k [
      | inl e ↦ (y, (inl refl, ap (λ (z : Column). z.quant) (sym e) ∙ eqb-true x.quant y.quant b.0))
      | inr j ↦ (let d = same-quant cs ds a.1 c j in (d.0, (inr d.1.0, d.1.1)))
    ]

from-quant : (q k w : ℕ) (d : Column) → In d (columns_from q k w) → d.quant ≡ q
from-quant q k zero d h = elim h [ ]
from-quant q k (suc w) d h = elim h [ inl e ↦ ap (λ (z : Column). z.quant) (sym e) | inr j ↦ from-quant q (k + 1) w d j ]

only-first : (q : ℕ) (xs : List ℕ) → only q xs ≡ true → (p : ℕ) → holds p xs ≡ true → p ≡ q
only-first q [] h p k = absurd (let z : ⊥ = cc in z)
only-first q (x ∷ []) h p k = let a = and_parts (x == q) (is_none {X = ℕ} []) h in sym (eqb-true x p (sym (or-false (x == p)) ∙ k)) ∙ eqb-true x q a.0
only-first q (x ∷ (y ∷ xs)) h p k = absurd (let a = and_parts (x == q) (is_none (y ∷ xs)) h in let b = a.1 in let z : ⊥ = cc in z)

magic-in : (boxes : List Node) (b : ℕ) → magic_found (first (is_box b) boxes) ≡ true → (m : Node) × (In m boxes × ((m.id ≡ b) × (is_magic m.parts.role ≡ true)))
magic-in boxes b h = at (first (is_box b) boxes) refl h
  where
    found-in : (ns : List Node) (m : Node) → first (is_box b) ns ≡ Some m → In m ns × (m.id ≡ b)
    found-in [] m e = absurd (let z : ⊥ = cc in z)
    found-in (n ∷ ns) m e = elim (cases_Bool (n.id == b)) [
      | inl y ↦ (let s : Some n ≡ Some m = sym (ap (λ t. cond t (Some n) (first (is_box b) ns)) y) ∙ e in let x : n ≡ m = cc in (inl x, ap (λ (z : Node). z.id) (sym x) ∙ eqb-true n.id b y))
      | inr f ↦ (let x = found-in ns m (sym (ap (λ t. cond t (Some n) (first (is_box b) ns)) f) ∙ e) in (inr x.0, x.1))
    ]

    at : (o : Option Node) → first (is_box b) boxes ≡ o → magic_found o ≡ true → (m : Node) × (In m boxes × ((m.id ≡ b) × (is_magic m.parts.role ≡ true)))
    at None e k = absurd (let z : ⊥ = cc in z)
    at (Some m) e k = let x = found-in boxes m e in (m, (x.0, (x.1, k)))

-- ---- in a well-formed graph

module _ (g : QueryGraph) (once : EachOnce (numbers g.boxes)) (w : WellFormed g) where
  abbrev bs : List Node
  bs = g.boxes

  abbrev o : Ordered g.boxes
  o = well-ordered g once w

  -- an owner of a quantifier is its one owner
  one-owner : (q : ℕ) (n m : Node) → In n bs → In m bs → owns q n ≡ true → owns q m ≡ true → n ≡ m
  one-owner q n m x y h k =
      let a = owns-in q n h in
      let b = owns-in q m k in
      let u : times q (ids_in bs) ≡ 1 = subst (λ z. times z (ids_in bs) ≡ 1) a.1.1 (w.kept I2 n x a.0 a.1.0) in
      times-once ids_of q n m bs (omega (arith, u)) x y
      (subst (λ z. 1 ≤ times z (ids_of n)) a.1.1 (in-times (λ (r : OwnedQuant). r.id) a.0 n.quants a.1.0))
      (subst (λ z. 1 ≤ times z (ids_of m)) b.1.1 (in-times (λ (r : OwnedQuant). r.id) b.0 m.quants b.1.0))

  -- what is seen is shown or seen above
  sees-cases : (b q : ℕ) → Sees bs b q → (n : Node) × ((r : OwnedQuant) × (In n bs × (In r n.quants × ((r.over ≡ b) × (Shows n r q ⊎ Sees bs n.id q)))))
  sees-cases b q (shown n r p x y s) = (n, (r, (x, (y, (refl, inl s)))))
  sees-cases b q (seen n r p x y s) = (n, (r, (x, (y, (refl, inr s)))))

  shows-owns : (n : Node) (r : OwnedQuant) (q : ℕ) → Shows n r q → owns q n ≡ true
  shows-owns n r q s =
      let before = s.1.0 in let split = s.1.1.1.0 in
      elim (cases_Bool (is_F r.kind)) [
        | inl f ↦ (
            let x = row-owns q before (sym (ap (λ t. is_row q (cond t before n.quants)) f) ∙ s.1.1.1.1) in
            subst (λ z. owns z n ≡ true) x.1.1.0 (in-owns x.0 n (subst (λ (z : List OwnedQuant). In x.0 z) (sym split) (in-left x.0 before (r ∷ s.1.1.0) x.1.0))))
        | inr f ↦ (
            let x = row-owns q n.quants (sym (ap (λ t. is_row q (cond t before n.quants)) f) ∙ s.1.1.1.1) in
            subst (λ z. owns z n ≡ true) x.1.1.0 (in-owns x.0 n x.1.0))
      ]

  -- what is seen is owned above
  sees-above : (b q : ℕ) → Sees bs b q → (n : Node) × (In n bs × ((owns q n ≡ true) × (place bs n.id < place bs b)))
  sees-above b q (shown n r p x y s) = (n, (x, (shows-owns n r p s, place-under bs n r o x y)))
  sees-above b q (seen n r p x y s) = let u = sees-above n.id p s in (u.0, (u.1.0, (u.1.1.0, (let a = u.1.1.1 in let c = place-under bs n r o x y in omega (arith, a, c)))))

  reach-place : (b c : ℕ) → Reaches bs b c → place bs b ≤ place bs c
  reach-place b c (itself x) = omega arith
  reach-place b c (through n r x y z h) = let a = reach-place r.over x h in let d = place-under bs n r o y z in omega (arith, a, d)

  reach-then : (b c d : ℕ) → Reaches bs b c → Reaches bs c d → Reaches bs b d
  reach-then b c d (itself x) k = k
  reach-then b c d (through n r x y z h) k = through n r d y z (reach-then r.over x d h k)

  under : (n : Node) (r : OwnedQuant) → In n bs → In r n.quants → Reaches bs n.id r.over
  under n r x y = through n r r.over x y (itself r.over)

  -- a box that is open isn't the root, and has one quantifier over it
  not-root : (n : Node) → In n bs → IsOpen bs n.id → n.id ≡ g.root → ⊥
  not-root = fed-shapes.not-root g once w

  pub used-once : (n : Node) → In n bs → IsOpen bs n.id → times n.id (overs_in bs) ≡ 1
  used-once = fed-shapes.used-once g once w

  box-under : (n : Node) (r : OwnedQuant) → In n bs → In r n.quants → (m : Node) × (In m bs × (m.id ≡ r.over))
  box-under n r x y = has-in r.over bs ((w.kept I1 n x).0 r y)

  one-parent : (c : ℕ) (n m : Node) (r s : OwnedQuant) → times c (overs_in bs) ≡ 1 → In n bs → In m bs → In r n.quants → In s m.quants → r.over ≡ c → s.over ≡ c → n ≡ m
  one-parent c n m r s u x y k l e f =
      times-once overs_of c n m bs (omega (arith, u)) x y
      (subst (λ z. 1 ≤ times z (overs_of n)) e (in-times (λ (r : OwnedQuant). r.over) r n.quants k))
      (subst (λ z. 1 ≤ times z (overs_of m)) f (in-times (λ (r : OwnedQuant). r.over) s m.quants l))

  -- what is seen in a box that b reaches, and owned by no box that b reaches, is seen in b
  up : (b y q : ℕ) → Reaches bs b y → ((n : Node) → In n bs → Reaches bs b n.id → owns q n ≡ false) → NamedBelow bs y q → Sees bs y q → Sees bs b q
  up b y q (itself x) none named s = s
  up b y q (through n r x i j h) none named s =
      let within : Sees bs r.over q = up r.over x q h (λ m u v. none m u (through n r m.id i j v)) named s in
      let free : IsFree bs r.over q = ((named.0, (named.1.0, (reach-then r.over x named.0.id h named.1.1.0, named.1.1.1))), λ m u v. none m u (through n r m.id i j v)) in
      let m = box-under n r i j in
      let u : times r.over (overs_in bs) ≡ 1 = subst (λ z. times z (overs_in bs) ≡ 1) m.1.1 (used-once m.0 m.1.0 (q, subst (λ z. IsFree bs z q) (sym m.1.1) free)) in
      let c = sees-cases r.over q within in
      let same : c.0 ≡ n = one-parent r.over c.0 n c.1.0 r u c.1.1.0 i c.1.1.1.0 j c.1.1.1.1.0 refl in
      elim c.1.1.1.1.1 [
        | inl v ↦ absurd (clash (owns q n) (subst (λ (z : Node). owns q z ≡ true) same (shows-owns c.0 c.1.0 q v)) (none n i (itself n.id)))
        | inr v ↦ subst (λ (z : Node). Sees bs z.id q) same v
      ]

  -- what is free in a box is seen in it
  free-seen : (c q : ℕ) → IsFree bs c q → Sees bs c q
  free-seen c q f =
      let y = f.0.0 in
      elim ((w.kept I6 y f.0.1.0).0 q f.0.1.1.1) [
        | inl v ↦ absurd (clash (owns q y) v (f.1 y f.0.1.0 f.0.1.1.0))
        | inr v ↦ up c y.id q f.0.1.1.0 f.1 (y, (f.0.1.0, (itself y.id, f.0.1.1.1))) v
      ]

  -- an owner in which nothing is free shows it
  shown-by : (n : Node) (r : OwnedQuant) → In n bs → In r n.quants → Closed bs n.id → (q : ℕ) → IsFree bs r.over q → (s : OwnedQuant) × (In s n.quants × ((s.over ≡ r.over) × Shows n s q))
  shown-by n r x y closed q f =
      let m = box-under n r x y in
      let u : times r.over (overs_in bs) ≡ 1 = subst (λ z. times z (overs_in bs) ≡ 1) m.1.1 (used-once m.0 m.1.0 (q, subst (λ z. IsFree bs z q) (sym m.1.1) f)) in
      let c = sees-cases r.over q (free-seen r.over q f) in
      let same : c.0 ≡ n = one-parent r.over c.0 n c.1.0 r u c.1.1.0 x c.1.1.1.0 y c.1.1.1.1.0 refl in
      elim c.1.1.1.1.1 [
        | inl v ↦ (c.1.0, (subst (λ (z : Node). In c.1.0 z.quants) same c.1.1.1.0, (c.1.1.1.1.0, subst (λ (z : Node). Shows z c.1.0 q) same v)))
        | inr v ↦ absurd (closed q (free-above (subst (λ (z : Node). Sees bs z.id q) same v)))
      ]
    where
      not-below : Sees bs n.id q → (m : Node) → In m bs → Reaches bs n.id m.id → owns q m ≡ false
      not-below v m j k = elim (cases_Bool (owns q m)) [
        | inr z ↦ z
        | inl t ↦ absurd (
            let a = sees-above n.id q v in
            let e : a.0 ≡ m = one-owner q a.0 m a.1.0 j a.1.1.0 t in
            let p = a.1.1.1 in let d = reach-place n.id m.id k in
            let z : place bs a.0.id ≡ place bs m.id = ap (λ (z : Node). place bs z.id) e in
            omega (arith, p, d, z))
      ]

      free-above : Sees bs n.id q → IsFree bs n.id q
      free-above v = ((f.0.0, (f.0.1.0, (reach-then n.id r.over f.0.0.id (under n r x y) f.0.1.1.0, f.0.1.1.1))), not-below v)

  pub shape-kind : (n : Node) → In n bs → kind_fits g.root bs n n.parts.kind ≡ true
  shape-kind = fed-shapes.shape-kind g once w

  fed-is : (n : Node) → In n bs → n.parts.kind ≡ Select → n.parts.role ≡ Fed → shape.is_fed g.root bs n ≡ true
  fed-is = fed-shapes.fed-is g once w

  pub fed-shape : (n : Node) → In n bs → n.parts.kind ≡ Select → n.parts.role ≡ Fed → FedShape bs n
  fed-shape = fed-shapes.fed-shape g once w

  -- ---- what is calm

  module _ (known : Facts) (tells : Tells known g.boxes) (quiet : calm g.boxes known g.root ≡ true) (few : AreFew g.boxes) where
    calm-at : (n : Node) → In n bs → calm_box bs known g.root n ≡ true
    calm-at n x = all-in (calm_box bs known g.root) n bs quiet x

    -- a box under a quantifier is clean
    clean-under : (n : Node) (r : OwnedQuant) → In n bs → In r n.quants → known.clean r.over ≡ true
    clean-under n r x y =
        let m = box-under n r x y in
        let a = and_parts (clean_below bs known g.root m.0 && list_all (calm_column bs known m.0) (columns_of m.0)) (list_all (calm_scalar bs known) m.0.quants && (not (is_magic m.0.parts.role) || calm_magic bs known m.0)) (calm-at m.0 m.1.0) in
        let b = and_parts (clean_below bs known g.root m.0) (list_all (calm_column bs known m.0) (columns_of m.0)) a.0 in
        elim (cases_Bool (m.0.id == g.root)) [
          | inr f ↦ subst (λ z. known.clean z ≡ true) m.1.1 (sym (ap (λ t. t || known.clean m.0.id) f) ∙ b.0)
          | inl t ↦ absurd (
              let e : m.0.id ≡ g.root = eqb-true m.0.id g.root t in
              let none : times g.root (overs_in bs) ≡ 0 = (w.kept I7 m.0 m.1.0).0 e in
              let some : 1 ≤ times r.over (overs_of n) = in-times (λ (r : OwnedQuant). r.over) r n.quants y in
              let all = times-in overs_of r.over n bs x in
              let same : r.over ≡ g.root = sym m.1.1 ∙ e in
              let zero : times r.over (overs_in bs) ≡ 0 = ap (λ z. times z (overs_in bs)) same ∙ none in
              omega (arith, some, all, zero))
        ]

    -- a column that another box than the owner names is error-free
    column-free : (n : Node) (c : Column) → In n bs → In c (columns_of n) → owns c.quant n ≡ false → error_free_under bs known c.quant c.place ≡ true
    column-free n c x y z =
        let a = and_parts (clean_below bs known g.root n && list_all (calm_column bs known n) (columns_of n)) (list_all (calm_scalar bs known) n.quants && (not (is_magic n.parts.role) || calm_magic bs known n)) (calm-at n x) in
        let b = and_parts (clean_below bs known g.root n) (list_all (calm_column bs known n) (columns_of n)) a.0 in
        sym (ap (λ t. t || error_free_under bs known c.quant c.place) z) ∙ all-in (calm_column bs known n) c (columns_of n) b.1 y

    -- a scalar is calm
    scalar-calm : (n : Node) (r : OwnedQuant) → In n bs → In r n.quants → is_S r.kind ≡ true → IsOpen bs r.over → (known.error_free r.over 1 || known.at_most_one r.over) ≡ true
    scalar-calm n r x y s f =
        let a = and_parts (clean_below bs known g.root n && list_all (calm_column bs known n) (columns_of n)) (list_all (calm_scalar bs known) n.quants && (not (is_magic n.parts.role) || calm_magic bs known n)) (calm-at n x) in
        let b = and_parts (list_all (calm_scalar bs known) n.quants) (not (is_magic n.parts.role) || calm_magic bs known n) a.1 in
        let c : calm_scalar bs known r ≡ true = all-in (calm_scalar bs known) r n.quants b.0 y in
        let d : (is_closed bs r.over || (known.at_most_one r.over || known.error_free r.over 1)) ≡ true = sym (ap (λ t. not t || (is_closed bs r.over || (known.at_most_one r.over || known.error_free r.over 1))) s) ∙ c in
        swapped (known.at_most_one r.over) (known.error_free r.over 1) (elim (cases_Bool (is_closed bs r.over)) [
          | inl t ↦ absurd (closed-is bs o r.over t f.0 f.1)
          | inr e ↦ sym (ap (λ t. t || (known.at_most_one r.over || known.error_free r.over 1)) e) ∙ d
        ])
      where
        swapped : (a b : Bool) → (a || b) ≡ true → (b || a) ≡ true
        swapped true true h = refl
        swapped true false h = refl
        swapped false true h = refl
        swapped false false h = h

    magic-calm : (n : Node) → In n bs → is_magic n.parts.role ≡ true → calm_magic bs known n ≡ true
    magic-calm n x s =
        let a = and_parts (clean_below bs known g.root n && list_all (calm_column bs known n) (columns_of n)) (list_all (calm_scalar bs known) n.quants && (not (is_magic n.parts.role) || calm_magic bs known n)) (calm-at n x) in
        let b = and_parts (list_all (calm_scalar bs known) n.quants) (not (is_magic n.parts.role) || calm_magic bs known n) a.1 in
        sym (ap (λ t. not t || calm_magic bs known n) s) ∙ b.1

    magic-closed : (n : Node) → In n bs → is_magic n.parts.role ≡ true → Closed bs n.id
    magic-closed n x s = closed-is bs o n.id (and_parts (is_closed bs n.id) (all_under (is_closed bs) n.quants && all_places (width n) (known.error_free n.id)) (magic-calm n x s)).0

    -- ---- fed boxes

    -- a fed box is closed
    fed-closed : (n : Node) → In n bs → n.parts.kind ≡ Select → n.parts.role ≡ Fed → Closed bs n.id
    fed-closed n x k e q f =
        let s = fed-shape n x k e in
        let in-a : In s.a n.quants = subst (λ (z : List OwnedQuant). In s.a z) (sym s.quants) (inl refl) in
        let in-r : In s.r n.quants = subst (λ (z : List OwnedQuant). In s.r z) (sym s.quants) (inr (inl refl)) in
        let own : owns q n ≡ false = f.1 n x (itself n.id) in
        below s in-a in-r own (cases-of s n.id f.0.0.id refl f.0.1.1.0)
      where
        cases-of : FedShape bs n → (b y : ℕ) → b ≡ n.id → Reaches bs b y → (y ≡ n.id) ⊎ ((r : OwnedQuant) × (In r n.quants × Reaches bs r.over y))
        cases-of s b y e (itself z) = inl e
        cases-of s b y e (through m r z i j h) = inr (r, (subst (λ (z : Node). In r z.quants) (same-box bs m n o i x e) j, h))

        free-below : (r : OwnedQuant) → In r n.quants → Reaches bs r.over f.0.0.id → IsFree bs r.over q
        free-below r j h = ((f.0.0, (f.0.1.0, (h, f.0.1.1.1))), λ m u v. f.1 m u (through n r m.id x j v))

        heads-own : (s : FedShape bs n) → In s.a n.quants → In s.r n.quants → owns q n ≡ false → list_all is_column n.parts.head ≡ true → same_columns (flat_map columns_in n.parts.head) (columns_through bs s.a ++ columns_through bs s.r) ≡ true
            → (holds q (flat_map names_in n.parts.head) ≡ true) ⊎ (holds q (flat_map names_in_cond n.parts.conds.items) ≡ true) → ⊥
        heads-own s ia ir own cs same (inl h) =
            let c = head-named n.parts.head q cs h in
            let d = same-quant (flat_map columns_in n.parts.head) (columns_through bs s.a ++ columns_through bs s.r) same (record { quant = q; place = c.0 }) c.1 in
            elim (in-append d.0 (columns_through bs s.a) (columns_through bs s.r) d.1.0) [
              | inl z ↦ clash (owns q n) (subst (λ z. owns z n ≡ true) (sym (d.1.1 ∙ from-quant s.a.id 1 (width_found (first (is_box s.a.over) bs)) d.0 z)) (in-owns s.a n ia)) own
              | inr z ↦ clash (owns q n) (subst (λ z. owns z n ≡ true) (sym (d.1.1 ∙ from-quant s.r.id 1 (width_found (first (is_box s.r.over) bs)) d.0 z)) (in-owns s.r n ir)) own
            ]
        heads-own s ia ir own cs same (inr h) =
            let m = and_parts (not (n.id == g.root) && is_preserve n.parts.distinct && is_none n.parts.conds.items) (fed_by bs n.parts.head n.quants) (fed-is n x k e) in
            let m1 = and_parts (not (n.id == g.root) && is_preserve n.parts.distinct) (is_none n.parts.conds.items) m.0 in
            no-conds n.parts.conds.items m1.1 h
          where
            no-conds : (cs : List t.Cond) → is_none cs ≡ true → holds q (flat_map names_in_cond cs) ≡ true → ⊥
            no-conds [] u v = let z : ⊥ = cc in z
            no-conds (c ∷ cs) u v = let z : ⊥ = cc in z

        below : (s : FedShape bs n) → In s.a n.quants → In s.r n.quants → owns q n ≡ false → (f.0.0.id ≡ n.id) ⊎ ((r : OwnedQuant) × (In r n.quants × Reaches bs r.over f.0.0.id)) → ⊥
        below s ia ir own (inl same) =
            let y : f.0.0 ≡ n = same-box bs f.0.0 n o f.0.1.0 x same in
            let named : holds q (named_by n) ≡ true = subst (λ (z : Node). holds q (named_by z) ≡ true) y f.0.1.1.1 in
            let h = and_parts (list_all is_column n.parts.head) (same_columns (flat_map columns_in n.parts.head) (columns_through bs s.a ++ columns_through bs s.r)) s.heads in
            heads-own s ia ir own h.0 h.1 (any-split (λ m. m == q) (flat_map names_in n.parts.head) (flat_map names_in_cond n.parts.conds.items) named)
        below s ia ir own (inr (r, (j, h))) = elim (subst (λ (z : List OwnedQuant). In r z) s.quants j) [
          | inl e ↦ (
              let m = magic-in bs s.a.over s.magic in
              magic-closed m.0 m.1.0 m.1.1.1 q (subst (λ z. IsFree bs z q) (ap (λ (z : OwnedQuant). z.over) (sym e) ∙ sym m.1.1.0) (free-below r j h)))
          | inr e' ↦ elim e' [
            | inr z ↦ elim z [ ]
            | inl e ↦ (
                let fr : IsFree bs s.r.over q = subst (λ (z : OwnedQuant). IsFree bs z.over q) (sym e) (free-below r j h) in
                let p : q ≡ s.a.id = only-first s.a.id (free_in bs s.r.over) s.alone q ((free-free bs o s.r.over q).1 fr) in
                clash (owns q n) (subst (λ z. owns z n ≡ true) (sym p) (in-owns s.a n ia)) own)
          ]
        ]

    -- ---- what absorbs an open box under a fed one

    -- a sentence infers that a box is clean
    clean-is : (c : Node) → In c bs → known.clean c.id ≡ true → clean_by bs known c.parts.kind c ≡ true
    clean-is c x h =
        let f : says (inferred_once bs known) (inf.clean c.id) ≡ true = founded bs known tells (inf.clean c.id) ((tells (inf.clean c.id)).0 h) in
        sym (ap (of_box false (λ (n : Node). clean_by bs known n.parts.kind n)) (first-box bs c o x)) ∙ f

    none-list : {X : Type 0} (xs : List X) → is_none xs ≡ true → xs ≡ []
    none-list [] h = refl
    none-list (x ∷ xs) h = absurd (let z : ⊥ = cc in z)

    base-closed : (c : Node) → In c bs → shape.is_base c ≡ true → IsOpen bs c.id → ⊥
    base-closed c x b f =
        let p1 = and_parts (is_none c.quants && is_none c.parts.conds.items && is_none c.parts.head) _ b in
        let p2 = and_parts (is_none c.quants && is_none c.parts.conds.items) (is_none c.parts.head) p1.0 in
        let p3 = and_parts (is_none c.quants) (is_none c.parts.conds.items) p2.0 in
        at (none-list c.quants p3.0) (none-list c.parts.head p2.1) (none-list c.parts.conds.items p3.1) c.id f.1.0.0.id refl f.1.0.1.1.0 refl
      where
        at : c.quants ≡ [] → c.parts.head ≡ [] → c.parts.conds.items ≡ [] → (b y : ℕ) → b ≡ c.id → Reaches bs b y → y ≡ f.1.0.0.id → ⊥
        at q h cs b y e (itself z) k =
            let same : f.1.0.0 ≡ c = same-box bs f.1.0.0 c o f.1.0.1.0 x (sym k ∙ e) in
            let named : holds f.0 (named_by c) ≡ true = subst (λ (z : Node). holds f.0 (named_by z) ≡ true) same f.1.0.1.1.1 in
            let none : named_by c ≡ [] = ap₂ (λ (u : List Term) (v : List t.Cond). flat_map names_in u ++ flat_map names_in_cond v) h cs in
            let z : holds f.0 [] ≡ true = subst (λ xs. holds f.0 xs ≡ true) none named in
            (let w : ⊥ = cc in w)
        at q h cs b y e (through m r z i j d) k =
            let same : m ≡ c = same-box bs m c o i x e in
            elim (subst (λ (z : List OwnedQuant). In r z) q (subst (λ (z : Node). In r z.quants) same j)) [ ]

    absorbs-by : (c : Node) → In c bs → IsOpen bs c.id → known.clean c.id ≡ true → (k : BoxKind) → c.parts.kind ≡ k → AbsorbsBy bs known k c
    absorbs-by c x f h (Base table) e =
        base-closed c x (subst (λ z. kind_fits g.root bs c z ≡ true) e (shape-kind c x)) f
    absorbs-by c x f h Select e = role-is c.parts.role refl
      where
        role-is : (r : Role) → c.parts.role ≡ r → c.parts.role ≡ Plain
        role-is Plain s = s
        role-is Magic s = absurd (magic-closed c x (ap is_magic s) f.0 f.1)
        role-is Fed s = absurd (fed-closed c x e s f.0 f.1)
    absorbs-by c x f h (Group keys) e = (subst (λ z. clean_by bs known z c ≡ true) e (clean-is c x h), few)
    absorbs-by c x f h (SetOp form types) e = (sets form (subst (λ z. clean_by bs known z c ≡ true) e (clean-is c x h)), few)
      where
        sets : (form : SetOperator) → inf.clean_op bs known form (length types) c.quants ≡ true → SetsReady bs known form (length types) c.quants
        sets UnionAll h = tt
        sets Union h = tt
        sets IntersectAll h = h
        sets Intersect h = h
        sets ExceptAll h = h
        sets Except h = h
    absorbs-by c x f h OuterJoin e = few

    -- ---- at a closed owner of an open box

    -- of a select that isn't fed
    feeds : (n : Node) (r : OwnedQuant) → In n bs → n.parts.kind ≡ Select → n.parts.role ≡ Plain → Closed bs n.id → In r n.quants → IsOpen bs r.over
        → (is_S r.kind ≡ true → (known.clean r.over ≡ true) × (known.exactly_one r.over ≡ true))
        → ((p : OwnedQuant) → In p n.quants → is_F p.kind ≡ true → IsFree bs r.over p.id → Closed bs p.over) → MayFeed bs known n r
    feeds n r x k e closed y f s h = record {
      in_b = x;
      a_select = k;
      plain = e;
      closed = closed;
      owned = y;
      opened = f;
      scalar = s;
      fed = λ p u v named. (h p u v (free-of p u named), clean-under n p x u);
      named = λ p u v m c j reach l q. column-free m c j l (subst (λ z. owns z m ≡ false) (sym q) (not-owner p u m j reach));
      few = few;
    }
      where
        not-owner : (p : OwnedQuant) → In p n.quants → (m : Node) → In m bs → Reaches bs r.over m.id → owns p.id m ≡ false
        not-owner p u m j reach = elim (cases_Bool (owns p.id m)) [
          | inr z ↦ z
          | inl t ↦ absurd (
              let same : m ≡ n = one-owner p.id m n j x t (in-owns p n u) in
              let a = reach-place r.over m.id reach in
              let b = place-under bs n r o x y in
              let c : place bs m.id ≡ place bs n.id = ap (λ (z : Node). place bs z.id) same in
              omega (arith, a, b, c))
        ]

        free-of : (p : OwnedQuant) → In p n.quants → NamedBelow bs r.over p.id → IsFree bs r.over p.id
        free-of p u named = (named, λ m j reach. not-owner p u m j reach)

    -- two quantifiers of one box of one number
    same-number : (n : Node) → In n bs → (a b : OwnedQuant) → In a n.quants → In b n.quants → a.id ≡ b.id → a ≡ b
    same-number n x a b u v h =
        let once-in : times b.id (ids_in bs) ≡ 1 = w.kept I2 n x b v in
        let here = times-in ids_of b.id n bs x in
        one-of b.id n.quants (omega (arith, once-in, here)) a b u v h refl
      where
        one-of : (q : ℕ) (rs : List OwnedQuant) → times q (map (λ (r : OwnedQuant). r.id) rs) ≤ 1 → (a b : OwnedQuant) → In a rs → In b rs → a.id ≡ q → b.id ≡ q → a ≡ b
        one-of q [] l a b u v h k = elim u [ ]
        one-of q (r ∷ rs) l a b u v h k =
            let all : cond (r.id == q) 1 0 + times q (map (λ (r : OwnedQuant). r.id) rs) ≤ 1 = l in
            elim u [
              | inl e ↦ elim v [
                | inl d ↦ sym e ∙ d
                | inr j ↦ absurd (two (ap (λ (z : OwnedQuant). z.id) e ∙ h) (subst (λ z. 1 ≤ times z (map (λ (r : OwnedQuant). r.id) rs)) k (in-times (λ (r : OwnedQuant). r.id) b rs j)))
              ]
              | inr j ↦ elim v [
                | inl d ↦ absurd (two (ap (λ (z : OwnedQuant). z.id) d ∙ k) (subst (λ z. 1 ≤ times z (map (λ (r : OwnedQuant). r.id) rs)) h (in-times (λ (r : OwnedQuant). r.id) a rs j)))
                | inr l2 ↦ one-of q rs (omega (arith, all)) a b j l2 h k
              ]
            ]
          where
            two : r.id ≡ q → 1 ≤ times q (map (λ (r : OwnedQuant). r.id) rs) → ⊥
            two e m =
                let one : (r.id == q) ≡ true = eq-eqb r.id q e in
                let n : 1 + times q (map (λ (r : OwnedQuant). r.id) rs) ≤ 1 = subst (λ (t : Bool). cond t 1 0 + times q (map (λ (r : OwnedQuant). r.id) rs) ≤ 1) one l in
                omega (arith, m, n)

    plain-fires : (n : Node) (r : OwnedQuant) → In n bs → n.parts.kind ≡ Select → n.parts.role ≡ Plain → Closed bs n.id → In r n.quants → IsOpen bs r.over → MagicAt bs known n
    plain-fires n r x k e closed y f = elim (first-open bs o n.quants) [
      | inl z ↦ inr (inl (z.r, feeds n z.r x k e closed (subst (λ (xs : List OwnedQuant). In z.r xs) (sym z.split) (in-right z.r z.us (z.r ∷ z.vs) (inl refl))) z.opened (λ s. absurd (f-not-s z.r.kind z.row s)) (λ p u v w'. earlier z p u v w')))
      | inr z ↦ (
          let not_f : is_F r.kind ≡ true → ⊥ = λ t. z r y t f.0 f.1 in
          let all : (p : OwnedQuant) → In p n.quants → is_F p.kind ≡ true → IsFree bs r.over p.id → Closed bs p.over = λ p u v named. z p u v in
          elim (cases_Bool (is_S r.kind)) [
            | inr ns ↦ inr (inl (r, feeds n r x k e closed y f (λ s. absurd (clash (is_S r.kind) s ns)) all))
            | inl s ↦ elim (cases_Bool (known.exactly_one r.over)) [
              | inl one ↦ inr (inl (r, feeds n r x k e closed y f (λ s. (clean-under n r x y, one)) all))
              | inr many ↦ inl (r, record { in_b = x; a_select = k; plain = e; owned = y; is_s = s; not_one = many; safe = scalar-calm n r x y s f; few = few })
            ]
          ])
    ]
      where
        earlier : (z : FirstOpen bs n.quants) → (p : OwnedQuant) → In p n.quants → is_F p.kind ≡ true → IsFree bs z.r.over p.id → Closed bs p.over
        earlier z p u v named =
            let in-r : In z.r n.quants = subst (λ (xs : List OwnedQuant). In z.r xs) (sym z.split) (in-right z.r z.us (z.r ∷ z.vs) (inl refl)) in
            let s = shown-by n z.r x in-r closed p.id named in
            let m = box-under n z.r x in-r in
            let used : times z.r.over (overs_in bs) ≡ 1 = subst (λ b. times b (overs_in bs) ≡ 1) m.1.1 (used-once m.0 m.1.0 (p.id, subst (λ b. IsFree bs b p.id) (sym m.1.1) named)) in
            let here = times-in overs_of z.r.over n bs x in
            let few-over : times z.r.over (map (λ (r : OwnedQuant). r.over) (z.us ++ z.r ∷ z.vs)) ≤ 1 = subst (λ (xs : List OwnedQuant). times z.r.over (map (λ (r : OwnedQuant). r.over) xs) ≤ 1) z.split (omega (arith, used, here)) in
            let sh = s.1.1.1 in
            let same : z.us ≡ sh.1.0 = same-split z.r.over z.us z.r z.vs sh.1.0 s.0 sh.1.1.0 few-over (sym z.split ∙ sh.1.1.1.0) refl s.1.1.0 in
            let q = row-owns p.id (cond (is_F s.0.kind) sh.1.0 n.quants) (row-of (is_F s.0.kind) sh.1.0 sh.1.1.1.1) in
            let s-is : s.0 ≡ z.r = the-same z.us z.r z.vs sh.1.0 s.0 sh.1.1.0 (sym z.split ∙ sh.1.1.1.0) same in
            let t : is_F s.0.kind ≡ true = subst (λ (y : OwnedQuant). is_F y.kind ≡ true) (sym s-is) z.row in
            let inside : In q.0 sh.1.0 = subst (λ b. In q.0 (cond b sh.1.0 n.quants)) t q.1.0 in
            let in-us : In q.0 z.us = subst (λ (xs : List OwnedQuant). In q.0 xs) (sym same) inside in
            let p-is : q.0 ≡ p = same-number n x q.0 p (subst (λ (xs : List OwnedQuant). In q.0 xs) (sym z.split) (in-left q.0 z.us (z.r ∷ z.vs) in-us)) u q.1.1.0 in
            subst (λ (y : OwnedQuant). Closed bs y.over) p-is (z.before q.0 in-us q.1.1.1)
          where
            row-of : (b : Bool) (before : List OwnedQuant) → is_row p.id (cond b before n.quants) ≡ true → is_row p.id (cond b before n.quants) ≡ true
            row-of b before h = h

            the-same : (us : List OwnedQuant) (r : OwnedQuant) (vs us' : List OwnedQuant) (r' : OwnedQuant) (vs' : List OwnedQuant) → us ++ r ∷ vs ≡ us' ++ r' ∷ vs' → us ≡ us' → r' ≡ r
            the-same [] r vs [] r' vs' e h = cc
            the-same [] r vs (u ∷ us') r' vs' e h = absurd (let z : ⊥ = cc in z)
            the-same (u ∷ us) r vs [] r' vs' e h = absurd (let z : ⊥ = cc in z)
            the-same (u ∷ us) r vs (u' ∷ us') r' vs' e h = let e2 : us ++ r ∷ vs ≡ us' ++ r' ∷ vs' = cc in let h2 : us ≡ us' = cc in the-same us r vs us' r' vs' e2 h2

    -- of a fed one
    fed-fires : (n : Node) (r : OwnedQuant) → In n bs → n.parts.kind ≡ Select → n.parts.role ≡ Fed → In r n.quants → IsOpen bs r.over → MayAbsorb bs known n
    fed-fires n r x k e y f =
        let s = fed-shape n x k e in
        let m = magic-in bs s.a.over s.magic in
        let mc = magic-calm m.0 m.1.0 m.1.1.1 in
        let mp = and_parts (is_closed bs m.0.id) (all_under (is_closed bs) m.0.quants && all_places (width m.0) (known.error_free m.0.id)) mc in
        let mq = and_parts (all_under (is_closed bs) m.0.quants) (all_places (width m.0) (known.error_free m.0.id)) mp.1 in
        let in-a : In s.a n.quants = subst (λ (z : List OwnedQuant). In s.a z) (sym s.quants) (inl refl) in
        let second : r ≡ s.r = elim (subst (λ (z : List OwnedQuant). In r z) s.quants y) [
          | inl h ↦ absurd (closed-is bs o m.0.id mp.0 f.0 (subst (λ z. IsFree bs z f.0) (ap (λ (z : OwnedQuant). z.over) (sym h) ∙ sym m.1.1.0) f.1))
          | inr h ↦ elim h [ inl d ↦ sym d | inr z ↦ elim z [ ] ]
        ] in
        let c = box-under n r x y in
        let open-c : IsOpen bs c.0.id = (f.0, subst (λ z. IsFree bs z f.0) (sym c.1.1) f.1) in
        record {
          in_d = x;
          is_fed = e;
          a = s.a;
          r = s.r;
          quants = s.quants;
          m = m.0;
          in_m = m.1.0;
          over_m = m.1.1.0;
          closed = closed-is bs o m.0.id mp.0;
          clean = subst (λ z. known.clean z ≡ true) (sym m.1.1.0) (clean-under n s.a x in-a);
          columns = mq.1;
          c = c.0;
          in_c = c.1.0;
          over_c = c.1.1 ∙ ap (λ (z : OwnedQuant). z.over) second;
          opened = open-c;
          absorbs = absorbs-by c.0 c.1.0 open-c (subst (λ z. known.clean z ≡ true) (sym c.1.1) (clean-under n r x y)) c.0.parts.kind refl;
        }

    -- a closed owner of an open box
    owner-fires : (n : Node) (r : OwnedQuant) → In n bs → In r n.quants → Closed bs n.id → IsOpen bs r.over → MagicAt bs known n
    owner-fires n r x y closed f =
        let s = shown-by n r x y closed f.0 f.1 in
        let k : n.parts.kind ≡ Select = select-is n.parts.kind s.1.1.1.0 in
        role-is k n.parts.role refl
      where
        role-is : n.parts.kind ≡ Select → (z : Role) → n.parts.role ≡ z → MagicAt bs known n
        role-is k Plain e = plain-fires n r x k e closed y f
        role-is k Fed e = inr (inr (fed-fires n r x k e y f))
        role-is k Magic e =
            let mc = magic-calm n x (ap is_magic e) in
            let mp = and_parts (is_closed bs n.id) (all_under (is_closed bs) n.quants && all_places (width n) (known.error_free n.id)) mc in
            let mq = and_parts (all_under (is_closed bs) n.quants) (all_places (width n) (known.error_free n.id)) mp.1 in
            absurd (closed-is bs o r.over (all-in (λ (r : OwnedQuant). is_closed bs r.over) r n.quants mq.0 y) f.0 f.1)

    -- ---- upward

    -- what reaches an open box reaches its owner
    last-owner : (n m : Node) (r : OwnedQuant) → In m bs → In r m.quants → r.over ≡ n.id → times n.id (overs_in bs) ≡ 1 → (m2 : Node) (r2 : OwnedQuant) → In m2 bs → In r2 m2.quants → (c y : ℕ) → Reaches bs c y → r2.over ≡ c → y ≡ n.id → Reaches bs m2.id m.id
    last-owner n m r i j e u m2 r2 i2 j2 c y (itself z) h k =
        let same : m2 ≡ m = one-parent n.id m2 m r2 r u i2 i j2 j (h ∙ k) e in
        subst (λ (z : Node). Reaches bs m2.id z.id) same (itself m2.id)
    last-owner n m r i j e u m2 r2 i2 j2 c y (through m3 r3 z i3 j3 d) h k =
        through m2 r2 m.id i2 j2 (subst (λ z. Reaches bs z m.id) (sym h) (last-owner n m r i j e u m3 r3 i3 j3 r3.over z d refl k))

    reach-up : (n m : Node) (r : OwnedQuant) → In m bs → In r m.quants → r.over ≡ n.id → times n.id (overs_in bs) ≡ 1 → (n.id ≡ g.root → ⊥) → (b y : ℕ) → Reaches bs b y → b ≡ g.root → y ≡ n.id → Reaches bs g.root m.id
    reach-up n m r i j e u top b y (itself z) h k = absurd (top (sym k ∙ h))
    reach-up n m r i j e u top b y (through m2 r2 z i2 j2 d) h k = subst (λ z. Reaches bs z m.id) h (last-owner n m r i j e u m2 r2 i2 j2 r2.over z d refl k)

    abbrev Fires : Node → Type 0
    Fires n = (b : Node) × (MagicAt bs known b × (Reaches bs g.root n.id → Reaches bs g.root b.id))

    above-fires : (n : Node) → In n bs → IsOpen bs n.id → ((m : Node) → In m bs → IsOpen bs m.id → place bs m.id < place bs n.id → Fires m) → Fires n
    above-fires n x f rest =
        let u = used-once n x f in
        let some = times-some overs_of n.id bs (omega (arith, u)) in
        let r = times-map (λ (r : OwnedQuant). r.over) n.id some.0.quants some.1.1 in
        let less = place-under bs some.0 r.0 o some.1.0 r.1.0 in
        let open-r : IsOpen bs r.0.over = (f.0, subst (λ z. IsFree bs z f.0) (sym r.1.1) f.1) in
        let above : Reaches bs g.root n.id → Reaches bs g.root some.0.id = λ h. reach-up n some.0 r.0 some.1.0 r.1.0 r.1.1 u (λ e. not-root n x f e) g.root n.id h refl refl in
        elim (open-or-closed bs o some.0.id) [
          | inr closed ↦ (some.0, (owner-fires some.0 r.0 some.1.0 r.1.0 closed open-r, above))
          | inl opened ↦ (let c = rest some.0 some.1.0 opened (subst (λ z. place bs some.0.id < place bs z) r.1.1 less) in (c.0, (c.1.0, λ h. c.1.1 (above h))))
        ]

    climb : (k : ℕ) (n : Node) → place bs n.id ≤ k → In n bs → IsOpen bs n.id → Fires n
    climb zero n l x f = above-fires n x f (λ m j d p. absurd (let z : ⊥ = omega (arith, l, p) in z))
    climb (suc k) n l x f = above-fires n x f (λ m j d p. climb k m (omega (arith, l, p)) j d)

    pub fires : (n : Node) → In n bs → IsOpen bs n.id → (b : Node) × (MagicAt bs known b × (Reaches bs g.root n.id → Reaches bs g.root b.id))
    fires n x f = climb (place bs n.id) n (omega arith) x f

pub calm-fires : CalmFires
calm-fires = λ g once w known tells quiet few n x f. fires g once w known tells quiet few n x f
