-- Types agree where a column that no box names goes.
use Rattle.std.proofs.Common.{ℕ, zero, suc, ◌==◌, ◌≡◌, ◌&&◌, ◌-◌, ◌≤◌, ◌<◌, nat_lt, cond, Bool, true, false, List, [], ◌∷◌, map, length, Option, Some, None, refl, sym, ap, ap₂, subst, ◌∙◌, eqb-true, ◌⊎◌, inl, inr, arith}
use Rattle.std.specs.Prelude.{slice_get}
use Rattle.std.specs.List.{list_all, remove}
use Rattle.std.proofs.lemmas.Bool.{and_from, and_parts, cases_Bool, eq-eqb, ltb-false, ltb-true}
use Rattle.sql_value.specs.declared.order_key.SqlType.{SqlType}
use Rattle.qgm_core.specs.declared.kinds.BoxKind.{BoxKind}
use Rattle.qgm_core.specs.declared.kinds.BoxKind.TheVariants.{Base, Select, Group, SetOp, OuterJoin}
use Rattle.qgm_core.specs.declared.node.Node.{Node}
use Rattle.qgm_core.specs.declared.owned.OwnedQuant.{OwnedQuant}
use Rattle.qgm_core.specs.Edits.{shift_node, without_cell}
use Rattle.qgm_core.specs.Free.{named_by}
use Rattle.list_laws.specs.Lists.{In, holds, times}
use Rattle.qgm_terms.specs.Shift.{shifted, shifted_arms, shifted_cond, shifted_place}
use Rattle.qgm_terms.specs.Terms as t
use Rattle.qgm_terms.specs.Terms.{Arms, Cond, Term}
use Rattle.qgm_terms.specs.Wanted.{any_in, any_in_cond}
use Rattle.qgm_wellformed.specs.Columns.{box_under}
use Rattle.qgm_wellformed.specs.Types.{Lookup, agree, aggregate_type, all_agree, arm_agrees, arms_agree, arms_fit, cond_fits, integer_if, is_integer, is_known, joined_column, known, lookup_of, op_type, sign_fits, term_type, type_if, types_by, types_of}
use Rattle.qgm_edit_laws.specs.Changes.{LosesColumn, is_set_op}
use Rattle.qgm_edit_laws.specs.FormedAdds.{column_of, of_column, types_asked}
use Rattle.qgm_edit_laws.specs.FormedColumn.{DropColumnTyped, Unasked}
use Rattle.qgm_edit_laws.specs.Graph.{BareBy, Sound}
use Rattle.qgm_edit_laws.specs.Reforms.{types_at}
use Rattle.qgm_edit_laws.specs.Shaped.{Typed}
use Rattle.qgm_edit_laws.proofs.Column as c
use Rattle.qgm_edit_laws.proofs.Column.{place-goes, place-stays, place_each, shift_each}
use Rattle.qgm_edit_laws.proofs.Follow.{all-alike, settled-types}
use Rattle.qgm_edit_laws.proofs.InterposedForms.{asked-named}
use Rattle.qgm_edit_laws.proofs.PairLocal.{agrees-pair, head-pair}
use Rattle.qgm_edit_laws.proofs.Ranks.{same-box}
use Rattle.qgm_edit_laws.proofs.TypedKept.{found, found-under}
use Rattle.qgm_edit_laws.proofs.TypesBy.{Types, agrees_by, arms_by, found_by, looked, typed-by, via}
use Rattle.list_laws.proofs.Membership.{eq-itself, in-map, map-in}
use Rattle.list_laws.proofs.Booleans.{clash}

-- ---- the types of shifted expressions, by the places that their columns had

module _ (at : Lookup) (p k : ℕ) (one : 1 ≤ k) where
  abbrev other : Lookup
  other r j = at r (shifted_place p k r j)

  place-one : (r : ℕ) → 1 ≡ shifted_place p k r 1
  place-one r = elim (cases_Bool (nat_lt k 1)) [
    | inl l ↦ absurd (let a = ltb-true k 1 l in omega arith)
    | inr f ↦ sym (ap (λ (z : Bool). cond ((r == p) && z) (1 - 1) 1) f ∙ none (r == p))
  ]
    where
      none : (b : Bool) → ◌≡◌ {A = ℕ} (cond (b && false) (1 - 1) 1) 1
      none true = refl
      none false = refl

  mutual
    term-shifted : (x : Term) → term_type at (shifted p k x) ≡ term_type other x
    term-shifted (t.int n) = refl
    term-shifted (t.text s) = refl
    term-shifted t.null_int = refl
    term-shifted t.null_text = refl
    term-shifted (t.col r j) = refl
    term-shifted (t.scalar r) = ap (at r) (place-one r)
    term-shifted (t.both op x y) = ap₂ (op_type op) (term-shifted x) (term-shifted y)
    term-shifted (t.minus_of x) = ap (λ z. integer_if (is_integer z)) (term-shifted x)
    term-shifted (t.choose s x) = ap₂ type_if (arms-shifted s (term_type at (shifted p k x)) (term_type other x) (term-shifted x)) (term-shifted x)
    term-shifted t.count_all = refl
    term-shifted (t.fold a e x) = ap (aggregate_type a) (term-shifted x)

    arms-shifted : (s : Arms) (a b : Option SqlType) → a ≡ b → arms_fit at a (shifted_arms p k s) ≡ arms_fit other b s
    arms-shifted t.no_arm a b e = refl
    arms-shifted (t.arm c x s) a b e = ap₂ ◌&&◌ (cond-shifted c) (ap₂ ◌&&◌ (ap₂ agree (term-shifted x) e) (arms-shifted s a b e))

    cond-shifted : (c : Cond) → cond_fits at (shifted_cond p k c) ≡ cond_fits other c
    cond-shifted t.always = refl
    cond-shifted (t.compare sign x y) = ap₂ (sign_fits sign) (term-shifted x) (term-shifted y)
    cond-shifted (t.is_null x) = ap is_known (term-shifted x)
    cond-shifted (t.and c d) = ap₂ ◌&&◌ (cond-shifted c) (cond-shifted d)
    cond-shifted (t.or c d) = ap₂ ◌&&◌ (cond-shifted c) (cond-shifted d)
    cond-shifted (t.not c) = cond-shifted c
    cond-shifted (t.some r c) = cond-shifted c
    cond-shifted (t.every r c) = cond-shifted c

  heads-shifted : (xs : List Term) → map (term_type at) (map (shifted p k) xs) ≡ map (term_type other) xs
  heads-shifted [] = refl
  heads-shifted (x ∷ xs) = ap₂ (λ (y : Option SqlType) (ys : List (Option SqlType)). y ∷ ys) (term-shifted x) (heads-shifted xs)

  known-shifted : (xs : List Term) → list_all (λ x. is_known (term_type at x)) (map (shifted p k) xs) ≡ list_all (λ x. is_known (term_type other x)) xs
  known-shifted [] = refl
  known-shifted (x ∷ xs) = ap₂ ◌&&◌ (ap is_known (term-shifted x)) (known-shifted xs)

  conds-shifted : (cs : List Cond) → list_all (cond_fits at) (map (shifted_cond p k) cs) ≡ list_all (cond_fits other) cs
  conds-shifted [] = refl
  conds-shifted (x ∷ xs) = ap₂ ◌&&◌ (cond-shifted x) (conds-shifted xs)

  kind-shifted : (n : BoxKind) (xs : List Term) → types_by at n (map (shifted p k) xs) ≡ types_by other n xs
  kind-shifted (Base table) xs = refl
  kind-shifted Select xs = heads-shifted xs
  kind-shifted (Group keys) xs = heads-shifted xs
  kind-shifted (SetOp form types) xs = refl
  kind-shifted OuterJoin xs = heads-shifted xs

module _ (k : ℕ) (one : 1 ≤ k) (T : Types) where
  abbrev placed : Lookup → List ℕ → Lookup
  placed at qs r j = at r (place_each k qs r j)

  each-types : (qs : List ℕ) (at : Lookup) (n : Node) → types_by at (shift_each k qs n).parts.kind (shift_each k qs n).parts.head ≡ types_by (placed at qs) n.parts.kind n.parts.head
  each-types [] at n = refl
  each-types (p ∷ qs) at n = each-types qs at (shift_node k p n) ∙ kind-shifted (placed at qs) p k one n.parts.kind n.parts.head

  each-agrees : (qs : List ℕ) (at : Lookup) (n : Node) → agrees_by at T (shift_each k qs n) ≡ agrees_by (placed at qs) T n
  each-agrees [] at n = refl
  each-agrees (p ∷ qs) at n = each-agrees qs at (shift_node k p n)
      ∙ ap₂ ◌&&◌ (known-shifted (placed at qs) p k one n.parts.head) (ap (λ z. z && arms_by T n.parts.kind n.quants) (conds-shifted (placed at qs) p k one n.parts.conds.items))

-- ---- a table of types that lacks a column

get-below : (ts : List (Option SqlType)) (i j : ℕ) → j < i → slice_get (remove ts i) j ≡ slice_get ts j
get-below [] zero j h = refl
get-below [] (suc i) j h = refl
get-below (x ∷ ts) zero j h = absurd (omega arith)
get-below (x ∷ ts) (suc i) zero h = refl
get-below (x ∷ ts) (suc i) (suc j) h = get-below ts i j (omega arith)

get-above : (ts : List (Option SqlType)) (i j : ℕ) → i ≤ j → slice_get (remove ts i) j ≡ slice_get ts (suc j)
get-above [] zero j h = refl
get-above [] (suc i) j h = refl
get-above (x ∷ ts) zero j h = refl
get-above (x ∷ ts) (suc i) zero h = absurd (omega arith)
get-above (x ∷ ts) (suc i) (suc j) h = get-above ts i j (omega arith)

positive : (j : ℕ) → (j == 0) ≡ false → 1 ≤ j
positive zero f = absurd (let z : ⊥ = cc in z)
positive (suc j) f = omega arith

not-zero : (j : ℕ) → 1 ≤ j → (j == 0) ≡ false
not-zero j h = elim (cases_Bool (j == 0)) [ inr f ↦ f | inl u ↦ absurd (let e : j ≡ 0 = eqb-true j 0 u in omega arith) ]

strict : (j k : ℕ) → (j == k) ≡ false → j ≤ k → j < k
strict j k f l = elim (cases_Bool (nat_lt j k)) [ inl u ↦ ltb-true j k u | inr u ↦ absurd (let a = ltb-false j k u in let e : j ≡ k = omega arith in clash (j == k) (eq-eqb j k e) f) ]

column-get : (ts : List (Option SqlType)) (j : ℕ) → (j == 0) ≡ false → column_of ts j ≡ joined_column (slice_get ts (j - 1))
column-get ts j f = ap (λ (z : Bool). cond {A = Option SqlType} z None (joined_column (slice_get ts (j - 1)))) f

column-less : (ts : List (Option SqlType)) (k j : ℕ) → 1 ≤ k → (j == k) ≡ false → column_of (remove ts (k - 1)) (cond (nat_lt k j) (j - 1) j) ≡ column_of ts j
column-less ts k j one ne = elim (cases_Bool (nat_lt k j)) [
  | inl l ↦ (
      let less = ltb-true k j l in
      let e : suc (j - 1 - 1) ≡ j - 1 = omega arith in
      ap (λ (z : Bool). column_of (remove ts (k - 1)) (cond z (j - 1) j)) l ∙ column-get (remove ts (k - 1)) (j - 1) (not-zero (j - 1) (omega arith))
      ∙ ap joined_column (get-above ts (k - 1) (j - 1 - 1) (omega arith) ∙ ap (slice_get ts) e) ∙ sym (column-get ts j (not-zero j (omega arith))))
  | inr l ↦ (
      let less = ltb-false k j l in
      ap (λ (z : Bool). column_of (remove ts (k - 1)) (cond z (j - 1) j)) l ∙ (elim (cases_Bool (j == 0)) [
        | inl z ↦ ap (λ (b : Bool). cond {A = Option SqlType} b None (joined_column (slice_get (remove ts (k - 1)) (j - 1)))) z ∙ sym (ap (λ (b : Bool). cond {A = Option SqlType} b None (joined_column (slice_get ts (j - 1)))) z)
        | inr z ↦ (
            let a = positive j z in
            let d = strict j k ne (omega arith) in
            column-get (remove ts (k - 1)) j z ∙ ap joined_column (get-below ts (k - 1) (j - 1) (omega arith)) ∙ sym (column-get ts j z))
      ]))
]

map-less : (f : Term → Option SqlType) (xs : List Term) (i : ℕ) → remove (map f xs) i ≡ map f (remove xs i)
map-less f [] zero = refl
map-less f [] (suc i) = refl
map-less f (x ∷ xs) zero = refl
map-less f (x ∷ xs) (suc i) = ap (λ z. f x ∷ z) (map-less f xs i)

pub all-less : (f : Term → Bool) (xs : List Term) (i : ℕ) → list_all f xs ≡ true → list_all f (remove xs i) ≡ true
all-less f [] zero h = refl
all-less f [] (suc i) h = refl
all-less f (x ∷ xs) zero h = (and_parts (f x) (list_all f xs) h).1
all-less f (x ∷ xs) (suc i) h = let a = and_parts (f x) (list_all f xs) h in and_from (f x) (list_all f (remove xs i)) a.0 (all-less f xs i a.1)

-- ---- the box under a quantifier that a box names, before and after

module _ (bs : List Node) (root : ℕ) (w : Sound bs root) (b : Node) (k : ℕ) (m : LosesColumn bs b k) where
  abbrev g' : Node → Node
  g' = c.g bs root w b k m

  -- its columns keep their places, or it is b, and those behind column k go down by one
  pub record Under (q : ℕ) : Type 0 where
    pub owner : Node
    pub quant : OwnedQuant
    pub box : Node
    pub owner_in : In owner bs
    pub quant_in : In quant owner.quants
    pub is_q : quant.id ≡ q
    pub is_over : box.id ≡ quant.over
    pub before : box_under bs q ≡ Some box
    pub after : box_under (map g' bs) q ≡ Some (g' box)
    pub goes : (((box.id == b.id) ≡ false) × ((j : ℕ) → place_each k (c.qs bs root w b k m) q j ≡ j)) ⊎ ((box ≡ b) × ((j : ℕ) → place_each k (c.qs bs root w b k m) q j ≡ cond (nat_lt k j) (j - 1) j))

  pub under : (y : Node) → In y bs → (q : ℕ) → holds q (named_by y) ≡ true → Under q
  under y i q h =
      let f = found bs root w y i q h in
      let v = c.column-sound bs root w b k m in
      record {
        owner = f.owner;
        quant = f.quant;
        box = f.box;
        owner_in = f.owner_in;
        quant_in = f.quant_in;
        is_q = f.is_q;
        is_over = f.is_over;
        before = found-under bs root w q f;
        after = found-under (map g' bs) root v q (record {
          owner = g' f.owner;
          quant = f.quant;
          box = g' f.box;
          owner_in = map-in g' f.owner bs f.owner_in;
          quant_in = subst (λ z. In f.quant z) (sym (c.g-quants bs root w b k m f.owner)) f.quant_in;
          is_q = f.is_q;
          box_in = map-in g' f.box bs f.box_in;
          is_over = c.g-id bs root w b k m f.box ∙ f.is_over;
        });
        goes = elim (cases_Bool (f.quant.over == b.id)) [
          | inr n ↦ inl (subst (λ z. (z == b.id) ≡ false) (sym f.is_over) n, λ j. place-stays k (c.qs bs root w b k m) q j (subst (λ z. times z (c.qs bs root w b k m) ≡ 0) f.is_q (c.not-over bs root w b k m f.owner f.quant f.owner_in f.quant_in n)))
          | inl n ↦ (
              let over : f.quant.over ≡ b.id = eqb-true f.quant.over b.id n in
              inr (same-box bs f.box b w.ordered f.box_in m.within (f.is_over ∙ over), λ j. place-goes k (c.qs bs root w b k m) q j (subst (λ z. times z (c.qs bs root w b k m) ≡ 1) f.is_q (c.over-b bs root w b k m f.owner f.quant f.owner_in f.quant_in over))))
        ];
      }

  -- where it is b, column k of it isn't asked for
  pub not-asked : Unasked bs b.id k → (y : Node) → In y bs → (q : ℕ) (x : Under q) → x.box ≡ b → types_asked q k y ≡ false
  not-asked un y i q x e = subst (λ z. types_asked z k y ≡ false) x.is_q (un y x.owner x.quant i x.owner_in x.quant_in (sym x.is_over ∙ ap (λ (z : Node). z.id) e))

-- ---- the edit

module _ (bs : List Node) (root : ℕ) (w : Sound bs root) (typed : Typed bs) (b : Node) (k : ℕ) (m : LosesColumn bs b k) (un : Unasked bs b.id k) where
  abbrev qs : List ℕ
  qs = c.qs bs root w b k m

  abbrev cut : Node → Node
  cut = c.cut bs root w b k m

  abbrev g : Node → Node
  g = c.g bs root w b k m

  abbrev hs : List Node
  hs = map g bs

  v : Sound hs root
  v = c.column-sound bs root w b k m

  abbrev T : Types
  T x = cond (x == b.id) (remove (types_at bs b.id) (k - 1)) (types_at bs x)

  T-other : (x : ℕ) → (x == b.id) ≡ false → T x ≡ types_at bs x
  T-other x f = ap (λ z. cond z (remove (types_at bs b.id) (k - 1)) (types_at bs x)) f

  T-b : T b.id ≡ remove (types_at bs b.id) (k - 1)
  T-b = ap (λ z. cond z (remove (types_at bs b.id) (k - 1)) (types_at bs b.id)) (eq-itself b.id)

  abbrev at : Lookup
  at q j = via T hs q (place_each k qs q j)

  alike : (y : Node) → In y bs → (q j : ℕ) → types_asked q j (cut y) ≡ true → at q j ≡ lookup_of bs q j
  alike y i q j h =
      let a : types_asked q j y ≡ true = c.less-read bs root w b k m (any_in (of_column q j)) (any_in_cond (of_column q j)) y h in
      let x = under bs root w b k m y i q (asked-named q j y a) in
      let was : column_of (types_at bs x.box.id) j ≡ lookup_of bs q j = sym (ap (found_by (types_at bs) j) x.before) ∙ sym (looked bs q j) in
      let now : (l : ℕ) → via T hs q l ≡ column_of (T x.box.id) l = (λ l. ap (found_by T l) x.after ∙ ap (λ z. column_of (T z) l) (c.g-id bs root w b k m x.box)) in
      elim x.goes [
        | inl s ↦ ap (via T hs q) (s.1 j) ∙ now j ∙ ap (λ z. column_of z j) (T-other x.box.id s.0) ∙ was
        | inr s ↦ (
            let same : x.box.id ≡ b.id = ap (λ (z : Node). z.id) s.0 in
            let ne : (j == k) ≡ false = (elim (cases_Bool (j == k)) [
              | inr e ↦ e
              | inl e ↦ absurd (clash (types_asked q k y) (subst (λ z. types_asked q z y ≡ true) (eqb-true j k e) a) (not-asked bs root w b k m un y i q x s.0))
            ]) in
            ap (via T hs q) (s.1 j) ∙ now (cond (nat_lt k j) (j - 1) j) ∙ ap (λ z. column_of z (cond (nat_lt k j) (j - 1) j)) (ap T same ∙ T-b) ∙ column-less (types_at bs b.id) k j m.from_one ne ∙ ap (λ z. column_of (types_at bs z) j) (sym same) ∙ was)
      ]

  -- the types of a box's columns, over the boxes as they were, without the cell
  cut-types : (y : Node) → In y bs → T y.id ≡ types_by (lookup_of bs) (cut y).parts.kind (cut y).parts.head
  cut-types y i = elim (cases_Bool (y.id == b.id)) [
    | inr f ↦ T-other y.id f ∙ settled-types bs root w y i ∙ sym (ap (λ (z : Bool). types_by (lookup_of bs) (cond z (without_cell (k - 1) y) y).parts.kind (cond z (without_cell (k - 1) y) y).parts.head) f)
    | inl e ↦ (
        let same : y ≡ b = same-box bs y b w.ordered i m.within (eqb-true y.id b.id e) in
        ap T (eqb-true y.id b.id e) ∙ T-b ∙ ap (λ z. remove z (k - 1)) (settled-types bs root w b m.within) ∙ by b.parts.kind (w.bare b m.within)
        ∙ ap (λ (z : Node). types_by (lookup_of bs) z.parts.kind (remove z.parts.head (k - 1))) (sym same)
        ∙ sym (ap (λ (z : Bool). types_by (lookup_of bs) (cond z (without_cell (k - 1) y) y).parts.kind (cond z (without_cell (k - 1) y) y).parts.head) e))
  ]
    where
      empty : b.parts.head ≡ [] → ⊥
      empty e = let a : length b.parts.head ≡ 0 = ap length e in let d = m.from_one in let f = m.column in omega arith

      by : (n : BoxKind) → BareBy n b → remove (types_by (lookup_of bs) n b.parts.head) (k - 1) ≡ types_by (lookup_of bs) n (remove b.parts.head (k - 1))
      by (Base table) x = absurd (empty x.1)
      by Select x = map-less (term_type (lookup_of bs)) b.parts.head (k - 1)
      by (Group keys) x = map-less (term_type (lookup_of bs)) b.parts.head (k - 1)
      by (SetOp form types) x = absurd (empty x.0)
      by OuterJoin x = map-less (term_type (lookup_of bs)) b.parts.head (k - 1)

  own : (n : Node) → In n hs → T n.id ≡ types_by (via T hs) n.parts.kind n.parts.head
  own n i =
      let y = in-map g n bs i in
      subst (λ (n : Node). T n.id ≡ types_by (via T hs) n.parts.kind n.parts.head) y.1.1
      (ap T (c.g-id bs root w b k m y.0) ∙ cut-types y.0 y.1.0 ∙ sym (head-pair at (lookup_of bs) (cut y.0) (alike y.0 y.1.0)) ∙ sym (each-types k m.from_one T qs (via T hs) (cut y.0)))

  arms-T : (y : Node) → In y bs → (n : BoxKind) → y.parts.kind ≡ n → (rs : List OwnedQuant) → ((x : OwnedQuant) → In x rs → In x y.quants) → arms_by T n rs ≡ arms_agree (types_of bs) n rs
  arms-T y i (Base f) e rs h = refl
  arms-T y i Select e rs h = refl
  arms-T y i (Group f) e rs h = refl
  arms-T y i (SetOp form types) e rs h = all-alike (λ x. all_agree (T x.over) (known types)) (arm_agrees (types_of bs) types) rs (λ x j. ap (λ z. all_agree z (known types)) (T-other x.over (elim (cases_Bool (x.over == b.id)) [
    | inr f ↦ f
    | inl f ↦ absurd (clash (is_set_op y.parts.kind) (ap is_set_op e) (m.no_arm y x i (h x j) (eqb-true x.over b.id f)))
  ])))
  arms-T y i OuterJoin e rs h = refl

  cut-agrees : (y : Node) → In y bs → agrees_by (lookup_of bs) T (cut y) ≡ true
  cut-agrees y i =
      let a = and_parts (list_all (λ x. is_known (term_type (lookup_of bs) x)) y.parts.head) (list_all (cond_fits (lookup_of bs)) y.parts.conds.items && arms_agree (types_of bs) y.parts.kind y.quants) (typed y i) in
      let rest : (list_all (cond_fits (lookup_of bs)) y.parts.conds.items && arms_by T y.parts.kind y.quants) ≡ true = ap (λ z. list_all (cond_fits (lookup_of bs)) y.parts.conds.items && z) (arms-T y i y.parts.kind refl y.quants (λ x j. j)) ∙ a.1 in
      elim (y.id == b.id) as (λ z. agrees_by (lookup_of bs) T (cond z (without_cell (k - 1) y) y) ≡ true) [
        | true ↦ and_from (list_all (λ x. is_known (term_type (lookup_of bs) x)) (remove y.parts.head (k - 1))) (list_all (cond_fits (lookup_of bs)) y.parts.conds.items && arms_by T y.parts.kind y.quants) (all-less (λ x. is_known (term_type (lookup_of bs) x)) y.parts.head (k - 1) a.0) rest
        | false ↦ and_from (list_all (λ x. is_known (term_type (lookup_of bs) x)) y.parts.head) (list_all (cond_fits (lookup_of bs)) y.parts.conds.items && arms_by T y.parts.kind y.quants) a.0 rest
      ]

  pub typed-column : Typed hs
  typed-column = typed-by hs root v T own (λ n i. (
      let y = in-map g n bs i in
      subst (λ z. agrees_by (via T hs) T z ≡ true) y.1.1 (each-agrees k m.from_one T qs (via T hs) (cut y.0) ∙ agrees-pair at (lookup_of bs) (cut y.0) (alike y.0 y.1.0) T ∙ cut-agrees y.0 y.1.0)))

pub drop-column-typed : DropColumnTyped
drop-column-typed g w typed b k m un = subst Typed (sym (c.column-boxes g.boxes g.root w b k m)) (typed-column g.boxes g.root w typed b k m un)
