-- G2: the graph with c's select in the place of the fed box is well-formed.
use Rattle.std.proofs.Common.{ℕ, zero, suc, ◌==◌, ◌≡◌, ◌≤◌, ◌<◌, ◌+◌, ◌-◌, ◌&&◌, ◌||◌, nat_lt, cond, not, Bool, true, false, List, [], ◌∷◌, ◌++◌, map, length, Option, Some, None, refl, sym, ap, ap₂, subst, ◌∙◌, eqb-true, ◌⊎◌, inl, inr, arith}
use Rattle.std.specs.Prelude.{slice_get}
use Rattle.std.specs.List.{flat_map, list_all, list_any}
use Rattle.std.proofs.lemmas.Bool.{and_from, and_parts, cases_Bool, eq-eqb, not-true, or_cases, or_from, or_left, or_parts, or_right}
use Rattle.sql_value.specs.declared.order_key.SqlType.{SqlType}
use Rattle.qgm_core.specs.Boxes.{Ordered, QueryGraph, has_box, is_box, is_quant, numbers, overs_in, owns, width}
use Rattle.qgm_core.specs.Free.{named_by}
use Rattle.qgm_core.specs.Kinds.{is_A, is_E, is_F, is_F_or_S, is_S, is_magic, is_permit, width_by}
use Rattle.list_laws.specs.Lists.{EachOnce, In, holds, times}
use Rattle.qgm_core.specs.declared.kinds.BoxKind.TheVariants.{Select}
use Rattle.qgm_core.specs.declared.kinds.QuantKind.{QuantKind}
use Rattle.qgm_core.specs.declared.kinds.QuantKind.TheVariants as kinds
use Rattle.qgm_core.specs.declared.kinds.Role.TheVariants.{Plain}
use Rattle.qgm_core.specs.declared.node.Node.{Node}
use Rattle.qgm_core.specs.declared.owned.OwnedQuant.{OwnedQuant}
use Rattle.qgm_wellformed.specs.Columns.{box_under, columns_fit, columns_of, fits, places_fit}
use Rattle.qgm_wellformed.specs.Sentences.{WellFormed}
use Rattle.qgm_wellformed.specs.Shapes.{is_among, is_scalar_in, is_unfolded, kind_fits, node_fits, nodes_of, role_fits, shape_fits}
use Rattle.qgm_wellformed.specs.Types.{Lookup, cond_fits, is_known, joined_column, lookup_of, term_type, types_by}
use Rattle.qgm_wellformed.specs.WellFormed.{fault}
use Rattle.qgm_wellformed.proofs.Faults.{finds-none}
use Rattle.qgm_edit_laws.specs.Graph.{ArmsBy, BareBy, Fits, Sound, binds_row, nodes_in}
use Rattle.qgm_edit_laws.specs.Placed.{place}
use Rattle.qgm_edit_laws.specs.Reforms.{types_at}
use Rattle.qgm_edit_laws.specs.Scoped.{Scoped, shows_by}
use Rattle.qgm_edit_laws.specs.Shaped.{Shaped, Typed}
use Rattle.qgm_edit_laws.specs.Checked.{own_seen}
use Rattle.qgm_edit_laws.proofs.AllColumns.{length-one}
use Rattle.qgm_edit_laws.proofs.BoxForms.{counted-seen, scalar-column}
use Rattle.qgm_edit_laws.proofs.Follow.{settled-types}
use Rattle.qgm_edit_laws.proofs.Naming.{named-any, says, says_cond}
use Rattle.qgm_edit_laws.proofs.Ranks.{has-in, place-under, same-box}
use Rattle.qgm_edit_laws.proofs.Read.{any-both, named-split}
use Rattle.qgm_edit_laws.proofs.Reformed.{columns-moved, wide-types}
use Rattle.qgm_edit_laws.proofs.Scope.{bound-owned, climb, one-owner, parent, touched}
use Rattle.qgm_edit_laws.proofs.Scoped.{scoped-of}
use Rattle.qgm_edit_laws.proofs.ShapeParts.{ShapeParts, shape-from, shape-parts}
use Rattle.qgm_edit_laws.proofs.OwnShapes.{select-placed}
use Rattle.qgm_edit_laws.proofs.TypedKept.{Ranging, found, found-under}
use Rattle.qgm_edit_laws.proofs.TypesBy.{agrees-alike, agrees-as, agrees_by, arms_by, found_by, head-alike, looked, via}
use Rattle.qgm_meaning.specs.Scope.{loose, read_by}
use Rattle.qgm_meaning.specs.Searches.{names, names_cond}
use Rattle.qgm_meaning.specs.Tags.{columns_from}
use Rattle.qgm_terms.specs.Named as named
use Rattle.qgm_terms.specs.Named.{columns_in, columns_in_cond}
use Rattle.qgm_terms.specs.Terms.{Term}
use Rattle.qgm_terms.specs.Wanted.{has_aggregate, has_aggregate_cond, reads, reads_at, reads_at_cond, reads_cond}
use Rattle.qgm_terms.specs.declared.named.Column.{Column}
use Rattle.qgm_terms.specs.declared.named.QuantNode.TheVariants as node
use Rattle.qgm_terms.specs.declared.named.QuantNode.{QuantNode}
use Rattle.qgm_edit_laws.specs.Rebuilds.{HasForm, IsOwned, MadeIn, Rebuilds, StaysIn}
use Rattle.qgm_edit_laws.proofs.ShapedPut.{all-joined}
use Rattle.rule_magic.specs.Boxes.{absorbed_box}
use Rattle.rule_magic.specs.Places.{MayAbsorb}
use Rattle.qgm_props.specs.Inferred.{Facts}
use Rattle.qgm_props.specs.Laws.{Tells}
use Rattle.rule_magic.proofs.AbsorbFacts as fed
use Rattle.rule_magic.proofs.AbsorbFacts.{read-append, read-columns}
use Rattle.qgm_edit_laws.proofs.Rebuilt.{looks-exact, rebuilt, rebuilt-formed}
use Rattle.qgm_core.proofs.Reaching.{in-has, overs-held}
use Rattle.list_laws.proofs.Counting.{times-append}
use Rattle.list_laws.proofs.Membership.{all-from, all-in, any-from, any-in, any-none, append-one, eq-false-sym, eq-itself, in-append, in-left, in-right}
use Rattle.list_laws.proofs.Booleans.{clash}

-- ---- lists

pub flat-append : {X Y : Type 0} (f : X → List Y) (xs ys : List X) → flat_map f (xs ++ ys) ≡ flat_map f xs ++ flat_map f ys
flat-append f [] ys = refl
flat-append f (x ∷ xs) ys = ap (λ (z : List _). f x ++ z) (flat-append f xs ys) ∙ sym (append-thrice (f x) (flat_map f xs) (flat_map f ys))
  where
    append-thrice : {Y : Type 0} (a b d : List Y) → (a ++ b) ++ d ≡ a ++ (b ++ d)
    append-thrice [] b d = refl
    append-thrice (y ∷ a) b d = ap (λ (z : List _). y ∷ z) (append-thrice a b d)

pub all-left : {X : Type 0} (p : X → Bool) (xs ys : List X) → list_all p (xs ++ ys) ≡ true → list_all p xs ≡ true
all-left p [] ys h = refl
all-left p (x ∷ xs) ys h = let a = and_parts (p x) (list_all p (xs ++ ys)) h in and_from (p x) (list_all p xs) a.0 (all-left p xs ys a.1)

pub all-right : {X : Type 0} (p : X → Bool) (xs ys : List X) → list_all p (xs ++ ys) ≡ true → list_all p ys ≡ true
all-right p [] ys h = h
all-right p (x ∷ xs) ys h = all-right p xs ys (and_parts (p x) (list_all p (xs ++ ys)) h).1

pub length-append : {X : Type 0} (xs ys : List X) → length (xs ++ ys) ≡ length xs + length ys
length-append [] ys = (omega arith)
length-append (x ∷ xs) ys = ap suc (length-append xs ys) ∙ (omega arith)

pub map-append : {X Y : Type 0} (f : X → Y) (xs ys : List X) → map f (xs ++ ys) ≡ map f xs ++ map f ys
map-append f [] ys = refl
map-append f (x ∷ xs) ys = ap (λ (z : List _). f x ∷ z) (map-append f xs ys)

pub times-flat : (f : Node → List ℕ) (x : ℕ) (ns ms : List Node) → times x (flat_map f (ns ++ ms)) ≡ times x (flat_map f ns) + times x (flat_map f ms)
times-flat f x ns ms = ap (times x) (flat-append f ns ms) ∙ times-append x (flat_map f ns) (flat_map f ms)

-- ---- boxes in order

pub ordered-tail : (up ys : List Node) → Ordered (up ++ ys) → Ordered ys
ordered-tail [] ys o = o
ordered-tail (n ∷ up) ys o = ordered-tail up ys o.2

pub ordered-apart : (up ys : List Node) → Ordered (up ++ ys) → (n x : Node) → In n up → In x ys → (x.id == n.id) ≡ false
ordered-apart [] ys o n x i j = elim i [ ]
ordered-apart (u ∷ up) ys o n x i j = elim i [
  | inl e ↦ subst (λ (z : Node). (x.id == z.id) ≡ false) e (any-none (is_box u.id) x (up ++ ys) o.0 (in-right x up ys j))
  | inr k ↦ ordered-apart up ys o.2 n x k j
]

pub swapped : (up ys zs : List Node) (gone : ℕ) → Ordered (up ++ ys) → Ordered zs → ((b : ℕ) → has_box ys b ≡ false → has_box zs b ≡ false)
    → ((b : ℕ) → (b == gone) ≡ false → has_box ys b ≡ true → has_box zs b ≡ true)
    → ((n : Node) (s : OwnedQuant) → In n up → In s n.quants → (s.over == gone) ≡ false) → Ordered (up ++ zs)
swapped [] ys zs gone o z less keep apart = z
swapped (n ∷ up) ys zs gone o z less keep apart = (none, all, swapped up ys zs gone o.2 z less keep (λ m s i. apart m s (inr i)))
  where
    none : has_box (up ++ zs) n.id ≡ false
    none =
        let a = or_parts (has_box up n.id) (has_box ys n.id) (sym (any-both (is_box n.id) up ys) ∙ o.0) in
        any-both (is_box n.id) up zs ∙ or_from (has_box up n.id) (has_box zs n.id) a.0 (less n.id a.1)

    all : list_all (λ (s : OwnedQuant). has_box (up ++ zs) s.over) n.quants ≡ true
    all = all-from (λ (s : OwnedQuant). has_box (up ++ zs) s.over) n.quants (λ s j. any-both (is_box s.over) up zs ∙ (
        let h = sym (any-both (is_box s.over) up ys) ∙ all-in (λ (s : OwnedQuant). has_box (up ++ ys) s.over) s n.quants o.1 j in
        elim (or_cases (has_box up s.over) (has_box ys s.over) h) [
          | inl e ↦ or_left (has_box up s.over) (has_box zs s.over) e
          | inr e ↦ or_right (has_box up s.over) (has_box zs s.over) (keep s.over (apart n s (inl refl) j) e)
        ]))

-- ---- heads of columns

pub none-names : (q p k w : ℕ) → list_any (names q) (columns_from p k w) ≡ false
none-names q p k zero = refl
none-names q p k (suc w) = none-names q p (suc k) w

pub none-aggregate : (p k w : ℕ) → list_any has_aggregate (columns_from p k w) ≡ false
none-aggregate p k zero = refl
none-aggregate p k (suc w) = none-aggregate p (suc k) w

pub none-nodes : (p k w : ℕ) → flat_map named.nodes_in (columns_from p k w) ≡ []
none-nodes p k zero = refl
none-nodes p k (suc w) = none-nodes p (suc k) w

pub columns-long : (p k w : ℕ) → length (columns_from p k w) ≡ w
columns-long p k zero = refl
columns-long p k (suc w) = ap suc (columns-long p (suc k) w)

pub says-columns : (q p k w : ℕ) → list_any (says q) (columns_from p k w) ≡ true → (p == q) ≡ true
says-columns q p k zero h = absurd (let z : ⊥ = cc in z)
says-columns q p k (suc w) h = elim (or_cases (p == q) (list_any (says q) (columns_from p (suc k) w)) h) [ inl e ↦ e | inr e ↦ says-columns q p (suc k) w e ]

-- all columns of a quantifier have the types of its box
get-here : (pre : List (Option SqlType)) (x : Option SqlType) (ts : List (Option SqlType)) → joined_column (slice_get (pre ++ x ∷ ts) (length pre)) ≡ x
get-here [] x ts = refl
get-here (p ∷ pre) x ts = get-here pre x ts

pub columns-types : (L : Lookup) (q : ℕ) (pre ts : List (Option SqlType)) → ((k : ℕ) → L q (suc k) ≡ joined_column (slice_get (pre ++ ts) k)) → map (term_type L) (columns_from q (suc (length pre)) (length ts)) ≡ ts
columns-types L q pre [] h = refl
columns-types L q pre (x ∷ ts) h =
    ap₂ (λ (y : Option SqlType) (ys : List (Option SqlType)). y ∷ ys) (h (length pre) ∙ get-here pre x ts)
    (ap (λ k. map (term_type L) (columns_from q (suc k) (length ts))) (sym (length-one pre x)) ∙ columns-types L q (pre ++ x ∷ []) ts (λ k. h k ∙ ap (λ (z : List (Option SqlType)). joined_column (slice_get z k)) (sym (append-one pre x ts))))

-- the type of a column, counted from 0
pub found-suc : (T : ℕ → List (Option SqlType)) (k : ℕ) (n : Node) → found_by T (suc k) (Some n) ≡ joined_column (slice_get (T n.id) k)
found-suc T k n = ap (λ b. cond b None (joined_column (slice_get (T n.id) (suc k - 1)))) not-zero ∙ ap (λ i. joined_column (slice_get (T n.id) i)) (omega arith)
  where
    not-zero : (suc k == 0) ≡ false
    not-zero = elim (cases_Bool (suc k == 0)) [ inr f ↦ f | inl e ↦ absurd (let z = eqb-true (suc k) 0 e in omega (arith, z)) ]

pub f-counts : (k : QuantKind) → is_F k ≡ true → is_F_or_S k ≡ true
f-counts kinds.F h = refl
f-counts kinds.E h = absurd (let z : ⊥ = cc in z)
f-counts kinds.A h = absurd (let z : ⊥ = cc in z)
f-counts kinds.S h = absurd (let z : ⊥ = cc in z)

pub f-not-s : (k : QuantKind) → is_F k ≡ true → is_S k ≡ true → ⊥
f-not-s kinds.F h s = let z : ⊥ = cc in z
f-not-s kinds.E h s = let z : ⊥ = cc in z
f-not-s kinds.A h s = let z : ⊥ = cc in z
f-not-s kinds.S h s = let z : ⊥ = cc in z

-- what binds q as a row under an F or another quantifier still does behind one more
shows-more : (k b y z : Bool) → cond k y z ≡ true → cond k (b || y) (b || z) ≡ true
shows-more true b y z h = or_right b y h
shows-more false b y z h = or_right b z h

module _ (bs : List Node) (root : ℕ) (w : Sound bs root) where
  -- what a box looks up is looked up under a quantifier of its owner
  bound-under-by : (k b q : ℕ) → place bs b < k → loose bs b q ≡ true → (n : Node) × ((s : OwnedQuant) × (In n bs × (In s n.quants × ((loose bs s.over q ≡ true) × (binds_row q n.quants ≡ true)))))
  bound-under-by zero b q f h = absurd (omega arith)
  bound-under-by (suc k) b q f h =
      let p = parent bs root w b q h in
      let s = p.1.1.0 in
      let over : s.over ≡ b = p.1.1.1.1 in
      let up : place bs p.0.id < place bs b = subst (λ z. place bs p.0.id < place bs z) over (place-under bs p.0 s w.ordered p.1.0 p.1.1.1.0) in
      let here : loose bs s.over q ≡ true = subst (λ z. loose bs z q ≡ true) (sym over) h in
      elim (climb bs root w p.0 s q p.1.0 p.1.1.1.0 here) [
        | inl x ↦ (p.0, (s, (p.1.0, (p.1.1.1.0, (here, x.1)))))
        | inr x ↦ bound-under-by k p.0.id q (omega arith) x
      ]

  pub bound-under : (b q : ℕ) → loose bs b q ≡ true → (n : Node) × ((s : OwnedQuant) × (In n bs × (In s n.quants × ((loose bs s.over q ≡ true) × (binds_row q n.quants ≡ true)))))
  bound-under b q h = bound-under-by (suc (place bs b)) b q (omega arith) h

module _ (g : QueryGraph) (once : EachOnce (numbers g.boxes)) (wf : WellFormed g) (known : Facts) (tells : Tells known g.boxes) (d : Node) (may : MayAbsorb g.boxes known d) where
  abbrev bs : List Node
  bs = g.boxes

  abbrev m : Node
  m = may.m

  abbrev c : Node
  c = may.c

  abbrev a : OwnedQuant
  a = may.a

  abbrev r : OwnedQuant
  r = may.r

  pub w : Sound g.boxes g.root
  w = fed.w g once wf known tells d may

  pub ty : Typed g.boxes
  ty = (fed.fine g once wf known tells d may).1

  pub sh : Shaped g.boxes g.root
  sh = (fed.fine g once wf known tells d may).2

  pub in-a : In a d.quants
  in-a = fed.in-a g once wf known tells d may

  pub in-r : In r d.quants
  in-r = fed.in-r g once wf known tells d may

  pub open-c : (loose g.boxes c.id a.id ≡ true) × ((q : ℕ) → loose g.boxes c.id q ≡ true → q ≡ a.id)
  open-c = fed.open-c g once wf known tells d may

  closed-m : (q : ℕ) → loose g.boxes m.id q ≡ false
  closed-m = fed.closed-m g once wf known tells d may

  closed-a : (q : ℕ) → loose g.boxes a.over q ≡ true → ⊥
  closed-a q h = clash (loose g.boxes m.id q) (subst (λ i. loose g.boxes i q ≡ true) (sym may.over_m) h) (closed-m q)

  pub closed-d : (q : ℕ) → loose g.boxes d.id q ≡ false
  closed-d = fed.closed-d g once wf known tells d may

  pub d-not-c : (d.id == c.id) ≡ false
  d-not-c = fed.d-not-c g once wf known tells d may

  pub f-a : is_F a.kind ≡ true
  f-a = (and_parts (is_F a.kind) (is_F r.kind) (fed.two g once wf known tells d may).kinds).0

  pub f-r : is_F r.kind ≡ true
  f-r = (and_parts (is_F a.kind) (is_F r.kind) (fed.two g once wf known tells d may).kinds).1

  pub of-d : (s : OwnedQuant) → In s d.quants → (s ≡ a) ⊎ (s ≡ r)
  of-d s j = elim (subst (λ (z : List OwnedQuant). In s z) may.quants j) [ inl e ↦ inl (sym e) | inr k ↦ elim k [ inl e ↦ inr (sym e) | inr z ↦ elim z [ ] ] ]

  -- nothing below d looks r up
  r-unlooked : (b : ℕ) → loose g.boxes b r.id ≡ true → ⊥
  r-unlooked b h =
      let x = bound-under g.boxes g.root w b r.id h in
      let same : x.0 ≡ d = one-owner g.boxes g.root w r.id x.0 d x.1.1.0 may.in_d (bound-owned r.id x.0.quants x.1.1.1.1.1) (any-from (is_quant r.id) r d.quants in-r (eq-itself r.id)) in
      let look : loose g.boxes x.1.0.over r.id ≡ true = x.1.1.1.1.0 in
      elim (of-d x.1.0 (subst (λ (z : Node). In x.1.0 z.quants) same x.1.1.1.0)) [
        | inl e ↦ closed-a r.id (subst (λ (z : OwnedQuant). loose g.boxes z.over r.id ≡ true) e look)
        | inr e ↦ (
            let k : loose g.boxes c.id r.id ≡ true = subst (λ i. loose g.boxes i r.id ≡ true) (sym may.over_c) (subst (λ (z : OwnedQuant). loose g.boxes z.over r.id ≡ true) e look) in
            clash (r.id == a.id) (eq-eqb r.id a.id (open-c.1 r.id k)) (fed.apart g once wf known tells d may))
      ]

  -- no other box than d names r
  pub r-unnamed : (n : Node) → In n g.boxes → (n.id == d.id) ≡ false → holds r.id (named_by n) ≡ true → ⊥
  r-unnamed n i f h =
      let own : owns r.id n ≡ true → ⊥ = λ o. clash (n.id == d.id) (eq-eqb n.id d.id (ap (λ (z : Node). z.id) (one-owner g.boxes g.root w r.id n d i may.in_d o (any-from (is_quant r.id) r d.quants in-r (eq-itself r.id))))) f in
      elim (or_cases (read_by n r.id) (nodes_in r.id n) (named-split r.id n h)) [
        | inr x ↦ own (w.own_nodes n i r.id x).0
        | inl x ↦ elim (touched g.boxes g.root w n r.id i (or_left (read_by n r.id) _ x)) [ inl o ↦ own o | inr y ↦ r-unlooked n.id y ]
      ]

  -- where the boxes stand
  module _ (up l1 l2 : List Node) (before : g.boxes ≡ up ++ d ∷ (l1 ++ may.c ∷ l2)) where
    abbrev pub kept : ℕ → Bool
    kept b = not (b == c.id)

    abbrev pub look : ℕ → ℕ → Bool
    look b q = not (b == c.id) && loose g.boxes b q

    pub ob : Ordered (up ++ d ∷ (l1 ++ c ∷ l2))
    ob = subst Ordered before w.ordered

    pub od : Ordered (d ∷ (l1 ++ c ∷ l2))
    od = ordered-tail up (d ∷ (l1 ++ c ∷ l2)) ob

    pub oc : Ordered (c ∷ l2)
    oc = ordered-tail l1 (c ∷ l2) od.2

    pub in-bs : (n : Node) → In n (up ++ d ∷ (l1 ++ c ∷ l2)) → In n g.boxes
    in-bs n i = subst (λ (z : List Node). In n z) (sym before) i

    -- the other boxes
    pub other-up : (n : Node) → In n up → In n g.boxes × (((n.id == d.id) ≡ false) × ((n.id == c.id) ≡ false))
    other-up n i = (
      in-bs n (in-left n up (d ∷ (l1 ++ c ∷ l2)) i),
      (
        eq-false-sym d.id n.id (ordered-apart up (d ∷ (l1 ++ c ∷ l2)) ob n d i (inl refl)),
        eq-false-sym c.id n.id (ordered-apart up (d ∷ (l1 ++ c ∷ l2)) ob n c i (inr (in-right c l1 (c ∷ l2) (inl refl)))),
      ),
    )

    pub other-left : (n : Node) → In n l1 → In n g.boxes × (((n.id == d.id) ≡ false) × ((n.id == c.id) ≡ false))
    other-left n i = (
      in-bs n (in-right n up (d ∷ (l1 ++ c ∷ l2)) (inr (in-left n l1 (c ∷ l2) i))),
      (
        any-none (is_box d.id) n (l1 ++ c ∷ l2) od.0 (in-left n l1 (c ∷ l2) i),
        eq-false-sym c.id n.id (ordered-apart l1 (c ∷ l2) od.2 n c i (inl refl)),
      ),
    )

    pub other-right : (n : Node) → In n l2 → In n g.boxes × (((n.id == d.id) ≡ false) × ((n.id == c.id) ≡ false))
    other-right n i = (
      in-bs n (in-right n up (d ∷ (l1 ++ c ∷ l2)) (inr (in-right n l1 (c ∷ l2) (inr i)))),
      (
        any-none (is_box d.id) n (l1 ++ c ∷ l2) od.0 (in-right n l1 (c ∷ l2) (inr i)),
        any-none (is_box c.id) n l2 oc.0 i,
      ),
    )

    -- only d ranges over c
    pub elsewhere : (n : Node) (s : OwnedQuant) → In n g.boxes → (n.id == d.id) ≡ false → In s n.quants → (s.over == c.id) ≡ false
    elsewhere n s i f j = elim (cases_Bool (s.over == c.id)) [
      | inr x ↦ x
      | inl x ↦ absurd (clash (n.id == d.id) (eq-eqb n.id d.id (ap (λ (z : Node). z.id) (fed.only-d g once wf known tells d may n s i j (eqb-true s.over c.id x)))) f)
    ]

    pub a-elsewhere : (a.over == c.id) ≡ false
    a-elsewhere = fed.a-not-c g once wf known tells d may

    pub fewer : (b : ℕ) → has_box (l1 ++ c ∷ l2) b ≡ false → has_box (l1 ++ l2) b ≡ false
    fewer b f =
        let x = or_parts (has_box l1 b) (has_box (c ∷ l2) b) (sym (any-both (is_box b) l1 (c ∷ l2)) ∙ f) in
        any-both (is_box b) l1 l2 ∙ or_from (has_box l1 b) (has_box l2 b) x.0 (or_parts (c.id == b) (has_box l2 b) x.1).1

    pub rest : (b : ℕ) → (b == c.id) ≡ false → has_box (c ∷ l2) b ≡ true → has_box l2 b ≡ true
    rest b n h = elim (or_cases (c.id == b) (has_box l2 b) h) [ inl x ↦ absurd (clash (c.id == b) x (eq-false-sym b c.id n)) | inr x ↦ x ]

    pub more : (b : ℕ) → (b == c.id) ≡ false → has_box (l1 ++ c ∷ l2) b ≡ true → has_box (l1 ++ l2) b ≡ true
    more b n h = any-both (is_box b) l1 l2 ∙ elim (or_cases (has_box l1 b) (has_box (c ∷ l2) b) (sym (any-both (is_box b) l1 (c ∷ l2)) ∙ h)) [
      | inl x ↦ or_left (has_box l1 b) (has_box l2 b) x
      | inr x ↦ or_right (has_box l1 b) (has_box l2 b) (rest b n x)
    ]

    pub low : Ordered (l1 ++ l2)
    low = swapped l1 (c ∷ l2) l2 c.id od.2 oc.2 (λ b f. (or_parts (c.id == b) (has_box l2 b) f).1) rest (λ n s i j. (let x = other-left n i in elsewhere n s x.0 x.1.0 j))

    -- each box is d, c or another
    pub place-of : (n : Node) → In n g.boxes → (n ≡ d) ⊎ ((n ≡ c) ⊎ (In n up ⊎ In n (l1 ++ l2)))
    place-of n i = elim (in-append n up (d ∷ (l1 ++ c ∷ l2)) (subst (λ (z : List Node). In n z) before i)) [
      | inl j ↦ inr (inr (inl j))
      | inr j ↦ elim j [
        | inl e ↦ inl (sym e)
        | inr k ↦ elim (in-append n l1 (c ∷ l2) k) [
          | inl x ↦ inr (inr (inr (in-left n l1 l2 x)))
          | inr x ↦ elim x [ inl e ↦ inr (inl (sym e)) | inr y ↦ inr (inr (inr (in-right n l1 l2 y))) ]
        ]
      ]
    ]

    -- where c is a select, the graph after it
    module _ (sel : c.parts.kind ≡ Select) (plain : c.parts.role ≡ Plain) where
      abbrev d' : Node
      d' = absorbed_box d.id may.a (width may.m) may.c

      abbrev hs : List Node
      hs = up ++ absorbed_box d.id may.a (width may.m) may.c ∷ (l1 ++ l2)

      abbrev cols : List Term
      cols = columns_from a.id 1 (width m)

      pub each-in : (n : Node) → In n hs → (n ≡ d') ⊎ (In n g.boxes × (((n.id == d.id) ≡ false) × ((n.id == c.id) ≡ false)))
      each-in n i = elim (in-append n up (d' ∷ (l1 ++ l2)) i) [
        | inl j ↦ inr (other-up n j)
        | inr j ↦ elim j [
          | inl e ↦ inl (sym e)
          | inr k ↦ elim (in-append n l1 l2 k) [ inl x ↦ inr (other-left n x) | inr x ↦ inr (other-right n x) ]
        ]
      ]

      pub new-in : In d' hs
      new-in = in-right d' up (d' ∷ (l1 ++ l2)) (inl refl)

      pub to-hs : (n : Node) → In n g.boxes → (n.id == d.id) ≡ false → (n.id == c.id) ≡ false → In n hs
      to-hs n i e f = elim (in-append n up (d ∷ (l1 ++ c ∷ l2)) (subst (λ (z : List Node). In n z) before i)) [
        | inl j ↦ in-left n up (d' ∷ (l1 ++ l2)) j
        | inr j ↦ in-right n up (d' ∷ (l1 ++ l2)) (elim j [
          | inl x ↦ absurd (clash (n.id == d.id) (eq-eqb n.id d.id (ap (λ (z : Node). z.id) (sym x))) e)
          | inr k ↦ inr (elim (in-append n l1 (c ∷ l2) k) [
            | inl x ↦ in-left n l1 l2 x
            | inr x ↦ in-right n l1 l2 (elim x [ inl y ↦ absurd (clash (n.id == c.id) (eq-eqb n.id c.id (ap (λ (z : Node). z.id) (sym y))) f) | inr y ↦ y ])
          ])
        ])
      ]

      pub ordered : Ordered hs
      ordered = swapped up (d ∷ (l1 ++ c ∷ l2)) (d' ∷ (l1 ++ l2)) c.id ob (none, all, low)
          (λ b f. (
          let x = or_parts (d.id == b) (has_box (l1 ++ c ∷ l2) b) f in
          or_from (d.id == b) (has_box (l1 ++ l2) b) x.0 (fewer b x.1)))
          (λ b n h. elim (or_cases (d.id == b) (has_box (l1 ++ c ∷ l2) b) h) [ inl x ↦ or_left (d.id == b) (has_box (l1 ++ l2) b) x | inr x ↦ or_right (d.id == b) (has_box (l1 ++ l2) b) (more b n x) ])
          (λ n s i j. (let x = other-up n i in elsewhere n s x.0 x.1.0 j))
        where
          none : has_box (l1 ++ l2) d.id ≡ false
          none = fewer d.id od.0

          all : list_all (λ (s : OwnedQuant). has_box (l1 ++ l2) s.over) (a ∷ c.quants) ≡ true
          all = and_from (has_box (l1 ++ l2) a.over) (list_all (λ (s : OwnedQuant). has_box (l1 ++ l2) s.over) c.quants)
              (more a.over a-elsewhere (all-in (λ (s : OwnedQuant). has_box (l1 ++ c ∷ l2) s.over) a d.quants od.1 in-a))
              (all-from (λ (s : OwnedQuant). has_box (l1 ++ l2) s.over) c.quants (λ s j. any-both (is_box s.over) l1 l2 ∙ or_right (has_box l1 s.over) (has_box l2 s.over) (all-in (λ (s : OwnedQuant). has_box l2 s.over) s c.quants oc.1 j)))

      -- a quantifier less
      pub one-less : (f : OwnedQuant → ℕ) (q : ℕ) → times q (flat_map (λ (n : Node). map f n.quants) hs) + cond (f r == q) 1 0 ≡ times q (flat_map (λ (n : Node). map f n.quants) g.boxes)
      one-less f q =
          let F : Node → List ℕ = λ (n : Node). map f n.quants in
          let e1 = times-flat F q up (d' ∷ (l1 ++ l2)) in
          let e2 = times-append q (F d') (flat_map F (l1 ++ l2)) in
          let e3 = times-flat F q l1 l2 in
          let k1 = ap (λ (z : List Node). times q (flat_map F z)) before in
          let k2 = times-flat F q up (d ∷ (l1 ++ c ∷ l2)) in
          let k3 = times-append q (F d) (flat_map F (l1 ++ c ∷ l2)) in
          let k4 = times-flat F q l1 (c ∷ l2) in
          let k5 = times-append q (F c) (flat_map F l2) in
          let k6 : times q (F d) ≡ cond (f a == q) 1 0 + (cond (f r == q) 1 0 + 0) = ap (λ (z : List OwnedQuant). times q (map f z)) may.quants in
          let e4 : times q (F d') ≡ cond (f a == q) 1 0 + times q (F c) = refl in
          omega (arith, e1, e2, e3, e4, k1, k2, k3, k4, k5, k6)

      -- ---- widths

      width-c : width c ≡ length c.parts.head
      width-c = ap (λ k. width_by k (length c.parts.head)) sel

      width-d : width d' ≡ width d
      width-d =
          ap (λ k. width_by k (length (cols ++ c.parts.head))) sel ∙ length-append cols c.parts.head ∙ ap (λ z. length cols + z) (sym width-c ∙ sym (columns-long r.id 1 (width c)))
          ∙ sym (length-append cols (columns_from r.id 1 (width c)))
          ∙ ap length (sym (fed.head-is g once wf known tells d may)) ∙ sym (ap (λ k. width_by k (length d.parts.head)) (fed.kind_d g once wf known tells d may))

      same-wide : (u n : Node) → In u g.boxes → In n hs → u.id ≡ n.id → width n ≡ width u
      same-wide u n i j e = elim (each-in n j) [
        | inl x ↦ (
            let s : u ≡ d = same-box g.boxes u d w.ordered i may.in_d (e ∙ ap (λ (z : Node). z.id) x) in
            ap width x ∙ width-d ∙ ap width (sym s))
        | inr x ↦ ap width (same-box g.boxes n u w.ordered x.0 i (sym e))
      ]

      -- the owner and the box of before
      own-back : (o : Node) (s : OwnedQuant) → In o hs → In s o.quants → IsOwned g.boxes s
      own-back o s i j = elim (each-in o i) [
        | inl x ↦ elim (subst (λ (z : Node). In s z.quants) x j) [ inl e ↦ (d, (may.in_d, subst (λ (z : OwnedQuant). In z d.quants) e in-a)) | inr k ↦ (c, (may.in_c, k)) ]
        | inr x ↦ (o, (x.0, j))
      ]

      box-back : (n : Node) → In n hs → (u : Node) × (In u g.boxes × (u.id ≡ n.id))
      box-back n i = elim (each-in n i) [ inl x ↦ (d, (may.in_d, ap (λ (z : Node). z.id) (sym x))) | inr x ↦ (n, (x.0, refl)) ]

      fits-moved : (q k : ℕ) → Fits g.boxes q k → Fits hs q k
      fits-moved q k f o s u i j e l h =
          let x = own-back o s i j in
          let y = box-back u l in
          let z = f x.0 s y.0 x.1.0 x.1.1 e y.1.0 (y.1.1 ∙ h) in
          (z.0, subst (λ v. k ≤ v) (sym (same-wide y.0 u y.1.0 l y.1.1)) z.1)

      -- ---- boxes that stay

      pub stays : (n : Node) → In n g.boxes → (n.id == d.id) ≡ false → (n.id == c.id) ≡ false → StaysIn g.boxes hs kept look n
      stays n i nd nc = record {
        within = i;
        number = ap not nc;
        same = λ q. ap (λ b. not b && loose g.boxes n.id q) nc;
        over = λ s j. (let f = elsewhere n s i nd j in (ap not f, λ q. ap (λ b. not b && loose g.boxes s.over q) f));
        named = λ s h x. elim (cases_Bool (x.0.id == d.id)) [
          | inl e ↦ (
              let same : x.0 ≡ d = same-box g.boxes x.0 d w.ordered x.1.0 may.in_d (eqb-true x.0.id d.id e) in
              elim (of-d s (subst (λ (z : Node). In s z.quants) same x.1.1)) [
                | inl y ↦ (ap not (ap (λ (z : OwnedQuant). z.over == c.id) y ∙ a-elsewhere), (s, ((d', (new-in, subst (λ (z : OwnedQuant). In z (a ∷ c.quants)) (sym y) (inl refl))), (refl, refl))))
                | inr y ↦ absurd (r-unnamed n i nd (subst (λ (z : OwnedQuant). holds z.id (named_by n) ≡ true) y h))
              ])
          | inr f ↦ elim (cases_Bool (x.0.id == c.id)) [
            | inl e ↦ (
                let same : x.0 ≡ c = same-box g.boxes x.0 c w.ordered x.1.0 may.in_c (eqb-true x.0.id c.id e) in
                (ap not (elsewhere x.0 s x.1.0 f x.1.1), (s, ((d', (new-in, inr (subst (λ (z : Node). In s z.quants) same x.1.1))), (refl, refl)))))
            | inr k ↦ (ap not (elsewhere x.0 s x.1.0 f x.1.1), (s, ((x.0, (to-hs x.0 x.1.0 f k, x.1.1)), (refl, refl))))
          ]
        ];
      }

      -- ---- the box that is made

      binds-a : binds_row a.id (a ∷ c.quants) ≡ true
      binds-a = or_left (is_F a.kind && (a.id == a.id)) (binds_row a.id c.quants) (and_from (is_F a.kind) (a.id == a.id) f-a (eq-itself a.id))

      pub not-a : (q : ℕ) → owns q c ≡ true → (a.id == q) ≡ false
      not-a q o = elim (cases_Bool (a.id == q)) [
        | inr f ↦ f
        | inl e ↦ absurd (clash (d.id == c.id) (eq-eqb d.id c.id (ap (λ (z : Node). z.id) (one-owner g.boxes g.root w q d c may.in_d may.in_c (any-from (is_quant q) a d.quants in-a e) o))) d-not-c)
      ]

      scoped-new : Scoped look d'
      scoped-new = record { under = λ done s rest e q h. or_left (shows_by c.parts.kind (a ∷ c.quants) done s q) (look d.id q) (subst (λ k. shows_by k (a ∷ c.quants) done s q ≡ true) (sym sel) (under done s rest e q (and_parts (not (s.over == c.id)) (loose g.boxes s.over q) h).1)); own = λ q h. or_left (own_seen c.parts.kind d' q) (look d.id q) (subst (λ k. own_seen k d' q ≡ true) (sym sel) (own q h)) }
        where
          under : (done : List OwnedQuant) (s : OwnedQuant) (rest : List OwnedQuant) → a ∷ c.quants ≡ done ++ s ∷ rest → (q : ℕ) → loose g.boxes s.over q ≡ true → shows_by Select (a ∷ c.quants) done s q ≡ true
          under [] s rest e q h = absurd (closed-a q (subst (λ (z : OwnedQuant). loose g.boxes z.over q ≡ true) (sym (cons-first e)) h))
            where
              cons-first : a ∷ c.quants ≡ s ∷ rest → a ≡ s
              cons-first e = cc e
          under (x ∷ done) s rest e q h = subst (λ (z : OwnedQuant). shows_by Select (a ∷ c.quants) (z ∷ done) s q ≡ true) ex (
              elim (or_cases (shows_by c.parts.kind c.quants done s q) (loose g.boxes c.id q) ((scoped-of g.boxes g.root w c may.in_c).under done s rest es q h)) [
                | inl y ↦ shows-more (is_F s.kind) (is_F a.kind && (a.id == q)) (binds_row q done) (binds_row q c.quants) (subst (λ k. shows_by k c.quants done s q ≡ true) sel y)
                | inr y ↦ subst (λ z. shows_by Select (a ∷ c.quants) (a ∷ done) s z ≡ true) (sym (open-c.1 q y)) (by (is_F s.kind))
              ])
            where
              ex : a ≡ x
              ex = cc e

              es : c.quants ≡ done ++ s ∷ rest
              es = cc e

              by : (b : Bool) → cond b (binds_row a.id (a ∷ done)) (binds_row a.id (a ∷ c.quants)) ≡ true
              by true = or_left (is_F a.kind && (a.id == a.id)) (binds_row a.id done) (and_from (is_F a.kind) (a.id == a.id) f-a (eq-itself a.id))
              by false = binds-a

          own : (q : ℕ) → read_by d' q ≡ true → binds_row q (a ∷ c.quants) ≡ true
          own q h = elim (or_cases (list_any (reads q) (cols ++ c.parts.head)) (list_any (reads_cond q) c.parts.conds.items) h) [
            | inl x ↦ elim (read-append q cols c.parts.head x) [
              | inl y ↦ or_left (is_F a.kind && (a.id == q)) (binds_row q c.quants) (and_from (is_F a.kind) (a.id == q) f-a (read-columns q a.id 1 (width m) y))
              | inr y ↦ by-c (or_left (list_any (reads q) c.parts.head) (list_any (reads_cond q) c.parts.conds.items) y)
            ]
            | inr x ↦ by-c (or_right (list_any (reads q) c.parts.head) (list_any (reads_cond q) c.parts.conds.items) x)
          ]
            where
              by-c : read_by c q ≡ true → binds_row q (a ∷ c.quants) ≡ true
              by-c x = elim (or_cases (own_seen c.parts.kind c q) (loose g.boxes c.id q) ((scoped-of g.boxes g.root w c may.in_c).own q x)) [
                | inl y ↦ or_right (is_F a.kind && (a.id == q)) (binds_row q c.quants) (subst (λ k. own_seen k c q ≡ true) sel y)
                | inr y ↦ subst (λ z. binds_row z (a ∷ c.quants) ≡ true) (sym (open-c.1 q y)) binds-a
              ]

      pub looks-nothing : (q : ℕ) → look d.id q ≡ false
      looks-nothing q = ap (λ b. not (d.id == c.id) && b) (closed-d q) ∙ and-none (not (d.id == c.id))
        where
          and-none : (b : Bool) → (b && false) ≡ false
          and-none true = refl
          and-none false = refl

      made : MadeIn hs look d'
      made = record {
        scoped = scoped-new;
        settled = λ q o. looks-nothing q;
        asks = λ q h. absurd (clash (look d.id q) h (looks-nothing q));
        fits = λ q k h. elim (or_cases (list_any (reads_at q k) (cols ++ c.parts.head)) (list_any (reads_at_cond q k) c.parts.conds.items) h) [
          | inl x ↦ elim (or_cases (list_any (reads_at q k) cols) (list_any (reads_at q k) c.parts.head) (sym (any-both (reads_at q k) cols c.parts.head) ∙ x)) [
            | inl y ↦ fits-moved q k (w.fits d may.in_d q k (or_left (list_any (reads_at q k) d.parts.head) (list_any (reads_at_cond q k) d.parts.conds.items) (ap (list_any (reads_at q k)) (fed.head-is g once wf known tells d may) ∙ any-both (reads_at q k) cols (columns_from r.id 1 (width c)) ∙ or_left (list_any (reads_at q k) cols) (list_any (reads_at q k) (columns_from r.id 1 (width c))) y)))
            | inr y ↦ fits-moved q k (w.fits c may.in_c q k (or_left (list_any (reads_at q k) c.parts.head) (list_any (reads_at_cond q k) c.parts.conds.items) y))
          ]
          | inr x ↦ fits-moved q k (w.fits c may.in_c q k (or_right (list_any (reads_at q k) c.parts.head) (list_any (reads_at_cond q k) c.parts.conds.items) x))
        ];
        own_nodes = λ q h. (
            let x = w.own_nodes c may.in_c q (sym (ap (λ b. b || list_any (names_cond q) c.parts.conds.items) (any-both (names q) cols c.parts.head ∙ ap (λ b. b || list_any (names q) c.parts.head) (none-names q a.id 1 (width m)))) ∙ h) in
            (or_right (a.id == q) (owns q c) x.0, or_from (is_F a.kind && (a.id == q)) (binds_row q c.quants) (and-false (is_F a.kind) (a.id == q) (not-a q x.0)) x.1));
        bare = subst (λ k. BareBy k d') (sym sel) tt;
        arms = λ n s j i e. subst (λ k. ArmsBy k (width n) (width d')) (sym sel) tt;
      }
        where
          and-false : (x b : Bool) → b ≡ false → (x && b) ≡ false
          and-false true b h = h
          and-false false b h = refl

      pub only-new : (n : Node) → In n hs → (n.id == d.id) ≡ true → n ≡ d'
      only-new n i h = elim (each-in n i) [ inl x ↦ x | inr x ↦ absurd (clash (n.id == d.id) h x.1.0) ]

      abbrev fresh : ℕ → Bool
      fresh b = b == d.id

      pub rebuilds : Rebuilds g.boxes hs g.root kept look fresh
      rebuilds = record {
        ordered = ordered;
        rooted = elim (cases_Bool (g.root == d.id)) [
          | inl e ↦ subst (λ b. has_box hs b ≡ true) (sym (eqb-true g.root d.id e)) (in-has d' hs new-in)
          | inr f ↦ (
              let x = has-in g.root g.boxes w.rooted in
              let nd : (x.0.id == d.id) ≡ false = subst (λ b. (b == d.id) ≡ false) (sym x.1.1) f in
              let nc : (x.0.id == c.id) ≡ false = subst (λ b. (b == c.id) ≡ false) (sym x.1.1) root-not-c in
              subst (λ b. has_box hs b ≡ true) x.1.1 (in-has x.0 hs (to-hs x.0 x.1.0 nd nc)))
        ];
        top = (let x = one-less (λ (z : OwnedQuant). z.over) g.root in let y = w.top in omega (arith, x, y));
        once = λ q. (let x = one-less (λ (z : OwnedQuant). z.id) q in let y = w.once q in omega (arith, x, y));
        wide = λ u n i j k e. same-wide u n i j e;
        magic = λ u n i j k e. elim (each-in n j) [
          | inl x ↦ (
              let s : u ≡ d = same-box g.boxes u d w.ordered i may.in_d (e ∙ ap (λ (z : Node). z.id) x) in
              ap (λ (z : Node). is_magic z.parts.role) x ∙ ap is_magic plain ∙ sym (ap is_magic may.is_fed) ∙ ap (λ (z : Node). is_magic z.parts.role) (sym s))
          | inr x ↦ ap (λ (z : Node). is_magic z.parts.role) (same-box g.boxes n u w.ordered x.0 i (sym e))
        ];
        held = λ u i k. elim (cases_Bool (u.id == d.id)) [
          | inl e ↦ subst (λ b. has_box hs b ≡ true) (sym (eqb-true u.id d.id e)) (in-has d' hs new-in)
          | inr f ↦ in-has u hs (to-hs u i f (not-true (u.id == c.id) k))
        ];
        used = λ b q h. (
            let x = and_parts (not (b == c.id)) (loose g.boxes b q) h in
            let y = w.used b q x.1 in
            let n : (r.over == b) ≡ false = subst (λ i. (i == b) ≡ false) may.over_c (eq-false-sym b c.id (not-true (b == c.id) x.0)) in
            let z : times b (overs_in hs) + 0 ≡ times b (overs_in g.boxes) = subst (λ t. times b (overs_in hs) + cond t 1 0 ≡ times b (overs_in g.boxes)) n (one-less (λ (v : OwnedQuant). v.over) b) in
            omega (arith, y, z));
        each = λ n i. elim (each-in n i) [ inl x ↦ inr (eq-eqb n.id d.id (ap (λ (z : Node). z.id) x)) | inr x ↦ inl (stays n x.0 x.1.0 x.1.1) ];
        made = λ n i h. subst (MadeIn hs look) (sym (only-new n i h)) made;
      }
        where
          root-not-c : (g.root == c.id) ≡ false
          root-not-c = elim (cases_Bool (g.root == c.id)) [
            | inr f ↦ f
            | inl e ↦ absurd (let y = w.top in let u = fed.used-c g once wf known tells d may in let k : times c.id (overs_in g.boxes) ≡ 0 = subst (λ b. times b (overs_in g.boxes) ≡ 0) (eqb-true g.root c.id e) y in omega (arith, u, k))
          ]

      -- ---- its form

      abbrev T : ℕ → List (Option SqlType)
      T b = types_at g.boxes b

      abbrev L : Lookup
      L = lookup_of g.boxes

      module _ (v : Sound hs g.root) where
        -- what is found of a quantifier but r is found after it
        after : (q : ℕ) → (x : Ranging g.boxes q) → (q == r.id) ≡ false → (y : Ranging hs q) × (x.box.id ≡ y.box.id)
        after q x f =
            let o = elim (cases_Bool (x.owner.id == d.id)) as (λ z. (o : Node) × (In o hs × In x.quant o.quants)) [
              | inl e ↦ (
                  let same : x.owner ≡ d = same-box g.boxes x.owner d w.ordered x.owner_in may.in_d (eqb-true x.owner.id d.id e) in
                  elim (of-d x.quant (subst (λ (z : Node). In x.quant z.quants) same x.quant_in)) [
                    | inl y ↦ (d', (new-in, subst (λ (z : OwnedQuant). In z (a ∷ c.quants)) (sym y) (inl refl)))
                    | inr y ↦ absurd (clash (q == r.id) (eq-eqb q r.id (sym x.is_q ∙ ap (λ (z : OwnedQuant). z.id) y)) f)
                  ])
              | inr n ↦ elim (cases_Bool (x.owner.id == c.id)) [
                | inl e ↦ (d', (new-in, inr (subst (λ (z : Node). In x.quant z.quants) (same-box g.boxes x.owner c w.ordered x.owner_in may.in_c (eqb-true x.owner.id c.id e)) x.quant_in)))
                | inr k ↦ (x.owner, (to-hs x.owner x.owner_in n k, x.quant_in))
              ]
            ] in
            let b = has-in x.quant.over hs (overs-held hs o.0 x.quant ordered o.1.0 o.1.1) in
            (record { owner = o.0; quant = x.quant; box = b.0; owner_in = o.1.0; quant_in = o.1.1; is_q = x.is_q; box_in = b.1.0; is_over = b.1.1 }, x.is_over ∙ sym b.1.1)

        -- what the box that is made names
        found-new : (q : ℕ) → holds q (named_by d') ≡ true → Ranging g.boxes q × ((q == r.id) ≡ false)
        found-new q h = elim (or_cases (list_any (says q) (cols ++ c.parts.head)) (list_any (says_cond q) c.parts.conds.items) (sym (named-any q d') ∙ h)) [
          | inl x ↦ elim (or_cases (list_any (says q) cols) (list_any (says q) c.parts.head) (sym (any-both (says q) cols c.parts.head) ∙ x)) [
            | inl y ↦ by-a (eqb-true a.id q (says-columns q a.id 1 (width m) y))
            | inr y ↦ by-c (named-any q c ∙ or_left (list_any (says q) c.parts.head) (list_any (says_cond q) c.parts.conds.items) y)
          ]
          | inr x ↦ by-c (named-any q c ∙ or_right (list_any (says q) c.parts.head) (list_any (says_cond q) c.parts.conds.items) x)
        ]
          where
            by-a : a.id ≡ q → Ranging g.boxes q × ((q == r.id) ≡ false)
            by-a e = (
              record { owner = d; quant = a; box = m; owner_in = may.in_d; quant_in = in-a; is_q = e; box_in = may.in_m; is_over = may.over_m },
              subst (λ z. (z == r.id) ≡ false) e (eq-false-sym r.id a.id (fed.apart g once wf known tells d may)),
            )

            by-c : holds q (named_by c) ≡ true → Ranging g.boxes q × ((q == r.id) ≡ false)
            by-c k = (
              found g.boxes g.root w c may.in_c q k,
              elim (cases_Bool (q == r.id)) [
                | inr f ↦ f
                | inl e ↦ absurd (r-unnamed c may.in_c (eq-false-sym d.id c.id d-not-c) (subst (λ z. holds z (named_by c) ≡ true) (eqb-true q r.id e) k))
              ],
            )

        alike : (q : ℕ) → holds q (named_by d') ≡ true → (k : ℕ) → via T hs q k ≡ L q k
        alike q h k =
            let x = found-new q h in
            let y = after q x.0 x.1 in
            ap (found_by T k) (found-under hs g.root v q y.0)
            ∙ ap (λ z. cond (k == 0) None (joined_column (slice_get z (k - 1)))) (ap T (sym y.1))
            ∙ sym (ap (found_by T k) (found-under g.boxes g.root w q x.0)) ∙ sym (looked g.boxes q k)

        columns-of-c : map (term_type L) (columns_from r.id 1 (width c)) ≡ T c.id
        columns-of-c =
            ap (λ n. map (term_type L) (columns_from r.id 1 n)) (sym (wide-types g.boxes g.root w c may.in_c))
            ∙ columns-types L r.id [] (T c.id) (λ k. looked g.boxes r.id (suc k) ∙ ap (found_by T (suc k)) (found-under g.boxes g.root w r.id (record { owner = d; quant = r; box = c; owner_in = may.in_d; quant_in = in-r; is_q = refl; box_in = may.in_c; is_over = may.over_c })) ∙ found-suc T k c)

        typed-new : T d.id ≡ types_by (via T hs) c.parts.kind (cols ++ c.parts.head)
        typed-new =
            settled-types g.boxes g.root w d may.in_d
            ∙ ap (λ k. types_by L k d.parts.head) (fed.kind_d g once wf known tells d may)
            ∙ ap (map (term_type L)) (fed.head-is g once wf known tells d may)
            ∙ map-append (term_type L) cols (columns_from r.id 1 (width c))
            ∙ ap (λ (z : List (Option SqlType)). map (term_type L) cols ++ z) (columns-of-c ∙ settled-types g.boxes g.root w c may.in_c ∙ ap (λ k. types_by L k c.parts.head) sel)
            ∙ sym (map-append (term_type L) cols c.parts.head)
            ∙ sym (ap (λ k. types_by L k (cols ++ c.parts.head)) sel)
            ∙ sym (head-alike (via T hs) L d' alike)

        agrees-new : agrees_by (via T hs) T d' ≡ true
        agrees-new =
            let x = and_parts (list_all (λ y. is_known (term_type L y)) d.parts.head) _ (sym (agrees-as g.boxes d) ∙ ty d may.in_d) in
            let z = and_parts (list_all (λ y. is_known (term_type L y)) c.parts.head) _ (sym (agrees-as g.boxes c) ∙ ty c may.in_c) in
            let k = and_parts (list_all (cond_fits L) c.parts.conds.items) (arms_by T c.parts.kind c.quants) z.1 in
            let first_known = all-left (λ y. is_known (term_type L y)) cols (columns_from r.id 1 (width c)) (subst (λ (y : List Term). list_all (λ y. is_known (term_type L y)) y ≡ true) (fed.head-is g once wf known tells d may) x.0) in
            agrees-alike (via T hs) L d' alike T
            ∙ and_from (list_all (λ y. is_known (term_type L y)) (cols ++ c.parts.head)) (list_all (cond_fits L) c.parts.conds.items && arms_by T c.parts.kind (a ∷ c.quants))
            (all-joined (λ y. is_known (term_type L y)) cols c.parts.head first_known z.0)
            (and_from (list_all (cond_fits L) c.parts.conds.items) (arms_by T c.parts.kind (a ∷ c.quants)) k.0 (ap (λ i. arms_by T i (a ∷ c.quants)) sel))

        columns-new : columns_fit hs d' ≡ true
        columns-new = columns-moved g.boxes hs d'
            (λ q h. (
            let x = found-new q h in
            let y = after q x.0 x.1 in
            (x.0.box, (y.0.box, (found-under g.boxes g.root w q x.0, (found-under hs g.root v q y.0, same-wide x.0.box y.0.box x.0.box_in y.0.box_in y.1))))))
            (and_from (places_fit c.parts.kind) (list_all fit (columns_of d')) (ap places_fit sel) each-fits)
          where
            fit : Column → Bool
            fit x = fits x.place (box_under g.boxes x.quant)

            of-both : list_all fit (flat_map columns_in (cols ++ columns_from r.id 1 (width c))) ≡ true
            of-both = subst (λ (z : List Term). list_all fit (flat_map columns_in z) ≡ true) (fed.head-is g once wf known tells d may)
                (all-left fit (flat_map columns_in d.parts.head) (flat_map columns_in_cond d.parts.conds.items) (and_parts (places_fit d.parts.kind) (list_all fit (columns_of d)) (sh.columns d may.in_d)).1)

            of-cols : list_all fit (flat_map columns_in cols) ≡ true
            of-cols = all-left fit (flat_map columns_in cols) (flat_map columns_in (columns_from r.id 1 (width c))) (subst (λ (z : List Column). list_all fit z ≡ true) (flat-append columns_in cols (columns_from r.id 1 (width c))) of-both)

            of-c : list_all fit (columns_of c) ≡ true
            of-c = (and_parts (places_fit c.parts.kind) (list_all fit (columns_of c)) (sh.columns c may.in_c)).1

            each-fits : list_all fit (columns_of d') ≡ true
            each-fits = all-joined fit (flat_map columns_in (cols ++ c.parts.head)) (flat_map columns_in_cond c.parts.conds.items)
                (subst (λ (z : List Column). list_all fit z ≡ true) (sym (flat-append columns_in cols c.parts.head)) (all-joined fit (flat_map columns_in cols) (flat_map columns_in c.parts.head) of-cols (all-left fit (flat_map columns_in c.parts.head) (flat_map columns_in_cond c.parts.conds.items) of-c)))
                (all-right fit (flat_map columns_in c.parts.head) (flat_map columns_in_cond c.parts.conds.items) of-c)

        shape-new : shape_fits g.root hs d' ≡ true
        shape-new = shape-from g.root hs d' (record {
          kind = subst (λ k. kind_fits g.root hs d' k ≡ true) (sym sel) (and_from (is_unfolded d') (role_fits g.root hs d' c.parts.role) unfolded (ap (role_fits g.root hs d') plain));
          nodes = subst (λ (z : List _). list_all (node_fits (a ∷ c.quants)) z ≡ true) (sym nodes-same) (all-from (node_fits (a ∷ c.quants)) (nodes_of c) (λ x j. more x (all-in (node_fits c.quants) x (nodes_of c) parts.nodes j)));
          placed = select-placed hs g.root v d' new-in sel;
          scalar = λ h. (
              let o = any-in (λ (o : Node). is_scalar_in o.quants d.id) hs h in
              let s = any-in (λ (s : OwnedQuant). (s.over == d.id) && is_S s.kind) o.0.quants o.1.1 in
              let k = and_parts (s.0.over == d.id) (is_S s.0.kind) s.1.1 in
              let x = own-back o.0 s.0 o.1.0 s.1.0 in
              subst (λ z. nat_lt 0 z ≡ true) (sym width-d) (scalar-column g.boxes g.root ty sh x.0 d s.0 x.1.0 x.1.1 k.1 may.in_d (sym (eqb-true s.0.over d.id k.0))));
        })
          where
            parts : ShapeParts g.root g.boxes c
            parts = shape-parts g.root g.boxes c (sh.shapes c may.in_c)

            unfolded-c : is_unfolded c ≡ true
            unfolded-c = (and_parts (is_unfolded c) (role_fits g.root g.boxes c c.parts.role) (subst (λ k. kind_fits g.root g.boxes c k ≡ true) sel parts.kind)).0

            unfolded : is_unfolded d' ≡ true
            unfolded = ap (λ b. not b && not (list_any has_aggregate_cond c.parts.conds.items)) (any-both has_aggregate cols c.parts.head ∙ ap (λ b. b || list_any has_aggregate c.parts.head) (none-aggregate a.id 1 (width m))) ∙ unfolded-c

            nodes-same : nodes_of d' ≡ nodes_of c
            nodes-same = ap (λ (z : List _). z ++ flat_map named.nodes_in_cond c.parts.conds.items) (flat-append named.nodes_in cols c.parts.head ∙ ap (λ (z : List _). z ++ flat_map named.nodes_in c.parts.head) (none-nodes a.id 1 (width m)))

            more : (x : QuantNode) → node_fits c.quants x ≡ true → node_fits (a ∷ c.quants) x ≡ true
            more (node.Scalar q) h = or_right (is_quant q a && is_S a.kind) (is_among is_S q c.quants) h
            more (node.Some q) h = or_right (is_quant q a && is_E a.kind) (is_among is_E q c.quants) h
            more (node.Every q) h = or_right (is_quant q a && is_A a.kind) (is_among is_A q c.quants) h

        seen-c : is_permit c.parts.distinct ≡ false
        seen-c = counted-seen g.boxes g.root ty sh d c r may.in_d in-r (f-counts r.kind f-r) may.in_c may.over_c

        form : HasForm hs g.root T d'
        form = record {
          columns_typed = typed-new;
          agrees = agrees-new;
          columns = columns-new;
          shape = shape-new;
          hidden = λ p. absurd (clash (is_permit c.parts.distinct) p seen-c);
          unseen = λ s n j k i e. (
              let x = own-back d' s new-in j in
              elim (each-in n i) [
                | inl y ↦ ap (λ (z : Node). is_permit z.parts.distinct) y ∙ seen-c
                | inr y ↦ counted-seen g.boxes g.root ty sh x.0 n s x.1.0 x.1.1 k y.0 e
              ]);
          scalars = λ s n j k i e. (
              let x = own-back d' s new-in j in
              let y = box-back n i in
              subst (λ z. nat_lt 0 z ≡ true) (sym (same-wide y.0 n y.1.0 i y.1.1)) (scalar-column g.boxes g.root ty sh x.0 y.0 s x.1.0 x.1.1 k y.1.0 (y.1.1 ∙ e)));
        }

      pub sound-after : Sound hs g.root
      sound-after = rebuilt g.boxes hs g.root kept look fresh w rebuilds

      pub looks-after : (b q : ℕ) → has_box hs b ≡ true → loose hs b q ≡ look b q
      looks-after = looks-exact g.boxes hs g.root kept look fresh w rebuilds

      -- the check finds nothing after it
      pub select-formed : (h : QueryGraph) → h.boxes ≡ hs → h.root ≡ g.root → fault h ≡ None
      select-formed h e k = rebuilt-formed g h kept look fresh T once ((finds-none g once).1 wf) k
          (subst (λ (z : List Node). Rebuilds g.boxes z g.root kept look fresh) (sym e) rebuilds)
          (λ u i y. refl)
          (λ n i v f. subst (λ (z : List Node). HasForm z g.root T n) (sym e) (subst (λ (z : Node). HasForm hs g.root T z) (sym (only-new n (subst (λ (z : List Node). In n z) e i) f)) (form (subst (λ (z : List Node). Sound z g.root) e v))))
