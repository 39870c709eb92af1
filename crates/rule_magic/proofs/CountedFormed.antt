-- The select of counts: what is asked of it where it is made.
use Rattle.std.proofs.Common.{ℕ, suc, ◌==◌, ◌≡◌, ◌≤◌, ◌<◌, ◌+◌, ◌&&◌, ◌||◌, nat_le, nat_lt, cond, not, Bool, true, false, List, [], ◌∷◌, ◌++◌, map, length, Option, Some, None, refl, sym, ap, ap₂, subst, ◌∙◌, eqb-true, inl, inr, arith}
use Rattle.std.specs.Prelude.{slice_get}
use Rattle.std.specs.List.{list_all, list_any}
use Rattle.std.proofs.lemmas.Bool.{and_from, and_parts, cases_Bool, or_cases, or_from, or_left}
use Rattle.sql_value.specs.declared.order_key.SqlType.{SqlType}
use Rattle.sql_value.specs.declared.order_key.SqlType.TheVariants.{Integer}
use Rattle.qgm_core.specs.Boxes.{Ordered, ids_in, width}
use Rattle.qgm_core.specs.Edits.{range}
use Rattle.qgm_core.specs.Kinds.{is_S, is_permit}
use Rattle.list_laws.specs.Lists.{In, times}
use Rattle.qgm_core.specs.declared.kinds.BoxKind.TheVariants.{Select}
use Rattle.qgm_core.specs.declared.kinds.QuantKind.TheVariants.{F}
use Rattle.qgm_core.specs.declared.node.Node.{Node}
use Rattle.qgm_core.specs.declared.owned.OwnedQuant.{OwnedQuant}
use Rattle.qgm_wellformed.specs.Columns.{box_under, columns_fit, columns_of, fits}
use Rattle.qgm_wellformed.specs.Shapes.{is_scalar, is_unfolded, node_fits, nodes_of}
use Rattle.qgm_wellformed.specs.Types.{Lookup, agree, is_known, joined_column, term_type}
use Rattle.qgm_edit_laws.specs.Graph.{Sound}
use Rattle.qgm_edit_laws.specs.Scoped.{shows_by}
use Rattle.qgm_edit_laws.proofs.AnyPut.{heads-names}
use Rattle.qgm_edit_laws.proofs.AllColumns.{length-one}
use Rattle.qgm_edit_laws.proofs.Ranks.{same-box}
use Rattle.qgm_edit_laws.proofs.Read.{any-both, is_at, is_of, nodes-listed, unbound-reads}
use Rattle.qgm_edit_laws.proofs.OwnShapes.{rows-placed}
use Rattle.qgm_edit_laws.proofs.ShapeParts.{shape-from}
use Rattle.qgm_edit_laws.proofs.TypedKept.{found-under}
use Rattle.qgm_edit_laws.proofs.TypesBy.{found_by, via}
use Rattle.qgm_meaning.specs.Searches.{binds, names}
use Rattle.qgm_meaning.specs.Tags.{columns_from}
use Rattle.qgm_props.specs.Inferred.{is_count}
use Rattle.qgm_terms.specs.Terms as t
use Rattle.qgm_terms.specs.Terms.{Term}
use Rattle.qgm_terms.specs.Wanted.{has_aggregate, reads, reads_at}
use Rattle.qgm_terms.specs.declared.named.Column.{Column}
use Rattle.qgm_terms.specs.declared.named.QuantNode.{QuantNode}
use Rattle.qgm_terms.specs.declared.named.QuantNode.TheVariants as node
use Rattle.qgm_edit_laws.specs.Rebuilds.{HasForm, MadeIn}
use Rattle.qgm_edit_laws.proofs.ShapedPut.{all-joined}
use Rattle.rule_magic.specs.Boxes.{count_at, counted, counted_box}
use Rattle.rule_magic.proofs.AbsorbFacts.{read-append, read-columns}
use Rattle.rule_magic.proofs.BehindColumns.{columns-typed}
use Rattle.rule_magic.proofs.PairFormed.{known-map, le-from, lt-from, read-at-columns}
use Rattle.qgm_edit_laws.proofs.Rebuilt.{one-quant}
use Rattle.rule_magic.proofs.AbsorbSelectFormed.{columns-long, found-suc, length-append, map-append, none-aggregate, none-names}
use Rattle.list_laws.proofs.Booleans.{clash, or-false}
use Rattle.list_laws.proofs.Membership.{all-from, any-from, append-one, eq-itself}

-- ---- counts

count-reads : (p r k : ℕ) (b : Bool) → reads p (count_at r k b) ≡ true → (r == p) ≡ true
count-reads p r k false h = h
count-reads p r k true h = elim (r == p) as (λ z. ((z || (false || false)) || z) ≡ true → z ≡ true) [ true ↦ λ h. refl | false ↦ λ h. h ] h

counted-reads : (p r k : ℕ) (xs : List Term) → list_any (reads p) (counted r k xs) ≡ true → (r == p) ≡ true
counted-reads p r k [] h = absurd (let z : ⊥ = cc in z)
counted-reads p r k (x ∷ xs) h = elim (or_cases (reads p (count_at r k (is_count x))) (list_any (reads p) (counted r (suc k) xs)) h) [ inl e ↦ count-reads p r k (is_count x) e | inr e ↦ counted-reads p r (suc k) xs e ]

count-reads-at : (p j r k : ℕ) (b : Bool) → reads_at p j (count_at r k b) ≡ true → ((r == p) && (k == j)) ≡ true
count-reads-at p j r k false h = h
count-reads-at p j r k true h = elim ((r == p) && (k == j)) as (λ z. ((z || (false || false)) || z) ≡ true → z ≡ true) [ true ↦ λ h. refl | false ↦ λ h. h ] h

counted-reads-at : (p j r k : ℕ) (xs : List Term) → list_any (reads_at p j) (counted r k xs) ≡ true → ((r == p) ≡ true) × (k ≤ j) × (j < k + length xs)
counted-reads-at p j r k [] h = absurd (let z : ⊥ = cc in z)
counted-reads-at p j r k (x ∷ xs) h = elim (or_cases (reads_at p j (count_at r k (is_count x))) (list_any (reads_at p j) (counted r (suc k) xs)) h) [
  | inl e ↦ (let a = and_parts (r == p) (k == j) (count-reads-at p j r k (is_count x) e) in let b = eqb-true k j a.1 in (a.0, (omega (arith, b)), (omega (arith, b))))
  | inr e ↦ (let a = counted-reads-at p j r (suc k) xs e in let l = a.1 in let u = a.2 in (a.0, (omega (arith, l)), (omega (arith, u))))
]

count-none : (P : Term → Bool) → ((r k : ℕ) (b : Bool) → P (count_at r k b) ≡ false) → (r k : ℕ) (xs : List Term) → list_any P (counted r k xs) ≡ false
count-none P f r k [] = refl
count-none P f r k (x ∷ xs) = or_from (P (count_at r k (is_count x))) (list_any P (counted r (suc k) xs)) (f r k (is_count x)) (count-none P f r (suc k) xs)

count-names : (p r k : ℕ) (b : Bool) → names p (count_at r k b) ≡ false
count-names p r k true = refl
count-names p r k false = refl

count-folds : (r k : ℕ) (b : Bool) → has_aggregate (count_at r k b) ≡ false
count-folds r k true = refl
count-folds r k false = refl

counted-long : (r k : ℕ) (xs : List Term) → length (counted r k xs) ≡ length xs
counted-long r k [] = refl
counted-long r k (x ∷ xs) = ap suc (counted-long r (suc k) xs)

-- a count is a number
count-type : (L : Lookup) (x : Term) → is_count x ≡ true → is_known (term_type L x) ≡ true → term_type L x ≡ Some Integer
count-type L t.count_all h k = refl
count-type L (t.fold t.count e x) h k = ap (λ b. cond b (Some Integer) None) (known-if (is_known (term_type L x)) k)
  where
    known-if : (b : Bool) → is_known (cond b (Some Integer) None) ≡ true → b ≡ true
    known-if true h = refl
    known-if false h = absurd (let z : ⊥ = cc in z)
count-type L (t.fold t.single e x) h k = absurd (let z : ⊥ = cc in z)
count-type L (t.fold t.sum e x) h k = absurd (let z : ⊥ = cc in z)
count-type L (t.fold t.avg e x) h k = absurd (let z : ⊥ = cc in z)
count-type L (t.fold t.least e x) h k = absurd (let z : ⊥ = cc in z)
count-type L (t.fold t.greatest e x) h k = absurd (let z : ⊥ = cc in z)
count-type L (t.int n) h k = absurd (let z : ⊥ = cc in z)
count-type L (t.text n) h k = absurd (let z : ⊥ = cc in z)
count-type L t.null_int h k = absurd (let z : ⊥ = cc in z)
count-type L t.null_text h k = absurd (let z : ⊥ = cc in z)
count-type L (t.col q i) h k = absurd (let z : ⊥ = cc in z)
count-type L (t.scalar q) h k = absurd (let z : ⊥ = cc in z)
count-type L (t.both o x y) h k = absurd (let z : ⊥ = cc in z)
count-type L (t.minus_of x) h k = absurd (let z : ⊥ = cc in z)
count-type L (t.choose s x) h k = absurd (let z : ⊥ = cc in z)

counted-typed : (V L : Lookup) (r : ℕ) (pre : List (Option SqlType)) (xs : List Term) → ((k : ℕ) → V r (suc k) ≡ joined_column (slice_get (pre ++ map (term_type L) xs) k)) → list_all is_known (map (term_type L) xs) ≡ true
    → map (term_type V) (counted r (suc (length pre)) xs) ≡ map (term_type L) xs
counted-typed V L r pre [] h k = refl
counted-typed V L r pre (x ∷ xs) h k =
    let kn = and_parts (is_known (term_type L x)) (list_all is_known (map (term_type L) xs)) k in
    let here : V r (suc (length pre)) ≡ term_type L x = h (length pre) ∙ at pre in
    ap₂ (λ (y : Option SqlType) (ys : List (Option SqlType)). y ∷ ys) (cell (is_count x) refl here kn.0)
    (ap (λ i. map (term_type V) (counted r (suc i) xs)) (sym (length-one pre (term_type L x))) ∙ counted-typed V L r (pre ++ term_type L x ∷ []) xs (λ k. h k ∙ ap (λ (z : List (Option SqlType)). joined_column (slice_get z k)) (sym (append-one pre (term_type L x) (map (term_type L) xs)))) kn.1)
  where
    at : (pre : List (Option SqlType)) → joined_column (slice_get (pre ++ term_type L x ∷ map (term_type L) xs) (length pre)) ≡ term_type L x
    at [] = refl
    at (p ∷ pre) = at pre

    cell : (b : Bool) → is_count x ≡ b → V r (suc (length pre)) ≡ term_type L x → is_known (term_type L x) ≡ true → term_type V (count_at r (suc (length pre)) b) ≡ term_type L x
    cell false e here kn = here
    cell true e here kn =
        let number : term_type L x ≡ Some Integer = count-type L x e kn in
        ap (λ (z : Option SqlType). cond (is_known z && (agree (Some Integer) z && true)) z None) (here ∙ number) ∙ sym number

-- ---- the select

-- box n is the select over `below`
pub record IsOver (hs : List Node) (look : ℕ → ℕ → Bool) (n below : Node) (long : ℕ) : Type 0 where
  pub ordered : Ordered hs
  pub once : (p : ℕ) → times p (ids_in hs) ≤ 1
  pub in_n : In n hs
  pub in_below : In below hs
  pub closed : (p : ℕ) → look below.id p ≡ false
  pub nothing : (p : ℕ) → look n.id p ≡ false
  pub wide : width below ≡ long

module _ (hs : List Node) (look : ℕ → ℕ → Bool) (b r wm : ℕ) (xs : List Term) (below : Node) (is : IsOver hs look (counted_box b r wm xs below.id) below (wm + length xs)) where
  abbrev n : Node
  n = counted_box b r wm xs below.id

  abbrev cols : List Term
  cols = columns_from r 1 wm

  abbrev late : List Term
  late = counted r (suc wm) xs

  head-reads : (p : ℕ) → list_any (reads p) (cols ++ late) ≡ true → (r == p) ≡ true
  head-reads p h = elim (read-append p cols late h) [ inl y ↦ read-columns p r 1 wm y | inr y ↦ counted-reads p r (suc wm) xs y ]

  head-reads-at : (p j : ℕ) → list_any (reads_at p j) (cols ++ late) ≡ true → ((r == p) ≡ true) × ((1 ≤ j) × (j ≤ width below))
  head-reads-at p j h = elim (or_cases (list_any (reads_at p j) cols) (list_any (reads_at p j) late) (sym (any-both (reads_at p j) cols late) ∙ h)) [
    | inl y ↦ (let z = read-at-columns p j r 1 wm y in let lo = z.1 in let hi = z.2 in let e = is.wide in (z.0, ((omega (arith, lo)), (omega (arith, hi, e)))))
    | inr y ↦ (let z = counted-reads-at p j r (suc wm) xs y in let lo = z.1 in let hi = z.2 in let e = is.wide in (z.0, ((omega (arith, lo)), (omega (arith, hi, e)))))
  ]

  head-names : (p : ℕ) → list_any (names p) (cols ++ late) ≡ false
  head-names p = any-both (names p) cols late ∙ ap₂ (λ y z. y || z) (none-names p r 1 wm) (count-none (names p) (count-names p) r (suc wm) xs)

  pub counted-made : MadeIn hs look n
  counted-made = record {
    scoped = record { under = under; own = λ p h. or_left ((r == p) || false) (look b p) (or_left (r == p) false (head-reads p (sym (or-false (list_any (reads p) (cols ++ late))) ∙ h))) };
    settled = λ p o. is.nothing p;
    asks = λ p h. absurd (clash (look b p) h (is.nothing p));
    fits = λ p j h o s u i l e iu f. (
        let z = head-reads-at p j (sym (or-false (list_any (reads_at p j) (cols ++ late))) ∙ h) in
        let same : range r F below.id ≡ s = one-quant hs is.once (range r F below.id) s (n, (is.in_n, inl refl)) (o, (i, l)) (eqb-true r p z.0 ∙ sym e) in
        let to : below ≡ u = same-box hs below u is.ordered is.in_below iu (ap (λ (v : OwnedQuant). v.over) same ∙ sym f) in
        (z.1.0, subst (λ (v : Node). j ≤ width v) to z.1.1));
    own_nodes = λ p h. absurd (clash (list_any (names p) (cols ++ late)) (sym (or-false (list_any (names p) (cols ++ late))) ∙ h) (head-names p));
    bare = tt;
    arms = λ u s j i e. tt;
  }
    where
      under : (done : List OwnedQuant) (s : OwnedQuant) (rest : List OwnedQuant) → range r F below.id ∷ [] ≡ done ++ s ∷ rest → (p : ℕ) → look s.over p ≡ true → (shows_by Select n.quants done s p || look b p) ≡ true
      under [] s rest e p h =
          let z : range r F below.id ≡ s = cc e in
          absurd (clash (look below.id p) (subst (λ (z : OwnedQuant). look z.over p ≡ true) (sym z) h) (is.closed p))
      under (y ∷ []) s rest e p h = absurd (let z : ⊥ = cc e in z)
      under (y ∷ (z ∷ done)) s rest e p h = absurd (let z : ⊥ = cc e in z)

  pub width-counted : width n ≡ wm + length xs
  width-counted = length-append cols late ∙ ap₂ ◌+◌ (columns-long r 1 wm) (counted-long r (suc wm) xs)

  module _ (root : ℕ) (vs : Sound hs root) (T : ℕ → List (Option SqlType)) (L : Lookup) (M : List (Option SqlType)) (T-below : T below.id ≡ M ++ map (term_type L) xs) (long-m : length M ≡ wm)
      (T-n : T b ≡ M ++ map (term_type L) xs) (known_m : list_all is_known M ≡ true) (known_x : list_all is_known (map (term_type L) xs) ≡ true) (plain : is_permit below.parts.distinct ≡ false) (scalar : is_scalar hs b ≡ true → nat_lt 0 (width n) ≡ true) where
    abbrev V : Lookup
    V = via T hs

    under-r : box_under hs r ≡ Some below
    under-r = found-under hs root vs r (record { owner = n; quant = range r F below.id; box = below; owner_in = is.in_n; quant_in = inl refl; is_q = refl; box_in = is.in_below; is_over = refl })

    V-r : (j : ℕ) → V r (suc j) ≡ joined_column (slice_get (M ++ map (term_type L) xs) j)
    V-r j = ap (found_by T (suc j)) under-r ∙ found-suc T j below ∙ ap (λ (z : List (Option SqlType)). joined_column (slice_get z j)) T-below

    typed-new : T b ≡ map (term_type V) (cols ++ late)
    typed-new = T-n ∙ ap₂ (λ (y z : List (Option SqlType)). y ++ z) (sym (ap (λ z. map (term_type V) (columns_from r 1 z)) (sym long-m) ∙ columns-typed V r [] M (map (term_type L) xs) V-r))
        (sym (ap (λ y. map (term_type V) (counted r (suc y) xs)) (sym long-m) ∙ counted-typed V L r M xs V-r known_x)) ∙ sym (map-append (term_type V) cols late)

    no-binds : (p : ℕ) → (list_any (binds p) (cols ++ late) || false) ≡ false
    no-binds p = or_from (list_any (binds p) (cols ++ late)) false (elim (cases_Bool (list_any (binds p) (cols ++ late))) [ inr f ↦ f | inl e ↦ absurd (clash (list_any (names p) (cols ++ late)) (heads-names p (cols ++ late) e) (head-names p)) ]) refl

    columns-new : columns_fit hs n ≡ true
    columns-new = all-from (λ (y : Column). fits y.place (box_under hs y.quant)) (columns_of n) (λ y j. (
        let h = unbound-reads y.quant y.place n (no-binds y.quant) (any-from (is_at y.quant y.place) y (columns_of n) j (and_from (y.quant == y.quant) (y.place == y.place) (eq-itself y.quant) (eq-itself y.place))) in
        let z = head-reads-at y.quant y.place (sym (or-false (list_any (reads_at y.quant y.place) (cols ++ late))) ∙ h) in
        let e : r ≡ y.quant = eqb-true r y.quant z.0 in
        ap (fits y.place) (subst (λ i. box_under hs i ≡ Some below) e under-r) ∙ and_from (nat_lt 0 y.place) (nat_le y.place (width below)) (lt-from 0 y.place (let l = z.1.0 in omega (arith, l))) (le-from y.place (width below) z.1.1)))

    no-nodes : (p : ℕ) → (y : QuantNode) → In y (nodes_of n) → is_of p y ≡ true → ⊥
    no-nodes p y j h = clash (list_any (names p) (cols ++ late)) (sym (or-false (list_any (names p) (cols ++ late))) ∙ sym (nodes-listed p n) ∙ any-from (is_of p) y (nodes_of n) j h) (head-names p)

    each-node : (y : QuantNode) → In y (nodes_of n) → ⊥
    each-node (node.Scalar p) j = no-nodes p (node.Scalar p) j (eq-itself p)
    each-node (node.Some p) j = no-nodes p (node.Some p) j (eq-itself p)
    each-node (node.Every p) j = no-nodes p (node.Every p) j (eq-itself p)

    pub counted-form : HasForm hs root T n
    counted-form = record {
      columns_typed = typed-new;
      agrees = and_from (list_all (λ y. is_known (term_type V y)) (cols ++ late)) true (known-map V (cols ++ late) ∙ ap (list_all is_known) (sym typed-new ∙ T-n) ∙ all-joined is_known M (map (term_type L) xs) known_m known_x) refl;
      columns = columns-new;
      shape = shape-from root hs n (record {
        kind = and_from (is_unfolded n) true (ap (λ c. not c && true) (any-both has_aggregate cols late ∙ ap₂ (λ c d. c || d) (none-aggregate r 1 wm) (count-none has_aggregate count-folds r (suc wm) xs))) refl;
        nodes = all-from (node_fits n.quants) (nodes_of n) (λ y j. absurd (each-node y j));
        placed = rows-placed n refl;
        scalar = scalar;
      });
      hidden = λ p. absurd (clash false p refl);
      unseen = λ s u j l i e. elim j [
        | inl y ↦ subst (λ (z : Node). is_permit z.parts.distinct ≡ false) (same-box hs below u is.ordered is.in_below i (ap (λ (z : OwnedQuant). z.over) y ∙ sym e)) plain
        | inr y ↦ elim y [ ]
      ];
      scalars = λ s u j l i e. absurd (elim j [ inl y ↦ (let z : is_S F ≡ true = subst (λ (z : OwnedQuant). is_S z.kind ≡ true) (sym y) l in let u : ⊥ = cc in u) | inr y ↦ elim y [ ] ]);
    }
