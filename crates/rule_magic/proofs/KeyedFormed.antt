-- The group by tags and keys: what is asked of it where it is made.
use Rattle.std.proofs.Common.{ℕ, zero, suc, ◌==◌, ◌≡◌, ◌≤◌, ◌+◌, ◌&&◌, ◌||◌, nat_le, nat_lt, cond, not, Bool, true, false, List, [], ◌∷◌, ◌++◌, map, length, take, drop, Option, Some, refl, sym, ap, ap₂, subst, ◌∙◌, eqb-true, inl, inr, arith}
use Rattle.std.specs.Prelude.{slice_get}
use Rattle.std.specs.List.{flat_map, list_all, list_any}
use Rattle.std.proofs.lemmas.Bool.{and_from, and_parts, cases_Bool, eq-eqb, leb-true, or_cases, or_from, or_left}
use Rattle.sql_value.specs.declared.order_key.SqlType.{SqlType}
use Rattle.qgm_core.specs.Boxes.{Ordered, ids_in, owns, width}
use Rattle.qgm_core.specs.Edits.{range}
use Rattle.qgm_core.specs.Free.{named_by}
use Rattle.qgm_core.specs.Kinds.{is_S, is_permit}
use Rattle.list_laws.specs.Lists.{In, holds, times}
use Rattle.qgm_core.specs.declared.kinds.BoxKind.TheVariants.{Select}
use Rattle.qgm_core.specs.declared.kinds.QuantKind.TheVariants.{F}
use Rattle.qgm_core.specs.declared.node.Node.{Node}
use Rattle.qgm_core.specs.declared.owned.OwnedQuant.{OwnedQuant}
use Rattle.qgm_wellformed.specs.Columns.{box_under, columns_fit, columns_of, fits}
use Rattle.qgm_wellformed.specs.Shapes.{head_folds, head_is_own, is_aggregate, is_scalar, node_fits, nodes_of, shape_fits}
use Rattle.qgm_wellformed.specs.Types.{Lookup, is_known, joined_column, term_type}
use Rattle.qgm_edit_laws.specs.Graph.{Sound, nodes_in}
use Rattle.qgm_edit_laws.proofs.AnyPut.{heads-names}
use Rattle.qgm_edit_laws.proofs.Ranks.{same-box}
use Rattle.qgm_edit_laws.proofs.Read.{any-both, is_at, is_of, named-split, nodes-listed, unbound-reads}
use Rattle.qgm_edit_laws.proofs.Settled.{term-local}
use Rattle.qgm_edit_laws.proofs.OwnShapes.{rows-placed}
use Rattle.qgm_edit_laws.proofs.ShapeParts.{shape-from}
use Rattle.qgm_edit_laws.proofs.TypedKept.{found-under}
use Rattle.qgm_edit_laws.proofs.PutTypes.{all-put, mixed, term-mixed, types-put}
use Rattle.qgm_edit_laws.proofs.TypesBy.{found_by, via}
use Rattle.qgm_meaning.specs.Scope.{read_by}
use Rattle.qgm_meaning.specs.Searches.{binds, names}
use Rattle.qgm_meaning.specs.Tags.{columns_from}
use Rattle.qgm_terms.specs.Named.{names_in}
use Rattle.qgm_terms.specs.Substitution.{cell_at, substituted}
use Rattle.qgm_terms.specs.Terms.{Term}
use Rattle.qgm_terms.specs.Wanted.{has_aggregate, reads, reads_at}
use Rattle.qgm_terms.specs.declared.named.Column.{Column}
use Rattle.qgm_terms.specs.declared.named.QuantNode.{QuantNode}
use Rattle.qgm_terms.specs.declared.named.QuantNode.TheVariants as node
use Rattle.qgm_edit_laws.specs.Rebuilds.{HasForm, MadeIn}
use Rattle.qgm_edit_laws.proofs.Edits.{length-map}
use Rattle.rule_magic.specs.Boxes.{behind, keyed_box, later}
use Rattle.rule_magic.proofs.AbsorbFacts.{read-append, read-columns}
use Rattle.rule_magic.proofs.BehindColumns.{aggregates-behind, columns-typed, drop-map, folds-behind, names-behind, pointwise, reads-at-behind, reads-behind, take-map}
use Rattle.rule_magic.proofs.PairFormed.{known-map, le-from, lt-from, read-at-columns}
use Rattle.qgm_edit_laws.proofs.Rebuilt.{one-quant}
use Rattle.rule_magic.proofs.AbsorbSelectFormed.{columns-long, found-suc, length-append, map-append, none-aggregate, none-names}
use Rattle.rule_magic.proofs.TaggedWidths.{drop-plus, take-plus}
use Rattle.list_laws.proofs.Membership.{all-from, any-from, any-none, eq-itself, in-holds, in-left}
use Rattle.list_laws.proofs.Booleans.{clash, or-false}

-- the head names columns of q alone, of which there are v, and has no node
pub record IsHead (q v : ℕ) (head : List Term) : Type 0 where
  pub reads : (p : ℕ) → list_any (reads p) head ≡ true → p ≡ q
  pub places : (p j : ℕ) → list_any (reads_at p j) head ≡ true → (p ≡ q) × ((1 ≤ j) × (j ≤ v))
  pub names : (p : ℕ) → list_any (names p) head ≡ false
  pub named : (y : Term) → In y head → (p : ℕ) → In p (names_in y) → p ≡ q

-- box n is the group over the pair
pub record IsKeyed (hs : List Node) (look : ℕ → ℕ → Bool) (n below : Node) (wm v : ℕ) : Type 0 where
  pub ordered : Ordered hs
  pub once : (p : ℕ) → times p (ids_in hs) ≤ 1
  pub in_n : In n hs
  pub in_below : In below hs
  pub closed : (p : ℕ) → look below.id p ≡ false
  pub nothing : (p : ℕ) → look n.id p ≡ false
  pub wide : width below ≡ wm + v

module _ (hs : List Node) (look : ℕ → ℕ → Bool) (b keys q r wm v : ℕ) (head : List Term) (below : Node) (ok : IsHead q v head) (is : IsKeyed hs look (keyed_box b (wm + keys) q r wm v head below.id) below wm v) where
  abbrev n : Node
  n = keyed_box b (wm + keys) q r wm v head below.id

  abbrev cols : List Term
  cols = columns_from r 1 wm

  abbrev late : List Term
  late = behind q r wm v head

  reads-at-own : (p j : ℕ) → list_any (reads_at p j) head ≡ true → p ≡ q
  reads-at-own p j h = (ok.places p j h).0

  head-reads : (p : ℕ) → list_any (reads p) (cols ++ late) ≡ true → (r == p) ≡ true
  head-reads p h = elim (read-append p cols late h) [ inl y ↦ read-columns p r 1 wm y | inr y ↦ reads-behind q r wm v head ok.reads reads-at-own (ok.names q) p y ]

  head-reads-at : (p j : ℕ) → list_any (reads_at p j) (cols ++ late) ≡ true → ((r == p) ≡ true) × ((1 ≤ j) × (j ≤ width below))
  head-reads-at p j h = elim (or_cases (list_any (reads_at p j) cols) (list_any (reads_at p j) late) (sym (any-both (reads_at p j) cols late) ∙ h)) [
    | inl y ↦ (let z = read-at-columns p j r 1 wm y in let lo = z.1 in let hi = z.2 in let e = is.wide in (z.0, ((omega (arith, lo)), (omega (arith, hi, e)))))
    | inr y ↦ (let z = reads-at-behind q r wm v head ok.reads reads-at-own (ok.names q) p j y in let lo = z.1 in let hi = z.2 in let e = is.wide in (z.0, ((omega (arith, lo)), (omega (arith, hi, e)))))
  ]

  head-names : (p : ℕ) → list_any (names p) (cols ++ late) ≡ false
  head-names p = any-both (names p) cols late ∙ ap₂ (λ y z. y || z) (none-names p r 1 wm) (names-behind q r wm v p head ∙ ok.names p)

  pub keyed-made : MadeIn hs look n
  keyed-made = record {
    scoped = record { under = under; own = λ p h. or_left ((r == p) || false) (look b p) (or_left (r == p) false (head-reads p (sym (or-false (list_any (reads p) (cols ++ late))) ∙ h))) };
    settled = λ p o. is.nothing p;
    asks = λ p h. absurd (clash (look b p) h (is.nothing p));
    fits = λ p j h o s u i l e iu f. (
        let z = head-reads-at p j (sym (or-false (list_any (reads_at p j) (cols ++ late))) ∙ h) in
        let same : range r F below.id ≡ s = one-quant hs is.once (range r F below.id) s (n, (is.in_n, inl refl)) (o, (i, l)) (eqb-true r p z.0 ∙ sym e) in
        let to : below ≡ u = same-box hs below u is.ordered is.in_below iu (ap (λ (v : OwnedQuant). v.over) same ∙ sym f) in
        (z.1.0, subst (λ (v : Node). j ≤ width v) to z.1.1));
    own_nodes = λ p h. absurd (clash (list_any (names p) (cols ++ late)) (sym (or-false (list_any (names p) (cols ++ late))) ∙ h) (head-names p));
    bare = tt;
    arms = λ u s j i e. tt;
  }
    where
      under : (done : List OwnedQuant) (s : OwnedQuant) (rest : List OwnedQuant) → range r F below.id ∷ [] ≡ done ++ s ∷ rest → (p : ℕ) → look s.over p ≡ true → (false || look b p) ≡ true
      under [] s rest e p h =
          let z : range r F below.id ≡ s = cc e in
          absurd (clash (look below.id p) (subst (λ (z : OwnedQuant). look z.over p ≡ true) (sym z) h) (is.closed p))
      under (y ∷ []) s rest e p h = absurd (let z : ⊥ = cc e in z)
      under (y ∷ (z ∷ done)) s rest e p h = absurd (let z : ⊥ = cc e in z)

  pub width-keyed : width n ≡ wm + length head
  width-keyed = length-append cols late ∙ ap₂ ◌+◌ (columns-long r 1 wm) (length-map (substituted q (later r wm v)) head)

  module _ (root : ℕ) (vs : Sound hs root) (T : ℕ → List (Option SqlType)) (L : Lookup) (M X : List (Option SqlType)) (T-below : T below.id ≡ M ++ X) (long-m : length M ≡ wm) (long-x : length X ≡ v) (L-x : map (term_type L) (columns_from q 1 v) ≡ X)
      (T-n : T b ≡ M ++ map (term_type L) head) (known : list_all is_known (T b) ≡ true) (folds : head_folds keys head ≡ true) (plain : is_permit below.parts.distinct ≡ false) (scalar : is_scalar hs b ≡ true → nat_lt 0 (width n) ≡ true) where
    abbrev V : Lookup
    V = via T hs

    pub under-r : box_under hs r ≡ Some below
    under-r = found-under hs root vs r (record { owner = n; quant = range r F below.id; box = below; owner_in = is.in_n; quant_in = inl refl; is_q = refl; box_in = is.in_below; is_over = refl })

    V-r : (j : ℕ) → V r (suc j) ≡ joined_column (slice_get (M ++ X) j)
    V-r j = ap (found_by T (suc j)) under-r ∙ found-suc T j below ∙ ap (λ (z : List (Option SqlType)). joined_column (slice_get z j)) T-below

    V-m : map (term_type V) cols ≡ M
    V-m = ap (λ z. map (term_type V) (columns_from r 1 z)) (sym long-m) ∙ columns-typed V r [] M X V-r

    V-x : map (term_type V) (later r wm v) ≡ X
    V-x = ap₂ (λ y z. map (term_type V) (columns_from r (suc y) z)) (sym long-m) (sym long-x) ∙ columns-typed V r M X [] (λ j. V-r j ∙ ap (λ (z : List (Option SqlType)). joined_column (slice_get (M ++ z) j)) (nothing-more X))
      where
        nothing-more : (zs : List (Option SqlType)) → zs ≡ zs ++ []
        nothing-more [] = refl
        nothing-more (z ∷ zs) = ap (λ (y : List (Option SqlType)). z ∷ y) (nothing-more zs)

    abbrev cells_q : List Term
    cells_q = later r wm v

    V-head : map (term_type V) late ≡ map (term_type L) head
    V-head = types-put L V q cells_q Select head (λ y i. term-mixed L V q cells_q y (any-none (names q) y head (ok.names q) i) (good y i) ∙ term-local (mixed L V q cells_q) L (λ n. n == q) alike y (all-from (λ n. n == q) (names_in y) (λ n j. eq-eqb n q (ok.named y i n j))))
      where
        alike : (n : ℕ) → (n == q) ≡ true → (j : ℕ) → mixed L V q cells_q n j ≡ L n j
        alike n e j = ap (λ b. cond b (L q j) (V n j)) e ∙ ap (λ z. L z j) (sym (eqb-true n q e))

        good : (y : Term) → In y head → (j : ℕ) → reads_at q j y ≡ true → term_type V (cell_at j cells_q) ≡ L q j
        good y i j h = at j (ok.places q j (any-from (reads_at q j) y head i h)).1
          where
            at : (j : ℕ) → (1 ≤ j) × (j ≤ v) → term_type V (cell_at j cells_q) ≡ L q j
            at zero l = absurd (let z = l.0 in omega (arith, z))
            at (suc j) l = pointwise V L r q (suc wm) 1 v (V-x ∙ sym L-x) j (let z = l.1 in omega (arith, z)) ∙ ap (L q) (omega arith)

    typed-new : T b ≡ map (term_type V) (cols ++ late)
    typed-new = T-n ∙ ap₂ (λ (y z : List (Option SqlType)). y ++ z) (sym V-m) (sym V-head) ∙ sym (map-append (term_type V) cols late)

    no-binds : (p : ℕ) → (list_any (binds p) (cols ++ late) || false) ≡ false
    no-binds p = or_from (list_any (binds p) (cols ++ late)) false (elim (cases_Bool (list_any (binds p) (cols ++ late))) [ inr f ↦ f | inl e ↦ absurd (clash (list_any (names p) (cols ++ late)) (heads-names p (cols ++ late) e) (head-names p)) ]) refl

    columns-new : columns_fit hs n ≡ true
    columns-new = all-from (λ (y : Column). fits y.place (box_under hs y.quant)) (columns_of n) (λ y j. (
        let h = unbound-reads y.quant y.place n (no-binds y.quant) (any-from (is_at y.quant y.place) y (columns_of n) j (and_from (y.quant == y.quant) (y.place == y.place) (eq-itself y.quant) (eq-itself y.place))) in
        let z = head-reads-at y.quant y.place (sym (or-false (list_any (reads_at y.quant y.place) (cols ++ late))) ∙ h) in
        let e : r ≡ y.quant = eqb-true r y.quant z.0 in
        ap (fits y.place) (subst (λ i. box_under hs i ≡ Some below) e under-r) ∙ and_from (nat_lt 0 y.place) (nat_le y.place (width below)) (lt-from 0 y.place (let l = z.1.0 in omega (arith, l))) (le-from y.place (width below) z.1.1)))

    folds-new : head_folds (wm + keys) (cols ++ late) ≡ true
    folds-new =
        let f = and_parts (nat_le keys (length head) && not (list_any has_aggregate (take keys head))) (list_all is_aggregate (drop keys head)) folds in
        let l = and_parts (nat_le keys (length head)) (not (list_any has_aggregate (take keys head))) f.0 in
        let long = leb-true keys (length head) l.0 in
        let e = width-keyed in
        let counted : wm + keys ≡ length cols + keys = ap (λ z. z + keys) (sym (columns-long r 1 wm)) in
        and_from (nat_le (wm + keys) (length (cols ++ late)) && not (list_any has_aggregate (take (wm + keys) (cols ++ late)))) (list_all is_aggregate (drop (wm + keys) (cols ++ late)))
        (and_from (nat_le (wm + keys) (length (cols ++ late))) (not (list_any has_aggregate (take (wm + keys) (cols ++ late))))
        (le-from (wm + keys) (length (cols ++ late)) (omega (arith, long, e)))
        (ap not (ap (list_any has_aggregate) (take-plus cols late keys (wm + keys) counted ∙ ap (λ (z : List Term). cols ++ z) (take-map (substituted q cells_q) keys head))
        ∙ any-both has_aggregate cols (map (substituted q cells_q) (take keys head))
        ∙ ap₂ (λ y z. y || z) (none-aggregate r 1 wm) (aggregates-behind q r wm v (take keys head))) ∙ l.1))
        (ap (list_all is_aggregate) (drop-plus cols late keys (wm + keys) counted ∙ drop-map (substituted q cells_q) keys head)
        ∙ all-put is_aggregate is_aggregate (substituted q cells_q) (drop keys head) (λ y i. folds-behind q r wm v y) ∙ f.1)

    named-new : (p : ℕ) → holds p (named_by n) ≡ true → owns p n ≡ true
    named-new p h = elim (or_cases (read_by n p) (nodes_in p n) (named-split p n h)) [
      | inl y ↦ or_left (r == p) false (head-reads p (sym (or-false (list_any (reads p) (cols ++ late))) ∙ y))
      | inr y ↦ absurd (clash (list_any (names p) (cols ++ late)) (sym (or-false (list_any (names p) (cols ++ late))) ∙ y) (head-names p))
    ]

    no-nodes : (p : ℕ) → (y : QuantNode) → In y (nodes_of n) → is_of p y ≡ true → ⊥
    no-nodes p y j h = clash (list_any (names p) (cols ++ late)) (sym (or-false (list_any (names p) (cols ++ late))) ∙ sym (nodes-listed p n) ∙ any-from (is_of p) y (nodes_of n) j h) (head-names p)

    shape-new : shape_fits root hs n ≡ true
    shape-new = shape-from root hs n (record {
      kind = and_from (head_folds (wm + keys) (cols ++ late)) (head_is_own n) folds-new
          (all-from (λ p. owns p n) (flat_map names_in (cols ++ late)) (λ p j. named-new p (in-holds p (named_by n) (in-left p (flat_map names_in (cols ++ late)) [] j))));
      nodes = all-from (node_fits n.quants) (nodes_of n) (λ y j. absurd (each-node y j));
      placed = rows-placed n refl;
      scalar = scalar;
    })
      where
        each-node : (y : QuantNode) → In y (nodes_of n) → ⊥
        each-node (node.Scalar p) j = no-nodes p (node.Scalar p) j (eq-itself p)
        each-node (node.Some p) j = no-nodes p (node.Some p) j (eq-itself p)
        each-node (node.Every p) j = no-nodes p (node.Every p) j (eq-itself p)

    pub keyed-form : HasForm hs root T n
    keyed-form = record {
      columns_typed = typed-new;
      agrees = and_from (list_all (λ y. is_known (term_type V y)) (cols ++ late)) true (known-map V (cols ++ late) ∙ ap (list_all is_known) (sym typed-new) ∙ known) refl;
      columns = columns-new;
      shape = shape-new;
      hidden = λ p. absurd (clash false p refl);
      unseen = λ s u j l i e. elim j [
        | inl y ↦ subst (λ (z : Node). is_permit z.parts.distinct ≡ false) (same-box hs below u is.ordered is.in_below i (ap (λ (z : OwnedQuant). z.over) y ∙ sym e)) plain
        | inr y ↦ elim y [ ]
      ];
      scalars = λ s u j l i e. absurd (elim j [ inl y ↦ (let z : is_S F ≡ true = subst (λ (z : OwnedQuant). is_S z.kind ≡ true) (sym y) l in let u : ⊥ = cc in u) | inr y ↦ elim y [ ] ]);
    }
