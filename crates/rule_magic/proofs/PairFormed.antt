-- A select over the magic box and another, of which the head is all columns of both: what is asked of it where it is made.
use Rattle.std.proofs.Common.{ℕ, zero, suc, ◌==◌, ◌≡◌, ◌≤◌, ◌<◌, ◌+◌, ◌&&◌, ◌||◌, nat_le, nat_lt, not, Bool, true, false, List, [], ◌∷◌, ◌++◌, map, length, Option, Some, refl, sym, ap, ap₂, subst, ◌∙◌, eqb-true, ◌⊎◌, inl, inr, arith}
use Rattle.std.specs.List.{flat_map, list_all, list_any}
use Rattle.std.proofs.lemmas.Bool.{and_from, and_parts, cases_Bool, eq-eqb, leb-false, ltb-false, or_cases, or_left, or_right}
use Rattle.sql_value.specs.declared.order_key.SqlType.{SqlType}
use Rattle.qgm_core.specs.Boxes.{Ordered, ids_in, width}
use Rattle.qgm_core.specs.Edits.{range}
use Rattle.qgm_core.specs.Kinds.{is_S, is_magic, is_permit}
use Rattle.list_laws.specs.Lists.{In, times}
use Rattle.qgm_core.specs.declared.kinds.BoxKind.TheVariants.{Select}
use Rattle.qgm_core.specs.declared.kinds.QuantKind.TheVariants.{F}
use Rattle.qgm_core.specs.declared.kinds.Role.{Role}
use Rattle.qgm_core.specs.declared.kinds.Role.TheVariants.{Fed, Plain}
use Rattle.qgm_core.specs.declared.node.Node.{Node}
use Rattle.qgm_core.specs.declared.owned.OwnedQuant.{OwnedQuant}
use Rattle.qgm_wellformed.specs.Columns.{box_under, columns_fit, fits}
use Rattle.qgm_wellformed.specs.Shapes as shape
use Rattle.qgm_wellformed.specs.Shapes.{columns_through, fed_by, is_column, is_scalar, is_unfolded, magic_found, node_fits, role_fits, same_columns, width_found}
use Rattle.qgm_wellformed.specs.Types.{Lookup, is_known, term_type}
use Rattle.qgm_edit_laws.specs.Graph.{Sound, binds_row}
use Rattle.qgm_edit_laws.specs.Scoped.{Scoped, shows_by}
use Rattle.qgm_edit_laws.proofs.FreeLoose.{alone-from}
use Rattle.qgm_edit_laws.proofs.Ranks.{same-box}
use Rattle.qgm_edit_laws.proofs.Read.{any-both}
use Rattle.qgm_edit_laws.proofs.Scope.{in-first}
use Rattle.qgm_edit_laws.proofs.ShapeParts.{shape-from, two-from}
use Rattle.qgm_edit_laws.proofs.OwnShapes.{rows-placed}
use Rattle.qgm_edit_laws.proofs.TypedKept.{found-under}
use Rattle.qgm_edit_laws.proofs.TypesBy.{found_by, via}
use Rattle.qgm_meaning.specs.Scope.{loose, read_by}
use Rattle.qgm_meaning.specs.Searches.{names}
use Rattle.qgm_meaning.specs.Tags.{columns_from}
use Rattle.qgm_terms.specs.Named as named
use Rattle.qgm_terms.specs.Named.{columns_in}
use Rattle.qgm_terms.specs.Terms.{Term}
use Rattle.qgm_terms.specs.Wanted.{has_aggregate, reads, reads_at}
use Rattle.qgm_terms.specs.declared.named.Column.{Column}
use Rattle.qgm_edit_laws.specs.Rebuilds.{HasForm, IsOwned, MadeIn}
use Rattle.qgm_edit_laws.proofs.ShapedPut.{all-joined}
use Rattle.rule_feed.proofs.FeedShapes.{same-itself}
use Rattle.rule_magic.specs.Boxes.{pair_box}
use Rattle.rule_magic.proofs.AbsorbFacts.{read-append, read-columns}
use Rattle.qgm_edit_laws.proofs.Rebuilt.{one-quant}
use Rattle.rule_magic.proofs.AbsorbSelectFormed.{columns-long, columns-types, found-suc, flat-append, length-append, map-append, none-aggregate, none-names, none-nodes}
use Rattle.list_laws.proofs.Booleans.{clash, or-false}

-- ---- columns

pub lt-from : (m n : ℕ) → m < n → nat_lt m n ≡ true
lt-from m n l = elim (cases_Bool (nat_lt m n)) [ inl t ↦ t | inr f ↦ absurd (let a = ltb-false m n f in omega (arith, a, l)) ]

pub le-from : (m n : ℕ) → m ≤ n → nat_le m n ≡ true
le-from m n l = elim (cases_Bool (nat_le m n)) [ inl t ↦ t | inr f ↦ absurd (let a = leb-false m n f in omega (arith, a, l)) ]

pub read-at-columns : (p k q j w : ℕ) → list_any (reads_at p k) (columns_from q j w) ≡ true → ((q == p) ≡ true) × (j ≤ k) × (k < j + w)
read-at-columns p k q j zero h = absurd (let z : ⊥ = cc in z)
read-at-columns p k q j (suc w) h = elim (or_cases ((q == p) && (j == k)) (list_any (reads_at p k) (columns_from q (suc j) w)) h) [
  | inl e ↦ (let a = and_parts (q == p) (j == k) e in let b = eqb-true j k a.1 in (a.0, (omega (arith, b)), (omega (arith, b))))
  | inr e ↦ (let a = read-at-columns p k q (suc j) w e in let l = a.1 in let u = a.2 in (a.0, (omega (arith, l)), (omega (arith, u))))
]

pub listed-columns : (q k w : ℕ) → flat_map columns_in (columns_from q k w) ≡ shape.columns_from q k w
listed-columns q k zero = refl
listed-columns q k (suc w) = ap (λ (z : List Column). record { quant = q; place = k } ∷ z) (listed-columns q (suc k) w ∙ ap (λ i. shape.columns_from q i w) (omega arith))

pub all-columns : (q k w : ℕ) → list_all is_column (columns_from q k w) ≡ true
all-columns q k zero = refl
all-columns q k (suc w) = all-columns q (suc k) w

pub columns-within : (bs : List Node) (q k w v : ℕ) (u : Node) → box_under bs q ≡ Some u → width u ≡ v → 1 ≤ k → k + w ≤ suc v → list_all (λ (c : Column). fits c.place (box_under bs c.quant)) (flat_map columns_in (columns_from q k w)) ≡ true
columns-within bs q k zero v u f e l m = refl
columns-within bs q k (suc w) v u f e l m = and_from (fits k (box_under bs q)) (list_all (λ (c : Column). fits c.place (box_under bs c.quant)) (flat_map columns_in (columns_from q (suc k) w)))
    (ap (fits k) f ∙ and_from (nat_lt 0 k) (nat_le k (width u)) (lt-from 0 k (omega (arith, l))) (le-from k (width u) (omega (arith, m, e))))
    (columns-within bs q (suc k) w v u f e (omega (arith, l)) (omega (arith, m)))

pub known-map : (L : Lookup) (xs : List Term) → list_all (λ y. is_known (term_type L y)) xs ≡ list_all is_known (map (term_type L) xs)
known-map L [] = refl
known-map L (x ∷ xs) = ap (λ b. is_known (term_type L x) && b) (known-map L xs)

-- box b of these is the pair of m and x
pub record IsPair (hs : List Node) (look : ℕ → ℕ → Bool) (n m x : Node) (a q : ℕ) : Type 0 where
  pub ordered : Ordered hs
  pub once : (p : ℕ) → times p (ids_in hs) ≤ 1
  pub in_n : In n hs
  pub in_m : In m hs
  pub in_x : In x hs
  pub apart : (a == q) ≡ false
  pub closed : (p : ℕ) → look m.id p ≡ false
  pub alone : (p : ℕ) → look x.id p ≡ true → p ≡ a
  pub nothing : (p : ℕ) → look n.id p ≡ false

module _ (hs : List Node) (look : ℕ → ℕ → Bool) (b a q : ℕ) (role : Role) (m x : Node) (is : IsPair hs look (pair_box b role a m.id (width m) q x.id (width x)) m x a q) where
  abbrev n : Node
  n = pair_box b role a m.id (width m) q x.id (width x)

  abbrev one : List Term
  one = columns_from a 1 (width m)

  abbrev two : List Term
  two = columns_from q 1 (width x)

  binds-two : (p : ℕ) → ((a == p) ≡ true) ⊎ ((q == p) ≡ true) → binds_row p n.quants ≡ true
  binds-two p h = elim h [ inl e ↦ or_left (a == p) ((q == p) || false) e | inr e ↦ or_right (a == p) ((q == p) || false) (or_left (q == p) false e) ]

  scoped : Scoped look n
  scoped = record { under = λ done s rest e p h. or_left (shows_by Select n.quants done s p) (look b p) (under done s rest e p h); own = λ p h. or_left (binds_row p n.quants) (look b p) (own p h) }
    where
      under : (done : List OwnedQuant) (s : OwnedQuant) (rest : List OwnedQuant) → range a F m.id ∷ (range q F x.id ∷ []) ≡ done ++ s ∷ rest → (p : ℕ) → look s.over p ≡ true → shows_by Select n.quants done s p ≡ true
      under [] s rest e p h =
          let k : range a F m.id ≡ s = cc e in
          absurd (clash (look m.id p) (subst (λ (z : OwnedQuant). look z.over p ≡ true) (sym k) h) (is.closed p))
      under (y ∷ []) s rest e p h =
          let k : range a F m.id ≡ y = cc e in
          let l : range q F x.id ≡ s = cc e in
          subst (λ (z : OwnedQuant). shows_by Select n.quants (z ∷ []) s p ≡ true) k
          (subst (λ (z : OwnedQuant). shows_by Select n.quants (range a F m.id ∷ []) z p ≡ true) l
          (or_left (a == p) false (eq-eqb a p (sym (is.alone p (subst (λ (z : OwnedQuant). look z.over p ≡ true) (sym l) h))))))
      under (y ∷ (z ∷ [])) s rest e p h = absurd (let k : ⊥ = cc e in k)
      under (y ∷ (z ∷ (u ∷ done))) s rest e p h = absurd (let k : ⊥ = cc e in k)

      own : (p : ℕ) → read_by n p ≡ true → binds_row p n.quants ≡ true
      own p h = elim (read-append p one two (sym (or-false (list_any (reads p) (one ++ two))) ∙ h)) [
        | inl e ↦ binds-two p (inl (read-columns p a 1 (width m) e))
        | inr e ↦ binds-two p (inr (read-columns p q 1 (width x) e))
      ]

  owned-a : IsOwned hs (range a F m.id)
  owned-a = (n, (is.in_n, inl refl))

  owned-q : IsOwned hs (range q F x.id)
  owned-q = (n, (is.in_n, inr (inl refl)))

  pub pair-made : MadeIn hs look n
  pair-made = record {
    scoped = scoped;
    settled = λ p o. is.nothing p;
    asks = λ p h. absurd (clash (look b p) h (is.nothing p));
    fits = λ p k h o s u i j e l f. elim (or_cases (list_any (reads_at p k) one) (list_any (reads_at p k) two) (sym (any-both (reads_at p k) one two) ∙ sym (or-false (list_any (reads_at p k) (one ++ two))) ∙ h)) [
      | inl y ↦ (
          let z = read-at-columns p k a 1 (width m) y in
          let same : range a F m.id ≡ s = one-quant hs is.once (range a F m.id) s owned-a (o, (i, j)) (eqb-true a p z.0 ∙ sym e) in
          let under : m ≡ u = same-box hs m u is.ordered is.in_m l (ap (λ (v : OwnedQuant). v.over) same ∙ sym f) in
          let lo = z.1 in let hi = z.2 in
          ((omega (arith, lo)), subst (λ (v : Node). k ≤ width v) under (omega (arith, hi))))
      | inr y ↦ (
          let z = read-at-columns p k q 1 (width x) y in
          let same : range q F x.id ≡ s = one-quant hs is.once (range q F x.id) s owned-q (o, (i, j)) (eqb-true q p z.0 ∙ sym e) in
          let under : x ≡ u = same-box hs x u is.ordered is.in_x l (ap (λ (v : OwnedQuant). v.over) same ∙ sym f) in
          let lo = z.1 in let hi = z.2 in
          ((omega (arith, lo)), subst (λ (v : Node). k ≤ width v) under (omega (arith, hi))))
    ];
    own_nodes = λ p h. absurd (clash (list_any (names p) (one ++ two)) (sym (or-false (list_any (names p) (one ++ two))) ∙ h) (any-both (names p) one two ∙ ap₂ (λ c d. c || d) (none-names p a 1 (width m)) (none-names p q 1 (width x))));
    bare = tt;
    arms = λ u s j i e. tt;
  }

  pub width-pair : width n ≡ width m + width x
  width-pair = length-append one two ∙ ap₂ ◌+◌ (columns-long a 1 (width m)) (columns-long q 1 (width x))

  module _ (root : ℕ) (v : Sound hs root) (T : ℕ → List (Option SqlType)) (typed : T b ≡ T m.id ++ T x.id) (long_m : length (T m.id) ≡ width m) (long_x : length (T x.id) ≡ width x) (known_m : list_all is_known (T m.id) ≡ true) (known_x : list_all is_known (T x.id) ≡ true)
      (seen_m : is_permit m.parts.distinct ≡ false) (seen_x : is_permit x.parts.distinct ≡ false) (some : is_scalar hs b ≡ true → 1 ≤ width m)
      (roles : (role ≡ Plain) ⊎ ((role ≡ Fed) × ((b == root) ≡ false) × ((is_magic m.parts.role ≡ true) × ((loose hs x.id a ≡ true) × ((p : ℕ) → loose hs x.id p ≡ true → p ≡ a))))) where
    under-a : box_under hs a ≡ Some m
    under-a = found-under hs root v a (record { owner = n; quant = range a F m.id; box = m; owner_in = is.in_n; quant_in = inl refl; is_q = refl; box_in = is.in_m; is_over = refl })

    under-q : box_under hs q ≡ Some x
    under-q = found-under hs root v q (record { owner = n; quant = range q F x.id; box = x; owner_in = is.in_n; quant_in = inr (inl refl); is_q = refl; box_in = is.in_x; is_over = refl })

    abbrev V : Lookup
    V = via T hs

    types-one : map (term_type V) one ≡ T m.id
    types-one = ap (λ k. map (term_type V) (columns_from a 1 k)) (sym long_m) ∙ columns-types V a [] (T m.id) (λ k. ap (found_by T (suc k)) under-a ∙ found-suc T k m)

    types-two : map (term_type V) two ≡ T x.id
    types-two = ap (λ k. map (term_type V) (columns_from q 1 k)) (sym long_x) ∙ columns-types V q [] (T x.id) (λ k. ap (found_by T (suc k)) under-q ∙ found-suc T k x)

    types-both : map (term_type V) (one ++ two) ≡ T m.id ++ T x.id
    types-both = map-append (term_type V) one two ∙ ap₂ (λ (y z : List (Option SqlType)). y ++ z) types-one types-two

    fed-shape : role_fits root hs n role ≡ true
    fed-shape = elim roles [
      | inl e ↦ ap (role_fits root hs n) e
      | inr y ↦ ap (role_fits root hs n) y.0 ∙ and_from (not (b == root) && true && true) (fed_by hs (one ++ two) n.quants)
          (and_from (not (b == root) && true) true (and_from (not (b == root)) true (ap not y.1) refl) refl)
          (two-from hs (one ++ two) (range a F m.id) (range q F x.id) (record {
            kinds = refl;
            magic = ap magic_found (in-first m hs is.ordered is.in_m) ∙ y.2.0;
            alone = alone-from hs root v x.id a y.2.1.0 y.2.1.1;
            columns = and_from (list_all is_column (one ++ two)) (same_columns (flat_map columns_in (one ++ two)) (columns_through hs (range a F m.id) ++ columns_through hs (range q F x.id)))
                (all-joined is_column one two (all-columns a 1 (width m)) (all-columns q 1 (width x)))
                (subst (λ (z : List Column). same_columns (flat_map columns_in (one ++ two)) z ≡ true) listed (same-itself (flat_map columns_in (one ++ two))));
          }))
    ]
      where
        listed : flat_map columns_in (one ++ two) ≡ columns_through hs (range a F m.id) ++ columns_through hs (range q F x.id)
        listed =
            flat-append columns_in one two
            ∙ ap₂ (λ (y z : List Column). y ++ z)
            (listed-columns a 1 (width m) ∙ ap (λ (z : Option Node). shape.columns_from a 1 (width_found z)) (sym (in-first m hs is.ordered is.in_m)))
            (listed-columns q 1 (width x) ∙ ap (λ (z : Option Node). shape.columns_from q 1 (width_found z)) (sym (in-first x hs is.ordered is.in_x)))

    pub pair-form : HasForm hs root T n
    pair-form = record {
      columns_typed = typed ∙ sym types-both;
      agrees = and_from (list_all (λ y. is_known (term_type V y)) (one ++ two)) true (known-map V (one ++ two) ∙ ap (list_all is_known) types-both ∙ all-joined is_known (T m.id) (T x.id) known_m known_x) refl;
      columns = sym-append (all-joined (λ (c : Column). fits c.place (box_under hs c.quant)) (flat_map columns_in one) (flat_map columns_in two)
          (columns-within hs a 1 (width m) (width m) m under-a refl (omega arith) (omega arith)) (columns-within hs q 1 (width x) (width x) x under-q refl (omega arith) (omega arith)));
      shape = shape-from root hs n (record {
        kind = and_from (is_unfolded n) (role_fits root hs n role) (ap (λ c. not c && true) (any-both has_aggregate one two ∙ ap₂ (λ c d. c || d) (none-aggregate a 1 (width m)) (none-aggregate q 1 (width x)))) fed-shape;
        nodes = ap (λ (z : List _). list_all (node_fits n.quants) (z ++ [])) (flat-append named.nodes_in one two ∙ ap₂ (λ (y z : List _). y ++ z) (none-nodes a 1 (width m)) (none-nodes q 1 (width x)));
        placed = rows-placed n refl;
        scalar = λ h. lt-from 0 (width n) (let e = width-pair in let l = some h in omega (arith, e, l));
      });
      hidden = λ p. absurd (clash false p refl);
      unseen = λ s u j k i e. elim j [
        | inl y ↦ subst (λ (z : Node). is_permit z.parts.distinct ≡ false) (same-box hs m u is.ordered is.in_m i (ap (λ (z : OwnedQuant). z.over) y ∙ sym e)) seen_m
        | inr y ↦ elim y [
          | inl z ↦ subst (λ (z : Node). is_permit z.parts.distinct ≡ false) (same-box hs x u is.ordered is.in_x i (ap (λ (z : OwnedQuant). z.over) z ∙ sym e)) seen_x
          | inr z ↦ elim z [ ]
        ]
      ];
      scalars = λ s u j k i e. absurd (elim j [
        | inl y ↦ (let z : is_S F ≡ true = subst (λ (z : OwnedQuant). is_S z.kind ≡ true) (sym y) k in let x : ⊥ = cc in x)
        | inr y ↦ elim y [ inl w ↦ (let z : is_S F ≡ true = subst (λ (z : OwnedQuant). is_S z.kind ≡ true) (sym w) k in let x : ⊥ = cc in x) | inr w ↦ elim w [ ] ]
      ]);
    }
      where
        sym-append : list_all (λ (c : Column). fits c.place (box_under hs c.quant)) (flat_map columns_in one ++ flat_map columns_in two) ≡ true → columns_fit hs n ≡ true
        sym-append h = all-joined (λ (c : Column). fits c.place (box_under hs c.quant)) (flat_map columns_in (one ++ two)) [] (subst (λ (z : List Column). list_all (λ (c : Column). fits c.place (box_under hs c.quant)) z ≡ true) (sym (flat-append columns_in one two)) h) refl
