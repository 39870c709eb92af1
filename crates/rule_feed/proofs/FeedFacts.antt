-- What is known of the rows of the select that takes those that feed a box: they are clean, and the columns that are named are no errors.
use Rattle.std.proofs.Common.{ℕ, zero, suc, ◌==◌, ◌≡◌, ◌≤◌, ◌<◌, ◌+◌, ◌&&◌, ◌||◌, cond, nat_lt, nat_le, not, Bool, true, false, List, [], ◌∷◌, ◌++◌, map, length, None, Some, refl, sym, ap, ap₂, subst, ◌∙◌, eqb-true, inl, inr, arith}
use Rattle.std.specs.List.{list_all, list_any}
use Rattle.std.proofs.lemmas.Bool.{and_from, and_parts, cases_Bool, le-leb, lt-ltb, not-true, or_from, or_left, or_parts}
use Rattle.sql_value.specs.Cells.{error_of}
use Rattle.sql_value.specs.declared.cell.Cell.{Cell}
use Rattle.sql_value.specs.declared.cell.Cell.TheVariants.{Err, Int, Null, Text}
use Rattle.row_bag.specs.AsSets.{is_clean}
use Rattle.row_bag.specs.declared.tables.Table.{Table}
use Rattle.qgm_terms.specs.Terms.{Cond, Term, col}
use Rattle.qgm_terms.specs.Wanted.{any_in, any_in_cond}
use Rattle.qgm_core.specs.Boxes.{Ordered, has_box, is_box, is_quant, owns, width}
use Rattle.qgm_core.specs.Kinds.{is_F}
use Rattle.list_laws.specs.Lists.{In, first}
use Rattle.qgm_core.specs.declared.node.Node.{Node}
use Rattle.qgm_core.specs.declared.owned.OwnedQuant.{OwnedQuant}
use Rattle.qgm_core.proofs.Reaching.{in-has, overs-held}
use Rattle.qgm_meaning.specs.Meaning.{bag_in}
use Rattle.qgm_meaning.specs.Satisfies.{Satisfies}
use Rattle.qgm_meaning.specs.Scope.{loose, read_by, under_any}
use Rattle.qgm_meaning.specs.Searches.{binds, binds_cond, looking, names, names_cond}
use Rattle.qgm_meaning.specs.Tags.{columns_from}
use Rattle.qgm_meaning.specs.Values.{Environment}
use Rattle.qgm_meaning.proofs.Frames.{bag-framed}
use Rattle.qgm_wellformed.specs.Columns.{columns_of}
use Rattle.qgm_props.specs.Facts.{IsClean, IsErrorFree, is_sound}
use Rattle.qgm_props.specs.Holding.{Holds}
use Rattle.qgm_props.specs.Inferred as facts
use Rattle.qgm_props.specs.Inferred.{Fact, Facts, cond_free, inferred_once, is_free, says}
use Rattle.qgm_props.specs.Laws.{Premises}
use Rattle.qgm_props.specs.Under.{all_under_F, at_place, of_box, of_over, of_quant}
use Rattle.qgm_props.proofs.Step.{step-holds}
use Rattle.qgm_edit_laws.specs.Graph.{Sound}
use Rattle.qgm_edit_laws.proofs.Adds.{reads-at-read}
use Rattle.qgm_edit_laws.proofs.Compact.{has-kept, in-kept, kept, ordered-kept}
use Rattle.qgm_edit_laws.proofs.Ranks.{has-in, same-box}
use Rattle.qgm_edit_laws.proofs.AnyPut.{conds-names, heads-names}
use Rattle.qgm_edit_laws.proofs.Read.{is_at, unbound-reads}
use Rattle.qgm_edit_laws.proofs.ReadKept.{search-is}
use Rattle.qgm_edit_laws.proofs.Turns.{first-own}
use Rattle.qgm_edit_laws.proofs.Scope.{climb, bound-owned, in-first, only-bag, touched, unfold-bag}
use Rattle.rule_facts.proofs.Premises.{premises}
use Rattle.rule_feed.specs.Split.{MaySplitSound, heads, into, sizes_of, split_box, split_boxes, start}
use Rattle.rule_feed.proofs.SplitNames.{conds-same, terms-same}
use Rattle.rule_feed.proofs.SplitReads.{in-sizes, size, size-of, start-fits}
use Rattle.rule_feed.proofs.FeedScope.{columns-length}
use Rattle.rule_feed.proofs.SplitLooks as looks
use Rattle.rule_feed.proofs.SplitSound as split
use Rattle.list_laws.proofs.Booleans.{clash}
use Rattle.list_laws.proofs.Membership.{all-from, any-from, any-in, any-none, any-not, eq-itself, in-left, in-right, map-in}

-- ---- lists in order

pub ordered-tail : (xs ys : List Node) → Ordered (xs ++ ys) → Ordered ys
ordered-tail [] ys o = o
ordered-tail (n ∷ xs) ys o = ordered-tail xs ys o.2

not-behind : (xs ys : List Node) (b : Node) → Ordered (xs ++ ys) → In b xs → has_box ys b.id ≡ false
not-behind [] ys b o i = elim i [ ]
not-behind (n ∷ xs) ys b o i = elim i [
  | inl e ↦ subst (λ (z : Node). has_box ys z.id ≡ false) e (none-of xs n.id o.0)
  | inr j ↦ not-behind xs ys b o.2 j
]
  where
    none-of : (xs : List Node) (z : ℕ) → has_box (xs ++ ys) z ≡ false → has_box ys z ≡ false
    none-of [] z h = h
    none-of (x ∷ xs) z h = none-of xs z (or_parts (x.id == z) (has_box (xs ++ ys) z) h).1

-- ---- a cell that is sound is no error

pub no-error : (c : Cell) → is_sound c ≡ true → error_of c ≡ None
no-error (Int n) h = refl
no-error (Text s) h = refl
no-error Null h = refl
no-error (Err k) h = absurd (let z : ⊥ = cc in z)

-- ---- the columns of the head

of-cell-append : (test : Term → Bool) (xs ys : List Term) (k : ℕ) → at_place test ys k ≡ true → at_place test (xs ++ ys) (length xs + k) ≡ true
of-cell-append test xs ys zero h = absurd (let z : ⊥ = cc in z)
of-cell-append test [] ys (suc k) h = subst (λ z. at_place test ys z ≡ true) (let e : suc k ≡ 0 + suc k = omega arith in e) h
of-cell-append test (x ∷ xs) ys (suc k) h =
    let a : at_place test (xs ++ ys) (suc (length xs + k)) ≡ true = subst (λ z. at_place test (xs ++ ys) z ≡ true) (let e : length xs + suc k ≡ suc (length xs + k) = omega arith in e) (of-cell-append test xs ys (suc k) h) in
    let b : at_place test (x ∷ (xs ++ ys)) (suc (suc (length xs + k))) ≡ true = a in
    subst (λ z. at_place test (x ∷ (xs ++ ys)) z ≡ true) (let e : suc (suc (length xs + k)) ≡ length (x ∷ xs) + suc k = omega arith in e) b

of-cell-left : (test : Term → Bool) (xs ys : List Term) (k : ℕ) → at_place test xs k ≡ true → at_place test (xs ++ ys) k ≡ true
of-cell-left test xs ys zero h = absurd (let z : ⊥ = cc in z)
of-cell-left test [] ys (suc k) h = absurd (let z : ⊥ = cc in z)
of-cell-left test (x ∷ xs) ys (suc zero) h = h
of-cell-left test (x ∷ xs) ys (suc (suc k)) h = of-cell-left test xs ys (suc k) h

of-columns : (test : Term → Bool) (q w k j : ℕ) → j < w → test (col q (k + j)) ≡ true → at_place test (columns_from q k w) (suc j) ≡ true
of-columns test q zero k j l h = absurd (omega arith)
of-columns test q (suc w) k zero l h = subst (λ z. test (col q z) ≡ true) (omega arith) h
of-columns test q (suc w) k (suc j) l h = of-columns test q w (suc k) j (omega arith) (subst (λ z. test (col q z) ≡ true) (let e : k + suc j ≡ suc k + j = omega arith in e) h)

-- column j of r stands where those before it and r's go
of-heads : (test : Term → Bool) (ws : List (ℕ × ℕ)) (r j : ℕ) → list_any (λ p. p.0 == r) ws ≡ true → 1 ≤ j → j ≤ size ws r → test (col r j) ≡ true → at_place test (heads ws) (start ws r + j) ≡ true
of-heads test [] r j h a b t = absurd (let z : ⊥ = cc in z)
of-heads test (p ∷ ws) r zero h a b t = absurd (omega arith)
of-heads test (p ∷ ws) r (suc j) h a b t = elim (cases_Bool (p.0 == r)) [
  | inl e ↦ (
      let w : size (p ∷ ws) r ≡ p.1 = ap (λ b. cond b p.1 (size ws r)) e in
      let s : start (p ∷ ws) r ≡ 0 = ap (λ b. cond b 0 (p.1 + start ws r)) e in
      subst (λ z. at_place test (heads (p ∷ ws)) z ≡ true) (let x : suc j ≡ start (p ∷ ws) r + suc j = omega (arith, s) in x)
      (of-cell-left test (columns_from p.0 1 p.1) (heads ws) (suc j) (of-columns test p.0 p.1 1 j (omega (arith, w, b)) (subst (λ z. test (col z (1 + j)) ≡ true) (sym (eqb-true p.0 r e)) (subst (λ z. test (col r z) ≡ true) (let x : suc j ≡ 1 + j = omega arith in x) t)))))
  | inr e ↦ (
      let w : size (p ∷ ws) r ≡ size ws r = ap (λ b. cond b p.1 (size ws r)) e in
      let s : start (p ∷ ws) r ≡ p.1 + start ws r = ap (λ b. cond b 0 (p.1 + start ws r)) e in
      let h2 : list_any (λ (p : ℕ × ℕ). p.0 == r) ws ≡ true = sym (ap (λ b. b || list_any (λ (p : ℕ × ℕ). p.0 == r) ws) e) ∙ h in
      let l = columns-length p.0 1 p.1 in
      subst (λ z. at_place test (heads (p ∷ ws)) z ≡ true) (let x : length (columns_from p.0 1 p.1) + (start ws r + suc j) ≡ start (p ∷ ws) r + suc j = omega (arith, s, l) in x)
      (of-cell-append test (columns_from p.0 1 p.1) (heads ws) (start ws r + suc j) (of-heads test ws r (suc j) h2 a (omega (arith, w, b)) t)))
]

-- ---- the boxes of those that feed

module _ (xs ys : List Node) (root : ℕ) (b : Node) (wide : OwnedQuant → ℕ) (q s : ℕ) (us ps vs : List OwnedQuant) (rest taken : List Cond) (w : Sound (xs ++ ys) root) (m : MaySplitSound xs ys b wide q s us ps vs rest taken) where
  abbrev bs : List Node
  bs = xs ++ ys

  abbrev ws : List (ℕ × ℕ)
  ws = sizes_of wide ps

  abbrev hs : List Node
  hs = split_boxes xs ys ws b.id q s us ps vs rest taken

  abbrev P : ℕ → Bool
  P k = list_any (is_quant k) ps

  abbrev g : Node → Node
  g = split.g xs ys root b wide q s us ps vs rest taken w m

  abbrev s' : Node
  s' = split_box s ws ps taken

  in-b : In b bs
  in-b = in-left b xs ys m.above

  after : Sound hs root
  after = split.sound-after xs ys root b wide q s us ps vs rest taken w m

  below : Ordered ys
  below = ordered-tail xs ys w.ordered

  -- b isn't among those below
  not-b : (y : Node) → In y ys → (y.id == b.id) ≡ false
  not-b y i = elim (cases_Bool (y.id == b.id)) [
    | inr e ↦ e
    | inl e ↦ absurd (clash (has_box ys b.id) (subst (λ z. has_box ys z ≡ true) (eqb-true y.id b.id e) (in-has y ys i)) (not-behind xs ys b w.ordered m.above))
  ]

  not-own : (y : Node) → In y ys → (p : OwnedQuant) → In p ps → owns p.id y ≡ false
  not-own y i p j = split.not-own xs ys root b wide q s us ps vs rest taken w m p.id (any-from (is_quant p.id) p b.quants (split.old-quant xs ys root b wide q s us ps vs rest taken w m p (inr (inl j))) (eq-itself p.id)) y (in-right y xs ys i) (not-b y i)

  -- a box below b that looks none of them up
  abbrev apart : ℕ → Bool
  apart z = has_box ys z && not (list_any (λ (p : OwnedQuant). loose bs z p.id) ps)

  among : (y : Node) → In y bs → apart y.id ≡ true → In y ys × ((p : OwnedQuant) → In p ps → loose bs y.id p.id ≡ false)
  among y i h =
      let a = and_parts (has_box ys y.id) (not (list_any (λ (p : OwnedQuant). loose bs y.id p.id) ps)) h in
      let z = has-in y.id ys a.0 in
      let e : z.0 ≡ y = same-box bs z.0 y w.ordered (in-right z.0 xs ys z.1.0) i z.1.1 in
      (subst (λ v. In v ys) e z.1.0, λ p j. any-none (λ (p : OwnedQuant). loose bs y.id p.id) p ps (not-true (list_any (λ (p : OwnedQuant). loose bs y.id p.id) ps) a.1) j)

  closed : (n : Node) (r : OwnedQuant) → In n bs → apart n.id ≡ true → In r n.quants → apart r.over ≡ true
  closed n r i h j =
      let a = among n i h in
      and_from (has_box ys r.over) (not (list_any (λ (p : OwnedQuant). loose bs r.over p.id) ps)) (overs-held ys n r below a.0 j)
      (ap not (any-not (λ (p : OwnedQuant). loose bs r.over p.id) ps (λ p k. elim (cases_Bool (loose bs r.over p.id)) [
        | inr e ↦ e
        | inl e ↦ elim (climb bs root w n r p.id i j e) [
          | inl y ↦ absurd (clash (owns p.id n) (bound-owned p.id n.quants y.1) (not-own n a.0 p k))
          | inr y ↦ absurd (clash (loose bs n.id p.id) y (a.1 p k))
        ]
      ])))

  abbrev ok : ℕ → ℕ → Bool
  ok r k = not (P r)

  abbrev strange : Term → Bool
  strange = any_in (looking (λ r j. not (ok r j)) (λ r. false) (λ r. false) (λ r. true))

  abbrev strange_cond : Cond → Bool
  strange_cond = any_in_cond (looking (λ r j. not (ok r j)) (λ r. false) (λ r. false) (λ r. true))

  into-col : (r k : ℕ) → ok r k ≡ true → into ws q r k ≡ col r k
  into-col r k e = ap (λ (t : Bool). cond t (col q (start ws r + k)) (col r k)) (in-sizes wide ps r ∙ not-true (P r) e)

  -- it reads none of them
  read-none : (y : Node) → In y ys → ((p : OwnedQuant) → In p ps → loose bs y.id p.id ≡ false) → (r j : ℕ) → P r ≡ true → list_any (is_at r j) (columns_of y) ≡ true → ⊥
  read-none y i none r j h c =
      let p = any-in (is_quant r) ps h in
      let e : p.0.id ≡ r = eqb-true p.0.id r p.1.1 in
      let in-y : In y bs = in-right y xs ys i in
      let n = or_parts (list_any (names r) y.parts.head) (list_any (names_cond r) y.parts.conds.items) (split.nodes-none xs ys root b wide q s us ps vs rest taken w m y in-y r h) in
      let rd = unbound-reads r j y (or_from (list_any (binds r) y.parts.head) (list_any (binds_cond r) y.parts.conds.items)
      (split.none-sub xs ys root b wide q s us ps vs rest taken w m (list_any (binds r) y.parts.head) (list_any (names r) y.parts.head) (heads-names r y.parts.head) n.0)
      (split.none-sub xs ys root b wide q s us ps vs rest taken w m (list_any (binds_cond r) y.parts.conds.items) (list_any (names_cond r) y.parts.conds.items) (conds-names r y.parts.conds.items) n.1)) c in
      elim (touched bs root w y r in-y (or_left (read_by y r) (under_any y.quants (loose bs) r) (reads-at-read r j y rd))) [
        | inl o ↦ clash (owns r y) o (subst (λ z. owns z y ≡ false) e (not-own y i p.0 p.1.0))
        | inr o ↦ clash (loose bs y.id r) o (subst (λ z. loose bs y.id z ≡ false) e (none p.0 p.1.0))
      ]

  -- it stays as it is
  stays : (y : Node) → In y bs → apart y.id ≡ true → g y ≡ y
  stays y i h =
      let a = among y i h in
      let none = or_parts (list_any strange y.parts.head) (list_any strange_cond y.parts.conds.items) (elim (cases_Bool (list_any strange y.parts.head || list_any strange_cond y.parts.conds.items)) [
        | inr e ↦ e
        | inl e ↦ absurd (let u = search-is (λ r j. not (ok r j)) (λ r. true) y e in read-none y a.0 a.1 u.0 u.1.0 (twice (P u.0) u.1.1.0) u.1.1.1)
      ]) in
      split.g-other xs ys root b wide q s us ps vs rest taken w m y (not-b y a.0)
      ∙ ap₂ (λ (h : List Term) (c : List Cond). record y { parts = record y.parts { head = h; conds = record y.parts.conds { items = c } } }) (terms-same (into ws q) ok into-col y.parts.head none.0) (conds-same (into ws q) ok into-col y.parts.conds.items none.1)
    where
      twice : (b : Bool) → not (not b) ≡ true → b ≡ true
      twice true h = refl
      twice false h = absurd (let z : ⊥ = cc in z)

  -- ---- their bags

  abbrev ks : List Node
  ks = kept apart bs

  ordered-k : Ordered ks
  ordered-k = ordered-kept apart bs w.ordered closed

  bag-kept : (tables : List Table) (z : ℕ) → has_box ks z ≡ true → (e : Environment) → bag_in tables hs z e ≡ bag_in tables bs z e
  bag-kept tables z h e =
      sym (only-bag tables (bag_in tables hs) ks ordered-k (λ n i e. (
      let k = in-kept apart n bs i in
      let a = among n k.0 k.1 in
      sym (unfold-bag tables hs n after.ordered (subst (λ z. In z hs) (stays n k.0 k.1) (in-right (g n) (map g xs) (s' ∷ map g ys) (inr (map-in g n ys a.0)))) e))) z h e)
      ∙ only-bag tables (bag_in tables bs) ks ordered-k (λ n i e. sym (unfold-bag tables bs n w.ordered (in-kept apart n bs i).0 e)) z h e

  feeder-kept : (p : OwnedQuant) → In p ps → has_box ks p.over ≡ true
  feeder-kept p i =
      let h = m.below p i in
      let z = has-in p.over ys h in
      has-kept apart bs p.over (subst (λ v. has_box bs v ≡ true) z.1.1 (in-has z.0 bs (in-right z.0 xs ys z.1.0)))
      (and_from (has_box ys p.over) (not (list_any (λ (x : OwnedQuant). loose bs p.over x.id) ps)) h (ap not (any-not (λ (x : OwnedQuant). loose bs p.over x.id) ps (λ x j. m.closed p i x.id))))

  -- in every environment it is the bag before where nothing is bound
  pub feeder-bag : (tables : List Table) (p : OwnedQuant) → In p ps → (e : Environment) → bag_in tables hs p.over e ≡ bag_in tables bs p.over []
  feeder-bag tables p i e = bag-kept tables p.over (feeder-kept p i) e ∙ bag-framed tables bs p.over e [] (record { rows = λ x t. absurd (clash (loose bs p.over x) t (m.closed p i x)) })

  -- ---- the facts

  module _ (os : List Node) (known : Facts) (root-of : (p : OwnedQuant) → In p ps → (k : ℕ) → of_quant os (λ b. known.error_free b k) p.id ≡ known.error_free p.over k) (tables : List Table) (sat : Satisfies tables hs)
      (clean-p : (p : OwnedQuant) → In p ps → (known.clean p.over ≡ true) × IsClean (bag_in tables bs p.over []))
      (free-p : (p : OwnedQuant) → In p ps → (k : ℕ) → known.error_free p.over k ≡ true → IsErrorFree k (bag_in tables bs p.over [])) where
    abbrev pub over : ℕ → Bool
    over z = list_any (λ (p : OwnedQuant). p.over == z) ps

    -- of the boxes under these alone
    abbrev pub now : Facts
    now = record {
      clean = over;
      error_free = λ z k. over z && known.error_free z k;
      not_null = λ z k. false;
      at_most_one = λ z. false;
      exactly_one = λ z. false;
    }

    holds-now : (fact : Fact) → says now fact ≡ true → Holds tables hs fact
    holds-now (facts.clean z) h =
        let p = any-in (λ (p : OwnedQuant). p.over == z) ps h in
        λ env fit bound. subst (λ v. IsClean (bag_in tables hs v env)) (eqb-true p.0.over z p.1.1) (subst IsClean (sym (feeder-bag tables p.0 p.1.0 env)) (clean-p p.0 p.1.0).1)
    holds-now (facts.error_free z k) h =
        let a = and_parts (over z) (known.error_free z k) h in
        let p = any-in (λ (p : OwnedQuant). p.over == z) ps a.0 in
        let e : p.0.over ≡ z = eqb-true p.0.over z p.1.1 in
        λ env fit bound. subst (λ v. IsErrorFree k (bag_in tables hs v env)) e (subst (IsErrorFree k) (sym (feeder-bag tables p.0 p.1.0 env)) (free-p p.0 p.1.0 k (subst (λ v. known.error_free v k ≡ true) (sym e) a.1)))
    holds-now (facts.not_null z k) h = absurd (let z : ⊥ = cc in z)
    holds-now (facts.at_most_one z) h = absurd (let z : ⊥ = cc in z)
    holds-now (facts.exactly_one z) h = absurd (let z : ⊥ = cc in z)

    given : Premises tables hs
    given = premises hs root after tables sat

    in-s : In s' hs
    in-s = in-right s' (map g xs) (s' ∷ map g ys) (inl refl)

    pub over-p : (p : OwnedQuant) → In p ps → over p.over ≡ true
    over-p p i = any-from (λ (x : OwnedQuant). x.over == p.over) p ps i (eq-itself p.over)

    pub under-now : (f : ℕ → Bool) (p : OwnedQuant) → In p ps → of_quant hs f p.id ≡ f p.over
    under-now f p i = ap (λ o. of_over false f o) (given.found s' p in-s i)

    all-clean : (rs : List OwnedQuant) → ((p : OwnedQuant) → In p rs → In p ps) → all_under_F now.clean rs ≡ true
    all-clean [] h = refl
    all-clean (r ∷ rs) h = elim (is_F r.kind) as (λ t. cond t (now.clean r.over && all_under_F now.clean rs) (all_under_F now.clean rs) ≡ true) [
      | true ↦ and_from (now.clean r.over) (all_under_F now.clean rs) (over-p r (h r (inl refl))) (all-clean rs (λ p i. h p (inr i)))
      | false ↦ all-clean rs (λ p i. h p (inr i))
    ]

    size-is : (p : OwnedQuant) → In p ps → size ws p.id ≡ wide p
    size-is p i =
        let z = size-of wide ps p.id (any-from (is_quant p.id) p ps i (eq-itself p.id)) in
        let few = split.few-b xs ys root b wide q s us ps vs rest taken w m in
        let old = split.old-quant xs ys root b wide q s us ps vs rest taken w m in
        let a : first (is_quant p.id) b.quants ≡ Some p = first-own p b.quants (few p.id) (old p (inr (inl i))) in
        let c : first (is_quant z.0.id) b.quants ≡ Some z.0 = first-own z.0 b.quants (few z.0.id) (old z.0 (inr (inl z.1.0))) in
        let e : Some z.0 ≡ Some p = sym c ∙ ap (λ v. first (is_quant v) b.quants) z.1.1.0 ∙ a in
        let same : z.0 ≡ p = cc in
        z.1.1.1 ∙ ap wide same

    closed-s : (k : ℕ) → loose hs s k ≡ true → ⊥
    closed-s k t =
        clash (looks.look xs ys root b wide q s us ps vs rest taken w m s k) (looks.less xs ys root b wide q s us ps vs rest taken w m s k t)
        (split.look-none xs ys root b wide q s us ps vs rest taken w m s k (split.new-none xs ys root b wide q s us ps vs rest taken w m))

    found-s : first (is_box s) hs ≡ Some s'
    found-s = in-first s' hs after.ordered in-s

    -- where the conditions are error-free by what is known of these
    pub s-clean : ((c : Cond) → In c taken → cond_free hs now false c ≡ true) → is_clean (bag_in tables hs s []) ≡ true
    s-clean h =
        step-holds tables hs now given holds-now (facts.clean s)
        (ap (of_box false (λ n. facts.clean_by hs now n.parts.kind n)) found-s
        ∙ and_from (all_under_F now.clean ps) (list_all (cond_free hs now false) taken) (all-clean ps (λ p i. i)) (all-from (cond_free hs now false) taken h))
        [] tt (λ k t. absurd (closed-s k t))

    -- a column of these that is known to be error-free is so in s
    pub s-free : (p : OwnedQuant) → In p ps → (j : ℕ) → 1 ≤ j → j ≤ wide p → known.error_free p.over j ≡ true → IsErrorFree (start ws p.id + j) (bag_in tables hs s [])
    s-free p i j lo hi h =
        let held : list_any (λ (x : ℕ × ℕ). x.0 == p.id) ws ≡ true = in-sizes wide ps p.id ∙ any-from (is_quant p.id) p ps i (eq-itself p.id) in
        let sz : size ws p.id ≡ wide p = size-is p i in
        step-holds tables hs now given holds-now (facts.error_free s (start ws p.id + j))
        (ap (of_box false (λ n. (nat_lt 0 (start ws p.id + j) && nat_le (start ws p.id + j) (width n)) && facts.free_by hs now n.parts.kind n (start ws p.id + j))) found-s
        ∙ and_from (nat_lt 0 (start ws p.id + j) && nat_le (start ws p.id + j) (length (heads ws))) (at_place (is_free hs now false) (heads ws) (start ws p.id + j))
        (and_from (nat_lt 0 (start ws p.id + j)) (nat_le (start ws p.id + j) (length (heads ws))) (lt-ltb 0 (start ws p.id + j) (omega (arith, lo))) (le-leb (start ws p.id + j) (length (heads ws)) (let f = start-fits ws p.id held in omega (arith, f, sz, hi))))
        (of-heads (is_free hs now false) ws p.id j held lo (omega (arith, sz, hi)) (under-now (λ z. over z && known.error_free z j) p i ∙ and_from (over p.over) (known.error_free p.over j) (over-p p i) h)))
        [] tt (λ k t. absurd (closed-s k t))
