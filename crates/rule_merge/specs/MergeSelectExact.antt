-- The places of M1 are exactly those where it may fire.
use Rattle.std.proofs.Common.{ℕ, suc, zero, ◌==◌, ◌&&◌, ◌||◌, ◌≡◌, ◌+◌, ◌≤◌, ◌++◌, not, cond, Bool, true, false, List, [], ◌∷◌, length, map, Option, Some, None, refl, sym, ap, subst, ◌∙◌, eqb-true, inl, inr, arith}
use Rattle.std.specs.Prelude.{◌↔◌, ◌-◌, nat_le, slice_get}
use Rattle.std.specs.List.{list_any}
use Rattle.std.proofs.lemmas.Bool.{and_from, and_parts, cases_Bool, eq-eqb, le-leb, leb-true, not-true, or_cases, or_left, or_parts, or_right}
use Rattle.qgm_wellformed.specs.Sentences.{WellFormed}
use Rattle.qgm_wellformed.specs.Shapes.{all_F}
use Rattle.qgm_wellformed.specs.declared.clause.Clause.TheVariants.{I2}
use Rattle.qgm_core.specs.Boxes.{QueryGraph, box_of, ids_in, ids_of, is_box, is_quant, overs_in, owns, quants_in, quants_of, numbers}
use Rattle.qgm_core.specs.Edits.{compact, on_boxes, set_distinct}
use Rattle.qgm_core.specs.Free.{free}
use Rattle.qgm_core.specs.Kinds.{is_F, is_enforce, is_fed, is_magic, is_permit, is_plain, is_preserve, is_select}
use Rattle.list_laws.specs.Lists.{In, times, first, EachOnce}
use Rattle.qgm_core.specs.declared.kinds.Distinct.TheVariants.{Preserve}
use Rattle.qgm_core.specs.declared.kinds.QuantKind.TheVariants.{F}
use Rattle.qgm_core.specs.declared.kinds.Role.{Role}
use Rattle.qgm_core.specs.declared.kinds.Role.TheVariants.{Magic}
use Rattle.qgm_core.specs.declared.node.Node.{Node}
use Rattle.qgm_core.specs.declared.owned.OwnedQuant.{OwnedQuant}
use Rattle.qgm_edit_laws.specs.Graph.{reads_in}
use Rattle.rule_merge.specs.Merged.{merge, merged_in}
use Rattle.qgm_edit_laws.specs.FedOpen.{FedOpen}
use Rattle.qgm_edit_laws.proofs.Edits.{split-once}
use Rattle.qgm_edit_laws.proofs.Levels.{some-in}
use Rattle.qgm_props.specs.Inferred.{Facts, Inferred, clean}
use Rattle.qgm_props.specs.Laws.{Tells}
use Rattle.qgm_props.proofs.Settled.{all-told}
use Rattle.qgm_terms.specs.Depth.{room}
use Rattle.qgm_terms.specs.Substitution.{cell_at}
use Rattle.qgm_terms.specs.Terms.{Term}
use Rattle.qgm_terms.specs.Wanted.{node_free}
use Rattle.rule_api.specs.PickLaws.{picks_ascending, picks_exact}
use Rattle.rule_api.specs.Picks.{Passes, picks}
use Rattle.rule_api.specs.Rules.{Ascending}
use Rattle.rule_api.specs.declared.place.Place.{Place}
use Rattle.rule_merge.specs.MergeSelectCopies.{copies_of, levels_under, most_copied}
use Rattle.rule_merge.specs.MergeSelectSteps.{Plans}
use Rattle.rule_merge.specs.declared.merge_select.action.MergePlan.{MergePlan}
use Rattle.rule_facts.proofs.FactsWithoutDistinct.{infers-same}
use Rattle.rule_facts.specs.Told.{infers}
use Rattle.rule_facts.specs.FedClosed.{any_fed_closed}
use Rattle.rule_facts.proofs.FedClosed.{fed-from, fed-to}
use Rattle.qgm_core.proofs.KindTests.{f-is, enforce-is, preserve-is, permit-is, plain-is, magic-is, select-is}
use Rattle.rule_merge.specs.MergeSelect.{DistinctFits, IsMergeable, MayMergeSelect, spliced, merged_with, parts_fit, infers_clean, are_clean, distinct_fits, is_lateral, has_lateral, read_elsewhere, cells_free, cells_stand, copies_little, may_go_in, may_stand, may_with, may_over, may_at, may_in, may_merge, merge_select_pairs, preserved, enforced, permitted}
use Rattle.list_laws.proofs.Counting.{times-in}
use Rattle.list_laws.proofs.Membership.{any-from, any-in, any-none, any-not, eq-itself, in-right}
use Rattle.list_laws.proofs.Booleans.{clash}

-- ---- the test says so

and-rest : (a b : Bool) → a ≡ true → (a && b) ≡ false → b ≡ false
and-rest true b t h = h
and-rest false b t h = absurd (let z : ⊥ = cc in z)

or-rest : (a b : Bool) → (a || not b) ≡ true → b ≡ true → a ≡ true
or-rest true b h t = refl
or-rest false b h t = absurd (clash (not b) h (ap not t))

-- what is told of boxes is what is inferred of them
clean-from : (g : QueryGraph) (b : ℕ) → infers_clean g b ≡ true → Inferred g.boxes (clean b)
unfolding infers_clean
clean-from g b h = ((all-told g.boxes).1 (clean b)).0 h

clean-to : (g : QueryGraph) (b : ℕ) → Inferred g.boxes (clean b) → infers_clean g b ≡ true
unfolding infers_clean
clean-to g b h = ((all-told g.boxes).1 (clean b)).1 h

pub told-clean : (g : QueryGraph) (known : Facts) (b : ℕ) → Tells known g.boxes → known.clean b ≡ infers_clean g b
told-clean g known b tells = elim (cases_Bool (infers_clean g b)) [
  | inl t ↦ (tells (clean b)).1 (clean-from g b t) ∙ sym t
  | inr f ↦ elim (cases_Bool (known.clean b)) [
    | inr k ↦ k ∙ sym f
    | inl t ↦ absurd (clash (infers_clean g b) (clean-to g b ((tells (clean b)).0 t)) f)
  ]
]

-- whatever the distinctness of the box
pub clean-same : (g : QueryGraph) (c : ℕ) → infers_clean (set_distinct c Preserve g) c ≡ infers_clean g c
unfolding infers infers_clean
clean-same g c = infers-same g.boxes c Preserve (clean c)

distinct-from : (g : QueryGraph) (b c : Node) → distinct_fits g b c ≡ true → DistinctFits g b c
distinct-from g b c h = elim (or_cases (is_preserve c.parts.distinct || is_enforce b.parts.distinct) (is_permit b.parts.distinct && are_clean g b c) h) [
  | inl t ↦ elim (or_cases (is_preserve c.parts.distinct) (is_enforce b.parts.distinct) t) [ inl p ↦ preserved (preserve-is c.parts.distinct p) | inr e ↦ enforced (enforce-is b.parts.distinct e) ]
  | inr t ↦ (
      let a = and_parts (is_permit b.parts.distinct) (are_clean g b c) t in
      let k = and_parts (infers_clean g b.id) (infers_clean (set_distinct c.id Preserve g) c.id) a.1 in
      permitted (permit-is b.parts.distinct a.0) (clean-from g b.id k.0) (clean-from (set_distinct c.id Preserve g) c.id k.1))
]

distinct-to : (g : QueryGraph) (b c : Node) → DistinctFits g b c → distinct_fits g b c ≡ true
distinct-to g b c (preserved e) = or_left (is_preserve c.parts.distinct || is_enforce b.parts.distinct) (is_permit b.parts.distinct && are_clean g b c) (or_left (is_preserve c.parts.distinct) (is_enforce b.parts.distinct) (ap is_preserve e))
distinct-to g b c (enforced e) = or_left (is_preserve c.parts.distinct || is_enforce b.parts.distinct) (is_permit b.parts.distinct && are_clean g b c) (or_right (is_preserve c.parts.distinct) (is_enforce b.parts.distinct) (ap is_enforce e))
distinct-to g b c (permitted e i j) =
    or_right (is_preserve c.parts.distinct || is_enforce b.parts.distinct) (is_permit b.parts.distinct && are_clean g b c)
    (and_from (is_permit b.parts.distinct) (are_clean g b c) (ap is_permit e)
    (and_from (infers_clean g b.id) (infers_clean (set_distinct c.id Preserve g) c.id) (clean-to g b.id i) (clean-to (set_distinct c.id Preserve g) c.id j)))

rows-from : (r : Role) (b : Bool) → (not (is_magic r) || b) ≡ true → r ≡ Magic → b ≡ true
rows-from r b h e = elim (or_cases (not (is_magic r)) b h) [ inl t ↦ absurd (clash (not (is_magic r)) t (ap (λ z. not (is_magic z)) e)) | inr t ↦ t ]

rows-to : (r : Role) (b : Bool) → (r ≡ Magic → b ≡ true) → (not (is_magic r) || b) ≡ true
rows-to r b h = elim (cases_Bool (is_magic r)) [ inl t ↦ or_right (not (is_magic r)) b (h (magic-is r t)) | inr f ↦ or_left (not (is_magic r)) b (ap not f) ]

-- ---- lateral quantifiers

not-lateral : (g : QueryGraph) (c : Node) → has_lateral g c ≡ false → (s : OwnedQuant) (q : ℕ) → In s c.quants → s.kind ≡ F → In q (free s.over g) → owns q c ≡ true → (q == s.id) ≡ true
not-lateral g c h s q i k j o =
    let a = and-rest (is_F s.kind) (list_any (λ q. owns q c && not (q == s.id)) (free s.over g)) (ap is_F k) (any-none (is_lateral g c) s c.quants h i) in
    let b = and-rest (owns q c) (not (q == s.id)) o (any-none (λ q. owns q c && not (q == s.id)) q (free s.over g) a j) in
    elim (cases_Bool (q == s.id)) [ inl t ↦ t | inr f ↦ absurd (clash (not (q == s.id)) (ap not f) b) ]

lateral-not : (g : QueryGraph) (c : Node) → ((s : OwnedQuant) (q : ℕ) → In s c.quants → s.kind ≡ F → In q (free s.over g) → owns q c ≡ true → (q == s.id) ≡ true) → has_lateral g c ≡ false
lateral-not g c h = any-not (is_lateral g c) c.quants (λ s i. elim (cases_Bool (is_lateral g c s)) [
  | inr f ↦ f
  | inl t ↦ absurd (
      let a = and_parts (is_F s.kind) (list_any (λ q. owns q c && not (q == s.id)) (free s.over g)) t in
      let b = any-in (λ q. owns q c && not (q == s.id)) (free s.over g) a.1 in
      let d = and_parts (owns b.0 c) (not (b.0 == s.id)) b.1.1 in
      clash (b.0 == s.id) (h s b.0 i (f-is s.kind a.0) b.1.0 d.0) (not-true (b.0 == s.id) d.1))
])

-- ---- cells that may stand in other boxes

free-from : (b q : ℕ) (bs : List Node) (k : ℕ) (xs : List Term) → cells_free b q bs k xs ≡ true
    → (y : Node) → In y bs → (y.id == b) ≡ false → (m j : ℕ) → j ≡ m + k → reads_in q j y ≡ true → node_free (cell_at (suc m) xs) ≡ true
free-from b q bs k [] h y i f zero j e r = refl
free-from b q bs k [] h y i f (suc m) j e r = refl
free-from b q bs k (x ∷ xs) h y i f zero j e r =
    let a = and_parts (node_free x || not (read_elsewhere b q k bs)) (cells_free b q bs (suc k) xs) h in
    let d : j ≡ k = omega arith in
    or-rest (node_free x) (read_elsewhere b q k bs) a.0 (any-from (λ y. not (y.id == b) && reads_in q k y) y bs i (and_from (not (y.id == b)) (reads_in q k y) (ap not f) (subst (λ z. reads_in q z y ≡ true) d r)))
free-from b q bs k (x ∷ xs) h y i f (suc m) j e r =
    let a = and_parts (node_free x || not (read_elsewhere b q k bs)) (cells_free b q bs (suc k) xs) h in
    let d : j ≡ m + suc k = omega arith in
    free-from b q bs (suc k) xs a.1 y i f m j d r

free-to : (b q : ℕ) (bs : List Node) (k : ℕ) (xs : List Term)
    → ((y : Node) → In y bs → (y.id == b) ≡ false → (m j : ℕ) → j ≡ m + k → reads_in q j y ≡ true → node_free (cell_at (suc m) xs) ≡ true) → cells_free b q bs k xs ≡ true
free-to b q bs k [] h = refl
free-to b q bs k (x ∷ xs) h = and_from (node_free x || not (read_elsewhere b q k bs)) (cells_free b q bs (suc k) xs) now (free-to b q bs (suc k) xs (λ y i f m j e r. h y i f (suc m) j (omega arith) r))
  where
    now : (node_free x || not (read_elsewhere b q k bs)) ≡ true
    now = elim (cases_Bool (read_elsewhere b q k bs)) [
      | inr f ↦ or_right (node_free x) (not (read_elsewhere b q k bs)) (ap not f)
      | inl t ↦ (
          let y = any-in (λ y. not (y.id == b) && reads_in q k y) bs t in
          let a = and_parts (not (y.0.id == b)) (reads_in q k y.0) y.1.1 in
          or_left (node_free x) (not (read_elsewhere b q k bs)) (h y.0 y.1.0 (not-true (y.0.id == b) a.0) zero k (omega arith) a.1))
    ]

cells-from : (b q : ℕ) (bs : List Node) (xs : List Term) → cells_free b q bs 1 xs ≡ true → (y : Node) → In y bs → (y.id == b) ≡ false → (k : ℕ) → reads_in q k y ≡ true → node_free (cell_at k xs) ≡ true
cells-from b q bs xs h y i f zero r = refl
cells-from b q bs xs h y i f (suc m) r = free-from b q bs 1 xs h y i f m (suc m) (omega arith) r

cells-to : (b q : ℕ) (bs : List Node) (xs : List Term) → ((y : Node) → In y bs → (y.id == b) ≡ false → (k : ℕ) → reads_in q k y ≡ true → node_free (cell_at k xs) ≡ true) → cells_free b q bs 1 xs ≡ true
cells-to b q bs xs h = free-to b q bs 1 xs (λ y i f m j e r. h y i f (suc m) (let d : j ≡ suc m = omega arith in subst (λ z. reads_in q z y ≡ true) d r))

-- ---- the quantifiers of c in the place of r

pub spliced-at : (us : List OwnedQuant) (r : OwnedQuant) (vs cs : List OwnedQuant) → list_any (is_quant r.id) us ≡ false → spliced r.id cs (us ++ r ∷ vs) ≡ us ++ (cs ++ vs)
spliced-at [] r vs cs h = ap (λ z. cond z (cs ++ vs) (r ∷ spliced r.id cs vs)) (eq-itself r.id)
spliced-at (u ∷ us) r vs cs h =
    let a = or_parts (u.id == r.id) (list_any (is_quant r.id) us) h in
    ap (λ z. cond z (cs ++ (us ++ r ∷ vs)) (u ∷ spliced r.id cs (us ++ r ∷ vs))) a.0 ∙ ap (λ z. u ∷ z) (spliced-at us r vs cs a.1)

pub own-apart : (g : QueryGraph) → WellFormed g → (b : Node) (us : List OwnedQuant) (r : OwnedQuant) (vs : List OwnedQuant) → In b g.boxes → b.quants ≡ us ++ r ∷ vs → list_any (is_quant r.id) us ≡ false
own-apart g w b us r vs i e =
    let in-r : In r b.quants = subst (λ z. In r z) (sym e) (in-right r us (r ∷ vs) (inl refl)) in
    let once : times r.id (ids_in g.boxes) ≡ 1 = w.kept I2 b i r in-r in
    let few = times-in ids_of r.id b g.boxes i in
    let own : times r.id (map (λ (x : OwnedQuant). x.id) (us ++ r ∷ vs)) ≤ 1 = subst (λ z. times r.id (map (λ (x : OwnedQuant). x.id) z) ≤ 1) e (omega arith) in
    any-not (is_quant r.id) us (λ s j. split-once (λ (x : OwnedQuant). x.id) us r vs own s (inl j))

pub merged-same : (g : QueryGraph) → WellFormed g → (b c : Node) (us : List OwnedQuant) (r : OwnedQuant) (vs : List OwnedQuant) → In b g.boxes → b.quants ≡ us ++ r ∷ vs → merged_with g b c r.id ≡ merged_in b c us r vs g
merged-same g w b c us r vs i e = ap (λ z. compact (on_boxes (merge b.id r.id c z) g)) (ap (spliced r.id c.quants) e ∙ spliced-at us r vs c.quants (own-apart g w b us r vs i e))

-- ---- all of it

over-from : (g : QueryGraph) (b : Node) (r : OwnedQuant) (found : Option Node) → may_over g b r found ≡ true → (c : Node) × ((found ≡ Some c) × (may_with g b r c ≡ true))
over-from g b r None h = absurd (let z : ⊥ = cc in z)
over-from g b r (Some c) h = (c, (refl, h))

in-from : (g : QueryGraph) (found : Option Node) (r : OwnedQuant) → may_in g found r ≡ true → (b : Node) × ((found ≡ Some b) × (may_at g b r ≡ true))
in-from g None r h = absurd (let z : ⊥ = cc in z)
in-from g (Some b) r h = (b, (refl, h))

module _ (g : QueryGraph) (w : WellFormed g) (b : Node) (us : List OwnedQuant) (r : OwnedQuant) (vs : List OwnedQuant) (in-b : In b g.boxes) (split : b.quants ≡ us ++ r ∷ vs) where
  pub mergeable-from : may_at g b r ≡ true → (c : Node) × IsMergeable g b c us r vs
  mergeable-from h =
      let a1 = and_parts (is_select b.parts.kind && not (is_fed b.parts.role) && is_F r.kind) (may_over g b r (box_of r.over g)) h in
      let a2 = and_parts (is_select b.parts.kind && not (is_fed b.parts.role)) (is_F r.kind) a1.0 in
      let a3 = and_parts (is_select b.parts.kind) (not (is_fed b.parts.role)) a2.0 in
      let x = over-from g b r (box_of r.over g) a1.1 in
      let c : Node = x.0 in
      let b0 = and_parts (may_go_in g b r c) (copies_little g r c) x.1.1 in
      let b1 = and_parts (may_stand g b r c && distinct_fits g b c) (not (any_fed_closed (merged_with g b c r.id))) b0.0 in
      let l1 = and_parts (nat_le (copies_of g r c) most_copied) (nat_le (levels_under g r c) room) b0.1 in
      let d1 = and_parts (may_stand g b r c) (distinct_fits g b c) b1.0 in
      let b2 = and_parts (cells_stand g b r c) (not (has_lateral g c)) d1.0 in
      let b3 = and_parts (parts_fit b c && (times c.id (overs_in g.boxes) == 1)) (cells_free b.id r.id g.boxes 1 c.parts.head) b2.0 in
      let b4 = and_parts (parts_fit b c) (times c.id (overs_in g.boxes) == 1) b3.0 in
      let p1 = and_parts (is_select c.parts.kind && is_plain c.parts.role) (not (is_magic b.parts.role) || all_F c.quants) b4.0 in
      let p2 = and_parts (is_select c.parts.kind) (is_plain c.parts.role) p1.0 in (
        c,
        record {
          select_b = select-is b.parts.kind a3.0;
          not_fed = not-true (is_fed b.parts.role) a3.1;
          split = split;
          is_f = f-is r.kind a2.1;
          under = x.1.0;
          select_c = select-is c.parts.kind p2.0;
          plain_c = plain-is c.parts.role p2.1;
          one_use = eqb-true (times c.id (overs_in g.boxes)) 1 b4.1;
          no_lateral = not-lateral g c (not-true (has_lateral g c) b2.1);
          distinct = distinct-from g b c d1.1;
          rows_alone = rows-from b.parts.role (all_F c.quants) p1.1;
          cells = cells-from b.id r.id g.boxes c.parts.head b3.1;
          fed_open = subst (λ (z : QueryGraph). FedOpen z.boxes) (merged-same g w b c us r vs in-b split) (fed-from (merged_with g b c r.id) (not-true (any_fed_closed (merged_with g b c r.id)) b1.1));
          few_copies = leb-true (copies_of g r c) most_copied l1.0;
          levels_fit = leb-true (levels_under g r c) room l1.1;
        },
      )

  mergeable-to : (c : Node) → IsMergeable g b c us r vs → may_at g b r ≡ true
  mergeable-to c m =
      and_from (is_select b.parts.kind && not (is_fed b.parts.role) && is_F r.kind) (may_over g b r (box_of r.over g))
      (and_from (is_select b.parts.kind && not (is_fed b.parts.role)) (is_F r.kind)
      (and_from (is_select b.parts.kind) (not (is_fed b.parts.role)) (ap is_select m.select_b) (ap not m.not_fed)) (ap is_F m.is_f))
      (ap (may_over g b r) m.under
      ∙ and_from (may_go_in g b r c) (copies_little g r c)
      (and_from (may_stand g b r c && distinct_fits g b c) (not (any_fed_closed (merged_with g b c r.id)))
      (and_from (may_stand g b r c) (distinct_fits g b c)
      (and_from (cells_stand g b r c) (not (has_lateral g c))
      (and_from (parts_fit b c && (times c.id (overs_in g.boxes) == 1)) (cells_free b.id r.id g.boxes 1 c.parts.head)
      (and_from (parts_fit b c) (times c.id (overs_in g.boxes) == 1) fit (eq-eqb (times c.id (overs_in g.boxes)) 1 m.one_use))
      (cells-to b.id r.id g.boxes c.parts.head m.cells))
      (ap not (lateral-not g c m.no_lateral)))
      (distinct-to g b c m.distinct))
      (ap not (fed-to (merged_with g b c r.id) (subst (λ (z : QueryGraph). FedOpen z.boxes) (sym (merged-same g w b c us r vs in-b split)) m.fed_open))))
      (and_from (nat_le (copies_of g r c) most_copied) (nat_le (levels_under g r c) room) (le-leb (copies_of g r c) most_copied m.few_copies) (le-leb (levels_under g r c) room m.levels_fit)))
    where
      fit : parts_fit b c ≡ true
      fit =
          and_from (is_select c.parts.kind && is_plain c.parts.role) (not (is_magic b.parts.role) || all_F c.quants)
          (and_from (is_select c.parts.kind) (is_plain c.parts.role) (ap is_select m.select_c) (ap is_plain m.plain_c))
          (rows-to b.parts.role (all_F c.quants) m.rows_alone)

-- ---- places

passes-from : (p : OwnedQuant → Bool) (first : ℕ) (rs : List OwnedQuant) (i : ℕ) → Passes p first rs i
    → (us : List OwnedQuant) × ((r : OwnedQuant) × ((vs : List OwnedQuant) × ((rs ≡ us ++ r ∷ vs) × (i ≡ length us + first) × (p r ≡ true))))
passes-from p first [] i h = elim h [ ]
passes-from p first (r ∷ rs) i h = elim h [
  | inl k ↦ ([], (r, (rs, (refl, (let e = k.0 in omega arith), k.1))))
  | inr k ↦ (let x = passes-from p (first + 1) rs i k in (r ∷ x.0, (x.1.0, (x.1.1.0, (ap (λ z. r ∷ z) x.1.1.1.0, (let e = x.1.1.1.1 in omega arith), x.1.1.1.2)))))
]

passes-to : (p : OwnedQuant → Bool) (first : ℕ) (us : List OwnedQuant) (r : OwnedQuant) (vs : List OwnedQuant) (i : ℕ) → i ≡ length us + first → p r ≡ true → Passes p first (us ++ r ∷ vs) i
passes-to p first [] r vs i e h = inl ((omega arith), h)
passes-to p first (u ∷ us) r vs i e h = inr (passes-to p (first + 1) us r vs i (omega arith) h)

exact-to : (g : QueryGraph) (b i j : ℕ) → WellFormed g → In (i, j) (picks (may_merge g b) 1 (quants_of b g)) → MayMergeSelect (record { at = b; i = i; j = j }) g
unfolding MayMergeSelect
exact-to g b i j w h =
    let a = (picks_exact (may_merge g b) 1 (quants_of b g) i j).0 h in
    let x = passes-from (may_merge g b) 1 (quants_of b g) i a.1 in
    let n = in-from g (box_of b g) x.1.0 x.1.1.1.2 in
    let split : n.0.quants ≡ x.0 ++ x.1.0 ∷ x.1.1.0 = sym (ap quants_in n.1.0) ∙ x.1.1.1.0 in
    let in-b = (some-in (is_box b) g.boxes n.0 n.1.0).0 in
    let m = mergeable-from g w n.0 x.0 x.1.0 x.1.1.0 in-b split n.1.1 in
    (a.0, (n.0, (m.0, (x.0, (x.1.0, (x.1.1.0, (n.1.0, (let e = x.1.1.1.1 in omega arith), m.1)))))))

exact-from : (g : QueryGraph) (b i j : ℕ) → WellFormed g → MayMergeSelect (record { at = b; i = i; j = j }) g → In (i, j) (picks (may_merge g b) 1 (quants_of b g))
unfolding MayMergeSelect
exact-from g b i j w h =
    let n : Node = h.1.0 in
    let us : List OwnedQuant = h.1.1.1.0 in
    let r : OwnedQuant = h.1.1.1.1.0 in
    let vs : List OwnedQuant = h.1.1.1.1.1.0 in
    let k = h.1.1.1.1.1.1 in
    let in-b = (some-in (is_box b) g.boxes n k.0).0 in
    let t : may_merge g b r ≡ true = ap (λ z. may_in g z r) k.0 ∙ mergeable-to g w n us r vs in-b k.2.split h.1.1.0 k.2 in
    let e : quants_of b g ≡ us ++ r ∷ vs = ap quants_in k.0 ∙ k.2.split in
    (picks_exact (may_merge g b) 1 (quants_of b g) i j).1 (h.0, subst (λ z. Passes (may_merge g b) 1 z i) (sym e) (passes-to (may_merge g b) 1 us r vs i (let d = k.1 in omega arith) t))

-- M1 has exactly the places where it may fire
pub merge_select_exact : (g : QueryGraph) (b i j : ℕ) → EachOnce (numbers g.boxes) → WellFormed g → In (i, j) (merge_select_pairs g b) ↔ MayMergeSelect (record { at = b; i = i; j = j }) g
unfolding merge_select_pairs
merge_select_exact g b i j once w = (exact-to g b i j w, exact-from g b i j w)

-- in order
pub merge_select_ascending : (g : QueryGraph) (b : ℕ) → Ascending (merge_select_pairs g b)
unfolding merge_select_pairs
merge_select_ascending g b = picks_ascending (may_merge g b) 1 (quants_of b g)

-- at a place of M1 a quantifier of the box passes the test
pub record PassesMerge (g : QueryGraph) (b i : ℕ) : Type 0 where
  pub n : Node
  pub us : List OwnedQuant
  pub r : OwnedQuant
  pub vs : List OwnedQuant
  pub at : box_of b g ≡ Some n
  pub split : n.quants ≡ us ++ r ∷ vs
  pub nth : i ≡ suc (length us)
  pub passes : may_at g n r ≡ true

pub merge_select_given : (g : QueryGraph) (b i j : ℕ) → In (i, j) (merge_select_pairs g b) → PassesMerge g b i
unfolding merge_select_pairs
merge_select_given g b i j h =
    let a = (picks_exact (may_merge g b) 1 (quants_of b g) i j).0 h in
    let x = passes-from (may_merge g b) 1 (quants_of b g) i a.1 in
    let m = in-from g (box_of b g) x.1.0 x.1.1.1.2 in
    record {
      n = m.0;
      us = x.0;
      r = x.1.0;
      vs = x.1.1.0;
      at = m.1.0;
      split = sym (ap quants_in m.1.0) ∙ x.1.1.1.0;
      nth = (let e = x.1.1.1.1 in omega arith);
      passes = m.1.1;
    }

-- r, quantifier i of the box of the place, ranges over c, and what is planned is the merge of c under r
pub record PlansAt (g : QueryGraph) (p : Place) (m : MergePlan) : Type 0 where
  pub b : Node
  pub r : OwnedQuant
  pub c : Node
  pub found : box_of p.at g ≡ Some b
  pub nth : slice_get b.quants (p.i - 1) ≡ Some r
  pub under : box_of r.over g ≡ Some c
  pub plans : Plans g b p.i r c m
