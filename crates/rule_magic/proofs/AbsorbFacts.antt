-- What a well-formed graph and its inferred facts give of a fed box that may be absorbed.
use Rattle.std.proofs.Common.{ℕ, zero, suc, ◌==◌, ◌≡◌, ◌≤◌, ◌+◌, ◌&&◌, ◌||◌, cond, Bool, true, false, List, [], ◌∷◌, ◌++◌, map, length, Option, Some, None, refl, sym, ap, ap₂, subst, ◌∙◌, eqb-true, ◌⊎◌, inl, inr, arith}
use Rattle.std.specs.List.{flat_map, list_all, list_any}
use Rattle.std.proofs.lemmas.Bool.{and_parts, cases_Bool, eq-eqb, eqb-false}
use Rattle.sql_value.specs.declared.cell.Kind.{Kind}
use Rattle.sql_value.specs.declared.cell.Kind.TheVariants.{Cardinality, Division, Overflow}
use Rattle.row_bag.specs.AsSets.{is_clean, stands}
use Rattle.row_bag.specs.Errors.{error_among, error_in}
use Rattle.row_bag.specs.Sets.{error_or_bag, failed_cells, same_cells}
use Rattle.row_bag.specs.declared.row.Row.{Row}
use Rattle.row_bag.specs.declared.tables.Table.{Table}
use Rattle.qgm_core.specs.Boxes.{QueryGraph, is_box, is_quant, numbers, overs_in, overs_of, owns, width}
use Rattle.qgm_core.specs.Kinds.{is_F, is_enforce, is_fed, is_magic, is_plain, is_preserve}
use Rattle.list_laws.specs.Lists.{EachOnce, In, first, times}
use Rattle.qgm_core.specs.declared.kinds.BoxKind.{BoxKind}
use Rattle.qgm_core.specs.declared.kinds.BoxKind.TheVariants.{Base, Select, Group, SetOp, OuterJoin}
use Rattle.qgm_core.specs.declared.kinds.Distinct.{Distinct}
use Rattle.qgm_core.specs.declared.kinds.Distinct.TheVariants.{Enforce, Preserve, Permit}
use Rattle.qgm_core.specs.declared.kinds.Role.{Role}
use Rattle.qgm_core.specs.declared.kinds.Role.TheVariants.{Plain, Magic, Fed}
use Rattle.qgm_core.specs.declared.node.Node.{Node}
use Rattle.qgm_core.specs.declared.owned.OwnedQuant.{OwnedQuant}
use Rattle.qgm_wellformed.specs.Sentences.{WellFormed}
use Rattle.qgm_wellformed.specs.Shapes as shape
use Rattle.qgm_wellformed.specs.Shapes.{columns_through, fed_by, is_column, is_none, kind_fits, magic_found, role_fits, same_columns, width_found}
use Rattle.qgm_wellformed.proofs.Faults.{finds-none}
use Rattle.qgm_edit_laws.specs.Graph.{Sound}
use Rattle.qgm_edit_laws.specs.Placed.{place}
use Rattle.qgm_edit_laws.specs.Shaped.{Shaped, Typed}
use Rattle.qgm_edit_laws.proofs.Formed.{sound-checked}
use Rattle.qgm_edit_laws.proofs.FreeLoose.{alone-to, looks-asked, looks-free}
use Rattle.qgm_edit_laws.proofs.Levels.{owner-of}
use Rattle.qgm_edit_laws.proofs.Ranks.{place-under}
use Rattle.qgm_edit_laws.proofs.Scope.{in-first, one-parent}
use Rattle.qgm_edit_laws.proofs.Scoped.{few-ids}
use Rattle.qgm_edit_laws.proofs.ShapeParts.{FedParts, TwoParts, fed-parts, two-parts}
use Rattle.qgm_edit_laws.proofs.Widths.{wide}
use Rattle.qgm_meaning.specs.Laws.{occurs}
use Rattle.qgm_meaning.specs.Meaning.{Family, bag_in, given_by, grouped_rows, groups, key_cells, of_one, once_if, over_each, quant_rows, rows_by, rows_found}
use Rattle.qgm_meaning.specs.Satisfies.{Satisfies}
use Rattle.qgm_meaning.specs.Scope.{loose, read_by}
use Rattle.qgm_meaning.specs.Tags as tags
use Rattle.qgm_meaning.specs.Values.{Bag, Environment, bound, row_of}
use Rattle.qgm_meaning.specs.Widths.{Wide}
use Rattle.qgm_meaning.proofs.Frames.{bag-framed}
use Rattle.qgm_meaning.proofs.Satisfying.{of-satisfying}
use Rattle.qgm_meaning.proofs.Unfold.{unfold-bag}
use Rattle.qgm_props.specs.Facts.{IsClean, IsErrorFree}
use Rattle.qgm_props.specs.Holding.{AllBound, HasRow, is_bound}
use Rattle.qgm_props.specs.Inferred.{Facts, Inferred, all_places, clean, clean_by, error_free, of_box}
use Rattle.qgm_props.specs.Laws.{Premises, Tells}
use Rattle.qgm_props.proofs.Settled.{inferred-holds}
use Rattle.qgm_terms.specs.Named.{columns_in}
use Rattle.qgm_terms.specs.Terms as t
use Rattle.qgm_terms.specs.Terms.{Term}
use Rattle.qgm_terms.specs.Wanted.{reads, reads_cond}
use Rattle.qgm_terms.specs.declared.named.Column.{Column}
use Rattle.rule_facts.proofs.Premises.{premises}
use Rattle.rule_magic.specs.Boxes.{of_both}
use Rattle.rule_magic.specs.FedBox.{IsFedAt}
use Rattle.rule_magic.specs.Places.{MayAbsorb}
use Rattle.rule_magic.specs.UnderTags.{AreTags}
use Rattle.rule_magic.proofs.CalmFires.{shape-kind}
use Rattle.qgm_meaning.proofs.LedSets.{Tuple}
use Rattle.qgm_props.proofs.Monotone.{least}
use Rattle.rule_magic.proofs.AbsorbBags.{first-of, tags-of}
use Rattle.qgm_props.proofs.NeverNegative.{fed-select}
use Rattle.rule_magic.proofs.TaggedWidths.{own-row}
use Rattle.list_laws.proofs.Counting.{times-in}
use Rattle.list_laws.proofs.Booleans.{clash, or-false}
use Rattle.list_laws.proofs.Membership.{any-from, eq-itself}

-- ---- heads of columns

heads-columns : (xs : List Term) (cs : List Column) → list_all is_column xs ≡ true → same_columns (flat_map columns_in xs) cs ≡ true → xs ≡ map (λ (c : Column). t.col c.quant c.place) cs
heads-columns [] [] h k = refl
heads-columns [] (c ∷ cs) h k = absurd (let z : ⊥ = cc in z)
heads-columns (t.int n ∷ xs) cs h k = absurd (let z : ⊥ = cc in z)
heads-columns (t.text s ∷ xs) cs h k = absurd (let z : ⊥ = cc in z)
heads-columns (t.null_int ∷ xs) cs h k = absurd (let z : ⊥ = cc in z)
heads-columns (t.null_text ∷ xs) cs h k = absurd (let z : ⊥ = cc in z)
heads-columns (t.col q i ∷ xs) [] h k = absurd (let z : ⊥ = cc in z)
heads-columns (t.col q i ∷ xs) (c ∷ cs) h k =
    let a = and_parts ((q == c.quant) && (i == c.place)) (same_columns (flat_map columns_in xs) cs) k in
    let b = and_parts (q == c.quant) (i == c.place) a.0 in
    ap₂ (λ (x : Term) (ys : List Term). x ∷ ys) (ap₂ (λ (u v : ℕ). t.col u v) (eqb-true q c.quant b.0) (eqb-true i c.place b.1)) (heads-columns xs cs h a.1)
heads-columns (t.scalar q ∷ xs) cs h k = absurd (let z : ⊥ = cc in z)
heads-columns (t.both o x y ∷ xs) cs h k = absurd (let z : ⊥ = cc in z)
heads-columns (t.minus_of x ∷ xs) cs h k = absurd (let z : ⊥ = cc in z)
heads-columns (t.choose s x ∷ xs) cs h k = absurd (let z : ⊥ = cc in z)
heads-columns (t.count_all ∷ xs) cs h k = absurd (let z : ⊥ = cc in z)
heads-columns (t.fold f e x ∷ xs) cs h k = absurd (let z : ⊥ = cc in z)

columns-terms : (q k w : ℕ) → map (λ (c : Column). t.col c.quant c.place) (shape.columns_from q k w) ≡ tags.columns_from q k w
columns-terms q k zero = refl
columns-terms q k (suc w) = ap (λ (ys : List Term). t.col q k ∷ ys) (ap (λ i. map (λ (c : Column). t.col c.quant c.place) (shape.columns_from q i w)) (omega arith) ∙ columns-terms q (suc k) w)

map-append : (cs ds : List Column) → map (λ (c : Column). t.col c.quant c.place) (cs ++ ds) ≡ map (λ (c : Column). t.col c.quant c.place) cs ++ map (λ (c : Column). t.col c.quant c.place) ds
map-append [] ds = refl
map-append (c ∷ cs) ds = ap (λ (ys : List Term). t.col c.quant c.place ∷ ys) (map-append cs ds)

pub read-columns : (q p k w : ℕ) → list_any (reads q) (tags.columns_from p k w) ≡ true → (p == q) ≡ true
read-columns q p k zero h = absurd (let z : ⊥ = cc in z)
read-columns q p k (suc w) h = elim (cases_Bool (p == q)) [ inl e ↦ e | inr f ↦ read-columns q p (suc k) w (sym (ap (λ b. b || list_any (reads q) (tags.columns_from p (suc k) w)) f) ∙ h) ]

pub read-append : (q : ℕ) (xs ys : List Term) → list_any (reads q) (xs ++ ys) ≡ true → (list_any (reads q) xs ≡ true) ⊎ (list_any (reads q) ys ≡ true)
read-append q [] ys h = inr h
read-append q (x ∷ xs) ys h = elim (cases_Bool (reads q x)) [
  | inl e ↦ inl (ap (λ b. b || list_any (reads q) xs) e)
  | inr f ↦ elim (read-append q xs ys (sym (ap (λ b. b || list_any (reads q) (xs ++ ys)) f) ∙ h)) [ inl e ↦ inl (ap₂ (λ a b. a || b) f e) | inr e ↦ inr e ]
]

none-list : {X : Type 0} (xs : List X) → is_none xs ≡ true → xs ≡ []
none-list [] h = refl
none-list (x ∷ xs) h = absurd (let z : ⊥ = cc in z)

not-once : (d : Distinct) → is_preserve d ≡ true → is_enforce d ≡ false
not-once Enforce h = absurd (let z : ⊥ = cc in z)
not-once Preserve h = refl
not-once Permit h = absurd (let z : ⊥ = cc in z)

places-each : (w : ℕ) (test : ℕ → Bool) → all_places w test ≡ true → (k : ℕ) → 1 ≤ k → k ≤ w → test k ≡ true
places-each zero test h k l m = absurd (let z : ⊥ = omega (arith, l, m) in z)
places-each (suc w) test h k l m =
    let a = and_parts (test (suc w)) (all_places w test) h in
    elim (cases_Bool (k == suc w)) [
      | inl e ↦ subst (λ z. test z ≡ true) (sym (eqb-true k (suc w) e)) a.0
      | inr n ↦ places-each w test a.1 k l (let e = eqb-false k (suc w) n in omega (arith, m, e))
    ]

wide-list : (k : ℕ) (rows : Bag) → ((r : Row Tuple) → In r rows → length r.cells ≡ k) → Wide k rows
wide-list k [] h = tt
wide-list k (r ∷ rows) h = (h r (inl refl), wide-list k rows (λ s i. h s (inr i)))

-- a collapsed bag isn't clean
pub error-unclean : (w : ℕ) (o : Option Kind) (rows : Bag) → is_clean (error_or_bag (failed_cells w) o rows) ≡ true → o ≡ None
error-unclean w None rows h = refl
error-unclean w (Some Cardinality) rows h = absurd (let z : ⊥ = cc in z)
error-unclean w (Some Division) rows h = absurd (let z : ⊥ = cc in z)
error-unclean w (Some Overflow) rows h = absurd (let z : ⊥ = cc in z)

-- ---- a fed box that may be absorbed

module _ (g : QueryGraph) (once : EachOnce (numbers g.boxes)) (wf : WellFormed g) (known : Facts) (tells : Tells known g.boxes) (d : Node) (may : MayAbsorb g.boxes known d) where
  abbrev bs : List Node
  bs = g.boxes

  abbrev m : Node
  m = may.m

  abbrev c : Node
  c = may.c

  abbrev a : OwnedQuant
  a = may.a

  abbrev r : OwnedQuant
  r = may.r

  pub fine : Sound g.boxes g.root × Typed g.boxes × Shaped g.boxes g.root
  fine = (sound-checked g once).0 ((finds-none g once).1 wf)

  pub w : Sound g.boxes g.root
  w = fine.0

  pub kind_d : d.parts.kind ≡ Select
  kind_d = fed-select g once wf d may.in_d may.is_fed

  pub parts : FedParts g.root g.boxes d
  parts = fed-parts g.root g.boxes d (ap is_fed may.is_fed) (shape-kind g once wf d may.in_d)

  pub two : TwoParts g.boxes d.parts.head a r
  two = two-parts g.boxes d.parts.head a r (ap (fed_by g.boxes d.parts.head) (sym may.quants) ∙ parts.fed)

  pub in-a : In a d.quants
  in-a = subst (λ (z : List OwnedQuant). In a z) (sym may.quants) (inl refl)

  pub in-r : In r d.quants
  in-r = subst (λ (z : List OwnedQuant). In r z) (sym may.quants) (inr (inl refl))

  pub open-c : (loose g.boxes c.id a.id ≡ true) × ((q : ℕ) → loose g.boxes c.id q ≡ true → q ≡ a.id)
  open-c = subst (λ b. (loose g.boxes b a.id ≡ true) × ((q : ℕ) → loose g.boxes b q ≡ true → q ≡ a.id)) (sym may.over_c) (alone-to g.boxes g.root fine.0 r.over a.id two.alone)

  pub closed-m : (q : ℕ) → loose g.boxes m.id q ≡ false
  closed-m q = elim (cases_Bool (loose g.boxes m.id q)) [ inr f ↦ f | inl t ↦ absurd (may.closed q (looks-free g.boxes g.root fine.0 m.id q t)) ]

  pub used-c : times c.id (overs_in g.boxes) ≡ 1
  used-c = fine.0.used c.id a.id open-c.0

  pub only-d : (n : Node) (s : OwnedQuant) → In n g.boxes → In s n.quants → s.over ≡ c.id → n ≡ d
  only-d n s i j e = one-parent g.boxes g.root fine.0 c.id n d s r (let u = used-c in omega (arith, u)) i may.in_d j in-r e (sym may.over_c)

  pub d-not-c : (d.id == c.id) ≡ false
  d-not-c = elim (cases_Bool (d.id == c.id)) [
    | inr f ↦ f
    | inl t ↦ absurd (
        let less = place-under g.boxes d r fine.0.ordered may.in_d in-r in
        let same : place g.boxes d.id ≡ place g.boxes r.over = ap (place g.boxes) (eqb-true d.id c.id t ∙ may.over_c) in
        omega (arith, less, same))
  ]

  pub apart : (r.id == a.id) ≡ false
  apart = elim (cases_Bool (r.id == a.id)) [
    | inr f ↦ f
    | inl t ↦ absurd (
        let few = few-ids g.boxes d a.id (fine.0.once a.id) may.in_d in
        let two_there : times a.id (a.id ∷ (r.id ∷ [])) ≤ 1 = subst (λ (z : List OwnedQuant). times a.id (map (λ (s : OwnedQuant). s.id) z) ≤ 1) may.quants few in
        let n : 1 + (1 + 0) ≤ 1 = subst (λ b. 1 + (cond b 1 0 + 0) ≤ 1) t (subst (λ b. cond b 1 0 + (cond (r.id == a.id) 1 0 + 0) ≤ 1) (eq-itself a.id) two_there) in
        omega (arith, n))
  ]

  pub a-not-c : (a.over == c.id) ≡ false
  a-not-c = elim (cases_Bool (a.over == c.id)) [
    | inr f ↦ f
    | inl t ↦ absurd (
        let u = used-c in
        let here = times-in overs_of c.id d g.boxes may.in_d in
        let two_there : times c.id (a.over ∷ (r.over ∷ [])) ≤ 1 = subst (λ (z : List OwnedQuant). times c.id (map (λ (s : OwnedQuant). s.over) z) ≤ 1) may.quants (omega (arith, u, here)) in
        let n : 1 + (1 + 0) ≤ 1 = subst (λ b. 1 + (cond b 1 0 + 0) ≤ 1) (eq-eqb r.over c.id (sym may.over_c)) (subst (λ b. cond b 1 0 + (cond (r.over == c.id) 1 0 + 0) ≤ 1) t two_there) in
        omega (arith, n))
  ]

  pub m-not-c : (m.id == c.id) ≡ false
  m-not-c = subst (λ i. (i == c.id) ≡ false) (sym may.over_m) a-not-c

  pub head-is : d.parts.head ≡ of_both a.id (width m) r.id (width c)
  head-is =
      let h = and_parts (list_all is_column d.parts.head) (same_columns (flat_map columns_in d.parts.head) (columns_through g.boxes a ++ columns_through g.boxes r)) two.columns in
      heads-columns d.parts.head (columns_through g.boxes a ++ columns_through g.boxes r) h.0 h.1
      ∙ map-append (columns_through g.boxes a) (columns_through g.boxes r)
      ∙ ap₂ (λ (x y : List Term). x ++ y)
      (columns-terms a.id 1 (width_found (first (is_box a.over) g.boxes)) ∙ ap (λ (z : Option Node). tags.columns_from a.id 1 (width_found z)) (subst (λ i. first (is_box i) g.boxes ≡ Some m) may.over_m (in-first m g.boxes fine.0.ordered may.in_m)))
      (columns-terms r.id 1 (width_found (first (is_box r.over) g.boxes)) ∙ ap (λ (z : Option Node). tags.columns_from r.id 1 (width_found z)) (subst (λ i. first (is_box i) g.boxes ≡ Some c) may.over_c (in-first c g.boxes fine.0.ordered may.in_c)))

  -- the fed box looks nothing up
  pub closed-d : (q : ℕ) → loose g.boxes d.id q ≡ false
  closed-d q = elim (cases_Bool (loose g.boxes d.id q)) [
    | inr f ↦ f
    | inl t ↦ absurd (let k = looks-asked g.boxes g.root fine.0 d may.in_d q t in elim k.1 [ inl h ↦ by-read k.0 h | inr h ↦ by-under k.0 h.0 h.1.0 h.1.1 ])
  ]
    where
      own-a : owns q d ≡ false → (a.id == q) ≡ true → ⊥
      own-a n e = clash (owns q d) (any-from (is_quant q) a d.quants in-a e) n

      own-r : owns q d ≡ false → (r.id == q) ≡ true → ⊥
      own-r n e = clash (owns q d) (any-from (is_quant q) r d.quants in-r e) n

      by-read : owns q d ≡ false → read_by d q ≡ true → ⊥
      by-read n h =
          let h2 : (list_any (reads q) (of_both a.id (width m) r.id (width c)) || false) ≡ true = subst (λ (x : List Term). (list_any (reads q) x || false) ≡ true) head-is (subst (λ (cs : List t.Cond). (list_any (reads q) d.parts.head || list_any (reads_cond q) cs) ≡ true) (none-list d.parts.conds.items parts.no_conds) h) in
          elim (read-append q (tags.columns_from a.id 1 (width m)) (tags.columns_from r.id 1 (width c)) (sym (or-false (list_any (reads q) (of_both a.id (width m) r.id (width c)))) ∙ h2)) [
            | inl e ↦ own-a n (read-columns q a.id 1 (width m) e)
            | inr e ↦ own-r n (read-columns q r.id 1 (width c) e)
          ]

      by-under : owns q d ≡ false → (s : OwnedQuant) → In s d.quants → loose g.boxes s.over q ≡ true → ⊥
      by-under n s j h = elim (subst (λ (z : List OwnedQuant). In s z) may.quants j) [
        | inl e ↦ clash (loose g.boxes m.id q) (subst (λ i. loose g.boxes i q ≡ true) (ap (λ (z : OwnedQuant). z.over) (sym e) ∙ sym may.over_m) h) (closed-m q)
        | inr k ↦ elim k [
          | inl e ↦ own-a n (eq-eqb a.id q (sym (open-c.1 q (subst (λ i. loose g.boxes i q ≡ true) (ap (λ (z : OwnedQuant). z.over) (sym e) ∙ sym may.over_c) h))))
          | inr z ↦ elim z [ ]
        ]
      ]

  -- the magic box is an ENFORCE select
  pub magic-m : is_magic m.parts.role ≡ true
  magic-m = subst (λ (z : Option Node). magic_found z ≡ true) (subst (λ i. first (is_box i) g.boxes ≡ Some m) may.over_m (in-first m g.boxes fine.0.ordered may.in_m)) two.magic

  role-m : m.parts.role ≡ Magic
  role-m = at m.parts.role magic-m
    where
      at : (z : Role) → is_magic z ≡ true → z ≡ Magic
      at Plain h = absurd (let z : ⊥ = cc in z)
      at Magic h = refl
      at Fed h = absurd (let z : ⊥ = cc in z)

  plain-not : (b : Bool) → (b && is_plain m.parts.role) ≡ true → ⊥
  plain-not b h = let x = and_parts b (is_plain m.parts.role) h in let z : is_plain Magic ≡ true = subst (λ y. is_plain y ≡ true) role-m x.1 in let y : ⊥ = cc in y

  select-m : m.parts.kind ≡ Select
  select-m = at m.parts.kind refl (shape-kind g once wf m may.in_m)
    where
      group-not : (k : ℕ) → shape.is_group k m ≡ true → ⊥
      group-not k h =
          let x = and_parts (shape.are_F 1 m.quants && is_none m.parts.conds.items && is_plain m.parts.role && shape.head_folds k m.parts.head) (shape.head_is_own m) h in
          let y = and_parts (shape.are_F 1 m.quants && is_none m.parts.conds.items && is_plain m.parts.role) (shape.head_folds k m.parts.head) x.0 in
          plain-not (shape.are_F 1 m.quants && is_none m.parts.conds.items) y.0

      at : (k : BoxKind) → m.parts.kind ≡ k → kind_fits g.root g.boxes m m.parts.kind ≡ true → m.parts.kind ≡ Select
      at (Base x) k h = absurd (plain-not _ (subst (λ z. kind_fits g.root g.boxes m z ≡ true) k h))
      at Select k h = k
      at (Group x) k h = absurd (group-not x (subst (λ z. kind_fits g.root g.boxes m z ≡ true) k h))
      at (SetOp f x) k h = absurd (plain-not _ (subst (λ z. kind_fits g.root g.boxes m z ≡ true) k h))
      at OuterJoin k h = absurd (plain-not _ (subst (λ z. kind_fits g.root g.boxes m z ≡ true) k h))

  enforce-m : is_enforce m.parts.distinct ≡ true
  enforce-m =
      let x = and_parts (shape.is_unfolded m) (role_fits g.root g.boxes m m.parts.role) (subst (λ z. kind_fits g.root g.boxes m z ≡ true) select-m (shape-kind g once wf m may.in_m)) in
      (and_parts (is_enforce m.parts.distinct) (shape.all_F m.quants) (subst (λ z. role_fits g.root g.boxes m z ≡ true) role-m x.1)).0

  module _ (tables : List Table) (s : Satisfies tables g.boxes) where
    abbrev f : Family
    f = bag_in tables g.boxes

    pub wide-box : (n : Node) → In n g.boxes → (e : Environment) → Wide (width n) (bag_in tables g.boxes n.id e)
    wide-box n i e = wide-list (width n) (bag_in tables g.boxes n.id e) (wide g.boxes g.root fine.0 tables (of-satisfying.filled tables g.boxes s) n i e)

    given : Premises tables g.boxes
    given = premises g.boxes g.root fine.0 tables s

    everywhere : (e : Environment) → bag_in tables g.boxes m.id [] ≡ bag_in tables g.boxes m.id e
    everywhere e = bag-framed tables g.boxes m.id [] e (record { rows = λ q k. absurd (clash (loose g.boxes m.id q) k (closed-m q)) })

    nothing-asked : AllBound g.boxes m.id []
    nothing-asked q k = absurd (clash (loose g.boxes m.id q) k (closed-m q))

    pub tags-are : (e : Environment) → AreTags (width m) (bag_in tables g.boxes m.id e)
    tags-are e = tags-of (width m) (bag_in tables g.boxes m.id e) (over_each m.quants (quant_rows m f) (given_by (quant_rows m f) m) e)
        (unfold-bag tables g.boxes m.id m e fine.0.ordered (first-of g.boxes m fine.0.ordered may.in_m) ∙ ap (λ k. rows_by k tables m (quant_rows m f) e) select-m
        ∙ ap (λ b. once_if b (over_each m.quants (quant_rows m f) (given_by (quant_rows m f) m) e)) enforce-m)
        (wide-box m may.in_m e)
        (subst IsClean (everywhere e) (inferred-holds tables g.boxes given (clean m.id) ((tells (clean m.id)).0 may.clean) [] tt nothing-asked))
        (λ k i j. subst (IsErrorFree k) (everywhere e) (inferred-holds tables g.boxes given (error_free m.id k) ((tells (error_free m.id k)).0 (places-each (width m) (known.error_free m.id) may.columns k i j)) [] tt nothing-asked))

    pub is-fed-at : IsFedAt tables g d m c a r
    is-fed-at = record {
      ordered = fine.0.ordered;
      in_d = may.in_d;
      in_m = may.in_m;
      in_c = may.in_c;
      a_select = kind_d;
      not_once = not-once d.parts.distinct parts.preserve;
      no_cond = none-list d.parts.conds.items parts.no_conds;
      quants = may.quants;
      row_a = (and_parts (is_F a.kind) (is_F r.kind) two.kinds).0;
      row_r = (and_parts (is_F a.kind) (is_F r.kind) two.kinds).1;
      apart = apart;
      over_m = sym may.over_m;
      over_c = sym may.over_c;
      head = head-is;
      wide = wide-box;
      tags = tags-are;
    }

    -- where a is bound to a tag, what is inferred to be clean and looks a up alone is clean
    pub clean-under-tag : (n : Node) → In n g.boxes → Inferred g.boxes (clean n.id) → ((q : ℕ) → loose g.boxes n.id q ≡ true → q ≡ a.id) → (e : Environment) (u : Tuple) → stands same_cells u (bag_in tables g.boxes m.id e) ≡ true
        → IsClean (bag_in tables g.boxes n.id (bound a.id u e))
    clean-under-tag n i h alone e u z =
        subst IsClean (bag-framed tables g.boxes n.id (bound a.id u []) (bound a.id u e) (record { rows = λ q k. subst (λ j. row_of j (bound a.id u []) ≡ row_of j (bound a.id u e)) (sym (alone q k)) (own-row a.id u [] ∙ sym (own-row a.id u e)) }))
        (inferred-holds tables g.boxes given (clean n.id) h (bound a.id u []) (has, tt) (λ q k. subst (λ j. is_bound j (bound a.id u []) ≡ true) (sym (alone q k)) (ap (λ b. b || false) (eq-itself a.id))))
      where
        has : HasRow (bag_in tables g.boxes) g.boxes a.id u []
        has = record {
          range = a;
          owned = owner-of g.boxes fine.0.once d a may.in_d in-a;
          row = subst (λ i. occurs u (bag_in tables g.boxes i []) ≡ true) may.over_m (subst (λ (rows : Bag). occurs u rows ≡ true) (sym (everywhere e)) z);
          before = λ q k. nothing-asked q (subst (λ i. loose g.boxes i q ≡ true) (sym may.over_m) k);
        }

    -- a box that a sentence infers to be clean is inferred to be
    pub said-clean : (n : Node) → In n g.boxes → clean_by g.boxes known n.parts.kind n ≡ true → Inferred g.boxes (clean n.id)
    said-clean n i h = least g.boxes known (λ fact k. (tells fact).0 k) (clean n.id) (ap (of_box false (λ (z : Node). clean_by g.boxes known z.parts.kind z)) (in-first n g.boxes fine.0.ordered i) ∙ h)

    -- so no group under a tag is collapsed
    pub group-sound : (keys : ℕ) (x : Node) (q : OwnedQuant) → c.parts.kind ≡ Group keys → c.quants ≡ q ∷ [] → q.over ≡ x.id → clean_by g.boxes known c.parts.kind c ≡ true → (e : Environment) (u : Tuple) → stands same_cells u (bag_in tables g.boxes m.id e) ≡ true
        → error_among (λ cells. error_in (key_cells keys c.parts.head q.id (bound a.id u e) cells)) (bag_in tables g.boxes x.id (bound a.id u e)) ≡ None
    group-sound keys x q kind one over h e u z =
        error-unclean (length c.parts.head) (error_among (λ cells. error_in (key_cells keys c.parts.head q.id (bound a.id u e) cells)) (bag_in tables g.boxes x.id (bound a.id u e))) (groups keys c.parts.head q.id (bound a.id u e) (bag_in tables g.boxes x.id (bound a.id u e)))
        (subst IsClean is-group (clean-under-tag c may.in_c (said-clean c may.in_c h) open-c.1 e u z))
      where
        is-group : bag_in tables g.boxes c.id (bound a.id u e) ≡ grouped_rows keys c.parts.head q.id (bound a.id u e) (bag_in tables g.boxes x.id (bound a.id u e))
        is-group =
            unfold-bag tables g.boxes c.id c (bound a.id u e) fine.0.ordered (first-of g.boxes c fine.0.ordered may.in_c)
            ∙ ap (λ k. rows_by k tables c (quant_rows c f) (bound a.id u e)) kind
            ∙ ap (λ (rs : List OwnedQuant). of_one rs (λ y. grouped_rows keys c.parts.head y (bound a.id u e) (rows_found (first (is_quant y) rs) f (bound a.id u e)))) one
            ∙ ap (λ b. grouped_rows keys c.parts.head q.id (bound a.id u e) (rows_found (cond b (Some q) None) f (bound a.id u e))) (eq-itself q.id)
            ∙ ap (λ i. grouped_rows keys c.parts.head q.id (bound a.id u e) (f i (bound a.id u e))) over
