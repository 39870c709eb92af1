-- G4 and G5 on a graph.
use Rattle.std.proofs.Common.{ℕ, zero, suc, ◌++◌, ◌==◌, ◌≡◌, ◌&&◌, ◌||◌, cond, Bool, true, false, List, [], ◌∷◌, length, Some, None, refl, sym, ap, ap₂, subst, ◌∙◌, eqb-true, ◌⊎◌, inl, inr, arith}
use Rattle.std.specs.List.{list_any, list_all}
use Rattle.std.proofs.lemmas.Bool.{cases_Bool, or_from, or_parts}
use mathlib.Core.Path.{fun_ext}
use Rattle.row_bag.specs.AsSets.{stands}
use Rattle.row_bag.specs.Bags.{Alike, bind, unit}
use Rattle.row_bag.specs.Sets.{same_cells}
use Rattle.row_bag.specs.Tags.{led}
use Rattle.row_bag.specs.declared.tables.Table.{Table}
use Rattle.row_bag.proofs.Agreement.{alike-same, alike-trans}
use Rattle.row_bag.proofs.Counts.{agree-from_alike, alike-from_agree}
use Rattle.row_bag.proofs.TupleBags.{same_cells-decides}
use Rattle.sql_value.specs.declared.order_key.SqlType.{SqlType}
use Rattle.qgm_core.specs.Boxes.{Ordered, QueryGraph, has_box, is_quant, width}
use Rattle.qgm_core.specs.Edits.{range}
use Rattle.list_laws.specs.Lists.{In, first}
use Rattle.qgm_core.specs.declared.kinds.BoxKind.TheVariants.{OuterJoin, SetOp}
use Rattle.qgm_core.specs.declared.kinds.Distinct.TheVariants.{Preserve}
use Rattle.qgm_core.specs.declared.kinds.QuantKind.TheVariants.{F}
use Rattle.qgm_core.specs.declared.kinds.Role.{Role}
use Rattle.qgm_core.specs.declared.kinds.Role.TheVariants.{Plain}
use Rattle.qgm_core.specs.declared.kinds.SetOperator.{SetOperator}
use Rattle.qgm_core.specs.declared.node.Node.{Node}
use Rattle.qgm_core.specs.declared.owned.OwnedQuant.{OwnedQuant}
use Rattle.qgm_meaning.specs.Filters.{outer_of}
use Rattle.qgm_meaning.specs.Meaning.{Family, bag_in, combined, nothing, of_two, quant_rows, rows_by, rows_found, rows_of}
use Rattle.qgm_meaning.specs.Ranks.{SameUnder}
use Rattle.qgm_meaning.specs.Scope.{introduces, loose, put_node}
use Rattle.qgm_meaning.specs.Searches.{bare}
use Rattle.qgm_meaning.specs.Tags.{columns_from}
use Rattle.qgm_meaning.specs.Values.{Bag, Environment, bound, head_cells, row_of}
use Rattle.qgm_meaning.specs.Widths.{Wide}
use Rattle.qgm_meaning.proofs.Frames.{bag-framed}
use Rattle.qgm_meaning.proofs.Puts.{Inlined, found-put, inlined-first, rows-put}
use Rattle.qgm_meaning.proofs.Unfold.{rows-local, unfold-bag}
use Rattle.qgm_terms.specs.Wanted.{reads}
use Rattle.rule_magic.specs.AbsorbArms.{HasArms, IsRenamed, IsStill, Renames}
use Rattle.rule_magic.specs.AbsorbOuterJoin.{OuterArmsBags, OuterLeftBags}
use Rattle.rule_magic.specs.AbsorbSetOperation.{SetBags}
use Rattle.rule_magic.specs.Boxes.{arms_box, box_as, left_box, pair_box}
use Rattle.rule_magic.specs.FedBox.{IsFedAt}
use Rattle.rule_magic.specs.UnderTags.{IsOuter, NoneAmong}
use Rattle.qgm_meaning.proofs.LedSets.{Tuple}
use Rattle.rule_magic.proofs.AbsorbBags.{Given, fed-bag, first-of, pair-rows, region-bags}
use Rattle.rule_magic.proofs.TaggedOuters.{arms-tags, left-tags}
use Rattle.rule_magic.proofs.TaggedRows.{sets-tags}
use Rattle.rule_magic.proofs.TaggedWidths.{bind-wide, other-row, own-row, whole-row}
use Rattle.qgm_core.proofs.Reaching.{in-has, overs-held}
use Rattle.list_laws.proofs.Membership.{eq-false-sym, eq-itself}
use Rattle.list_laws.proofs.Booleans.{clash}

-- columns are bare, and are read of their quantifier alone
columns-bare : (p k w : ℕ) → list_all bare (columns_from p k w) ≡ true
columns-bare p k zero = refl
columns-bare p k (suc w) = columns-bare p (suc k) w

columns-read : (p k w q : ℕ) → (q == p) ≡ false → (p == q) ≡ false → list_any (reads q) (columns_from p k w) ≡ false
columns-read p k zero q h i = refl
columns-read p k (suc w) q h i = ap (λ b. b || list_any (reads q) (columns_from p (suc k) w)) i ∙ columns-read p (suc k) w q h i

module _ (tables : List Table) (g h : QueryGraph) (d m c x y : Node) (a r l1 r1 : OwnedQuant) (p q1 q2 s : ℕ) (marked : ℕ → Bool) (left right : Role)
    (at : IsFedAt tables g d m c a r) (arms : HasArms g d m c x y a l1 r1 marked) (renames : Renames g a.id p marked) (oh : Ordered h.boxes) (aq1 : (q1 == a.id) ≡ false) (pq2 : (q2 == p) ≡ false)
    (s_new : has_box g.boxes s ≡ false) (s_unmarked : marked s ≡ false) where
  abbrev f : Family
  f = bag_in tables g.boxes

  abbrev w : ℕ
  w = width m

  -- the row that p is bound to
  abbrev tag_of : Environment → Tuple
  tag_of e = head_cells nothing (columns_from p 1 w) e

  -- a bound to it
  abbrev turned : Family
  turned z e = f z (bound a.id (tag_of e) e)

  abbrev left_rows : Environment → Bag
  left_rows e = led (f m.id e) (λ u. f x.id (bound a.id u e))

  abbrev right_rows : Environment → Bag
  right_rows e = led (f m.id e) (λ u. f y.id (bound a.id u e))

  abbrev fam : Family
  fam z e = cond (z == s) (right_rows e) (cond (z == c.id) (left_rows e) (cond (marked z) (turned z e) (f z e)))

  abbrev special : ℕ → Bool
  special z = (z == s) || ((z == c.id) || (marked z && loose g.boxes z a.id))

  -- where a isn't looked up
  unmoved : (z : ℕ) (u : Tuple) (e : Environment) → loose g.boxes z a.id ≡ false → f z (bound a.id u e) ≡ f z e
  unmoved z u e n = bag-framed tables g.boxes z (bound a.id u e) e (record {
    rows = λ q t. elim (cases_Bool (a.id == q)) [
      | inr k ↦ other-row q a.id u e k
      | inl k ↦ absurd (clash (loose g.boxes z a.id) (subst (λ i. loose g.boxes z i ≡ true) (sym (eqb-true a.id q k)) t) n)
    ];
  })

  and-second : (b : Bool) (t : Bool) → (b && t) ≡ false → b ≡ true → t ≡ false
  and-second true t k e = k
  and-second false t k e = absurd (let z : ⊥ = cc in z)

  plain : (z : ℕ) → special z ≡ false → (e : Environment) → fam z e ≡ f z e
  plain z k e =
      let k1 = or_parts (z == s) ((z == c.id) || (marked z && loose g.boxes z a.id)) k in
      let k2 = or_parts (z == c.id) (marked z && loose g.boxes z a.id) k1.1 in
      ap (λ t. cond t (right_rows e) (cond (z == c.id) (left_rows e) (cond (marked z) (turned z e) (f z e)))) k1.0
      ∙ ap (λ t. cond t (left_rows e) (cond (marked z) (turned z e) (f z e))) k2.0
      ∙ elim (cases_Bool (marked z)) [
        | inr n ↦ ap (λ t. cond t (turned z e) (f z e)) n
        | inl t ↦ ap (λ t. cond t (turned z e) (f z e)) t ∙ unmoved z (tag_of e) e (and-second (marked z) (loose g.boxes z a.id) k2.1 t)
      ]

  not-s : (z : ℕ) → has_box g.boxes z ≡ true → (z == s) ≡ false
  not-s z k = elim (cases_Bool (z == s)) [ inr n ↦ n | inl t ↦ absurd (clash (has_box g.boxes s) (subst (λ i. has_box g.boxes i ≡ true) (eqb-true z s t) k) s_new) ]

  ordinary : (z : ℕ) → has_box g.boxes z ≡ true → (z == c.id) ≡ false → (marked z && loose g.boxes z a.id) ≡ false → special z ≡ false
  ordinary z k n l = or_from (z == s) ((z == c.id) || (marked z && loose g.boxes z a.id)) (not-s z k) (or_from (z == c.id) (marked z && loose g.boxes z a.id) n l)

  has : (n : Node) → In n g.boxes → has_box g.boxes n.id ≡ true
  has n i = in-has n g.boxes i

  -- what is marked is turned
  at-marked : (z : ℕ) → has_box g.boxes z ≡ true → marked z ≡ true → (e : Environment) → fam z e ≡ turned z e
  at-marked z k t e = elim (cases_Bool (z == c.id)) [
    | inr n ↦ ap (λ b. cond b (right_rows e) (cond (z == c.id) (left_rows e) (cond (marked z) (turned z e) (f z e)))) (not-s z k) ∙ ap (λ b. cond b (left_rows e) (cond (marked z) (turned z e) (f z e))) n ∙ ap (λ b. cond b (turned z e) (f z e)) t
    | inl i ↦ absurd (marked-c (eqb-true z c.id i))
  ]
    where
      marked-c : z ≡ c.id → ⊥
      marked-c i = clash (marked c.id) (subst (λ j. marked j ≡ true) i t) arms.c_unmarked

  at-s : (e : Environment) → fam s e ≡ right_rows e
  at-s e = ap (λ b. cond b (right_rows e) (cond (s == c.id) (left_rows e) (cond (marked s) (turned s e) (f s e)))) (eq-itself s)

  at-c : (e : Environment) → fam c.id e ≡ left_rows e
  at-c e = ap (λ b. cond b (right_rows e) (cond (c.id == c.id) (left_rows e) (cond (marked c.id) (turned c.id e) (f c.id e)))) (not-s c.id (has c at.in_c)) ∙ ap (λ b. cond b (left_rows e) (cond (marked c.id) (turned c.id e) (f c.id e))) (eq-itself c.id)

  m-plain : (e : Environment) → fam m.id e ≡ f m.id e
  m-plain = plain m.id (ordinary m.id (has m at.in_m) arms.m_not_c arms.m_still)

  x-plain : (e : Environment) → fam x.id e ≡ f x.id e
  x-plain = plain x.id (ordinary x.id (has x arms.in_x) arms.x_not_c arms.x_still)

  -- the right arm, where p is bound to a tag
  y-turned : (u : Tuple) → length u ≡ w → (e : Environment) → fam y.id (bound p u e) ≡ f y.id (bound a.id u e)
  y-turned u l e = elim arms.y_marked [
    | inl t ↦ at-marked y.id (has y arms.in_y) t (bound p u e) ∙ ap (λ (z : Tuple). f y.id (bound a.id z (bound p u e))) (whole-row nothing p w (bound p u e) u (own-row p u e) l)
        ∙ bag-framed tables g.boxes y.id (bound a.id u (bound p u e)) (bound a.id u e) (record { rows = λ q k. subst (λ i. row_of i (bound a.id u (bound p u e)) ≡ row_of i (bound a.id u e)) (sym (arms.y_alone q k)) (own-row a.id u (bound p u e) ∙ sym (own-row a.id u e)) })
    | inr n ↦ plain y.id (ordinary y.id (has y arms.in_y) arms.y_not_c (never (marked y.id) (n a.id))) (bound p u e)
        ∙ bag-framed tables g.boxes y.id (bound p u e) (bound a.id u e) (record { rows = λ q k. absurd (clash (loose g.boxes y.id q) k (n q)) })
  ]
    where
      never : (b : Bool) → loose g.boxes y.id a.id ≡ false → (b && loose g.boxes y.id a.id) ≡ false
      never true k = k
      never false k = refl

  left-pair : (e : Environment) → rows_of tables (pair_box c.id left a.id m.id w q1 x.id (width x)) fam e ≡ fam c.id e
  left-pair e =
      pair-rows tables g d m c a r at (pair_box c.id left a.id m.id w q1 x.id (width x)) fam (range a.id F m.id) (range q1 F x.id) w (width x) e refl refl refl refl refl refl refl aq1
      (subst (Wide w) (sym (m-plain e)) (at.wide m at.in_m e)) (λ u. subst (Wide (width x)) (sym (x-plain (bound a.id u e))) (at.wide x arms.in_x (bound a.id u e)))
      ∙ ap₂ (λ (y : Bag) (z : Tuple → Bag). led y z) (m-plain e) (fun_ext (λ u. x-plain (bound a.id u e))) ∙ sym (at-c e)

  right-wide : (u : Tuple) (e : Environment) → Wide (width y) (fam y.id (bound p u e))
  right-wide u e = elim arms.y_marked [
    | inl t ↦ subst (Wide (width y)) (sym (at-marked y.id (has y arms.in_y) t (bound p u e))) (at.wide y arms.in_y (bound a.id (tag_of (bound p u e)) (bound p u e)))
    | inr n ↦ subst (Wide (width y)) (sym (plain y.id (ordinary y.id (has y arms.in_y) arms.y_not_c (never (marked y.id) (n a.id))) (bound p u e))) (at.wide y arms.in_y (bound p u e))
  ]
    where
      never : (b : Bool) → loose g.boxes y.id a.id ≡ false → (b && loose g.boxes y.id a.id) ≡ false
      never true k = k
      never false k = refl

  right-pair : (e : Environment) → rows_of tables (pair_box s right p m.id w q2 y.id (width y)) fam e ≡ fam s e
  right-pair e =
      pair-rows tables g d m c a r at (pair_box s right p m.id w q2 y.id (width y)) fam (range p F m.id) (range q2 F y.id) w (width y) e refl refl refl refl refl refl refl pq2
      (subst (Wide w) (sym (m-plain e)) (at.wide m at.in_m e)) (λ u. right-wide u e)
      ∙ ap (λ (z : Bag). led z (λ u. fam y.id (bound p u e))) (m-plain e)
      ∙ bind-wide w (f m.id e) (λ u. bind (fam y.id (bound p u e)) (λ t. unit (u ++ t))) (λ u. bind (f y.id (bound a.id u e)) (λ t. unit (u ++ t))) (at.wide m at.in_m e)
      (λ u l. ap (λ (z : Bag). bind z (λ t. unit (u ++ t))) (y-turned u l e))
      ∙ sym (at-s e)

  -- a marked box gives, with names of p for those of a, what it gave where a is bound
  renamed-rows : (n : Node) → In n g.boxes → marked n.id ≡ true → (e : Environment) → rows_of tables (put_node a.id (columns_from p 1 w) n) fam e ≡ fam n.id e
  renamed-rows n i t e =
      ap (λ (z : Environment → Bag). z e) (rows-local tables (put_node a.id (columns_from p 1 w) n) fam turned (all-turned n.quants (λ r j. (renames.under n i t r j, overs-held g.boxes n r at.ordered i j))))
      ∙ rows-put a.id (columns_from p 1 w) (columns-bare p 1 w) tables n.parts.kind n (quant_rows n turned) (quant_rows n f) (λ z. found-put a.id (columns_from p 1 w) (columns-bare p 1 w) tables (first (is_quant z) n.quants) turned f gives)
      (renames.apart n i t).0 (λ q k. apart-of q k) e (bound a.id (tag_of e) e) (inlined e)
      ∙ sym (unfold-bag tables g.boxes n.id n (bound a.id (tag_of e) e) at.ordered (first-of g.boxes n at.ordered i))
      ∙ sym (at-marked n.id (has n i) t e)
    where
      all-turned : (rs : List OwnedQuant) → ((r : OwnedQuant) → In r rs → (marked r.over ≡ true) × (has_box g.boxes r.over ≡ true)) → SameUnder rs fam turned
      all-turned [] k = tt
      all-turned (r ∷ rs) k = (fun_ext (λ e. at-marked r.over (k r (inl refl)).1 (k r (inl refl)).0 e), all-turned rs (λ z j. k z (inr j)))

      inlined : (e : Environment) → Inlined nothing a.id (columns_from p 1 w) e (bound a.id (tag_of e) e)
      inlined e = inlined-first nothing a.id (columns_from p 1 w) e

      gives : (b : ℕ) (d e : Environment) → Inlined nothing a.id (columns_from p 1 w) d e → turned b d ≡ f b e
      gives b d e z = bag-framed tables g.boxes b (bound a.id (tag_of d) d) e (record {
        rows = λ q k. elim (cases_Bool (a.id == q)) [
          | inr n ↦ other-row q a.id (tag_of d) d n ∙ z.others q (eq-false-sym a.id q n)
          | inl n ↦ subst (λ i. row_of i (bound a.id (tag_of d) d) ≡ row_of i e) (eqb-true a.id q n) (own-row a.id (tag_of d) d ∙ sym z.own)
        ];
      })

      apart-of : (q : ℕ) → introduces n q ≡ true → list_any (reads q) (columns_from p 1 w) ≡ false
      apart-of q k = elim (cases_Bool (p == q)) [
        | inr z ↦ columns-read p 1 w q (eq-false-sym p q z) z
        | inl z ↦ absurd (clash (introduces n p) (subst (λ i. introduces n i ≡ true) (sym (eqb-true p q z)) k) (renames.apart n i t).1)
      ]

  -- all boxes, where d's agrees
  module _ (d' : Node) (d-id : d'.id ≡ d.id) (d-rows : (e : Environment) → Alike (rows_of tables d' fam e) (f d.id e)) where
    all-absorbed : ((n : Node) → In n h.boxes → IsStill g d c a.id marked n ⊎ (IsRenamed g a.id p w marked n ⊎ ((n ≡ d') ⊎ ((n ≡ pair_box c.id left a.id m.id w q1 x.id (width x)) ⊎ (n ≡ pair_box s right p m.id w q2 y.id (width y))))))
        → (b : ℕ) → has_box g.boxes b ≡ true → has_box h.boxes b ≡ true → (b == c.id) ≡ false → (marked b && loose g.boxes b a.id) ≡ false → (e : Environment) → Alike (bag_in tables h.boxes b e) (f b e)
    all-absorbed boxes b known i n l e = alike-trans (region-bags tables g.boxes h.boxes at.ordered oh special fam plain (λ z j. elim (boxes z j) [
      | inl o ↦ record { same = true; old = λ t. (o.within, (ordinary z.id (has z o.within) o.not_c (none (marked z.id) (loose g.boxes z.id a.id) o.unmarked), λ r k. (let e = o.elsewhere r k in ordinary r.over (overs-held g.boxes z r at.ordered o.within k) e.0 e.1))); new = λ t. absurd (let z : ⊥ = cc in z) }
      | inr o ↦ elim o [
        | inl o ↦ changed z (λ e. subst (λ (y : Node). Alike (rows_of tables y fam e) (fam y.id e)) (sym o.is) (alike-same (renamed-rows o.was o.within o.marks e)))
        | inr o ↦ elim o [
          | inl o ↦ changed z (λ e. subst (λ (y : Node). Alike (rows_of tables y fam e) (fam y.id e)) (sym o) (alike-trans (d-rows e) (alike-same (sym (ap (λ k. fam k e) d-id ∙ plain d.id (ordinary d.id (has d at.in_d) arms.d_not_c arms.d_still) e)))))
          | inr o ↦ elim o [
            | inl o ↦ changed z (λ e. subst (λ (y : Node). Alike (rows_of tables y fam e) (fam y.id e)) (sym o) (alike-same (left-pair e)))
            | inr o ↦ changed z (λ e. subst (λ (y : Node). Alike (rows_of tables y fam e) (fam y.id e)) (sym o) (alike-same (right-pair e)))
          ]
        ]
      ]
    ]) b i e) (alike-same (plain b (ordinary b known n l) e))
      where
        none : (k t : Bool) → k ≡ false → (k && t) ≡ false
        none true t h = absurd (let z : ⊥ = cc in z)
        none false t h = refl

        changed : (z : Node) → ((e : Environment) → Alike (rows_of tables z fam e) (fam z.id e)) → Given tables g.boxes special fam z
        changed z h = record { same = false; old = λ t. absurd (let z : ⊥ = cc in z); new = λ t e. h e }

  -- ---- G4

  module _ (form : SetOperator) (types mt : List SqlType) (kind : c.parts.kind ≡ SetOp form types) (u1 u2 : ℕ) (two : (u1 == u2) ≡ false)
      (clean : (e : Environment) (u : Tuple) → stands same_cells u (f m.id e) ≡ true → NoneAmong form (f x.id (bound a.id u e)) (f y.id (bound a.id u e))) where
    abbrev sets : Node
    sets = box_as d.id (SetOp form mt) Preserve Plain [] [] (range u1 F c.id ∷ (range u2 F s ∷ []))

    set-bag : (e : Environment) → f c.id e ≡ combined form (length types) (f x.id e) (f y.id e)
    set-bag e =
        unfold-bag tables g.boxes c.id c e at.ordered (first-of g.boxes c at.ordered at.in_c)
        ∙ ap (λ k. rows_by k tables c (quant_rows c f) e) kind
        ∙ ap (λ (rs : List OwnedQuant). of_two rs (λ p q. combined form (length types) (rows_found (first (is_quant p) rs) f e) (rows_found (first (is_quant q) rs) f e))) arms.two
        ∙ ap₂ (λ (i j : Bag). combined form (length types) i j)
        (ap (λ t. rows_found (cond t (Some l1) (first (is_quant l1.id) (r1 ∷ []))) f e) (eq-itself l1.id) ∙ ap (λ i. f i e) arms.over_x)
        (ap (λ t. rows_found (cond t (Some l1) (first (is_quant r1.id) (r1 ∷ []))) f e) arms.apart ∙ ap (λ t. rows_found (cond t (Some r1) None) f e) (eq-itself r1.id) ∙ ap (λ i. f i e) arms.over_y)

    sets-rows : (e : Environment) → Alike (rows_of tables sets fam e) (f d.id e)
    sets-rows e =
        alike-trans (alike-same (ap₂ (λ (i j : Bag). combined form (length mt) i j)
        (ap (λ t. rows_found (cond t (Some (range u1 F c.id)) (first (is_quant u1) (range u2 F s ∷ []))) fam e) (eq-itself u1) ∙ at-c e)
        (ap (λ t. rows_found (cond t (Some (range u1 F c.id)) (first (is_quant u2) (range u2 F s ∷ []))) fam e) two ∙ ap (λ t. rows_found (cond t (Some (range u2 F s)) None) fam e) (eq-itself u2) ∙ at-s e)))
        (alike-trans (alike-from_agree same_cells same_cells-decides (sets-tags w (length types) (length mt) form (f m.id e) (λ u. f x.id (bound a.id u e)) (λ u. f y.id (bound a.id u e)) (at.tags e) (clean e)))
        (alike-same (ap (led (f m.id e)) (fun_ext (λ u. sym (set-bag (bound a.id u e)))) ∙ sym (fed-bag tables g d m c a r at e))))

    pub sets-absorbed : ((n : Node) → In n h.boxes → IsStill g d c a.id marked n ⊎ (IsRenamed g a.id p w marked n ⊎ ((n ≡ sets) ⊎ ((n ≡ pair_box c.id left a.id m.id w q1 x.id (width x)) ⊎ (n ≡ pair_box s right p m.id w q2 y.id (width y))))))
        → (b : ℕ) → has_box g.boxes b ≡ true → has_box h.boxes b ≡ true → (b == c.id) ≡ false → (marked b && loose g.boxes b a.id) ≡ false → (e : Environment) → Alike (bag_in tables h.boxes b e) (f b e)
    sets-absorbed = all-absorbed sets refl sets-rows

  -- ---- G5

  module _ (kind : c.parts.kind ≡ OuterJoin) (outer : IsOuter a.id l1.id r1.id c) where
    outer-bag : (e : Environment) → f c.id e ≡ outer_of c e l1.id r1.id (f x.id e) (f y.id e)
    outer-bag e =
        unfold-bag tables g.boxes c.id c e at.ordered (first-of g.boxes c at.ordered at.in_c)
        ∙ ap (λ k. rows_by k tables c (quant_rows c f) e) kind
        ∙ ap (λ (rs : List OwnedQuant). of_two rs (λ p q. outer_of c e p q (rows_found (first (is_quant p) rs) f e) (rows_found (first (is_quant q) rs) f e))) arms.two
        ∙ ap₂ (λ (i j : Bag). outer_of c e l1.id r1.id i j)
        (ap (λ t. rows_found (cond t (Some l1) (first (is_quant l1.id) (r1 ∷ []))) f e) (eq-itself l1.id) ∙ ap (λ i. f i e) arms.over_x)
        (ap (λ t. rows_found (cond t (Some l1) (first (is_quant r1.id) (r1 ∷ []))) f e) arms.apart ∙ ap (λ t. rows_found (cond t (Some r1) None) f e) (eq-itself r1.id) ∙ ap (λ i. f i e) arms.over_y)

    abbrev joins : Node
    joins = arms_box d.id a.id l1.id w (width x) r1.id (width y) c (range l1.id F c.id ∷ (range r1.id F s ∷ []))

    joins-rows : (e : Environment) → Alike (rows_of tables joins fam e) (f d.id e)
    joins-rows e =
        alike-trans (alike-same (ap (λ k. rows_by k tables joins (quant_rows joins fam) e) kind ∙ ap₂ (λ (i j : Bag). outer_of joins e l1.id r1.id i j)
        (ap (λ t. rows_found (cond t (Some (range l1.id F c.id)) (first (is_quant l1.id) (range r1.id F s ∷ []))) fam e) (eq-itself l1.id) ∙ at-c e)
        (ap (λ t. rows_found (cond t (Some (range l1.id F c.id)) (first (is_quant r1.id) (range r1.id F s ∷ []))) fam e) arms.apart ∙ ap (λ t. rows_found (cond t (Some (range r1.id F s)) None) fam e) (eq-itself r1.id) ∙ at-s e)))
        (alike-trans (alike-from_agree same_cells same_cells-decides (arms-tags w (width x) (width y) a.id l1.id r1.id d.id c (range l1.id F c.id ∷ (range r1.id F s ∷ [])) (f m.id e) (λ u. f x.id (bound a.id u e)) (λ u. f y.id (bound a.id u e)) e outer (at.tags e)
        (λ u. at.wide x arms.in_x (bound a.id u e)) (λ u. at.wide y arms.in_y (bound a.id u e))))
        (alike-same (ap (led (f m.id e)) (fun_ext (λ u. sym (outer-bag (bound a.id u e)))) ∙ sym (fed-bag tables g d m c a r at e))))

    pub arms-absorbed : ((n : Node) → In n h.boxes → IsStill g d c a.id marked n ⊎ (IsRenamed g a.id p w marked n ⊎ ((n ≡ joins) ⊎ ((n ≡ pair_box c.id left a.id m.id w q1 x.id (width x)) ⊎ (n ≡ pair_box s right p m.id w q2 y.id (width y))))))
        → (b : ℕ) → has_box g.boxes b ≡ true → has_box h.boxes b ≡ true → (b == c.id) ≡ false → (marked b && loose g.boxes b a.id) ≡ false → (e : Environment) → Alike (bag_in tables h.boxes b e) (f b e)
    arms-absorbed = all-absorbed joins refl joins-rows

-- over a closed right arm

before-suc : (n : ℕ) → (n == suc n) ≡ false
before-suc n = elim (cases_Bool (n == suc n)) [ inr f ↦ f | inl t ↦ absurd (let e : n ≡ suc n = eqb-true n (suc n) t in let z : ⊥ = omega (arith, e) in z) ]

module _ (tables : List Table) (g h : QueryGraph) (d m c x y : Node) (a r l1 r1 : OwnedQuant) (q1 s : ℕ) (left : Role)
    (at : IsFedAt tables g d m c a r) (arms : HasArms g d m c x y a l1 r1 (λ n. false)) (oh : Ordered h.boxes) (aq1 : (q1 == a.id) ≡ false) (s_new : has_box g.boxes s ≡ false)
    (kind : c.parts.kind ≡ OuterJoin) (outer : IsOuter a.id l1.id r1.id c) (closed : (q : ℕ) → loose g.boxes y.id q ≡ false) where
  abbrev fl : Family
  fl = bag_in tables g.boxes

  none_marked : ℕ → Bool
  none_marked n = false

  nothing_renamed : Renames g a.id (suc a.id) (λ n. false)
  nothing_renamed = record { under = λ n i t. absurd (let z : ⊥ = cc in z); apart = λ n i t. absurd (let z : ⊥ = cc in z) }

  abbrev faml : Family
  faml = fam tables g h d m c x y a r l1 r1 (suc a.id) q1 a.id s (λ n. false) left Plain at arms nothing_renamed oh aq1 (before-suc a.id) s_new refl

  abbrev lefts : Node
  lefts = left_box d.id a.id l1.id (width m) (width x) c (range l1.id F c.id ∷ (range r1.id F y.id ∷ []))

  lefts-rows : (e : Environment) → Alike (rows_of tables lefts faml e) (fl d.id e)
  lefts-rows e =
      alike-trans (alike-same (ap (λ k. rows_by k tables lefts (quant_rows lefts faml) e) kind ∙ ap₂ (λ (i j : Bag). outer_of lefts e l1.id r1.id i j)
      (ap (λ t. rows_found (cond t (Some (range l1.id F c.id)) (first (is_quant l1.id) (range r1.id F y.id ∷ []))) faml e) (eq-itself l1.id) ∙ at-c tables g h d m c x y a r l1 r1 (suc a.id) q1 a.id s (λ n. false) left Plain at arms nothing_renamed oh aq1 (before-suc a.id) s_new refl e)
      (ap (λ t. rows_found (cond t (Some (range l1.id F c.id)) (first (is_quant r1.id) (range r1.id F y.id ∷ []))) faml e) arms.apart ∙ ap (λ t. rows_found (cond t (Some (range r1.id F y.id)) None) faml e) (eq-itself r1.id)
      ∙ plain tables g h d m c x y a r l1 r1 (suc a.id) q1 a.id s (λ n. false) left Plain at arms nothing_renamed oh aq1 (before-suc a.id) s_new refl y.id
      (ordinary tables g h d m c x y a r l1 r1 (suc a.id) q1 a.id s (λ n. false) left Plain at arms nothing_renamed oh aq1 (before-suc a.id) s_new refl y.id (in-has y g.boxes arms.in_y) arms.y_not_c refl) e)))
      (alike-trans (alike-from_agree same_cells same_cells-decides (left-tags (width m) (width x) a.id l1.id r1.id d.id c (range l1.id F c.id ∷ (range r1.id F y.id ∷ [])) (fl m.id e) (λ u. fl x.id (bound a.id u e)) (fl y.id e) e outer (at.tags e) (λ u. at.wide x arms.in_x (bound a.id u e))))
      (alike-same (ap (led (fl m.id e)) (fun_ext (λ u. ap (λ (z : Bag). outer_of c (bound a.id u e) l1.id r1.id (fl x.id (bound a.id u e)) z) (bag-framed tables g.boxes y.id e (bound a.id u e) (record { rows = λ q k. absurd (clash (loose g.boxes y.id q) k (closed q)) }))
      ∙ sym (outer-bag tables g h d m c x y a r l1 r1 (suc a.id) q1 a.id s (λ n. false) left Plain at arms nothing_renamed oh aq1 (before-suc a.id) s_new refl kind outer (bound a.id u e))))
      ∙ sym (fed-bag tables g d m c a r at e))))

  pub left-absorbed : ((n : Node) → In n h.boxes → IsStill g d c a.id (λ n. false) n ⊎ ((n ≡ lefts) ⊎ (n ≡ pair_box c.id left a.id m.id (width m) q1 x.id (width x))))
      → (b : ℕ) → has_box g.boxes b ≡ true → has_box h.boxes b ≡ true → (b == c.id) ≡ false → (e : Environment) → Alike (bag_in tables h.boxes b e) (fl b e)
  left-absorbed boxes b known i n e = all-absorbed tables g h d m c x y a r l1 r1 (suc a.id) q1 a.id s (λ n. false) left Plain at arms nothing_renamed oh aq1 (before-suc a.id) s_new refl lefts refl lefts-rows
      (λ z j. elim (boxes z j) [ inl o ↦ inl o | inr o ↦ inr (inr (elim o [ inl k ↦ inl k | inr k ↦ inr (inl k) ])) ]) b known i n refl e

pub absorbs-sets : SetBags
absorbs-sets = λ tables g h d m c x y a r l1 r1 p q1 q2 u1 u2 s marked form types mt left right at arms renames kind oh aq pq two fresh free clean boxes b known i n l e.
    agree-from_alike same_cells (sets-absorbed tables g h d m c x y a r l1 r1 p q1 q2 s marked left right at arms renames oh aq pq fresh free form types mt kind u1 u2 two clean boxes b known i n l e)

pub absorbs-arms : OuterArmsBags
absorbs-arms = λ tables g h d m c x y a r l1 r1 p q1 q2 s marked left right at arms renames kind outer oh aq pq fresh free boxes b known i n l e.
    agree-from_alike same_cells (arms-absorbed tables g h d m c x y a r l1 r1 p q1 q2 s marked left right at arms renames oh aq pq fresh free kind outer boxes b known i n l e)

pub absorbs-left : OuterLeftBags
absorbs-left = λ tables g h d m c x y a r l1 r1 q1 s left at arms kind outer closed oh aq fresh boxes b known i n e.
    agree-from_alike same_cells (left-absorbed tables g h d m c x y a r l1 r1 q1 s left at arms oh aq fresh kind outer closed boxes b known i n e)
