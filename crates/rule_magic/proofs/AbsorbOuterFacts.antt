-- G5: what stands of an outer join under a fed box.
use Rattle.std.proofs.Common.{ℕ, ◌==◌, ◌≡◌, ◌≤◌, ◌<◌, ◌+◌, ◌&&◌, ◌||◌, ◌-◌, cond, true, false, List, [], ◌∷◌, ◌++◌, map, length, Option, None, refl, sym, ap, ap₂, subst, ◌∙◌, eqb-true, inl, inr, arith}
use Rattle.std.specs.Prelude.{slice_get}
use Rattle.std.specs.List.{list_all, list_any}
use Rattle.std.proofs.lemmas.Bool.{and_parts, cases_Bool, eq-eqb, or_cases, or_left, or_right}
use Rattle.sql_value.specs.declared.order_key.SqlType.{SqlType}
use Rattle.qgm_core.specs.Boxes.{QueryGraph, is_quant, overs_in, overs_of, owns, width}
use Rattle.qgm_core.specs.Free.{named_by}
use Rattle.qgm_core.specs.Kinds.{is_F, is_fed, is_permit, is_plain, width_by}
use Rattle.list_laws.specs.Lists.{In, holds, times}
use Rattle.qgm_core.specs.declared.kinds.BoxKind.TheVariants.{OuterJoin, Select}
use Rattle.qgm_core.specs.declared.kinds.Role.{Role}
use Rattle.qgm_core.specs.declared.kinds.Role.TheVariants.{Fed, Magic, Plain}
use Rattle.qgm_core.specs.declared.node.Node.{Node}
use Rattle.qgm_core.specs.declared.owned.OwnedQuant.{OwnedQuant}
use Rattle.qgm_wellformed.specs.Shapes as shape
use Rattle.qgm_wellformed.specs.Shapes.{head_is_own, is_column, is_outer_join, is_unfolded, kind_fits}
use Rattle.qgm_wellformed.specs.Types as types
use Rattle.qgm_wellformed.specs.Types.{Lookup, cond_fits, is_known, joined_column, lookup_of, term_type, types_by}
use Rattle.qgm_edit_laws.specs.Graph.{Sound, binds_row, nodes_in}
use Rattle.qgm_edit_laws.specs.Placed.{place}
use Rattle.qgm_edit_laws.specs.Reforms.{types_at}
use Rattle.qgm_edit_laws.specs.Shaped.{Shaped, Typed}
use Rattle.qgm_edit_laws.specs.TypesBy.{arms_by, found_by}
use Rattle.qgm_edit_laws.proofs.Adds.{reads-at-read}
use Rattle.qgm_edit_laws.proofs.AnyPut.{conds-names}
use Rattle.qgm_edit_laws.proofs.BoxForms.{counted-seen}
use Rattle.qgm_edit_laws.proofs.Follow.{settled-types}
use Rattle.qgm_edit_laws.proofs.FreeLoose.{open-looks}
use Rattle.qgm_edit_laws.proofs.Ranks.{place-under}
use Rattle.qgm_edit_laws.proofs.Read.{named-split}
use Rattle.qgm_edit_laws.proofs.Reformed.{wide-types}
use Rattle.qgm_edit_laws.proofs.Scope.{bound-above, bound-owned, climb, one-owner, touched}
use Rattle.qgm_edit_laws.proofs.TypedKept.{found-under}
use Rattle.qgm_edit_laws.proofs.TypesBy.{agrees-as, looked}
use Rattle.qgm_meaning.specs.Scope.{loose, read_by}
use Rattle.qgm_meaning.specs.Searches.{binds_cond, names, names_cond}
use Rattle.qgm_meaning.specs.Tags.{columns_from}
use Rattle.qgm_props.specs.Calm.{is_closed}
use Rattle.qgm_props.specs.Inferred.{Facts}
use Rattle.rule_magic.specs.AbsorbOuterJoin.{OuterAt}
use Rattle.rule_magic.specs.Places.{MayAbsorb}
use Rattle.rule_magic.specs.UnderTags.{IsOuter}
use Rattle.rule_magic.proofs.AbsorbFacts as fed
use Rattle.rule_magic.proofs.AbsorbSelectFormed as made
use Rattle.rule_magic.proofs.AbsorbSelectFormed.{columns-long, f-counts, length-append}
use Rattle.rule_magic.proofs.AbsorbShared.{apart-two}
use Rattle.rule_magic.proofs.CalmFires.{shape-kind}
use Rattle.rule_magic.proofs.FedTypes.{types-d as head-types}
use Rattle.rule_magic.proofs.LedColumns.{MayLead}
use Rattle.rule_magic.proofs.TypesUnder.{types-known, types-under}
use Rattle.list_laws.proofs.Booleans.{clash}
use Rattle.list_laws.proofs.Counting.{in-times, times-in}
use Rattle.list_laws.proofs.Membership.{any-from, eq-false-sym, eq-itself}

module _ (g : QueryGraph) (known : Facts) (d : Node) (may : MayAbsorb g.boxes known d) (l r1 : OwnedQuant) (x y : Node) (up l1 l2 : List Node) (at : OuterAt g known d may l r1 x y up l1 l2) where
  abbrev m : Node
  m = may.m

  abbrev c : Node
  c = may.c

  abbrev a : OwnedQuant
  a = may.a

  abbrev r : OwnedQuant
  r = may.r

  pub w : Sound g.boxes g.root
  w = made.w g at.once at.formed known at.tells d may

  pub ty : Typed g.boxes
  ty = made.ty g at.once at.formed known at.tells d may

  pub sh : Shaped g.boxes g.root
  sh = made.sh g at.once at.formed known at.tells d may

  pub in-a : In a d.quants
  in-a = made.in-a g at.once at.formed known at.tells d may

  pub in-r : In r d.quants
  in-r = made.in-r g at.once at.formed known at.tells d may

  pub in-l : In l c.quants
  in-l = subst (λ (z : List OwnedQuant). In l z) (sym at.two) (inl refl)

  pub in-r1 : In r1 c.quants
  in-r1 = subst (λ (z : List OwnedQuant). In r1 z) (sym at.two) (inr (inl refl))

  pub of-c : (P : OwnedQuant → Type 0) → P l → P r1 → (z : OwnedQuant) → In z c.quants → P z
  of-c P a b z j = elim (subst (λ (k : List OwnedQuant). In z k) at.two j) [ inl e ↦ subst P e a | inr k ↦ elim k [ inl e ↦ subst P e b | inr n ↦ elim n [ ] ] ]

  pub d-not-c : (d.id == c.id) ≡ false
  d-not-c = made.d-not-c g at.once at.formed known at.tells d may

  pub c-not-d : (c.id == d.id) ≡ false
  c-not-d = eq-false-sym d.id c.id d-not-c

  pub elsewhere : (n : Node) (z : OwnedQuant) → In n g.boxes → (n.id == d.id) ≡ false → In z n.quants → (z.over == c.id) ≡ false
  elsewhere = made.elsewhere g at.once at.formed known at.tells d may up l1 l2 at.before

  pub x-not-c : (x.id == c.id) ≡ false
  x-not-c = subst (λ i. (i == c.id) ≡ false) at.over_x (elsewhere c l may.in_c c-not-d in-l)

  pub y-not-c : (y.id == c.id) ≡ false
  y-not-c = subst (λ i. (i == c.id) ≡ false) at.over_y (elsewhere c r1 may.in_c c-not-d in-r1)

  pub m-not-c : (m.id == c.id) ≡ false
  m-not-c = subst (λ i. (i == c.id) ≡ false) (sym may.over_m) (made.a-elsewhere g at.once at.formed known at.tells d may up l1 l2 at.before)

  not-d : (n : Node) → place g.boxes d.id < place g.boxes n.id → (n.id == d.id) ≡ false
  not-d n k = elim (cases_Bool (n.id == d.id)) [ inr f ↦ f | inl e ↦ absurd (let z : place g.boxes n.id ≡ place g.boxes d.id = ap (place g.boxes) (eqb-true n.id d.id e) in omega (arith, k, z)) ]

  pub m-not-d : (m.id == d.id) ≡ false
  m-not-d = not-d m (subst (λ i. place g.boxes d.id < place g.boxes i) (sym may.over_m) (place-under g.boxes d a w.ordered may.in_d in-a))

  pub arm-not-d : (z : OwnedQuant) (n : Node) → In z c.quants → z.over ≡ n.id → (n.id == d.id) ≡ false
  arm-not-d z n j e = not-d n (
      let one : place g.boxes d.id < place g.boxes c.id = subst (λ i. place g.boxes d.id < place g.boxes i) (sym may.over_c) (place-under g.boxes d r w.ordered may.in_d in-r) in
      let two : place g.boxes c.id < place g.boxes n.id = subst (λ i. place g.boxes c.id < place g.boxes i) e (place-under g.boxes c z w.ordered may.in_c j) in
      omega (arith, one, two))

  pub root-not-c : (g.root == c.id) ≡ false
  root-not-c = elim (cases_Bool (g.root == c.id)) [
    | inr f ↦ f
    | inl e ↦ absurd (let b = w.top in let k = fed.used-c g at.once at.formed known at.tells d may in let z : times c.id (overs_in g.boxes) ≡ 0 = subst (λ b. times b (overs_in g.boxes) ≡ 0) (eqb-true g.root c.id e) b in omega (arith, k, z))
  ]

  -- ---- the shape of c

  outer-c : is_outer_join c ≡ true
  outer-c = subst (λ z. kind_fits g.root g.boxes c z ≡ true) at.an_outer (shape-kind g at.once at.formed c may.in_c)

  four : ((shape.are_F 2 c.quants && list_all is_column c.parts.head && head_is_own c && is_unfolded c) ≡ true) × (is_plain c.parts.role ≡ true)
  four = and_parts (shape.are_F 2 c.quants && list_all is_column c.parts.head && head_is_own c && is_unfolded c) (is_plain c.parts.role) outer-c

  three : ((shape.are_F 2 c.quants && list_all is_column c.parts.head && head_is_own c) ≡ true) × (is_unfolded c ≡ true)
  three = and_parts (shape.are_F 2 c.quants && list_all is_column c.parts.head && head_is_own c) (is_unfolded c) four.0

  two-c : (shape.are_F 2 c.quants ≡ true) × (list_all is_column c.parts.head ≡ true)
  two-c = and_parts (shape.are_F 2 c.quants) (list_all is_column c.parts.head) (and_parts (shape.are_F 2 c.quants && list_all is_column c.parts.head) (head_is_own c) three.0).0

  pub plain-c : is_plain c.parts.role ≡ true
  plain-c = four.1

  pub unfolded-c : is_unfolded c ≡ true
  unfolded-c = three.1

  pub columns-c : list_all is_column c.parts.head ≡ true
  columns-c = two-c.1

  pub rows-c : (is_F l.kind ≡ true) × (is_F r1.kind ≡ true)
  rows-c =
      let z : shape.are_F 2 (l ∷ (r1 ∷ [])) ≡ true = subst (λ (z : List OwnedQuant). shape.are_F 2 z ≡ true) at.two two-c.0 in
      let b = and_parts (is_F l.kind) (is_F r1.kind && true) (and_parts (length (l ∷ (r1 ∷ [])) == 2) (shape.all_F (l ∷ (r1 ∷ []))) z).1 in
      (b.0, (and_parts (is_F r1.kind) true b.1).0)

  pub c-not-fed : is_fed c.parts.role ≡ false
  c-not-fed = by c.parts.role plain-c
    where
      by : (z : Role) → is_plain z ≡ true → is_fed z ≡ false
      by Plain h = refl
      by Magic h = absurd (let z : ⊥ = cc in z)
      by Fed h = absurd (let z : ⊥ = cc in z)

  pub width-c : width c ≡ length c.parts.head
  width-c = ap (λ z. width_by z (length c.parts.head)) at.an_outer

  -- ---- what is looked up

  pub open-c : (loose g.boxes c.id a.id ≡ true) × ((i : ℕ) → loose g.boxes c.id i ≡ true → i ≡ a.id)
  open-c = made.open-c g at.once at.formed known at.tells d may

  pub arm-alone : (z : OwnedQuant) (n : Node) → In z c.quants → z.over ≡ n.id → (i : ℕ) → loose g.boxes n.id i ≡ true → i ≡ a.id
  arm-alone z n j e i h = elim (climb g.boxes g.root w c z i may.in_c j (subst (λ k. loose g.boxes k i ≡ true) (sym e) h)) [
    | inl k ↦ absurd (let q : OuterJoin ≡ Select = sym at.an_outer ∙ k.0 in let v : ⊥ = cc q in v)
    | inr k ↦ open-c.1 i k
  ]

  -- a right operand that isn't closed looks the magic box's quantifier up
  pub open-arm : is_closed g.boxes y.id ≡ false → loose g.boxes y.id a.id ≡ true
  open-arm t = let q = open-looks g.boxes g.root w y.id t in subst (λ i. loose g.boxes y.id i ≡ true) (arm-alone r1 y in-r1 at.over_y q.0 q.1) q.1

  pub same-owner : (z : OwnedQuant) (n : Node) → In z c.quants → In n g.boxes → owns z.id n ≡ true → n ≡ c
  same-owner z n j i o = one-owner g.boxes g.root w z.id n c i may.in_c o (any-from (is_quant z.id) z c.quants j (eq-itself z.id))

  -- no other box than c names its quantifiers
  pub arm-unnamed : (z : OwnedQuant) → In z c.quants → (n : Node) → In n g.boxes → (n.id == c.id) ≡ false → holds z.id (named_by n) ≡ true → ⊥
  arm-unnamed z j n i f h =
      let own : owns z.id n ≡ true → ⊥ = λ o. clash (n.id == c.id) (eq-eqb n.id c.id (ap (λ (z : Node). z.id) (same-owner z n j i o))) f in
      elim (or_cases (read_by n z.id) (nodes_in z.id n) (named-split z.id n h)) [
        | inr k ↦ own (w.own_nodes n i z.id k).0
        | inl k ↦ elim (touched g.boxes g.root w n z.id i (or_left (read_by n z.id) _ k)) [
          | inl o ↦ own o
          | inr k ↦ (
              let o = bound-above g.boxes g.root w n.id z.id k in
              let same : o.0 ≡ c = same-owner z o.0 j o.1.0 (bound-owned z.id o.0.quants o.1.1.0) in
              let q : OuterJoin ≡ Select = sym at.an_outer ∙ subst (λ (n : Node). n.parts.kind ≡ Select) same o.1.1.1.0 in
              let e : ⊥ = cc q in e)
        ]
      ]

  pub not-a : (z : OwnedQuant) → In z c.quants → (z.id == a.id) ≡ false
  not-a z j = elim (cases_Bool (z.id == a.id)) [
    | inr f ↦ f
    | inl e ↦ absurd (clash (d.id == c.id) (eq-eqb d.id c.id (ap (λ (z : Node). z.id) (same-owner z d j may.in_d (any-from (is_quant z.id) a d.quants in-a (eq-eqb a.id z.id (sym (eqb-true z.id a.id e))))))) d-not-c)
  ]

  pub a-not-l : (a.id == l.id) ≡ false
  a-not-l = eq-false-sym l.id a.id (not-a l in-l)

  pub a-not-r1 : (a.id == r1.id) ≡ false
  a-not-r1 = eq-false-sym r1.id a.id (not-a r1 in-r1)

  -- d's second quantifier isn't one of them
  pub not-r : (z : OwnedQuant) → In z c.quants → (z.id == r.id) ≡ false
  not-r z j = elim (cases_Bool (z.id == r.id)) [
    | inr f ↦ f
    | inl e ↦ absurd (clash (d.id == c.id) (eq-eqb d.id c.id (ap (λ (z : Node). z.id) (same-owner z d j may.in_d (any-from (is_quant z.id) r d.quants in-r (eq-eqb r.id z.id (sym (eqb-true z.id r.id e))))))) d-not-c)
  ]

  pub l-not-r1 : (l.id == r1.id) ≡ false
  l-not-r1 = apart-two g.boxes c l r1 (w.once r1.id) may.in_c at.two

  pub open-not-m : (b i : ℕ) → loose g.boxes b i ≡ true → (m.id == b) ≡ false
  open-not-m b i k = elim (cases_Bool (m.id == b)) [ inr f ↦ f | inl e ↦ absurd (clash (loose g.boxes m.id i) (subst (λ z. loose g.boxes z i ≡ true) (sym (eqb-true m.id b e)) k) (fed.closed-m g at.once at.formed known at.tells d may i)) ]

  pub root-not-m : (m.id == g.root) ≡ false
  root-not-m = elim (cases_Bool (m.id == g.root)) [
    | inr f ↦ f
    | inl e ↦ absurd (
        let b = times-in overs_of g.root d g.boxes may.in_d in
        let z = w.top in
        let v : 1 ≤ times g.root (overs_of d) = subst (λ b. 1 ≤ times b (overs_of d)) (sym may.over_m ∙ eqb-true m.id g.root e) (in-times (λ (z : OwnedQuant). z.over) a d.quants in-a) in
        omega (arith, b, z, v))
  ]

  -- ---- what c names

  pub none-c : (p : ℕ) → nodes_in p c ≡ false
  none-c p = elim (cases_Bool (nodes_in p c)) [
    | inr f ↦ f
    | inl e ↦ absurd (
        let o = w.own_nodes c may.in_c p e in
        clash (binds_row p c.quants) (subst (λ (z : List OwnedQuant). binds_row p z ≡ true) (sym at.two) (ap₂ (λ b f. (b && (l.id == p)) || ((f && (r1.id == p)) || false)) rows-c.0 rows-c.1 ∙ subst (λ (z : List OwnedQuant). list_any (is_quant p) z ≡ true) at.two o.0)) o.1)
  ]

  pub is-outer : IsOuter a.id l.id r1.id c
  is-outer = record {
    al = a-not-l;
    ar = a-not-r1;
    lr = l-not-r1;
    columns = columns-c;
    conds = λ q. elim (cases_Bool (list_any (binds_cond q) c.parts.conds.items)) [
      | inr f ↦ f
      | inl e ↦ absurd (clash (nodes_in q c) (or_right (list_any (names q) c.parts.head) (list_any (names_cond q) c.parts.conds.items) (conds-names q c.parts.conds.items e)) (none-c q))
    ];
  }

  pub leads : MayLead a.id l.id r1.id (width m) (width x) (width y) c
  leads = record {
    al = a-not-l;
    ar = a-not-r1;
    lr = l-not-r1;
    none = none-c;
    reads = λ p h. elim (touched g.boxes g.root w c p may.in_c (or_left (read_by c p) _ h)) [
      | inr k ↦ inl (open-c.1 p k)
      | inl k ↦ inr (elim (or_cases (l.id == p) ((r1.id == p) || false) (subst (λ (z : List OwnedQuant). list_any (is_quant p) z ≡ true) at.two k)) [
        | inl e ↦ inl (sym (eqb-true l.id p e))
        | inr e ↦ elim (or_cases (r1.id == p) false e) [ inl e ↦ inr (sym (eqb-true r1.id p e)) | inr e ↦ absurd (let z : ⊥ = cc in z) ]
      ])
    ];
    of_a = λ k h. w.fits c may.in_c a.id k h d a m may.in_d in-a refl may.in_m may.over_m;
    of_l = λ k h. w.fits c may.in_c l.id k h c l x may.in_c in-l refl at.in_x (sym at.over_x);
    of_r = λ k h. w.fits c may.in_c r1.id k h c r1 y may.in_c in-r1 refl at.in_y (sym at.over_y);
    at_reads = λ p k h. reads-at-read p k c h;
  }

  -- ---- types

  abbrev pub L : Lookup
  L = lookup_of g.boxes

  abbrev pub M : List (Option SqlType)
  M = types_at g.boxes m.id

  abbrev pub X : List (Option SqlType)
  X = types_at g.boxes x.id

  abbrev pub Y : List (Option SqlType)
  Y = types_at g.boxes y.id

  pub long : (n : Node) → In n g.boxes → length (types_at g.boxes n.id) ≡ width n
  long = wide-types g.boxes g.root w

  pub L-m : map (term_type L) (columns_from a.id 1 (width m)) ≡ M
  L-m = types-under g.boxes g.root w d m a may.in_d in-a may.in_m may.over_m

  pub L-x : map (term_type L) (columns_from l.id 1 (width x)) ≡ X
  L-x = types-under g.boxes g.root w c x l may.in_c in-l at.in_x (sym at.over_x)

  pub L-y : map (term_type L) (columns_from r1.id 1 (width y)) ≡ Y
  L-y = types-under g.boxes g.root w c y r1 may.in_c in-r1 at.in_y (sym at.over_y)

  -- and so each of them
  pub of-y : (k : ℕ) → lookup_of g.boxes r1.id k ≡ cond (k == 0) None (joined_column (slice_get (types_at g.boxes y.id) (k - 1)))
  of-y k = looked g.boxes r1.id k ∙ ap (found_by (types_at g.boxes) k) (found-under g.boxes g.root w r1.id (record { owner = c; quant = r1; box = y; owner_in = may.in_c; quant_in = in-r1; is_q = refl; box_in = at.in_y; is_over = sym at.over_y }))

  -- the head of d: the columns of the magic box, and those of c
  pub types-d : types_at g.boxes d.id ≡ M ++ map (term_type (lookup_of g.boxes)) c.parts.head
  types-d =
      settled-types g.boxes g.root w d may.in_d ∙ ap (λ z. types_by L z d.parts.head) (fed.kind_d g at.once at.formed known at.tells d may) ∙ head-types g at.once at.formed known at.tells d may
      ∙ ap (λ (z : List (Option SqlType)). M ++ z) (settled-types g.boxes g.root w c may.in_c ∙ ap (λ z. types_by L z c.parts.head) at.an_outer)

  pub wide-d : width d ≡ width m + length c.parts.head
  wide-d =
      ap (λ z. width_by z (length d.parts.head)) (fed.kind_d g at.once at.formed known at.tells d may) ∙ ap length (fed.head-is g at.once at.formed known at.tells d may)
      ∙ length-append (columns_from a.id 1 (width m)) (columns_from r.id 1 (width c)) ∙ ap₂ ◌+◌ (columns-long a.id 1 (width m)) (columns-long r.id 1 (width c) ∙ width-c)

  agreed : (n : Node) → In n g.boxes → (list_all (λ y. is_known (term_type (lookup_of g.boxes) y)) n.parts.head ≡ true) × ((list_all (cond_fits (lookup_of g.boxes)) n.parts.conds.items && arms_by (types_at g.boxes) n.parts.kind n.quants) ≡ true)
  agreed n i = and_parts (list_all (λ y. is_known (term_type L y)) n.parts.head) (list_all (cond_fits L) n.parts.conds.items && arms_by (types_at g.boxes) n.parts.kind n.quants) (sym (agrees-as g.boxes n) ∙ ty n i)

  pub on-c : list_all (cond_fits L) c.parts.conds.items ≡ true
  on-c = (and_parts (list_all (cond_fits L) c.parts.conds.items) (arms_by (types_at g.boxes) c.parts.kind c.quants) (agreed c may.in_c).1).0

  pub all-known : (n : Node) → In n g.boxes → list_all is_known (types_at g.boxes n.id) ≡ true
  all-known = types-known g.boxes g.root w ty

  -- ---- no box below is PERMIT

  pub seen-m : is_permit m.parts.distinct ≡ false
  seen-m = counted-seen g.boxes g.root ty sh d m a may.in_d in-a (f-counts a.kind (made.f-a g at.once at.formed known at.tells d may)) may.in_m may.over_m

  pub seen-c : is_permit c.parts.distinct ≡ false
  seen-c = counted-seen g.boxes g.root ty sh d c r may.in_d in-r (f-counts r.kind (made.f-r g at.once at.formed known at.tells d may)) may.in_c may.over_c

  pub seen-x : is_permit x.parts.distinct ≡ false
  seen-x = counted-seen g.boxes g.root ty sh c x l may.in_c in-l (f-counts l.kind rows-c.0) at.in_x (sym at.over_x)

  pub seen-y : is_permit y.parts.distinct ≡ false
  seen-y = counted-seen g.boxes g.root ty sh c y r1 may.in_c in-r1 (f-counts r1.kind rows-c.1) at.in_y (sym at.over_y)
