-- M1 at a PERMIT select keeps the root's bag, where rows are clean.
use Rattle.std.proofs.Common.{ℕ, ◌==◌, ◌≡◌, ◌&&◌, ◌≤◌, arith, cond, Bool, true, false, List, [], ◌∷◌, ◌++◌, map, refl, sym, ap, subst, ◌∙◌, eqb-true, ◌⊎◌, inl, inr}
use Rattle.std.proofs.lemmas.Bool.{and_from, and_parts, cases_Bool}
use mathlib.Core.Path.{fun_ext}
use Rattle.row_bag.specs.AsSets.{AgreeAsSets, is_clean, is_decided}
use Rattle.row_bag.specs.Bags.{Agree, bind, if_there, keep, row}
use Rattle.row_bag.specs.Sets.{same_cells}
use Rattle.row_bag.specs.Verdict.{is_there}
use Rattle.row_bag.specs.declared.row.Row.{Row}
use Rattle.row_bag.specs.declared.tables.Table.{Table}
use Rattle.row_bag.proofs.Agreement.{alike-refl}
use Rattle.row_bag.proofs.BagLaws.{agreement-laws}
use Rattle.row_bag.proofs.Deciding.{decided-either}
use Rattle.row_bag.proofs.Levels.{least-associative, least-no, no-least, yes-least}
use Rattle.row_bag.proofs.Setting.{levels-sets, set-agreement, sets-from_alike, sets-sym}
use Rattle.row_bag.proofs.TupleBags.{same_cells-decides}
use Rattle.sql_value.specs.Level.{least}
use Rattle.sql_value.specs.declared.cell.Cell.{Cell}
use Rattle.sql_value.specs.declared.level.Level.{Level}
use Rattle.sql_value.specs.declared.level.Level.TheVariants.{Cardinality, Division, No, Overflow, Yes}
use Rattle.qgm_core.specs.Boxes.{QueryGraph, ids_of, is_quant}
use Rattle.qgm_core.specs.Edits.{compact, on_boxes, with_distinct}
use Rattle.qgm_core.specs.Kinds.{is_F, is_enforce, is_permit}
use Rattle.list_laws.specs.Lists.{In, first, times}
use Rattle.qgm_core.specs.declared.kinds.BoxKind.{BoxKind}
use Rattle.qgm_core.specs.declared.kinds.BoxKind.TheVariants.{Base, Group, OuterJoin, Select, SetOp}
use Rattle.qgm_core.specs.declared.kinds.Distinct.{Distinct}
use Rattle.qgm_core.specs.declared.kinds.Distinct.TheVariants.{Enforce, Permit, Preserve}
use Rattle.qgm_core.specs.declared.node.Node.{Node}
use Rattle.qgm_core.specs.declared.owned.OwnedQuant.{OwnedQuant}
use Rattle.qgm_meaning.specs.AsSets.{AgreeAs, AgreesBackAs, AllReadSets, ReadsSets, ReadsSetsBy}
use Rattle.qgm_meaning.specs.Fits.{fits}
use Rattle.qgm_meaning.specs.Laws.{AllStay, Stays, occurs}
use Rattle.qgm_meaning.specs.Meaning.{Family, bag_in, given_by, once_if, over_each, quant_rows, root_bag, rows_by, rows_found, rows_of}
use Rattle.qgm_meaning.specs.Satisfies.{Satisfies}
use Rattle.qgm_meaning.specs.Scope.{loose, loose_by, loose_each}
use Rattle.qgm_meaning.specs.Values.{Bag, Environment, bound}
use Rattle.qgm_meaning.proofs.AsSets.{agree-as, only-sets}
use Rattle.qgm_meaning.proofs.Fitting.{hereditary}
use Rattle.qgm_meaning.proofs.Frames.{bag-framed, over_each-framed}
use Rattle.qgm_meaning.proofs.Satisfying.{of-satisfying}
use Rattle.qgm_meaning.proofs.Unfold.{rows-local}
use Rattle.qgm_edit_laws.specs.Graph.{Sound}
use Rattle.rule_merge.specs.Merged.{merge_node, merged_in}
use Rattle.qgm_edit_laws.specs.KeepsOver.{KeepsOver}
use Rattle.rule_merge.specs.MergesPermit.{MergesAny, MergesClosed, MergesPermit}
use Rattle.qgm_edit_laws.specs.Shaped.{Shaped}
use Rattle.rule_merge.proofs.MergeSelectOfDistinct as one
use Rattle.rule_merge.proofs.MergeSelectOfDistinct.{by-all, each-levels, loosened, without-map}
use Rattle.qgm_edit_laws.proofs.PermitRead.{permit-read}
use Rattle.qgm_edit_laws.proofs.Ranks.{same-box}
use Rattle.rule_merge.proofs.MergeSelectKeeps.{merge-keeps}
use Rattle.qgm_edit_laws.proofs.Rules.{same-agree}
use Rattle.qgm_edit_laws.proofs.Scope.{unfold-bag, unfold-loose}
use Rattle.qgm_edit_laws.proofs.Turns.{first-own}
use Rattle.qgm_edit_laws.proofs.Widths.{filled-map}
use Rattle.list_laws.proofs.Counting.{times-in}
use Rattle.list_laws.proofs.Membership.{all-from, all-in, any-from, any-in, eq-itself, in-append, in-left, in-map, in-right, map-in}
use Rattle.list_laws.proofs.Booleans.{clash}

abbrev Line : Type 0
Line = Row (List Cell)

-- ---- clean rows of combinations

-- no row is at an error level where all are kept at l
abbrev Clean : Level → Bag → Type 0
Clean l rows = (x : Line) → In x rows → is_decided (least l x.level) ≡ true

clean-in : (rows : Bag) → is_clean rows ≡ true → Clean Yes rows
clean-in rows h x i = ap is_decided (yes-least x.level) ∙ all-in (λ (r : Line). is_decided r.level) x rows h i

in-clean : (rows : Bag) → Clean Yes rows → is_clean rows ≡ true
in-clean rows h = all-from (λ (r : Line). is_decided r.level) rows (λ x i. sym (ap is_decided (yes-least x.level)) ∙ h x i)

in-bind : (rows : Bag) (f : List Cell → Bag) (z : Line) → In z (bind rows f) → (x : Line) × (In x rows × In z (keep x.level (f x.cells)))
in-bind [] f z i = elim i [ ]
in-bind (x ∷ rows) f z i = elim (in-append z (keep x.level (f x.cells)) (bind rows f) i) [ inl a ↦ (x, (inl refl, a)) | inr a ↦ (let k = in-bind rows f z a in (k.0, (inr k.1.0, k.1.1))) ]

bind-in : (rows : Bag) (f : List Cell → Bag) (x z : Line) → In x rows → In z (keep x.level (f x.cells)) → In z (bind rows f)
bind-in [] f x z i j = elim i [ ]
bind-in (y ∷ rows) f x z i j = elim i [
  | inl e ↦ in-left z (keep y.level (f y.cells)) (bind rows f) (subst (λ (k : Line). In z (keep k.level (f k.cells))) (sym e) j)
  | inr k ↦ in-right z (keep y.level (f y.cells)) (bind rows f) (bind-in rows f x z k j)
]

not-there : (x : Line) → is_there x ≡ false → x.level ≡ No
not-there x h = by x.level h
  where
    by : (l : Level) → if_there false (λ (cells : List Cell) (level : Level). true) x.cells l ≡ false → l ≡ No
    by No h = refl
    by Cardinality h = absurd (cc h)
    by Division h = absurd (cc h)
    by Overflow h = absurd (cc h)
    by Yes h = absurd (cc h)

at-yes : (x : Line) → is_decided x.level ≡ true → is_there x ≡ true → x.level ≡ Yes
at-yes x h t = elim (decided-either x.level h) [
  | inr e ↦ e
  | inl e ↦ absurd (clash (is_there x) t (ap (λ l. if_there false (λ (cells : List Cell) (level : Level). true) x.cells l) e))
]

occurs-in : (x : Line) (rows : Bag) → In x rows → is_there x ≡ true → occurs x.cells rows ≡ true
occurs-in x rows i t = any-from (λ (r : Line). same_cells r.cells x.cells && is_there r) x rows i (and_from (same_cells x.cells x.cells) (is_there x) ((same_cells-decides x.cells x.cells).1 refl) t)

-- rows that are there stand among those of the other bag
abbrev Among : Bag → Bag → Type 0
Among xs ys = (x : Line) → In x xs → is_there x ≡ true → In x ys

-- of bags that agree as sets, all rows that are there are the same
sets-among : (xs ys : Bag) → AgreeAsSets same_cells xs ys → Among xs ys
sets-among xs ys s x i t =
    let o = any-in (λ (r : Line). same_cells r.cells x.cells && is_there r) ys (sym (s.tuples x.cells) ∙ occurs-in x xs i t) in
    let a = and_parts (same_cells o.0.cells x.cells) (is_there o.0) o.1.1 in
    let cells : o.0.cells ≡ x.cells = (same_cells-decides o.0.cells x.cells).0 a.0 in
    let level : o.0.level ≡ x.level = at-yes o.0 (all-in (λ (r : Line). is_decided r.level) o.0 ys s.right_clean o.1.0) a.1 ∙ sym (at-yes x (all-in (λ (r : Line). is_decided r.level) x xs s.left_clean i) t) in
    let same : o.0 ≡ x = (λ i. record { cells = cells i; level = level i }) in
    subst (λ (z : Line). In z ys) same o.1.0

-- combinations of such rows are clean where those of the others are
combined-clean : (passes : Environment → Bool) (s s' : Family) (give : Environment → Bag) (rs : List OwnedQuant) → Stays passes s rs → ((r : OwnedQuant) → In r rs → (e : Environment) → passes e ≡ true → Among (s' r.id e) (s r.id e))
    → (l : Level) (e : Environment) → passes e ≡ true → Clean l (over_each rs s give e) → Clean l (over_each rs s' give e)
combined-clean passes s s' give [] st h l e p c = c
combined-clean passes s s' give (r ∷ rs) st h l e p c =
    elim (is_F r.kind) as (λ t. is_F r.kind ≡ t → Clean l (cond t (bind (s r.id e) (λ cells. over_each rs s give (bound r.id cells e))) (over_each rs s give e)) → Clean l (cond t (bind (s' r.id e) (λ cells. over_each rs s' give (bound r.id cells e))) (over_each rs s' give e))) [
      | false ↦ λ t c. combined-clean passes s s' give rs st.1 (λ x i. h x (inr i)) l e p c
      | true ↦ λ t c z i. (
          let a = in-bind (s' r.id e) (λ cells. over_each rs s' give (bound r.id cells e)) z i in
          let y = in-map (λ (k : Line). row k.cells (least a.0.level k.level)) z (over_each rs s' give (bound r.id a.0.cells e)) a.1.1 in
          ap (λ (k : Line). is_decided (least l k.level)) (sym y.1.1) ∙ row-clean (λ l e p c. combined-clean passes s s' give rs st.1 (λ x i. h x (inr i)) l e p c) t c a.0 a.1.0 y.0 y.1.0 (cases_Bool (is_there a.0)))
    ] refl c
  where
    row-clean : ((l : Level) (e : Environment) → passes e ≡ true → Clean l (over_each rs s give e) → Clean l (over_each rs s' give e)) → is_F r.kind ≡ true → Clean l (bind (s r.id e) (λ cells. over_each rs s give (bound r.id cells e))) → (x : Line) → In x (s' r.id e) → (y : Line) → In y (over_each rs s' give (bound r.id x.cells e)) → (is_there x ≡ true) ⊎ (is_there x ≡ false) → is_decided (least l (least x.level y.level)) ≡ true
    row-clean again t c x i y j (inr n) = ap (λ k. is_decided (least l (least k y.level))) (not-there x n) ∙ ap (λ k. is_decided (least l k)) (no-least y.level) ∙ ap is_decided (least-no l)
    row-clean again t c x i y j (inl k) =
        let d = h r (inl refl) e p x i k in
        ap is_decided (sym (least-associative l x.level y.level))
        ∙ again (least l x.level) (bound r.id x.cells e) (st.0 e x.cells t p (occurs-in x (s r.id e) d k))
        (λ v o. ap is_decided (least-associative l x.level v.level) ∙ c (row v.cells (least x.level v.level)) (bind-in (s r.id e) (λ cells. over_each rs s give (bound r.id cells e)) x (row v.cells (least x.level v.level)) d (map-in (λ (k : Line). row k.cells (least x.level k.level)) v (over_each rs s give (bound r.id x.cells e)) o)))
        y j

-- ---- what stays

stays-to : (passes : Environment → Bool) (t t' : Family) (rs : List OwnedQuant) → Stays passes t rs → ((x : OwnedQuant) → In x rs → (e : Environment) (cells : List Cell) → passes e ≡ true → occurs cells (t' x.id e) ≡ true → occurs cells (t x.id e) ≡ true) → Stays passes t' rs
stays-to passes t t' [] st h = tt
stays-to passes t t' (r ∷ rs) st h = ((λ e cells f p o. st.0 e cells f p (h r (inl refl) e cells p o)), stays-to passes t t' rs st.1 (λ x i. h x (inr i)))

stay-in : (passes : Environment → Bool) (f : Family) (ns : List Node) → AllStay passes f ns → (n : Node) → In n ns → Stays passes (quant_rows n f) n.quants
stay-in passes f [] a n i = elim i [ ]
stay-in passes f (m ∷ ns) a n i = elim i [ inl e ↦ subst (λ (z : Node). Stays passes (quant_rows z f) z.quants) e a.0 | inr j ↦ stay-in passes f ns a.1 n j ]

reads-loosened : (sets : ℕ → Bool) (y : Node) (k : BoxKind) → ReadsSetsBy k sets y → ReadsSetsBy k sets (with_distinct Preserve y)
reads-loosened sets y (Base t) h = h
reads-loosened sets y Select h = record { rows = h.rows; cells = h.cells; conditions = h.conditions }
reads-loosened sets y (Group k) h = h
reads-loosened sets y (SetOp form types) h = h
reads-loosened sets y OuterJoin h = h

permit-loose : (d : Distinct) → is_permit d ≡ true → is_enforce d ≡ false
permit-loose Enforce h = absurd (cc h)
permit-loose Preserve h = refl
permit-loose Permit h = refl

all-read : (sets : ℕ → Bool) (ns : List Node) → ((n : Node) → In n ns → ReadsSets sets n) → AllReadSets sets ns
all-read sets [] h = tt
all-read sets (n ∷ ns) h = (h n (inl refl), all-read sets ns (λ m i. h m (inr i)))

module _ (bs : List Node) (root : ℕ) (w : Sound bs root) (sh : Shaped bs root) (b c : Node) (us : List OwnedQuant) (r : OwnedQuant) (vs : List OwnedQuant) (m : MergesPermit bs b c us r vs) (tables : List Table) (sat : Satisfies tables bs) where
  a : MergesAny bs b c us r vs
  a = m.any

  abbrev f : Family
  f = bag_in tables bs

  abbrev raw : Environment → Bag
  raw e = over_each c.quants (quant_rows c f) (given_by (quant_rows c f) c) e

  abbrev f' : Family
  f' x e = cond (x == c.id) (raw e) (f x e)

  abbrev g : Node → Node
  g = loosened c.id

  abbrev sets : ℕ → Bool
  sets x = x == b.id

  abbrev passes : Environment → Bool
  passes e = fits f bs e

  c-is : (e : Environment) → f' c.id e ≡ raw e
  c-is = one.f-c bs root w b c us r vs a tables

  was : (x : ℕ) → (x == c.id) ≡ false → f' x ≡ f x
  was = one.f-was bs root w b c us r vs a tables

  -- the rows of c, once each or as often as they come, agree as sets
  raw-clean : (e : Environment) → passes e ≡ true → is_clean (raw e) ≡ true
  raw-clean e p = ap is_clean (sym (ap (λ z. rows_by z tables (with_distinct Preserve c) (quant_rows c f) e) a.select_c)) ∙ m.clean_below tables sat e p

  raw-sets : (e : Environment) → passes e ≡ true → AgreeAsSets same_cells (raw e) (f c.id e)
  raw-sets e p = subst (λ z. AgreeAsSets same_cells (raw e) z) (sym (unfold-bag tables bs c w.ordered a.in_c e ∙ ap (λ z. rows_by z tables c (quant_rows c f) e) a.select_c)) (by (is_enforce c.parts.distinct))
    where
      by : (t : Bool) → AgreeAsSets same_cells (raw e) (once_if t (raw e))
      by true = sets-sym same_cells ((set-agreement same_cells same_cells-decides).of_distinct (raw e) (raw-clean e p))
      by false = sets-from_alike same_cells same_cells-decides (raw e) (raw e) (raw-clean e p) (alike-refl (raw e))

  -- so they do at each box
  below-sets : (x : ℕ) (e : Environment) → passes e ≡ true → Among (f' x e) (f x e)
  below-sets x e p = elim (cases_Bool (x == c.id)) [
    | inr n ↦ λ z i t. subst (λ (h : Environment → Bag). In z (h e)) (was x n) i
    | inl t ↦ subst (λ k. Among (f' k e) (f k e)) (sym (eqb-true x c.id t)) (subst (λ k. Among k (f c.id e)) (sym (c-is e)) (sets-among (raw e) (f c.id e) (raw-sets e p)))
  ]

  among-occurs : (xs ys : Bag) (cells : List Cell) → Among xs ys → occurs cells xs ≡ true → occurs cells ys ≡ true
  among-occurs xs ys cells h o =
      let x = any-in (λ (r : Line). same_cells r.cells cells && is_there r) xs o in
      any-from (λ (r : Line). same_cells r.cells cells && is_there r) x.0 ys (h x.0 x.1.0 (and_parts (same_cells x.0.cells cells) (is_there x.0) x.1.1).1) x.1.1

  few : (n : Node) (x : ℕ) → In n bs → times x (ids_of n) ≤ 1
  few n x i = let d = times-in ids_of x n bs i in let e = w.once x in omega arith

  own-rows : (n : Node) → In n bs → (x : OwnedQuant) → In x n.quants → (h : Family) (e : Environment) → quant_rows n h x.id e ≡ h x.over e
  own-rows n i x j h e = ap (λ o. rows_found o h e) (first-own x n.quants (few n x.id i) j)

  quant-among : (n : Node) → In n bs → (x : OwnedQuant) → In x n.quants → (e : Environment) → passes e ≡ true → Among (quant_rows n f' x.id e) (quant_rows n f x.id e)
  quant-among n i x j e p = subst (λ z. Among z (quant_rows n f x.id e)) (sym (own-rows n i x j f' e)) (subst (λ z. Among (f' x.over e) z) (sym (own-rows n i x j f e)) (below-sets x.over e p))

  stay-f : (n : Node) → In n bs → Stays passes (quant_rows n f) n.quants
  stay-f = stay-in passes f bs (hereditary f bs)

  stay-f' : (n : Node) → In n bs → Stays passes (quant_rows n f') n.quants
  stay-f' n i = stays-to passes (quant_rows n f) (quant_rows n f') n.quants (stay-f n i) (λ x j e cells p o. among-occurs (quant_rows n f' x.id e) (quant_rows n f x.id e) cells (quant-among n i x j e p) o)

  -- ---- b

  abbrev s : Family
  s = quant_rows b f

  abbrev s' : Family
  s' = quant_rows b f'

  loose-b : is_enforce b.parts.distinct ≡ false
  loose-b = permit-loose b.parts.distinct m.permitted

  b-sets : (e : Environment) → passes e ≡ true → AgreeAsSets same_cells (rows_of tables b f' e) (f b.id e)
  b-sets e p =
      let now : rows_of tables b f' e ≡ over_each b.quants s' (given_by s b) e =
      ap (λ z. rows_by z tables b s' e) a.select_b ∙ ap (λ o. once_if o (over_each b.quants s' (given_by s' b) e)) loose-b ∙ ap (λ (h : Environment → Bag). over_each b.quants s' h e) (fun_ext (one.given-same bs root w b c us r vs a tables)) in
      let then : f b.id e ≡ over_each b.quants s (given_by s b) e =
      unfold-bag tables bs b w.ordered a.in_b e ∙ ap (λ z. rows_by z tables b s e) a.select_b ∙ ap (λ o. once_if o (over_each b.quants s (given_by s b) e)) loose-b in
      let old = ap is_clean (sym then) ∙ m.clean tables sat e p in
      let new = in-clean (over_each b.quants s' (given_by s b) e) (combined-clean passes s s' (given_by s b) b.quants (stay-f b a.in_b) (λ x j e p. quant-among b a.in_b x j e p) Yes e p (clean-in (over_each b.quants s (given_by s b) e) old)) in
      subst (λ z. AgreeAsSets same_cells z (f b.id e)) (sym now) (subst (λ z. AgreeAsSets same_cells (over_each b.quants s' (given_by s b) e) z) (sym then)
      (levels-sets same_cells (over_each b.quants s' (given_by s b) e) (over_each b.quants s (given_by s b) e) new old (each-levels s' s (given_by s b) b.quants (one.levels-s bs root w b c us r vs a tables) e)))

  b-not-c : (b.id == c.id) ≡ false
  b-not-c = one.b-not-c bs root w b c us r vs a

  at-box : (y : Node) → In y bs → (e : Environment) → passes e ≡ true → AgreeAs (sets y.id) (rows_of tables (g y) f' e) (f' y.id e)
  at-box y i e p = elim (cases_Bool (y.id == b.id)) [
    | inl t ↦ (
        let same : y ≡ b = same-box bs y b w.ordered i a.in_b (eqb-true y.id b.id t) in
        subst (λ (z : Node). AgreeAs (sets z.id) (rows_of tables (g z) f' e) (f' z.id e)) (sym same)
        (subst (λ t. AgreeAs t (rows_of tables (g b) f' e) (f' b.id e)) (sym (eq-itself b.id))
        (subst (λ (z : Node). AgreeAsSets same_cells (rows_of tables z f' e) (f' b.id e)) (sym (one.g-other bs root w b c us r vs a b b-not-c))
        (subst (λ (z : Environment → Bag). AgreeAsSets same_cells (rows_of tables b f' e) (z e)) (sym (was b.id b-not-c)) (b-sets e p)))))
    | inr n ↦ subst (λ t. AgreeAs t (rows_of tables (g y) f' e) (f' y.id e)) (sym n) (same-agree (elim (cases_Bool (y.id == c.id)) [
      | inl t ↦ (
          let same : y ≡ c = same-box bs y c w.ordered i a.in_c (eqb-true y.id c.id t) in
          ap (λ (z : Node). rows_of tables (g z) f' e) same ∙ ap (λ z. rows_of tables z f' e) (one.g-c bs root w b c us r vs a) ∙ one.c-rows bs root w b c us r vs a tables e ∙ ap (λ (z : Node). f' z.id e) (sym same))
      | inr d ↦
          ap (λ z. rows_of tables z f' e) (one.g-other bs root w b c us r vs a y d)
          ∙ ap (λ (z : Environment → Bag). z e) (rows-local tables y f' f (one.under-same bs root w b c us r vs a tables y.quants (one.not-over bs root w b c us r vs a y i n)))
          ∙ sym (unfold-bag tables bs y w.ordered i e) ∙ ap (λ (z : Environment → Bag). z e) (sym (was y.id d))
    ]))
  ]

  -- ---- the graph with c as PRESERVE

  backs : (ns : List Node) → ((n : Node) → In n ns → In n bs) → AgreesBackAs passes sets tables f' (map g ns)
  backs [] sub = tt
  backs (n ∷ ns) sub = (
    subst (λ rs. Stays passes (λ x. rows_found (first (is_quant x) rs) f') rs) (sym (by-all c.id (λ n. n.quants) (λ y. refl) n)) (stay-f' n (sub n (inl refl))),
    (λ e p. subst (λ x. AgreeAs (sets x) (rows_of tables (g n) f' e) (f' x e)) (sym (by-all c.id (λ n. n.id) (λ y. refl) n)) (at-box n (sub n (inl refl)) e p)),
    backs ns (λ x i. sub x (inr i)),
  )

  permits : (n : Node) → In n bs → sets n.id ≡ true → is_permit n.parts.distinct ≡ true
  permits n i t = subst (λ (z : Node). is_permit z.parts.distinct ≡ true) (sym (same-box bs n b w.ordered i a.in_b (eqb-true n.id b.id t))) m.permitted

  reads : (n : Node) → In n (map g bs) → ReadsSets sets n
  reads n i =
      let y = in-map g n bs i in
      let h = permit-read bs root w sh y.0 y.1.0 sets permits in
      subst (λ z. ReadsSets sets z) y.1.1 (elim (y.0.id == c.id) as (λ t. ReadsSets sets (cond t (with_distinct Preserve y.0) y.0)) [ true ↦ reads-loosened sets y.0 y.0.parts.kind h | false ↦ h ])

  root-not-b : (root == b.id) ≡ false
  root-not-b = elim (cases_Bool (root == b.id)) [ inr n ↦ n | inl t ↦ absurd ((sh.unseen b a.in_b m.permitted).0 (sym (eqb-true root b.id t))) ]

  pub permit-same : Agree same_cells (bag_in tables (map g bs) root []) (f root [])
  permit-same =
      let n = one.sound bs root w b c us r vs a in
      let h = agree-as (sets root) (bag_in tables (map g bs) root []) (f' root []) (only-sets tables f' passes sets (map g bs) n.ordered (all-read sets (map g bs) reads) (backs bs (λ n i. i)) root n.rooted [] refl) in
      subst (λ (z : Environment → Bag). Agree same_cells (bag_in tables (map g bs) root []) (z [])) (was root (one.root-not-c bs root w b c us r vs a tables))
      (subst (λ t. AgreeAs t (bag_in tables (map g bs) root []) (f' root [])) root-not-b h)

pub merge-permit-keeps : (h : QueryGraph) → Sound h.boxes h.root → Shaped h.boxes h.root → (b c : Node) (us : List OwnedQuant) (rq : OwnedQuant) (vs : List OwnedQuant) → MergesPermit h.boxes b c us rq vs → KeepsOver h (merged_in b c us rq vs h)
merge-permit-keeps h w s b c us rq vs m =
    let mid : QueryGraph = on_boxes (map (loosened c.id)) h in
    let well : Sound mid.boxes mid.root = one.sound h.boxes h.root w b c us rq vs m.any in
    let c' : Node = with_distinct Preserve c in
    let end : QueryGraph = merged_in b c' us rq vs mid in
    let two = merge-keeps mid well b c' us rq vs (one.merges h.boxes h.root w b c us rq vs m.any) in
    let laws = agreement-laws same_cells same_cells-decides in
    subst (λ z. KeepsOver h (compact (on_boxes (λ bs. map (merge_node b.id rq.id c (us ++ (c.quants ++ vs))) z) h))) (without-map c.id h.boxes w.ordered)
    (record {
      well = two.well;
      bag = λ tables sat. laws.chained (root_bag tables end) (root_bag tables mid) (root_bag tables h) (two.bag tables (filled-map tables (loosened c.id) (λ y. by-all c.id (λ n. n.parts.kind) (λ y. refl) y) h.boxes (of-satisfying.filled tables h.boxes sat))) (permit-same h.boxes h.root w s b c us rq vs m tables sat);
      names = refl;
      order = refl;
    })

-- boxes that look nothing up have the same rows in each environment
pub closed-merges : (bs : List Node) (root : ℕ) → Sound bs root → (b c : Node) (us : List OwnedQuant) (rq : OwnedQuant) (vs : List OwnedQuant) → MergesClosed bs b c us rq vs → MergesPermit bs b c us rq vs
closed-merges bs root w b c us rq vs m = record {
  any = m.any;
  permitted = m.permitted;
  clean = λ tables sat e p. ap is_clean (bag-framed tables bs b.id e [] (record { rows = λ q l. absurd (clash (loose bs b.id q) l (m.closed q)) })) ∙ m.clean tables sat;
  clean_below = λ tables sat e p. ap is_clean (
      ap (λ z. rows_by z tables (with_distinct Preserve c) (quant_rows c (bag_in tables bs)) e) m.any.select_c
      ∙ over_each-framed c (bag_in tables bs) (loose bs) (bag-framed tables bs) c.quants e [] (record { rows = λ q l. absurd (clash (loose bs c.id q) (below q l) (m.closed_below q)) })
      ∙ sym (ap (λ z. rows_by z tables (with_distinct Preserve c) (quant_rows c (bag_in tables bs)) []) m.any.select_c)) ∙ m.clean_below tables sat;
}
  where
    below : (q : ℕ) → loose_each c.quants c (loose bs) q ≡ true → loose bs c.id q ≡ true
    below q l = ap (λ (h : ℕ → Bool). h q) (unfold-loose bs c w.ordered m.any.in_c) ∙ ap (λ z. loose_by z c (loose bs) q) m.any.select_c ∙ l
