-- The edits that feed a box put the fed and the magic box below its owner, and change each box as G1's action does.
use Rattle.std.proofs.Common.{ℕ, suc, ◌==◌, ◌≡◌, ◌&&◌, ◌||◌, cond, not, Bool, true, false, List, [], ◌∷◌, ◌++◌, map, filter, Option, refl, sym, ap, ap₂, subst, ◌∙◌, eqb-true, inl, inr}
use Rattle.std.specs.List.{list_any}
use Rattle.std.proofs.lemmas.Bool.{cases_Bool}
use Rattle.qgm_terms.specs.Conjuncts.{Conjuncts}
use Rattle.qgm_terms.specs.Terms.{Term}
use Rattle.qgm_core.specs.Boxes.{Ordered, QueryGraph, bare_box, has_box, is_box, numbers, owns, put_below, width}
use Rattle.qgm_core.specs.Edits.{conds_in, head_in, on_quant, put_cells, put_range, put_terms, range, redirect, set_distinct, spare_in, with_distinct, with_terms}
use Rattle.qgm_core.specs.Free.{itself}
use Rattle.list_laws.specs.Lists.{EachOnce, In, change, first, holds}
use Rattle.qgm_core.specs.declared.kinds.Distinct.{Distinct}
use Rattle.qgm_core.specs.declared.kinds.Distinct.TheVariants.{Enforce, Preserve}
use Rattle.qgm_core.specs.declared.kinds.QuantKind.TheVariants.{F}
use Rattle.qgm_core.specs.declared.kinds.Role.TheVariants.{Fed, Magic}
use Rattle.qgm_core.specs.declared.node.Node.{Node}
use Rattle.qgm_core.specs.declared.owned.OwnedQuant.{OwnedQuant}
use Rattle.qgm_core.proofs.Reaching.{in-has, reached-reaches}
use Rattle.qgm_meaning.specs.Scope.{put_node}
use Rattle.qgm_meaning.specs.Tags.{columns_from}
use Rattle.qgm_props.specs.Under.{of_box}
use Rattle.qgm_edit_laws.specs.Adds.{at}
use Rattle.qgm_edit_laws.specs.Graph.{Sound}
use Rattle.qgm_edit_laws.proofs.Edits.{OnceEach, map-append}
use Rattle.qgm_edit_laws.proofs.MoveForms.{map-map}
use Rattle.qgm_edit_laws.proofs.OneBox.{change-at, has-map}
use Rattle.qgm_edit_laws.proofs.Ranks.{same-box}
use Rattle.qgm_edit_laws.proofs.Scope.{in-first, one-owner}
use Rattle.qgm_edit_laws.proofs.WellFormedKept.{numbers-once}
use Rattle.rule_feed.specs.Feed as feed
use Rattle.rule_feed.specs.Feed.{Numbers, fed_boxes, fed_node, how_many, inside, joins, named_below, new_fed, new_magic, picked, unpermitted}
use Rattle.rule_feed.specs.FeedLaws.{FeedsOne}
use Rattle.rule_feed.specs.FeedMay.{width_of}
use Rattle.rule_feed.specs.FeedSteps.{put_each, put_in, put_in_all, select_parts}
use Rattle.rule_feed.specs.FillSteps.{beside_ids, distinct_in, fed_cells, fed_conjuncts, fill_edits, is_beside, no_conds, reached_ids, with_fed, with_magic}
use Rattle.rule_feed.proofs.FeedEditSteps.{held-same, put-id}
use Rattle.rule_feed.proofs.FeedOrder as order
use Rattle.rule_feed.proofs.FeedRegion as region
use Rattle.rule_feed.proofs.FeedSettled.{once-above}
use Rattle.rule_feed.proofs.SplitEdits.{change-here, change-next, numbers-put, put-each-is, put-here}
use Rattle.rule_feed.proofs.SplitMade.{keep, lead, spread}
use Rattle.list_laws.proofs.Booleans.{clash}
use Rattle.list_laws.proofs.Membership.{any-none, any-not, append-one, eq-false-sym, eq-itself, in-left, in-right}

-- ---- some of the numbers

and-false : (t : Bool) → (t && false) ≡ false
and-false true = refl
and-false false = refl

holds-filter : (t : ℕ → Bool) (x : ℕ) (xs : List ℕ) → holds x (filter t xs) ≡ (holds x xs && t x)
holds-filter t x [] = refl
holds-filter t x (y ∷ xs) = elim (cases_Bool (t y)) [
  | inl k ↦ ap (λ z. holds x (cond z (y ∷ filter t xs) (filter t xs))) k ∙ elim (cases_Bool (y == x)) [
    | inl e ↦ ap (λ z. z || holds x (filter t xs)) e ∙ sym (ap₂ (λ (a d : Bool). (a || holds x xs) && d) e (ap t (sym (eqb-true y x e)) ∙ k))
    | inr e ↦ ap (λ z. z || holds x (filter t xs)) e ∙ holds-filter t x xs ∙ sym (ap (λ (a : Bool). (a || holds x xs) && t x) e)
  ]
  | inr k ↦ ap (λ z. holds x (cond z (y ∷ filter t xs) (filter t xs))) k ∙ holds-filter t x xs ∙ elim (cases_Bool (y == x)) [
    | inl e ↦ (let none : t x ≡ false = ap t (sym (eqb-true y x e)) ∙ k in ap (λ d. holds x xs && d) none ∙ and-false (holds x xs) ∙ sym (ap₂ (λ (a d : Bool). (a || holds x xs) && d) e none))
    | inr e ↦ sym (ap (λ (a : Bool). (a || holds x xs) && t x) e)
  ]
]

once-filter : (t : ℕ → Bool) (xs : List ℕ) → EachOnce xs → EachOnce (filter t xs)
once-filter t [] o = tt
once-filter t (x ∷ xs) o = elim (t x) as (λ z. EachOnce (cond z (x ∷ filter t xs) (filter t xs))) [
  | true ↦ (holds-filter t x xs ∙ ap (λ z. z && t x) o.0, once-filter t xs o.1)
  | false ↦ once-filter t xs o.1
]

once-boxes : (ns : List Node) → EachOnce (numbers ns) → OnceEach ns
once-boxes [] o = tt
once-boxes (n ∷ ns) o = (sym (held-same n.id ns) ∙ o.0, once-boxes ns o.1)

owns-map : (f : Node → Node) → ((y : Node) → (f y).quants ≡ y.quants) → (q : ℕ) (ns : List Node) → list_any (owns q) (map f ns) ≡ list_any (owns q) ns
owns-map f same q [] = refl
owns-map f same q (n ∷ ns) = ap₂ (λ (a b : Bool). a || b) (ap (λ (l : List OwnedQuant). list_any (λ (r : OwnedQuant). r.id == q) l) (same n)) (owns-map f same q ns)

others : (f h : Node → Node) (ns : List Node) → ((y : Node) → In y ns → f y ≡ h y) → map f ns ≡ map h ns
others f h [] j = refl
others f h (n ∷ ns) j = ap₂ (λ (x : Node) (y : List Node). x ∷ y) (j n (inl refl)) (others f h ns (λ y i. j y (inr i)))

module _ (g0 : QueryGraph) (above below : List Node) (b s c : Node) (rp ri : OwnedQuant) (x : Numbers) (w : Sound ((above ++ b ∷ []) ++ s ∷ below) g0.root) (m : FeedsOne (above ++ b ∷ []) (s ∷ below) g0.root b s c rp ri x) where
  abbrev xs : List Node
  xs = above ++ b ∷ []

  abbrev ys : List Node
  ys = s ∷ below

  abbrev bs : List Node
  bs = xs ++ ys

  abbrev with_boxes : List Node → QueryGraph
  with_boxes z = record g0 { boxes = z }

  abbrev named : ℕ → Bool
  named = named_below bs c.id rp.id

  abbrev wd : ℕ
  wd = width s

  abbrev n : ℕ
  n = how_many named 1 wd

  abbrev v : ℕ
  v = width c

  abbrev ins : ℕ → Bool
  ins = inside bs c.id

  abbrev d' : Node
  d' = new_fed bs b s c rp ri x

  abbrev m' : Node
  m' = new_magic bs b s c rp ri x

  abbrev fed : Node → Node
  fed = fed_node bs b s c rp ri x

  in-b : In b bs
  in-b = region.in-b xs ys g0.root w b s c rp ri x m

  in-s : In s bs
  in-s = region.in-s xs ys g0.root w b s c rp ri x m

  in-c : In c bs
  in-c = region.in-c xs ys g0.root w b s c rp ri x m

  in-above : (y : Node) → In y above → In y bs
  in-above y j = in-left y xs ys (in-left y above (b ∷ []) j)

  in-ys : (y : Node) → In y ys → In y bs
  in-ys y j = in-right y xs ys j

  flat : bs ≡ above ++ b ∷ ys
  flat = append-one above b ys

  once : (has_box above b.id ≡ false) × (has_box ys b.id ≡ false)
  once = once-above above b ys (subst Ordered flat w.ordered)

  -- ---- what is read of the graph

  abbrev masked : List Term
  masked = feed.put_cells named x.dm 1 1 wd

  abbrev shifted : List Term
  shifted = columns_from ri.id (suc n) v

  abbrev edits_by : ℕ → ℕ → ℕ → List Term → Conjuncts → Distinct → QueryGraph
  edits_by o k z head conds d =
      let named : ℕ → Bool = named_below bs o rp.id in
      let n : ℕ = how_many named 1 k in
      redirect ri.id x.d (put_terms b.id (fed_conjuncts ri n (joins named rp.id ri.id 1 1 k) conds) (fed_cells ri n (joins named rp.id ri.id 1 1 k) head) (set_distinct o (unpermitted d)
      (put_each (beside_ids bs o b.id) ri.id (columns_from ri.id (suc n) z) (put_each (reached_ids bs o) rp.id (feed.put_cells named x.dm 1 1 k)
      (with_fed b.id o x (columns_from x.dm 1 n ++ columns_from x.dc 1 z) (with_magic b.id s.id x.m x.mq (picked named x.mq 1 k) (with_boxes bs)))))))

  read : fill_edits (with_boxes bs) b.id s.id rp.id ri x ≡ edits_by c.id wd v b.parts.head b.parts.conds c.parts.distinct
  read =
      ap (λ (o : ℕ). edits_by o (width_of bs s.id) (width_of bs o) (head_in (first (is_box b.id) bs)) (record { items = conds_in (first (is_box b.id) bs); spare = spare_in (first (is_box b.id) bs) }) (distinct_in (first (is_box o) bs))) m.over_c
      ∙ ap (λ (z : Option Node). edits_by c.id (of_box 0 width z) (width_of bs c.id) (head_in (first (is_box b.id) bs)) (record { items = conds_in (first (is_box b.id) bs); spare = spare_in (first (is_box b.id) bs) }) (distinct_in (first (is_box c.id) bs))) (in-first s bs w.ordered in-s)
      ∙ ap (λ (z : Option Node). edits_by c.id wd (of_box 0 width z) (head_in (first (is_box b.id) bs)) (record { items = conds_in (first (is_box b.id) bs); spare = spare_in (first (is_box b.id) bs) }) (distinct_in z)) (in-first c bs w.ordered in-c)
      ∙ ap (λ (z : Option Node). edits_by c.id wd v (head_in z) (record { items = conds_in z; spare = spare_in z }) c.parts.distinct) (in-first b bs w.ordered in-b)

  -- ---- the new boxes

  new-above : (z : ℕ) → has_box bs z ≡ false → list_any (is_box z) above ≡ false
  new-above z h = any-not (is_box z) above (λ y j. any-none (is_box z) y bs h (in-above y j))

  abbrev m0 : Node
  m0 = bare_box x.m (select_parts Enforce Magic [] [])

  abbrev d0 : Node
  d0 = bare_box x.d (select_parts Preserve Fed [] [])

  magic-put : with_magic b.id s.id x.m x.mq (picked named x.mq 1 wd) (with_boxes bs) ≡ with_boxes (above ++ b ∷ (m' ∷ ys))
  magic-put = ap with_boxes (
      ap (λ (z : List Node). change (is_box x.m) (with_terms no_conds (picked named x.mq 1 wd)) (change (is_box x.m) (put_range 0 (range x.mq F s.id)) z)) (ap (put_below (is_box b.id) m0) flat ∙ put-here (is_box b.id) m0 above b ys once.0 (eq-itself b.id))
      ∙ ap (change (is_box x.m) (with_terms no_conds (picked named x.mq 1 wd))) (change-next (is_box x.m) (put_range 0 (range x.mq F s.id)) above b m0 ys no-m b-m (eq-itself x.m))
      ∙ change-next (is_box x.m) (with_terms no_conds (picked named x.mq 1 wd)) above b (record m0 { quants = range x.mq F s.id ∷ [] }) ys no-m b-m (eq-itself x.m))
    where
      no-m : list_any (is_box x.m) above ≡ false
      no-m = new-above x.m m.new_m

      b-m : (b.id == x.m) ≡ false
      b-m = any-none (is_box x.m) b bs m.new_m in-b

  abbrev fed_head : List Term
  fed_head = columns_from x.dm 1 n ++ columns_from x.dc 1 v

  abbrev boxes1 : List Node
  boxes1 = above ++ b ∷ (d' ∷ (m' ∷ ys))

  fed-put : with_fed b.id c.id x fed_head (with_boxes (above ++ b ∷ (m' ∷ ys))) ≡ with_boxes boxes1
  fed-put = ap with_boxes (
      ap (λ (z : List Node). change (is_box x.d) (with_terms no_conds fed_head) (change (is_box x.d) (put_range 0 (range x.dm F x.m)) (change (is_box x.d) (put_range 0 (range x.dc F c.id)) z))) (put-here (is_box b.id) d0 above b (m' ∷ ys) once.0 (eq-itself b.id))
      ∙ ap (λ (z : List Node). change (is_box x.d) (with_terms no_conds fed_head) (change (is_box x.d) (put_range 0 (range x.dm F x.m)) z)) (change-next (is_box x.d) (put_range 0 (range x.dc F c.id)) above b d0 (m' ∷ ys) no-d b-d (eq-itself x.d))
      ∙ ap (change (is_box x.d) (with_terms no_conds fed_head)) (change-next (is_box x.d) (put_range 0 (range x.dm F x.m)) above b (record d0 { quants = range x.dc F c.id ∷ [] }) (m' ∷ ys) no-d b-d (eq-itself x.d))
      ∙ change-next (is_box x.d) (with_terms no_conds fed_head) above b (record d0 { quants = range x.dm F x.m ∷ (range x.dc F c.id ∷ []) }) (m' ∷ ys) no-d b-d (eq-itself x.d))
    where
      no-d : list_any (is_box x.d) above ≡ false
      no-d = new-above x.d m.new_d

      b-d : (b.id == x.d) ≡ false
      b-d = any-none (is_box x.d) b bs m.new_d in-b

  -- ---- names and distinctness, box by box

  abbrev reached : List ℕ
  reached = reached_ids bs c.id

  abbrev beside : List ℕ
  beside = beside_ids bs c.id b.id

  once-bs : EachOnce (numbers bs)
  once-bs = numbers-once bs w.ordered

  fed-id : (y : Node) → (fed y).id ≡ y.id
  fed-id = order.id xs ys g0.root w b s c rp ri x m

  once1 : EachOnce (numbers boxes1)
  once1 = subst EachOnce (
      ap numbers (spread fed above b (d' ∷ (m' ∷ map fed ys))) ∙ lead fed fed-id above (fed b ∷ (d' ∷ (m' ∷ map fed ys))) (b ∷ (d' ∷ (m' ∷ ys))) (ap₂ (λ (z : ℕ) (l : List ℕ). z ∷ (x.d ∷ (x.m ∷ l))) (fed-id b) (keep fed fed-id ys)))
      (numbers-once (fed_boxes xs ys b s c rp ri x) (order.ordered-after xs ys g0.root w b s c rp ri x m))

  abbrev distinct_put : Node → Node
  distinct_put = at c.id (with_distinct (unpermitted c.parts.distinct))

  -- what becomes of a box
  abbrev put : Node → Node
  put y = distinct_put (put_in beside ri.id shifted (put_in reached rp.id masked y))

  put-is : set_distinct c.id (unpermitted c.parts.distinct) (put_each beside ri.id shifted (put_each reached rp.id masked (with_boxes boxes1))) ≡ with_boxes (map put boxes1)
  put-is =
      ap (λ (z : QueryGraph). set_distinct c.id (unpermitted c.parts.distinct) (put_each beside ri.id shifted z)) (put-each-is rp.id masked reached (with_boxes boxes1) (once-filter ins (numbers bs) once-bs) once1)
      ∙ ap (set_distinct c.id (unpermitted c.parts.distinct)) (put-each-is ri.id shifted beside (put_in_all reached rp.id masked (with_boxes boxes1)) (once-filter (is_beside bs c.id b.id) (numbers bs) once-bs) once2)
      ∙ ap with_boxes (
      change-at c.id (with_distinct (unpermitted c.parts.distinct)) (map (put_in beside ri.id shifted) (map (put_in reached rp.id masked) boxes1)) (once-boxes (map (put_in beside ri.id shifted) (map (put_in reached rp.id masked) boxes1)) once3)
      ∙ ap (map distinct_put) (map-map (put_in beside ri.id shifted) (put_in reached rp.id masked) boxes1)
      ∙ map-map distinct_put (λ y. put_in beside ri.id shifted (put_in reached rp.id masked y)) boxes1)
    where
      once2 : EachOnce (numbers (map (put_in reached rp.id masked) boxes1))
      once2 = subst EachOnce (sym (numbers-put rp.id masked reached boxes1)) once1

      once3 : EachOnce (numbers (map (put_in beside ri.id shifted) (map (put_in reached rp.id masked) boxes1)))
      once3 = subst EachOnce (sym (numbers-put ri.id shifted beside (map (put_in reached rp.id masked) boxes1))) once2

  at-id : (y : Node) → (distinct_put y).id ≡ y.id
  at-id y = elim (y.id == c.id) as (λ t. (λ (z : Node). z.id) (cond t (with_distinct (unpermitted c.parts.distinct) y) y) ≡ y.id) [ true ↦ refl | false ↦ refl ]

  put-ids : (y : Node) → (put y).id ≡ y.id
  put-ids y = at-id (put_in beside ri.id shifted (put_in reached rp.id masked y)) ∙ put-id ri.id shifted beside (put_in reached rp.id masked y) ∙ put-id rp.id masked reached y

  put-quants : (y : Node) → (put y).quants ≡ y.quants
  put-quants y =
      (let z : Node = put_in beside ri.id shifted (put_in reached rp.id masked y) in elim (z.id == c.id) as (λ t. (λ (z : Node). z.quants) (cond t (with_distinct (unpermitted c.parts.distinct) z) z) ≡ z.quants) [ true ↦ refl | false ↦ refl ])
      ∙ same ri.id shifted beside (put_in reached rp.id masked y) ∙ same rp.id masked reached y
    where
      same : (q : ℕ) (cells : List Term) (ids : List ℕ) (y : Node) → (put_in ids q cells y).quants ≡ y.quants
      same q cells ids y = elim (holds y.id ids) as (λ t. (λ (z : Node). z.quants) (cond t (put_cells q cells y) y) ≡ y.quants) [ true ↦ refl | false ↦ refl ]

  -- ---- which boxes these are

  ins-c : ins c.id ≡ true
  ins-c = (reached-reaches bs w.ordered c.id c.id).1 (itself c.id)

  in-reached : (y : Node) → In y bs → holds y.id reached ≡ ins y.id
  in-reached y j = holds-filter ins y.id (numbers bs) ∙ ap (λ t. t && ins y.id) (held-same y.id bs ∙ in-has y bs j)

  in-beside : (y : Node) → In y bs → holds y.id beside ≡ is_beside bs c.id b.id y.id
  in-beside y j = holds-filter (is_beside bs c.id b.id) y.id (numbers bs) ∙ ap (λ t. t && is_beside bs c.id b.id y.id) (held-same y.id bs ∙ in-has y bs j)

  new-ids : (t : ℕ → Bool) (z : ℕ) → has_box bs z ≡ false → holds z (filter t (numbers bs)) ≡ false
  new-ids t z h = holds-filter t z (numbers bs) ∙ ap (λ k. k && t z) (held-same z bs ∙ h)

  not-c : (y : Node) → ins y.id ≡ false → (y.id == c.id) ≡ false
  not-c y h = elim (cases_Bool (y.id == c.id)) [ inr e ↦ e | inl e ↦ absurd (clash (ins c.id) ins-c (ap ins (sym (eqb-true y.id c.id e)) ∙ h)) ]

  stays : (y : Node) → holds y.id reached ≡ false → holds y.id beside ≡ false → (y.id == c.id) ≡ false → put y ≡ y
  stays y h k e =
      ap (λ (t : Bool). distinct_put (put_in beside ri.id shifted (cond t (put_cells rp.id masked y) y))) h
      ∙ ap (λ (t : Bool). distinct_put (cond t (put_cells ri.id shifted y) y)) k
      ∙ ap (λ (t : Bool). cond t (with_distinct (unpermitted c.parts.distinct) y) y) e

  put-b : put b ≡ b
  put-b = stays b (in-reached b in-b ∙ out) (in-beside b in-b ∙ ap (λ t. not t && not (ins b.id)) (eq-itself b.id)) (not-c b out)
    where
      out : ins b.id ≡ false
      out = region.ins-b xs ys g0.root w b s c rp ri x m

  put-d : put d' ≡ d'
  put-d = stays d' (new-ids ins x.d m.new_d) (new-ids (is_beside bs c.id b.id) x.d m.new_d) (eq-false-sym c.id x.d (region.old-d xs ys g0.root w b s c rp ri x m c.id (in-has c bs in-c)))

  put-m : put m' ≡ m'
  put-m = stays m' (new-ids ins x.m m.new_m) (new-ids (is_beside bs c.id b.id) x.m m.new_m) (eq-false-sym c.id x.m (region.old-m xs ys g0.root w b s c rp ri x m c.id (in-has c bs in-c)))

  put-in : (y : Node) → In y bs → (y.id == b.id) ≡ false → ins y.id ≡ true → put y ≡ fed y
  put-in y j e t =
      ap (λ (z : Bool). distinct_put (put_in beside ri.id shifted (cond z (put_cells rp.id masked y) y))) (in-reached y j ∙ t)
      ∙ ap (λ (z : Bool). distinct_put (cond z (put_cells ri.id shifted (put_cells rp.id masked y)) (put_cells rp.id masked y))) (in-beside y j ∙ ap₂ (λ (k l : Bool). not k && not l) e t)
      ∙ elim (cases_Bool (y.id == c.id)) [
        | inl k ↦ (
            let same : y ≡ c = same-box bs y c w.ordered j in-c (eqb-true y.id c.id k) in
            ap (λ (z : Bool). cond z (with_distinct (unpermitted c.parts.distinct) (put_cells rp.id masked y)) (put_cells rp.id masked y)) k
            ∙ ap (λ (z : Node). with_distinct (unpermitted z.parts.distinct) (put_cells rp.id masked y)) (sym same)
            ∙ sym (ap (λ (z : Bool). with_distinct (cond z (unpermitted y.parts.distinct) y.parts.distinct) (put_node rp.id masked y)) k))
        | inr k ↦ ap (λ (z : Bool). cond z (with_distinct (unpermitted c.parts.distinct) (put_cells rp.id masked y)) (put_cells rp.id masked y)) k
            ∙ sym (ap (λ (z : Bool). with_distinct (cond z (unpermitted y.parts.distinct) y.parts.distinct) (put_node rp.id masked y)) k)
      ]
      ∙ sym (region.g-in xs ys g0.root w b s c rp ri x m y e t)

  put-beside : (y : Node) → In y bs → (y.id == b.id) ≡ false → ins y.id ≡ false → put y ≡ fed y
  put-beside y j e t =
      ap (λ (z : Bool). distinct_put (put_in beside ri.id shifted (cond z (put_cells rp.id masked y) y))) (in-reached y j ∙ t)
      ∙ ap (λ (z : Bool). distinct_put (cond z (put_cells ri.id shifted y) y)) (in-beside y j ∙ ap₂ (λ (k l : Bool). not k && not l) e t)
      ∙ ap (λ (z : Bool). cond z (with_distinct (unpermitted c.parts.distinct) (put_cells ri.id shifted y)) (put_cells ri.id shifted y)) (not-c y t)
      ∙ sym (region.g-out xs ys g0.root w b s c rp ri x m y e t)

  put-other : (y : Node) → In y bs → (y.id == b.id) ≡ false → put y ≡ fed y
  put-other y j e = elim (cases_Bool (ins y.id)) [ inl t ↦ put-in y j e t | inr t ↦ put-beside y j e t ]

  put-all : map put boxes1 ≡ map fed above ++ b ∷ (d' ∷ (m' ∷ map fed ys))
  put-all =
      map-append put above (b ∷ (d' ∷ (m' ∷ ys)))
      ∙ ap₂ (λ (z l : List Node). z ++ l)
      (others put fed above (λ y j. put-other y (in-above y j) (any-none (is_box b.id) y above once.0 j)))
      (ap₂ (λ (z : Node) (l : List Node). z ∷ l) put-b (ap₂ (λ (z : Node) (l : List Node). z ∷ l) put-d (ap₂ (λ (z : Node) (l : List Node). z ∷ l) put-m (others put fed ys (λ y j. put-other y (in-ys y j) (any-none (is_box b.id) y ys once.1 j))))))

  -- ---- the owner

  no-owner : list_any (owns ri.id) above ≡ false
  no-owner = any-not (owns ri.id) above (λ y j. elim (cases_Bool (owns ri.id y)) [
    | inr e ↦ e
    | inl e ↦ absurd (
        let same : y ≡ b = one-owner bs g0.root w ri.id y b (in-above y j) in-b e (region.own xs ys g0.root w b s c rp ri x m b ri m.owned_i) in
        clash (is_box b.id y) (ap (λ (z : Node). z.id == b.id) same ∙ eq-itself b.id) (any-none (is_box b.id) y above once.0 j))
  ])

  abbrev own_conds : Conjuncts
  own_conds = fed_conjuncts ri n (joins named rp.id ri.id 1 1 wd) b.parts.conds

  abbrev own_head : List Term
  own_head = fed_cells ri n (joins named rp.id ri.id 1 1 wd) b.parts.head

  abbrev redirected : Node → Node
  redirected = on_quant ri.id (λ (r : OwnedQuant). record r { over = x.d })

  same-above : map fed above ≡ map put above
  same-above = sym (others put fed above (λ y j. put-other y (in-above y j) (any-none (is_box b.id) y above once.0 j)))

  owner-put : redirect ri.id x.d (put_terms b.id own_conds own_head (with_boxes (map fed above ++ b ∷ (d' ∷ (m' ∷ map fed ys))))) ≡ with_boxes (fed_boxes xs ys b s c rp ri x)
  owner-put = ap with_boxes (
      ap (change (owns ri.id) redirected) (change-here (is_box b.id) (with_terms own_conds own_head) (map fed above) b (d' ∷ (m' ∷ map fed ys)) (has-map fed fed-id above b.id ∙ once.0) (eq-itself b.id))
      ∙ change-here (owns ri.id) redirected (map fed above) (with_terms own_conds own_head b) (d' ∷ (m' ∷ map fed ys)) (ap (list_any (owns ri.id)) same-above ∙ owns-map put put-quants ri.id above ∙ no-owner) (region.own xs ys g0.root w b s c rp ri x m b ri m.owned_i)
      ∙ ap (λ (z : Node). map fed above ++ z ∷ (d' ∷ (m' ∷ map fed ys))) (sym (region.g-b xs ys g0.root w b s c rp ri x m b (eq-itself b.id)))
      ∙ sym (spread fed above b (d' ∷ (m' ∷ map fed ys))))

  pub filled : fill_edits (with_boxes bs) b.id s.id rp.id ri x ≡ with_boxes (fed_boxes xs ys b s c rp ri x)
  filled =
      read
      ∙ ap (λ (z : QueryGraph). redirect ri.id x.d (put_terms b.id own_conds own_head (set_distinct c.id (unpermitted c.parts.distinct) (put_each beside ri.id shifted (put_each reached rp.id masked (with_fed b.id c.id x fed_head z)))))) magic-put
      ∙ ap (λ (z : QueryGraph). redirect ri.id x.d (put_terms b.id own_conds own_head (set_distinct c.id (unpermitted c.parts.distinct) (put_each beside ri.id shifted (put_each reached rp.id masked z))))) fed-put
      ∙ ap (λ (z : QueryGraph). redirect ri.id x.d (put_terms b.id own_conds own_head z)) (put-is ∙ ap with_boxes put-all)
      ∙ owner-put
