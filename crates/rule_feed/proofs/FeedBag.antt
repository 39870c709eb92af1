-- Feeding keeps the bags of boxes that the fed box doesn't reach.
use Rattle.std.proofs.Common.{ℕ, zero, suc, ◌==◌, ◌≡◌, ◌&&◌, ◌≤◌, cond, Bool, true, false, List, [], ◌∷◌, ◌++◌, map, length, Option, Some, None, refl, sym, ap, ap₂, subst, ◌∙◌, eqb-true, ◌⊎◌, inl, inr, arith}
use Rattle.std.specs.List.{list_all, list_any}
use Rattle.std.proofs.lemmas.Bool.{and_from, and_parts, cases_Bool, eq-eqb, or_cases, or_parts}
use mathlib.Core.Path.{fun_ext}
use Rattle.row_bag.specs.AsSets.{stands}
use Rattle.row_bag.specs.Bags.{Alike, bind, keep, row, unit}
use Rattle.row_bag.specs.Order.{cell_of}
use Rattle.row_bag.specs.Sets.{distinct, once, same_cells}
use Rattle.row_bag.specs.Tags.{led}
use Rattle.row_bag.specs.Verdict.{is_there}
use Rattle.row_bag.specs.declared.tables.Table.{Table}
use Rattle.row_bag.proofs.Agreement.{alike-bind, alike-refl, alike-same, alike-trans}
use Rattle.row_bag.proofs.Binds.{keep-yes}
use Rattle.row_bag.proofs.Counts.{agree-from_alike, alike-from_agree}
use Rattle.row_bag.proofs.Deciding.{clean-bind}
use Rattle.row_bag.proofs.Setting.{set-agreement}
use Rattle.row_bag.proofs.TupleBags.{same_cells-decides}
use Rattle.sql_value.specs.declared.cell.Cell.{Cell}
use Rattle.qgm_core.specs.Boxes.{ids_of, Ordered, has_box, is_quant, overs_in, owns, width}
use Rattle.qgm_core.specs.Edits.{range}
use Rattle.qgm_core.specs.Kinds.{is_F, is_enforce}
use Rattle.list_laws.specs.Lists.{In, first, times}
use Rattle.qgm_core.specs.declared.kinds.QuantKind.TheVariants.{F}
use Rattle.qgm_core.specs.declared.node.Node.{Node}
use Rattle.qgm_core.specs.declared.owned.OwnedQuant.{OwnedQuant}
use Rattle.qgm_meaning.specs.Laws.{AgreesBack, Stays}
use Rattle.qgm_meaning.specs.Meaning.{Family, bag_in, given_by, nothing, once_if, over_each, quant_rows, rows_by, rows_found, rows_of}
use Rattle.qgm_meaning.specs.Ranks.{SameUnder}
use Rattle.qgm_meaning.specs.Satisfies.{Satisfies}
use Rattle.qgm_meaning.specs.Scope.{introduces, loose, put_node, read_by}
use Rattle.qgm_meaning.specs.Searches.{bare}
use Rattle.qgm_meaning.specs.Tags.{columns_from}
use Rattle.qgm_meaning.specs.Values.{Bag, Environment, all_true, bound, head_cells, row_of, value}
use Rattle.qgm_meaning.specs.Widths.{Filled, Wide}
use Rattle.qgm_meaning.proofs.Alikes.{once_if-alike, only-alike}
use Rattle.qgm_meaning.proofs.Fed.{fed-rows}
use Rattle.qgm_meaning.proofs.Frames.{bag-framed}
use Rattle.qgm_meaning.proofs.Joined.{unread}
use Rattle.qgm_meaning.proofs.Unfold.{rows-local}
use Rattle.qgm_terms.specs.Substitution.{cell_at}
use Rattle.qgm_terms.specs.Terms.{Cond, Term, null_int}
use Rattle.qgm_terms.specs.Wanted.{reads, reads_cond}
use Rattle.qgm_edit_laws.specs.Graph.{Sound, binds_row, reads_in}
use Rattle.qgm_edit_laws.proofs.Compact.{Drops, has-kept, in-kept, kept, ordered-kept}
use Rattle.qgm_edit_laws.proofs.Edits.{split-once}
use Rattle.qgm_edit_laws.proofs.Interposed.{over_now, turned, turned-each}
use Rattle.qgm_edit_laws.proofs.PutRead.{Rowed, found-put, rows-put}
use Rattle.qgm_edit_laws.proofs.Ranks.{same-box}
use Rattle.qgm_edit_laws.proofs.Scope.{bound-owned, one-owner, only-bag, unfold-bag}
use Rattle.qgm_edit_laws.proofs.Scoped.{scoped-of}
use Rattle.qgm_edit_laws.proofs.Turns.{first-own, split-in}
use Rattle.qgm_edit_laws.proofs.Widths.{wide}
use Rattle.qgm_edit_laws.proofs.ShapePut.{bare-cell}
use Rattle.rule_feed.specs.Feed.{Numbers, all_of, fed_below, fed_box, fed_boxes, fed_cond, fed_node, fed_owner, fed_term, how_many, inside, joins, magic_box, mask_cells, named_below, new_fed, new_magic, picked, picks, put_cells, unpermitted}
use Rattle.rule_feed.specs.FeedLaws.{FeedsOne}
use Rattle.rule_feed.proofs.FeedCells.{Beside}
use Rattle.rule_feed.proofs.FeedRows.{Tail}
use Rattle.rule_feed.proofs.FeedPicks.{Frees, head-mask, head-picked, head-put, length-picks, masked, spread, spread-again}
use Rattle.qgm_edit_laws.proofs.Unchanged.{same-node}
use Rattle.rule_feed.proofs.FeedLists.{bare-columns, bare-mask, bare-put, distinct-rows, frees-picks, get-mapped, mask-cell, still-enforced, wide-distinct, wide-from, wide-image}
use Rattle.rule_feed.proofs.FeedRegion as region
use Rattle.qgm_core.proofs.Reaching.{in-has, overs-held}
use Rattle.list_laws.proofs.Counting.{times-in}
use Rattle.list_laws.proofs.Membership.{any-from, any-in, eq-false-sym, eq-itself, in-append, in-left, in-map, in-right}
use Rattle.list_laws.proofs.Booleans.{clash}

module _ (xs ys : List Node) (root : ℕ) (w : Sound (xs ++ ys) root) (b s c : Node) (rp ri : OwnedQuant) (x : Numbers) (m : FeedsOne xs ys root b s c rp ri x) where
  abbrev pub bs : List Node
  bs = xs ++ ys

  abbrev pub p : ℕ
  p = rp.id

  abbrev pub i : ℕ
  i = ri.id

  abbrev pub named : ℕ → Bool
  named = named_below (xs ++ ys) c.id rp.id

  abbrev pub ins : ℕ → Bool
  ins = inside (xs ++ ys) c.id

  abbrev pub wd : ℕ
  wd = width s

  abbrev pub n : ℕ
  n = how_many (named_below (xs ++ ys) c.id rp.id) 1 (width s)

  abbrev pub v : ℕ
  v = width c

  abbrev pub g : Node → Node
  g = fed_node (xs ++ ys) b s c rp ri x

  apart-ids : (i == p) ≡ false
  apart-ids = region.apart-ids xs ys root w b s c rp ri x m

  drops : Drops ins bs c.id
  drops = region.drops xs ys root w b s c rp ri x m

  few : (y : Node) (q : ℕ) → In y bs → times q (ids_of y) ≤ 1
  few = region.few xs ys root w b s c rp ri x m

  g-b : (y : Node) → (y.id == b.id) ≡ true → g y ≡ fed_owner named p ri x.d wd y
  g-b = region.g-b xs ys root w b s c rp ri x m

  g-id : (y : Node) → (g y).id ≡ y.id
  g-id = region.g-id xs ys root w b s c rp ri x m

  g-in : (y : Node) → (y.id == b.id) ≡ false → ins y.id ≡ true → g y ≡ fed_below named c.id p x.dm wd y
  g-in = region.g-in xs ys root w b s c rp ri x m

  g-out : (y : Node) → (y.id == b.id) ≡ false → ins y.id ≡ false → g y ≡ put_node i (columns_from i (suc n) v) y
  g-out = region.g-out xs ys root w b s c rp ri x m

  in-b : In b (xs ++ ys)
  in-b = region.in-b xs ys root w b s c rp ri x m

  in-c : In c (xs ++ ys)
  in-c = region.in-c xs ys root w b s c rp ri x m

  in-s : In s (xs ++ ys)
  in-s = region.in-s xs ys root w b s c rp ri x m

  ins-b : ins b.id ≡ false
  ins-b = region.ins-b xs ys root w b s c rp ri x m

  introduced-own : (y : Node) → In y bs → (q : ℕ) → introduces y q ≡ true → owns q y ≡ true
  introduced-own = region.introduced-own xs ys root w b s c rp ri x m

  not-new : (q : ℕ) → list_any (owns q) bs ≡ false → (y : Node) → In y bs → (z : ℕ) → owns z y ≡ true → (z == q) ≡ false
  not-new = region.not-new xs ys root w b s c rp ri x m

  old-d : (z : ℕ) → has_box bs z ≡ true → (z == x.d) ≡ false
  old-d = region.old-d xs ys root w b s c rp ri x m

  old-m : (z : ℕ) → has_box bs z ≡ true → (z == x.m) ≡ false
  old-m = region.old-m xs ys root w b s c rp ri x m

  out-closed : (y : Node) (r : OwnedQuant) → In y bs → In r y.quants → ins y.id ≡ false → ((y ≡ b) → (r.id == i) ≡ false) → ins r.over ≡ true → (q : ℕ) → loose bs r.over q ≡ false
  out-closed = region.out-closed xs ys root w b s c rp ri x m

  own : (y : Node) (r : OwnedQuant) → In r y.quants → owns r.id y ≡ true
  own = region.own xs ys root w b s c rp ri x m

  owned-out : (q : ℕ) → owns q b ≡ true → (y : Node) → In y bs → ins y.id ≡ true → owns q y ≡ false
  owned-out = region.owned-out xs ys root w b s c rp ri x m

  used-c : times c.id (overs_in bs) ≡ 1
  used-c = region.used-c xs ys root w b s c rp ri x m

  module _ (tables : List Table) (sat : Satisfies tables (xs ++ ys)) (fill : Filled tables (xs ++ ys)) where
    abbrev pub f : Family
    f = bag_in tables (xs ++ ys)

    abbrev pub rows_s : Bag
    rows_s = bag_in tables (xs ++ ys) s.id []

    abbrev pub tags : Bag
    tags = bind (bag_in tables (xs ++ ys) s.id []) (λ row. unit (picks (named_below (xs ++ ys) c.id rp.id) row 1 (width s)))

    -- the rows of the magic box, and those of c where p has these columns
    abbrev pub M : Bag
    M = distinct same_cells tags

    abbrev pub C : List Cell → Bag
    C tag = bag_in tables (xs ++ ys) c.id (bound rp.id (spread (named_below (xs ++ ys) c.id rp.id) tag 1 1 (width s)) [])

    abbrev pub V : Environment → List Cell
    V e = head_cells nothing (put_cells (named_below (xs ++ ys) c.id rp.id) x.dm 1 1 (width s)) e

    abbrev pub U : Environment → List Cell
    U e = head_cells nothing (columns_from ri.id (suc n) (width c)) e

    -- what the boxes give after
    abbrev pub G : Family
    G z e = cond (z == x.d) (led M C) (cond (z == x.m) M (cond (ins z) (f z (bound p (V e) e)) (f z (bound i (U e) e))))

    pub G-in : (z : ℕ) → has_box bs z ≡ true → ins z ≡ true → (e : Environment) → G z e ≡ f z (bound p (V e) e)
    G-in z h t e =
        ap (λ (k : Bool). cond k (led M C) (cond (z == x.m) M (cond (ins z) (f z (bound p (V e) e)) (f z (bound i (U e) e))))) (old-d z h)
        ∙ ap (λ (k : Bool). cond k M (cond (ins z) (f z (bound p (V e) e)) (f z (bound i (U e) e)))) (old-m z h)
        ∙ ap (λ (k : Bool). cond k (f z (bound p (V e) e)) (f z (bound i (U e) e))) t

    pub G-out : (z : ℕ) → has_box bs z ≡ true → ins z ≡ false → (e : Environment) → G z e ≡ f z (bound i (U e) e)
    G-out z h t e =
        ap (λ (k : Bool). cond k (led M C) (cond (z == x.m) M (cond (ins z) (f z (bound p (V e) e)) (f z (bound i (U e) e))))) (old-d z h)
        ∙ ap (λ (k : Bool). cond k M (cond (ins z) (f z (bound p (V e) e)) (f z (bound i (U e) e)))) (old-m z h)
        ∙ ap (λ (k : Bool). cond k (f z (bound p (V e) e)) (f z (bound i (U e) e))) t

    pub G-d : (e : Environment) → G x.d e ≡ led M C
    G-d e = ap (λ (k : Bool). cond k (led M C) (cond (x.d == x.m) M (cond (ins x.d) (f x.d (bound p (V e) e)) (f x.d (bound i (U e) e))))) (eq-itself x.d)

    pub G-m : (e : Environment) → G x.m e ≡ M
    G-m e =
        ap (λ (k : Bool). cond k (led M C) (cond (x.m == x.m) M (cond (ins x.m) (f x.m (bound p (V e) e)) (f x.m (bound i (U e) e))))) m.apart
        ∙ ap (λ (k : Bool). cond k M (cond (ins x.m) (f x.m (bound p (V e) e)) (f x.m (bound i (U e) e)))) (eq-itself x.m)

    -- what isn't looked up may be bound
    pub still : (z q : ℕ) (row : List Cell) (e : Environment) → loose bs z q ≡ false → f z (bound q row e) ≡ f z e
    still z q row e h = sym (bag-framed tables bs z e (bound q row e) (unread (loose bs z) q row e h))

    -- a box that looks neither i nor p up
    pub G-still : (z : ℕ) → has_box bs z ≡ true → loose bs z p ≡ false → loose bs z i ≡ false → (e : Environment) → G z e ≡ f z e
    G-still z h np ni e = elim (cases_Bool (ins z)) [ inl t ↦ G-in z h t e ∙ still z p (V e) e np | inr t ↦ G-out z h t e ∙ still z i (U e) e ni ]

    pub closed-s : (e : Environment) → f s.id e ≡ rows_s
    closed-s e = bag-framed tables bs s.id e [] (record { rows = λ q h. absurd (clash (loose bs s.id q) h (m.closed q)) })

    -- ---- boxes that c reaches: cells put in for columns of p

    module _ (cells : List Term) (touch : ℕ → Bool) (row : Environment → List Cell) (all-bare : list_all bare cells ≡ true) (is : (rows : ℕ → Bag) (e : Environment) → head_cells rows cells e ≡ row e)
        (q : ℕ) (untouched : (r : ℕ) (cs : List Cell) (e : Environment) → touch r ≡ false → row (bound r cs e) ≡ row e) where
      cell-is : (rows : ℕ → Bag) (k : ℕ) (d : Environment) → bare (cell_at k cells) ≡ true → value rows (cell_at k cells) d ≡ cell_of k (row d)
      cell-is rows k d h = get-mapped (λ y. value rows y d) (null_int ∷ cells) k null_int ∙ ap (cell_of k) (is rows d)

      -- what a box gives over others with cells put in, where it doesn't own q and introduces nothing that the cells touch
      pub put-in : (y : Node) → In y bs → owns q y ≡ false → ((z : ℕ) → introduces y z ≡ true → ((z == q) ≡ false) × (touch z ≡ false)) → (e : Environment)
          → rows_of tables (put_node q cells y) (λ z e. f z (bound q (row e) e)) e ≡ f y.id (bound q (row e) e)
      put-in y j o u e =
          rows-put q cells row touch untouched cell-is tables y.parts.kind y (quant_rows y (λ z e. f z (bound q (row e) e))) (quant_rows y f)
          (λ z. found-put q cells row touch untouched cell-is (first (is_quant z) y.quants) (λ z e. f z (bound q (row e) e)) f given) o u (λ k h. bare-cell cells k all-bare) e (bound q (row e) e) rowed
          ∙ sym (unfold-bag tables bs y w.ordered j (bound q (row e) e))
        where
          rowed : Rowed q cells row touch untouched cell-is e (bound q (row e) e)
          rowed = record {
            others = λ z k. sym (ap (λ (t : Bool). cond t (row e) (row_of z e)) (eq-false-sym z q k));
            own = ap (λ (t : Bool). cond t (row e) (row_of q e)) (eq-itself q);
          }

          given : (z : ℕ) (d k : Environment) → Rowed q cells row touch untouched cell-is d k → f z (bound q (row d) d) ≡ f z k
          given z d k h = bag-framed tables bs z (bound q (row d) d) k (record { rows = λ a t. step a (cases_Bool (q == a)) })
            where
              step : (a : ℕ) → ((q == a) ≡ true) ⊎ ((q == a) ≡ false) → cond (q == a) (row d) (row_of a d) ≡ row_of a k
              step a (inl t) = ap (λ (z : Bool). cond z (row d) (row_of a d)) t ∙ sym h.own ∙ ap (λ z. row_of z k) (eqb-true q a t)
              step a (inr t) = ap (λ (z : Bool). cond z (row d) (row_of a d)) t ∙ h.others a (eq-false-sym q a t)

    -- ---- the columns of p that aren't named don't matter

    abbrev masks : Environment → List Cell
    masks e = masked named (row_of p e) 1 wd

    mask-still : (r : ℕ) (cs : List Cell) (e : Environment) → (r == p) ≡ false → masks (bound r cs e) ≡ masks e
    mask-still r cs e h = ap (λ (t : Bool). masked named (cond t cs (row_of p e)) 1 wd) h

    unmasked : (y : Node) → In y bs → ins y.id ≡ true → put_node p (mask_cells named p 1 wd) y ≡ y
    unmasked y j t = same-node p (mask_cells named p 1 wd) y (λ k h. (
        let fit = w.fits y j p k h b rp s in-b m.owned_p refl in-s (sym m.over_s) in
        mask-cell named p wd k fit.0 fit.1 (any-from (λ y. ins y.id && reads_in p k y) y bs j (and_from (ins y.id) (reads_in p k y) t h))))

    pub masked-in : (z : ℕ) → has_box bs z ≡ true → ins z ≡ true → (e : Environment) → f z e ≡ f z (bound p (masks e) e)
    masked-in z h t e =
        sym (only-bag tables f (kept ins bs) ord (λ y j e. sym (unfold-bag tables bs y w.ordered (in-kept ins y bs j).0 e)) z (has-kept ins bs z h t) e)
        ∙ only-bag tables (λ z e. f z (bound p (masks e) e)) (kept ins bs) ord back z (has-kept ins bs z h t) e
      where
        ord : Ordered (kept ins bs)
        ord = ordered-kept ins bs w.ordered drops.closed

        back : (y : Node) → In y (kept ins bs) → (e : Environment) → rows_of tables y (λ z e. f z (bound p (masks e) e)) e ≡ f y.id (bound p (masks e) e)
        back y j e =
            let k = in-kept ins y bs j in
            let o = owned-out p (own b rp m.owned_p) y k.0 k.1 in
            ap (λ (z : Node). rows_of tables z (λ z e. f z (bound p (masks e) e)) e) (sym (unmasked y k.0 k.1))
            ∙ put-in (mask_cells named p 1 wd) (λ r. r == p) masks (bare-mask named p wd 1) (λ rows e. head-mask named rows p e wd 1) p mask-still y k.0 o
            (λ q h. (let a = not-p y k.0 o q (introduced-own y k.0 q h) in (a, a))) e
          where
            not-p : (y : Node) → In y bs → owns p y ≡ false → (q : ℕ) → owns q y ≡ true → (q == p) ≡ false
            not-p y j o q u = elim (cases_Bool (q == p)) [ inr g ↦ g | inl g ↦ absurd (clash (owns p y) (subst (λ z. owns z y ≡ true) (eqb-true q p g) u) o) ]

    -- so the rows of c are those where p has its named columns
    pub c-rows : (e : Environment) → f c.id e ≡ C (picks named (row_of p e) 1 wd)
    c-rows e =
        masked-in c.id (in-has c bs in-c) drops.root_kept e
        ∙ bag-framed tables bs c.id (bound p (masks e) e) (bound p (spread named (picks named (row_of p e) 1 wd) 1 1 wd) []) (record { rows = λ q h. at q (m.alone q h) })
      where
        at : (q : ℕ) → q ≡ p → row_of q (bound p (masks e) e) ≡ row_of q (bound p (spread named (picks named (row_of p e) 1 wd) 1 1 wd) [])
        at q h =
            ap (λ z. row_of z (bound p (masks e) e)) h ∙ ap (λ (t : Bool). cond t (masks e) (row_of p e)) (eq-itself p) ∙ sym (spread-again named (row_of p e) wd)
            ∙ sym (ap (λ z. row_of z (bound p (spread named (picks named (row_of p e) 1 wd) 1 1 wd) [])) h ∙ ap (λ (t : Bool). cond t (spread named (picks named (row_of p e) 1 wd) 1 1 wd) []) (eq-itself p))

    V-is : (rows : ℕ → Bag) (e : Environment) → head_cells rows (put_cells named x.dm 1 1 wd) e ≡ V e
    V-is rows e = head-put named rows x.dm e wd 1 1 ∙ sym (head-put named nothing x.dm e wd 1 1)

    V-still : (r : ℕ) (cs : List Cell) (e : Environment) → (r == x.dm) ≡ false → V (bound r cs e) ≡ V e
    V-still r cs e h =
        head-put named nothing x.dm (bound r cs e) wd 1 1 ∙ ap (λ (t : Bool). spread named (cond t cs (row_of x.dm e)) 1 1 wd) h ∙ sym (head-put named nothing x.dm e wd 1 1)

    -- boxes that c reaches
    pub below-back : (y : Node) → In y bs → ins y.id ≡ true → (e : Environment) → rows_of tables (fed_below named c.id p x.dm wd y) G e ≡ G y.id e
    below-back y j t e =
        ap (λ (g : Environment → Bag). g e) (distinct-rows tables y.parts.kind (cond (y.id == c.id) (unpermitted y.parts.distinct) y.parts.distinct) (put_node p (put_cells named x.dm 1 1 wd) y) (quant_rows y G) enforced)
        ∙ ap (λ (g : Environment → Bag). g e) (rows-local tables (put_node p (put_cells named x.dm 1 1 wd) y) G (λ z e. f z (bound p (V e) e)) (same y.quants (λ r k. k)))
        ∙ put-in (put_cells named x.dm 1 1 wd) (λ r. r == x.dm) V (bare-put named x.dm wd 1 1) V-is p V-still y j (owned-out p (own b rp m.owned_p) y j t)
        (λ q h. (let o = introduced-own y j q h in (apart q o, not-new x.dm m.new_dm y j q o))) e
        ∙ sym (G-in y.id (in-has y bs j) t e)
      where
        enforced : is_enforce (cond (y.id == c.id) (unpermitted y.parts.distinct) y.parts.distinct) ≡ is_enforce y.parts.distinct
        enforced = elim (y.id == c.id) as (λ k. is_enforce (cond k (unpermitted y.parts.distinct) y.parts.distinct) ≡ is_enforce y.parts.distinct) [ true ↦ still-enforced y.parts.distinct | false ↦ refl ]

        apart : (q : ℕ) → owns q y ≡ true → (q == p) ≡ false
        apart q o = elim (cases_Bool (q == p)) [ inr g ↦ g | inl g ↦ absurd (clash (owns p y) (subst (λ z. owns z y ≡ true) (eqb-true q p g) o) (owned-out p (own b rp m.owned_p) y j t)) ]

        same : (rs : List OwnedQuant) → ((r : OwnedQuant) → In r rs → In r y.quants) → SameUnder rs G (λ z e. f z (bound p (V e) e))
        same [] sub = tt
        same (r ∷ rs) sub = (
          fun_ext (λ e. G-in r.over (overs-held bs y r w.ordered j (sub r (inl refl))) (drops.closed y r j t (sub r (inl refl))) e),
          same rs (λ z k. sub z (inr k)),
        )

    -- ---- other boxes: columns of i go up

    U-is : (rows : ℕ → Bag) (e : Environment) → head_cells rows (columns_from i (suc n) v) e ≡ U e
    U-is rows e = columns-any rows nothing i e v (suc n)
      where
        columns-any : (r q : ℕ → Bag) (i : ℕ) (e : Environment) (v k : ℕ) → head_cells r (columns_from i k v) e ≡ head_cells q (columns_from i k v) e
        columns-any r q i e zero k = refl
        columns-any r q i e (suc v) k = ap (λ (cs : List Cell). cell_of k (row_of i e) ∷ cs) (columns-any r q i e v (suc k))

    U-still : (r : ℕ) (cs : List Cell) (e : Environment) → (r == i) ≡ false → U (bound r cs e) ≡ U e
    U-still r cs e h = columns-still v (suc n)
      where
        columns-still : (v k : ℕ) → head_cells nothing (columns_from i k v) (bound r cs e) ≡ head_cells nothing (columns_from i k v) e
        columns-still zero k = refl
        columns-still (suc v) k = ap₂ (λ (c : Cell) (cs : List Cell). c ∷ cs) (ap (λ (t : Bool). cell_of k (cond t cs (row_of i e))) h) (columns-still v (suc k))

    pub other-back : (y : Node) → In y bs → ins y.id ≡ false → (y.id == b.id) ≡ false → (e : Environment) → rows_of tables (put_node i (columns_from i (suc n) v) y) G e ≡ G y.id e
    other-back y j out nob e =
        ap (λ (g : Environment → Bag). g e) (rows-local tables (put_node i (columns_from i (suc n) v) y) G (λ z e. f z (bound i (U e) e)) (same y.quants (λ r k. k)))
        ∙ put-in (columns_from i (suc n) v) (λ r. r == i) U (bare-columns i v (suc n)) U-is i U-still y j not-own (λ q h. (let a = apart q (introduced-own y j q h) in (a, a))) e
        ∙ sym (G-out y.id (in-has y bs j) out e)
      where
        not-own : owns i y ≡ false
        not-own = elim (cases_Bool (owns i y)) [
          | inr g ↦ g
          | inl g ↦ absurd (clash (y.id == b.id) (eq-eqb y.id b.id (ap (λ (z : Node). z.id) (one-owner bs root w i y b j in-b g (own b ri m.owned_i)))) nob)
        ]

        apart : (q : ℕ) → owns q y ≡ true → (q == i) ≡ false
        apart q o = elim (cases_Bool (q == i)) [ inr g ↦ g | inl g ↦ absurd (clash (owns i y) (subst (λ z. owns z y ≡ true) (eqb-true q i g) o) not-own) ]

        same : (rs : List OwnedQuant) → ((r : OwnedQuant) → In r rs → In r y.quants) → SameUnder rs G (λ z e. f z (bound i (U e) e))
        same [] sub = tt
        same (r ∷ rs) sub = (
          fun_ext (λ e. (
              let h = overs-held bs y r w.ordered j (sub r (inl refl)) in
              elim (cases_Bool (ins r.over)) [
                | inr t ↦ G-out r.over h t e
                | inl t ↦ (
                    let none = out-closed y r j (sub r (inl refl)) out (λ z. absurd (clash (y.id == b.id) (eq-eqb y.id b.id (ap (λ (z : Node). z.id) z)) nob)) t in
                    G-in r.over h t e ∙ still r.over p (V e) e (none p) ∙ sym (still r.over i (U e) e (none i)))
              ])),
          same rs (λ z k. sub z (inr k)),
        )

    -- ---- the magic box, and the fed one

    found-one : (q : ℕ) (r : OwnedQuant) (rs : List OwnedQuant) → (r.id == q) ≡ true → first (is_quant q) (r ∷ rs) ≡ Some r
    found-one q r rs h = ap (λ (t : Bool). cond t (Some r) (first (is_quant q) rs)) h

    pub magic-back : (e : Environment) → rows_of tables (magic_box named x.m x.mq s.id wd) G e ≡ G x.m e
    magic-back e =
        ap (λ (rows : Bag). distinct same_cells (bind rows (λ cells. given_by (quant_rows (magic_box named x.m x.mq s.id wd) G) (magic_box named x.m x.mq s.id wd) (bound x.mq cells e))))
        (ap (λ (o : Option OwnedQuant). rows_found o G e) (found-one x.mq (range x.mq F s.id) [] (eq-itself x.mq)) ∙ G-s)
        ∙ ap (λ (g : List Cell → Bag). distinct same_cells (bind rows_s g)) (fun_ext (λ cells.
        keep-yes (unit (head_cells (λ q. quant_rows (magic_box named x.m x.mq s.id wd) G q (bound x.mq cells e)) (picked named x.mq 1 wd) (bound x.mq cells e)))
        ∙ ap (λ (cs : List Cell). unit cs) (head-picked named (λ q. quant_rows (magic_box named x.m x.mq s.id wd) G q (bound x.mq cells e)) x.mq (bound x.mq cells e) wd 1
        ∙ ap (λ (t : Bool). picks named (cond t cells (row_of x.mq e)) 1 wd) (eq-itself x.mq))))
        ∙ sym (G-m e)
      where
        G-s : G s.id e ≡ rows_s
        G-s = G-still s.id (in-has s bs in-s) (m.closed p) (m.closed i) e ∙ closed-s e

    wide-M : Wide n M
    wide-M = wide-distinct n tags (wide-image n rows_s (λ row. picks named row 1 wd) (λ row. length-picks named row wd 1))

    pub wide-c : (e : Environment) → Wide v (f c.id e)
    wide-c e = wide-from v (f c.id e) (λ r j. wide bs root w tables fill c in-c e r j)

    G-c : (tag : List Cell) (e : Environment) → G c.id (bound x.dm tag e) ≡ C tag
    G-c tag e =
        G-in c.id (in-has c bs in-c) drops.root_kept (bound x.dm tag e)
        ∙ bag-framed tables bs c.id (bound p (V (bound x.dm tag e)) (bound x.dm tag e)) (bound p (spread named tag 1 1 wd) []) (record { rows = λ q h. at q (m.alone q h) })
      where
        at : (q : ℕ) → q ≡ p → row_of q (bound p (V (bound x.dm tag e)) (bound x.dm tag e)) ≡ row_of q (bound p (spread named tag 1 1 wd) [])
        at q h =
            ap (λ z. row_of z (bound p (V (bound x.dm tag e)) (bound x.dm tag e))) h ∙ ap (λ (t : Bool). cond t (V (bound x.dm tag e)) (row_of p (bound x.dm tag e))) (eq-itself p)
            ∙ head-put named nothing x.dm (bound x.dm tag e) wd 1 1 ∙ ap (λ (t : Bool). spread named (cond t tag (row_of x.dm e)) 1 1 wd) (eq-itself x.dm)
            ∙ sym (ap (λ z. row_of z (bound p (spread named tag 1 1 wd) [])) h ∙ ap (λ (t : Bool). cond t (spread named tag 1 1 wd) []) (eq-itself p))

    pub fed-back : (e : Environment) → rows_of tables (fed_box x.d x.dm x.dc x.m c.id n v) G e ≡ G x.d e
    fed-back e =
        fed-rows tables (quant_rows (fed_box x.d x.dm x.dc x.m c.id n v) G) x.d Rattle.rule_feed.specs.Feed.fed_parts (range x.dm F x.m) (range x.dc F c.id) n v e refl refl m.apart_dc
        (subst (λ (rows : Bag). Wide n rows) (sym (first-rows e)) wide-M) (λ tag. subst (λ (rows : Bag). Wide v rows) (sym (second-rows tag)) (wide-c (bound p (spread named tag 1 1 wd) [])))
        ∙ ap₂ (λ (rows : Bag) (g : List Cell → Bag). led rows g) (first-rows e) (fun_ext second-rows)
        ∙ sym (G-d e)
      where
        first-rows : (e : Environment) → quant_rows (fed_box x.d x.dm x.dc x.m c.id n v) G x.dm e ≡ M
        first-rows e = ap (λ (o : Option OwnedQuant). rows_found o G e) (found-one x.dm (range x.dm F x.m) (range x.dc F c.id ∷ []) (eq-itself x.dm)) ∙ G-m e

        second-rows : (tag : List Cell) → quant_rows (fed_box x.d x.dm x.dc x.m c.id n v) G x.dc (bound x.dm tag e) ≡ C tag
        second-rows tag =
            ap (λ (t : Bool). rows_found (cond t (Some (range x.dm F x.m)) (first (is_quant x.dc) (range x.dc F c.id ∷ []))) G (bound x.dm tag e)) (eq-false-sym x.dc x.dm m.apart_dc)
            ∙ ap (λ (o : Option OwnedQuant). rows_found o G (bound x.dm tag e)) (found-one x.dc (range x.dc F c.id) [] (eq-itself x.dc)) ∙ G-c tag e

    -- ---- b

    abbrev b' : Node
    b' = fed_owner named p ri x.d wd b

    abbrev S : Family
    S = quant_rows b f

    abbrev T : Family
    T = quant_rows b' G

    abbrev ks : List Cond
    ks = joins named p i 1 1 wd

    first-other : (q : ℕ) → (q == i) ≡ false → (rs : List OwnedQuant) → first (is_quant q) (turned i x.d rs) ≡ first (is_quant q) rs
    first-other q h [] = refl
    first-other q h (r ∷ rs) = elim (cases_Bool (r.id == i)) [
      | inl t ↦ (
          let k : (r.id == q) ≡ false = (elim (cases_Bool (r.id == q)) [ inr g ↦ g | inl g ↦ absurd (clash (q == i) (eq-eqb q i (sym (eqb-true r.id q g) ∙ eqb-true r.id i t)) h) ]) in
          ap (λ (z : Bool). first (is_quant q) (cond z (over_now x.d r ∷ rs) (r ∷ turned i x.d rs))) t
          ∙ ap (λ (z : Bool). cond z (Some (over_now x.d r)) (first (is_quant q) rs)) k ∙ sym (ap (λ (z : Bool). cond z (Some r) (first (is_quant q) rs)) k))
      | inr t ↦ ap (λ (z : Bool). first (is_quant q) (cond z (over_now x.d r ∷ rs) (r ∷ turned i x.d rs))) t ∙ ap (λ (o : Option OwnedQuant). cond (r.id == q) (Some r) o) (first-other q h rs)
    ]

    first-i : (rs : List OwnedQuant) → first (is_quant i) rs ≡ Some ri → first (is_quant i) (turned i x.d rs) ≡ Some (over_now x.d ri)
    first-i [] h = absurd (let z : ⊥ = cc in z)
    first-i (r ∷ rs) h = elim (cases_Bool (r.id == i)) [
      | inl t ↦ (
          let e : Some r ≡ Some ri = sym (ap (λ (z : Bool). cond z (Some r) (first (is_quant i) rs)) t) ∙ h in
          let k : r ≡ ri = cc in
          ap (λ (z : Bool). first (is_quant i) (cond z (over_now x.d r ∷ rs) (r ∷ turned i x.d rs))) t ∙ ap (λ (z : Bool). cond z (Some (over_now x.d r)) (first (is_quant i) rs)) t ∙ ap (λ (z : OwnedQuant). Some (over_now x.d z)) k)
      | inr t ↦ ap (λ (z : Bool). first (is_quant i) (cond z (over_now x.d r ∷ rs) (r ∷ turned i x.d rs))) t ∙ ap (λ (z : Bool). cond z (Some r) (first (is_quant i) (turned i x.d rs))) t
          ∙ first-i rs (sym (ap (λ (z : Bool). cond z (Some r) (first (is_quant i) rs)) t) ∙ h)
    ]

    at-own : (r : OwnedQuant) → In r b.quants → S r.id ≡ f r.over
    at-own r j = ap (λ o. rows_found o f) (first-own r b.quants (few b r.id in-b) j)

    T-i : (e : Environment) → T i e ≡ led M C
    T-i e = ap (λ (o : Option OwnedQuant). rows_found o G e) (first-i b.quants (first-own ri b.quants (few b ri.id in-b) m.owned_i)) ∙ G-d e

    first-in : (q : ℕ) (rs : List OwnedQuant) (r : OwnedQuant) → first (is_quant q) rs ≡ Some r → In r rs × ((r.id == q) ≡ true)
    first-in q [] r h = absurd (let z : ⊥ = cc in z)
    first-in q (y ∷ rs) r h = elim (cases_Bool (y.id == q)) [
      | inl t ↦ (let e : Some y ≡ Some r = sym (ap (λ (z : Bool). cond z (Some y) (first (is_quant q) rs)) t) ∙ h in let k : y ≡ r = cc in (inl k, subst (λ (z : OwnedQuant). (z.id == q) ≡ true) k t))
      | inr t ↦ (let a = first-in q rs r (sym (ap (λ (z : Bool). cond z (Some y) (first (is_quant q) rs)) t) ∙ h) in (inr a.0, a.1))
    ]

    -- what a quantifier of b beside i gives after in d, and gave in e
    found-same : (q : ℕ) → (q == i) ≡ false → (d e : Environment) → ((r : OwnedQuant) → In r b.quants → (r.id == i) ≡ false → G r.over d ≡ f r.over e) → T q d ≡ S q e
    found-same q h d e k = ap (λ (o : Option OwnedQuant). rows_found o G d) (first-other q h b.quants) ∙ by (first (is_quant q) b.quants) refl
      where
        by : (o : Option OwnedQuant) → first (is_quant q) b.quants ≡ o → rows_found o G d ≡ rows_found o f e
        by None z = refl
        by (Some r) z = (let a = first-in q b.quants r z in k r a.0 (ap (λ y. y == i) (eqb-true r.id q a.1) ∙ h))

    -- under b, beside i: where nothing below looks i up
    quant-same : (r : OwnedQuant) → In r b.quants → (r.id == i) ≡ false → loose bs r.over i ≡ false → (e : Environment) → G r.over e ≡ f r.over e
    quant-same r j h none e = (
        let held = overs-held bs b r w.ordered in-b j in
        elim (cases_Bool (ins r.over)) [
          | inl t ↦ G-in r.over held t e ∙ still r.over p (V e) e (out-closed b r in-b j ins-b (λ z. h) t p)
          | inr t ↦ G-out r.over held t e ∙ still r.over i (U e) e none
        ])

    new : (e : Environment) → Alike (T i e) (led (once same_cells tags) C)
    new e =
        alike-trans (alike-same (T-i e))
        (alike-bind (alike-from_agree same_cells same_cells-decides ((set-agreement same_cells same_cells-decides).at_yes tags (clean-bind rows_s (λ row. unit (picks named row 1 wd)) (m.clean tables sat) (λ row. refl))))
        (λ tag. alike-refl (bind (C tag) (λ cells. unit (tag ++ cells)))))

    old : (e : Environment) → S i e ≡ C (picks named (row_of p e) 1 wd)
    old e = ap (λ (g : Environment → Bag). g e) (at-own ri m.owned_i) ∙ ap (λ z. f z e) m.over_c ∙ c-rows e

    closed-p : (e : Environment) → S p e ≡ rows_s
    closed-p e = ap (λ (g : Environment → Bag). g e) (at-own rp m.owned_p) ∙ ap (λ z. f z e) m.over_s ∙ closed-s e

    free : (row : List Cell) → stands same_cells row rows_s ≡ true → Frees (picks named row 1 wd)
    free row h = frees-picks named row wd 1 (m.free tables sat row h)

    loose-b : loose bs b.id i ≡ false
    loose-b = w.settled b in-b i (own b ri m.owned_i)

    -- what b gave
    was : (e : Environment) → G b.id e ≡ once_if (is_enforce b.parts.distinct) (over_each b.quants S (given_by S b) e)
    was e = G-out b.id (in-has b bs in-b) ins-b e ∙ still b.id i (U e) e loose-b ∙ unfold-bag tables bs b w.ordered in-b e ∙ ap (λ k. rows_by k tables b S e) m.a_select

    -- what it gives
    is-now : (e : Environment) → rows_of tables b' G e ≡ once_if (is_enforce b.parts.distinct) (over_each b.quants T (given_by T b') e)
    is-now e = ap (λ k. rows_by k tables b' T e) m.a_select ∙ ap (once_if (is_enforce b.parts.distinct)) (turned-each i x.d b.quants T (given_by T b') e)

    append-nil : (cs : List Cond) → cs ++ [] ≡ cs
    append-nil [] = refl
    append-nil (z ∷ cs) = ap (λ (t : List Cond). z ∷ t) (append-nil cs)

    -- the numbers of b's quantifiers differ
    apart-in : (done : List OwnedQuant) (r : OwnedQuant) (rest : List OwnedQuant) → b.quants ≡ done ++ r ∷ rest → (y : OwnedQuant) → In y done ⊎ In y rest → (y.id == r.id) ≡ false
    apart-in done r rest e y j = split-once (λ (r : OwnedQuant). r.id) done r rest (subst (λ z. times r.id (map (λ (r : OwnedQuant). r.id) z) ≤ 1) e (few b r.id in-b)) y j

    -- ---- E and A

    module _ (not_f : is_F ri.kind ≡ false) where
      none-i : (z : ℕ) → loose bs z i ≡ false
      none-i z = elim (cases_Bool (loose bs z i)) [
        | inr g ↦ g
        | inl g ↦ absurd (let u = Rattle.qgm_edit_laws.proofs.Scope.bound-above bs root w z i g in Rattle.qgm_edit_laws.proofs.Interposed.rowless bs root w b ri in-b m.owned_i not_f u.0 u.1.0 u.1.1.0)
      ]

      rest : (q : ℕ) → (q == i) ≡ false → (e : Environment) → T q e ≡ S q e
      rest q h e = found-same q h e e (λ r j k. quant-same r j k (none-i r.over) e)

      unread-i : read_by b i ≡ false
      unread-i = elim (cases_Bool (read_by b i)) [ inr g ↦ g | inl g ↦ absurd (Rattle.qgm_edit_laws.proofs.Interposed.rowless-unread bs root w b ri in-b m.owned_i not_f m.a_select b in-b g) ]

      row-kind : (r : OwnedQuant) → In r b.quants → is_F r.kind ≡ true → (r.id == i) ≡ false
      row-kind r j k = elim (cases_Bool (r.id == i)) [
        | inr g ↦ g
        | inl g ↦ absurd (Rattle.qgm_edit_laws.proofs.Interposed.rowless bs root w b ri in-b m.owned_i not_f b in-b (any-from (λ s. is_F s.kind && is_quant i s) r b.quants j (and_from (is_F r.kind) (r.id == i) k g)))
      ]

      node-back : (e : Environment) → Alike (over_each b.quants T (given_by T b') e) (over_each b.quants S (given_by S b) e)
      node-back e =
          let sp = split-in rp b.quants m.owned_p in
          let un = or_parts (list_any (reads i) b.parts.head) (list_any (reads_cond i) b.parts.conds.items) unread-i in
          let all = Rattle.rule_feed.proofs.FeedRows.node-rows S T rp ri wd named rows_s C apart-ids free new old b.parts.conds.items b.parts.head m.clear m.clear_conds sp.0 sp.1.0 m.p_binds not_f closed-p rest
          (λ r j k. row-kind r (subst (λ z. In r z) (sym sp.1.1) j) k) (λ r j k. apart-in sp.0 rp sp.1.0 sp.1.1 r (inr j)) un.0 un.1 e in
          alike-trans (alike-same (ap (λ (g : Environment → Bag). over_each b.quants T g e) (fun_ext given) ∙ ap (λ z. over_each z T given-after e) sp.1.1))
          (alike-trans all (alike-same (ap (λ z. over_each z S (given_by S b) e) (sym sp.1.1))))
        where
          given-after : Environment → Bag
          given-after d = keep (all_true (λ q. T q d) (map (fed_cond i n (all_of ks)) b.parts.conds.items) d).t (unit (head_cells (λ q. T q d) (map (fed_term i n (all_of ks)) b.parts.head) d))

          given : (d : Environment) → given_by T b' d ≡ given-after d
          given d =
              ap (λ (z : Bool). keep (all_true (λ q. T q d) (map (fed_cond i n (all_of ks)) b.parts.conds.items ++ cond z ks []) d).t (unit (head_cells (λ q. T q d) (map (fed_term i n (all_of ks)) b.parts.head) d))) not_f
              ∙ ap (λ (z : List Cond). keep (all_true (λ q. T q d) z d).t (unit (head_cells (λ q. T q d) (map (fed_term i n (all_of ks)) b.parts.head) d))) (append-nil (map (fed_cond i n (all_of ks)) b.parts.conds.items))

    -- ---- F

    columns-row : (q : ℕ) (e : Environment) (pre v : List Cell) → row_of q e ≡ pre ++ v → head_cells nothing (columns_from q (suc (length pre)) (length v)) e ≡ v
    columns-row q e pre [] h = refl
    columns-row q e pre (y ∷ v) h =
        ap₂ (λ (c : Cell) (cs : List Cell). c ∷ cs) (ap (cell_of (suc (length pre))) h ∙ Rattle.rule_feed.proofs.FeedPicks.at-place pre y v)
        (ap (λ k. head_cells nothing (columns_from q (suc k) (length v)) e) (sym (Rattle.rule_feed.proofs.FeedPicks.length-one pre y)) ∙ columns-row q e (pre ++ y ∷ []) v (h ∙ sym (Rattle.rule_feed.proofs.FeedPicks.append-one pre y v)))

    wide-stands : (k : ℕ) (rows : Bag) (c : List Cell) → Wide k rows → stands same_cells c rows ≡ true → length c ≡ k
    wide-stands k [] c h t = absurd (let z : ⊥ = cc in z)
    wide-stands k (r ∷ rows) c h t = elim (or_cases (same_cells r.cells c && is_there r) (stands same_cells c rows) t) [
      | inl a ↦ sym (ap length ((same_cells-decides r.cells c).0 (and_parts (same_cells r.cells c) (is_there r) a).0)) ∙ h.0
      | inr a ↦ wide-stands k rows c h.1 a
    ]

    module _ (is_f : is_F ri.kind ≡ true) (us vs ws : List OwnedQuant) (split : b.quants ≡ us ++ rp ∷ (vs ++ ri ∷ ws)) where
      -- those before i
      whole : b.quants ≡ (us ++ rp ∷ vs) ++ ri ∷ ws
      whole = split ∙ append-mid us
        where
          append-mid : (zs : List OwnedQuant) → zs ++ rp ∷ (vs ++ ri ∷ ws) ≡ (zs ++ rp ∷ vs) ++ ri ∷ ws
          append-mid [] = refl
          append-mid (z ∷ zs) = ap (λ (t : List OwnedQuant). z ∷ t) (append-mid zs)

      in-quants : (r : OwnedQuant) → In r (us ++ rp ∷ vs) → In r b.quants
      in-quants r j = subst (λ z. In r z) (sym whole) (in-left r (us ++ rp ∷ vs) (ri ∷ ws) j)

      -- a box under an earlier F quantifier doesn't look i up
      early : (r : OwnedQuant) → In r (us ++ rp ∷ vs) → is_F r.kind ≡ true → loose bs r.over i ≡ false
      early r j k = elim (cases_Bool (loose bs r.over i)) [
        | inr g ↦ g
        | inl g ↦ absurd (
            let sp = split-in r (us ++ rp ∷ vs) j in
            let e : b.quants ≡ sp.0 ++ r ∷ (sp.1.0 ++ ri ∷ ws) = whole ∙ ap (λ z. z ++ ri ∷ ws) sp.1.1 ∙ append-in sp.0 (r ∷ sp.1.0) (ri ∷ ws) in
            let a = (scoped-of bs root w b in-b).under sp.0 r (sp.1.0 ++ ri ∷ ws) e i g in
            elim (or_cases (Rattle.qgm_edit_laws.specs.Scoped.shows_by b.parts.kind b.quants sp.0 r i) (loose bs b.id i) a) [
              | inr l ↦ clash (loose bs b.id i) l loose-b
              | inl t ↦ (
                  let t' : binds_row i sp.0 ≡ true = sym (ap (λ z. cond z (binds_row i sp.0) (binds_row i b.quants)) k) ∙ sym (ap (λ z. Rattle.qgm_edit_laws.specs.Scoped.shows_by z b.quants sp.0 r i) m.a_select) ∙ t in
                  let y = any-in (is_quant i) sp.0 (bound-owned i sp.0 t') in
                  let y-in : In y.0 (us ++ rp ∷ vs) = subst (λ z. In y.0 z) (sym sp.1.1) (in-left y.0 sp.0 (r ∷ sp.1.0) y.1.0) in
                  clash (y.0.id == i) y.1.1 (apart-in (us ++ rp ∷ vs) ri ws whole y.0 (inl y-in)))
            ])
      ]
        where
          append-in : (ls ms ns : List OwnedQuant) → (ls ++ ms) ++ ns ≡ ls ++ (ms ++ ns)
          append-in [] ms ns = refl
          append-in (l ∷ ls) ms ns = ap (λ (z : List OwnedQuant). l ∷ z) (append-in ls ms ns)

      before : (r : OwnedQuant) → In r (us ++ rp ∷ vs) → is_F r.kind ≡ true → (e : Environment) → T r.id e ≡ S r.id e
      before r j k e =
          let no = apart-in (us ++ rp ∷ vs) ri ws whole r (inl j) in
          ap (λ (o : Option OwnedQuant). rows_found o G e) (first-other r.id no b.quants ∙ first-own r b.quants (few b r.id in-b) (in-quants r j))
          ∙ quant-same r (in-quants r j) no (early r j k) e ∙ ap (λ (g : Environment → Bag). g e) (sym (at-own r (in-quants r j)))

      moved : (row : List Cell) (q : ℕ) → (q == i) ≡ false → (d e : Environment) → Beside i p row d e → Tail i n v d e → T q d ≡ S q e
      moved row q h d e side tail = found-same q h d e (λ r j k. (
          let held = overs-held bs b r w.ordered in-b j in
          elim (cases_Bool (ins r.over)) [
            | inl t ↦ (
                let none = out-closed b r in-b j ins-b (λ z. k) t in
                G-in r.over held t d ∙ bag-framed tables bs r.over (bound p (V d) d) e (record { rows = λ a u. absurd (clash (loose bs r.over a) u (none a)) }))
            | inr t ↦ G-out r.over held t d ∙ bag-framed tables bs r.over (bound i (U d) d) e (record { rows = λ a u. row-at a (cases_Bool (i == a)) })
          ]))
        where
          tail-is : U d ≡ row_of i e
          tail-is =
              ap₂ (λ (k l : ℕ). head_cells nothing (columns_from i (suc k) l) d) (sym tail.long) (sym tail.wide)
              ∙ columns-row i d tail.tag (row_of i e) tail.is

          row-at : (a : ℕ) → ((i == a) ≡ true) ⊎ ((i == a) ≡ false) → cond (i == a) (U d) (row_of a d) ≡ row_of a e
          row-at a (inl t) = ap (λ (z : Bool). cond z (U d) (row_of a d)) t ∙ tail-is ∙ ap (λ z. row_of z e) (eqb-true i a t)
          row-at a (inr t) = ap (λ (z : Bool). cond z (U d) (row_of a d)) t ∙ side.others a (eq-false-sym i a t)

      row-back : (e : Environment) → Alike (over_each b.quants T (given_by T b') e) (over_each b.quants S (given_by S b) e)
      row-back e =
          let all = Rattle.rule_feed.proofs.FeedRows.joined-rows S T rp ri wd named rows_s C apart-ids free new old b.parts.conds.items b.parts.head m.clear m.clear_conds us vs ws m.p_binds is_f closed-p before v
          (λ u c t. wide-stands v (C u) c (wide-c (bound p (spread named u 1 1 wd) [])) t) moved
          (λ r j k. apart-in us rp (vs ++ ri ∷ ws) split r (inr (in-left r vs (ri ∷ ws) j)))
          (λ r j k. (apart-in (us ++ rp ∷ vs) ri ws whole r (inr j), apart-in us rp (vs ++ ri ∷ ws) split r (inr (in-right r vs (ri ∷ ws) (inr j))))) e in
          alike-trans (alike-same (ap (λ (g : Environment → Bag). over_each b.quants T g e) (fun_ext given) ∙ ap (λ z. over_each z T given-after e) split))
          (alike-trans all (alike-same (ap (λ z. over_each z S (given_by S b) e) (sym split))))
        where
          given-after : Environment → Bag
          given-after d = keep (all_true (λ q. T q d) (map (fed_cond i n (all_of ks)) b.parts.conds.items ++ ks) d).t (unit (head_cells (λ q. T q d) (map (fed_term i n (all_of ks)) b.parts.head) d))

          given : (d : Environment) → given_by T b' d ≡ given-after d
          given d = ap (λ (z : Bool). keep (all_true (λ q. T q d) (map (fed_cond i n (all_of ks)) b.parts.conds.items ++ cond z ks []) d).t (unit (head_cells (λ q. T q d) (map (fed_term i n (all_of ks)) b.parts.head) d))) is_f

    pub owner-back : (e : Environment) → Alike (rows_of tables b' G e) (G b.id e)
    owner-back e = alike-trans (alike-same (is-now e)) (alike-trans (once_if-alike (is_enforce b.parts.distinct) (by (cases_Bool (is_F ri.kind)))) (alike-same (sym (was e))))
      where
        by : (is_F ri.kind ≡ true) ⊎ (is_F ri.kind ≡ false) → Alike (over_each b.quants T (given_by T b') e) (over_each b.quants S (given_by S b) e)
        by (inl t) = (let u = m.before t in row-back t u.0 u.1.0 u.1.1.0 u.1.1.1 e)
        by (inr t) = node-back t e

    -- ---- the graph after

    abbrev pub hs : List Node
    hs = fed_boxes xs ys b s c rp ri x

    old-back : (y : Node) → In y bs → (e : Environment) → Alike (rows_of tables (g y) G e) (G (g y).id e)
    old-back y j e = alike-trans (at (cases_Bool (y.id == b.id))) (alike-same (ap (λ z. G z e) (sym (g-id y))))
      where
        at : ((y.id == b.id) ≡ true) ⊎ ((y.id == b.id) ≡ false) → Alike (rows_of tables (g y) G e) (G y.id e)
        at (inl t) =
            let same : b ≡ y = same-box bs b y w.ordered in-b j (sym (eqb-true y.id b.id t)) in
            alike-trans (alike-same (ap (λ z. rows_of tables z G e) (g-b y t))) (subst (λ (z : Node). Alike (rows_of tables (fed_owner named p ri x.d wd z) G e) (G z.id e)) same (owner-back e))
        at (inr t) = elim (cases_Bool (ins y.id)) [
          | inl u ↦ alike-same (ap (λ z. rows_of tables z G e) (g-in y t u) ∙ below-back y j u e)
          | inr u ↦ alike-same (ap (λ z. rows_of tables z G e) (g-out y t u) ∙ other-back y j u t e)
        ]

    in-hs : (z : Node) → In z hs → ((y : Node) × (In y bs × (g y ≡ z))) ⊎ ((new_fed (xs ++ ys) b s c rp ri x ≡ z) ⊎ (new_magic (xs ++ ys) b s c rp ri x ≡ z))
    in-hs z j = elim (in-append z (map g xs) (new_fed (xs ++ ys) b s c rp ri x ∷ (new_magic (xs ++ ys) b s c rp ri x ∷ map g ys)) j) [
      | inl a ↦ (let y = in-map g z xs a in inl (y.0, (in-left y.0 xs ys y.1.0, y.1.1)))
      | inr a ↦ elim a [
        | inl e ↦ inr (inl e)
        | inr k ↦ elim k [
          | inl e ↦ inr (inr e)
          | inr l ↦ (let y = in-map g z ys l in inl (y.0, (in-right y.0 xs ys y.1.0, y.1.1)))
        ]
      ]
    ]

    back : (z : Node) → In z hs → (e : Environment) → Alike (rows_of tables z G e) (G z.id e)
    back z j e = elim (in-hs z j) [
      | inl y ↦ subst (λ (z : Node). Alike (rows_of tables z G e) (G z.id e)) y.1.1 (old-back y.0 y.1.0 e)
      | inr a ↦ elim a [
        | inl t ↦ subst (λ (z : Node). Alike (rows_of tables z G e) (G z.id e)) t (alike-same (fed-back e))
        | inr t ↦ subst (λ (z : Node). Alike (rows_of tables z G e) (G z.id e)) t (alike-same (magic-back e))
      ]
    ]

    agrees : (zs : List Node) → ((z : Node) → In z zs → In z hs) → AgreesBack (λ e. true) tables G zs
    agrees [] sub = tt
    agrees (z ∷ zs) sub = (
      stays z.quants,
      (λ e t. agree-from_alike same_cells (back z (sub z (inl refl)) e)),
      agrees zs (λ y k. sub y (inr k)),
    )
      where
        stays : (rs : List OwnedQuant) → Stays (λ e. true) (quant_rows z G) rs
        stays [] = tt
        stays (r ∷ rs) = ((λ e cells a b c. refl), stays rs)

    -- THE ROOT'S BAG
    root-out : ins root ≡ false
    root-out = elim (cases_Bool (ins root)) [
      | inr g ↦ g
      | inl t ↦ absurd (
          let top = w.top in
          elim (drops.under root t) [
            | inl e ↦ (let one = used-c in let z : times root (overs_in bs) ≡ times c.id (overs_in bs) = ap (λ z. times z (overs_in bs)) e in omega arith)
            | inr u ↦ (
                let r = u.1.1.1.0 in
                let le : times root (Rattle.qgm_core.specs.Boxes.overs_of u.0) ≤ times root (overs_in bs) = times-in (λ (n : Node). map (λ (r : OwnedQuant). r.over) n.quants) root u.0 bs u.1.0 in
                let one : 1 ≤ times r.over (map (λ (r : OwnedQuant). r.over) u.0.quants) = Rattle.list_laws.proofs.Counting.in-times (λ (r : OwnedQuant). r.over) r u.0.quants u.1.1.1.1.0 in
                let e : times r.over (map (λ (r : OwnedQuant). r.over) u.0.quants) ≡ times root (map (λ (r : OwnedQuant). r.over) u.0.quants) = ap (λ z. times z (map (λ (r : OwnedQuant). r.over) u.0.quants)) u.1.1.1.1.1 in
                omega arith)
          ])
    ]

    -- the magic box gives each tuple of the named columns that occurs in s, once and at yes
    pub magic-bag : Ordered hs → has_box hs x.m ≡ true → (e : Environment) → Alike (bag_in tables hs x.m e) (once same_cells tags)
    magic-bag ord held e =
        alike-trans (only-alike tables G (λ e. true) hs ord (agrees hs (λ z j. j)) x.m held e refl)
        (alike-trans (alike-same (G-m e)) (alike-from_agree same_cells same_cells-decides ((set-agreement same_cells same_cells-decides).at_yes tags (clean-bind rows_s (λ row. unit (picks named row 1 wd)) (m.clean tables sat) (λ row. refl)))))

    pub feed-bag : Ordered hs → has_box hs root ≡ true → (e : Environment) → Alike (bag_in tables hs root e) (f root e)
    feed-bag ord held e =
        alike-trans (only-alike tables G (λ e. true) hs ord (agrees hs (λ z j. j)) root held e refl)
        (alike-same (G-out root w.rooted root-out e ∙ still root i (U e) e closed-i))
      where
        closed-i : loose bs root i ≡ false
        closed-i = elim (cases_Bool (loose bs root i)) [ inr g ↦ g | inl g ↦ absurd (Rattle.qgm_edit_laws.proofs.Scope.closed-root bs root w i g) ]
