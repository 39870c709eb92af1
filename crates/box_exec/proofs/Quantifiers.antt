-- What boxes give over what stands under their quantifiers.
use Rattle.std.proofs.Common.{ℕ, suc, zero, ◌≡◌, ◌<◌, ◌≤◌, ◌+◌, ◌++◌, ◌==◌, not, Bool, true, false, cond, List, [], ◌∷◌, Option, Some, All, drop, filter, get_or, length, take, append-nil, refl, sym, ◌∙◌, ap, ap₂, subst, arith}
use Rattle.std.proofs.Math.ListN.{drop_of_length-le}
use Rattle.std.proofs.lemmas.List.{get_or_default, length-map, take_more}
use Rattle.std.proofs.lemmas.List.Elements.{filter-append}
use Rattle.std.specs.List.{list_any}
use Rattle.std.proofs.lemmas.Bool.{or_left, or_right}
use Rattle.row_bag.specs.Bags.{Alike, bind, keep, unit}
use Rattle.row_bag.specs.declared.tables.Table.{Table}
use Rattle.row_bag.proofs.Agreement.{alike-append, alike-keep_no, alike-refl, alike-same, alike-sym, alike-trans, alike-bind}
use Rattle.sql_value.specs.declared.cell.Cell.{Cell}
use Rattle.sql_value.specs.declared.level.Level.{Level}
use Rattle.sql_value.specs.declared.level.Level.TheVariants.{No}
use Rattle.sql_value.specs.declared.truth.Truth.{Truth}
use Rattle.qgm_core.specs.Boxes.{is_quant}
use Rattle.qgm_core.specs.Kinds.{is_F}
use Rattle.list_laws.specs.Lists.{first}
use Rattle.qgm_core.specs.declared.node.Node.{Node}
use Rattle.qgm_core.specs.declared.owned.OwnedQuant.{OwnedQuant}
use Rattle.qgm_core.specs.declared.kinds.SetOperator.{SetOperator}
use Rattle.qgm_meaning.specs.Meaning.{Family, bag_in, combined, given, given_by, grouped_rows, nothing, of_one, of_two, outer_rows, over_each, quant_rows, rows_found}
use Rattle.qgm_meaning.specs.Searches.{names, names_cond}
use Rattle.qgm_meaning.specs.Values.{Bag, Environment, bound}
use Rattle.qgm_meaning.proofs.Alikes.{combined-alike, given-alike, grouped_rows-alike}
use Rattle.qgm_meaning.proofs.Nodes.{all_true-nodes, head-nodes}
use Rattle.row_bag.proofs.FoldLaws.{or_else-alike}
use Rattle.box_exec.specs.Outer.{joined_rows, null_row, partner_rows}
use Rattle.box_exec.specs.Plans.{Bound, Planned, family, ranges}
use Rattle.box_exec.specs.Ready.{Fit, SubsOf, binds_F, isnt_F, names_in_box, over_left}
use Rattle.box_exec.specs.Sources.{held_by, rows_held}
use Rattle.box_exec.specs.declared.boxes.At.{At}
use Rattle.box_exec.specs.declared.source.Sub.{Sub}
use Rattle.box_exec.specs.declared.under.Loop.{Loop}
use Rattle.qgm_meaning.specs.Plain.{Counts, under_each}
use Rattle.box_exec.proofs.Evaluations.{two-under}
use Rattle.box_exec.proofs.Loops.{from}

-- nothing is added at no
pub level-none : (level : Level) (out rows : Bag) → level ≡ No → Alike out (out ++ keep level rows)
level-none level out rows e =
    alike-trans (alike-same (sym (append-nil out))) (alike-append (alike-refl out) (alike-sym (alike-trans (alike-same (ap (λ (l : Level). keep l rows) e)) (alike-keep_no rows))))

-- ---- quantifiers with what stands under them

pub range-at : (ls : List Loop) (i : ℕ) (l : Loop) → i < length ls → l ≡ get_or ls i l → l.range ≡ get_or (ranges ls) i l.range
range-at [] i l h e = absurd (omega (arith, h))
range-at (m ∷ ls) zero l h e = ap (λ (x : Loop). x.range) e
range-at (m ∷ ls) (suc i) l h e = range-at ls i l (omega (arith, h)) e

pub range-within : (ls : List Loop) (i : ℕ) → i < length ls → i < length (ranges ls)
range-within ls i h = let e : length (ranges ls) ≡ length ls = length-map ls (λ (l : Loop). l.range) in omega (arith, h, e)

-- a quantifier of the box at its place, and the only one of its number
pub placed : (at : At) → Planned at → (k : ℕ) (l : Loop) → k < length at.loops.now → l ≡ get_or at.loops.now k l
    → (drop k at.node.now.quants ≡ l.range ∷ drop (k + 1) at.node.now.quants) × (first (is_quant l.range.id) at.node.now.quants ≡ Some l.range)
placed at plan k l h e =
    let ls = at.loops.now in
    let here = range-at ls k l h e in
    let within = range-within ls k h in
    subst (λ (rs : List OwnedQuant). All (λ r. first (is_quant r.id) rs ≡ Some r) rs → (drop k rs ≡ l.range ∷ drop (k + 1) rs) × (first (is_quant l.range.id) rs ≡ Some l.range)) plan.ranged
    (λ own. (
      from (ranges ls) k l.range within ∙ ap (λ (x : OwnedQuant). x ∷ drop (k + 1) (ranges ls)) (sym here),
      subst (λ (x : OwnedQuant). first (is_quant x.id) (ranges ls) ≡ Some x) (sym here) (own k l.range within),
    ))
    plan.fit.numbered

-- all quantifiers have been gone through
pub range-past : (ls : List Loop) (k : ℕ) → length ls ≤ k → length (ranges ls) ≤ k
range-past ls k h = let e : length (ranges ls) ≡ length ls = length-map ls (λ (l : Loop). l.range) in omega (arith, h, e)

pub past-all : (at : At) → Planned at → (k : ℕ) → length at.loops.now ≤ k → drop k at.node.now.quants ≡ []
past-all at plan k h = subst (λ (rs : List OwnedQuant). drop k rs ≡ []) plan.ranged (drop_of_length-le (ranges at.loops.now) (range-past at.loops.now k h))

-- what it gives
pub quant-at : (at : At) → Planned at → (k : ℕ) (l : Loop) → k < length at.loops.now → l ≡ get_or at.loops.now k l → (env : Environment) → quant_rows at.node.now (family at) l.range.id env ≡ family at l.range.over env
quant-at at plan k l h e env = ap (λ (o : Option OwnedQuant). rows_found o (family at) env) (placed at plan k l h e).1

-- the order of its text is one in which its quantifiers are bound
pub bound-of : (at : At) → Planned at → Bound at
bound-of at plan = record {
  own = λ k d inside. (placed at plan k (get_or at.loops.now k d) inside (get_or_default at.loops.now k d (get_or at.loops.now k d) inside)).1;
  stand = plan.stand;
  rows = plan.rows;
  plan = plan.plan;
}

-- a quantifier at its place in that order
pub stood : (at : At) → Bound at → (k : ℕ) (l : Loop) → k < length at.loops.now → l ≡ get_or at.loops.now k l
    → (drop k (ranges at.loops.now) ≡ l.range ∷ drop (k + 1) (ranges at.loops.now)) × (first (is_quant l.range.id) at.node.now.quants ≡ Some l.range)
stood at b k l h e = (
  from (ranges at.loops.now) k l.range (range-within at.loops.now k h) ∙ ap (λ (x : OwnedQuant). x ∷ drop (k + 1) (ranges at.loops.now)) (sym (range-at at.loops.now k l h e)),
  subst (λ (x : Loop). first (is_quant x.range.id) at.node.now.quants ≡ Some x.range) (sym e) (b.own k l h),
)

pub past-ranges : (ls : List Loop) (k : ℕ) → length ls ≤ k → drop k (ranges ls) ≡ []
past-ranges ls k h = drop_of_length-le (ranges ls) (range-past ls k h)

-- a quantifier that binds no rows is passed over
pub left-over : (tables : List Table) (n : Node) (below : List Node) (rs : List OwnedQuant) (k : ℕ) (r : OwnedQuant) (env : Environment) → drop k rs ≡ r ∷ drop (k + 1) rs → is_F r.kind ≡ false
    → over_left tables n below (drop k rs) env ≡ over_left tables n below (drop (k + 1) rs) env
left-over tables n below rs k r env e h =
    let s = quant_rows n (bag_in tables below) in
    ap (λ (xs : List OwnedQuant). over_each xs s (given_by s n) env) e
    ∙ ap (λ (t : Bool). cond t (bind (s r.id env) (λ cells. over_each (drop (k + 1) rs) s (given_by s n) (bound r.id cells env))) (over_each (drop (k + 1) rs) s (given_by s n) env)) h

-- one that binds rows is gone through
pub left-bound : (tables : List Table) (n : Node) (below : List Node) (rs : List OwnedQuant) (k : ℕ) (r : OwnedQuant) (env : Environment) → drop k rs ≡ r ∷ drop (k + 1) rs → is_F r.kind ≡ true → first (is_quant r.id) n.quants ≡ Some r
    → over_left tables n below (drop k rs) env ≡ bind (bag_in tables below r.over env) (λ cells. over_left tables n below (drop (k + 1) rs) (bound r.id cells env))
left-bound tables n below rs k r env e h own =
    let s = quant_rows n (bag_in tables below) in
    let give = λ (cells : List Cell). over_each (drop (k + 1) rs) s (given_by s n) (bound r.id cells env) in
    ap (λ (xs : List OwnedQuant). over_each xs s (given_by s n) env) e
    ∙ ap (λ (t : Bool). cond t (bind (s r.id env) give) (over_each (drop (k + 1) rs) s (given_by s n) env)) h
    ∙ ap (λ (o : Option OwnedQuant). bind (rows_found o (bag_in tables below) env) give) own

-- ---- what binds no rows

-- one more quantifier has been gone through
pub subs-more : (f : Family) (env : Environment) (rs : List OwnedQuant) (ss : List Sub) (r : OwnedQuant) (s : Sub) → s.quant ≡ r.id → Alike (rows_held s.rows) (f r.over env) → SubsOf f env rs ss → SubsOf f env (rs ++ r ∷ []) (ss ++ s ∷ [])
subs-more f env [] [] r s e h k = (e, h, tt)
subs-more f env [] (t ∷ ss) r s e h k = absurd k
subs-more f env (x ∷ rs) [] r s e h k = absurd k
subs-more f env (x ∷ rs) (t ∷ ss) r s e h k = (k.0, k.1, subs-more f env rs ss r s e h k.2)

-- they give what the quantifiers give
subs-held : (f : Family) (env : Environment) (rs : List OwnedQuant) (ss : List Sub) (q : ℕ) → SubsOf f env rs ss → Alike (held_by ss q) (rows_found (first (is_quant q) rs) f env)
subs-held f env [] [] q k = alike-refl []
subs-held f env [] (t ∷ ss) q k = absurd k
subs-held f env (x ∷ rs) [] q k = absurd k
subs-held f env (x ∷ rs) (t ∷ ss) q k =
    subst (λ (n : ℕ). Alike (cond (n == q) (rows_held t.rows) (held_by ss q)) (rows_found (cond (x.id == q) (Some x) (first (is_quant q) rs)) f env)) (sym k.0)
    (elim (x.id == q) as (λ b. Alike (cond b (rows_held t.rows) (held_by ss q)) (rows_found (cond b (Some x) (first (is_quant q) rs)) f env)) [
      | true ↦ k.1
      | false ↦ subs-held f env rs ss q k.2
    ])

free-past : (r : OwnedQuant) (rs : List OwnedQuant) (q : ℕ) → (r.id == q) ≡ false → first (is_quant q) (cond (not (is_F r.kind)) (r ∷ filter isnt_F rs) (filter isnt_F rs)) ≡ first (is_quant q) (filter isnt_F rs)
free-past r rs q e =
    elim (is_F r.kind) as (λ b. first (is_quant q) (cond (not b) (r ∷ filter isnt_F rs) (filter isnt_F rs)) ≡ first (is_quant q) (filter isnt_F rs)) [
      | true ↦ refl
      | false ↦ ap (λ (b : Bool). cond b (Some r) (first (is_quant q) (filter isnt_F rs))) e
    ]

-- a quantifier that binds no rows is the first of its number among those that bind none
first-free : (rs : List OwnedQuant) (q : ℕ) → binds_F (first (is_quant q) rs) ≡ false → first (is_quant q) (filter isnt_F rs) ≡ first (is_quant q) rs
first-free [] q h = refl
first-free (r ∷ rs) q h =
    elim (r.id == q) as (λ b. binds_F (cond b (Some r) (first (is_quant q) rs)) ≡ false → r.id == q ≡ b → first (is_quant q) (cond (not (is_F r.kind)) (r ∷ filter isnt_F rs) (filter isnt_F rs)) ≡ cond b (Some r) (first (is_quant q) rs)) [
      | true ↦ λ f e. ap (λ (b : Bool). first (is_quant q) (cond (not b) (r ∷ filter isnt_F rs) (filter isnt_F rs))) f ∙ ap (λ (b : Bool). cond b (Some r) (first (is_quant q) (filter isnt_F rs))) e
      | false ↦ λ f e. free-past r rs q e ∙ first-free rs q f
    ] h refl

-- conditions and head are the same over rows of the quantifiers that bind none
pub given-free : (f : Family) (n : Node) (below : List Node) (ss : List Sub) (env : Environment) → Fit n below → SubsOf f env (filter isnt_F n.quants) ss → given (held_by ss) n env ≡ given_by (quant_rows n f) n env
given-free f n below ss env fit subs =
    let free = λ (q : ℕ). rows_found (first (is_quant q) (filter isnt_F n.quants)) f env in
    let same : (q : ℕ) → names_in_box n q ≡ true → free q ≡ quant_rows n f q env = λ q h. ap (λ (o : Option OwnedQuant). rows_found o f env) (first-free n.quants q (fit.nodes q h)) in
    given-alike n (λ q e. held_by ss q) (λ q e. free q) env (λ q. subs-held f env (filter isnt_F n.quants) ss q subs)
    ∙ ap₂ (λ (l : Truth) (cells : List Cell). keep l.t (unit cells))
    (all_true-nodes free (λ q. quant_rows n f q env) n.parts.conds.items env (λ q h. same q (or_left (list_any (names_cond q) n.parts.conds.items) (list_any (names q) n.parts.head) h)))
    (head-nodes free (λ q. quant_rows n f q env) n.parts.head env (λ q h. same q (or_right (list_any (names_cond q) n.parts.conds.items) (list_any (names q) n.parts.head) h)))

pub given-at : (at : At) → Planned at → (ss ts : List Sub) (env : Environment) → ts ≡ ss → SubsOf (family at) env (filter isnt_F (ranges at.loops.now)) ss → given (held_by ts) at.node.now env ≡ given_by (quant_rows at.node.now (family at)) at.node.now env
given-at at plan ss ts env e subs =
    ap (λ (us : List Sub). given (held_by us) at.node.now env) e
    ∙ given-free (family at) at.node.now at.below.now ss env plan.fit (subst (λ (rs : List OwnedQuant). SubsOf (family at) env (filter isnt_F rs) ss) plan.ranged subs)

pub free-more : (rs : List OwnedQuant) (i : ℕ) (r : OwnedQuant) → i < length rs → r ≡ get_or rs i r → is_F r.kind ≡ false → filter isnt_F (take (i + 1) rs) ≡ filter isnt_F (take i rs) ++ r ∷ []
free-more rs i r l at h =
    ap (filter isnt_F) (take_more rs i r l ∙ ap (λ (x : OwnedQuant). take i rs ++ x ∷ []) (sym at))
    ∙ filter-append isnt_F (take i rs) (r ∷ [])
    ∙ ap (λ (b : Bool). filter isnt_F (take i rs) ++ cond (not b) (r ∷ []) []) h

pub free-same : (rs : List OwnedQuant) (i : ℕ) (r : OwnedQuant) → i < length rs → r ≡ get_or rs i r → is_F r.kind ≡ true → filter isnt_F (take (i + 1) rs) ≡ filter isnt_F (take i rs)
free-same rs i r l at h =
    ap (filter isnt_F) (take_more rs i r l ∙ ap (λ (x : OwnedQuant). take i rs ++ x ∷ []) (sym at))
    ∙ filter-append isnt_F (take i rs) (r ∷ [])
    ∙ ap (λ (b : Bool). filter isnt_F (take i rs) ++ cond (not b) (r ∷ []) []) h
    ∙ append-nil (filter isnt_F (take i rs))

-- ---- boxes of one and of two quantifiers

one-first : (at : At) → Planned at → (l : Loop) → 0 < length at.loops.now → l ≡ get_or at.loops.now 0 l → (f : ℕ → Bag) → of_one at.node.now.quants f ≡ f l.range.id
one-first at plan l h e f = ap (λ (rs : List OwnedQuant). of_one rs f) (placed at plan 0 l h e).0

two-first : (at : At) → Planned at → (p q : Loop) → 2 ≤ length at.loops.now → p ≡ get_or at.loops.now 0 p → q ≡ get_or at.loops.now 1 q → (f : ℕ → ℕ → Bag) → of_two at.node.now.quants f ≡ f p.range.id q.range.id
two-first at plan p q h e k f =
    let first : at.node.now.quants ≡ p.range ∷ drop 1 at.node.now.quants = (placed at plan 0 p (omega (arith, h)) e).0 in
    let second : drop 1 at.node.now.quants ≡ q.range ∷ drop 2 at.node.now.quants = (placed at plan 1 q (omega (arith, h)) k).0 in
    ap (λ (rs : List OwnedQuant). of_two rs f) (first ∙ ap (λ (rs : List OwnedQuant). p.range ∷ rs) second)

-- what the boxes under two quantifiers take
pub two-at : (at : At) → Planned at → (p q : Loop) (count : Counts) (env : Environment) → 2 ≤ length at.loops.now → p ≡ get_or at.loops.now 0 p → q ≡ get_or at.loops.now 1 q → count p.range.over env + count q.range.over env ≤ under_each at.node.now.quants count env
two-at at plan p q count env h e k =
    two-under at.node.now.quants count env p.range q.range (drop 1 at.node.now.quants) (drop 2 at.node.now.quants) (placed at plan 0 p (omega (arith, h)) e).0 (placed at plan 1 q (omega (arith, h)) k).0

-- the rows of a group box
pub group-rows : (at : At) → Planned at → (l : Loop) (keys : ℕ) (env : Environment) (rows made : Bag) → 0 < length at.loops.now → l ≡ get_or at.loops.now 0 l → Alike rows (family at l.range.over env)
    → Alike made (grouped_rows keys at.node.now.parts.head l.range.id env rows) → Alike made (of_one at.node.now.quants (λ q. grouped_rows keys at.node.now.parts.head q env (quant_rows at.node.now (family at) q env)))
group-rows at plan l keys env rows made h e same is =
    alike-trans is
    (alike-trans (grouped_rows-alike keys at.node.now.parts.head l.range.id env (alike-trans same (alike-same (sym (quant-at at plan 0 l h e env)))))
    (alike-same (sym (one-first at plan l h e (λ q. grouped_rows keys at.node.now.parts.head q env (quant_rows at.node.now (family at) q env))))))

-- of a set operation
pub combined-rows : (at : At) → Planned at → (p q : Loop) (operator : SetOperator) (width : ℕ) (env : Environment) (xs ys made : Bag) → 2 ≤ length at.loops.now → p ≡ get_or at.loops.now 0 p → q ≡ get_or at.loops.now 1 q
    → Alike xs (family at p.range.over env) → Alike ys (family at q.range.over env) → Alike made (combined operator width xs ys)
    → Alike made (of_two at.node.now.quants (λ p q. combined operator width (quant_rows at.node.now (family at) p env) (quant_rows at.node.now (family at) q env)))
combined-rows at plan p q operator width env xs ys made h e k u v is =
    alike-trans is
    (alike-trans
    (combined-alike operator width (alike-trans u (alike-same (sym (quant-at at plan 0 p (omega (arith, h)) e env)))) (alike-trans v (alike-same (sym (quant-at at plan 1 q (omega (arith, h)) k env)))))
    (alike-same (sym (two-first at plan p q h e k (λ p q. combined operator width (quant_rows at.node.now (family at) p env) (quant_rows at.node.now (family at) q env))))))

joined-alike : (n : Node) (p q : ℕ) {xs ys us vs : Bag} (env : Environment) → Alike xs us → Alike ys vs → Alike (joined_rows n p q xs ys env) (joined_rows n p q us vs env)
joined-alike n p q {ys = ys} {vs = vs} env h k =
    alike-bind h (λ left. or_else-alike (partner_rows n p q left ys env) (partner_rows n p q left vs env) (null_row n p q left env) (alike-bind {f = λ b. given nothing n (bound q b (bound p left env))} k (λ b. alike-refl (given nothing n (bound q b (bound p left env))))))

-- of an outer join
pub outer-rows : (at : At) → Planned at → (p q : Loop) (env : Environment) (xs ys made : Bag) → 2 ≤ length at.loops.now → p ≡ get_or at.loops.now 0 p → q ≡ get_or at.loops.now 1 q
    → Alike xs (family at p.range.over env) → Alike ys (family at q.range.over env) → Alike made (joined_rows at.node.now p.range.id q.range.id xs ys env)
    → Alike made (of_two at.node.now.quants (outer_rows at.node.now (quant_rows at.node.now (family at)) env))
outer-rows at plan p q env xs ys made h e k u v is =
    alike-trans is
    (alike-trans
    (joined-alike at.node.now p.range.id q.range.id env (alike-trans u (alike-same (sym (quant-at at plan 0 p (omega (arith, h)) e env)))) (alike-trans v (alike-same (sym (quant-at at plan 1 q (omega (arith, h)) k env)))))
    (alike-same (sym (two-first at plan p q h e k (outer_rows at.node.now (quant_rows at.node.now (family at)) env)))))
