-- How many rows boxes take, over boxes that are kept.
use Rattle.std.proofs.Common.{ℕ, suc, zero, ◌≡◌, ◌<◌, ◌+◌, Bool, true, false, cond, List, [], ◌∷◌, drop, get_or, length, position, slice_get, Option, Some, add-one, refl, sym, ◌∙◌, ap, subst, arith, eqb-true}
use Rattle.std.proofs.lemmas.List.Quantifiers.{position-Some}
use Rattle.row_bag.specs.Bags.{if_there}
use Rattle.row_bag.specs.declared.tables.Table.{Table}
use Rattle.sql_value.specs.declared.cell.Cell.{Cell}
use Rattle.sql_value.specs.declared.level.Level.{Level}
use Rattle.sql_value.specs.declared.level.Level.TheVariants.{No, Cardinality, Division, Overflow, Yes}
use Rattle.qgm_core.specs.Boxes.{Ordered, is_box}
use Rattle.qgm_core.specs.declared.node.Node.{Node}
use Rattle.qgm_meaning.specs.Meaning.{bag_in}
use Rattle.qgm_meaning.specs.Values.{Bag, Environment}
use Rattle.box_exec.specs.Costs.{Keeps, is_held}
use Rattle.box_exec.specs.Taken.{taken_by}
use Rattle.box_exec.specs.Takings.{AllSeek, asked_takings, keys_by, order_by, takings}
use Rattle.box_exec.specs.declared.lookup.Keyed.{Keyed}
use Rattle.box_exec.specs.declared.order.Order.{Order}
use Rattle.box_exec.specs.declared.plan.Plan.{Plan}
use Rattle.row_bag.specs.declared.operand.Operand.{Operand}
use Rattle.box_exec.proofs.Evaluations.{each_row, keeps-drop}
use Rattle.box_exec.proofs.Loops.{from}

-- ---- the boxes behind a box

pub ordered-drop : (ns : List Node) (i : ℕ) → Ordered ns → Ordered (drop i ns)
ordered-drop ns zero h = h
ordered-drop [] (suc i) h = h
ordered-drop (n ∷ ns) (suc i) h = ordered-drop ns i h.2

pub ordered-at : (ns : List Node) (i : ℕ) (n : Node) → i < length ns → n ≡ get_or ns i n → Ordered ns → Ordered (n ∷ drop (i + 1) ns)
ordered-at ns i n l at h = subst Ordered (from ns i n l ∙ ap (λ (m : Node). m ∷ drop (i + 1) ns) (sym at)) (ordered-drop ns i h)

seek-drop : (kept : ℕ → Bool) (plans : List (Option Plan)) (ns : List Node) (i : ℕ) → AllSeek kept plans ns → AllSeek kept plans (drop i ns)
seek-drop kept plans ns zero h = h
seek-drop kept plans [] (suc i) h = h
seek-drop kept plans (n ∷ ns) (suc i) h = seek-drop kept plans ns i h.1

pub seek-at : (kept : ℕ → Bool) (plans : List (Option Plan)) (ns : List Node) (i : ℕ) (n : Node) → i < length ns → n ≡ get_or ns i n → AllSeek kept plans ns → AllSeek kept plans (n ∷ drop (i + 1) ns)
seek-at kept plans ns i n l at h = subst (AllSeek kept plans) (from ns i n l ∙ ap (λ (m : Node). m ∷ drop (i + 1) ns) (sym at)) (seek-drop kept plans ns i h)

-- ---- what a box takes

takings-first : (tables : List Table) (kept : ℕ → Bool) (ns : List Node) (b i : ℕ) (d : Node) (env : Environment) → i < length ns → is_box b (get_or ns i d) ≡ true → ((k : ℕ) → k < i → is_box b (get_or ns k d) ≡ false)
    → takings tables kept ns b env ≡ taken_by kept (get_or ns i d).parts.kind (get_or ns i d) (bag_in tables (drop (suc i) ns)) (asked_takings tables kept (drop (suc i) ns)) env
takings-first tables kept [] b i d env l t before = absurd (omega (arith, l))
takings-first tables kept (n ∷ ns) b zero d env l t before = ap (λ (x : Bool). cond x (taken_by kept n.parts.kind n (bag_in tables ns) (asked_takings tables kept ns) env) (takings tables kept ns b env)) t
takings-first tables kept (n ∷ ns) b (suc i) d env l t before =
    ap (λ (x : Bool). cond x (taken_by kept n.parts.kind n (bag_in tables ns) (asked_takings tables kept ns) env) (takings tables kept ns b env)) (before zero (omega arith))
    ∙ takings-first tables kept ns b i d env (omega (arith, l)) t (λ k m. before (suc k) (omega (arith, m)))

pub takings-at : (tables : List Table) (kept : ℕ → Bool) (ns : List Node) (b i : ℕ) (n : Node) (env : Environment) → position (is_box b) ns ≡ Some i → n ≡ get_or ns i n
    → takings tables kept ns b env ≡ taken_by kept n.parts.kind n (bag_in tables (drop (i + 1) ns)) (asked_takings tables kept (drop (i + 1) ns)) env
takings-at tables kept ns b i n env e at =
    let h = position-Some (is_box b) ns i n e in
    takings-first tables kept ns b i n env h.0 h.1 h.2
    ∙ ap (λ (m : Node). taken_by kept m.parts.kind m (bag_in tables (drop (suc i) ns)) (asked_takings tables kept (drop (suc i) ns)) env) (sym at)
    ∙ ap (λ (k : ℕ). taken_by kept n.parts.kind n (bag_in tables (drop k ns)) (asked_takings tables kept (drop k ns)) env) (sym (add-one i))

-- a box without kept rows takes what its evaluation takes
pub takes-under : (tables : List Table) (memo : List (Option Operand)) (ns : List Node) (b i : ℕ) (n : Node) → position (is_box b) ns ≡ Some i → n ≡ get_or ns i n → is_held (slice_get memo (length (drop (i + 1) ns))) ≡ false
    → (kept : ℕ → Bool) → Keeps memo kept ns → (env : Environment) → asked_takings tables kept ns b env ≡ taken_by kept n.parts.kind n (bag_in tables (drop (i + 1) ns)) (asked_takings tables kept (drop (i + 1) ns)) env
takes-under tables memo ns b i n e at unheld kept keeps env =
    let h = position-Some (is_box b) ns i n e in
    let here : Keeps memo kept (n ∷ drop (i + 1) ns) = subst (Keeps memo kept) (from ns i n h.0 ∙ ap (λ (m : Node). m ∷ drop (i + 1) ns) (sym at)) (keeps-drop memo kept ns i keeps) in
    let named : n.id ≡ b = eqb-true n.id b (ap (λ (m : Node). is_box b m) at ∙ h.1) in
    let free : kept b ≡ false = ap kept (sym named) ∙ sym here.0 ∙ unheld in
    ap (λ (x : Bool). cond x 0 (takings tables kept ns b env)) free ∙ takings-at tables kept ns b i n env e at

-- ---- sums over rows

there-sum : (f g : List Cell → ℕ) (c : List Cell) (l : Level) → if_there 0 (λ cells k. f cells) c l + if_there 0 (λ cells k. g cells) c l ≡ if_there 0 (λ cells k. f cells + g cells) c l
there-sum f g c No = omega arith
there-sum f g c Cardinality = omega arith
there-sum f g c Division = omega arith
there-sum f g c Overflow = omega arith
there-sum f g c Yes = omega arith

pub each-sum : (f g : List Cell → ℕ) (rows : Bag) → each_row f rows + each_row g rows ≡ each_row (λ cells. f cells + g cells) rows
each-sum f g [] = omega arith
each-sum f g (r ∷ rows) = let h = each-sum f g rows in let k = there-sum f g r.cells r.level in omega (arith, h, k)

-- ---- the order of a plan

pub order-none : (n : Node) (ks : List (Option Keyed)) (os : List Order) → length os < 1 → (order_by n os ≡ n.quants) × (keys_by ks os ≡ ks)
order-none n ks [] l = (refl, refl)
order-none n ks (o ∷ os) l = absurd (omega (arith, l))

pub order-some : (n : Node) (ks : List (Option Keyed)) (os : List Order) (o : Order) → 0 < length os → o ≡ get_or os 0 o → (order_by n os ≡ o.ranges.items) × (keys_by ks os ≡ o.keyed.items)
order-some n ks [] o l at = absurd (omega (arith, l))
order-some n ks (p ∷ os) o l at = (ap (λ (x : Order). x.ranges.items) (sym at), ap (λ (x : Order). x.keyed.items) (sym at))
