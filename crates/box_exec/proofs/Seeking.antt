-- Rows that are taken are those that the definition of ways takes.
use Rattle.std.proofs.Common.{ℕ, suc, zero, ◌≡◌, ◌<◌, ◌+◌, ◌∷◌, ◌||◌, ◌&&◌, not, cond, All, Bool, true, false, List, [], Option, Some, None, drop, get_or, length, map, position, slice_get, refl, sym, ap, ap₂, subst, ◌∙◌, eqb-true, inl, inr, arith}
use Rattle.std.specs.List.{list_all, list_any}
use Rattle.std.proofs.lemmas.Bool.{cases_Bool, or_left, or_right}
use Rattle.std.proofs.lemmas.List.Quantifiers.{position-Some}
use Rattle.list_laws.specs.Lists.{In}
use Rattle.list_laws.proofs.Booleans.{clash}
use Rattle.list_laws.proofs.Membership.{all-in}
use Rattle.sql_value.specs.declared.cell.Cell.{Cell}
use Rattle.sql_value.specs.declared.level.Level.{Level}
use Rattle.sql_value.specs.declared.level.Level.TheVariants.{No, Cardinality, Division, Overflow, Yes}
use Rattle.qgm_core.specs.Boxes.{Ordered, has_box, is_box}
use Rattle.qgm_core.specs.Kinds.{is_F}
use Rattle.qgm_core.specs.declared.node.Node.{Node}
use Rattle.qgm_core.specs.declared.owned.OwnedQuant.{OwnedQuant}
use Rattle.qgm_meaning.specs.Meaning.{Family}
use Rattle.qgm_meaning.specs.Values.{Bag, Environment, bound}
use Rattle.box_exec.specs.Asked.{keys_at}
use Rattle.box_exec.specs.Costs.{Between, Keeps, at_level, is_held}
use Rattle.box_exec.specs.Early.{is_none, is_open}
use Rattle.box_exec.specs.Hashed.{AllKept}
use Rattle.box_exec.specs.Ready.{Held}
use Rattle.box_exec.specs.Sought.{AllSought, OpensAs}
use Rattle.box_exec.specs.Taken.{Match, in_turn, is_taken, matches, takes, ways}
use Rattle.box_exec.specs.Takings.{Seeks, keys_by, order_by}
use Rattle.box_exec.specs.declared.lookup.Keyed.{Keyed}
use Rattle.box_exec.specs.declared.order.Order.{Order}
use Rattle.row_bag.specs.declared.operand.Operand.{Operand}
use Rattle.box_exec.specs.declared.under.Loop.{Loop}
use Rattle.box_exec.specs.declared.under.Under.{Under}
use Rattle.box_exec.proofs.Evaluations.{each_row, keeps-drop}
use Rattle.box_exec.proofs.Loops.{from}
use Rattle.box_exec.proofs.Places.{not-there}
use Rattle.box_exec.proofs.Tails.{overs-here}

-- ---- what is open

pub held-is : (o : Option (Option Operand)) (rows : Bag) → Held o rows → is_held o ≡ true
held-is None rows h = absurd h
held-is (Some None) rows h = absurd h
held-is (Some (Some s)) rows h = refl

-- whether the rows of a box that stands among these are held
kept-as-held : (memo : List (Option Operand)) (ns behind : List Node) (b i : ℕ) → position (is_box b) ns ≡ Some i → behind ≡ drop (i + 1) ns → (kept : ℕ → Bool) → Keeps memo kept ns → is_held (slice_get memo (length behind)) ≡ kept b
kept-as-held memo [] behind b i e is kept keeps = absurd (let z : ⊥ = cc in z)
kept-as-held memo (m ∷ ms) behind b i e is kept keeps =
    let ns : List Node = m ∷ ms in
    let h = position-Some (is_box b) ns i m e in
    let n = get_or ns i m in
    let here : Keeps memo kept (n ∷ drop (i + 1) ns) = subst (Keeps memo kept) (from ns i m h.0) (keeps-drop memo kept ns i keeps) in
    ap (λ (xs : List Node). is_held (slice_get memo (length xs))) is ∙ here.0 ∙ ap kept (eqb-true n.id b h.1)

pub held-opens : (memo : List (Option Operand)) (ns behind : List Node) (b i : ℕ) → position (is_box b) ns ≡ Some i → behind ≡ drop (i + 1) ns → is_held (slice_get memo (length behind)) ≡ true → (kept : ℕ → Bool) → Keeps memo kept ns → false ≡ not (kept b)
held-opens memo ns behind b i e is held kept keeps = ap not (sym held ∙ kept-as-held memo ns behind b i e is kept keeps)

pub unheld-opens : (memo : List (Option Operand)) (ns behind : List Node) (b i : ℕ) → position (is_box b) ns ≡ Some i → behind ≡ drop (i + 1) ns → is_held (slice_get memo (length behind)) ≡ false → (kept : ℕ → Bool) → Keeps memo kept ns → true ≡ not (kept b)
unheld-opens memo ns behind b i e is held kept keeps = ap not (sym held ∙ kept-as-held memo ns behind b i e is kept keeps)

pub absent-opens : (memo : List (Option Operand)) (ns : List Node) (b : ℕ) (u : Under) → position (is_box b) ns ≡ None → OpensAs memo ns b u
absent-opens memo ns b u e kept keeps there = absurd (clash (has_box ns b) there (not-there ns b e))

-- something under these quantifiers is open where they range over a box that isn't kept
pub any-open : (memo : List (Option Operand)) (below : List Node) (kept : ℕ → Bool) (ls : List Loop) → Keeps memo kept below → All (λ l. OpensAs memo below l.range.over l.under) ls → ((r : OwnedQuant) → In r (map (λ (l : Loop). l.range) ls) → has_box below r.over ≡ true)
    → list_any (λ (l : Loop). is_open l.under) ls ≡ not (list_all (λ (r : OwnedQuant). kept r.over) (map (λ (l : Loop). l.range) ls))
any-open memo below kept [] keeps opens there = refl
any-open memo below kept (l ∷ ls) keeps opens there =
    let rest = any-open memo below kept ls keeps (λ k d m. opens (suc k) d (omega (arith, m))) (λ r i. there r (inr i)) in
    let here : is_open l.under ≡ not (kept l.range.over) = opens zero l (omega arith) kept keeps (there l.range (inl refl)) in
    ap₂ (λ (x y : Bool). x || y) here rest ∙ either (kept l.range.over) (list_all (λ (r : OwnedQuant). kept r.over) (map (λ (l : Loop). l.range) ls))
  where
    either : (a b : Bool) → (not a || not b) ≡ not (a && b)
    either true b = refl
    either false b = refl

pub all-shut : (ls : List Loop) → AllKept ls → list_any (λ (l : Loop). is_open l.under) ls ≡ false
all-shut [] h = refl
all-shut (l ∷ ls) h = ap₂ (λ (x y : Bool). x || y) (h zero l (omega arith)) (all-shut ls (λ k d m. h (suc k) d (omega (arith, m))))

not-false : (b : Bool) → not b ≡ false → b ≡ true
not-false true h = refl
not-false false h = absurd (let z : ⊥ = cc in z)

-- where nothing under these is open, nothing is under others over the same boxes
pub still-shut : (memo : List (Option Operand)) (below : List Node) (kept : ℕ → Bool) (ls ms : List Loop) → Keeps memo kept below → All (λ l. OpensAs memo below l.range.over l.under) ls → All (λ l. OpensAs memo below l.range.over l.under) ms
    → ((r : OwnedQuant) → In r (map (λ (l : Loop). l.range) ls) → has_box below r.over ≡ true) → ((r : OwnedQuant) → In r (map (λ (l : Loop). l.range) ms) → In r (map (λ (l : Loop). l.range) ls))
    → list_any (λ (l : Loop). is_open l.under) ls ≡ false → list_any (λ (l : Loop). is_open l.under) ms ≡ false
still-shut memo below kept ls [] keeps opens others there among shut = refl
still-shut memo below kept ls (m ∷ ms) keeps opens others there among shut =
    let all : list_all (λ (r : OwnedQuant). kept r.over) (map (λ (l : Loop). l.range) ls) ≡ true = not-false (list_all (λ (r : OwnedQuant). kept r.over) (map (λ (l : Loop). l.range) ls)) (sym (any-open memo below kept ls keeps opens there) ∙ shut) in
    let i = among m.range (inl refl) in
    let here : is_open m.under ≡ false = others zero m (omega arith) kept keeps (there m.range i) ∙ ap not (all-in (λ (r : OwnedQuant). kept r.over) m.range (map (λ (l : Loop). l.range) ls) all i) in
    ap₂ (λ (x y : Bool). x || y) here (still-shut memo below kept ls ms keeps opens (λ k d l. others (suc k) d (omega (arith, l))) there (λ r j. among r (inr j)) shut)

-- ---- the order and the keys of a plan

pub keys-either : (n : Node) (ks : List (Option Keyed)) (os : List Order) → All (λ o. AllSought n o.ranges.items o.keyed.items) os → AllSought n n.quants ks → AllSought n (order_by n os) (keys_by ks os)
keys-either n ks [] all text = text
keys-either n ks (o ∷ os) all text = all zero o (omega arith)

pub keys-some : (n : Node) (ks : List (Option Keyed)) (os : List Order) → 0 < length os → All (λ o. AllSought n o.ranges.items o.keyed.items) os → AllSought n (order_by n os) (keys_by ks os)
keys-some n ks [] l all = absurd (omega (arith, l))
keys-some n ks (o ∷ os) l all = all zero o (omega arith)

module _ (n : Node) (memo : List (Option Operand)) (below : List Node) (kept : ℕ → Bool) (ls : List Loop) (ks : List (Option Keyed)) (os : List Order) (ranged : map (λ (l : Loop). l.range) ls ≡ n.quants) (keeps : Keeps memo kept below) (ordered : Ordered (n ∷ below))
    (opens : All (λ l. OpensAs memo below l.range.over l.under) ls) where
  abbrev opened : Bool
  opened = list_any (λ (l : Loop). is_open l.under) ls

  abbrev all-kept : Bool
  all-kept = list_all (λ (r : OwnedQuant). kept r.over) n.quants

  opened-is : opened ≡ not all-kept
  opened-is =
      any-open memo below kept ls keeps opens (λ r i. overs-here below n r ordered (subst (In r) ranged i))
      ∙ ap (λ (rs : List OwnedQuant). not (list_all (λ (r : OwnedQuant). kept r.over) rs)) ranged

  not-true : (b : Bool) → not b ≡ true → b ≡ false
  not-true true h = absurd (let z : ⊥ = cc in z)
  not-true false h = refl

  pub seeks-of : (opened ≡ true → os ≡ []) → (opened ≡ false → order_by n os ≡ in_turn n (length n.quants) n.quants) → AllSought n (order_by n os) (keys_by ks os) → Seeks kept n ks os
  seeks-of text turn keys = record {
    order = elim (cases_Bool opened) [
      | inl h ↦ ap (order_by n) (text h) ∙ sym (ap (λ (b : Bool). cond b (in_turn n (length n.quants) n.quants) n.quants) (not-true all-kept (sym opened-is ∙ h)))
      | inr h ↦ turn h ∙ sym (ap (λ (b : Bool). cond b (in_turn n (length n.quants) n.quants) n.quants) (not-false all-kept (sym opened-is ∙ h)))
    ];
    keys = keys;
    text = λ h. text (opened-is ∙ ap not h);
  }

-- ---- ways, row by row

pub there-all : (level : Level) (n : ℕ) → is_none level ≡ false → at_level level n ≡ n
there-all No n h = absurd (let z : ⊥ = cc in z)
there-all Cardinality n h = refl
there-all Division n h = refl
there-all Overflow n h = refl
there-all Yes n h = refl

one-and : (level : Level) (n : ℕ) → at_level level 1 + at_level level n ≡ at_level level (1 + n)
one-and No n = refl
one-and Cardinality n = refl
one-and Division n = refl
one-and Overflow n = refl
one-and Yes n = refl

module _ (closed : ℕ → Bool) (n : Node) (rs : List OwnedQuant) (bags : Family) where
  abbrev left-from : ℕ → Environment → ℕ
  left-from k env = ways closed n (drop k rs) bags env

  -- the ways that begin with a row
  abbrev pub row_ways : ℕ → OwnedQuant → Environment → List Cell → ℕ
  row_ways k r env cells = cond (is_taken closed n r (drop (k + 1) rs) env cells) (1 + left-from (k + 1) (bound r.id cells env)) 0

  module _ (k : ℕ) (r : OwnedQuant) (l : k < length rs) (at : r ≡ get_or rs k r) where
    here-and : drop k rs ≡ r ∷ drop (k + 1) rs
    here-and = from rs k r l ∙ ap (λ (x : OwnedQuant). x ∷ drop (k + 1) rs) (sym at)

    pub ways-over : is_F r.kind ≡ false → (env : Environment) → left-from k env ≡ left-from (k + 1) env
    ways-over f env =
        ap (λ (xs : List OwnedQuant). ways closed n xs bags env) here-and
        ∙ ap (λ (b : Bool). cond b (each_row (row_ways k r env) (bags r.over env)) (left-from (k + 1) env)) f

    pub ways-bound : is_F r.kind ≡ true → (env : Environment) → left-from k env ≡ each_row (row_ways k r env) (bags r.over env)
    ways-bound f env =
        ap (λ (xs : List OwnedQuant). ways closed n xs bags env) here-and
        ∙ ap (λ (b : Bool). cond b (each_row (row_ways k r env) (bags r.over env)) (left-from (k + 1) env)) f

    -- a row that its keys take is taken
    pub taken-here : (ks : List (Option Keyed)) (env : Environment) (cells : List Cell) → AllSought n rs ks → is_F r.kind ≡ true → takes (keys_at ks k) r.id env cells ≡ true → is_taken closed n r (drop (k + 1) rs) env cells ≡ true
    taken-here ks env cells sought f t =
        or_right (not (closed r.over)) (takes (matches n r (drop (k + 1) rs)) r.id env cells) (subst (λ (ms : List Match). takes ms r.id env cells ≡ true) (sought k r l at f) t)

    -- and so is each of an open box
    pub taken-open : (env : Environment) (cells : List Cell) → closed r.over ≡ false → is_taken closed n r (drop (k + 1) rs) env cells ≡ true
    taken-open env cells h = or_left (not (closed r.over)) (takes (matches n r (drop (k + 1) rs)) r.id env cells) (ap not h)

    -- one row is taken, and then those of the quantifiers behind
    pub row-counts : (level : Level) (env : Environment) (cells : List Cell) (s t u : ℕ) → is_taken closed n r (drop (k + 1) rs) env cells ≡ true
        → Between 0 (at_level level 1) s t → Between 0 (at_level level (left-from (k + 1) (bound r.id cells env))) t u → Between 0 (at_level level (row_ways k r env cells)) s u
    row-counts level env cells s t u is one rest =
        let e : row_ways k r env cells ≡ 1 + left-from (k + 1) (bound r.id cells env) = ap (λ (b : Bool). cond b (1 + left-from (k + 1) (bound r.id cells env)) 0) is in
        let sum = one-and level (left-from (k + 1) (bound r.id cells env)) in
        subst (λ (m : ℕ). Between 0 (at_level level m) s u) (sym e) (omega (arith, one.0, rest.0), omega (arith, one.1, rest.1, sum))

    -- and some more
    pub row-counts-more : (more : ℕ) (level : Level) (env : Environment) (cells : List Cell) (s t u : ℕ) → is_taken closed n r (drop (k + 1) rs) env cells ≡ true
        → Between 0 (at_level level 1) s t → Between 0 (at_level level (left-from (k + 1) (bound r.id cells env) + more)) t u → Between 0 (at_level level (row_ways k r env cells + more)) s u
    row-counts-more more level env cells s t u is one rest =
        let e : row_ways k r env cells + more ≡ 1 + (left-from (k + 1) (bound r.id cells env) + more) = ap (λ (b : Bool). cond b (1 + left-from (k + 1) (bound r.id cells env)) 0 + more) is ∙ omega arith in
        let sum = one-and level (left-from (k + 1) (bound r.id cells env) + more) in
        subst (λ (m : ℕ). Between 0 (at_level level m) s u) (sym e) (omega (arith, one.0, rest.0), omega (arith, one.1, rest.1, sum))
