-- A box gives the same in environments that are one where it looks them up.
use Rattle.std.proofs.Common.{ℕ, zero, suc, ◌==◌, ◌≡◌, ◌&&◌, ◌||◌, cond, Bool, true, false, List, [], ◌∷◌, ◌++◌, map, take, drop, length, Option, Some, None, refl, ap, ap₂, ◌∙◌, ◌⊎◌, inl, inr}
use Rattle.std.specs.List.{list_any}
use Rattle.std.specs.Prelude as p
use Rattle.std.proofs.lemmas.Bool.{cases_Bool, or_left, or_right}
use mathlib.Core.Path.{fun_ext}
use Rattle.row_bag.specs.Bags.{bind, keep, total, unit}
use Rattle.row_bag.specs.Errors.{error_in}
use Rattle.row_bag.specs.Order.{cell_of}
use Rattle.row_bag.specs.Sets.{collapsed, failed_cells, grouped, same_cells}
use Rattle.row_bag.specs.declared.tables.Table.{Table}
use Rattle.sql_value.specs.Arithmetic as a
use Rattle.sql_value.specs.Comparison as c
use Rattle.sql_value.specs.Truths as t
use Rattle.sql_value.specs.declared.cell.Cell.{Cell}
use Rattle.sql_value.specs.declared.truth.Truth.{Truth}
use Rattle.qgm_core.specs.declared.node.Node.{Node}
use Rattle.qgm_core.specs.declared.owned.OwnedQuant.{OwnedQuant}
use Rattle.qgm_core.specs.declared.kinds.BoxKind.{BoxKind}
use Rattle.qgm_core.specs.declared.kinds.BoxKind.TheVariants.{Base, Select, Group, SetOp, OuterJoin}
use Rattle.list_laws.specs.Lists.{first}
use Rattle.qgm_core.specs.Kinds.{is_F, is_enforce}
use Rattle.qgm_core.specs.Boxes.{is_quant}
use Rattle.row_bag.specs.Aggregates.{folded}
use Rattle.qgm_meaning.specs.Aggregated.{aggregate_of, taken_of}
use Rattle.row_bag.specs.Subqueries.{presence}
use Rattle.row_bag.specs.Joins.{or_else}
use Rattle.qgm_meaning.specs.Meaning.{Family, bag_in, combined, fold_cell, fold_cells, given, given_by, grouped_rows, groups, key_cells, nothing, of_one, of_two, once_if, outer_rows, over_each, quant_rows, rows_by, rows_found, rows_of}
use Rattle.qgm_meaning.specs.Scope.{looks_found, quant_looks, loose, loose_by, loose_of, loose_each, read_beyond, read_by, under_any}
use Rattle.qgm_terms.specs.Terms.{Term, int, text, null_int, null_text, col, both, minus_of, choose, count_all, fold, scalar, Arms, no_arm, arm, Cond, always, compare, is_null, and, or, not, some, every}
use Rattle.qgm_terms.specs.Wanted.{reads, reads_cond}
use Rattle.qgm_meaning.specs.Searches.{reads_arms}
use Rattle.qgm_meaning.specs.Values.{Bag, Environment, all_true, bound, chosen_at, compared, first_true, head_cells, operate, row_of, truth, value}
use Rattle.list_laws.proofs.Membership.{eq-itself}

-- d and e have the same rows for the quantifiers that are looked up
pub record SameRows (looks : ℕ → Bool) (d e : Environment) : Type 0 where
  pub rows : (q : ℕ) → looks q ≡ true → row_of q d ≡ row_of q e

pub from-left : (f g : ℕ → Bool) {d e : Environment} → SameRows (λ q. f q || g q) d e → SameRows f d e
from-left f g h = record { rows = λ q t. h.rows q (or_left (f q) (g q) t) }

pub from-right : (f g : ℕ → Bool) {d e : Environment} → SameRows (λ q. f q || g q) d e → SameRows g d e
from-right f g h = record { rows = λ q t. h.rows q (or_right (f q) (g q) t) }

-- what is looked up beside a quantifier that is bound
pub bound-same : (f : ℕ → Bool) (r : ℕ) (cells : List Cell) {d e : Environment} → SameRows (λ q. p.not (r == q) && f q) d e → SameRows f (bound r cells d) (bound r cells e)
bound-same f r cells {d = d} {e = e} h = record { rows = λ q t. step q t (cases_Bool (r == q)) }
  where
    step : (q : ℕ) → f q ≡ true → ((r == q) ≡ true) ⊎ ((r == q) ≡ false) → cond (r == q) cells (row_of q d) ≡ cond (r == q) cells (row_of q e)
    step q t (inl u) = rw u refl
    step q t (inr u) = rw u (h.rows q (ap₂ (λ (x y : Bool). p.not x && y) u t))

module _ (rows : ℕ → Bag) where
  mutual
    pub value-framed : (x : Term) (d e : Environment) → SameRows (λ q. reads q x) d e → value rows x d ≡ value rows x e
    value-framed (int n) d e h = refl
    value-framed (text w) d e h = refl
    value-framed null_int d e h = refl
    value-framed null_text d e h = refl
    value-framed (col q k) d e h = ap (cell_of k) (h.rows q (eq-itself q))
    value-framed (both o x y) d e h = ap₂ (operate o) (value-framed x d e (from-left (λ q. reads q x) (λ q. reads q y) h)) (value-framed y d e (from-right (λ q. reads q x) (λ q. reads q y) h))
    value-framed (minus_of x) d e h = ap a.neg (value-framed x d e h)
    value-framed (choose w x) d e h = first_true-framed w _ _ d e (from-left (λ q. reads_arms q w) (λ q. reads q x) h) (value-framed x d e (from-right (λ q. reads_arms q w) (λ q. reads q x) h))
    value-framed count_all d e h = refl
    value-framed (fold f t x) d e h = refl
    value-framed (scalar q) d e h = refl

    first_true-framed : (w : Arms) (x y : Cell) (d e : Environment) → SameRows (λ q. reads_arms q w) d e → x ≡ y → first_true rows w x d ≡ first_true rows w y e
    first_true-framed no_arm x y d e h k = k
    first_true-framed (arm c z w) x y d e h k =
        let rest : SameRows (λ q. reads q z || reads_arms q w) d e = from-right (λ q. reads_cond q c) (λ q. reads q z || reads_arms q w) h in
        ap (λ (l : Truth). chosen_at l.t (value rows z d) (first_true rows w x d)) (truth-framed c d e (from-left (λ q. reads_cond q c) (λ q. reads q z || reads_arms q w) h))
        ∙ ap₂ (chosen_at (truth rows c e).t) (value-framed z d e (from-left (λ q. reads q z) (λ q. reads_arms q w) rest)) (first_true-framed w x y d e (from-right (λ q. reads q z) (λ q. reads_arms q w) rest) k)

    pub truth-framed : (c : Cond) (d e : Environment) → SameRows (λ q. reads_cond q c) d e → truth rows c d ≡ truth rows c e
    truth-framed always d e h = refl
    truth-framed (compare sign x y) d e h = ap₂ (compared sign) (value-framed x d e (from-left (λ q. reads q x) (λ q. reads q y) h)) (value-framed y d e (from-right (λ q. reads q x) (λ q. reads q y) h))
    truth-framed (is_null x) d e h = ap c.is_null (value-framed x d e h)
    truth-framed (and c b) d e h = ap₂ t.and (truth-framed c d e (from-left (λ q. reads_cond q c) (λ q. reads_cond q b) h)) (truth-framed b d e (from-right (λ q. reads_cond q c) (λ q. reads_cond q b) h))
    truth-framed (or c b) d e h = ap₂ t.or (truth-framed c d e (from-left (λ q. reads_cond q c) (λ q. reads_cond q b) h)) (truth-framed b d e (from-right (λ q. reads_cond q c) (λ q. reads_cond q b) h))
    truth-framed (not c) d e h = ap t.negated (truth-framed c d e h)
    truth-framed (some r c) d e h =
        ap (λ (f : List Cell → Truth). total t.or (t.truth_of false) (λ cells level. t.and (presence level) (f cells)) (rows r))
        (fun_ext (λ cells. truth-framed c (bound r cells d) (bound r cells e) (bound-same (λ q. reads_cond q c) r cells h)))
    truth-framed (every r c) d e h =
        ap (λ (f : List Cell → Truth). total t.and (t.truth_of true) (λ cells level. t.or (t.negated (presence level)) (f cells)) (rows r))
        (fun_ext (λ cells. truth-framed c (bound r cells d) (bound r cells e) (bound-same (λ q. reads_cond q c) r cells h)))

  pub all_true-framed : (ps : List Cond) (d e : Environment) → SameRows (λ q. list_any (reads_cond q) ps) d e → all_true rows ps d ≡ all_true rows ps e
  all_true-framed [] d e h = refl
  all_true-framed (c ∷ ps) d e h =
      ap₂ t.and (truth-framed c d e (from-left (λ q. reads_cond q c) (λ q. list_any (reads_cond q) ps) h)) (all_true-framed ps d e (from-right (λ q. reads_cond q c) (λ q. list_any (reads_cond q) ps) h))

  pub head-framed : (xs : List Term) (d e : Environment) → SameRows (λ q. list_any (reads q) xs) d e → head_cells rows xs d ≡ head_cells rows xs e
  head-framed [] d e h = refl
  head-framed (x ∷ xs) d e h =
      ap₂ (λ (c : Cell) (cs : List Cell). c ∷ cs) (value-framed x d e (from-left (λ q. reads q x) (λ q. list_any (reads q) xs) h)) (head-framed xs d e (from-right (λ q. reads q x) (λ q. list_any (reads q) xs) h))

  pub given-framed : (n : Node) (d e : Environment) → SameRows (read_by n) d e → given rows n d ≡ given rows n e
  given-framed n d e h =
      ap₂ (λ (l : Truth) (cells : List Cell). keep l.t (unit cells))
      (all_true-framed n.parts.conds.items d e (from-right (λ q. list_any (reads q) n.parts.head) (λ q. list_any (reads_cond q) n.parts.conds.items) h))
      (head-framed n.parts.head d e (from-left (λ q. list_any (reads q) n.parts.head) (λ q. list_any (reads_cond q) n.parts.conds.items) h))

-- ---- boxes

found-framed : (o : Option OwnedQuant) (below : Family) (look : ℕ → ℕ → Bool) {d e : Environment} → ((b : ℕ) → SameRows (look b) d e → below b d ≡ below b e) → SameRows (looks_found o look) d e → rows_found o below d ≡ rows_found o below e
found-framed None below look f h = refl
found-framed (Some r) below look f h = f r.over h

pub any-found : (rs : List OwnedQuant) (look : ℕ → ℕ → Bool) (x q : ℕ) → looks_found (first (is_quant x) rs) look q ≡ true → under_any rs look q ≡ true
any-found [] look x q t = t
any-found (r ∷ rs) look x q t = step (r.id == x) (any-found rs look x q) t
  where
    step : (b : Bool) → (looks_found (first (is_quant x) rs) look q ≡ true → under_any rs look q ≡ true) → looks_found (cond b (Some r) (first (is_quant x) rs)) look q ≡ true → (look r.over q || under_any rs look q) ≡ true
    step true k t = or_left (look r.over q) (under_any rs look q) t
    step false k t = or_right (look r.over q) (under_any rs look q) (k t)

-- over boxes that keep the law
module _ (n : Node) (below : Family) (look : ℕ → ℕ → Bool) (f : (b : ℕ) (d e : Environment) → SameRows (look b) d e → below b d ≡ below b e) where
  abbrev s : Family
  s = quant_rows n below

  pub quant-framed : (x : ℕ) (d e : Environment) → SameRows (quant_looks n look x) d e → s x d ≡ s x e
  quant-framed x d e h = found-framed (first (is_quant x) n.quants) below look (λ b. f b d e) h

  pub any-framed : (x : ℕ) (d e : Environment) → SameRows (under_any n.quants look) d e → s x d ≡ s x e
  any-framed x d e h = quant-framed x d e (record { rows = λ q t. h.rows q (any-found n.quants look x q t) })

  pub over_each-framed : (rs : List OwnedQuant) (d e : Environment) → SameRows (loose_each rs n look) d e → over_each rs s (given_by s n) d ≡ over_each rs s (given_by s n) e
  over_each-framed [] d e h =
      ap (λ (rows : ℕ → Bag). given rows n d) (fun_ext (λ x. any-framed x d e (from-right (read_by n) (under_any n.quants look) h)))
      ∙ given-framed (λ q. s q e) n d e (from-left (read_by n) (under_any n.quants look) h)
  over_each-framed (r ∷ rs) d e h =
      elim (is_F r.kind) as (λ t. SameRows (λ q. cond t (quant_looks n look r.id q || (p.not (r.id == q) && loose_each rs n look q)) (loose_each rs n look q)) d e → ◌≡◌ {A = Bag}
      (cond t (bind (s r.id d) (λ cells. over_each rs s (given_by s n) (bound r.id cells d))) (over_each rs s (given_by s n) d))
      (cond t (bind (s r.id e) (λ cells. over_each rs s (given_by s n) (bound r.id cells e))) (over_each rs s (given_by s n) e))) [
        | true ↦ λ h.
            ap₂ (λ (rows : Bag) (g : List Cell → Bag). bind rows g) (quant-framed r.id d e (from-left (quant_looks n look r.id) (λ q. p.not (r.id == q) && loose_each rs n look q) h))
            (fun_ext (λ cells. over_each-framed rs (bound r.id cells d) (bound r.id cells e) (bound-same (loose_each rs n look) r.id cells (from-right (quant_looks n look r.id) (λ q. p.not (r.id == q) && loose_each rs n look q) h))))
        | false ↦ λ h. over_each-framed rs d e h
      ] h

-- what is read beyond the first quantifier, or the first two, is all that is read where these are bound
beyond-one : (f : ℕ → Bool) (r : OwnedQuant) (rs : List OwnedQuant) (cells : List Cell) {d e : Environment} → SameRows (read_beyond (take 1 (r ∷ rs)) f) d e → SameRows f (bound r.id cells d) (bound r.id cells e)
beyond-one f r rs cells {d = d} {e = e} h = record { rows = λ q t. step q t (cases_Bool (r.id == q)) }
  where
    step : (q : ℕ) → f q ≡ true → ((r.id == q) ≡ true) ⊎ ((r.id == q) ≡ false) → cond (r.id == q) cells (row_of q d) ≡ cond (r.id == q) cells (row_of q e)
    step q t (inl u) = rw u refl
    step q t (inr u) = rw u (h.rows q (ap₂ (λ (x y : Bool). p.not (x || false) && y) u t))

beyond-two : (f : ℕ → Bool) (l r : OwnedQuant) (rs : List OwnedQuant) (a b : List Cell) {d e : Environment} → SameRows (read_beyond (take 2 (l ∷ r ∷ rs)) f) d e → SameRows f (bound r.id b (bound l.id a d)) (bound r.id b (bound l.id a e))
beyond-two f l r rs a b {d = d} {e = e} h = record { rows = λ q t. step q t (cases_Bool (r.id == q)) (cases_Bool (l.id == q)) }
  where
    step : (q : ℕ) → f q ≡ true → ((r.id == q) ≡ true) ⊎ ((r.id == q) ≡ false) → ((l.id == q) ≡ true) ⊎ ((l.id == q) ≡ false)
        → cond (r.id == q) b (cond (l.id == q) a (row_of q d)) ≡ cond (r.id == q) b (cond (l.id == q) a (row_of q e))
    step q t (inl u) v = rw u refl
    step q t (inr u) (inl v) = rw (u, v) refl
    step q t (inr u) (inr v) = rw (u, v) (h.rows q (rw (u, v, t) refl))

pub any-take : (f : Term → Bool) (k : ℕ) (xs : List Term) → list_any f (take k xs) ≡ true → list_any f xs ≡ true
any-take f zero xs t = cc t
any-take f (suc k) [] t = cc t
any-take f (suc k) (x ∷ xs) t = step (f x) (list_any f xs) (list_any f (take k xs)) (any-take f k xs) t
  where
    step : (a b b' : Bool) → (b' ≡ true → b ≡ true) → (a || b') ≡ true → (a || b) ≡ true
    step true b b' k t = refl
    step false b b' k t = k t

pub any-drop : (f : Term → Bool) (k : ℕ) (xs : List Term) → list_any f (drop k xs) ≡ true → list_any f xs ≡ true
any-drop f zero xs t = t
any-drop f (suc k) [] t = cc t
any-drop f (suc k) (x ∷ xs) t = or_right (f x) (list_any f xs) (any-drop f k xs t)

fold_cell-framed : (q : ℕ) (rows : Bag) (x : Term) (d e : Environment) → ((cells : List Cell) → SameRows (λ r. reads r x) (bound q cells d) (bound q cells e)) → fold_cell q d rows x ≡ fold_cell q e rows x
fold_cell-framed q rows (int n) d e h = refl
fold_cell-framed q rows (text s) d e h = refl
fold_cell-framed q rows null_int d e h = refl
fold_cell-framed q rows null_text d e h = refl
fold_cell-framed q rows (col r k) d e h = refl
fold_cell-framed q rows (both o x y) d e h = refl
fold_cell-framed q rows (minus_of x) d e h = refl
fold_cell-framed q rows (choose s x) d e h = refl
fold_cell-framed q rows count_all d e h = refl
fold_cell-framed q rows (fold f t x) d e h = ap (λ (g : List Cell → Cell). folded (aggregate_of f) (taken_of t) (bind rows (λ cells. unit (g cells)))) (fun_ext (λ cells. value-framed nothing x (bound q cells d) (bound q cells e) (h cells)))
fold_cell-framed q rows (scalar r) d e h = refl

folds-framed : (q : ℕ) (rows : Bag) (xs : List Term) (d e : Environment) → ((cells : List Cell) → SameRows (λ r. list_any (reads r) xs) (bound q cells d) (bound q cells e)) → map (fold_cell q d rows) xs ≡ map (fold_cell q e rows) xs
folds-framed q rows [] d e h = refl
folds-framed q rows (x ∷ xs) d e h =
    ap₂ (λ (c : Cell) (cs : List Cell). c ∷ cs) (fold_cell-framed q rows x d e (λ cells. from-left (λ r. reads r x) (λ r. list_any (reads r) xs) (h cells)))
    (folds-framed q rows xs d e (λ cells. from-right (λ r. reads r x) (λ r. list_any (reads r) xs) (h cells)))

module _ (head : List Term) (q : ℕ) (d e : Environment) (h : (cells : List Cell) → SameRows (λ r. list_any (reads r) head) (bound q cells d) (bound q cells e)) where
  keys-framed : (k : ℕ) → key_cells k head q d ≡ key_cells k head q e
  keys-framed k = fun_ext (λ cells. head-framed nothing (take k head) (bound q cells d) (bound q cells e) (record { rows = λ r t. (h cells).rows r (any-take (reads r) k head t) }))

  some_folds-framed : (k : ℕ) → fold_cells k head q d ≡ fold_cells k head q e
  some_folds-framed k = fun_ext (λ rows. folds-framed q rows (drop k head) d e (λ cells. record { rows = λ r t. (h cells).rows r (any-drop (reads r) k head t) }))

  groups-framed : (k : ℕ) (rows : Bag) → groups k head q d rows ≡ groups k head q e rows
  groups-framed zero rows = ap (λ (f : Bag → List Cell). unit (f rows)) (some_folds-framed zero)
  groups-framed (suc k) rows =
      ap₂ (λ (key : List Cell → List Cell) (f : Bag → List Cell). grouped same_cells key (λ c members. c ++ f members) rows) (keys-framed (suc k)) (some_folds-framed (suc k))

  grouped-framed : (k : ℕ) (rows : Bag) → grouped_rows k head q d rows ≡ grouped_rows k head q e rows
  grouped-framed k rows =
      ap₂ (λ (key : List Cell → List Cell) (given : Bag). collapsed (λ cells. error_in (key cells)) (failed_cells (length head)) rows given) (keys-framed k) (groups-framed k rows)

group-framed : (k : ℕ) (n : Node) (rs : List OwnedQuant) (s : Family) (d e : Environment) → ((q : ℕ) → s q d ≡ s q e) → SameRows (read_beyond (take 1 rs) (read_by n)) d e
    → of_one rs (λ q. grouped_rows k n.parts.head q d (s q d)) ≡ of_one rs (λ q. grouped_rows k n.parts.head q e (s q e))
group-framed k n [] s d e u h = refl
group-framed k n (r ∷ rs) s d e u h =
    ap (grouped_rows k n.parts.head r.id d) (u r.id)
    ∙ grouped-framed n.parts.head r.id d e (λ cells. from-left (λ q. list_any (reads q) n.parts.head) (λ q. list_any (reads_cond q) n.parts.conds.items) (beyond-one (read_by n) r rs cells h)) k (s r.id e)

outer-framed : (n : Node) (rs : List OwnedQuant) (s : Family) (d e : Environment) → ((q : ℕ) → s q d ≡ s q e) → SameRows (read_beyond (take 2 rs) (read_by n)) d e
    → of_two rs (outer_rows n s d) ≡ of_two rs (outer_rows n s e)
outer-framed n [] s d e u h = refl
outer-framed n (l ∷ []) s d e u h = refl
outer-framed n (l ∷ (r ∷ rs)) s d e u h =
    ap₂ (λ (xs : Bag) (g : List Cell → Bag). bind xs g) (u l.id) (fun_ext (λ a.
    ap₂ (λ (xs ys : Bag). or_else xs ys)
    (ap₂ (λ (xs : Bag) (g : List Cell → Bag). bind xs g) (u r.id) (fun_ext (λ b. given-framed nothing n (bound r.id b (bound l.id a d)) (bound r.id b (bound l.id a e)) (beyond-two (read_by n) l r rs a b h))))
    (ap (λ (cells : List Cell). unit cells) (head-framed nothing n.parts.head (bound r.id [] (bound l.id a d)) (bound r.id [] (bound l.id a e)) (from-left (λ q. list_any (reads q) n.parts.head) (λ q. list_any (reads_cond q) n.parts.conds.items) (beyond-two (read_by n) l r rs a [] h))))))

module _ (tables : List Table) where
  rows-framed : (kind : BoxKind) (n : Node) (below : Family) (look : ℕ → ℕ → Bool) (f : (b : ℕ) (d e : Environment) → SameRows (look b) d e → below b d ≡ below b e) (d e : Environment) → SameRows (loose_by kind n look) d e
      → rows_by kind tables n (quant_rows n below) d ≡ rows_by kind tables n (quant_rows n below) e
  rows-framed (Base name) n below look f d e h = refl
  rows-framed Select n below look f d e h = ap (once_if (is_enforce n.parts.distinct)) (over_each-framed n below look f n.quants d e h)
  rows-framed (Group k) n below look f d e h =
      group-framed k n n.quants (quant_rows n below) d e (λ q. any-framed n below look f q d e (from-left (under_any n.quants look) (read_beyond (take 1 n.quants) (read_by n)) h)) (from-right (under_any n.quants look) (read_beyond (take 1 n.quants) (read_by n)) h)
  rows-framed (SetOp form types) n below look f d e h = both n.quants (λ q. any-framed n below look f q d e h)
    where
      both : (rs : List OwnedQuant) → ((q : ℕ) → quant_rows n below q d ≡ quant_rows n below q e)
          → of_two rs (λ p q. combined form (length types) (quant_rows n below p d) (quant_rows n below q d)) ≡ of_two rs (λ p q. combined form (length types) (quant_rows n below p e) (quant_rows n below q e))
      both rs u = ap (λ (g : ℕ → Bag). of_two rs (λ p q. combined form (length types) (g p) (g q))) (fun_ext u)
  rows-framed OuterJoin n below look f d e h =
      outer-framed n n.quants (quant_rows n below) d e (λ q. any-framed n below look f q d e (from-left (under_any n.quants look) (read_beyond (take 2 n.quants) (read_by n)) h)) (from-right (under_any n.quants look) (read_beyond (take 2 n.quants) (read_by n)) h)

  pub bag-framed : (ns : List Node) (b : ℕ) (d e : Environment) → SameRows (loose ns b) d e → bag_in tables ns b d ≡ bag_in tables ns b e
  bag-framed [] b d e h = refl
  bag-framed (n ∷ ns) b d e h =
      elim (n.id == b) as (λ t. SameRows (cond t (loose_of n (loose ns)) (loose ns b)) d e → ◌≡◌ {A = Bag} (cond t (rows_of tables n (bag_in tables ns)) (bag_in tables ns b) d) (cond t (rows_of tables n (bag_in tables ns)) (bag_in tables ns b) e)) [
        | true ↦ λ h. rows-framed n.parts.kind n (bag_in tables ns) (loose ns) (bag-framed ns) d e h
        | false ↦ λ h. bag-framed ns b d e h
      ] h
