-- Expressions without errors are no errors, and conditions without errors are decided.
use Rattle.std.proofs.Common.{ℕ, zero, suc, ℤ, pos, negsuc, ◌≡◌, ◌≤◌, ◌==◌, ◌&&◌, cond, Bool, true, false, List, [], ◌∷◌, length, Option, Some, None, eqb-true, refl, sym, ap, subst, ◌∙◌, arith, inl, inr}
use Rattle.std.proofs.lemmas.Bool.{and_parts, cases_Bool}
use Rattle.std.proofs.lemmas.Bool.Decides.{Decides-int_eq}
use Rattle.std.specs.Ordering.{int_eq}
use Rattle.std.specs.List.{list_all}
use Rattle.row_bag.specs.Bags.{if_there, total}
use Rattle.row_bag.specs.Errors.{error_at}
use Rattle.row_bag.specs.Joins.{how_many}
use Rattle.row_bag.specs.Order.{cell_of}
use Rattle.row_bag.specs.Subqueries as subquery
use Rattle.row_bag.specs.Subqueries.{only_cell, presence}
use Rattle.row_bag.specs.Verdict.{is_there, those_there}
use Rattle.row_bag.specs.declared.row.Row.{Row}
use Rattle.sql_value.specs.Arithmetic as a
use Rattle.sql_value.specs.Truths as t
use Rattle.sql_value.specs.declared.cell.Cell.{Cell}
use Rattle.sql_value.specs.declared.level.Level.{Level}
use Rattle.sql_value.specs.declared.level.Level.TheVariants.{No, Cardinality, Division, Overflow, Yes}
use Rattle.sql_value.specs.declared.truth.Truth.{Truth}
use Rattle.shared_types.specs.declared.compare.CmpOp.TheVariants as op
use Rattle.qgm_core.specs.declared.node.Node.{Node}
use Rattle.qgm_terms.specs.Terms.{Sign, equal, unequal, below, at_most, above, at_least, same, like, Term, int, text, null_int, null_text, col, scalar, both, minus_of, choose, count_all, fold, Arms, no_arm, arm, Cond, always, compare, is_null, and, or, not, some, every}
use Rattle.qgm_terms.specs.declared.tree.Op.{Op}
use Rattle.qgm_terms.specs.declared.tree.Op.TheVariants.{Add, Sub, Mul, Div, Cat}
use Rattle.qgm_meaning.specs.Laws.{occurs}
use Rattle.qgm_meaning.specs.Values.{Bag, Environment, all_true, bound, chosen_at, compared, first_true, row_of, truth, value}
use Rattle.qgm_props.specs.Facts.{Each, EachThere, HasAtMostOne, IsErrorFree, is_sound}
use Rattle.qgm_props.proofs.EachClean.{EachClean, clean-decided}
use Rattle.qgm_props.specs.Inferred.{Facts, arms_free, clean_under, cond_free, divides, error_free_under, is_free, keeps_free, single_under}
use Rattle.qgm_props.proofs.Cells.{Decided, decided-and, decided-compare, decided-like, decided-null, decided-or, decided-same, sound-concat, sound-div}
use Rattle.qgm_props.proofs.Counted.{counted, flag}
use Rattle.row_bag.specs.AsSets.{is_decided}
use Rattle.qgm_props.proofs.Rows.{each-occurs, occurs-each, there_at, there-is}

-- ---- rows of subqueries

decided-presence : (l : Level) → is_decided l ≡ true → Decided (presence l)
decided-presence No h = (refl, refl)
decided-presence Cardinality h = absurd (let z : ⊥ = cc in z)
decided-presence Division h = absurd (let z : ⊥ = cc in z)
decided-presence Overflow h = absurd (let z : ⊥ = cc in z)
decided-presence Yes h = (refl, refl)

-- what is put together of clean rows, of which each that is there gives a decided truth
decided-total : (op : Truth → Truth → Truth) (e : Truth) (f : List Cell → Level → Truth) → Decided e → ((p q : Truth) → Decided p → Decided q → Decided (op p q))
    → (rows : Bag) → EachClean rows → Each (λ r. is_there r ≡ true → Decided (f r.cells r.level)) rows → Decided (total op e f rows)
decided-total op e f d keeps [] c h = d
decided-total op e f d keeps (r ∷ rows) c h = keeps (if_there e f r.cells r.level) (total op e f rows) (at r.level refl) (decided-total op e f d keeps rows c.1 h.1)
  where
    at : (l : Level) → r.level ≡ l → Decided (if_there e f r.cells l)
    at No w = d
    at Cardinality w = subst (λ m. Decided (f r.cells m)) w (h.0 (there-is r.cells r.level ∙ ap there_at w))
    at Division w = subst (λ m. Decided (f r.cells m)) w (h.0 (there-is r.cells r.level ∙ ap there_at w))
    at Overflow w = subst (λ m. Decided (f r.cells m)) w (h.0 (there-is r.cells r.level ∙ ap there_at w))
    at Yes w = subst (λ m. Decided (f r.cells m)) w (h.0 (there-is r.cells r.level ∙ ap there_at w))

each-clean : (P : Row (List Cell) → Type 0) (rows : Bag) → EachClean rows → ((r : Row (List Cell)) → is_decided r.level ≡ true → P r) → Each P rows
each-clean P [] c h = tt
each-clean P (r ∷ rows) c h = (h r (clean-decided r.level c.0), each-clean P rows c.1 h)

each-both : {X : Type 0} (P Q R : X → Type 0) (xs : List X) → ((x : X) → P x → Q x → R x) → Each P xs → Each Q xs → Each R xs
each-both P Q R [] f h k = tt
each-both P Q R (x ∷ xs) f h k = (f x h.0 k.0, each-both P Q R xs f h.1 k.1)

pub decided-some : (test : List Cell → Truth) (rows : Bag) → EachClean rows → EachThere (λ cells. Decided (test cells)) rows → Decided (subquery.some test rows)
decided-some test rows c h =
    decided-total t.or (t.truth_of false) (λ cells level. t.and (presence level) (test cells)) (refl, refl) decided-or rows c
    (each-both (λ r. error_at r.level ≡ None) (λ r. is_there r ≡ true → Decided (test r.cells)) (λ r. is_there r ≡ true → Decided (t.and (presence r.level) (test r.cells))) rows
    (λ r e f w. decided-and (presence r.level) (test r.cells) (decided-presence r.level (clean-decided r.level e)) (f w)) c h)

pub decided-every : (test : List Cell → Truth) (rows : Bag) → EachClean rows → EachThere (λ cells. Decided (test cells)) rows → Decided (subquery.every test rows)
decided-every test rows c h =
    decided-total t.and (t.truth_of true) (λ cells level. t.or (t.negated (presence level)) (test cells)) (refl, refl) decided-and rows c
    (each-both (λ r. error_at r.level ≡ None) (λ r. is_there r ≡ true → Decided (test r.cells)) (λ r. is_there r ≡ true → Decided (t.or (t.negated (presence r.level)) (test r.cells))) rows
    (λ r e f w. decided-or (t.negated (presence r.level)) (test r.cells) (let p = decided-presence r.level (clean-decided r.level e) in (p.1, p.0)) (f w)) c h)

-- ---- the one cell of at most one clean row

-- the rows that are there, whose first cells are no errors
abbrev pub Those : Bag → Type 0
Those rows = Each (λ r. (error_at r.level ≡ None) × (is_sound (cell_of 1 r.cells) ≡ true)) rows

those : (rows : Bag) → EachClean rows → IsErrorFree 1 rows → Those (those_there rows)
those [] c e = tt
those (r ∷ rows) c e = one (those rows c.1 e.1) (is_there r) refl
  where
    one : Those (those_there rows) → (b : Bool) → is_there r ≡ b → Those (cond b (r ∷ those_there rows) (those_there rows))
    one i true w = ((c.0, e.0 w), i)
    one i false w = i

pub those-many : (rows : Bag) → how_many rows ≡ length (those_there rows)
those-many [] = refl
those-many (r ∷ rows) = one (those-many rows) (is_there r) refl
  where
    one : how_many rows ≡ length (those_there rows) → (b : Bool) → is_there r ≡ b → how_many (r ∷ rows) ≡ length (cond b (r ∷ those_there rows) (those_there rows))
    one i true w = let a = counted r rows in let z : flag (is_there r) ≡ 1 = ap flag w in let k : length (r ∷ those_there rows) ≡ suc (length (those_there rows)) = refl in omega (arith, a, z, i, k)
    one i false w = let a = counted r rows in let z : flag (is_there r) ≡ 0 = ap flag w in omega (arith, a, z, i)

-- the cell of no row is null
pub no-cell : (k : ℕ) → is_sound (cell_of k []) ≡ true
no-cell zero = refl
no-cell (suc k) = refl

first-cell : (cells : List Cell) → only_cell cells ≡ cell_of 1 cells
first-cell [] = refl
first-cell (x ∷ xs) = refl

pub sound-scalar : (rows : Bag) → EachClean rows → HasAtMostOne rows → IsErrorFree 1 rows → is_sound (subquery.scalar rows) ≡ true
sound-scalar rows c m e = go (those_there rows) (those rows c e) (let h = those-many rows in omega (arith, h, m))
  where
    none : (o : Option _) (x : Cell) → o ≡ None → is_sound x ≡ true → is_sound (a.error_or o x) ≡ true
    none None x w h = h
    none (Some k) x w h = absurd (let z : ⊥ = cc in z)

    go : (rs : Bag) → Those rs → length rs ≤ 1 → is_sound (subquery.scalar_of_those rs) ≡ true
    go [] t l = refl
    go (r ∷ []) t l = none (error_at r.level) (only_cell r.cells) t.0.0 (ap is_sound (first-cell r.cells) ∙ t.0.1)
    go (r ∷ q ∷ rs) t l = absurd (let k : length (r ∷ q ∷ rs) ≡ suc (suc (length rs)) = refl in let z : ⊥ = omega (arith, l, k) in z)

-- ---- expressions and conditions

-- the columns that are known to be error-free are no errors where quantifiers are bound so
abbrev pub SoundColumns : List Node → Facts → Environment → Type 0
SoundColumns boxes known env = (q k : ℕ) → error_free_under boxes known q k ≡ true → is_sound (cell_of k (row_of q env)) ≡ true

-- and what is known of the boxes under quantifiers holds of these rows of theirs
pub record SoundRows (boxes : List Node) (known : Facts) (rows : ℕ → Bag) : Type 0 where
  pub clean : (q : ℕ) → clean_under boxes known q ≡ true → EachClean (rows q)
  pub free : (q k : ℕ) → error_free_under boxes known q k ≡ true → IsErrorFree k (rows q)
  pub single : (q : ℕ) → single_under boxes known q ≡ true → HasAtMostOne (rows q)

module _ (boxes : List Node) (known : Facts) (rows : ℕ → Bag) (sound : SoundRows boxes known rows) where
  -- a quantifier bound to one of its rows
  pub sound-bound : (q : ℕ) (cells : List Cell) (env : Environment) → SoundColumns boxes known env → occurs cells (rows q) ≡ true → SoundColumns boxes known (bound q cells env)
  sound-bound q cells env h o p k e = one (q == p) refl
    where
      one : (b : Bool) → (q == p) ≡ b → is_sound (cell_of k (cond b cells (row_of p env))) ≡ true
      one true w = occurs-each (λ cells. is_sound (cell_of k cells) ≡ true) (rows q) (sound.free q k (subst (λ p. error_free_under boxes known p k ≡ true) (sym (eqb-true q p w)) e)) cells o
      one false w = h p k e

  chosen-sound : (l : Level) (x y : Cell) → is_decided l ≡ true → is_sound x ≡ true → is_sound y ≡ true → is_sound (chosen_at l x y) ≡ true
  chosen-sound Yes x y d h k = h
  chosen-sound No x y d h k = k
  chosen-sound Cardinality x y d h k = absurd (let z : ⊥ = cc in z)
  chosen-sound Division x y d h k = absurd (let z : ⊥ = cc in z)
  chosen-sound Overflow x y d h k = absurd (let z : ⊥ = cc in z)

  compared-decided : (s : Sign) (x y : Cell) → is_sound x ≡ true → is_sound y ≡ true → Decided (compared s x y)
  compared-decided equal x y h k = decided-compare op.Eq x y h k
  compared-decided unequal x y h k = decided-compare op.Ne x y h k
  compared-decided below x y h k = decided-compare op.Lt x y h k
  compared-decided at_most x y h k = decided-compare op.Le x y h k
  compared-decided above x y h k = decided-compare op.Gt x y h k
  compared-decided at_least x y h k = decided-compare op.Ge x y h k
  compared-decided same x y h k = decided-same x y h k
  compared-decided like x y h k = decided-like x y h k

  other : (m n : ℤ) → (m ≡ n → ⊥) → int_eq m n ≡ false
  other m n h = elim (cases_Bool (int_eq m n)) [ inl t ↦ absurd (h ((Decides-int_eq m n).0 t)) | inr f ↦ f ]

  -- a divisor is a number, neither 0 nor -1
  divided : (x : Cell) (y : Term) (env : Environment) → divides y ≡ true → is_sound x ≡ true → is_sound (a.div x (value rows y env)) ≡ true
  divided x (int (pos zero)) env d h = absurd (let z : ⊥ = cc in z)
  divided x (int (pos (suc n))) env d h = sound-div x (pos (suc n)) h (other (pos (suc n)) (pos 0) (λ e. let z : ⊥ = cc in z)) (other (pos (suc n)) (negsuc 0) (λ e. let z : ⊥ = cc in z))
  divided x (int (negsuc zero)) env d h = absurd (let z : ⊥ = cc in z)
  divided x (int (negsuc (suc n))) env d h = sound-div x (negsuc (suc n)) h (other (negsuc (suc n)) (pos 0) (λ e. let z : ⊥ = cc in z)) (other (negsuc (suc n)) (negsuc 0) (λ e. let z : ⊥ = cc in z))
  divided x (text s) env d h = absurd (let z : ⊥ = cc in z)
  divided x null_int env d h = absurd (let z : ⊥ = cc in z)
  divided x null_text env d h = absurd (let z : ⊥ = cc in z)
  divided x (col q k) env d h = absurd (let z : ⊥ = cc in z)
  divided x (scalar q) env d h = absurd (let z : ⊥ = cc in z)
  divided x (both o y z) env d h = absurd (let z : ⊥ = cc in z)
  divided x (minus_of y) env d h = absurd (let z : ⊥ = cc in z)
  divided x (choose s y) env d h = absurd (let z : ⊥ = cc in z)
  divided x count_all env d h = absurd (let z : ⊥ = cc in z)
  divided x (fold f t y) env d h = absurd (let z : ⊥ = cc in z)

  operated : (o : Op) (x y : Term) (env : Environment) → keeps_free o y ≡ true → is_sound (value rows x env) ≡ true → is_sound (value rows y env) ≡ true → is_sound (value rows (both o x y) env) ≡ true
  operated Add x y env k h i = absurd (let z : ⊥ = cc in z)
  operated Sub x y env k h i = absurd (let z : ⊥ = cc in z)
  operated Mul x y env k h i = absurd (let z : ⊥ = cc in z)
  operated Div x y env k h i = divided (value rows x env) y env k h
  operated Cat x y env k h i = sound-concat (value rows x env) (value rows y env) h i

  mutual
    pub value-sound : (one : Bool) (x : Term) (env : Environment) → SoundColumns boxes known env → is_free boxes known one x ≡ true → is_sound (value rows x env) ≡ true
    value-sound one (int n) env c h = h
    value-sound one (text s) env c h = refl
    value-sound one null_int env c h = refl
    value-sound one null_text env c h = refl
    value-sound one (col q k) env c h = c q k h
    value-sound one (scalar q) env c h =
        let p = and_parts (clean_under boxes known q) (single_under boxes known q && error_free_under boxes known q 1) h in
        let r = and_parts (single_under boxes known q) (error_free_under boxes known q 1) p.1 in
        sound-scalar (rows q) (sound.clean q p.0) (sound.single q r.0) (sound.free q 1 r.1)
    value-sound one (both o x y) env c h =
        let p = and_parts (keeps_free o y) (is_free boxes known one x && is_free boxes known one y) h in
        let r = and_parts (is_free boxes known one x) (is_free boxes known one y) p.1 in
        operated o x y env p.0 (value-sound one x env c r.0) (value-sound one y env c r.1)
    value-sound one (minus_of x) env c h = absurd (let z : ⊥ = cc in z)
    value-sound one (choose s x) env c h =
        let p = and_parts (arms_free boxes known one s) (is_free boxes known one x) h in
        first-sound one s (value rows x env) env c p.0 (value-sound one x env c p.1)
    value-sound one count_all env c h = refl
    value-sound one (fold f d x) env c h = refl

    first-sound : (one : Bool) (s : Arms) (last : Cell) (env : Environment) → SoundColumns boxes known env → arms_free boxes known one s ≡ true → is_sound last ≡ true → is_sound (first_true rows s last env) ≡ true
    first-sound one no_arm last env c h l = l
    first-sound one (arm p x s) last env c h l =
        let a = and_parts (cond_free boxes known one p) (is_free boxes known one x && arms_free boxes known one s) h in
        let b = and_parts (is_free boxes known one x) (arms_free boxes known one s) a.1 in
        chosen-sound (truth rows p env).t (value rows x env) (first_true rows s last env) (truth-decided one p env c a.0).0 (value-sound one x env c b.0) (first-sound one s last env c b.1 l)

    pub truth-decided : (one : Bool) (p : Cond) (env : Environment) → SoundColumns boxes known env → cond_free boxes known one p ≡ true → Decided (truth rows p env)
    truth-decided one always env c h = (refl, refl)
    truth-decided one (compare s x y) env c h =
        let p = and_parts (is_free boxes known one x) (is_free boxes known one y) h in
        compared-decided s (value rows x env) (value rows y env) (value-sound one x env c p.0) (value-sound one y env c p.1)
    truth-decided one (is_null x) env c h = decided-null (value rows x env) (value-sound one x env c h)
    truth-decided one (and p q) env c h =
        let a = and_parts (cond_free boxes known one p) (cond_free boxes known one q) h in
        decided-and (truth rows p env) (truth rows q env) (truth-decided one p env c a.0) (truth-decided one q env c a.1)
    truth-decided one (or p q) env c h =
        let a = and_parts (cond_free boxes known one p) (cond_free boxes known one q) h in
        decided-or (truth rows p env) (truth rows q env) (truth-decided one p env c a.0) (truth-decided one q env c a.1)
    truth-decided one (not p) env c h = let d = truth-decided one p env c h in (d.1, d.0)
    truth-decided one (some q p) env c h =
        let a = and_parts (clean_under boxes known q) (cond_free boxes known one p) h in
        decided-some (λ cells. truth rows p (bound q cells env)) (rows q) (sound.clean q a.0)
        (each-occurs (λ cells. Decided (truth rows p (bound q cells env))) (rows q) (λ cells o. truth-decided one p (bound q cells env) (sound-bound q cells env c o) a.1))
    truth-decided one (every q p) env c h =
        let a = and_parts (clean_under boxes known q) (cond_free boxes known one p) h in
        decided-every (λ cells. truth rows p (bound q cells env)) (rows q) (sound.clean q a.0)
        (each-occurs (λ cells. Decided (truth rows p (bound q cells env))) (rows q) (λ cells o. truth-decided one p (bound q cells env) (sound-bound q cells env c o) a.1))

  -- all conditions of a list
  pub all-decided : (ps : List Cond) (env : Environment) → SoundColumns boxes known env → list_all (cond_free boxes known false) ps ≡ true → Decided (all_true rows ps env)
  all-decided [] env c h = (refl, refl)
  all-decided (p ∷ ps) env c h =
      let a = and_parts (cond_free boxes known false p) (list_all (cond_free boxes known false) ps) h in
      decided-and (truth rows p env) (all_true rows ps env) (truth-decided false p env c a.0) (all-decided ps env c a.1)
