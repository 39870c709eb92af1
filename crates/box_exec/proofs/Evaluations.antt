-- How many evaluations are counted.
use Rattle.std.proofs.Common.{ℕ, suc, zero, ◌≡◌, ◌<◌, ◌≤◌, ◌+◌, ◌++◌, Bool, true, false, cond, List, [], ◌∷◌, drop, get_or, length, position, slice_get, take, Option, Some, add-one, sym, ◌∙◌, ap, subst, arith, eqb-true}
use Rattle.std.proofs.lemmas.List.{take_all, take_more}
use Rattle.std.proofs.lemmas.List.Quantifiers.{position-Some}
use Rattle.row_bag.specs.Bags.{Alike, if_there, total}
use Rattle.row_bag.specs.declared.row.Row.{Row}
use Rattle.row_bag.specs.declared.tables.Table.{Table}
use Rattle.sql_value.specs.Level.{least}
use Rattle.sql_value.specs.declared.cell.Cell.{Cell}
use Rattle.sql_value.specs.declared.level.Level.{Level}
use Rattle.sql_value.specs.declared.level.Level.TheVariants.{No, Cardinality, Division, Overflow, Yes}
use Rattle.qgm_core.specs.Boxes.{is_box}
use Rattle.qgm_core.specs.Kinds.{is_F}
use Rattle.qgm_core.specs.declared.node.Node.{Node}
use Rattle.qgm_core.specs.declared.owned.OwnedQuant.{OwnedQuant}
use Rattle.qgm_meaning.specs.Meaning.{bag_in}
use Rattle.qgm_meaning.specs.Plain.{Counts, counted_by, under_each, under_others, under_rows}
use Rattle.qgm_meaning.specs.Values.{Bag, Environment, bound}
use Rattle.box_exec.specs.Costs.{Between, Keeps, asked, at_level, costs, is_held}
use Rattle.row_bag.specs.declared.operand.Operand.{Operand}
use Rattle.box_exec.proofs.Loops.{from}

-- ---- the cost of a box

costs-first : (tables : List Table) (kept : ℕ → Bool) (ns : List Node) (b i : ℕ) (d : Node) (env : Environment) → i < length ns → is_box b (get_or ns i d) ≡ true → ((k : ℕ) → k < i → is_box b (get_or ns k d) ≡ false)
    → costs tables kept ns b env ≡ counted_by (get_or ns i d).parts.kind (get_or ns i d) (bag_in tables (drop (suc i) ns)) (asked tables kept (drop (suc i) ns)) env
costs-first tables kept [] b i d env l t before = absurd (omega (arith, l))
costs-first tables kept (n ∷ ns) b zero d env l t before = ap (λ (x : Bool). cond x (counted_by n.parts.kind n (bag_in tables ns) (asked tables kept ns) env) (costs tables kept ns b env)) t
costs-first tables kept (n ∷ ns) b (suc i) d env l t before =
    ap (λ (x : Bool). cond x (counted_by n.parts.kind n (bag_in tables ns) (asked tables kept ns) env) (costs tables kept ns b env)) (before zero (omega arith))
    ∙ costs-first tables kept ns b i d env (omega (arith, l)) t (λ k m. before (suc k) (omega (arith, m)))

pub costs-at : (tables : List Table) (kept : ℕ → Bool) (ns : List Node) (b i : ℕ) (n : Node) (env : Environment) → position (is_box b) ns ≡ Some i → n ≡ get_or ns i n
    → costs tables kept ns b env ≡ counted_by n.parts.kind n (bag_in tables (drop (i + 1) ns)) (asked tables kept (drop (i + 1) ns)) env
costs-at tables kept ns b i n env e at =
    let h = position-Some (is_box b) ns i n e in
    costs-first tables kept ns b i n env h.0 h.1 h.2
    ∙ ap (λ (m : Node). counted_by m.parts.kind m (bag_in tables (drop (suc i) ns)) (asked tables kept (drop (suc i) ns)) env) (sym at)
    ∙ ap (λ (k : ℕ). counted_by n.parts.kind n (bag_in tables (drop k ns)) (asked tables kept (drop k ns)) env) (sym (add-one i))

pub keeps-drop : (memo : List (Option Operand)) (kept : ℕ → Bool) (ns : List Node) (i : ℕ) → Keeps memo kept ns → Keeps memo kept (drop i ns)
keeps-drop memo kept ns zero h = h
keeps-drop memo kept [] (suc i) h = h
keeps-drop memo kept (n ∷ ns) (suc i) h = keeps-drop memo kept ns i h.1

-- a box without kept rows costs what its evaluation costs
pub keeps-under : (tables : List Table) (memo : List (Option Operand)) (ns : List Node) (b i : ℕ) (n : Node) → position (is_box b) ns ≡ Some i → n ≡ get_or ns i n → is_held (slice_get memo (length (drop (i + 1) ns))) ≡ false
    → (kept : ℕ → Bool) → Keeps memo kept ns
    → Keeps memo kept (drop (i + 1) ns) × ((env : Environment) → asked tables kept ns b env ≡ counted_by n.parts.kind n (bag_in tables (drop (i + 1) ns)) (asked tables kept (drop (i + 1) ns)) env)
keeps-under tables memo ns b i n e at unheld kept keeps =
    let h = position-Some (is_box b) ns i n e in
    let here : Keeps memo kept (n ∷ drop (i + 1) ns) = subst (Keeps memo kept) (from ns i n h.0 ∙ ap (λ (m : Node). m ∷ drop (i + 1) ns) (sym at)) (keeps-drop memo kept ns i keeps) in
    let named : n.id ≡ b = eqb-true n.id b (ap (λ (m : Node). is_box b m) at ∙ h.1) in
    let free : kept b ≡ false = ap kept (sym named) ∙ sym here.0 ∙ unheld in
    (here.1, λ env. ap (λ (x : Bool). cond x 0 (costs tables kept ns b env)) free ∙ costs-at tables kept ns b i n env e at)

-- ---- sums

pub between-then : (a b c d x y z : ℕ) → Between a b x y → Between c d y z → Between (a + c) (b + d) x z
between-then a b c d x y z h k = (omega (arith, h.0, k.0), omega (arith, h.1, k.1))

at-most : (l : Level) (n : ℕ) → at_level l n ≤ n
at-most No n = omega arith
at-most Cardinality n = omega arith
at-most Division n = omega arith
at-most Overflow n = omega arith
at-most Yes n = omega arith

none-at : (level : Level) (n : ℕ) → at_level (least level No) n ≤ 0
none-at No n = omega arith
none-at Cardinality n = omega arith
none-at Division n = omega arith
none-at Overflow n = omega arith
none-at Yes n = omega arith

at-there : (f : List Cell → ℕ) (level l : Level) (c : List Cell) → at_level (least level l) (f c) ≤ if_there 0 (λ cells k. f cells) c l
at-there f level No c = none-at level (f c)
at-there f level Cardinality c = at-most (least level Cardinality) (f c)
at-there f level Division c = at-most (least level Division) (f c)
at-there f level Overflow c = at-most (least level Overflow) (f c)
at-there f level Yes c = at-most (least level Yes) (f c)

abbrev pub each_row : (List Cell → ℕ) → Bag → ℕ
each_row f rows = total ◌+◌ 0 (λ cells level. f cells) rows

row-last : (f : List Cell → ℕ) (rows : Bag) (r : Row (List Cell)) → each_row f (rows ++ r ∷ []) ≡ each_row f rows + if_there 0 (λ cells k. f cells) r.cells r.level
row-last f [] r = omega arith
row-last f (x ∷ rows) r = let h = row-last f rows r in omega (arith, h)

-- one more row has been gone through
pub rows-took : (f : List Cell → ℕ) (rows : Bag) (i : ℕ) (r : Row (List Cell)) (level : Level) (u old s new : ℕ) → i < length rows → r ≡ get_or rows i r → u ≡ f r.cells
    → Between 0 (each_row f (take i rows)) old s → Between 0 (at_level (least level r.level) u) s new → Between 0 (each_row f (take (i + 1) rows)) old new
rows-took f rows i r level u old s new l at is before more =
    let step : each_row f (take (i + 1) rows) ≡ each_row f (take i rows) + if_there 0 (λ cells k. f cells) r.cells r.level =
    ap (each_row f) (take_more rows i r l ∙ ap (λ (x : Row (List Cell)). take i rows ++ x ∷ []) (sym at)) ∙ row-last f (take i rows) r in
    let less : at_level (least level r.level) u ≤ if_there 0 (λ cells k. f cells) r.cells r.level = subst (λ (n : ℕ). at_level (least level r.level) n ≤ if_there 0 (λ cells k. f cells) r.cells r.level) (sym is) (at-there f level r.level r.cells) in
    (omega (arith, before.0, more.0), omega (arith, before.1, more.1, step, less))

row-least : (f : List Cell → ℕ) (rows : Bag) (i j : ℕ) → i ≤ j → each_row f (take i rows) ≤ each_row f (take j rows)
row-least f rows zero j h = omega arith
row-least f [] (suc i) zero h = absurd (omega (arith, h))
row-least f [] (suc i) (suc j) h = omega arith
row-least f (x ∷ rows) (suc i) zero h = absurd (omega (arith, h))
row-least f (x ∷ rows) (suc i) (suc j) h = let k = row-least f rows i j (omega (arith, h)) in omega (arith, k)

-- rows have been passed over
pub rows-past : (f : List Cell → ℕ) (rows : Bag) (i j old new : ℕ) → i ≤ j → Between 0 (each_row f (take i rows)) old new → Between 0 (each_row f (take j rows)) old new
rows-past f rows i j old new le h =
    let more = row-least f rows i j le in
    (h.0, omega (arith, h.1, more))

-- one more row has been gone through, and others up to a place have been passed over
pub row-gone : (f : List Cell → ℕ) (rows : Bag) (i place next : ℕ) (r : Row (List Cell)) (cells : List Cell) (level lower : Level) (old s new now : ℕ) → i < length rows → r ≡ get_or rows i r → cells ≡ r.cells → lower ≡ least level r.level → i + 1 ≤ place → next ≡ place → new ≡ now
    → Between 0 (each_row f (take i rows)) old s → Between 0 (at_level lower (f cells)) s new → Between 0 (each_row f (take next rows)) old now
row-gone f rows i place next r cells level lower old s new now l at same low far is put before more =
    subst (λ (n : ℕ). Between 0 (each_row f (take n rows)) old now) (sym is)
    (subst (λ (u : ℕ). Between 0 (each_row f (take place rows)) old u) put
    (rows-past f rows (i + 1) place old new far
    (rows-took f rows i r level (f cells) old s new l at (ap f same) before (subst (λ (x : Level). Between 0 (at_level x (f cells)) s new) low more))))

-- a row has been passed over, and others up to a place
pub row-missed : (f : List Cell → ℕ) (rows : Bag) (i place next old s now : ℕ) → i + 1 ≤ place → next ≡ place → s ≡ now → Between 0 (each_row f (take i rows)) old s → Between 0 (each_row f (take next rows)) old now
row-missed f rows i place next old s now far is put before =
    subst (λ (n : ℕ). Between 0 (each_row f (take n rows)) old now) (sym is) (subst (λ (u : ℕ). Between 0 (each_row f (take place rows)) old u) put (rows-past f rows i place old s (omega (arith, far)) before))

-- all rows have, of a bag that agrees with these
pub all-took : (f : List Cell → ℕ) (rows others : Bag) (i : ℕ) (n whole old s new : ℕ) → length rows ≤ i → Alike rows others → whole ≡ n + each_row f others
    → Between 0 n old s → Between 0 (each_row f (take i rows)) s new → Between 0 whole old new
all-took f rows others i n whole old s new l same is before more =
    let e : each_row f (take i rows) ≡ each_row f others = ap (each_row f) (take_all i rows l) ∙ same.sums (λ cells k. f cells) in
    (omega (arith, before.0, more.0), omega (arith, before.1, more.1, e, is))

-- ---- quantifiers

pub rows-over : (rs all : List OwnedQuant) (bags : ℕ → Environment → Bag) (count : Counts) (env : Environment) (k : ℕ) (r : OwnedQuant) → drop k rs ≡ r ∷ drop (k + 1) rs → is_F r.kind ≡ false
    → under_rows (drop k rs) all bags count env ≡ under_rows (drop (k + 1) rs) all bags count env
rows-over rs all bags count env k r e h =
    ap (λ (xs : List OwnedQuant). under_rows xs all bags count env) e
    ∙ ap (λ (b : Bool). cond b (count r.over env + each_row (λ cells. under_rows (drop (k + 1) rs) all bags count (bound r.id cells env)) (bags r.over env)) (under_rows (drop (k + 1) rs) all bags count env)) h

pub rows-bound : (rs all : List OwnedQuant) (bags : ℕ → Environment → Bag) (count : Counts) (env : Environment) (k : ℕ) (r : OwnedQuant) → drop k rs ≡ r ∷ drop (k + 1) rs → is_F r.kind ≡ true
    → under_rows (drop k rs) all bags count env ≡ count r.over env + each_row (λ cells. under_rows (drop (k + 1) rs) all bags count (bound r.id cells env)) (bags r.over env)
rows-bound rs all bags count env k r e h =
    ap (λ (xs : List OwnedQuant). under_rows xs all bags count env) e
    ∙ ap (λ (b : Bool). cond b (count r.over env + each_row (λ cells. under_rows (drop (k + 1) rs) all bags count (bound r.id cells env)) (bags r.over env)) (under_rows (drop (k + 1) rs) all bags count env)) h

others-last : (rs : List OwnedQuant) (count : Counts) (env : Environment) (r : OwnedQuant) → under_others (rs ++ r ∷ []) count env ≡ under_others rs count env + cond (is_F r.kind) 0 (count r.over env)
others-last [] count env r = omega arith
others-last (x ∷ rs) count env r = let h = others-last rs count env r in omega (arith, h)

pub others-more : (rs : List OwnedQuant) (count : Counts) (env : Environment) (i : ℕ) (r : OwnedQuant) → i < length rs → r ≡ get_or rs i r → under_others (take (i + 1) rs) count env ≡ under_others (take i rs) count env + cond (is_F r.kind) 0 (count r.over env)
others-more rs count env i r l at = ap (λ (xs : List OwnedQuant). under_others xs count env) (take_more rs i r l ∙ ap (λ (x : OwnedQuant). take i rs ++ x ∷ []) (sym at)) ∙ others-last (take i rs) count env r

-- one more quantifier has been gone through: one that binds no rows, or one that does
pub others-took : (rs : List OwnedQuant) (count : Counts) (env : Environment) (i : ℕ) (r : OwnedQuant) (old s new now : ℕ) → i < length rs → r ≡ get_or rs i r → is_F r.kind ≡ false → new ≡ now → Between 0 (under_others (take i rs) count env) old s → Between 0 (count r.over env) s new
    → Between 0 (under_others (take (i + 1) rs) count env) old now
others-took rs count env i r old s new now l at free put before here =
    let more = others-more rs count env i r l at in
    let one : cond (is_F r.kind) 0 (count r.over env) ≡ count r.over env = ap (λ (b : Bool). cond b 0 (count r.over env)) free in
    (omega (arith, before.0, here.0, put), omega (arith, before.1, here.1, put, more, one))

pub others-past : (rs : List OwnedQuant) (count : Counts) (env : Environment) (i : ℕ) (r : OwnedQuant) (old s now : ℕ) → i < length rs → r ≡ get_or rs i r → is_F r.kind ≡ true → s ≡ now → Between 0 (under_others (take i rs) count env) old s
    → Between 0 (under_others (take (i + 1) rs) count env) old now
others-past rs count env i r old s now l at binds put before =
    let more = others-more rs count env i r l at in
    let none : cond (is_F r.kind) 0 (count r.over env) ≡ 0 = ap (λ (b : Bool). cond b 0 (count r.over env)) binds in
    (omega (arith, before.0, put), omega (arith, before.1, put, more, none))

pub one-under : (rs : List OwnedQuant) (count : Counts) (env : Environment) (r : OwnedQuant) (xs : List OwnedQuant) → rs ≡ r ∷ xs → count r.over env ≤ under_each rs count env
one-under rs count env r xs e = let h : under_each rs count env ≡ count r.over env + under_each xs count env = ap (λ (ys : List OwnedQuant). under_each ys count env) e in omega (arith, h)

pub two-under : (rs : List OwnedQuant) (count : Counts) (env : Environment) (p q : OwnedQuant) (xs ys : List OwnedQuant) → rs ≡ p ∷ xs → xs ≡ q ∷ ys → count p.over env + count q.over env ≤ under_each rs count env
two-under rs count env p q xs ys e f =
    let h : under_each rs count env ≡ count p.over env + under_each xs count env = ap (λ (zs : List OwnedQuant). under_each zs count env) e in
    let k = one-under xs count env q ys f in
    omega (arith, h, k)
