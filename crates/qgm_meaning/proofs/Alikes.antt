-- A box gives the same, up to agreement, where what its quantifiers give agrees.
use Rattle.std.specs.Prelude.{⊤}
use Rattle.std.proofs.Common.{ℕ, zero, suc, ◌==◌, ◌≡◌, ◌&&◌, ◌||◌, cond, Bool, true, false, List, [], ◌∷◌, ◌++◌, map, drop, length, Some, refl, ap, ap₂, subst, ◌∙◌, eqb-true, inl, inr}
use Rattle.std.proofs.lemmas.Bool.{and_from, and_parts, cases_Bool}
use mathlib.Core.Path.{fun_ext}
use Rattle.row_bag.specs.Bags.{Alike, bind, keep, row, total, unit}
use Rattle.row_bag.specs.Errors.{error_in}
use Rattle.row_bag.specs.Sets.{same_cells, failed_cells}
use Rattle.row_bag.specs.Verdict.{is_there}
use Rattle.row_bag.specs.declared.tables.Table.{Table}
use Rattle.row_bag.proofs.Agreement.{alike-append, alike-bind, alike-keep, alike-keep_no, alike-refl, alike-same, alike-sym, alike-trans}
use Rattle.row_bag.proofs.Counts.{alike-from_agree}
use Rattle.row_bag.proofs.SetLaws.{distinct-alike, union-alike, intersect_all-alike, intersect-alike, except_all-alike, except-alike, collapsed-alike, grouped-alike}
use Rattle.row_bag.proofs.TupleBags.{same_cells-decides}
use Rattle.sql_value.specs.Arithmetic as a
use Rattle.sql_value.specs.Comparison as c
use Rattle.sql_value.specs.Truths as t
use Rattle.sql_value.specs.declared.cell.Cell.{Cell}
use Rattle.sql_value.specs.declared.level.Level.{Level}
use Rattle.sql_value.specs.declared.level.Level.TheVariants.{No, Cardinality, Division, Overflow, Yes}
use Rattle.sql_value.specs.declared.truth.Truth.{Truth}
use Rattle.qgm_core.specs.declared.node.Node.{Node}
use Rattle.qgm_core.specs.declared.owned.OwnedQuant.{OwnedQuant}
use Rattle.qgm_core.specs.declared.kinds.BoxKind.{BoxKind}
use Rattle.qgm_core.specs.declared.kinds.BoxKind.TheVariants.{Base, Select, Group, SetOp, OuterJoin}
use Rattle.qgm_core.specs.declared.kinds.SetOperator.{SetOperator}
use Rattle.qgm_core.specs.declared.kinds.SetOperator.TheVariants.{UnionAll, Union, IntersectAll, Intersect, ExceptAll, Except}
use Rattle.qgm_core.specs.Boxes.{Ordered, all_over, has_box, is_quant}
use Rattle.list_laws.specs.Lists.{first}
use Rattle.qgm_core.specs.Kinds.{is_F, is_enforce}
use Rattle.row_bag.specs.Subqueries.{presence}
use Rattle.row_bag.specs.Aggregates.{count_cell}
use Rattle.qgm_meaning.specs.Aggregated.{aggregate_of, taken_of}
use Rattle.qgm_meaning.specs.Laws.{AgreesBack, Stays, occurs}
use Rattle.qgm_meaning.specs.Meaning.{Family, bag_in, combined, fold_cell, fold_cells, given, given_by, grouped_rows, groups, key_cells, nothing, of_one, of_two, once_if, outer_rows, over_each, quant_rows, rows_by, rows_found, rows_of}
use Rattle.qgm_terms.specs.Terms.{Term, int, text, null_int, null_text, col, both, minus_of, choose, count_all, fold, scalar, Arms, no_arm, arm, Cond, always, compare, is_null, and, or, not, some, every}
use Rattle.qgm_meaning.specs.Values.{Bag, Environment, all_true, bound, chosen_at, compared, first_true, head_cells, operate, truth, value}
use Rattle.row_bag.proofs.FoldLaws.{every-alike, folded-alike, many-alike, or_else-alike, scalar-alike, some-alike}
use Rattle.qgm_meaning.proofs.Ranked.{lower}
use Rattle.list_laws.proofs.Booleans.{or-true}

-- ---- cells and conditions

module _ (r s : ℕ → Bag) (h : (q : ℕ) → Alike (r q) (s q)) where
  mutual
    pub value-alike : (x : Term) (env : Environment) → value r x env ≡ value s x env
    value-alike (int n) env = refl
    value-alike (text w) env = refl
    value-alike null_int env = refl
    value-alike null_text env = refl
    value-alike (col q k) env = refl
    value-alike (both o x y) env = ap₂ (operate o) (value-alike x env) (value-alike y env)
    value-alike (minus_of x) env = ap a.neg (value-alike x env)
    value-alike (choose w x) env = first_true-alike w _ _ env (value-alike x env)
    value-alike count_all env = refl
    value-alike (fold f t x) env = refl
    value-alike (scalar q) env = scalar-alike (r q) (s q) (h q)

    first_true-alike : (w : Arms) (x y : Cell) (env : Environment) → x ≡ y → first_true r w x env ≡ first_true s w y env
    first_true-alike no_arm x y env e = e
    first_true-alike (arm p z w) x y env e =
        ap (λ (l : Truth). chosen_at l.t (value r z env) (first_true r w x env)) (truth-alike p env)
        ∙ ap₂ (chosen_at (truth s p env).t) (value-alike z env) (first_true-alike w x y env e)

    pub truth-alike : (p : Cond) (env : Environment) → truth r p env ≡ truth s p env
    truth-alike always env = refl
    truth-alike (compare sign x y) env = ap₂ (compared sign) (value-alike x env) (value-alike y env)
    truth-alike (is_null x) env = ap c.is_null (value-alike x env)
    truth-alike (and p q) env = ap₂ t.and (truth-alike p env) (truth-alike q env)
    truth-alike (or p q) env = ap₂ t.or (truth-alike p env) (truth-alike q env)
    truth-alike (not p) env = ap t.negated (truth-alike p env)
    truth-alike (some q p) env =
        ap (λ (f : List Cell → Truth). total t.or (t.truth_of false) (λ cells level. t.and (presence level) (f cells)) (r q)) (fun_ext (λ cells. truth-alike p (bound q cells env)))
        ∙ some-alike (λ cells. truth s p (bound q cells env)) (r q) (s q) (h q)
    truth-alike (every q p) env =
        ap (λ (f : List Cell → Truth). total t.and (t.truth_of true) (λ cells level. t.or (t.negated (presence level)) (f cells)) (r q)) (fun_ext (λ cells. truth-alike p (bound q cells env)))
        ∙ every-alike (λ cells. truth s p (bound q cells env)) (r q) (s q) (h q)

  pub all_true-alike : (ps : List Cond) (env : Environment) → all_true r ps env ≡ all_true s ps env
  all_true-alike [] env = refl
  all_true-alike (p ∷ ps) env = ap₂ t.and (truth-alike p env) (all_true-alike ps env)

  pub head-alike : (xs : List Term) (env : Environment) → head_cells r xs env ≡ head_cells s xs env
  head-alike [] env = refl
  head-alike (x ∷ xs) env = ap₂ (λ (c : Cell) (cs : List Cell). c ∷ cs) (value-alike x env) (head-alike xs env)

-- ---- boxes

abbrev pub AlikeAt : (Environment → Bool) → Family → Family → Type 0
AlikeAt passes f g = (q : ℕ) (env : Environment) → passes env ≡ true → Alike (f q env) (g q env)

pub once_if-alike : (once : Bool) {xs ys : Bag} → Alike xs ys → Alike (once_if once xs) (once_if once ys)
once_if-alike true h = distinct-alike same_cells same_cells-decides h
once_if-alike false h = h

-- what one row gives matters only if the row is there
one-within : (f g : List Cell → Bag) (cells : List Cell) (level : Level) → (is_there (row cells level) ≡ true → Alike (f cells) (g cells)) → Alike (keep level (f cells)) (keep level (g cells))
one-within f g cells No h = alike-trans (alike-keep_no (f cells)) (alike-sym (alike-keep_no (g cells)))
one-within f g cells Cardinality h = alike-keep Cardinality (h refl)
one-within f g cells Division h = alike-keep Division (h refl)
one-within f g cells Overflow h = alike-keep Overflow (h refl)
one-within f g cells Yes h = alike-keep Yes (h refl)

itself : (cells : List Cell) → same_cells cells cells ≡ true
itself cells = (same_cells-decides cells cells).1 refl

-- only what is given of the rows that are there matters
pub bind-within : (rows : Bag) (f g : List Cell → Bag) → ((cells : List Cell) → occurs cells rows ≡ true → Alike (f cells) (g cells)) → Alike (bind rows f) (bind rows g)
bind-within [] f g h = alike-refl []
bind-within (r ∷ rows) f g h =
    alike-append
    (one-within f g r.cells r.level (λ there. h r.cells (ap (λ (b : Bool). b || occurs r.cells rows) (and_from (same_cells r.cells r.cells) (is_there r) (itself r.cells) there))))
    (bind-within rows f g (λ cells k. h cells (ap (λ (b : Bool). (same_cells r.cells cells && is_there r) || b) k ∙ or-true (same_cells r.cells cells && is_there r))))

pub given-alike : (n : Node) (s s' : Family) (env : Environment) → ((q : ℕ) → Alike (s q env) (s' q env)) → given_by s n env ≡ given_by s' n env
given-alike n s s' env h =
    ap₂ (λ (l : Truth) (cells : List Cell). keep l.t (unit cells)) (all_true-alike (λ q. s q env) (λ q. s' q env) h n.parts.conds.items env) (head-alike (λ q. s q env) (λ q. s' q env) h n.parts.head env)

over_each-alike : (passes : Environment → Bool) (n : Node) (rs : List OwnedQuant) (s s' : Family) → Stays passes s' rs → AlikeAt passes s s' → (env : Environment) → passes env ≡ true
    → Alike (over_each rs s (given_by s n) env) (over_each rs s' (given_by s' n) env)
over_each-alike passes n [] s s' y h env p = alike-same (given-alike n s s' env (λ q. h q env p))
over_each-alike passes n (r ∷ rs) s s' y h env p =
    elim (is_F r.kind) as (λ t. is_F r.kind ≡ t → Alike
    (cond t (bind (s r.id env) (λ cells. over_each rs s (given_by s n) (bound r.id cells env))) (over_each rs s (given_by s n) env))
    (cond t (bind (s' r.id env) (λ cells. over_each rs s' (given_by s' n) (bound r.id cells env))) (over_each rs s' (given_by s' n) env))) [
      | true ↦ λ t. alike-trans
          (alike-bind (h r.id env p) (λ cells. alike-refl (over_each rs s (given_by s n) (bound r.id cells env))))
          (bind-within (s' r.id env) (λ cells. over_each rs s (given_by s n) (bound r.id cells env)) (λ cells. over_each rs s' (given_by s' n) (bound r.id cells env))
          (λ cells there. over_each-alike passes n rs s s' y.1 h (bound r.id cells env) (y.0 env cells t p there)))
      | false ↦ λ t. over_each-alike passes n rs s s' y.1 h env p
    ] refl

fold_cell-alike : (q : ℕ) (env : Environment) (x : Term) {xs ys : Bag} → Alike xs ys → fold_cell q env xs x ≡ fold_cell q env ys x
fold_cell-alike q env (int n) h = refl
fold_cell-alike q env (text s) h = refl
fold_cell-alike q env null_int h = refl
fold_cell-alike q env null_text h = refl
fold_cell-alike q env (col r k) h = refl
fold_cell-alike q env (both o x y) h = refl
fold_cell-alike q env (minus_of x) h = refl
fold_cell-alike q env (choose s x) h = refl
fold_cell-alike q env count_all h = ap count_cell (many-alike _ _ h)
fold_cell-alike q env (fold f t x) h = folded-alike (aggregate_of f) (taken_of t) _ _ (alike-bind h (λ cells. alike-refl (unit (value nothing x (bound q cells env)))))
fold_cell-alike q env (scalar r) h = refl

pub folds-alike : (q : ℕ) (env : Environment) (xs : List Term) {us vs : Bag} → Alike us vs → map (fold_cell q env us) xs ≡ map (fold_cell q env vs) xs
folds-alike q env [] h = refl
folds-alike q env (x ∷ xs) h = ap₂ (λ (c : Cell) (cs : List Cell). c ∷ cs) (fold_cell-alike q env x h) (folds-alike q env xs h)

groups-alike : (k : ℕ) (head : List Term) (q : ℕ) (env : Environment) {xs ys : Bag} → Alike xs ys → Alike (groups k head q env xs) (groups k head q env ys)
groups-alike zero head q env h = alike-same (ap unit (folds-alike q env (drop 0 head) h))
groups-alike (suc k) head q env h =
    grouped-alike same_cells same_cells-decides (key_cells (suc k) head q env) (λ key members. key ++ fold_cells (suc k) head q env members)
    (λ key us vs g. ap (λ (cs : List Cell). key ++ cs) (folds-alike q env (drop (suc k) head) g)) h

pub grouped_rows-alike : (k : ℕ) (head : List Term) (q : ℕ) (env : Environment) {xs ys : Bag} → Alike xs ys → Alike (grouped_rows k head q env xs) (grouped_rows k head q env ys)
grouped_rows-alike k head q env h = collapsed-alike same_cells same_cells-decides (λ cells. error_in (key_cells k head q env cells)) (failed_cells (length head)) h (groups-alike k head q env h)

pub combined-alike : (form : SetOperator) (width : ℕ) {xs ys us vs : Bag} → Alike xs us → Alike ys vs → Alike (combined form width xs ys) (combined form width us vs)
combined-alike UnionAll width h k = alike-append h k
combined-alike Union width h k = union-alike same_cells same_cells-decides h k
combined-alike IntersectAll width h k = collapsed-alike same_cells same_cells-decides error_in (failed_cells width) (alike-append h k) (intersect_all-alike same_cells same_cells-decides h k)
combined-alike Intersect width h k = collapsed-alike same_cells same_cells-decides error_in (failed_cells width) (alike-append h k) (intersect-alike same_cells same_cells-decides h k)
combined-alike ExceptAll width h k = collapsed-alike same_cells same_cells-decides error_in (failed_cells width) (alike-append h k) (except_all-alike same_cells same_cells-decides h k)
combined-alike Except width h k = collapsed-alike same_cells same_cells-decides error_in (failed_cells width) (alike-append h k) (except-alike same_cells same_cells-decides h k)

outer-alike : (n : Node) (s s' : Family) (env : Environment) (p q : ℕ) → Alike (s p env) (s' p env) → Alike (s q env) (s' q env) → Alike (outer_rows n s env p q) (outer_rows n s' env p q)
outer-alike n s s' env p q h k =
    alike-bind h (λ a. or_else-alike _ _ (unit (head_cells nothing n.parts.head (bound q [] (bound p a env)))) (alike-bind k (λ b. alike-refl (given nothing n (bound q b (bound p a env))))))

of_one-alike : (rs : List OwnedQuant) (f g : ℕ → Bag) → ((q : ℕ) → Alike (f q) (g q)) → Alike (of_one rs f) (of_one rs g)
of_one-alike [] f g h = alike-refl []
of_one-alike (r ∷ rs) f g h = h r.id

of_two-alike : (rs : List OwnedQuant) (f g : ℕ → ℕ → Bag) → ((p q : ℕ) → Alike (f p q) (g p q)) → Alike (of_two rs f) (of_two rs g)
of_two-alike [] f g h = alike-refl []
of_two-alike (r ∷ rs) f g h = of_one-alike rs (f r.id) (g r.id) (h r.id)

pub rows_by-alike : (passes : Environment → Bool) (kind : BoxKind) (tables : List Table) (n : Node) (s s' : Family) → Stays passes s' n.quants → AlikeAt passes s s' → (env : Environment) → passes env ≡ true
    → Alike (rows_by kind tables n s env) (rows_by kind tables n s' env)
rows_by-alike passes (Base name) tables n s s' y h env p = alike-refl (rows_by (Base name) tables n s env)
rows_by-alike passes Select tables n s s' y h env p = once_if-alike (is_enforce n.parts.distinct) (over_each-alike passes n n.quants s s' y h env p)
rows_by-alike passes (Group k) tables n s s' y h env p =
    of_one-alike n.quants (λ q. grouped_rows k n.parts.head q env (s q env)) (λ q. grouped_rows k n.parts.head q env (s' q env)) (λ q. grouped_rows-alike k n.parts.head q env (h q env p))
rows_by-alike passes (SetOp form types) tables n s s' y h env p =
    of_two-alike n.quants (λ p q. combined form (length types) (s p env) (s q env)) (λ p q. combined form (length types) (s' p env) (s' q env)) (λ u v. combined-alike form (length types) (h u env p) (h v env p))
rows_by-alike passes OuterJoin tables n s s' y h env p = of_two-alike n.quants (outer_rows n s env) (outer_rows n s' env) (λ u v. outer-alike n s s' env u v (h u env p) (h v env p))

abbrev AlikeUnder : (Environment → Bool) → List OwnedQuant → Family → Family → Type 0
AlikeUnder passes [] f g = ⊤
AlikeUnder passes (r ∷ rs) f g = ((env : Environment) → passes env ≡ true → Alike (f r.over env) (g r.over env)) × AlikeUnder passes rs f g

quant-alike : (passes : Environment → Bool) (rs : List OwnedQuant) (f g : Family) → AlikeUnder passes rs f g → (q : ℕ) (env : Environment) → passes env ≡ true
    → Alike (rows_found (first (is_quant q) rs) f env) (rows_found (first (is_quant q) rs) g env)
quant-alike passes [] f g h q env p = alike-refl []
quant-alike passes (r ∷ rs) f g h q env p = elim (r.id == q) as (λ t. Alike (rows_found (cond t (Some r) (first (is_quant q) rs)) f env) (rows_found (cond t (Some r) (first (is_quant q) rs)) g env)) [
  | true ↦ h.0 env p
  | false ↦ quant-alike passes rs f g h.1 q env p
]

under : (passes : Environment → Bool) (ns : List Node) (f g : Family) (rs : List OwnedQuant) → all_over ns rs ≡ true
    → ((b : ℕ) → has_box ns b ≡ true → (env : Environment) → passes env ≡ true → Alike (f b env) (g b env)) → AlikeUnder passes rs f g
under passes ns f g [] all h = tt
under passes ns f g (r ∷ rs) all h =
    let parts = and_parts (has_box ns r.over) (all_over ns rs) all in
    (h r.over parts.0, under passes ns f g rs parts.1 h)

pub only-alike : (tables : List Table) (f : Family) (passes : Environment → Bool) (ns : List Node) → Ordered ns → AgreesBack passes tables f ns → (b : ℕ) → has_box ns b ≡ true → (env : Environment) → passes env ≡ true
    → Alike (bag_in tables ns b env) (f b env)
only-alike tables f passes [] o s b h env p = absurd (let z : ⊥ = cc in z)
only-alike tables f passes (n ∷ ns) o s b h env p =
    elim (cases_Bool (n.id == b)) [
      | inl t ↦ alike-trans (alike-same (ap (λ (t : Bool). cond t (rows_of tables n (bag_in tables ns)) (bag_in tables ns b) env) t))
          (alike-trans
          (rows_by-alike passes n.parts.kind tables n (quant_rows n (bag_in tables ns)) (quant_rows n f) s.0
          (quant-alike passes n.quants (bag_in tables ns) f (under passes ns (bag_in tables ns) f n.quants o.1 (λ b h env p. only-alike tables f passes ns o.2 s.2 b h env p))) env p)
          (alike-trans (alike-from_agree same_cells same_cells-decides (s.1 env p)) (alike-same (ap (λ (i : ℕ). f i env) (eqb-true n.id b t)))))
      | inr t ↦ alike-trans (alike-same (ap (λ (f : Environment → Bag). f env) (lower (λ env. []) (rows_of tables) n ns b t))) (only-alike tables f passes ns o.2 s.2 b (subst (λ (t : Bool). (t || has_box ns b) ≡ true) t h) env p)
    ]
