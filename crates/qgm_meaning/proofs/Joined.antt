-- EXISTS under DISTINCT is a join.
use Rattle.std.proofs.Common.{ℕ, ◌≤◌, ◌==◌, ◌≡◌, cond, Bool, true, false, List, [], ◌∷◌, ◌++◌, refl, sym, ap, ap₂, subst, ◌∙◌, eqb-true, ◌⊎◌, inl, inr}
use Rattle.std.specs.List.{list_any}
use Rattle.std.proofs.lemmas.Bool.{cases_Bool}
use mathlib.Core.Path.{fun_ext}
use Rattle.row_bag.specs.Bags.{Alike, bind, if_there, keep, total, unit}
use Rattle.row_bag.proofs.OneRow.{exists-of_one}
use Rattle.row_bag.specs.Joins.{how_many}
use Rattle.row_bag.proofs.Agreement.{alike-same, alike-trans}
use Rattle.row_bag.specs.Sets.{SameLevels, distinct, same_cells}
use Rattle.row_bag.specs.declared.row.Row.{Row}
use Rattle.row_bag.proofs.Binds.{keep-keep}
use Rattle.row_bag.proofs.Folds.{fold_map-act, fold_map-same}
use Rattle.row_bag.proofs.GreatestLevels.{distinct-levels, exists-as_join, levels-bind, levels-refl, levels-trans}
use Rattle.row_bag.proofs.Levels.{least-associative, least-commutative, yes-least}
use Rattle.row_bag.proofs.TupleBags.{same_cells-decides}
use Rattle.sql_value.specs.Level.{greatest, least}
use Rattle.sql_value.specs.Truths as t
use Rattle.sql_value.specs.declared.cell.Cell.{Cell}
use Rattle.sql_value.specs.declared.level.Level.{Level}
use Rattle.sql_value.specs.declared.level.Level.TheVariants.{No, Cardinality, Division, Overflow, Yes}
use Rattle.sql_value.specs.declared.truth.Truth.{Truth}
use Rattle.qgm_core.specs.declared.owned.OwnedQuant.{OwnedQuant}
use Rattle.qgm_core.specs.Kinds.{is_F}
use Rattle.row_bag.specs.Subqueries.{presence}
use Rattle.qgm_meaning.specs.Meaning.{Family, over_each}
use Rattle.qgm_meaning.specs.Rules.{as_E, as_F}
use Rattle.qgm_terms.specs.Terms.{Term, Cond, some}
use Rattle.qgm_terms.specs.Wanted.{reads, reads_cond}
use Rattle.qgm_meaning.specs.Values.{Bag, Environment, all_true, bound, head_cells, row_of, truth}
use Rattle.qgm_meaning.proofs.Frames.{SameRows, all_true-framed, head-framed}

-- ---- the F quantifiers of a list

pub over_each-append : (us vs : List OwnedQuant) (s : Family) (give : Environment → Bag) → over_each (us ++ vs) s give ≡ over_each us s (over_each vs s give)
over_each-append [] vs s give = refl
over_each-append (u ∷ us) vs s give = fun_ext (λ env.
    elim (is_F u.kind) as (λ t. ◌≡◌ {A = Bag}
    (cond t (bind (s u.id env) (λ cells. over_each (us ++ vs) s give (bound u.id cells env))) (over_each (us ++ vs) s give env))
    (cond t (bind (s u.id env) (λ cells. over_each us s (over_each vs s give) (bound u.id cells env))) (over_each us s (over_each vs s give) env))) [
      | true ↦ ap (λ (f : Environment → Bag). bind (s u.id env) (λ cells. f (bound u.id cells env))) (over_each-append us vs s give)
      | false ↦ ap (λ (f : Environment → Bag). f env) (over_each-append us vs s give)
    ])

pub over_each-levels : (rs : List OwnedQuant) (s : Family) (f g : Environment → Bag) → ((env : Environment) → SameLevels same_cells (f env) (g env)) → (env : Environment) → SameLevels same_cells (over_each rs s f env) (over_each rs s g env)
over_each-levels [] s f g h env = h env
over_each-levels (r ∷ rs) s f g h env =
    elim (is_F r.kind) as (λ t. SameLevels same_cells
    (cond t (bind (s r.id env) (λ cells. over_each rs s f (bound r.id cells env))) (over_each rs s f env))
    (cond t (bind (s r.id env) (λ cells. over_each rs s g (bound r.id cells env))) (over_each rs s g env))) [
      | true ↦ levels-bind same_cells same_cells-decides same_cells (levels-refl same_cells (s r.id env)) (λ cells. over_each-levels rs s f g h (bound r.id cells env))
      | false ↦ over_each-levels rs s f g h env
    ]

-- ---- how far a conjunction is true

pub all_true-append : (rows : ℕ → Bag) (xs ys : List Cond) (env : Environment) → (all_true rows (xs ++ ys) env).t ≡ least (all_true rows xs env).t (all_true rows ys env).t
all_true-append rows [] ys env = sym (yes-least (all_true rows ys env).t)
all_true-append rows (x ∷ xs) ys env = ap (least (truth rows x env).t) (all_true-append rows xs ys env) ∙ sym (least-associative (truth rows x env).t (all_true rows xs env).t (all_true rows ys env).t)

present : (l : Level) → (presence l).t ≡ l
present No = refl
present Cardinality = refl
present Division = refl
present Overflow = refl
present Yes = refl

-- how far `some` is true
pub some-level : (rows : ℕ → Bag) (i : ℕ) (c : Cond) (env : Environment) → (truth rows (some i c) env).t ≡ total greatest No (λ cells l. least l (truth rows c (bound i cells env)).t) (rows i)
some-level rows i c env =
    fold_map-act t.or (t.truth_of false) greatest No (λ (p : Truth). p.t) refl (λ a b. refl) (λ (r : Row (List Cell)). if_there (t.truth_of false) (λ cells l. t.and (presence l) (truth rows c (bound i cells env))) r.cells r.level) (rows i)
    ∙ fold_map-same greatest No (λ (r : Row (List Cell)). (if_there (t.truth_of false) (λ cells l. t.and (presence l) (truth rows c (bound i cells env))) r.cells r.level).t)
    (λ (r : Row (List Cell)). if_there No (λ cells l. least l (truth rows c (bound i cells env)).t) r.cells r.level) (rows i) (λ r. each r.cells r.level)
  where
    each : (cells : List Cell) (l : Level) → (if_there (t.truth_of false) (λ cells l. t.and (presence l) (truth rows c (bound i cells env))) cells l).t ≡ if_there No (λ cells l. least l (truth rows c (bound i cells env)).t) cells l
    each cells No = refl
    each cells Cardinality = refl
    each cells Division = refl
    each cells Overflow = refl
    each cells Yes = refl

-- ---- the rule

pub unread : (looks : ℕ → Bool) (i : ℕ) (cells : List Cell) (env : Environment) → looks i ≡ false → SameRows looks env (bound i cells env)
unread looks i cells env h = record { rows = λ q t. step q t (cases_Bool (i == q)) }
  where
    step : (q : ℕ) → looks q ≡ true → ((i == q) ≡ true) ⊎ ((i == q) ≡ false) → row_of q env ≡ cond (i == q) cells (row_of q env)
    step q t (inl u) = absurd (let e : i ≡ q = eqb-true i q u in let z : looks i ≡ true = subst (λ (y : ℕ). looks y ≡ true) (sym e) t in let w : ⊥ = cc in w)
    step q t (inr u) = rw u refl

middle : (x y z : Level) → least x (least y z) ≡ least y (least x z)
middle x y z = sym (least-associative x y z) ∙ ap (λ (l : Level). least l z) (least-commutative x y) ∙ least-associative y x z

module _ (s : Family) (i : ℕ) (xs ys : List Cond) (c : Cond) (head : List Term) (free : (q : ℕ) (cells : List Cell) (env : Environment) → s q (bound i cells env) ≡ s q env)
    (h : list_any (reads i) head ≡ false) (hx : list_any (reads_cond i) xs ≡ false) (hy : list_any (reads_cond i) ys ≡ false) where
  abbrev here : Environment → ℕ → Bag
  here env q = s q env

  -- what stands beside the conjunct
  abbrev beside : Environment → Bag
  beside env = keep (least (all_true (here env) xs env).t (all_true (here env) ys env).t) (unit (head_cells (here env) head env))

  abbrev whole : Cond → Environment → Bag
  whole d env = keep (all_true (here env) (xs ++ d ∷ ys) env).t (unit (head_cells (here env) head env))

  apart : (d : Cond) (env : Environment) → whole d env ≡ keep (truth (here env) d env).t (beside env)
  apart d env =
      ap (λ (l : Level). keep l (unit (head_cells (here env) head env))) (all_true-append (here env) xs (d ∷ ys) env ∙ middle (all_true (here env) xs env).t (truth (here env) d env).t (all_true (here env) ys env).t)
      ∙ sym (keep-keep (truth (here env) d env).t (least (all_true (here env) xs env).t (all_true (here env) ys env).t) (unit (head_cells (here env) head env)))

  same-rows : (cells : List Cell) (env : Environment) → here (bound i cells env) ≡ here env
  same-rows cells env = fun_ext (λ q. free q cells env)

  same-beside : (cells : List Cell) (env : Environment) → beside (bound i cells env) ≡ beside env
  same-beside cells env =
      ap (λ (rows : ℕ → Bag). keep (least (all_true rows xs (bound i cells env)).t (all_true rows ys (bound i cells env)).t) (unit (head_cells rows head (bound i cells env)))) (same-rows cells env)
      ∙ ap₂ (λ (l : Level) (cs : List Cell). keep l (unit cs))
      (ap₂ (λ (p q : Truth). least p.t q.t)
      (sym (all_true-framed (here env) xs env (bound i cells env) (unread (λ q. list_any (reads_cond q) xs) i cells env hx)))
      (sym (all_true-framed (here env) ys env (bound i cells env) (unread (λ q. list_any (reads_cond q) ys) i cells env hy))))
      (sym (head-framed (here env) head env (bound i cells env) (unread (λ q. list_any (reads q) head) i cells env h)))

  each-row : (env : Environment) → SameLevels same_cells (whole (some i c) env) (bind (s i env) (λ cells. whole c (bound i cells env)))
  each-row env =
      levels-trans same_cells
      (levels-same (apart (some i c) env ∙ ap (λ (l : Level). keep l (beside env)) (some-level (here env) i c env)))
      (levels-trans same_cells
      (exists-as_join same_cells (s i env) (λ cells. (truth (here env) c (bound i cells env)).t) (beside env))
      (levels-same (ap (bind (s i env)) (fun_ext (λ cells.
      ap₂ (λ (rows : ℕ → Bag) (rest : Bag). keep (truth rows c (bound i cells env)).t rest) (sym (same-rows cells env)) (sym (same-beside cells env))
      ∙ sym (apart c (bound i cells env)))))))
    where
      levels-same : {us vs : Bag} → us ≡ vs → SameLevels same_cells us vs
      levels-same {us = us} e = subst (λ (ws : Bag). SameLevels same_cells us ws) e (levels-refl same_cells us)

  -- the same greatest levels
  pub joined-levels : (us vs : List OwnedQuant) (over : ℕ) (env : Environment) → SameLevels same_cells (over_each (us ++ as_E i over ∷ vs) s (whole (some i c)) env) (over_each ((us ++ vs) ++ as_F i over ∷ []) s (whole c) env)
  joined-levels us vs over env =
      rw (over_each-append us (as_E i over ∷ vs) s (whole (some i c)), over_each-append (us ++ vs) (as_F i over ∷ []) s (whole c), over_each-append us vs s (over_each (as_F i over ∷ []) s (whole c)))
      (over_each-levels us s _ _ (over_each-levels vs s (whole (some i c)) (λ env. bind (s i env) (λ cells. whole c (bound i cells env))) each-row) env)

  -- of at most one row, the same rows
  pub one-row-each : (env : Environment) → how_many (s i env) ≤ 1 → Alike (whole (some i c) env) (bind (s i env) (λ cells. whole c (bound i cells env)))
  one-row-each env one =
      alike-trans (alike-same (apart (some i c) env ∙ ap (λ (l : Level). keep l (beside env)) (some-level (here env) i c env)))
      (alike-trans (exists-of_one same_cells same_cells-decides (s i env) one (λ cells. (truth (here env) c (bound i cells env)).t) (beside env))
      (alike-same (ap (bind (s i env)) (fun_ext (λ cells.
      ap₂ (λ (rows : ℕ → Bag) (rest : Bag). keep (truth rows c (bound i cells env)).t rest) (sym (same-rows cells env)) (sym (same-beside cells env))
      ∙ sym (apart c (bound i cells env)))))))

  pub joined : (us vs : List OwnedQuant) (over : ℕ) (env : Environment) → Alike (distinct same_cells (over_each (us ++ as_E i over ∷ vs) s (whole (some i c)) env)) (distinct same_cells (over_each ((us ++ vs) ++ as_F i over ∷ []) s (whole c) env))
  joined us vs over env =
      distinct-levels same_cells same_cells-decides (joined-levels us vs over env)
