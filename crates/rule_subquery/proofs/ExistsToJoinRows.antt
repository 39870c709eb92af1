-- U1: the rows of the box that joins.
use Rattle.std.proofs.Common.{ℕ, ◌==◌, ◌≡◌, ◌||◌, ◌≤◌, Bool, true, false, List, [], ◌∷◌, ◌++◌, Some, refl, sym, ap, subst, ◌∙◌}
use Rattle.std.specs.List.{list_any}
use mathlib.Core.Path.{fun_ext}
use Rattle.row_bag.specs.AsSets.{AgreeAsSets, is_clean}
use Rattle.row_bag.specs.Bags.{Agree, Alike, keep, unit}
use Rattle.row_bag.specs.Joins.{how_many}
use Rattle.row_bag.specs.Keys.{HasKey}
use Rattle.row_bag.specs.Sets.{SameLevels, distinct, same_cells}
use Rattle.row_bag.specs.declared.tables.Table.{Table}
use Rattle.row_bag.proofs.Agreement.{alike-sym, alike-trans}
use Rattle.row_bag.proofs.Counts.{agree-from_alike, alike-from_agree}
use Rattle.row_bag.proofs.Keying.{key-laws}
use Rattle.row_bag.proofs.Setting.{levels-sets, sets-sym}
use Rattle.row_bag.proofs.TupleBags.{same_cells-decides}
use Rattle.qgm_terms.specs.Terms.{Cond, Term, some}
use Rattle.qgm_terms.specs.Wanted.{reads, reads_cond}
use Rattle.qgm_core.specs.Kinds.{is_enforce}
use Rattle.list_laws.specs.Lists.{first}
use Rattle.qgm_core.specs.declared.kinds.BoxKind.{BoxKind}
use Rattle.qgm_core.specs.declared.kinds.BoxKind.TheVariants.{Select}
use Rattle.qgm_core.specs.declared.kinds.Distinct.{Distinct}
use Rattle.qgm_core.specs.declared.kinds.Distinct.TheVariants.{Enforce, Preserve, Permit}
use Rattle.qgm_core.specs.declared.kinds.QuantKind.TheVariants.{E}
use Rattle.qgm_core.specs.declared.node.Node.{Node}
use Rattle.qgm_core.specs.declared.owned.OwnedQuant.{OwnedQuant}
use Rattle.qgm_meaning.specs.Exists.{Unread, each_box, some_box}
use Rattle.qgm_meaning.specs.Fits.{fits}
use Rattle.qgm_meaning.specs.Laws.{Stays}
use Rattle.qgm_meaning.specs.Meaning.{Family, bag_in, given_by, once_if, over_each, quant_rows, rows_by, rows_found, rows_of}
use Rattle.qgm_meaning.specs.Rules.{as_E, as_F}
use Rattle.qgm_meaning.specs.Scope.{loose, read_by, under_any}
use Rattle.qgm_meaning.specs.Values.{Bag, Environment, bound, head_cells}
use Rattle.qgm_meaning.proofs.Existing.{joins-levels, joins-of_one}
use Rattle.qgm_meaning.proofs.ExistsJoined.{any-before, moved}
use Rattle.qgm_meaning.proofs.Fitting.{hereditary}
use Rattle.qgm_meaning.proofs.Frames.{any-framed, bag-framed}
use Rattle.qgm_meaning.proofs.Joined.{joined, unread}
use Rattle.qgm_meaning.proofs.ScalarJoined.{stays-of, without}
use Rattle.qgm_edit_laws.specs.Graph.{Sound}
use Rattle.qgm_edit_laws.proofs.Scope.{in-first, unfold-bag}
use Rattle.qgm_edit_laws.proofs.ConjunctsOf.{among-true}
use Rattle.rule_subquery.proofs.ExistsToJoinSound.{Existing, absent-us, absent-vs, found-r, nothing-inner}
use Rattle.rule_subquery.specs.ExistsToJoin.{joined_box}
use Rattle.list_laws.proofs.Booleans.{neither-left, neither-right}

module _ (bs : List Node) (root : ℕ) (w : Sound bs root) (o : Node) (us : List OwnedQuant) (r : OwnedQuant) (vs : List OwnedQuant) (xs : List Cond) (c : Cond) (ys : List Cond)
    (e : Existing bs o us r vs xs c ys) (tables : List Table) where
  abbrev i : ℕ
  i = r.id

  abbrev head : List Term
  head = o.parts.head

  -- o, as the laws of rows have it
  abbrev N : Node
  N = some_box o.id o.parts o.parts.distinct us i r.over vs xs c ys head

  abbrev M : Distinct → Node
  M d = each_box o.id o.parts d us i r.over vs xs c ys head

  abbrev made : BoxKind → List Cond → List OwnedQuant → Node
  made k cs qs = record o { parts = record o.parts { kind = k; conds = record o.parts.conds { items = cs } }; quants = qs }

  pub o-is : o ≡ N
  o-is =
      ap (λ k. made k o.parts.conds.items o.quants) e.is.select ∙ ap (λ cs. made Select cs o.quants) e.is.conds
      ∙ ap (made Select (xs ++ some i c ∷ ys)) (e.is.split ∙ ap (λ k. us ++ (record { id = i; kind = k; over = r.over }) ∷ vs) e.is.is_e)

  abbrev F : Family
  F = bag_in tables bs

  abbrev s : Family
  s = quant_rows N F

  abbrev passes : Environment → Bool
  passes = fits F bs

  held : first (λ n. n.id == o.id) bs ≡ Some N
  held = in-first o bs w.ordered e.within ∙ ap (λ z. Some z) o-is

  none-inner : (read_by N i || under_any N.quants (loose bs) i) ≡ false
  none-inner = subst (λ (z : Node). (read_by z i || under_any z.quants (loose bs) i) ≡ false) o-is (nothing-inner bs root w o us r vs xs c ys e)

  reads-none : read_by N i ≡ false
  reads-none = neither-left (read_by N i) (under_any N.quants (loose bs) i) none-inner

  beside : (list_any (reads_cond i) xs ≡ false) × (list_any (reads_cond i) ys ≡ false)
  beside = any-before (reads_cond i) xs (some i c) ys (neither-right (list_any (reads i) head) (list_any (reads_cond i) N.parts.conds.items) reads-none)

  pub not-read : Unread s i xs ys head
  not-read = record {
    cells = neither-left (list_any (reads i) head) (list_any (reads_cond i) N.parts.conds.items) reads-none;
    before = beside.0;
    behind = beside.1;
    below = λ q cells env. sym (any-framed N F (loose bs) (bag-framed tables bs) q env (bound i cells env)
        (unread (under_any N.quants (loose bs)) i cells env (neither-right (read_by N i) (under_any N.quants (loose bs) i) none-inner)));
  }

  stays-n : Stays passes s (us ++ vs)
  stays-n = without passes s us (as_E i r.over) vs (stays-of passes F bs o.id N (hereditary F bs) held)

  at-i : (env : Environment) → s i env ≡ F r.over env
  at-i env = ap (λ (z : Node). quant_rows z F i env) (sym o-is) ∙ ap (λ z. rows_found z F env) (found-r bs root w o us r vs xs c ys e)

  same-quants : (d : Distinct) → quant_rows (M d) F ≡ s
  same-quants d = fun_ext (λ q. sym (moved E i r.over vs (absent-vs bs root w o us r vs xs c ys e) F q us (absent-us bs root w o us r vs xs c ys e)))

  -- ---- with c in the place of its conjuncts

  give-same : (d : Distinct) → given_by s (joined_box d us r vs xs c ys o) ≡ given_by s (M d)
  give-same d = fun_ext (λ env. ap (λ l. keep l (unit (head_cells (λ q. s q env) head env))) (among-true (λ q. s q env) env xs c ys))

  pub rows-joined : (d : Distinct) (env : Environment) → rows_of tables (joined_box d us r vs xs c ys o) F env ≡ rows_by Select tables (M d) s env
  rows-joined d env =
      ap (λ k. rows_by k tables (joined_box d us r vs xs c ys o) (quant_rows (M d) F) env) e.is.select
      ∙ ap (λ z. rows_by Select tables (joined_box d us r vs xs c ys o) z env) (same-quants d)
      ∙ ap (λ give. once_if (is_enforce d) (over_each ((us ++ vs) ++ as_F i r.over ∷ []) s give env)) (give-same d)

  pub rows-o : (env : Environment) → rows_of tables o F env ≡ rows_by Select tables N s env
  rows-o env = ap (λ (z : Node). rows_of tables z F env) o-is

  -- ---- the cases

  abbrev raw : Environment → Bag
  raw env = over_each (us ++ as_E i r.over ∷ vs) s (given_by s N) env

  both-distinct : (env : Environment) → Alike (distinct same_cells (raw env)) (rows_by Select tables (M Enforce) s env)
  both-distinct env = joined s i xs ys c head not-read.below not-read.cells not-read.before not-read.behind us vs r.over env

  pub when-enforced : o.parts.distinct ≡ Enforce → (env : Environment) → Agree same_cells (rows_of tables (joined_box Enforce us r vs xs c ys o) F env) (rows_of tables o F env)
  when-enforced h env =
      agree-from_alike same_cells (subst (λ z. Alike z (rows_of tables o F env)) (sym (rows-joined Enforce env))
      (subst (λ z. Alike (rows_by Select tables (M Enforce) s env) z) (ap (λ d. once_if (is_enforce d) (raw env)) (sym h) ∙ sym (rows-o env)) (alike-sym (both-distinct env))))

  pub when-one : ((env : Environment) → passes env ≡ true → how_many (F r.over env) ≤ 1) → (env : Environment) → passes env ≡ true
      → Agree same_cells (rows_of tables (joined_box o.parts.distinct us r vs xs c ys o) F env) (rows_of tables o F env)
  when-one one env fit =
      agree-from_alike same_cells (subst (λ z. Alike z (rows_of tables o F env)) (sym (rows-joined o.parts.distinct env))
      (subst (λ z. Alike (rows_by Select tables (M o.parts.distinct) s env) z) (sym (rows-o env))
      (alike-sym (joins-of_one tables s o.id o.parts o.parts.distinct us vs i r.over xs ys c head passes not-read stays-n (λ e pe. subst (λ (rows : Bag). how_many rows ≤ 1) (sym (at-i e)) (one e pe)) env fit))))

  -- a key of the rows without DISTINCT
  keyed-raw : (columns : List ℕ) (d : Distinct) → o.parts.distinct ≡ d → (env : Environment) → HasKey columns (F o.id env) → is_enforce d ≡ false → Agree same_cells (distinct same_cells (raw env)) (rows_of tables o F env)
  keyed-raw columns d h env key f =
      let same : rows_of tables o F env ≡ raw env = rows-o env ∙ ap (λ d. once_if (is_enforce d) (raw env)) h ∙ ap (λ t. once_if t (raw env)) f in
      subst (λ z. Agree same_cells (distinct same_cells z) (rows_of tables o F env)) same
      (key-laws.distinct_goes columns (rows_of tables o F env) (subst (λ z. HasKey columns z) (unfold-bag tables bs o w.ordered e.within env) key))

  pub when-keyed : (columns : List ℕ) → ((env : Environment) → passes env ≡ true → HasKey columns (F o.id env)) → (env : Environment) → passes env ≡ true
      → Agree same_cells (rows_of tables (joined_box Enforce us r vs xs c ys o) F env) (rows_of tables o F env)
  when-keyed columns key env fit = by o.parts.distinct refl
    where
      from : Agree same_cells (distinct same_cells (raw env)) (rows_of tables o F env) → Agree same_cells (rows_of tables (joined_box Enforce us r vs xs c ys o) F env) (rows_of tables o F env)
      from a = agree-from_alike same_cells (alike-trans (subst (λ z. Alike z (distinct same_cells (raw env))) (sym (rows-joined Enforce env)) (alike-sym (both-distinct env))) (alike-from_agree same_cells same_cells-decides a))

      by : (d : Distinct) → o.parts.distinct ≡ d → Agree same_cells (rows_of tables (joined_box Enforce us r vs xs c ys o) F env) (rows_of tables o F env)
      by Enforce h = when-enforced h env
      by Preserve h = from (keyed-raw columns Preserve h env (key env fit) refl)
      by Permit h = from (keyed-raw columns Permit h env (key env fit) refl)

  pub when-permitted : o.parts.distinct ≡ Permit → (env : Environment) → is_clean (F o.id env) ≡ true → is_clean (rows_of tables (joined_box Permit us r vs xs c ys o) F env) ≡ true
      → AgreeAsSets same_cells (rows_of tables (joined_box Permit us r vs xs c ys o) F env) (rows_of tables o F env)
  when-permitted h env cn cm =
      let n-is : rows_by Select tables N s env ≡ rows_by Select tables (some_box o.id o.parts Permit us i r.over vs xs c ys head) s env = ap (λ d. once_if (is_enforce d) (raw env)) h in
      sets-sym same_cells (levels-sets same_cells (rows_of tables o F env) (rows_of tables (joined_box Permit us r vs xs c ys o) F env) (ap is_clean (sym (unfold-bag tables bs o w.ordered e.within env)) ∙ cn) cm
      (subst (λ z. SameLevels same_cells (rows_of tables o F env) z) (sym (rows-joined Permit env))
      (subst (λ z. SameLevels same_cells z (rows_by Select tables (M Permit) s env)) (sym (rows-o env ∙ n-is))
      (joins-levels tables s o.id o.parts Permit us vs i r.over xs ys c head env not-read))))
