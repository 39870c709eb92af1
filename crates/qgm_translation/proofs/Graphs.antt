-- The graph that is laid for a query is built of it.
use Rattle.std.proofs.Common.{◌≡◌, ◌≤◌, ◌<◌, ◌⊎◌, ◌==◌, ◌||◌, inl, inr, cond, ℕ, zero, suc, Bool, true, false, List, [], ◌∷◌, Option, refl, ap, sym, ◌∙◌, subst, arith}
use Rattle.std.specs.Prelude.{nat_lt}
use Rattle.std.specs.List.{list_all}
use Rattle.std.specs.Cmp.Lexicographic.{nat_list_eq_equiv}
use Rattle.std.proofs.lemmas.Bool.{cases_Bool, eq-eqb, eqb-true, lt-ltb, or_left, or_right}
use Rattle.sql_ast.specs.Names.{same_name}
use Rattle.sql_meaning.specs.ResolvedTrees.{Query}
use Rattle.sql_meaning.specs.ResolvedTrees as q
use Rattle.sql_meaning.specs.ResolvedViews.{ViewTree}
use Rattle.sql_value.specs.declared.order_key.OrderKey.{OrderKey}
use Rattle.qgm_core.specs.declared.kinds.BaseTable.{BaseTable}
use Rattle.qgm_core.specs.declared.node.Node.{Node}
use Rattle.qgm_translation.specs.Buildable.{Buildable}
use Rattle.qgm_translation.specs.Lay.{Boxes, Laid, SharedBox, lay_by, lay_table, laying}
use Rattle.qgm_translation.specs.Lays.{Low, Made, Unshared, laid_over}
use Rattle.qgm_translation.specs.Reads.{query_reads}
use Rattle.qgm_translation.specs.Shown.{Shows, Thing, of_operand, of_query, uses}
use Rattle.qgm_translation.specs.Shown as w
use Rattle.qgm_translation.specs.Maps.{Map}
use Rattle.qgm_translation.specs.Sources.{Sources}
use Rattle.qgm_translation.specs.There.{AreFor, EachForOne, Notes, both_noted}
use Rattle.qgm_translation.specs.Whole.{graph_of, is_laid, is_wanted, lay_read, lay_tables, lay_views, lay_whole, nothing_laid, shares}
use Rattle.qgm_translation.specs.WholeLaw.{EachViewSaid, IsLaidFor, IsOver, ViewSaid, is_declared}
use Rattle.qgm_translation.proofs.Grows.{lay-grows}
use Rattle.qgm_translation.proofs.LaidAll.{laid}
use Rattle.qgm_translation.proofs.Made.{shows-as}
use Rattle.qgm_translation.proofs.Noted.{all-noted, seens, whats}
use Rattle.qgm_translation.proofs.Numbers.{below-or, or-cases}
use Rattle.qgm_translation.proofs.Reading.{query-has, query-narrow, same-eq}
use Rattle.qgm_translation.proofs.Rows.{begins-refl}
use Rattle.qgm_translation.proofs.Same.{lay-same}
use Rattle.qgm_translation.proofs.Standing.{Final, Good, good-start, named-at, read-good}
use Rattle.qgm_translation.proofs.Times.{counted-once}
use Rattle.qgm_translation.proofs.Used.{uses-read}
use Rattle.qgm_translation.proofs.Whole.{Toward, laid-new, laid-one, pick, read-laid, read-toward, tables-toward, toward-laid, toward-query, toward-shares, toward-trans, views-toward, wanted}

-- ---- why a table or a view was laid

module _ (known sources : Sources) (has : List ℕ → Bool) (deep : List ℕ → ℕ) (tables : List BaseTable) (views : List ViewTree) where
  -- a view that was laid reads it
  pub record Via (s : Boxes) (n : List ℕ) : Type 0 where
    pub view : ViewTree
    pub said : ViewSaid sources has deep view
    pub laid : is_laid s.shared view.name ≡ true
    pub reads : query_reads view.body n ≡ true

  abbrev Why : Boxes → Boxes → Query → List ℕ → Type 0
  Why s t query n = (is_laid s.shared n ≡ true) ⊎ ((query_reads query n ≡ true) ⊎ Via t n)

  abbrev Whys : Boxes → Boxes → Query → Type 0
  Whys s t query = (n : List ℕ) → is_laid t.shared n ≡ true → Why s t query n

  via-later : (s t : Boxes) → Toward s t → (n : List ℕ) → Via s n → Via t n
  via-later s t tw n v = record { view = v.view; said = v.said; laid = toward-laid s t tw v.view.name v.laid; reads = v.reads }

  whys-trans : (a b c : Boxes) (query : Query) → Toward b c → Whys a b query → Whys b c query → Whys a c query
  whys-trans a b c query tw f g n h = elim (g n h) [ inr e ↦ inr e | inl e ↦ first (f n e) ]
    where
      first : Why a b query n → Why a c query n
      first (inl e) = inl e
      first (inr e) = elim e [ inl i ↦ inr (inl i) | inr i ↦ inr (inr (via-later b c tw n i)) ]

  table-why : (query : Query) (t : BaseTable) (s : Boxes) → query_reads query t.name ≡ true → Whys s (shares t.name (lay_table t s)) query
  table-why query t s e n h = elim (laid-new s.shared t.name s.box n h) [ inl i ↦ inr (inl (subst (λ z. query_reads query z ≡ true) (sym i) e)) | inr i ↦ inl i ]

  tables-why : (query : Query) (ts : List BaseTable) (s : Boxes) → Whys s (lay_tables query ts s) query
  tables-why query [] s = λ n h. inl h
  tables-why query (t ∷ ts) s =
      let made = shares t.name (lay_table t s) in
      let mid = cond (is_wanted query s t.name) made s in
      whys-trans s mid (lay_tables query ts mid) query (tables-toward query ts mid)
      (pick (λ (b : Boxes). Whys s b query) (is_wanted query s t.name) made s (λ e. table-why query t s (wanted query s t.name e).0) (λ e. λ n h. inl h)) (tables-why query ts mid)

  view-why : (query : Query) (v : ViewTree) (s t : Boxes) → ViewSaid sources has deep v → query_reads query v.name ≡ true → Whys s t v.body → Toward t (shares v.name (lay_by known v.body [] t)) → Whys s (shares v.name (lay_by known v.body [] t)) query
  view-why query v s t said e f tw n h = elim (laid-new r.boxes.shared v.name r.top n h) [ inl i ↦ inr (inl (subst (λ z. query_reads query z ≡ true) (sym i) e)) | inr i ↦ later (f n (sym (ap (λ zs. is_laid zs n) same) ∙ i)) ]
    where
      r : Laid
      r = lay_by known v.body [] t

      same : r.boxes.shared ≡ t.shared
      same = ((lay-grows known (laying known) v.body []).at t).shared

      later : Why s t v.body n → Why s (shares v.name r) query n
      later (inl i) = inl i
      later (inr i) = elim i [
        | inl j ↦ inr (inr (record { view = v; said = said; laid = laid-one r.boxes.shared v.name r.top; reads = j }))
        | inr j ↦ inr (inr (via-later t (shares v.name r) tw n j))
      ]

  views-why : (depth : ℕ) → ((x : Query) (s : Boxes) → Whys s (lay_read known tables views depth x s) x) → (query : Query) (vs : List ViewTree) → EachViewSaid sources has deep vs → (s : Boxes) → Whys s (lay_views known (lay_read known tables views depth) query vs s) query
  views-why depth f query [] said s = λ n h. inl h
  views-why depth f query (v ∷ vs) said s =
      let below = lay_read known tables views depth in
      let t = below v.body s in
      let r = lay_by known v.body [] t in
      let made = shares v.name r in
      let mid = cond (is_wanted query s v.name) made s in
      whys-trans s mid (lay_views known below query vs mid) query (views-toward known below (read-toward known tables views depth) query vs mid)
      (pick (λ (b : Boxes). Whys s b query) (is_wanted query s v.name) made s
      (λ e. view-why query v s t said.0 (wanted query s v.name e).0 (f v.body s) (toward-trans t r.boxes made (toward-query known v.body t) (toward-shares v.name r)))
      (λ e. λ n h. inl h)) (views-why depth f query vs said.1 mid)

  pub read-why : EachViewSaid sources has deep views → (depth : ℕ) (query : Query) (s : Boxes) → Whys s (lay_read known tables views depth query s) query
  read-why said zero query s = tables-why query tables s
  read-why said (suc depth) query s =
      let t = lay_tables query tables s in
      whys-trans s t (lay_read known tables views (suc depth) query s) query (views-toward known (lay_read known tables views depth) (read-toward known tables views depth) query views t) (tables-why query tables s)
      (views-why depth (read-why said depth) query views said t)

-- ---- a box is that of a table or a view, or not

record IsBoxOf (sources : Sources) (has : List ℕ → Bool) (b : ℕ) : Type 0 where
  pub name : List ℕ
  pub laid : has name ≡ true
  pub is : sources.shared name ≡ b

shared-or : (sources : Sources) (b : ℕ) (xs : List SharedBox) → IsBoxOf sources (is_laid xs) b ⊎ Unshared sources (is_laid xs) b
shared-or sources b [] = inr (λ n h. absurd (cc h))
shared-or sources b (x ∷ xs) = by_case (cases_Bool (sources.shared x.name == b)) (shared-or sources b xs)
  where
    by_case : ((sources.shared x.name == b) ≡ true) ⊎ ((sources.shared x.name == b) ≡ false) → IsBoxOf sources (is_laid xs) b ⊎ Unshared sources (is_laid xs) b → IsBoxOf sources (is_laid (x ∷ xs)) b ⊎ Unshared sources (is_laid (x ∷ xs)) b
    by_case (inl e) r = inl (record { name = x.name; laid = or_left (same_name x.name x.name) (is_laid xs x.name) (nat_list_eq_equiv.refl x.name); is = eqb-true (sources.shared x.name) b e })
    by_case (inr e) (inl f) = inl (record { name = f.name; laid = or_right (same_name x.name f.name) (is_laid xs f.name) f.laid; is = f.is })
    by_case (inr e) (inr u) = inr (λ n h. or-cases (same_name x.name n) (is_laid xs n) h (λ i. subst (λ z. (sources.shared z == b) ≡ false) (same-eq x.name n i) e) (λ i. u n i))

at-most : (b : Bool) (n : ℕ) → n ≡ cond b 0 1 → n ≤ 1
at-most true n h = omega arith
at-most false n h = omega arith

above : (n : ℕ) → 1 ≤ n → nat_lt 0 n ≡ true
above n l = lt-ltb 0 n (omega arith)

used-or : (a b : ℕ) (n : ℕ) → n ≡ cond (b == a) 0 1 → ((a == b) || nat_lt 0 n) ≡ true
used-or a b n h = by_case (b == a) refl h
  where
    by_case : (x : Bool) → (b == a) ≡ x → n ≡ cond x 0 1 → ((a == b) || nat_lt 0 n) ≡ true
    by_case true e h = or_left (a == b) (nat_lt 0 n) (eq-eqb a b (sym (eqb-true b a e)))
    by_case false e h = or_right (a == b) (nat_lt 0 n) (above n (omega arith))

all-used : (p : ℕ → Bool) (k : ℕ) → ((j : ℕ) → j < k → p j ≡ true) → (ns : List Node) → Low k ns → list_all (λ n. p n.id) ns ≡ true
all-used p k f [] l = refl
all-used p k f (n ∷ ns) l = let a = f n.id l.0 in let b = all-used p k f ns l.1 in rw (a, b) refl

module _ (known sources : Sources) (tables : List BaseTable) (views : List ViewTree) (deep : List ℕ → ℕ) (query : Query) (names : List (Option (List ℕ))) (order : List OrderKey) where
  abbrev declared : List ℕ → Bool
  declared = is_declared tables views

  abbrev base : Boxes
  base = lay_read known tables views 16 query nothing_laid

  abbrev r : Laid
  r = lay_whole known tables views query

  abbrev like : Laid
  like = laid_over sources query [] base

  module _ (told : Final known sources r.boxes) (over : IsOver sources tables views deep query) where
    good : Good known sources r.boxes told base
    good = read-good known sources r.boxes told tables views deep over.tables_said over.views_said 16 query nothing_laid (λ n h. over.shallow n) (good-start known sources r.boxes told) (toward-query known query base)

    abbrev has : List ℕ → Bool
    has = is_laid base.shared

    fit : Buildable sources has query
    fit = query-narrow sources declared has query over.fit (λ n h. read-laid known tables views declared deep sources over.views_said 16 query nothing_laid n h (query-has sources declared n query over.fit h) (over.shallow n))

    pub same : r ≡ like
    same = lay-same known sources has base.shared r.boxes.rows (record { counts = told.counts; typed = told.typed; named = named-at known sources r.boxes told base (toward-query known query base) }) query [] base fit good.ready
        (record { counted = good.counted; shared = refl }) (begins-refl r.boxes.rows)

    made : Made sources has (of_query query) [] base like
    made = laid sources has query [] base fit good.ready

    once : (j : ℕ) → j < like.boxes.box → Unshared sources has j → uses j like.boxes.made ≡ cond (like.top == j) 0 1
    once j l u = below-or j base.box (λ z. made.keeps.kept j z u ∙ good.once j z u ∙ sym (ap (λ b. cond b 0 1) (made.top j z u))) (λ z. made.used good.order j z l)

    few : (j : ℕ) → Unshared sources has j → uses j like.boxes.made ≤ 1
    few j u = below-or j like.boxes.box (λ l. at-most (like.top == j) (uses j like.boxes.made) (once j l u)) (λ l. let e = (made.keeps.order good.order).unused j l in omega arith)

    -- the box of a table or a view that was laid shows it
    shown : (name : List ℕ) → has name ≡ true → Shows sources like.boxes.made (sources.shared name) (of_operand (q.named name)) []
    shown name h = made.keeps.same (sources.shared name) (of_operand (q.named name)) [] (good.ready.known name h) (good.ready.sourced name h [])

    -- and is used
    used-named : (name : List ℕ) → has name ≡ true → 1 ≤ uses (sources.shared name) like.boxes.made
    used-named name h = by_case (read-why known sources declared deep tables views over.views_said 16 query nothing_laid name h)
      where
        by_case : (is_laid nothing_laid.shared name ≡ true) ⊎ ((query_reads query name ≡ true) ⊎ Via known sources declared deep tables views base name) → 1 ≤ uses (sources.shared name) like.boxes.made
        by_case (inl e) = absurd (cc e)
        by_case (inr (inl e)) = uses-read sources name like.boxes.made like.top (of_query query) [] made.shows e
        by_case (inr (inr v)) =
            uses-read sources name like.boxes.made (sources.shared v.view.name) (of_query v.view.body) []
            (shows-as sources has (of_operand (q.named v.view.name)) (of_query v.view.body) [] [] (sources.shared v.view.name) (λ below n i h. subst (λ z. w.ShowsSource sources below v.view.name z n) v.said.body h.1) like.boxes.made (shown v.view.name v.laid))
            v.reads

    used : (j : ℕ) → j < like.boxes.box → ((j == like.top) || nat_lt 0 (uses j like.boxes.made)) ≡ true
    used j l = by_case (shared-or sources j base.shared)
      where
        by_case : IsBoxOf sources has j ⊎ Unshared sources has j → ((j == like.top) || nat_lt 0 (uses j like.boxes.made)) ≡ true
        by_case (inl f) = or_right (j == like.top) (nat_lt 0 (uses j like.boxes.made)) (above (uses j like.boxes.made) (subst (λ z. 1 ≤ uses z like.boxes.made) f.is (used-named f.name f.laid)))
        by_case (inr u) = used-or j like.top (uses j like.boxes.made) (once j l u)

    apart : (b : ℕ) → (uses b like.boxes.made ≤ 1) ⊎ ((name : List ℕ) × Shows sources like.boxes.made b (of_operand (q.named name)) [])
    apart b = by_case (shared-or sources b base.shared)
      where
        by_case : IsBoxOf sources has b ⊎ Unshared sources has b → (uses b like.boxes.made ≤ 1) ⊎ ((name : List ℕ) × Shows sources like.boxes.made b (of_operand (q.named name)) [])
        by_case (inl f) = inr (f.name, subst (λ z. Shows sources like.boxes.made z (of_operand (q.named f.name)) []) f.is (shown f.name f.laid))
        by_case (inr u) = inl (few b u)

    abbrev notes : Notes 0 like.boxes.box
    notes = both_noted 0 base.box like.boxes.box good.notes (made.notes (of_query query))

    -- each box is there for one thing
    there : EachForOne sources query (graph_of like names order)
    there =
        let what : ℕ → Thing = whats like.boxes.box notes in
        let seen : ℕ → Map = seens like.boxes.box notes in
        let are : AreFor what seen 0 like.boxes.box notes = all-noted like.boxes.box notes in
        let first = good.there what seen are.0 in
        let then = made.there (of_query query) (inl refl) what seen are.1 first.0 in
        record {
          what = what;
          seen = seen;
          root = then.0;
          each = then.1 first.1;
          alone = λ b. (elim (shared-or sources b base.shared) [ inl f ↦ inr (f.name, subst (λ z. what z ≡ of_operand (q.named f.name)) f.is (first.0 f.name f.laid).0) | inr u ↦ inl (few b u) ]);
        }

    is-laid-like : IsLaidFor sources query names order like
    is-laid-like =
        let stands = made.keeps.order good.order in
        record {
          built = record {
            shows = made.shows;
            named = refl;
            ordered = refl;
            used = all-used (λ j. (j == like.top) || nat_lt 0 (uses j like.boxes.made)) like.boxes.box used like.boxes.made stands.low;
            alone = λ b f. few b (λ n h. f n);
          };
          ordered = stands.ordered;
          once = counted-once like.boxes.made stands.once;
          bound = stands.bound;
          counted = made.keeps.counted good.counted;
          typed = made.keeps.typed good.counted good.typed;
          apart = apart;
          there = there;
        }

    pub is-laid-for : IsLaidFor sources query names order r
    is-laid-for = subst (IsLaidFor sources query names order) (sym same) is-laid-like
