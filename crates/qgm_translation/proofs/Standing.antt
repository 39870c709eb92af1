-- The boxes of tables and views stand in order, each after what it reads, and those of the query after them.
use Rattle.std.proofs.Common.{◌≡◌, ◌≤◌, ◌<◌, ◌==◌, inl, inr, cond, ℕ, zero, suc, ◌+◌, Bool, true, false, List, [], ◌∷◌, length, refl, ap, sym, ◌∙◌, subst, arith}
use Rattle.std.proofs.lemmas.Bool.{cases_Bool, eq-eqb}
use Rattle.sql_meaning.specs.ResolvedTrees.{Query}
use Rattle.sql_meaning.specs.ResolvedTrees as q
use Rattle.sql_meaning.specs.ResolvedViews.{ViewTree}
use Rattle.qgm_core.specs.declared.kinds.BaseTable.{BaseTable}
use Rattle.qgm_core.specs.declared.kinds.BoxKind.TheVariants.{Base}
use Rattle.qgm_core.specs.declared.node.Node.{Node}
use Rattle.qgm_terms.specs.Terms.{Term}
use Rattle.qgm_translation.specs.Buildable.{Buildable}
use Rattle.qgm_translation.specs.Lay.{Boxes, Laid, box_named, lay_by, lay_table, plain_box}
use Rattle.qgm_translation.specs.Lays.{Counted, EachHasTypes, InOrder, NamesAreFor, OneMore, Ready, Unshared, laid_over}
use Rattle.qgm_translation.specs.Reads.{query_reads}
use Rattle.qgm_translation.specs.Maps.{Map}
use Rattle.qgm_translation.specs.Shown.{ShowsBox, Thing, of_operand, uses}
use Rattle.qgm_translation.specs.Sources.{Sources}
use Rattle.qgm_translation.specs.There.{AreFor, EachFor, IsFor, Notes, both_noted, noted, unnoted}
use Rattle.qgm_translation.specs.Typing.{typed_by}
use Rattle.qgm_translation.specs.Whole.{is_laid, is_wanted, lay_read, lay_tables, lay_views, nothing_laid, shares}
use Rattle.qgm_translation.specs.WholeLaw.{EachTableSaid, EachViewSaid, TableSaid, ViewSaid, is_declared}
use Rattle.qgm_translation.proofs.LaidAll.{laid}
use Rattle.qgm_translation.proofs.Made.{each-put}
use Rattle.qgm_translation.proofs.Noted.{shows-there}
use Rattle.qgm_translation.proofs.Numbers.{below-or}
use Rattle.qgm_translation.proofs.Order.{low-more, low-not}
use Rattle.qgm_translation.proofs.Reading.{query-has, query-narrow}
use Rattle.qgm_translation.proofs.Rows.{Later, begins-more, begins-refl, each_has_types-later, get-last, length-one}
use Rattle.qgm_translation.proofs.Same.{lay-same}
use Rattle.qgm_translation.proofs.Start.{base-as, base-ready, nothing-ready, view-ready}
use Rattle.qgm_translation.proofs.Whole.{Toward, box-left, box-new, laid-new, laid-one, laid-stays, read-laid, read-less, read-toward, tables-toward, toward-query, toward-shares, toward-trans, views-toward, wanted}

-- what is told is what is known at the end
pub record Final (known sources : Sources) (end : Boxes) : Type 0 where
  pub counts : (name : List ℕ) → known.columns name ≡ sources.columns name
  pub typed : (x : Term) → sources.typed x ≡ typed_by end.rows x
  pub shared : (name : List ℕ) → sources.shared name ≡ box_named end.shared name

-- and the box of one name more
names-more : (sources : Sources) (has more : List ℕ → Bool) (what : ℕ → Thing) (seen : ℕ → Map) (name : List ℕ) → OneMore has name more → IsFor what seen (sources.shared name) (of_operand (q.named name)) [] → NamesAreFor sources has what seen → NamesAreFor sources more what seen
names-more sources has more what seen name one there names n h = elim (one n h) [ inl e ↦ subst (λ z. IsFor what seen (sources.shared z) (of_operand (q.named z)) []) (sym e) there | inr e ↦ names n e ]

module _ (known sources : Sources) (end : Boxes) (told : Final known sources end) where
  pub record Good (s : Boxes) : Type 0 where
    pub ready : Ready sources (is_laid s.shared) s []
    pub order : InOrder sources (is_laid s.shared) s
    pub counted : Counted s
    pub typed : EachHasTypes s s.made
    pub once : (j : ℕ) → j < s.box → Unshared sources (is_laid s.shared) j → uses j s.made ≡ 1
    pub notes : Notes 0 s.box
    pub there : (what : ℕ → Thing) (seen : ℕ → Map) → AreFor what seen 0 s.box notes → NamesAreFor sources (is_laid s.shared) what seen × EachFor sources what seen s.made

  pub named-at : (s : Boxes) → Toward s end → (n : List ℕ) → is_laid s.shared n ≡ true → box_named s.shared n ≡ sources.shared n
  named-at s tw n h = sym (told.shared n ∙ ap (λ zs. box_named zs n) tw.is ∙ box-left s.shared tw.more n h)

  number-new : (r : Laid) (name : List ℕ) → is_laid r.boxes.shared name ≡ false → Toward (shares name r) end → sources.shared name ≡ r.top
  number-new r name h tw = told.shared name ∙ ap (λ zs. box_named zs name) tw.is ∙ box-new r.boxes.shared tw.more name r.top h

  pub good-start : Good nothing_laid
  good-start =
      let none = nothing-ready sources nothing_laid in
      record {
        ready = record { known = none.known; sourced = none.sourced; under = tt };
        order = record {
          low = tt;
          ordered = tt;
          settled = tt;
          bound = λ q h. absurd (cc h);
          once = tt;
          unused = λ j l. refl;
          named = λ n h. absurd (cc h);
        };
        counted = record { some = omega arith; rows = refl; types = refl };
        typed = tt;
        once = λ j l u. absurd (omega arith);
        notes = unnoted 0;
        there = λ what seen are. ((λ n h. absurd (cc h)), λ n i. absurd i);
      }

  -- ---- a table

  table-good : (has : List ℕ → Bool) (deep : List ℕ → ℕ) (t : BaseTable) (s : Boxes) → TableSaid sources has deep t → is_laid s.shared t.name ≡ false → Good s → Toward (shares t.name (lay_table t s)) end → Good (shares t.name (lay_table t s))
  table-good all deep t s said fresh g tw =
      let r = lay_table t s in
      let new = shares t.name r in
      let has = is_laid s.shared in
      let more = is_laid new.shared in
      let one : OneMore has t.name more = λ n h. laid-new s.shared t.name s.box n h in
      let number : sources.shared t.name ≡ s.box = number-new r t.name fresh tw in
      let named : (sources.stored t.name).name ≡ t.name = ap (λ (b : BaseTable). b.name) said.stored in
      let types : length (sources.stored t.name).types ≡ sources.columns t.name = ap (λ (b : BaseTable). length b.types) said.stored ∙ said.columns in
      let ready = subst (λ (b : BaseTable). Ready sources more (lay_table b s).boxes []) said.stored (base-ready sources has more t.name one s said.body number named types g.ready) in
      let box : Node = plain_box s.box (Base t) false [] [] [] in
      let shows : (below : ℕ → Thing → Map → Type 0) → ShowsBox sources below (of_operand (q.named t.name)) [] box = λ below. (
        sym number,
        base-as sources t.name (sources.body t.name) below box said.body (record {
          kind = ap Base (sym said.stored);
          named = named;
          types = types;
          plain = record { distinctness = refl; role = refl; numbered = (refl, refl) };
          bare = (refl, refl);
          quants = refl;
        }),
      ) in
      let o = g.order in
      let c = g.counted in
      let later : Later s new = record { boxes = omega arith; quants = omega arith; rows = begins-refl s.rows; types = begins-more s.types (t.types ∷ []) } in
      record {
        ready = record { known = ready.known; sourced = ready.sourced; under = tt };
        order = record {
          low = (omega arith, low-more s.box (suc s.box) s.made (omega arith) o.low);
          ordered = (low-not s.box s.made o.low, refl, o.ordered);
          settled = ((λ q own. absurd (cc own)), o.settled);
          bound = λ q h. o.bound q h;
          once = (refl, (λ q own. absurd (cc own)), o.once);
          unused = λ j l. (let e = o.unused j (omega arith) in omega arith);
          named = λ n h. ready.known n h;
        };
        counted = record { some = c.some; rows = c.rows; types = length-one s.types t.types s.box c.types };
        typed = (record { laid = omega arith; quants = tt; head = tt; types = get-last s.types t.types s.box c.types }, each_has_types-later s new c later s.made g.typed);
        once = λ j l u. below-or j s.box
            (λ z. let e = g.once j z (λ n h. u n (laid-stays s.shared (record { name = t.name; box = s.box } ∷ []) n h)) in let i : 0 + uses j s.made ≡ 1 = omega arith in i)
            (λ z. absurd (
            let i : s.box ≡ j = omega arith in
            let y = eq-eqb (sources.shared t.name) j (number ∙ i) in
            let v = u t.name (laid-one s.shared t.name s.box) in
            cc (y, v)
            ));
        notes = both_noted 0 s.box (suc s.box) g.notes (noted s.box (of_operand (q.named t.name)) []);
        there = λ what seen are.
            let x = g.there what seen are.0 in (
              names-more sources has more what seen t.name one (subst (λ b. IsFor what seen b (of_operand (q.named t.name)) []) (sym number) are.1) x.0,
              each-put sources what seen box s.made (shows-there sources (IsFor what seen) box (of_operand (q.named t.name)) [] (of_operand (q.named t.name)) what seen refl are.1 (shows (IsFor what seen))) (λ f. f) x.1,
            );
      }

  -- ---- a view

  view-good : (all : List ℕ → Bool) (deep : List ℕ → ℕ) (v : ViewTree) (t : Boxes) → ViewSaid sources all deep v → is_laid t.shared v.name ≡ false → ((n : List ℕ) → query_reads v.body n ≡ true → is_laid t.shared n ≡ true) → Good t
      → Toward t end → Toward (shares v.name (lay_by known v.body [] t)) end → Good (shares v.name (lay_by known v.body [] t))
  view-good all deep v t said fresh reads g before tw =
      let has = is_laid t.shared in
      let fit : Buildable sources has v.body = query-narrow sources all has v.body said.fit reads in
      let same : lay_by known v.body [] t ≡ laid_over sources v.body [] t
      = lay-same known sources has t.shared end.rows (record { counts = told.counts; typed = told.typed; named = named-at t before }) v.body [] t fit g.ready (record { counted = g.counted; shared = refl }) tw.rows in
      let r = laid_over sources v.body [] t in
      let new = shares v.name r in
      let towards = subst (λ (x : Laid). Toward (shares v.name x) end) same tw in
      let made = laid sources has v.body [] t fit g.ready in
      let k = made.keeps in
      let number : sources.shared v.name ≡ r.top = number-new r v.name (ap (λ zs. is_laid zs v.name) k.shared ∙ fresh) towards in
      let more = is_laid new.shared in
      let one : OneMore has v.name more = λ n h. (elim (laid-new r.boxes.shared v.name r.top n h) [ inl e ↦ inl e | inr e ↦ inr (sym (ap (λ zs. is_laid zs n) k.shared) ∙ e) ]) in
      let ready = view-ready sources has more v.name one v.body t said.body number fit g.ready in
      let o = k.order g.order in
      let c = k.counted g.counted in
      let later : Later r.boxes new = record { boxes = omega arith; quants = omega arith; rows = begins-refl r.boxes.rows; types = begins-refl r.boxes.types } in
      let still : (n : List ℕ) → has n ≡ true → more n ≡ true = λ n h. laid-stays r.boxes.shared (record { name = v.name; box = r.top } ∷ []) n (ap (λ zs. is_laid zs n) k.shared ∙ h) in
      let good : Good new = record {
        ready = record { known = ready.known; sourced = ready.sourced; under = tt };
        order = record {
          low = o.low;
          ordered = o.ordered;
          settled = o.settled;
          bound = o.bound;
          once = o.once;
          unused = o.unused;
          named = λ n h. ready.known n h;
        };
        counted = record { some = c.some; rows = c.rows; types = c.types };
        typed = each_has_types-later r.boxes new c later r.boxes.made (k.typed g.counted g.typed);
        once = λ j l u. below-or j t.box
            (λ z. let un : Unshared sources has j = λ n h. u n (still n h) in k.kept j z un ∙ g.once j z un)
            (λ z. made.used g.order j z l ∙ ap (λ b. cond b 0 1) (ap (λ (z : ℕ). z == j) (sym number) ∙ u v.name (laid-one r.boxes.shared v.name r.top)));
        notes = both_noted 0 t.box r.boxes.box g.notes (made.notes (of_operand (q.named v.name)));
        there = λ what seen are.
            let x = g.there what seen are.0 in
            let y = made.there (of_operand (q.named v.name)) (inr (inr (record { name = v.name; is = refl; body = said.body; shared = number; outermost = refl }))) what seen are.1 x.0 in
            (names-more sources has more what seen v.name one (subst (λ b. IsFor what seen b (of_operand (q.named v.name)) []) (sym number) y.0) x.0, y.1 x.1);
      } in
      subst (λ (x : Laid). Good (shares v.name x)) (sym same) good

  -- ---- all of them

  tables-good : (has : List ℕ → Bool) (deep : List ℕ → ℕ) (query : Query) (ts : List BaseTable) (s : Boxes) → EachTableSaid sources has deep ts → Good s → Toward (lay_tables query ts s) end → Good (lay_tables query ts s)
  tables-good has deep query [] s said g tw = g
  tables-good has deep query (t ∷ ts) s said g tw =
      let made = shares t.name (lay_table t s) in
      let mid = cond (is_wanted query s t.name) made s in
      let towards : Toward mid end = toward-trans mid (lay_tables query ts mid) end (tables-toward query ts mid) tw in
      tables-good has deep query ts mid said.1 (by_case (is_wanted query s t.name) refl towards) tw
    where
      by_case : (b : Bool) → is_wanted query s t.name ≡ b → Toward (cond b (shares t.name (lay_table t s)) s) end → Good (cond b (shares t.name (lay_table t s)) s)
      by_case true e tw = table-good has deep t s said.0 (wanted query s t.name e).1 g tw
      by_case false e tw = g

  module _ (tables : List BaseTable) (views : List ViewTree) (deep : List ℕ → ℕ) (tables_said : EachTableSaid sources (is_declared tables views) deep tables) (views_said : EachViewSaid sources (is_declared tables views) deep views) where
    abbrev has : List ℕ → Bool
    has = is_declared tables views

    views-good : (depth : ℕ) (below_good : (x : Query) (s : Boxes) → ((n : List ℕ) → query_reads x n ≡ true → deep n ≤ depth) → Good s → Toward (lay_read known tables views depth x s) end → Good (lay_read known tables views depth x s)) (query : Query)
        → ((n : List ℕ) → query_reads query n ≡ true → deep n ≤ suc depth) → (vs : List ViewTree) → EachViewSaid sources has deep vs → (s : Boxes) → Good s → Toward (lay_views known (lay_read known tables views depth) query vs s) end
        → Good (lay_views known (lay_read known tables views depth) query vs s)
    views-good depth below_good query low [] said s g tw = g
    views-good depth below_good query low (v ∷ vs) said s g tw =
        let below = lay_read known tables views depth in
        let made = shares v.name (lay_by known v.body [] (below v.body s)) in
        let mid = cond (is_wanted query s v.name) made s in
        let towards : Toward mid end = toward-trans mid (lay_views known below query vs mid) end (views-toward known below (read-toward known tables views depth) query vs mid) tw in
        views-good depth below_good query low vs said.1 mid (by_case (is_wanted query s v.name) refl towards) tw
      where
        t : Boxes
        t = lay_read known tables views depth v.body s

        by_case : (b : Bool) → is_wanted query s v.name ≡ b → Toward (cond b (shares v.name (lay_by known v.body [] t)) s) end → Good (cond b (shares v.name (lay_by known v.body [] t)) s)
        by_case false e tw = g
        by_case true e tw =
            let r = lay_by known v.body [] t in
            let here = wanted query s v.name e in
            let top = low v.name here.0 in
            let before : Toward t end = toward-trans t r.boxes end (toward-query known v.body t) (toward-trans r.boxes (shares v.name r) end (toward-shares v.name r) tw) in
            let less : (n : List ℕ) → query_reads v.body n ≡ true → deep n ≤ depth = λ n h. (let x = said.0.reads n h in omega arith) in
            let fresh : is_laid t.shared v.name ≡ false = not_yet here.1 in
            view-good has deep v t said.0 fresh (λ n h. read-laid known tables views has deep sources views_said depth v.body s n h (query-has sources has n v.body said.0.fit h) (less n h)) (below_good v.body s less g before) before tw
          where
            not_yet : is_laid s.shared v.name ≡ false → is_laid t.shared v.name ≡ false
            not_yet f = elim (cases_Bool (is_laid t.shared v.name)) [
              | inr i ↦ i
              | inl i ↦ elim (read-less known tables views has deep sources views_said depth (deep v.name) v.body said.0.reads s v.name i) [ inl a ↦ absurd (cc (a, f)) | inr a ↦ absurd (omega arith) ]
            ]

    pub read-good : (depth : ℕ) (query : Query) (s : Boxes) → ((n : List ℕ) → query_reads query n ≡ true → deep n ≤ depth) → Good s → Toward (lay_read known tables views depth query s) end → Good (lay_read known tables views depth query s)
    read-good zero query s low g tw = tables-good has deep query tables s tables_said g tw
    read-good (suc depth) query s low g tw =
        let t = lay_tables query tables s in
        let before : Toward t end = toward-trans t (lay_read known tables views (suc depth) query s) end (views-toward known (lay_read known tables views depth) (read-toward known tables views depth) query views t) tw in
        views-good depth (read-good depth) query low views views_said t (tables-good has deep query tables s tables_said g before) tw
