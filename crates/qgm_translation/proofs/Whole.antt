-- What is laid of tables and views, one after the other.
use Rattle.std.proofs.Common.{◌≡◌, ◌≤◌, ◌<◌, ◌||◌, ◌&&◌, ◌⊎◌, not, inl, inr, cond, ℕ, zero, suc, Bool, true, false, List, [], ◌∷◌, ◌++◌, append_assoc, append-nil, refl, ap, sym, ◌∙◌, subst, arith}
use Rattle.std.specs.Cmp.Lexicographic.{nat_list_eq_equiv}
use Rattle.std.proofs.lemmas.Bool.{and_parts, or_left, or_right}
use Rattle.sql_ast.specs.Names.{same_name}
use Rattle.sql_meaning.specs.ResolvedTrees.{Query}
use Rattle.sql_meaning.specs.ResolvedViews.{ViewTree}
use Rattle.qgm_core.specs.declared.kinds.BaseTable.{BaseTable}
use Rattle.qgm_translation.specs.Lay.{Boxes, Laid, SharedBox, box_named, lay_by, lay_table, laying}
use Rattle.qgm_translation.specs.Lays.{Begins}
use Rattle.qgm_translation.specs.Reads.{query_reads}
use Rattle.qgm_translation.specs.Sources.{Sources}
use Rattle.qgm_translation.specs.Whole.{is_laid, is_wanted, lay_read, lay_tables, lay_views, shares}
use Rattle.qgm_translation.specs.WholeLaw.{EachViewSaid, in_tables, in_views, is_declared}
use Rattle.qgm_translation.proofs.Grows.{lay-grows}
use Rattle.qgm_translation.proofs.Numbers.{or-cases}
use Rattle.qgm_translation.proofs.Reading.{same-eq}
use Rattle.qgm_translation.proofs.Rows.{begins-refl, begins-trans}

-- ---- names that were laid

pub laid-append : (xs ys : List SharedBox) (n : List ℕ) → is_laid (xs ++ ys) n ≡ (is_laid xs n || is_laid ys n)
laid-append [] ys n = refl
laid-append (x ∷ xs) ys n = ap (λ b. same_name x.name n || b) (laid-append xs ys n) ∙ assoc (same_name x.name n) (is_laid xs n) (is_laid ys n)
  where
    assoc : (a b c : Bool) → (a || (b || c)) ≡ ((a || b) || c)
    assoc true b c = refl
    assoc false b c = refl

pub laid-stays : (xs ys : List SharedBox) (n : List ℕ) → is_laid xs n ≡ true → is_laid (xs ++ ys) n ≡ true
laid-stays xs ys n h = laid-append xs ys n ∙ or_left (is_laid xs n) (is_laid ys n) h

pub laid-one : (xs : List SharedBox) (name : List ℕ) (b : ℕ) → is_laid (xs ++ (record { name = name; box = b } ∷ [])) name ≡ true
laid-one xs name b = laid-append xs (record { name = name; box = b } ∷ []) name ∙ or_right (is_laid xs name) (same_name name name || false) (or_left (same_name name name) false (nat_list_eq_equiv.refl name))

-- only this one is new
pub laid-new : (xs : List SharedBox) (name : List ℕ) (b : ℕ) (n : List ℕ) → is_laid (xs ++ (record { name = name; box = b } ∷ [])) n ≡ true → (n ≡ name) ⊎ (is_laid xs n ≡ true)
laid-new xs name b n h =
    or-cases (is_laid xs n) (same_name name n || false) (sym (laid-append xs (record { name = name; box = b } ∷ []) n) ∙ h) (λ e. inr e)
    (λ e. or-cases (same_name name n) false e (λ i. inl (sym (same-eq name n i))) (λ i. absurd (cc i)))

pub box-left : (xs ys : List SharedBox) (n : List ℕ) → is_laid xs n ≡ true → box_named (xs ++ ys) n ≡ box_named xs n
box-left [] ys n h = absurd (cc h)
box-left (x ∷ xs) ys n h = by_case (same_name x.name n) h (box-left xs ys n)
  where
    by_case : (b : Bool) → (b || is_laid xs n) ≡ true → (is_laid xs n ≡ true → box_named (xs ++ ys) n ≡ box_named xs n) → cond b x.box (box_named (xs ++ ys) n) ≡ cond b x.box (box_named xs n)
    by_case true h f = refl
    by_case false h f = f h

pub box-right : (xs ys : List SharedBox) (n : List ℕ) → is_laid xs n ≡ false → box_named (xs ++ ys) n ≡ box_named ys n
box-right [] ys n h = refl
box-right (x ∷ xs) ys n h = by_case (same_name x.name n) h (box-right xs ys n)
  where
    by_case : (b : Bool) → (b || is_laid xs n) ≡ false → (is_laid xs n ≡ false → box_named (xs ++ ys) n ≡ box_named ys n) → cond b x.box (box_named (xs ++ ys) n) ≡ box_named ys n
    by_case true h f = absurd (cc h)
    by_case false h f = f h

pub box-new : (xs ys : List SharedBox) (name : List ℕ) (b : ℕ) → is_laid xs name ≡ false → box_named ((xs ++ (record { name = name; box = b } ∷ [])) ++ ys) name ≡ b
box-new xs ys name b h =
    ap (λ zs. box_named zs name) (append_assoc xs (record { name = name; box = b } ∷ []) ys) ∙ box-right xs (record { name = name; box = b } ∷ ys) name h
    ∙ ap (λ z. cond z b (box_named ys name)) (nat_list_eq_equiv.refl name)

-- ---- what is known later

pub record Toward (a b : Boxes) : Type 0 where
  pub rows : Begins a.rows b.rows
  pub more : List SharedBox
  pub is : b.shared ≡ a.shared ++ more

pub toward-refl : (a : Boxes) → Toward a a
toward-refl a = record { rows = begins-refl a.rows; more = []; is = sym (append-nil a.shared) }

pub toward-trans : (a b c : Boxes) → Toward a b → Toward b c → Toward a c
toward-trans a b c h k = record { rows = begins-trans h.rows k.rows; more = h.more ++ k.more; is = k.is ∙ ap (λ zs. zs ++ k.more) h.is ∙ append_assoc a.shared h.more k.more }

pub toward-laid : (a b : Boxes) → Toward a b → (n : List ℕ) → is_laid a.shared n ≡ true → is_laid b.shared n ≡ true
toward-laid a b h n l = ap (λ zs. is_laid zs n) h.is ∙ laid-stays a.shared h.more n l

pub toward-table : (table : BaseTable) (s : Boxes) → Toward s (shares table.name (lay_table table s))
toward-table table s = record { rows = begins-refl s.rows; more = record { name = table.name; box = s.box } ∷ []; is = refl }

pub toward-query : (known : Sources) (query : Query) (s : Boxes) → Toward s (lay_by known query [] s).boxes
toward-query known query s = let f = (lay-grows known (laying known) query []).at s in record { rows = f.rows; more = []; is = f.shared ∙ sym (append-nil s.shared) }

pub toward-shares : (name : List ℕ) (r : Laid) → Toward r.boxes (shares name r)
toward-shares name r = record { rows = begins-refl r.boxes.rows; more = record { name = name; box = r.top } ∷ []; is = refl }

pub pick : {X : Type 0} (P : X → Type 0) (b : Bool) (x y : X) → (b ≡ true → P x) → (b ≡ false → P y) → P (cond b x y)
pick P true x y f g = f refl
pick P false x y f g = g refl

pub tables-toward : (query : Query) (ts : List BaseTable) (s : Boxes) → Toward s (lay_tables query ts s)
tables-toward query [] s = toward-refl s
tables-toward query (t ∷ ts) s =
    let mid = cond (is_wanted query s t.name) (shares t.name (lay_table t s)) s in
    toward-trans s mid (lay_tables query ts mid) (pick (Toward s) (is_wanted query s t.name) (shares t.name (lay_table t s)) s (λ e. toward-table t s) (λ e. toward-refl s)) (tables-toward query ts mid)

module _ (known : Sources) where
  view-toward : (below : Query → Boxes → Boxes) → ((x : Query) (s : Boxes) → Toward s (below x s)) → (v : ViewTree) (s : Boxes) → Toward s (shares v.name (lay_by known v.body [] (below v.body s)))
  view-toward below grows v s =
      let t = below v.body s in
      let r = lay_by known v.body [] t in
      toward-trans s t (shares v.name r) (grows v.body s) (toward-trans t r.boxes (shares v.name r) (toward-query known v.body t) (toward-shares v.name r))

  pub views-toward : (below : Query → Boxes → Boxes) → ((x : Query) (s : Boxes) → Toward s (below x s)) → (query : Query) (vs : List ViewTree) (s : Boxes) → Toward s (lay_views known below query vs s)
  views-toward below grows query [] s = toward-refl s
  views-toward below grows query (v ∷ vs) s =
      let made = shares v.name (lay_by known v.body [] (below v.body s)) in
      let mid = cond (is_wanted query s v.name) made s in
      toward-trans s mid (lay_views known below query vs mid) (pick (Toward s) (is_wanted query s v.name) made s (λ e. view-toward below grows v s) (λ e. toward-refl s)) (views-toward below grows query vs mid)

  pub read-toward : (tables : List BaseTable) (views : List ViewTree) (depth : ℕ) (query : Query) (s : Boxes) → Toward s (lay_read known tables views depth query s)
  read-toward tables views zero query s = tables-toward query tables s
  read-toward tables views (suc depth) query s =
      toward-trans s (lay_tables query tables s) (lay_read known tables views (suc depth) query s) (tables-toward query tables s)
      (views-toward (lay_read known tables views depth) (read-toward tables views depth) query views (lay_tables query tables s))

-- ---- what is read was laid

wanted-laid : (query : Query) (s made : Boxes) (name : List ℕ) → query_reads query name ≡ true → is_laid made.shared name ≡ true → is_laid (cond (is_wanted query s name) made s).shared name ≡ true
wanted-laid query s made name reads h = pick (λ (b : Boxes). is_laid b.shared name ≡ true) (is_wanted query s name) made s (λ e. h) (λ e. was (query_reads query name) (is_laid s.shared name) reads e)
  where
    was : (a b : Bool) → a ≡ true → (a && not b) ≡ false → b ≡ true
    was a true h e = refl
    was true false h e = absurd (cc e)
    was false false h e = absurd (cc h)

-- so it was read, and not laid
pub wanted : (query : Query) (s : Boxes) (name : List ℕ) → is_wanted query s name ≡ true → (query_reads query name ≡ true) × (is_laid s.shared name ≡ false)
wanted query s name e = let p = and_parts (query_reads query name) (not (is_laid s.shared name)) e in (p.0, unlaid (is_laid s.shared name) p.1)
  where
    unlaid : (b : Bool) → not b ≡ true → b ≡ false
    unlaid true h = absurd (cc h)
    unlaid false h = refl

pub tables-laid : (query : Query) (ts : List BaseTable) (s : Boxes) (n : List ℕ) → query_reads query n ≡ true → in_tables ts n ≡ true → is_laid (lay_tables query ts s).shared n ≡ true
tables-laid query [] s n reads h = absurd (cc h)
tables-laid query (t ∷ ts) s n reads h =
    let made = shares t.name (lay_table t s) in
    let mid = cond (is_wanted query s t.name) made s in
    or-cases (same_name t.name n) (in_tables ts n) h
    (λ e. toward-laid mid (lay_tables query ts mid) (tables-toward query ts mid) n
    (subst (λ z. is_laid mid.shared z ≡ true) (same-eq t.name n e) (wanted-laid query s made t.name (subst (λ z. query_reads query z ≡ true) (sym (same-eq t.name n e)) reads) (laid-one s.shared t.name s.box))))
    (λ e. tables-laid query ts mid n reads e)

module _ (known : Sources) where
  pub views-laid : (below : Query → Boxes → Boxes) → ((x : Query) (s : Boxes) → Toward s (below x s)) → (query : Query) (vs : List ViewTree) (s : Boxes) (n : List ℕ) → query_reads query n ≡ true → in_views vs n ≡ true
      → is_laid (lay_views known below query vs s).shared n ≡ true
  views-laid below grows query [] s n reads h = absurd (cc h)
  views-laid below grows query (v ∷ vs) s n reads h =
      let r = lay_by known v.body [] (below v.body s) in
      let made = shares v.name r in
      let mid = cond (is_wanted query s v.name) made s in
      or-cases (same_name v.name n) (in_views vs n) h
      (λ e. toward-laid mid (lay_views known below query vs mid) (views-toward known below grows query vs mid) n
      (subst (λ z. is_laid mid.shared z ≡ true) (same-eq v.name n e) (wanted-laid query s made v.name (subst (λ z. query_reads query z ≡ true) (sym (same-eq v.name n e)) reads) (laid-one r.boxes.shared v.name r.top))))
      (λ e. views-laid below grows query vs mid n reads e)

  module _ (tables : List BaseTable) (views : List ViewTree) (has : List ℕ → Bool) (deep : List ℕ → ℕ) (sources : Sources) where
    view-deep : (vs : List ViewTree) → EachViewSaid sources has deep vs → (n : List ℕ) → in_views vs n ≡ true → 0 < deep n
    view-deep [] said n h = absurd (cc h)
    view-deep (v ∷ vs) said n h = or-cases (same_name v.name n) (in_views vs n) h (λ e. subst (λ z. 0 < deep z) (same-eq v.name n e) said.0.nests) (λ e. view-deep vs said.1 n e)

    -- names that nest no deeper than this
    pub read-laid : EachViewSaid sources has deep views → (depth : ℕ) (query : Query) (s : Boxes) (n : List ℕ) → query_reads query n ≡ true → is_declared tables views n ≡ true → deep n ≤ depth → is_laid (lay_read known tables views depth query s).shared n ≡ true
    read-laid said zero query s n reads h l = or-cases (in_tables tables n) (in_views views n) h (λ e. tables-laid query tables s n reads e) (λ e. absurd (let p = view-deep views said n e in omega arith))
    read-laid said (suc depth) query s n reads h l =
        let t = lay_tables query tables s in
        let below = lay_read known tables views depth in
        let grows = read-toward known tables views depth in
        or-cases (in_tables tables n) (in_views views n) h
        (λ e. toward-laid t (lay_views known below query views t) (views-toward known below grows query views t) n (tables-laid query tables s n reads e))
        (λ e. views-laid below grows query views t n reads e)

    -- ---- what is laid nests less deep than what it is laid for

    abbrev pub Less : ℕ → Boxes → Boxes → Type 0
    Less k s t = (n : List ℕ) → is_laid t.shared n ≡ true → (is_laid s.shared n ≡ true) ⊎ (deep n < k)

    less-trans : (k : ℕ) (a b c : Boxes) → Less k a b → Less k b c → Less k a c
    less-trans k a b c h g n l = elim (g n l) [ inl e ↦ h n e | inr e ↦ inr e ]

    less-new : (k : ℕ) (s : Boxes) (name : List ℕ) (r : Laid) → Less k s r.boxes → deep name < k → Less k s (shares name r)
    less-new k s name r h d n l = elim (laid-new r.boxes.shared name r.top n l) [ inl e ↦ inr (subst (λ z. deep z < k) (sym e) d) | inr e ↦ h n e ]

    tables-less : (k : ℕ) (query : Query) → ((n : List ℕ) → query_reads query n ≡ true → deep n < k) → (ts : List BaseTable) (s : Boxes) → Less k s (lay_tables query ts s)
    tables-less k query f [] s = λ n l. inl l
    tables-less k query f (t ∷ ts) s =
        let made = shares t.name (lay_table t s) in
        let mid = cond (is_wanted query s t.name) made s in
        less-trans k s mid (lay_tables query ts mid)
        (pick (Less k s) (is_wanted query s t.name) made s (λ e. less-new k s t.name (lay_table t s) (λ n l. inl l) (f t.name (wanted query s t.name e).0)) (λ e. λ n l. inl l)) (tables-less k query f ts mid)

    views-less : (k : ℕ) (below : Query → Boxes → Boxes) → ((x : Query) → ((n : List ℕ) → query_reads x n ≡ true → deep n < k) → (s : Boxes) → Less k s (below x s)) → (query : Query)
        → ((n : List ℕ) → query_reads query n ≡ true → deep n < k) → (vs : List ViewTree) → EachViewSaid sources has deep vs → (s : Boxes) → Less k s (lay_views known below query vs s)
    views-less k below g query f [] said s = λ n l. inl l
    views-less k below g query f (v ∷ vs) said s =
        let t = below v.body s in
        let r = lay_by known v.body [] t in
        let made = shares v.name r in
        let mid = cond (is_wanted query s v.name) made s in
        let same : r.boxes.shared ≡ t.shared = ((lay-grows known (laying known) v.body []).at t).shared in
        less-trans k s mid (lay_views known below query vs mid)
        (pick (Less k s) (is_wanted query s v.name) made s
        (λ e.
        let low = f v.name (wanted query s v.name e).0 in
        less-new k s v.name r (λ n l. g v.body (λ n i. let x = said.0.reads n i in omega arith) s n (sym (ap (λ zs. is_laid zs n) same) ∙ l)) low)
        (λ e. λ n l. inl l)) (views-less k below g query f vs said.1 mid)

    pub read-less : EachViewSaid sources has deep views → (depth k : ℕ) (query : Query) → ((n : List ℕ) → query_reads query n ≡ true → deep n < k) → (s : Boxes) → Less k s (lay_read known tables views depth query s)
    read-less said zero k query f s = tables-less k query f tables s
    read-less said (suc depth) k query f s =
        let t = lay_tables query tables s in
        less-trans k s t (lay_read known tables views (suc depth) query s) (tables-less k query f tables s) (views-less k (lay_read known tables views depth) (λ x g t. read-less said depth k x g t) query f views said t)
