-- The shapes of boxes that show things.
use Rattle.std.proofs.Common.{inl, inr, ◌≡◌, ◌≤◌, ◌<◌, ℕ, zero, suc, ◌==◌, ◌&&◌, ◌||◌, not, Bool, true, false, List, [], ◌∷◌, ◌++◌, drop, length, map, take, Option, Some, None, refl, ap, ap₂, sym, ◌∙◌, subst, arith}
use Rattle.std.specs.Prelude.{nat_le, nat_lt}
use Rattle.std.specs.List.{flat_map, list_all, list_any}
use Rattle.std.proofs.lemmas.Bool.{and_parts, cases_Bool, eq-eqb, eqb-true}
use Rattle.std.proofs.lemmas.List.{length-append}
use Rattle.sql_value.specs.declared.order_key.SqlType.{SqlType}
use Rattle.sql_meaning.specs.ResolvedTrees.{From, Froms, Query, Test}
use Rattle.sql_meaning.specs.ResolvedTrees as q
use Rattle.qgm_core.specs.Boxes.{Ordered, ids_in, is_quant, owns, width}
use Rattle.qgm_core.specs.Kinds.{is_F, is_permit, is_plain, width_by}
use Rattle.list_laws.specs.Lists.{In, times}
use Rattle.qgm_core.specs.declared.node.Node.{Node}
use Rattle.qgm_core.specs.declared.owned.OwnedQuant.{OwnedQuant}
use Rattle.qgm_core.specs.declared.kinds.BoxKind.{BoxKind}
use Rattle.qgm_core.specs.declared.kinds.BoxKind.TheVariants.{Base, Select, Group, SetOp, OuterJoin}
use Rattle.qgm_core.specs.declared.kinds.Role.TheVariants.{Plain}
use Rattle.qgm_core.specs.declared.kinds.SetOperator as forms
use Rattle.qgm_terms.specs.Named.{names_in}
use Rattle.qgm_terms.specs.Terms as t
use Rattle.qgm_terms.specs.Terms.{Cond, Term}
use Rattle.qgm_terms.specs.Wanted.{has_aggregate, has_aggregate_cond, reads, reads_cond}
use Rattle.qgm_terms.specs.declared.named.QuantNode.{QuantNode}
use Rattle.qgm_wellformed.specs.Shapes.{are_F, arm_fits, columns_placed, head_folds, head_is_own, is_aggregate, is_column, is_none, is_unfolded, kind_fits, looks_up, role_fits, width_found}
use Rattle.qgm_wellformed.specs.View.{is_row}
use Rattle.qgm_translation.specs.Leaves as w
use Rattle.qgm_translation.specs.Leaves.{Leaf}
use Rattle.qgm_translation.specs.Maps.{Map, fresh, ref_term}
use Rattle.qgm_translation.specs.Shown as v
use Rattle.qgm_translation.specs.Shown.{Thing, of_groups, of_operand, of_query, of_rows, refs}
use Rattle.qgm_translation.specs.Sources.{Sources, from_width}
use Rattle.qgm_translation_laws.specs.Typed.{IsOfTypes, NotNone, Scope}
use Rattle.qgm_translation_laws.proofs.Boxes as boxes
use Rattle.qgm_translation_laws.proofs.Clauses.{wide}
use Rattle.qgm_edit_laws.proofs.Levels as laws
use Rattle.qgm_translation_laws.proofs.Levels as levels
use Rattle.qgm_translation_laws.proofs.Parts.{CellIs, Cells, FitAll, Heads, aggregates-none, aggregates-nowhere, reads-none, reads-nowhere}
use Rattle.list_laws.proofs.Membership.{any-from}
use Rattle.list_laws.proofs.Booleans.{clash}

-- ---- plain boxes

not_permit : (distinct : Bool) → is_permit (v.distinct_of distinct) ≡ false
not_permit true = refl
not_permit false = refl

-- a plain box that isn't PERMIT, with quantifiers numbered apart
pub record Ordinary (m : Map) (n : Node) : Type 0 where
  pub role : n.parts.role ≡ Plain
  pub numbered : v.Numbered m n.quants
  pub permit : is_permit n.parts.distinct ≡ false

ordinary : (distinct : Bool) (m : Map) (n : Node) → v.IsPlain (v.distinct_of distinct) m n → Ordinary m n
ordinary distinct m n h = record { role = h.role; numbered = h.numbered; permit = ap is_permit h.distinctness ∙ not_permit distinct }

module _ (sources : Sources) (Below : ℕ → Thing → Map → Type 0) (n : Node) where
  query-plain : (x : Query) (m : Map) → v.ShowsQuery sources Below x m n → Ordinary m n
  query-plain (q.block distinct list from by) m h = ordinary distinct m n h.plain
  query-plain (q.grouped distinct list from by places w having) m h = ordinary distinct m n h.plain
  query-plain (q.combine x op all w y) m h = ordinary false m n h.plain
  query-plain (q.intersect x all w y) m h = ordinary false m n h.plain

  source-plain : (name : List ℕ) (view : Option Query) → v.ShowsSource sources Below name view n → Ordinary [] n
  source-plain name None h = ordinary false [] n h.plain
  source-plain name (Some body) h = query-plain body [] h

  pub thing-plain : (thing : Thing) (m : Map) → v.ShowsBox sources Below thing m n → Ordinary (boxes.map_of thing m) n
  thing-plain (of_query x) m h = query-plain x m h
  thing-plain (of_operand (q.named name)) m h = source-plain name (sources.body name) h.1
  thing-plain (of_operand (q.derived query)) m h = query-plain query m h
  thing-plain (of_operand (q.crossed x y)) m h = ordinary false m n h.plain
  thing-plain (of_operand (q.joined x y p)) m h = ordinary false m n h.plain
  thing-plain (of_operand (q.left_joined x y w p)) m h = ordinary false m n h.plain
  thing-plain (of_rows from by places ls) m h = ordinary false m n h.rows.plain
  thing-plain (of_groups from by places ls) m h = ordinary false m n h.plain

-- ---- two quantifiers, and one

two-F : (P : OwnedQuant → OwnedQuant → Type 0) (os : List OwnedQuant) → v.Two os P → are_F 2 os ≡ true
two-F P [] h = absurd h
two-F P (p ∷ []) h = absurd h
two-F P (p ∷ r ∷ []) h = ap₂ (λ a b. is_F a && (is_F b && true)) h.0 h.1
two-F P (p ∷ r ∷ o ∷ os) h = absurd h

one-F : (P : OwnedQuant → Type 0) (os : List OwnedQuant) → v.One os P → are_F 1 os ≡ true
one-F P [] h = absurd h
one-F P (p ∷ []) h = ap (λ a. is_F a && true) h.0
one-F P (p ∷ r ∷ os) h = absurd h

-- ---- heads of columns

columns-only : (a k w : ℕ) → list_all is_column (map ref_term (refs a k w)) ≡ true
columns-only a k zero = refl
columns-only a k (suc w) = columns-only a (suc k) w

columns-own : (Q : ℕ → Bool) (a k w : ℕ) → Q a ≡ true → list_all Q (flat_map names_in (map ref_term (refs a k w))) ≡ true
columns-own Q a k zero h = refl
columns-own Q a k (suc w) h = ap₂ ◌&&◌ h (columns-own Q a (suc k) w h)

columns-plain : (a k w : ℕ) → list_any has_aggregate (map ref_term (refs a k w)) ≡ false
columns-plain a k zero = refl
columns-plain a k (suc w) = columns-plain a (suc k) w

all-both : {X : Type 0} (p : X → Bool) (xs ys : List X) → list_all p xs ≡ true → list_all p ys ≡ true → list_all p (xs ++ ys) ≡ true
all-both p [] ys h k = k
all-both p (x ∷ xs) ys h k = let u = and_parts (p x) (list_all p xs) h in ap₂ ◌&&◌ u.0 (all-both p xs ys u.1 k)

map-both : {X Y : Type 0} (f : X → Y) (xs ys : List X) → map f (xs ++ ys) ≡ map f xs ++ map f ys
map-both f [] ys = refl
map-both f (x ∷ xs) ys = ap (λ z. f x ∷ z) (map-both f xs ys)

names-both : (xs ys : List Term) (Q : ℕ → Bool) → list_all Q (flat_map names_in xs) ≡ true → list_all Q (flat_map names_in ys) ≡ true → list_all Q (flat_map names_in (xs ++ ys)) ≡ true
names-both [] ys Q h k = k
names-both (x ∷ xs) ys Q h k = let u = all-parts Q (names_in x) (flat_map names_in xs) h in all-both Q (names_in x) (flat_map names_in (xs ++ ys)) u.0 (names-both xs ys Q u.1 k)
  where
    all-parts : (Q : ℕ → Bool) (xs ys : List ℕ) → list_all Q (xs ++ ys) ≡ true → (list_all Q xs ≡ true) × (list_all Q ys ≡ true)
    all-parts Q [] ys h = (refl, h)
    all-parts Q (x ∷ xs) ys h = let u = and_parts (Q x) (list_all Q (xs ++ ys)) h in let r = all-parts Q xs ys u.1 in (ap₂ ◌&&◌ u.0 r.0, r.1)

-- ---- groups

take-all : (xs ys : List Term) → take (length xs) (xs ++ ys) ≡ xs
take-all [] ys = refl
take-all (x ∷ xs) ys = ap (λ z. x ∷ z) (take-all xs ys)

drop-all : (xs ys : List Term) → drop (length xs) (xs ++ ys) ≡ ys
drop-all [] ys = refl
drop-all (x ∷ xs) ys = drop-all xs ys

refs-long : (a k w : ℕ) → length (map ref_term (refs a k w)) ≡ w
refs-long a k zero = refl
refs-long a k (suc w) = ap suc (refs-long a (suc k) w)

folds-only : (a j : ℕ) (ls : List Leaf) → list_all is_aggregate (v.fold_terms a j ls) ≡ true
folds-only a j [] = refl
folds-only a j (w.sub f kind x ∷ ls) = folds-only a j ls
folds-only a j (w.fold f distinct x ∷ ls) = folds-only a (suc j) ls
folds-only a j (w.count ∷ ls) = folds-only a j ls

folds-own : (Q : ℕ → Bool) (a j : ℕ) (ls : List Leaf) → Q a ≡ true → list_all Q (flat_map names_in (v.fold_terms a j ls)) ≡ true
folds-own Q a j [] h = refl
folds-own Q a j (w.sub f kind x ∷ ls) h = folds-own Q a j ls h
folds-own Q a j (w.fold f distinct x ∷ ls) h = ap₂ ◌&&◌ h (folds-own Q a (suc j) ls h)
folds-own Q a j (w.count ∷ ls) h = folds-own Q a j ls h

at-most : (a b : ℕ) → a ≤ b → nat_le a b ≡ true
at-most a b h = grind (arith, h)

group-head : (p : ℕ) (places : List ℕ) (ls : List Leaf) → head_folds (length places) (v.groups_list places ls p) ≡ true
group-head p places ls =
    let xs = v.columns_of p 1 (length places) in
    let ys = v.fold_terms p (suc (length places)) ls in
    let e = refs-long p 1 (length places) in
    let long : length places ≤ length (xs ++ ys) = (let a = length-append xs ys in omega arith) in
    ap₂ (λ a b. a && not (list_any has_aggregate b) && list_all is_aggregate (drop (length places) (xs ++ ys))) (at-most (length places) (length (xs ++ ys)) long) (ap (λ z. take z (xs ++ ys)) (sym e) ∙ take-all xs ys)
    ∙ ap₂ (λ a b. true && not a && list_all is_aggregate b) (columns-plain p 1 (length places)) (ap (λ z. drop z (xs ++ ys)) (sym e) ∙ drop-all xs ys) ∙ folds-only p (suc (length places)) ls

own-here : (p : OwnedQuant) (os : List OwnedQuant) → In p os → list_any (is_quant p.id) os ≡ true
own-here p os i = any-from (is_quant p.id) p os i (eq-eqb p.id p.id refl)

group-own : (places : List ℕ) (ls : List Leaf) (p : OwnedQuant) (n : Node) → In p n.quants → n.parts.head ≡ v.groups_list places ls p.id → head_is_own n ≡ true
group-own places ls p n i h =
    ap (λ z. list_all (λ q. owns q n) (flat_map names_in z)) h
    ∙ names-both (v.columns_of p.id 1 (length places)) (v.fold_terms p.id (suc (length places)) ls) (λ q. owns q n) (columns-own (λ q. owns q n) p.id 1 (length places) (own-here p n.quants i)) (folds-own (λ q. owns q n) p.id (suc (length places)) ls (own-here p n.quants i))

-- ---- no aggregate in a select and in an outer join; what isn't F is read in its nodes alone

module _ (K : ℕ → ℕ → SqlType → Type 0) (N : QuantNode → Type 0) (J : ℕ → SqlType → Type 0) where
  heads-unfolded : (xs : List Term) (types : List SqlType) → Heads K N J xs types → list_any has_aggregate xs ≡ false
  heads-unfolded [] types h = refl
  heads-unfolded (x ∷ xs) [] h = absurd h
  heads-unfolded (x ∷ xs) (a ∷ types) h = ap₂ ◌||◌ (aggregates-none K N J x a h.0) (heads-unfolded xs types h.1)

  fits-unfolded : (cs : List Cond) → FitAll K N J cs → list_any has_aggregate_cond cs ≡ false
  fits-unfolded [] h = refl
  fits-unfolded (c ∷ cs) h = ap₂ ◌||◌ (aggregates-nowhere K N J c h.0) (fits-unfolded cs h.1)

  module _ (r : ℕ) (column : (q k : ℕ) (a : SqlType) → K q k a → (q == r) ≡ false) where
    heads-unread : (xs : List Term) (types : List SqlType) → Heads K N J xs types → list_any (reads r) xs ≡ false
    heads-unread [] types h = refl
    heads-unread (x ∷ xs) [] h = absurd h
    heads-unread (x ∷ xs) (a ∷ types) h = ap₂ ◌||◌ (reads-none K N J r column x a h.0) (heads-unread xs types h.1)

    fits-unread : (cs : List Cond) → FitAll K N J cs → list_any (reads_cond r) cs ≡ false
    fits-unread [] h = refl
    fits-unread (c ∷ cs) h = ap₂ ◌||◌ (reads-nowhere K N J r column c h.0) (fits-unread cs h.1)

    cell-unread : (x : Term) (a : SqlType) → CellIs K N J x a → reads r x ≡ false
    cell-unread (t.int n) a h = refl
    cell-unread (t.text x) a h = refl
    cell-unread t.null_int a h = refl
    cell-unread t.null_text a h = refl
    cell-unread (t.col q k) a h = reads-none K N J r column (t.col q k) a h
    cell-unread (t.scalar q) a h = reads-none K N J r column (t.scalar q) a h
    cell-unread (t.both op x y) a h = reads-none K N J r column (t.both op x y) a h
    cell-unread (t.minus_of x) a h = reads-none K N J r column (t.minus_of x) a h
    cell-unread (t.choose xs x) a h = reads-none K N J r column (t.choose xs x) a h
    cell-unread t.count_all a h = refl
    cell-unread (t.fold f d x) a h = reads-none K N J r column x h.0 h.1.0

    cells-unread : (xs : List Term) (types : List SqlType) → Cells K N J xs types → list_any (reads r) xs ≡ false
    cells-unread [] types h = refl
    cells-unread (x ∷ xs) [] h = absurd h
    cells-unread (x ∷ xs) (a ∷ types) h = ap₂ ◌||◌ (cell-unread x a h.0) (cells-unread xs types h.1)

pub lt-some : (types : List SqlType) (w : ℕ) → NotNone types → length types ≡ w → nat_lt 0 w ≡ true
lt-some [] w h e = absurd h
lt-some (x ∷ types) w h e = let f : 0 < w = (let g : length (x ∷ types) ≡ suc (length types) = refl in omega arith) in grind (arith, f)

module _ (bs : List Node) (ordered : Ordered bs) (few : (q : ℕ) → times q (ids_in bs) ≤ 1) (kinds : List ℕ → List SqlType) (sources : Sources) (counted : (name : List ℕ) → length (kinds name) ≡ sources.columns name)
    (named : (name : List ℕ) → boxes.SourceIs kinds sources counted (levels.Over bs ordered few) (levels.more bs ordered few) (levels.Ranges bs ordered few) name (sources.body name)) (root : ℕ) where
  abbrev LocalBy : ℕ → Map → Node → List SqlType → BoxKind → Type 0
  LocalBy = levels.LocalBy bs ordered few kinds sources counted

  abbrev Fits : Node → Type 0
  Fits n = kind_fits root bs n n.parts.kind ≡ true

  unfolded-by : (e : ℕ) (m : Map) (n : Node) (types : List SqlType) → LocalBy e m n types Select → is_unfolded n ≡ true
  unfolded-by e m n types h =
      ap₂ (λ a b. not a && not b) (heads-unfolded (levels.Kn bs ordered few kinds sources counted e n.quants m) (levels.Nn bs ordered few kinds sources counted e n.quants) (levels.Jn bs ordered few kinds sources counted e) n.parts.head types h.0)
      (fits-unfolded (levels.Kn bs ordered few kinds sources counted e n.quants m) (levels.Nn bs ordered few kinds sources counted e n.quants) (levels.Jn bs ordered few kinds sources counted e) n.parts.conds.items h.1)

  select-shape : (e : ℕ) (m : Map) (n : Node) (types : List SqlType) → n.parts.kind ≡ Select → n.parts.role ≡ Plain → LocalBy e m n types n.parts.kind → Fits n
  select-shape e m n types k r h = ap (kind_fits root bs n) k ∙ ap₂ (λ a b. a && role_fits root bs n b) (unfolded-by e m n types (subst (LocalBy e m n types) k h)) r

  arms-shape : (e w : ℕ) (os : List OwnedQuant) (types : List SqlType) → boxes.Arms kinds sources counted (levels.Over bs ordered few) (levels.more bs ordered few) (levels.Ranges bs ordered few) e os types → length types ≡ w → list_all (arm_fits bs w) os ≡ true
  arms-shape e w [] types h l = refl
  arms-shape e w (o ∷ os) types h l =
      let f = laws.settled-found bs ordered few e o.over h.0.0 in
      ap₂ ◌&&◌ (ap (λ z. width_found z == w) f.1 ∙ eq-eqb (width f.0) w (sym (wide bs ordered few e o.over types f.0 h.0 f.1) ∙ l)) (arms-shape e w os types h.1 l)

  pair-shape : (Below : ℕ → Thing → Map → Type 0) (form : forms.SetOperator) (w : ℕ) (x y : Query) (e : ℕ) (m c : Map) (n : Node) (types : List SqlType) → v.ShowsPair sources Below form w x y c n → NotNone types → LocalBy e m n types n.parts.kind → Fits n
  pair-shape Below form w x y e m c n types h some local =
      let columns = map sources.typed (v.columns_of (v.first_id n.quants) 1 w) in
      let l : LocalBy e m n types (SetOp form columns) = subst (LocalBy e m n types) h.kind local in
      let long : length types ≡ width n = ap length (sym l.0) ∙ ap (λ z. width_by z (length n.parts.head)) (sym h.kind) in
      ap (kind_fits root bs n) h.kind
      ∙ ap₂ (λ a b. a && b && nat_lt 0 (width n) && is_none n.parts.conds.items && is_none n.parts.head && is_plain n.parts.role) (two-F (λ p r. Below p.over (of_query x) c × Below r.over (of_query y) c) n.quants h.quants) (arms-shape e (width n) n.quants types l.2 long)
      ∙ ap₂ (λ a b. true && true && a && is_none b && is_none n.parts.head && is_plain n.parts.role) (lt-some types (width n) some long) h.bare.0
      ∙ ap₂ (λ a b. true && true && true && true && is_none a && is_plain b) h.bare.1 h.plain.role

  query-shape : (Below : ℕ → Thing → Map → Type 0) (x : Query) (e : ℕ) (m c : Map) (scopes : List Scope) (n : Node) (types : List SqlType) → v.ShowsQuery sources Below x c n → IsOfTypes kinds scopes x types → LocalBy e m n types n.parts.kind → Fits n
  query-shape Below (q.block distinct list from by) e m c scopes n types h g l = select-shape e m n types h.kind h.plain.role l
  query-shape Below (q.grouped distinct list from by places w having) e m c scopes n types h g l = select-shape e m n types h.kind h.plain.role l
  query-shape Below (q.combine x op all w y) e m c scopes n types h g l = pair-shape Below (v.form_of op all) w x y e m c n types h g.2 l
  query-shape Below (q.intersect x all w y) e m c scopes n types h g l = pair-shape Below (v.common_form all) w x y e m c n types h g.2 l

  base-shape : (Below : ℕ → Thing → Map → Type 0) (name : List ℕ) (n : Node) → v.ShowsBase sources Below name n → Fits n
  base-shape Below name n h =
      ap (kind_fits root bs n) h.kind ∙ ap₂ (λ a b. is_none a && is_none b && is_none n.parts.head && is_plain n.parts.role) h.quants h.bare.0 ∙ ap₂ (λ a b. true && true && is_none a && is_plain b) h.bare.1 h.plain.role

  source-shape : (Below : ℕ → Thing → Map → Type 0) (name : List ℕ) (view : Option Query) (e : ℕ) (m : Map) (n : Node) → v.ShowsSource sources Below name view n
      → boxes.SourceIs kinds sources counted (levels.Over bs ordered few) (levels.more bs ordered few) (levels.Ranges bs ordered few) name view → LocalBy e m n (kinds name) n.parts.kind → Fits n
  source-shape Below name None e m n h g l = base-shape Below name n h
  source-shape Below name (Some body) e m n h g l = query-shape Below body e m [] [] n (kinds name) h g l

  outer-of : (Below : ℕ → Thing → Map → Type 0) (x y : From) (w : ℕ) (p : Test) (c : Map) (n : Node) (os : List OwnedQuant) → os ≡ n.quants → v.Two os (λ l r. v.ShowsSides sources Below x y w p c n l r) → (list_all is_column n.parts.head ≡ true) × (head_is_own n ≡ true)
  outer-of Below x y w p c n [] s h = absurd h
  outer-of Below x y w p c n (l ∷ []) s h = absurd h
  outer-of Below x y w p c n (l ∷ r ∷ o ∷ os) s h = absurd h
  outer-of Below x y w p c n (l ∷ r ∷ []) s h =
      let a = refs l.id 1 (from_width sources x) in
      let b = refs r.id 1 w in
      let head = h.2.head ∙ map-both ref_term a b in
      let left : owns l.id n ≡ true = ap (list_any (is_quant l.id)) (sym s) ∙ own-here l (l ∷ r ∷ []) (inl refl) in
      let right : owns r.id n ≡ true = ap (list_any (is_quant r.id)) (sym s) ∙ own-here r (l ∷ r ∷ []) (inr (inl refl)) in (
        ap (list_all is_column) head ∙ all-both is_column (map ref_term a) (map ref_term b) (columns-only l.id 1 (from_width sources x)) (columns-only r.id 1 w),
        ap (λ z. list_all (λ q. owns q n) (flat_map names_in z)) head
            ∙ names-both (map ref_term a) (map ref_term b) (λ q. owns q n) (columns-own (λ q. owns q n) l.id 1 (from_width sources x) left) (columns-own (λ q. owns q n) r.id 1 w right),
      )

  outer-shape : (Below : ℕ → Thing → Map → Type 0) (x y : From) (w : ℕ) (p : Test) (e : ℕ) (m c : Map) (n : Node) (types : List SqlType) → v.ShowsOuter sources Below x y w p c n → LocalBy e m n types n.parts.kind → Fits n
  outer-shape Below x y w p e m c n types h l =
      let o = outer-of Below x y w p c n n.quants refl h.quants in
      ap (kind_fits root bs n) h.kind
      ∙ ap₂ (λ a b. a && b && head_is_own n && is_unfolded n && is_plain n.parts.role) (two-F (λ l r. v.ShowsSides sources Below x y w p c n l r) n.quants h.quants) o.0
      ∙ ap₂ (λ a b. true && true && a && b && is_plain n.parts.role) o.1 (unfolded-by e m n types (subst (LocalBy e m n types) h.kind l)) ∙ ap is_plain h.plain.role

  groups-of : (Below : ℕ → Thing → Map → Type 0) (from : Froms) (by : Test) (places : List ℕ) (ls : List Leaf) (c : Map) (n : Node) (os : List OwnedQuant) → os ≡ n.quants
      → v.One os (λ p. Below p.over (of_rows from by places ls) c × (n.parts.head ≡ v.groups_list places ls p.id)) → (head_folds (length places) n.parts.head ≡ true) × (head_is_own n ≡ true)
  groups-of Below from by places ls c n [] s h = absurd h
  groups-of Below from by places ls c n (p ∷ r ∷ os) s h = absurd h
  groups-of Below from by places ls c n (p ∷ []) s h = (ap (head_folds (length places)) h.1.1 ∙ group-head p.id places ls, group-own places ls p n (subst (In p) s (inl refl)) h.1.1)

  groups-shape : (Below : ℕ → Thing → Map → Type 0) (from : Froms) (by : Test) (places : List ℕ) (ls : List Leaf) (c : Map) (n : Node) → v.ShowsGroups sources Below from by places ls c n → Fits n
  groups-shape Below from by places ls c n h =
      let o = groups-of Below from by places ls c n n.quants refl h.quants in
      ap (kind_fits root bs n) h.kind
      ∙ ap₂ (λ a b. a && is_none b && is_plain n.parts.role && head_folds (length places) n.parts.head && head_is_own n) (one-F (λ p. Below p.over (of_rows from by places ls) c × (n.parts.head ≡ v.groups_list places ls p.id)) n.quants h.quants) h.conds
      ∙ ap₂ (λ a b. true && true && is_plain a && b && head_is_own n) h.plain.role o.0 ∙ o.1

  pub thing-shape : (Below : ℕ → Thing → Map → Type 0) (thing : Thing) (e : ℕ) (m : Map) (scopes : List Scope) (n : Node) (types : List SqlType) → v.ShowsBox sources Below thing m n
      → boxes.ThingIs kinds sources counted (levels.Over bs ordered few) (levels.more bs ordered few) (levels.Ranges bs ordered few) scopes thing types → levels.LocalIs bs ordered few kinds sources counted e (boxes.map_of thing m) n types → kind_fits root bs n n.parts.kind ≡ true
  thing-shape Below (of_query x) e m scopes n types h g l = query-shape Below x e m m scopes n types h g l
  thing-shape Below (of_operand (q.named name)) e m scopes n types h g l = source-shape Below name (sources.body name) e [] n h.1 (named name) (subst (λ z. LocalBy e [] n z n.parts.kind) g l)
  thing-shape Below (of_operand (q.derived query)) e m scopes n types h g l = query-shape Below query e m m scopes n types h g l
  thing-shape Below (of_operand (q.crossed x y)) e m scopes n types h g l = select-shape e m n types h.kind h.plain.role l
  thing-shape Below (of_operand (q.joined x y p)) e m scopes n types h g l = select-shape e m n types h.kind h.plain.role l
  thing-shape Below (of_operand (q.left_joined x y w p)) e m scopes n types h g l = outer-shape Below x y w p e m m n types h l
  thing-shape Below (of_rows from by places ls) e m scopes n types h g l = select-shape e m n types h.rows.kind h.rows.plain.role l
  thing-shape Below (of_groups from by places ls) e m scopes n types h g l = groups-shape Below from by places ls m n h

  -- ---- what isn't F

  -- an own quantifier that isn't F is no F quantifier's number, and isn't seen in the map
  apart-bound : (m : Map) (os : List OwnedQuant) → v.Numbered m os → (r : OwnedQuant) → In r os → is_F r.kind ≡ false → (q : ℕ) → boxes.Bound kinds sources counted (levels.Over bs ordered few) (levels.more bs ordered few) (levels.Ranges bs ordered few) os m q → (q == r.id) ≡ false
  apart-bound m os num r i f q (inl h) = elim (cases_Bool (q == r.id)) [
    | inr g ↦ g
    | inl g ↦ absurd (clash (is_row r.id os) (subst (λ z. is_row z os ≡ true) (eqb-true q r.id g) h) (no-row os num.0 r i f))
  ]
    where
      row-of : (r : OwnedQuant) (os : List OwnedQuant) → list_all (λ p. not (r.id == p.id)) os ≡ true → is_row r.id os ≡ false
      row-of r [] h = refl
      row-of r (o ∷ os) h =
          let u = and_parts (not (r.id == o.id)) (list_all (λ p. not (r.id == p.id)) os) h in
          ap₂ ◌||◌ (ap (λ z. z && is_F o.kind) (flip o.id r.id u.0)) (row-of r os u.1)
        where
          flip : (a b : ℕ) → not (b == a) ≡ true → (a == b) ≡ false
          flip a b h = elim (cases_Bool (a == b)) [ inr g ↦ g | inl g ↦ absurd (let z : not (b == a) ≡ false = ap not (eq-eqb b a (sym (eqb-true a b g))) in clash (not (b == a)) h z) ]

      other-row : (o : OwnedQuant) (r : OwnedQuant) (os : List OwnedQuant) → list_all (λ p. not (o.id == p.id)) os ≡ true → In r os → (o.id == r.id) ≡ false
      other-row o r [] h i = absurd i
      other-row o r (p ∷ os) h (inl e) = let u = and_parts (not (o.id == p.id)) (list_all (λ p. not (o.id == p.id)) os) h in ap (λ (z : OwnedQuant). o.id == z.id) (sym e) ∙ not-not (o.id == p.id) u.0
        where
          not-not : (b : Bool) → not b ≡ true → b ≡ false
          not-not true h = absurd (cc h)
          not-not false h = refl
      other-row o r (p ∷ os) h (inr j) = other-row o r os (and_parts (not (o.id == p.id)) (list_all (λ p. not (o.id == p.id)) os) h).1 j

      no-row : (os : List OwnedQuant) → v.distinct_ids os ≡ true → (r : OwnedQuant) → In r os → is_F r.kind ≡ false → is_row r.id os ≡ false
      no-row [] d r i f = absurd i
      no-row (o ∷ os) d r (inl e) f =
          let u = and_parts (list_all (λ p. not (o.id == p.id)) os) (v.distinct_ids os) d in
          subst (λ (z : OwnedQuant). is_row z.id (o ∷ os) ≡ false) e (ap₂ ◌||◌ (ap (λ z. (o.id == o.id) && z) (ap (λ (z : OwnedQuant). is_F z.kind) e ∙ f) ∙ and-none (o.id == o.id)) (row-of o os u.0))
        where
          and-none : (b : Bool) → (b && false) ≡ false
          and-none true = refl
          and-none false = refl
      no-row (o ∷ os) d r (inr j) f =
          let u = and_parts (list_all (λ p. not (o.id == p.id)) os) (v.distinct_ids os) d in
          ap₂ ◌||◌ (ap (λ z. z && is_F o.kind) (other-row o r os u.0 j)) (no-row os u.1 r j f)
  apart-bound m os num r i f q (inr h) = elim (cases_Bool (q == r.id)) [
    | inr g ↦ g
    | inl g ↦ absurd (clash (fresh r.id m) (fresh-in r os num.1 i) (subst (λ z. fresh z m ≡ false) (eqb-true q r.id g) h))
  ]
    where
      fresh-in : (r : OwnedQuant) (os : List OwnedQuant) → list_all (λ o. fresh o.id m) os ≡ true → In r os → fresh r.id m ≡ true
      fresh-in r [] h i = absurd i
      fresh-in r (o ∷ os) h (inl e) = ap (λ (z : OwnedQuant). fresh z.id m) (sym e) ∙ (and_parts (fresh o.id m) (list_all (λ o. fresh o.id m) os) h).0
      fresh-in r (o ∷ os) h (inr j) = fresh-in r os (and_parts (fresh o.id m) (list_all (λ o. fresh o.id m) os) h).1 j

  unread-by : (e : ℕ) (m : Map) (n : Node) (types : List SqlType) (r : ℕ) → ((q : ℕ) → boxes.Bound kinds sources counted (levels.Over bs ordered few) (levels.more bs ordered few) (levels.Ranges bs ordered few) n.quants m q → (q == r) ≡ false)
      → (kind : BoxKind) → LocalBy e m n types kind → looks_up r n ≡ false
  unread-by e m n types r f (Base table) h = ap₂ (λ hs cs. list_any (reads r) hs || list_any (reads_cond r) cs) h.1.1 h.1.0
  unread-by e m n types r f Select h =
      ap₂ ◌||◌ (heads-unread (levels.Kn bs ordered few kinds sources counted e n.quants m) (levels.Nn bs ordered few kinds sources counted e n.quants) (levels.Jn bs ordered few kinds sources counted e) r (λ q k a z. f q z.1) n.parts.head types h.0)
      (fits-unread (levels.Kn bs ordered few kinds sources counted e n.quants m) (levels.Nn bs ordered few kinds sources counted e n.quants) (levels.Jn bs ordered few kinds sources counted e) r (λ q k a z. f q z.1) n.parts.conds.items h.1)
  unread-by e m n types r f (Group keys) h =
      ap₂ ◌||◌ (cells-unread (levels.Kn bs ordered few kinds sources counted e n.quants m) (levels.Nn bs ordered few kinds sources counted e n.quants) (levels.Jn bs ordered few kinds sources counted e) r (λ q k a z. f q z.1) n.parts.head types h.0)
      (ap (list_any (reads_cond r)) h.1)
  unread-by e m n types r f (SetOp operator columns) h = ap₂ (λ hs cs. list_any (reads r) hs || list_any (reads_cond r) cs) h.1.1 h.1.0
  unread-by e m n types r f OuterJoin h =
      ap₂ ◌||◌ (heads-unread (levels.Kn bs ordered few kinds sources counted e n.quants m) (levels.Nn bs ordered few kinds sources counted e n.quants) (levels.Jn bs ordered few kinds sources counted e) r (λ q k a z. f q z.1) n.parts.head types h.0)
      (fits-unread (levels.Kn bs ordered few kinds sources counted e n.quants m) (levels.Nn bs ordered few kinds sources counted e n.quants) (levels.Jn bs ordered few kinds sources counted e) r (λ q k a z. f q z.1) n.parts.conds.items h.1)

  pub placed : (e : ℕ) (m : Map) (n : Node) (types : List SqlType) → v.Numbered m n.quants → levels.LocalIs bs ordered few kinds sources counted e m n types → columns_placed n ≡ true
  placed e m n types num local = all-of n.quants (λ r i. i)
    where
      all-of : (rs : List OwnedQuant) → ((r : OwnedQuant) → In r rs → In r n.quants) → list_all (λ r. is_F r.kind || not (looks_up r.id n)) rs ≡ true
      all-of [] sub = refl
      all-of (r ∷ rs) sub = ap₂ ◌&&◌ (elim (cases_Bool (is_F r.kind)) [
        | inl g ↦ ap (λ z. z || not (looks_up r.id n)) g
        | inr g ↦ ap₂ (λ a b. a || not b) g (unread-by e m n types r.id (λ q b. apart-bound m n.quants num r (sub r (inl refl)) g q b) n.parts.kind local)
      ]) (all-of rs (λ k i. sub k (inr i)))
