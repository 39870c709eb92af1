-- Steps that lay boxes, by how many nodes these have beside their columns.
use Rattle.std.proofs.Common.{◌≡◌, ◌+◌, ◌≤◌, ◌++◌, ℕ, suc, Bool, false, refl, List, [], ◌∷◌, length, map, arith}
use Rattle.std.specs.Prelude.{get_or, pos}
use Rattle.std.proofs.lemmas.List.{length-map}
use Rattle.sql_value.specs.declared.order_key.SqlType.{SqlType}
use Rattle.sql_meaning.specs.ResolvedTrees as q
use Rattle.sql_meaning.specs.ResolvedTrees.{From, Froms, Test}
use Rattle.qgm_box_size.specs.Nodes.{boxes_size, cells_size, conjuncts_size}
use Rattle.qgm_box_size.proofs.Nodes.{conjuncts-append}
use Rattle.qgm_build_size.specs.Sizes as n
use Rattle.qgm_core.specs.declared.kinds.BoxKind.{BoxKind}
use Rattle.qgm_core.specs.declared.kinds.BoxKind.TheVariants.{Select}
use Rattle.qgm_core.specs.declared.owned.OwnedQuant.{OwnedQuant}
use Rattle.qgm_size_laws.specs.Columns.{columns_in}
use Rattle.qgm_size_laws.proofs.Own.{cell-own, cond-own, ref-own}
use Rattle.qgm_term_size.specs.Size.{cond_size}
use Rattle.qgm_terms.specs.Split.{split}
use Rattle.qgm_terms.specs.Terms.{Term, Cond}
use Rattle.qgm_terms.specs.Terms as t
use Rattle.qgm_translation.specs.Lay.{Boxes, Drawn, column_types, flat_box, put, ranging, select_box}
use Rattle.qgm_translation.specs.Leaves.{Leaf, Slots, sub, fold, count, after}
use Rattle.qgm_translation.specs.Maps.{Frame, Map, Ref, nothing, ref_term}
use Rattle.qgm_translation.specs.Shown as w
use Rattle.qgm_translation.specs.Sources.{Sources}
use Rattle.qgm_translation.specs.Terms as terms
use Rattle.qgm_translation.specs.Typing.{typed_by}

-- ---- aggregates among leaves

abbrev pub arguments_own : List Leaf → ℕ
arguments_own [] = 0
arguments_own (sub fr kind query ∷ ls) = arguments_own ls
arguments_own (fold f distinct x ∷ ls) = (n.value_size x).own + arguments_own ls
arguments_own (count ∷ ls) = arguments_own ls

abbrev pub folds_own : List Leaf → ℕ
folds_own [] = 0
folds_own (sub fr kind query ∷ ls) = folds_own ls
folds_own (fold f distinct x ∷ ls) = 1 + folds_own ls
folds_own (count ∷ ls) = folds_own ls

-- the nodes of aggregates and their arguments, beside one for each column
abbrev pub weight : List Leaf → ℕ
weight ls = arguments_own ls + folds_own ls

arguments-append : (ls ks : List Leaf) → arguments_own (ls ++ ks) ≡ arguments_own ls + arguments_own ks
arguments-append [] ks = omega arith
arguments-append (sub fr kind query ∷ ls) ks = arguments-append ls ks
arguments-append (fold f distinct x ∷ ls) ks = let h : arguments_own (ls ++ ks) ≡ arguments_own ls + arguments_own ks = arguments-append ls ks in omega (arith, h)
arguments-append (count ∷ ls) ks = arguments-append ls ks

folds-append : (ls ks : List Leaf) → folds_own (ls ++ ks) ≡ folds_own ls + folds_own ks
folds-append [] ks = omega arith
folds-append (sub fr kind query ∷ ls) ks = folds-append ls ks
folds-append (fold f distinct x ∷ ls) ks = let h : folds_own (ls ++ ks) ≡ folds_own ls + folds_own ks = folds-append ls ks in omega (arith, h)
folds-append (count ∷ ls) ks = folds-append ls ks

-- ---- steps

-- from s to t: the nodes that come, and those of these aggregates, are k at most beside one for each column
pub record Holds (s t : Boxes) (ls : List Leaf) (k : ℕ) : Type 0 where
  pub holds : boxes_size t.made + columns_in s.types + weight ls ≤ boxes_size s.made + columns_in t.types + k

pub none-holds : (s : Boxes) → Holds s s [] 0
none-holds s = record { holds = omega arith }

pub room : {s t : Boxes} {ls : List Leaf} {k j : ℕ} → Holds s t ls k → k ≤ j → Holds s t ls j
room {s} {t} {ls} {k} {j} h e = record { holds = omega (arith, h.holds, e) }

pub turn : {s t u : Boxes} {ls ks : List Leaf} {k j : ℕ} → Holds s t ls k → Holds t u ks j → Holds s u (ls ++ ks) (k + j)
turn {s} {t} {u} {ls} {ks} {k} {j} h i = record { holds = omega (arith, h.holds, i.holds, arguments-append ls ks, folds-append ls ks) }

-- where the second has no aggregates
pub then : {s t u : Boxes} {ls : List Leaf} {k j : ℕ} → Holds s t ls k → Holds t u [] j → Holds s u ls (k + j)
then {s} {t} {u} {ls} {k} {j} h i = record { holds = omega (arith, h.holds, i.holds) }

pub bare : {s t : Boxes} {ls : List Leaf} {k : ℕ} → Holds s t ls k → Holds s t [] k
bare {s} {t} {ls} {k} h = record { holds = omega (arith, h.holds) }

-- what the aggregates have is there
pub paid : {s t : Boxes} {ls : List Leaf} {k : ℕ} → Holds s t ls (k + weight ls) → Holds s t [] k
paid {s} {t} {ls} {k} h = record { holds = omega (arith, h.holds) }

pub ranged : {s t : Boxes} {ls : List Leaf} {k : ℕ} (b : ℕ) → Holds s t ls k → Holds s (ranging b t) ls k
ranged {s} {t} {ls} {k} b h = record { holds = h.holds }

-- ---- one box

pub columns-more : (all : List (List SqlType)) (types : List SqlType) → columns_in (all ++ types ∷ []) ≡ columns_in all + length types
columns-more [] types = omega arith
columns-more (x ∷ xs) types = let h : columns_in (xs ++ types ∷ []) ≡ columns_in xs + length types = columns-more xs types in omega (arith, h)

pub as-long : (f : Term → SqlType) (head : List Term) (b : ℕ) → cells_size head ≤ length head + b → cells_size head ≤ length (map f head) + b
as-long f head b h = let e = length-map head f in omega (arith, h, e)

pub put-holds : (kind : BoxKind) (distinct : Bool) (conds : List Cond) (head : List Term) (quants : List OwnedQuant) (s : Boxes) (a b : ℕ)
    → conjuncts_size conds ≤ a → cells_size head ≤ length (column_types s.rows kind head) + b → Holds s (put kind distinct conds head quants s).boxes [] (a + b)
put-holds kind distinct conds head quants s a b h i = record { holds = omega (arith, h, i, columns-more s.types (column_types s.rows kind head)) }

-- ---- conditions

pub split-size : (c : Cond) → conjuncts_size (split c) ≤ cond_size c
split-size t.always = omega arith
split-size (t.compare sign x y) = omega arith
split-size (t.is_null x) = omega arith
split-size (t.and c d) = let h = split-size c in let i = split-size d in let e = conjuncts-append (split c) (split d) in omega (arith, h, i, e)
split-size (t.or c d) = omega arith
split-size (t.not c) = omega arith
split-size (t.some r c) = omega arith
split-size (t.every r c) = omega arith

pub split-own : (sources : Sources) (fr : Frame) (m : Map) (s : Slots) (p : Test) → conjuncts_size (split (terms.cond sources fr m s p)) ≤ (n.test_size p).own
split-own sources fr m s p = let h = split-size (terms.cond sources fr m s p) in let e = cond-own sources fr m s p in omega (arith, h, e)

-- of the ON conditions that are flattened: their own nodes, and those of the boxes below
abbrev pub on_own : From → ℕ
on_own (q.named name) = 0
on_own (q.derived query) = 0
on_own (q.crossed x y) = on_own x + on_own y
on_own (q.joined x y p) = on_own x + (on_own y + (n.test_size p).own)
on_own (q.left_joined x y k p) = 0

abbrev pub on_below : From → ℕ
on_below (q.named name) = 0
on_below (q.derived query) = 0
on_below (q.crossed x y) = on_below x + on_below y
on_below (q.joined x y p) = on_below x + (on_below y + (n.test_size p).below)
on_below (q.left_joined x y k p) = 0

-- those of the boxes of an operand
abbrev pub laid_below : From → ℕ
laid_below (q.named name) = 0
laid_below (q.derived query) = n.query_size query
laid_below (q.crossed x y) = laid_below x + laid_below y
laid_below (q.joined x y p) = laid_below x + laid_below y
laid_below (q.left_joined x y k p) = n.all_of (n.from_size x) + (n.all_of (n.from_size y) + (n.test_size p).own)

abbrev pub all_on_own : Froms → ℕ
all_on_own q.no_from = 0
all_on_own (q.one_from x xs) = on_own x + all_on_own xs

abbrev pub all_on_below : Froms → ℕ
all_on_below q.no_from = 0
all_on_below (q.one_from x xs) = on_below x + all_on_below xs

abbrev pub all_laid_below : Froms → ℕ
all_laid_below q.no_from = 0
all_laid_below (q.one_from x xs) = laid_below x + all_laid_below xs

pub from-parts : (x : From) → laid_below x + (on_own x + on_below x) ≤ n.all_of (n.from_size x)
from-parts (q.named name) = omega arith
from-parts (q.derived query) = omega arith
from-parts (q.crossed x y) = let a = from-parts x in let b = from-parts y in omega (arith, a, b)
from-parts (q.joined x y p) = let a = from-parts x in let b = from-parts y in omega (arith, a, b)
from-parts (q.left_joined x y k p) = omega arith

pub froms-parts : (xs : Froms) → all_laid_below xs + (all_on_own xs + all_on_below xs) ≤ n.all_of (n.froms_size xs)
froms-parts q.no_from = omega arith
froms-parts (q.one_from x xs) = let a = from-parts x in let b = froms-parts xs in omega (arith, a, b)

module _ (sources : Sources) (m : Map) where
  ons-size : (x : From) (os : List OwnedQuant) (s : Slots) → conjuncts_size (w.ons sources m x os s) ≤ on_own x
  ons-size (q.named name) os s = omega arith
  ons-size (q.derived query) os s = omega arith
  ons-size (q.crossed x y) os s =
      let ys = w.ons sources m y (w.past sources x os) (after (w.on_leaves sources x os) s) in
      let a = ons-size x os s in
      let b = ons-size y (w.past sources x os) (after (w.on_leaves sources x os) s) in
      let e = conjuncts-append (w.ons sources m x os s) ys in
      omega (arith, a, b, e)
  ons-size (q.joined x y p) os s =
      let rest = w.past sources x os in
      let mid = after (w.on_leaves sources x os) s in
      let fr = w.frame sources x os ++ w.frame sources y rest in
      let ps = split (terms.cond sources fr m (after (w.on_leaves sources y rest) mid) p) in
      let a = ons-size x os s in
      let b = ons-size y rest mid in
      let c = split-own sources fr m (after (w.on_leaves sources y rest) mid) p in
      let e = conjuncts-append (w.ons sources m x os s) (w.ons sources m y rest mid ++ ps) in
      let f = conjuncts-append (w.ons sources m y rest mid) ps in
      omega (arith, a, b, c, e, f)
  ons-size (q.left_joined x y k p) os s = omega arith

  all-ons-size : (xs : Froms) (os : List OwnedQuant) (s : Slots) → conjuncts_size (w.all_ons sources m xs os s) ≤ all_on_own xs
  all-ons-size q.no_from os s = omega arith
  all-ons-size (q.one_from x xs) os s =
      let mid = after (w.on_leaves sources x os) s in
      let a = ons-size x os s in
      let b = all-ons-size xs (w.past sources x os) mid in
      let e = conjuncts-append (w.ons sources m x os s) (w.all_ons sources m xs (w.past sources x os) mid) in
      omega (arith, a, b, e)

  -- k: what WHERE has at most
  pub conds-size : (from : Froms) (by : Test) (k : ℕ) → ((fr : Frame) (s : Slots) → conjuncts_size (split (terms.cond sources fr m s by)) ≤ k)
      → (heads : Frame → List Leaf) (os : List OwnedQuant) (s : Slots) → conjuncts_size (w.conds_of sources from by heads m os s) ≤ all_on_own from + k
  conds-size from by k h heads os s =
      let fr = w.frame_all sources from os in
      let mid = after (heads fr) s in
      let end = after (w.all_on_leaves sources from os) mid in
      let a = all-ons-size from os mid in
      let b = h fr end in
      let e = conjuncts-append (w.all_ons sources m from os mid) (split (terms.cond sources fr m end by)) in
      omega (arith, a, b, e)

-- ---- heads

-- columns that are handed on
pub refs-size : (rs : List Ref) → cells_size (map ref_term rs) ≡ length (map ref_term rs)
refs-size [] = refl
refs-size (r ∷ rs) = let a = ref-own r in let h : cells_size (map ref_term rs) ≡ length (map ref_term rs) = refs-size rs in omega (arith, a, h)

keys-size : (fr : Frame) (places : List ℕ) → cells_size (map (λ place. ref_term (get_or fr place nothing)) places) ≡ length (map (λ place. ref_term (get_or fr place nothing)) places)
keys-size fr [] = refl
keys-size fr (place ∷ places) =
    let a = ref-own (get_or fr place nothing) in
    let h : cells_size (map (λ place. ref_term (get_or fr place nothing)) places) ≡ length (map (λ place. ref_term (get_or fr place nothing)) places) = keys-size fr places in
    omega (arith, a, h)

cells-append : (xs ys : List Term) → cells_size (xs ++ ys) ≡ cells_size xs + cells_size ys
cells-append [] ys = omega arith
cells-append (x ∷ xs) ys = let h : cells_size (xs ++ ys) ≡ cells_size xs + cells_size ys = cells-append xs ys in omega (arith, h)

cells-long : (xs ys : List Term) → length (xs ++ ys) ≡ length xs + length ys
cells-long [] ys = omega arith
cells-long (x ∷ xs) ys = let h : length (xs ++ ys) ≡ length xs + length ys = cells-long xs ys in omega (arith, h)

arguments-size : (sources : Sources) (fr : Frame) (ls : List Leaf) → cells_size (w.argument_terms sources fr ls) ≡ arguments_own ls
arguments-size sources fr [] = refl
arguments-size sources fr (sub f kind query ∷ ls) = arguments-size sources fr ls
arguments-size sources fr (fold f distinct x ∷ ls) =
    let a = cell-own sources fr [] w.no_slots x in
    let h : cells_size (w.argument_terms sources fr ls) ≡ arguments_own ls = arguments-size sources fr ls in
    omega (arith, a, h)
arguments-size sources fr (count ∷ ls) = arguments-size sources fr ls

padded-size : (xs : List Term) (b : ℕ) → cells_size xs ≤ length xs + b → cells_size (w.padded (t.int (pos 1)) xs) ≤ length (w.padded (t.int (pos 1)) xs) + b
padded-size [] b h = omega arith
padded-size (x ∷ xs) b h = h

-- the rows of a grouped block: keys, and arguments
pub rows-size : (sources : Sources) (places : List ℕ) (ls : List Leaf) (fr : Frame) (s : Slots) → cells_size (w.rows_list sources places ls fr s) ≤ length (w.rows_list sources places ls fr s) + arguments_own ls
rows-size sources places ls fr s =
    let keys = map (λ place. ref_term (get_or fr place nothing)) places in
    let args = w.argument_terms sources fr ls in
    let a : cells_size keys ≡ length keys = keys-size fr places in
    let b : cells_size args ≡ arguments_own ls = arguments-size sources fr ls in
    let e : cells_size (keys ++ args) ≡ cells_size keys + cells_size args = cells-append keys args in
    let f : length (keys ++ args) ≡ length keys + length args = cells-long keys args in
    padded-size (keys ++ args) (arguments_own ls) (omega (arith, a, b, e, f))

-- and its groups: keys, and aggregates
fold-terms-size : (u j : ℕ) (ls : List Leaf) → cells_size (w.fold_terms u j ls) ≡ length (w.fold_terms u j ls) + folds_own ls
fold-terms-size u j [] = refl
fold-terms-size u j (sub fr kind query ∷ ls) = fold-terms-size u j ls
fold-terms-size u j (fold f distinct x ∷ ls) = let h = fold-terms-size u (suc j) ls in omega (arith, h)
fold-terms-size u j (count ∷ ls) = let h = fold-terms-size u j ls in omega (arith, h)

pub groups-size : (places : List ℕ) (ls : List Leaf) (u : ℕ) → cells_size (w.groups_list places ls u) ≤ length (w.groups_list places ls u) + folds_own ls
groups-size places ls u =
    let keys = w.columns_of u 1 (length places) in
    let folds = w.fold_terms u (suc (length places)) ls in
    let a : cells_size keys ≡ length keys = refs-size (w.refs u 1 (length places)) in
    let b : cells_size folds ≡ length folds + folds_own ls = fold-terms-size u (suc (length places)) ls in
    let e : cells_size (keys ++ folds) ≡ cells_size keys + cells_size folds = cells-append keys folds in
    let f : length (keys ++ folds) ≡ length keys + length folds = cells-long keys folds in
    omega (arith, a, b, e, f)

-- a select over a FROM, whose WHERE has k nodes at most, and its list b beside one for each column
module _ (known : Sources) (at : Boxes → Sources) (from : Froms) (by : Test) (m : Map) where
  select-of : (k : ℕ) → ((sources : Sources) (fr : Frame) (s : Slots) → conjuncts_size (split (terms.cond sources fr m s by)) ≤ k)
      → (distinct : Bool) (heads : Frame → List Leaf) (list : Sources → Frame → Slots → List Term) (fs : List OwnedQuant) (c : Drawn) (b : ℕ)
      → ((sources : Sources) (fr : Frame) (s : Slots) → cells_size (list sources fr s) ≤ length (list sources fr s) + b)
      → Holds c.boxes (select_box known at distinct from by heads list m fs c).boxes [] (all_on_own from + k + b)
  select-of k g distinct heads list fs c b h =
      let s = w.slots_of (w.all_leaves known from by heads fs) c.quants in
      let head = list (at c.boxes) (w.frame_all known from fs) s in
      put-holds Select distinct (w.conds_of (at c.boxes) from by heads m fs s) head (fs ++ c.quants) c.boxes (all_on_own from + k) b
      (conds-size (at c.boxes) m from by k (g (at c.boxes)) heads fs s) (as-long (typed_by c.boxes.rows) head b (h (at c.boxes) (w.frame_all known from fs) s))

  pub select-holds : (distinct : Bool) (heads : Frame → List Leaf) (list : Sources → Frame → Slots → List Term) (fs : List OwnedQuant) (c : Drawn) (b : ℕ)
      → ((sources : Sources) (fr : Frame) (s : Slots) → cells_size (list sources fr s) ≤ length (list sources fr s) + b)
      → Holds c.boxes (select_box known at distinct from by heads list m fs c).boxes [] (all_on_own from + (n.test_size by).own + b)
  select-holds = select-of (n.test_size by).own (λ sources fr s. split-own sources fr m s by)

-- a select over one operand, with all its columns
pub flat-holds : (known : Sources) (at : Boxes → Sources) (x : From) (m : Map) (fs : List OwnedQuant) (c : Drawn) → Holds c.boxes (flat_box known at x m fs c).boxes [] (on_own x)
flat-holds known at x m fs c =
    room (select-of known at (q.one_from x q.no_from) (q.all q.no_test) m 0 (λ sources fr s. omega arith) false (λ fr. []) (λ sources fr s. map ref_term fr) fs c 0
    (λ sources fr s. let h = refs-size fr in omega (arith, h))) (omega arith)
