-- The types of the expressions of a block go by the quantifiers that it sees.
use Rattle.std.specs.Prelude.{⊤}
use Rattle.std.proofs.Common.{◌<◌, ℕ, zero, suc, Bool, true, false, List, [], ◌∷◌, ◌++◌, get_or, map, pos, cond, Option, Some, None, arith}
use Rattle.sql_value.specs.declared.order_key.SqlType.{SqlType}
use Rattle.sql_value.specs.declared.order_key.SqlType.TheVariants.{Integer, Varchar}
use Rattle.sql_meaning.specs.ResolvedTrees.{Value, Addends, Multipliers, Values}
use Rattle.sql_meaning.specs.ResolvedTrees as q
use Rattle.qgm_core.specs.declared.owned.OwnedQuant.{OwnedQuant}
use Rattle.qgm_terms.specs.Terms.{Term}
use Rattle.qgm_terms.specs.Terms as t
use Rattle.qgm_translation.specs.Lays.{HeadUnder, TypedUnder, Under, UnderIn, UnderRef}
use Rattle.qgm_translation.specs.Leaves.{Leaf, Slots, after, arm_leaves, choice_leaves, count, first_cell, first_quant, fold, leaves, rest_of, sub}
use Rattle.qgm_translation.specs.Maps.{Frame, Map, Ref, column, none_counted, nothing, ref_term}
use Rattle.qgm_translation.specs.Shown.{argument_terms, columns_of, fold_refs, fold_terms, no_slots, padded, rows_list, slots_of, ungrouped, ungrouped_cells, upper_slots}
use Rattle.sql_ast.specs.declared.word.SetFunction.{SetFunction}
use Rattle.sql_ast.specs.declared.word.SetFunction.TheVariants as function
use Rattle.qgm_translation.specs.Sources.{Sources}
use Rattle.qgm_translation.specs.Terms as l
use Rattle.qgm_translation.proofs.Numbers.{Rising, rising-le}

-- ---- slots

abbrev pub Below : ℕ → List ℕ → Type 0
Below n [] = ⊤
Below n (q ∷ qs) = (q < n) × Below n qs

pub record SlotsUnder (n : ℕ) (s : Slots) : Type 0 where
  pub quants : Below n s.quants
  pub cells : UnderIn n s.cells

rest-below : (n : ℕ) (qs : List ℕ) → Below n qs → Below n (rest_of qs)
rest-below n [] h = tt
rest-below n (q ∷ qs) h = h.1

rest-under : (n : ℕ) (fr : Frame) → UnderIn n fr → UnderIn n (rest_of fr)
rest-under n [] h = tt
rest-under n (r ∷ fr) h = h.1

pub after-under : (n : ℕ) (ls : List Leaf) (s : Slots) → SlotsUnder n s → SlotsUnder n (after ls s)
after-under n [] s h = h
after-under n (sub f kind x ∷ ls) s h = after-under n ls (record s { quants = rest_of s.quants }) (record { quants = rest-below n s.quants h.quants; cells = h.cells })
after-under n (fold f d x ∷ ls) s h = after-under n ls (record s { cells = rest_of s.cells }) (record { quants = h.quants; cells = rest-under n s.cells h.cells })
after-under n (count ∷ ls) s h = after-under n ls (record s { cells = rest_of s.cells }) (record { quants = h.quants; cells = rest-under n s.cells h.cells })

pub no_slots-under : (n : ℕ) → SlotsUnder n no_slots
no_slots-under n = record { quants = tt; cells = tt }

rising-below : (a n : ℕ) (os : List OwnedQuant) → Rising a n os → Below n (map (λ o. o.id) os)
rising-below a n [] h = tt
rising-below a n (o ∷ os) h = (let x = rising-le (suc o.id) n os h.1 in omega arith, rising-below (suc o.id) n os h.1)

ungrouped-under : (n : ℕ) (f : SetFunction) → UnderRef n (ungrouped f)
ungrouped-under n function.Count = tt
ungrouped-under n function.Sum = tt
ungrouped-under n function.Avg = tt
ungrouped-under n function.Min = tt
ungrouped-under n function.Max = tt

cells-under : (n : ℕ) (ls : List Leaf) → UnderIn n (ungrouped_cells ls)
cells-under n [] = tt
cells-under n (sub f kind x ∷ ls) = cells-under n ls
cells-under n (fold f d x ∷ ls) = (ungrouped-under n f, cells-under n ls)
cells-under n (count ∷ ls) = (tt, cells-under n ls)

pub slots-under : (a n : ℕ) (ls : List Leaf) (os : List OwnedQuant) → Rising a n os → SlotsUnder n (slots_of ls os)
slots-under a n ls os h = record { quants = rising-below a n os h; cells = cells-under n ls }

folds-under : (n u j : ℕ) (ls : List Leaf) → u < n → UnderIn n (fold_refs u j ls)
folds-under n u j [] h = tt
folds-under n u j (sub f kind x ∷ ls) h = folds-under n u j ls h
folds-under n u j (fold f d x ∷ ls) h = (h, folds-under n u (suc j) ls h)
folds-under n u j (count ∷ ls) h = (h, folds-under n u (suc j) ls h)

pub upper_slots-under : (a n u j : ℕ) (ls : List Leaf) (os : List OwnedQuant) → u < n → Rising a n os → SlotsUnder n (upper_slots u j ls os)
upper_slots-under a n u j ls os h r = record { quants = rising-below a n os r; cells = folds-under n u j ls h }

-- ---- expressions

pub ref-under : (n : ℕ) (r : Ref) → UnderRef n r → TypedUnder n (ref_term r)
ref-under n nothing h = tt
ref-under n none_counted h = tt
ref-under n (column q k) h = h

pub refs-under : (n : ℕ) (fr : Frame) → UnderIn n fr → HeadUnder n (map ref_term fr)
refs-under n [] h = tt
refs-under n (r ∷ fr) h = (ref-under n r h.0, refs-under n fr h.1)

get-under : (n : ℕ) (fr : Frame) (k : ℕ) → UnderIn n fr → UnderRef n (get_or fr k nothing)
get-under n [] k h = tt
get-under n (r ∷ fr) zero h = h.0
get-under n (r ∷ fr) (suc k) h = get-under n fr k h.1

scope-under : (n : ℕ) (m : Map) (k : ℕ) → Under n m → UnderIn n (get_or m k [])
scope-under n [] k h = tt
scope-under n (fr ∷ m) zero h = h.0
scope-under n (fr ∷ m) (suc k) h = scope-under n m k h.1

first-below : (n : ℕ) (qs : List ℕ) → 0 < n → Below n qs → first_quant qs < n
first-below n [] p h = p
first-below n (q ∷ qs) p h = h.0

cell-under : (n : ℕ) (rs : List Ref) → UnderIn n rs → UnderRef n (first_cell rs)
cell-under n [] h = tt
cell-under n (r ∷ rs) h = h.0

null-under : (n : ℕ) (type : SqlType) → TypedUnder n (l.null_as type)
null-under n Integer = tt
null-under n Varchar = tt

null_of-under : (n : ℕ) (type : Option SqlType) → TypedUnder n (l.null_of type)
null_of-under n None = tt
null_of-under n (Some type) = null-under n type

result-under : (n : ℕ) (type : SqlType) (x : Value) (y : Term) → TypedUnder n y → TypedUnder n (l.result_as type x y)
result-under n type x y h = by_case (l.is_untyped x)
  where
    by_case : (b : Bool) → TypedUnder n (cond b (l.null_as type) y)
    by_case true = null-under n type
    by_case false = h

module _ (sources : Sources) (n : ℕ) (some : 0 < n) (fr : Frame) (m : Map) (u : UnderIn n fr) (v : Under n m) where
  mutual
    pub term-under : (s : Slots) → SlotsUnder n s → (x : Value) → TypedUnder n (l.term sources fr m s x)
    term-under s h (q.number k) = tt
    term-under s h (q.text x) = tt
    term-under s h (q.null type) = null_of-under n type
    term-under s h (q.column scope place) = ref-under n (get_or (get_or (fr ∷ m) scope []) place nothing) (get-under n (get_or (fr ∷ m) scope []) place (scope-under n (fr ∷ m) scope (u, v)))
    term-under s h (q.sum x xs) = summed-under (after (leaves fr x) s) (after-under n (leaves fr x) s h) (l.term sources fr m s x) (term-under s h x) xs
    term-under s h (q.product x xs) = multiplied-under (after (leaves fr x) s) (after-under n (leaves fr x) s h) (l.term sources fr m s x) (term-under s h x) xs
    term-under s h (q.negative x) = tt
    term-under s h (q.searched xs last) =
        let end = after (arm_leaves fr xs) s in
        result-under n (l.arms_type sources fr m s xs (sources.typed (l.term sources fr m end last))) last (l.term sources fr m end last) (term-under end (after-under n (arm_leaves fr xs) s h) last)
    term-under s h (q.simple x xs last) =
        let mid = after (leaves fr x) s in
        let end = after (choice_leaves fr xs) mid in
        result-under n (l.choices_type sources fr m mid xs (sources.typed (l.term sources fr m end last))) last (l.term sources fr m end last)
        (term-under end (after-under n (choice_leaves fr xs) mid (after-under n (leaves fr x) s h)) last)
    term-under s h (q.coalesce x xs) = coalesced-under (after (leaves fr x) s) (after-under n (leaves fr x) s h) (l.term sources fr m s x) (term-under s h x) xs
    term-under s h (q.null_if x y) = term-under s h x
    term-under s h (q.scalar query) = first-below n s.quants some h.quants
    term-under s h q.count_all = ref-under n (first_cell s.cells) (cell-under n s.cells h.cells)
    term-under s h (q.aggregate f distinct x) = ref-under n (first_cell s.cells) (cell-under n s.cells h.cells)

    summed-under : (s : Slots) → SlotsUnder n s → (x : Term) → TypedUnder n x → (xs : Addends) → TypedUnder n (l.summed sources fr m s x xs)
    summed-under s h x k q.no_addend = k
    summed-under s h x k (q.one_addend op y ys) = summed-under (after (leaves fr y) s) (after-under n (leaves fr y) s h) (t.both (l.additive op) x (l.term sources fr m s y)) tt ys

    multiplied-under : (s : Slots) → SlotsUnder n s → (x : Term) → TypedUnder n x → (xs : Multipliers) → TypedUnder n (l.multiplied sources fr m s x xs)
    multiplied-under s h x k q.no_multiplier = k
    multiplied-under s h x k (q.one_multiplier op y ys) = multiplied-under (after (leaves fr y) s) (after-under n (leaves fr y) s h) (t.both (l.multiplicative op) x (l.term sources fr m s y)) tt ys

    coalesced-under : (s : Slots) → SlotsUnder n s → (x : Term) → TypedUnder n x → (xs : Values) → TypedUnder n (l.coalesced sources fr m s x xs)
    coalesced-under s h x k q.no_value = k
    coalesced-under s h x k (q.one_value y ys) = coalesced-under (after (leaves fr y) s) (after-under n (leaves fr y) s h) (l.term sources fr m s y) (term-under s h y) ys

  pub terms-under : (s : Slots) → SlotsUnder n s → (xs : Values) → HeadUnder n (l.terms sources fr m s xs)
  terms-under s h q.no_value = tt
  terms-under s h (q.one_value x xs) = (term-under s h x, terms-under (after (leaves fr x) s) (after-under n (leaves fr x) s h) xs)

-- ---- the heads of a grouped block

head-append : (n : ℕ) (a b : List Term) → HeadUnder n a → HeadUnder n b → HeadUnder n (a ++ b)
head-append n [] b h k = k
head-append n (x ∷ a) b h k = (h.0, head-append n a b h.1 k)

arguments-under : (sources : Sources) (n : ℕ) → 0 < n → (fr : Frame) → UnderIn n fr → (ls : List Leaf) → HeadUnder n (argument_terms sources fr ls)
arguments-under sources n some fr u [] = tt
arguments-under sources n some fr u (sub f kind x ∷ ls) = arguments-under sources n some fr u ls
arguments-under sources n some fr u (fold f d x ∷ ls) = (term-under sources n some fr [] u tt no_slots (no_slots-under n) x, arguments-under sources n some fr u ls)
arguments-under sources n some fr u (count ∷ ls) = arguments-under sources n some fr u ls

keys-under : (n : ℕ) (fr : Frame) → UnderIn n fr → (places : List ℕ) → HeadUnder n (map (λ place. ref_term (get_or fr place nothing)) places)
keys-under n fr u [] = tt
keys-under n fr u (p ∷ places) = (ref-under n (get_or fr p nothing) (get-under n fr p u), keys-under n fr u places)

padded-under : (n : ℕ) (xs : List Term) → HeadUnder n xs → HeadUnder n (padded (t.int (pos 1)) xs)
padded-under n [] h = (tt, tt)
padded-under n (x ∷ xs) h = h

pub rows-under : (sources : Sources) (n : ℕ) → 0 < n → (fr : Frame) → UnderIn n fr → (places : List ℕ) (ls : List Leaf) (s : Slots) → HeadUnder n (rows_list sources places ls fr s)
rows-under sources n some fr u places ls s =
    padded-under n (map (λ place. ref_term (get_or fr place nothing)) places ++ argument_terms sources fr ls)
    (head-append n (map (λ place. ref_term (get_or fr place nothing)) places) (argument_terms sources fr ls) (keys-under n fr u places) (arguments-under sources n some fr u ls))

fold_terms-under : (n q j : ℕ) (ls : List Leaf) → q < n → HeadUnder n (fold_terms q j ls)
fold_terms-under n q j [] h = tt
fold_terms-under n q j (sub f kind x ∷ ls) h = fold_terms-under n q j ls h
fold_terms-under n q j (fold f d x ∷ ls) h = (h, fold_terms-under n q (suc j) ls h)
fold_terms-under n q j (count ∷ ls) h = (tt, fold_terms-under n q j ls h)

pub columns-under : (n q j k : ℕ) → q < n → HeadUnder n (columns_of q j k)
columns-under n q j zero h = tt
columns-under n q j (suc k) h = (h, columns-under n q (suc j) k h)

pub groups-under : (n q k j : ℕ) (ls : List Leaf) → q < n → HeadUnder n (columns_of q 1 k ++ fold_terms q j ls)
groups-under n q k j ls h = head-append n (columns_of q 1 k) (fold_terms q j ls) (columns-under n q 1 k h) (fold_terms-under n q j ls h)
