-- Types that are looked up once, from the last box to the first.
use Rattle.std.proofs.Common.{ℕ, zero, suc, ◌≡◌, ◌+◌, ◌≤◌, ◌<◌, ◌&&◌, ◌++◌, nat_eq, Bool, true, List, [], ◌∷◌, map, length, Option, Some, None, slice_get, refl, sym, ap, ap₂, ◌∙◌, arith}
use Rattle.std.specs.HashMap.{HashMap, get}
use Rattle.std.specs.List.{flat_map, list_all}
use Rattle.std.proofs.lemmas.Bool.{and_parts}
use Rattle.std.proofs.lemmas.List.{length-map}
use Rattle.std.proofs.lemmas.List.Folds.{list_all-append}
use Rattle.std.proofs.lemmas.Option.{slice_get_past}
use Rattle.sql_value.specs.declared.order_key.SqlType.{SqlType}
use Rattle.qgm_core.specs.Free.{named_by}
use Rattle.qgm_core.specs.declared.kinds.BoxKind.{BoxKind}
use Rattle.qgm_core.specs.declared.kinds.BoxKind.TheVariants.{Base, Select, Group, SetOp, OuterJoin}
use Rattle.qgm_core.specs.declared.node.Node.{Node}
use Rattle.qgm_terms.specs.Gathered.{listed_arms}
use Rattle.qgm_terms.specs.Named.{names, names_in, names_in_cond}
use Rattle.qgm_terms.specs.Terms.{Term, Arms, Cond}
use Rattle.qgm_terms.specs.Terms as t
use Rattle.qgm_wellformed.specs.Places.{ArePlaces}
use Rattle.qgm_wellformed.specs.Types.{Lookup, agree, aggregate_type, all_read_behind, arms_fit, cond_fits, integer_if, is_behind, is_integer, is_known, op_type, reads_behind, row_at, sign_fits, term_type, type_at, type_if, type_in, typed_by, types_after, types_by, types_of}
use Rattle.qgm_wellformed.specs.declared.types.Typed.{Typed}
use Rattle.qgm_wellformed.proofs.Tables.{at-is}

module _ (ok : ℕ → Bool) where
  split : (xs ys : List ℕ) → list_all ok (xs ++ ys) ≡ true → (list_all ok xs ≡ true) × (list_all ok ys ≡ true)
  split xs ys h = and_parts (list_all ok xs) (list_all ok ys) (sym (list_all-append ok xs ys) ∙ h)

  one : (q : ℕ) → list_all ok (q ∷ []) ≡ true → ok q ≡ true
  one q h = (and_parts (ok q) true h).0

-- two lookups that agree for what is named give the same types
module _ (at other : Lookup) (ok : ℕ → Bool) (same : (q : ℕ) → ok q ≡ true → (k : ℕ) → at q k ≡ other q k) where
  mutual
    term-same : (x : Term) → list_all ok (names_in x) ≡ true → term_type at x ≡ term_type other x
    term-same (t.int n) h = refl
    term-same (t.text x) h = refl
    term-same t.null_int h = refl
    term-same t.null_text h = refl
    term-same (t.col q k) h = same q (one ok q h) k
    term-same (t.scalar q) h = same q (one ok q h) 1
    term-same (t.both op x y) h = let u = split ok (names_in x) (names_in y) h in ap₂ (op_type op) (term-same x u.0) (term-same y u.1)
    term-same (t.minus_of x) h = ap (λ a. integer_if (is_integer a)) (term-same x h)
    term-same (t.choose s x) h =
        let u = split ok (listed_arms names s) (names_in x) h in
        let e = term-same x u.1 in
        ap₂ type_if (ap (λ a. arms_fit at a s) e ∙ arms-same s (term_type other x) u.0) e
    term-same t.count_all h = refl
    term-same (t.fold f e x) h = ap (aggregate_type f) (term-same x h)

    arms-same : (s : Arms) (type : Option SqlType) → list_all ok (listed_arms names s) ≡ true → arms_fit at type s ≡ arms_fit other type s
    arms-same t.no_arm type h = refl
    arms-same (t.arm c x s) type h =
        let u = split ok (names_in_cond c) (names_in x ++ listed_arms names s) h in
        let v = split ok (names_in x) (listed_arms names s) u.1 in
        ap₂ ◌&&◌ (cond-same c u.0) (ap₂ ◌&&◌ (ap (λ a. agree a type) (term-same x v.0)) (arms-same s type v.1))

    cond-same : (c : Cond) → list_all ok (names_in_cond c) ≡ true → cond_fits at c ≡ cond_fits other c
    cond-same t.always h = refl
    cond-same (t.compare sign x y) h = let u = split ok (names_in x) (names_in y) h in ap₂ (sign_fits sign) (term-same x u.0) (term-same y u.1)
    cond-same (t.is_null x) h = ap is_known (term-same x h)
    cond-same (t.and c d) h = let u = split ok (names_in_cond c) (names_in_cond d) h in ap₂ ◌&&◌ (cond-same c u.0) (cond-same d u.1)
    cond-same (t.or c d) h = let u = split ok (names_in_cond c) (names_in_cond d) h in ap₂ ◌&&◌ (cond-same c u.0) (cond-same d u.1)
    cond-same (t.not c) h = cond-same c h
    cond-same (t.some q c) h = cond-same c (and_parts (ok q) (list_all ok (names_in_cond c)) h).1
    cond-same (t.every q c) h = cond-same c (and_parts (ok q) (list_all ok (names_in_cond c)) h).1

  head-same : (xs : List Term) → list_all ok (flat_map names_in xs) ≡ true → map (term_type at) xs ≡ map (term_type other) xs
  head-same [] h = refl
  head-same (x ∷ xs) h = let u = split ok (names_in x) (flat_map names_in xs) h in ap₂ (λ a rest. a ∷ rest) (term-same x u.0) (head-same xs u.1)

  types-same : (kind : BoxKind) (head : List Term) → list_all ok (flat_map names_in head) ≡ true → types_by at kind head ≡ types_by other kind head
  types-same (Base table) head h = refl
  types-same Select head h = head-same head h
  types-same (Group keys) head h = head-same head h
  types-same (SetOp operator types) head h = refl
  types-same OuterJoin head h = head-same head h

  row-same : (n : Node) → list_all ok (named_by n) ≡ true → typed_by at n ≡ typed_by other n
  row-same n h = ap made (types-same n.parts.kind n.parts.head (split ok (flat_map names_in n.parts.head) (flat_map names_in_cond n.parts.conds.items) h).0)
    where
      made : List (Option SqlType) → Typed
      made ts = record { id = n.id; types = ts }

-- lists with the same at each place are the same
list-is : {X : Type 0} (xs ys : List X) → ((i : ℕ) → slice_get xs i ≡ slice_get ys i) → xs ≡ ys
list-is [] [] h = refl
list-is [] (y ∷ ys) h = absurd (let e = h 0 in cc e)
list-is (x ∷ xs) [] h = absurd (let e = h 0 in cc e)
list-is (x ∷ xs) (y ∷ ys) h = let e = h 0 in let r = list-is xs ys (λ i. h (suc i)) in cc (e, r)

module _ {S : Type 0} (places : HashMap ℕ ℕ S) where
  -- tables that are the same from place i + 1 on give the same columns of what ranges over these
  columns-same : (a b : List Typed) (i : ℕ) → ((p : ℕ) → i < p → slice_get a p ≡ slice_get b p) → (q : ℕ) → is_behind i (get nat_eq places q) ≡ true → (k : ℕ) → type_at a places q k ≡ type_at b places q k
  columns-same a b i h q e k = at_place (get nat_eq places q) e
    where
      at_place : (p : Option ℕ) → is_behind i p ≡ true → type_in k (row_at a p) ≡ type_in k (row_at b p)
      at_place None e = refl
      at_place (Some p) e = ap (type_in k) (h p (grind (arith, e)))

  -- what one look more finds at place j behind i is the same, if the tables are the same behind it
  rows-same : (a b : List Typed) (i j : ℕ) → ((p : ℕ) → i + j < p → slice_get a p ≡ slice_get b p) → (ns : List Node) → all_read_behind places i ns ≡ true →
      slice_get (map (typed_by (type_at a places)) ns) j ≡ slice_get (map (typed_by (type_at b places)) ns) j
  rows-same a b i j h [] r = refl
  rows-same a b i zero h (n ∷ ns) r =
      ap Some (row-same (type_at a places) (type_at b places) (λ q. is_behind i (get nat_eq places q)) (columns-same a b i (λ p l. h p (omega (arith, l)))) n (and_parts (reads_behind places i n) (all_read_behind places (suc i) ns) r).0)
  rows-same a b i (suc j) h (n ∷ ns) r = rows-same a b (suc i) j (λ p l. h p (omega (arith, l))) ns (and_parts (reads_behind places i n) (all_read_behind places (suc i) ns) r).1

-- types that stay with one look more are those of the boxes, if each box names only quantifiers over boxes behind it
module _ {S : Type 0} (bs : List Node) (places : HashMap ℕ ℕ S) (h : ArePlaces bs places) (table : List Typed) (stays : table ≡ map (typed_by (type_at table places)) bs) (behind : all_read_behind places 0 bs ≡ true) where
  rows-after : (m j : ℕ) → length bs ≤ j + m → slice_get (types_after m bs) j ≡ slice_get table j
  rows-after zero j l =
      let n : length table ≡ length bs = ap length stays ∙ length-map bs (typed_by (type_at table places)) in
      sym (slice_get_past table j (omega (arith, l, n)))
  rows-after (suc m) j l =
      ap (λ (at : Lookup). slice_get (map (typed_by at) bs) j) (sym (at-is bs places h m))
      ∙ rows-same places (types_after m bs) table 0 j (λ p u. rows-after m p (omega (arith, l, u))) bs behind
      ∙ ap (λ (ts : List Typed). slice_get ts j) (sym stays)

  pub upward-is : table ≡ types_of bs
  upward-is = sym (list-is (types_of bs) table (λ j. rows-after (length bs) j (omega arith)))
