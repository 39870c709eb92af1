-- Rows found by hashes: those that are passed over give nothing.
use Rattle.std.proofs.Common.{ℕ, suc, zero, ◌≡◌, ◌<◌, ◌≤◌, ◌+◌, ◌-◌, ◌++◌, ◌∷◌, ◌||◌, not, cond, All, Bool, true, false, List, [], Option, Some, None, get_or, length, map, option_map, take, refl, sym, ap, ap₂, subst, ◌∙◌, inl, inr, arith}
use Rattle.std.specs.Borrow.{Bor}
use Rattle.std.specs.Ordering.{is_eq}
use Rattle.std.specs.Prelude.{IfSome}
use Rattle.std.proofs.lemmas.Bool.{and_parts, cases_Bool, cases_lt, eqb-false, or_left, or_right}
use Rattle.std.proofs.lemmas.List.{get_or_default, length-map, take_all}
use Rattle.sql_value.specs.Cells.{cell_compare}
use Rattle.sql_value.specs.Level.{least}
use Rattle.sql_value.specs.declared.cell.Cell.{Cell}
use Rattle.sql_value.specs.declared.cell.Cell.TheVariants.{Int, Text, Null, Err}
use Rattle.sql_value.specs.declared.level.Level.{Level}
use Rattle.sql_value.specs.declared.level.Level.TheVariants.{No}
use Rattle.sql_value.proofs.Total.{cell-ties}
use Rattle.row_bag.proofs.Order.{level}
use Rattle.row_bag.specs.Bags.{Alike, bind, keep}
use Rattle.row_bag.specs.Hashes.{hash_of}
use Rattle.row_bag.specs.declared.row.Row.{Row}
use Rattle.row_index.specs.Ways.{AreAsMany, Indexes, Spans, StandsAs, StandsFrom, has_hash, is_marked, place, sees_by}
use Rattle.row_index.specs.declared.rows.RowIndex.{RowIndex}
use Rattle.row_index.specs.declared.ways.Cursor.{Cursor}
use Rattle.row_index.specs.declared.ways.Way.{Way}
use Rattle.row_index.proofs.Passed.{seen-low, seen-passed}
use Rattle.list_laws.specs.Lists.{In}
use Rattle.list_laws.proofs.Booleans.{neither-left, neither-right}
use Rattle.list_laws.proofs.Membership.{all-in}
use Rattle.qgm_meaning.specs.Values.{Bag, Environment, bound}
use Rattle.qgm_terms.specs.Shown as shown
use Rattle.box_exec.specs.Equalities.{are_apart, is_nowhere, is_plain, other_of, others, own_of, owns}
use Rattle.box_exec.specs.Lookup.{Aims, Leads, RejectsBy, Skipped, all_plain, others_plain, row_hash, row_hashes}
use Rattle.box_exec.specs.declared.key.Equality.{Equality}
use Rattle.box_exec.specs.declared.key.Equality.TheVariants.{Same, Equal, Numbers, Texts}
use Rattle.box_exec.specs.declared.key.Key.{Key}
use Rattle.box_exec.specs.declared.lookup.Aim.TheVariants.{Hash, Nowhere}
use Rattle.box_exec.proofs.Loops.{each-more}
use Rattle.box_exec.proofs.Rejections.{all-at, nothing-added}

-- ---- keys

pub in-at : {X : Type 0} (xs : List X) (i : ℕ) (x : X) → i < length xs → x ≡ get_or xs i x → In x xs
in-at [] i x l e = absurd (omega (arith, l))
in-at (y ∷ xs) zero x l e = inl (sym e)
in-at (y ∷ xs) (suc i) x l e = inr (in-at xs i x (omega (arith, l)) e)

pub nowhere-plain : (by : Equality) (y : Cell) → is_nowhere by y ≡ true → is_plain by y ≡ true
nowhere-plain Same y h = absurd (let z : ⊥ = cc in z)
nowhere-plain Equal (Int n) h = refl
nowhere-plain Equal (Text t) h = refl
nowhere-plain Equal Null h = refl
nowhere-plain Equal (Err e) h = absurd (let z : ⊥ = cc in z)
nowhere-plain Numbers y h = absurd (let z : ⊥ = cc in z)
nowhere-plain Texts y h = absurd (let z : ⊥ = cc in z)

unequal-apart : (b c : Bool) → c ≡ false → (b || not c) ≡ true
unequal-apart b c e = or_right b (not c) (ap not e)

-- of keys whose cells aren't all equal, one has cells that are apart
differs : (q : ℕ) (keys : List Key) (cells : List Cell) (env : Environment) → all_plain q keys cells ≡ true → others_plain keys env ≡ true → (owns q keys cells ≡ others keys env → ⊥)
    → (key : Key)
    × (In key keys
    × (is_plain key.by (own_of q (shown.term key.own.now) cells) ≡ true)
    × (is_plain key.by (other_of (shown.term key.other.now) env) ≡ true)
    × (are_apart key.by (own_of q (shown.term key.own.now) cells) (other_of (shown.term key.other.now) env) ≡ true))
differs q [] cells env h k n = absurd (n refl)
differs q (key ∷ keys) cells env h k n =
    let x = own_of q (shown.term key.own.now) cells in
    let y = other_of (shown.term key.other.now) env in
    let own = and_parts (is_plain key.by x) (all_plain q keys cells) h in
    let other = and_parts (is_plain key.by y) (others_plain keys env) k in
    elim (cases_Bool (is_eq (cell_compare x y))) [
      | inl t ↦
          (let e : x ≡ y = cell-ties x y (level (cell_compare x y) t) in
          let rest = differs q keys cells env own.1 other.1 (λ same. n (ap₂ (λ (c : Cell) (cs : List Cell). c ∷ cs) e same)) in
          (rest.0, (inr rest.1.0, rest.1.1, rest.1.2, rest.1.3)))
      | inr f ↦ (key, (inl refl, own.0, other.0, unequal-apart (is_nowhere key.by y) (is_eq (cell_compare x y)) f))
    ]

-- ---- rows that an index knows

pub row-at : (f : Row (List Cell) → Option ℕ) (rows : Bag) (k : ℕ) (r : Row (List Cell)) → k < length rows → r ≡ get_or rows k r → f r ≡ get_or (map f rows) k (f r)
row-at f [] k r l e = absurd (omega (arith, l))
row-at f (x ∷ rows) zero r l e = ap f e
row-at f (x ∷ rows) (suc k) r l e = row-at f rows k r (omega (arith, l)) e

-- a row that isn't marked has plain cells, and their hash
unmarked : (q : ℕ) (keys : List Key) (ix : RowIndex) (k : ℕ) (cells : List Cell) → StandsAs ix k (row_hash q keys cells) → is_marked ix.marks k ≡ false
    → (all_plain q keys cells ≡ true) × (get_or ix.hashes k 0 ≡ hash_of (owns q keys cells))
unmarked q keys ix k cells stands free =
    elim (all_plain q keys cells) as (λ b. StandsAs ix k (cond b (Some (hash_of (owns q keys cells))) None) → (b ≡ true) × (get_or ix.hashes k 0 ≡ hash_of (owns q keys cells))) [
      | true ↦ λ h. (refl, h.0)
      | false ↦ λ h. absurd (let z : ⊥ = cc in z)
    ] stands

-- keys by which a test rejects, and an index of rows by them
abbrev pub IsIndex : (Environment → Bool) → ℕ → List (Row (List Cell)) → List Key → RowIndex → Type 0
IsIndex test q rows keys ix = All (λ k. RejectsBy test q k) keys × Indexes (row_hashes q keys rows) ix

module _ (test : Environment → Bool) (q : ℕ) (rows : List (Row (List Cell))) (env : Environment) (keys : List Key) (ix : RowIndex) (is : IsIndex test q rows keys ix) where
  known : (k : ℕ) (r : Row (List Cell)) → k < length rows → r ≡ get_or rows k r → is_marked ix.marks k ≡ false → (all_plain q keys r.cells ≡ true) × (get_or ix.hashes k 0 ≡ hash_of (owns q keys r.cells))
  known k r l at free =
      let f = λ (r : Row (List Cell)). row_hash q keys r.cells in
      let many : length (row_hashes q keys rows) ≡ length rows = length-map rows f in
      unmarked q keys ix k r.cells (is.1.each k (f r) (omega (arith, many, l)) (row-at f rows k r l at)) free

  -- a row that is not marked and has another hash is rejected
  other-skipped : (hash k : ℕ) → others_plain keys env ≡ true → hash ≡ hash_of (others keys env) → has_hash (Some hash) ix.hashes k ≡ false → is_marked ix.marks k ≡ false → Skipped test q rows env k
  other-skipped hash k plain eh other free r l at =
      let row = known k r l at free in
      let found = differs q keys r.cells env row.0 plain
      (λ same. eqb-false (get_or ix.hashes k 0) hash other (row.1 ∙ ap hash_of same ∙ sym eh)) in
      all-at (RejectsBy test q) found.0 keys is.0 found.1.0 r.cells env found.1.1 found.1.2 found.1.3

  -- where an equality is nowhere true, all that aren't marked are
  nowhere-skipped : (k : ℕ) (key : Key) → In key keys → is_nowhere key.by (other_of (shown.term key.other.now) env) ≡ true → is_marked ix.marks k ≡ false → Skipped test q rows env k
  nowhere-skipped k key i none free r l at =
      let row = known k r l at free in
      let y = other_of (shown.term key.other.now) env in
      all-at (RejectsBy test q) key keys is.0 i r.cells env
      (all-in (λ (k : Key). is_plain k.by (own_of q (shown.term k.own.now) r.cells)) key keys row.0 i) (nowhere-plain key.by y none)
      (or_left (is_nowhere key.by y) (not (is_eq (cell_compare (own_of q (shown.term key.own.now) r.cells) y))) none)

  spanned : (length ix.hashes ≡ length rows) × AreAsMany ix.marks (length rows)
  spanned =
      let many : length (row_hashes q keys rows) ≡ length rows = length-map rows (λ (r : Row (List Cell)). row_hash q keys r.cells) in
      (is.1.hashes ∙ many, subst (λ (n : ℕ). AreAsMany ix.marks n) many is.1.marks)

-- ---- rows that are passed over

abbrev absent : Row (List Cell)
absent = record { cells = []; level = No }

-- those of some places in a row
jumped : (level : Level) (rows : Bag) (f : List Cell → Bag) (old out : Bag) (i d : ℕ) → ((k : ℕ) (r : Row (List Cell)) → i ≤ k → k < i + d → k < length rows → r ≡ get_or rows k r → Alike (f r.cells) [])
    → Alike out (old ++ keep level (bind (take i rows) f)) → Alike out (old ++ keep level (bind (take (i + d) rows) f))
jumped level rows f old out i zero none h = subst (λ (n : ℕ). Alike out (old ++ keep level (bind (take n rows) f))) (omega arith) h
jumped level rows f old out i (suc d) none h =
    let before = jumped level rows f old out i d (λ k r from to within at. none k r from (omega (arith, to)) within at) h in
    let more : (i + d) + 1 ≡ i + suc d = omega arith in
    subst (λ (n : ℕ). Alike out (old ++ keep level (bind (take n rows) f))) more
    (elim (cases_lt (i + d) (length rows)) [
      | inl inside ↦
          (let r = get_or rows (i + d) absent in
          let at : r ≡ get_or rows (i + d) r = get_or_default rows (i + d) absent r inside in
          each-more level rows (i + d) r f old out out inside at before (nothing-added (least level r.level) out (f r.cells) (none (i + d) r (omega arith) (omega arith) inside at)))
      | inr past ↦
          (let all = take_all (i + d) rows past in
          let more = take_all ((i + d) + 1) rows (omega (arith, past)) in
          subst (λ (rs : Bag). Alike out (old ++ keep level (bind rs f))) (all ∙ sym more) before)
    ])

-- up to a place
jumped-to : (level : Level) (rows : Bag) (f : List Cell → Bag) (old out : Bag) (i j : ℕ) → i ≤ j → ((k : ℕ) (r : Row (List Cell)) → i ≤ k → k < j → k < length rows → r ≡ get_or rows k r → Alike (f r.cells) [])
    → Alike out (old ++ keep level (bind (take i rows) f)) → Alike out (old ++ keep level (bind (take j rows) f))
jumped-to level rows f old out i j le none h =
    let to : i + (j - i) ≡ j = omega (arith, le) in
    subst (λ (n : ℕ). Alike out (old ++ keep level (bind (take n rows) f))) to (jumped level rows f old out i (j - i) (λ k r from under within at. none k r from (omega (arith, under, to)) within at) h)

-- ---- ways

-- by an index
pub leads-index : (test : Environment → Bool) (q : ℕ) (rows : List (Row (List Cell))) (env : Environment) (keys : List Key) (ix : RowIndex) → IsIndex test q rows keys ix → (w : Way) → w.end ≡ length rows → option_map (λ (ix : Bor RowIndex). ix.now) w.index ≡ Some ix
    → ((k : ℕ) → has_hash w.hash ix.hashes k ≡ false → is_marked ix.marks k ≡ false → Skipped test q rows env k) → Leads test q rows env w
leads-index test q rows env keys ix is w e ei skips = by w.index ei refl
  where
    by : (o : Option (Bor RowIndex)) → option_map (λ (ix : Bor RowIndex). ix.now) o ≡ Some ix → w.index ≡ o → Leads test q rows env w
    by None g k = absurd (let z : ⊥ = cc in z)
    by (Some x) g k =
        let same : x.now ≡ ix = cc in
        record {
          end = e;
          spans = subst (λ (o : Option (Bor RowIndex)). Spans o w.end) (sym k) (subst (λ (y : RowIndex). (length y.hashes ≡ w.end) × AreAsMany y.marks w.end) (sym same) (subst (λ (n : ℕ). (length ix.hashes ≡ n) × AreAsMany ix.marks n) (sym e) (spanned test q rows env keys ix is)));
          passed = λ p unseen.
              let no : (has_hash w.hash x.now.hashes p || is_marked x.now.marks p) ≡ false = subst (λ (o : Option (Bor RowIndex)). sees_by o w.hash p ≡ false) k unseen in
              skips p (subst (λ (y : RowIndex). has_hash w.hash y.hashes p ≡ false) same (neither-left (has_hash w.hash x.now.hashes p) (is_marked x.now.marks p) no))
              (subst (λ (y : RowIndex). is_marked y.marks p ≡ false) same (neither-right (has_hash w.hash x.now.hashes p) (is_marked x.now.marks p) no));
        }

-- to the rows of a hash
pub leads-hash : (test : Environment → Bool) (q : ℕ) (rows : List (Row (List Cell))) (env : Environment) (keys : List Key) (ix : RowIndex) → IsIndex test q rows keys ix → (w : Way) (hash : ℕ) → w.end ≡ length rows → option_map (λ (ix : Bor RowIndex). ix.now) w.index ≡ Some ix
    → w.hash ≡ Some hash → Aims keys env (Hash hash) → Leads test q rows env w
leads-hash test q rows env keys ix is w hash e ei eh aims =
    leads-index test q rows env keys ix is w e ei (λ k other free. other-skipped test q rows env keys ix is hash k aims.0 aims.1 (subst (λ (o : Option ℕ). has_hash o ix.hashes k ≡ false) eh other) free)

-- to those that are marked alone
pub leads-nowhere : (test : Environment → Bool) (q : ℕ) (rows : List (Row (List Cell))) (env : Environment) (keys : List Key) (ix : RowIndex) → IsIndex test q rows keys ix → (w : Way) → w.end ≡ length rows → option_map (λ (ix : Bor RowIndex). ix.now) w.index ≡ Some ix
    → Aims keys env Nowhere → Leads test q rows env w
leads-nowhere test q rows env keys ix is w e ei aims =
    leads-index test q rows env keys ix is w e ei (λ k other free. nowhere-skipped test q rows env keys ix is k aims.0 aims.1.0 aims.1.1 free)

-- to all
pub leads-all : (test : Environment → Bool) (q : ℕ) (rows : List (Row (List Cell))) (env : Environment) (w : Way) → w.end ≡ length rows → w.index ≡ None → Leads test q rows env w
leads-all test q rows env w e ei = record {
  end = e;
  spans = subst (λ (o : Option (Bor RowIndex)). Spans o w.end) (sym ei) tt;
  passed = λ k unseen. absurd (let no : true ≡ false = subst (λ (o : Option (Bor RowIndex)). sees_by o w.hash k ≡ false) ei unseen in let z : ⊥ = cc in z);
}

-- places that a way passes over give nothing
module _ (test : Environment → Bool) (q : ℕ) (rows : Bag) (env : Environment) (w : Way) (leads : Leads test q rows env w) (f : List Cell → Bag) (none : (cells : List Cell) → test (bound q cells env) ≡ true → Alike (f cells) []) where
  pub stepped : (level : Level) (old out : Bag) (from : ℕ) (c : Cursor) → from ≤ w.end → StandsFrom w from c → Alike out (old ++ keep level (bind (take from rows) f)) → Alike out (old ++ keep level (bind (take (place c) rows) f))
  stepped level old out from c le s h =
      jumped-to level rows f old out from (place c) (seen-low w from c leads.spans le s)
      (λ k r low up inside is. none r.cells (leads.passed k (seen-passed w from c leads.spans s k low up) r inside is)) h

  -- and nothing is left past its end
  pub ended : (level : Level) (old out : Bag) (i : ℕ) → w.end ≤ i → Alike out (old ++ keep level (bind (take i rows) f)) → Alike out (old ++ keep level (bind rows f))
  ended level old out i over h =
      let end = leads.end in
      subst (λ (rs : Bag). Alike out (old ++ keep level (bind rs f))) (take_all i rows (omega (arith, end, over))) h

-- what is said of a value that is there
pub some-is : {X : Type 0} (P : X → Type 0) (o : Option X) (x : X) → o ≡ Some x → IfSome o P → P x
some-is P None x e p = absurd (let z : ⊥ = cc in z)
some-is P (Some y) x e p = let is : y ≡ x = cc in subst P is p

pub is-some : {X : Type 0} (P : X → Type 0) (o : Option X) (x : X) → o ≡ Some x → P x → IfSome o P
is-some P o x e p = subst (λ y. IfSome y P) (sym e) p
