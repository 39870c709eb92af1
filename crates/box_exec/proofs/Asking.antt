-- Keys that are found and indexed are the equalities that conditions are; what a way sees of them is taken.
use Rattle.std.proofs.Common.{ℕ, suc, zero, ◌≡◌, ◌<◌, ◌≤◌, ◌+◌, ◌-◌, ◌++◌, ◌∷◌, ◌==◌, ◌||◌, ◌&&◌, not, cond, Bool, true, false, List, [], Option, Some, drop, filter, get_or, length, map, slice_get, refl, sym, ap, ap₂, subst, ◌∙◌, eqb-true, ◌⊎◌, inl, inr, arith}
use Rattle.std.specs.List.{flat_map, list_all, list_any}
use Rattle.std.proofs.lemmas.Bool.{cases_Bool, cases_lt, eq-eqb, or_left, or_right}
use Rattle.list_laws.specs.Lists.{In}
use Rattle.list_laws.proofs.Booleans.{neither-left, neither-right}
use Rattle.sql_value.specs.declared.cell.Cell.{Cell}
use Rattle.qgm_core.specs.declared.node.Node.{Node}
use Rattle.qgm_core.specs.declared.owned.OwnedQuant.{OwnedQuant}
use Rattle.qgm_meaning.specs.Values.{Environment, bound}
use Rattle.qgm_terms.specs.Shown.{cond as shown_cond, conds, term}
use Rattle.qgm_terms.specs.declared.tree.Gc.{Gc}
use Rattle.qgm_terms.specs.Terms.{Cond, Term, Sign, equal, unequal, below, at_most, above, at_least, same, like, always, compare, is_null, and, or, some, every, anded, ored}
use Rattle.qgm_terms.specs.Terms as terms
use Rattle.qgm_terms.specs.Named.{columns_in}
use Rattle.qgm_terms.specs.Wanted.{node_free, reads, reads_cond}
use Rattle.box_exec.specs.Asked.{AllAsked, AreEarly, keys_at, keys_in, keys_made, matched_at, place_in, placed_early, shown_early, shown_key, shown_keys, tested_at}
use Rattle.box_exec.specs.Early.{names_any, reads_any}
use Rattle.box_exec.specs.Equalities.{is_nowhere, is_plain, other_of, own_of}
use Rattle.sql_value.specs.Cells.{cell_compare}
use Rattle.std.specs.Ordering.{is_eq}
use Rattle.std.proofs.lemmas.List.{append_assoc, get_or_default, map-append}
use Rattle.box_exec.specs.Lookup.{RejectsBy}
use Rattle.box_exec.specs.Taken.{Match, is_other, is_own, matched, matches, one_way, passes, takes}
use Rattle.box_exec.specs.declared.early.Early.{Early}
use Rattle.box_exec.specs.declared.key.Equality.{Equality}
use Rattle.box_exec.specs.declared.key.Equality.TheVariants.{Same, Equal}
use Rattle.box_exec.proofs.Loops.{from}
use Rattle.box_exec.specs.declared.key.Key.{Key}
use Rattle.box_exec.specs.declared.lookup.Keyed.{Keyed}
use Rattle.box_exec.specs.declared.under.Loop.{Loop}
use Rattle.qgm_core.specs.Kinds.{is_F}
use Rattle.box_exec.proofs.Lasting.{loop-at}
use Rattle.box_exec.proofs.Lookups.{nowhere-plain}
use Rattle.box_exec.specs.Sought.{AllSought}

-- ---- lists

pub any-map : {X Y : Type 0} (f : X → Y) (p : Y → Bool) (xs : List X) → list_any p (map f xs) ≡ list_any (λ x. p (f x)) xs
any-map f p [] = refl
any-map f p (x ∷ xs) = ap (λ (b : Bool). p (f x) || b) (any-map f p xs)

-- ---- rows that are taken

-- of a row that a key doesn't let pass
unpassed : (a b c d : Bool) → (not a || (not b && (not c || d))) ≡ false → (a ≡ true) × ((b ≡ true) ⊎ ((c ≡ true) × (d ≡ false)))
unpassed true true c d h = (refl, inl refl)
unpassed true false true true h = absurd (let z : ⊥ = cc in z)
unpassed true false true false h = (refl, inr (refl, refl))
unpassed true false false d h = absurd (let z : ⊥ = cc in z)
unpassed false b c d h = absurd (let z : ⊥ = cc in z)

unpassed-rejects : (test : Environment → Bool) (q : ℕ) (key : Key) (cells : List Cell) (env : Environment) → RejectsBy test q key → passes q env cells (shown_key key) ≡ false → test (bound q cells env) ≡ true
unpassed-rejects test q key cells env rejects h =
    let x = own_of q (term key.own.now) cells in
    let y = other_of (term key.other.now) env in
    let u = unpassed (is_plain key.by x) (is_nowhere key.by y) (is_plain key.by y) (is_eq (cell_compare x y)) h in
    elim u.1 [
      | inl none ↦ rejects cells env u.0 (nowhere-plain key.by y none) (or_left (is_nowhere key.by y) (not (is_eq (cell_compare x y))) none)
      | inr other ↦ rejects cells env u.0 other.0 (or_right (is_nowhere key.by y) (not (is_eq (cell_compare x y))) (ap not other.1))
    ]

-- a row that isn't taken is rejected
pub untaken-rejects : (test : Environment → Bool) (q : ℕ) (keys : List Key) (cells : List Cell) (env : Environment) → ((k : Key) → In k keys → RejectsBy test q k) → takes (shown_keys keys) q env cells ≡ false → test (bound q cells env) ≡ true
untaken-rejects test q [] cells env rejects h = absurd (let z : ⊥ = cc in z)
untaken-rejects test q (key ∷ keys) cells env rejects h = elim (cases_Bool (passes q env cells (shown_key key))) [
  | inl t ↦ untaken-rejects test q keys cells env (λ k i. rejects k (inr i)) (sym (ap (λ (b : Bool). b && takes (shown_keys keys) q env cells) t) ∙ h)
  | inr f ↦ unpassed-rejects test q key cells env (rejects key (inl refl)) f
]

-- ---- keys at a place

any-later : (c : Cond) (r : OwnedQuant) (rs : List OwnedQuant) → reads_any c rs ≡ true → reads_any c (r ∷ rs) ≡ true
any-later c r rs h = or_right (reads_cond r.id c) (reads_any c rs) h

-- the place is behind those that are read
place-low : (c : Cond) (rs : List OwnedQuant) (i : ℕ) → reads_any c (drop i rs) ≡ true → i < place_in c rs
place-low c [] zero h = absurd (let z : ⊥ = cc in z)
place-low c [] (suc i) h = absurd (let z : ⊥ = cc in z)
place-low c (r ∷ rs) zero h = subst (λ (b : Bool). 0 < cond b (suc (place_in c rs)) 0) (sym h) (omega arith)
place-low c (r ∷ rs) (suc i) h =
    let rest = place-low c rs i h in
    let here : reads_any c (r ∷ rs) ≡ true = any-later c r rs (dropped-reads c rs i h) in
    subst (λ (b : Bool). suc i < cond b (suc (place_in c rs)) 0) (sym here) (omega (arith, rest))
  where
    dropped-reads : (c : Cond) (rs : List OwnedQuant) (i : ℕ) → reads_any c (drop i rs) ≡ true → reads_any c rs ≡ true
    dropped-reads c [] zero h = h
    dropped-reads c [] (suc i) h = h
    dropped-reads c (r ∷ rs) zero h = h
    dropped-reads c (r ∷ rs) (suc i) h = any-later c r rs (dropped-reads c rs i h)

-- and no further
pub place-high : (c : Cond) (rs : List OwnedQuant) (i : ℕ) → reads_any c (drop i rs) ≡ false → place_in c rs ≤ i
place-high c [] i h = omega arith
place-high c (r ∷ rs) zero h = subst (λ (b : Bool). cond b (suc (place_in c rs)) 0 ≤ 0) (sym h) (omega arith)
place-high c (r ∷ rs) (suc i) h =
    let rest = place-high c rs i h in
    elim (reads_any c (r ∷ rs)) as (λ b. cond b (suc (place_in c rs)) 0 ≤ suc i) [
      | true ↦ omega (arith, rest)
      | false ↦ omega arith
    ]

-- it is where the last that is read stands
pub place-is : (c : Cond) (rs : List OwnedQuant) (i : ℕ) (r : OwnedQuant) → i < length rs → r ≡ get_or rs i r → reads_cond r.id c ≡ true → reads_any c (drop (i + 1) rs) ≡ false → place_in c rs ≡ i + 1
place-is c rs i r l at here none =
    let e : drop i rs ≡ r ∷ drop (i + 1) rs = from rs i r l ∙ ap (λ (x : OwnedQuant). x ∷ drop (i + 1) rs) (sym at) in
    let low = place-low c rs i (subst (λ (xs : List OwnedQuant). reads_any c xs ≡ true) (sym e) (or_left (reads_cond r.id c) (reads_any c (drop (i + 1) rs)) here)) in
    let high = place-high c rs (i + 1) none in
    omega (arith, low, high)

pub place-found : (c : Cond) (rs : List OwnedQuant) (p : ℕ) (d : OwnedQuant) → 0 < p → p ≤ length rs → reads_cond (get_or rs (p - 1) d).id c ≡ true → reads_any c (drop p rs) ≡ false → p ≡ place_in c rs
place-found c rs p d more within here none =
    let e : p - 1 + 1 ≡ p = omega (arith, more) in
    let l : p - 1 < length rs = omega (arith, more, within) in
    let r = get_or rs (p - 1) d in
    sym (place-is c rs (p - 1) r l (get_or_default rs (p - 1) d r l) here (subst (λ (k : ℕ). reads_any c (drop k rs) ≡ false) (sym e) none) ∙ e)

-- ---- one condition more that is tested early

module _ (named : Cond → Bool) (rs : List OwnedQuant) (cs : List Gc) (i : ℕ) (d : Gc) (made : List Early) (whole : List (ℕ × Cond)) (l : i < length cs) (at : d ≡ get_or cs i d) where
  abbrev rest-from : ℕ → List (ℕ × Cond)
  rest-from k = map (placed_early rs) (filter (λ c. not (named c)) (conds (drop k cs)))

  next-from : rest-from i ≡ cond (named (shown_cond d)) (rest-from (i + 1)) (placed_early rs (shown_cond d) ∷ rest-from (i + 1))
  next-from = ap (λ (xs : List Gc). map (placed_early rs) (filter (λ c. not (named c)) (conds xs))) (from cs i d l ∙ ap (λ (x : Gc). x ∷ drop (i + 1) cs) (sym at)) ∙ one (named (shown_cond d))
    where
      one : (b : Bool) → map (placed_early rs) (cond (not b) (shown_cond d ∷ filter (λ c. not (named c)) (conds (drop (i + 1) cs))) (filter (λ c. not (named c)) (conds (drop (i + 1) cs)))) ≡ cond b (rest-from (i + 1)) (placed_early rs (shown_cond d) ∷ rest-from (i + 1))
      one true = refl
      one false = refl

  pub named-more : named (shown_cond d) ≡ true → map shown_early made ++ rest-from i ≡ whole → map shown_early made ++ rest-from (i + 1) ≡ whole
  named-more h k = ap (λ (xs : List (ℕ × Cond)). map shown_early made ++ xs) (sym (next-from ∙ ap (λ (b : Bool). cond b (rest-from (i + 1)) (placed_early rs (shown_cond d) ∷ rest-from (i + 1))) h)) ∙ k

  pub early-more : (e : Early) → named (shown_cond d) ≡ false → shown_early e ≡ placed_early rs (shown_cond d) → map shown_early made ++ rest-from i ≡ whole → map shown_early (made ++ e ∷ []) ++ rest-from (i + 1) ≡ whole
  early-more e h is k =
      ap (λ (xs : List (ℕ × Cond)). xs ++ rest-from (i + 1)) (map-append shown_early made (e ∷ []))
      ∙ append_assoc (map shown_early made) (shown_early e ∷ []) (rest-from (i + 1))
      ∙ ap (λ (xs : List (ℕ × Cond)). map shown_early made ++ xs) (ap (λ (x : ℕ × Cond). x ∷ rest-from (i + 1)) is ∙ sym (next-from ∙ ap (λ (b : Bool). cond b (rest-from (i + 1)) (placed_early rs (shown_cond d) ∷ rest-from (i + 1))) h)) ∙ k

-- what is asked of rows that a condition doesn't read is nothing
abbrev own-columns : ℕ → Term → Bool
own-columns q x = list_all (λ k. k.quant == q) (columns_in x)

own-unread : (q : ℕ) (x : Term) → reads q x ≡ false → is_own q x ≡ false
own-unread q x h = elim (node_free x) as (λ b. (b && (reads q x && own-columns q x)) ≡ false) [
  | true ↦ ap (λ (b : Bool). b && own-columns q x) h
  | false ↦ refl
]

one-unread : (q : ℕ) (by : Equality) (a b : Term) → reads q a ≡ false → one_way q by a b ≡ []
one-unread q by a b h = ap (λ (x : Bool). cond (x && is_other q b) (record { own = a; other = b; by = by } ∷ []) []) (own-unread q a h)

both-unread : (q : ℕ) (by : Equality) (a b : Term) → reads q a ≡ false → reads q b ≡ false → one_way q by a b ++ one_way q by b a ≡ []
both-unread q by a b h k = ap₂ (λ (x y : List Match). x ++ y) (one-unread q by a b h) (one-unread q by b a k)

unread-none : (q : ℕ) (c : Cond) → reads_cond q c ≡ false → matched q c ≡ []
unread-none q always h = refl
unread-none q (compare equal a b) h = both-unread q Equal a b (neither-left (reads q a) (reads q b) h) (neither-right (reads q a) (reads q b) h)
unread-none q (compare unequal a b) h = refl
unread-none q (compare below a b) h = refl
unread-none q (compare at_most a b) h = refl
unread-none q (compare above a b) h = refl
unread-none q (compare at_least a b) h = refl
unread-none q (compare same a b) h = both-unread q Same a b (neither-left (reads q a) (reads q b) h) (neither-right (reads q a) (reads q b) h)
unread-none q (compare like a b) h = refl
unread-none q (is_null x) h = refl
unread-none q (and c d) h = refl
unread-none q (or c d) h = refl
unread-none q (terms.not c) h = refl
unread-none q (some r c) h = refl
unread-none q (every r c) h = refl

neq-eqb : (a b : ℕ) → (a ≡ b → ⊥) → (a == b) ≡ false
neq-eqb a b h = elim (cases_Bool (a == b)) [
  | inl t ↦ absurd (h (eqb-true a b t))
  | inr f ↦ f
]

if-none : (b : Bool) (xs : List Match) → xs ≡ [] → cond b xs [] ≡ []
if-none true xs h = h
if-none false xs h = refl

and-none : (q : ℕ) (c d : Cond) (ps : List Cond) → matched q (anded (and c d) ps) ≡ []
and-none q c d [] = refl
and-none q c d (p ∷ ps) = and-none q (and c d) p ps

or-none : (q : ℕ) (c d : Cond) (ps : List Cond) → matched q (ored (or c d) ps) ≡ []
or-none q c d [] = refl
or-none q c d (p ∷ ps) = or-none q (or c d) p ps

-- an AND or an OR of several conditions is no equality
pub all-none : (q : ℕ) (c : Cond) (ps : List Cond) → (ps ≡ [] → ⊥) → matched q (anded c ps) ≡ []
all-none q c [] h = absurd (h refl)
all-none q c (p ∷ ps) h = and-none q c p ps

pub any-none : (q : ℕ) (c : Cond) (ps : List Cond) → (ps ≡ [] → ⊥) → matched q (ored c ps) ≡ []
any-none q c [] h = absurd (h refl)
any-none q c (p ∷ ps) h = or-none q c p ps

module _ (rs : List OwnedQuant) (i : ℕ) (r : OwnedQuant) (l : i < length rs) (at : r ≡ get_or rs i r) where
  -- of one condition
  one-at : (c : Cond) → matched_at (i + 1) r.id (placed_early rs c) ≡ cond (reads_any c (drop (i + 1) rs)) [] (matched r.id c)
  one-at c = elim (cases_Bool (reads_any c (drop (i + 1) rs))) [
    | inl t ↦ (
        let low = place-low c rs (i + 1) t in
        let other : (place_in c rs == i + 1) ≡ false = neq-eqb (place_in c rs) (i + 1) (λ e. omega (arith, low, e)) in
        ap (λ (b : Bool). cond b (matched r.id c) []) other ∙ sym (ap (λ (b : Bool). cond b [] (matched r.id c)) t))
    | inr f ↦ elim (cases_Bool (reads_cond r.id c)) [
      | inl t ↦ ap (λ (b : Bool). cond b (matched r.id c) []) (eq-eqb (place_in c rs) (i + 1) (place-is c rs i r l at t f)) ∙ sym (ap (λ (b : Bool). cond b [] (matched r.id c)) f)
      | inr u ↦ if-none (place_in c rs == i + 1) (matched r.id c) (unread-none r.id c u) ∙ sym (ap (λ (b : Bool). cond b [] (matched r.id c)) f ∙ unread-none r.id c u)
    ]
  ]

  abbrev later : (Cond → Bool) → List Cond → List Cond
  later named cs = filter (λ c. not (named c || reads_any c (drop (i + 1) rs))) cs

  -- of those that are tested early
  listed-at : (named : Cond → Bool) (cs : List Cond) → flat_map (λ (e : ℕ × Cond). matched_at (i + 1) r.id e) (map (placed_early rs) (filter (λ c. not (named c)) cs))
      ≡ flat_map (matched r.id) (filter (λ c. not (named c || reads_any c (drop (i + 1) rs))) cs)
  listed-at named [] = refl
  listed-at named (c ∷ cs) = elim (cases_Bool (named c)) [
    | inl t ↦ ap (λ (xs : List Cond). flat_map (λ (e : ℕ × Cond). matched_at (i + 1) r.id e) (map (placed_early rs) xs)) (ap (λ (b : Bool). cond (not b) (c ∷ filter (λ c. not (named c)) cs) (filter (λ c. not (named c)) cs)) t)
        ∙ listed-at named cs
        ∙ sym (ap (λ (b : Bool). flat_map (matched r.id) (cond (not (b || reads_any c (drop (i + 1) rs))) (c ∷ later named cs) (later named cs))) t)
    | inr f ↦ ap (λ (b : Bool). flat_map (λ (e : ℕ × Cond). matched_at (i + 1) r.id e) (map (placed_early rs) (cond (not b) (c ∷ filter (λ c. not (named c)) cs) (filter (λ c. not (named c)) cs)))) f
        ∙ ap₂ (λ (x y : List Match). x ++ y) (one-at c) (listed-at named cs)
        ∙ kept-if (reads_any c (drop (i + 1) rs)) c (later named cs)
        ∙ sym (ap (λ (b : Bool). flat_map (matched r.id) (cond (not (b || reads_any c (drop (i + 1) rs))) (c ∷ later named cs) (later named cs))) f)
  ]
    where
      kept-if : (b : Bool) (c : Cond) (xs : List Cond) → cond b [] (matched r.id c) ++ flat_map (matched r.id) xs ≡ flat_map (matched r.id) (cond (not b) (c ∷ xs) xs)
      kept-if true c xs = refl
      kept-if false c xs = refl

  tested-shown : (es : List Early) → tested_at es (i + 1) r.id ≡ flat_map (λ (e : ℕ × Cond). matched_at (i + 1) r.id e) (map shown_early es)
  tested-shown [] = refl
  tested-shown (e ∷ es) = ap (λ (xs : List Match). matched_at (i + 1) r.id (shown_early e) ++ xs) (tested-shown es)

  -- the keys that are tested when r is bound are all that the conditions ask of its rows
  pub tested-all : (n : Node) (es : List Early) → AreEarly n rs es → tested_at es (i + 1) r.id ≡ matches n r (drop (i + 1) rs)
  tested-all n es h = tested-shown es ∙ ap (flat_map (λ (e : ℕ × Cond). matched_at (i + 1) r.id e)) h ∙ listed-at (λ c. names_any c n.quants) n.parts.conds.items

-- ---- one condition more that is gone through

module _ (es : List Early) (i : ℕ) (e : Early) (place q : ℕ) (made : List Key) (l : i < length es) (at : e ≡ get_or es i e) where
  next-tested : tested_at (drop i es) place q ≡ matched_at place q (shown_early e) ++ tested_at (drop (i + 1) es) place q
  next-tested = ap (λ (xs : List Early). tested_at xs place q) (from es i e l ∙ ap (λ (x : Early). x ∷ drop (i + 1) es) (sym at))

  here-asked : e.place ≡ place → matched_at place q (shown_early e) ≡ matched q (shown_cond e.cond.now)
  here-asked h = ap (λ (b : Bool). cond b (matched q (shown_cond e.cond.now)) []) (eq-eqb e.place place h)

  pub other-more : (e.place == place) ≡ false → shown_keys made ++ tested_at (drop i es) place q ≡ tested_at es place q → shown_keys made ++ tested_at (drop (i + 1) es) place q ≡ tested_at es place q
  other-more h k = ap (λ (xs : List Match). shown_keys made ++ xs) (sym (next-tested ∙ ap (λ (b : Bool). cond b (matched q (shown_cond e.cond.now)) [] ++ tested_at (drop (i + 1) es) place q) h)) ∙ k

  pub none-more : e.place ≡ place → [] ≡ matched q (shown_cond e.cond.now) → shown_keys made ++ tested_at (drop i es) place q ≡ tested_at es place q → shown_keys made ++ tested_at (drop (i + 1) es) place q ≡ tested_at es place q
  none-more h n k = ap (λ (xs : List Match). shown_keys made ++ xs) (sym (next-tested ∙ ap (λ (xs : List Match). xs ++ tested_at (drop (i + 1) es) place q) (here-asked h ∙ sym n))) ∙ k

  pub key-more : (key : Key) → e.place ≡ place → shown_key key ∷ [] ≡ matched q (shown_cond e.cond.now) → shown_keys made ++ tested_at (drop i es) place q ≡ tested_at es place q → shown_keys (made ++ key ∷ []) ++ tested_at (drop (i + 1) es) place q ≡ tested_at es place q
  key-more key h n k =
      ap (λ (xs : List Match). xs ++ tested_at (drop (i + 1) es) place q) (map-append shown_key made (key ∷ []))
      ∙ append_assoc (shown_keys made) (shown_key key ∷ []) (tested_at (drop (i + 1) es) place q)
      ∙ ap (λ (xs : List Match). shown_keys made ++ xs) (sym (next-tested ∙ ap (λ (xs : List Match). xs ++ tested_at (drop (i + 1) es) place q) (here-asked h ∙ sym n))) ∙ k

-- ---- keys that are asked for

get-last : {X : Type 0} (hs : List X) (o : X) → slice_get (hs ++ o ∷ []) (length hs) ≡ Some o
get-last [] o = refl
get-last (h ∷ hs) o = get-last hs o

get-earlier : {X : Type 0} (hs : List X) (o : X) (j : ℕ) → j < length hs → slice_get (hs ++ o ∷ []) j ≡ slice_get hs j
get-earlier [] o j l = absurd (omega (arith, l))
get-earlier (h ∷ hs) o zero l = refl
get-earlier (h ∷ hs) o (suc j) l = get-earlier hs o j (omega (arith, l))

abbrev asked-so : List Early → List Loop → List (Option Keyed) → ℕ → Type 0
asked-so es ls ks i = (j : ℕ) (m : Loop) → j < i → m ≡ get_or ls j m → is_F m.range.kind ≡ true → keys_at ks j ≡ tested_at es (j + 1) m.range.id

-- those of one quantifier more
pub asked-more : (es : List Early) (ls : List Loop) (ks new : List (Option Keyed)) (o : Option Keyed) (i : ℕ) (l : Loop) → length ks ≡ i → i < length ls → l ≡ get_or ls i l → new ≡ ks ++ o ∷ []
    → (is_F l.range.kind ≡ true → keys_made o ≡ tested_at es (i + 1) l.range.id) → asked-so es ls ks i → asked-so es ls new (i + 1)
asked-more es ls ks new o i l long inside is en made all j m within it f =
    elim (cases_lt j i) [
      | inl before ↦ ap (λ (xs : List (Option Keyed)). keys_at xs j) en ∙ ap keys_in (get-earlier ks o j (omega (arith, before, long))) ∙ all j m before it f
      | inr past ↦
          (let same : j ≡ i = omega (arith, past, within) in
          let loop : l ≡ m = is ∙ get_or_default ls i l m inside ∙ ap (λ (n : ℕ). get_or ls n m) (sym same) ∙ sym it in
          ap (λ (xs : List (Option Keyed)). keys_at xs j) en ∙ ap (λ (k : ℕ). keys_at (ks ++ o ∷ []) k) (same ∙ sym long) ∙ ap keys_in (get-last ks o)
          ∙ made (subst (λ (x : Loop). is_F x.range.kind ≡ true) (sym loop) f)
          ∙ ap (λ (x : Loop). tested_at es (i + 1) x.range.id) loop ∙ ap (λ (k : ℕ). tested_at es (k + 1) m.range.id) (sym same))
    ]

-- they are all that the conditions ask for
pub asked-sought : (n : Node) (rs : List OwnedQuant) (es : List Early) (ls : List Loop) (ks : List (Option Keyed)) → map (λ (l : Loop). l.range) ls ≡ rs → AreEarly n rs es → AllAsked es ls ks → AllSought n rs ks
asked-sought n rs es ls ks ranged early asked i r l at f =
    let x = loop-at ls i r (subst (λ (xs : List OwnedQuant). i < length xs) (sym ranged) l) (subst (λ (xs : List OwnedQuant). r ≡ get_or xs i r) (sym ranged) at) in
    asked i x.0 x.1.0 x.1.1 (subst (λ (q : OwnedQuant). is_F q.kind ≡ true) (sym x.1.2) f) ∙ ap (λ (q : OwnedQuant). tested_at es (i + 1) q.id) x.1.2 ∙ tested-all rs i r l at n es early
