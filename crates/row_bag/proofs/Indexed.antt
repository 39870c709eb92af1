-- Tuples found by the chains of their hashes.
use Rattle.std.proofs.Common.{◌≡◌, ℕ, zero, suc, ◌+◌, ◌-◌, ◌<◌, ◌≤◌, ◌%◌, zero-add, Bool, true, cond, nat_eq, eqb-true, List, [], ◌∷◌, ◌++◌, map, length, get_or, set, Some, refl, sym, ap, ◌∙◌, arith, inl, inr}
use Rattle.std.specs.Prelude.{option_map, slice_get}
use Rattle.std.proofs.lemmas.Bool.{cases_Bool, cases_lt, eqb-false}
use Rattle.std.proofs.lemmas.Grind.{get_or-set_at}
use Rattle.std.proofs.lemmas.List.{get_or-map, get_or-set_other, get_or_append_left, get_or_push, length-map, length-set, length_push, map_push}
use Rattle.std.proofs.lemmas.Option.{get_or_from_slice_get, slice_get-get_or, slice_get-map}
use Rattle.sql_value.specs.declared.cell.Cell.{Cell}
use Rattle.row_bag.specs.Hashes.{AreChained, IsLastOf, chains_of, hash_of, hashes_of}
use Rattle.row_bag.specs.Matched.{often}
use Rattle.row_bag.specs.Sets.{same_cells}
use Rattle.row_bag.proofs.TupleBags.{same_cells-decides}

abbrev pub Tuple : Type 0
Tuple = List Cell

-- ---- one hash more

-- the last place of a chain below a bound stays, where a hash comes at the end
last-more : (chains : List ℕ) (x c bound place c' bound' place' : ℕ) → bound ≤ length chains → c' ≡ c → bound' ≡ bound → place' ≡ place → IsLastOf chains c bound place
    → IsLastOf (chains ++ x ∷ []) c' bound' place'
last-more chains x c bound place c' bound' place' fits ec eb ep l =
    let low = l.within in
    record {
      within = omega (arith, eb, ep, low);
      own = λ some.
          let here : place' - 1 < length chains = omega (arith, ep, low, fits, some) in
          get_or_append_left chains (x ∷ []) 0 (place' - 1) here ∙ ap (λ p. get_or chains (p - 1) 0) ep ∙ l.own (omega (arith, ep, some)) ∙ sym ec;
      others = λ k from to same.
          let there : k < length chains = omega (arith, eb, to, fits) in
          l.others k (omega (arith, ep, from)) (omega (arith, eb, to)) (sym (get_or_append_left chains (x ∷ []) 0 k there) ∙ same ∙ ec);
    }

-- and so does that of a chain to which the hash doesn't belong
last-passed : (chains : List ℕ) (x c bound place place' : ℕ) → length chains ≡ bound → (x ≡ c → ⊥) → place' ≡ place → IsLastOf chains c bound place → IsLastOf (chains ++ x ∷ []) c (bound + 1) place'
last-passed chains x c bound place place' long other ep l =
    let low = l.within in
    let more = last-more chains x c bound place c bound place' (omega (arith, long)) refl refl ep l in
    record {
      within = omega (arith, ep, low);
      own = more.own;
      others = λ k from to same. elim (cases_lt k bound) [
        | inl inside ↦ more.others k from inside same
        | inr past ↦ other (sym (get_or_push chains x 0 k (omega (arith, long, past, to))) ∙ same)
      ];
    }

last-own : (chains : List ℕ) (x c bound place : ℕ) → length chains + 1 ≡ bound → x ≡ c → place ≡ bound → IsLastOf (chains ++ x ∷ []) c bound place
last-own chains x c bound place long is ep = record {
  within = omega (arith, ep);
  own = λ some. get_or_push chains x 0 (place - 1) (omega (arith, long, ep)) ∙ is;
  others = λ k from to same. absurd (omega (arith, ep, from, to));
}

pub chained-push : (heads befores hashes : List ℕ) (hash chain before last : ℕ) → length befores ≡ length hashes → chain < length heads → chain ≡ hash % length heads → before ≡ get_or heads chain 0 → last ≡ length hashes + 1
    → AreChained heads befores hashes → AreChained (set heads chain last) (befores ++ before ∷ []) (hashes ++ hash ∷ [])
chained-push heads befores hashes hash chain before last long inside is old new a = record {
  some = rw (length-set heads chain last) a.some;
  last = λ c within.
      let within' : c < length heads = rw (length-set heads chain last) at within in
      rw (length-set heads chain last, map_push (λ h. h % length heads) hashes hash, length_push hashes hash)
      (elim (cases_Bool (nat_eq c chain)) [
        | inl same ↦
            let e : c ≡ chain = eqb-true c chain same in
            last-own chains (hash % length heads) c (length hashes + 1) (get_or (set heads chain last) c 0) (ap (λ n. n + 1) size) (sym is ∙ sym e) (get_or-set_at heads chain c last 0 e inside ∙ new)
        | inr other ↦
            last-passed chains (hash % length heads) c (length hashes) (get_or heads c 0) (get_or (set heads chain last) c 0) size (λ e. eqb-false c chain other (sym e ∙ sym is))
            (get_or-set_other heads chain c last 0 (eqb-false c chain other)) (a.last c within')
      ]);
  before = λ k within.
      let within' : k < length hashes + 1 = rw (length_push hashes hash) at within in
      rw (length-set heads chain last, map_push (λ h. h % length heads) hashes hash)
      (elim (cases_lt k (length hashes)) [
        | inl inner ↦
            last-more chains (hash % length heads) (get_or chains k 0) k (get_or befores k 0) (get_or (chains ++ (hash % length heads) ∷ []) k 0) k (get_or (befores ++ before ∷ []) k 0) (omega (arith, size, inner))
            (get_or_append_left chains ((hash % length heads) ∷ []) 0 k (omega (arith, size, inner))) refl (get_or_append_left befores (before ∷ []) 0 k (omega (arith, long, inner))) (a.before k inner)
        | inr past ↦
            last-more chains (hash % length heads) chain (length hashes) (get_or heads chain 0) (get_or (chains ++ (hash % length heads) ∷ []) k 0) k (get_or (befores ++ before ∷ []) k 0) (omega (arith, size))
            (get_or_push chains (hash % length heads) 0 k (omega (arith, size, past, within')) ∙ sym is) (omega (arith, past, within')) (get_or_push befores before 0 k (omega (arith, long, past, within')) ∙ old) (a.last chain inside)
      ]);
}
  where
    chains : List ℕ
    chains = chains_of (length heads) hashes

    size : length (chains_of (length heads) hashes) ≡ length hashes
    size = length-map hashes (λ h. h % length heads)

-- ---- a walk along a chain

pub sizes : (hashes : List ℕ) (tuples : List Tuple) → hashes ≡ hashes_of tuples → length hashes ≡ length tuples
sizes hashes tuples e = ap (λ (h : List ℕ). length h) e ∙ length-map tuples hash_of

-- the hash at the place of a tuple
pub hash-at : (hashes : List ℕ) (tuples : List Tuple) (k : ℕ) (cells : Tuple) → hashes ≡ hashes_of tuples → k < length hashes → slice_get tuples k ≡ Some cells → get_or hashes k 0 ≡ hash_of cells
hash-at hashes tuples k cells e within is =
    let size = sizes hashes tuples e in
    ap (λ (h : List ℕ). get_or h k 0) e ∙ get_or-map hash_of tuples k cells 0 (omega (arith, size, within)) ∙ ap hash_of (get_or_from_slice_get tuples k cells cells is)

chain-at : (n : ℕ) (hashes : List ℕ) (tuples : List Tuple) (k : ℕ) (cells : Tuple) → hashes ≡ hashes_of tuples → k < length hashes → slice_get tuples k ≡ Some cells → get_or (chains_of n hashes) k 0 ≡ hash_of cells % n
chain-at n hashes tuples k cells e within is = get_or-map (λ h. h % n) hashes k 0 0 within ∙ ap (λ h. h % n) (hash-at hashes tuples k cells e within is)

-- the cells stand nowhere from a place on, and the chain goes on below it
pub record Walked (n : ℕ) (hashes : List ℕ) (tuples : List Tuple) (cells : Tuple) (place : ℕ) : Type 0 where
  pub within : place ≤ length hashes
  pub own : 0 < place → get_or (chains_of n hashes) (place - 1) 0 ≡ hash_of cells % n
  pub none : (k : ℕ) → place ≤ k → k < length hashes → slice_get tuples k ≡ Some cells → ⊥

pub walk-begins : (heads befores hashes : List ℕ) (tuples : List Tuple) (cells : Tuple) (hash chain place : ℕ) → hashes ≡ hashes_of tuples → hash ≡ hash_of cells → chain < length heads → chain ≡ hash % length heads
    → place ≡ get_or heads chain 0 → AreChained heads befores hashes → Walked (length heads) hashes tuples cells place
walk-begins heads befores hashes tuples cells hash chain place e he inside is ep a =
    let l = a.last chain inside in
    let low = l.within in
    let to : chain ≡ hash_of cells % length heads = is ∙ ap (λ h. h % length heads) he in
    record {
      within = omega (arith, ep, low);
      own = λ some. ap (λ p. get_or (chains_of (length heads) hashes) (p - 1) 0) ep ∙ l.own (omega (arith, ep, some)) ∙ to;
      none = λ k from within found. l.others k (omega (arith, ep, from)) within (chain-at (length heads) hashes tuples k cells e within found ∙ sym to);
    }

pub walk-goes : (heads befores hashes : List ℕ) (tuples : List Tuple) (cells : Tuple) (place before : ℕ) → hashes ≡ hashes_of tuples → 0 < place → before ≡ get_or befores (place - 1) 0
    → AreChained heads befores hashes → Walked (length heads) hashes tuples cells place
    → (slice_get tuples (place - 1) ≡ Some cells → ⊥)
    → Walked (length heads) hashes tuples cells before
walk-goes heads befores hashes tuples cells place before e some eb a w not =
    let top = w.within in
    let here : place - 1 < length hashes = omega (arith, top, some) in
    let l = a.before (place - 1) here in
    let low = l.within in
    record {
      within = omega (arith, eb, low, top);
      own = λ more. ap (λ p. get_or (chains_of (length heads) hashes) (p - 1) 0) eb ∙ l.own (omega (arith, eb, more)) ∙ w.own some;
      none = λ k from within found. elim (cases_lt k (place - 1)) [
        | inl lower ↦ l.others k (omega (arith, eb, from)) lower (chain-at (length heads) hashes tuples k cells e within found ∙ sym (w.own some))
        | inr upper ↦ elim (cases_lt k place) [
          | inl at ↦
              let same : k ≡ place - 1 = omega (arith, upper, at) in
              not (ap (slice_get tuples) (sym same) ∙ found)
          | inr above ↦ w.none k above within found
        ]
      ];
    }

-- ---- tuples that stand nowhere

pub often-nowhere : (cells : Tuple) (tuples : List Tuple) → ((k : ℕ) → slice_get tuples k ≡ Some cells → ⊥) → often cells tuples ≡ 0
often-nowhere cells [] none = refl
often-nowhere cells (t ∷ tuples) none = elim (cases_Bool (same_cells t cells)) [
  | inl is ↦ absurd (none 0 (ap (λ (u : Tuple). Some u) ((same_cells-decides t cells).0 is)))
  | inr other ↦ ap (λ b. cond b 1 0 + often cells tuples) other ∙ zero-add (often cells tuples) ∙ often-nowhere cells tuples (λ k found. none (suc k) found)
]

pub past-end : (tuples : List Tuple) (k : ℕ) (cells : Tuple) → slice_get tuples k ≡ Some cells → k < length tuples
past-end [] k cells found = absurd (cc found)
past-end (t ∷ tuples) zero cells found = omega arith
past-end (t ∷ tuples) (suc k) cells found = let rest = past-end tuples k cells found in omega (arith, rest)

pub walk-ends : (n : ℕ) (hashes : List ℕ) (tuples : List Tuple) (cells : Tuple) (place : ℕ) → hashes ≡ hashes_of tuples → place ≡ 0 → Walked n hashes tuples cells place → often cells tuples ≡ 0
walk-ends n hashes tuples cells place e done w =
    let size = sizes hashes tuples e in
    often-nowhere cells tuples (λ k found.
    let within = past-end tuples k cells found in
    w.none k (omega (arith, done)) (omega (arith, size, within)) found)

-- ---- the tuple at a place

pub some-same : (t u : Tuple) → Some t ≡ Some u → t ≡ u
some-same t u e = cc e

-- as many tuples as links with their hashes
pub as-many : {L : Type 0} (hash : L → ℕ) (links : List L) (tuples : List Tuple) → map hash links ≡ hashes_of tuples → length links ≡ length tuples
as-many hash links tuples e = sym (length-map links hash) ∙ sizes (map hash links) tuples e

-- the tuple at a place is these cells, or isn't
pub is-there : (tuples : List Tuple) (at : ℕ) (t cells : Tuple) (b : Bool) → slice_get tuples at ≡ Some t → b ≡ same_cells t cells → (b ≡ true → slice_get tuples at ≡ Some cells) × (slice_get tuples at ≡ Some cells → b ≡ true)
is-there tuples at t cells b here eb = (
  λ yes. here ∙ ap (λ (u : Tuple). Some u) ((same_cells-decides t cells).0 (sym eb ∙ yes)),
  λ found. eb ∙ (same_cells-decides t cells).1 (some-same t cells (sym here ∙ found)),
)

-- a place whose hash is another isn't that of the cells
pub not-there : {L : Type 0} (hash : L → ℕ) (links : List L) (tuples : List Tuple) (at : ℕ) (d : L) (h : ℕ) (cells : Tuple) → at < length links → map hash links ≡ hashes_of tuples → h ≡ hash_of cells → (hash (get_or links at d) ≡ h → ⊥)
    → (nat_eq (hash (get_or links at d)) h ≡ true → slice_get tuples at ≡ Some cells) × (slice_get tuples at ≡ Some cells → nat_eq (hash (get_or links at d)) h ≡ true)
not-there hash links tuples at d h cells within e eh differ =
    let size = length-map links hash in (
      λ yes. absurd (differ (eqb-true (hash (get_or links at d)) h yes)),
      λ found.
          absurd (differ (sym (get_or-map hash links at d 0 within) ∙ hash-at (map hash links) tuples at cells e (omega (arith, size, within)) found ∙ sym eh)),
    )

-- ---- the tuple of an item at a place

pub long : {L G : Type 0} (hash : L → ℕ) (tuple : G → Tuple) (links : List L) (items : List G) → map hash links ≡ hashes_of (map tuple items) → length links ≡ length items
long hash tuple links items e = as-many hash links (map tuple items) e ∙ length-map items tuple

pub stands : {G : Type 0} (tuple : G → Tuple) (items : List G) (at : ℕ) (x : G) (t cells : Tuple) (b : Bool) → at < length items → x ≡ get_or items at x → t ≡ tuple x → b ≡ same_cells t cells
    → (b ≡ true → slice_get (map tuple items) at ≡ Some cells) × (slice_get (map tuple items) at ≡ Some cells → b ≡ true)
stands tuple items at x t cells b within is et eb =
    is-there (map tuple items) at t cells b
    (slice_get-map tuple items at ∙ ap (option_map tuple) (slice_get-get_or items at x within) ∙ ap (λ y. Some (tuple y)) (sym is) ∙ ap (λ (u : Tuple). Some u) (sym et)) eb

pub other-hash : {L G : Type 0} (hash : L → ℕ) (tuple : G → Tuple) (links : List L) (items : List G) (at : ℕ) (d : L) (h : ℕ) (cells : Tuple) → at < length links → map hash links ≡ hashes_of (map tuple items) → h ≡ hash_of cells
    → (hash (get_or links at d) ≡ h → ⊥)
    → (nat_eq (hash (get_or links at d)) h ≡ true → slice_get (map tuple items) at ≡ Some cells) × (slice_get (map tuple items) at ≡ Some cells → nat_eq (hash (get_or links at d)) h ≡ true)
other-hash hash tuple links items at d h cells within e eh differ = not-there hash links (map tuple items) at d h cells within e eh differ
