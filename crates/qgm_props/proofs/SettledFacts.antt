-- What is known of a box improves exactly where something is inferred that isn't known.
use Rattle.std.proofs.Common.{ℕ, zero, suc, ◌≡◌, ◌≤◌, ◌<◌, ◌+◌, ◌&&◌, ◌||◌, not, Bool, true, false, List, [], ◌∷◌, length, drop, get_or, Some, slice_get, refl, ap, ap₂, ◌∙◌, arith}
use Rattle.std.specs.Prelude.{◌↔◌}
use Rattle.std.proofs.lemmas.Bool.{and_from, and_parts}
use Rattle.qgm_core.specs.Boxes.{width}
use Rattle.qgm_core.specs.declared.node.Node.{Node}
use Rattle.qgm_props.specs.Inferred.{Facts, at_most_one_by, clean_by, exactly_one_by, free_by, not_null_by}
use Rattle.qgm_props.specs.SettledFacts.{is_settled, settled_flags}
use Rattle.qgm_props.specs.Table.{either_flags, flags, improved}
use Rattle.qgm_props.specs.declared.facts.BoxFacts.{BoxFacts}
use Rattle.qgm_props.proofs.Improving.{flags-get, flags-long}

kept-from : (a b : Bool) → (a || not b) ≡ true → (a || b) ≡ a
kept-from true b h = refl
kept-from false true h = absurd (let z : ⊥ = cc in z)
kept-from false false h = refl

kept-to : (a b : Bool) → (a || b) ≡ a → (a || not b) ≡ true
kept-to true b h = refl
kept-to false true h = absurd (let z : ⊥ = cc in z)
kept-to false false h = refl

flags-from : (xs ys : List Bool) → settled_flags xs ys ≡ true → either_flags xs ys ≡ xs
flags-from [] ys h = refl
flags-from (x ∷ xs) [] h = absurd (let z : ⊥ = cc in z)
flags-from (x ∷ xs) (y ∷ ys) h = let p = and_parts (x || not y) (settled_flags xs ys) h in ap₂ (λ (z : Bool) (zs : List Bool). z ∷ zs) (kept-from x y p.0) (flags-from xs ys p.1)

flags-to : (xs ys : List Bool) → either_flags xs ys ≡ xs → settled_flags xs ys ≡ true
flags-to [] ys h = refl
flags-to (x ∷ xs) [] h = absurd (let z : ⊥ = cc in z)
flags-to (x ∷ xs) (y ∷ ys) h =
    let e : (x || y) ≡ x = cc in
    let r : either_flags xs ys ≡ xs = cc in
    and_from (x || not y) (settled_flags xs ys) (kept-to x y e) (flags-to xs ys r)

abbrev made : BoxFacts → Bool → Bool → Bool → List Bool → List Bool → BoxFacts
made f c a e u v = record { id = f.id; clean = c; at_most_one = a; exactly_one = e; error_free = u; not_null = v }

module _ (boxes : List Node) (known : Facts) (n : Node) (f : BoxFacts) where
  abbrev c : Bool
  c = clean_by boxes known n.parts.kind n

  abbrev a : Bool
  a = known.exactly_one n.id || at_most_one_by boxes known n.parts.kind n

  abbrev e : Bool
  e = exactly_one_by boxes known n.parts.kind n

  abbrev u : List Bool
  u = flags (width n) (free_by boxes known n.parts.kind n)

  abbrev v : List Bool
  v = flags (width n) (not_null_by boxes known n.parts.kind n)

  settled-from : is_settled boxes known n f ≡ true → improved boxes known n f ≡ f
  settled-from h =
      let p4 = and_parts ((((f.clean || not c) && (f.at_most_one || not a)) && (f.exactly_one || not e)) && settled_flags f.error_free u) (settled_flags f.not_null v) h in
      let p3 = and_parts (((f.clean || not c) && (f.at_most_one || not a)) && (f.exactly_one || not e)) (settled_flags f.error_free u) p4.0 in
      let p2 = and_parts ((f.clean || not c) && (f.at_most_one || not a)) (f.exactly_one || not e) p3.0 in
      let p1 = and_parts (f.clean || not c) (f.at_most_one || not a) p2.0 in
      ap (λ z. made f z (f.at_most_one || a) (f.exactly_one || e) (either_flags f.error_free u) (either_flags f.not_null v)) (kept-from f.clean c p1.0)
      ∙ ap (λ z. made f f.clean z (f.exactly_one || e) (either_flags f.error_free u) (either_flags f.not_null v)) (kept-from f.at_most_one a p1.1)
      ∙ ap (λ z. made f f.clean f.at_most_one z (either_flags f.error_free u) (either_flags f.not_null v)) (kept-from f.exactly_one e p2.1)
      ∙ ap (λ z. made f f.clean f.at_most_one f.exactly_one z (either_flags f.not_null v)) (flags-from f.error_free u p3.1)
      ∙ ap (λ z. made f f.clean f.at_most_one f.exactly_one f.error_free z) (flags-from f.not_null v p4.1)

  settled-to : improved boxes known n f ≡ f → is_settled boxes known n f ≡ true
  settled-to h =
      and_from ((((f.clean || not c) && (f.at_most_one || not a)) && (f.exactly_one || not e)) && settled_flags f.error_free u) (settled_flags f.not_null v)
      (and_from (((f.clean || not c) && (f.at_most_one || not a)) && (f.exactly_one || not e)) (settled_flags f.error_free u)
      (and_from ((f.clean || not c) && (f.at_most_one || not a)) (f.exactly_one || not e)
      (and_from (f.clean || not c) (f.at_most_one || not a) (kept-to f.clean c (ap (λ (x : BoxFacts). x.clean) h)) (kept-to f.at_most_one a (ap (λ (x : BoxFacts). x.at_most_one) h)))
      (kept-to f.exactly_one e (ap (λ (x : BoxFacts). x.exactly_one) h)))
      (flags-to f.error_free u (ap (λ (x : BoxFacts). x.error_free) h)))
      (flags-to f.not_null v (ap (λ (x : BoxFacts). x.not_null) h))

  pub settled-is : (is_settled boxes known n f ≡ true) ↔ (improved boxes known n f ≡ f)
  settled-is = (settled-from, settled-to)

-- ---- the loop over flags

settled-next : (xs ys : List Bool) (k : ℕ) (y x : Bool) → k < length xs → slice_get ys k ≡ Some y → settled_flags (drop k xs) (drop k ys) ≡ ((get_or xs k x || not y) && settled_flags (drop (k + 1) xs) (drop (k + 1) ys))
settled-next [] ys k y x l h = absurd (let z : ⊥ = omega (arith, l) in z)
settled-next (a ∷ xs) [] k y x l h = absurd (let z : ⊥ = cc in z)
settled-next (a ∷ xs) (b ∷ ys) zero y x l h = let e : b ≡ y = cc in ap (λ z. (a || not z) && settled_flags xs ys) e
settled-next (a ∷ xs) (b ∷ ys) (suc k) y x l h =
    let m : length (a ∷ xs) ≡ suc (length xs) = refl in
    let p : suc (k + 1) ≡ suc k + 1 = omega arith in
    settled-next xs ys k y x (omega (arith, l, m)) h ∙ ap (λ j. (get_or xs k x || not y) && settled_flags (drop j (a ∷ xs)) (drop j (b ∷ ys))) p

settled-short : (xs ys : List Bool) → length ys < length xs → settled_flags xs ys ≡ false
settled-short [] ys l = absurd (let z : ⊥ = omega (arith, l) in z)
settled-short (x ∷ xs) [] l = refl
settled-short (x ∷ xs) (y ∷ ys) l =
    let m : length (x ∷ xs) ≡ suc (length xs) = refl in
    let n : length (y ∷ ys) ≡ suc (length ys) = refl in
    ap (λ z. (x || not y) && z) (settled-short xs ys (omega (arith, l, m, n))) ∙ and-false (x || not y)
  where
    and-false : (b : Bool) → (b && false) ≡ false
    and-false true = refl
    and-false false = refl

on : (x t r : Bool) → (not x && t) ≡ false → ((x || not t) && r) ≡ r
on true t r h = refl
on false true r h = absurd (let z : ⊥ = cc in z)
on false false r h = refl

off : (x t r : Bool) → (not x && t) ≡ true → ((x || not t) && r) ≡ false
off true t r h = absurd (let z : ⊥ = cc in z)
off false true r h = refl
off false false r h = absurd (let z : ⊥ = cc in z)

-- what is left of the flags of a test
settled-more : (w : ℕ) (t : ℕ → Bool) (xs : List Bool) (k : ℕ) (x : Bool) → length xs ≤ w → k < length xs → settled_flags (drop k xs) (drop k (flags w t)) ≡ ((get_or xs k x || not (t (k + 1))) && settled_flags (drop (k + 1) xs) (drop (k + 1) (flags w t)))
settled-more w t xs k x long l = let e : suc k ≡ k + 1 = omega arith in settled-next xs (flags w t) k (t (k + 1)) x l (flags-get w t k (omega (arith, long, l)) ∙ ap (λ j. Some (t j)) e)

pub settled_on : (w : ℕ) (t : ℕ → Bool) (xs : List Bool) (k : ℕ) (x : Bool) → length xs ≤ w → k < length xs → (not (get_or xs k x) && t (k + 1)) ≡ false → settled_flags (drop k xs) (drop k (flags w t)) ≡ settled_flags (drop (k + 1) xs) (drop (k + 1) (flags w t))
settled_on w t xs k x long l h = settled-more w t xs k x long l ∙ on (get_or xs k x) (t (k + 1)) (settled_flags (drop (k + 1) xs) (drop (k + 1) (flags w t))) h

pub settled_off : (w : ℕ) (t : ℕ → Bool) (xs : List Bool) (k : ℕ) (x : Bool) → length xs ≤ w → k < length xs → (not (get_or xs k x) && t (k + 1)) ≡ true → settled_flags (drop k xs) (drop k (flags w t)) ≡ false
settled_off w t xs k x long l h = settled-more w t xs k x long l ∙ off (get_or xs k x) (t (k + 1)) (settled_flags (drop (k + 1) xs) (drop (k + 1) (flags w t))) h

pub settled_shorter : (w : ℕ) (t : ℕ → Bool) (xs : List Bool) → w < length xs → settled_flags xs (flags w t) ≡ false
settled_shorter w t xs l = settled-short xs (flags w t) (let e = flags-long w t in omega (arith, l, e))
