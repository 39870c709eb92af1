-- Booleans, where the library has no lemma.
use Rattle.std.proofs.Common.{◌≡◌, ◌&&◌, ◌||◌, Bool, true, false, refl, sym, ◌∙◌}

pub clash : (b : Bool) → b ≡ true → b ≡ false → ⊥
clash b t f = let z : true ≡ false = sym t ∙ f in let w : ⊥ = cc in w

pub or-false : (a : Bool) → (a || false) ≡ a
or-false true = refl
or-false false = refl

-- the second isn't
pub or-none : (a b : Bool) → b ≡ false → (a || b) ≡ a
or-none true b h = refl
or-none false b h = h

pub or-true : (a : Bool) → (a || true) ≡ true
or-true true = refl
or-true false = refl

pub and-true : (a : Bool) → (a && true) ≡ a
and-true true = refl
and-true false = refl

pub and-false : (a : Bool) → (a && false) ≡ false
and-false true = refl
and-false false = refl

pub or-assoc : (a b c : Bool) → ((a || b) || c) ≡ (a || (b || c))
or-assoc true b c = refl
or-assoc false b c = refl

pub and-assoc : (a b c : Bool) → ((a && b) && c) ≡ (a && (b && c))
and-assoc true b c = refl
and-assoc false b c = refl

-- neither is: the first isn't, the second isn't
pub neither-left : (a b : Bool) → (a || b) ≡ false → a ≡ false
neither-left true b h = h
neither-left false b h = refl

pub neither-right : (a b : Bool) → (a || b) ≡ false → b ≡ false
neither-right true b h = absurd (let z : ⊥ = cc in z)
neither-right false b h = h

-- not both are, and the first is
pub and-passed : (a b : Bool) → (a && b) ≡ false → a ≡ true → b ≡ false
and-passed true b h t = h
and-passed false b h t = absurd (let z : ⊥ = cc in z)

pub and-second : (a b : Bool) → (a && b) ≡ true → b ≡ true
and-second true b h = h
and-second false b h = absurd (let z : ⊥ = cc in z)

-- each is where the other is
pub same-truth : (a b : Bool) → (a ≡ true → b ≡ true) → (b ≡ true → a ≡ true) → a ≡ b
same-truth true b h k = sym (h refl)
same-truth false true h k = k refl
same-truth false false h k = refl
