-- Two tests of which one decides.
use Rattle.std.proofs.Common.{◌≡◌, ◌||◌, Bool, true, false}
use Rattle.std.proofs.lemmas.Bool.{or_right}
use Rattle.list_laws.proofs.Booleans.{or-none}

pub or_true : (a b : Bool) → b ≡ true → (a || b) ≡ true
or_true a b h = or_right a b h

pub or_none : (a b : Bool) → b ≡ false → (a || b) ≡ a
or_none a b h = or-none a b h
