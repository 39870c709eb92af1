-- What is drawn depends on the seed's rest alone.
use Rattle.std.proofs.Common.{ℕ, zero, suc, ◌≡◌, ◌+◌, ◌*◌, ◌/◌, ◌%◌, sym, ◌∙◌, ap, arith}
use Rattle.std.proofs.Math.Nat.{add-mul-mod_self_left, mod-add-div}
use Rattle.rule_engine.specs.Control.{draw, x_at}

step-reduced : (s r q : ℕ) → r + 2147483648 * q ≡ s → (r * 1103515245 + 12345) % 2147483648 ≡ (s * 1103515245 + 12345) % 2147483648
step-reduced s r q h =
    let e : s * 1103515245 + 12345 ≡ (r * 1103515245 + 12345) + 2147483648 * (q * 1103515245) = omega (arith, h) in
    sym (ap (λ z. z % 2147483648) e ∙ add-mul-mod_self_left (r * 1103515245 + 12345) 2147483648 (q * 1103515245))

x-reduced : (s n : ℕ) → x_at (s % 2147483648) (suc n) ≡ x_at s (suc n)
x-reduced s zero = step-reduced s (s % 2147483648) (s / 2147483648) (mod-add-div s 2147483648)
x-reduced s (suc n) = ap (λ x. (x * 1103515245 + 12345) % 2147483648) (x-reduced s n)

pub draw_reduced : (s n : ℕ) → draw (s % 2147483648) n ≡ draw s n
draw_reduced s n = ap (λ x. x / 65536) (x-reduced s n)
