-- Numbers of two digits that are equal have equal digits.
use Rattle.std.proofs.Common.{◌≡◌, ℕ, ◌+◌, ◌*◌, ◌/◌, ◌%◌, ◌<◌, sym, ap, ◌∙◌}
use Rattle.std.proofs.Math.Arith.{digits_div, digits_mod}

pub same_digits : (c q r p s : ℕ) → r < c → s < c → q * c + r ≡ p * c + s → (q ≡ p) × (r ≡ s)
same_digits c q r p s h k e = (
  sym (digits_div q h) ∙ ap (λ n. n / c) e ∙ digits_div p k,
  sym (digits_mod q h) ∙ ap (λ n. n % c) e ∙ digits_mod p k,
)
