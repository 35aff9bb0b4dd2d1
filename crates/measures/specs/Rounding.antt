-- Quotients rounded to the nearest whole number, a half away from zero.
use Rattle.std.specs.Prelude.{◌≡◌, ℕ, zero, suc, ◌+◌, ◌*◌, ◌/◌, ◌<◌, ◌≤◌, ℤ, pos, negsuc, ◌-ℤ◌, ◌*ℤ◌, neg_ℤ, Some, None, Option, unsigned_abs}

abbrev pub nearest : ℕ → ℕ → ℕ
nearest a n = (2 * a + n) / (2 * n)

abbrev pub rounded : ℤ → ℕ → ℤ
rounded (pos a) n = pos (nearest a n)
rounded (negsuc a) n = neg_ℤ (pos (nearest (suc a) n))

-- there is no quotient by 0
abbrev pub quotient : ℤ → ℕ → Option ℤ
quotient z zero = None
quotient z (suc n) = Some (rounded z (suc n))

-- r times n is at most half of n away from z, and at exactly half it is the one farther from zero
pub record Rounds (z : ℤ) (n : ℕ) (r : ℤ) : Type 0 where
  pub near : 2 * unsigned_abs (r *ℤ pos n -ℤ z) ≤ n
  pub away : 2 * unsigned_abs (r *ℤ pos n -ℤ z) ≡ n → unsigned_abs z ≤ unsigned_abs (r *ℤ pos n)

abbrev pub QuotientsAreRounded : Type 0
QuotientsAreRounded = (z : ℤ) (n : ℕ) → 0 < n → Rounds z n (rounded z n)
