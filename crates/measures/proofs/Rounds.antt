-- The rounded quotient is the nearest, and no larger in size than a limit on the quotient.
use Rattle.std.proofs.Common.{◌≡◌, ℕ, zero, suc, ◌+◌, ◌*◌, ◌/◌, ◌%◌, ◌<◌, ◌≤◌, ℤ, pos, negsuc, ◌*ℤ◌, neg_ℤ, nat_abs, sym, refl, ap, ◌∙◌, mod-lt, mul_assoc, mul_comm, div-lt_iff_lt-mul, zero-mul, arith}
use native.Mathlib.Nat.{div-add-mod}
use borrow.Author.Differences.{ints}
use Rattle.measures.proofs.Products.{neg_size}
use Rattle.measures.specs.Rounding.{nearest, rounded, QuotientsAreRounded}

nearest_near : (a n : ℕ) → 0 < n → (2 * (nearest a n * n) ≤ 2 * a + n) × (2 * a < 2 * (nearest a n * n) + n)
nearest_near a n h =
    let parts = div-add-mod (2 * a + n) (2 * n) in
    let small : (2 * a + n) % (2 * n) < 2 * n = mod-lt (2 * a + n) (omega arith) in
    let turned : 2 * n * nearest a n ≡ 2 * (nearest a n * n) = mul_assoc 2 n (nearest a n) ∙ ap (λ m. 2 * m) (mul_comm n (nearest a n)) in
    (omega arith, omega arith)

neg_product : (k n : ℕ) → neg_ℤ (pos k) *ℤ pos n ≡ neg_ℤ (pos (k * n))
neg_product zero n = ap pos (zero-mul n) ∙ sym (ap (λ m. neg_ℤ (pos m)) (zero-mul n))
neg_product (suc k) n = refl

pub rounding : QuotientsAreRounded
rounding (pos a) n h =
    let b = nearest_near a n h in
    record { near = omega (arith, ints); away = λ e. omega (arith, ints) }
rounding (negsuc a) n h =
    let b = nearest_near (suc a) n h in
    let p = neg_product (nearest (suc a) n) n in
    record { near = omega (arith, ints); away = λ e. omega (arith, ints) }

-- a quotient of at most b is rounded to at most b
pub nearest_within : (a n b : ℕ) → 0 < n → a ≤ b * n → nearest a n ≤ b
nearest_within a n b h le =
    let turned : suc b * (2 * n) ≡ 2 * (b * n) + 2 * n = omega (arith, mul_assoc 2 b n, mul_comm 2 b) in
    let under : (2 * a + n) / (2 * n) < suc b = (div-lt_iff_lt-mul {k = 2 * n} {x = 2 * a + n} {y = suc b} (omega arith)).1 (omega arith) in
    omega arith

pub rounded_within : (z : ℤ) (n b : ℕ) → 0 < n → nat_abs z ≤ b * n → nat_abs (rounded z n) ≤ b
rounded_within (pos a) n b h le = nearest_within a n b h le
rounded_within (negsuc a) n b h le = omega (arith, neg_size (nearest (suc a) n), nearest_within (suc a) n b h le)
