-- How long texts that are put one behind the other can be, and numbers with a sign.
use Rattle.std.proofs.Common.{ℕ, ◌+◌, ◌*◌, ◌^◌, ◌<◌, ◌≤◌, List, length, ℤ, pos, negsuc, nat_abs, arith}
use lib.Signed.{mag}
use Rattle.std.specs.Fmt.{signed_decimal}
use Rattle.std.specs.List.{flat_map, AllByRecursion}
use Rattle.std.proofs.ByRecursion.{All-get_or}
use Rattle.std.proofs.Math.Nat.{mul_comm}
use Rattle.std.proofs.lemmas.List.Concat.{length-flat_map}
use Rattle.std.proofs.lemmas.List.Sums.{sum_by-le}
use Rattle.std.proofs.lemmas.Fmt.{length_signed_le}

pub joined_length : {X : Type 0} (f : X → List ℕ) (most : ℕ) (xs : List X) → AllByRecursion (λ x. length (f x) ≤ most) xs → length (flat_map f xs) ≤ most * length xs
joined_length f most xs h = rw (length-flat_map f xs, mul_comm most (length xs)) (sum_by-le (λ x. length (f x)) most xs (λ k d l. All-get_or _ xs k d l h))

mag_size : (z : ℤ) → mag z ≤ nat_abs z
mag_size (pos n) = omega arith
mag_size (negsuc n) = omega arith

-- a number of at most k digits has at most one byte more with its sign
pub signed_length : (k most : ℕ) (z : ℤ) → nat_abs z ≤ most → most + 1 < 10 ^ k → most < 2 ^ 63 → length (signed_decimal z) ≤ k + 1
signed_length k most z small digits fits = length_signed_le k z (omega (arith, mag_size z)) (omega (arith, mag_size z))
