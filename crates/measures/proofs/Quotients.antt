-- A quotient of limited prices is a price.
use Rattle.std.proofs.Common.{◌≡◌, ℕ, zero, suc, ◌*◌, ◌≤◌, ℤ, nat_abs, Some, sym, ap, ◌∙◌, zero-lt-suc, arith}
use Rattle.std.specs.Option.{option_map}
use Rattle.measures.specs.declared.price.Price.{Price}
use Rattle.measures.specs.Limits.{price_of}
use Rattle.measures.specs.Rounding.{rounded, quotient}
use Rattle.measures.proofs.Kept.{within}
use Rattle.measures.proofs.Rounds.{rounded_within}

quotient_limited : (total : ℤ) (count : ℕ) (z : ℤ) → nat_abs total ≤ 10000000 * count → Some z ≡ quotient total count → nat_abs z ≤ 10000000
quotient_limited total zero z le e = absurd (let no_way : ◌≡◌ {A = ℕ} 0 1 = cc in omega arith)
quotient_limited total (suc n) z le e =
    let is : z ≡ rounded total (suc n) = cc in
    let small = rounded_within total (suc n) 10000000 (zero-lt-suc n) le in
    omega (arith, ap nat_abs is)

price_has : (z : ℤ) → nat_abs z ≤ 10000000 → option_map (λ (price : Price). price.kop) (price_of z) ≡ Some z
price_has z le = ap (option_map (λ (price : Price). price.kop)) (sym (within (nat_abs z) 10000000 (λ kept. record { kop = z; limited = kept }) le))

pub quotient_is_price : (total : ℤ) (count : ℕ) (z : ℤ) → nat_abs total ≤ 10000000 * count → Some z ≡ quotient total count → option_map (λ (price : Price). price.kop) (price_of z) ≡ quotient total count
quotient_is_price total count z le e = price_has z (quotient_limited total count z le e) ∙ e
