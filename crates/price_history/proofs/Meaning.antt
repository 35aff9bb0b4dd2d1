-- The rounded mean of prices is within the limit of a price.
use Rattle.std.proofs.Common.{◌≡◌, ℕ, ◌*◌, ◌≤◌, List, length, ℤ, nat_abs, Some, None, Option, ap, ◌∙◌}
use Rattle.std.specs.Option.{option_map}
use Rattle.measures.specs.declared.price.Price.{Price}
use Rattle.measures.specs.Limits.{price_of}
use Rattle.measures.specs.Rounding.{quotient}
use Rattle.measures.proofs.Quotients.{quotient_is_price}
use Rattle.price_history.specs.Means.{sum, mean}

module _ (prices : List ℤ) (total : ℤ) (count : ℕ) (totalled : total ≡ sum prices) (counted : count ≡ length prices) where
  mean_is : quotient total count ≡ mean prices
  mean_is = ap (λ z. quotient z count) totalled ∙ ap (quotient (sum prices)) counted

  pub mean_none : (r : Option Price) (dividend : ℤ) → r ≡ None → dividend ≡ total → None ≡ quotient dividend count → option_map (λ price. price.kop) r ≡ mean prices
  mean_none r dividend is same e = ap (option_map (λ (price : Price). price.kop)) is ∙ e ∙ ap (λ n. quotient n count) same ∙ mean_is

  pub mean_some : (r : Option Price) (dividend z kop : ℤ) → nat_abs total ≤ 10000000 * count → kop ≡ z → r ≡ price_of kop → dividend ≡ total → Some z ≡ quotient dividend count → option_map (λ price. price.kop) r ≡ mean prices
  mean_some r dividend z kop le is made same e =
      let found : Some z ≡ quotient total count = e ∙ ap (λ n. quotient n count) same in
      ap (option_map (λ (price : Price). price.kop)) (made ∙ ap price_of is) ∙ quotient_is_price total count z le found ∙ mean_is
