-- Prices of equal kopecks are equal: the limit of a price has one proof.
use Rattle.std.proofs.Common.{◌≡◌, ◌≤◌, nat_abs, is_some, Some, None, Option, refl, ap}
use mathlib.Core.HLevel.{is_prop→PathP}
use native.Mathlib.Bridge.{le_prop}
use Rattle.std.specs.Option.{option_map}
use Rattle.std.proofs.lemmas.Bool.{true≢false, false≢true}
use Rattle.std.proofs.lemmas.Option.{same_Some}
use Rattle.measures.specs.declared.price.Price.{Price}

same_price : (x y : Price) → x.kop ≡ y.kop → x ≡ y
same_price x y e = λ j. record { kop = e j; limited = is_prop→PathP (λ k. nat_abs (e k) ≤ 10000000) (λ k. le_prop) x.limited y.limited j }

pub same_priced : (a b : Option Price) → option_map (λ (price : Price). price.kop) a ≡ option_map (λ (price : Price). price.kop) b → a ≡ b
same_priced (Some x) (Some y) e = ap Some (same_price x y (same_Some x.kop y.kop e))
same_priced (Some x) None e = absurd (true≢false (ap is_some e))
same_priced None (Some y) e = absurd (false≢true (ap is_some e))
same_priced None None e = refl
