-- The prices of settlement are within the limit of a price.
use Rattle.std.proofs.Common.{ℕ, zero, suc, ◌+◌, ◌-◌, ◌*◌, ◌≤◌, List, [], ◌∷◌, length, ℤ, pos, ◌+ℤ◌, nat_abs, Some, None, Option, unwrap_or, le_refl, zero-lt-suc, mul-suc, arith}
use borrow.Author.Differences.{ints}
use Rattle.std.specs.Option.{option_map}
use Rattle.std.specs.List.{AllByRecursion}
use Rattle.std.proofs.ByRecursion.{All-take}
use Rattle.measures.specs.Rounding.{quotient}
use Rattle.measures.specs.declared.price.Price.{Price}
use Rattle.measures.proofs.Products.{product_within}
use Rattle.measures.proofs.Rounds.{rounded_within}
use Rattle.price_history.specs.Means.{shown_daily, behind, shown_back, days_before, shown_before, latest_before, sum, mean_before}
use Rattle.price_history.specs.Views.{View}
use Rattle.price_history.specs.declared.series.Series.{Series}
use Rattle.sheet.specs.declared.lines.Direction.{Direction}
use Rattle.sheet.specs.declared.lines.Direction.TheVariants.{Up, Down}
use Rattle.offers.specs.Forming.{formed}
use Rattle.offers.specs.Volumes.{in_quarter, offered}
use Rattle.offers.specs.declared.span.Span.{Span}
use Rattle.offers.specs.declared.span.Span.TheVariants.{Quarter, Period}
use Rattle.offers.specs.declared.span.State.{State}
use Rattle.offers.specs.declared.span.State.TheVariants.{Deficit, Surplus, Balanced}
use Rattle.pricing.specs.Cases.{Case}
use Rattle.pricing.specs.Keys.{series_of, slot_of, history_day}
use Rattle.pricing.specs.Prices.{state_in, substitute, formed_or_substitute, unless_balanced, marginal_price, up_to, worth, mean_price, settled_in, settled}
use Rattle.priced_text.proofs.Pages.{Limited}

abbrev Small : ℤ → Type 0
Small z = nat_abs z ≤ 10000000

quotient_small : (total : ℤ) (count : ℕ) (z : ℤ) → nat_abs total ≤ 10000000 * count → Small z → Small (unwrap_or (quotient total count) z)
quotient_small total zero z le small = small
quotient_small total (suc n) z le small = rounded_within total (suc n) 10000000 (zero-lt-suc n) le

price_small : (o : Option Price) (z : ℤ) → Small z → Small (unwrap_or (option_map (λ price. price.kop) o) z)
price_small (Some price) z small = price.limited
price_small None z small = small

behind_small : (o : Option Price) (prices : List ℤ) → AllByRecursion Small prices → AllByRecursion Small (behind o prices)
behind_small (Some price) prices h = (price.limited, h)
behind_small None prices h = h

back_small : (daily : ℕ → Option Price) (n day : ℕ) → AllByRecursion Small (shown_back daily n day)
back_small daily zero day = tt
back_small daily (suc n) day = behind_small (daily (day - 1)) (shown_back daily n (day - 1)) (back_small daily n (day - 1))

sum_small : (prices : List ℤ) → AllByRecursion Small prices → nat_abs (sum prices) ≤ 10000000 * length prices
sum_small [] h = omega arith
sum_small (price ∷ prices) h =
    let first = h.0 in
    let rest = sum_small prices h.1 in
    omega (arith, ints, mul-suc 10000000 (length prices))

mean_small : (view : View) (series : Series) (zone day slot : ℕ) (z : ℤ) → Small z → Small (unwrap_or (mean_before view series zone day slot) z)
unfolding mean_before
mean_small view series zone day slot z small =
    let latest = latest_before view series zone day slot in
    quotient_small (sum latest) (length latest) z (sum_small latest (All-take Small 30 (shown_before view series zone day slot) (back_small (shown_daily view series zone slot) (days_before day) day))) small

unless_small : (st : State) (x y : ℤ) → Small x → Small y → Small (unless_balanced st x y)
unless_small Deficit x y h k = h
unless_small Surplus x y h k = h
unless_small Balanced x y h k = k

four_small : (a b c d : ℤ) (k l m n : ℕ) → nat_abs a ≤ 10000000 * k → nat_abs b ≤ 10000000 * l → nat_abs c ≤ 10000000 * m → nat_abs d ≤ 10000000 * n
    → nat_abs (pos 0 +ℤ a +ℤ b +ℤ c +ℤ d) ≤ 10000000 * (k + l + m + n)
four_small a b c d k l m n ha hb hc hd = omega (arith, ints)

module _ (c : Case) where
  ahead_small : Small c.sheet.day_ahead.kop
  ahead_small = c.sheet.day_ahead.limited

  formed_small : (span : Span) (d : Direction) → Small (formed_or_substitute span d c)
  formed_small span d =
      price_small (formed span d c.sheet.forced.kwh c.sheet.offers) (substitute span d c)
      (mean_small c.view (series_of span d) c.zone (history_day c.day) (slot_of span c.period) c.sheet.day_ahead.kop ahead_small)

  marginal_small : (d : Direction) (q : ℕ) → Small (marginal_price d c q)
  marginal_small d q = unless_small (state_in (Quarter q) c) _ _ (formed_small (Quarter q) d) ahead_small

  worth_small : (d : Direction) (q : ℕ) → nat_abs (worth d c q) ≤ 10000000 * in_quarter q d c.sheet.offers
  worth_small d q = let volume = in_quarter q d c.sheet.offers in product_within 10000000 volume (marginal_price d c q) volume (marginal_small d q) (le_refl volume)

  worths_small : (d : Direction) → nat_abs (up_to 4 (worth d c)) ≤ 10000000 * offered Period d c.sheet.offers
  worths_small d = four_small (worth d c 1) (worth d c 2) (worth d c 3) (worth d c 4) _ _ _ _ (worth_small d 1) (worth_small d 2) (worth_small d 3) (worth_small d 4)

  average_small : (d : Direction) → Small (mean_price d c)
  average_small d = quotient_small (pos (nat_abs (up_to 4 (worth d c)))) (offered Period d c.sheet.offers) c.sheet.day_ahead.kop (worths_small d) ahead_small

  in_state : (st : State) → Limited (settled_in st c)
  in_state Deficit = record { imsp = average_small Up; up = average_small Up; down = formed_small Period Down }
  in_state Surplus = record { imsp = average_small Down; up = formed_small Period Up; down = average_small Down }
  in_state Balanced = record { imsp = ahead_small; up = ahead_small; down = ahead_small }

  pub settled_limited : Limited (settled c)
  settled_limited = in_state (state_in Period c)
