-- The prices of a period, in kopecks per MWh.
use Rattle.std.specs.Prelude.{ℕ, zero, suc, ℤ, pos, ◌+ℤ◌, ◌*ℤ◌, unsigned_abs}
use Rattle.std.specs.Option.{unwrap_or, option_map}
use Rattle.measures.specs.Rounding.{quotient}
use Rattle.price_history.specs.Means.{mean_before}
use Rattle.sheet.specs.declared.lines.Direction.{Direction}
use Rattle.sheet.specs.declared.lines.Direction.TheVariants.{Up, Down}
use Rattle.offers.specs.declared.span.Span.{Span}
use Rattle.offers.specs.declared.span.Span.TheVariants.{Quarter, Period}
use Rattle.offers.specs.declared.span.State.{State}
use Rattle.offers.specs.declared.span.State.TheVariants.{Deficit, Surplus, Balanced}
use Rattle.offers.specs.Volumes.{offered}
use Rattle.offers.specs.States.{state_of}
use Rattle.offers.specs.Forming.{formed}
use Rattle.pricing.specs.Cases.{Case}
use Rattle.pricing.specs.Keys.{series_of, slot_of, history_day}

-- the day-ahead price
abbrev pub day_ahead : Case → ℤ
day_ahead c = c.sheet.day_ahead.kop

abbrev pub state_in : Span → Case → State
state_in span c = state_of span c.sheet.forced.kwh c.sheet.offers

-- the mean of the latest prices that were formed, or the day-ahead price where there are none
abbrev pub substitute : Span → Direction → Case → ℤ
substitute span d c = unwrap_or (mean_before c.view (series_of span d) c.zone (history_day c.day) (slot_of span c.period)) (day_ahead c)

-- the price that forms, or else its substitute
abbrev pub formed_or_substitute : Span → Direction → Case → ℤ
formed_or_substitute span d c = unwrap_or (option_map (λ price. price.kop) (formed span d c.sheet.forced.kwh c.sheet.offers)) (substitute span d c)

abbrev pub unless_balanced : State → ℤ → ℤ → ℤ
unless_balanced Deficit price p = price
unless_balanced Surplus price p = price
unless_balanced Balanced price p = p

-- MPup and MPdn of a quarter; in balance both are the day-ahead price
abbrev pub marginal_price : Direction → Case → ℕ → ℤ
marginal_price d c q = unless_balanced (state_in (Quarter q) c) (formed_or_substitute (Quarter q) d c) (day_ahead c)

-- Lup and Ldn
abbrev pub limit_price : Direction → Case → ℤ
limit_price d c = formed_or_substitute Period d c

-- the sum of f 1, .., f n
abbrev pub up_to : ℕ → (ℕ → ℤ) → ℤ
up_to zero f = pos 0
up_to (suc n) f = up_to n f +ℤ f (suc n)

-- what the offers of a quarter come to at its marginal price
abbrev pub worth : Direction → Case → ℕ → ℤ
worth d c q = marginal_price d c q *ℤ pos (offered (Quarter q) d c.sheet.offers)

-- MSPup and MSPdn: the size of the sum over the quarters, by their volume; the day-ahead price where there is none
abbrev pub mean_price : Direction → Case → ℤ
mean_price d c = unwrap_or (quotient (pos (unsigned_abs (up_to 4 (worth d c)))) (offered Period d c.sheet.offers)) (day_ahead c)

-- the prices that a period is settled at
pub record Settled : Type 0 where
  pub imsp : ℤ
  pub up : ℤ
  pub down : ℤ

abbrev pub settled_in : State → Case → Settled
settled_in Deficit c = record { imsp = mean_price Up c; up = mean_price Up c; down = limit_price Down c }
settled_in Surplus c = record { imsp = mean_price Down c; up = limit_price Up c; down = mean_price Down c }
settled_in Balanced c = record { imsp = day_ahead c; up = day_ahead c; down = day_ahead c }

abbrev pub settled : Case → Settled
settled c = settled_in (state_in Period c) c
