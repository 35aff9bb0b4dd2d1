-- Where the prices of a period stand in a history.
use Rattle.std.specs.Prelude.{ℕ, ◌+◌, ◌-◌, ◌*◌, ◌≤◌}
use Rattle.price_history.specs.declared.series.Series.{Series}
use Rattle.price_history.specs.declared.series.Series.TheVariants.{MarginalUp, MarginalDown, LimitUp, LimitDown}
use Rattle.sheet.specs.declared.lines.Direction.{Direction}
use Rattle.sheet.specs.declared.lines.Direction.TheVariants.{Up, Down}
use Rattle.offers.specs.declared.span.Span.{Span}
use Rattle.offers.specs.declared.span.Span.TheVariants.{Quarter, Period}

-- the prices of quarters are marginal prices, those of whole periods limit prices
abbrev pub series_of : Span → Direction → Series
series_of (Quarter q) Up = MarginalUp
series_of (Quarter q) Down = MarginalDown
series_of Period Up = LimitUp
series_of Period Down = LimitDown

abbrev pub slot_of : Span → ℕ → ℕ
slot_of (Quarter q) t = 4 * (t - 1) + q
slot_of Period t = t

-- the history goes back ninety days before the month
abbrev pub history_day : ℕ → ℕ
history_day m = 90 + m

-- a quarter that there is
abbrev pub Within : Span → Type 0
Within (Quarter q) = (1 ≤ q) × (q ≤ 4)
Within Period = Unit {0}
