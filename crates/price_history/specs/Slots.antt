-- How many prices a day has in each series, and the rank of the first key of each.
use Rattle.std.specs.Prelude.{ℕ}
use Rattle.price_history.specs.declared.series.Series.{Series}
use Rattle.price_history.specs.declared.series.Series.TheVariants.{MarginalUp, MarginalDown, LimitUp, LimitDown}

abbrev pub slots_of : Series → ℕ
slots_of MarginalUp = 96
slots_of MarginalDown = 96
slots_of LimitUp = 24
slots_of LimitDown = 24

-- 2 zones of 121 days each
abbrev pub first_of : Series → ℕ
first_of MarginalUp = 0
first_of MarginalDown = 23232
first_of LimitUp = 46464
first_of LimitDown = 52272
