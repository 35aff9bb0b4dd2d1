-- The mean of the latest prices, which stands in for a price that was not formed.
use Rattle.std.specs.Prelude.{ℕ, zero, suc, ◌-◌, min, List, [], ◌∷◌, length, take, ℤ, pos, ◌+ℤ◌, Some, None, Option}
use Rattle.measures.specs.declared.price.Price.{Price}
use Rattle.measures.specs.Rounding.{quotient}
use Rattle.price_history.specs.declared.series.Series.{Series}
use Rattle.price_history.specs.Keys.{rank_on}
use Rattle.price_history.specs.Views.{View}

-- what a view shows for a series, zone and slot, day by day
abbrev pub shown_daily : View → Series → ℕ → ℕ → ℕ → Option Price
shown_daily view series zone slot day = view.shown (rank_on series zone day slot)

-- prices behind the one shown, if any
abbrev pub behind : Option Price → List ℤ → List ℤ
behind (Some price) prices = price.kop ∷ prices
behind None prices = prices

-- the prices shown on the n days before a day, the nearest first
abbrev pub shown_back : (ℕ → Option Price) → ℕ → ℕ → List ℤ
shown_back daily zero day = []
shown_back daily (suc n) day = behind (daily (day - 1)) (shown_back daily n (day - 1))

-- how many of the ninety days before a day there are: the first day is 1
abbrev pub days_before : ℕ → ℕ
days_before day = min 90 (day - 1)

-- the prices shown for a series, zone and slot on the ninety days before a day, the nearest first
abbrev pub shown_before : View → Series → ℕ → ℕ → ℕ → List ℤ
shown_before view series zone day slot = shown_back (shown_daily view series zone slot) (days_before day) day

-- the thirty nearest of them
abbrev pub latest_before : View → Series → ℕ → ℕ → ℕ → List ℤ
latest_before view series zone day slot = take 30 (shown_before view series zone day slot)

abbrev pub sum : List ℤ → ℤ
sum [] = pos 0
sum (price ∷ prices) = price +ℤ sum prices

-- none where there is no price
abbrev pub mean : List ℤ → Option ℤ
mean prices = quotient (sum prices) (length prices)

unfoldable pub mean_before : View → Series → ℕ → ℕ → ℕ → Option ℤ
mean_before view series zone day slot = mean (latest_before view series zone day slot)
