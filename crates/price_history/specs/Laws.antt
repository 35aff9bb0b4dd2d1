-- Laws of keys and of means.
use Rattle.std.specs.Prelude.{◌≡◌, ℕ, ◌+◌, ◌<◌, ◌≤◌, length}
use Rattle.price_history.specs.declared.key.PriceKey.{PriceKey}
use Rattle.price_history.specs.declared.series.Series.{Series}
use Rattle.price_history.specs.Keys.{rank_of}
use Rattle.price_history.specs.Views.{View}
use Rattle.price_history.specs.Means.{shown_daily, shown_back, days_before, mean_before}

-- each key has a rank of its own below n
pub record RanksAreApart (n : ℕ) : Type 0 where
  pub below : (key : PriceKey) → rank_of key < n
  pub apart : (key other : PriceKey) → rank_of key ≡ rank_of other → key ≡ other

-- two views show the same for a series, zone and slot on the n days before a day
abbrev pub Alike : View → View → Series → ℕ → ℕ → ℕ → ℕ → Type 0
Alike view other series zone day slot n = (d : ℕ) → 1 ≤ d → d < day → day ≤ d + n → shown_daily view series zone slot d ≡ shown_daily other series zone slot d

-- the means are the same where what is shown is the same on that many days before,
-- or on fewer, if that many prices are shown there
pub record OlderPricesDoNotCount (days prices : ℕ) : Type 0 where
  pub by_days : (view other : View) (series : Series) (zone day slot : ℕ) → Alike view other series zone day slot days → mean_before view series zone day slot ≡ mean_before other series zone day slot
  pub by_prices : (view other : View) (series : Series) (zone day slot n : ℕ) → n ≤ days_before day → prices ≤ length (shown_back (shown_daily view series zone slot) n day) → Alike view other series zone day slot n → mean_before view series zone day slot ≡ mean_before other series zone day slot
