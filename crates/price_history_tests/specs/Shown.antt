-- What a history of a single series, zone and slot shows.
use Rattle.std.specs.Prelude.{ℕ, ◌/◌, ◌%◌, ◌≤◌, cond, ◌&&◌, None, Option, ◌==◌, nat_lt, slice_index_or}
use Rattle.measures.specs.declared.price.Price.{Price}
use Rattle.price_history.specs.Keys.{span}
use Rattle.price_history.specs.Views.{View, tallied}
use Rattle.price_history.proofs.Tallies.{tallied_le}
use Rattle.price_history_tests.specs.declared.daily.Daily.{Daily}

-- ranks of slot 1 are 96 apart, and the 121 days of zone 1 come first
abbrev pub shown_at : Daily → ℕ → Option Price
shown_at daily rank = cond (nat_lt rank 11616 && rank % 96 == 0) (slice_index_or daily.prices (rank / 96) None) None

abbrev pub daily_view : Daily → View
daily_view daily = record { shown = shown_at daily; limit = span }

pub daily_within : (daily : Daily) → tallied (daily_view daily).shown span ≤ (daily_view daily).limit
daily_within daily = tallied_le (shown_at daily) span
