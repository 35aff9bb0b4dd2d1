-- The places of the shelf by number.
use Rattle.std.specs.Prelude.{ℕ, ◌+◌, ◌-◌, ◌*◌, Bool, ◌&&◌}
use Rattle.measures.specs.Calendar.{between}

abbrev pub places_of : ℕ → ℕ → ℕ
places_of days zones = days * zones * 24

-- day by day, in a day zone by zone, in a zone period by period, from 0
abbrev pub number_of : ℕ → ℕ → ℕ → ℕ → ℕ
number_of zones zone day period = ((day - 1) * zones + (zone - 1)) * 24 + (period - 1)

-- a zone, day and period of a month of so many days and zones
abbrev pub is_place : ℕ → ℕ → ℕ → ℕ → ℕ → Bool
is_place days zones zone day period = between 1 zones zone && (between 1 days day && between 1 24 period)
