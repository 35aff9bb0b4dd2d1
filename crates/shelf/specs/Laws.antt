-- What holds of places.
use Rattle.std.specs.Prelude.{◌≡◌, ℕ, ◌*◌, ◌<◌, true}
use Rattle.shelf.specs.Places.{is_place, number_of}

-- each place of a month of so many days and zones, with n periods a day, has a number of its own
pub record PlacesAreApart (n : ℕ) : Type 0 where
  pub below : (days zones zone day period : ℕ) → is_place days zones zone day period ≡ true → number_of zones zone day period < days * zones * n
  pub apart : (days zones zone day period zone' day' period' : ℕ) → is_place days zones zone day period ≡ true → is_place days zones zone' day' period' ≡ true
      → number_of zones zone day period ≡ number_of zones zone' day' period' → (zone ≡ zone') × (day ≡ day') × (period ≡ period')
