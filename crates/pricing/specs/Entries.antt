-- The formed prices that a sheet enters into a history, by rank.
use Rattle.std.specs.Prelude.{ℕ, List, [], ◌∷◌, Option}
use Rattle.measures.specs.declared.price.Price.{Price}
use Rattle.price_history.specs.Keys.{rank_on, rank_of}
use Rattle.sheet.specs.Figures.{Figures}
use Rattle.sheet.specs.declared.lines.Direction.{Direction}
use Rattle.sheet.specs.declared.lines.Direction.TheVariants.{Up, Down}
use Rattle.offers.specs.declared.span.Span.{Span}
use Rattle.offers.specs.declared.span.Span.TheVariants.{Quarter, Period}
use Rattle.offers.specs.Forming.{formed}
use Rattle.pricing.specs.Keys.{series_of, slot_of, history_day}
use Rattle.pricing.specs.declared.entries.FormedPrice.{FormedPrice}

-- a rank, and the price that forms there or none
abbrev pub Formed : Type 0
Formed = ℕ × Option Price

abbrev pub formed_at : ℕ → ℕ → ℕ → Figures → Span → Direction → Formed
formed_at zone day period s span d = (rank_on (series_of span d) zone (history_day day) (slot_of span period), formed span d s.forced.kwh s.offers)

-- those of the four quarters and of the period, up and down
abbrev pub formed_prices : ℕ → ℕ → ℕ → Figures → List Formed
formed_prices zone day period s =
    let at = formed_at zone day period s in
    at (Quarter 1) Up ∷ at (Quarter 1) Down ∷ at (Quarter 2) Up ∷ at (Quarter 2) Down
    ∷ at (Quarter 3) Up ∷ at (Quarter 3) Down ∷ at (Quarter 4) Up ∷ at (Quarter 4) Down
    ∷ at Period Up ∷ at Period Down ∷ []

abbrev pub ranked : FormedPrice → Formed
ranked f = (rank_of f.key, f.price)
