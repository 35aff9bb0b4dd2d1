-- What changes in a history when the sheet of a period is changed, by rank.
use Rattle.std.specs.Prelude.{ℕ, List, [], ◌∷◌, Some, None, Option}
use Rattle.measures.specs.declared.price.Price.{Price}
use Rattle.price_history.specs.Keys.{rank_on, rank_of}
use Rattle.sheet.specs.Figures.{Figures}
use Rattle.sheet.specs.declared.lines.Direction.{Direction}
use Rattle.sheet.specs.declared.lines.Direction.TheVariants.{Up, Down}
use Rattle.offers.specs.declared.span.Span.{Span}
use Rattle.offers.specs.declared.span.Span.TheVariants.{Quarter, Period}
use Rattle.offers.specs.Forming.{formed}
use Rattle.pricing.specs.Keys.{series_of, slot_of, history_day}
use Rattle.pricing.specs.declared.change.PriceChange.{PriceChange}

-- at a rank, the price that the older sheet forms and the one that the newer sheet forms, or none
pub record Change : Type 0 where
  pub rank : ℕ
  pub old : Option Price
  pub new : Option Price

abbrev pub plain : PriceChange → Change
plain c = record { rank = rank_of c.key; old = c.old; new = c.new }

-- the price that forms on a sheet; none without a sheet
abbrev pub formed_by : Option Figures → Span → Direction → Option Price
formed_by None span d = None
formed_by (Some s) span d = formed span d s.forced.kwh s.offers

abbrev pub rank_at : ℕ → ℕ → ℕ → Span → Direction → ℕ
rank_at zone day period span d = rank_on (series_of span d) zone (history_day day) (slot_of span period)

abbrev pub change_at : ℕ → ℕ → ℕ → Option Figures → Option Figures → Span → Direction → Change
change_at zone day period old new span d = record { rank = rank_at zone day period span d; old = formed_by old span d; new = formed_by new span d }

-- those of the four quarters and of the period, up and down, in the order of their ranks
abbrev pub changes_at : ℕ → ℕ → ℕ → Option Figures → Option Figures → List Change
changes_at zone day period old new =
    let at = change_at zone day period old new in
    at (Quarter 1) Up ∷ at (Quarter 2) Up ∷ at (Quarter 3) Up ∷ at (Quarter 4) Up
    ∷ at (Quarter 1) Down ∷ at (Quarter 2) Down ∷ at (Quarter 3) Down ∷ at (Quarter 4) Down
    ∷ at Period Up ∷ at Period Down ∷ []
