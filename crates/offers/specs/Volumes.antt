-- Volumes of the offers.
use Rattle.std.specs.Prelude.{ℕ, ◌+◌, Bool, cond, ◌&&◌, List, [], ◌∷◌, ◌==◌}
use Rattle.sheet.specs.declared.lines.Offer.{Offer}
use Rattle.sheet.specs.declared.lines.Direction.{Direction}
use Rattle.sheet.specs.Sides.{one_way}
use Rattle.offers.specs.declared.span.Span.{Span}
use Rattle.offers.specs.declared.span.Span.TheVariants.{Quarter, Period}

-- the offers in a direction, of a quarter or of the whole period
abbrev pub picks : Span → Direction → Offer → Bool
picks (Quarter q) d o = o.quarter == q && one_way o.direction d
picks Period d o = one_way o.direction d

abbrev pub in_quarter : ℕ → Direction → List Offer → ℕ
in_quarter q d [] = 0
in_quarter q d (o ∷ os) = cond (picks (Quarter q) d o) o.volume.kwh 0 + in_quarter q d os

-- in kWh: of a quarter, or of the four quarters together
abbrev pub offered : Span → Direction → List Offer → ℕ
offered (Quarter q) d os = in_quarter q d os
offered Period d os = in_quarter 1 d os + in_quarter 2 d os + in_quarter 3 d os + in_quarter 4 d os
