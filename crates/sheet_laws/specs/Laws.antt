-- What holds of every text.
use Rattle.std.specs.Prelude.{◌≡◌, ℕ, zero, suc, ◌<◌, ◌≤◌, List, [], ◌∷◌, length, Some, Ok, Err, Option, unsigned_abs}
use Rattle.std.specs.List.{AllByRecursion}
use Rattle.sheet.specs.declared.lines.Offer.{Offer}
use Rattle.sheet.specs.declared.lines.UnitLine.{UnitLine}
use Rattle.sheet.specs.declared.lines.GroupLine.{GroupLine}
use Rattle.sheet.specs.declared.lines.Position.TheVariants.{Surplus}
use Rattle.text.specs.Cuts.{cut}
use Rattle.sheet_text.specs.Reading.{Reported, reading}
use Rattle.sheet_text.specs.Values.{from}
use Rattle.sheet_text.specs.declared.faults.SheetFault.{SheetFault}

abbrev pub Between : ℕ → ℕ → ℕ → Type 0
Between a b n = (a ≤ n) × (n ≤ b)

pub record OfferWithin (o : Offer) : Type 0 where
  pub quarter : Between 1 4 o.quarter
  pub unit : Between 1 999 o.unit
  pub volume : Between 1 1000000 o.volume.kwh
  pub price : unsigned_abs o.price.kop ≤ 10000000

pub record UnitWithin (u : UnitLine) : Type 0 where
  pub unit : Between 1 999 u.unit
  pub energy : u.energy.kwh ≤ 1000000

pub record GroupWithin (g : GroupLine) : Type 0 where
  pub party : Between 1 64 g.party
  pub imbalance : g.imbalance.kwh ≤ 1000000
  -- no imbalance is a surplus
  pub none : g.imbalance.kwh ≡ 0 → g.position ≡ Surplus

-- each number is above the one before it
abbrev pub Rises : {A : Type 0} → (A → ℕ) → ℕ → List A → Type 0
Rises order before [] = Unit {0}
Rises order before (x ∷ xs) = (before < order x) × Rises order (order x) xs

pub record WithinLimits (r : Reported) : Type 0 where
  pub zone : Between 1 2 r.zone
  pub day : Between 1 31 r.day
  pub period : Between 1 24 r.period
  pub day_ahead : unsigned_abs r.figures.day_ahead.kop ≤ 10000000
  pub forced : r.figures.forced.kwh ≤ 10000000
  pub few_offers : length r.figures.offers ≤ 24
  pub few_units : length r.figures.units ≤ 16
  pub few_groups : length r.figures.groups ≤ 16
  pub offers : AllByRecursion OfferWithin r.figures.offers
  pub units : AllByRecursion UnitWithin r.figures.units
  pub groups : AllByRecursion GroupWithin r.figures.groups
  pub units_rise : Rises (λ u. u.unit) 0 r.figures.units
  pub parties_rise : Rises (λ g. g.party) 0 r.figures.groups

-- every number, figure and count that is read is within its limits, and units and parties rise
abbrev pub SheetsAreWithinLimits : Type 0
SheetsAreWithinLimits = (text : List ℕ) (r : Reported) → reading text ≡ Ok r → WithinLimits r

-- the first n lines of a text, where it has so many line ends
abbrev pub first_lines : ℕ → List ℕ → Option (List (List ℕ))
first_lines zero text = Some []
first_lines (suc n) text = from (cut 10 text) (λ p. from (first_lines n p.1) (λ lines. Some (p.0 ∷ lines)))

-- a text with the same lines up to the one with the fault has the same fault
abbrev pub FaultsStand : Type 0
FaultsStand = (text other : List ℕ) (fault : SheetFault) (lines : List (List ℕ)) → reading text ≡ Err fault
    → first_lines fault.fault.line text ≡ Some lines → first_lines fault.fault.line other ≡ Some lines → reading other ≡ Err fault
