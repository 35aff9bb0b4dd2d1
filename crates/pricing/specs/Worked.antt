-- Figures worked out by hand.
use Rattle.std.specs.Prelude.{◌≡◌, ℕ, ◌≤◌, false, List, [], ◌∷◌, ℤ, pos, negsuc, Some, unsigned_abs}
use Rattle.std.proofs.Common.{lit≤}
use Rattle.measures.specs.declared.price.Price.{Price}
use Rattle.measures.specs.declared.volume.Volume.{Volume}
use Rattle.measures.specs.declared.volume.PeriodVolume.{PeriodVolume}
use Rattle.price_history.specs.Views.{View}
use Rattle.price_history.specs.Means.{mean}
use Rattle.sheet.specs.declared.lines.Offer.{Offer}
use Rattle.sheet.specs.declared.lines.Direction.{Direction}
use Rattle.sheet.specs.declared.lines.Direction.TheVariants.{Up, Down}
use Rattle.offers.specs.declared.span.Span.TheVariants.{Quarter, Period}
use Rattle.offers.specs.declared.span.State.TheVariants.{Deficit, Surplus, Balanced}
use Rattle.pricing.specs.Cases.{Case}
use Rattle.pricing.specs.Prices.{state_in, mean_price, settled}

-- an offer of unit 1, free of constraints
abbrev pub offer : ℕ → Direction → Volume → Price → Offer
offer quarter direction volume price = record { quarter = quarter; direction = direction; unit = 1; volume = volume; price = price; constrained = false }

-- a sheet with these offers, in period 1 of day 1 in zone 1
abbrev pub sheet_of : View → Price → PeriodVolume → List Offer → Case
sheet_of view p f offers = record { view = view; zone = 1; day = 1; period = 1; sheet = record { day_ahead = p; forced = f; offers = offers; units = []; groups = [] } }

abbrev pub kwh : (n : ℕ) → n ≤ 1000000 → Volume
kwh n limited = record { kwh = n; limited = limited }

abbrev pub forced : (n : ℕ) → n ≤ 10000000 → PeriodVolume
forced n limited = record { kwh = n; limited = limited }

abbrev pub kop : (z : ℤ) → unsigned_abs z ≤ 10000000 → Price
kop z limited = record { kop = z; limited = limited }

-- whatever the history shows, and whatever the day-ahead price is
pub record WorkedFigures : Type 0 where
  -- a quarter with 2000 kWh up and 2300 kWh down
  pub above : (v : View) (p : Price) → state_in (Quarter 1) (sheet_of v p (forced 1201 (lit≤ tt)) (offer 1 Up (kwh 2000 (lit≤ tt)) p ∷ offer 1 Down (kwh 2300 (lit≤ tt)) p ∷ [])) ≡ Deficit
  pub even : (v : View) (p : Price) → state_in (Quarter 1) (sheet_of v p (forced 1200 (lit≤ tt)) (offer 1 Up (kwh 2000 (lit≤ tt)) p ∷ offer 1 Down (kwh 2300 (lit≤ tt)) p ∷ [])) ≡ Balanced
  pub below : (v : View) (p : Price) → state_in (Quarter 1) (sheet_of v p (forced 1199 (lit≤ tt)) (offer 1 Up (kwh 2000 (lit≤ tt)) p ∷ offer 1 Down (kwh 2300 (lit≤ tt)) p ∷ [])) ≡ Surplus
  -- quarters of 1000 kWh at 400000 and 1000 kWh at 400001, and of 2000 and 1000
  pub half : (v : View) (p : Price) → mean_price Up (sheet_of v p (forced 0 (lit≤ tt)) (offer 1 Up (kwh 1000 (lit≤ tt)) (kop (pos 400000) (lit≤ tt)) ∷ offer 2 Up (kwh 1000 (lit≤ tt)) (kop (pos 400001) (lit≤ tt)) ∷ [])) ≡ pos 400001
  pub third : (v : View) (p : Price) → mean_price Up (sheet_of v p (forced 0 (lit≤ tt)) (offer 1 Up (kwh 2000 (lit≤ tt)) (kop (pos 400000) (lit≤ tt)) ∷ offer 2 Up (kwh 1000 (lit≤ tt)) (kop (pos 400001) (lit≤ tt)) ∷ [])) ≡ pos 400000
  -- quarters of 1000 kWh at -3 and 1000 kWh at -4
  pub negative : (v : View) (p : Price) → mean_price Up (sheet_of v p (forced 0 (lit≤ tt)) (offer 1 Up (kwh 1000 (lit≤ tt)) (kop (negsuc 2) (lit≤ tt)) ∷ offer 2 Up (kwh 1000 (lit≤ tt)) (kop (negsuc 3) (lit≤ tt)) ∷ [])) ≡ pos 4
  -- the mean of -3 and -4
  pub halfway : mean (negsuc 2 ∷ negsuc 3 ∷ []) ≡ Some (negsuc 3)
  -- 5 kWh of forced reduction and no offers
  pub forced_only : (v : View) (p : Price) → (state_in Period (sheet_of v p (forced 5 (lit≤ tt)) []) ≡ Deficit) × ((settled (sheet_of v p (forced 5 (lit≤ tt)) [])).imsp ≡ p.kop)
  -- no offers and no forced reduction
  pub nothing : (v : View) (p : Price) → state_in Period (sheet_of v p (forced 0 (lit≤ tt)) []) ≡ Balanced
