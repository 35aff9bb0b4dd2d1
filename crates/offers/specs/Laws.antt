-- What the states and the outermost prices mean.
use Rattle.std.specs.Prelude.{◌≡◌, ℕ, ◌+◌, ◌*◌, ◌<◌, Bool, true, false, List, ℤ, ◌≤ℤ◌, Some, None, Option}
use Rattle.std.specs.List.{ContainsAt, AllByRecursion}
use Rattle.measures.specs.declared.price.Price.{Price}
use Rattle.sheet.specs.declared.lines.Offer.{Offer}
use Rattle.sheet.specs.declared.lines.Direction.{Direction}
use Rattle.sheet.specs.declared.lines.Direction.TheVariants.{Up, Down}
use Rattle.offers.specs.declared.span.Span.TheVariants.{Quarter, Period}
use Rattle.offers.specs.declared.span.State.{State}
use Rattle.offers.specs.declared.span.State.TheVariants.{Deficit, Surplus, Balanced}
use Rattle.offers.specs.Volumes.{offered}
use Rattle.offers.specs.States.{state_of}
use Rattle.offers.specs.Forming.{outermost}

-- when the state of a span is which, with k times its volumes against the forced reduction
abbrev pub Stands : State → ℕ → ℕ → ℕ → ℕ → Type 0
Stands Deficit k u d f = k * d < k * u + f
Stands Surplus k u d f = k * u + f < k * d
Stands Balanced k u d f = k * u + f ≡ k * d

-- the state of a quarter and of a period are as its volumes and the forced reduction compare
pub record StatesCompare : Type 0 where
  pub of_quarter : (q f : ℕ) (os : List Offer) → Stands (state_of (Quarter q) f os) 4 (offered (Quarter q) Up os) (offered (Quarter q) Down os) f
  pub of_period : (f : ℕ) (os : List Offer) → Stands (state_of Period f os) 1 (offered Period Up os) (offered Period Down os) f

-- p is at least as far out as r
abbrev pub Inside : Direction → ℤ → ℤ → Type 0
Inside Up r p = r ≤ℤ p
Inside Down r p = p ≤ℤ r

-- no picked offer has a price farther out, and one of them has this price; none where none is picked
abbrev pub Outermost : Direction → (Offer → Bool) → List Offer → Option Price → Type 0
Outermost d pick os None = AllByRecursion (λ o. pick o ≡ false) os
Outermost d pick os (Some p) = AllByRecursion (λ o. pick o ≡ true → Inside d o.price.kop p.kop) os × ((o : Offer) × (ContainsAt os o × (pick o ≡ true) × (o.price ≡ p)))

abbrev pub OutermostPricesAreOffered : Type 0
OutermostPricesAreOffered = (d : Direction) (pick : Offer → Bool) (os : List Offer) → Outermost d pick os (outermost d pick os)
