-- The state of a zone.
use Rattle.std.specs.Prelude.{ℕ, ◌+◌, ◌*◌, cond, List, nat_lt}
use Rattle.sheet.specs.declared.lines.Offer.{Offer}
use Rattle.sheet.specs.declared.lines.Direction.TheVariants.{Up, Down}
use Rattle.offers.specs.declared.span.Span.{Span}
use Rattle.offers.specs.declared.span.Span.TheVariants.{Quarter, Period}
use Rattle.offers.specs.declared.span.State.{State}
use Rattle.offers.specs.declared.span.State.TheVariants.{Deficit, Surplus, Balanced}
use Rattle.offers.specs.Volumes.{offered}

-- what was called for against what was called off
abbrev pub weighed : ℕ → ℕ → State
weighed up down = cond (nat_lt down up) Deficit (cond (nat_lt up down) Surplus Balanced)

-- the forced reduction f is of the whole period: a quarter's volumes count four times against it
abbrev pub state_of : Span → ℕ → List Offer → State
state_of (Quarter q) f os = weighed (4 * offered (Quarter q) Up os + f) (4 * offered (Quarter q) Down os)
state_of Period f os = weighed (offered Period Up os + f) (offered Period Down os)
