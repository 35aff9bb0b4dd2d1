-- The prices that a sheet's offers form.
use Rattle.std.specs.Prelude.{ℕ, Bool, false, cond, not, ◌&&◌, ◌||◌, List, [], ◌∷◌, Some, None, fold, Option, int_lt}
use Rattle.measures.specs.declared.price.Price.{Price}
use Rattle.sheet.specs.declared.lines.Offer.{Offer}
use Rattle.sheet.specs.declared.lines.Direction.{Direction}
use Rattle.sheet.specs.declared.lines.Direction.TheVariants.{Up, Down}
use Rattle.offers.specs.declared.span.Span.{Span}
use Rattle.offers.specs.declared.span.Span.TheVariants.{Quarter, Period}
use Rattle.offers.specs.declared.span.State.{State}
use Rattle.offers.specs.declared.span.State.TheVariants.{Deficit, Surplus, Balanced}
use Rattle.offers.specs.Volumes.{picks}
use Rattle.offers.specs.States.{state_of}

-- an offer that the test picks, and that was not accepted for a system constraint
abbrev pub free : (Offer → Bool) → Offer → Bool
free pick o = pick o && not o.constrained

abbrev pub unconstrained : (Offer → Bool) → List Offer → Bool
unconstrained pick [] = false
unconstrained pick (o ∷ os) = free pick o || unconstrained pick os

-- the outer of two prices: the higher one up, the lower one down
abbrev pub outer : Direction → Price → Price → Price
outer Up a b = cond (int_lt a.kop b.kop) b a
outer Down a b = cond (int_lt b.kop a.kop) b a

abbrev pub outer_of : Direction → Option Price → Price → Option Price
outer_of d None p = Some p
outer_of d (Some best) p = Some (outer d best p)

abbrev pub farther : Direction → (Offer → Bool) → Option Price → Offer → Option Price
farther d pick best o = cond (pick o) (outer_of d best o.price) best

-- the outermost price of the offers that the test picks, constrained ones too
abbrev pub outermost : Direction → (Offer → Bool) → List Offer → Option Price
outermost d pick os = fold (farther d pick) None os

abbrev pub forming : Span → Direction → List Offer → Option Price
forming span d os = cond (unconstrained (picks span d) os) (outermost d (picks span d) os) None

abbrev pub unless_balanced : {A : Type 0} → State → Option A → Option A
unless_balanced Deficit x = x
unless_balanced Surplus x = x
unless_balanced Balanced x = None

-- a quarter in balance forms no price; over the whole period the outermost price forms in every state
abbrev pub formed : Span → Direction → ℕ → List Offer → Option Price
formed (Quarter q) d f os = unless_balanced (state_of (Quarter q) f os) (forming (Quarter q) d os)
formed Period d f os = forming Period d os
