-- What stands in the places of a list that have no entry.
use Rattle.std.specs.Prelude.{false}
use Rattle.measures.specs.Limits.{no_volume, zero_price}
use Rattle.sheet.specs.declared.lines.Direction.TheVariants.{Up}
use Rattle.sheet.specs.declared.lines.Position.TheVariants.{Surplus}
use Rattle.sheet.specs.declared.lines.Offer.{Offer}
use Rattle.sheet.specs.declared.lines.UnitLine.{UnitLine}
use Rattle.sheet.specs.declared.lines.GroupLine.{GroupLine}

abbrev pub no_offer : Offer
no_offer = record { quarter = 0; direction = Up; unit = 0; volume = no_volume; price = zero_price; constrained = false }

abbrev pub no_unit : UnitLine
no_unit = record { unit = 0; direction = Up; energy = no_volume }

abbrev pub no_group : GroupLine
no_group = record { party = 0; position = Surplus; imbalance = no_volume }
