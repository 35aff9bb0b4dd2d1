-- The default of an entry is the filler of the places that have none.
use Rattle.std.proofs.Common.{◌≡◌, false}
use Rattle.measures.specs.Limits.{no_volume, zero_price}
use Rattle.sheet.specs.declared.lines.Direction.TheVariants.{Up}
use Rattle.sheet.specs.declared.lines.Position.TheVariants.{Surplus}
use Rattle.sheet.specs.declared.lines.Offer.{Offer}
use Rattle.sheet.specs.declared.lines.UnitLine.{UnitLine}
use Rattle.sheet.specs.declared.lines.GroupLine.{GroupLine}
use Rattle.sheet.specs.Fillers.{no_offer, no_unit, no_group}

pub offer_is : (x : Offer) → (x.quarter ≡ 0) × ((x.direction ≡ Up) × ((x.unit ≡ 0) × ((x.volume ≡ no_volume) × ((x.price ≡ zero_price) × (x.constrained ≡ false))))) → x ≡ no_offer
offer_is x e i = record { quarter = e.0 i; direction = e.1.0 i; unit = e.1.1.0 i; volume = e.1.1.1.0 i; price = e.1.1.1.1.0 i; constrained = e.1.1.1.1.1 i }

pub unit_is : (x : UnitLine) → (x.unit ≡ 0) × ((x.direction ≡ Up) × (x.energy ≡ no_volume)) → x ≡ no_unit
unit_is x e i = record { unit = e.0 i; direction = e.1.0 i; energy = e.1.1 i }

pub group_is : (x : GroupLine) → (x.party ≡ 0) × ((x.position ≡ Surplus) × (x.imbalance ≡ no_volume)) → x ≡ no_group
group_is x e i = record { party = e.0 i; position = e.1.0 i; imbalance = e.1.1 i }
