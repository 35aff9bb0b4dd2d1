-- What the register shows, and how registering changes it.
use Rattle.std.specs.Prelude.{ℕ, ◌+◌, cond, ◌&&◌, is_ok, Some, None, Ok, Err, Option, Result, ◌==◌, nat_eq}
use Rattle.std.specs.Map.{update}
use Rattle.std.specs.Option.{option_map}
use Rattle.ordered_list.specs.Listings.{Listing, listing}
use Rattle.register.specs.declared.number.Number.{Number}
use Rattle.register.specs.declared.refusal.RegisterRefusal.{RegisterRefusal}
use Rattle.register.specs.declared.refusal.RegisterRefusal.TheVariants.{Limits, Present, Full}
use Rattle.register.specs.declared.register.Register.{Register}
use Rattle.register.specs.Limits.{is_unit, is_party}

abbrev pub Party : Type 0
Party = Number 64

-- the party of each unit or none, how many units there are, and how many there can be
pub record Roll : Type 0 where
  pub party : ℕ → Option ℕ
  pub count : ℕ
  pub places : ℕ

abbrev pub roll_of : Listing Party → Roll
roll_of l = record { party = λ unit. cond (is_unit unit) (option_map (λ p. p.number) (l.shown unit)) None; count = l.count; places = l.places }

abbrev pub roll : Register → Roll
roll register = roll_of (listing register.units)

abbrev pub empty_roll : ℕ → Roll
empty_roll places = record { party = λ _. None; count = 0; places = places }

-- a unit that is there is refused first, then one for which no place is free
abbrev pub entry_to : Option ℕ → ℕ → ℕ → Result Unit RegisterRefusal
entry_to (Some _) count places = Err Present
entry_to None count places = cond (count == places) (Err Full) (Ok tt)

-- before all, a unit or a party beyond its limits is refused
abbrev pub register_answer : Roll → ℕ → ℕ → Result Unit RegisterRefusal
register_answer r unit party = cond (is_unit unit && is_party party) (entry_to (r.party unit) r.count r.places) (Err Limits)

-- the party of the unit, and all else as it was; all as it was where it is refused
abbrev pub registered : Roll → ℕ → ℕ → Roll
registered r unit party = cond (is_ok (register_answer r unit party)) (record { party = update nat_eq r.party unit (Some party); count = r.count + 1; places = r.places }) r
