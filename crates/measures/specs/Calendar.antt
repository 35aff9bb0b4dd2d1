-- The three decades of a month.
use Rattle.std.specs.Prelude.{ℕ, Bool, true, false, cond, ◌&&◌, Some, None, Option, nat_le}
use Rattle.measures.specs.declared.calendar.Decade.{Decade}
use Rattle.measures.specs.declared.calendar.Decade.TheVariants.{First, Second, Third}

abbrev pub between : ℕ → ℕ → ℕ → Bool
between a b n = nat_le a n && nat_le n b

-- days 1 to 10, 11 to 20, and 21 to the last
abbrev pub decade_of : ℕ → Option Decade
decade_of day = cond (between 1 10 day) (Some First) (cond (between 11 20 day) (Some Second) (cond (between 21 31 day) (Some Third) None))

abbrev pub decade_number : Decade → ℕ
decade_number First = 1
decade_number Second = 2
decade_number Third = 3

abbrev pub one_decade : Option Decade → Option Decade → Bool
one_decade None b = false
one_decade (Some a) None = false
one_decade (Some First) (Some b) = elim b [ First ↦ true | Second ↦ false | Third ↦ false ]
one_decade (Some Second) (Some b) = elim b [ First ↦ false | Second ↦ true | Third ↦ false ]
one_decade (Some Third) (Some b) = elim b [ First ↦ false | Second ↦ false | Third ↦ true ]
