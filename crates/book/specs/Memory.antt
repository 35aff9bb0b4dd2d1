-- All that a call may see or write, and what a change of one sheet makes of it.
use Rattle.std.specs.Prelude.{ℕ, Bool, false, ◌&&◌, List, is_some, Some, None, Option, nat_le, nat_lt, slice_index_or, slice_set}
use Rattle.std.specs.Option.{option_map}
use Rattle.std.specs.List.{list_all}
use Rattle.measures.specs.Calendar.{decade_of, decade_number}
use Rattle.measures.specs.declared.calendar.Decade.{Decade}
use Rattle.price_history.specs.Views.{View}
use Rattle.register.specs.Rolls.{Roll}
use Rattle.sheet.specs.Figures.{Figures}
use Rattle.sheet.specs.declared.place.Place.{Place}
use Rattle.sheet.specs.declared.report.Sheet.{Sheet}
use Rattle.sheet_text.specs.Reading.{Reported}
use Rattle.shelf.specs.Packed.{packed_sheet}
use Rattle.shelf.specs.Places.{places_of, number_of, is_place}
use Rattle.shelf.specs.Rows.{sheet_on}
use Rattle.pricing.specs.Changes.{Change, changes_at}
use Rattle.price_changes.specs.Changed.{changed_view}
use Rattle.book.specs.declared.book.Book.{Book}
use Rattle.book.specs.declared.spot.Spot.{Spot}
use Rattle.book.specs.declared.stated.StatedPlace.{StatedPlace}

-- what stands on the shelf
abbrev pub Rows : Type 0
Rows = List (Option Sheet)

-- what the book itself keeps
pub record Standing : Type 0 where
  pub days : ℕ
  pub zones : ℕ
  pub closed : ℕ

abbrev pub standing : Book → Standing
standing b = record { days = b.days; zones = b.zones; closed = b.closed }

pub record Memory : Type 0 where
  pub book : Standing
  pub history : View
  pub register : Roll
  pub rows : Rows

abbrev pub memory : Book → View → Roll → Rows → Memory
memory b view roll rows = record { book = standing b; history = view; register = roll; rows = rows }

abbrev pub place_of : Reported → StatedPlace
place_of r = record { zone = r.zone; day = r.day; period = r.period }

abbrev pub stated : Place → StatedPlace
stated p = record { zone = p.zone; day = p.day; period = p.period }

abbrev pub number_in : Standing → StatedPlace → ℕ
number_in b p = number_of b.zones p.zone p.day p.period

-- fewer places than the month has
abbrev pub is_short : Standing → ℕ → Bool
is_short b n = nat_lt n (places_of b.days b.zones)

abbrev pub in_book : Standing → StatedPlace → Bool
in_book b p = is_place b.days b.zones p.zone p.day p.period

abbrev pub among_closed : ℕ → Option Decade → Bool
among_closed closed None = false
among_closed closed (Some d) = nat_le (decade_number d) closed

-- the day is of a decade that is closed
abbrev pub is_closed : Standing → ℕ → Bool
is_closed b day = among_closed b.closed (decade_of day)

-- each unit in the offers and in the units of a sheet has a party
abbrev pub units_known : Roll → Figures → Bool
units_known roll s = list_all (λ o. is_some (roll.party o.unit)) s.offers && list_all (λ u. is_some (roll.party u.unit)) s.units

-- the sheet in force at a place
abbrev pub sheet_at : Standing → Rows → StatedPlace → Option Figures
sheet_at b rows p = sheet_on (slice_index_or rows (number_in b p) None)

-- a place, and its number
abbrev pub found : Spot → StatedPlace × ℕ
found s = (stated s.place, s.number)

-- what a change of the sheet at a place changes in the history
abbrev pub sheet_changes : Standing → Rows → StatedPlace → Option Figures → List Change
sheet_changes b rows p new = changes_at p.zone p.day p.period (sheet_at b rows p) new

-- another sheet at a place, or none: the prices of the older sheet are struck, those of the newer one entered
abbrev pub with_sheet : Memory → StatedPlace → Option Figures → Memory
with_sheet m p new = record {
  book = m.book;
  history = changed_view m.history (sheet_changes m.book m.rows p new);
  register = m.register;
  rows = slice_set m.rows (number_in m.book p) (option_map packed_sheet new);
}
