-- Places and keys.
use Rattle.std.specs.Prelude.{◌≡◌, ℕ, ◌≤◌, None, slice_index_or}
use Rattle.std.specs.Option.{option_map}
use Rattle.offers.specs.declared.span.Span.{Span}
use Rattle.sheet.specs.declared.lines.Direction.{Direction}
use Rattle.shelf.specs.Packed.{packed_sheet}
use Rattle.pricing.specs.Changes.{formed_by, rank_at}
use Rattle.pricing.specs.Keys.{Within}
use Rattle.book.specs.Memory.{Memory, number_in, sheet_at}
use Rattle.book.specs.declared.stated.StatedPlace.{StatedPlace}

-- a zone, day and period that a sheet may have
pub record IsPlace (p : StatedPlace) : Type 0 where
  pub zone_from : 1 ≤ p.zone
  pub zone_to : p.zone ≤ 2
  pub day_from : 1 ≤ p.day
  pub day_to : p.day ≤ 31
  pub period_from : 1 ≤ p.period
  pub period_to : p.period ≤ 24

-- the rank of a price of a place
abbrev pub rank_of_place : StatedPlace → Span → Direction → ℕ
rank_of_place p span d = rank_at p.zone p.day p.period span d

-- a place as the calls leave it: the row is that of its sheet, and the history shows what forms on that, and nothing else
pub record KeptAt (m : Memory) (p : StatedPlace) : Type 0 where
  pub row : slice_index_or m.rows (number_in m.book p) None ≡ option_map packed_sheet (sheet_at m.book m.rows p)
  pub shown : (span : Span) (d : Direction) → Within span → m.history.shown (rank_of_place p span d) ≡ formed_by (sheet_at m.book m.rows p) span d
