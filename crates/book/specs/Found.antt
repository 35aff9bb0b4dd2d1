-- The place that a call names, for the contracts of the calls' parts.
use Rattle.std.specs.Prelude.{ℕ, not, List, [], ◌∷◌, None, Ok, Err, Option, Result, slice_index_or}
use Rattle.sheet.specs.Figures.{Figures}
use Rattle.pricing.specs.Changes.{Change, changes_at}
use Rattle.shelf.specs.Rows.{sheet_on}
use Rattle.book.specs.Checks.{Check}
use Rattle.book.specs.Memory.{Rows, Standing, found, is_short, in_book}
use Rattle.book.specs.declared.refusal.BookRefusal.{BookRefusal}
use Rattle.book.specs.declared.refusal.BookRefusal.TheVariants.{Outside, ShelfShort}
use Rattle.book.specs.declared.spot.Spot.{Spot}
use Rattle.book.specs.declared.stated.StatedPlace.{StatedPlace}

abbrev pub found_in : Result Spot BookRefusal → Result (StatedPlace × ℕ) BookRefusal
found_in (Ok s) = Ok (found s)
found_in (Err e) = Err e

-- the shelf has its places, and the place is one of them
abbrev pub spot_checks : Standing → ℕ → StatedPlace → List Check
spot_checks b long p = (is_short b long, ShelfShort) ∷ (not (in_book b p), Outside) ∷ []

-- what a change of the sheet at a place with a number changes in the history
abbrev pub changes_of : Rows → StatedPlace × ℕ → Option Figures → List Change
changes_of rows q new = changes_at q.0.zone q.0.day q.0.period (sheet_on (slice_index_or rows q.1 None)) new
