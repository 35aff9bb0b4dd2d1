-- Opening a book.
use Rattle.std.specs.Prelude.{ℕ, not, ◌&&◌, List, [], ◌∷◌, ◌++◌, drop, replicate, None, Ok, Err, Result, ◌==◌}
use Rattle.measures.specs.Calendar.{between}
use Rattle.price_history.specs.Keys.{span}
use Rattle.price_history.specs.Views.{View, tallied}
use Rattle.shelf.specs.Places.{places_of}
use Rattle.book.specs.Checks.{Check, verdict}
use Rattle.book.specs.Memory.{Rows, Standing, standing, is_short}
use Rattle.book.specs.declared.book.Book.{Book}
use Rattle.book.specs.declared.refusal.BookRefusal.{BookRefusal}
use Rattle.book.specs.declared.refusal.BookRefusal.TheVariants.{ShelfShort, BookSize, HistoryNotEmpty}

abbrev pub opened : Result Book BookRefusal → Result Standing BookRefusal
opened (Ok b) = Ok (standing b)
opened (Err e) = Err e

abbrev pub fresh : ℕ → ℕ → Standing
fresh days zones = record { days = days; zones = zones; closed = 0 }

abbrev pub open_checks : ℕ → ℕ → View → ℕ → List Check
open_checks days zones view long =
    (not (between 28 31 days && between 1 2 zones), BookSize)
    ∷ (is_short (fresh days zones) long, ShelfShort)
    ∷ (not (tallied view.shown span == 0), HistoryNotEmpty)
    ∷ []

abbrev pub open_answer : ℕ → ℕ → View → ℕ → Result Standing BookRefusal
open_answer days zones view long = verdict (open_checks days zones view long) (fresh days zones)

-- the places of the month without a sheet, and further ones as they were
abbrev pub open_rows : ℕ → ℕ → Rows → Rows
open_rows days zones rows = replicate (places_of days zones) None ++ drop (places_of days zones) rows
