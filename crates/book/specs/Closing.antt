-- Closing a decade.
use Rattle.std.specs.Prelude.{ℕ, ◌+◌, ◌*◌, Bool, cond, not, ◌&&◌, List, [], ◌∷◌, length, is_some, is_ok, Result, ◌==◌, nat_le, nat_lt}
use Rattle.std.specs.List.{between, list_all}
use Rattle.shelf.specs.Places.{places_of}
use Rattle.shelf.specs.Rows.{sheet_on}
use Rattle.book.specs.Checks.{Check, verdict}
use Rattle.book.specs.Memory.{Rows, Standing, Memory, is_short}
use Rattle.book.specs.declared.refusal.BookRefusal.{BookRefusal}
use Rattle.book.specs.declared.refusal.BookRefusal.TheVariants.{NotNextDecade, SheetMissing, ShelfShort}

-- decades 1 to 3 are closed in their order
abbrev pub is_next : Standing → ℕ → Bool
is_next b decade = nat_le decade 3 && decade == b.closed + 1

abbrev pub last_day : Standing → ℕ → ℕ
last_day b decade = cond (nat_lt decade 3) (10 * decade) b.days

-- the rows of the days after those of the decades closed, up to the last day of a decade
abbrev pub decade_rows : Standing → Rows → ℕ → Rows
decade_rows b rows decade = between (places_of (10 * b.closed) b.zones) (places_of (last_day b decade) b.zones) rows

abbrev pub decade_filled : Standing → Rows → ℕ → Bool
decade_filled b rows decade = list_all (λ row. is_some (sheet_on row)) (decade_rows b rows decade)

abbrev pub close_checks : Memory → ℕ → List Check
close_checks m decade =
    (is_short m.book (length m.rows), ShelfShort)
    ∷ (not (is_next m.book decade), NotNextDecade)
    ∷ (not (decade_filled m.book m.rows decade), SheetMissing)
    ∷ []

abbrev pub close_answer : Memory → ℕ → Result Unit BookRefusal
close_answer m decade = verdict (close_checks m decade) (tt {0})

abbrev pub one_more_closed : Memory → Memory
one_more_closed m = record {
  book = record { days = m.book.days; zones = m.book.zones; closed = m.book.closed + 1 };
  history = m.history;
  register = m.register;
  rows = m.rows;
}

abbrev pub close_after : Memory → ℕ → Memory
close_after m decade = cond (is_ok (close_answer m decade)) (one_more_closed m) m
