-- Writing a sheet in force as text.
use Rattle.std.specs.Prelude.{ℕ, cond, not, List, [], ◌∷◌, ◌++◌, length, drop, is_some, is_ok, Some, None, Option, Result, nat_lt}
use Rattle.sheet.specs.Figures.{Figures}
use Rattle.sheet_writer.specs.Rendered.{rendered}
use Rattle.book.specs.Checks.{Check, verdict}
use Rattle.book.specs.Found.{spot_checks}
use Rattle.book.specs.Memory.{Rows, Standing, sheet_at}
use Rattle.book.specs.declared.refusal.BookRefusal.{BookRefusal}
use Rattle.book.specs.declared.refusal.BookRefusal.TheVariants.{NoSheet, OutputShort}
use Rattle.book.specs.declared.stated.StatedPlace.{StatedPlace}

-- by the zone, day and period of its place
abbrev pub text_of : StatedPlace → Option Figures → List ℕ
text_of p None = []
text_of p (Some s) = rendered p.zone p.day p.period s

abbrev pub text_at : Standing → Rows → StatedPlace → List ℕ
text_at b rows p = text_of p (sheet_at b rows p)

abbrev pub write_checks : Standing → Rows → StatedPlace → ℕ → List Check
write_checks b rows p room =
    spot_checks b (length rows) p
    ++ ((not (is_some (sheet_at b rows p)), NoSheet) ∷ (nat_lt room (length (text_at b rows p)), OutputShort) ∷ [])

abbrev pub write_answer : Standing → Rows → StatedPlace → ℕ → Result ℕ BookRefusal
write_answer b rows p room = verdict (write_checks b rows p room) (length (text_at b rows p))

-- the text, and what was there behind it
abbrev pub write_output : Standing → Rows → StatedPlace → List ℕ → List ℕ
write_output b rows p out = cond (is_ok (write_answer b rows p (length out))) (text_at b rows p ++ drop (length (text_at b rows p)) out) out
