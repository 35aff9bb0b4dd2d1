-- Filing, replacing and withdrawing a sheet.
use Rattle.std.specs.Prelude.{ℕ, Bool, cond, not, List, [], ◌∷◌, ◌++◌, length, is_some, is_ok, Some, None, Ok, Err, Option, Result}
use Rattle.register.specs.Rolls.{Roll}
use Rattle.sheet.specs.Figures.{Figures}
use Rattle.sheet_text.specs.Reading.{Reported}
use Rattle.sheet_text.specs.declared.faults.SheetFault.{SheetFault}
use Rattle.price_changes.specs.Changed.{overfull}
use Rattle.book.specs.Checks.{Check, verdict}
use Rattle.book.specs.Found.{spot_checks}
use Rattle.book.specs.Memory.{Standing, Memory, place_of, is_closed, units_known, sheet_at, with_sheet}
use Rattle.book.specs.declared.putting.Putting.{Putting}
use Rattle.book.specs.declared.putting.Putting.TheVariants.{Filing, Replacing}
use Rattle.book.specs.declared.refusal.BookRefusal.{BookRefusal}
use Rattle.book.specs.declared.refusal.BookRefusal.TheVariants.{Text, UnitUnknown, DecadeClosed, SheetInForce, NoSheet, HistoryFull}
use Rattle.book.specs.declared.stated.StatedPlace.{StatedPlace}

-- the place, then the units, then the decade
abbrev pub report_checks : Standing → Roll → ℕ → StatedPlace → Figures → List Check
report_checks b roll long p s = spot_checks b long p ++ ((not (units_known roll s), UnitUnknown) ∷ (is_closed b p.day, DecadeClosed) ∷ [])

-- a sheet is filed where none is in force, and replaced where one is
abbrev pub force_check : Putting → Bool → Check
force_check Filing in_force = (in_force, SheetInForce)
force_check Replacing in_force = (not in_force, NoSheet)

abbrev pub full_check : Memory → StatedPlace → Option Figures → Check
full_check m p new = (overfull (with_sheet m p new).history, HistoryFull)

abbrev pub put_checks : Putting → Memory → StatedPlace → Figures → List Check
put_checks how m p s =
    report_checks m.book m.register (length m.rows) p s
    ++ (force_check how (is_some (sheet_at m.book m.rows p)) ∷ full_check m p (Some s) ∷ [])

abbrev pub put_verdict : Putting → Memory → Reported → Result Unit BookRefusal
put_verdict how m r = verdict (put_checks how m (place_of r) r.figures) (tt {0})

-- the faults of the text come before every check
abbrev pub put_answer : Putting → Memory → Result Reported SheetFault → Result Unit BookRefusal
put_answer how m (Err fault) = Err (Text fault)
put_answer how m (Ok r) = put_verdict how m r

abbrev pub put_report : Putting → Memory → Reported → Memory
put_report how m r = cond (is_ok (put_verdict how m r)) (with_sheet m (place_of r) (Some r.figures)) m

abbrev pub put_after : Putting → Memory → Result Reported SheetFault → Memory
put_after how m (Err fault) = m
put_after how m (Ok r) = put_report how m r

abbrev pub withdraw_checks : Memory → StatedPlace → List Check
withdraw_checks m p =
    spot_checks m.book (length m.rows) p
    ++ ((is_closed m.book p.day, DecadeClosed) ∷ (not (is_some (sheet_at m.book m.rows p)), NoSheet) ∷ [])

abbrev pub withdraw_answer : Memory → StatedPlace → Result Unit BookRefusal
withdraw_answer m p = verdict (withdraw_checks m p) (tt {0})

abbrev pub withdraw_after : Memory → StatedPlace → Memory
withdraw_after m p = cond (is_ok (withdraw_answer m p)) (with_sheet m p None) m
