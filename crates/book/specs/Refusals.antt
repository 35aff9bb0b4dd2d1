-- What a refusal tells: its number, and where a text is at fault.
use Rattle.std.specs.Prelude.{ℕ, Some, None, Option}
use Rattle.price_keeping.specs.declared.refusal.KeepRefusal.{KeepRefusal}
use Rattle.price_keeping.specs.declared.refusal.KeepRefusal.TheVariants as keep
use Rattle.register.specs.declared.refusal.RegisterRefusal.{RegisterRefusal}
use Rattle.register.specs.declared.refusal.RegisterRefusal.TheVariants as roll
use Rattle.sheet_text.specs.Faults.{number_of}
use Rattle.sheet_text.specs.declared.faults.SheetFault.{SheetFault}
use Rattle.book.specs.declared.refusal.BookRefusal.{BookRefusal}
use Rattle.book.specs.declared.refusal.BookRefusal.TheVariants.{Text, Outside, UnitUnknown, DecadeClosed, SheetInForce, PriceEntered, UnitRegistered, NoSheet, HistoryFull, RegisterFull, NotNextDecade, SheetMissing, BeyondLimits, ShelfShort, OutputShort, BookSize, HistoryNotEmpty}

-- a fault has a line, a field and a section
pub record Told : Type 0 where
  pub number : ℕ
  pub fault : Option SheetFault

abbrev pub numbered : ℕ → Told
numbered n = record { number = n; fault = None }

abbrev pub told : BookRefusal → Told
told (Text fault) = record { number = number_of fault.fault.kind; fault = Some fault }
told Outside = numbered 6
told UnitUnknown = numbered 7
told DecadeClosed = numbered 8
told SheetInForce = numbered 9
told PriceEntered = numbered 9
told UnitRegistered = numbered 9
told NoSheet = numbered 10
told HistoryFull = numbered 11
told RegisterFull = numbered 11
told NotNextDecade = numbered 12
told SheetMissing = numbered 13
told BeyondLimits = numbered 14
told ShelfShort = numbered 15
told OutputShort = numbered 15
told BookSize = numbered 16
told HistoryNotEmpty = numbered 17

-- why a history refuses, as why the book does
abbrev pub keep_told : KeepRefusal → BookRefusal
keep_told keep.Present = PriceEntered
keep_told keep.Full = HistoryFull
keep_told keep.Absent = NoSheet

-- why the register refuses, as why the book does
abbrev pub roll_told : RegisterRefusal → BookRefusal
roll_told roll.Limits = BeyondLimits
roll_told roll.Present = UnitRegistered
roll_told roll.Full = RegisterFull
