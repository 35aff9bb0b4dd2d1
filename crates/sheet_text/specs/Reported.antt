-- A report in plain numbers, its entries as lists.
use Rattle.std.specs.Prelude.{Ok, Err, Result}
use Rattle.sheet.specs.Figures.{figures_of}
use Rattle.sheet_text.specs.Reading.{Reported}
use Rattle.sheet_text.specs.declared.faults.SheetFault.{SheetFault}
use Rattle.sheet_text.specs.declared.report.Report.{Report}

abbrev pub plain : Report → Reported
plain r = record { zone = r.place.zone; day = r.place.day; period = r.place.period; figures = figures_of r.sheet }

abbrev pub reported : Result Report SheetFault → Result Reported SheetFault
reported (Ok r) = Ok (plain r)
reported (Err fault) = Err fault
