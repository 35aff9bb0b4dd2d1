-- The line that is printed of a text that is no sheet.
use Rattle.std.specs.Prelude.{ℕ, List, ◌++◌, codes, decimal}
use Rattle.sheet_text.specs.Faults.{number_of, word_of}
use Rattle.sheet_text.specs.declared.faults.SheetFault.{SheetFault}

abbrev pub number_part : SheetFault → List ℕ
number_part e = codes "REFUSED " ++ (decimal (number_of e.fault.kind) ++ (codes " " ++ (decimal e.fault.line ++ codes " ")))

abbrev pub place_part : SheetFault → List ℕ
place_part e = decimal e.fault.field ++ (codes " " ++ (word_of e.section ++ codes "\n"))

-- REFUSED number line field section
abbrev pub line_of_refusal : SheetFault → List ℕ
line_of_refusal e = number_part e ++ place_part e
