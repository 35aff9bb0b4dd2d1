-- The numbers of the kinds of fault, and the words of the sections.
use Rattle.std.specs.Prelude.{ℕ, List, codes}
use Rattle.sheet_text.specs.declared.faults.FaultKind.{FaultKind}
use Rattle.sheet_text.specs.declared.faults.FaultKind.TheVariants as kind
use Rattle.sheet_text.specs.declared.faults.LineFault.{LineFault}
use Rattle.sheet_text.specs.declared.faults.Section.{Section}
use Rattle.sheet_text.specs.declared.faults.Section.TheVariants as section
use Rattle.sheet_text.specs.declared.faults.SheetFault.{SheetFault}

abbrev pub number_of : FaultKind → ℕ
number_of kind.Layout = 1
number_of kind.Number = 2
number_of kind.Unit = 3
number_of kind.Keyword = 4
number_of kind.Order = 5

abbrev pub word_of : Section → List ℕ
word_of section.Head = codes "HEAD"
word_of section.Offers = codes "OFFERS"
word_of section.Units = codes "UNITS"
word_of section.Groups = codes "GROUPS"
word_of section.End = codes "END"

abbrev pub fault_at : FaultKind → ℕ → ℕ → LineFault
fault_at k l f = record { kind = k; line = l; field = f }

abbrev pub fault_in : Section → LineFault → SheetFault
fault_in s e = record { section = s; fault = e }
