-- The line of a refusal is at most 39 bytes long, and one has so many.
use Rattle.std.proofs.Common.{◌≡◌, ◌≤◌, ◌++◌, length, codes, decimal, refl, arith, length-append}
use Rattle.std.specs.Fmt.{digits}
use Rattle.std.proofs.lemmas.Fmt.{length-decimal-le}
use Rattle.sheet_text.specs.Faults.{number_of, word_of}
use Rattle.sheet_text.specs.declared.faults.FaultKind.{FaultKind}
use Rattle.sheet_text.specs.declared.faults.FaultKind.TheVariants as kind
use Rattle.sheet_text.specs.declared.faults.Section.{Section}
use Rattle.sheet_text.specs.declared.faults.Section.TheVariants as section
use Rattle.sheet_text.specs.declared.faults.SheetFault.{SheetFault}
use Rattle.priced_text.specs.Laws.{Counted, LongestRefusal}
use Rattle.priced_text.specs.Refusals.{number_part, place_part, line_of_refusal}

number_small : (k : FaultKind) → number_of k ≤ 5
number_small kind.Layout = omega arith
number_small kind.Number = omega arith
number_small kind.Unit = omega arith
number_small kind.Keyword = omega arith
number_small kind.Order = omega arith

word_length : (s : Section) → length (word_of s) ≤ 6
word_length section.Head = omega arith
word_length section.Offers = omega arith
word_length section.Units = omega arith
word_length section.Groups = omega arith
word_length section.End = omega arith

module _ (e : SheetFault) (counted : Counted e) where
  number_length : length (number_part e) ≤ 21
  number_length =
      let n = decimal (number_of e.fault.kind) in
      let l = decimal e.fault.line in
      let line = counted.0 in
      let small = number_small e.fault.kind in
      let one = length-decimal-le 1 (number_of e.fault.kind) (omega arith) (omega arith) (omega arith) in
      let ten = length-decimal-le 10 e.fault.line (omega arith) (omega arith) (omega arith) in
      omega (arith, length-append n (codes " " ++ (l ++ codes " ")), length-append l (codes " "))

  place_length : length (place_part e) ≤ 18
  place_length =
      let f = decimal e.fault.field in
      let w = word_of e.section in
      let field = counted.1 in
      let ten = length-decimal-le 10 e.fault.field (omega arith) (omega arith) (omega arith) in
      omega (arith, length-append f (codes " " ++ (w ++ codes "\n")), length-append w (codes "\n"), word_length e.section)

  pub refusal_length : length (line_of_refusal e) ≤ 39
  refusal_length = omega (arith, length-append (number_part e) (place_part e), number_length, place_length)

abbrev longest_fault : SheetFault
longest_fault = record { section = section.Offers; fault = record { kind = kind.Layout; line = 4294967295; field = 4294967295 } }

longest_length : length (line_of_refusal longest_fault) ≡ 39
unfolding digits
longest_length = refl

pub longest_refusal : LongestRefusal 39
longest_refusal = record { bound = refusal_length; reached = (longest_fault, (omega arith, omega arith), longest_length) }
