-- What holds of every priced text, and of the line of every refusal.
use Rattle.std.specs.Prelude.{◌≡◌, ℕ, ◌^◌, ◌<◌, ◌≤◌, List, length, Ok}
use Rattle.std.specs.List.{AllByRecursion}
use Rattle.price_history.specs.Views.{View}
use Rattle.sheet.specs.Figures.{Figures}
use Rattle.sheet_text.specs.Reading.{Reported, reading}
use Rattle.sheet_text.specs.declared.faults.SheetFault.{SheetFault}
use Rattle.pricing.specs.Cases.{Case}
use Rattle.priced_text.specs.Answers.{case_of}
use Rattle.priced_text.specs.Priced.{text_of_priced}
use Rattle.priced_text.specs.Refusals.{line_of_refusal}

-- lists within their counts, and numbers within their limits
pub record Listed (s : Figures) : Type 0 where
  pub few_units : length s.units ≤ 16
  pub few_groups : length s.groups ≤ 16
  pub units : AllByRecursion (λ l. l.unit ≤ 999) s.units
  pub groups : AllByRecursion (λ l. l.party ≤ 64) s.groups

-- no priced text is longer: of a case with such lists, and of a text that was read, whatever a history shows
pub record LongestPriced (most : ℕ) : Type 0 where
  pub listed : (c : Case) → Listed c.sheet → length (text_of_priced c) ≤ most
  pub read : (view : View) (text : List ℕ) (r : Reported) → reading text ≡ Ok r → length (text_of_priced (case_of view r)) ≤ most

-- the line and the field of a fault are numbers of 32 bits
abbrev pub Counted : SheetFault → Type 0
Counted e = (e.fault.line < 2 ^ 32) × (e.fault.field < 2 ^ 32)

-- no fault has a longer line, and one has a line of this length
pub record LongestRefusal (most : ℕ) : Type 0 where
  pub bound : (e : SheetFault) → Counted e → length (line_of_refusal e) ≤ most
  pub reached : (e : SheetFault) × Counted e × (length (line_of_refusal e) ≡ most)
