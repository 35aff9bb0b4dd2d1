-- What holds of every sheet and of every text.
use Rattle.std.specs.Prelude.{◌≡◌, ℕ, ◌≤◌, List, length, Ok}
use Rattle.sheet_laws.specs.Laws.{WithinLimits}
use Rattle.sheet_text.specs.Reading.{Reported, reading}
use Rattle.sheet_writer.specs.Rendered.{rendered}

abbrev pub text_of : Reported → List ℕ
text_of r = rendered r.zone r.day r.period r.figures

-- no sheet within its limits has a longer text, and one has a text of this length
pub record Longest (most : ℕ) : Type 0 where
  pub bound : (r : Reported) → WithinLimits r → length (text_of r) ≤ most
  pub reached : (r : Reported) × WithinLimits r × (length (text_of r) ≡ most)

-- a sheet that was read is written back as the same text
abbrev pub ReadIsWrittenBack : Type 0
ReadIsWrittenBack = (text : List ℕ) (r : Reported) → reading text ≡ Ok r → text_of r ≡ text

-- the text of a sheet within its limits is read as that sheet
abbrev pub WrittenIsReadBack : Type 0
WrittenIsReadBack = (r : Reported) → WithinLimits r → reading (text_of r) ≡ Ok r

abbrev pub NoTwoTextsHaveOneSheet : Type 0
NoTwoTextsHaveOneSheet = (a b : List ℕ) (r : Reported) → reading a ≡ Ok r → reading b ≡ Ok r → a ≡ b

abbrev pub NoTwoSheetsHaveOneText : Type 0
NoTwoSheetsHaveOneText = (q r : Reported) → WithinLimits q → WithinLimits r → text_of q ≡ text_of r → q ≡ r
