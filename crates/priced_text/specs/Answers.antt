-- What pricing a text answers, and what it writes.
use Rattle.std.specs.Prelude.{ℕ, cond, List, length, Ok, Err, Result, nat_lt}
use Rattle.text_buffer.specs.Texts.{placed}
use Rattle.price_history.specs.Views.{View}
use Rattle.sheet_text.specs.Reading.{Reported}
use Rattle.sheet_text.specs.declared.faults.SheetFault.{SheetFault}
use Rattle.pricing.specs.Cases.{Case}
use Rattle.priced_text.specs.Priced.{text_of_priced}
use Rattle.priced_text.specs.declared.refusal.PricingRefusal.{PricingRefusal}
use Rattle.priced_text.specs.declared.refusal.PricingRefusal.TheVariants.{Text, OutputShort}

-- the sheet that was read, against a history
abbrev pub case_of : View → Reported → Case
case_of view r = record { view = view; zone = r.zone; day = r.day; period = r.period; sheet = r.figures }

-- the text's faults come first, then short output
abbrev pub priced_answer : View → Result Reported SheetFault → ℕ → Result ℕ PricingRefusal
priced_answer view (Err fault) room = Err (Text fault)
priced_answer view (Ok r) room = cond (nat_lt room (length (text_of_priced (case_of view r)))) (Err OutputShort) (Ok (length (text_of_priced (case_of view r))))

abbrev pub priced_output : View → Result Reported SheetFault → List ℕ → List ℕ
priced_output view (Err fault) out = out
priced_output view (Ok r) out = placed (text_of_priced (case_of view r)) out
