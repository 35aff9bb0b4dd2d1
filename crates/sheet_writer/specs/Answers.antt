-- What writing answers.
use Rattle.std.specs.Prelude.{ℕ, cond, List, length, Ok, Err, Result, nat_lt}
use Rattle.sheet_writer.specs.declared.refusal.WritingRefusal.{WritingRefusal}
use Rattle.sheet_writer.specs.declared.refusal.WritingRefusal.TheVariants.{OutputShort}

abbrev pub writing_number : WritingRefusal → ℕ
writing_number OutputShort = 15

-- how long the text is, or that the output has too little room for it
abbrev pub written_answer : List ℕ → ℕ → Result ℕ WritingRefusal
written_answer text room = cond (nat_lt room (length text)) (Err OutputShort) (Ok (length text))
