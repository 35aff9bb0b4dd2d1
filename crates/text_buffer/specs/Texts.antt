-- The text that a buffer holds, and texts written after it.
use Rattle.std.specs.Prelude.{◌≡◌, ℕ, ◌+◌, true, cond, List, ◌++◌, length, take, drop, is_ok, Result, nat_le, nat_lt}
use Rattle.text_buffer.specs.declared.buffer.TextBuffer.{TextBuffer}
use Rattle.text_buffer.specs.declared.buffer.Numeral.{Numeral}

module _ {N : ℕ} where
  abbrev pub written : TextBuffer N → List ℕ
  written buffer = take buffer.len buffer.bytes

-- the text of a number
abbrev pub spelt : Numeral → List ℕ
spelt numeral = drop numeral.start numeral.bytes

-- a text of many parts is written after what was there, or refused exactly where it does not fit as a whole;
-- where it is refused, some of its parts may have been written
pub record Puts {X E : Type 0} (N : ℕ) (text before later : List ℕ) (r : Result X E) : Type 0 where
  pub fits : is_ok r ≡ nat_le (length before + length text) N
  pub after : is_ok r ≡ true → later ≡ before ++ text

-- the same of a buffer
abbrev pub IsPut : {N : ℕ} {X E : Type 0} → List ℕ → TextBuffer N → TextBuffer N → Result X E → Type 0
IsPut {N} text before later r = Puts N text (written before) (written later) r

-- a text at the front of an output, and what was there behind it; all as it was where the text does not fit
abbrev pub placed : List ℕ → List ℕ → List ℕ
placed text out = cond (nat_lt (length out) (length text)) out (text ++ drop (length text) out)
