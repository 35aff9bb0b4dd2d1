-- A text is as long as the buffer says, and within its memory.
use Rattle.std.proofs.Common.{◌≡◌, ℕ, ◌≤◌, length, arith, length-take-le}
use Rattle.text_buffer.specs.declared.buffer.TextBuffer.{TextBuffer}
use Rattle.text_buffer.specs.Texts.{written}

module _ {N : ℕ} (buffer : TextBuffer N) where
  pub written_length : length (written buffer) ≡ buffer.len
  written_length = length-take-le buffer.len buffer.bytes (omega (arith, buffer.few, buffer.full))

  pub written_within : length (written buffer) ≤ N
  written_within = omega (arith, written_length, buffer.few)
