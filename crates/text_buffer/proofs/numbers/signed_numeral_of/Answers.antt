-- Before the digits there is room for a sign.
use Rattle.std.proofs.Common.{length, ap, arith}
use Rattle.text_buffer.proofs.Spelling.{length_wide}
use Rattle.text_buffer.proofs.numbers.signed_numeral_of.Goals as goal

pub put_before-requires : goal.put_before-requires
put_before-requires c = omega (arith, length_wide c.unsigned_abs.result (omega arith), ap length c.numeral_of-numeral.ensures)
