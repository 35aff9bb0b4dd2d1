-- Before the digits there is room for a sign.
use Rattle.std.proofs.Common.{length, ap, arith}
use Rattle.text_buffer.proofs.Spelling.{length_wide}
use Rattle.text_buffer.proofs.numbers.I128Integer.numeral.Goals as goal

pub put_before-requires : goal.put_before-requires
put_before-requires c = omega (arith, length_wide c.unsigned_abs.result c.unsigned_abs.type_inv, ap length c.wide_numeral_of-numeral.ensures)
