-- A number has no more digits than there is room for.
use Rattle.std.proofs.Common.{length, ap, arith}
use Rattle.text_buffer.proofs.Spelling.{length_wide}
use Rattle.text_buffer.proofs.numbers.numeral_of.Goals as goal

pub put_digits_before-requires : goal.put_digits_before-requires
put_digits_before-requires c = omega (arith, length_wide c.args.n (omega arith), ap length c.empty-numeral.ensures)
