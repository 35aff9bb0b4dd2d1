-- The digits past 64 bits come after those of what is left.
use Rattle.std.proofs.Common.{arith}
use Rattle.text_buffer.proofs.Spelling.{length_wide, spelt_room, spelt_more, spelt_size}
use Rattle.text_buffer.proofs.numbers.wide_numeral_of.Goals as goal

pub put_before-requires : goal.put_before-requires
put_before-requires c = spelt_room _ _ c.loop-rest.rest (omega arith) c.loop-rest.invariant (omega (arith, length_wide c.args.n (omega arith)))

pub loop-rest-preserved : goal.loop-rest-preserved
loop-rest-preserved c = spelt_more _ _ c.loop-rest.rest (omega arith) c.loop-rest.invariant _ (omega (arith, c.loop-rest-test.true)) c.put_before.ensures

pub put_digits_before-requires : goal.put_digits_before-requires
put_digits_before-requires c = omega (arith, length_wide c.args.n (omega arith), spelt_size _ _ c.loop-rest.rest (omega arith) c.loop-rest.invariant)
