-- The digits spell the number, and there is room for each.
use Rattle.std.proofs.Common.{decimal, arith, length-append}
use Rattle.text_buffer.specs.Texts.{spelt}
use Rattle.text_buffer.proofs.Spelling.{spelt_room, spelt_more, spelt_all}
use Rattle.text_buffer.proofs.buffer.Numeral.put_digits_before.Goals as goal

pub put_before-requires : goal.put_before-requires
put_before-requires c =
    spelt_room _ _ c.loop-rest.rest (omega arith) c.loop-rest.invariant (omega (arith, c.requires, length-append (decimal c.args.n) (spelt c.args.self.now)))

pub loop-rest-preserved : goal.loop-rest-preserved
loop-rest-preserved c = spelt_more _ _ c.loop-rest.rest (omega arith) c.loop-rest.invariant _ (omega (arith, c.loop-rest-test.true)) c.put_before.ensures

pub put_before-requires-2 : goal.put_before-requires-2
put_before-requires-2 c =
    spelt_room _ _ c.loop-rest.rest (omega arith) c.loop-rest.invariant (omega (arith, c.requires, length-append (decimal c.args.n) (spelt c.args.self.now)))

pub returns : goal.returns
returns c = spelt_all _ _ c.loop-rest.rest (omega arith) c.loop-rest.invariant _ (omega (arith, c.loop-rest-test.false)) c.put_before-2.ensures
