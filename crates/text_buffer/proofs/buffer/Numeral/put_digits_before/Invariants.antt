-- The digits so far come after those of what is left.
use Rattle.std.proofs.Common.{◌≡◌, ◌++◌, decimal}
use Rattle.text_buffer.specs.Texts.{spelt}
use Rattle.text_buffer.proofs.buffer.Numeral.put_digits_before.Given as goal

abbrev pub invariant-loop-rest : goal.invariant-loop-rest
invariant-loop-rest l = decimal l.rest ++ spelt l.self ≡ decimal l.n ++ spelt l.initial.self

abbrev pub decreases-loop-rest : goal.decreases-loop-rest
decreases-loop-rest l = l.rest
