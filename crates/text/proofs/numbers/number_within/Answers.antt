-- A number beyond the most stays so.
use Rattle.std.proofs.Common.{◌+◌, drop, sym, ap, ◌∙◌, arith}
use Rattle.text.specs.Numbers.{within}
use Rattle.text.proofs.Digits.{larger, one_more}
use Rattle.text.proofs.numbers.number_within.Goals as goal

pub returns-then-n-most-clause-value : goal.returns-then-n-most-clause-value
returns-then-n-most-clause-value c =
    let e = one_more c.loop-byte.n c.args.field.now c.loop-byte.byte-index (omega arith) (sym c.if-not-is_ascii_digit.ensures.value) in
    sym (ap (within c.args.least c.args.most) (sym c.loop-byte.invariant.1 ∙ e) ∙ larger c.args.least c.args.most _ (drop (c.loop-byte.byte-index + 1) c.args.field.now) c.if-n-most.true)
