-- The bytes behind a '-' are read as digits.
use Rattle.std.proofs.Common.{arith}
use Rattle.std.proofs.lemmas.Grind.{common_steps}
use Rattle.std.proofs.lemmas.List.{take_rest}
use Rattle.text.proofs.Digits.{minus}
use Rattle.text.proofs.numbers.signed_within.Goals as goal

pub returns-in-45-clause-value : goal.returns-in-45-clause-value
returns-in-45-clause-value c =
    let m = minus c.args.size c.args.field.now (omega arith) in
    rw m (grind (arith, common_steps, take_rest c.args.field.now 1, c.number_within.ensures.value))
