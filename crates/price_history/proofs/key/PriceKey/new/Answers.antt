-- Parts within their limits are those of a key.
use Rattle.std.proofs.Common.{arith}
use Rattle.std.proofs.lemmas.Bool.Decides.{nat_tests}
use Rattle.price_history.proofs.Keyed.{key_is, key_none}
use Rattle.price_history.proofs.key.PriceKey.new.Goals as goal

pub returns : goal.returns
returns c = key_is _

pub returns-then-not-contains-3 : goal.returns-then-not-contains-3
returns-then-not-contains-3 c = key_none c.args.series c.args.zone c.args.day c.args.slot (λ zone_from zone_to day_from day_to slot_from slot_to. grind (arith, nat_tests))
