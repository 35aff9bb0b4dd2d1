use Rattle.std.proofs.Common.{◌≤◌, nat_abs, arith, rules}
use Rattle.std.proofs.lemmas.Int.{ints}
use Rattle.measures.proofs.Kept.{price_is}
use Rattle.measures.proofs.price.Price.new.Goals as goal

pub returns-then-contains : goal.returns-then-contains
returns-then-contains c =
    let within : nat_abs c.args.kop ≤ 10000000 = search rules in
    price_is _ c.args.kop (omega (arith, ints))
