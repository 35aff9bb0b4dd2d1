-- Each key has a rank of its own.
use Rattle.std.proofs.Common.{arith}
use Rattle.price_history.proofs.Apart.{rank_below, rank_apart}
use Rattle.price_history.proofs.laws.ranks_are_apart.Goals as goal

pub returns : goal.returns
returns c = record { below = λ key. omega (arith, rank_below key); apart = rank_apart }
