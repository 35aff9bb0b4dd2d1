use Rattle.offers.proofs.Outermost.{outermost_is}
use Rattle.offers.proofs.laws.outermost_prices_are_offered.Goals as goal

pub returns : goal.returns
returns c = outermost_is
