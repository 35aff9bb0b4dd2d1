use Rattle.measures.proofs.Rounds.{rounding}
use Rattle.measures.proofs.laws.quotients_are_rounded.Goals as goal

pub returns : goal.returns
returns c = rounding
