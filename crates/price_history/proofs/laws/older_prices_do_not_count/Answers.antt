-- Only near prices count in a mean.
use Rattle.std.proofs.Common.{arith}
use Rattle.price_history.proofs.Older.{same_by_days, same_by_prices}
use Rattle.price_history.proofs.laws.older_prices_do_not_count.Goals as goal

pub returns : goal.returns
returns c = record {
  by_days = λ view other series zone day slot alike. same_by_days view other series zone day slot (λ d from to far. alike d from to (omega arith));
  by_prices = λ view other series zone day slot n few enough. same_by_prices view other series zone day slot n few (omega (arith, enough));
}
