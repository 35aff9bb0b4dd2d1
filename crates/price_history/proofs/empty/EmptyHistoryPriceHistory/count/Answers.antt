-- No price is shown at any rank.
use Rattle.std.proofs.Common.{sym}
use Rattle.measures.specs.declared.price.Price.{Price}
use Rattle.price_history.specs.Keys.{span}
use Rattle.price_history.specs.Empty.{tallied_none}
use Rattle.price_history.proofs.empty.EmptyHistoryPriceHistory.count.Goals as goal

pub returns : goal.returns
returns c = sym (tallied_none Price span)
