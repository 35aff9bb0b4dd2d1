-- A list that is made shows nothing.
use Rattle.std.proofs.Common.{sym, subst}
use Rattle.measures.specs.declared.price.Price.{Price}
use Rattle.price_history.specs.Empty.{tallied_none}
use Rattle.price_history.specs.Keys.{span}
use Rattle.price_keeping.specs.Counts.{Counted}
use Rattle.price_keeping.proofs.list.PriceList.over.Goals as goal

pub invariant_of-result : goal.invariant_of-result
invariant_of-result c = record { counted = subst Counted (sym c.over.ensures) (sym (tallied_none Price span)) }
