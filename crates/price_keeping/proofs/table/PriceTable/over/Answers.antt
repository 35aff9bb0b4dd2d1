-- The places are emptied, and the rest of the memory is left.
use Rattle.std.proofs.Common.{sym, ap, ◌∙◌}
use Rattle.measures.specs.declared.price.Price.{Price}
use Rattle.price_history.specs.Empty.{tallied_none}
use Rattle.price_history.specs.Keys.{span}
use Rattle.price_history.proofs.Tallies.{tallied_same}
use Rattle.price_keeping.specs.Places.{places_over}
use Rattle.price_keeping.proofs.table.PriceTable.over.Goals as goal

pub invariant_of-result : goal.invariant_of-result
invariant_of-result c = record {
  placed = c.places_over-places.ensures ∙ ap places_over (sym c.clear.auto.memory);
  counted = sym (tallied_same _ _ span (λ q lt. c.clear.ensures.emptied q) ∙ tallied_none Price span);
}
