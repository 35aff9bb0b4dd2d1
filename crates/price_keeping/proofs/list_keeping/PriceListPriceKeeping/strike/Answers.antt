-- A price is struck from the ordered list.
use Rattle.std.proofs.Common.{sym, subst}
use Rattle.ordered_list.specs.Listings.{listing}
use Rattle.price_history.specs.Keys.{rank_of}
use Rattle.price_history.proofs.Apart.{rank_below}
use Rattle.price_keeping.specs.Counts.{Counted}
use Rattle.price_keeping.proofs.Listed.{struck_counted}
use Rattle.price_keeping.proofs.list_keeping.PriceListPriceKeeping.strike.Goals as goal

pub invariant_of-self : goal.invariant_of-self
invariant_of-self c =
    let list = c.args.self.now in
    record { counted = subst Counted (sym c.strike.ensures.after) (struck_counted (listing list.prices) list.counted (rank_of c.args.key) (rank_below c.args.key)) }
