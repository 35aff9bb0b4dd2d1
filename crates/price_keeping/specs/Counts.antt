-- The count of a list of prices.
use Rattle.std.specs.Prelude.{◌≡◌}
use Rattle.measures.specs.declared.price.Price.{Price}
use Rattle.ordered_list.specs.Listings.{Listing}
use Rattle.price_history.specs.Keys.{span}
use Rattle.price_history.specs.Views.{tallied}

-- it is that of the ranks that show a price
abbrev pub Counted : Listing Price → Type 0
Counted l = l.count ≡ tallied l.shown span
