-- What a list of prices shows.
use Rattle.std.specs.Prelude.{◌≤◌}
use Rattle.std.proofs.Common.{arith, length-take}
use Rattle.measures.specs.declared.price.Price.{Price}
use Rattle.ordered_list.specs.Listings.{Listing, listing}
use Rattle.price_history.specs.Keys.{span}
use Rattle.price_history.specs.Views.{View, tallied}
use Rattle.price_keeping.specs.declared.list.PriceList.{PriceList}

abbrev pub view_of : Listing Price → View
view_of l = record { shown = l.shown; limit = l.places }

abbrev pub list_view : PriceList → View
list_view list = view_of (listing list.prices)

pub list_within : (list : PriceList) → tallied (list_view list).shown span ≤ (list_view list).limit
list_within list = omega (arith, list.counted, length-take list.prices.count list.prices.memory.now)
