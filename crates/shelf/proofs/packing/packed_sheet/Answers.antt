-- Each list is packed with the default of its entries.
use Rattle.shelf.proofs.Defaults.{offer_is, unit_is, group_is}
use Rattle.shelf.proofs.packing.packed_sheet.Goals as goal

pub returns : goal.returns
returns c =
    let offers = offer_is c.default.result c.default.ensures in
    let units = unit_is c.default-2.result c.default-2.ensures in
    let groups = group_is c.default-3.result c.default-3.ensures in
    rw (c.pack.ensures, c.pack-2.ensures, c.pack-3.ensures, offers, units, groups)
