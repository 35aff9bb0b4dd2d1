use Rattle.std.proofs.Common.{◌≡◌, ◌∙◌, arith, rules, tests}
use Rattle.std.proofs.lemmas.Iterator.{YieldsList-from_slice, YieldsList-from_map}
use Rattle.std.proofs.lemmas.Iterator.Consumers.{YieldsList-at, YieldsList-from_filter, sum_from_yields_List}
use Rattle.sheet.specs.declared.lines.Offer.{Offer}
use Rattle.offers.specs.declared.span.Span.TheVariants.{Quarter}
use Rattle.offers.specs.Volumes.{picks, in_quarter}
use Rattle.offers.proofs.Chains.{sum_of_picked, in_quarter_le}
use Rattle.offers.proofs.volumes.kwh_of_quarter.Goals as goal

pub returns : goal.returns
returns c =
    let q = c.args.quarter in
    let d = c.args.direction in
    let os = c.args.offers.now in
    let value : c.sum.result ≡ in_quarter q d os =
    sum_from_yields_List c.map.result c.sum.result c.sum.ensures.ran
    (YieldsList-from_map _ (λ (o : Offer). o.volume.kwh)
    (YieldsList-at c.map.ensures.source
    (YieldsList-from_filter _ (picks (Quarter q) d) (YieldsList-from_slice os cc) c.filter.ensures.closure (λ x b q k. search (rules, tests))))
    c.map.ensures.closure (λ x r q k. search rules))
    ∙ sum_of_picked q d os in
    record { value = value; bound = omega (arith, value, in_quarter_le q d os) }
