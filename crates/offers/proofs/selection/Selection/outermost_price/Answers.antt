use Rattle.std.proofs.Common.{◌∙◌, rules, tests}
use Rattle.std.proofs.lemmas.Iterator.{YieldsList-from_slice, YieldsList-from_map}
use Rattle.std.proofs.lemmas.Iterator.Consumers.{YieldsList-at, YieldsList-from_filter}
use Rattle.sheet.specs.declared.lines.Offer.{Offer}
use Rattle.offers.specs.Volumes.{picks}
use Rattle.offers.specs.Forming.{outer}
use Rattle.offers.proofs.Chains.{reduced, outermost_of_picked}
use Rattle.offers.proofs.selection.Selection.outermost_price.Goals as goal

pub returns : goal.returns
returns c =
    let d = c.args.self.direction in
    let pick = picks c.args.self.span d in
    let os = c.args.offers.now in
    reduced _ (outer d) (λ a x b q k. search rules) c.reduce.result c.reduce.ensures.ran
    (YieldsList-from_map _ (λ (o : Offer). o.price)
    (YieldsList-at c.map.ensures.source
    (YieldsList-from_filter _ pick (YieldsList-from_slice os cc) c.filter.ensures.closure (λ x b q k. search (rules, tests))))
    c.map.ensures.closure (λ x r q k. search rules))
    ∙ outermost_of_picked d pick os
