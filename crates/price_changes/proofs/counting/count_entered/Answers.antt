use Rattle.std.proofs.Common.{is_some, ◌∙◌, rules, tests}
use Rattle.std.proofs.lemmas.Iterator.{YieldsList-from_slice}
use Rattle.std.proofs.lemmas.Iterator.Consumers.{YieldsList-from_filter, count_from_yields_List}
use Rattle.pricing.specs.declared.change.PriceChange.{PriceChange}
use Rattle.price_changes.proofs.Picked.{length_of_picked}
use Rattle.price_changes.proofs.counting.count_entered.Goals as goal

pub returns : goal.returns
returns c =
    let cs = c.args.changes.now in
    count_from_yields_List c.filter.result c.count.result c.count.ensures.ran
    (YieldsList-from_filter _ (λ (x : PriceChange). is_some x.new) (YieldsList-from_slice cs cc) c.filter.ensures.closure (λ x b q k. search (rules, tests)))
    ∙ length_of_picked (λ c. is_some c.new) cs
