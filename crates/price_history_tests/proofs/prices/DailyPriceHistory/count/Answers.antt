-- The count is that of the ranks that show a price.
use Rattle.std.proofs.Common.{is_some, refl, ◌∙◌, rules, tests}
use Rattle.std.proofs.lemmas.Iterator.{YieldsList-from_range}
use Rattle.std.proofs.lemmas.Iterator.Consumers.{YieldsList-from_filter, count_from_yields_List}
use Rattle.price_history.specs.Keys.{span}
use Rattle.price_history_tests.specs.Shown.{shown_at}
use Rattle.price_history_tests.proofs.Counted.{counted}
use Rattle.price_history_tests.proofs.prices.DailyPriceHistory.count.Goals as goal

pub returns : goal.returns
returns c =
    let f = shown_at c.args.self.now in
    count_from_yields_List c.filter.result _ c.count.ensures.ran
    (YieldsList-from_filter _ (λ k. is_some (f k)) (YieldsList-from_range 0 span span c.filter.ensures.source refl) c.filter.ensures.closure (λ x b q k. search (rules, tests)))
    ∙ counted f span
