-- Going back day by day gathers the latest prices, and their sum fits.
use Rattle.std.proofs.Common.{ap, ◌∙◌, arith}
use borrow.Author.Differences.{ints}
use Rattle.price_history.proofs.Gathering.{gather_start, gather_some, gather_none}
use Rattle.price_history.proofs.mean.gather_before.Goals as goal

pub loop-day-init : goal.loop-day-init
loop-day-init g c = gather_start _ _ c.args.key.day (omega arith)

pub loop-day-preserved-in-Some : goal.loop-day-preserved-in-Some
loop-day-preserved-in-Some g c =
    gather_some _ _ _ _ _ c.loop-day.count c.in-Some.price _ c.loop-day-test.true
    (c.in-Some.ensures ∙ ap (g.H.PriceHistory.view c.args.history.now).shown c.on_day.ensures)
    (omega (arith, c.if-count-eq-MOST_PRICES.false, c.loop-day.invariant.few)) (let small = c.in-Some.price.limited in omega (arith, ints)) c.loop-day.invariant

pub loop-day-preserved : goal.loop-day-preserved
loop-day-preserved g c =
    gather_none _ _ _ _ _ c.loop-day.count c.loop-day-test.true
    (c.in_default.ensures ∙ ap (g.H.PriceHistory.view c.args.history.now).shown c.on_day.ensures)
    c.loop-day.invariant
