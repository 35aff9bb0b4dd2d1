-- What was gathered makes up the latest prices with what is still to be gathered.
use Rattle.price_history.specs.Means.{shown_daily, latest_before}
use Rattle.price_history.proofs.Gathering.{Gathers}
use Rattle.price_history.proofs.mean.gather_before.Given as goal

abbrev pub invariant-loop-day : goal.invariant-loop-day
invariant-loop-day g l =
    let view = g.H.PriceHistory.view l.history in
    Gathers (shown_daily view l.key.series l.key.zone l.key.slot) l.first l.day (latest_before view l.key.series l.key.zone l.key.day l.key.slot) l.total l.count
