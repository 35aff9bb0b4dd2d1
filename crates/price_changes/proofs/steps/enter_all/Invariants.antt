use Rattle.std.proofs.Common.{◌≡◌, map, drop}
use Rattle.pricing.specs.Changes.{plain}
use Rattle.price_changes.specs.Steps.{enters}
use Rattle.price_changes.proofs.steps.enter_all.Given as goal

abbrev pub invariant-loop-change : goal.invariant-loop-change
invariant-loop-change g l =
    let view = g.K.PriceHistory.view in
    enters (view l.history) (map plain (drop l.change-index l.changes)) ≡ enters (view l.initial.history) (map plain l.changes)
