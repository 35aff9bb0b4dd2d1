-- A table that is not full has a free place for a key without a price.
use Rattle.std.proofs.Common.{◌≡◌, Some, None, sym, refl, ap, ◌∙◌, arith}
use Rattle.price_history.proofs.Tallies.{one, tallied_le}
use Rattle.price_keeping.specs.Changes.{entered}
use Rattle.price_history.specs.Keys.{span}
use Rattle.price_keeping.specs.Tables.{table_view}
use Rattle.price_keeping.proofs.Cells.{Written, roomy, written, none_from}
use Rattle.price_keeping.proofs.Changing.{entry_granted, is_entered}
use Rattle.price_keeping.proofs.table_keeping.PriceTablePriceKeeping.enter.Goals as goal
use Rattle.price_keeping.proofs.table_keeping.PriceTablePriceKeeping.enter.Goals.{After-rank-rank}

write : (c : After-rank-rank) → Written c.args.self.now c.rank-rank.result (Some c.args.price)
write c =
    let below = c.rank-rank.ensures.below in
    written c.args.self.now c.rank-rank.result below (Some c.args.price) (roomy c.args.self.now c.rank-rank.result below c.if-self.false)

absent : (c : After-rank-rank) → (table_view c.args.self.now).shown c.rank-rank.result ≡ None
absent c = ap (table_view c.args.self.now).shown c.rank-rank.ensures.value ∙ sym c.price_at.ensures ∙ none_from _ (sym c.if-is_some.ensures)

pub bounds-self-rank : goal.bounds-self-rank
bounds-self-rank c = (write c).index

pub overflow_add-self : goal.overflow_add-self
overflow_add-self c = omega (arith, c.args.self.now.counted, tallied_le (table_view c.args.self.now).shown span)

pub invariant_of-self : goal.invariant_of-self
invariant_of-self c =
    let then = (goal.at.invariant_of-self c).After-rank-rank in
    let none : one ((table_view c.args.self.now).shown c.rank-rank.result) ≡ 0 = ap one (absent then) in
    record { placed = (write then).placed; counted = omega (arith, none, (write then).counts) }

pub returns-clause-after : goal.returns-clause-after
returns-clause-after c =
    let then = (goal.at.returns-clause-after c).After-rank-rank in
    let view = table_view c.args.self.now in
    let rank = c.rank-rank.result in
    let granted = entry_granted view rank (absent then) (λ e. c.if-self.false (c.args.self.now.counted ∙ e)) in
    is_entered view rank _ c.args.price granted (write then).shows refl ∙ ap (λ r. entered view r c.args.price) c.rank-rank.ensures.value

pub returns-clause-beyond : goal.returns-clause-beyond
returns-clause-beyond c = (write (goal.at.returns-clause-beyond c).After-rank-rank).kept
