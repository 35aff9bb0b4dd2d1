-- A price that is shown stands in its place.
use Rattle.std.proofs.Common.{◌≡◌, Some, None, sym, refl, ap, ◌∙◌, arith}
use Rattle.price_history.proofs.Tallies.{one}
use Rattle.price_keeping.specs.Changes.{strike_of, struck}
use Rattle.price_keeping.specs.Tables.{table_view}
use Rattle.price_keeping.proofs.Cells.{Written, kept_inside, written}
use Rattle.price_keeping.proofs.Changing.{is_struck}
use Rattle.price_keeping.proofs.table_keeping.PriceTablePriceKeeping.strike.Goals as goal
use Rattle.price_keeping.proofs.table_keeping.PriceTablePriceKeeping.strike.Goals.{After-rank-rank}

present : (c : After-rank-rank) → Some c.in_ok-price.price ≡ (table_view c.args.self.now).shown c.rank-rank.result
present c = sym c.in_ok-price.ensures.ok_part ∙ c.price_at.ensures ∙ ap (table_view c.args.self.now).shown (sym c.rank-rank.ensures.value)

write : (c : After-rank-rank) → Written c.args.self.now c.rank-rank.result None
write c =
    let table = c.args.self.now in
    written table c.rank-rank.result c.rank-rank.ensures.below None (kept_inside table.places table.memory.now c.rank-rank.result _ (present c))

pub overflow_sub-self : goal.overflow_sub-self
overflow_sub-self c =
    let then = (goal.at.overflow_sub-self c).After-rank-rank in
    let some : 1 ≡ one ((table_view c.args.self.now).shown c.rank-rank.result) = ap one (present then) in
    omega (arith, some, (write then).counts)

pub invariant_of-self : goal.invariant_of-self
invariant_of-self c =
    let then = (goal.at.invariant_of-self c).After-rank-rank in
    let some : 1 ≡ one ((table_view c.args.self.now).shown c.rank-rank.result) = ap one (present then) in
    record { placed = (write then).placed; counted = omega (arith, some, (write then).counts) }

pub returns-clause-after : goal.returns-clause-after
returns-clause-after c =
    let then = (goal.at.returns-clause-after c).After-rank-rank in
    let view = table_view c.args.self.now in
    let rank = c.rank-rank.result in
    is_struck view rank _ c.in_ok-price.price (ap strike_of (present then)) (write then).shows refl ∙ ap (struck view) c.rank-rank.ensures.value
