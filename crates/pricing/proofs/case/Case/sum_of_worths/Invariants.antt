use Rattle.std.proofs.Common.{◌≡◌, ◌-◌, ◌*◌, ◌≤◌, nat_abs}
use Rattle.sheet.specs.Listed.{listed}
use Rattle.offers.specs.Volumes.{in_quarter}
use Rattle.pricing.specs.Cases.{case_of}
use Rattle.pricing.specs.Prices.{worth, up_to}
use Rattle.pricing.proofs.Sums.{volumes}
use Rattle.pricing.proofs.case.Case.sum_of_worths.Given as goal

abbrev pub invariant-loop-number : goal.invariant-loop-number
invariant-loop-number g l =
    (l.sum ≡ up_to (l.number - 1) (worth l.direction (case_of g.H.PriceHistory.view l.self)))
    × (nat_abs l.sum ≤ 10000000 * volumes (l.number - 1) (λ q. in_quarter q l.direction (listed l.self.sheet.now.offers)))
    × (nat_abs l.sum ≤ 960000000000000 * l.number)
