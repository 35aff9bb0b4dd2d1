-- The mean of the latest prices is a price, or none where there are none.
use Rattle.std.proofs.Common.{w64, SFits, rules}
use Rattle.std.proofs.lemmas.Int.{to_z-of_z}
use Rattle.price_history.specs.Means.{mean_before}
use Rattle.price_history.proofs.Meaning.{mean_none, mean_some}
use Rattle.price_history.proofs.mean.mean_before.Goals as goal

pub returns-in_err-rounded_quotient : goal.returns-in_err-rounded_quotient
unfolding mean_before
returns-in_err-rounded_quotient g c =
    let found = c.gather_before-latest in
    let fits : SFits w64 found.result.total = search rules in
    mean_none _ _ found.result.count found.ensures.total found.ensures.count c.from_residual.result _ c.from_residual.ensures
    (to_z-of_z w64 found.result.total fits) c.in_err-rounded_quotient.ensures

pub returns : goal.returns
unfolding mean_before
returns g c =
    let found = c.gather_before-latest in
    let z = c.in_ok-rounded_quotient.field-0 in
    let fits : SFits w64 found.result.total = search rules in
    let fits-too : SFits w64 z = search rules in
    mean_some _ _ found.result.count found.ensures.total found.ensures.count c.new.result _ z _ found.ensures.limited
    (to_z-of_z w64 z fits-too) c.new.ensures (to_z-of_z w64 found.result.total fits) c.in_ok-rounded_quotient.ensures
