use Rattle.std.proofs.Common.{◌≡◌, [], ◌∷◌, map, sum, arith, rules}
use Rattle.std.proofs.lemmas.Iterator.{YieldsList-from_slice, YieldsList-from_map}
use Rattle.std.proofs.lemmas.Iterator.Consumers.{sum_from_yields_List, fits_from_yields_list}
use Rattle.offers.specs.Volumes.{in_quarter}
use Rattle.offers.proofs.Chains.{in_quarter_le}
use Rattle.offers.proofs.volumes.kwh_of_period.Goals as goal

pub sum-requires-clause-fits : goal.sum-requires-clause-fits
sum-requires-clause-fits c =
    let d = c.args.direction in
    let os = c.args.offers.now in
    fits_from_yields_list c.map.result _
    (YieldsList-from_map _ (λ q. in_quarter q d os) (YieldsList-from_slice (1 ∷ 2 ∷ 3 ∷ 4 ∷ []) cc) c.map.ensures.closure (λ x r q k. search rules))
    (omega (arith, in_quarter_le 1 d os, in_quarter_le 2 d os, in_quarter_le 3 d os, in_quarter_le 4 d os))

pub returns : goal.returns
returns c =
    let d = c.args.direction in
    let os = c.args.offers.now in
    let value : c.sum.result ≡ sum (map (λ q. in_quarter q d os) (1 ∷ 2 ∷ 3 ∷ 4 ∷ [])) =
    sum_from_yields_List c.map.result c.sum.result c.sum.ensures.ran
    (YieldsList-from_map _ (λ q. in_quarter q d os) (YieldsList-from_slice (1 ∷ 2 ∷ 3 ∷ 4 ∷ []) cc) c.map.ensures.closure (λ x r q k. search rules)) in
    record { value = omega (arith, value); bound = omega (arith, value, in_quarter_le 1 d os, in_quarter_le 2 d os, in_quarter_le 3 d os, in_quarter_le 4 d os) }
