use Rattle.std.proofs.Common.{◌≡◌, ℤ, pos, nat_abs, ap, ◌∙◌, arith, w64, SFits, to_z, of_z, rules}
use Rattle.std.proofs.lemmas.Int.{ints, to_z-of_z}
use Rattle.std.specs.Option.{option_map}
use Rattle.measures.specs.declared.price.Price.{Price}
use Rattle.measures.specs.Limits.{price_of}
use Rattle.measures.specs.Rounding.{quotient}
use Rattle.measures.proofs.Quotients.{quotient_is_price}
use Rattle.pricing.proofs.means.mean_size.Goals as goal

pub returns : goal.returns
returns c =
    let z = c.in_ok-rounded_quotient.field-0 in
    let n = c.args.volume.kwh in
    let fits : SFits w64 z = search rules in
    let given : SFits w64 c.args.worth = c.ranges.worth in
    let size = c.abs.ensures.value ∙ ap (λ (w : ℤ). pos (nat_abs w)) (to_z-of_z w64 c.args.worth given) in
    let small = c.abs.ensures.upper_bound in
    let taken : to_z w64 (of_z w64 c.abs.result) ≡ pos (nat_abs c.args.worth) = omega (arith, ints, size) in
    let found = c.in_ok-rounded_quotient.ensures ∙ ap (λ (w : ℤ). quotient w n) taken in
    ap (option_map (λ (price : Price). price.kop)) (c.new.ensures ∙ ap price_of (to_z-of_z w64 z fits))
    ∙ quotient_is_price (pos (nat_abs c.args.worth)) n z c.requires found
