-- The changes stand in the order of their ranks.
use Rattle.std.proofs.Common.{None, Option, refl, sym, subst, rules}
use Rattle.std.specs.Option.{option_map}
use Rattle.std.specs.List.Sorted.{IsStrictlyIncreasing}
use Rattle.price_history.specs.Keys.{rank_of}
use Rattle.sheet.specs.Figures.{Figures, figures_of}
use Rattle.pricing.specs.Changes.{plain, rank_at, change_at}
use Rattle.pricing.specs.Kinds.{span_of, direction_of}
use Rattle.pricing.specs.declared.change.PriceChange.{PriceChange}
use Rattle.pricing.specs.declared.kind.PriceKind.{PriceKind}
use Rattle.pricing.proofs.Mapped.{mapped}
use Rattle.pricing.proofs.Ordered.{ranks_climb}
use Rattle.pricing.proofs.changing.price_changes.Goals as goal

pub invariant_of-result : goal.invariant_of-result
invariant_of-result c =
    let place = c.args.place in
    let ranks = mapped _ (λ (x : PriceChange). rank_of x.key) (λ (k : PriceKind). rank_at place.zone place.day place.period (span_of k) (direction_of k)) (λ x y q k. search rules) _ c.map.result 10 refl c.map.ensures.items in
    record { ordered = subst IsStrictlyIncreasing (sym ranks) (ranks_climb place None None) }

pub returns : goal.returns
returns c =
    let place = c.args.place in
    let old : Option Figures = option_map (λ s. figures_of s.now) c.args.old in
    let new : Option Figures = option_map (λ s. figures_of s.now) c.args.new in
    mapped _ plain (λ (k : PriceKind). change_at place.zone place.day place.period old new (span_of k) (direction_of k)) (λ x y q k. search rules) _ c.map.result 10 refl c.map.ensures.items
