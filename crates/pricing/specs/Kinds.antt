-- Which offers a price of a period is formed by.
use Rattle.sheet.specs.declared.lines.Direction.{Direction}
use Rattle.offers.specs.declared.span.Span.{Span}
use Rattle.offers.specs.declared.span.Span.TheVariants.{Quarter, Period}
use Rattle.pricing.specs.declared.kind.PriceKind.{PriceKind}
use Rattle.pricing.specs.declared.kind.PriceKind.TheVariants.{Marginal, Limit}

abbrev pub span_of : PriceKind → Span
span_of (Marginal q d) = Quarter q.number
span_of (Limit d) = Period

abbrev pub direction_of : PriceKind → Direction
direction_of (Marginal q d) = d
direction_of (Limit d) = d
