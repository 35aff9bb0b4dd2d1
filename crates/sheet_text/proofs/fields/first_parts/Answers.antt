-- Each call of the closure takes one part.
use Rattle.std.proofs.Common.{refl, rules}
use Rattle.sheet_text.proofs.Parting.{parts_taken, split_yields}
use Rattle.sheet_text.proofs.fields.first_parts.Goals as goal

pub returns : goal.returns
returns c =
    let made = c.split-parts.ensures in
    let runs = split_yields made.runs made.rest made.done made.closure (λ x b q k. search rules) in
    parts_taken _ c.from_fn.result runs c.from_fn.ensures.items.each (λ f. f.0.now) refl (λ f q i y k. search rules)
