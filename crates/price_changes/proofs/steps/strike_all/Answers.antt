-- Each turn strikes as the history answers.
use Rattle.std.proofs.Common.{◌+◌, List, map, drop, sym, ap, ◌∙◌}
use Rattle.std.proofs.lemmas.List.{at_drop_more}
use Rattle.std.proofs.lemmas.Bool.{cond-true, cond-false}
use Rattle.price_history.specs.Views.{View}
use Rattle.pricing.specs.Changes.{plain}
use Rattle.pricing.specs.declared.change.PriceChange.{PriceChange}
use Rattle.price_changes.specs.Changed.{touched}
use Rattle.price_changes.specs.Steps.{strike_one, strikes}
use Rattle.price_changes.proofs.steps.strike_all.Goals as goal
use Rattle.price_changes.proofs.steps.strike_all.Goals.{then-touches, else-touches}

abbrev from : View → List PriceChange → View
from v cs = strikes v (map plain cs)

pub loop-change-preserved : goal.loop-change-preserved
loop-change-preserved g c =
    let view = g.K.PriceHistory.view in
    let v = view c.loop-change.history in
    let item = c.change-item.result in
    let rest = map plain (drop (c.loop-change.change-index + 1) c.args.changes.now) in
    let more = at_drop_more (from v) c.args.changes.now c.loop-change.change-index item c.loop-change-test.true in
    let same = ap (λ (x : PriceChange). strikes (strike_one v (plain x)) rest) c.change-item.is in
    elim c.if-touches.branch [
      | then-touches w ↦
          ap (λ h. strikes (view h) rest) w.history-is
          ∙ ap (λ u. strikes u rest) (w.strike.ensures.after ∙ sym (cond-true (touched (plain item)) _ v (sym c.touches.ensures ∙ w.if-touches.true)))
          ∙ same ∙ sym more ∙ c.loop-change.invariant
      | else-touches w ↦
          ap (λ h. strikes (view h) rest) w.history-is
          ∙ ap (λ u. strikes u rest) (sym (cond-false (touched (plain item)) _ v (sym c.touches.ensures ∙ w.if-touches.false)))
          ∙ same ∙ sym more ∙ c.loop-change.invariant
    ]
